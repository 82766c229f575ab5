use Rattle.std.proofs.Common.{◌∙◌, List, ℕ, ap}
use Rattle.td_lines.specs.Said.{option_value}
use Rattle.td_lines.specs.Values.{items_by}
use Rattle.td_cli.proofs.Asking.{items_of_map}
use Rattle.td_cli.proofs.asked.say_named.Goals as goal

pub returns : goal.returns
returns c =
    rw (items_of_map option_value (λ named. (named.option, named.word)) c.in_ok-options.options.items ∙ ap (λ rows. items_by option_value rows) c.in_ok-options.ensures)
    at c.add.ensures
