use Rattle.std.proofs.Common.{◌∙◌, sym, ap}
use Rattle.std.specs.Prelude.{option_map}
use Rattle.std.specs.Borrow.{Bor}
use Rattle.clap.specs.Words.{Text, found_of, rows_of}
use Rattle.clap.proofs.WalkLemmas.{first_value-rows}
use Rattle.td_command.proofs.CommandLines.{no_count}
use Rattle.td_command.proofs.options.count.Goals as goal

pub returns-in-None : goal.returns-in-None
returns-in-None c =
    sym (first_value-rows (found_of c.args.matches.now) c.args.id.now) ∙ (sym c.get_str.ensures ∙ ap (option_map (λ (word : Bor Text). word.now)) c.in-None.is)

pub returns-in_err-number-in-Some : goal.returns-in_err-number-in-Some
returns-in_err-number-in-Some c =
    let given = sym (first_value-rows (found_of c.args.matches.now) c.args.id.now)
    ∙ (sym c.get_str.ensures ∙ ap (option_map (λ (word : Bor Text). word.now)) c.in-Some.is) in
    rw c.from_residual.ensures (no_count c.args.id.now (rows_of (found_of c.args.matches.now)) _ given c.in_err-number-in-Some.ensures.none)
