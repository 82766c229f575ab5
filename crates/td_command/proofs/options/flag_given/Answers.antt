use Rattle.std.proofs.Common.{◌∙◌}
use Rattle.clap.specs.Words.{found_of, rows_of}
use Rattle.clap.proofs.WalkLemmas.{one_text-rows}
use Rattle.td_command.proofs.Choices.{flag_answered}
use Rattle.td_command.proofs.options.flag_given.Goals as goal

pub returns : goal.returns
returns c = flag_answered _ c.args.id.now (rows_of (found_of c.args.matches.now)) c.get_one.result
    (λ e. c.get_one.ensures.none (one_text-rows (found_of c.args.matches.now) c.args.id.now ∙ e))
    (λ text e. c.get_one.ensures.value text (one_text-rows (found_of c.args.matches.now) c.args.id.now ∙ e))
