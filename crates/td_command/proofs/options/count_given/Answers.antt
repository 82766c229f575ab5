use Rattle.std.proofs.Common.{◌∙◌}
use Rattle.std.specs.Str.Parse.{ExplainsUnsignedError, HasUnsignedDigitsIfOk}
use Rattle.clap.specs.Words.{found_of, rows_of}
use Rattle.clap.proofs.WalkLemmas.{one_text-rows}
use Rattle.td_command.proofs.CommandLines.{number_some, number_none}
use Rattle.td_command.proofs.options.count_given.Goals as goal

pub returns-clause-some : goal.returns-clause-some
returns-clause-some c = number_some 64 (ExplainsUnsignedError 10) HasUnsignedDigitsIfOk c.args.id.now (rows_of (found_of c.args.matches.now)) c.get_one.result
    (λ e. c.get_one.ensures.none (one_text-rows (found_of c.args.matches.now) c.args.id.now ∙ e))
    (λ text e. c.get_one.ensures.value text (one_text-rows (found_of c.args.matches.now) c.args.id.now ∙ e))

pub returns-clause-none : goal.returns-clause-none
returns-clause-none c = number_none 64 (ExplainsUnsignedError 10) HasUnsignedDigitsIfOk c.args.id.now (rows_of (found_of c.args.matches.now)) c.get_one.result
    (λ text e. c.get_one.ensures.value text (one_text-rows (found_of c.args.matches.now) c.args.id.now ∙ e))
