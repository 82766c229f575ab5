use Rattle.std.proofs.Common.{◌∙◌}
use Rattle.clap.specs.Words.{found_of, rows_of}
use Rattle.clap.proofs.WalkLemmas.{raw_values-rows}
use Rattle.td_command.proofs.Sources.{words_are, no_words_are}
use Rattle.td_command.proofs.options.outputs.Goals as goal

pub returns-in_ok-extend_from_slice-in-Some : goal.returns-in_ok-extend_from_slice-in-Some
returns-in_ok-extend_from_slice-in-Some c =
    c.new.ensures
    ∙ words_are c.args.id.now (rows_of (found_of c.args.matches.now)) c.in-Some.given.now c.new-names.result.items c.extend_from_slice.new.self.items
    (c.in-Some.ensures ∙ raw_values-rows (found_of c.args.matches.now) c.args.id.now) c.in_ok-extend_from_slice-in-Some.ensures.items c.new-names.ensures.items

pub returns-in-None : goal.returns-in-None
returns-in-None c =
    c.new-in-None.ensures
    ∙ no_words_are c.args.id.now (rows_of (found_of c.args.matches.now)) c.new-names.result.items
    (c.in-None.ensures ∙ raw_values-rows (found_of c.args.matches.now) c.args.id.now) c.new-names.ensures.items
