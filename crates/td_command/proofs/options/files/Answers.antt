use Rattle.std.proofs.Common.{◌≡◌, ◌∙◌, List, Some, None, subst, sym}
use Rattle.clap.specs.Words.{Text, found_of, rows_of}
use Rattle.clap.proofs.WalkLemmas.{raw_values-rows}
use Rattle.td_command.specs.CommandLine.{HasWords}
use Rattle.td_command.proofs.CommandLines.{has_words, no_words}
use Rattle.td_command.proofs.options.files.Goals as goal

pub returns-in_default : goal.returns-in_default
returns-in_default c = λ asked has.
    let no : None ≡ Some asked = c.in_default.ensures ∙ raw_values-rows (found_of c.args.matches.now) c.args.id.now ∙ has.0 in cc

pub returns-then-is_empty : goal.returns-then-is_empty
returns-then-is_empty c = no_words c.args.id.now (rows_of (found_of c.args.matches.now)) c.in-Some.given.now
    (c.in-Some.ensures ∙ raw_values-rows (found_of c.args.matches.now) c.args.id.now) c.if-is_empty.ensures

pub returns : goal.returns
returns c =
    let rows = rows_of (found_of c.args.matches.now) in
    let has = has_words c.args.id.now rows c.in-Some.given.now c.new-names.result.items c.extend_from_slice.new.self.items
    (c.in-Some.ensures ∙ raw_values-rows (found_of c.args.matches.now) c.args.id.now) c.if-is_empty.ensures c.in_ok-extend_from_slice.ensures.items
    c.new-names.ensures.items in
    subst (λ (names : List Text). HasWords c.args.id.now rows names) (sym c.new.ensures) has
