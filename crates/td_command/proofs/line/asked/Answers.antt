use Rattle.std.proofs.Common.{◌≡◌, ◌∙◌, Bool, false, true, inl, inr, map, subst, sym, ap, List, ℕ, Option, Some, None, IfNone}
use Rattle.std.proofs.lemmas.Result.{IfErr-weaker, IfOk-weaker}
use Rattle.std.specs.Borrow.{Bor}
use Rattle.clap.specs.Words.{App, HasKind, Row, Text, is_simple, subcommand_of, subcommand_rows_of}
use Rattle.td_inputs.specs.Scans.{taken_in}
use Rattle.td_inputs.specs.declared.scanning.Taken.{Taken}
use Rattle.td_request.specs.declared.request.Request.{Request}
use Rattle.td_command.specs.CommandLine.{IsAnswered, IsOfStrategies, kinds_of, program, program_of}
use Rattle.td_command.specs.Saying.{EntersRequest, plain_of, take_names, takes_entered}
use Rattle.td_command.specs.declared.words.Words.{Words}
use Rattle.td_command.proofs.Parsed.{are_taken, has_kind, is_entered}
use Rattle.td_command.proofs.Taken.{words_that_are_taken_ask}
use Rattle.td_command.proofs.line.asked.Goals as goal

where_none : {T X : Type 0} (asked : Option T) → X → IfNone asked X
where_none None x = x
where_none (Some asked) x = tt

abbrev texts : List (Bor (List ℕ)) → List Text
texts words = map (λ word. word.now) words

-- whether the command takes what is said by name, as it was found
are_names_taken : (app : App) → IsOfStrategies program_of app → (words : Words) (plain : List (Bor (List ℕ))) (entered : Option (Text × List Row)) (named : List Taken) (are : Bool)
    → plain ≡ words.plain.items → named ≡ words.named.items → (is_simple app ≡ true → entered ≡ subcommand_of app (texts plain))
    → are ≡ takes_entered entered (map taken_in named) → take_names words ≡ are
are_names_taken app is words plain entered named are same given found taken =
    let entered_is : entered ≡ subcommand_of program (plain_of words) =
    is_entered app is (texts plain) entered found
    ∙ ap (λ (words : List (Bor (List ℕ))). subcommand_of program (texts words)) same in
    ap (λ (entered : Option (Text × List Row)). takes_entered entered (map taken_in words.named.items)) (sym entered_is)
    ∙ (ap (λ (named : List Taken). takes_entered entered (map taken_in named)) (sym given) ∙ sym taken)

pub returns-then-not-takes_entered-clause-none : goal.returns-then-not-takes_entered-clause-none
returns-then-not-takes_entered-clause-none c =
    let not_taken : take_names c.args.words.now ≡ false =
    are_names_taken _ c.in_ok-command.ensures c.args.words.now c.as_slice.result.now (subcommand_rows_of c.in-Ok.matches) c.deref.result.now false
    c.as_slice.ensures.value c.deref.ensures.value (λ simple. (c.in-Ok.ensures.matches simple).1) c.if-not-takes_entered.ensures in
    IfOk-weaker c.untaken.result _ _ (λ asked is. where_none asked not_taken) c.untaken.ensures.asked

pub returns-then-not-takes_entered-clause-fault : goal.returns-then-not-takes_entered-clause-fault
returns-then-not-takes_entered-clause-fault c =
    let not_taken : take_names c.args.words.now ≡ false =
    are_names_taken _ c.in_ok-command.ensures c.args.words.now c.as_slice.result.now (subcommand_rows_of c.in-Ok.matches) c.deref.result.now false
    c.as_slice.ensures.value c.deref.ensures.value (λ simple. (c.in-Ok.ensures.matches simple).1) c.if-not-takes_entered.ensures in
    IfErr-weaker c.untaken.result _ _ (λ error is. inr (not_taken, is)) c.untaken.ensures.fault

pub returns-in-Ok-Some-clause-asked : goal.returns-in-Ok-Some-clause-asked
returns-in-Ok-Some-clause-asked c =
    let same = c.as_slice.ensures.value in
    let entered : subcommand_rows_of c.in-Ok.matches ≡ subcommand_of program (plain_of c.args.words.now) =
    is_entered _ c.in_ok-command.ensures (texts c.as_slice.result.now) _ (λ simple. (c.in-Ok.ensures.matches simple).1)
    ∙ ap (λ (words : List (Bor (List ℕ))). subcommand_of program (texts words)) same in
    let some : EntersRequest (subcommand_rows_of c.in-Ok.matches) c.deref-in-Ok.result.now c.in-Ok-Some.request =
    subst (λ (answer : Option Request). IsAnswered (EntersRequest (subcommand_rows_of c.in-Ok.matches) c.deref-in-Ok.result.now) answer) c.in-Ok-Some.field-0-is c.in-Ok-Some.ensures in
    let named = subst (λ (named : List Taken). EntersRequest (subcommand_rows_of c.in-Ok.matches) named c.in-Ok-Some.request) c.deref-in-Ok.ensures.value some in
    record {
      taken = ap (λ (words : List (Bor (List ℕ))). kinds_of (texts words)) (sym same)
          ∙ are_taken _ c.in_ok-command.ensures (texts c.as_slice.result.now) c.in-Ok.ensures.kinds;
      names = are_names_taken _ c.in_ok-command.ensures c.args.words.now c.as_slice.result.now (subcommand_rows_of c.in-Ok.matches) c.deref.result.now true
          same c.deref.ensures.value (λ simple. (c.in-Ok.ensures.matches simple).1) c.if-not-takes_entered.ensures;
      asks = subst (λ rows. EntersRequest rows c.args.words.now.named.items c.in-Ok-Some.request) entered named;
    }

pub unreachable-requires : goal.unreachable-requires
unreachable-requires c =
    let words = texts c.as_slice.result.now in
    let entered : subcommand_rows_of c.in-Ok.matches ≡ subcommand_of program words =
    is_entered _ c.in_ok-command.ensures words _ (λ simple. (c.in-Ok.ensures.matches simple).1) in
    let asked = words_that_are_taken_ask words c.deref-in-Ok.result.now (are_taken _ c.in_ok-command.ensures words c.in-Ok.ensures.kinds) in
    let none : IsAnswered (EntersRequest (subcommand_rows_of c.in-Ok.matches) c.deref-in-Ok.result.now) None =
    subst (λ (answer : Option Request). IsAnswered (EntersRequest (subcommand_rows_of c.in-Ok.matches) c.deref-in-Ok.result.now) answer) c.in-Ok-None.field-0-is c.in-Ok-None.ensures in
    none asked.0 (subst (λ rows. EntersRequest rows c.deref-in-Ok.result.now asked.0) (sym entered) asked.1)

pub returns-clause-fault : goal.returns-clause-fault
returns-clause-fault c =
    inl (subst (λ (words : List (Bor (List ℕ))). HasKind (kinds_of (texts words)) c.in-Err.error) c.as_slice.ensures.value
    (has_kind _ c.in_ok-command.ensures (texts c.as_slice.result.now) c.in-Err.error c.in-Err.ensures.kinds))
