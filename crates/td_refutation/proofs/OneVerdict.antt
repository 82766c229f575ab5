-- OneVerdict: the lines of a leaf are good, or not, whatever the numbers of the nets.
use Rattle.std.proofs.Common.{◌≡◌, ℕ, zero, suc, ◌*◌, ◌<◌, Bool, true, false, List, [], ◌∷◌, ◌++◌, length, map, take, Option, Some, None, inl, inr, refl, ap, sym, ◌∙◌, subst, arith}
use Rattle.std.specs.Prelude.{◌==◌, nat_lt, nat_le, ◌&&◌, slice_get, option_map, if◌then◌else◌}
use Rattle.std.specs.List.{list_all}
use Rattle.std.proofs.lemmas.Bool.{cases_lt}
use Rattle.std.proofs.lemmas.List.{length-map}
use Rattle.std.proofs.lemmas.List.Concat.{flat_map-cons}
use Rattle.td_gates.proofs.Places.{some-same, slice_get-some, slice_get-map_some}
use Rattle.td_nets.specs.Netlist.{Net, Named, Netlist}
use Rattle.td_circuit.specs.Settings.{Setting}
use Rattle.td_circuit.specs.Numbering.{NumberedGate, Numbered, nets, AreNumbersOf, IsNumbering}
use Rattle.td_domain.specs.declared.cubes.Trit.{Trit}
use Rattle.td_domain.specs.Admits.{Admitted}
use Rattle.td_propagation.specs.declared.literal.Literal.{Literal}
use Rattle.td_spans.specs.declared.condition.Form.{Form}
use Rattle.td_spans.specs.declared.condition.Condition.{Condition}
use Rattle.td_spans.specs.declared.reason.Reason.{Reason}
use Rattle.td_spans.specs.declared.reason.Reason.TheVariants as reason
use Rattle.td_spans.specs.declared.times.Times.{Times}
use Rattle.td_spans.specs.declared.variable.Variable.{Variable}
use Rattle.td_spans.specs.declared.variable.Variable.TheVariants as variable
use Rattle.td_spans.specs.Conditions.{Asked}
use Rattle.td_spans.specs.Endings.{ends_empty}
use Rattle.td_spans.specs.Hints.{shown_at}
use Rattle.td_spans.specs.Lookups.{net_named, driver}
use Rattle.td_spans.specs.Lowering.{lower, again, latest_of}
use Rattle.td_spans.specs.Named.{settled_of, IsBy}
use Rattle.td_spans.specs.Pairs.{is_pairs_clause}
use Rattle.td_spans.specs.Signals.{first_times}
use Rattle.td_spans.specs.Times.{is_by}
use Rattle.td_refutation.specs.declared.flaw.Flaw.{Flaw}
use Rattle.td_refutation.specs.declared.kind.StepKind.{StepKind}
use Rattle.td_refutation.specs.declared.kind.StepKind.TheVariants as kind
use Rattle.td_refutation.specs.Doing.{State, first_state, IsGood, after, flaw_of, AreGood, state_to}
use Rattle.td_refutation.specs.Lines.{Step, Deed, NoDeed, Having, Naming, Showing, Lowering, Retaking, literal_at, of_net, of_span, span_variable, flips_variable, variable_at, is_literal, naming, having, showing, lowering_at, retaking_at, shown_by_numbers, deed_of}
use Rattle.td_refutation.specs.declared.conditions.NamedCondition.{NamedCondition}
use Rattle.td_refutation.specs.Asking.{Asking, condition_on, condition_in, conditions_in, asked_in}
use Rattle.td_refutation.specs.Whole.{IsOfSetting, AreAllGood, last_state, latest_after, IsFirstBad}
use Rattle.td_refutation.specs.Emptied.{EmptiedHasOneVerdict}
use Rattle.td_refutation.specs.Numberings.{IsSameQuestion, IsSameState, OneVerdict, LeafHasOneVerdict}
use Rattle.td_refutation.proofs.Asking.{comes_from, net_is_at}
use Rattle.td_refutation.proofs.States.{state_with}
use Rattle.td_refutation.proofs.Renaming.{renamed_variable, renamed_gate, renamed_condition, renamed_asked, AreRenamed, IsRenaming}
use Rattle.td_refutation.proofs.RenamedClauses.{found, has_same, settled_of_same, table_same, rests_same, gate_same, by_net_same}
use Rattle.td_refutation.proofs.RenamedPairs.{pairs_same, keep_same}
use Rattle.td_refutation.proofs.RenamedTimes.{below_same, lower_same, again_same, latest_same, first_same}
use Rattle.td_refutation.proofs.Renumbering.{renumbered, net_kept, numbers_kept, is_renaming}

abbrev renamed_deed : (ℕ → ℕ) → Deed → Deed
renamed_deed r NoDeed = NoDeed
renamed_deed r (Having new) = Having (renamed_variable r new)
renamed_deed r (Naming why clause) = Naming why clause
renamed_deed r (Showing clause hints) = Showing clause hints
renamed_deed r (Lowering net level place clause hints) = Lowering (r net) level place clause hints
renamed_deed r (Retaking net) = Retaking (r net)

flaw_same : (r : ℕ → ℕ) (deed : Deed) → flaw_of (renamed_deed r deed) ≡ flaw_of deed
flaw_same r NoDeed = refl
flaw_same r (Having new) = refl
flaw_same r (Naming why clause) = refl
flaw_same r (Showing clause hints) = refl
flaw_same r (Lowering net level place clause hints) = refl
flaw_same r (Retaking net) = refl

map_push : {A B : Type 0} (f : A → B) (xs : List A) (x : A) → map f (xs ++ x ∷ []) ≡ map f xs ++ f x ∷ []
map_push f [] x = refl
map_push f (y ∷ xs) x = ap (λ ys. f y ∷ ys) (map_push f xs x)

module _ (this that : Numbered) (r : ℕ → ℕ) (renaming : IsRenaming this that r) where
  low_same : r 0 ≡ 0
  low_same = renaming.fixed 0 (omega arith)

  high_same : r 1 ≡ 1
  high_same = renaming.fixed 1 (omega arith)

  -- ---- what lines say

  of_net_same : (last : Bool) (o : Option ℕ) → of_net last (option_map r o) ≡ option_map (renamed_variable r) (of_net last o)
  of_net_same true None = refl
  of_net_same false None = refl
  of_net_same true (Some net) = refl
  of_net_same false (Some net) = refl

  net_same : (last : Bool) (number : ℕ) → of_net last (net_named that number) ≡ option_map (renamed_variable r) (of_net last (net_named this number))
  net_same last number = ap (of_net last) (renaming.named number) ∙ of_net_same last (net_named this number)

  of_span_same : (level : Bool) (first : ℕ) (last o : Option ℕ) → of_span level first last (option_map r o) ≡ option_map (renamed_variable r) (of_span level first last o)
  of_span_same level first last None = refl
  of_span_same level first last (Some net) = refl

  if_same : {A B : Type 0} (f : A → B) (test : Bool) (one : Option B) (other : Option A) → one ≡ option_map f other
      → (if test then one else None) ≡ option_map f (if test then other else None)
  if_same f true one other is = is
  if_same f false one other is = refl

  span_same : (number level first : ℕ) (last : Option ℕ)
      → span_variable that number level first last ≡ option_map (renamed_variable r) (span_variable this number level first last)
  span_same number level first last =
      if_same (renamed_variable r) (nat_lt level 2 && is_by first last) (of_span (level == 1) first last (net_named that number))
      (of_span (level == 1) first last (net_named this number))
      (ap (of_span (level == 1) first last) (renaming.named number) ∙ of_span_same (level == 1) first last (net_named this number))

  flips_same : (inputs count : ℕ) → flips_variable that inputs count ≡ option_map (renamed_variable r) (flips_variable this inputs count)
  flips_same inputs count =
      ap (λ most. if nat_le inputs most then Some (variable.Flips inputs count) else None) renaming.inputs
      ∙ if_same (renamed_variable r) (nat_le inputs (length this.netlist.inputs)) (Some (variable.Flips inputs count)) (Some (variable.Flips inputs count)) refl

  first_variable : (numbers : List ℕ) → variable_at that kind.First numbers ≡ option_map (renamed_variable r) (variable_at this kind.First numbers)
  first_variable [] = refl
  first_variable (net ∷ []) = net_same false net
  first_variable (net ∷ more ∷ numbers) = refl

  last_variable : (numbers : List ℕ) → variable_at that kind.Last numbers ≡ option_map (renamed_variable r) (variable_at this kind.Last numbers)
  last_variable [] = refl
  last_variable (net ∷ []) = net_same true net
  last_variable (net ∷ more ∷ numbers) = refl

  span_variable_same : (numbers : List ℕ) → variable_at that kind.Span numbers ≡ option_map (renamed_variable r) (variable_at this kind.Span numbers)
  span_variable_same [] = refl
  span_variable_same (net ∷ []) = refl
  span_variable_same (net ∷ level ∷ []) = refl
  span_variable_same (net ∷ level ∷ first ∷ []) = span_same net level first None
  span_variable_same (net ∷ level ∷ first ∷ last ∷ []) = span_same net level first (Some last)
  span_variable_same (net ∷ level ∷ first ∷ last ∷ more ∷ numbers) = refl

  flips_variable_same : (numbers : List ℕ) → variable_at that kind.Flips numbers ≡ option_map (renamed_variable r) (variable_at this kind.Flips numbers)
  flips_variable_same [] = refl
  flips_variable_same (inputs ∷ []) = refl
  flips_variable_same (inputs ∷ count ∷ []) = flips_same inputs count
  flips_variable_same (inputs ∷ count ∷ more ∷ numbers) = refl

  having_same : (v : Option Variable) → having (option_map (renamed_variable r) v) ≡ renamed_deed r (having v)
  having_same None = refl
  having_same (Some new) = refl

  naming_same : (why : Reason) (numbers : List ℕ) → naming why numbers ≡ renamed_deed r (naming why numbers)
  naming_same why numbers = go (list_all is_literal numbers)
    where
      go : (test : Bool) → (if test then Naming why (map literal_at numbers) else NoDeed) ≡ renamed_deed r (if test then Naming why (map literal_at numbers) else NoDeed)
      go true = refl
      go false = refl

  showing_same : (shown : Option (List ℕ × List ℕ)) → showing shown ≡ renamed_deed r (showing shown)
  showing_same None = refl
  showing_same (Some shown) = refl

  lowering_same : (o : Option ℕ) (level : Bool) (place : ℕ) (shown : Option (List ℕ × List ℕ))
      → lowering_at (option_map r o) level place shown ≡ renamed_deed r (lowering_at o level place shown)
  lowering_same None level place shown = refl
  lowering_same (Some net) level place None = refl
  lowering_same (Some net) level place (Some shown) = refl

  lowering_deed : (numbers : List ℕ) → deed_of that kind.End numbers ≡ renamed_deed r (deed_of this kind.End numbers)
  lowering_deed [] = refl
  lowering_deed (net ∷ []) = refl
  lowering_deed (net ∷ level ∷ []) = refl
  lowering_deed (net ∷ level ∷ place ∷ rest) =
      ap (λ o. if nat_lt level 2 then lowering_at o (level == 1) place (shown_by_numbers rest) else NoDeed) (renaming.named net) ∙ go (nat_lt level 2)
    where
      go : (test : Bool) → (if test then lowering_at (option_map r (net_named this net)) (level == 1) place (shown_by_numbers rest) else NoDeed)
          ≡ renamed_deed r (if test then lowering_at (net_named this net) (level == 1) place (shown_by_numbers rest) else NoDeed)
      go true = lowering_same (net_named this net) (level == 1) place (shown_by_numbers rest)
      go false = refl

  retaking_same : (o : Option ℕ) → retaking_at (option_map r o) ≡ renamed_deed r (retaking_at o)
  retaking_same None = refl
  retaking_same (Some net) = refl

  retaking_deed : (numbers : List ℕ) → deed_of that kind.Again numbers ≡ renamed_deed r (deed_of this kind.Again numbers)
  retaking_deed [] = refl
  retaking_deed (net ∷ []) = ap retaking_at (renaming.named net) ∙ retaking_same (net_named this net)
  retaking_deed (net ∷ more ∷ numbers) = refl

  deed_same : (it : StepKind) (numbers : List ℕ) → deed_of that it numbers ≡ renamed_deed r (deed_of this it numbers)
  deed_same kind.First numbers = ap having (first_variable numbers) ∙ having_same (variable_at this kind.First numbers)
  deed_same kind.Last numbers = ap having (last_variable numbers) ∙ having_same (variable_at this kind.Last numbers)
  deed_same kind.Span numbers = ap having (span_variable_same numbers) ∙ having_same (variable_at this kind.Span numbers)
  deed_same kind.Flips numbers = ap having (flips_variable_same numbers) ∙ having_same (variable_at this kind.Flips numbers)
  deed_same kind.Gate numbers = naming_same reason.Gate numbers
  deed_same kind.Table numbers = naming_same reason.Table numbers
  deed_same kind.Net numbers = naming_same reason.Net numbers
  deed_same kind.Pairs numbers = naming_same reason.Pairs numbers
  deed_same kind.Keep numbers = naming_same reason.Keep numbers
  deed_same kind.Lemma numbers = showing_same (shown_by_numbers numbers)
  deed_same kind.End numbers = lowering_deed numbers
  deed_same kind.Again numbers = retaking_deed numbers

  -- ---- states

  -- a state by the other numbers, with these times
  abbrev likened : State → List Times → State
  likened state times = state_with (map (renamed_variable r) state.variables) state.begun times state.clauses

  record IsAlike (one other : State) : Type 0 where
    times : List Times
    same : AreRenamed r one.times times
    is : other ≡ likened one times

  module _ (asked : Asked) (cube : List Trit) (whole : length cube ≡ 2 * length this.netlist.inputs) where
    by_same : (variables : List Variable) (times times' : List Times) → AreRenamed r times times' → (why : Reason) (clause : List Literal)
        → IsBy this asked cube variables times why clause → IsBy that (renamed_asked r asked) cube (map (renamed_variable r) variables) times' why clause
    by_same variables times times' same reason.Gate [] is = absurd is
    by_same variables times times' same reason.Gate (head ∷ body) is =
        (is.0, gate_same r renaming.one_one low_same high_same variables times times' same this that renaming head body is.1)
    by_same variables times times' same reason.Table [] is = absurd is
    by_same variables times times' same reason.Table (head ∷ body) is =
        rw (found r renaming.one_one low_same high_same variables head.variable, settled_of_same r renaming.one_one low_same high_same variables (slice_get variables head.variable))
        (table_same r renaming.one_one low_same high_same variables this that renaming head body (settled_of (slice_get variables head.variable)) is)
    by_same variables times times' same reason.Net clause is = by_net_same r renaming.one_one low_same high_same variables times times' same clause ∙ is
    by_same variables times times' same reason.Pairs clause is =
        pairs_same this that r renaming low_same high_same variables (length that.netlist.inputs) asked.admit cube clause whole
        ∙ subst (λ inputs. is_pairs_clause inputs asked.admit cube variables clause ≡ true) (sym renaming.inputs) is
    by_same variables times times' same reason.Keep clause is = keep_same this that r renaming low_same high_same variables asked.keep clause ∙ is

    good_likened : (one : State) (times : List Times) → AreRenamed r one.times times → (deed : Deed) → IsGood this asked cube one deed
        → IsGood that (renamed_asked r asked) cube (likened one times) (renamed_deed r deed)
    good_likened one times same NoDeed good = good
    good_likened one times same (Having new) good = good
    good_likened one times same (Naming why clause) good =
        (has_same r renaming.one_one low_same high_same one.variables clause ∙ good.0, by_same one.variables one.times times same why clause good.1)
    good_likened one times same (Showing clause hints) good = (
      has_same r renaming.one_one low_same high_same one.variables clause ∙ good.0,
      ap (λ count. shown_at one.clauses count clause hints) (length-map one.variables (renamed_variable r)) ∙ good.1,
    )
    good_likened one times same (Lowering net level place clause hints) good = (
      below_same r renaming.one_one one.times times same net good.0,
      rests_same r renaming.one_one low_same high_same one.variables net level place clause ∙ good.1,
      ap (λ count. shown_at one.clauses count clause hints) (length-map one.variables (renamed_variable r)) ∙ good.2,
    )
    good_likened one times same (Retaking net) good = (renaming.driven net good.0, below_same r renaming.one_one one.times times same net good.1)

    after_likened : (one : State) (times : List Times) → AreRenamed r one.times times → (deed : Deed) → IsGood this asked cube one deed
        → IsAlike (after this one deed) (after that (likened one times) (renamed_deed r deed))
    after_likened one times same NoDeed good = absurd good
    after_likened one times same (Having new) good = record {
      times = times;
      same = same;
      is = ap (λ variables. state_with variables one.begun times one.clauses) (sym (map_push (renamed_variable r) one.variables new));
    }
    after_likened one times same (Naming why clause) good = record { times = times; same = same; is = refl }
    after_likened one times same (Showing clause hints) good = record { times = times; same = same; is = refl }
    after_likened one times same (Lowering net level place clause hints) good = record {
      times = lower times (r net) level place;
      same = lower_same r renaming.one_one one.times times same net level place;
      is = refl;
    }
    after_likened one times same (Retaking net) good = record {
      times = again times (r net) (renamed_gate r (driver this net));
      same = again_same r renaming.one_one one.times times same net (driver this net);
      is = ap (λ (gate : NumberedGate). state_with (map (renamed_variable r) one.variables) true (again times (r net) gate) one.clauses) (renaming.drivers net good.0);
    }

    good_same : (one other : State) → IsAlike one other → (deed deed' : Deed) → deed' ≡ renamed_deed r deed → IsGood this asked cube one deed
        → IsGood that (renamed_asked r asked) cube other deed' × IsAlike (after this one deed) (after that other deed')
    good_same one other alike deed deed' is good =
        subst (λ (d : Deed). IsGood that (renamed_asked r asked) cube other d × IsAlike (after this one deed) (after that other d)) (sym is)
        (subst (λ (s : State). IsGood that (renamed_asked r asked) cube s (renamed_deed r deed) × IsAlike (after this one deed) (after that s (renamed_deed r deed))) (sym alike.is)
        (good_likened one alike.times alike.same deed good, after_likened one alike.times alike.same deed good))

    all_same : (steps : List Step) (one other : State) → IsAlike one other → AreGood this asked cube one steps
        → AreGood that (renamed_asked r asked) cube other steps × IsAlike (state_to this one steps) (state_to that other steps)
    all_same [] one other alike good = (tt, alike)
    all_same (step ∷ steps) one other alike good =
        let here = good_same one other alike (deed_of this step.kind step.numbers) (deed_of that step.kind step.numbers) (deed_same step.kind step.numbers) good.0 in
        let rest = all_same steps (after this one (deed_of this step.kind step.numbers)) (after that other (deed_of that step.kind step.numbers)) here.1 good.1 in
        ((here.0, rest.0), rest.1)

    latest_alike : (one other : State) → IsAlike one other → (numbers : List ℕ) → latest_of other.times (map r numbers) ≡ latest_of one.times numbers
    latest_alike one other alike numbers =
        ap (λ (s : State). latest_of s.times (map r numbers)) alike.is ∙ latest_same r renaming.one_one one.times alike.times alike.same numbers

    begin : IsNumbering this → IsNumbering that → IsAlike (first_state this asked cube) (first_state that (renamed_asked r asked) cube)
    begin numbering numbering' = record {
      times = first_times that asked.admit cube;
      same = first_same this that r renaming numbering numbering' asked.admit cube;
      is = refl;
    }

-- ---- lines

good_before : (circuit : Numbered) (asked : Asked) (cube : List Trit) (state : State) (steps : List Step) (count place : ℕ) (step : Step)
    → AreGood circuit asked cube state (take count steps) → place < count → slice_get steps place ≡ Some step
    → IsGood circuit asked cube (state_to circuit state (take place steps)) (deed_of circuit step.kind step.numbers)
good_before circuit asked cube state steps zero place step good low at = absurd (omega arith)
good_before circuit asked cube state [] (suc count) place step good low at = cc
good_before circuit asked cube state (next ∷ steps) (suc count) zero step good low at =
    let same : next ≡ step = cc in
    subst (λ (it : Step). IsGood circuit asked cube state (deed_of circuit it.kind it.numbers)) same good.0
good_before circuit asked cube state (next ∷ steps) (suc count) (suc place) step good low at =
    good_before circuit asked cube (after circuit state (deed_of circuit next.kind next.numbers)) steps count place step good.1 (omega arith) at

take_whole : (steps : List Step) → take (length steps) steps ≡ steps
take_whole [] = refl
take_whole (step ∷ steps) = ap (λ rest. step ∷ rest) (take_whole steps)

-- ---- questions

condition_parts : (net net' : ℕ) (form form' : Form) → net ≡ net' → form ≡ form'
    → ◌≡◌ {A = Condition} (record { net = net; form = form }) (record { net = net'; form = form' })
condition_parts net net' form form' n f =
    ap (λ (it : ℕ). record { net = it; form = form }) n ∙ ap (λ (it : Form). record { net = net'; form = it }) f

asked_parts : (admit admit' : Admitted) (keep keep' : List Condition) → admit ≡ admit' → keep ≡ keep'
    → ◌≡◌ {A = Asked} (record { admit = admit; keep = keep }) (record { admit = admit'; keep = keep' })
asked_parts admit admit' keep keep' a k =
    ap (λ (it : Admitted). record { admit = it; keep = keep }) a ∙ ap (λ (it : List Condition). record { admit = admit'; keep = it }) k

conditions_same : (r : ℕ → ℕ) (one other : List Condition) → length other ≡ length one
    → ((i : ℕ) (a b : Condition) → slice_get one i ≡ Some a → slice_get other i ≡ Some b → b ≡ renamed_condition r a) → other ≡ map (renamed_condition r) one
conditions_same r [] [] count same = refl
conditions_same r [] (b ∷ other) count same = absurd (omega arith)
conditions_same r (a ∷ one) [] count same = absurd (omega arith)
conditions_same r (a ∷ one) (b ∷ other) count same =
    ap (λ c. c ∷ other) (same 0 a b refl refl)
    ∙ ap (λ rest. renamed_condition r a ∷ rest) (conditions_same r one other (let c = count in omega arith) (λ i. same (suc i)))

turned : (this that : Numbered) (one other : Asked) → IsSameQuestion this that one other → IsSameQuestion that this other one
turned this that one other same = record {
  admit = sym same.admit;
  count = sym same.count;
  each = λ i a b at is.
      let it = same.each i b a is at in record { net = it.net; here = it.there; there = it.here; form = sym it.form };
}

module _ (given : Setting) (this that : Numbered) (one other : Asked) (cube : List Trit) (steps : List Step) (of : IsOfSetting given this) (of' : IsOfSetting given that)
    (question : IsSameQuestion this that one other) (whole : length cube ≡ 2 * length given.netlist.inputs) where
  netlist_same : that.netlist ≡ this.netlist
  netlist_same = ap (λ (s : Setting). s.netlist) of'.is ∙ sym (ap (λ (s : Setting). s.netlist) of.is)

  abbrev moves : ℕ → ℕ
  moves = renumbered this that of.numbering of'.numbering netlist_same

  moves_names : IsRenaming this that moves
  moves_names = is_renaming this that of.numbering of'.numbering netlist_same (ap (λ (s : Setting). s.moments) of'.is ∙ sym (ap (λ (s : Setting). s.moments) of.is))

  whole_here : length cube ≡ 2 * length this.netlist.inputs
  whole_here = whole ∙ ap (λ (s : Setting). 2 * length s.netlist.inputs) (sym of.is)

  question_is : other ≡ renamed_asked moves one
  question_is = asked_parts other.admit one.admit other.keep (map (renamed_condition moves) one.keep) question.admit
      (conditions_same moves one.keep other.keep question.count (λ i a b at is.
      let it = question.each i a b at is in
      condition_parts b.net (moves a.net) b.form a.form
      (of'.numbering.distinct b.net (moves a.net) it.net it.there (net_kept this that of.numbering of'.numbering netlist_same a.net it.net it.here)) it.form))

  same_end : (last last' : State) → IsAlike this that moves moves_names last last' → IsSameState this that last last'
  same_end last last' alike = record {
    clauses = ap (λ (s : State). s.clauses) alike.is;
    latest = λ numbers numbers' named are are'.
        ap (latest_of last'.times) (numbers_kept this that of.numbering of'.numbering netlist_same numbers numbers' named are are')
        ∙ latest_alike this that moves moves_names one cube whole_here last last' alike numbers;
  }

  good_too : AreAllGood this one cube steps
      → AreAllGood that other cube steps × IsSameState this that (last_state this one cube steps) (last_state that other cube steps)
  good_too good =
      let all = all_same this that moves moves_names one cube whole_here steps (first_state this one cube) (first_state that (renamed_asked moves one) cube)
      (begin this that moves moves_names one cube whole_here of.numbering of'.numbering) good in
      subst (λ (q : Asked). AreAllGood that q cube steps × IsSameState this that (last_state this one cube steps) (last_state that q cube steps)) (sym question_is)
      (all.0, same_end (last_state this one cube steps) (last_state that (renamed_asked moves one) cube steps) all.1)

  latest_too : AreAllGood this one cube steps → latest_after that other cube steps ≡ latest_after this one cube steps
  latest_too good =
      (good_too good).1.latest this.outputs that.outputs (map (λ name. Named name) this.netlist.outputs) of.numbering.outputs
      (subst (λ (it : Netlist). AreNumbersOf (nets that) that.outputs (map (λ name. Named name) it.outputs)) netlist_same of'.numbering.outputs)

  flaw_too : (step : Step) → flaw_of (deed_of that step.kind step.numbers) ≡ flaw_of (deed_of this step.kind step.numbers)
  flaw_too step = ap flaw_of (deed_same this that moves moves_names step.kind step.numbers) ∙ flaw_same moves (deed_of this step.kind step.numbers)

-- a line that isn't good here stands before none that is good there
never_before : (given : Setting) (this that : Numbered) (one other : Asked) (cube : List Trit) (steps : List Step) (place count : ℕ) (flaw : Flaw) → IsOfSetting given this
    → IsOfSetting given that → IsSameQuestion this that one other → length cube ≡ 2 * length given.netlist.inputs → IsFirstBad this one cube steps place flaw
    → AreAllGood that other cube (take count steps) → place < count → ⊥
never_before given this that one other cube steps place count flaw of of' question whole first good low =
    let here = good_too given that this other one cube (take count steps) of' of (turned this that one other question) whole good in
    first.bad (good_before this one cube (first_state this one cube) steps count place first.step here.0 low first.stands)

not_bad : (given : Setting) (this that : Numbered) (one other : Asked) (cube : List Trit) (steps : List Step) (place : ℕ) (flaw : Flaw) → IsOfSetting given this
    → IsOfSetting given that → IsSameQuestion this that one other → length cube ≡ 2 * length given.netlist.inputs → IsFirstBad this one cube steps place flaw
    → AreAllGood that other cube steps → ⊥
not_bad given this that one other cube steps place flaw of of' question whole first good =
    never_before given this that one other cube steps place (length steps) flaw of of' question whole first
    (subst (λ (it : List Step). AreAllGood that other cube it) (sym (take_whole steps)) good) (slice_get-some steps place first.step first.stands)

pub one_verdict : OneVerdict
one_verdict = record {
  good = λ given this that one other cube steps of of' question whole. good_too given this that one other cube steps of of' question whole;
  latest = λ given this that one other cube steps of of' question whole. latest_too given this that one other cube steps of of' question whole;
  bad = λ given this that one other cube steps place flaw of of' question whole. not_bad given this that one other cube steps place flaw of of' question whole;
  first = λ given this that one other cube steps place place' flaw flaw' of of' question whole first first'. elim (cases_lt place place') [
    | inl less ↦ absurd (never_before given this that one other cube steps place place' flaw of of' question whole first first'.good less)
    | inr more ↦ elim (cases_lt place' place) [
      | inl less ↦ absurd (never_before given that this other one cube steps place' place flaw' of' of (turned this that one other question) whole first' first.good less)
      | inr no_more ↦
          (let same : place ≡ place' = omega (arith, more, no_more) in
          let step_is : first.step ≡ first'.step = some-same first.step first'.step (sym first.stands ∙ ap (slice_get steps) same ∙ first'.stands) in (
            same,
            first.why ∙ sym (flaw_too given this that one other cube steps of of' question whole first.step)
                ∙ ap (λ (step : Step). flaw_of (deed_of that step.kind step.numbers)) step_is ∙ sym first'.why,
          ))
    ]
  ];
}

-- ---- leaves

conditions_renamed : (this that : Numbered) (r : ℕ → ℕ) → IsRenaming this that r → (keep : List NamedCondition)
    → conditions_in that keep ≡ map (renamed_condition r) (conditions_in this keep)
conditions_renamed this that r renaming [] = refl
conditions_renamed this that r renaming (first ∷ keep) =
    flat_map-cons (condition_in that) first keep
    ∙ ap (λ o. condition_on first.form o ++ conditions_in that keep) (renaming.named first.net)
    ∙ go (conditions_renamed this that r renaming keep) (net_named this first.net)
    ∙ ap (map (renamed_condition r)) (sym (flat_map-cons (condition_in this) first keep))
  where
    go : conditions_in that keep ≡ map (renamed_condition r) (conditions_in this keep) → (o : Option ℕ)
        → condition_on first.form (option_map r o) ++ conditions_in that keep
        ≡ map (renamed_condition r) (condition_on first.form o ++ conditions_in this keep)
    go same None = same
    go same (Some net) = ap (λ (rest : List Condition). record { net = r net; form = first.form } ∷ rest) same

-- the conditions of a circuit are on nets of it
condition_net : (this : Numbered) → IsNumbering this → (keep : List NamedCondition) (i : ℕ) (c : Condition) → slice_get (conditions_in this keep) i ≡ Some c
    → (net : Net) × (slice_get (nets this) c.net ≡ Some net)
condition_net this numbering keep i c at =
    let it = comes_from this keep i c at in
    let net = net_is_at this numbering it.from.net c.net it.names in
    (net.net, net.here)

-- the same pairs, by the numbers of two circuits, are one question
same_asked : (given : Setting) (this that : Numbered) → IsOfSetting given this → IsOfSetting given that → (asking : Asking)
    → IsSameQuestion this that (asked_in this asking) (asked_in that asking)
same_asked given this that of of' asking =
    let netlist_is : that.netlist ≡ this.netlist = ap (λ (s : Setting). s.netlist) of'.is ∙ sym (ap (λ (s : Setting). s.netlist) of.is) in
    let r : ℕ → ℕ = renumbered this that of.numbering of'.numbering netlist_is in
    let renaming : IsRenaming this that r =
    is_renaming this that of.numbering of'.numbering netlist_is (ap (λ (s : Setting). s.moments) of'.is ∙ sym (ap (λ (s : Setting). s.moments) of.is)) in
    let same : conditions_in that asking.keep ≡ map (renamed_condition r) (conditions_in this asking.keep) =
    conditions_renamed this that r renaming asking.keep in
    record {
      admit = refl;
      count = ap length same ∙ length-map (conditions_in this asking.keep) (renamed_condition r);
      each = λ i a b at is.
          let there : slice_get (map (renamed_condition r) (conditions_in this asking.keep)) i ≡ Some (renamed_condition r a) =
          slice_get-map_some (renamed_condition r) (conditions_in this asking.keep) i a at in
          let b_is : b ≡ renamed_condition r a = some-same b (renamed_condition r a) (sym is ∙ ap (λ cs. slice_get cs i) same ∙ there) in
          let net = condition_net this of.numbering asking.keep i a at in
          record {
            net = net.0;
            here = net.1;
            there = ap (λ (c : Condition). slice_get (nets that) c.net) b_is ∙ net_kept this that of.numbering of'.numbering netlist_is a.net net.0 net.1;
            form = ap (λ (c : Condition). c.form) b_is;
          };
    }

pub leaf_has_one_verdict : LeafHasOneVerdict
leaf_has_one_verdict = record {
  refuted_or_above = λ given asking cube steps bound whole refuted above.
      let same = one_verdict.latest given refuted.circuit above.circuit (asked_in refuted.circuit asking) (asked_in above.circuit asking) cube steps
      refuted.of_setting above.of_setting (same_asked given refuted.circuit above.circuit refuted.of_setting above.of_setting asking) whole refuted.good in
      let within = refuted.within in
      let over = above.above in
      omega (arith, same, within, over);
  refuted_or_bad = λ given asking cube steps bound place flaw whole refuted bad.
      one_verdict.bad given bad.circuit refuted.circuit (asked_in bad.circuit asking) (asked_in refuted.circuit asking) cube steps place flaw bad.of_setting
      refuted.of_setting (same_asked given bad.circuit refuted.circuit bad.of_setting refuted.of_setting asking) whole bad.first refuted.good;
  above_or_bad = λ given asking cube steps bound place flaw whole above bad.
      one_verdict.bad given bad.circuit above.circuit (asked_in bad.circuit asking) (asked_in above.circuit asking) cube steps place flaw bad.of_setting
      above.of_setting (same_asked given bad.circuit above.circuit bad.of_setting above.of_setting asking) whole bad.first above.good;
  one_bad_step = λ given asking cube steps place place' flaw flaw' whole bad bad'.
      one_verdict.first given bad.circuit bad'.circuit (asked_in bad.circuit asking) (asked_in bad'.circuit asking) cube steps place place' flaw flaw'
      bad.of_setting bad'.of_setting (same_asked given bad.circuit bad'.circuit bad.of_setting bad'.of_setting asking) whole bad.first bad'.first;
}

pub emptied_has_one_verdict : EmptiedHasOneVerdict
emptied_has_one_verdict = record {
  emptied_or_not = λ given asking cube steps whole emptied kept.
      let same = one_verdict.good given emptied.circuit kept.circuit (asked_in emptied.circuit asking) (asked_in kept.circuit asking) cube steps
      emptied.of_setting kept.of_setting (same_asked given emptied.circuit kept.circuit emptied.of_setting kept.of_setting asking) whole emptied.good in
      absurd (let wrong : true ≡ false = sym emptied.empty ∙ sym (ap ends_empty same.1.clauses) ∙ kept.filled in cc);
  emptied_or_bad = λ given asking cube steps place flaw whole emptied bad.
      one_verdict.bad given bad.circuit emptied.circuit (asked_in bad.circuit asking) (asked_in emptied.circuit asking) cube steps place flaw bad.of_setting
      emptied.of_setting (same_asked given bad.circuit emptied.circuit bad.of_setting emptied.of_setting asking) whole bad.first emptied.good;
  not_or_bad = λ given asking cube steps place flaw whole kept bad.
      one_verdict.bad given bad.circuit kept.circuit (asked_in bad.circuit asking) (asked_in kept.circuit asking) cube steps place flaw bad.of_setting
      kept.of_setting (same_asked given bad.circuit kept.circuit bad.of_setting kept.of_setting asking) whole bad.first kept.good;
  good_or_bad = λ given asking cube steps place flaw whole all bad.
      one_verdict.bad given bad.circuit all.circuit (asked_in bad.circuit asking) (asked_in all.circuit asking) cube steps place flaw bad.of_setting
      all.of_setting (same_asked given bad.circuit all.circuit bad.of_setting all.of_setting asking) whole bad.first all.good;
}
