-- Steps: each step keeps what is true of the runs.
use Rattle.std.proofs.Common.{◌≡◌, ℕ, ◌+◌, ◌-◌, ◌<◌, Bool, true, false, List, [], ◌∷◌, ◌++◌, length, refl, arith, ap, subst, ◌∙◌, Option, Some, None}
use Rattle.std.proofs.Math.ListN.{length-set}
use Rattle.std.specs.Prelude.{get_or, slice_get, Result, Ok, Err, OnOk, OnErr}
use Rattle.td_spans.specs.declared.fault.Fault.{Fault}
use Rattle.td_circuit.specs.Numbering.{NumberedGate, Numbered, nets, first_output}
use Rattle.td_domain.specs.declared.cubes.Trit.{Trit}
use Rattle.td_spans.specs.Conditions.{Asked}
use Rattle.td_propagation.specs.declared.literal.Literal.{Literal}
use Rattle.td_propagation.specs.declared.clauses.Outcome.TheVariants.{Shown}
use Rattle.td_propagation.specs.Literals.{IsTrueUnder}
use Rattle.td_spans.specs.Hints.{shown_at}
use Rattle.td_propagation.proofs.Soundness.{shown_true}
use Rattle.td_spans.specs.Lookups.{the_gate, IsDriven, driver}
use Rattle.td_spans.specs.Bounds.{IsUpperBoundOf}
use Rattle.td_spans.specs.Timing.{level_bits}
use Rattle.td_spans.specs.declared.times.Times.{Times}
use Rattle.td_spans.specs.declared.variable.Variable.{Variable}
use Rattle.td_spans.specs.declared.variable.Variable.TheVariants.{First, Last, Span, Flips}
use Rattle.td_spans.specs.declared.reason.Reason.{Reason}
use Rattle.td_spans.specs.declared.reason.Reason.TheVariants.{Gate, Table, Net, Pairs, Keep}
use Rattle.td_spans.specs.Rules.{no_times}
use Rattle.td_spans.specs.Signals.{first_times}
use Rattle.td_spans.specs.Lowering.{lowered, lower, are_at_rest, end_again, again, latest_of}
use Rattle.td_spans.specs.Clauses.{settled_net, is_net_clause}
use Rattle.td_spans.specs.Named.{two_of, by_two, settled_of, IsByTableOf, IsBy, IsNamed}
use Rattle.td_spans.specs.Refuting.{IsTrueOf, Refutes}
use Rattle.td_spans.specs.Laws.{IsAsked, StepsRefute}
use Rattle.td_spans.proofs.Sound as sound
use Rattle.td_spans.proofs.Bounding as bounding

by_pair : (valuation : ℕ → Bool) (clause : List Literal) (test : Literal → Literal → Bool) → by_two test (two_of clause) ≡ true
    → ((one other : Literal) → test one other ≡ true → IsTrueUnder valuation (one ∷ other ∷ [])) → IsTrueUnder valuation clause
by_pair valuation [] test is each = cc
by_pair valuation (one ∷ []) test is each = cc
by_pair valuation (one ∷ other ∷ []) test is each = each one other is
by_pair valuation (one ∷ other ∷ more ∷ clause) test is each = cc

module _ (circuit : Numbered) (asked : Asked) (cube : List Trit) (variables : List Variable) (fits : IsAsked circuit asked cube) where
  pub first_refutes : Refutes circuit asked cube variables (first_times circuit asked.admit cube) []
  first_refutes pair waves admitted is_in runs =
      sound.begins circuit fits.numbering fits.moments cube fits.whole asked.admit fits.held variables pair waves admitted.admitted is_in runs

  module _ (times : List Times) (clauses : List (List Literal)) (old : Refutes circuit asked cube variables times clauses) where
    pub named_refutes : (reason : Reason) (clause : List Literal) → IsNamed circuit asked cube variables times reason clause
        → Refutes circuit asked cube variables times (clauses ++ clause ∷ [])
    named_refutes reason clause named pair waves admitted is_in runs =
        let was = old pair waves admitted is_in runs in (
          was.0,
          sound.more circuit fits.numbering fits.moments cube fits.whole asked.admit fits.held variables pair waves admitted.admitted is_in runs times clauses was.0 was.1
              clause (clauses ++ clause ∷ []) refl (go was.0 was.1 reason clause named.1),
        )
      where
        table : (whole : length times ≡ length (nets circuit)) (was : IsTrueOf variables (level_bits circuit waves) times clauses) (head : Literal) (body : List Literal)
            → (o : Option Variable) → slice_get variables head.variable ≡ o → IsByTableOf circuit variables head body (settled_of o) → IsTrueUnder was.valuation (head ∷ body)
        table whole was head body None at is = absurd is
        table whole was head body (Some (Span s)) at is = absurd is
        table whole was head body (Some (Flips i k)) at is = absurd is
        table whole was head body (Some (First net)) at is =
            sound.settled_holds circuit fits.numbering fits.moments cube fits.whole asked.admit fits.held variables pair waves admitted.admitted is_in runs times clauses whole was
            false net is.0 head body (ap (settled_net false) at) is.1
        table whole was head body (Some (Last net)) at is =
            sound.settled_holds circuit fits.numbering fits.moments cube fits.whole asked.admit fits.held variables pair waves admitted.admitted is_in runs times clauses whole was
            true net is.0 head body (ap (settled_net true) at) is.1

        go : (whole : length times ≡ length (nets circuit)) (was : IsTrueOf variables (level_bits circuit waves) times clauses) (reason : Reason) (clause : List Literal)
            → IsBy circuit asked cube variables times reason clause → IsTrueUnder was.valuation clause
        go whole was Gate [] named = absurd named
        go whole was Gate (head ∷ body) named =
            sound.gate_holds circuit fits.numbering fits.moments cube fits.whole asked.admit fits.held variables pair waves admitted.admitted is_in runs times clauses whole was head body named.1
        go whole was Table [] named = absurd named
        go whole was Table (head ∷ body) named = table whole was head body (slice_get variables head.variable) refl named
        go whole was Net clause named = by_pair was.valuation clause (is_net_clause variables times) named (λ one other is. sound.net_holds circuit fits.numbering fits.moments cube fits.whole asked.admit fits.held variables pair waves admitted.admitted is_in runs times clauses whole was one other is)
        go whole was Pairs clause named = sound.pairs_hold circuit fits.numbering fits.moments cube fits.whole asked.admit fits.held variables pair waves admitted.admitted is_in runs times clauses whole was clause named
        go whole was Keep clause named = sound.keep_holds circuit fits.numbering fits.moments cube fits.whole asked.admit fits.held variables pair waves admitted.admitted is_in runs times clauses whole was asked.keep admitted.kept clause named

    pub shown_refutes : (count : ℕ) (clause : List Literal) (hints : List ℕ) → shown_at clauses count clause hints ≡ Shown
        → Refutes circuit asked cube variables times (clauses ++ clause ∷ [])
    shown_refutes count clause hints shown pair waves admitted is_in runs =
        let was = old pair waves admitted is_in runs in (
          was.0,
          sound.more circuit fits.numbering fits.moments cube fits.whole asked.admit fits.held variables pair waves admitted.admitted is_in runs times clauses was.0 was.1
              clause (clauses ++ clause ∷ []) refl (shown_true was.1.valuation clauses count clause hints was.1.true shown),
        )

    pub lowered_refutes : (net : ℕ) (level : Bool) (place count : ℕ) (clause : List Literal) (hints : List ℕ) → net < length times
        → are_at_rest variables net level place clause ≡ true → shown_at clauses count clause hints ≡ Shown
        → Refutes circuit asked cube variables (lower times net level place) clauses
    lowered_refutes net level place count clause hints low rests shown pair waves admitted is_in runs =
        let was = old pair waves admitted is_in runs in (
          length-set times net (lowered (get_or times net no_times) level place) ∙ was.0,
          sound.with_times circuit fits.numbering fits.moments cube fits.whole asked.admit fits.held variables pair waves admitted.admitted is_in runs times clauses was.0 was.1
              (lower times net level place)
              (sound.lower_holds circuit fits.numbering fits.moments cube fits.whole asked.admit fits.held variables pair waves admitted.admitted is_in runs times clauses was.0 was.1
              net low level place clause rests (shown_true was.1.valuation clauses count clause hints was.1.true shown)),
        )

    place_again : (place : ℕ) → place < length circuit.gates
        → Refutes circuit asked cube variables (again times (first_output circuit + place) (the_gate circuit place)) clauses
    place_again place low pair waves admitted is_in runs =
        let was = old pair waves admitted is_in runs in
        let net : ℕ = first_output circuit + place in
        let gate : NumberedGate = the_gate circuit place in
        let now : Times = lowered (lowered (get_or times net no_times) false (end_again times gate false)) true (end_again times gate true) in (
          length-set times net now ∙ was.0,
          sound.with_times circuit fits.numbering fits.moments cube fits.whole asked.admit fits.held variables pair waves admitted.admitted is_in runs times clauses was.0 was.1
              (again times net gate)
              (sound.again_holds circuit fits.numbering fits.moments cube fits.whole asked.admit fits.held variables pair waves admitted.admitted is_in runs times clauses was.0 was.1
              place low),
        )

    pub again_refutes : (net : ℕ) → IsDriven circuit net → net < length times
        → Refutes circuit asked cube variables (again times net (driver circuit net)) clauses
    again_refutes net driven low =
        let first = driven.0 in
        let same : first_output circuit + (net - first_output circuit) ≡ net = omega arith in
        subst (λ (n : ℕ). Refutes circuit asked cube variables (again times n (driver circuit net)) clauses) same
        (place_again (net - first_output circuit) driven.1)

    pub refuted_bounds : IsUpperBoundOf circuit asked cube (latest_of times circuit.outputs)
    refuted_bounds = bounding.latest_bounds circuit fits.numbering fits.moments cube fits.whole asked variables times clauses old

pub steps_refute : StepsRefute
steps_refute = record {
  named = named_refutes;
  shown = shown_refutes;
  lowered = lowered_refutes;
  again = again_refutes;
}

-- The steps as calls: what they answer keeps what is true of the runs.
module _ (circuit : Numbered) (asked : Asked) (cube : List Trit) (fits : IsAsked circuit asked cube) (variables variables' : List Variable) (times times' : List Times)
    (clauses clauses' : List (List Literal)) (result : Result (Unit {0}) Fault) (variables_are : variables' ≡ variables)
    (old : Refutes circuit asked cube variables times clauses) where
  moved : (ts : List Times) (cs : List (List Literal)) → times' ≡ ts → clauses' ≡ cs → Refutes circuit asked cube variables ts cs → Refutes circuit asked cube variables' times' clauses'
  moved ts cs times_are clauses_are new = rw (variables_are, times_are, clauses_are) new

  pub name_keeps : (reason : Reason) (clause : List Literal) → times' ≡ times → OnOk result (IsNamed circuit asked cube variables times reason clause)
      → OnOk result (clauses' ≡ clauses ++ clause ∷ []) → OnErr result (clauses' ≡ clauses) → Refutes circuit asked cube variables' times' clauses'
  name_keeps reason clause times_are = go result
    where
      go : (result : Result (Unit {0}) Fault) → OnOk result (IsNamed circuit asked cube variables times reason clause)
          → OnOk result (clauses' ≡ clauses ++ clause ∷ []) → OnErr result (clauses' ≡ clauses) → Refutes circuit asked cube variables' times' clauses'
      go (Ok u) named added same = moved times (clauses ++ clause ∷ []) times_are added (named_refutes circuit asked cube variables fits times clauses old reason clause named)
      go (Err e) named added same = moved times clauses times_are same old

  pub lemma_keeps : (count : ℕ) (clause : List Literal) (hints : List ℕ) → times' ≡ times → OnOk result (shown_at clauses count clause hints ≡ Shown)
      → OnOk result (clauses' ≡ clauses ++ clause ∷ []) → OnErr result (clauses' ≡ clauses) → Refutes circuit asked cube variables' times' clauses'
  lemma_keeps count clause hints times_are = go result
    where
      go : (result : Result (Unit {0}) Fault) → OnOk result (shown_at clauses count clause hints ≡ Shown)
          → OnOk result (clauses' ≡ clauses ++ clause ∷ []) → OnErr result (clauses' ≡ clauses) → Refutes circuit asked cube variables' times' clauses'
      go (Ok u) shown added same = moved times (clauses ++ clause ∷ []) times_are added (shown_refutes circuit asked cube variables fits times clauses old count clause hints shown)
      go (Err e) shown added same = moved times clauses times_are same old

  pub lower_keeps : (net : ℕ) (level : Bool) (place count : ℕ) (clause : List Literal) (hints : List ℕ) → clauses' ≡ clauses → OnOk result (net < length times)
      → OnOk result (are_at_rest variables net level place clause ≡ true) → OnOk result (shown_at clauses count clause hints ≡ Shown)
      → OnOk result (times' ≡ lower times net level place) → OnErr result (times' ≡ times) → Refutes circuit asked cube variables' times' clauses'
  lower_keeps net level place count clause hints clauses_are = go result
    where
      go : (result : Result (Unit {0}) Fault) → OnOk result (net < length times) → OnOk result (are_at_rest variables net level place clause ≡ true)
          → OnOk result (shown_at clauses count clause hints ≡ Shown) → OnOk result (times' ≡ lower times net level place) → OnErr result (times' ≡ times)
          → Refutes circuit asked cube variables' times' clauses'
      go (Ok u) low rests shown lowers same = moved (lower times net level place) clauses lowers clauses_are
          (lowered_refutes circuit asked cube variables fits times clauses old net level place count clause hints low rests shown)
      go (Err e) low rests shown lowers same = moved times clauses same clauses_are old

  pub again_keeps : (net : ℕ) → clauses' ≡ clauses → OnOk result (IsDriven circuit net) → OnOk result (net < length times)
      → OnOk result (times' ≡ again times net (driver circuit net)) → OnErr result (times' ≡ times)
      → Refutes circuit asked cube variables' times' clauses'
  again_keeps net clauses_are = go result
    where
      go : (result : Result (Unit {0}) Fault) → OnOk result (IsDriven circuit net) → OnOk result (net < length times)
          → OnOk result (times' ≡ again times net (driver circuit net)) → OnErr result (times' ≡ times)
          → Refutes circuit asked cube variables' times' clauses'
      go (Ok u) driven low takes same = moved (again times net (driver circuit net)) clauses takes clauses_are
          (again_refutes circuit asked cube variables fits times clauses old net driven low)
      go (Err e) driven low takes same = moved times clauses same clauses_are old
