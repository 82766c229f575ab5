-- What is held of the gates.
use Rattle.std.proofs.Common.{◌≡◌, ℕ, ◌+◌, ◌-◌, ◌<◌, ◌≤◌, Bool, List, [], ◌∷◌, ◌++◌, length, take, get_or, set, arith, refl, ◌⊎◌, inl, inr, sym, ap, subst, ◌∙◌, Some, length-set, get_or-set_same, get_or-set_other}
use Rattle.std.specs.Prelude.{slice_get, count_by}
use Rattle.std.specs.List.{Contains}
use Rattle.std.proofs.lemmas.Bool.{cases_eq}
use Rattle.std.proofs.lemmas.List.Elements.{Contains-append_left, Contains-append_right}
use Rattle.std.proofs.Math.Seq.{map-set_same}
use Rattle.std.proofs.lemmas.List.{map-set, map-append, get_or-map, length-map}
use Rattle.std.proofs.lemmas.Option.{slice_get-get_or}
use Rattle.td_gates.proofs.Places.{slice_get-some, slice_get-get, slice_get-map_some, slice_get-append_cases}
use Rattle.td_circuit.specs.Numbering.{NumberedGate}
use Rattle.td_event_sim.specs.declared.rules.Rule.{Rule}
use Rattle.td_event_sim.specs.declared.rules.Tally.{Tally}
use Rattle.td_event_sim.specs.Bits.{bit_at, target_of}
use Rattle.td_event_sim.specs.Counting.{recounted, AreCounted, AreRecounted}
use Rattle.td_event_sim.specs.Rules.{target_by_rule, IsRuleOf, ones_of, rules_of, AreRules, IsReported, AreReported}
use Rattle.td_event_sim.proofs.Ones.{recount-more, target-by}

-- another count in the place of a gate's
abbrev pub tallied : List Tally → ℕ → ℕ → Tally → List Tally
tallied tallies place count before = set tallies place (record { ones = count; rule = (get_or tallies place before).rule })

pub tallied-length : (tallies : List Tally) (place count : ℕ) (before : Tally) → length (tallied tallies place count before) ≡ length tallies
tallied-length tallies place count before = length-set tallies place (record { ones = count; rule = (get_or tallies place before).rule })

pub same-rules : (tallies : List Tally) (place count : ℕ) (before : Tally) → rules_of (tallied tallies place count before) ≡ rules_of tallies
same-rules tallies place count before = map-set_same (λ (tally : Tally). tally.rule) tallies place (record { ones = count; rule = (get_or tallies place before).rule }) before refl

pub new-ones : (tallies : List Tally) (place count : ℕ) (before : Tally) → ones_of (tallied tallies place count before) ≡ set (ones_of tallies) place count
new-ones tallies place count before = map-set (λ (tally : Tally). tally.ones) tallies place (record { ones = count; rule = (get_or tallies place before).rule })

pub ones-at : (tallies : List Tally) (place : ℕ) (tally : Tally) → place < length tallies → get_or (ones_of tallies) place 0 ≡ (get_or tallies place tally).ones
ones-at tallies place tally inside = get_or-map (λ (t : Tally). t.ones) tallies place tally 0 inside

pub recount-one : (first : ℕ) (readers : List ℕ) (k : ℕ) (rises : Bool) (ones : List ℕ) (tallies : List Tally) (place count : ℕ) (before other : Tally) → k < length readers
    → first ≤ get_or readers k 0 → place ≡ get_or readers k 0 - first → place < length tallies → length tallies ≡ length ones
    → count ≡ recounted rises 1 (get_or tallies place before).ones
    → AreRecounted first (take k readers) rises ones (ones_of tallies)
    → AreRecounted first (take (k + 1) readers) rises ones (ones_of (tallied tallies place count other))
recount-one first readers k rises ones tallies place count before other h above is inside long count_is all =
    let same : set (ones_of tallies) place (recounted rises 1 (get_or (ones_of tallies) place 0)) ≡ ones_of (tallied tallies place count other) =
    ap (λ (n : ℕ). set (ones_of tallies) place n) (ap (recounted rises 1) (ones-at tallies place before inside) ∙ sym count_is) ∙ sym (new-ones tallies place count other) in
    subst (λ (new : List ℕ). AreRecounted first (take (k + 1) readers) rises ones new) same
    (recount-more first readers k rises ones (ones_of tallies) place h above is (omega arith) all)

-- ---- the rule of a gate
pub rule-pushed : (gates : List NumberedGate) (tallies : List Tally) (tally : Tally) (here : NumberedGate) → slice_get gates (length tallies) ≡ Some here
    → IsRuleOf here tally.rule → AreRules gates (rules_of tallies) → AreRules gates (rules_of (tallies ++ tally ∷ []))
rule-pushed gates tallies tally here at is all place gate rule at_gate at_rule =
    let split : slice_get (rules_of tallies ++ tally.rule ∷ []) place ≡ Some rule =
    subst (λ (rules : List Rule). slice_get rules place ≡ Some rule) (map-append (λ (t : Tally). t.rule) tallies (tally ∷ [])) at_rule in
    elim (slice_get-append_cases (rules_of tallies) (tally.rule ∷ []) place rule split) [
      | inl old ↦ all place gate rule at_gate old
      | inr new ↦
          let inside : new.0 < 1 = slice_get-some (tally.rule ∷ []) new.0 rule new.1 in
          let first : new.0 ≡ 0 = omega arith in
          let long : length (rules_of tallies) ≡ length tallies = length-map tallies (λ (t : Tally). t.rule) in
          let end : place ≡ length tallies = new.2 ∙ omega arith in
          let rule_is : tally.rule ≡ rule = rw first at (slice_get-get (tally.rule ∷ []) new.0 rule tally.rule new.1) in
          let gate_is : here ≡ gate = sym (slice_get-get gates (length tallies) here here at) ∙ slice_get-get gates (length tallies) gate here (rw end at at_gate) in
          subst (λ (g : NumberedGate). IsRuleOf g rule) gate_is (subst (λ (r : Rule). IsRuleOf here r) rule_is is)
    ]

pub no-rules : (gates : List NumberedGate) → AreRules gates (rules_of [])
no-rules gates place gate rule at_gate at_rule = absurd (omega (arith, slice_get-some (rules_of []) place rule at_rule))

pub rule-at : (gates : List NumberedGate) (tallies : List Tally) (place : ℕ) (gate : NumberedGate) (tally : Tally) → place < length tallies → slice_get gates place ≡ Some gate
    → tally ≡ get_or tallies place tally → AreRules gates (rules_of tallies) → IsRuleOf gate tally.rule
rule-at gates tallies place gate tally inside at is all = all place gate tally.rule at
    (slice_get-map_some (λ (t : Tally). t.rule) tallies place tally (slice_get-get_or tallies place tally inside ∙ ap Some (sym is)))

pub count-at : (gates : List NumberedGate) (tallies : List Tally) (levels : List Bool) (place : ℕ) (gate : NumberedGate) (tally : Tally) → place < length tallies
    → slice_get gates place ≡ Some gate → tally ≡ get_or tallies place tally → AreCounted gates levels (ones_of tallies) → tally.ones ≡ count_by (bit_at levels) gate.inputs
count-at gates tallies levels place gate tally inside at is all =
    ap (λ (t : Tally). t.ones) is ∙ sym (ones-at tallies place tally inside) ∙ all place gate at

-- the target by a rule is the gate's
pub target-is : (gate : NumberedGate) (rule : Rule) (levels : List Bool) (ones : ℕ) → IsRuleOf gate rule → ones ≡ count_by (bit_at levels) gate.inputs
    → target_by_rule rule ones ≡ target_of gate.kind levels gate.inputs
target-is gate rule levels ones is count = is.target ones ∙ target-by gate.kind levels gate.inputs ones count

-- ---- the gates whose target turns

still-reported : (rule : Rule) (before after output : ℕ) (outputs new_outputs : List ℕ) → IsReported rule before after output outputs new_outputs
    → (other : ℕ) → Contains outputs other → Contains new_outputs other
still-reported rule before after output outputs new_outputs (inl added) other found = rw added (Contains-append_left outputs (output ∷ []) other found)
still-reported rule before after output outputs new_outputs (inr same) other found = rw same.0 found

-- one gate is counted anew
pub reported-one : (first : ℕ) (rules : List Rule) (begun ones outputs new_outputs : List ℕ) (place after : ℕ) (rule : Rule) → place < length ones
    → slice_get rules place ≡ Some rule → IsReported rule (get_or ones place 0) after (first + place) outputs new_outputs
    → AreReported first rules begun ones outputs → AreReported first rules begun (set ones place after) new_outputs
reported-one first rules begun ones outputs new_outputs place after rule inside at step all other other_rule at_other = elim (cases_eq other place) [
  | inl here ↦ reported_here here step (all other other_rule at_other)
  | inr apart ↦ elim (all other other_rule at_other) [
    | inl found ↦ inl (still-reported rule (get_or ones place 0) after (first + place) outputs new_outputs step (first + other) found)
    | inr same ↦ inr (same ∙ ap (target_by_rule other_rule) (sym (get_or-set_other ones place other after 0 apart)))
  ]
]
  where
    reported_here : other ≡ place → IsReported rule (get_or ones place 0) after (first + place) outputs new_outputs
        → Contains outputs (first + other) ⊎ (target_by_rule other_rule (get_or begun other 0) ≡ target_by_rule other_rule (get_or ones other 0))
        → Contains new_outputs (first + other) ⊎ (target_by_rule other_rule (get_or begun other 0) ≡ target_by_rule other_rule (get_or (set ones place after) other 0))
    reported_here here (inl added) was = inl (rw (here, added) (Contains-append_right outputs ((first + place) ∷ []) (first + place) (0, omega arith, refl)))
    reported_here here (inr same) (inl found) = inl (rw same.0 found)
    reported_here here (inr same) (inr stays) =
        let rule_is : rule ≡ other_rule = sym (slice_get-get rules place rule rule at) ∙ slice_get-get rules place other_rule rule (rw here at at_other) in
        inr (
        stays ∙ ap (λ (n : ℕ). target_by_rule other_rule (get_or ones n 0)) here
        ∙ subst (λ (r : Rule). target_by_rule r (get_or ones place 0) ≡ target_by_rule r after) rule_is same.1
        ∙ ap (target_by_rule other_rule) (sym (get_or-set_same ones place after 0 inside))
        ∙ ap (λ (n : ℕ). target_by_rule other_rule (get_or (set ones place after) n 0)) (sym here)
        )

-- the rule of a gate, as a place among the rules
pub rule-placed : (tallies : List Tally) (place : ℕ) (tally : Tally) → place < length tallies → slice_get (rules_of tallies) place ≡ Some (get_or tallies place tally).rule
rule-placed tallies place tally inside = slice_get-map_some (λ (t : Tally). t.rule) tallies place (get_or tallies place tally) (slice_get-get_or tallies place tally inside)
