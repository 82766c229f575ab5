use Rattle.std.proofs.Common.{◌≡◌, ◌<◌, ◌+◌, ℕ, List, length, map, get_or, set, arith, ap, sym, ◌∙◌, subst}
use Rattle.std.specs.Prelude.{count_by}
use Rattle.std.proofs.lemmas.List.{length-map}
use Rattle.td_gates.proofs.Places.{slice_get-some}
use Rattle.td_circuit.specs.Views.{gate_of}
use Rattle.td_circuit.specs.Numbering.{first_output}
use Rattle.td_circuit.proofs.Nets.{length-nets, lower-at, few-at}
use Rattle.td_circuit.proofs.Gates.{numbered-at}
use Rattle.td_event_sim.specs.Bits.{bit_at}
use Rattle.td_event_sim.specs.Settling.{AreSettled}
use Rattle.td_event_sim.proofs.Ones.{AreCountedTo, counted-more, counted-all}
use Rattle.td_event_sim.specs.declared.rules.Rule.{Rule}
use Rattle.td_event_sim.specs.declared.rules.Tally.{Tally}
use Rattle.td_event_sim.specs.Rules.{AreRules, IsRuleOf, ones_of}
use Rattle.td_event_sim.proofs.Tallies.{tallied, new-ones, same-rules, rule-at, target-is}
use Rattle.td_event_sim.proofs.Settles.{settled-more}
use Rattle.td_event_sim.proofs.logic.settle.Goals as goal

pub count-count-requires-clause-within : goal.count-count-requires-clause-within
count-count-requires-clause-within c =
    let place = numbered-at c.gates-gates.result.now c.args.circuit.now.gates c.loop-place.place c.index-gates-place.result c.gates-gates.ensures.gates c.loop-place-test.true c.index-gates-place.is in
    let inside = slice_get-some c.args.circuit.now.gates c.loop-place.place (gate_of c.index-gates-place.result) place in
    let lower = lower-at c.args.circuit.now c.gates-gates.ensures.numbering c.loop-place.place (gate_of c.index-gates-place.result) place in
    rw c.deref.ensures.value (λ k d h. (let low : get_or c.index-gates-place.result.inputs.items k d < first_output c.args.circuit.now + c.loop-place.place = lower k d h in
    omega (arith, length-nets c.args.circuit.now c.gates-gates.ensures.numbering)))

pub count-count-requires-clause-few : goal.count-count-requires-clause-few
count-count-requires-clause-few c =
    let place = numbered-at c.gates-gates.result.now c.args.circuit.now.gates c.loop-place.place c.index-gates-place.result c.gates-gates.ensures.gates c.loop-place-test.true c.index-gates-place.is in
    rw c.deref.ensures.value (few-at c.args.circuit.now c.gates-gates.ensures.numbering c.loop-place.place (gate_of c.index-gates-place.result) place)

pub loop-place-preserved : goal.loop-place-preserved
loop-place-preserved c =
    let place = numbered-at c.gates-gates.result.now c.args.circuit.now.gates c.loop-place.place c.index-gates-place.result c.gates-gates.ensures.gates c.loop-place-test.true c.index-gates-place.is in
    let P : ℕ → Type 0 = λ net. AreSettled c.args.circuit.now c.args.vector.now (c.loop-place.place + 1) (set c.loop-place.levels net c.target-level.result) in
    let same : first_output c.args.circuit.now + c.loop-place.place ≡ length c.args.vector.now + 2 + c.loop-place.place = omega arith in
    let within : c.loop-place.place < length c.loop-place.tallies =
    omega (arith, c.loop-place.auto.tallies, c.requires.tallies_fit, slice_get-some c.args.circuit.now.gates c.loop-place.place (gate_of c.index-gates-place.result) place) in
    let before : Tally = c.index-tallies-place-in-loop-place.result in
    let here : Tally = get_or c.loop-place.tallies c.loop-place.place c.index-tallies-place.result in
    let rule : IsRuleOf (gate_of c.index-gates-place.result) here.rule =
    subst (λ (t : Tally). IsRuleOf (gate_of c.index-gates-place.result) t.rule) c.index-tallies-place.is (rule-at c.args.circuit.now.gates c.loop-place.tallies c.loop-place.place (gate_of c.index-gates-place.result) c.index-tallies-place.result within place c.index-tallies-place.is
    (subst (λ (rules : List Rule). AreRules c.args.circuit.now.gates rules) (sym c.loop-place.invariant.rules) c.requires.rules)) in
    let count : c.count-count.result ≡ count_by (bit_at c.loop-place.levels) c.index-gates-place.result.inputs.items =
    c.count-count.ensures ∙ ap (λ (inputs : List ℕ). count_by (bit_at c.loop-place.levels) inputs) c.deref.ensures.value in
    record {
      settled = subst P same (settled-more c.args.circuit.now c.args.vector.now c.loop-place.place c.loop-place.levels (gate_of c.index-gates-place.result) c.target-level.result
          c.gates-gates.ensures.numbering c.requires.vector_fits (omega (arith, length-nets c.args.circuit.now c.gates-gates.ensures.numbering)) place
          (c.target-level.ensures ∙ target-is (gate_of c.index-gates-place.result) here.rule c.loop-place.levels c.count-count.result rule count)
          c.loop-place.invariant.settled);
      counted = let Q : ℕ → Type 0 = λ net. AreCountedTo c.args.circuit.now.gates (c.loop-place.place + 1) (set c.loop-place.levels net c.target-level.result) (ones_of (tallied c.loop-place.tallies c.loop-place.place c.count-count.result before)) in
          subst Q same (subst (λ (ones : List ℕ). AreCountedTo c.args.circuit.now.gates (c.loop-place.place + 1) (set c.loop-place.levels (first_output c.args.circuit.now + c.loop-place.place) c.target-level.result) ones)
          (sym (new-ones c.loop-place.tallies c.loop-place.place c.count-count.result before))
          (counted-more c.args.circuit.now c.loop-place.place c.loop-place.levels (ones_of c.loop-place.tallies) (gate_of c.index-gates-place.result) c.target-level.result c.count-count.result
          c.gates-gates.ensures.numbering place (omega (arith, within, length-map c.loop-place.tallies (λ (t : Tally). t.ones))) count c.loop-place.invariant.counted));
      rules = same-rules c.loop-place.tallies c.loop-place.place c.count-count.result before ∙ c.loop-place.invariant.rules;
    }

-- the loop ends at the last gate
pub returns-clause-settled : goal.returns-clause-settled
returns-clause-settled c =
    let end : c.loop-place.place ≡ length c.args.circuit.now.gates =
    (let same : length (map gate_of c.gates-gates.result.now) ≡ length c.gates-gates.result.now = length-map c.gates-gates.result.now gate_of in
    let gates : length (map gate_of c.gates-gates.result.now) ≡ length c.args.circuit.now.gates = ap length c.gates-gates.ensures.gates in
    omega (arith, c.loop-place-test.false, c.loop-place.auto.place-end)) in
    rw end at c.loop-place.invariant.settled

pub returns-clause-counted : goal.returns-clause-counted
returns-clause-counted c =
    let same : length (map gate_of c.gates-gates.result.now) ≡ length c.gates-gates.result.now = length-map c.gates-gates.result.now gate_of in
    let gates : length (map gate_of c.gates-gates.result.now) ≡ length c.args.circuit.now.gates = ap length c.gates-gates.ensures.gates in
    counted-all c.args.circuit.now.gates c.loop-place.place c.loop-place.levels (ones_of c.loop-place.tallies) (omega (arith, c.loop-place-test.false)) c.loop-place.invariant.counted
