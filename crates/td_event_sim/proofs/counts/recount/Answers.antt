use Rattle.std.proofs.Common.{◌≡◌, ◌+◌, ◌-◌, ◌<◌, get_or, length, arith, refl, sym, ◌∙◌, ℕ, List, Some, subst}
use Rattle.std.specs.Prelude.{slice_get}
use Rattle.std.proofs.lemmas.List.{take_all, length-map}
use Rattle.td_event_sim.specs.declared.rules.Rule.{Rule}
use Rattle.td_event_sim.specs.declared.rules.Tally.{Tally}
use Rattle.td_event_sim.specs.Counting.{AreRecounted}
use Rattle.td_event_sim.specs.Rules.{IsReported, AreReported, ones_of, rules_of}
use Rattle.td_event_sim.proofs.Ones.{recount-begun}
use Rattle.td_event_sim.proofs.Tallies.{tallied, tallied-length, recount-one, same-rules, new-ones, ones-at, rule-placed, reported-one}
use Rattle.td_event_sim.proofs.counts.recount.Goals as goal

pub loop-reader-init : goal.loop-reader-init
loop-reader-init c = record {
  counts = recount-begun c.args.first_output c.args.readers.now c.args.rises (ones_of c.args.tallies.now);
  rules = refl;
  reported = λ begun was. was;
  outputs = λ was. was;
}

pub loop-reader-preserved : goal.loop-reader-preserved
loop-reader-preserved c =
    let within = c.requires c.loop-reader.reader-index 0 c.loop-reader-test.true in
    let tallies : List Tally = c.loop-reader.tallies in
    let place : ℕ = get_or c.args.readers.now c.loop-reader.reader-index 0 - c.args.first_output in
    let count : ℕ = c.recounted-recounted.result in
    let inside : place < length tallies = omega (arith, within.0, within.1) in
    let long : length (ones_of tallies) ≡ length tallies = length-map tallies (λ (t : Tally). t.ones) in
    let kept : rules_of (tallied tallies place count c.index-tallies-place-in-loop-reader.result) ≡ rules_of c.args.tallies.now =
    same-rules tallies place count c.index-tallies-place-in-loop-reader.result ∙ c.loop-reader.invariant.rules in
    let rule : Rule = (get_or (tallied tallies place count c.index-tallies-place-in-loop-reader.result) place c.index-tallies-place-in-loop-reader-2.result).rule in
    let at : slice_get (rules_of c.args.tallies.now) place ≡ Some rule = subst (λ (rules : List Rule). slice_get rules place ≡ Some rule) kept
    (rule-placed (tallied tallies place count c.index-tallies-place-in-loop-reader.result) place c.index-tallies-place-in-loop-reader-2.result
    (omega (arith, inside, tallied-length tallies place count c.index-tallies-place-in-loop-reader.result))) in
    let ones_are : (get_or tallies place c.index-tallies-place.result).ones ≡ get_or (ones_of tallies) place 0 =
    sym (ones-at tallies place c.index-tallies-place.result inside) in
    let output_is : get_or c.args.readers.now c.loop-reader.reader-index 0 ≡ c.args.first_output + place = omega (arith, within.0) in
    let step : IsReported rule (get_or (ones_of tallies) place 0) count (c.args.first_output + place) c.loop-reader.turned.items c.tell.new.turned.items =
    subst (λ (ones : ℕ). IsReported rule ones count (c.args.first_output + place) c.loop-reader.turned.items c.tell.new.turned.items) ones_are
    (subst (λ (output : ℕ). IsReported rule (get_or tallies place c.index-tallies-place.result).ones count output c.loop-reader.turned.items c.tell.new.turned.items) output_is c.in_ok-tell.ensures.reported) in
    record {
      counts = recount-one c.args.first_output c.args.readers.now c.loop-reader.reader-index c.args.rises (ones_of c.args.tallies.now) tallies place
          count c.index-tallies-place.result c.index-tallies-place-in-loop-reader.result c.loop-reader-test.true within.0 refl
          inside (c.loop-reader.auto.tallies ∙ sym (length-map c.args.tallies.now (λ (t : Tally). t.ones))) c.recounted-recounted.ensures c.loop-reader.invariant.counts;
      rules = kept;
      reported = λ begun was. subst (λ (ones : List ℕ). AreReported c.args.first_output (rules_of c.args.tallies.now) begun ones c.tell.new.turned.items)
          (sym (new-ones tallies place count c.index-tallies-place-in-loop-reader.result))
          (reported-one c.args.first_output (rules_of c.args.tallies.now) begun (ones_of tallies) c.loop-reader.turned.items c.tell.new.turned.items place count rule
          (omega (arith, inside, long)) at step (c.loop-reader.invariant.reported begun was));
      outputs = λ was. c.tell.ensures.outputs c.args.first_output (c.args.first_output + length c.args.tallies.now) within.0 within.1 (c.loop-reader.invariant.outputs was);
    }

pub returns-in_err-tell-clause-rules : goal.returns-in_err-tell-clause-rules
returns-in_err-tell-clause-rules c =
    same-rules c.loop-reader.tallies (get_or c.args.readers.now c.loop-reader.reader-index 0 - c.args.first_output) c.recounted-recounted.result c.index-tallies-place-in-loop-reader.result
    ∙ c.loop-reader.invariant.rules

pub returns-in_err-tell-clause-outputs : goal.returns-in_err-tell-clause-outputs
returns-in_err-tell-clause-outputs c =
    let within = c.requires c.loop-reader.reader-index 0 c.loop-reader-test.true in
    λ was. c.tell.ensures.outputs c.args.first_output (c.args.first_output + length c.args.tallies.now) within.0 within.1 (c.loop-reader.invariant.outputs was)

pub returns-clause-counts : goal.returns-clause-counts
returns-clause-counts c = subst (λ (readers : List ℕ). AreRecounted c.args.first_output readers c.args.rises (ones_of c.args.tallies.now) (ones_of c.loop-reader.tallies))
    (take_all c.loop-reader.reader-index c.args.readers.now c.loop-reader-test.false) c.loop-reader.invariant.counts
