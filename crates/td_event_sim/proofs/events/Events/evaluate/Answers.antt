use Rattle.std.proofs.Common.{◌≡◌, ◌-◌, ℕ, Bool, false, List, length, get_or, arith, ap, ◌∙◌, length-set}
use Rattle.std.proofs.lemmas.List.{take_all}
use Rattle.td_event_sim.specs.declared.rules.Tally.{Tally}
use Rattle.td_event_sim.specs.Bits.{bit_at}
use Rattle.td_event_sim.proofs.Evaluations.{evaluated-begun, evaluated-one}
use Rattle.td_event_sim.specs.Moment.{evaluation_at}
use Rattle.td_event_sim.proofs.events.Events.evaluate.Goals as goal

pub loop-output-init : goal.loop-output-init
loop-output-init c = record {
  evaluated = λ gates long rules counted.
      evaluated-begun (evaluation_at gates c.args.first_output c.args.moment c.args.logic.now.levels.items) c.args.outputs.now c.args.self.now.whens.items;
  waiting = λ was. was;
  from = c.requires.from;
  whens = search;
  below = c.requires.below;
}

pub loop-output-preserved : goal.loop-output-preserved
loop-output-preserved c =
    let net : ℕ = get_or c.args.outputs.now c.loop-output.output-index 0 in
    let within = c.requires.outputs c.loop-output.output-index 0 c.loop-output-test.true in
    let level : Bool = get_or c.as_slice-levels.result.now net false in
    let level_is : level ≡ bit_at c.args.logic.now.levels.items net = ap (λ (levels : List Bool). get_or levels net false) c.as_slice-levels.ensures.value in
    let tally : Tally = c.index-tallies-net.result in
    let tally_is : tally ≡ get_or c.args.logic.now.tallies.items (net - c.args.first_output) tally =
    c.index-tallies-net.is ∙ ap (λ (tallies : List Tally). get_or tallies (net - c.args.first_output) tally) c.as_slice-tallies.ensures.value in
    let long : length c.evaluate_gate.new.self.whens.items ≡ length c.loop-output.self.whens.items =
    ap length c.evaluate_gate.ensures.when ∙ length-set c.loop-output.self.whens.items net _ in
    record {
      evaluated = λ gates many rules counted. evaluated-one gates c.args.logic.now.tallies.items c.args.first_output c.args.moment c.args.logic.now.levels.items
          c.args.outputs.now c.loop-output.output-index c.args.self.now.whens.items c.loop-output.self.whens.items c.evaluate_gate.new.self.whens.items
          tally level c.loop-output-test.true within.0 (omega (arith, within.1, c.requires.levels_fit)) (omega (arith, c.requires.whens_fit, c.requires.levels_fit))
          c.loop-output.invariant.whens tally_is level_is c.evaluate_gate.ensures.when many rules counted (c.loop-output.invariant.evaluated gates many rules counted);
      waiting = λ was. c.in_ok-evaluate_gate.ensures.waiting (c.loop-output.invariant.waiting was);
      from = c.evaluate_gate.ensures.from;
      whens = long ∙ c.loop-output.invariant.whens;
      below = rw c.loop-output.invariant.whens at c.evaluate_gate.ensures.below;
    }

pub returns-clause-evaluated : goal.returns-clause-evaluated
returns-clause-evaluated c = λ gates many rules counted.
    rw (take_all c.loop-output.output-index c.args.outputs.now c.loop-output-test.false) at (c.loop-output.invariant.evaluated gates many rules counted)
