use Rattle.std.proofs.Common.{◌+◌, arith}
use Rattle.td_search.specs.declared.strategy.Strategy.TheVariants.{Least}
use Rattle.td_search.specs.Problems.{problem_by}
use Rattle.td_worst.proofs.Outcomes.{more_budget}
use Rattle.td_worst.proofs.Supported.{less_within_tree, less_within_steps}
use Rattle.td_worst.proofs.searching.further.Goals as goal

pub refuted_told-shown-requires-clause-known : goal.refuted_told-shown-requires-clause-known
refuted_told-shown-requires-clause-known g c = λ κs lives.
    let asked = problem_by Least c.args.question.circuit.now c.args.question.admit.now in
    more_budget asked _ (c.args.nodes + c.nodes_of-more.result) c.led_further-led.result.answer
    (omega (arith, c.with_nodes-second.ensures.budget))
    (c.led_further-led.ensures.answer _ c.refuted_told-soon.ensures.answer c.refuted_told-soon.ensures.text).0

pub refuted_told-shown-requires-clause-text : goal.refuted_told-shown-requires-clause-text
refuted_told-shown-requires-clause-text g c = λ κs lives.
    (c.led_further-led.ensures.answer _ c.refuted_told-soon.ensures.answer c.refuted_told-soon.ensures.text).1

pub returns-then-not-is_open-clause-answer : goal.returns-then-not-is_open-clause-answer
returns-then-not-is_open-clause-answer g c =
    let asked = problem_by Least c.args.question.circuit.now c.args.question.admit.now in
    more_budget asked _ (c.args.nodes + c.args.limits.effort.budget) c.refuted_told-soon.result.answer
    (omega (arith)) c.refuted_told-soon.ensures.answer

pub returns-then-is_answered-2-clause-answer : goal.returns-then-is_answered-2-clause-answer
returns-then-is_answered-2-clause-answer g c =
    let asked = problem_by Least c.args.question.circuit.now c.args.question.admit.now in
    more_budget asked _ (c.args.nodes + c.args.limits.effort.budget) c.led_further-led.result.answer
    (omega (arith, c.nodes_of-more.ensures.few, c.with_nodes-second.ensures.budget))
    (c.led_further-led.ensures.answer _ c.refuted_told-soon.ensures.answer c.refuted_told-soon.ensures.text).0

pub returns-then-is_answered-2-clause-text : goal.returns-then-is_answered-2-clause-text
returns-then-is_answered-2-clause-text g c =
    (c.led_further-led.ensures.answer _ c.refuted_told-soon.ensures.answer c.refuted_told-soon.ensures.text).1

pub returns-then-is_exact-clause-answer : goal.returns-then-is_exact-clause-answer
returns-then-is_exact-clause-answer g c =
    let asked = problem_by Least c.args.question.circuit.now c.args.question.admit.now in
    more_budget asked _ (c.args.nodes + c.args.limits.effort.budget) c.refuted_told-shown.result.answer
    (omega (arith, c.nodes_of-more.ensures.few)) c.refuted_told-shown.ensures.answer

pub returns-clause-answer : goal.returns-clause-answer
returns-clause-answer g c =
    let asked = problem_by Least c.args.question.circuit.now c.args.question.admit.now in
    more_budget asked _ (c.args.nodes + c.args.limits.effort.budget) c.led_further-ended.result.answer
    (omega (arith, c.nodes_of-more.ensures.few, c.nodes_of-most.ensures.few, c.with_nodes-last.ensures.budget))
    (c.led_further-ended.ensures.answer _ c.refuted_told-shown.ensures.answer c.refuted_told-shown.ensures.text).0

pub returns-clause-text : goal.returns-clause-text
returns-clause-text g c = (c.led_further-ended.ensures.answer _ c.refuted_told-shown.ensures.answer c.refuted_told-shown.ensures.text).1

pub returns-clause-high : goal.returns-clause-high
returns-clause-high g c =
    omega (
      arith,
      c.refuted_told-soon.ensures.narrower.high,
      c.led_further-led.ensures.high _ c.refuted_told-soon.ensures.answer,
      c.refuted_told-shown.ensures.narrower.high,
      c.led_further-ended.ensures.high _ c.refuted_told-shown.ensures.answer,
    )

pub returns-then-is_answered-2-clause-high : goal.returns-then-is_answered-2-clause-high
returns-then-is_answered-2-clause-high g c =
    omega (arith, c.refuted_told-soon.ensures.narrower.high, c.led_further-led.ensures.high _ c.refuted_told-soon.ensures.answer)

pub returns-then-is_exact-clause-high : goal.returns-then-is_exact-clause-high
returns-then-is_exact-clause-high g c =
    omega (
      arith,
      c.refuted_told-soon.ensures.narrower.high,
      c.led_further-led.ensures.high _ c.refuted_told-soon.ensures.answer,
      c.refuted_told-shown.ensures.narrower.high,
    )

pub returns-then-is_answered-2-clause-reported : goal.returns-then-is_answered-2-clause-reported
returns-then-is_answered-2-clause-reported g c =
    g.met.W.Watch.reported_both (problem_by Least c.args.question.circuit.now c.args.question.admit.now) _ _ _ c.refuted_told-soon.ensures.reported c.led_further-led.ensures.reported

pub returns-then-is_exact-clause-reported : goal.returns-then-is_exact-clause-reported
returns-then-is_exact-clause-reported g c =
    let asked = problem_by Least c.args.question.circuit.now c.args.question.admit.now in
    g.met.W.Watch.reported_both asked _ _ _ (g.met.W.Watch.reported_both asked _ _ _ c.refuted_told-soon.ensures.reported c.led_further-led.ensures.reported)
    c.refuted_told-shown.ensures.reported

pub returns-clause-reported : goal.returns-clause-reported
returns-clause-reported g c =
    let asked = problem_by Least c.args.question.circuit.now c.args.question.admit.now in
    g.met.W.Watch.reported_both asked _ _ _ (g.met.W.Watch.reported_both asked _ _ _ (g.met.W.Watch.reported_both asked _ _ _ c.refuted_told-soon.ensures.reported c.led_further-led.ensures.reported)
    c.refuted_told-shown.ensures.reported) c.led_further-ended.ensures.reported

pub returns-then-not-is_open-clause-supported : goal.returns-then-not-is_open-clause-supported
returns-then-not-is_open-clause-supported g c = record {
  steps = c.refuted_told-soon.ensures.within;
  tree = less_within_tree _ _ c.args.known.tree c.refuted_told-soon.ensures.narrower.high c.requires.within;
}

pub returns-then-is_answered-2-clause-supported : goal.returns-then-is_answered-2-clause-supported
returns-then-is_answered-2-clause-supported g c = record {
  steps = less_within_steps _ _ c.refuted_told-soon.result.refuted (c.led_further-led.ensures.high _ c.refuted_told-soon.ensures.answer) c.refuted_told-soon.ensures.within;
  tree = c.led_further-led.ensures.within _ c.refuted_told-soon.ensures.answer
      (less_within_tree _ _ c.args.known.tree c.refuted_told-soon.ensures.narrower.high c.requires.within);
}

pub returns-then-is_exact-clause-supported : goal.returns-then-is_exact-clause-supported
returns-then-is_exact-clause-supported g c = record {
  steps = c.lower_steps-steps.ensures.within _
      (less_within_steps _ _ c.refuted_told-soon.result.refuted
      (omega (arith, c.led_further-led.ensures.high _ c.refuted_told-soon.ensures.answer, c.refuted_told-shown.ensures.narrower.high)) c.refuted_told-soon.ensures.within)
      c.refuted_told-shown.ensures.within;
  tree = less_within_tree _ _ c.led_further-led.result.tree c.refuted_told-shown.ensures.narrower.high
      (c.led_further-led.ensures.within _ c.refuted_told-soon.ensures.answer
      (less_within_tree _ _ c.args.known.tree c.refuted_told-soon.ensures.narrower.high c.requires.within));
}

pub returns-clause-supported : goal.returns-clause-supported
returns-clause-supported g c =
    let last = c.led_further-ended.ensures.high _ c.refuted_told-shown.ensures.answer in
    record {
      steps = c.lower_steps-steps.ensures.within _
          (less_within_steps _ _ c.refuted_told-soon.result.refuted
          (omega (arith, c.led_further-led.ensures.high _ c.refuted_told-soon.ensures.answer, c.refuted_told-shown.ensures.narrower.high, last)) c.refuted_told-soon.ensures.within)
          (less_within_steps _ _ c.refuted_told-shown.result.refuted last c.refuted_told-shown.ensures.within);
      tree = c.led_further-ended.ensures.within _ c.refuted_told-shown.ensures.answer
          (less_within_tree _ _ c.led_further-led.result.tree c.refuted_told-shown.ensures.narrower.high
          (c.led_further-led.ensures.within _ c.refuted_told-soon.ensures.answer
          (less_within_tree _ _ c.args.known.tree c.refuted_told-soon.ensures.narrower.high c.requires.within)));
    }
