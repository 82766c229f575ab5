use Rattle.td_circuit.specs.Numbering.{setting}
use Rattle.td_worst.proofs.KeptStandings.{small_best}
use Rattle.td_worst.proofs.kept_search.worst_kept.Goals as goal

pub returns-then-effort-eq0-clause-answer : goal.returns-then-effort-eq0-clause-answer
returns-then-effort-eq0-clause-answer g c = λ pair delay asked has. (rw c.pins-pins.ensures.pins at c.in_ok-high.ensures.sound) pair delay asked.admitted.pinned has

pub returns-then-effort-eq0-clause-edges : goal.returns-then-effort-eq0-clause-edges
returns-then-effort-eq0-clause-edges g c = λ bound has. (rw c.pins-pins.ensures.pins at c.in_ok-high.ensures.edges) bound has

pub shown-answer-requires : goal.shown-answer-requires
shown-answer-requires g c = record {
  small = small_best (setting c.args.question.circuit.now) (record { admit = c.args.question.admit.now; keep = c.args.question.keep.now }) c.in-Ok.answered.best c.in_ok-high.high
      c.in-Ok.ensures.best (λ pair delay asked has. (rw c.pins-pins.ensures.pins at c.in_ok-high.ensures.sound) pair delay asked.admitted.pinned has)
      c.in_ok-high.ensures.small;
}

pub returns-in-Ok-clause-answer : goal.returns-in-Ok-clause-answer
returns-in-Ok-clause-answer g c =
    c.shown-answer.ensures.answer (setting c.args.question.circuit.now) c.args.question.admit.now
    (record {
      sizes = record {
        inputs = c.gates-gates.ensures.numbering.well_formed.few_inputs;
        gates = c.gates-gates.ensures.numbering.well_formed.few_gates;
        held = c.requires.held;
        pins = c.pins-pins.ensures.fit;
        moments = c.moments-moments.ensures.fit;
      };
      helds = c.requires.held;
      fit = c.requires.fit;
    })
    (record {
      best = c.in-Ok.ensures.best;
      high = λ pair delay asked has. (rw c.pins-pins.ensures.pins at c.in_ok-high.ensures.sound) pair delay asked.admitted.pinned has;
      small = c.in_ok-high.ensures.small;
    })
    c.in-Ok.ensures.shown

pub returns-in-Ok-clause-edges : goal.returns-in-Ok-clause-edges
returns-in-Ok-clause-edges g c = λ bound has. c.shown-answer.ensures.within bound ((rw c.pins-pins.ensures.pins at c.in_ok-high.ensures.edges) bound has)

pub returns-in-Ok-clause-time : goal.returns-in-Ok-clause-time
returns-in-Ok-clause-time g c = c.shown-answer.ensures.time c.args.limits.stop.now.can_be_set c.cause_of-cause.ensures.time

pub returns-in-Err-clause-answer : goal.returns-in-Err-clause-answer
returns-in-Err-clause-answer g c = λ pair delay asked has. (rw c.pins-pins.ensures.pins at c.in_ok-high.ensures.sound) pair delay asked.admitted.pinned has

pub returns-in-Err-clause-edges : goal.returns-in-Err-clause-edges
returns-in-Err-clause-edges g c = λ bound has. (rw c.pins-pins.ensures.pins at c.in_ok-high.ensures.edges) bound has
