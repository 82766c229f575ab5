use Rattle.std.proofs.Common.{map}
use Rattle.td_circuit.specs.Numbering.{setting}
use Rattle.td_refutation.specs.Whole.{step_of}
use Rattle.td_refutation.proofs.Steps.{refuted_is_bounded, emptied_has_no_pair}
use Rattle.td_refutation.proofs.whole.refuted_keeping.Goals as goal

pub returns-clause-bound : goal.returns-clause-bound
returns-clause-bound c =
    refuted_is_bounded (setting c.args.circuit.now) (record { admit = c.args.admit.now; keep = c.args.keep.now }) c.args.cube.now (map step_of c.args.steps.now) _
    c.moments-moments.ensures.fit c.requires.held c.requires.cube c.in_ok-shown.ensures.shown

pub returns-clause-none : goal.returns-clause-none
returns-clause-none c = λ empty.
    emptied_has_no_pair (setting c.args.circuit.now) (record { admit = c.args.admit.now; keep = c.args.keep.now }) c.args.cube.now (map step_of c.args.steps.now)
    c.moments-moments.ensures.fit c.requires.held c.requires.cube (c.in_ok-shown.ensures.emptied empty)
