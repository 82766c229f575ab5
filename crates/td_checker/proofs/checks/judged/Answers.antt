use Rattle.std.proofs.lemmas.Result.{err_from_is_err_and}
use Rattle.td_checker.specs.Checks.{default_for, with_default}
use Rattle.td_checker.proofs.Texts.{source_fault, tells_truth_of}
use Rattle.td_checker.proofs.checks.judged.Goals as goal

pub returns-in_err-whole-clause-fault : goal.returns-in_err-whole-clause-fault
returns-in_err-whole-clause-fault c =
    let reported = err_from_is_err_and c.from_residual.result c.from_residual.ensures.1 in
    rw (reported.1, reported.2) (source_fault c.args.netlist.now
    (with_default c.args.reading.now (default_for c.args.reading.now.default c.args.certificate.now.question.terms)) c.in_err-whole.field-0.0
    (rw c.default_for-default.ensures at c.in_err-whole.ensures.fault))

pub returns-in-Ok-clause-verdict : goal.returns-in-Ok-clause-verdict
returns-in-Ok-clause-verdict c = record {
  whole = c.in_ok-whole.whole.circuit.netlist;
  means = rw c.default_for-default.ensures at c.in_ok-whole.ensures.means;
  acyclic = c.in_ok-whole.ensures.acyclic;
  outputs = _;
  asked = c.in_ok-whole.ensures.outputs;
  is = c.in-Ok.ensures.verdict;
}

pub returns-in-Ok-clause-truth : goal.returns-in-Ok-clause-truth
returns-in-Ok-clause-truth c =
    tells_truth_of c.args.netlist.now c.args.reading.now c.args.told c.args.certificate.now c.in-Ok.verdict c.in_ok-whole.whole.circuit.netlist _
    (rw c.default_for-default.ensures at c.in_ok-whole.ensures.means) c.in_ok-whole.ensures.acyclic c.in_ok-whole.ensures.formed c.in_ok-whole.ensures.outputs
    c.requires.spelled c.in-Ok.ensures.verdict
