use Rattle.std.proofs.Common.{◌≡◌, reverse, take}
use Rattle.std.specs.List.{AllByRecursion}
use Rattle.td_circuit.specs.Numbering.{setting}
use Rattle.td_certificate.specs.Accepts.{lines_in, IsGood, high_of}
use Rattle.td_certificate.specs.Questions.{asking_of}
use Rattle.td_event_sim.specs.Scratch.{IsFor}
use Rattle.td_checker.specs.Verdicts.{line_total}
use Rattle.td_checker.proofs.Lines.{IsWalked}
use Rattle.td_checker.proofs.checking.first_bad.Given as goal

abbrev pub invariant-loop-node : goal.invariant-loop-node
invariant-loop-node l = record {
  walk : IsWalked l.certificate l.node-index l.walk.cube (reverse l.walk.path.items);
  scratch : IsFor l.circuit l.scratch;
  good : AllByRecursion (IsGood (setting l.circuit) (asking_of l.certificate.question) (high_of l.certificate.claim)) (take l.node-index (lines_in l.certificate));
  before : l.before ≡ line_total (take l.node-index (lines_in l.certificate));
}
