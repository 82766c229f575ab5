use Rattle.std.proofs.Common.{◌≡◌, [], drop, take}
use Rattle.td_inputs.specs.Scans.{cut_from}
use Rattle.td_inputs.proofs.scanning.cut.Given as goal

-- the rest has the mark
abbrev pub invariant-loop-at : goal.invariant-loop-at
invariant-loop-at l = cut_from l.mark (take l.at l.text) (drop l.at l.text) ≡ cut_from l.mark [] l.text
