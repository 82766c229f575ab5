use Rattle.std.proofs.Common.{◌≡◌, map, take}
use Rattle.std.specs.List.{fold}
use Rattle.td_inputs.specs.Scans.{nothing, scan_in, turn}
use Rattle.td_inputs.proofs.scanning.parted.Given as goal

-- the words so far, parted
abbrev pub invariant-loop-word : goal.invariant-loop-word
invariant-loop-word g l = scan_in l.scan ≡ fold turn nothing (map g.S.AsStr.text (take l.word-index l.words))
