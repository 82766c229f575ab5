use Rattle.std.proofs.Common.{◌≡◌, take}
use Rattle.std.specs.List.{AllZip}
use Rattle.td_cli.proofs.Holding.{HoldsWord}
use Rattle.td_cli.proofs.bytes.bytes_of_parts.Given as goal

abbrev pub invariant-loop-name : goal.invariant-loop-name
invariant-loop-name g l =
    (l.files ≡ l.initial.files) × AllZip (HoldsWord ((g.F.Files.disk l.initial.files).holds)) (take l.name-index l.names) l.all.items
