use Rattle.std.proofs.Common.{◌≡◌, take}
use Rattle.std.specs.Prelude.{All}
use Rattle.td_cli.specs.Clashes.{KeepsRead}
use Rattle.td_cli.proofs.outputs.over_one_of.Given as goal

abbrev pub invariant-loop-name : goal.invariant-loop-name
invariant-loop-name g l =
    (l.files ≡ l.initial.files)
    × All (λ word. KeepsRead (g.F.Files.disk l.initial.files) l.out word.now) (take l.name-index l.names)
