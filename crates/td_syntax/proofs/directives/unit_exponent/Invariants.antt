use Rattle.std.proofs.Common.{◌≡◌, take}
use Rattle.td_syntax.specs.Grammar.{unit_exponent}
use Rattle.td_syntax.proofs.directives.unit_exponent.Given as goal

abbrev pub invariant-loop-front : goal.invariant-loop-front
invariant-loop-front l = l.tens ≡ unit_exponent (take l.front-index l.fronts)
