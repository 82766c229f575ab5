use Rattle.std.proofs.Common.{◌≡◌, length}
use Rattle.td_source.specs.Places.{are_rising}
use Rattle.td_source.proofs.asking.are_rising.Given as goal

abbrev pub invariant-numbers : goal.invariant-numbers
invariant-numbers l = are_rising l.count l.rest ≡ are_rising l.count l.numbers

abbrev pub decreases-numbers : goal.decreases-numbers
decreases-numbers l = length l.rest
