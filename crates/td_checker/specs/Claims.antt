-- Internal: what is claimed, and how many lines tell it.
use Rattle.std.specs.Prelude.{◌≡◌, ℕ, length, Option, Some, None}
use Rattle.td_certificate.specs.declared.certificate.Claim.{Claim}
use Rattle.td_certificate.specs.declared.question.Version.{Version}
use Rattle.td_certificate.specs.declared.question.Version.TheVariants.{First, Second, Third, Fourth}

-- the vectors of a pair that is claimed have a bit for each of this number of inputs
abbrev pub HaveVectors : ℕ → Option Claim → Type 0
HaveVectors count None = Unit {0}
HaveVectors count (Some claim) = (length claim.pair.first ≡ count) × (length claim.pair.second ≡ count)

-- on which line the tree begins, where a pair is claimed
abbrev pub lines_before : Version → ℕ
lines_before First = 6
lines_before Second = 10
lines_before Third = 11
lines_before Fourth = 15
