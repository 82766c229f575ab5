-- Internal: a claim with the other moment of another one.
use Rattle.std.specs.Prelude.{ℕ, Option, Some, None}
use Rattle.td_certificate.specs.declared.certificate.Claim.{Claim}

-- the claim, with the moment after which, by the other one, no admitted pair changes an output
abbrev pub high_or : ℕ → Option Claim → ℕ
high_or high None = high
high_or high (Some other) = other.high

abbrev pub raised : Option Claim → Option Claim → Option Claim
raised None other = None
raised (Some claim) other = Some (record claim { high = high_or claim.high other })
