-- What the answers of claims and splits say of the board.
use Rattle.std.specs.Prelude.{◌≡◌, ℕ, ◌+◌, ◌-◌, ◌&&◌, not, List, Option, Some, None, count_by, min, nat_lt, if◌then◌else◌}
use Rattle.td_domain.specs.declared.cubes.Trit.{Trit}
use Rattle.td_book.specs.declared.lease.Claim.{Claim}
use Rattle.td_book.specs.declared.lease.Claim.TheVariants as claims
use Rattle.td_book.specs.declared.lease.Lease.{Lease}
use Rattle.td_book.specs.declared.lease.SplitFault.{SplitFault}
use Rattle.td_book.specs.declared.lease.SplitFault.TheVariants.{OutOfMemory, Stranger}
use Rattle.td_book.specs.Board.{Board, handled, allowed}
use Rattle.td_book.specs.Chained.{is_free, IsFirstOpen}
use Rattle.td_book.specs.Steps.{Leases, Claims, ClaimsAt, IsStranger}
use Rattle.td_book.specs.Steps as steps

-- how many positions of a cube are fixed
abbrev pub fixed : List Trit → ℕ
fixed cube = count_by (λ t. not (is_free t)) cube

-- How many nodes a lease of a leaf with this cube lets its worker handle, where so much of the
-- budget is neither handled nor allowed: 64, or what is left if that is less. Where there are
-- several workers it is 1 while fewer than 8 positions are fixed.
abbrev pub allowance : ℕ → List Trit → ℕ → ℕ
allowance workers cube left = if nat_lt 1 workers && nat_lt (fixed cube) 8 then 1 else min 64 left

-- the lease of this open leaf, with the allowance that it is to have
abbrev pub IsLease : Board → ℕ → ℕ → Lease → Board → Type 0
IsLease b worker number lease c =
    (lease.number ≡ number) × (lease.allowance ≡ allowance b.workers lease.cube (b.budget - (handled b + allowed b)))
    × Leases b worker lease c

-- a step, which leases the first open leaf
abbrev pub Claimed : Board → ℕ → Claim → Board → Type 0
Claimed b worker claims.Done c = Claims b worker steps.Done c
Claimed b worker claims.Spent c = Claims b worker steps.Spent c
Claimed b worker claims.Idle c = Claims b worker steps.Idle c
Claimed b worker (claims.Lease lease) c =
    IsFirstOpen lease.number b.nodes × IsLease b worker lease.number lease c

-- a fault of a split: the lease comes back, and nothing changes
abbrev pub IsSplitFault : Board → Lease → SplitFault → Board → Type 0
IsSplitFault b lease (OutOfMemory back) c = (back ≡ lease) × (c ≡ b)
IsSplitFault b lease (Stranger back) c = (back ≡ lease) × IsStranger b lease c

-- a claim of the leaf of this number: a step, which leases it where it is open and the budget
-- allows it
abbrev pub ClaimedAt : Board → ℕ → ℕ → Option Lease → Board → Type 0
ClaimedAt b worker number None c = ClaimsAt b worker number steps.Refused c
ClaimedAt b worker number (Some lease) c = IsLease b worker number lease c
