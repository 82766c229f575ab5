-- Walking: where an output is surely at a level, from stretch to stretch of places at which its
-- target surely is, or isn't.
use Rattle.std.specs.Prelude.{◌≡◌, ℕ, ◌+◌, ◌-◌, ◌<◌, ◌≤◌, ◌==◌, nat_le, nat_lt, Bool, true, false, ◌&&◌, ◌||◌, Option, Some, None, if◌then◌else◌}
use Rattle.td_spans.specs.declared.variable.Saying.{Saying}
use Rattle.td_spans.specs.declared.walk.Sure.{Sure}
use Rattle.td_spans.specs.declared.walk.Walk.{Walk}
use Rattle.td_spans.specs.Sure.{IsSure}

-- the place is before the end, where there is one
abbrev pub is_before : ℕ → Option ℕ → Bool
is_before place None = true
is_before place (Some end) = nat_lt place end

-- the place is before the end, or fewer than these steps after it
abbrev pub is_soon : ℕ → ℕ → Option ℕ → Bool
is_soon place going None = true
is_soon place going (Some end) = nat_lt place end || nat_lt (place - end) going

-- since when the output surely is at the level, where it is at this place
abbrev pub old_since : Option Sure → ℕ → ℕ → Option ℕ
old_since None place going = None
old_since (Some sure) place going = if nat_le sure.since place && is_soon place going sure.end then Some sure.since else None

-- where a run starts that goes on at a place
abbrev pub start_of : Option ℕ → ℕ → ℕ
start_of None place = place
start_of (Some from) place = from

-- no stretch begins after this place, which is one above the greatest number of 64 bits
abbrev pub TOP : ℕ
TOP = 18446744073709551616

-- since when the output surely is at the level by a window from a place on
abbrev pub window_since : ℕ → Option ℕ → ℕ → Option ℕ
window_since from None coming = if nat_le from TOP then Some (from + coming) else None
window_since from (Some next) coming = if nat_le from next && nat_le coming (next - from) then Some (from + coming) else None

abbrev pub fresh_since : Option ℕ → ℕ → Option ℕ → ℕ → Option ℕ
fresh_since run place next coming = if place == 0 then Some 0 else window_since (start_of run place) next coming

abbrev pub since_by : Option ℕ → Option ℕ → ℕ → Option ℕ → ℕ → Option ℕ
since_by None run place next coming = fresh_since run place next coming
since_by (Some since) run place next coming = Some since

abbrev pub sure_from : Option ℕ → Option ℕ → Option Sure
sure_from None next = None
sure_from (Some since) next = Some (record { since = since; end = next })

-- A walk after a stretch from a place to the next one, where the target surely is at the level in
-- it, or isn't.
abbrev pub walked : Walk → Bool → ℕ → Option ℕ → ℕ → ℕ → Walk
walked walk false place next coming going = record { run = None; sure = walk.sure }
walked walk true place next coming going = record {
  run = Some (start_of walk.run place);
  sure = sure_from (since_by (old_since walk.sure place going) walk.run place next coming) next;
}

-- whether the last place, if there is one, is before the end or soon after it
abbrev pub is_last_soon : Option ℕ → ℕ → Option ℕ → Bool
is_last_soon (Some last) going end = is_soon last going end
is_last_soon None going None = true
is_last_soon None going (Some end) = false

-- whether the output surely is at the level at all places of a saying
abbrev pub is_covered : Option Sure → Saying → ℕ → Bool
is_covered None saying going = false
is_covered (Some sure) saying going = nat_le sure.since saying.first && is_last_soon saying.last going sure.end

-- the test passes at each place from the start of the run on and before this place
abbrev pub IsRun : (ℕ → Bool) → ℕ → Option ℕ → Type 0
IsRun known place None = Unit {0}
IsRun known place (Some from) = (from ≤ place) × ((n : ℕ) → from ≤ n → n < place → known n ≡ true)

-- the output surely is at the level at each of these places
abbrev pub IsSureFor : (ℕ → Bool) → ℕ → ℕ → Option Sure → Type 0
IsSureFor known coming going None = Unit {0}
IsSureFor known coming going (Some sure) = (n : ℕ) → sure.since ≤ n → is_soon n going sure.end ≡ true → IsSure known coming going n

-- what a walk has at a place
pub record IsWalk (known : ℕ → Bool) (coming going place : ℕ) (walk : Walk) : Type 0 where
  pub run : IsRun known place walk.run
  pub sure : IsSureFor known coming going walk.sure

-- at each place of a stretch the test passes, or doesn't
abbrev pub IsStretch : (ℕ → Bool) → Bool → ℕ → Option ℕ → Type 0
IsStretch known passes place next = (n : ℕ) → place ≤ n → is_before n next ≡ true → known n ≡ passes

-- what a walk has after a stretch, if there is a place after it
abbrev pub IsWalkTo : (ℕ → Bool) → ℕ → ℕ → Option ℕ → Walk → Type 0
IsWalkTo known coming going None walk = IsSureFor known coming going walk.sure
IsWalkTo known coming going (Some next) walk = IsWalk known coming going next walk
