-- Times: what the times of a net say of its levels by place. Place n is just before moment n.
use Rattle.std.specs.Prelude.{◌≡◌, ℕ, ◌≤◌, nat_le, Bool, true, false, List, slice_get, Option, Some, None}
use Rattle.td_spans.specs.declared.times.Places.{Places}
use Rattle.td_spans.specs.declared.times.Times.{Times}

-- whether the place isn't after the last one, where there is one
abbrev pub is_by : ℕ → Option ℕ → Bool
is_by place None = true
is_by place (Some last) = nat_le place last

-- the place for a level
abbrev pub place_for : Places → Bool → ℕ
place_for places true = places.one
place_for places false = places.zero

-- A net with these levels, which ends at this level: it keeps the level at which it starts up to its
-- early place, for ever where there is none, and has the level at which it ends from the end for that
-- level on.
pub record AreTimes (times : Times) (levels : ℕ → Bool) (final : Bool) : Type 0 where
  pub keeps : (n : ℕ) → is_by n times.early ≡ true → levels n ≡ levels 0
  pub rests : (n : ℕ) → place_for times.ends final ≤ n → levels n ≡ final

-- the times of all nets are right for these levels and these last levels
abbrev pub AreAllTimes : List Times → (ℕ → ℕ → Bool) → (ℕ → Bool) → Type 0
AreAllTimes times level final = (net : ℕ) (it : Times) → slice_get times net ≡ Some it → AreTimes it (level net) (final net)
