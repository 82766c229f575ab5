-- The last moment of a signal is within its reach.
use Rattle.std.proofs.Common.{◌≡◌, ℕ, ◌≤◌, arith, Option, Some, ◌⊎◌, inl, inr}

pub within_reach : {S : Type 0} (last_of : S → Option ℕ) (has_moment : S → ℕ → Type 0) (reach : S → ℕ)
    → ((signal : S) (moment : ℕ) → last_of signal ≡ Some moment → (moment ≡ 0) ⊎ has_moment signal moment)
    → ((signal : S) (moment : ℕ) → has_moment signal moment → moment ≤ reach signal)
    → (signal : S) (moment : ℕ) → last_of signal ≡ Some moment → moment ≤ reach signal
within_reach last_of has_moment reach last_is_moment reach_each signal moment is = elim (last_is_moment signal moment is) [
  | inl first ↦ omega arith
  | inr there ↦ reach_each signal moment there
]
