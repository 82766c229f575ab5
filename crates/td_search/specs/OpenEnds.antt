-- Internal: an output that may change as late as any, and whose level after that isn't known.
use Rattle.std.specs.Prelude.{◌≡◌, ℕ, ◌<◌, List, length, slice_get, slice_index, Option, Some}
use Rattle.td_gates.specs.declared.primitives.Level.{Level}
use Rattle.td_gates.specs.declared.primitives.Level.TheVariants.{X}

-- one of the nets has a signal with this last moment and no known finish
pub record HasOpenEnd {Sig : Type 0} (last_of : Sig → Option ℕ) (finish_of : Sig → Level) (signals : List Sig) (nets : List ℕ) (moment : ℕ) : Type 0 where
  pub place : ℕ
  pub within : place < length nets
  pub signal : Sig
  pub stands : slice_get signals (slice_index nets place) ≡ Some signal
  pub last : last_of signal ≡ Some moment
  pub unknown : finish_of signal ≡ X
