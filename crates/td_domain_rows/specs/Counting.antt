-- A domain whose signals say whether a known bit reaches the net.
use Rattle.std.specs.Prelude.{◌≡◌, ◌||◌, ℕ, Bool, true, false, List, Option, Some, None}
use Rattle.std.specs.List.{list_any}
use Rattle.std.proofs.Common.{◌≤◌, arith}
use Rattle.td_domain.specs.declared.cubes.Trit.{Trit}
use Rattle.td_domain.specs.declared.cubes.Trit.TheVariants.{Zero, One, Free}
use Rattle.td_domain.specs.Functions.{Functions}

-- whether the bit is known
abbrev pub is_known : Trit → Bool
is_known Zero = true
is_known One = true
is_known Free = false

-- whether a known bit reaches one of these nets
abbrev pub is_one : List Bool → Bool
is_one signals = list_any (λ signal. signal) signals

-- a known bit of an input reaches it, and all gates behind it; no last moment is known
abbrev pub counting_functions : Functions Bool
counting_functions = record {
  input_of = λ first second moment. is_known first || is_known second;
  constant_of = λ one. false;
  gate_of = λ kind delay signals. is_one signals;
  last_of = λ signal. None;
}

-- where no last moment is known, nothing has to be said of it
pub unknown : {P : Type 0} (moment : ℕ) → None ≡ Some moment → P
unknown moment is = cc

-- the reach of each signal is 0
pub near : (moment : ℕ) → 0 ≤ moment
near moment = omega arith
