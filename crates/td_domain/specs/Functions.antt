-- The functions of a domain.
use Rattle.std.specs.Prelude.{ℕ, Bool, List, Option}
use Rattle.td_gates.specs.declared.primitives.Kind.{Kind}
use Rattle.td_gates.specs.declared.timing.Delay.{Delay}
use Rattle.td_domain.specs.declared.cubes.Trit.{Trit}

-- The signal of an input by its two trits and its moment, that of a constant, that of a gate's
-- output by those of its inputs, and a moment after which no wave that a signal covers changes,
-- where the signal knows one.
pub record Functions (Sig : Type 0) : Type 0 where
  pub input_of : Trit → Trit → ℕ → Sig
  pub constant_of : Bool → Sig
  pub gate_of : Kind → Delay → List Sig → Sig
  pub last_of : Sig → Option ℕ
