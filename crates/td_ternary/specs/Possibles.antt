-- Possible levels: a signal is a wave whose level x stands for both Boolean levels. The signals of
-- inputs, constants and gates.
use Rattle.std.specs.Prelude.{ℕ, zero, suc, ◌+◌, ◌-◌, max, nat_le, Bool, true, false, not, ◌&&◌, ◌||◌, List, [], ◌∷◌, ◌++◌, length, take, drop, Option, Some, None, if◌then◌else◌}
use Rattle.td_gates.specs.declared.primitives.Level.{Level}
use Rattle.td_gates.specs.declared.primitives.Level.TheVariants.{Zero as Low, One as High, X}
use Rattle.td_gates.specs.declared.primitives.Kind.{Kind}
use Rattle.td_gates.specs.declared.timing.Delay.{Delay}
use Rattle.td_gates.specs.declared.timing.Change.{Change}
use Rattle.td_gates.specs.Table.{level_from, level_eq}
use Rattle.td_gates.specs.Wave.{Wave}
use Rattle.td_gates.specs.Schedule.{target_before}
use Rattle.td_domain.specs.declared.cubes.Trit.{Trit}
use Rattle.td_domain.specs.Cubes.{level_of_trit}
use Rattle.td_domain.specs.Functions.{Functions}

-- the level is among those that the signal's level stands for
abbrev pub has : Level → Level → Bool
has Low Low = true
has High High = true
has X Low = true
has X High = true
has set level = false

-- the level that stands for those that may be, one of which may
abbrev pub set_of : Bool → Bool → Level
set_of true true = X
set_of true false = Low
set_of false one = High

-- a change, where the level is another
abbrev pub change_at : ℕ → Level → Level → List Change
change_at moment old new = if level_eq old new then [] else (record { moment = moment; level = new } ∷ [])

-- an input: the first trit, from its moment on the second
abbrev pub input_signal : Trit → Trit → ℕ → Wave
input_signal first second moment = record {
  start = level_of_trit first;
  changes = change_at moment (level_of_trit first) (level_of_trit second);
}

abbrev pub constant_signal : Bool → Wave
constant_signal one = record { start = level_from one; changes = [] }

-- the test passes at each of the d places up to t (below place 0 it is place 0)
abbrev pub held_for : (ℕ → Bool) → ℕ → ℕ → Bool
held_for test zero t = true
held_for test (suc d) t = test (t - d) && held_for test d t

-- Whether a level is possible, place by place, where `may` says whether the target may be that
-- level. It comes where the target may have been that level all the while that it takes to come,
-- and stays unless the target surely was the other level all the while that it takes to go.
abbrev pub is_possible : (ℕ → Bool) → ℕ → ℕ → ℕ → Bool
is_possible may coming going zero = may 0
is_possible may coming going (suc t) =
    held_for may coming t || (is_possible may coming going t && not (held_for (λ n. not (may n)) going t))

-- the possible levels of a gate's output just before a moment
abbrev pub possible : Kind → Delay → List Wave → ℕ → Level
possible kind delay signals n = set_of
    (is_possible (λ m. has (target_before kind signals m) Low) delay.fall delay.rise n)
    (is_possible (λ m. has (target_before kind signals m) High) delay.rise delay.fall n)

-- the changes of levels given place by place, at the moments below this one
abbrev pub changes_below : (ℕ → Level) → ℕ → List Change
changes_below levels zero = []
changes_below levels (suc t) = changes_below levels t ++ change_at t (levels t) (levels (suc t))

-- the greatest moment of a change, 0 where there is none
abbrev pub last_change : List Change → ℕ
last_change [] = 0
last_change (change ∷ later) = max change.moment (last_change later)

abbrev pub last_input : List Wave → ℕ
last_input [] = 0
last_input (signal ∷ signals) = max (last_change signal.changes) (last_input signals)

-- the level after all changes
abbrev pub last_level : Level → List Change → Level
last_level levels [] = levels
last_level levels (change ∷ later) = last_level change.level later

-- the first changes, and both levels from the moment of the next one on
abbrev pub widened : Level → List Change → List Change → List Change
widened start first [] = first
widened start first (change ∷ later) = first ++ change_at change.moment (last_level start first) X

-- at most 512 changes: of more the first 511 stay, and from the moment of the 512th on both levels
-- are possible
abbrev pub capped : Level → List Change → List Change
capped start changes =
    if nat_le (length changes) 512 then changes else widened start (take 511 changes) (drop 511 changes)

-- the signal of a gate's output
abbrev pub gate_signal : Kind → Delay → List Wave → Wave
gate_signal kind delay signals = record {
  start = possible kind delay signals 0;
  changes = capped (possible kind delay signals 0)
      (changes_below (possible kind delay signals) (last_input signals + max delay.rise delay.fall + 1));
}

-- none where the last level stands for both, else the moment of the last change, 0 where there is
-- none
abbrev pub last_of : Wave → Option ℕ
last_of signal = if level_eq (last_level signal.start signal.changes) X then None else Some (last_change signal.changes)

-- the domain of possible levels
abbrev pub possible_functions : Functions Wave
possible_functions = record {
  input_of = input_signal;
  constant_of = constant_signal;
  gate_of = gate_signal;
  last_of = last_of;
}
