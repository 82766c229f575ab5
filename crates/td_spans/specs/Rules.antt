-- Rules: the ends of gates' outputs by the ends of their inputs.
use Rattle.std.specs.Prelude.{ℕ, zero, suc, ◌+◌, max, Bool, not, List, [], ◌∷◌, map, get_or, None}
use Rattle.td_gates.specs.declared.primitives.Kind.{Kind}
use Rattle.td_gates.specs.declared.primitives.Kind.TheVariants.{And, Nand, Or, Nor, Xor, Xnor, Buf, Not}
use Rattle.td_gates.specs.declared.timing.Delay.{Delay}
use Rattle.td_spans.specs.Targets.{steps_to}
use Rattle.td_spans.specs.declared.times.Places.{Places}
use Rattle.td_spans.specs.declared.times.Times.{Times}
use Rattle.td_spans.specs.Times.{place_for}

abbrev pub both : ℕ → Places
both place = record { zero = place; one = place }

-- The greatest of an input's places for the levels at which it counts where the output is at a
-- level: the same level, the other one, or both.
abbrev pub greatest_for : Kind → Bool → Places → ℕ
greatest_for And level places = place_for places level
greatest_for Or level places = place_for places level
greatest_for Buf level places = place_for places level
greatest_for Nand level places = place_for places (not level)
greatest_for Nor level places = place_for places (not level)
greatest_for Not level places = place_for places (not level)
greatest_for Xor level places = max places.zero places.one
greatest_for Xnor level places = max places.zero places.one

abbrev pub greatest_of : Kind → Bool → List Places → ℕ
greatest_of kind level [] = 0
greatest_of kind level (places ∷ others) = max (greatest_for kind level places) (greatest_of kind level others)

-- a place later by these steps, where it isn't 0
abbrev pub put_off : ℕ → ℕ → ℕ
put_off zero steps = 0
put_off (suc place) steps = suc place + steps

abbrev pub ends_of : List Times → List Places
ends_of times = map (λ (it : Times). it.ends) times

-- what there is of a net without times
abbrev pub no_times : Times
no_times = record { early = None; ends = both 0 }

-- the times of nets by number
abbrev pub times_of : List Times → List ℕ → List Times
times_of times nets = map (λ net. get_or times net no_times) nets

-- The end of a gate's output for a level, by the ends of its inputs.
abbrev pub end_by : Kind → Delay → List Times → Bool → ℕ
end_by kind delay ins level = put_off (greatest_of kind level (ends_of ins)) (steps_to delay level)
