-- Two domains at once: their signals are pairs.
use Rattle.std.specs.Prelude.{ℕ, min, List, [], ◌∷◌, map, Option, Some, None}
use Rattle.td_domain.specs.Functions.{Functions}

-- the lesser of those that are there
abbrev pub lesser : Option ℕ → Option ℕ → Option ℕ
lesser None b = b
lesser (Some a) None = Some a
lesser (Some a) (Some b) = Some (min a b)

-- both signals at once, and the lesser of their last moments
abbrev pub both_functions : {S T : Type 0} → Functions S → Functions T → Functions (S × T)
both_functions these those = record {
  input_of = λ first second moment. (these.input_of first second moment, those.input_of first second moment);
  constant_of = λ one. (these.constant_of one, those.constant_of one);
  gate_of = λ kind delay signals. (
    these.gate_of kind delay (map (λ signal. signal.0) signals),
    those.gate_of kind delay (map (λ signal. signal.1) signals),
  );
  last_of = λ signal. lesser (these.last_of signal.0) (those.last_of signal.1);
}

-- the signals of two domains side by side
abbrev pub pairs : {S T : Type 0} → List S → List T → List (S × T)
pairs [] others = []
pairs (signal ∷ signals) [] = []
pairs (signal ∷ signals) (other ∷ others) = (signal, other) ∷ pairs signals others
