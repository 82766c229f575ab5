-- How a gate's target follows from how many of its inputs are at 1.
use Rattle.std.specs.Prelude.{◌≡◌, ℕ, ◌+◌, ◌%◌, ◌==◌, ◌⊎◌, Bool, not, List, [], ◌∷◌, ◌++◌, length, map, slice_get, slice_index, Some, cond}
use Rattle.std.specs.List.{Contains}
use Rattle.td_gates.specs.declared.primitives.Kind.{Kind}
use Rattle.td_gates.specs.declared.primitives.Kind.TheVariants.{And, Nand, Or, Nor, Xor, Xnor, Buf, Not}
use Rattle.td_circuit.specs.Numbering.{NumberedGate}
use Rattle.td_event_sim.specs.declared.rules.Rule.{Rule}
use Rattle.td_event_sim.specs.declared.rules.Tally.{Tally}

-- whether the target of a gate is 1, by the number of its inputs and the number of those at 1
abbrev pub target_by : Kind → ℕ → ℕ → Bool
target_by And inputs ones = ones == inputs
target_by Nand inputs ones = not (ones == inputs)
target_by Or inputs ones = not (ones == 0)
target_by Nor inputs ones = ones == 0
target_by Xor inputs ones = ones % 2 == 1
target_by Xnor inputs ones = not (ones % 2 == 1)
target_by Buf inputs ones = ones == inputs
target_by Not inputs ones = not (ones == inputs)

-- whether as many inputs are at 1 as a rule wants
abbrev pub is_met_by : Rule → ℕ → Bool
is_met_by rule ones = cond rule.by_parity (ones % 2) ones == rule.wanted

-- whether the target by a rule is 1, by the number of inputs at 1
abbrev pub target_by_rule : Rule → ℕ → Bool
target_by_rule rule ones = cond rule.is_negated (not (is_met_by rule ones)) (is_met_by rule ones)

-- the rule gives the gate's targets, and has its delays
pub record IsRuleOf (gate : NumberedGate) (rule : Rule) : Type 0 where
  pub delay : rule.delay ≡ gate.delay
  pub target : (ones : ℕ) → target_by_rule rule ones ≡ target_by gate.kind (length gate.inputs) ones

abbrev pub ones_of : List Tally → List ℕ
ones_of tallies = map (λ tally. tally.ones) tallies

abbrev pub rules_of : List Tally → List Rule
rules_of tallies = map (λ tally. tally.rule) tallies

-- the rules are those of the gates
abbrev pub AreRules : List NumberedGate → List Rule → Type 0
AreRules gates rules = (place : ℕ) (gate : NumberedGate) (rule : Rule) → slice_get gates place ≡ Some gate → slice_get rules place ≡ Some rule
    → IsRuleOf gate rule

-- a gate's output is added to these, or its target by one count is that by the other
abbrev pub IsReported : Rule → ℕ → ℕ → ℕ → List ℕ → List ℕ → Type 0
IsReported rule before after output outputs new_outputs =
    (new_outputs ≡ outputs ++ output ∷ []) ⊎ ((new_outputs ≡ outputs) × (target_by_rule rule before ≡ target_by_rule rule after))

-- the output of each gate is among these whose target by these counts isn't the one by those before
abbrev pub AreReported : ℕ → List Rule → List ℕ → List ℕ → List ℕ → Type 0
AreReported first_output rules ones new_ones outputs = (place : ℕ) (rule : Rule) → slice_get rules place ≡ Some rule
    → Contains outputs (first_output + place) ⊎ (target_by_rule rule (slice_index ones place) ≡ target_by_rule rule (slice_index new_ones place))
