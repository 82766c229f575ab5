-- Asking: which pairs are asked about, by what is admitted and by conditions on nets that are named
-- by numbers.
use Rattle.std.specs.Prelude.{◌≡◌, ℕ, Bool, true, false, ◌&&◌, ◌||◌, List, [], ◌∷◌, ◌++◌, map, slice_get, slice_index_or, Option, Some, None}
use Rattle.std.specs.List.{list_all, list_any, flat_map}
use Rattle.td_gates.specs.declared.primitives.Level.{Level}
use Rattle.td_gates.specs.declared.primitives.Level.TheVariants.{Zero, One, X}
use Rattle.td_gates.specs.Known.{Agrees}
use Rattle.td_gates.specs.Table.{level_eq, level_from}
use Rattle.td_nets.specs.Netlist.{Net, Low, High, Named, Gate, Netlist}
use Rattle.td_circuit.specs.Numbering.{Numbered}
use Rattle.td_circuit.specs.Run.{IsSettled}
use Rattle.td_domain.specs.declared.cubes.Trit.{Trit}
use Rattle.td_domain.specs.Cubes.{level_of_trit}
use Rattle.td_domain.specs.Pairs.{Pair}
use Rattle.td_domain.specs.Admits.{Admitted, IsAdmitted, HasAdmitted}
use Rattle.td_spans.specs.declared.condition.Form.{Form}
use Rattle.td_spans.specs.declared.condition.Form.TheVariants.{Levels, Equal}
use Rattle.td_spans.specs.declared.condition.Condition.{Condition}
use Rattle.td_spans.specs.Conditions.{Asked}
use Rattle.td_spans.specs.Lookups.{net_named}
use Rattle.td_refutation.specs.declared.conditions.NamedCondition.{NamedCondition}

-- the pairs that are asked about: admitted ones that keep these conditions
pub record Asking : Type 0 where
  pub admit : Admitted
  pub keep : List NamedCondition

-- the admitted pairs, without a condition
abbrev pub all_admitted : Admitted → Asking
all_admitted admit = record { admit = admit; keep = [] }

-- ---- what conditions say of a netlist

-- the net that a number names: the constants, the inputs, and then the outputs of the gates, in the
-- netlist's order
abbrev pub net_at : Netlist → ℕ → Option Net
net_at netlist number =
    slice_get (Low ∷ High ∷ map (λ name. Named name) (netlist.inputs ++ map (λ (gate : Gate). gate.output) netlist.gates)) number

-- the settled levels of a net under the first and the second vector are as a condition has them
abbrev pub Keeps : Form → Level → Level → Type 0
Keeps (Levels first second) before after = Agrees first before × Agrees second after
Keeps Equal before after = before ≡ after

-- the pair keeps all conditions on nets that there are
abbrev pub IsKept : Netlist → List NamedCondition → Pair → Type 0
IsKept netlist keep pair = (before after : Net → Level) → IsSettled netlist (map level_from pair.first) before
    → IsSettled netlist (map level_from pair.second) after → (i : ℕ) (condition : NamedCondition) (net : Net)
    → slice_get keep i ≡ Some condition → net_at netlist condition.net ≡ Some net → Keeps condition.form (before net) (after net)

-- the pair is one of those asked about
pub record IsAskedAbout (netlist : Netlist) (asking : Asking) (pair : Pair) : Type 0 where
  pub admitted : IsAdmitted asking.admit pair
  pub kept : IsKept netlist asking.keep pair

-- ---- conditions that no pair of a cube keeps

-- the levels of the first bits of the inputs in a cube, x where free, and those of the second bits
abbrev pub first_levels : List Trit → List Level
first_levels (first ∷ second ∷ cube) = level_of_trit first ∷ first_levels cube
first_levels cube = []

abbrev pub second_levels : List Trit → List Level
second_levels (first ∷ second ∷ cube) = level_of_trit second ∷ second_levels cube
second_levels cube = []

-- the place of an input's bit in a cube, after that of its first bit
abbrev pub side : Bool → ℕ
side true = 1
side false = 0

-- the levels of the second bits, or those of the first
abbrev pub levels_by : Bool → List Trit → List Level
levels_by true cube = second_levels cube
levels_by false cube = first_levels cube

-- both levels are known, and they differ
abbrev pub is_other : Level → Level → Bool
is_other Zero One = true
is_other One Zero = true
is_other this that = false

-- the settled levels of a net, as far as they are known, aren't as a condition has them
abbrev pub breaks : Form → Level → Level → Bool
breaks (Levels first second) before after = is_other first before || is_other second after
breaks Equal before after = is_other before after

-- with x for free bits, some net settles otherwise than a condition on it has it
pub record IsBroken (netlist : Netlist) (keep : List NamedCondition) (cube : List Trit) : Type 0 where
  pub before : Net → Level
  pub after : Net → Level
  pub starts : IsSettled netlist (first_levels cube) before
  pub ends : IsSettled netlist (second_levels cube) after
  pub place : ℕ
  pub condition : NamedCondition
  pub net : Net
  pub stands : slice_get keep place ≡ Some condition
  pub named : net_at netlist condition.net ≡ Some net
  pub broken : breaks condition.form (before net) (after net) ≡ true

-- An admitted pair may lie in the cube: one lies there, and the cube breaks no condition.
abbrev pub MayLie : Netlist → Asking → List Trit → Type 0
MayLie netlist asking cube = HasAdmitted asking.admit cube × (¬ IsBroken netlist asking.keep cube)

-- ---- the same by the numbers of a circuit

-- the condition on a net of the circuit, if there is one
abbrev pub condition_on : Form → Option ℕ → List Condition
condition_on form None = []
condition_on form (Some net) = record { net = net; form = form } ∷ []

abbrev pub condition_in : Numbered → NamedCondition → List Condition
condition_in circuit condition = condition_on condition.form (net_named circuit condition.net)

abbrev pub conditions_in : Numbered → List NamedCondition → List Condition
conditions_in circuit keep = flat_map (condition_in circuit) keep

abbrev pub asked_in : Numbered → Asking → Asked
asked_in circuit asking = record { admit = asking.admit; keep = conditions_in circuit asking.keep }

-- ---- tests, by the levels of the circuit's nets

abbrev pub agrees : Level → Level → Bool
agrees X level = true
agrees known level = level_eq known level

-- whether the settled levels of a net are as a condition has them
abbrev pub keeps : Form → Level → Level → Bool
keeps (Levels first second) before after = agrees first before && agrees second after
keeps Equal before after = level_eq before after

-- whether a test of a form and two levels holds of a net of the circuit, or there is none
abbrev pub is_at : (Form → Level → Level → Bool) → Bool → Form → List Level → List Level → Option ℕ → Bool
is_at test none form before after None = none
is_at test none form before after (Some net) = test form (slice_index_or before net X) (slice_index_or after net X)

-- whether all conditions on nets of the circuit are kept
abbrev pub all_kept : Numbered → List Level → List Level → List NamedCondition → Bool
all_kept circuit before after keep = list_all (λ condition. is_at keeps true condition.form before after (net_named circuit condition.net)) keep

-- whether some condition on a net of the circuit is broken
abbrev pub some_broken : Numbered → List Level → List Level → List NamedCondition → Bool
some_broken circuit before after keep = list_any (λ condition. is_at breaks false condition.form before after (net_named circuit condition.net)) keep
