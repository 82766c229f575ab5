-- Renaming: nets by other numbers.
use Rattle.std.proofs.Common.{◌≡◌, ℕ, ◌+◌, ◌<◌, ◌≤◌, List, [], ◌∷◌, length, map, refl, ap, sym, ◌∙◌, inl, inr}
use Rattle.std.specs.Prelude.{◌==◌, slice_get, option_map}
use Rattle.std.proofs.lemmas.Bool.{cases_eq, eq-eqb, ne_eqb}
use Rattle.td_circuit.specs.Numbering.{NumberedGate, Numbered, first_output}
use Rattle.td_spans.specs.declared.condition.Condition.{Condition}
use Rattle.td_spans.specs.declared.times.Times.{Times}
use Rattle.td_spans.specs.declared.variable.Saying.{Saying}
use Rattle.td_spans.specs.declared.variable.Variable.{Variable}
use Rattle.td_spans.specs.declared.variable.Variable.TheVariants.{First, Last, Span, Flips}
use Rattle.td_spans.specs.Conditions.{Asked}
use Rattle.td_spans.specs.Lookups.{net_named, IsDriven, driver}

abbrev pub renamed_saying : (ℕ → ℕ) → Saying → Saying
renamed_saying r saying = record { net = r saying.net; level = saying.level; first = saying.first; last = saying.last }

abbrev pub renamed_variable : (ℕ → ℕ) → Variable → Variable
renamed_variable r (First net) = First (r net)
renamed_variable r (Last net) = Last (r net)
renamed_variable r (Span saying) = Span (renamed_saying r saying)
renamed_variable r (Flips inputs count) = Flips inputs count

abbrev pub renamed_gate : (ℕ → ℕ) → NumberedGate → NumberedGate
renamed_gate r gate = record { kind = gate.kind; delay = gate.delay; inputs = map r gate.inputs }

abbrev pub renamed_condition : (ℕ → ℕ) → Condition → Condition
renamed_condition r condition = record { net = r condition.net; form = condition.form }

abbrev pub renamed_asked : (ℕ → ℕ) → Asked → Asked
renamed_asked r asked = record { admit = asked.admit; keep = map (renamed_condition r) asked.keep }

-- no two numbers become one
abbrev pub IsOneOne : (ℕ → ℕ) → Type 0
IsOneOne r = (n m : ℕ) → r n ≡ r m → n ≡ m

-- the nets have the same times by their new numbers
abbrev pub AreRenamed : (ℕ → ℕ) → List Times → List Times → Type 0
AreRenamed r times times' = (n : ℕ) → slice_get times' (r n) ≡ slice_get times n

-- The second circuit is the first by other numbers: constants and inputs keep theirs.
pub record IsRenaming (this that : Numbered) (r : ℕ → ℕ) : Type 0 where
  pub one_one : IsOneOne r
  pub inputs : length that.netlist.inputs ≡ length this.netlist.inputs
  pub moments : that.moments ≡ this.moments
  pub gates : length that.gates ≡ length this.gates
  pub fixed : (n : ℕ) → n < first_output this → r n ≡ n
  pub behind : (n : ℕ) → first_output this ≤ n → first_output this ≤ r n
  pub past : (n : ℕ) → first_output this + length this.gates ≤ n → first_output this + length this.gates ≤ r n
  pub driven : (n : ℕ) → IsDriven this n → IsDriven that (r n)
  pub drivers : (n : ℕ) → IsDriven this n → driver that (r n) ≡ renamed_gate r (driver this n)
  pub named : (number : ℕ) → net_named that number ≡ option_map r (net_named this number)
  pub outputs : that.outputs ≡ map r this.outputs

-- whether two nets are one doesn't change
pub same_test : (r : ℕ → ℕ) → IsOneOne r → (n m : ℕ) → (r n == r m) ≡ (n == m)
same_test r one_one n m = elim (cases_eq n m) [
  | inl same ↦ eq-eqb (r n) (r m) (ap r same) ∙ sym (eq-eqb n m same)
  | inr other ↦ ne_eqb (r n) (r m) (λ is. other (one_one n m is)) ∙ sym (ne_eqb n m other)
]

pub same_map : {A : Type 0} (r : ℕ → ℕ) (f g : ℕ → A) (xs : List ℕ) → ((x : ℕ) → f (r x) ≡ g x) → map f (map r xs) ≡ map g xs
same_map r f g [] same = refl
same_map r f g (x ∷ xs) same = ap (λ y. y ∷ map f (map r xs)) (same x) ∙ ap (λ ys. g x ∷ ys) (same_map r f g xs same)
