-- Gates that read no changed signal.
use Rattle.std.proofs.Common.{◌≡◌, ◌≢◌, ℕ, ◌+◌, ◌<◌, Bool, true, false, List, length, set, arith, sym, ap, ◌∙◌, inl, inr, Some, true≢false}
use Rattle.std.specs.Prelude.{slice_get, filter_map}
use Rattle.std.specs.List.{Contains}
use Rattle.std.proofs.lemmas.Bool.{cases_eq}
use Rattle.std.proofs.lemmas.List.{set-get_or}
use Rattle.std.proofs.lemmas.Option.{slice_get_within, get_or_from_slice_get}
use Rattle.std.proofs.lemmas.List.Elements.{recursion_from_All}
use Rattle.td_gates.proofs.Places.{some-same, slice_get-set_same, slice_get-set_other, All-from_contains}
use Rattle.td_circuit.specs.Numbering.{NumberedGate, Numbered, nets, first_output, IsNumbering}
use Rattle.td_circuit.proofs.Nets.{length-nets}
use Rattle.td_domain.specs.declared.cubes.Trit.{Trit}
use Rattle.td_domain.specs.Functions.{Functions}
use Rattle.td_domain.specs.FirstSignals.{AreFirstSignals}
use Rattle.td_domain.specs.Redoing.{AreSettled}
use Rattle.td_domain.proofs.Lists.{filter_map-same}

-- what stands at a place, written there again
pub set-known : {X : Type 0} (xs : List X) (i : ℕ) (x : X) → slice_get xs i ≡ Some x → set xs i x ≡ xs
set-known xs i x at = ap (λ y. set xs i y) (sym (get_or_from_slice_get xs i x x at)) ∙ set-get_or xs i x

-- a place whose mark is false is none whose mark is true
unlike : (marks : List Bool) (a b : ℕ) → slice_get marks a ≡ Some false → slice_get marks b ≡ Some true → a ≢ b
unlike marks a b false_at true_at same =
    true≢false (some-same true false (sym true_at ∙ ap (λ n. slice_get marks n) (sym same) ∙ false_at))

-- what is read at places other than one that is written
picks-stay : {X : Type 0} (xs : List X) (n : ℕ) (x : X) (places : List ℕ) → ((place : ℕ) → Contains places place → place ≢ n)
    → filter_map (slice_get (set xs n x)) places ≡ filter_map (slice_get xs) places
picks-stay xs n x places apart = filter_map-same (slice_get (set xs n x)) (slice_get xs) places
    (recursion_from_All (λ place. slice_get (set xs n x) place ≡ slice_get xs place) places
    (All-from_contains (λ place. slice_get (set xs n x) place ≡ slice_get xs place) places
    (λ place has. slice_get-set_other xs n x place (apart place has))))

module _ {Sig : Type 0} (functions : Functions Sig) (circuit : Numbered) (numbering : IsNumbering circuit) where
  -- an input's signal changes, and its net is marked
  pub settled-first : (reach : Sig → ℕ) (wide : List Trit) (old : List Sig) (input : ℕ) (x : Sig) (marks : List Bool)
      → length old ≡ length (nets circuit) → AreFirstSignals functions reach circuit wide old → input < length circuit.netlist.inputs
      → slice_get marks (2 + input) ≡ Some true → AreSettled functions circuit marks (set old (2 + input) x)
  settled-first reach wide old input x marks count is_front early marked = λ place gate stands unmarked.
      let within : place < length circuit.gates = slice_get_within circuit.gates place gate stands in
      let same : filter_map (slice_get (set old (2 + input) x)) gate.inputs ≡ filter_map (slice_get old) gate.inputs =
      picks-stay old (2 + input) x gate.inputs (λ net has. unlike marks net (2 + input) (unmarked net has) marked) in
      slice_get-set_other old (2 + input) x (first_output circuit + place) (λ e. absurd (omega arith))
      ∙ is_front.gates place gate stands (omega (arith, count, length-nets circuit numbering))
      ∙ ap (λ picks. Some (functions.gate_of gate.kind gate.delay picks)) (sym same)

  -- a gate's output changes, and is marked
  pub settled-next : (place : ℕ) (gate : NumberedGate) (signals : List Sig) (marks : List Bool) (x : Sig)
      → slice_get circuit.gates place ≡ Some gate
      → length signals ≡ length (nets circuit) → length marks ≡ length signals
      → x ≡ functions.gate_of gate.kind gate.delay (filter_map (slice_get signals) gate.inputs)
      → AreSettled functions circuit marks signals
      → AreSettled functions circuit (set marks (first_output circuit + place) true) (set signals (first_output circuit + place) x)
  settled-next place gate signals marks x stands count marks_count is settled = λ other another others unmarked.
      let within : place < length circuit.gates = slice_get_within circuit.gates place gate stands in
      let here : first_output circuit + place < length signals = omega (arith, count, length-nets circuit numbering) in
      let marked : slice_get (set marks (first_output circuit + place) true) (first_output circuit + place) ≡ Some true =
      slice_get-set_same marks (first_output circuit + place) true (omega arith) in
      let apart : (net : ℕ) → Contains another.inputs net → net ≢ first_output circuit + place =
      λ net has. unlike (set marks (first_output circuit + place) true) net (first_output circuit + place) (unmarked net has) marked in
      let same : filter_map (slice_get (set signals (first_output circuit + place) x)) another.inputs ≡ filter_map (slice_get signals) another.inputs =
      picks-stay signals (first_output circuit + place) x another.inputs apart in
      let before : (net : ℕ) → Contains another.inputs net → slice_get marks net ≡ Some false =
      λ net has. sym (slice_get-set_other marks (first_output circuit + place) true net (apart net has)) ∙ unmarked net has in
      elim (cases_eq other place) [
        | inl equal ↦
            let gates : gate ≡ another = some-same gate another (sym stands ∙ ap (λ n. slice_get circuit.gates n) (sym equal) ∙ others) in
            ap (λ n. slice_get (set signals (first_output circuit + place) x) (first_output circuit + n)) equal
            ∙ slice_get-set_same signals (first_output circuit + place) x here
            ∙ ap (λ y. Some y) is
            ∙ ap (λ (g : NumberedGate). Some (functions.gate_of g.kind g.delay (filter_map (slice_get signals) g.inputs))) gates
            ∙ ap (λ picks. Some (functions.gate_of another.kind another.delay picks)) (sym same)
        | inr differs ↦
            slice_get-set_other signals (first_output circuit + place) x (first_output circuit + other) (λ e. differs (omega arith))
            ∙ settled other another others before
            ∙ ap (λ picks. Some (functions.gate_of another.kind another.delay picks)) (sym same)
      ]
