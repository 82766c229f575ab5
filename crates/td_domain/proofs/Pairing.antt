-- The signals of two domains side by side.
use Rattle.std.proofs.Common.{◌≡◌, ℕ, zero, suc, ◌+◌, ◌<◌, max, List, [], ◌∷◌, length, map, refl, arith, sym, ap, ◌∙◌, Some}
use Rattle.std.specs.Prelude.{slice_get, filter_map}
use Rattle.std.specs.List.{AllByRecursion}
use Rattle.std.proofs.lemmas.List.Elements.{recursion_from_All}
use Rattle.td_gates.proofs.Places.{some-same, slice_get-within}
use Rattle.td_circuit.specs.Numbering.{Numbered, first_output, IsNumbering}
use Rattle.td_circuit.proofs.Nets.{lower-at}
use Rattle.td_domain.specs.declared.cubes.Trit.{Trit}
use Rattle.td_domain.specs.Functions.{Functions}
use Rattle.td_domain.specs.FirstSignals.{AreFirstSignals}
use Rattle.td_domain.specs.Together.{both_functions, pairs}
use Rattle.td_domain.proofs.Lists.{weaker}

module _ {S T : Type 0} where
  pub pairs-get : (firsts : List S) (seconds : List T) (i : ℕ) (a : S) (b : T) → slice_get firsts i ≡ Some a → slice_get seconds i ≡ Some b
      → slice_get (pairs firsts seconds) i ≡ Some (a, b)
  pairs-get [] seconds i a b at also = absurd cc
  pairs-get (x ∷ firsts) [] i a b at also = absurd cc
  pairs-get (x ∷ firsts) (y ∷ seconds) zero a b at also =
      let one : x ≡ a = some-same x a at in
      let other : y ≡ b = some-same y b also in
      rw (one, other) refl
  pairs-get (x ∷ firsts) (y ∷ seconds) (suc i) a b at also = pairs-get firsts seconds i a b at also

  pub pairs-got : (firsts : List S) (seconds : List T) (i : ℕ) (pair : S × T) → slice_get (pairs firsts seconds) i ≡ Some pair
      → (slice_get firsts i ≡ Some pair.0) × (slice_get seconds i ≡ Some pair.1)
  pairs-got [] seconds i pair at = absurd cc
  pairs-got (x ∷ firsts) [] i pair at = absurd cc
  pairs-got (x ∷ firsts) (y ∷ seconds) zero pair at =
      let same : (x, y) ≡ pair = some-same (x, y) pair at in
      (ap (λ (p : S × T). Some p.0) same, ap (λ (p : S × T). Some p.1) same)
  pairs-got (x ∷ firsts) (y ∷ seconds) (suc i) pair at = pairs-got firsts seconds i pair at

  pub length-pairs : (firsts : List S) (seconds : List T) → length seconds ≡ length firsts → length (pairs firsts seconds) ≡ length firsts
  length-pairs [] seconds same = refl
  length-pairs (x ∷ firsts) [] same = absurd (omega arith)
  length-pairs (x ∷ firsts) (y ∷ seconds) same = ap suc (length-pairs firsts seconds (omega arith))

  pub first-picks : (firsts : List S) (seconds : List T) (nets : List ℕ) → length seconds ≡ length firsts
      → AllByRecursion (λ net. net < length firsts) nets
      → map (λ (pair : S × T). pair.0) (filter_map (slice_get (pairs firsts seconds)) nets) ≡ filter_map (slice_get firsts) nets
  first-picks firsts seconds [] same below = refl
  first-picks firsts seconds (net ∷ nets) same below =
      let a = slice_get-within firsts net below.0 in
      let b = slice_get-within seconds net (omega (arith, same, below.0)) in
      let rest = first-picks firsts seconds nets same below.1 in
      rw (pairs-get firsts seconds net a.0 b.0 a.1 b.1, a.1, rest) refl

  pub second-picks : (firsts : List S) (seconds : List T) (nets : List ℕ) → length seconds ≡ length firsts
      → AllByRecursion (λ net. net < length firsts) nets
      → map (λ (pair : S × T). pair.1) (filter_map (slice_get (pairs firsts seconds)) nets) ≡ filter_map (slice_get seconds) nets
  second-picks firsts seconds [] same below = refl
  second-picks firsts seconds (net ∷ nets) same below =
      let a = slice_get-within firsts net below.0 in
      let b = slice_get-within seconds net (omega (arith, same, below.0)) in
      let rest = second-picks firsts seconds nets same below.1 in
      rw (pairs-get firsts seconds net a.0 b.0 a.1 b.1, b.1, rest) refl

-- side by side, the signals of two domains are those of both at once
pub pairs-front : {S T : Type 0} (these : Functions S) (those : Functions T) (reach : S → ℕ) (reach' : T → ℕ)
    (circuit : Numbered) (numbering : IsNumbering circuit) (cube : List Trit) (firsts : List S) (seconds : List T)
    → length seconds ≡ length firsts
    → AreFirstSignals these reach circuit cube firsts → AreFirstSignals those reach' circuit cube seconds
    → AreFirstSignals (both_functions these those) (λ (pair : S × T). max (reach pair.0) (reach' pair.1)) circuit cube (pairs firsts seconds)
pairs-front these those reach reach' circuit numbering cube firsts seconds same is also = record {
  low = pairs-get firsts seconds 0 _ _ is.low also.low;
  high = pairs-get firsts seconds 1 _ _ is.high also.high;
  inputs = λ i first second moment few within at_first at_second at_moment.
      pairs-get firsts seconds (2 + i) _ _ (is.inputs i first second moment few (omega (arith, within, long)) at_first at_second at_moment)
      (also.inputs i first second moment few (omega (arith, within, long, same)) at_first at_second at_moment);
  gates = λ place gate stands within.
      let below : AllByRecursion (λ net. net < length firsts) gate.inputs = weaker _ _ (λ net low. omega (arith, low, within, long)) gate.inputs
      (recursion_from_All (λ net. net < first_output circuit + place) gate.inputs (lower-at circuit numbering place gate stands)) in
      pairs-get firsts seconds (first_output circuit + place) _ _ (is.gates place gate stands (omega (arith, within, long)))
      (also.gates place gate stands (omega (arith, within, long, same)))
      ∙ ap (λ picks. Some (these.gate_of gate.kind gate.delay picks, those.gate_of gate.kind gate.delay (filter_map (slice_get seconds) gate.inputs)))
      (sym (first-picks firsts seconds gate.inputs same below))
      ∙ ap (λ picks. Some (these.gate_of gate.kind gate.delay (map (λ pair. pair.0) (filter_map (slice_get (pairs firsts seconds)) gate.inputs)), those.gate_of gate.kind gate.delay picks))
      (sym (second-picks firsts seconds gate.inputs same below));
  reaches = λ net pair at.
      let both = pairs-got firsts seconds net pair at in
      omega (arith, is.reaches net pair.0 both.0, also.reaches net pair.1 both.1);
}
  where
    long : length (pairs firsts seconds) ≡ length firsts
    long = length-pairs firsts seconds same
