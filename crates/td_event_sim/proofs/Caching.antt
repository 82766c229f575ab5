-- What is held of pairs stays true of the circuit.
use Rattle.std.proofs.Common.{◌≡◌, ℕ, ◌∙◌, Bool, List, length, get_or, set, refl, sym, subst, Some, length-set}
use Rattle.std.specs.Prelude.{slice_get}
use Rattle.std.specs.List.{All}
use Rattle.std.proofs.lemmas.List.Elements.{All-set}
use Rattle.td_gates.proofs.Places.{slice_get-get, slice_get-some, some-same, none-some}
use Rattle.td_circuit.specs.Numbering.{Numbered}
use Rattle.td_event_sim.specs.Cached.{Cached, IsEmpty, IsTheDelay, IsOf, AreOf}

abbrev pub cached : List Bool → List Bool → ℕ → Cached
cached first second delay = record { first = first; second = second; delay = Some delay }

-- where a pair is held with a delay, that is its delay
pub held-is : (circuit : Numbered) (places : List Cached) (place : ℕ) (first second : List Bool) (delay : ℕ) → AreOf circuit places
    → slice_get places place ≡ Some (cached first second delay) → IsTheDelay circuit first second delay
held-is circuit places place first second delay are at =
    let here : Cached = cached first second delay in
    let is : IsOf circuit here = subst (λ (c : Cached). IsOf circuit c) (slice_get-get places place here here at)
    (are.each place here (slice_get-some places place here at)) in
    is.delay delay refl

-- one more is held
pub put-is : (circuit : Numbered) (places : List Cached) (place : ℕ) (first second : List Bool) (delay : ℕ) → AreOf circuit places
    → length first ≡ length circuit.netlist.inputs → length second ≡ length circuit.netlist.inputs → IsTheDelay circuit first second delay
    → AreOf circuit (set places place (cached first second delay))
put-is circuit places place first second delay are f s is = record {
  count = length-set places place (cached first second delay) ∙ are.count;
  each = All-set (IsOf circuit) places place (cached first second delay) (record {
    first = f;
    second = s;
    delay = λ other same. subst (λ (n : ℕ). IsTheDelay circuit first second n) (some-same delay other same) is;
  }) are.each;
}

-- none is held yet
pub none-held : (circuit : Numbered) (places : List Cached) (inputs : ℕ) → length places ≡ 16 → inputs ≡ length circuit.netlist.inputs → All (IsEmpty inputs) places
    → AreOf circuit places
none-held circuit places inputs count is empty = record {
  count = count;
  each = λ k d h. (let here : IsEmpty inputs (get_or places k d) = empty k d h in record {
    first = here.first ∙ is;
    second = here.second ∙ is;
    delay = λ other same. absurd (none-some other (sym here.delay ∙ same));
  });
}
