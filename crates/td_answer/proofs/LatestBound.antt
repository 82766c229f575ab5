-- Which output has the bound of a cube.
use Rattle.std.proofs.Common.{◌≡◌, ◌≢◌, ◌∙◌, ℕ, suc, ◌*◌, ◌<◌, List, [], ◌∷◌, ◌++◌, length, map, refl, sym, ap, arith, ◌⊎◌, inl, inr, true, false, Option, Some, None, get_or}
use Rattle.std.specs.Prelude.{slice_get}
use Rattle.std.proofs.lemmas.Bool.{cases_lt}
use Rattle.std.proofs.lemmas.List.{length-map}
use Rattle.td_gates.specs.Wave.{Wave}
use Rattle.td_gates.proofs.Places.{some-same, slice_get-some, slice_get-within, slice_get-get, get-slice_get}
use Rattle.td_nets.specs.Netlist.{Name, Net, Named}
use Rattle.td_circuit.specs.Settings.{AreMoments}
use Rattle.td_circuit.specs.Numbering.{Numbered, setting, nets, IsNumbering}
use Rattle.td_circuit.specs.NetValues.{net_value}
use Rattle.td_circuit.proofs.Values.{value_at}
use Rattle.td_domain.specs.declared.cubes.Trit.{Trit}
use Rattle.td_domain.specs.Bounds.{AreSignals, greater, greatest_bound}
use Rattle.td_domain.specs.FirstSignals.{AreFirstSignals}
use Rattle.td_domain.proofs.Soundness.{front-values, one_greatest}
use Rattle.td_arrival.specs.declared.signals.Signal.{Signal}
use Rattle.td_certificate.specs.declared.tree.BoundedBy.TheVariants as by
use Rattle.td_certificate.specs.Accepts.{IsBoundBy}
use Rattle.td_lines.specs.declared.line.Line.{Line}
use Rattle.td_answer.specs.Bounds.{together_functions, TellsBound}
use Rattle.td_answer.specs.BoundNets.{NoneBefore, IsFirstWith, IsBoundNet}
use Rattle.td_answer.specs.Additions.{AddsLines, NamesNet}
use Rattle.td_answer.proofs.OutputNets.{output_at}
use Rattle.td_answer.proofs.Adding.{nothing}

-- the greater of two is one of them
one_of_two : (a b : Option ℕ) → (a ≡ greater a b) ⊎ (b ≡ greater a b)
one_of_two None b = inl refl
one_of_two (Some a) None = inr refl
one_of_two (Some a) (Some b) = elim (cases_lt a b) [
  | inl less ↦ inr (ap (λ (m : ℕ). Some m) (omega arith))
  | inr least ↦ inl (ap (λ (m : ℕ). Some m) (omega arith))
]

alone : (a : Option ℕ) → a ≡ greater a (Some 0)
alone None = refl
alone (Some a) = ap (λ (m : ℕ). Some m) (omega arith)

-- the greatest of bounds is one of them, where there are any
attained : {A : Type 0} (last : A → Option ℕ) (xs : List A)
    → ((k : ℕ) × (x : A) × (slice_get xs k ≡ Some x) × (last x ≡ greatest_bound (map last xs))) ⊎ (xs ≡ [])
attained last [] = inr refl
attained last (x ∷ xs) = elim (attained last xs) [
  | inl rest ↦ elim (one_of_two (last x) (greatest_bound (map last xs))) [
    | inl here ↦ inl (0, x, refl, here)
    | inr later ↦ inl (suc rest.0, rest.1, rest.2, rest.3 ∙ later)
  ]
  | inr empty ↦ inl (0, x, refl, rw empty (alone (last x)))
]

module _ (circuit : Numbered) (numbering : IsNumbering circuit) (fit : AreMoments circuit.netlist circuit.moments)
    (cube : List Trit) (count : length cube ≡ 2 * length circuit.netlist.inputs)
    (reach : (Signal × Wave) → ℕ) (front : List (Signal × Wave)) (whole : length front ≡ length (nets circuit))
    (is_front : AreFirstSignals together_functions reach circuit cube front)
    (bound : Option ℕ) (is : IsBoundBy by.Both (setting circuit) cube bound) where
  abbrev signals : Net → (Signal × Wave)
  signals net = net_value (together_functions.constant_of false) (nets circuit) front net

  are_signals : AreSignals together_functions (setting circuit) cube signals
  are_signals = front-values together_functions reach circuit numbering cube front whole is_front

  abbrev last_at : Name → Option ℕ
  last_at name = together_functions.last_of (signals (Named name))

  greatest : bound ≡ greatest_bound (map last_at circuit.netlist.outputs)
  greatest =
      is.is_greatest
      ∙ ap greatest_bound (one_greatest together_functions circuit numbering fit cube count is.signals signals is.are_signals are_signals)

  last-is : (number : ℕ) (name : Name) (signal : Signal × Wave) → slice_get (nets circuit) number ≡ Some (Named name)
      → slice_get front number ≡ Some signal → last_at name ≡ together_functions.last_of signal
  last-is number name signal at_net at_front =
      ap together_functions.last_of (value_at (together_functions.constant_of false) circuit numbering front whole number (Named name) at_net
      ∙ slice_get-get front number signal (together_functions.constant_of false) at_front)

  within : (place : ℕ) (name : Name) → slice_get circuit.netlist.outputs place ≡ Some name → place < length circuit.outputs
  within place name at =
      omega (
        arith,
        slice_get-some circuit.netlist.outputs place name at,
        numbering.outputs.count,
        length-map circuit.netlist.outputs (λ (name : Name). Named name),
      )

  -- the signal of an output
  signal_of : (place : ℕ) (name : Name) → slice_get circuit.netlist.outputs place ≡ Some name
      → (number : ℕ) × (signal : Signal × Wave) × (slice_get circuit.outputs place ≡ Some number) × (slice_get front number ≡ Some signal)
      × (last_at name ≡ together_functions.last_of signal)
  signal_of place name at =
      let number = get_or circuit.outputs place 0 in
      let there = output_at circuit numbering place (within place name at) in
      let same : there.name ≡ name = some-same there.name name (sym there.at ∙ at) in
      let signal = slice_get-within front number (omega (arith, whole, there.within)) in (
        number,
        signal.0,
        get-slice_get circuit.outputs place 0 number (within place name at) refl,
        signal.1,
        last-is number name signal.0 (rw same at there.net) signal.1,
      )

  none_before : (end : ℕ) → NoneBefore together_functions.last_of front circuit.outputs bound end
      → (k : ℕ) (name : Name) → k < end → slice_get circuit.netlist.outputs k ≡ Some name → last_at name ≢ bound
  none_before end none k name less at =
      let there = signal_of k name at in
      λ equal. none k there.0 there.1 less there.2 there.3 (sym there.4 ∙ equal)

  -- the first output that has the bound, by the number of its net
  pub bound_net : (found : Option ℕ) → IsFirstWith together_functions.last_of front circuit.outputs bound found → IsBoundNet circuit cube bound found
  bound_net None none = elim (attained last_at circuit.netlist.outputs) [
    | inl some ↦ absurd (none_before (length circuit.outputs) none some.0 some.1 (within some.0 some.1 some.2) some.2 (some.3 ∙ sym greatest))
    | inr empty ↦ empty
  ]
  bound_net (Some net) found =
      let there = output_at circuit numbering found.0 (slice_get-some circuit.outputs found.0 net found.2) in
      let same : get_or circuit.outputs found.0 0 ≡ net = slice_get-get circuit.outputs found.0 net 0 found.2 in
      let at_net : slice_get (nets circuit) net ≡ Some (Named there.name) = rw same at there.net in (
        there.name,
        at_net,
        record {
          signals = signals;
          are_signals = are_signals;
          place = found.0;
          is_output = there.at;
          latest = last-is net there.name found.1 at_net found.3 ∙ found.4;
          first = none_before found.0 found.5;
        },
      )

-- where there are no outputs none is named
pub no_output : (circuit : Numbered) (cube : List Trit) (bound : Option ℕ) (now : List Line) → IsBoundNet circuit cube bound None
    → AddsLines (TellsBound true (setting circuit) cube bound) now now
no_output circuit cube bound now none = nothing (TellsBound true (setting circuit) cube bound) now (inl (none, refl))

-- the output that has the bound is named
pub bound_named : (circuit : Numbered) (cube : List Trit) (bound : Option ℕ) (net : ℕ) (told : Line) (old new : List Line)
    → IsBoundNet circuit cube bound (Some net) → NamesNet circuit net told → new ≡ old ++ told ∷ []
    → AddsLines (TellsBound true (setting circuit) cube bound) old new
bound_named circuit cube bound net told old new latest names added =
    (told ∷ [], added, inr (latest.0, latest.2, ap (λ (l : Line). l ∷ []) (names latest.0 latest.1)))
