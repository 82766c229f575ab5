-- An input changes at its own moment.
use Rattle.std.proofs.Common.{◌≡◌, ℕ, zero, suc, ◌<◌, ◌≤◌, List, [], ◌∷◌, refl, arith, ◌∙◌, sym, ap, inl, inr, Some}
use Rattle.std.specs.Prelude.{slice_get, nat_lt, if◌then◌else◌}
use Rattle.std.proofs.lemmas.Bool.{cases_lt, lt-ltb, le-ltb}
use Rattle.td_gates.specs.declared.primitives.Level.{Level}
use Rattle.td_gates.specs.Wave.{Wave, at}
use Rattle.td_gates.proofs.Places.{none-some, some-same}
use Rattle.td_nets.specs.Netlist.{Name, Net, Named}
use Rattle.td_circuit.specs.Settings.{Setting}
use Rattle.td_circuit.specs.Run.{inputs_at, Runs}
use Rattle.td_run.proofs.Named.{inputs_at-at, slice_get-level}
use Rattle.td_path.specs.Walks.{ChangesAt}

-- the parts of a level of the inputs
record HasParts (moments : List ℕ) (firsts seconds : List Level) (i : ℕ) : Type 0 where
  moment : ℕ
  first : Level
  second : Level
  is_moment : slice_get moments i ≡ Some moment
  is_first : slice_get firsts i ≡ Some first
  is_second : slice_get seconds i ≡ Some second

parts_of : (t : ℕ) (moments : List ℕ) (firsts seconds : List Level) (i : ℕ) (level : Level)
    → slice_get (inputs_at t moments firsts seconds) i ≡ Some level → HasParts moments firsts seconds i
parts_of t [] firsts seconds i level at_i = absurd (none-some level at_i)
parts_of t (m ∷ moments) [] seconds i level at_i = absurd (none-some level at_i)
parts_of t (m ∷ moments) (a ∷ firsts) [] i level at_i = absurd (none-some level at_i)
parts_of t (m ∷ moments) (a ∷ firsts) (b ∷ seconds) zero level at_i =
    record { moment = m; first = a; second = b; is_moment = refl; is_first = refl; is_second = refl }
parts_of t (m ∷ moments) (a ∷ firsts) (b ∷ seconds) (suc i) level at_i =
    let rest = parts_of t moments firsts seconds i level at_i in record {
      moment = rest.moment;
      first = rest.first;
      second = rest.second;
      is_moment = rest.is_moment;
      is_first = rest.is_first;
      is_second = rest.is_second;
    }

early_level : (u moment : ℕ) (first second : Level) → u < moment → (if nat_lt u moment then first else second) ≡ first
early_level u moment first second early = rw (lt-ltb u moment early)

late_level : (u moment : ℕ) (first second : Level) → moment ≤ u → (if nat_lt u moment then first else second) ≡ second
late_level u moment first second late = rw (le-ltb u moment late)

-- a level that is one before a moment and another from then on changes at that moment
one_change : (wave : Wave) (second : Level) (moment t : ℕ)
    → ((u : ℕ) → at wave u ≡ (if nat_lt u moment then wave.start else second)) → ChangesAt wave t → moment ≡ t
one_change wave second moment zero each changes = elim (cases_lt 0 moment) [
  | inl early ↦ absurd (changes (each 0 ∙ early_level 0 moment wave.start second early))
  | inr late ↦ omega arith
]
one_change wave second moment (suc u) each changes = elim (cases_lt (suc u) moment) [
  | inl early ↦ absurd (changes
      (each (suc u) ∙ early_level (suc u) moment wave.start second early ∙ sym (each u ∙ early_level u moment wave.start second (omega arith))))
  | inr late ↦ elim (cases_lt u moment) [
    | inl now ↦ omega arith
    | inr past ↦ absurd (changes
        (each (suc u) ∙ late_level (suc u) moment wave.start second late ∙ sym (each u ∙ late_level u moment wave.start second past)))
  ]
]

pub input_moment : (setting : Setting) (firsts seconds : List Level) (waves : Net → Wave) → Runs setting firsts seconds waves
    → (i : ℕ) (name : Name) (t : ℕ) → slice_get setting.netlist.inputs i ≡ Some name → ChangesAt (waves (Named name)) t
    → slice_get setting.moments i ≡ Some t
input_moment setting firsts seconds waves runs i name t at_i changes =
    let level = λ (u : ℕ).
    slice_get-level (λ x. at (waves (Named x)) u) setting.netlist.inputs (inputs_at u setting.moments firsts seconds) i name (runs.inputs u) at_i in
    let parts = parts_of 0 setting.moments firsts seconds i (at (waves (Named name)) 0) (level 0) in
    let start : slice_get firsts i ≡ Some (waves (Named name)).start =
    slice_get-level (λ x. (waves (Named x)).start) setting.netlist.inputs firsts i name runs.settled.inputs at_i in
    let each = λ (u : ℕ).
    some-same (at (waves (Named name)) u) (if nat_lt u parts.moment then (waves (Named name)).start else parts.second)
    (sym (level u) ∙ inputs_at-at u firsts seconds setting.moments i (waves (Named name)).start parts.second parts.moment start parts.is_second parts.is_moment) in
    parts.is_moment ∙ ap (λ m. Some m) (one_change (waves (Named name)) parts.second parts.moment t each changes)
