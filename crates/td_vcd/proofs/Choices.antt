-- The nets that are chosen, and their kept waves.
use Rattle.std.proofs.Common.{◌≡◌, ℕ, List, get_or, arith, refl, sym, subst, Option, Some, None}
use Rattle.std.specs.Prelude.{slice_get, unwrap_or}
use Rattle.std.specs.List.{All}
use Rattle.std.proofs.lemmas.List.Elements.{All-map}
use Rattle.td_gates.specs.declared.primitives.Level.TheVariants.{X}
use Rattle.td_gates.specs.Wave.{Wave}
use Rattle.td_gates.proofs.Places.{slice_get-some, slice_get-get}
use Rattle.td_circuit.specs.Numbering.{Numbered}
use Rattle.td_run.specs.Waves.{AreWithin, constant}
use Rattle.td_run.specs.Keeping.{KeptWaves}
use Rattle.td_vcd.specs.Chosen.{kept_of, IsNamed, IsKeptFor, CanBeChosen}

-- the kept wave of a net
abbrev pub kept_at : KeptWaves → ℕ → Wave
kept_at kept number = unwrap_or (get_or kept.waves number None) (constant X)

pub kept_is : (kept : KeptWaves) (number : ℕ) (wave : Wave) → slice_get kept.waves number ≡ Some (Some wave) → wave ≡ kept_at kept number
kept_is kept number wave there =
    subst (λ (o : Option Wave). wave ≡ unwrap_or o (constant X)) (sym (slice_get-get kept.waves number (Some wave) None there)) refl

-- they have names
pub all_chosen : (circuit : Numbered) (kept : KeptWaves) (chosen : List ℕ) → IsKeptFor circuit kept → All (CanBeChosen kept) chosen
    → All (IsNamed circuit) chosen
all_chosen circuit kept chosen fit all = λ i d inside.
    let can = all i d inside in
    record { above = can.above; below = omega (arith, fit.count, slice_get-some kept.waves (get_or chosen i d) (Some can.wave) can.there) }

-- and no change is later than any run's
pub chosen_small : (circuit : Numbered) (kept : KeptWaves) (chosen : List ℕ) → IsKeptFor circuit kept → All (CanBeChosen kept) chosen
    → All (λ (wave : Wave). AreWithin 200001000000000 wave.changes) (kept_of kept chosen)
chosen_small circuit kept chosen fit all =
    All-map (λ (wave : Wave). AreWithin 200001000000000 wave.changes) (kept_at kept) chosen (λ i d inside.
    let can = all i d inside in
    subst (λ (wave : Wave). AreWithin 200001000000000 wave.changes) (kept_is kept (get_or chosen i d) can.wave can.there)
    (fit.within (get_or chosen i d) can.wave can.there))
