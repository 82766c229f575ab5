-- What answers say of hazards, and the rows of a table of them.
use Rattle.std.proofs.Common.{◌≡◌, ◌∙◌, ◌+◌, ◌<◌, ℕ, zero, suc, Bool, true, false, List, [], ◌∷◌, ◌++◌, length, take, refl, sym, ap, subst, arith, Some, append_assoc}
use Rattle.std.specs.Prelude.{slice_get}
use Rattle.std.specs.List.{AllZip, flat_map}
use Rattle.std.proofs.lemmas.List.Concat.{flat_map-append}
use Rattle.td_gates.proofs.Places.{take_push}
use Rattle.td_nets.specs.Netlist.{Name}
use Rattle.td_circuit.specs.Settings.{Setting}
use Rattle.td_refutation.specs.Asking.{Asking}
use Rattle.td_refute.specs.Kept.{IsBoundAmong}
use Rattle.td_lead.specs.declared.timed.Timed.{Timed}
use Rattle.td_worst.specs.Kept.{LiesBetweenAmong, IsWorstAmong}
use Rattle.td_lines.specs.declared.line.HazardRow.{HazardRow}
use Rattle.td_answer.specs.Hazards.{IsLate, IsTrueHazardRow, at_both, all_at_both}
use Rattle.td_answer.proofs.Zips.{zip_two}

-- a pair that is late is shown
pub late_pair : (setting : Setting) (asking : Asking) (best : Timed) (high : ℕ) → LiesBetweenAmong setting asking best high → 0 < best.time
    → IsLate setting asking (record { first = best.pair.first; second = best.pair.second })
late_pair setting asking best high is late = record {
  delay = best.time;
  has = record { asked = is.timed.asked; delays = is.timed.delay };
  late = late;
}

-- the worst delay lies between itself and itself
pub worst_between : (setting : Setting) (asking : Asking) (best : Timed) → IsWorstAmong setting asking best → LiesBetweenAmong setting asking best best.time
worst_between setting asking best is = record { timed = is.timed; greatest = is.greatest; ordered = omega arith }

-- the rows of one output more
pub rows_next : (setting : Setting) (asking : Asking) (outputs : List Name) (rows new : List HazardRow) (i : ℕ) (output : Name) (low high : HazardRow)
    → slice_get outputs i ≡ Some output → new ≡ rows ++ low ∷ high ∷ []
    → AllZip (IsTrueHazardRow setting asking) (all_at_both (take i outputs)) rows
    → IsTrueHazardRow setting asking (output, false) low → IsTrueHazardRow setting asking (output, true) high
    → AllZip (IsTrueHazardRow setting asking) (all_at_both (take (i + 1) outputs)) new
rows_next setting asking outputs rows new i output low high at added are is_low is_high =
    let next : i + 1 ≡ suc i = omega arith in
    let more : take (i + 1) outputs ≡ take i outputs ++ output ∷ [] = ap (λ (n : ℕ). take n outputs) next ∙ take_push outputs i output at in
    let names : all_at_both (take (i + 1) outputs) ≡ all_at_both (take i outputs) ++ (output, false) ∷ (output, true) ∷ [] =
    ap all_at_both more ∙ flat_map-append at_both (take i outputs) (output ∷ []) in
    subst (λ (rs : List HazardRow). AllZip (IsTrueHazardRow setting asking) (all_at_both (take (i + 1) outputs)) rs) (sym added)
    (subst (λ (about : List (Name × Bool)). AllZip (IsTrueHazardRow setting asking) about (rows ++ low ∷ high ∷ [])) (sym names)
    (zip_two (IsTrueHazardRow setting asking) (all_at_both (take i outputs)) rows (output, false) (output, true) low high are is_low is_high))
