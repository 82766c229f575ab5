-- No bound passes 10 ^ 15.
use Rattle.std.proofs.Common.{◌≡◌, ◌<◌, ◌≤◌, ◌+◌, ◌*◌, ◌^◌, ℕ, List, length, map, Option, Some, arith}
use Rattle.std.specs.Prelude.{slice_get, filter_map}
use Rattle.std.proofs.lemmas.Option.{slice_get_within}
use Rattle.td_circuit.specs.Numbering.{Numbered, IsNumbering, nets}
use Rattle.td_circuit.proofs.Nets.{length-nets, few_gates}
use Rattle.td_domain.specs.Bounds.{greatest_bound}
use Rattle.td_domain.proofs.GreatestLemmas.{greatest_at-within}

pub small : {S : Type 0} (last_of : S → Option ℕ) (reach : S → ℕ)
    → ((signal : S) (moment : ℕ) → last_of signal ≡ Some moment → moment ≤ reach signal)
    → (circuit : Numbered) (numbering : IsNumbering circuit) (signals : List S) → length signals ≡ length (nets circuit)
    → ((net : ℕ) (signal : S) → slice_get signals net ≡ Some signal → reach signal ≤ (net + 1) * 10 ^ 9)
    → (outputs : List ℕ) (moment : ℕ) → greatest_bound (map last_of (filter_map (slice_get signals) outputs)) ≡ Some moment → moment < 10 ^ 15
small last_of reach law circuit numbering signals count reaches outputs moment is =
    let most : ℕ = length signals * 10 ^ 9 in
    let within = greatest_at-within last_of reach law signals most
    (λ net signal at. let low = reaches net signal at in let there = slice_get_within signals net signal at in omega arith) outputs moment is in
    omega (arith, count, length-nets circuit numbering, few_gates circuit numbering, numbering.well_formed.few_inputs, within)
