-- The depths of a circuit's nets, gate by gate.
use Rattle.std.proofs.Common.{◌≡◌, ◌⊎◌, ◌∙◌, ℕ, zero, suc, ◌+◌, ◌<◌, ◌≤◌, max, List, [], ◌∷◌, ◌++◌, length, map, get_or, Some, refl, sym, ap, subst, arith, inl, inr}
use Rattle.std.specs.Prelude.{slice_get, replicate}
use Rattle.std.specs.List.{Contains}
use Rattle.std.proofs.lemmas.Bool.{cases_lt}
use Rattle.std.proofs.lemmas.List.{length-map, length-append}
use Rattle.std.proofs.lemmas.Option.{slice_get-get_or}
use Rattle.td_gates.proofs.Places.{some-same, slice_get-some, slice_get-within, slice_get-push_cases, slice_get-map_some, slice_get-Contains, Contains-slice_get}
use Rattle.td_nets.specs.Netlist.{Named, Gate}
use Rattle.td_circuit.specs.Loops.{Reads}
use Rattle.td_circuit.specs.Numbering.{Numbered, NumberedGate, nets, first_output, IsGateAt, IsNumbering}
use Rattle.td_circuit.proofs.Looping.{output_number}
use Rattle.td_circuit.proofs.Nets.{gate_at, place_of}
use Rattle.td_info.specs.Sizes.{IsWay, IsDepth}
use Rattle.td_info.specs.Depths.{greatest, depths_at, WayTo, IsDepthAt, AreDepths}

-- ---- the greatest of some numbers

pub below_greatest : (xs : List ℕ) (i x : ℕ) → slice_get xs i ≡ Some x → x ≤ greatest xs
below_greatest [] i x at = absurd cc
below_greatest (first ∷ others) zero x at = let same = some-same first x at in omega (arith, same)
below_greatest (first ∷ others) (suc i) x at = omega (arith, below_greatest others i x at)

pub greatest_reached : (xs : List ℕ) → (greatest xs ≡ 0) ⊎ ((i : ℕ) × (slice_get xs i ≡ Some (greatest xs)))
greatest_reached [] = inl refl
greatest_reached (first ∷ others) = elim (cases_lt first (greatest others)) [
  | inl less ↦
      let is : max first (greatest others) ≡ greatest others = omega (arith, less) in
      elim (greatest_reached others) [
        | inl none ↦ inl (is ∙ none)
        | inr there ↦ inr (suc there.0, there.1 ∙ ap (λ n. Some n) (sym is))
      ]
  | inr more ↦
      let is : max first (greatest others) ≡ first = omega (arith, more) in
      inr (0, ap (λ n. Some n) (sym is))
]

pub greatest_within : (xs : List ℕ) (bound : ℕ) → ((i x : ℕ) → slice_get xs i ≡ Some x → x ≤ bound) → greatest xs ≤ bound
greatest_within [] bound each = omega arith
greatest_within (first ∷ others) bound each =
    let here = each 0 first refl in
    let behind = greatest_within others bound (λ i x at. each (suc i) x at) in
    omega (arith, here, behind)

map_at : (f : ℕ → ℕ) (xs : List ℕ) (i y : ℕ) → slice_get (map f xs) i ≡ Some y → (x : ℕ) × (slice_get xs i ≡ Some x) × (f x ≡ y)
map_at f xs i y at =
    let there = slice_get-within xs i (let short = slice_get-some (map f xs) i y at in omega (arith, short, length-map xs f)) in
    (there.0, there.1, some-same (f there.0) y (sym (slice_get-map_some f xs i there.0 there.1) ∙ at))

-- ---- depths

module _ (circuit : Numbered) (numbering : IsNumbering circuit) where
  -- a gate that drives the net of a number stands at its place
  driver : (number : ℕ) (gate : Gate) → slice_get (nets circuit) number ≡ Some (Named gate.output) → Contains circuit.netlist.gates gate
      → (place : ℕ) × (slice_get circuit.ordered place ≡ Some gate) × (number ≡ first_output circuit + place) × (place < length circuit.gates)
  driver number gate at has =
      let found = place_of circuit numbering gate has in (
        found.0,
        found.3,
        numbering.distinct number (first_output circuit + found.0) (Named gate.output) at (output_number circuit found.0 gate found.3),
        slice_get-some circuit.gates found.0 found.1 found.2,
      )

  -- no way leads to a constant or an input
  pub no_way : (number : ℕ) → number < first_output circuit → IsDepthAt circuit number 0
  no_way number less = record {
    most = λ gate others way.
        let stands = driver number gate way.drives way.is_way.0 in
        absurd (omega (arith, less, stands.2));
    reached = inl refl;
  }

  module _ (depths : List ℕ) (place : ℕ) (are : AreDepths circuit depths place) (numbered : NumberedGate)
      (at_place : slice_get circuit.gates place ≡ Some numbered) where
    abbrev pub below : ℕ
    below = greatest (depths_at depths numbered.inputs)

    at_number : (number : ℕ) → number < length depths → slice_get depths number ≡ Some (get_or depths number 0)
    at_number number less = slice_get-get_or depths number 0 less

    -- the depth of a net that the gate reads
    pub read_at : (k number : ℕ) → slice_get numbered.inputs k ≡ Some number
        → (number < length depths) × (get_or depths number 0 ≤ below)
    read_at k number at =
        let gate = gate_at circuit numbering place numbered at_place in
        let lower = gate.3.lower number (slice_get-Contains numbered.inputs k number at) in (
          omega (arith, lower, are.count),
          below_greatest (depths_at depths numbered.inputs) k (get_or depths number 0)
              (slice_get-map_some (λ net. get_or depths net 0) numbered.inputs k number at),
        )

    pub small_below : below ≤ place
    small_below = greatest_within (depths_at depths numbered.inputs) place (λ i x at.
        let net = map_at (λ net. get_or depths net 0) numbered.inputs i x at in
        let read = read_at i net.0 net.1 in
        subst (λ n. n ≤ place) net.2 (are.small net.0 (get_or depths net.0 0) (at_number net.0 read.0)))

    most_behind : (gate : Gate) (others : List Gate) → slice_get circuit.ordered place ≡ Some gate → IsWay circuit.netlist (gate ∷ others)
        → suc (length others) ≤ below + 1
    most_behind gate [] at way = omega arith
    most_behind gate (next ∷ rest) at way =
        let stands : IsGateAt circuit place numbered gate = numbering.gates place numbered gate at_place at in
        let terminal = Contains-slice_get gate.inputs (Named next.output) way.1 in
        let short = slice_get-some gate.inputs terminal.0 (Named next.output) terminal.1 in
        let number = slice_get-within numbered.inputs terminal.0 (omega (arith, short, stands.inputs.count)) in
        let net = stands.inputs.each terminal.0 number.0 (Named next.output) number.1 terminal.1 in
        let read = read_at terminal.0 number.0 number.1 in
        let deep = are.each number.0 (get_or depths number.0 0) (at_number number.0 read.0) in
        let most = deep.most next rest (record { drives = net; is_way = way.2 }) in
        omega (arith, most, read.1)

    -- the depth of the gate's output
    pub next_depth : IsDepthAt circuit (first_output circuit + place) (below + 1)
    next_depth =
        let gate = gate_at circuit numbering place numbered at_place in
        let own = output_number circuit place gate.0 gate.1 in
        let alone : below ≡ 0 → WayTo circuit (first_output circuit + place) gate.0 [] =
        λ none. record { drives = own; is_way = (gate.2, tt, tt) } in
        record {
          most = λ other others way.
              let stands = driver (first_output circuit + place) other way.drives way.is_way.0 in
              let same : place ≡ stands.0 = omega (arith, stands.2) in
              most_behind other others (ap (slice_get circuit.ordered) same ∙ stands.1) way.is_way;
          reached = elim (greatest_reached (depths_at depths numbered.inputs)) [
            | inl none ↦ inr (gate.0, [], alone none, omega (arith, none))
            | inr there ↦
                let net = map_at (λ net. get_or depths net 0) numbered.inputs there.0 below there.1 in
                let read = read_at there.0 net.0 net.1 in
                let deep = are.each net.0 (get_or depths net.0 0) (at_number net.0 read.0) in
                elim deep.reached [
                  | inl none ↦ inr (gate.0, [], alone (sym net.2 ∙ none), omega (arith, net.2, none))
                  | inr way ↦
                      let short = slice_get-some numbered.inputs there.0 net.0 net.1 in
                      let terminal = slice_get-within gate.0.inputs there.0 (omega (arith, short, gate.3.inputs.count)) in
                      let driven = gate.3.inputs.each there.0 net.0 terminal.0 net.1 terminal.1 in
                      let same : terminal.0 ≡ Named way.0.output = some-same terminal.0 (Named way.0.output) (sym driven ∙ way.2.drives) in
                      let reads : Reads gate.0 way.0 =
                      slice_get-Contains gate.0.inputs there.0 (Named way.0.output) (terminal.1 ∙ ap (λ n. Some n) same) in
                      inr (
                        gate.0,
                        way.0 ∷ way.1,
                        record { drives = own; is_way = (gate.2, reads, way.2.is_way) },
                        omega (arith, way.3, net.2),
                      )
                ]
          ];
        }

    -- one gate more
    pub depths_more : AreDepths circuit (depths ++ (below + 1) ∷ []) (place + 1)
    depths_more = record {
      count = omega (arith, length-append depths ((below + 1) ∷ []), are.count);
      each = λ number depth at. elim (slice_get-push_cases depths (below + 1) number depth at) [
        | inl before ↦ are.each number depth before
        | inr last ↦
            subst (λ d. IsDepthAt circuit number d) last.1
            (subst (λ n. IsDepthAt circuit n (below + 1)) (sym (last.0 ∙ are.count)) next_depth)
      ];
      small = λ number depth at. elim (slice_get-push_cases depths (below + 1) number depth at) [
        | inl before ↦ (let small = are.small number depth before in omega (arith, small))
        | inr last ↦ omega (arith, last.1, small_below)
      ];
    }

  -- the greatest depth of all nets is the netlist's
  pub depth_is : (depths : List ℕ) → AreDepths circuit depths (length circuit.gates) → IsDepth circuit.netlist (greatest depths)
  depth_is depths are = go (greatest_reached depths)
    where
      most : (other : List Gate) → IsWay circuit.netlist other → length other ≤ greatest depths
      most [] way = omega arith
      most (gate ∷ others) way =
          let found = place_of circuit numbering gate way.0 in
          let less = slice_get-some circuit.gates found.0 found.1 found.2 in
          let there = slice_get-within depths (first_output circuit + found.0) (omega (arith, less, are.count)) in
          let deep = are.each (first_output circuit + found.0) there.0 there.1 in
          let enough = deep.most gate others (record { drives = output_number circuit found.0 gate found.3; is_way = way }) in
          omega (arith, enough, below_greatest depths (first_output circuit + found.0) there.0 there.1)

      go : (greatest depths ≡ 0) ⊎ ((i : ℕ) × (slice_get depths i ≡ Some (greatest depths))) → IsDepth circuit.netlist (greatest depths)
      go (inl none) = record { way = []; is_way = tt; has = sym none; most = most }
      go (inr there) = elim (are.each there.0 (greatest depths) there.1).reached [
        | inl none ↦ record { way = []; is_way = tt; has = sym none; most = most }
        | inr way ↦ record { way = way.0 ∷ way.1; is_way = way.2.is_way; has = way.3; most = most }
      ]

zeros : (n number depth : ℕ) → slice_get (replicate n 0) number ≡ Some depth → depth ≡ 0
zeros zero number depth at = absurd cc
zeros (suc n) zero depth at = sym (some-same 0 depth at)
zeros (suc n) (suc number) depth at = zeros n number depth at

count_zeros : (n : ℕ) → length {A = ℕ} (replicate n 0) ≡ n
count_zeros zero = refl
count_zeros (suc n) = ap suc (count_zeros n)

-- all constants and inputs have the depth 0
pub depths_none : (circuit : Numbered) → IsNumbering circuit → (depths : List ℕ) → depths ≡ replicate (first_output circuit) 0
    → AreDepths circuit depths 0
depths_none circuit numbering depths are = subst (λ (d : List ℕ). AreDepths circuit d 0) (sym are) (record {
  count = omega (arith, count_zeros (first_output circuit));
  each = λ number depth at.
      let less = slice_get-some (replicate (first_output circuit) 0) number depth at in
      subst (λ d. IsDepthAt circuit number d) (sym (zeros (first_output circuit) number depth at))
      (no_way circuit numbering number (omega (arith, less, count_zeros (first_output circuit))));
  small = λ number depth at. omega (arith, zeros (first_output circuit) number depth at);
})
