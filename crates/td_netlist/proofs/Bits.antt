-- The nets of a name, one after another.
use Rattle.std.proofs.Common.{◌≡◌, ℕ, suc, ◌+◌, ◌-◌, ◌≤◌, ◌<◌, List, [], ◌∷◌, ◌++◌, map, Some, refl, sym, ap, ◌∙◌, arith, append_assoc}
use Rattle.std.proofs.lemmas.List.{append-nil}
use Rattle.td_netlist.specs.declared.ranges.Range.{Range}
use Rattle.td_nets.specs.Netlist.{Name}
use Rattle.td_netlist.specs.Ranges.{width_of, bit_at, bits_from, bit_name, nets_of}

-- the bits that are still to come
abbrev pub rest_of : List ℕ → Range → ℕ → List Name
rest_of text r place = map (bit_name text) (bits_from r place (width_of (Some r) - place))

pub at_begin : (text : List ℕ) (r : Range) → rest_of text r 0 ≡ nets_of text (Some r)
at_begin text r = let all : width_of (Some r) - 0 ≡ width_of (Some r) = omega arith in ap (λ (n : ℕ). map (bit_name text) (bits_from r 0 n)) all

one_bit : (text : List ℕ) (r : Range) (place n : ℕ) → map (bit_name text) (bits_from r place (suc n)) ≡ bit_name text (bit_at r place) ∷ map (bit_name text) (bits_from r (place + 1) n)
unfolding bits_from
one_bit text r place n = refl

pub goes : (text : List ℕ) (r : Range) (place : ℕ) (front total : List Name) → place < width_of (Some r) → front ++ rest_of text r place ≡ total → (front ++ bit_name text (bit_at r place) ∷ []) ++ rest_of text r (place + 1) ≡ total
goes text r place front total lt e =
    let left = width_of (Some r) - (place + 1) in
    let one : width_of (Some r) - place ≡ suc left = omega (arith, lt) in
    append_assoc front (bit_name text (bit_at r place) ∷ []) (rest_of text r (place + 1))
    ∙ ap (λ (xs : List Name). front ++ xs) (sym (one_bit text r place left) ∙ ap (λ (n : ℕ). map (bit_name text) (bits_from r place n)) (sym one))
    ∙ e

no_bits : (text : List ℕ) (r : Range) (place : ℕ) → map (bit_name text) (bits_from r place 0) ≡ []
unfolding bits_from
no_bits text r place = refl

pub ends : (text : List ℕ) (r : Range) (place : ℕ) (front total : List Name) → width_of (Some r) ≤ place → front ++ rest_of text r place ≡ total → front ≡ total
ends text r place front total le e =
    let none : width_of (Some r) - place ≡ 0 = omega (arith, le) in
    sym (append-nil front) ∙ ap (λ (xs : List Name). front ++ xs) (sym (no_bits text r place) ∙ ap (λ (n : ℕ). map (bit_name text) (bits_from r place n)) (sym none)) ∙ e
