-- The nets of ports are distinct.
use Rattle.std.proofs.Common.{◌≡◌, ℕ, zero, suc, ◌+◌, ◌-◌, ◌<◌, ◌≤◌, Bool, true, false, cond, List, [], ◌∷◌, map, filter, Option, None, Some, refl, sym, ap, subst, ◌∙◌, arith, inl, inr}
use Rattle.std.specs.Prelude.{nat_le}
use Rattle.std.specs.List.{Contains, flat_map}
use Rattle.std.proofs.lemmas.Bool.{leb-false}
use Rattle.std.proofs.lemmas.List.Concat.{flat_map-cons}
use Rattle.td_syntax.specs.declared.syntax.Role.{Role}
use Rattle.td_syntax.specs.Grammar as grammar
use Rattle.td_netlist.specs.declared.ranges.Range.{Range}
use Rattle.td_nets.specs.Netlist.{Name}
use Rattle.td_nets.specs.WellFormed.{IsDistinct}
use Rattle.td_nets.specs.Names.{is_in}
use Rattle.td_netlist.specs.Ranges.{width_of, bit_at, bits_from, bit_name, nets_of}
use Rattle.td_netlist.specs.Module.{scalar, names_of, declared_names, range_in, ports, ports_as}
use Rattle.td_netlist.proofs.Members.{one_of, nowhere, of_mapped, mapped, of_filtered, of_gathered}
use Rattle.td_netlist.proofs.Distinct.{distinct_nil, distinct_cons, distinct_head, distinct_tail, distinct_append}

-- ---- the bits of a name

-- a bit that stands among the `n` from this place on
record StandsAt (text : List ℕ) (r : Range) (place n : ℕ) (x : Name) : Type 0 where
  at : ℕ
  least : place ≤ at
  below : at < place + n
  is : x ≡ bit_name text (bit_at r at)

stands_at : (text : List ℕ) (r : Range) (place n : ℕ) (x : Name) → Contains (map (bit_name text) (bits_from r place n)) x → StandsAt text r place n x
unfolding bits_from
stands_at text r place zero x has = nowhere x has
stands_at text r place (suc n) x has = elim (one_of x (bit_name text (bit_at r place)) (map (bit_name text) (bits_from r (place + 1) n)) has) [
  | inl same ↦ record { at = place; least = omega arith; below = omega arith; is = sym same }
  | inr rest ↦ (let more = stands_at text r (place + 1) n x rest in record { at = more.at; least = omega (arith, more.least); below = omega (arith, more.below); is = more.is })
]

other_bit : (r : Range) (i j : ℕ) → i < j → j < width_of (Some r) → bit_at r i ≡ bit_at r j → ⊥
other_bit r i j less within same = by (nat_le r.left r.right) refl same
  where
    by : (b : Bool) → nat_le r.left r.right ≡ b → cond b (r.left + i) (r.left - i) ≡ cond b (r.left + j) (r.left - j) → ⊥
    by true up e = omega (arith, less, e)
    by false down e = let lower = leb-false r.left r.right down in omega (arith, less, e, within, lower)

same_bit : (text : List ℕ) (a b : ℕ) → bit_name text a ≡ bit_name text b → a ≡ b
same_bit text a b e = let bits : Some a ≡ Some b = ap (λ (n : Name). n.bit) e in cc

bits_apart : (text : List ℕ) (r : Range) (place n : ℕ) → place + n ≤ width_of (Some r) → IsDistinct (map (bit_name text) (bits_from r place n))
unfolding bits_from
bits_apart text r place zero within = distinct_nil
bits_apart text r place (suc n) within =
    distinct_cons (bit_name text (bit_at r place)) (map (bit_name text) (bits_from r (place + 1) n))
    (λ has. (let at = stands_at text r (place + 1) n (bit_name text (bit_at r place)) has in
    other_bit r place at.at (omega (arith, at.least)) (omega (arith, at.below, within)) (same_bit text (bit_at r place) (bit_at r at.at) at.is)))
    (bits_apart text r (place + 1) n (omega (arith, within)))

pub nets_apart : (text : List ℕ) (range : Option Range) → IsDistinct (nets_of text range)
nets_apart text None = distinct_cons (record { text = text; bit = None }) [] (λ has. nowhere (record { text = text; bit = None }) has) distinct_nil
nets_apart text (Some r) = bits_apart text r 0 (width_of (Some r)) (omega arith)

-- each net of a name has its text
pub net_text : (text : List ℕ) (range : Option Range) (x : Name) → Contains (nets_of text range) x → x.text ≡ text
net_text text None x has = elim (one_of x (record { text = text; bit = None }) [] has) [
  | inl same ↦ ap (λ (n : Name). n.text) (sym same)
  | inr none ↦ nowhere x none
]
net_text text (Some r) x has = let one = of_mapped (bit_name text) x (bits_from r 0 (width_of (Some r))) has in ap (λ (n : Name). n.text) (sym one.2)

-- ---- the nets of names

named_apart : (range : List ℕ → Option Range) (ns : List grammar.Name) → IsDistinct (names_of ns) → IsDistinct (flat_map (λ (n : grammar.Name). nets_of n.name (range n.name)) ns)
named_apart range [] apart = distinct_nil
named_apart range (n ∷ ns) apart =
    let nets : grammar.Name → List Name = λ k. nets_of k.name (range k.name) in
    subst IsDistinct (sym (flat_map-cons (λ (k : grammar.Name). nets_of k.name (range k.name)) n ns))
    (distinct_append (nets_of n.name (range n.name)) (flat_map (λ (k : grammar.Name). nets_of k.name (range k.name)) ns) (nets_apart n.name (range n.name))
    (named_apart range ns (distinct_tail (scalar n) (names_of ns) apart))
    (λ x has in_it. (let one = of_gathered (λ (k : grammar.Name). nets_of k.name (range k.name)) x ns has in
    let texts : one.0.name ≡ n.name = sym (net_text one.0.name (range one.0.name) x one.2) ∙ net_text n.name (range n.name) x in_it in
    distinct_head (scalar n) (names_of ns) apart
    (subst (λ (t : List ℕ). Contains (names_of ns) (record { text = t; bit = None })) texts (mapped scalar one.0 ns one.1)))))

names_filtered : (p : grammar.Name → Bool) (ns : List grammar.Name) → IsDistinct (names_of ns) → IsDistinct (names_of (filter p ns))
names_filtered p [] apart = distinct_nil
names_filtered p (n ∷ ns) apart = by (p n) (names_filtered p ns (distinct_tail (scalar n) (names_of ns) apart))
  where
    by : (b : Bool) → IsDistinct (names_of (filter p ns)) → IsDistinct (names_of (cond b (n ∷ filter p ns) (filter p ns)))
    by true rest =
        distinct_cons (scalar n) (names_of (filter p ns))
        (λ has. (let one = of_mapped scalar (scalar n) (filter p ns) has in
        distinct_head (scalar n) (names_of ns) apart (subst (λ (x : Name). Contains (names_of ns) x) one.2 (mapped scalar one.0 ns (of_filtered p one.0 ns one.1).0))))
        rest
    by false rest = rest

pub sides_apart : (m : grammar.Module) (is : Role → Bool) → IsDistinct (names_of (ports m)) → IsDistinct (ports_as is m)
sides_apart m is apart = named_apart (range_in m) (filter (λ (n : grammar.Name). is_in (scalar n) (names_of (declared_names is m))) (ports m)) (names_filtered (λ (n : grammar.Name). is_in (scalar n) (names_of (declared_names is m))) (ports m) apart)
