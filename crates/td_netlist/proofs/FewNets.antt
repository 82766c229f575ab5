-- The nets counted name by name are as many as those of declared names and of plain names of
-- terminals.
use Rattle.std.proofs.Common.{◌≡◌, ℕ, ◌≤◌, Bool, true, false, cond, List, [], ◌∷◌, ◌++◌, length, map, fold, None, refl, sym, ap, subst, ◌∙◌, arith, inl, inr}
use Rattle.std.specs.Prelude.{sum_by}
use Rattle.std.specs.List.{Contains, flat_map}
use Rattle.std.proofs.lemmas.List.{length-append}
use Rattle.std.proofs.lemmas.List.Concat.{flat_map-cons}
use Rattle.std.proofs.lemmas.List.Sums.{sum_by-cons}
use Rattle.td_syntax.specs.Grammar as grammar
use Rattle.td_nets.specs.Netlist.{Name}
use Rattle.td_nets.specs.WellFormed.{IsDistinct}
use Rattle.td_nets.specs.Names.{is_in, with_name}
use Rattle.td_netlist.specs.Ranges.{width_of, nets_of}
use Rattle.td_netlist.specs.Module.{scalar, names_of, Declared, declarations, range_in, nets_named, terminals_in}
use Rattle.td_netlist.specs.PlacedNets.{different, plain_name, names_in, net_count}
use Rattle.td_netlist.specs.Means.{HasFewNets}
use Rattle.td_netlist.proofs.Members.{first, later, one_of, nowhere, in_front, behind, either_side, mapped, of_mapped, gathered, of_gathered}
use Rattle.td_netlist.proofs.Distinct.{distinct_nil, distinct_head, distinct_tail, distinct_append, distinct_push, no_more}
use Rattle.td_netlist.proofs.Sets.{not_contained}
use Rattle.td_netlist.proofs.Knowing.{in_different, of_different}
use Rattle.td_netlist.proofs.Apart.{net_text, nets_apart}
use Rattle.td_netlist.proofs.Formed.{nets_long}

-- ---- different names stand once

kept_once : (names more : List Name) → IsDistinct names → IsDistinct (fold with_name names more)
kept_once names [] once = once
kept_once names (n ∷ more) once = kept_once (with_name names n) more (by (is_in n names) refl)
  where
    by : (b : Bool) → is_in n names ≡ b → IsDistinct (cond b names (names ++ n ∷ []))
    by true e = once
    by false e = distinct_push names n once (not_contained n names e)

different_once : (names : List Name) → IsDistinct (different names)
different_once names = kept_once [] names distinct_nil

-- ---- the nets of all names

module _ (m : grammar.Module) where
  abbrev nets_by : Name → List Name
  nets_by name = nets_of name.text (range_in m name.text)

  abbrev all_named : List Name
  all_named = names_of (map (λ (d : Declared). d.name) (declarations m) ++ flat_map plain_name (terminals_in m))

  abbrev nets_in : List Name
  nets_in = flat_map nets_by (names_in m)

  spread_long : (names : List Name) → length (flat_map nets_by names) ≡ sum_by (λ (name : Name). width_of (range_in m name.text)) names
  spread_long [] = refl
  spread_long (n ∷ names) =
      omega (
        arith,
        ap (λ (ns : List Name). length ns) (flat_map-cons (λ (k : Name). nets_of k.text (range_in m k.text)) n names),
        length-append (nets_of n.text (range_in m n.text)) (flat_map (λ (k : Name). nets_of k.text (range_in m k.text)) names),
        nets_long n.text (range_in m n.text),
        spread_long names,
        sum_by-cons (λ (k : Name). width_of (range_in m k.text)) n names,
      )

  -- names that are no bits
  abbrev Scalars : List Name → Type 0
  Scalars names = (name : Name) → Contains names name → name ≡ record { text = name.text; bit = None }

  scalars : Scalars (names_in m)
  scalars name has =
      let one = of_mapped scalar name (map (λ (d : Declared). d.name) (declarations m) ++ flat_map plain_name (terminals_in m)) (of_different all_named name has) in
      sym one.2 ∙ ap (λ (t : List ℕ). record { text = t; bit = None }) (ap (λ (x : Name). x.text) one.2)

  spread_apart : (names : List Name) → Scalars names → IsDistinct names → IsDistinct (flat_map nets_by names)
  spread_apart [] plain once = distinct_nil
  spread_apart (n ∷ names) plain once =
      let spread : Name → List Name = λ k. nets_of k.text (range_in m k.text) in
      subst IsDistinct (sym (flat_map-cons spread n names))
      (distinct_append (spread n) (flat_map spread names) (nets_apart n.text (range_in m n.text))
      (spread_apart names (λ k has. plain k (later k n names has)) (distinct_tail n names once))
      (λ x has in_it. (let one = of_gathered spread x names has in
      let texts : one.0.text ≡ n.text = sym (net_text one.0.text (range_in m one.0.text) x one.2) ∙ net_text n.text (range_in m n.text) x in_it in
      let same : one.0 ≡ n = plain one.0 (later one.0 n names one.1) ∙ ap (λ (t : List ℕ). record { text = t; bit = None }) texts ∙ sym (plain n (first n names)) in
      distinct_head n names once (subst (λ (k : Name). Contains names k) same one.1))))

  -- a net of a name is one of these
  named_net : (n : grammar.Name) → Contains (map (λ (d : Declared). d.name) (declarations m) ++ flat_map plain_name (terminals_in m)) n → (net : Name) → Contains (nets_named m n) net → Contains nets_in net
  named_net n has net in_it = gathered (λ (k : Name). nets_of k.text (range_in m k.text)) (scalar n) net (names_in m) (in_different all_named (scalar n) (mapped scalar n _ has)) in_it

  pub few_nets : net_count m ≤ 1000000 → HasFewNets m
  few_nets few = record {
    nets = nets_in;
    few = omega (arith, spread_long (names_in m), few);
    declared = λ d has net in_it. named_net d.name (in_front d.name (map (λ (x : Declared). x.name) (declarations m)) (flat_map plain_name (terminals_in m)) (mapped (λ (x : Declared). x.name) d (declarations m) has)) net in_it;
    plain = λ n has net in_it. named_net n (behind n (map (λ (x : Declared). x.name) (declarations m)) (flat_map plain_name (terminals_in m)) (gathered plain_name (grammar.Whole n) n (terminals_in m) has (first n []))) net in_it;
  }

  plain_of : (t : grammar.Terminal) (n : grammar.Name) → Contains (plain_name t) n → t ≡ grammar.Whole n
  plain_of (grammar.Whole k) n has = elim (one_of n k [] has) [ inl same ↦ ap (λ (x : grammar.Name). grammar.Whole x) same | inr none ↦ nowhere n none ]
  plain_of (grammar.Select k digits) n has = nowhere n has
  plain_of (grammar.Level b) n has = nowhere n has

  pub counted : HasFewNets m → net_count m ≤ 1000000
  counted has =
      let spread : Name → List Name = λ k. nets_of k.text (range_in m k.text) in
      let names : List grammar.Name = map (λ (d : Declared). d.name) (declarations m) ++ flat_map plain_name (terminals_in m) in
      let fewer : length (flat_map spread (names_in m)) ≤ length has.nets =
      no_more (flat_map spread (names_in m)) has.nets (spread_apart (names_in m) scalars (different_once (names_of names)))
      (λ net in_it. (let one = of_gathered spread net (names_in m) in_it in
      let named = of_mapped scalar one.0 names (of_different (names_of names) one.0 one.1) in
      let bit : Contains (nets_named m named.0) net = subst (λ (k : Name). Contains (spread k) net) (sym named.2) one.2 in
      elim (either_side named.0 (map (λ (d : Declared). d.name) (declarations m)) (flat_map plain_name (terminals_in m)) named.1) [
        | inl declared_so ↦ (let d = of_mapped (λ (x : Declared). x.name) named.0 (declarations m) declared_so in
            has.declared d.0 d.1 net (subst (λ (n : grammar.Name). Contains (nets_named m n) net) (sym d.2) bit))
        | inr plain_so ↦ (let t = of_gathered plain_name named.0 (terminals_in m) plain_so in
            has.plain named.0 (subst (λ (u : grammar.Terminal). Contains (terminals_in m) u) (plain_of t.0 named.0 t.2) t.1) net bit)
      ])) in
      omega (arith, spread_long (names_in m), fewer, has.few)
