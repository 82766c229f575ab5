-- What the walk through the ports by direction says of a module.
use Rattle.std.proofs.Common.{◌≡◌, ℕ, Bool, true, false, cond, List, [], ◌∷◌, ◌++◌, map, filter, Option, None, Some, Result, Ok, Err, refl, sym, ap, subst, ◌∙◌, ◌⊎◌, inl, inr}
use Rattle.std.specs.Prelude.{◌||◌, is_some}
use Rattle.std.specs.List.{Contains, flat_map}
use Rattle.std.specs.Str.{bytes_eq}
use Rattle.std.specs.Cmp.Lexicographic.{same_text}
use Rattle.std.proofs.lemmas.List.{append-nil, map-append}
use Rattle.std.proofs.lemmas.Grind.{flat_map-append}
use Rattle.std.proofs.lemmas.List.Concat.{flat_map-cons}
use Rattle.std.proofs.lemmas.List.Elements.{filter-append}
use Rattle.td_syntax.specs.declared.syntax.Role.{Role}
use Rattle.td_syntax.specs.declared.syntax.Role.TheVariants as role
use Rattle.td_syntax.specs.Grammar as grammar
use Rattle.td_netlist.specs.declared.fault.FaultKind.TheVariants as kind
use Rattle.td_netlist.specs.declared.fault.Fault.{Fault}
use Rattle.td_nets.specs.Netlist.{Name}
use Rattle.td_nets.specs.WellFormed.{IsDistinct}
use Rattle.td_nets.specs.Names.{name_eq, is_in}
use Rattle.td_netlist.specs.Faults.{fault}
use Rattle.td_netlist.specs.Ranges.{nets_of}
use Rattle.td_netlist.specs.PlacedNets.{Placed, nets_at, output_bits}
use Rattle.td_netlist.specs.Module.{scalar, names_of, Declared, is_input, is_output, is_direction, ports, declarations, declared_names, range_in, nets_named}
use Rattle.td_netlist.specs.NameFaults.{IsNameFault}
use Rattle.td_netlist.specs.Checks.{each, direction_of, Sides, sideless, placed_at, on_side, take_side}
use Rattle.td_netlist.proofs.Members.{either_side, one_of, nowhere, between, mapped, of_mapped, filtered, of_filtered, gathered}
use Rattle.td_netlist.proofs.Distinct.{distinct_head, distinct_tail}
use Rattle.td_netlist.proofs.Sets.{is_absent}
use Rattle.td_nets.proofs.SameNames.{name_eq-same}
use Rattle.td_netlist.proofs.Steps.{kept, stops}
use Rattle.td_netlist.proofs.Declaring.{named_push, declared_as, with_direction, all_names, undirected, directed}
use Rattle.td_netlist.proofs.DeclaredNames.{breaks_as}

-- ---- the direction that is found is that of the declaration

named_as : (is : Role → Bool) (name : Name) (ds : List Declared) → Contains (names_of (declared_as is ds)) name → Contains (all_names ds) name
named_as is name ds has =
    let placed = of_mapped scalar name (declared_as is ds) has in
    let one = of_mapped (λ (x : Declared). x.name) placed.0 (filter (λ (x : Declared). is x.role) ds) placed.1 in
    let in_it = of_filtered (λ (x : Declared). is x.role) one.0 ds one.1 in
    subst (λ (n : Name). Contains (all_names ds) n) (ap scalar one.2 ∙ placed.2)
    (mapped scalar one.0.name (map (λ (x : Declared). x.name) ds) (mapped (λ (x : Declared). x.name) one.0 ds in_it.0))

module _ (is : Role → Bool) (n : grammar.Name) (d : Declared) where
  side_is : (ds : List Declared) → IsDistinct (all_names ds) → direction_of ds n ≡ Some d → is_in (scalar n) (names_of (declared_as is ds)) ≡ is d.role
  side_is [] apart e = absurd cc
  side_is (x ∷ ds) apart e = by (bytes_eq n.name x.name.name) refl (side_is ds (distinct_tail (scalar x.name) (all_names ds) apart)) e
    where
      here : (b : Bool) → is x.role ≡ b → name_eq (scalar n) (scalar x.name) ≡ true → ¬ Contains (all_names ds) (scalar n)
          → is_in (scalar n) (names_of (map (λ (y : Declared). y.name) (cond b (x ∷ filter (λ (y : Declared). is y.role) ds) (filter (λ (y : Declared). is y.role) ds)))) ≡ is x.role
      here true this same absent = ap (λ (b : Bool). b || is_in (scalar n) (names_of (declared_as is ds))) same ∙ sym this
      here false this same absent = is_absent (scalar n) (names_of (declared_as is ds)) (λ has. absent (named_as is (scalar n) ds has)) ∙ sym this

      past : (b : Bool) → is x.role ≡ b → name_eq (scalar n) (scalar x.name) ≡ false → is_in (scalar n) (names_of (declared_as is ds)) ≡ is d.role
          → is_in (scalar n) (names_of (map (λ (y : Declared). y.name) (cond b (x ∷ filter (λ (y : Declared). is y.role) ds) (filter (λ (y : Declared). is y.role) ds)))) ≡ is d.role
      past true this other rest = ap (λ (b : Bool). b || is_in (scalar n) (names_of (declared_as is ds))) other ∙ rest
      past false this other rest = rest

      by : (b : Bool) → bytes_eq n.name x.name.name ≡ b → (direction_of ds n ≡ Some d → is_in (scalar n) (names_of (declared_as is ds)) ≡ is d.role)
          → cond b (Some x) (direction_of ds n) ≡ Some d → is_in (scalar n) (names_of (declared_as is (x ∷ ds))) ≡ is d.role
      by true found rest e =
          let same : x ≡ d = cc in
          let texts : n.name ≡ x.name.name = same_text n.name x.name.name (sym found) in
          let names : scalar x.name ≡ scalar n = ap (λ (t : List ℕ). scalar (record { name = t; line = n.line })) (sym texts) in
          let equal : name_eq (scalar n) (scalar x.name) ≡ true = ap (λ (name : Name). name_eq (scalar n) name) names ∙ name_eq-same (scalar n) in
          let absent : ¬ Contains (all_names ds) (scalar n) = subst (λ (name : Name). ¬ Contains (all_names ds) name) names (distinct_head (scalar x.name) (all_names ds) apart) in
          here (is x.role) refl equal absent ∙ ap (λ (y : Declared). is y.role) same
      by false found rest e =
          let other : name_eq (scalar n) (scalar x.name) ≡ false = rw found refl in
          past (is x.role) refl other (rest e)

directions_alone : (is : Role → Bool) → ((r : Role) → is r ≡ true → is_direction r ≡ true) → (ds : List Declared)
    → filter (λ (d : Declared). is d.role) (with_direction ds) ≡ filter (λ (d : Declared). is d.role) ds
directions_alone is implies [] = refl
directions_alone is implies (x ∷ ds) = by (is_direction x.role) refl (directions_alone is implies ds)
  where
    skipped : (b : Bool) → is x.role ≡ b → is_direction x.role ≡ false → filter (λ (d : Declared). is d.role) ds ≡ cond b (x ∷ filter (λ (d : Declared). is d.role) ds) (filter (λ (d : Declared). is d.role) ds)
    skipped true this other = absurd (let direction : is_direction x.role ≡ true = implies x.role this in cc)
    skipped false this other = refl

    by : (b : Bool) → is_direction x.role ≡ b → filter (λ (d : Declared). is d.role) (with_direction ds) ≡ filter (λ (d : Declared). is d.role) ds
        → filter (λ (d : Declared). is d.role) (cond b (x ∷ with_direction ds) (with_direction ds)) ≡ filter (λ (d : Declared). is d.role) (x ∷ ds)
    by true direction rest = ap (λ (es : List Declared). cond (is x.role) (x ∷ es) es) rest
    by false direction rest = rest ∙ skipped (is x.role) refl direction

pub input_directs : (r : Role) → is_input r ≡ true → is_direction r ≡ true
input_directs role.Input e = refl
input_directs role.Output e = absurd cc
input_directs role.Wire e = absurd cc

pub output_directs : (r : Role) → is_output r ≡ true → is_direction r ≡ true
output_directs role.Input e = absurd cc
output_directs role.Output e = refl
output_directs role.Wire e = absurd cc

input_or_output : (r : Role) → is_direction r ≡ true → ((is_input r ≡ true) × (is_output r ≡ false)) ⊎ ((is_input r ≡ false) × (is_output r ≡ true))
input_or_output role.Input e = inl (refl, refl)
input_or_output role.Output e = inr (refl, refl)
input_or_output role.Wire e = absurd cc

-- ---- the walk

module _ {X : Type 0} (p : X → Bool) (xs : List X) (x : X) where
  filter_more : p x ≡ true → filter p (xs ++ x ∷ []) ≡ filter p xs ++ x ∷ []
  filter_more e = filter-append p xs (x ∷ []) ∙ ap (λ (ys : List X). filter p xs ++ ys) (rw e refl)

  filter_same : p x ≡ false → filter p (xs ++ x ∷ []) ≡ filter p xs
  filter_same e = filter-append p xs (x ∷ []) ∙ ap (λ (ys : List X). filter p xs ++ ys) (rw e refl) ∙ append-nil (filter p xs)

module _ {X Y : Type 0} (p : X → Bool) (f : X → List Y) (xs : List X) (x : X) where
  gather_more : p x ≡ true → flat_map f (filter p (xs ++ x ∷ [])) ≡ flat_map f (filter p xs) ++ f x
  gather_more e =
      ap (λ (ys : List X). flat_map f ys) (filter_more p xs x e)
      ∙ flat_map-append f (filter p xs) (x ∷ [])
      ∙ ap (λ (ys : List Y). flat_map f (filter p xs) ++ ys) (flat_map-cons f x [] ∙ append-nil (f x))

  gather_same : p x ≡ false → flat_map f (filter p (xs ++ x ∷ [])) ≡ flat_map f (filter p xs)
  gather_same e = ap (λ (ys : List X). flat_map f ys) (filter_same p xs x e)

placed_nets : (line : ℕ) (names : List Name) → nets_at (placed_at line names) ≡ names
placed_nets line [] = refl
placed_nets line (n ∷ names) = ap (λ (ns : List Name). n ∷ ns) (placed_nets line names)

abbrev either_one : Bool → Sides → grammar.Name → Declared → Result Sides Fault
either_one b s n d =
    cond b (Ok (record { inputs = s.inputs ++ nets_of n.name d.range; outputs = s.outputs }))
    (Ok (record { inputs = s.inputs; outputs = s.outputs ++ placed_at d.name.line (nets_of n.name d.range) }))

-- whether a port is declared as such
abbrev pub is_port_as : (Role → Bool) → grammar.Module → grammar.Name → Bool
is_port_as is m n = is_in (scalar n) (names_of (declared_names is m))

abbrev sides_as : (Role → Bool) → grammar.Module → List grammar.Name → List Name
sides_as is m ns = flat_map (nets_named m) (filter (is_port_as is m) ns)

pub record HasSides (m : grammar.Module) (s : Sides) (ns : List grammar.Name) : Type 0 where
  pub inputs : s.inputs ≡ sides_as is_input m ns
  pub outputs : nets_at s.outputs ≡ sides_as is_output m ns
  -- an output stands where its direction does
  pub stand : (p : Placed) → Contains s.outputs p → Contains (output_bits m) p
  pub directed : (name : Name) → Contains (names_of ns) name → Contains (names_of (declared_names is_direction m)) name

no_sides : (m : grammar.Module) → HasSides m sideless []
no_sides m = record { inputs = refl; outputs = refl; stand = λ n has. nowhere n has; directed = λ name has. nowhere name has }

module _ (m : grammar.Module) (once : IsDistinct (names_of (declared_names is_direction m))) where
  abbrev directions : List Declared
  directions = with_direction (declarations m)

  pub side_of : (is : Role → Bool) → ((r : Role) → is r ≡ true → is_direction r ≡ true) → (n : grammar.Name) (d : Declared) → direction_of directions n ≡ Some d
      → is_in (scalar n) (names_of (declared_names is m)) ≡ is d.role
  side_of is implies n d e =
      ap (λ (es : List Declared). is_in (scalar n) (names_of (map (λ (x : Declared). x.name) es))) (sym (directions_alone is implies (declarations m)))
      ∙ side_is is n d directions once e

  module _ (ranges : (d : Declared) → Contains (declarations m) d → d.range ≡ range_in m d.name.name) where
    -- the nets of a port by its direction
    nets_directed : (n : grammar.Name) (d : Declared) → direction_of directions n ≡ Some d → nets_of n.name d.range ≡ nets_named m n
    nets_directed n d found =
        let there = directed directions n d found in
        let declared = of_filtered (λ (x : Declared). is_direction x.role) d (declarations m) there.0 in
        ap (λ (range : Option _). nets_of n.name range) (ranges d declared.0 ∙ ap (λ (name : Name). range_in m name.text) there.1)

    sides_one : (s t : Sides) (done : List grammar.Name) (n : grammar.Name) → HasSides m s done → take_side directions s n ≡ Ok t → HasSides m t (done ++ n ∷ [])
    unfolding take_side
    sides_one s t done n keeps e = by (direction_of directions n) refl e
      where
        all_directed : (d : Declared) → direction_of directions n ≡ Some d → (name : Name) → Contains (names_of (done ++ n ∷ [])) name → Contains (names_of (declared_names is_direction m)) name
        all_directed d found name has = elim (either_side name (names_of done) (scalar n ∷ []) (subst (λ (ns : List Name). Contains ns name) (named_push done n) has)) [
          | inl before ↦ keeps.directed name before
          | inr last ↦ elim (one_of name (scalar n) [] last) [
            | inl same ↦ (let there = directed directions n d found in
                subst (λ (x : Name). Contains (names_of (declared_names is_direction m)) x) (there.1 ∙ same)
                (mapped scalar d.name (declared_names is_direction m) (mapped (λ (x : Declared). x.name) d directions there.0)))
            | inr none ↦ nowhere name none
          ]
        ]

        input : (d : Declared) → direction_of directions n ≡ Some d → is_input d.role ≡ true → is_output d.role ≡ false
            → record { inputs = s.inputs ++ nets_of n.name d.range; outputs = s.outputs } ≡ t → HasSides m t (done ++ n ∷ [])
        input d found this other made = subst (λ (u : Sides). HasSides m u (done ++ n ∷ [])) made (record {
          inputs =
              ap (λ (ns : List Name). ns ++ nets_of n.name d.range) keeps.inputs
              ∙ ap (λ (ns : List Name). sides_as is_input m done ++ ns) (nets_directed n d found)
              ∙ sym (gather_more (is_port_as is_input m) (nets_named m) done n (side_of is_input input_directs n d found ∙ this));
          outputs = keeps.outputs ∙ sym (gather_same (is_port_as is_output m) (nets_named m) done n (side_of is_output output_directs n d found ∙ other));
          stand = keeps.stand;
          directed = all_directed d found;
        })

        output : (d : Declared) → direction_of directions n ≡ Some d → is_input d.role ≡ false → is_output d.role ≡ true
            → record { inputs = s.inputs; outputs = s.outputs ++ placed_at d.name.line (nets_of n.name d.range) } ≡ t → HasSides m t (done ++ n ∷ [])
        output d found other this made =
            let there = directed directions n d found in
            let stands : Contains (filter (λ (x : Declared). is_output x.role) (declarations m)) d =
            subst (λ (es : List Declared). Contains es d) (directions_alone is_output output_directs (declarations m)) (filtered (λ (x : Declared). is_output x.role) d directions there.0 this) in
            let bits : placed_at d.name.line (nets_of d.name.name d.range) ≡ placed_at d.name.line (nets_of n.name d.range) =
            ap (λ (name : Name). placed_at d.name.line (nets_of name.text d.range)) there.1 in
            subst (λ (u : Sides). HasSides m u (done ++ n ∷ [])) made (record {
              inputs = keeps.inputs ∙ sym (gather_same (is_port_as is_input m) (nets_named m) done n (side_of is_input input_directs n d found ∙ other));
              outputs =
                  map-append (λ (p : Placed). p.net) s.outputs (placed_at d.name.line (nets_of n.name d.range))
                  ∙ ap (λ (ns : List Name). ns ++ nets_at (placed_at d.name.line (nets_of n.name d.range))) keeps.outputs
                  ∙ ap (λ (ns : List Name). sides_as is_output m done ++ ns) (placed_nets d.name.line (nets_of n.name d.range) ∙ nets_directed n d found)
                  ∙ sym (gather_more (is_port_as is_output m) (nets_named m) done n (side_of is_output output_directs n d found ∙ this));
              stand = λ p has. elim (either_side p s.outputs (placed_at d.name.line (nets_of n.name d.range)) has) [
                | inl before ↦ keeps.stand p before
                | inr last ↦ gathered (λ (x : Declared). placed_at x.name.line (nets_of x.name.name x.range)) d p (filter (λ (x : Declared). is_output x.role) (declarations m)) stands
                    (subst (λ (ps : List Placed). Contains ps p) (sym bits) last)
              ];
              directed = all_directed d found;
            })

        on_its_side : (d : Declared) (b : Bool) → direction_of directions n ≡ Some d → is_input d.role ≡ b → is_direction d.role ≡ true → either_one b s n d ≡ Ok t → HasSides m t (done ++ n ∷ [])
        on_its_side d true found this direction e = elim (input_or_output d.role direction) [
          | inl is ↦ input d found this is.1 cc
          | inr is ↦ absurd (let no : is_input d.role ≡ false = is.0 in cc)
        ]
        on_its_side d false found this direction e = elim (input_or_output d.role direction) [
          | inl is ↦ absurd (let no : is_input d.role ≡ true = is.0 in cc)
          | inr is ↦ output d found this is.1 cc
        ]

        by : (o : Option Declared) → direction_of directions n ≡ o → on_side s n o ≡ Ok t → HasSides m t (done ++ n ∷ [])
        by None found e = absurd cc
        by (Some d) found e =
            let there = directed directions n d found in
            let direction = of_filtered (λ (x : Declared). is_direction x.role) d (declarations m) there.0 in
            on_its_side d (is_input d.role) found refl direction.1 e

    pub are_sides : (t : Sides) → each (take_side directions) sideless (ports m) ≡ Ok t → HasSides m t (ports m)
    are_sides t e = kept (take_side directions) (HasSides m) sides_one sideless t [] (ports m) (no_sides m) e

    pub side_breaks : (f : Fault) → each (take_side directions) sideless (ports m) ≡ Err f → IsNameFault f.kind f.line m
    unfolding take_side
    side_breaks f e =
        let at = stops (take_side directions) (HasSides m) sides_one sideless [] (ports m) f (no_sides m) e in
        let stands : Contains (ports m) at.member = subst (λ (ns : List grammar.Name). Contains ns at.member) (sym at.splits) (between at.before at.member at.after) in
        by at.member stands at.state (direction_of directions at.member) refl at.refused
      where
        by : (n : grammar.Name) → Contains (ports m) n → (s : Sides) (o : Option Declared) → direction_of directions n ≡ o → on_side s n o ≡ Err f → IsNameFault f.kind f.line m
        by n stands s None found e =
            let same : fault kind.PortUndeclared n.line ≡ f = cc in
            let absent = undirected directions n (ap (λ (o : Option Declared). is_some o) found) in
            breaks_as m f.line kind.PortUndeclared f.kind (ap (λ (g : Fault). g.kind) (sym same))
            (inr (record { name = n; stands = stands; there = ap (λ (g : Fault). g.line) same; missing = absent }))
        by n stands s (Some d) found e = absurd (either (is_input d.role) e)
          where
            either : (b : Bool) → either_one b s n d ≡ Err f → ⊥
            either true e = cc
            either false e = cc
