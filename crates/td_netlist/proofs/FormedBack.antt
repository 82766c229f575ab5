-- From a well-formed netlist to the conditions on the drivers of its module.
use Rattle.std.proofs.Common.{◌≡◌, ℕ, ◌≤◌, Bool, true, false, cond, None, List, [], ◌∷◌, ◌++◌, length, map, filter, refl, sym, ap, subst, ◌∙◌, arith, inl, inr}
use Rattle.std.specs.List.{Contains, flat_map, AllByRecursion}
use Rattle.std.proofs.lemmas.List.{length-take}
use Rattle.std.proofs.lemmas.List.Concat.{flat_map-cons}
use Rattle.td_gates.specs.declared.primitives.Kind.{Kind}
use Rattle.td_gates.specs.declared.primitives.Kind.TheVariants as kinds
use Rattle.td_gates.specs.declared.timing.Delay.{Delay}
use Rattle.td_syntax.specs.declared.syntax.Role.{Role}
use Rattle.td_syntax.specs.Grammar as grammar
use Rattle.td_syntax.specs.Grammar.{IsItem, LiesWithin, output_count, unit_exponent}
use Rattle.td_nets.specs.Netlist.{Name, Net, Low, High, Named, Gate}
use Rattle.td_nets.specs.WellFormed.{IsDistinct, IsWellFormed, gate_outputs, driven}
use Rattle.td_netlist.specs.Ranges.{nets_of}
use Rattle.td_netlist.specs.Module.{scalar, names_of, Declared, is_input, is_output, is_direction, ports, ports_as, declarations, declared, declared_names, range_in, nets_named, net_of, primitives, outputs_of, inputs_of, gate_by, primitive_gates, gates_of, netlist_in}
use Rattle.td_netlist.specs.PlacedNets.{line_of, Placed, placed_net, nets_at, outputs_in, inputs_in, output_bits, driven_in, input_count}
use Rattle.td_netlist.specs.Means.{AreDeclared, TerminalsJoinNets, HasFewNets}
use Rattle.td_netlist.specs.Conditions.{IsConsistent}
use Rattle.td_netlist.proofs.Members.{first, one_of, nowhere, behind, mapped, of_mapped, filtered, of_filtered, gathered, of_gathered}
use Rattle.td_netlist.proofs.Distinct.{Distinct, distinct_nil, distinct_cons, distinct_head, distinct_tail, distinct_append, no_more}
use Rattle.td_netlist.proofs.Sets.{is_contained}
use Rattle.td_netlist.proofs.Declaring.{with_direction}
use Rattle.td_netlist.proofs.PortSides.{is_port_as, input_directs, output_directs}
use Rattle.td_netlist.proofs.Apart.{net_text, nets_apart}
use Rattle.td_netlist.proofs.Formed.{in_module, gate_names, declared_nets, declared_long}
use Rattle.td_netlist.proofs.FewNets.{counted}

module _ {X : Type 0} where
  right_apart : (xs ys : List X) → Distinct (xs ++ ys) → Distinct ys
  right_apart [] ys apart = apart
  right_apart (x ∷ xs) ys apart = right_apart xs ys (distinct_tail x (xs ++ ys) apart)

  sides_disjoint : (xs ys : List X) → Distinct (xs ++ ys) → (x : X) → Contains ys x → ¬ Contains xs x
  sides_disjoint [] ys apart x right left = nowhere x left
  sides_disjoint (z ∷ xs) ys apart x right left = elim (one_of x z xs left) [
    | inl same ↦ distinct_head z (xs ++ ys) apart (behind z xs ys (subst (λ (y : X). Contains ys y) (sym same) right))
    | inr rest ↦ sides_disjoint xs ys (distinct_tail z (xs ++ ys) apart) x right rest
  ]

placed_is : (line : ℕ) (net : Net) (p : Placed) → Contains (placed_net line net) p → net ≡ Named p.net
placed_is line Low p has = nowhere p has
placed_is line High p has = nowhere p has
placed_is line (Named name) p has = elim (one_of p (record { net = name; line = line }) [] has) [
  | inl same ↦ ap (λ (q : Placed). Named q.net) same
  | inr none ↦ nowhere p none
]

counts : (k : Kind) (n : ℕ) → LiesWithin 2 1024 n → 1 ≤ output_count k n
counts kinds.Buf n within = omega (arith, within.0)
counts kinds.Not n within = omega (arith, within.0)
counts k n within = omega arith

-- a list that isn't empty has a first element
some_first : {X : Type 0} (xs : List X) → 1 ≤ length xs → (x : X) × Contains xs x
some_first [] some = absurd (omega (arith, some))
some_first (x ∷ xs) some = (x, first x xs)

-- ---- the nets of declarations

-- the nets of declarations with other names are others
declared_apart : (m : grammar.Module) (ds : List Declared) → IsDistinct (names_of (map (λ (d : Declared). d.name) ds)) → IsDistinct (declared_nets ds)
declared_apart m [] once = distinct_nil
declared_apart m (d ∷ ds) once =
    let nets : Declared → List Name = λ x. nets_of x.name.name x.range in
    let names : List Name = names_of (map (λ (x : Declared). x.name) ds) in
    subst IsDistinct (sym (flat_map-cons nets d ds))
    (distinct_append (nets d) (declared_nets ds) (nets_apart d.name.name d.range) (declared_apart m ds (distinct_tail (scalar d.name) names once))
    (λ x has in_it. (let one = of_gathered nets x ds has in
    let texts : one.0.name.name ≡ d.name.name = sym (net_text one.0.name.name one.0.range x one.2) ∙ net_text d.name.name d.range x in_it in
    let there : Contains names (scalar one.0.name) = mapped scalar one.0.name (map (λ (y : Declared). y.name) ds) (mapped (λ (y : Declared). y.name) one.0 ds one.1) in
    distinct_head (scalar d.name) names once (subst (λ (t : List ℕ). Contains names (record { text = t; bit = None })) texts there))))

-- the names of some of the declarations are distinct where those of more of them are
fewer_once : (p q : Declared → Bool) → ((d : Declared) → p d ≡ true → q d ≡ true) → (ds : List Declared)
    → IsDistinct (names_of (map (λ (d : Declared). d.name) (filter q ds))) → IsDistinct (names_of (map (λ (d : Declared). d.name) (filter p ds)))
fewer_once p q are [] once = distinct_nil
fewer_once p q are (d ∷ ds) once = by (p d) (q d) refl refl once (λ rest. fewer_once p q are ds rest)
  where
    by : (b c : Bool) → p d ≡ b → q d ≡ c → IsDistinct (names_of (map (λ (x : Declared). x.name) (cond c (d ∷ filter q ds) (filter q ds))))
        → (IsDistinct (names_of (map (λ (x : Declared). x.name) (filter q ds))) → IsDistinct (names_of (map (λ (x : Declared). x.name) (filter p ds))))
        → IsDistinct (names_of (map (λ (x : Declared). x.name) (cond b (d ∷ filter p ds) (filter p ds))))
    by true true e f apart more =
        let others : List Name = names_of (map (λ (x : Declared). x.name) (filter q ds)) in
        distinct_cons (scalar d.name) (names_of (map (λ (x : Declared). x.name) (filter p ds)))
        (λ has. (let placed = of_mapped scalar (scalar d.name) (map (λ (x : Declared). x.name) (filter p ds)) has in
        let one = of_mapped (λ (x : Declared). x.name) placed.0 (filter p ds) placed.1 in
        let so = of_filtered p one.0 ds one.1 in
        let there : Contains others (scalar one.0.name) = mapped scalar one.0.name (map (λ (x : Declared). x.name) (filter q ds)) (mapped (λ (x : Declared). x.name) one.0 (filter q ds) (filtered q one.0 ds so.0 (are one.0 so.1))) in
        distinct_head (scalar d.name) others apart (subst (λ (x : Name). Contains others x) (ap scalar one.2 ∙ placed.2) there)))
        (more (distinct_tail (scalar d.name) others apart))
    by true false e f apart more = let yes_q : q d ≡ true = are d e in absurd cc
    by false true e f apart more = more (distinct_tail (scalar d.name) (names_of (map (λ (x : Declared). x.name) (filter q ds))) apart)
    by false false e f apart more = more apart

module _ (m : grammar.Module) (keeps : AreDeclared m) (is : Role → Bool) (directs : (r : Role) → is r ≡ true → is_direction r ≡ true) where
  -- a net of a declared direction is one of a port
  pub port_net : (d : Declared) → Contains (declared is m) d → (name : Name) → Contains (nets_of d.name.name d.range) name → Contains (ports_as is m) name
  port_net d stands name bit =
      let so = of_filtered (λ (x : Declared). is x.role) d (declarations m) stands in
      let as_one : Contains (names_of (declared_names is m)) (scalar d.name) = mapped scalar d.name (declared_names is m) (mapped (λ (x : Declared). x.name) d (declared is m) stands) in
      let directed : Contains (names_of (declared_names is_direction m)) (scalar d.name) =
      mapped scalar d.name (declared_names is_direction m) (mapped (λ (x : Declared). x.name) d (with_direction (declarations m))
      (filtered (λ (x : Declared). is_direction x.role) d (declarations m) so.0 (directs d.role so.1))) in
      let port = of_mapped scalar (scalar d.name) (ports m) (keeps.are_ports (scalar d.name) directed) in
      let passes : is_port_as is m port.0 ≡ true = is_contained (scalar port.0) (names_of (declared_names is m)) (subst (λ (x : Name). Contains (names_of (declared_names is m)) x) (sym port.2) as_one) in
      let bits : nets_of d.name.name d.range ≡ nets_named m port.0 =
      ap (λ (range : _). nets_of d.name.name range) (keeps.one_range d so.0) ∙ ap (λ (x : Name). nets_of x.text (range_in m x.text)) (sym port.2) in
      gathered (nets_named m) port.0 name (filter (is_port_as is m) (ports m)) (filtered (is_port_as is m) port.0 (ports m) port.1 passes)
      (subst (λ (ns : List Name). Contains ns name) bits bit)

-- ---- the whole

module _ (m : grammar.Module) (keeps : AreDeclared m) (joined : TerminalsJoinNets m) (items : AllByRecursion (IsItem (unit_exponent m.fronts)) m.items) (default : Delay) (formed : IsWellFormed (netlist_in default m)) where
  outputs_are : gate_outputs (netlist_in default m) ≡ nets_at (outputs_in m)
  outputs_are = gate_names m joined default items

  driven_are : driven (netlist_in default m) ≡ driven_in m
  driven_are = ap (λ (ns : List Name). ports_as is_input m ++ ns) outputs_are

  apart : IsDistinct (driven_in m)
  apart = subst IsDistinct driven_are formed.one_driver

  reads : (name : Name) → Contains (nets_at (inputs_in m)) name → Contains (driven_in m) name
  reads name has =
      let placed = of_mapped (λ (p : Placed). p.net) name (inputs_in m) has in
      let at = of_gathered (λ (t : grammar.Terminal). placed_net (line_of t) (net_of m t)) placed.0 (flat_map inputs_of (primitives m)) placed.1 in
      let p = of_gathered inputs_of at.0 (primitives m) at.1 in
      let kept = in_module (unit_exponent m.fronts) m p.0 items p.1 in
      let count = output_count p.0.kind (length p.0.terminals) in
      let least = counts p.0.kind (length p.0.terminals) kept.terminals in
      let out = some_first (outputs_of p.0) (omega (arith, length-take count p.0.terminals, least, kept.terminals.0)) in
      let g : Gate = gate_by m default p.0 out.0 in
      let stands : Contains (gates_of default m) g = gathered (primitive_gates m default) p.0 g (primitives m) p.1 (mapped (gate_by m default p.0) out.0 (outputs_of p.0) out.1) in
      let net : net_of m at.0 ≡ Named name = placed_is (line_of at.0) (net_of m at.0) placed.0 at.2 ∙ ap (λ (n : Name). Named n) placed.2 in
      let read : Contains g.inputs (Named name) = subst (λ (x : Net). Contains (map (net_of m) (inputs_of p.0)) x) net (mapped (net_of m) at.0 (inputs_of p.0) p.2) in
      subst (λ (ns : List Name). Contains ns name) driven_are ((formed.gates g stands).reads name read)

  outputs : (name : Name) → Contains (nets_at (output_bits m)) name → Contains (driven_in m) name
  outputs name has =
      let placed = of_mapped (λ (p : Placed). p.net) name (output_bits m) has in
      let one = of_gathered (λ (d : Declared). map (λ (net : Name). record { net = net; line = d.name.line }) (nets_of d.name.name d.range)) placed.0 (declared is_output m) placed.1 in
      let bit = of_mapped (λ (net : Name). record { net = net; line = one.0.name.line }) placed.0 (nets_of one.0.name.name one.0.range) one.2 in
      let net : bit.0 ≡ name = ap (λ (p : Placed). p.net) bit.2 ∙ placed.2 in
      let port : Contains (ports_as is_output m) name = subst (λ (x : Name). Contains (ports_as is_output m) x) net (port_net m keeps is_output output_directs one.0 one.1 bit.0 bit.1) in
      behind name (ports_as is_input m) (nets_at (outputs_in m)) (subst (λ (ns : List Name). Contains ns name) outputs_are (formed.outputs name port))

  few_inputs : input_count m ≤ 4096
  few_inputs =
      let once = fewer_once (λ (d : Declared). is_input d.role) (λ (d : Declared). is_direction d.role) (λ d e. input_directs d.role e) (declarations m) keeps.directed_once in
      let fewer : length (declared_nets (declared is_input m)) ≤ length (ports_as is_input m) =
      no_more (declared_nets (declared is_input m)) (ports_as is_input m) (declared_apart m (declared is_input m) once)
      (λ name has. (let one = of_gathered (λ (d : Declared). nets_of d.name.name d.range) name (declared is_input m) has in port_net m keeps is_input input_directs one.0 one.1 name one.2)) in
      omega (arith, fewer, declared_long (declared is_input m), formed.few_inputs)

  pub consistent : HasFewNets m → IsConsistent m
  consistent few = record {
    declared = keeps;
    joined = joined;
    driven = record {
      driven_once = right_apart (ports_as is_input m) (nets_at (outputs_in m)) apart;
      inputs_free = sides_disjoint (ports_as is_input m) (nets_at (outputs_in m)) apart;
      reads_driven = reads;
      outputs_driven = outputs;
    };
    within = record { few_inputs = few_inputs; few_nets = counted m few };
  }
