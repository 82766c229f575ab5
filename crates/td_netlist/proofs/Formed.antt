-- The netlist of a module whose names keep the conditions is well-formed.
use Rattle.std.proofs.Common.{◌≡◌, ℕ, zero, suc, ◌+◌, ◌-◌, ◌≤◌, Bool, true, false, cond, List, [], ◌∷◌, ◌++◌, length, map, filter, Option, None, Some, refl, sym, ap, subst, ◌∙◌, arith, inl, inr, length-drop}
use Rattle.std.specs.List.{Contains, flat_map, AllByRecursion}
use Rattle.std.specs.Prelude.{◌==◌, is_some, sum_by}
use Rattle.std.proofs.lemmas.List.{length-map, map-append, length-append, length-take, take-append-drop}
use Rattle.std.proofs.lemmas.List.Sums.{sum_by-cons}
use Rattle.std.proofs.lemmas.Grind.{flat_map-append}
use Rattle.std.proofs.lemmas.List.Concat.{flat_map-cons}
use Rattle.td_gates.specs.declared.primitives.Kind.{Kind}
use Rattle.td_gates.specs.declared.primitives.Kind.TheVariants as gate
use Rattle.td_gates.specs.declared.timing.Delay.{Delay}
use Rattle.td_gates.specs.Delays.{IsInRange}
use Rattle.td_gates.specs.Table.{TakesInputs}
use Rattle.td_gates.proofs.Places.{map-fuse}
use Rattle.td_syntax.specs.declared.syntax.Role.{Role}
use Rattle.td_syntax.specs.declared.syntax.Role.TheVariants as role
use Rattle.td_syntax.specs.Grammar as grammar
use Rattle.td_syntax.specs.Grammar.{IsItem, IsNet, IsInstance, LiesWithin, IsStatedDelay, output_count, item_gates, instance_gates, unit_exponent, decimal_value}
use Rattle.td_netlist.specs.declared.ranges.Range.{Range}
use Rattle.td_nets.specs.Netlist.{Name, Net, Named, Gate}
use Rattle.td_nets.specs.WellFormed.{IsDistinct, IsWellFormed, IsGate, driven, gate_outputs}
use Rattle.td_netlist.specs.Ranges.{width_of, holds, bits_from, bit_name, nets_of}
use Rattle.td_netlist.specs.PlacedNets.{line_of, Placed, placed_net, placed_in, nets_at, outputs_in, inputs_in, output_bits, driven_in}
use Rattle.td_netlist.specs.Module.{scalar, names_of, Declared, is_input, is_output, is_direction, ports, ports_as, declarations, declared, declared_names, range_in, nets_named, whole_source, bit_source, Joins, NotOne, NoBit, source_of, net_from, net_of, outputs_of, inputs_of, Primitive, primitives, item_primitives, as_primitive, delay_of, name_from, gate_by, primitive_gates, gates_of, netlist_in}
use Rattle.td_netlist.specs.Conditions.{IsConsistent}
use Rattle.td_netlist.specs.Means.{JoinsNet, TerminalsJoinNets}
use Rattle.td_netlist.specs.Checks.{direction_of}
use Rattle.td_netlist.proofs.Members.{first, later, one_of, nowhere, in_front, mapped, of_mapped, filtered, of_filtered, gathered, of_gathered, either_side}
use Rattle.td_netlist.proofs.Distinct.{distinct_append, no_more}
use Rattle.td_netlist.proofs.Sets.{contains_is, is_contained}
use Rattle.td_netlist.proofs.Declaring.{with_direction, undirected}
use Rattle.td_netlist.proofs.PortSides.{is_port_as, side_of, input_directs, output_directs}
use Rattle.td_netlist.proofs.Apart.{net_text, sides_apart}

-- ---- what the syntax keeps of each instance

one_item : {X : Type 0} (P : X → Type 0) (x : X) (xs : List X) → AllByRecursion P xs → Contains xs x → P x
one_item P x [] all has = nowhere x has
one_item P x (y ∷ xs) all has = elim (one_of x y xs has) [
  | inl same ↦ subst P same all.0
  | inr rest ↦ one_item P x xs all.1 rest
]

pub record IsPrimitive (tens : ℕ) (p : Primitive) : Type 0 where
  pub delay : IsStatedDelay tens p.delay
  pub terminals : LiesWithin 2 1024 (length p.terminals)
  pub outputs : AllByRecursion IsNet (outputs_of p)

in_item : (tens : ℕ) (i : grammar.Item) (p : Primitive) → IsItem tens i → Contains (item_primitives i) p → IsPrimitive tens p
in_item tens (grammar.Declares d) p keeps has = nowhere p has
in_item tens (grammar.Gates g) p keeps has =
    let one = of_mapped (as_primitive g.kind g.delay) p g.instances has in
    let instance = one_item (IsInstance g.kind) one.0 g.instances keeps.each one.1 in
    subst (λ (q : Primitive). IsPrimitive tens q) one.2 (record { delay = keeps.delay; terminals = instance.terminals; outputs = instance.outputs })

pub in_module : (tens : ℕ) (m : grammar.Module) (p : Primitive) → AllByRecursion (IsItem tens) m.items → Contains (primitives m) p → IsPrimitive tens p
in_module tens m p keeps has =
    let one = of_gathered item_primitives p m.items has in
    in_item tens one.0 p (one_item (IsItem tens) one.0 m.items keeps one.1) one.2

-- ---- the number of gates

outputs_below : (p : Primitive) → length (outputs_of p) ≤ output_count p.kind (length p.terminals)
outputs_below p = omega (arith, length-take (output_count p.kind (length p.terminals)) p.terminals)

instances_below : (k : Kind) (d : Option grammar.Delay) (is : List grammar.Instance) → length (flat_map outputs_of (map (as_primitive k d) is)) ≤ sum_by (instance_gates k) is
instances_below k d [] = omega arith
instances_below k d (i ∷ is) =
    omega (
      arith,
      ap (λ (ns : List grammar.Terminal). length ns) (flat_map-cons outputs_of (as_primitive k d i) (map (as_primitive k d) is)),
      length-append (outputs_of (as_primitive k d i)) (flat_map outputs_of (map (as_primitive k d) is)),
      outputs_below (as_primitive k d i),
      instances_below k d is,
      sum_by-cons (instance_gates k) i is,
    )

item_below : (i : grammar.Item) → length (flat_map outputs_of (item_primitives i)) ≤ item_gates i
item_below (grammar.Declares d) = omega arith
item_below (grammar.Gates g) = instances_below g.kind g.delay g.instances

pub gates_below : (is : List grammar.Item) → length (flat_map outputs_of (flat_map item_primitives is)) ≤ sum_by item_gates is
gates_below [] = omega arith
gates_below (i ∷ is) =
    omega (
      arith,
      ap (λ (ps : List Primitive). length (flat_map outputs_of ps)) (flat_map-cons item_primitives i is),
      ap (λ (ns : List grammar.Terminal). length ns) (flat_map-append outputs_of (item_primitives i) (flat_map item_primitives is)),
      length-append (flat_map outputs_of (item_primitives i)) (flat_map outputs_of (flat_map item_primitives is)),
      item_below i,
      gates_below is,
      sum_by-cons item_gates i is,
    )

-- ---- the terminals of a gate

takes_inputs : (k : Kind) (n : ℕ) (inputs : ℕ) → LiesWithin 2 1024 n → inputs ≡ n - output_count k n → TakesInputs k inputs × (inputs ≤ 1023)
takes_inputs gate.Buf n inputs within is = (omega (arith, within.0, within.1), omega (arith, within.0, within.1))
takes_inputs gate.Not n inputs within is = (omega (arith, within.0, within.1), omega (arith, within.0, within.1))
takes_inputs gate.And n inputs within is = (omega (arith, within.0, within.1), omega (arith, within.0, within.1))
takes_inputs gate.Nand n inputs within is = (omega (arith, within.0, within.1), omega (arith, within.0, within.1))
takes_inputs gate.Or n inputs within is = (omega (arith, within.0, within.1), omega (arith, within.0, within.1))
takes_inputs gate.Nor n inputs within is = (omega (arith, within.0, within.1), omega (arith, within.0, within.1))
takes_inputs gate.Xor n inputs within is = (omega (arith, within.0, within.1), omega (arith, within.0, within.1))
takes_inputs gate.Xnor n inputs within is = (omega (arith, within.0, within.1), omega (arith, within.0, within.1))

delay_in_range : (tens : ℕ) (default : Delay) (stated : Option grammar.Delay) → IsInRange default → IsStatedDelay tens stated → IsInRange (delay_of tens default stated)
delay_in_range tens default None range keeps = range
delay_in_range tens default (Some (grammar.Plain n)) range keeps = record { least_rise = keeps.within.0; greatest_rise = keeps.within.1; least_fall = keeps.within.0; greatest_fall = keeps.within.1 }
delay_in_range tens default (Some (grammar.Single n)) range keeps = record { least_rise = keeps.within.0; greatest_rise = keeps.within.1; least_fall = keeps.within.0; greatest_fall = keeps.within.1 }
delay_in_range tens default (Some (grammar.RiseFall n k)) range keeps = record { least_rise = keeps.0.within.0; greatest_rise = keeps.0.within.1; least_fall = keeps.1.within.0; greatest_fall = keeps.1.within.1 }

-- ---- the outputs of the gates

-- a terminal that is a named net
abbrev pub IsNamed : grammar.Module → grammar.Terminal → Type 0
IsNamed m t = (name : Name) × (net_of m t ≡ Named name)

whole_named : (text : List ℕ) (range : Option Range) → JoinsNet (whole_source text range) → (name : Name) × (net_from (whole_source text range) ≡ Named name)
whole_named text None joined = (record { text = text; bit = None }, refl)
whole_named text (Some r) joined = by (r.left == r.right) joined
  where
    by : (b : Bool) → JoinsNet (cond b (Joins (Named (bit_name text r.left))) NotOne) → (name : Name) × (net_from (cond b (Joins (Named (bit_name text r.left))) NotOne) ≡ Named name)
    by true joined = (bit_name text r.left, refl)
    by false joined = absurd joined

bit_named : (text : List ℕ) (bit : ℕ) (range : Option Range) → JoinsNet (bit_source text bit range) → (name : Name) × (net_from (bit_source text bit range) ≡ Named name)
bit_named text bit None joined = absurd joined
bit_named text bit (Some r) joined = by (holds r bit) joined
  where
    by : (b : Bool) → JoinsNet (cond b (Joins (Named (bit_name text bit))) NoBit) → (name : Name) × (net_from (cond b (Joins (Named (bit_name text bit))) NoBit) ≡ Named name)
    by true joined = (bit_name text bit, refl)
    by false joined = absurd joined

is_named : (m : grammar.Module) (t : grammar.Terminal) → IsNet t → JoinsNet (source_of m t) → IsNamed m t
is_named m (grammar.Whole n) net joined = whole_named n.name (range_in m n.name) joined
is_named m (grammar.Select n digits) net joined = bit_named n.name (decimal_value digits) (range_in m n.name) joined
is_named m (grammar.Level b) net joined = absurd net

all_named : (m : grammar.Module) (ts : List grammar.Terminal) → AllByRecursion IsNet ts → ((t : grammar.Terminal) → Contains ts t → JoinsNet (source_of m t)) → AllByRecursion (IsNamed m) ts
all_named m [] nets joined = tt
all_named m (t ∷ ts) nets joined = (is_named m t nets.0 (joined t (first t ts)), all_named m ts nets.1 (λ x has. joined x (later x t ts has)))

named_outputs : (m : grammar.Module) (ts : List grammar.Terminal) → AllByRecursion (IsNamed m) ts → map (λ (t : grammar.Terminal). name_from (net_of m t)) ts ≡ nets_at (placed_in m ts)
named_outputs m [] all = refl
named_outputs m (t ∷ ts) all =
    ap (λ (net : Net). name_from net ∷ map (λ (x : grammar.Terminal). name_from (net_of m x)) ts) all.0.1
    ∙ ap (λ (ns : List Name). all.0.0 ∷ ns) (named_outputs m ts all.1)
    ∙ sym (ap nets_at (flat_map-cons (λ (x : grammar.Terminal). placed_net (line_of x) (net_of m x)) t ts)
    ∙ ap (λ (net : Net). nets_at (placed_net (line_of t) net ++ placed_in m ts)) all.0.1)

nets_both : (m : grammar.Module) (ts us : List grammar.Terminal) → nets_at (placed_in m (ts ++ us)) ≡ nets_at (placed_in m ts) ++ nets_at (placed_in m us)
nets_both m ts us =
    ap nets_at (flat_map-append (λ (x : grammar.Terminal). placed_net (line_of x) (net_of m x)) ts us)
    ∙ map-append (λ (p : Placed). p.net) (placed_in m ts) (placed_in m us)

outputs_are : (m : grammar.Module) (default : Delay) (ps : List Primitive) → ((p : Primitive) → Contains ps p → AllByRecursion (IsNamed m) (outputs_of p))
    → map (λ (g : Gate). g.output) (flat_map (primitive_gates m default) ps) ≡ nets_at (placed_in m (flat_map outputs_of ps))
outputs_are m default [] all = refl
outputs_are m default (p ∷ ps) all =
    ap (λ (gs : List Gate). map (λ (g : Gate). g.output) gs) (flat_map-cons (primitive_gates m default) p ps)
    ∙ map-append (λ (g : Gate). g.output) (primitive_gates m default p) (flat_map (primitive_gates m default) ps)
    ∙ ap (λ (ns : List Name). ns ++ map (λ (g : Gate). g.output) (flat_map (primitive_gates m default) ps)) (map-fuse (gate_by m default p) (λ (g : Gate). g.output) (outputs_of p) ∙ named_outputs m (outputs_of p) (all p (first p ps)))
    ∙ ap (λ (ns : List Name). nets_at (placed_in m (outputs_of p)) ++ ns) (outputs_are m default ps (λ q has. all q (later q p ps has)))
    ∙ sym (nets_both m (outputs_of p) (flat_map outputs_of ps))
    ∙ ap (λ (ts : List grammar.Terminal). nets_at (placed_in m ts)) (sym (flat_map-cons outputs_of p ps))

gates_long : (m : grammar.Module) (default : Delay) (ps : List Primitive) → length (flat_map (primitive_gates m default) ps) ≡ length (flat_map outputs_of ps)
gates_long m default [] = refl
gates_long m default (p ∷ ps) =
    omega (
      arith,
      ap (λ (gs : List Gate). length gs) (flat_map-cons (primitive_gates m default) p ps),
      length-append (primitive_gates m default p) (flat_map (primitive_gates m default) ps),
      length-map (outputs_of p) (gate_by m default p),
      ap (λ (ts : List grammar.Terminal). length ts) (flat_map-cons outputs_of p ps),
      length-append (outputs_of p) (flat_map outputs_of ps),
      gates_long m default ps,
    )

-- ---- the inputs

bits_long : (r : Range) (place n : ℕ) → length (bits_from r place n) ≡ n
unfolding bits_from
bits_long r place zero = refl
bits_long r place (suc n) = ap suc (bits_long r (place + 1) n)

pub nets_long : (text : List ℕ) (range : Option Range) → length (nets_of text range) ≡ width_of range
nets_long text None = refl
nets_long text (Some r) = length-map (bits_from r 0 (width_of (Some r))) (bit_name text) ∙ bits_long r 0 (width_of (Some r))

abbrev pub declared_nets : List Declared → List Name
declared_nets ds = flat_map (λ (d : Declared). nets_of d.name.name d.range) ds

pub declared_long : (ds : List Declared) → length (declared_nets ds) ≡ sum_by (λ (d : Declared). width_of d.range) ds
declared_long [] = refl
declared_long (d ∷ ds) =
    omega (
      arith,
      ap (λ (ns : List Name). length ns) (flat_map-cons (λ (x : Declared). nets_of x.name.name x.range) d ds),
      length-append (nets_of d.name.name d.range) (declared_nets ds),
      nets_long d.name.name d.range,
      declared_long ds,
      sum_by-cons (λ (x : Declared). width_of x.range) d ds,
    )

no_side : (r : Role) → is_input r ≡ true → is_output r ≡ true → ⊥
no_side role.Input input output = cc
no_side role.Output input output = cc
no_side role.Wire input output = cc

-- a net of a port that is declared so, and the declaration that makes it
record SideOf (is : Role → Bool) (m : grammar.Module) (name : Name) : Type 0 where
  port : grammar.Name
  declares : Declared
  stands : Contains (declared is m) declares
  same : scalar declares.name ≡ scalar port
  text : name.text ≡ port.name
  is_bit : Contains (nets_of declares.name.name declares.range) name

module _ (m : grammar.Module) (joined : TerminalsJoinNets m) where
  pub outputs_named : AllByRecursion (IsItem (unit_exponent m.fronts)) m.items → (p : Primitive) → Contains (primitives m) p → AllByRecursion (IsNamed m) (outputs_of p)
  outputs_named items p has =
      let kept = in_module (unit_exponent m.fronts) m p items has in
      all_named m (outputs_of p) kept.outputs
      (λ t in_it. joined.each t
      (gathered (λ (q : Primitive). q.terminals) p t (primitives m) has
      (subst (λ (ts : List grammar.Terminal). Contains ts t) (take-append-drop (output_count p.kind (length p.terminals)) p.terminals) (in_front t (outputs_of p) (inputs_of p) in_it))))

  pub output_named : AllByRecursion (IsItem (unit_exponent m.fronts)) m.items → (p : Primitive) → Contains (primitives m) p → (t : grammar.Terminal) → Contains (outputs_of p) t → IsNamed m t
  output_named items p has t in_it = one_item (IsNamed m) t (outputs_of p) (outputs_named items p has) in_it

  pub gate_names : (default : Delay) → AllByRecursion (IsItem (unit_exponent m.fronts)) m.items → gate_outputs (netlist_in default m) ≡ nets_at (outputs_in m)
  gate_names default items = outputs_are m default (primitives m) (outputs_named items)

module _ (m : grammar.Module) (keeps : IsConsistent m) where
  -- no port is an input and an output
  one_side : (n : grammar.Name) → Contains (names_of (declared_names is_input m)) (scalar n) → Contains (names_of (declared_names is_output m)) (scalar n) → ⊥
  one_side n input output = by (direction_of (with_direction (declarations m)) n) refl
    where
      by : (o : Option Declared) → direction_of (with_direction (declarations m)) n ≡ o → ⊥
      by None found =
          let placed = of_mapped scalar (scalar n) (declared_names is_input m) input in
          let one = of_mapped (λ (x : Declared). x.name) placed.0 (filter (λ (x : Declared). is_input x.role) (declarations m)) placed.1 in
          let in_it = of_filtered (λ (x : Declared). is_input x.role) one.0 (declarations m) one.1 in
          let there : Contains (names_of (declared_names is_direction m)) (scalar n) =
          subst (λ (name : Name). Contains (names_of (declared_names is_direction m)) name) (ap scalar one.2 ∙ placed.2)
          (mapped scalar one.0.name (declared_names is_direction m) (mapped (λ (x : Declared). x.name) one.0 (with_direction (declarations m))
          (filtered (λ (x : Declared). is_direction x.role) one.0 (declarations m) in_it.0 (input_directs one.0.role in_it.1)))) in
          undirected (with_direction (declarations m)) n (ap (λ (o : Option Declared). is_some o) found) there
      by (Some d) found =
          no_side d.role
          (sym (side_of m keeps.declared.directed_once is_input input_directs n d found) ∙ is_contained (scalar n) (names_of (declared_names is_input m)) input)
          (sym (side_of m keeps.declared.directed_once is_output output_directs n d found) ∙ is_contained (scalar n) (names_of (declared_names is_output m)) output)

  side_net : (is : Role → Bool) (name : Name) → Contains (ports_as is m) name → SideOf is m name
  side_net is name has =
      let at = of_gathered (nets_named m) name (filter (is_port_as is m) (ports m)) has in
      let n = at.0 in
      let passes = of_filtered (is_port_as is m) n (ports m) at.1 in
      let there = contains_is (scalar n) (names_of (declared_names is m)) passes.1 in
      let placed = of_mapped scalar (scalar n) (declared_names is m) there in
      let one = of_mapped (λ (x : Declared). x.name) placed.0 (declared is m) placed.1 in
      let d = one.0 in
      let same : scalar d.name ≡ scalar n = ap scalar one.2 ∙ placed.2 in
      let declared_so = of_filtered (λ (x : Declared). is x.role) d (declarations m) one.1 in
      let bits : nets_of d.name.name d.range ≡ nets_named m n =
      ap (λ (range : _). nets_of d.name.name range) (keeps.declared.one_range d declared_so.0) ∙ ap (λ (x : Name). nets_of x.text (range_in m x.text)) same in
      record {
        port = n;
        declares = d;
        stands = one.1;
        same = same;
        text = net_text n.name (range_in m n.name) name at.2;
        is_bit = subst (λ (ns : List Name). Contains ns name) (sym bits) at.2;
      }

  side_named : (is : Role → Bool) (name : Name) (side : SideOf is m name) → Contains (names_of (declared_names is m)) (record { text = name.text; bit = None })
  side_named is name side =
      subst (λ (t : List ℕ). Contains (names_of (declared_names is m)) (record { text = t; bit = None })) (ap (λ (x : Name). x.text) side.same ∙ sym side.text)
      (mapped scalar side.declares.name (declared_names is m) (mapped (λ (x : Declared). x.name) side.declares (declared is m) side.stands))

  output_driven_by_gate : (name : Name) → Contains (ports_as is_output m) name → Contains (nets_at (outputs_in m)) name
  output_driven_by_gate name has =
      let side = side_net is_output name has in
      let d = side.declares in
      let bit : Contains (nets_at (output_bits m)) name =
      mapped (λ (p : Placed). p.net) (record { net = name; line = d.name.line }) (output_bits m)
      (gathered (λ (x : Declared). map (λ (net : Name). record { net = net; line = x.name.line }) (nets_of x.name.name x.range)) d (record { net = name; line = d.name.line }) (declared is_output m) side.stands
      (mapped (λ (net : Name). record { net = net; line = d.name.line }) name (nets_of d.name.name d.range) side.is_bit)) in
      elim (either_side name (ports_as is_input m) (nets_at (outputs_in m)) (keeps.driven.outputs_driven name bit)) [
        | inl port ↦ absurd (one_side (record { name = name.text; line = 0 }) (side_named is_input name (side_net is_input name port)) (side_named is_output name side))
        | inr gate ↦ gate
      ]

  module _ (default : Delay) (range : IsInRange default) (items : AllByRecursion (IsItem (unit_exponent m.fronts)) m.items) (gates : sum_by item_gates m.items ≤ 200000) where
    named : gate_outputs (netlist_in default m) ≡ nets_at (outputs_in m)
    named = gate_names m keeps.joined default items

    netlist_driven : driven (netlist_in default m) ≡ driven_in m
    netlist_driven = ap (λ (ns : List Name). ports_as is_input m ++ ns) named

    gate_kept : (g : Gate) → Contains (gates_of default m) g → IsGate (netlist_in default m) g
    gate_kept g has =
        let one = of_gathered (primitive_gates m default) g (primitives m) has in
        let made = of_mapped (gate_by m default one.0) g (outputs_of one.0) one.2 in
        let p = in_module (unit_exponent m.fronts) m one.0 items one.1 in
        let long : length (gate_by m default one.0 made.0).inputs ≡ length one.0.terminals - output_count one.0.kind (length one.0.terminals) =
        length-map (inputs_of one.0) (net_of m) ∙ length-drop (output_count one.0.kind (length one.0.terminals)) one.0.terminals in
        let takes = takes_inputs one.0.kind (length one.0.terminals) (length (gate_by m default one.0 made.0).inputs) p.terminals long in
        subst (λ (x : Gate). IsGate (netlist_in default m) x) made.2 (record {
          takes = takes.0;
          few = takes.1;
          delay = delay_in_range (unit_exponent m.fronts) default one.0.delay range p.delay;
          reads = λ name read.
              (let at = of_mapped (net_of m) (Named name) (inputs_of one.0) read in
              let bit : Placed = record { net = name; line = line_of at.0 } in
              let placed : Contains (inputs_in m) bit =
              gathered (λ (x : grammar.Terminal). placed_net (line_of x) (net_of m x)) at.0 bit (flat_map inputs_of (primitives m)) (gathered inputs_of one.0 at.0 (primitives m) one.1 at.1)
              (subst (λ (net : Net). Contains (placed_net (line_of at.0) net) bit) (sym at.2) (first bit [])) in
              subst (λ (ns : List Name). Contains ns name) (sym netlist_driven)
              (keeps.driven.reads_driven name (mapped (λ (p : Placed). p.net) bit (inputs_in m) placed)));
        })

    pub well_formed : IsWellFormed (netlist_in default m)
    well_formed =
        let ports_once = keeps.declared.listed_once in
        let inputs_once = sides_apart m is_input ports_once in
        let fewer : length (ports_as is_input m) ≤ length (declared_nets (declared is_input m)) =
        no_more (ports_as is_input m) (declared_nets (declared is_input m)) inputs_once
        (λ name has. (let side = side_net is_input name has in
        gathered (λ (x : Declared). nets_of x.name.name x.range) side.declares name (declared is_input m) side.stands side.is_bit)) in
        let long = declared_long (declared is_input m) in
        record {
          one_driver = subst IsDistinct (sym netlist_driven) (distinct_append (ports_as is_input m) (nets_at (outputs_in m)) inputs_once keeps.driven.driven_once keeps.driven.inputs_free);
          gates = gate_kept;
          outputs = λ name has. subst (λ (ns : List Name). Contains ns name) (sym named) (output_driven_by_gate name has);
          distinct_outputs = sides_apart m is_output ports_once;
          few_inputs = omega (arith, fewer, long, keeps.within.few_inputs);
          few_gates = omega (arith, gates_long m default (primitives m), gates_below m.items, gates);
        }
