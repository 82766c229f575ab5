-- No name in a netlist has a newline where none in its module has one.
use Rattle.std.proofs.Common.{ℕ, zero, suc, Bool, true, false, cond, List, [], ◌∷◌, ◌++◌, length, map, filter, take, Option, None, Some, sym, subst, ◌==◌}
use Rattle.std.specs.List.{AllByRecursion, flat_map}
use Rattle.std.proofs.lemmas.List.{map-append}
use Rattle.td_gates.specs.declared.primitives.Kind.{Kind}
use Rattle.td_gates.specs.declared.timing.Delay.{Delay}
use Rattle.td_nets.specs.Netlist.{Name, Named, Gate}
use Rattle.td_nets.specs.Names.{is_in}
use Rattle.td_nets.specs.WellFormed.{gate_outputs}
use Rattle.td_syntax.specs.Grammar as grammar
use Rattle.td_syntax.specs.Grammar.{decimal_value, output_count}
use Rattle.td_netlist.specs.declared.ranges.Range.{Range}
use Rattle.td_netlist.specs.Ranges.{width_of, holds, bits_from, bit_name, nets_of}
use Rattle.td_netlist.specs.Module.{scalar, names_of, is_input, declared_names, port_names, range_in, nets_named, ports_as, Source, Joins, NoBit, NotOne, whole_source, bit_source, source_of, net_from, Primitive, as_primitive, item_primitives, primitives, name_from, gate_by, primitive_gates, netlist_in}
use Rattle.td_vcd.specs.Says.{IsOnOneLine}
use Rattle.td_vcd.specs.Laws.{HasNamesOnOneLine}
use Rattle.td_cli.proofs.TreeNames.{IsFineName, IsFineTerminal, IsFineInstance, IsFineItem, HasFineNames}

abbrev IsFineNet : Name → Type 0
IsFineNet name = IsOnOneLine name.text

both : {A : Type 0} (P : A → Type 0) (xs ys : List A) → AllByRecursion P xs → AllByRecursion P ys → AllByRecursion P (xs ++ ys)
both P [] ys p q = q
both P (x ∷ xs) ys p q = (p.0, both P xs ys p.1 q)

-- ---- the inputs

bits_fine : (text : List ℕ) (bits : List ℕ) → IsOnOneLine text → AllByRecursion IsFineNet (map (bit_name text) bits)
bits_fine text [] fine = tt
bits_fine text (bit ∷ bits) fine = (fine, bits_fine text bits fine)

nets_fine : (text : List ℕ) (range : Option Range) → IsOnOneLine text → AllByRecursion IsFineNet (nets_of text range)
nets_fine text None fine = (fine, tt)
nets_fine text (Some r) fine = bits_fine text (bits_from r 0 (width_of (Some r))) fine

ports_fine : (m : grammar.Module) (keeps : grammar.Name → Bool) (ns : List grammar.Name) → AllByRecursion IsFineName ns
    → AllByRecursion IsFineNet (flat_map (nets_named m) (filter keeps ns))
ports_fine m keeps [] fine = tt
ports_fine m keeps (n ∷ ns) fine = go (keeps n) (ports_fine m keeps ns fine.1)
  where
    go : (b : Bool) → AllByRecursion IsFineNet (flat_map (nets_named m) (filter keeps ns))
        → AllByRecursion IsFineNet (flat_map (nets_named m) (cond b (n ∷ filter keeps ns) (filter keeps ns)))
    go true rest =
        both IsFineNet (nets_named m n) (flat_map (nets_named m) (filter keeps ns)) (nets_fine n.name (range_in m n.name) fine.0) rest
    go false rest = rest

-- ---- the outputs of the gates

abbrev IsFineSource : Source → Type 0
IsFineSource source = IsFineNet (name_from (net_from source))

either : (b : Bool) (x y : Source) → IsFineSource x → IsFineSource y → IsFineSource (cond b x y)
either true x y p q = p
either false x y p q = q

whole_fine : (text : List ℕ) (range : Option Range) → IsOnOneLine text → IsFineSource (whole_source text range)
whole_fine text None fine = fine
whole_fine text (Some r) fine = either (r.left == r.right) (Joins (Named (bit_name text r.left))) NotOne fine tt

bit_fine : (text : List ℕ) (bit : ℕ) (range : Option Range) → IsOnOneLine text → IsFineSource (bit_source text bit range)
bit_fine text bit None fine = tt
bit_fine text bit (Some r) fine = either (holds r bit) (Joins (Named (bit_name text bit))) NoBit fine tt

source_fine : (m : grammar.Module) (t : grammar.Terminal) → IsFineTerminal t → IsFineSource (source_of m t)
source_fine m (grammar.Whole n) fine = whole_fine n.name (range_in m n.name) fine
source_fine m (grammar.Select n digits) fine = bit_fine n.name (decimal_value digits) (range_in m n.name) fine
source_fine m (grammar.Level true) fine = tt
source_fine m (grammar.Level false) fine = tt

abbrev output_of : Gate → Name
output_of gate = gate.output

outputs_fine : (m : grammar.Module) (default : Delay) (p : Primitive) (count : ℕ) (ts : List grammar.Terminal) → AllByRecursion IsFineTerminal ts
    → AllByRecursion IsFineNet (map output_of (map (gate_by m default p) (take count ts)))
outputs_fine m default p zero ts fine = tt
outputs_fine m default p (suc count) [] fine = tt
outputs_fine m default p (suc count) (t ∷ ts) fine = (source_fine m t fine.0, outputs_fine m default p count ts fine.1)

abbrev IsFinePrimitive : Primitive → Type 0
IsFinePrimitive p = AllByRecursion IsFineTerminal p.terminals

gates_fine : (m : grammar.Module) (default : Delay) (ps : List Primitive) → AllByRecursion IsFinePrimitive ps
    → AllByRecursion IsFineNet (map output_of (flat_map (primitive_gates m default) ps))
gates_fine m default [] fine = tt
gates_fine m default (p ∷ ps) fine =
    subst (λ (names : List Name). AllByRecursion IsFineNet names)
    (sym (map-append output_of (primitive_gates m default p) (flat_map (primitive_gates m default) ps)))
    (both IsFineNet (map output_of (primitive_gates m default p)) (map output_of (flat_map (primitive_gates m default) ps))
    (outputs_fine m default p (output_count p.kind (length p.terminals)) p.terminals fine.0) (gates_fine m default ps fine.1))

instances_fine : (k : Kind) (d : Option grammar.Delay) (is : List grammar.Instance) → AllByRecursion IsFineInstance is
    → AllByRecursion IsFinePrimitive (map (as_primitive k d) is)
instances_fine k d [] fine = tt
instances_fine k d (i ∷ is) fine = (fine.0, instances_fine k d is fine.1)

item_fine : (i : grammar.Item) → IsFineItem i → AllByRecursion IsFinePrimitive (item_primitives i)
item_fine (grammar.Declares d) fine = tt
item_fine (grammar.Gates s) fine = instances_fine s.kind s.delay s.instances fine

items_fine : (is : List grammar.Item) → AllByRecursion IsFineItem is → AllByRecursion IsFinePrimitive (flat_map item_primitives is)
items_fine [] fine = tt
items_fine (i ∷ is) fine = both IsFinePrimitive (item_primitives i) (flat_map item_primitives is) (item_fine i fine.0) (items_fine is fine.1)

pub netlist_fine : (default : Delay) (m : grammar.Module) → HasFineNames m → HasNamesOnOneLine (netlist_in default m)
netlist_fine default m fine = record {
  own = fine.own;
  nets =
      both IsFineNet (ports_as is_input m) (gate_outputs (netlist_in default m))
      (ports_fine m (λ (n : grammar.Name). is_in (scalar n) (names_of (declared_names is_input m))) (port_names m.ports) fine.ports)
      (gates_fine m default (primitives m) (items_fine m.items fine.items));
}
