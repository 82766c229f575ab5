use Rattle.std.proofs.Common.{◌≡◌, ◌∙◌, ◌≤◌, ℕ, arith, List, length, map, refl, sym, subst, ap}
use Rattle.std.specs.List.{AllByRecursion, flat_map}
use Rattle.std.specs.Prelude.{sum_by}
use Rattle.std.proofs.lemmas.Result.{err_from_is_err_and}
use Rattle.td_gates.specs.Delays.{IsInRange}
use Rattle.td_syntax.specs.declared.syntax.Front.{Front}
use Rattle.td_syntax.specs.Grammar.{IsStatedDelay, unit_exponent}
use Rattle.td_syntax.specs.Views.{module_view, option_delay_view}
use Rattle.td_netlist.specs.declared.primitive.Primitive as code_primitive
use Rattle.td_nets.specs.WellFormed.{IsWellFormed}
use Rattle.td_netlist.specs.NameViews.{name_ref_of, placed_ref_of}
use Rattle.td_nets.specs.Views.{gate_of}
use Rattle.td_netlist.specs.PlacedNets.{nets_at}
use Rattle.td_netlist.specs.Module.{Primitive, outputs_of, primitives, unit_of, defaulted_of}
use Rattle.td_netlist.specs.CheckViews.{primitive_of, sides_of}
use Rattle.td_netlist.proofs.StatedDelays.{keeps_items, kept_by_code}
use Rattle.td_netlist.proofs.Formed.{well_formed, gates_below}
use Rattle.td_netlist.proofs.Readings.{parts_are}
use Rattle.td_netlist.proofs.Netlists.{passed, gates_listed, gates_fault, gates_first}
use Rattle.td_netlist.proofs.meaning.listed.Goals as goal

pub gates-requires : goal.gates-requires
gates-requires c =
    let m = module_view c.args.source.now in
    let k = c.requires.checked in
    let tens : c.unit_exponent.result ≡ unit_exponent m.fronts = c.unit_exponent.ensures ∙ ap (λ (fs : List Front). unit_exponent fs) c.deref-3.ensures.value in
    let kept = kept_by_code (unit_exponent m.fronts) c.args.instances.now (subst (λ (ps : List Primitive). AllByRecursion (λ (p : Primitive). IsStatedDelay (unit_exponent m.fronts) p.delay) ps) (sym k.lists) (keeps_items (unit_exponent m.fronts) m.items c.requires.items)) in
    subst (λ (n : ℕ). AllByRecursion (λ (p : code_primitive.Primitive). IsStatedDelay n (option_delay_view p.delay)) c.args.instances.now) (sym tens) kept

pub returns-in_err-gates-clause-breaks : goal.returns-in_err-gates-clause-breaks
returns-in_err-gates-clause-breaks c =
    let m = module_view c.args.source.now in
    let k = c.requires.checked in
    let tens : c.unit_exponent.result ≡ unit_exponent m.fronts = c.unit_exponent.ensures ∙ ap (λ (fs : List Front). unit_exponent fs) c.deref-3.ensures.value in
    let p = err_from_is_err_and c.from_residual-in_err-gates.result c.from_residual-in_err-gates.ensures.1 in
    rw (p.1, p.2) (gates_fault m c.requires.ports (sides_of c.args.sides.now) k.declared k.declares (primitives m) refl k.drivers k.drives
    c.requires.items c.args.default c.args.names.now c.unit_exponent.result (map primitive_of c.args.instances.now) k.named tens k.lists c.in_err-gates.field-0.0 c.in_err-gates.ensures)

pub returns-in_err-gates-clause-first : goal.returns-in_err-gates-clause-first
returns-in_err-gates-clause-first c =
    let m = module_view c.args.source.now in
    let k = c.requires.checked in
    let tens : c.unit_exponent.result ≡ unit_exponent m.fronts = c.unit_exponent.ensures ∙ ap (λ (fs : List Front). unit_exponent fs) c.deref-3.ensures.value in
    let p = err_from_is_err_and c.from_residual-in_err-gates.result c.from_residual-in_err-gates.ensures.1 in
    rw (p.1, p.2) (gates_first m c.requires.ports (sides_of c.args.sides.now) k.declared k.declares (primitives m) refl k.drivers k.drives
    c.requires.items c.args.default c.args.names.now c.unit_exponent.result (map primitive_of c.args.instances.now) k.named tens k.lists c.in_err-gates.field-0.0 c.in_err-gates.ensures)

pub defaulted_count-defaulted-requires : goal.defaulted_count-defaulted-requires
defaulted_count-defaulted-requires c =
    let m = module_view c.args.source.now in
    let few : length (flat_map outputs_of (primitives m)) ≤ 200000 = omega (arith, gates_below m.items, c.requires.gates) in
    subst (λ (ps : List Primitive). length (flat_map outputs_of ps) ≤ 200000) (sym c.requires.checked.lists) few

pub new-requires : goal.new-requires
new-requires c =
    let m = module_view c.args.source.now in
    let k = c.requires.checked in
    let tens : c.unit_exponent.result ≡ unit_exponent m.fronts = c.unit_exponent.ensures ∙ ap (λ (fs : List Front). unit_exponent fs) c.deref-3.ensures.value in
    let all = passed m c.requires.ports (sides_of c.args.sides.now) k.declared k.declares (primitives m) refl k.drivers k.drives in
    let gates = gates_listed m c.requires.ports (sides_of c.args.sides.now) k.declared k.declares (primitives m) refl k.drivers k.drives
    c.requires.items c.args.default c.args.names.now c.unit_exponent.result (map primitive_of c.args.instances.now) k.named tens k.lists (map gate_of c.in_ok-gates.gates.items) c.in_ok-gates.ensures in
    let is =
    parts_are m c.args.default (sides_of c.args.sides.now) all.sides
    c.in_ok-name.name.items c.in_ok-inputs.inputs.items c.in_ok-outputs.outputs.items c.in_ok-gates.gates.items c.unit-unit.result c.defaulted_count-defaulted.result
    c.in_ok-name.ensures.items
    (c.in_ok-inputs.ensures ∙ ap (λ (ns : List _). map name_ref_of ns) c.deref.ensures.value)
    (c.in_ok-outputs.ensures ∙ ap (λ (ns : List _). nets_at (map placed_ref_of ns)) c.deref-2.ensures.value)
    gates
    (c.unit-unit.ensures ∙ ap (λ (fs : List Front). unit_of fs) c.deref-4.ensures.value)
    (c.defaulted_count-defaulted.ensures ∙ ap (λ (ps : List Primitive). sum_by defaulted_of ps) k.lists) in
    subst IsWellFormed (sym is) (well_formed m all.consistent c.args.default (subst IsInRange c.default.view_is c.default.invariant) c.requires.items c.requires.gates)

pub returns-clause-lists : goal.returns-clause-lists
returns-clause-lists c =
    let m = module_view c.args.source.now in
    let k = c.requires.checked in
    let tens : c.unit_exponent.result ≡ unit_exponent m.fronts = c.unit_exponent.ensures ∙ ap (λ (fs : List Front). unit_exponent fs) c.deref-3.ensures.value in
    let all = passed m c.requires.ports (sides_of c.args.sides.now) k.declared k.declares (primitives m) refl k.drivers k.drives in
    let gates = gates_listed m c.requires.ports (sides_of c.args.sides.now) k.declared k.declares (primitives m) refl k.drivers k.drives
    c.requires.items c.args.default c.args.names.now c.unit_exponent.result (map primitive_of c.args.instances.now) k.named tens k.lists (map gate_of c.in_ok-gates.gates.items) c.in_ok-gates.ensures in
    let is =
    parts_are m c.args.default (sides_of c.args.sides.now) all.sides
    c.in_ok-name.name.items c.in_ok-inputs.inputs.items c.in_ok-outputs.outputs.items c.in_ok-gates.gates.items c.unit-unit.result c.defaulted_count-defaulted.result
    c.in_ok-name.ensures.items
    (c.in_ok-inputs.ensures ∙ ap (λ (ns : List _). map name_ref_of ns) c.deref.ensures.value)
    (c.in_ok-outputs.ensures ∙ ap (λ (ns : List _). nets_at (map placed_ref_of ns)) c.deref-2.ensures.value)
    gates
    (c.unit-unit.ensures ∙ ap (λ (fs : List Front). unit_of fs) c.deref-4.ensures.value)
    (c.defaulted_count-defaulted.ensures ∙ ap (λ (ps : List Primitive). sum_by defaulted_of ps) k.lists) in
    c.new.ensures ∙ is
