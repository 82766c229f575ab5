-- The checks pass exactly where the names of a module keep the conditions.
use Rattle.std.proofs.Common.{◌≡◌, ℕ, ◌≤◌, true, List, [], ◌∷◌, ◌++◌, length, map, filter, Result, Ok, Err, refl, sym, ap, subst, ◌∙◌, arith, inl, inr}
use Rattle.std.specs.List.{Contains, flat_map, sum_by, AllByRecursion}
use Rattle.std.proofs.lemmas.List.{append-nil, map-append, take-append-drop}
use Rattle.td_syntax.specs.Grammar as grammar
use Rattle.td_syntax.specs.Grammar.{ArePorts, output_count}
use Rattle.td_netlist.specs.declared.fault.FaultKind.{FaultKind}
use Rattle.td_netlist.specs.declared.fault.FaultKind.TheVariants as kind
use Rattle.td_netlist.specs.declared.fault.Fault.{Fault}
use Rattle.td_nets.specs.Netlist.{Name}
use Rattle.td_nets.specs.WellFormed.{IsDistinct}
use Rattle.td_netlist.specs.Faults.{◌>>=◌, UnlessMemory}
use Rattle.td_netlist.specs.Ranges.{nets_of}
use Rattle.td_netlist.specs.PlacedNets.{different, Placed, nets_at, outputs_in, inputs_in, output_bits, driven_in, net_count, names_in, input_count}
use Rattle.td_netlist.specs.Module.{scalar, names_of, Declared, is_input, is_output, is_wire, is_direction, ports, ports_as, declarations, declared, declared_names, range_in, nets_named, source_of, terminals_in, inputs_of, Primitive, primitives}
use Rattle.td_netlist.specs.Conditions.{IsConsistent}
use Rattle.td_netlist.specs.NameFaults.{RepeatedOn, MissingOn, AgainOn, LeftOutOn, IsNameFault}
use Rattle.td_netlist.specs.Means.{AreDeclared, JoinsNet}
use Rattle.td_netlist.specs.Checks.{Known, nets_known, each, Lists, declare_ports, declare_item, Sides, sideless, take_side, Drivers, drive_all, read_all, read_placed, sides_at, declared_at, driven_at}
use Rattle.td_netlist.proofs.Members.{in_front, behind, mapped, of_mapped, filtered, of_filtered, gathered, of_gathered, either_side}
use Rattle.td_netlist.proofs.Distinct.{not_distinct}
use Rattle.td_netlist.proofs.Sets.{is_contained}
use Rattle.td_netlist.proofs.Steps.{ok_both, err_either}
use Rattle.td_netlist.proofs.Knowing.{AreKnown, width_by, nets_counted}
use Rattle.td_netlist.proofs.Declaring.{with_direction, all_names}
use Rattle.td_netlist.proofs.DeclaredNames.{breaks_as}
use Rattle.td_netlist.proofs.PortLists.{ports_declare, items_declare, port_breaks, item_breaks}
use Rattle.td_netlist.proofs.PortSides.{is_port_as, are_sides, side_breaks, output_directs}
use Rattle.td_netlist.proofs.Joining.{KnowsModule, plain_names}
use Rattle.td_netlist.proofs.DrivenNets.{different_is, AllDrive, all_drive, drivers_break, all_read, reads_break, all_outputs, outputs_break}
use Rattle.td_netlist.proofs.Apart.{sides_apart}

-- ---- the declarations

pub record AreSides (m : grammar.Module) (s : Sides) : Type 0 where
  pub inputs : s.inputs ≡ ports_as is_input m
  pub outputs : nets_at s.outputs ≡ ports_as is_output m
  pub stand : (p : Placed) → Contains s.outputs p → Contains (output_bits m) p

record DeclaredWell (m : grammar.Module) (s : Sides) (ks : List Known) : Type 0 where
  keeps : AreDeclared m
  few_inputs : input_count m ≤ 4096
  sides : AreSides m s
  knows : KnowsModule m ks []
  few_nets : nets_known ks ≤ 1000000

all_by : {X : Type 0} (P : X → Type 0) (xs : List X) → ((x : X) → Contains xs x → P x) → AllByRecursion P xs
all_by P [] all = tt
all_by P (x ∷ xs) all = (all x (0, omega arith, refl), all_by P xs (λ y has. all y (behind y (x ∷ []) xs has)))

both_same : (a s : Sides) (b ks : List Known) (r : Result (Sides × List Known) Fault) → r ≡ Ok (a, b) → r ≡ Ok (s, ks) → (a ≡ s) × (b ≡ ks)
both_same a s b ks r e f =
    let pair : (a, b) ≡ (s, ks) = cc in
    (ap (λ (p : Sides × List Known). p.0) pair, ap (λ (p : Sides × List Known). p.1) pair)

module _ (m : grammar.Module) (are : ArePorts m.ports) where
  after_items : Lists → Result (Sides × List Known) Fault
  after_items lists = each (take_side lists.directions) sideless (ports m) >>= λ sides. Ok (sides, lists.names)

  after_ports : Lists → Result (Sides × List Known) Fault
  after_ports ported = each declare_item ported m.items >>= after_items

  at_ports : declared_at m ≡ (declare_ports m.ports >>= after_ports)
  unfolding declared_at sides_at after_ports after_items
  at_ports = refl

  declared_well : (s : Sides) (ks : List Known) → declared_at m ≡ Ok (s, ks) → DeclaredWell m s ks
  unfolding after_ports after_items
  declared_well s ks e =
      let a = ok_both (declare_ports m.ports) after_ports (s, ks) (sym at_ports ∙ e) in
      let ported = ports_declare m a.0 are a.1 in
      let b = ok_both (each declare_item a.0 m.items) after_items (s, ks) a.2 in
      let all = items_declare m a.0 b.0 ported b.1 in
      let c = ok_both (each (take_side b.0.directions) sideless (ports m)) (λ sides. Ok (sides, b.0.names)) (s, ks) b.2 in
      let walked : each (take_side (with_direction (declarations m))) sideless (ports m) ≡ Ok c.0 =
      ap (λ (ds : List Declared). each (take_side ds) sideless (ports m)) (sym all.directions) ∙ c.1 in
      let sides = are_sides m all.directed_once all.ranges c.0 walked in
      let same = both_same c.0 s b.0.names ks (Ok (c.0, b.0.names)) refl c.2 in
      record {
        keeps = record {
          listed_once = all.listed_once;
          directed_once = all.directed_once;
          wired_once = all.wired_once;
          are_ports = λ name has. subst (λ (ns : List Name). Contains ns name) all.listed (all.are_ports name has);
          are_directed = sides.directed;
          one_range = all.ranges;
        };
        few_inputs = all.few_inputs;
        sides = subst (λ (t : Sides). AreSides m t) same.0 (record { inputs = sides.inputs; outputs = sides.outputs; stand = sides.stand });
        knows = subst (λ (js : List Known). KnowsModule m js []) same.1 (subst (λ (ns : List Name). AreKnown b.0.names ns (range_in m)) (sym (append-nil (all_names (declarations m)))) all.known);
        few_nets = subst (λ (js : List Known). nets_known js ≤ 1000000) same.1 all.few_nets;
      }

  pub declared_breaks : (f : Fault) → declared_at m ≡ Err f → IsNameFault f.kind f.line m
  unfolding after_ports after_items
  declared_breaks f e = elim (err_either (declare_ports m.ports) after_ports f (sym at_ports ∙ e)) [
    | inl here ↦ port_breaks m f are here
    | inr past ↦ (let ported = ports_declare m past.0 are past.1 in
        elim (err_either (each declare_item past.0 m.items) after_items f past.2) [
          | inl here ↦ item_breaks m past.0 f ported here
          | inr more ↦ (let all = items_declare m past.0 more.0 ported more.1 in
              elim (err_either (each (take_side more.0.directions) sideless (ports m)) (λ sides. Ok (sides, more.0.names)) f more.2) [
                | inl here ↦ side_breaks m all.directed_once all.ranges f (ap (λ (ds : List Declared). each (take_side ds) sideless (ports m)) (sym all.directions) ∙ here)
                | inr done ↦ absurd cc
              ])
        ])
  ]

-- ---- the drivers

module _ (m : grammar.Module) where
  after_reads : Sides → Drivers → Result Drivers Fault
  after_reads s drivers = each (read_placed drivers.driven) tt s.outputs >>= λ outputs. Ok drivers

  after_drivers : Sides → Drivers → Result Drivers Fault
  after_drivers s drivers = each (read_all drivers) tt (primitives m) >>= λ reads. after_reads s drivers

  walk_of : List Name → List Name → List Known → Result Drivers Fault
  walk_of inputs driven ks = each (drive_all inputs) (record { driven = driven; names = ks }) (primitives m)

  at_drivers : (s : Sides) (ks : List Known) → driven_at s ks (primitives m) ≡ (walk_of s.inputs (different s.inputs) ks >>= after_drivers s)
  unfolding driven_at after_drivers after_reads walk_of
  at_drivers s ks = refl

  -- the inputs of a gate are among its terminals
  all_joined : ((t : grammar.Terminal) → Contains (terminals_in m) t → JoinsNet (source_of m t)) → AllByRecursion (λ (t : grammar.Terminal). JoinsNet (source_of m t)) (flat_map inputs_of (primitives m))
  all_joined joined = all_by (λ (t : grammar.Terminal). JoinsNet (source_of m t)) (flat_map inputs_of (primitives m))
      (λ t has. (let one = of_gathered inputs_of t (primitives m) has in
      let count = output_count one.0.kind (length one.0.terminals) in
      joined t (gathered (λ (p : Primitive). p.terminals) one.0 t (primitives m) one.1
      (subst (λ (ts : List grammar.Terminal). Contains ts t) (take-append-drop count one.0.terminals) (behind t _ (inputs_of one.0) one.2)))))

  module _ (s : Sides) (ks : List Known) (well : DeclaredWell m s ks) where
    same_walk : walk_of s.inputs (different s.inputs) ks ≡ walk_of (ports_as is_input m) (ports_as is_input m) ks
    same_walk =
        let all : different s.inputs ≡ ports_as is_input m = ap different well.sides.inputs ∙ different_is (ports_as is_input m) (sides_apart m is_input well.keeps.listed_once) in
        ap (λ (inputs : List Name). walk_of inputs (different s.inputs) ks) well.sides.inputs
        ∙ ap (λ (driven : List Name). walk_of (ports_as is_input m) driven ks) all

    drives_well : (d : Drivers) → walk_of s.inputs (different s.inputs) ks ≡ Ok d → AllDrive m d
    unfolding walk_of
    drives_well d e = all_drive m ks d well.knows well.few_nets (sym same_walk ∙ e)

    few_in_all : (d : Drivers) → AllDrive m d → net_count m ≤ 1000000
    few_in_all d drives =
        let names = all_names (declarations m) ++ plain_names (terminals_in m) in
        let same : names_in m ≡ different names = ap different (map-append scalar (map (λ (x : Declared). x.name) (declarations m)) (flat_map _ (terminals_in m))) in
        let counted = nets_counted d.names names (range_in m) drives.names in
        let whole : net_count m ≡ sum_by (width_by (range_in m)) (different names) = ap (λ (ns : List Name). sum_by (width_by (range_in m)) ns) same in
        omega (arith, drives.few_nets, counted, whole)

    -- an output bit is a bit of an output
    output_side : (name : Name) → Contains (nets_at (output_bits m)) name → Contains (ports_as is_output m) name
    output_side name has =
        let placed = of_mapped (λ (p : Placed). p.net) name (output_bits m) has in
        let one = of_gathered (λ (d : Declared). map (λ (net : Name). record { net = net; line = d.name.line }) (nets_of d.name.name d.range)) placed.0 (declared is_output m) placed.1 in
        let d = one.0 in
        let bit = of_mapped (λ (net : Name). record { net = net; line = d.name.line }) placed.0 (nets_of d.name.name d.range) one.2 in
        let net : bit.0 ≡ name = ap (λ (p : Placed). p.net) bit.2 ∙ placed.2 in
        let declared_so = of_filtered (λ (x : Declared). is_output x.role) d (declarations m) one.1 in
        let as_output : Contains (names_of (declared_names is_output m)) (scalar d.name) = mapped scalar d.name (declared_names is_output m) (mapped (λ (x : Declared). x.name) d (declared is_output m) one.1) in
        let directed : Contains (names_of (declared_names is_direction m)) (scalar d.name) =
        mapped scalar d.name (declared_names is_direction m) (mapped (λ (x : Declared). x.name) d (with_direction (declarations m))
        (filtered (λ (x : Declared). is_direction x.role) d (declarations m) declared_so.0 (output_directs d.role declared_so.1))) in
        let port = of_mapped scalar (scalar d.name) (ports m) (well.keeps.are_ports (scalar d.name) directed) in
        let passes : is_port_as is_output m port.0 ≡ true =
        is_contained (scalar port.0) (names_of (declared_names is_output m)) (subst (λ (x : Name). Contains (names_of (declared_names is_output m)) x) (sym port.2) as_output) in
        let stands = filtered (is_port_as is_output m) port.0 (ports m) port.1 passes in
        let bits : nets_of d.name.name d.range ≡ nets_named m port.0 =
        ap (λ (range : _). nets_of d.name.name range) (well.keeps.one_range d declared_so.0) ∙ ap (λ (x : Name). nets_of x.text (range_in m x.text)) (sym port.2) in
        gathered (nets_named m) port.0 name (filter (is_port_as is_output m) (ports m)) stands
        (subst (λ (x : Name). Contains (nets_named m port.0) x) net (subst (λ (ns : List Name). Contains ns bit.0) bits bit.1))

    driven_well : (d : Drivers) → driven_at s ks (primitives m) ≡ Ok d → IsConsistent m × KnowsModule m d.names (plain_names (terminals_in m))
    unfolding after_drivers after_reads
    driven_well d e =
        let a = ok_both (walk_of s.inputs (different s.inputs) ks) (after_drivers s) d (sym (at_drivers s ks) ∙ e) in
        let drives = drives_well a.0 a.1 in
        let b = ok_both (each (read_all a.0) tt (primitives m)) (λ reads. after_reads s a.0) d a.2 in
        let reads = all_read m a.0 (plain_names (terminals_in m)) drives.names (primitives m) b.0 (all_joined drives.joined) b.1 in
        let c = ok_both (each (read_placed a.0.driven) tt s.outputs) (λ outputs. Ok a.0) d b.2 in
        let outputs = all_outputs m a.0 (plain_names (terminals_in m)) drives.names s.outputs c.0 c.1 in
        let same : a.0 ≡ d = cc in (
          record {
            declared = well.keeps;
            joined = record { each = drives.joined };
            driven = record {
              driven_once = drives.once;
              inputs_free = drives.free;
              reads_driven = λ name has. subst (λ (ns : List Name). Contains ns name) drives.driven (reads name has);
              outputs_driven = λ name has. subst (λ (ns : List Name). Contains ns name) drives.driven (outputs name (subst (λ (ns : List Name). Contains ns name) (sym well.sides.outputs) (output_side name has)));
            };
            within = record { few_inputs = well.few_inputs; few_nets = few_in_all a.0 drives };
          },
          subst (λ (x : Drivers). KnowsModule m x.names (plain_names (terminals_in m))) same drives.names,
        )

    driven_breaks : (f : Fault) → driven_at s ks (primitives m) ≡ Err f → IsNameFault f.kind f.line m
    unfolding after_drivers after_reads walk_of
    driven_breaks f e = elim (err_either (walk_of s.inputs (different s.inputs) ks) (after_drivers s) f (sym (at_drivers s ks) ∙ e)) [
      | inl here ↦ drivers_break m ks f well.knows well.few_nets (sym same_walk ∙ here)
      | inr past ↦ (let drives = drives_well past.0 past.1 in
          elim (err_either (each (read_all past.0) tt (primitives m)) (λ reads. after_reads s past.0) f past.2) [
            | inl here ↦ (let at = reads_break m past.0 (plain_names (terminals_in m)) drives.names (primitives m) f (all_joined drives.joined) here in
                breaks_as m f.line kind.Undriven f.kind at.0 (record {
                  placed = at.1.placed;
                  stands = in_front at.1.placed (inputs_in m) (output_bits m) at.1.stands;
                  there = at.1.there;
                  missing = subst (λ (ns : List Name). ¬ Contains ns at.1.placed.net) drives.driven at.1.missing;
                }))
            | inr more ↦ elim (err_either (each (read_placed past.0.driven) tt s.outputs) (λ outputs. Ok past.0) f more.2) [
              | inl here ↦ (let at = outputs_break m past.0 (plain_names (terminals_in m)) drives.names s.outputs f here in
                  breaks_as m f.line kind.Undriven f.kind at.0 (record {
                    placed = at.1.placed;
                    stands = behind at.1.placed (inputs_in m) (output_bits m) (well.sides.stand at.1.placed at.1.stands);
                    there = at.1.there;
                    missing = subst (λ (ns : List Name). ¬ Contains ns at.1.placed.net) drives.driven at.1.missing;
                  }))
              | inr done ↦ absurd cc
            ]
          ])
    ]

-- ---- the whole

-- what the checks give, once they pass
pub record Passes (m : grammar.Module) (s : Sides) (d : Drivers) : Type 0 where
  pub consistent : IsConsistent m
  pub sides : AreSides m s
  pub knows : KnowsModule m d.names (plain_names (terminals_in m))

module _ (m : grammar.Module) (are : ArePorts m.ports) (s : Sides) (ks : List Known) (declared_so : declared_at m ≡ Ok (s, ks)) where
  pub passes : (d : Drivers) → driven_at s ks (primitives m) ≡ Ok d → Passes m s d
  passes d e =
      let well = declared_well m are s ks declared_so in
      let all = driven_well m s ks well d e in
      record { consistent = all.0; sides = well.sides; knows = all.1 }

  pub drivers_refused : (f : Fault) → driven_at s ks (primitives m) ≡ Err f → IsNameFault f.kind f.line m
  drivers_refused f e = driven_breaks m s ks (declared_well m are s ks declared_so) f e

-- ---- a fault of names, and the conditions

module _ (m : grammar.Module) (line : ℕ) (keeps : IsConsistent m) where
  not_repeated : (ns : List grammar.Name) → IsDistinct (names_of ns) → ¬ RepeatedOn line ns
  not_repeated ns once at =
      not_distinct (names_of at.before) (scalar at.name) (names_of at.after) at.repeats
      (subst IsDistinct (ap names_of at.splits ∙ map-append scalar at.before (at.name ∷ at.after)) once)

  not_missing : (ns : List grammar.Name) (names : List Name) → ((name : Name) → Contains (names_of ns) name → Contains names name) → ¬ MissingOn line ns names
  not_missing ns names are at = at.missing (are (scalar at.name) (mapped scalar at.name ns at.stands))

  not_again : (ps : List Placed) → IsDistinct (nets_at ps) → ¬ AgainOn line ps
  not_again ps once at =
      not_distinct (nets_at at.before) at.placed.net (nets_at at.after) at.repeats
      (subst IsDistinct (ap nets_at at.splits ∙ map-append (λ (p : Placed). p.net) at.before (at.placed ∷ at.after)) once)

  not_left_out : (ps : List Placed) (names : List Name) → ((name : Name) → Contains (nets_at ps) name → Contains names name) → ¬ LeftOutOn line ps names
  not_left_out ps names are at = at.missing (are at.placed.net (mapped (λ (p : Placed). p.net) at.placed ps at.stands))

  pub refuted : (k : FaultKind) → ¬ IsNameFault k line m
  refuted kind.Redeclared at = elim at [
    | inl port ↦ not_repeated (ports m) keeps.declared.listed_once port
    | inr others ↦ elim others [
      | inl direction ↦ not_repeated (declared_names is_direction m) keeps.declared.directed_once direction
      | inr more ↦ elim more [
        | inl wire ↦ not_repeated (declared_names is_wire m) keeps.declared.wired_once wire
        | inr ranged ↦ ranged.other (keeps.declared.one_range ranged.declared ranged.stands)
      ]
    ]
  ]
  refuted kind.PortUndeclared at = elim at [
    | inl no_port ↦ not_missing (declared_names is_direction m) (names_of (ports m)) keeps.declared.are_ports no_port
    | inr no_direction ↦ not_missing (ports m) (names_of (declared_names is_direction m)) keeps.declared.are_directed no_direction
  ]
  refuted kind.DrivenInput at = keeps.driven.inputs_free at.placed.net (mapped (λ (p : Placed). p.net) at.placed (outputs_in m) at.stands) at.taken
  refuted kind.TwoDrivers at = not_again (outputs_in m) keeps.driven.driven_once at
  refuted kind.Undriven at =
      not_left_out (inputs_in m ++ output_bits m) (driven_in m)
      (λ name has. elim (either_side name (nets_at (inputs_in m)) (nets_at (output_bits m)) (subst (λ (ns : List Name). Contains ns name) (map-append (λ (p : Placed). p.net) (inputs_in m) (output_bits m)) has)) [
        | inl read ↦ keeps.driven.reads_driven name read
        | inr output ↦ keeps.driven.outputs_driven name output
      ]) at
  refuted kind.TooMany at = elim at [
    | inl inputs ↦ absurd (omega (arith, inputs, keeps.within.few_inputs))
    | inr nets ↦ absurd (omega (arith, nets, keeps.within.few_nets))
  ]
  refuted kind.UnknownBit at = subst JoinsNet at.is (keeps.joined.each at.terminal at.stands)
  refuted kind.WidthNotOne at = subst JoinsNet at.is (keeps.joined.each at.terminal at.stands)
  refuted kind.OutOfMemory at = at
  refuted kind.BadByte at = at
  refuted kind.UnexpectedEnd at = at
  refuted kind.Syntax at = at
  refuted (kind.OutOfSubset w) at = at
  refuted kind.ZeroDelay at = at
  refuted kind.DelayTooFine at = at
  refuted kind.DelayTooLarge at = at

  pub memory_alone : (k : FaultKind) → UnlessMemory k (IsNameFault k line m) → k ≡ kind.OutOfMemory
  memory_alone kind.OutOfMemory at = refl
  memory_alone k at = absurd (refuted k at)
