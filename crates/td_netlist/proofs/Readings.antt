-- From the checks of a module to what its text means.
use Rattle.std.proofs.Common.{◌≡◌, ℕ, List, map, Option, None, Some, Result, Ok, Err, refl, inl, inr, sym, ap, subst, ◌∙◌}
use Rattle.std.specs.Prelude.{MatchOption, sum_by, IfOk, IfErr}
use Rattle.td_gates.specs.declared.timing.Delay.{Delay}
use Rattle.td_syntax.specs.declared.fault.FaultKind as syntax_kind
use Rattle.td_syntax.specs.declared.fault.FaultKind.TheVariants as syntax
use Rattle.td_syntax.specs.declared.fault.Fault as syntax_fault
use Rattle.td_syntax.specs.Grammar as grammar
use Rattle.td_syntax.specs.Faults as syntax_faults
use Rattle.td_syntax.specs.FirstFault.{syntax_of}
use Rattle.td_syntax.specs.Text.{Parses}
use Rattle.td_syntax.proofs.Whole.{is_again}
use Rattle.td_netlist.specs.declared.fault.FaultKind.{FaultKind}
use Rattle.td_netlist.specs.declared.fault.FaultKind.TheVariants as kind
use Rattle.td_netlist.specs.declared.fault.Fault.{Fault}
use Rattle.td_nets.specs.declared.name.Name as code_name
use Rattle.td_nets.specs.declared.netlist.Gate as code_gate
use Rattle.td_nets.specs.Netlist.{Name, Gate, Netlist}
use Rattle.td_nets.specs.Views.{name_of, gate_of, netlist_from}
use Rattle.td_netlist.specs.FirstPass.{kind_from}
use Rattle.td_netlist.specs.Faults.{Fails, reported, UnlessMemory, IsUnlessMemory}
use Rattle.td_nets.specs.declared.netlist.Unit.{Unit as Step}
use Rattle.td_netlist.specs.PlacedNets.{nets_at}
use Rattle.td_netlist.specs.Module.{is_input, is_output, ports_as, gates_of, primitives, defaulted_of, unit_of, netlist_in}
use Rattle.td_netlist.specs.Conditions.{IsConsistent}
use Rattle.td_netlist.specs.NameFaults.{IsNameFault, IsFaultIn}
use Rattle.td_netlist.specs.Means.{Means}
use Rattle.td_netlist.specs.Checks.{Sides, checked_at}
use Rattle.td_nets.specs.WellFormed.{IsWellFormed}
use Rattle.td_netlist.proofs.Consistent.{memory_alone, AreSides}
use Rattle.td_netlist.proofs.FewNets.{few_nets}
use Rattle.td_netlist.proofs.FormedBack.{consistent}

abbrev parsed_as : {Y : Type 0} → Y → Result Y syntax_faults.Fault
parsed_as y = Ok y

-- a text has one syntax tree
pub one_tree : (text : List ℕ) (m n : grammar.Module) → Parses text m → Parses text n → m ≡ n
one_tree text m n p q = let same : parsed_as m ≡ parsed_as n = sym (is_again text m p) ∙ is_again text n q in cc

pub one_netlist : (text : List ℕ) (default : Delay) (n k : Netlist) → Means text default n → Means text default k → n ≡ k
one_netlist text default n k p q = p.lists ∙ ap (λ (m : grammar.Module). netlist_in default m) (one_tree text p.tree q.tree p.parses q.parses) ∙ sym q.lists

-- ---- what a fault of the checks says

breaks_by : (m : grammar.Module) (k : FaultKind) (line : ℕ) → MatchOption (reported k) (Unit {0}) (λ j. IsNameFault j line m) → UnlessMemory k (IsNameFault k line m)
breaks_by m kind.OutOfMemory line at = tt
breaks_by m k line at = at

refused_by : {Y : Type 0} (m : grammar.Module) (checked : Result Y Fault) → ((f : Fault) → checked ≡ Err f → IsNameFault f.kind f.line m)
    → (o : Option FaultKind) (line : ℕ) → MatchOption o (Unit {0}) (λ k. checked ≡ Err (record { kind = k; line = line })) → MatchOption o (Unit {0}) (λ k. IsNameFault k line m)
refused_by m checked breaks None line e = tt
refused_by m checked breaks (Some k) line e = breaks (record { kind = k; line = line }) e

pub fault_breaks : {Y : Type 0} (m : grammar.Module) (checked : Result Y Fault) → ((f : Fault) → checked ≡ Err f → IsNameFault f.kind f.line m) → (f : Fault) → Fails f checked → UnlessMemory f.kind (IsNameFault f.kind f.line m)
fault_breaks m checked breaks f e = breaks_by m f.kind f.line (refused_by m checked breaks (reported f.kind) f.line e)

ok_no_err : {Y : Type 0} (checked : Result Y Fault) (y : Y) (f : Fault) → checked ≡ Ok y → checked ≡ Err f → ⊥
ok_no_err checked y f is e = cc

-- where the check passes, the function fails only where memory runs out
pub memory_breaks : {Y : Type 0} (m : grammar.Module) (checked : Result Y Fault) (y : Y) → checked ≡ Ok y → (f : Fault) → Fails f checked → UnlessMemory f.kind (IsNameFault f.kind f.line m)
memory_breaks m checked y is f e = fault_breaks m checked (λ g other. absurd (ok_no_err checked y g is other)) f e

-- ---- what the text means

-- a fault of the grammar is the first one of the text
pub first_by : (text : List ℕ) (k : syntax_kind.FaultKind) (line : ℕ) → MatchOption (syntax_faults.reported k) (Unit {0}) (λ j. syntax_of text ≡ Err (syntax_faults.fault j line))
    → IsFaultIn text (kind_from k) line
first_by text syntax.OutOfMemory line e = tt
first_by text syntax.BadByte line e = inl (record { first = syntax_faults.fault syntax_faults.BadByte line; stands = e; of_kind = refl; there = refl })
first_by text syntax.UnexpectedEnd line e = inl (record { first = syntax_faults.fault syntax_faults.UnexpectedEnd line; stands = e; of_kind = refl; there = refl })
first_by text syntax.Syntax line e = inl (record { first = syntax_faults.fault syntax_faults.Syntax line; stands = e; of_kind = refl; there = refl })
first_by text (syntax.OutOfSubset w) line e = inl (record { first = syntax_faults.fault (syntax_faults.OutOfSubset w.now) line; stands = e; of_kind = refl; there = refl })
first_by text syntax.ZeroDelay line e = inl (record { first = syntax_faults.fault syntax_faults.ZeroDelay line; stands = e; of_kind = refl; there = refl })
first_by text syntax.DelayTooFine line e = inl (record { first = syntax_faults.fault syntax_faults.DelayTooFine line; stands = e; of_kind = refl; there = refl })
first_by text syntax.DelayTooLarge line e = inl (record { first = syntax_faults.fault syntax_faults.DelayTooLarge line; stands = e; of_kind = refl; there = refl })
first_by text syntax.TooMany line e = inl (record { first = syntax_faults.fault syntax_faults.TooMany line; stands = e; of_kind = refl; there = refl })

broken_by : (text : List ℕ) (m : grammar.Module) (k : FaultKind) (line : ℕ) → Parses text m → UnlessMemory k (IsNameFault k line m)
    → MatchOption (reported k) (Unit {0}) (λ j. checked_at m ≡ Err (record { kind = j; line = line })) → IsFaultIn text k line
broken_by text m kind.OutOfMemory line p at e = tt
broken_by text m kind.BadByte line p at e = inr (record { tree = m; parses = p; breaks = at; first = e })
broken_by text m kind.UnexpectedEnd line p at e = inr (record { tree = m; parses = p; breaks = at; first = e })
broken_by text m kind.Syntax line p at e = inr (record { tree = m; parses = p; breaks = at; first = e })
broken_by text m (kind.OutOfSubset w) line p at e = inr (record { tree = m; parses = p; breaks = at; first = e })
broken_by text m kind.ZeroDelay line p at e = inr (record { tree = m; parses = p; breaks = at; first = e })
broken_by text m kind.DelayTooFine line p at e = inr (record { tree = m; parses = p; breaks = at; first = e })
broken_by text m kind.DelayTooLarge line p at e = inr (record { tree = m; parses = p; breaks = at; first = e })
broken_by text m kind.Redeclared line p at e = inr (record { tree = m; parses = p; breaks = at; first = e })
broken_by text m kind.UnknownBit line p at e = inr (record { tree = m; parses = p; breaks = at; first = e })
broken_by text m kind.WidthNotOne line p at e = inr (record { tree = m; parses = p; breaks = at; first = e })
broken_by text m kind.TwoDrivers line p at e = inr (record { tree = m; parses = p; breaks = at; first = e })
broken_by text m kind.DrivenInput line p at e = inr (record { tree = m; parses = p; breaks = at; first = e })
broken_by text m kind.Undriven line p at e = inr (record { tree = m; parses = p; breaks = at; first = e })
broken_by text m kind.TooMany line p at e = inr (record { tree = m; parses = p; breaks = at; first = e })
broken_by text m kind.PortUndeclared line p at e = inr (record { tree = m; parses = p; breaks = at; first = e })

-- a fault of the names of the text's tree is one of the text
pub broken_in : {Y : Type 0} (text : List ℕ) (m : grammar.Module) (r : Result Y Fault) → Parses text m → IfErr r (λ e. UnlessMemory e.kind (IsNameFault e.kind e.line m))
    → IfErr r (λ e. Fails e (checked_at m)) → IfErr r (λ e. IsFaultIn text e.kind e.line)
broken_in text m (Ok y) p at first = tt
broken_in text m (Err e) p at first = broken_by text m e.kind e.line p at first

module _ (text : List ℕ) (m : grammar.Module) (default : Delay) (p : Parses text m) where
  pub found_by : (netlist : Netlist) → IsConsistent m → netlist ≡ netlist_in default m → IsWellFormed netlist → Means text default netlist
  found_by netlist keeps is formed = record { tree = m; parses = p; declared = keeps.declared; joined = keeps.joined; few_nets = few_nets m keeps.within.few_nets; lists = is; formed = formed }

  pub found_as : (r : Result Netlist Fault) → IfOk r (λ netlist. IsConsistent m) → IfOk r (λ netlist. netlist ≡ netlist_in default m) → IfOk r (λ netlist. IsWellFormed netlist) → IfOk r (λ netlist. Means text default netlist)
  found_as (Ok netlist) keeps is formed = found_by netlist keeps is formed
  found_as (Err e) keeps is formed = tt

  only_by : (netlist n : Netlist) → netlist ≡ netlist_in default m → Means text default n → netlist ≡ n
  only_by netlist n is means = is ∙ ap (λ (t : grammar.Module). netlist_in default t) (one_tree text m means.tree p means.parses) ∙ sym means.lists

  only_memory : (k : FaultKind) (line : ℕ) (n : Netlist) → UnlessMemory k (IsNameFault k line m) → Means text default n → k ≡ kind.OutOfMemory
  only_memory k line n at means =
      let keeps = consistent means.tree means.declared means.joined means.parses.kept.items default (subst IsWellFormed means.lists means.formed) means.few_nets in
      memory_alone m line (subst IsConsistent (one_tree text means.tree m means.parses p) keeps) k at

  pub only_as : (r : Result Netlist Fault) → IfOk r (λ netlist. netlist ≡ netlist_in default m) → IfErr r (λ e. UnlessMemory e.kind (IsNameFault e.kind e.line m))
      → (n : Netlist) → Means text default n → IsUnlessMemory r n
  only_as (Ok netlist) is breaks n means = only_by netlist n is means
  only_as (Err e) is breaks n means = only_memory e.kind e.line n breaks means

unreported_by : {Y : Type 0} (k : syntax_kind.FaultKind) (line : ℕ) (y : Y) → MatchOption (syntax_faults.reported k) (Unit {0}) (λ j. parsed_as y ≡ Err (syntax_faults.fault j line)) → kind_from k ≡ kind.OutOfMemory
unreported_by syntax.OutOfMemory line y e = refl
unreported_by syntax.BadByte line y e = absurd cc
unreported_by syntax.UnexpectedEnd line y e = absurd cc
unreported_by syntax.Syntax line y e = absurd cc
unreported_by (syntax.OutOfSubset w) line y e = absurd cc
unreported_by syntax.ZeroDelay line y e = absurd cc
unreported_by syntax.DelayTooFine line y e = absurd cc
unreported_by syntax.DelayTooLarge line y e = absurd cc
unreported_by syntax.TooMany line y e = absurd cc

-- where the text has a syntax tree, reading it fails only where memory runs out
pub parse_memory : (e : syntax_fault.Fault) (m : grammar.Module) → syntax_faults.Fails e (Ok m) → kind_from e.kind ≡ kind.OutOfMemory
parse_memory e m fails = unreported_by e.kind e.line m fails

-- ---- the parts of a netlist

made_of : List ℕ → List Name → List Name → List Gate → Step → ℕ → Netlist
made_of name inputs outputs gates unit defaulted = record { name = name; inputs = inputs; outputs = outputs; gates = gates; unit = unit; defaulted = defaulted }

module _ (m : grammar.Module) (default : Delay) (s : Sides) (sides : AreSides m s)
    (name : List ℕ) (inputs outputs : List code_name.Name) (gates : List code_gate.Gate) (unit : Step) (defaulted : ℕ) where
  pub parts_are : name ≡ m.name.name → map name_of inputs ≡ s.inputs → map name_of outputs ≡ nets_at s.outputs
      → map gate_of gates ≡ gates_of default m → unit ≡ unit_of m.fronts → defaulted ≡ sum_by defaulted_of (primitives m)
      → netlist_from name inputs outputs gates unit defaulted ≡ netlist_in default m
  unfolding made_of
  parts_are named are_inputs are_outputs are_gates step counted =
      ap (λ (x : List ℕ). made_of x (map name_of inputs) (map name_of outputs) (map gate_of gates) unit defaulted) named
      ∙ ap (λ (x : List Name). made_of m.name.name x (map name_of outputs) (map gate_of gates) unit defaulted) (are_inputs ∙ sides.inputs)
      ∙ ap (λ (x : List Name). made_of m.name.name (ports_as is_input m) x (map gate_of gates) unit defaulted) (are_outputs ∙ sides.outputs)
      ∙ ap (λ (x : List Gate). made_of m.name.name (ports_as is_input m) (ports_as is_output m) x unit defaulted) are_gates
      ∙ ap (λ (x : Step). made_of m.name.name (ports_as is_input m) (ports_as is_output m) (gates_of default m) x defaulted) step
      ∙ ap (λ (x : ℕ). made_of m.name.name (ports_as is_input m) (ports_as is_output m) (gates_of default m) (unit_of m.fronts) x) counted
