-- What the walks of a module give, and the netlist that is made of it.
use Rattle.std.proofs.Common.{◌≡◌, ℕ, List, [], Option, None, Some, Result, Ok, Err, refl, sym, ap, subst, ◌∙◌}
use Rattle.std.specs.Prelude.{MatchOption}
use Rattle.std.specs.List.{AllByRecursion}
use Rattle.td_gates.specs.declared.timing.Delay.{Delay}
use Rattle.td_syntax.specs.Grammar as grammar
use Rattle.td_syntax.specs.Grammar.{ArePorts, IsItem, unit_exponent}
use Rattle.td_netlist.specs.declared.fault.Fault.{Fault}
use Rattle.td_nets.specs.Netlist.{Gate}
use Rattle.td_netlist.specs.declared.fault.FaultKind.{FaultKind}
use Rattle.td_netlist.specs.Faults.{Fails, reported, UnlessMemory, ◌>>=◌}
use Rattle.td_netlist.specs.Module.{terminals_in, Primitive, primitives, gates_of}
use Rattle.td_netlist.specs.NameFaults.{IsNameFault}
use Rattle.td_netlist.specs.Making.{with_gates}
use Rattle.td_netlist.specs.Checks.{each, Known, Sides, Drivers, declared_at, driven_at, checked_at}
use Rattle.td_netlist.proofs.Consistent.{Passes, passes, declared_breaks, drivers_refused}
use Rattle.td_netlist.proofs.Formed.{output_named}
use Rattle.td_netlist.proofs.Gathering.{gates_are}
use Rattle.td_netlist.proofs.Joining.{plain_names}
use Rattle.td_netlist.proofs.Readings.{fault_breaks, memory_breaks}
use Rattle.td_netlist.proofs.Walks.{fails_behind, fails_as}

abbrev as_checked : {A : Type 0} → A → Result A Fault
as_checked x = Ok x

-- where a check passes, its function fails only where memory runs out, which says nothing
unreported_by : {A B : Type 0} (k : Option FaultKind) (line : ℕ) (x : A) (s : Result B Fault)
    → MatchOption k (Unit {0}) (λ j. as_checked x ≡ Err (record { kind = j; line = line })) → MatchOption k (Unit {0}) (λ j. s ≡ Err (record { kind = j; line = line }))
unreported_by None line x s e = tt
unreported_by (Some k) line x s e = absurd cc

pub unreported : {A B : Type 0} (r : Result A Fault) (x : A) (s : Result B Fault) → r ≡ Ok x → (f : Fault) → Fails f r → Fails f s
unreported r x s is f fails = unreported_by (reported f.kind) f.line x s (subst (λ (q : Result _ Fault). Fails f q) is fails)

same_ok : {A : Type 0} (r s : Result A Fault) (x y : A) → r ≡ s → r ≡ Ok x → s ≡ Ok y → x ≡ y
same_ok r s x y same e f = cc

module _ (m : grammar.Module) (ports : ArePorts m.ports) where
  pub declared_fault : (f : Fault) → Fails f (declared_at m) → UnlessMemory f.kind (IsNameFault f.kind f.line m)
  declared_fault f fails = fault_breaks m (declared_at m) (declared_breaks m ports) f fails

  pub declared_first : (f : Fault) → Fails f (declared_at m) → Fails f (checked_at m)
  unfolding checked_at
  declared_first f fails = fails_behind f (declared_at m) (λ declared. driven_at declared.0 declared.1 (primitives m)) fails

  module _ (s : Sides) (ks : List Known) (declared_so : declared_at m ≡ Ok (s, ks)) (ps : List Primitive) (same : ps ≡ primitives m) where
    pub driven_fault : (f : Fault) → Fails f (driven_at s ks ps) → UnlessMemory f.kind (IsNameFault f.kind f.line m)
    driven_fault f fails = fault_breaks m (driven_at s ks (primitives m)) (drivers_refused m ports s ks declared_so) f (subst (λ (qs : List Primitive). Fails f (driven_at s ks qs)) same fails)

    checked_so : checked_at m ≡ driven_at s ks ps
    unfolding checked_at
    checked_so =
        ap (λ (r : Result (Sides × List Known) Fault). r >>= λ declared. driven_at declared.0 declared.1 (primitives m)) declared_so
        ∙ ap (λ (qs : List Primitive). driven_at s ks qs) (sym same)

    pub driven_first : (f : Fault) → Fails f (driven_at s ks ps) → Fails f (checked_at m)
    driven_first f fails = fails_as f (driven_at s ks ps) (checked_at m) (sym checked_so) fails

    module _ (d : Drivers) (driven_so : driven_at s ks ps ≡ Ok d) where
      pub passed : Passes m s d
      passed = passes m ports s ks declared_so d (ap (λ (qs : List Primitive). driven_at s ks qs) (sym same) ∙ driven_so)

      module _ (items : AllByRecursion (IsItem (unit_exponent m.fronts)) m.items) (default : Delay) (names : List Known) (tens : ℕ) (qs : List Primitive) (names_are : names ≡ d.names) (tens_are : tens ≡ unit_exponent m.fronts) (same_too : qs ≡ primitives m) where
        all_gates : each (with_gates names tens default) [] qs ≡ Ok (gates_of default m)
        all_gates =
            ap (λ (js : List Known). each (with_gates js tens default) [] qs) names_are
            ∙ ap (λ (n : ℕ). each (with_gates d.names n default) [] qs) tens_are
            ∙ ap (λ (rs : List Primitive). each (with_gates d.names (unit_exponent m.fronts) default) [] rs) same_too
            ∙ gates_are m d.names (plain_names (terminals_in m)) passed.knows passed.consistent.joined.each default (output_named m passed.consistent.joined items)

        pub gates_listed : (gates : List Gate) → each (with_gates names tens default) [] qs ≡ Ok gates → gates ≡ gates_of default m
        gates_listed gates e = same_ok (each (with_gates names tens default) [] qs) (each (with_gates names tens default) [] qs) gates (gates_of default m) refl e all_gates

        pub gates_fault : (f : Fault) → Fails f (each (with_gates names tens default) [] qs) → UnlessMemory f.kind (IsNameFault f.kind f.line m)
        gates_fault f fails = memory_breaks m (each (with_gates names tens default) [] qs) (gates_of default m) all_gates f fails

        pub gates_first : (f : Fault) → Fails f (each (with_gates names tens default) [] qs) → Fails f (checked_at m)
        gates_first f fails = unreported (each (with_gates names tens default) [] qs) (gates_of default m) (checked_at m) all_gates f fails
