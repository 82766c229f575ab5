-- The three parts of the walk through the declarations of a module.
use Rattle.std.proofs.Common.{◌≡◌, List, Result, Ok, sym, ap}
use Rattle.td_syntax.specs.Grammar as grammar
use Rattle.td_netlist.specs.declared.fault.Fault.{Fault}
use Rattle.td_netlist.specs.Faults.{Fails, ◌>>=◌}
use Rattle.td_netlist.specs.Checks.{each, Known, Lists, Sides, declare_item, sides_at, declared_from}
use Rattle.td_netlist.proofs.Walks.{fails_behind, fails_as}

module _ (m : grammar.Module) (ported : Lists) where
  after_items : Lists → Result (Sides × List Known) Fault
  after_items lists = sides_at lists.directions m.ports >>= λ sides. Ok (sides, lists.names)

  pub items_fail : (e : Fault) → Fails e (each declare_item ported m.items) → Fails e (declared_from ported m)
  unfolding after_items
  items_fail e fails = fails_behind e (each declare_item ported m.items) after_items fails

  pub sides_fail : (lists : Lists) (e : Fault) → each declare_item ported m.items ≡ Ok lists → Fails e (sides_at lists.directions m.ports) → Fails e (declared_from ported m)
  unfolding after_items
  sides_fail lists e items fails =
      fails_as e (sides_at lists.directions m.ports >>= λ sides. Ok (sides, lists.names)) (declared_from ported m) (sym (ap (λ (r : Result Lists Fault). r >>= after_items) items))
      (fails_behind e (sides_at lists.directions m.ports) (λ sides. Ok (sides, lists.names)) fails)
