-- What a module that was read keeps in its instances.
use Rattle.std.proofs.Common.{ℕ, List, [], ◌∷◌, ◌++◌, map, Option, sym, subst}
use Rattle.std.specs.List.{flat_map, AllByRecursion}
use Rattle.std.proofs.lemmas.List.Concat.{flat_map-cons}
use Rattle.td_gates.specs.declared.primitives.Kind.{Kind}
use Rattle.td_syntax.specs.Grammar as grammar
use Rattle.td_syntax.specs.Grammar.{IsItem, IsStatedDelay}
use Rattle.td_syntax.specs.Views.{option_delay_view}
use Rattle.td_netlist.specs.declared.primitive.Primitive as code_primitive
use Rattle.td_netlist.specs.Module.{Primitive, as_primitive, item_primitives}
use Rattle.td_netlist.specs.CheckViews.{primitive_of}

abbrev AreStatedDelays : ℕ → List Primitive → Type 0
AreStatedDelays tens ps = AllByRecursion (λ (p : Primitive). IsStatedDelay tens p.delay) ps

keeps_both : (tens : ℕ) (ps qs : List Primitive) → AreStatedDelays tens ps → AreStatedDelays tens qs → AreStatedDelays tens (ps ++ qs)
keeps_both tens [] qs h k = k
keeps_both tens (p ∷ ps) qs h k = (h.0, keeps_both tens ps qs h.1 k)

keeps_instances : (tens : ℕ) (kind : Kind) (d : Option grammar.Delay) (is : List grammar.Instance) → IsStatedDelay tens d → AreStatedDelays tens (map (as_primitive kind d) is)
keeps_instances tens kind d [] h = tt
keeps_instances tens kind d (i ∷ is) h = (h, keeps_instances tens kind d is h)

keeps_item : (tens : ℕ) (i : grammar.Item) → IsItem tens i → AreStatedDelays tens (item_primitives i)
keeps_item tens (grammar.Declares d) h = tt
keeps_item tens (grammar.Gates g) h = keeps_instances tens g.kind g.delay g.instances h.delay

pub keeps_items : (tens : ℕ) (is : List grammar.Item) → AllByRecursion (IsItem tens) is → AreStatedDelays tens (flat_map item_primitives is)
keeps_items tens [] h = tt
keeps_items tens (i ∷ is) h = subst (λ (ps : List Primitive). AreStatedDelays tens ps) (sym (flat_map-cons item_primitives i is)) (keeps_both tens (item_primitives i) (flat_map item_primitives is) (keeps_item tens i h.0) (keeps_items tens is h.1))

pub kept_by_code : (tens : ℕ) (ps : List code_primitive.Primitive) → AreStatedDelays tens (map primitive_of ps) → AllByRecursion (λ (p : code_primitive.Primitive). IsStatedDelay tens (option_delay_view p.delay)) ps
kept_by_code tens [] h = tt
kept_by_code tens (p ∷ ps) h = (h.0, kept_by_code tens ps h.1)
