-- The gates that the last walk makes are those of the netlist.
use Rattle.std.proofs.Common.{◌≡◌, List, [], ◌∷◌, ◌++◌, length, map, Result, Ok, sym, ap, subst, ◌∙◌, append_assoc}
use Rattle.std.specs.List.{Contains, flat_map}
use Rattle.std.proofs.lemmas.List.{append-nil, take-append-drop}
use Rattle.std.proofs.lemmas.List.Concat.{flat_map-cons}
use Rattle.td_gates.specs.declared.timing.Delay.{Delay}
use Rattle.td_syntax.specs.Grammar as grammar
use Rattle.td_syntax.specs.Grammar.{unit_exponent, output_count}
use Rattle.td_netlist.specs.declared.fault.Fault.{Fault}
use Rattle.td_nets.specs.Netlist.{Name, Net, Gate}
use Rattle.td_netlist.specs.Faults.{◌>>=◌}
use Rattle.td_netlist.specs.Module.{source_of, net_of, terminals_in, outputs_of, inputs_of, Primitive, primitives, delay_of, name_from, gate_by, primitive_gates, gates_of}
use Rattle.td_netlist.specs.Means.{JoinsNet}
use Rattle.td_netlist.specs.Making.{with_net, gate_at, gate_driving, with_gate, with_gates}
use Rattle.td_netlist.specs.Checks.{each, Known}
use Rattle.td_netlist.proofs.Members.{first, later, in_front, behind, gathered}
use Rattle.td_netlist.proofs.Joining.{KnowsModule, resolved_ok}
use Rattle.td_netlist.proofs.Formed.{IsNamed}

-- ---- walks that only append

each_maps : {X Y : Type 0} (step : List Y → X → Result (List Y) Fault) (f : X → Y) (s : List Y) (xs : List X) → ((s : List Y) (x : X) → Contains xs x → step s x ≡ Ok (s ++ f x ∷ []))
    → each step s xs ≡ Ok (s ++ map f xs)
unfolding each
each_maps step f s [] steps = ap (λ (ys : List _). Ok ys) (sym (append-nil s))
each_maps step f s (x ∷ xs) steps =
    ap (λ (r : Result (List _) Fault). r >>= λ t. each step t xs) (steps s x (first x xs))
    ∙ each_maps step f (s ++ f x ∷ []) xs (λ t y has. steps t y (later y x xs has))
    ∙ ap (λ (ys : List _). Ok ys) (append_assoc s (f x ∷ []) (map f xs))

each_gathers : {X Y : Type 0} (step : List Y → X → Result (List Y) Fault) (f : X → List Y) (s : List Y) (xs : List X) → ((s : List Y) (x : X) → Contains xs x → step s x ≡ Ok (s ++ f x))
    → each step s xs ≡ Ok (s ++ flat_map f xs)
unfolding each
each_gathers step f s [] steps = ap (λ (ys : List _). Ok ys) (sym (append-nil s))
each_gathers step f s (x ∷ xs) steps =
    ap (λ (r : Result (List _) Fault). r >>= λ t. each step t xs) (steps s x (first x xs))
    ∙ each_gathers step f (s ++ f x) xs (λ t y has. steps t y (later y x xs has))
    ∙ ap (λ (ys : List _). Ok ys) (append_assoc s (f x) (flat_map f xs) ∙ ap (λ (zs : List _). s ++ zs) (sym (flat_map-cons f x xs)))

module _ (m : grammar.Module) (ks : List Known) (others : List Name) (knows : KnowsModule m ks others) (joined : (t : grammar.Terminal) → Contains (terminals_in m) t → JoinsNet (source_of m t)) where
  nets_are : (ts : List grammar.Terminal) → ((t : grammar.Terminal) → Contains ts t → JoinsNet (source_of m t)) → each (with_net ks) [] ts ≡ Ok (map (net_of m) ts)
  unfolding with_net
  nets_are ts are = each_maps (with_net ks) (net_of m) [] ts (λ s t has. ap (λ (r : Result Net Fault). r >>= λ net. Ok (s ++ net ∷ [])) (resolved_ok m ks others knows t (are t has)))

  module _ (default : Delay) (p : Primitive) (has : Contains (primitives m) p) where
    terminal_joined : (t : grammar.Terminal) → Contains (outputs_of p ++ inputs_of p) t → JoinsNet (source_of m t)
    terminal_joined t in_it = joined t (gathered (λ (q : Primitive). q.terminals) p t (primitives m) has
        (subst (λ (ts : List grammar.Terminal). Contains ts t) (take-append-drop (output_count p.kind (length p.terminals)) p.terminals) in_it))

    gate_is : (output : Name) → gate_at ks (unit_exponent m.fronts) default p output ≡ Ok (record { kind = p.kind; delay = delay_of (unit_exponent m.fronts) default p.delay; output = output; inputs = map (net_of m) (inputs_of p) })
    unfolding gate_at
    gate_is output =
        ap (λ (r : Result (List Net) Fault). r >>= λ inputs. Ok (record { kind = p.kind; delay = delay_of (unit_exponent m.fronts) default p.delay; output = output; inputs = inputs }))
        (nets_are (inputs_of p) (λ t in_it. terminal_joined t (behind t (outputs_of p) (inputs_of p) in_it)))

    gate_more : (gates : List Gate) (t : grammar.Terminal) → Contains (outputs_of p) t → IsNamed m t → with_gate ks (unit_exponent m.fronts) default p gates t ≡ Ok (gates ++ gate_by m default p t ∷ [])
    unfolding with_gate
    gate_more gates t in_it named =
        ap (λ (r : Result Net Fault). r >>= gate_driving ks (unit_exponent m.fronts) default p gates) (resolved_ok m ks others knows t (terminal_joined t (in_front t (outputs_of p) (inputs_of p) in_it)))
        ∙ ap (λ (net : Net). gate_driving ks (unit_exponent m.fronts) default p gates net) named.1
        ∙ ap (λ (r : Result Gate Fault). r >>= λ gate. Ok (gates ++ gate ∷ [])) (gate_is named.0)
        ∙ ap (λ (net : Net). Ok (gates ++ record { kind = p.kind; delay = delay_of (unit_exponent m.fronts) default p.delay; output = name_from net; inputs = map (net_of m) (inputs_of p) } ∷ [])) (sym named.1)

    gates_more : (gates : List Gate) → ((t : grammar.Terminal) → Contains (outputs_of p) t → IsNamed m t) → with_gates ks (unit_exponent m.fronts) default gates p ≡ Ok (gates ++ primitive_gates m default p)
    unfolding with_gates
    gates_more gates named = each_maps (with_gate ks (unit_exponent m.fronts) default p) (gate_by m default p) gates (outputs_of p) (λ s t in_it. gate_more s t in_it (named t in_it))

  pub gates_are : (default : Delay) → ((p : Primitive) → Contains (primitives m) p → (t : grammar.Terminal) → Contains (outputs_of p) t → IsNamed m t)
      → each (with_gates ks (unit_exponent m.fronts) default) [] (primitives m) ≡ Ok (gates_of default m)
  gates_are default named = each_gathers (with_gates ks (unit_exponent m.fronts) default) (primitive_gates m default) [] (primitives m) (λ s p has. gates_more default p has s (named p has))
