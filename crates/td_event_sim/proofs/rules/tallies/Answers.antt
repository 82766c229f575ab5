use Rattle.std.proofs.Common.{◌≡◌, ◌+◌, ℕ, List, length, map, refl, sym, ap, subst, ◌∙◌, Some}
use Rattle.std.specs.Prelude.{slice_get}
use Rattle.std.proofs.lemmas.List.{length_push}
use Rattle.td_circuit.specs.Views.{gate_of}
use Rattle.td_circuit.proofs.Gates.{numbered-at}
use Rattle.td_event_sim.specs.declared.rules.Tally.{Tally}
use Rattle.td_event_sim.specs.Rules.{AreRules, rules_of}
use Rattle.td_event_sim.proofs.Tallies.{no-rules, rule-pushed}
use Rattle.td_event_sim.proofs.rules.tallies.Goals as goal

pub loop-gate-init : goal.loop-gate-init
loop-gate-init c = record {
  count = ap length c.new-tallies.ensures.items;
  rules = subst (λ (tallies : List Tally). AreRules (map gate_of c.args.gates.now) (rules_of tallies)) (sym c.new-tallies.ensures.items) (no-rules (map gate_of c.args.gates.now));
}

pub loop-gate-preserved : goal.loop-gate-preserved
loop-gate-preserved c =
    let at = numbered-at c.args.gates.now (map gate_of c.args.gates.now) c.loop-gate.gate-index c.gate-item.result refl c.loop-gate-test.true c.gate-item.is in
    record {
      count = ap length c.in_ok-push.ensures.items ∙ length_push c.loop-gate.tallies.items (record { ones = 0; rule = c.of-rule.result }) ∙ ap (λ (n : ℕ). n + 1) c.loop-gate.invariant.count;
      rules = subst (λ (tallies : List Tally). AreRules (map gate_of c.args.gates.now) (rules_of tallies)) (sym c.in_ok-push.ensures.items)
          (rule-pushed (map gate_of c.args.gates.now) c.loop-gate.tallies.items (record { ones = 0; rule = c.of-rule.result }) (gate_of c.gate-item.result)
          (subst (λ (n : ℕ). slice_get (map gate_of c.args.gates.now) n ≡ Some (gate_of c.gate-item.result)) (sym c.loop-gate.invariant.count) at)
          c.of-rule.ensures c.loop-gate.invariant.rules);
    }
