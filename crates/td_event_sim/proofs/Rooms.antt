-- Room that stays as large as it was.
use Rattle.std.proofs.Common.{◌≡◌, ℕ, Bool, List, length, replicate, sym, ap, subst, ◌∙◌, Vec, Global}
use Rattle.std.specs.Vec.{with_items}
use Rattle.std.proofs.lemmas.List.{length-map, length-replicate, with_items_is}
use Rattle.td_circuit.specs.Numbering.{Numbered, NumberedGate}
use Rattle.td_event_sim.specs.declared.events.Events.{Events}
use Rattle.td_event_sim.specs.declared.logic.Logic.{Logic}
use Rattle.td_event_sim.specs.declared.rules.Rule.{Rule}
use Rattle.td_event_sim.specs.declared.rules.Tally.{Tally}
use Rattle.td_event_sim.specs.declared.state.State.{State}
use Rattle.td_event_sim.specs.Counting.{AreCounted}
use Rattle.td_event_sim.specs.Fitting.{FitsCircuit, HasSameSpace}
use Rattle.td_event_sim.specs.Queue.{AreBelow}
use Rattle.td_event_sim.specs.Rules.{AreRules, ones_of, rules_of}

pub same-count : (tallies old : List Tally) → rules_of tallies ≡ rules_of old → length tallies ≡ length old
same-count tallies old same = sym (length-map tallies (λ (t : Tally). t.rule)) ∙ ap length same ∙ length-map old (λ (t : Tally). t.rule)

pub then-space : (old now new : State) → HasSameSpace old now → HasSameSpace now new → HasSameSpace old new
then-space old now new first second = record {
  levels = second.levels ∙ first.levels;
  rules = second.rules ∙ first.rules;
  latest = second.latest ∙ first.latest;
  whens = second.whens ∙ first.whens;
}

-- ---- the room for a circuit
pub with-events : (circuit : Numbered) (state : State) (events : Events) → FitsCircuit circuit state → length events.whens.items ≡ length state.events.whens.items
    → AreBelow (length state.events.whens.items) events.queue → FitsCircuit circuit (record { logic = state.logic; latest = state.latest; events = events })
with-events circuit state events fits same below = record {
  levels = fits.levels;
  tallies = fits.tallies;
  rules = fits.rules;
  latest = fits.latest;
  whens = same ∙ fits.whens;
  queue = subst (λ (count : ℕ). AreBelow count events.queue) fits.whens below;
}

pub still-fits : (circuit : Numbered) (old new : State) → FitsCircuit circuit old → HasSameSpace old new → AreBelow (length old.events.whens.items) new.events.queue
    → FitsCircuit circuit new
still-fits circuit old new fits same below = record {
  levels = same.levels ∙ fits.levels;
  tallies = same-count new.logic.tallies.items old.logic.tallies.items same.rules ∙ fits.tallies;
  rules = subst (λ (rules : List Rule). AreRules circuit.gates rules) (sym same.rules) fits.rules;
  latest = same.latest ∙ fits.latest;
  whens = same.whens ∙ fits.whens;
  queue = subst (λ (count : ℕ). AreBelow count new.events.queue) fits.whens below;
}

-- room that was handed on as slices, and came back with as many items
pub settled-space : (logic : Logic) (levels : List Bool) (tallies : List Tally) → length levels ≡ length logic.levels.items → length tallies ≡ length logic.tallies.items
    → ((with_items logic.levels levels).items ≡ levels) × ((with_items logic.tallies tallies).items ≡ tallies)
settled-space logic levels tallies many gates =
    (with_items_is logic.levels levels (many ∙ sym logic.levels.ok.0), with_items_is logic.tallies tallies (gates ∙ sym logic.tallies.ok.0))

pub settled-counted : (gates : List NumberedGate) (logic : Logic) (levels : List Bool) (tallies : List Tally) → length levels ≡ length logic.levels.items → length tallies ≡ length logic.tallies.items
    → AreCounted gates levels (ones_of tallies) → AreCounted gates (with_items logic.levels levels).items (ones_of (with_items logic.tallies tallies).items)
settled-counted gates logic levels tallies many same counted =
    let back = settled-space logic levels tallies many same in
    subst (λ (levels : List Bool). AreCounted gates levels (ones_of (with_items logic.tallies tallies).items)) (sym back.0)
    (subst (λ (tallies : List Tally). AreCounted gates levels (ones_of tallies)) (sym back.1) counted)

pub started-fits : (circuit : Numbered) (state : State) (levels : List Bool) (tallies : List Tally) (latest : Vec ℕ Global) (events : Events) → FitsCircuit circuit state
    → length levels ≡ length state.logic.levels.items → rules_of tallies ≡ rules_of state.logic.tallies.items
    → latest.items ≡ replicate state.latest.len 0 → length events.whens.items ≡ length state.events.whens.items
    → AreBelow (length state.events.whens.items) events.queue
    → FitsCircuit circuit (record { logic = record { levels = with_items state.logic.levels levels; tallies = with_items state.logic.tallies tallies }; latest = latest; events = events })
started-fits circuit state levels tallies latest events fits many rules zeros same below =
    let gates : length tallies ≡ length state.logic.tallies.items = same-count tallies state.logic.tallies.items rules in
    let back = settled-space state.logic levels tallies many gates in
    record {
      levels = ap length back.0 ∙ many ∙ fits.levels;
      tallies = ap length back.1 ∙ gates ∙ fits.tallies;
      rules = subst (λ (rules : List Rule). AreRules circuit.gates rules) (sym (ap rules_of back.1 ∙ rules)) fits.rules;
      latest = ap length zeros ∙ length-replicate state.latest.len 0 ∙ state.latest.ok.0 ∙ fits.latest;
      whens = same ∙ fits.whens;
      queue = subst (λ (count : ℕ). AreBelow count events.queue) fits.whens below;
    }
