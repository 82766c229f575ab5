use Rattle.std.proofs.Common.{◌≡◌, ◌+◌, ◌<◌, ◌∷◌, ℕ, List, drop, get_or, length, map, arith, add-one, sym, subst, ◌∙◌}
use Rattle.std.proofs.Math.Seq.{drop-cons}
use Rattle.std.proofs.lemmas.List.{drop_all, length-map}
use Rattle.td_event_sim.specs.declared.rules.Rule.{Rule}
use Rattle.td_event_sim.specs.declared.rules.Tally.{Tally}
use Rattle.td_event_sim.specs.declared.state.State.{State}
use Rattle.td_event_sim.specs.Rules.{AreReported, ones_of}
use Rattle.td_event_sim.specs.Scratch.{AreNets}
use Rattle.td_event_sim.proofs.Rooms.{same-count, then-space}
use Rattle.td_event_sim.proofs.Ones.{then-counted}
use Rattle.td_event_sim.proofs.Updates.{passed, ended, ended-waiting}
use Rattle.td_event_sim.proofs.state.State.update.Goals as goal

pub loop-net-preserved : goal.loop-net-preserved
loop-net-preserved c =
    let was : State = c.args.self.now in
    let here : State = c.loop-net.self in
    let new : State = c.pass.new.self in
    let net : ℕ = get_or c.args.taken.now c.loop-net.net-index 0 in
    let split : drop c.loop-net.net-index c.args.taken.now ≡ net ∷ drop (c.loop-net.net-index + 1) c.args.taken.now =
    rw add-one (drop-cons c.args.taken.now c.loop-net.net-index 0 c.loop-net-test.true) in
    let net_within : net < length was.events.whens.items = c.requires.nets c.loop-net.net-index 0 c.loop-net-test.true in
    let begun : List ℕ = ones_of was.logic.tallies.items in
    let many : length here.logic.tallies.items ≡ length was.logic.tallies.items = same-count here.logic.tallies.items was.logic.tallies.items c.loop-net.invariant.space.rules in
    record {
      updated = passed c.args.moment net (drop (c.loop-net.net-index + 1) c.args.taken.now) here.events.queue new.events.queue
          was.logic.levels.items here.logic.levels.items new.logic.levels.items was.events.whens.items here.events.whens.items new.events.whens.items
          was.latest.items here.latest.items new.latest.items
          c.requires.levels_fit c.requires.latest_fit net_within c.requires.in_time (rw split at c.loop-net.invariant.updated) c.in_ok-pass.ensures.passed;
      counted = then-counted c.args.first_output (map (λ outputs. outputs.items) c.args.readers.now) was.logic.levels.items here.logic.levels.items new.logic.levels.items
          begun (ones_of here.logic.tallies.items) (ones_of new.logic.tallies.items)
          (length-map here.logic.tallies.items (λ (t : Tally). t.ones) ∙ many ∙ sym (length-map was.logic.tallies.items (λ (t : Tally). t.ones))) c.loop-net.invariant.counted c.in_ok-pass.ensures.counted;
      space = then-space was here new c.loop-net.invariant.space c.pass.ensures.space;
      reported = subst (λ (rules : List Rule). AreReported c.args.first_output rules begun (ones_of new.logic.tallies.items) c.pass.new.turned.items) c.loop-net.invariant.space.rules
          (c.in_ok-pass.ensures.reported begun
          (subst (λ (rules : List Rule). AreReported c.args.first_output rules begun (ones_of here.logic.tallies.items) c.loop-net.turned.items) (sym c.loop-net.invariant.space.rules) c.loop-net.invariant.reported));
      outputs = subst (λ (count : ℕ). AreNets c.args.first_output (c.args.first_output + count) c.pass.new.turned.items) many
          (c.pass.ensures.outputs (subst (λ (count : ℕ). AreNets c.args.first_output (c.args.first_output + count) c.loop-net.turned.items) (sym many) c.loop-net.invariant.outputs));
      from = c.pass.ensures.from;
      below = rw c.loop-net.invariant.space.whens at c.pass.ensures.below;
    }

pub returns-clause-updated : goal.returns-clause-updated
returns-clause-updated c = ended c.args.moment (drop c.loop-net.net-index c.args.taken.now) c.loop-net.self.events.queue
    c.args.self.now.logic.levels.items c.loop-net.self.logic.levels.items c.args.self.now.events.whens.items c.loop-net.self.events.whens.items
    c.args.self.now.latest.items c.loop-net.self.latest.items
    (drop_all c.loop-net.net-index c.args.taken.now (omega (arith, c.loop-net-test.false))) c.requires.in_time c.loop-net.invariant.updated

pub returns-clause-waiting : goal.returns-clause-waiting
returns-clause-waiting c = ended-waiting c.args.moment (drop c.loop-net.net-index c.args.taken.now) c.loop-net.self.events.queue
    c.args.self.now.logic.levels.items c.loop-net.self.logic.levels.items c.args.self.now.events.whens.items c.loop-net.self.events.whens.items
    c.args.self.now.latest.items c.loop-net.self.latest.items
    (drop_all c.loop-net.net-index c.args.taken.now (omega (arith, c.loop-net-test.false))) c.loop-net.invariant.updated
