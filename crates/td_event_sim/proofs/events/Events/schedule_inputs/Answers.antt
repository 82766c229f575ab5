use Rattle.std.proofs.Common.{◌≡◌, ◌+◌, ◌-◌, ◌^◌, ◌<◌, ℕ, length, get_or, replicate, arith, ap, ◌∙◌, length-set}
use Rattle.std.proofs.lemmas.List.{get_or-replicate, length-replicate}
use Rattle.td_event_sim.proofs.Updates.{scheduled-none, scheduled-more, none-waiting}
use Rattle.td_event_sim.proofs.events.Events.schedule_inputs.Goals as goal

pub loop-input-init : goal.loop-input-init
loop-input-init c =
    let many : ℕ = c.args.self.now.whens.len in
    let none_are : c.fill.new.self.items ≡ replicate many (2 ^ 64 - 1) = c.fill.ensures.items (λ y is. is) in
    let long : length c.fill.new.self.items ≡ many = ap length none_are ∙ length-replicate many (2 ^ 64 - 1) in
    let none : (net : ℕ) → net < length c.fill.new.self.items → get_or c.fill.new.self.items net 0 ≡ 2 ^ 64 - 1 =
    λ net h. rw none_are (get_or-replicate many net (2 ^ 64 - 1) 0 (omega arith)) in
    record {
      scheduled = scheduled-none c.args.moments.now c.args.first.now c.args.second.now c.fill.new.self.items none;
      waiting = none-waiting c.args.self.now.queue c.fill.new.self.items none;
      whens = long ∙ c.args.self.now.whens.ok.0;
      below = c.requires.below;
    }

pub loop-input-preserved : goal.loop-input-preserved
loop-input-preserved c =
    let long : length c.schedule.new.self.whens.items ≡ length c.loop-input.self.whens.items =
    ap length c.schedule.ensures.when ∙ length-set c.loop-input.self.whens.items (c.loop-input.input + 2) c.input_event-when.result in
    record {
      scheduled = rw c.schedule.ensures.when
          (scheduled-more c.loop-input.input c.args.moments.now c.args.first.now c.args.second.now c.loop-input.self.whens.items c.input_event-when.result (omega arith)
          c.input_event-when.ensures c.loop-input.invariant.scheduled);
      waiting = c.in_ok-schedule.ensures.waiting c.loop-input.invariant.waiting;
      whens = long ∙ c.loop-input.invariant.whens;
      below = rw c.loop-input.invariant.whens at c.schedule.ensures.below;
    }
