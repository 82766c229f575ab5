use Rattle.std.proofs.Common.{◌≡◌, ◌<◌, length, map, ◌∙◌, arith, ap, subst, get_or, replicate, ℕ, List, Bool}
use Rattle.std.proofs.lemmas.List.{length-map, length-replicate, get_or-replicate}
use Rattle.td_gates.specs.Table.{level_from}
use Rattle.td_event_sim.specs.Rules.{rules_of}
use Rattle.td_event_sim.specs.Settling.{AreSettled}
use Rattle.td_event_sim.specs.Moment.{AreScheduled}
use Rattle.td_event_sim.proofs.Rooms.{settled-counted, settled-space, started-fits}
use Rattle.td_event_sim.proofs.Runs.{net_state, is_run_by}
use Rattle.td_event_sim.proofs.Starting.{at-start}
use Rattle.td_event_sim.proofs.state.State.start.Goals as goal

pub returns-clause-fits : goal.returns-clause-fits
returns-clause-fits c = started-fits c.args.circuit.now c.args.self.now c.settle.new.levels c.settle.new.tallies c.fill.new.self c.schedule_inputs.new.self c.requires.fits
    (c.settle.auto.levels ∙ ap length c.deref_mut.ensures.value) (c.settle.ensures.rules ∙ ap rules_of c.deref_mut-2.ensures.value)
    (c.fill.ensures.items (λ y is. is)) c.schedule_inputs.ensures.whens c.schedule_inputs.ensures.below

pub returns-clause-counted : goal.returns-clause-counted
returns-clause-counted c = settled-counted c.args.circuit.now.gates c.args.self.now.logic c.settle.new.levels c.settle.new.tallies
    (c.settle.auto.levels ∙ ap length c.deref_mut.ensures.value) (c.settle.auto.tallies ∙ ap length c.deref_mut-2.ensures.value) c.settle.ensures.counted

pub returns-in_err-schedule_inputs-clause-fits : goal.returns-in_err-schedule_inputs-clause-fits
returns-in_err-schedule_inputs-clause-fits c = started-fits c.args.circuit.now c.args.self.now c.settle.new.levels c.settle.new.tallies c.fill.new.self c.schedule_inputs.new.self c.requires.fits
    (c.settle.auto.levels ∙ ap length c.deref_mut.ensures.value) (c.settle.ensures.rules ∙ ap rules_of c.deref_mut-2.ensures.value)
    (c.fill.ensures.items (λ y is. is)) c.schedule_inputs.ensures.whens c.schedule_inputs.ensures.below

pub returns-clause-reached : goal.returns-clause-reached
returns-clause-reached c = λ waves outs run.
    let circuit = c.args.circuit.now in
    let pair = c.args.pair.now in
    let numbering = c.requires.numbering in
    let many : ℕ = c.args.self.now.latest.len in
    let f : length (map level_from pair.first) ≡ length circuit.netlist.inputs = length-map pair.first level_from ∙ c.requires.first_fits in
    let s : length (map level_from pair.second) ≡ length circuit.netlist.inputs = length-map pair.second level_from ∙ c.requires.second_fits in
    let zeros_are : c.fill.new.self.items ≡ replicate many 0 = c.fill.ensures.items (λ y is. is) in
    let zeros_long : length c.fill.new.self.items ≡ many = ap length zeros_are ∙ length-replicate many 0 in
    let zeros : (net : ℕ) → net < length c.fill.new.self.items → get_or c.fill.new.self.items net 0 ≡ 0 =
    λ net h. rw zeros_are (get_or-replicate many net 0 0 (omega arith)) in
    let back = settled-space c.args.self.now.logic c.settle.new.levels c.settle.new.tallies (c.settle.auto.levels ∙ ap length c.deref_mut.ensures.value)
    (c.settle.auto.tallies ∙ ap length c.deref_mut-2.ensures.value) in
    let settled : AreSettled circuit pair.first (length circuit.gates) c.settle.new.levels =
    subst (λ (v : List Bool). AreSettled circuit v (length circuit.gates) c.settle.new.levels) c.first.ensures c.settle.ensures.settled in
    let scheduled : AreScheduled (length pair.first) circuit.moments pair.first pair.second c.schedule_inputs.new.self.whens.items =
    rw (c.first-2.ensures, c.second.ensures, c.moments.ensures.moments) at c.in_ok-schedule_inputs.ensures.scheduled in
    rw back.0 (
      net_state circuit circuit.moments pair.first pair.second waves,
      is_run_by circuit pair.first pair.second numbering c.moments.ensures.fit f s waves outs run,
      0,
      omega arith,
      at-start circuit pair.first pair.second numbering c.moments.ensures.fit f s waves outs run c.settle.new.levels c.schedule_inputs.new.self.whens.items c.fill.new.self.items
          (c.settle.auto.levels ∙ ap length c.deref_mut.ensures.value ∙ c.requires.fits.levels) settled (c.schedule_inputs.ensures.whens ∙ c.requires.fits.whens)
          (zeros_long ∙ c.args.self.now.latest.ok.0 ∙ c.requires.fits.latest) scheduled zeros,
    )
