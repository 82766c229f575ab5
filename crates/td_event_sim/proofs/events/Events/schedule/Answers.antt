use Rattle.td_event_sim.proofs.Waitings.{waiting-set}
use Rattle.td_event_sim.proofs.events.Events.schedule.Goals as goal

pub returns-clause-waiting : goal.returns-clause-waiting
returns-clause-waiting c = λ waiting. waiting-set c.args.self.now.queue c.add.new.self c.args.self.now.whens.items c.args.net c.args.when
    c.requires.net waiting c.in_ok-add.ensures.keeps (λ early. c.in_ok-add.ensures.waits)
