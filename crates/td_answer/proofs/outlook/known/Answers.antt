use Rattle.td_answer.proofs.Outlooks.{pins_long}
use Rattle.td_answer.proofs.outlook.known.Goals as goal

pub signals-requires : goal.signals-requires
signals-requires c = rw c.pins.ensures.pins (pins_long c.args.admit.now.pins c.args.admit.now.held c.pins.ensures.fit c.requires.held)

pub listed-requires-clause-all : goal.listed-requires-clause-all
listed-requires-clause-all c = rw c.deref.ensures.value c.in_ok-signals.ensures.all

pub listed-requires-clause-front : goal.listed-requires-clause-front
listed-requires-clause-front c = rw c.deref.ensures.value (rw c.pins.ensures.pins at c.in_ok-signals.ensures.front)
