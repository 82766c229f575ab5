use Rattle.td_circuit.specs.Numbering.{setting}
use Rattle.td_circuit.specs.Run.{IsDelayOfBits}
use Rattle.td_checker.proofs.Points.{is_asked}
use Rattle.td_checker.proofs.checking.has_its_time.Goals as goal

pub returns-clause-reached : goal.returns-clause-reached
returns-clause-reached c =
    is_asked (IsDelayOfBits (setting c.args.circuit.now) c.args.claim.now.pair.first c.args.claim.now.pair.second)
    c.in_ok-delay_until.field-0 c.args.claim.now.time c.in_ok-delay_until.ensures.delay c.in_ok-delay_until.ensures.only
