use Rattle.td_circuit.specs.Numbering.{setting}
use Rattle.td_checker.proofs.Points.{reported_delay}
use Rattle.td_checker.proofs.judging.has_delay.Goals as goal

pub returns-clause-has : goal.returns-clause-has
returns-clause-has c =
    reported_delay (setting c.args.circuit.now) c.args.cube.now c.in_ok-pair.pair c.in_ok-delay_until.field-0 c.args.delay
    c.requires.point c.in_ok-pair.ensures.pair c.in_ok-delay_until.ensures.delay c.in_ok-delay_until.ensures.only
