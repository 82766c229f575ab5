use Rattle.td_checker.proofs.Texts.{reported_only}
use Rattle.td_checker.proofs.checks.check_told_until.Goals as goal

pub returns-clause-only : goal.returns-clause-only
returns-clause-only c =
    reported_only c.args.netlist.now c.args.reading.now c.args.told c.args.certificate.now c.verdict_of_texts.result c.verdict_of_texts.ensures.reported
    c.verdict_of_texts.ensures.fault
