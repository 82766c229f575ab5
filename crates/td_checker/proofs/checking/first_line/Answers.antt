use Rattle.std.proofs.Common.{◌∙◌}
use Rattle.td_checker.proofs.Reported.{behind_pair, behind_none}
use Rattle.td_checker.proofs.checking.first_line.Goals as goal

pub returns-in-None-clause-line : goal.returns-in-None-clause-line
returns-in-None-clause-line c = behind_none c.args.certificate.now c.requires.spelled c.in-None.is

pub returns-in-Some-clause-line : goal.returns-in-Some-clause-line
returns-in-Some-clause-line c = rw c.version.ensures at c.line_after_pair.ensures.line ∙ behind_pair c.args.certificate.now _ c.in-Some.is
