use Rattle.td_worst.proofs.KeptStandings.{between}
use Rattle.td_worst.proofs.kept_answer.Known.open.Goals as goal

pub returns-in-Some-clause-answer : goal.returns-in-Some-clause-answer
returns-in-Some-clause-answer c = λ given asking known. (between given asking c.in-Some.best c.args.self.high (rw c.in-Some.is at known.best) known.high, tt)
