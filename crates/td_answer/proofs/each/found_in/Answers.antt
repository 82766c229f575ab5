use Rattle.td_circuit.specs.Numbering.{setting}
use Rattle.td_answer.specs.Columns.{pairs_of}
use Rattle.td_answer.specs.Outlooks.{shown}
use Rattle.td_answer.proofs.Sighted.{true_sighting}
use Rattle.td_answer.proofs.each.found_in.Goals as goal

pub returns-in-Some-clause-found : goal.returns-in-Some-clause-found
returns-in-Some-clause-found g c =
    let given = setting c.args.circuit.now in
    rw c.in_ok-seen.ensures (true_sighting given (pairs_of c.args.inquiry) c.args.inquiry.search.now.shown.vectors c.in-Some.found (shown c.args.outlook.pair)
    (c.unsearched.ensures.found given c.in-Some.found c.requires.outlook c.in-Some.is)
    (c.unsearched.ensures.pair given c.in-Some.found c.requires.outlook c.in-Some.is))
