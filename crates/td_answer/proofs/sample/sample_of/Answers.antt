use Rattle.td_answer.proofs.Outlooks.{pair_long}
use Rattle.td_answer.proofs.sample.sample_of.Goals as goal

pub run_of-requires-clause-first_fits : goal.run_of-requires-clause-first_fits
run_of-requires-clause-first_fits c =
    (pair_long c.args.circuit.now c.args.admit.now c.in-Some.pair c.pins-pins.ensures.fit c.requires (rw c.in-Some.is at c.in_ok-pair.ensures)).0

pub run_of-requires-clause-second_fits : goal.run_of-requires-clause-second_fits
run_of-requires-clause-second_fits c =
    (pair_long c.args.circuit.now c.args.admit.now c.in-Some.pair c.pins-pins.ensures.fit c.requires (rw c.in-Some.is at c.in_ok-pair.ensures)).1

pub returns-in_ok-run-in-Some : goal.returns-in_ok-run-in-Some
returns-in_ok-run-in-Some c = record {
  admitted = rw c.in-Some.is at c.in_ok-pair.ensures;
  runs = c.in_ok-run-in-Some.ensures.runs;
  whole = c.in_ok-run-in-Some.ensures.has.count;
}
