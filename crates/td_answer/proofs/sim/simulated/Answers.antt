use Rattle.td_answer.proofs.sim.simulated.Goals as goal

pub returns-in-Some-clause-has : goal.returns-in-Some-clause-has
returns-in-Some-clause-has c =
    let count = rw c.in-Some.is at c.in_ok-run.ensures.nets in
    record {
      written = record { count = count; within = rw c.in-Some.is at c.in_ok-run.ensures.small };
      followed = record {
        count = count;
        first = c.deref.result.now;
        second = c.deref-2.result.now;
        runs = rw c.in-Some.is at c.in_ok-run.ensures.runs;
      };
    }
