use Rattle.std.proofs.Common.{refl}
use Rattle.std.specs.Prelude.{is_some}
use Rattle.td_circuit.specs.Numbering.{setting}
use Rattle.td_circuit.specs.Run.{Runs}
use Rattle.td_answer.proofs.Keepings.{chosen_low, chosen_named, chosen_dump, chosen_written}
use Rattle.td_answer.proofs.sim.chosen_by.Goals as goal

pub kept_of-requires-clause-chosen : goal.kept_of-requires-clause-chosen
kept_of-requires-clause-chosen c =
    rw c.deref.ensures.value (chosen_low c.args.pair.circuit c.args.asked.now.nets c.args.chosen.items c.requires.chosen)

pub kept_of-requires-clause-named : goal.kept_of-requires-clause-named
kept_of-requires-clause-named c =
    rw c.deref.ensures.value (chosen_named c.args.pair.circuit c.args.asked.now.nets c.args.chosen.items c.requires.chosen)

pub returns-clause-says : goal.returns-clause-says
returns-clause-says c =
    let run = rw (c.in-Some.is, c.deref.ensures.value) at c.in_ok-kept.ensures.kept in
    record {
      waves = run.0;
      runs = run.1;
      report = c.in_ok-report.ensures run.0 (c.in_ok-rows.ensures run.0 run.2.lasts);
      dumped = rw (c.dump_where.ensures, c.is_some.ensures)
          (chosen_dump (is_some c.args.asked.now.dump) c.args.asked.now.nets (setting c.args.pair.circuit)
          (Runs (setting c.args.pair.circuit) c.args.pair.first.items c.args.pair.second.items)
          (record { circuit = c.args.pair.circuit; kept = c.in-Some.kept; nets = c.args.chosen })
          c.requires.part
          (record {
            of = refl;
            chosen = c.requires.chosen;
            run = run.0;
            runs = run.1;
            waves = run.2.waves;
            has = rw (c.in-Some.is, c.deref.ensures.value) at c.in_ok-kept.ensures.written;
          }));
      certified = refl;
      ends = refl;
    }

pub returns-clause-written : goal.returns-clause-written
returns-clause-written c = record {
  certificate = tt;
  dump = rw (c.dump_where.ensures, c.is_some.ensures)
      (chosen_written (is_some c.args.asked.now.dump)
      (record { circuit = c.args.pair.circuit; kept = c.in-Some.kept; nets = c.args.chosen })
      (rw (c.in-Some.is, c.deref.ensures.value) at c.in_ok-kept.ensures.written));
}
