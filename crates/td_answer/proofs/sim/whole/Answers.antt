use Rattle.std.proofs.Common.{refl}
use Rattle.std.specs.Prelude.{is_some}
use Rattle.td_circuit.specs.Numbering.{setting}
use Rattle.td_answer.specs.Additions.{waves_in}
use Rattle.td_answer.specs.Dumps.{waves_of}
use Rattle.td_answer.specs.Simulations.{IsSimulated}
use Rattle.td_answer.proofs.Keepings.{whole_dump}
use Rattle.td_answer.proofs.sim.whole.Goals as goal

pub returns-clause-says : goal.returns-clause-says
returns-clause-says c = record {
  setting = setting c.in_ok-waves.waves.circuit;
  waves = waves_of c.in_ok-waves.waves;
  simulated = c.in_ok-waves.ensures.is;
  report = c.in_ok-report.ensures (waves_of c.in_ok-waves.waves) c.in_ok-rows.ensures;
  dumped = whole_dump (is_some c.args.asked.now.dump) c.args.asked.now.nets (setting c.in_ok-waves.waves.circuit)
      (IsSimulated c.args.text.now c.args.reading.now c.args.asked.now.inputs c.args.asked.now.from.now c.args.asked.now.to.now (setting c.in_ok-waves.waves.circuit))
      c.in_ok-waves.waves c.requires (record { of = refl; runs = c.in_ok-waves.ensures.is; has = c.in_ok-waves.ensures.has.written });
  ends = refl;
}

pub returns-clause-written : goal.returns-clause-written
returns-clause-written c = record { certificate = tt; dump = c.in_ok-waves.ensures.has.written }
