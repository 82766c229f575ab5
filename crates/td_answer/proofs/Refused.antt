-- What is true of runs, and why they are refused.
use Rattle.std.proofs.Common.{ℕ, List}
use Rattle.std.specs.Prelude.{is_some}
use Rattle.td_gates.specs.declared.primitives.Level.{Level}
use Rattle.td_gates.specs.Wave.{Wave}
use Rattle.td_nets.specs.Netlist.{Net}
use Rattle.td_circuit.specs.Numbering.{Numbered, setting}
use Rattle.td_circuit.specs.Run.{Runs}
use Rattle.td_reading.specs.declared.reading.Reading.{Reading}
use Rattle.td_request.specs.declared.request.Sim.{Sim}
use Rattle.td_question.specs.declared.fault.QuestionFault.{QuestionFault}
use Rattle.td_question.specs.declared.fault.QuestionFault.TheVariants as fault
use Rattle.td_question.specs.Asking.{IsPair, IsFaultOf, vector_words}
use Rattle.td_answer.specs.declared.refusal.Refusal.{Refusal}
use Rattle.td_answer.specs.declared.refusal.Refusal.TheVariants as refusal
use Rattle.td_answer.specs.Simulations.{IsSimulated, IsTrueSim, IsKeptOutcome, IsRefusedRun, IsFaultOfSim, IsRefusedSim}
use Rattle.td_answer.specs.declared.outcome.Outcome.{Outcome}
use Rattle.td_answer.proofs.Keepings.{dump_as}

module _ (text : List ℕ) (reading : Reading) (asked : Sim) where
  pub fault_of_sim : (found : QuestionFault) → IsFaultOf text reading asked.inputs (vector_words asked.from.now asked.to.now) found
      → IsFaultOfSim text reading asked found
  fault_of_sim fault.OutOfMemory is = is
  fault_of_sim (fault.Source _) is = is
  fault_of_sim (fault.BadName _ _) is = is
  fault_of_sim (fault.BadVector _) is = is
  fault_of_sim (fault.BadKeep _) is = is
  fault_of_sim (fault.NoNet _) is = absurd is
  fault_of_sim fault.LongKeepFile is = is

  pub refused_run : (reason : Refusal) → IsRefusedRun text reading asked.inputs asked.from.now asked.to.now reason → IsRefusedSim text reading asked reason
  refused_run refusal.OutOfMemory is = is
  refused_run (refusal.Unread _) is = is
  refused_run (refusal.Question found) is = fault_of_sim found is
  refused_run (refusal.NoOutput _) is = is
  refused_run (refusal.Search _) is = is
  refused_run (refusal.Check _) is = is
  refused_run (refusal.BadPart _ _) is = is
  refused_run (refusal.Unaccepted _ _) is = is
  refused_run (refusal.OtherCircuit _) is = is
  refused_run (refusal.NotJoined _) is = is
  refused_run (refusal.OtherQuestion _) is = is
  refused_run refusal.TooLong is = is
  refused_run refusal.OutOfTime is = is

  -- what is kept of a pair's run tells the truth about it
  pub kept_says : (circuit : Numbered) (first second : List Level) (outcome : Outcome)
      → IsPair text reading asked.inputs asked.from.now asked.to.now (setting circuit) first second
      → IsKeptOutcome circuit first second asked outcome → IsTrueSim text reading asked outcome
  kept_says circuit first second outcome pair is =
      let simulated : (waves : Net → Wave) → Runs (setting circuit) first second waves
      → IsSimulated text reading asked.inputs asked.from.now asked.to.now (setting circuit) waves =
      λ waves runs. record { first = first; second = second; pair = pair; runs = runs } in
      record {
        setting = setting circuit;
        waves = is.waves;
        simulated = simulated is.waves is.runs;
        report = is.report;
        dumped = dump_as (is_some asked.dump) asked.nets (setting circuit) (Runs (setting circuit) first second)
            (IsSimulated text reading asked.inputs asked.from.now asked.to.now (setting circuit)) simulated outcome.dump is.dumped;
        ends = is.ends;
      }
