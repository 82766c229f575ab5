-- What the end of a simulation gives.
use Rattle.std.proofs.Common.{◌≡◌, ℕ, ◌+◌, ◌-◌, ◌^◌, ◌<◌, ◌≤◌, Bool, List, length, map, get_or, arith, inl, inr, sym, ap, ◌∙◌}
use Rattle.std.proofs.lemmas.Bool.{cases_lt}
use Rattle.std.proofs.lemmas.List.{length-map}
use Rattle.td_gates.specs.Table.{level_from}
use Rattle.td_gates.specs.Wave.{Wave}
use Rattle.td_gates.specs.Schedule.{GateState}
use Rattle.td_circuit.specs.Numbering.{Numbered, setting, nets, IsNumbering}
use Rattle.td_circuit.specs.Settings.{AreMoments}
use Rattle.td_circuit.specs.Run.{IsDelay, latest_change}
use Rattle.td_circuit.specs.NetValues.{net_wave}
use Rattle.td_circuit.proofs.Nets.{numbers-below}
use Rattle.td_run.specs.Waves.{waves_of}
use Rattle.td_run.specs.Runs.{IsRunUpTo}
use Rattle.td_run.proofs.Existence.{run_exists}
use Rattle.td_run.proofs.Named.{is_run, only_outputs, outputs-are}
use Rattle.td_domain.specs.Pairs.{Pair}
use Rattle.td_event_sim.specs.Queue.{Waiting, Waits}
use Rattle.td_event_sim.specs.Moment.{AreWaiting}
use Rattle.td_event_sim.specs.Latest.{greatest_at}
use Rattle.td_event_sim.specs.State.{IsRunBy, IsStateBefore}
use Rattle.td_event_sim.specs.Reached.{HasReached}
use Rattle.td_event_sim.proofs.Moments.{quiet-moments}
use Rattle.td_event_sim.proofs.Runs.{at-end, greatest-is}

-- no net has an event before this moment
pub none-before : (queue : Waiting) (whens : List ℕ) (moment : ℕ) → AreWaiting queue whens → ((gate when : ℕ) → Waits queue gate when → moment ≤ when)
    → (gate : ℕ) → gate < length whens → get_or whens gate 0 < 2 ^ 64 - 1 → moment ≤ get_or whens gate 0
none-before queue whens moment waiting earliest gate inside waits = earliest gate (get_or whens gate 0) (waiting gate inside waits)

-- so the state is that before the moment
pub come-to : (circuit : Numbered) (waves : List Wave) (states : ℕ → ℕ → GateState) (queue : Waiting) (t moment : ℕ) (levels : List Bool) (whens latest : List ℕ)
    → IsRunBy circuit waves states → t ≤ moment → AreWaiting queue whens → ((net when : ℕ) → Waits queue net when → moment ≤ when)
    → IsStateBefore circuit waves states t levels whens latest → IsStateBefore circuit waves states moment levels whens latest
come-to circuit waves states queue t moment levels whens latest run early waiting earliest state =
    let count : ℕ = moment - t in
    let split : moment ≡ t + count = omega arith in
    rw split (quiet-moments circuit waves states run t count levels whens latest
    (λ net inside waits. (let after = none-before queue whens moment waiting earliest net inside waits in omega arith)) state)

module _ (circuit : Numbered) (pair : Pair) (numbering : IsNumbering circuit) (fit : AreMoments circuit.netlist circuit.moments)
    (f : length pair.first ≡ length circuit.netlist.inputs) (s : length pair.second ≡ length circuit.netlist.inputs) where
  pub fits-first : length (map level_from pair.first) ≡ length circuit.netlist.inputs
  fits-first = length-map pair.first level_from ∙ f

  pub fits-second : length (map level_from pair.second) ≡ length circuit.netlist.inputs
  fits-second = length-map pair.second level_from ∙ s

  module _ (queue : Waiting) (moment : ℕ) (levels : List Bool) (whens latest : List ℕ) (past : 2 ^ 64 - 1 ≤ moment) (waiting : AreWaiting queue whens)
      (earliest : (net when : ℕ) → Waits queue net when → moment ≤ when) (reached : HasReached circuit pair moment levels whens latest)
      (delay : ℕ) (is : delay ≡ greatest_at latest circuit.outputs) where
    delay-by : (waves outs : List Wave) → IsRunUpTo circuit (map level_from pair.first) (map level_from pair.second) (length circuit.gates) waves outs
        → delay ≡ latest_change (waves_of waves circuit.outputs)
    delay-by waves outs run =
        let state = reached waves outs run in
        is ∙ greatest-is latest waves circuit.outputs (length (nets circuit)) (numbers-below (nets circuit) circuit.outputs _ numbering.outputs)
        (at-end circuit pair.first pair.second numbering fit fits-first fits-second waves outs run state.0 state.1 state.2 levels whens latest
        (λ net inside. elim (cases_lt (get_or whens net 0) (2 ^ 64 - 1)) [
          | inl waits ↦ (let after = none-before queue whens moment waiting earliest net inside waits in absurd (omega arith))
          | inr none ↦ none
        ]) state.4)

    pub delay-is : IsDelay (setting circuit) (map level_from pair.first) (map level_from pair.second) delay
    delay-is =
        let made = run_exists circuit (map level_from pair.first) (map level_from pair.second) numbering fit fits-first fits-second (length circuit.gates) (omega arith) in
        record {
          waves = net_wave (nets circuit) made.0;
          runs = is_run circuit (map level_from pair.first) (map level_from pair.second) numbering fit fits-first fits-second made.0 made.1 made.2;
          is_latest = delay-by made.0 made.1 made.2
              ∙ ap latest_change (sym (outputs-are circuit (map level_from pair.first) (map level_from pair.second) numbering fit fits-first fits-second made.0 made.1 made.2));
        }

    pub only-delay : (other : ℕ) → IsDelay (setting circuit) (map level_from pair.first) (map level_from pair.second) other → other ≡ delay
    only-delay other has =
        let made = run_exists circuit (map level_from pair.first) (map level_from pair.second) numbering fit fits-first fits-second (length circuit.gates) (omega arith) in
        has.is_latest
        ∙ ap latest_change (only_outputs circuit (map level_from pair.first) (map level_from pair.second) numbering fit fits-first fits-second made.0 made.1 made.2 has.waves has.runs)
        ∙ sym (delay-by made.0 made.1 made.2)
