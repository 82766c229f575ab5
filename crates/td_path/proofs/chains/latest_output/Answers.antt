use Rattle.std.proofs.Common.{◌≡◌, ℕ, Option, Some, None}
use Rattle.td_circuit.specs.Numbering.{Numbered, nets, IsNumbering}
use Rattle.td_circuit.specs.Run.{latest_change}
use Rattle.td_circuit.proofs.Nets.{numbers-below}
use Rattle.td_run.specs.Waves.{waves_of}
use Rattle.td_run.specs.Runs.{NetWaves}
use Rattle.td_path.specs.Chains.{IsRunFor, IsLatestNet}
use Rattle.td_path.specs.Walks.{IsFirstAt}
use Rattle.td_path.proofs.Outputs.{named_latest, explains_none}
use Rattle.td_path.proofs.chains.latest_output.Goals as goal

pub latest_net-requires : goal.latest_net-requires
latest_net-requires c = rw (c.outputs.ensures, c.requires.run.count)
    (numbers-below (nets c.args.circuit.now) c.args.circuit.now.outputs _ c.gates-gates.ensures.numbering.outputs)

latest_is : (circuit : Numbered) (run : NetWaves) → IsNumbering circuit → IsRunFor circuit run → (found : Option ℕ)
    → IsFirstAt run.waves circuit.outputs (latest_change (waves_of run.waves circuit.outputs)) found → IsLatestNet circuit run found
latest_is circuit run numbering is None found = explains_none circuit run numbering is found
latest_is circuit run numbering is (Some net) found = named_latest circuit run numbering is net found

pub returns : goal.returns
returns c = latest_is c.args.circuit.now c.args.run.now c.gates-gates.ensures.numbering c.requires.run c.latest_net.result (rw c.outputs.ensures at c.latest_net.ensures)
