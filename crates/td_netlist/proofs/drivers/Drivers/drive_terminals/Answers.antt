use Rattle.std.proofs.Common.{map}
use Rattle.std.proofs.lemmas.Result.{err_from_is_err_and}
use Rattle.td_syntax.specs.Views.{terminal_view}
use Rattle.td_netlist.specs.Checks as checks
use Rattle.td_netlist.specs.Checks.{each}
use Rattle.td_netlist.specs.CheckViews.{drivers_of}
use Rattle.td_netlist.specs.NameViews.{name_ref_of}
use Rattle.td_netlist.proofs.Walks.{goes, fails, ends}
use Rattle.td_netlist.proofs.drivers.Drivers.drive_terminals.Goals as goal

pub loop-terminal-preserved : goal.loop-terminal-preserved
loop-terminal-preserved c = goes (checks.drive (map name_ref_of c.args.inputs.now)) terminal_view c.args.terminals.now c.loop-terminal.terminal-index _ (drivers_of c.loop-terminal.self) (each (checks.drive (map name_ref_of c.args.inputs.now)) (drivers_of c.args.self.now) (map terminal_view c.args.terminals.now)) (drivers_of c.drive.new.self) c.loop-terminal-test.true c.in_ok-drive.ensures c.loop-terminal.invariant

pub returns-in_err-drive : goal.returns-in_err-drive
returns-in_err-drive c =
    let p = err_from_is_err_and c.from_residual.result c.from_residual.ensures.1 in
    rw (p.1, p.2) (fails (checks.drive (map name_ref_of c.args.inputs.now)) terminal_view c.args.terminals.now c.loop-terminal.terminal-index _ (drivers_of c.loop-terminal.self) (each (checks.drive (map name_ref_of c.args.inputs.now)) (drivers_of c.args.self.now) (map terminal_view c.args.terminals.now)) c.in_err-drive.field-0.0 c.loop-terminal-test.true c.in_err-drive.ensures c.loop-terminal.invariant)

pub returns : goal.returns
returns c = ends (checks.drive (map name_ref_of c.args.inputs.now)) terminal_view c.args.terminals.now c.loop-terminal.terminal-index (drivers_of c.loop-terminal.self) (each (checks.drive (map name_ref_of c.args.inputs.now)) (drivers_of c.args.self.now) (map terminal_view c.args.terminals.now)) c.loop-terminal-test.false c.loop-terminal.invariant
