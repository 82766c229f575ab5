use Rattle.std.proofs.Common.{map}
use Rattle.std.proofs.lemmas.Result.{err_from_is_err_and}
use Rattle.td_syntax.specs.Views.{terminal_view}
use Rattle.td_netlist.specs.Checks as checks
use Rattle.td_netlist.specs.Checks.{each}
use Rattle.td_netlist.specs.CheckViews.{drivers_of}
use Rattle.td_netlist.proofs.Walks.{goes, fails, ends}
use Rattle.td_netlist.proofs.drivers.Drivers.read_terminals.Goals as goal

pub loop-terminal-preserved : goal.loop-terminal-preserved
loop-terminal-preserved c = goes (checks.read_net (drivers_of c.args.self.now)) terminal_view c.args.terminals.now c.loop-terminal.terminal-index _ (tt) (each (checks.read_net (drivers_of c.args.self.now)) (tt) (map terminal_view c.args.terminals.now)) (tt) c.loop-terminal-test.true c.in_ok-read_net.ensures c.loop-terminal.invariant

pub returns-in_err-read_net : goal.returns-in_err-read_net
returns-in_err-read_net c =
    let p = err_from_is_err_and c.from_residual.result c.from_residual.ensures.1 in
    rw (p.1, p.2) (fails (checks.read_net (drivers_of c.args.self.now)) terminal_view c.args.terminals.now c.loop-terminal.terminal-index _ (tt) (each (checks.read_net (drivers_of c.args.self.now)) (tt) (map terminal_view c.args.terminals.now)) c.in_err-read_net.field-0.0 c.loop-terminal-test.true c.in_err-read_net.ensures c.loop-terminal.invariant)

pub returns : goal.returns
returns c = ends (checks.read_net (drivers_of c.args.self.now)) terminal_view c.args.terminals.now c.loop-terminal.terminal-index (tt) (each (checks.read_net (drivers_of c.args.self.now)) (tt) (map terminal_view c.args.terminals.now)) c.loop-terminal-test.false c.loop-terminal.invariant
