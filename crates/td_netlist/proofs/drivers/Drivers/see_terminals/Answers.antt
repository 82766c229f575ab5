use Rattle.std.proofs.Common.{map}
use Rattle.std.proofs.lemmas.Result.{err_from_is_err_and}
use Rattle.td_syntax.specs.Views.{terminal_view}
use Rattle.td_netlist.specs.Checks as checks
use Rattle.td_netlist.specs.Checks.{each}
use Rattle.td_netlist.specs.CheckViews.{drivers_of}
use Rattle.td_netlist.proofs.Walks.{goes, fails, ends}
use Rattle.td_netlist.proofs.Seeing.{see_ok, see_fails}
use Rattle.td_netlist.proofs.drivers.Drivers.see_terminals.Goals as goal

pub loop-terminal-preserved : goal.loop-terminal-preserved
loop-terminal-preserved c = goes (checks.see) terminal_view c.args.terminals.now c.loop-terminal.terminal-index _ (drivers_of c.loop-terminal.self) (each (checks.see) (drivers_of c.args.self.now) (map terminal_view c.args.terminals.now)) (drivers_of c.see.new.self) c.loop-terminal-test.true (see_ok (drivers_of c.loop-terminal.self) _ _ _ c.in_ok-_net.ensures) c.loop-terminal.invariant

pub returns-in_err-_net : goal.returns-in_err-_net
returns-in_err-_net c =
    let p = err_from_is_err_and c.from_residual.result c.from_residual.ensures.1 in
    rw (p.1, p.2) (fails (checks.see) terminal_view c.args.terminals.now c.loop-terminal.terminal-index _ (drivers_of c.loop-terminal.self) (each (checks.see) (drivers_of c.args.self.now) (map terminal_view c.args.terminals.now)) c.in_err-_net.field-0.0 c.loop-terminal-test.true (see_fails (drivers_of c.loop-terminal.self) _ c.in_err-_net.field-0.0 c.in_err-_net.ensures) c.loop-terminal.invariant)

pub returns : goal.returns
returns c = ends (checks.see) terminal_view c.args.terminals.now c.loop-terminal.terminal-index (drivers_of c.loop-terminal.self) (each (checks.see) (drivers_of c.args.self.now) (map terminal_view c.args.terminals.now)) c.loop-terminal-test.false c.loop-terminal.invariant
