use Rattle.std.proofs.Common.{map}
use Rattle.std.proofs.lemmas.Result.{err_from_is_err_and}
use Rattle.td_syntax.specs.Views.{terminal_view}
use Rattle.td_netlist.specs.Making as making
use Rattle.td_netlist.specs.Checks.{each}
use Rattle.td_nets.specs.Views.{net_of}
use Rattle.std.proofs.Common.{[]}
use Rattle.td_netlist.proofs.Walks.{goes, fails, ends}
use Rattle.td_netlist.proofs.gates.nets.Goals as goal

pub loop-terminal-preserved : goal.loop-terminal-preserved
loop-terminal-preserved c = goes (making.with_net c.args.names.now) terminal_view c.args.terminals.now c.loop-terminal.terminal-index _ (map net_of c.loop-terminal.nets.items) (each (making.with_net c.args.names.now) ([]) (map terminal_view c.args.terminals.now)) (map net_of c.push_net.new.nets.items) c.loop-terminal-test.true c.in_ok-push_net.ensures c.loop-terminal.invariant

pub returns-in_err-push_net : goal.returns-in_err-push_net
returns-in_err-push_net c =
    let p = err_from_is_err_and c.from_residual.result c.from_residual.ensures.1 in
    rw (p.1, p.2) (fails (making.with_net c.args.names.now) terminal_view c.args.terminals.now c.loop-terminal.terminal-index _ (map net_of c.loop-terminal.nets.items) (each (making.with_net c.args.names.now) ([]) (map terminal_view c.args.terminals.now)) c.in_err-push_net.field-0.0 c.loop-terminal-test.true c.in_err-push_net.ensures c.loop-terminal.invariant)

pub returns : goal.returns
returns c = ends (making.with_net c.args.names.now) terminal_view c.args.terminals.now c.loop-terminal.terminal-index (map net_of c.loop-terminal.nets.items) (each (making.with_net c.args.names.now) ([]) (map terminal_view c.args.terminals.now)) c.loop-terminal-test.false c.loop-terminal.invariant
