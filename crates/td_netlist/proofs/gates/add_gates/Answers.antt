use Rattle.std.proofs.Common.{◌≡◌, ◌∙◌, ℕ, List, map, ap, sym}
use Rattle.td_gates.specs.declared.timing.Delay.{Delay}
use Rattle.td_syntax.specs.Grammar as grammar
use Rattle.td_nets.specs.Netlist.{Gate}
use Rattle.td_netlist.specs.Module.{Primitive, outputs_of}
use Rattle.std.proofs.lemmas.Result.{err_from_is_err_and}
use Rattle.td_syntax.specs.Views.{terminal_view}
use Rattle.td_netlist.specs.Checks as checks
use Rattle.td_netlist.specs.Making as making
use Rattle.td_netlist.specs.Checks.{each}
use Rattle.td_nets.specs.Views.{gate_of}
use Rattle.td_netlist.specs.CheckViews.{primitive_of}
use Rattle.td_netlist.proofs.Walks.{goes, fails, ends}
use Rattle.td_netlist.proofs.gates.add_gates.Goals as goal

over : (ks : List checks.Known) (tens : ℕ) (default : Delay) (gates : List Gate) (p : Primitive) (ts : List grammar.Terminal) → ts ≡ outputs_of p → making.with_gates ks tens default gates p ≡ each (making.with_gate ks tens default p) gates ts
unfolding making.with_gates
over ks tens default gates p ts same = ap (λ (us : List grammar.Terminal). each (making.with_gate ks tens default p) gates us) (sym same)

pub loop-terminal-preserved : goal.loop-terminal-preserved
loop-terminal-preserved c = goes (making.with_gate c.args.names.now c.args.timing.now.tens c.args.timing.now.default (primitive_of c.args.primitive)) terminal_view c.outputs-terminal-items.result.now c.loop-terminal.terminal-index _ (map gate_of c.loop-terminal.gates.items) (each (making.with_gate c.args.names.now c.args.timing.now.tens c.args.timing.now.default (primitive_of c.args.primitive)) (map gate_of c.args.gates.now.items) (map terminal_view c.outputs-terminal-items.result.now)) (map gate_of c.add_gate.new.gates.items) c.loop-terminal-test.true c.in_ok-add_gate.ensures c.loop-terminal.invariant

pub returns-in_err-add_gate : goal.returns-in_err-add_gate
returns-in_err-add_gate c =
    let p = err_from_is_err_and c.from_residual.result c.from_residual.ensures.1 in
    let all = over c.args.names.now c.args.timing.now.tens c.args.timing.now.default (map gate_of c.args.gates.now.items) (primitive_of c.args.primitive) (map terminal_view c.outputs-terminal-items.result.now) c.outputs-terminal-items.ensures in
    rw (p.1, p.2, all) (fails (making.with_gate c.args.names.now c.args.timing.now.tens c.args.timing.now.default (primitive_of c.args.primitive)) terminal_view c.outputs-terminal-items.result.now c.loop-terminal.terminal-index _ (map gate_of c.loop-terminal.gates.items) (each (making.with_gate c.args.names.now c.args.timing.now.tens c.args.timing.now.default (primitive_of c.args.primitive)) (map gate_of c.args.gates.now.items) (map terminal_view c.outputs-terminal-items.result.now)) c.in_err-add_gate.field-0.0 c.loop-terminal-test.true c.in_err-add_gate.ensures c.loop-terminal.invariant)

pub returns : goal.returns
returns c =
    over c.args.names.now c.args.timing.now.tens c.args.timing.now.default (map gate_of c.args.gates.now.items) (primitive_of c.args.primitive) (map terminal_view c.outputs-terminal-items.result.now) c.outputs-terminal-items.ensures
    ∙ ends (making.with_gate c.args.names.now c.args.timing.now.tens c.args.timing.now.default (primitive_of c.args.primitive)) terminal_view c.outputs-terminal-items.result.now c.loop-terminal.terminal-index (map gate_of c.loop-terminal.gates.items) (each (making.with_gate c.args.names.now c.args.timing.now.tens c.args.timing.now.default (primitive_of c.args.primitive)) (map gate_of c.args.gates.now.items) (map terminal_view c.outputs-terminal-items.result.now)) c.loop-terminal-test.false c.loop-terminal.invariant
