use Rattle.std.proofs.Common.{arith, add-one}
use Rattle.td_path.proofs.Causes.{some_left, kept_next, found_next}
use Rattle.td_path.proofs.terminals.first_change.Goals as goal

pub loop-terminal-init : goal.loop-terminal-init
loop-terminal-init c = λ k other less at_k. absurd (omega (arith, less))

pub bounds-nets-terminal : goal.bounds-nets-terminal
bounds-nets-terminal c = some_left c.args.run.now.waves c.args.nets.now c.args.moment c.loop-terminal.terminal c.loop-terminal.invariant c.requires.some

pub loop-terminal-preserved : goal.loop-terminal-preserved
loop-terminal-preserved c =
    let below = some_left c.args.run.now.waves c.args.nets.now c.args.moment c.loop-terminal.terminal c.loop-terminal.invariant c.requires.some in
    rw add-one (kept_next c.args.run.now.waves c.args.nets.now c.args.moment c.loop-terminal.terminal _ c.wave.result.now c.keeps.result below
    c.loop-terminal.invariant c.wave.ensures c.keeps.ensures c.loop-terminal-test.true)

pub returns : goal.returns
returns c =
    let below = some_left c.args.run.now.waves c.args.nets.now c.args.moment c.loop-terminal.terminal c.loop-terminal.invariant c.requires.some in
    found_next c.args.run.now.waves c.args.nets.now c.args.moment c.loop-terminal.terminal _ c.wave.result.now c.keeps.result below
    c.loop-terminal.invariant c.wave.ensures c.keeps.ensures c.loop-terminal-test.false
