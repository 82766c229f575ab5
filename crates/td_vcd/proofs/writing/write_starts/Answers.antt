use Rattle.std.proofs.Common.{arith, length, ◌≤◌}
use Rattle.std.proofs.lemmas.Result.{err_from_is_err_and}
use Rattle.td_text.proofs.Outputs.{SentTo-begins}
use Rattle.td_vcd.specs.Text.{start_line}
use Rattle.td_vcd.proofs.Batches.{turn, space, whole, refused_batch, refused_growth}
use Rattle.td_vcd.proofs.Steps.{numbered_end, start_step, waves_behind, count_behind}
use Rattle.td_vcd.proofs.writing.write_starts.Goals as goal

pub loop-variable-init : goal.loop-variable-init
loop-variable-init g c = SentTo-begins _ _

pub loop-variable-preserved : goal.loop-variable-preserved
loop-variable-preserved g c =
    turn _ _ _ _ _ _ _ _ _ _ c.loop-variable.invariant c.in_ok-make_space.ensures.ok
    (start_step c.args.waves.now c.loop-variable.variable c.index-waves-variable.result c.start.result c.loop-variable-test.true
    c.index-waves-variable.is c.start.ensures)
    c.in_ok-level.ensures

pub returns-in_err-make_space-clause-refused : goal.returns-in_err-make_space-clause-refused
returns-in_err-make_space-clause-refused g c =
    let p = err_from_is_err_and c.from_residual.result c.from_residual.ensures.1 in
    rw (p.1, p.2) (refused_batch _ _ _ _ _ _ c.loop-variable.invariant c.in_err-make_space.ensures.err)

pub returns-in_err-level-clause-refused : goal.returns-in_err-level-clause-refused
returns-in_err-level-clause-refused g c =
    let p = err_from_is_err_and c.from_residual-in_err-level.result c.from_residual-in_err-level.ensures.1 in
    rw (p.1, p.2) (refused_growth _ _ _ _ (space _ _ _ _ _ _ _ c.loop-variable.invariant c.in_ok-make_space.ensures.ok))

pub returns-clause-written : goal.returns-clause-written
returns-clause-written g c =
    let long = count_behind c.args.waves.now in
    let past : length (waves_behind c.args.waves.now) ≤ c.loop-variable.variable = omega (arith, long, c.loop-variable-test.false) in
    whole _ _ _ _ _ c.loop-variable.invariant (numbered_end start_line (waves_behind c.args.waves.now) c.loop-variable.variable past)
