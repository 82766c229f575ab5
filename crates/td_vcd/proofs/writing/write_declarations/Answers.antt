use Rattle.std.proofs.Common.{arith, length, ◌≤◌}
use Rattle.std.proofs.lemmas.Result.{err_from_is_err_and}
use Rattle.td_text.proofs.Outputs.{SentTo-begins}
use Rattle.td_nets.specs.Views.{name_of}
use Rattle.td_vcd.specs.Text.{declaration}
use Rattle.td_vcd.specs.Chosen.{names_of}
use Rattle.td_vcd.proofs.Batches.{turn, space, whole, refused_batch, refused_growth}
use Rattle.td_vcd.proofs.Steps.{numbered_step, numbered_end}
use Rattle.td_vcd.proofs.Nets.{name_at, count_names}
use Rattle.td_vcd.proofs.writing.write_declarations.Goals as goal

pub name-requires-clause-constant : goal.name-requires-clause-constant
name-requires-clause-constant g c = (c.requires c.loop-variable.variable 0 c.loop-variable-test.true).above

pub name-requires-clause-net : goal.name-requires-clause-net
name-requires-clause-net g c = (c.requires c.loop-variable.variable 0 c.loop-variable-test.true).below

pub loop-variable-init : goal.loop-variable-init
loop-variable-init g c = SentTo-begins _ _

pub loop-variable-preserved : goal.loop-variable-preserved
loop-variable-preserved g c =
    turn _ _ _ _ _ _ _ _ _ _ c.loop-variable.invariant c.in_ok-make_space.ensures.ok
    (numbered_step declaration (names_of c.args.circuit.now c.args.nets.now) c.loop-variable.variable (name_of c.name.result.now)
    (let long = count_names c.args.circuit.now c.args.nets.now in omega (arith, long, c.loop-variable-test.true))
    (name_at c.args.circuit.now c.args.nets.now c.loop-variable.variable (name_of c.name.result.now) c.loop-variable-test.true c.name.ensures))
    c.in_ok-declaration.ensures

pub returns-in_err-make_space-clause-refused : goal.returns-in_err-make_space-clause-refused
returns-in_err-make_space-clause-refused g c =
    let p = err_from_is_err_and c.from_residual.result c.from_residual.ensures.1 in
    rw (p.1, p.2) (refused_batch _ _ _ _ _ _ c.loop-variable.invariant c.in_err-make_space.ensures.err)

pub returns-in_err-declaration-clause-refused : goal.returns-in_err-declaration-clause-refused
returns-in_err-declaration-clause-refused g c =
    let p = err_from_is_err_and c.from_residual-in_err-declaration.result c.from_residual-in_err-declaration.ensures.1 in
    rw (p.1, p.2) (refused_growth _ _ _ _ (space _ _ _ _ _ _ _ c.loop-variable.invariant c.in_ok-make_space.ensures.ok))

pub returns-clause-written : goal.returns-clause-written
returns-clause-written g c =
    let long = count_names c.args.circuit.now c.args.nets.now in
    let past : length (names_of c.args.circuit.now c.args.nets.now) ≤ c.loop-variable.variable = omega (arith, long, c.loop-variable-test.false) in
    whole _ _ _ _ _ c.loop-variable.invariant (numbered_end declaration (names_of c.args.circuit.now c.args.nets.now) c.loop-variable.variable past)
