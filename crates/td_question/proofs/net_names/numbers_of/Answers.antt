use Rattle.std.proofs.Common.{arith, sym, subst}
use Rattle.td_question.specs.Found.{IsPrinted}
use Rattle.td_question.proofs.NetNames.{none_found, found_more, all_found}
use Rattle.td_question.proofs.net_names.numbers_of.Goals as goal

pub loop-number-init : goal.loop-number-init
loop-number-init c = none_found c.args.circuit.now.netlist c.args.names.now c.in_ok-numbers.numbers.items (rw c.len.ensures at c.in_ok-numbers.ensures)

pub loop-number-preserved : goal.loop-number-preserved
loop-number-preserved c =
    found_more c.args.circuit.now.netlist c.loop-number.number c.deref.result.now
    (subst (IsPrinted c.args.circuit.now.netlist c.loop-number.number) (sym c.deref.ensures.value) c.in_ok-print_net.ensures)
    c.args.names.now c.loop-number.numbers.items _ c.loop-number.invariant c.note.ensures

pub returns : goal.returns
returns c =
    all_found c.args.circuit.now.netlist c.loop-number.number c.args.names.now c.loop-number.numbers.items
    (omega (arith, c.loop-number-test.false, c.count_nets-number-end.ensures)) c.loop-number.invariant
