use Rattle.std.proofs.Common.{arith, sym, subst}
use Rattle.td_question.specs.Found.{AreFound}
use Rattle.td_question.proofs.Choices.{all_has, chosen_none, chosen_next, unnamed_at, chosen_all}
use Rattle.td_question.proofs.chosen.nets_of.Goals as goal

pub loop-word-init : goal.loop-word-init
loop-word-init c = chosen_none c.args.circuit.now c.args.words.now c.new-nets.result.items c.new-nets.ensures.items

pub net_of-requires-clause-there : goal.net_of-requires-clause-there
net_of-requires-clause-there c =
    rw c.as_bytes.ensures.value (all_has c.args.words.now c.in_ok-names.names c.loop-word.word-index _ c.loop-word-test.true c.in_ok-names.ensures)

pub net_of-requires-clause-found : goal.net_of-requires-clause-found
net_of-requires-clause-found c =
    subst (AreFound c.args.circuit.now.netlist _) (sym c.deref.ensures.value) c.in_ok-numbers.ensures

pub loop-word-preserved : goal.loop-word-preserved
loop-word-preserved c =
    chosen_next c.args.circuit.now c.args.words.now c.loop-word.word-index _ _ c.in-Some.net c.loop-word.nets.items _ c.loop-word-test.true (omega arith)
    (rw (c.in-Some.is, c.as_bytes.ensures.value) at c.net_of.ensures.some) c.in_ok-push_new-in-Some.ensures c.loop-word.invariant

pub returns-in-None-clause-unnamed : goal.returns-in-None-clause-unnamed
returns-in-None-clause-unnamed c =
    unnamed_at c.args.circuit.now c.args.words.now c.loop-word.word-index _ c.loop-word.nets.items c.loop-word-test.true
    (rw (c.in-None.is, c.as_bytes.ensures.value) at c.net_of.ensures.none) c.loop-word.invariant

pub returns-clause-nets : goal.returns-clause-nets
returns-clause-nets c =
    chosen_all c.args.circuit.now c.args.words.now c.loop-word.word-index c.loop-word.nets.items c.loop-word-test.false c.loop-word.invariant
