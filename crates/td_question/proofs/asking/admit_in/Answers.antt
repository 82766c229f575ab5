use Rattle.td_question.proofs.Moments.{moments_fit}
use Rattle.td_question.proofs.Questions.{bad_pair_word, bad_moments, are_admitted}
use Rattle.td_inputs.specs.Placings.{words_by_place}
use Rattle.td_question.proofs.asking.admit_in.Goals as goal

pub admit-requires : goal.admit-requires
admit-requires c = rw c.input_count-inputs.ensures c.requires

pub returns-in-Err-clause-bad : goal.returns-in-Err-clause-bad
returns-in-Err-clause-bad c =
    bad_pair_word c.input_count-inputs.result _ (words_by_place c.args.words.now) c.args.flips c.input_count-inputs.ensures _
    (rw c.in-Err.is at c.in_ok-admit.ensures.bad)

pub returns-in_default-clause-bad : goal.returns-in_default-clause-bad
returns-in_default-clause-bad c =
    bad_moments c.input_count-inputs.result _ (words_by_place c.args.words.now) c.args.flips c.input_count-inputs.ensures _
    (rw c.in-Ok.is at c.in_ok-admit.ensures.admitted) (rw c.in_default.is at c.in_ok-moments.ensures.none)

pub set_moments-requires : goal.set_moments-requires
set_moments-requires c =
    moments_fit c.args.circuit.now.netlist _ _ (rw (c.in-Some.is, c.input_count-inputs.ensures) at c.in_ok-moments.ensures.some)

pub returns-clause-asked : goal.returns-clause-asked
returns-clause-asked c =
    are_admitted c.args.circuit.now _ c.input_count-inputs.result (words_by_place c.args.words.now) c.args.flips _ c.in-Some.moments.items
    c.input_count-inputs.ensures (rw c.in-Ok.is at c.in_ok-admit.ensures.admitted)
    (rw c.in-Some.is at c.in_ok-moments.ensures.some) c.set_moments.ensures
