use Rattle.std.proofs.Common.{refl, inl, inr}
use Rattle.td_inputs.specs.Placings.{words_by_place}
use Rattle.td_question.specs.Asking.{vector_words}
use Rattle.td_question.proofs.Moments.{moments_fit}
use Rattle.td_question.proofs.Questions.{are_spelled, bad_at}
use Rattle.td_question.proofs.pair.spell_in.Goals as goal

pub returns-in_default-clause-bad : goal.returns-in_default-clause-bad
returns-in_default-clause-bad c =
    bad_at (vector_words c.args.spelled.from.now c.args.spelled.to.now (words_by_place c.args.words.now)) _ c.input_count-inputs.ensures
    (inl (refl, λ given. (rw c.in_default.is at c.in_ok-first.ensures.none) given.0 given.1))

pub returns-in_default-2-clause-bad : goal.returns-in_default-2-clause-bad
returns-in_default-2-clause-bad c =
    bad_at (vector_words c.args.spelled.from.now c.args.spelled.to.now (words_by_place c.args.words.now)) _ c.input_count-inputs.ensures
    (inr (
      (c.in-Some.first.items, rw c.in-Some.is at c.in_ok-first.ensures.some),
      inl (refl, λ given. (rw c.in_default-2.is at c.in_ok-second.ensures.none) given.0 given.1),
    ))

pub returns-in_default-3-clause-bad : goal.returns-in_default-3-clause-bad
returns-in_default-3-clause-bad c =
    bad_at (vector_words c.args.spelled.from.now c.args.spelled.to.now (words_by_place c.args.words.now)) _ c.input_count-inputs.ensures
    (inr (
      (c.in-Some.first.items, rw c.in-Some.is at c.in_ok-first.ensures.some),
      inr (
        (c.in-Some-2.second.items, rw c.in-Some-2.is at c.in_ok-second.ensures.some),
        inl (refl, λ given. (rw c.in_default-3.is at c.in_ok-moments.ensures.none) given.0 given.1),
      ),
    ))

pub set_moments-requires : goal.set_moments-requires
set_moments-requires c =
    moments_fit c.args.circuit.now.netlist _ _ (rw (c.in-Some-3.is, c.input_count-inputs.ensures) at c.in_ok-moments.ensures.some)

pub returns-clause-asked : goal.returns-clause-asked
returns-clause-asked c =
    are_spelled c.args.circuit.now _ c.input_count-inputs.result (words_by_place c.args.words.now) c.args.spelled.from.now c.args.spelled.to.now
    c.in-Some.first.items c.in-Some-2.second.items c.in-Some-3.moments.items c.input_count-inputs.ensures
    (rw c.in-Some.is at c.in_ok-first.ensures.some) (rw c.in-Some-2.is at c.in_ok-second.ensures.some)
    (rw c.in-Some-3.is at c.in_ok-moments.ensures.some) c.set_moments.ensures
