use Rattle.td_answer.specs.Refusals.{other_circuit_text}
use Rattle.td_answer.proofs.sentence.other_circuit.Goals as goal

pub returns : goal.returns
unfolding other_circuit_text
returns c = c.word_between.ensures
