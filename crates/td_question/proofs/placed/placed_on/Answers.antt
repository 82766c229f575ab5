use Rattle.std.proofs.Common.{◌∙◌, List, ap, map, subst}
use Rattle.td_inputs.specs.Labels.{Label, label_in}
use Rattle.td_inputs.specs.Readings.{fault_in}
use Rattle.td_inputs.specs.Placings.{given_in, words_by_place, ArePlaced, IsUnread, IsWrong}
use Rattle.td_question.specs.Asking.{taken_of}
use Rattle.td_question.proofs.placed.placed_on.Goals as goal

pub returns-in-Ok-Some-clause-together : goal.returns-in-Ok-Some-clause-together
returns-in-Ok-Some-clause-together c =
    subst (λ (ls : List Label). ArePlaced ls (taken_of c.args.inputs.now) (given_in c.args.inputs.now.given) (words_by_place c.in-Ok-Some.words))
    (ap (map label_in) c.deref.ensures.value ∙ c.in_ok-labels.ensures)
    (rw (c.in-Ok-Some.is, c.in-Ok-Some.field-0-is) at c.in_ok-options.ensures.placed)

pub returns-in-Ok-None-clause-fault : goal.returns-in-Ok-None-clause-fault
returns-in-Ok-None-clause-fault c = record {
  netlist = c.in_ok-source.source.circuit.netlist;
  circuit = c.in_ok-source.ensures.circuit;
  unread = subst (λ (ls : List Label). IsUnread ls (taken_of c.args.inputs.now) (given_in c.args.inputs.now.given))
      (ap (map label_in) c.deref.ensures.value ∙ c.in_ok-labels.ensures)
      (rw (c.in-Ok-None.is, c.in-Ok-None.field-0-is) at c.in_ok-options.ensures.unread);
}

pub returns-clause-fault : goal.returns-clause-fault
returns-clause-fault c = record {
  netlist = c.in_ok-source.source.circuit.netlist;
  circuit = c.in_ok-source.ensures.circuit;
  called = c.in_ok-labels.ensures;
  wrong = subst (λ (ls : List Label). IsWrong ls (taken_of c.args.inputs.now) (given_in c.args.inputs.now.given) (fault_in c.in-Err.fault))
      (ap (map label_in) c.deref.ensures.value ∙ c.in_ok-labels.ensures)
      (rw c.in-Err.is at c.in_ok-options.ensures.wrong);
}
