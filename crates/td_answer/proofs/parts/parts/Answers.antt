use Rattle.std.proofs.Common.{arith, ◌∙◌, ap, sym, length}
use Rattle.std.proofs.lemmas.Bool.{eqb-false, eqb-true}
use Rattle.td_circuit.specs.Numbering.{setting}
use Rattle.td_inputs.specs.Placings.{words_by_place}
use Rattle.td_question.proofs.Questions.{asked_held}
use Rattle.td_answer.proofs.Listing.{no_rows}
use Rattle.td_answer.proofs.Cuts.{no_parts, some_parts}
use Rattle.td_answer.proofs.parts.parts.Goals as goal

pub invariant_of-problem : goal.invariant_of-problem
invariant_of-problem c = record {
  held = asked_held c.args.text.now c.args.reading.now c.args.asked.now.question (setting c.in_ok-about.about.circuit) c.in_ok-about.about.admit c.in_ok-about.ensures.asked;
}

pub returns-then-is_empty-clause-refusal : goal.returns-then-is_empty-clause-refusal
returns-then-is_empty-clause-refusal c =
    no_parts c.args.text.now c.args.reading.now c.args.asked.now.question (setting c.in_ok-about.about.circuit)
    (record { admit = c.in_ok-about.about.admit; keep = c.in_ok-about.about.keep.items }) c.in_ok-cubes.cubes.items
    (record { asked = c.in_ok-about.ensures.asked; keep = c.in_ok-about.ensures.keep }) c.in_ok-cubes.ensures.partition
    (no_rows c.in_ok-cubes.cubes.items (sym c.in_ok-cubes.cubes.ok.0 ∙ eqb-true _ _ (sym c.is_empty.ensures ∙ c.if-is_empty.true)))

pub returns-clause-says : goal.returns-clause-says
returns-clause-says c = record {
  setting = setting c.in_ok-about.about.circuit;
  asking = record { admit = c.in_ok-about.about.admit; keep = c.in_ok-about.about.keep.items };
  about = record { asked = c.in_ok-about.ensures.asked; keep = c.in_ok-about.ensures.keep };
  words = words_by_place c.in_ok-about.about.words;
  together = c.in_ok-about.ensures.together;
  cubes = c.in_ok-cubes.cubes.items;
  partition = c.in_ok-cubes.ensures.partition;
  any = some_parts c.in_ok-cubes.cubes.items
      (λ none. eqb-false _ _ (sym c.is_empty.ensures ∙ c.if-is_empty.false) (c.in_ok-cubes.cubes.ok.0 ∙ ap (λ cubes. length cubes) none));
  few = omega (arith, c.in_ok-cubes.ensures.few, c.args.asked.now.count.some);
  enough = rw (c.strategy.ensures, c.method_of.ensures) at c.in_ok-cubes.ensures.enough;
  some = c.in_ok-cubes.ensures.some;
  inside = c.in_ok-cubes.ensures.inside;
  told = c.in_ok-line.line;
  has = rw (c.deref.ensures.value, c.deref-2.ensures.value, c.in_ok-keep.ensures) at c.in_ok-line.ensures;
  is = c.done.ensures.report ∙ c.in_ok-report.ensures;
  ends = c.done.ensures.status;
}
