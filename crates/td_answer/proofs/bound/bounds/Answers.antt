use Rattle.std.proofs.Common.{◌∙◌, ◌*◌, ap}
use Rattle.td_circuit.specs.Numbering.{setting}
use Rattle.td_question.proofs.Questions.{asked_held}
use Rattle.td_answer.specs.Bounds.{question_in}
use Rattle.td_answer.proofs.LeastBound.{met_by}
use Rattle.td_answer.proofs.bound.bounds.Goals as goal

pub report_of-requires : goal.report_of-requires
report_of-requires c =
    let held = asked_held c.args.text.now c.args.reading.now (question_in c.args.asked.now) (setting c.in_ok-about.about.circuit) c.in_ok-about.about.admit c.in_ok-about.ensures.asked in
    rw c.pins.ensures.pins (c.pins.ensures.fit ∙ ap (λ n. 2 * n) held)

pub returns-clause-says : goal.returns-clause-says
returns-clause-says c = record {
  setting = setting c.in_ok-about.about.circuit;
  admit = c.in_ok-about.about.admit;
  about = c.in_ok-about.ensures.asked;
  least = c.in_ok-report.field-0.least;
  report = rw c.pins.ensures.pins at c.in_ok-report.ensures;
  met = met_by c.args.asked.now (setting c.in_ok-about.about.circuit) c.in_ok-about.about.admit c.in_ok-report.field-0.least c.in_ok-report.field-0.report
      (rw c.pins.ensures.pins at c.in_ok-report.ensures);
  ends = c.met_ending.ensures;
}
