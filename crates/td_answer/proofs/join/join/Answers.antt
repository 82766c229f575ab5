use Rattle.std.proofs.Common.{inl, inr, sym, subst}
use Rattle.std.proofs.lemmas.Result.{err_from_is_err_and}
use Rattle.td_circuit.specs.Numbering.{setting}
use Rattle.td_certificate.specs.Accepts.{setting_of}
use Rattle.td_certificate.specs.Questions.{asking_of}
use Rattle.td_answer.proofs.Filling.{asks_same}
use Rattle.td_answer.proofs.Whole.{admits_asked, parts_spelled, whole_true, standing_true}
use Rattle.td_answer.specs.Joins.{TellsStanding}
use Rattle.td_answer.specs.Lines.{standing_lines}
use Rattle.td_answer.specs.declared.status.Status.{Status}
use Rattle.td_answer.proofs.join.join.Goals as goal

pub returns-in_err-sought-clause-refusal : goal.returns-in_err-sought-clause-refusal
returns-in_err-sought-clause-refusal c =
    let reported = err_from_is_err_and c.from_residual.result c.from_residual.ensures.1 in
    rw (reported.1, reported.2) (inl (rw c.with_text-question.ensures at c.in_err-sought.ensures.fault))

pub returns-in_err-parts-clause-refusal : goal.returns-in_err-parts-clause-refusal
returns-in_err-parts-clause-refusal c =
    let reported = err_from_is_err_and c.from_residual-in_err-parts.result c.from_residual-in_err-parts.ensures.1 in
    rw (reported.1, reported.2) (inr (inl (
      c.in_ok-sought.sought.circuit.netlist,
      c.in_ok-sought.ensures.asked.circuit,
      rw c.names-names.ensures at c.in_err-parts.ensures.refusal,
    )))

pub returns-in_err-whole-clause-refusal : goal.returns-in_err-whole-clause-refusal
returns-in_err-whole-clause-refusal c =
    let reported = err_from_is_err_and c.from_residual-in_err-whole.result c.from_residual-in_err-whole.ensures.1 in
    rw (reported.1, reported.2) (inr (inr (record {
      setting = setting c.in_ok-sought.sought.circuit;
      asking = record { admit = c.in_ok-sought.sought.admit; keep = c.in_ok-sought.sought.keep.items };
      parts = c.in_ok-parts.parts.items;
      to_join = record {
        asks = asks_same c.args.texts.now.netlist.now c.args.reading.now _ _ (setting c.in_ok-sought.sought.circuit) c.in_ok-sought.sought.admit
            c.in_ok-sought.sought.keep.items c.with_text-question.ensures c.in_ok-sought.ensures.asked c.in_ok-sought.ensures.keep;
        are_parts = rw c.names-names.ensures at c.in_ok-parts.ensures.parts;
      };
      unjoined = rw c.names-names.ensures at c.in_err-whole.ensures.refusal;
    })))

pub returns-in_err-report-clause-refusal : goal.returns-in_err-report-clause-refusal
returns-in_err-report-clause-refusal c =
    let reported = err_from_is_err_and c.from_residual-in_err-report.result c.from_residual-in_err-report.ensures.1 in
    rw (reported.1, reported.2) (inl tt)

pub returns-clause-says : goal.returns-clause-says
returns-clause-says c =
    let are = rw c.names-names.ensures at c.in_ok-parts.ensures.parts in
    let circuit = c.in_ok-sought.ensures.asked.circuit in
    let netlist = c.in_ok-sought.sought.circuit.netlist in
    let spelled = c.in_ok-whole.ensures.spelled (parts_spelled c.args.texts.now.netlist.now c.args.reading.now netlist circuit
    c.args.asked.now.check _ _ c.in_ok-parts.parts.items are) in
    let claims = whole_true c.args.texts.now.netlist.now c.args.reading.now netlist circuit c.args.asked.now.check _ _
    c.in_ok-parts.parts.items _ c.in_ok-whole.whole c.gates-gates.ensures.numbering.well_formed are c.in_ok-whole.ensures.joined spelled c.in_ok-whole.ensures.accepted in
    record {
      setting = setting c.in_ok-sought.sought.circuit;
      asking = record { admit = c.in_ok-sought.sought.admit; keep = c.in_ok-sought.sought.keep.items };
      parts = c.in_ok-parts.parts.items;
      to_join = record {
        asks = asks_same c.args.texts.now.netlist.now c.args.reading.now _ _ (setting c.in_ok-sought.sought.circuit) c.in_ok-sought.sought.admit
            c.in_ok-sought.sought.keep.items c.with_text-question.ensures c.in_ok-sought.ensures.asked c.in_ok-sought.ensures.keep;
        are_parts = are;
      };
      joined = c.in_ok-whole.ensures.joined;
      admits = admits_asked _ _ (record { admit = c.in_ok-sought.sought.admit; keep = c.in_ok-sought.sought.keep.items }) c.in_ok-whole.whole c.in_ok-whole.ensures.joined c.in_ok-whole.ensures.asked;
      keeps = c.in_ok-whole.ensures.asked.keep;
      dated = c.in_ok-whole.ensures.asked.at;
      has_text = spelled;
      few = c.in_ok-whole.ensures.few;
      accepted = c.in_ok-whole.ensures.accepted;
      claims = claims;
      stands = λ check.
          subst (λ (ending : Status). TellsStanding (setting_of netlist c.in_ok-whole.whole) (asking_of c.in_ok-whole.whole.question) c.args.asked.now.required c.in_ok-whole.whole.claim
          (standing_lines c.args.asked.now.required c.in_ok-whole.whole.claim) ending) (sym c.ending_of_whole-status.ensures)
          (standing_true (setting_of netlist c.in_ok-whole.whole) (asking_of c.in_ok-whole.whole.question) c.args.asked.now.required c.in_ok-whole.whole.claim (claims check));
      is = c.in_ok-report.ensures;
      ends = c.ending_of_whole-status.ensures;
    }

pub returns-clause-written : goal.returns-clause-written
returns-clause-written c = record { certificate = (returns-clause-says c).has_text; dump = tt }
