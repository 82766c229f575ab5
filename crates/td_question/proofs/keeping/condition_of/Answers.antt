use Rattle.std.proofs.Common.{◌∙◌, refl, sym}
use Rattle.td_question.specs.KeepLines.{quote_in}
use Rattle.td_question.proofs.Conditions.{says_it, no_net}
use Rattle.td_question.proofs.keeping.condition_of.Goals as goal

pub returns-in-Some-number_of-clause-said : goal.returns-in-Some-number_of-clause-said
returns-in-Some-number_of-clause-said c netlist found =
    says_it netlist c.args.names.now c.args.numbers.now (quote_in c.args.quote) c.in-Some.parts.name.now c.in-Some.parts.form c.requires
    (rw c.in-Some.is at c.parts_of.ensures.some) found _ (sym c.number_of.ensures ∙ c.in-Some-number_of.is)

pub returns-in-None-clause-fault : goal.returns-in-None-clause-fault
returns-in-None-clause-fault c netlist found =
    let parts = rw c.in-Some.is at c.parts_of.ensures.some in (
      refl,
      (
        c.in-Some.parts.form,
        parts,
        no_net netlist c.args.names.now c.args.numbers.now (quote_in c.args.quote) c.in-Some.parts.name.now c.in-Some.parts.form c.requires
            parts found (sym c.number_of.ensures ∙ c.in-None.is),
      ),
    )
