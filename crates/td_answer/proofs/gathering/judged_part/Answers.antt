use Rattle.std.proofs.lemmas.Result.{IfErr-weaker}
use Rattle.td_answer.proofs.gathering.judged_part.Goals as goal

pub returns-clause-refusal : goal.returns-clause-refusal
returns-clause-refusal c =
    IfErr-weaker c.read_part.result _ _ (λ reason has netlist. has c.args.text.now c.args.reading.now netlist c.args.is_checked) c.read_part.ensures.refusal
