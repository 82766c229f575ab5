use Rattle.std.proofs.lemmas.Result.{on_ok_weaker}
use Rattle.td_answer.specs.Refusals.{netlist_text}
use Rattle.td_answer.proofs.Adding.{two_appended}
use Rattle.td_answer.proofs.sentence.netlist.Goals as goal

pub returns : goal.returns
unfolding netlist_text
returns c = on_ok_weaker c.fault_of.result (two_appended c.args.out.now _ _ _ _ c.in_ok-push.ensures.appended) c.fault_of.ensures
