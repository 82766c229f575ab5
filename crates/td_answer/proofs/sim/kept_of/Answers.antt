use Rattle.std.proofs.Common.{◌∙◌, ap, length}
use Rattle.td_answer.proofs.Keepings.{kept_some, dumped_some}
use Rattle.td_answer.proofs.sim.kept_of.Goals as goal

pub returns-clause-kept : goal.returns-clause-kept
returns-clause-kept c =
    kept_some c.args.pair.now.circuit c.args.pair.now.first.items c.args.pair.now.second.items c.deref-3.result.now c.args.chosen.now c.kept_waves.result
    (ap length c.deref-3.ensures.value ∙ c.in_ok-wanted.ensures.count) c.requires.chosen
    (rw c.deref-3.ensures.value c.in_ok-wanted.ensures.these)
    (rw (c.deref.ensures.value, c.deref-2.ensures.value) at c.kept_waves.ensures.runs)

pub returns-clause-written : goal.returns-clause-written
returns-clause-written c =
    dumped_some c.args.pair.now.circuit c.args.pair.now.first.items c.args.pair.now.second.items c.args.chosen.now c.kept_waves.result
    c.requires.named (returns-clause-kept c) c.kept_waves.ensures.count c.kept_waves.ensures.small
