use Rattle.std.proofs.Common.{map, take_all, ap, ◌∙◌}
use Rattle.std.proofs.lemmas.List.{length-map}
use Rattle.td_gates.specs.Counts.{counts_of}
use Rattle.td_arrival.specs.declared.signals.Signal.{Signal}
use Rattle.td_arrival.proofs.gates.finish_of.Goals as goal

pub returns : goal.returns
returns c = c.eval_counts.ensures.table (map (λ (signal : Signal). signal.finish) c.args.signals.now) (rw length-map c.requires.takes)
    (c.loop-signal.invariant ∙ ap (λ signals. counts_of (map (λ (signal : Signal). signal.finish) signals)) (take_all _ _ c.loop-signal-test.false))
