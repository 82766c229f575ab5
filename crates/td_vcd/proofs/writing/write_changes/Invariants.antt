use Rattle.std.proofs.Common.{◌++◌, drop}
use Rattle.td_text.specs.Output.{SentTo}
use Rattle.td_vcd.specs.Text.{text_of}
use Rattle.td_vcd.specs.Walks.{lines_from}
use Rattle.td_vcd.proofs.writing.write_changes.Given as goal

abbrev pub invariant-loop-event : goal.invariant-loop-event
invariant-loop-event g l = SentTo (g.W.Sink.output l.initial.out) (g.W.Sink.output l.out)
    (l.initial.batch ++ text_of (lines_from 0 l.events))
    (l.batch ++ text_of (lines_from l.number (drop l.event-index l.events)))
