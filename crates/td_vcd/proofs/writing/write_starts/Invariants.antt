use Rattle.std.proofs.Common.{◌++◌, drop}
use Rattle.td_text.specs.Output.{SentTo}
use Rattle.td_vcd.specs.Text.{text_of, numbered, start_line}
use Rattle.td_vcd.proofs.Steps.{waves_behind}
use Rattle.td_vcd.proofs.writing.write_starts.Given as goal

abbrev pub invariant-loop-variable : goal.invariant-loop-variable
invariant-loop-variable g l = SentTo (g.W.Sink.output l.initial.out) (g.W.Sink.output l.out)
    (l.initial.batch ++ text_of (numbered start_line 0 (waves_behind l.waves)))
    (l.batch ++ text_of (numbered start_line l.variable (drop l.variable (waves_behind l.waves))))
