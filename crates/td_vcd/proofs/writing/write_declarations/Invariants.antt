use Rattle.std.proofs.Common.{◌++◌, drop}
use Rattle.td_text.specs.Output.{SentTo}
use Rattle.td_vcd.specs.Chosen.{names_of}
use Rattle.td_vcd.specs.Text.{text_of, numbered, declaration}
use Rattle.td_vcd.proofs.writing.write_declarations.Given as goal

abbrev pub invariant-loop-variable : goal.invariant-loop-variable
invariant-loop-variable g l = SentTo (g.W.Sink.output l.initial.out) (g.W.Sink.output l.out)
    (l.initial.batch ++ text_of (numbered declaration 0 (names_of l.circuit l.nets)))
    (l.batch ++ text_of (numbered declaration l.variable (drop l.variable (names_of l.circuit l.nets))))
