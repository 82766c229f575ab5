use Rattle.std.proofs.Common.{List, subst, take_all}
use Rattle.std.specs.List.{flat_map}
use Rattle.td_lines.specs.declared.line.Line.{Line}
use Rattle.td_lines.specs.Values.{Adds, line_tokens}
use Rattle.td_lines.proofs.Steps.{lines_closed}
use Rattle.td_lines.proofs.members.object.Goals as goal

pub returns : goal.returns
returns c =
    lines_closed c.end_object.result c.args.writer.now c.loop-line.writer c.end_object.new.self c.args.report.now
    (subst (λ (lines : List Line). Adds c.args.writer.now c.loop-line.writer (flat_map line_tokens lines))
    (take_all c.loop-line.line-index c.args.report.now c.loop-line-test.false) c.loop-line.invariant)
    c.end_object.ensures
