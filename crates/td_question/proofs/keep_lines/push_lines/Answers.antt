use Rattle.std.proofs.Common.{map}
use Rattle.td_question.specs.KeepLines.{quote_in}
use Rattle.td_question.proofs.LineQuotes.{line_read, byte_read}
use Rattle.td_question.proofs.keep_lines.push_lines.Goals.{then-byte-eq10+in_ok-push_line, else-byte-eq10}
use Rattle.td_question.proofs.keep_lines.push_lines.Goals as goal

pub loop-at-preserved : goal.loop-at-preserved
loop-at-preserved c = elim c.if-byte-eq10.branch [
  | then-byte-eq10+in_ok-push_line w ↦ rw (w.quotes-is, w.start-is, w.number-is)
      (line_read c.args.text.now c.loop-at.start c.loop-at.at c.loop-at.number (map quote_in c.args.quotes.now.items) (map quote_in c.loop-at.quotes.items)
      c.loop-at.invariant _ c.loop-at-test.true w.if-byte-eq10.true w.in_ok-push_line.ensures)
  | else-byte-eq10 w ↦ rw (w.quotes-is, w.start-is, w.number-is)
      (byte_read c.args.text.now c.loop-at.start c.loop-at.at c.loop-at.number (map quote_in c.args.quotes.now.items) (map quote_in c.loop-at.quotes.items)
      c.loop-at.invariant c.loop-at-test.true w.if-byte-eq10.false)
]
