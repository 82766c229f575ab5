use Rattle.std.specs.Prelude.{string_bytes}
use Rattle.td_text.specs.Output.{SentTo}
use Rattle.td_certificate.proofs.Batches.{up_to}
use Rattle.td_certificate.proofs.writing.write.Given as goal

abbrev pub invariant-loop-node : goal.invariant-loop-node
invariant-loop-node g l = SentTo (g.W.Sink.output l.initial.out) (g.W.Sink.output l.out) (up_to l.certificate l.node-index) (string_bytes l.batch)
