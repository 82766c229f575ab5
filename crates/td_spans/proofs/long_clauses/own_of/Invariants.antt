use Rattle.std.proofs.Common.{◌≡◌, ◌++◌, drop}
use Rattle.td_spans.specs.Pieces.{own_of}
use Rattle.td_spans.proofs.long_clauses.own_of.Given as goal

abbrev pub invariant-loop-saying : goal.invariant-loop-saying
invariant-loop-saying l = l.own.items ++ own_of (drop l.saying-index l.said) l.net ≡ own_of l.said l.net
