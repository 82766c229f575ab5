-- Tokens as the grammar names them, and the gates of a statement.
use Rattle.std.proofs.Common.{ℕ, drop, []}
use Rattle.std.specs.List.{sum_by}
use Rattle.td_syntax.specs.Grammar.{Statement, instance_gates}
use Rattle.td_syntax.specs.Token as lexical
use Rattle.td_syntax.specs.Token.{Placed, placed_on}

-- A token without what the grammar doesn't look at: lines, but those of names, the backslash of a
-- name, and texts that are only reported.
abbrev pub plain_as : ℕ → lexical.Token → Placed
plain_as line (lexical.Name w) = placed_on line (lexical.Name w)
plain_as line (lexical.Escaped w) = placed_on line (lexical.Name (drop 1 w))
plain_as line (lexical.Reserved k) = placed_on 0 (lexical.Reserved k)
plain_as line (lexical.Number n) = placed_on 0 (lexical.Number n)
plain_as line (lexical.Constant b w) = placed_on 0 (lexical.Constant b [])
plain_as line (lexical.Mark m) = placed_on 0 (lexical.Mark m)
plain_as line lexical.Attribute = placed_on 0 lexical.Attribute
plain_as line (lexical.Directs d w) = placed_on 0 (lexical.Directs d [])
plain_as line (lexical.Outside w) = placed_on 0 (lexical.Outside w)

abbrev pub plain : Placed → Placed
plain p = plain_as p.line p.token

abbrev pub statement_gates : Statement → ℕ
statement_gates s = sum_by (instance_gates s.kind) s.instances
