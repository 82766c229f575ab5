-- Which fault of tokens and grammar is reported: the first one that a reader meets from the front.
-- What a text is doesn't rest on this.
use Rattle.std.specs.Prelude.{ℕ, List, length, Result, Ok, Err, nat_lt, if◌then◌else◌}
use Rattle.td_syntax.specs.Tokens.{tokens_of}
use Rattle.td_syntax.specs.Grammar.{Module}
use Rattle.td_syntax.specs.Faults.{Fault, TooMany, fault, ◌>>=◌}
use Rattle.td_syntax.specs.Readers.{start}
use Rattle.td_syntax.specs.Parsing.{module_at}

-- the module of a text, or its first fault
unfoldable pub syntax_of : List ℕ → Result Module Fault
syntax_of text = if nat_lt 67108864 (length text) then Err (fault TooMany 1) else (module_at (start (tokens_of 1 text)) >>= λ x. Ok x.0)
