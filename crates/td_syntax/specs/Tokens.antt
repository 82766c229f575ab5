-- Which fault of tokens is reported: the tokens of any text, with their lines, and where they stop.
use Rattle.std.specs.Prelude.{ℕ, zero, suc, ◌+◌, List, [], ◌∷◌, length, take, drop}
use Rattle.td_syntax.specs.declared.token.Stop.{Stop}
use Rattle.td_syntax.specs.declared.token.Stop.TheVariants.{Cut, Bad, Malformed, End}
use Rattle.td_syntax.specs.Bytes.{newlines}
use Rattle.td_syntax.specs.Token.{Placed, placed_on}
use Rattle.td_syntax.specs.Lexical.{Space, Found, Last, piece_at}

-- The tokens of a text, and what follows them, on which line.
pub record Stream : Type 0 where
  pub tokens : List Placed
  pub stop : Stop
  pub line : ℕ

abbrev pub ends : ℕ → Stop → Stream
ends line stop = record { tokens = []; stop = stop; line = line }

abbrev pub with_token : Placed → Stream → Stream
with_token t s = record { tokens = t ∷ s.tokens; stop = s.stop; line = s.line }

-- A comment or an attribute that is cut short is reported at the line of the end, another stop
-- where it stands.
abbrev pub stop_line : ℕ → List ℕ → Stop → ℕ
stop_line line bytes Cut = line + newlines bytes
stop_line line bytes Bad = line
stop_line line bytes Malformed = line
stop_line line bytes End = line

-- The tokens of the bytes, which begin on this line: white space and comments stand between them.
-- No more than that many pieces are looked at.
unfoldable pub tokens_within : ℕ → ℕ → List ℕ → Stream
tokens_within zero line bytes = ends line End
tokens_within (suc pieces) line bytes =
    elim (piece_at bytes) [
      | Space n ↦ tokens_within pieces (line + newlines (take n bytes)) (drop n bytes)
      | Found t n ↦ with_token (placed_on line t) (tokens_within pieces (line + newlines (take n bytes)) (drop n bytes))
      | Last stop ↦ ends (stop_line line bytes stop) stop
    ]

unfoldable pub tokens_of : ℕ → List ℕ → Stream
tokens_of line bytes = tokens_within (suc (length bytes)) line bytes

-- what stands in front: the first token, or what follows the last, with its line
pub data Front : Type 0 where
  Next : Placed → Front
  Behind : Stop → ℕ → Front

abbrev pub front_in : List Placed → Stop → ℕ → Front
front_in [] stop line = Behind stop line
front_in (t ∷ ts) stop line = Next t

abbrev pub rest_in : List Placed → List Placed
rest_in [] = []
rest_in (t ∷ ts) = ts

unfoldable pub front_of : Stream → Front
front_of s = front_in s.tokens s.stop s.line

unfoldable pub rest_of : Stream → Stream
rest_of s = record { tokens = rest_in s.tokens; stop = s.stop; line = s.line }

-- what is left, with this in front of it
abbrev pub with_front : Front → Stream → Stream
with_front (Next t) s = with_token t s
with_front (Behind stop line) s = ends line stop
