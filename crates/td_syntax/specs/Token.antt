-- Tokens, and the lines where they stand.
use Rattle.std.specs.Prelude.{ℕ, List, Option, Bool, Result}
use Rattle.td_nets.specs.declared.keyword.Keyword.{Keyword}
use Rattle.td_syntax.specs.declared.token.Symbol.{Symbol}
use Rattle.td_syntax.specs.declared.token.Directive.{Directive}
use Rattle.td_syntax.specs.declared.token.Unread.{Unread}

-- a number as written: the digits and underscores before its point, and those after it where it has
-- one
pub record Numeral : Type 0 where
  pub whole : List ℕ
  pub fraction : Option (List ℕ)

-- A token without where it lies in memory. Escaped names with their backslash, directives that
-- can't be read, tokens outside the subset, and the texts of tokens are for faults alone: no module
-- has them.
pub data Token : Type 0 where
  Name : List ℕ → Token
  Reserved : Keyword → Token
  Number : Numeral → Token
  Constant : Bool → List ℕ → Token
  Mark : Symbol → Token
  Attribute : Token
  Directs : Result Directive Unread → List ℕ → Token
  Escaped : List ℕ → Token
  Outside : List ℕ → Token

-- a token, and the line of its first byte (0 for all but names, where lines of no other tokens are
-- asked about)
pub record Placed : Type 0 where
  pub token : Token
  pub line : ℕ

abbrev pub placed_on : ℕ → Token → Placed
placed_on line token = record { token = token; line = line }
