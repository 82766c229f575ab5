-- The readers that reading a module is made of: of one token, and of many of a kind.
use Rattle.std.specs.Prelude.{ℕ, zero, suc, ◌+◌, List, [], ◌∷◌, drop, length, Option, None, Some, Bool, true, false, Result, Ok, Err, ◌==◌, if◌then◌else◌}
use Rattle.td_nets.specs.declared.keyword.Keyword.{Keyword}
use Rattle.td_syntax.specs.declared.token.Symbol.{Symbol}
use Rattle.td_syntax.specs.declared.token.Symbol.TheVariants as symbol
use Rattle.td_syntax.specs.declared.token.Directive.{Directive}
use Rattle.td_syntax.specs.declared.token.Unread.{Unread}
use Rattle.td_syntax.specs.Token.{Numeral, Token, Name, Escaped, Reserved, Number, Constant, Mark, Attribute, Directs, Outside}
use Rattle.td_syntax.specs.Token.{Placed}
use Rattle.td_syntax.specs.Tokens.{Stream, Front, Next, Behind, front_of, rest_of}
use Rattle.td_syntax.specs.Grammar as grammar
use Rattle.td_syntax.specs.Faults.{Fault, Syntax, OutOfSubset, fault, refused, stopped, ◌>>=◌}

-- what is left, and how many gates there are so far
pub record Remainder : Type 0 where
  pub stream : Stream
  pub gates : ℕ

abbrev pub start : Stream → Remainder
start s = record { stream = s; gates = 0 }

-- after the token in front
abbrev pub behind_front : Remainder → Remainder
behind_front s = record { stream = rest_of s.stream; gates = s.gates }

-- ---- one token

abbrev pub next_by : Remainder → Front → Result (Placed × Remainder) Fault
next_by s (Next p) = Ok (p, behind_front s)
next_by s (Behind stop line) = Err (stopped stop line)

-- the token in front
unfoldable pub next_at : Remainder → Result (Placed × Remainder) Fault
next_at s = next_by s (front_of s.stream)

abbrev pub read_as : {A : Type 0} → Fault → Remainder → Option A → Result (A × Remainder) Fault
read_as f rest None = Err f
read_as f rest (Some a) = Ok (a, rest)

-- the token in front, which must be one of these
unfoldable pub take_at : {A : Type 0} → (Placed → Option A) → (Placed → Fault) → Remainder → Result (A × Remainder) Fault
take_at find refuse s = next_at s >>= λ p. read_as (refuse p.0) p.1 (find p.0)

abbrev pub read_if : {A : Type 0} → Remainder → Remainder → Option A → Option A × Remainder
read_if s rest None = (None, s)
read_if s rest (Some a) = (Some a, rest)

-- the token in front, where it is one of these
unfoldable pub maybe_at : {A : Type 0} → (Placed → Option A) → Remainder → Result (Option A × Remainder) Fault
maybe_at find s = next_at s >>= λ p. Ok (read_if s p.1 (find p.0))

abbrev pub code_of : Symbol → ℕ
code_of symbol.Open = 0
code_of symbol.Close = 1
code_of symbol.Comma = 2
code_of symbol.Semicolon = 3
code_of symbol.Hash = 4
code_of symbol.LeftBracket = 5
code_of symbol.RightBracket = 6
code_of symbol.Colon = 7

abbrev pub is_mark : Symbol → Token → Bool
is_mark m (Mark n) = code_of n == code_of m
is_mark m (Name w) = false
is_mark m (Escaped w) = false
is_mark m (Reserved k) = false
is_mark m (Number n) = false
is_mark m (Constant b w) = false
is_mark m Attribute = false
is_mark m (Directs d w) = false
is_mark m (Outside w) = false

-- a backslash isn't part of a name
abbrev pub name_by : ℕ → Token → Option grammar.Name
name_by line (Name w) = Some (record { name = w; line = line })
name_by line (Escaped w) = Some (record { name = drop 1 w; line = line })
name_by line (Reserved k) = None
name_by line (Number n) = None
name_by line (Constant b w) = None
name_by line (Mark m) = None
name_by line Attribute = None
name_by line (Directs d w) = None
name_by line (Outside w) = None

abbrev pub as_name : Placed → Option grammar.Name
as_name p = name_by p.line p.token

abbrev pub number_by : Token → Option Numeral
number_by (Number n) = Some n
number_by (Name w) = None
number_by (Escaped w) = None
number_by (Reserved k) = None
number_by (Constant b w) = None
number_by (Mark m) = None
number_by Attribute = None
number_by (Directs d w) = None
number_by (Outside w) = None

abbrev pub as_number : Placed → Option Numeral
as_number p = number_by p.token

-- a number without a point
abbrev pub whole_in : List ℕ → Option (List ℕ) → Option (List ℕ)
whole_in w None = Some w
whole_in w (Some f) = None

abbrev pub whole_by : Option Numeral → Option (List ℕ)
whole_by None = None
whole_by (Some n) = whole_in n.whole n.fraction

abbrev pub as_whole : Placed → Option (List ℕ)
as_whole p = whole_by (as_number p)

abbrev pub keyword_by : Token → Option Keyword
keyword_by (Reserved k) = Some k
keyword_by (Name w) = None
keyword_by (Escaped w) = None
keyword_by (Number n) = None
keyword_by (Constant b w) = None
keyword_by (Mark m) = None
keyword_by Attribute = None
keyword_by (Directs d w) = None
keyword_by (Outside w) = None

abbrev pub as_keyword : Placed → Option Keyword
as_keyword p = keyword_by p.token

abbrev pub attribute_by : Token → Option (Unit {0})
attribute_by Attribute = Some tt
attribute_by (Name w) = None
attribute_by (Escaped w) = None
attribute_by (Reserved k) = None
attribute_by (Number n) = None
attribute_by (Constant b w) = None
attribute_by (Mark m) = None
attribute_by (Directs d w) = None
attribute_by (Outside w) = None

abbrev pub as_attribute : Placed → Option (Unit {0})
as_attribute p = attribute_by p.token

abbrev pub directive_by : Token → Option (Result Directive Unread)
directive_by (Directs d w) = Some d
directive_by (Name w) = None
directive_by (Escaped w) = None
directive_by (Reserved k) = None
directive_by (Number n) = None
directive_by (Constant b w) = None
directive_by (Mark m) = None
directive_by Attribute = None
directive_by (Outside w) = None

abbrev pub as_directive : Placed → Option (Result Directive Unread)
as_directive p = directive_by p.token

-- the text of a name as it is reported
abbrev pub name_text : Token → Option (List ℕ)
name_text (Name w) = Some w
name_text (Escaped w) = Some w
name_text (Reserved k) = None
name_text (Number n) = None
name_text (Constant b w) = None
name_text (Mark m) = None
name_text Attribute = None
name_text (Directs d w) = None
name_text (Outside w) = None

-- what a token is reported as where a name, too, is outside the subset
abbrev pub named_refusal : Placed → Option (List ℕ) → Fault
named_refusal p None = refused p
named_refusal p (Some w) = fault (OutOfSubset w) p.line

abbrev pub refused_name : Placed → Fault
refused_name p = named_refusal p (name_text p.token)

unfoldable pub name_at : Remainder → Result (grammar.Name × Remainder) Fault
name_at s = take_at as_name refused s

-- a number without a point
unfoldable pub whole_at : Remainder → Result (List ℕ × Remainder) Fault
whole_at s = take_at as_whole refused s

unfoldable pub mark_at : Symbol → Remainder → Result Remainder Fault
mark_at m s = next_at s >>= λ p. if is_mark m p.0.token then Ok p.1 else Err (refused p.0)

-- whether the mark is in front, which is taken then
unfoldable pub maybe_mark_at : Symbol → Remainder → Result (Bool × Remainder) Fault
maybe_mark_at m s = next_at s >>= λ p. if is_mark m p.0.token then Ok (true, p.1) else Ok (false, s)

-- ---- lists

-- a member with more to come, the last member, or the end
pub data ListStep (A : Type 0) : Type 0 where
  More : A → ListStep A
  Final : A → ListStep A
  Done : ListStep A

abbrev pub go_on : {A : Type 0} → (Remainder → Result (List A × Remainder) Fault) → ListStep A × Remainder → Result (List A × Remainder) Fault
go_on rest x = elim x.0 [
  | More a ↦ rest x.1 >>= λ y. Ok (a ∷ y.0, y.1)
  | Final a ↦ Ok (a ∷ [], x.1)
  | Done ↦ Ok ([], x.1)
]

-- the members from the one with this number on
unfoldable pub many_within : {A : Type 0} → (ℕ → Remainder → Result (ListStep A × Remainder) Fault) → ℕ → ℕ → Remainder → Result (List A × Remainder) Fault
many_within step k zero s = Err (fault Syntax 0)
many_within step k (suc n) s = step k s >>= go_on (many_within step (k + 1) n)

unfoldable pub many_from : {A : Type 0} → (ℕ → Remainder → Result (ListStep A × Remainder) Fault) → ℕ → Remainder → Result (List A × Remainder) Fault
many_from step k s = many_within step k (suc (length s.stream.tokens)) s

abbrev pub many : {A : Type 0} → (ℕ → Remainder → Result (ListStep A × Remainder) Fault) → Remainder → Result (List A × Remainder) Fault
many step s = many_from step 0 s

-- whether a comma is in front, and not the mark that ends the list; either is taken
unfoldable pub separator_at : Symbol → Remainder → Result (Bool × Remainder) Fault
separator_at end s = next_at s >>= λ p. if is_mark symbol.Comma p.0.token then Ok (true, p.1) else (if is_mark end p.0.token then Ok (false, p.1) else Err (refused p.0))

abbrev pub step_of : {A : Type 0} → A → Bool → ListStep A
step_of a true = More a
step_of a false = Final a

abbrev pub behind : {A : Type 0} → Symbol → A → Remainder → Result (ListStep A × Remainder) Fault
behind end a s = separator_at end s >>= λ x. Ok (step_of a x.0, x.1)

unfoldable pub name_step : Symbol → ℕ → Remainder → Result (ListStep grammar.Name × Remainder) Fault
name_step end k s = name_at s >>= λ n. behind end n.0 n.1

unfoldable pub names_at : Symbol → Remainder → Result (List grammar.Name × Remainder) Fault
names_at end s = many (name_step end) s
