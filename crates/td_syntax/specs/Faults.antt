-- Which fault of tokens and grammar is reported: why a text is refused, and where.
use Rattle.std.specs.Prelude.{◌≡◌, ℕ, List, Option, None, Some, Result, Ok, Err, MatchOption, codes}
use Rattle.td_syntax.specs.declared.fault.FaultKind as code_kind
use Rattle.td_syntax.specs.declared.fault.FaultKind.TheVariants as code
use Rattle.td_syntax.specs.declared.fault.Fault as code_fault
use Rattle.td_syntax.specs.declared.token.Stop.TheVariants as stop
use Rattle.td_syntax.specs.declared.token.Stop.{Stop}
use Rattle.td_syntax.specs.declared.token.Symbol.TheVariants as symbol
use Rattle.td_syntax.specs.declared.token.Symbol.{Symbol}
use Rattle.td_syntax.specs.Token.{Token, Name, Escaped, Reserved, Number, Constant, Mark, Attribute, Directs, Outside}
use Rattle.td_syntax.specs.Token.{Placed}

pub data FaultKind : Type 0 where
  BadByte : FaultKind
  UnexpectedEnd : FaultKind
  Syntax : FaultKind
  OutOfSubset : List ℕ → FaultKind
  ZeroDelay : FaultKind
  DelayTooFine : FaultKind
  DelayTooLarge : FaultKind
  TooMany : FaultKind

pub record Fault : Type 0 where
  pub kind : FaultKind
  pub line : ℕ

abbrev pub fault : FaultKind → ℕ → Fault
fault kind line = record { kind = kind; line = line }

-- a colon is a character that the subset leaves out, but in a range
abbrev pub mark_refusal : Symbol → FaultKind
mark_refusal symbol.Colon = OutOfSubset (codes ":")
mark_refusal symbol.Open = Syntax
mark_refusal symbol.Close = Syntax
mark_refusal symbol.Comma = Syntax
mark_refusal symbol.Semicolon = Syntax
mark_refusal symbol.Hash = Syntax
mark_refusal symbol.LeftBracket = Syntax
mark_refusal symbol.RightBracket = Syntax

-- what a token is reported as where the grammar doesn't allow it
abbrev pub refusal : Token → FaultKind
refusal (Name w) = Syntax
refusal (Escaped w) = Syntax
refusal (Reserved k) = Syntax
refusal (Number n) = Syntax
refusal (Constant b w) = OutOfSubset w
refusal (Mark m) = mark_refusal m
refusal Attribute = OutOfSubset (codes "(*")
refusal (Directs d w) = OutOfSubset w
refusal (Outside w) = OutOfSubset w

abbrev pub refused : Placed → Fault
refused p = fault (refusal p.token) p.line

-- what follows the last token, where another is due
abbrev pub stopped : Stop → ℕ → Fault
stopped stop.Cut line = fault UnexpectedEnd line
stopped stop.Bad line = fault BadByte line
stopped stop.Malformed line = fault Syntax line
stopped stop.End line = fault UnexpectedEnd line

-- running out of memory isn't a fault of the text
abbrev pub reported : code_kind.FaultKind → Option FaultKind
reported code.OutOfMemory = None
reported code.BadByte = Some BadByte
reported code.UnexpectedEnd = Some UnexpectedEnd
reported code.Syntax = Some Syntax
reported (code.OutOfSubset w) = Some (OutOfSubset w.now)
reported code.ZeroDelay = Some ZeroDelay
reported code.DelayTooFine = Some DelayTooFine
reported code.DelayTooLarge = Some DelayTooLarge
reported code.TooMany = Some TooMany

abbrev pub Fails : {Y : Type 0} → code_fault.Fault → Result Y Fault → Type 0
Fails e read = MatchOption (reported e.kind) (Unit {0}) (λ kind. read ≡ Err (fault kind e.line))

-- What a function returned, seen by view, is what reading gives, unless memory ran out.
abbrev pub Gives : {X Y : Type 0} → (X → Y) → Result X code_fault.Fault → Result Y Fault → Type 0
Gives view (Ok x) read = read ≡ Ok (view x)
Gives view (Err e) read = Fails e read

-- one reader after another, up to the first fault
infixl 10 ◌>>=◌
abbrev pub ◌>>=◌ : {A B E : Type 0} → Result A E → (A → Result B E) → Result B E
(Ok x) >>= f = f x
(Err e) >>= f = Err e
