-- Which fault is reported: the faults of tokens and grammar among all faults.
use Rattle.std.specs.Prelude.{◌≡◌, ℕ, List, Option, None, Some, Err}
use Rattle.td_syntax.specs.Faults as syntax_faults
use Rattle.td_syntax.specs.FirstFault.{syntax_of}
use Rattle.td_syntax.specs.declared.fault.FaultKind as syntax_kind
use Rattle.td_syntax.specs.declared.fault.FaultKind.TheVariants as syntax
use Rattle.td_netlist.specs.declared.fault.FaultKind.{FaultKind}
use Rattle.td_netlist.specs.declared.fault.FaultKind.TheVariants as kind

abbrev pub kind_from : syntax_kind.FaultKind → FaultKind
kind_from syntax.OutOfMemory = kind.OutOfMemory
kind_from syntax.BadByte = kind.BadByte
kind_from syntax.UnexpectedEnd = kind.UnexpectedEnd
kind_from syntax.Syntax = kind.Syntax
kind_from (syntax.OutOfSubset w) = kind.OutOfSubset w
kind_from syntax.ZeroDelay = kind.ZeroDelay
kind_from syntax.DelayTooFine = kind.DelayTooFine
kind_from syntax.DelayTooLarge = kind.DelayTooLarge
kind_from syntax.TooMany = kind.TooMany

-- the kind as one of tokens and grammar, where it is one
abbrev pub syntax_kind_of : FaultKind → Option syntax_faults.FaultKind
syntax_kind_of kind.BadByte = Some syntax_faults.BadByte
syntax_kind_of kind.UnexpectedEnd = Some syntax_faults.UnexpectedEnd
syntax_kind_of kind.Syntax = Some syntax_faults.Syntax
syntax_kind_of (kind.OutOfSubset w) = Some (syntax_faults.OutOfSubset w.now)
syntax_kind_of kind.ZeroDelay = Some syntax_faults.ZeroDelay
syntax_kind_of kind.DelayTooFine = Some syntax_faults.DelayTooFine
syntax_kind_of kind.DelayTooLarge = Some syntax_faults.DelayTooLarge
syntax_kind_of kind.TooMany = Some syntax_faults.TooMany
syntax_kind_of k = None

-- the first fault of tokens and grammar in the text is of this kind and on this line
pub record IsFirstIn (text : List ℕ) (k : FaultKind) (line : ℕ) : Type 0 where
  pub first : syntax_faults.Fault
  pub stands : syntax_of text ≡ Err first
  pub of_kind : syntax_kind_of k ≡ Some first.kind
  pub there : line ≡ first.line
