-- What faults of a netlist's text mean, and what to do about them.
use Rattle.std.specs.Prelude.{◌≡◌, ℕ, List, codes}
use Rattle.td_netlist.specs.declared.fault.FaultKind.{FaultKind}
use Rattle.td_netlist.specs.declared.fault.FaultKind.TheVariants as kind
use Rattle.td_hints.specs.declared.netlists.Leaving.{Leaving}
use Rattle.td_hints.specs.declared.netlists.Leaving.TheVariants as way

-- how a text leaves the subset
abbrev pub leaving_sentence : Leaving → List ℕ
leaving_sentence way.Cell = codes "an instance of a cell or of another module, or a parameter as a delay"
leaving_sentence way.Behaviour = codes "behaviour or a variable, where gate primitives have to be"
leaving_sentence way.Module = codes "a second module"
leaving_sentence way.Undriving = codes "high impedance, a wired net or a switch"
leaving_sentence way.Strength = codes "a strength"
leaving_sentence way.NetDelay = codes "a net's delay"
leaving_sentence way.ThirdDelay = codes "a third delay, to high impedance"
leaving_sentence way.Choice = codes "a choice of minimal, typical and maximal delay, or a part of a vector"
leaving_sentence way.Instances = codes "an array of instances"
leaving_sentence way.Constant = codes "another constant than 1'b0 and 1'b1, or a constant where a number has to be"
leaving_sentence way.Named = codes "ports by name, or a fraction without a digit before it"
leaving_sentence way.Directive = codes "a compiler directive other than `timescale"
leaving_sentence way.Attribute = codes "an attribute where none is read"
leaving_sentence way.Other = codes "an operator, a string or a system name"

abbrev pub leaving_advice : Leaving → List ℕ
leaving_advice way.Cell = codes "a cell instance: map it to gate primitives, see docs/FROM-RTL.md; a delay: write it as a number"
leaving_advice way.Behaviour = codes "synthesise it to gates: see docs/FROM-RTL.md"
leaving_advice way.Module = codes "flatten the design into one module: see docs/FROM-RTL.md"
leaving_advice way.Undriving = codes "write it as gates: no net has the level z"
leaving_advice way.Strength = codes "leave it out: a net has one driver"
leaving_advice way.NetDelay = codes "put a buf with this delay into the net"
leaving_advice way.ThirdDelay = codes "leave it out: a gate has a rise and a fall delay"
leaving_advice way.Choice = codes "write one of the three delays; name one bit"
leaving_advice way.Instances = codes "write the instances one by one"
leaving_advice way.Constant = codes "write 1'b0 or 1'b1 for each bit, and a number plainly"
leaving_advice way.Named = codes "list the nets in order; write 0.5 for .5"
leaving_advice way.Directive = codes "run a preprocessor first"
leaving_advice way.Attribute = codes "remove it"
leaving_advice way.Other = codes "remove it, or synthesise it: see docs/FROM-RTL.md"

-- The text says what is wrong. Of a token at which a text leaves the subset it is one of the
-- sentences for that; which one is tested.
abbrev pub IsSentence : FaultKind → List ℕ → Type 0
IsSentence kind.OutOfMemory text = text ≡ codes "memory ran out"
IsSentence kind.BadByte text = text ≡ codes "a byte that no word may hold: a control character, or a letter that isn't ASCII"
IsSentence kind.UnexpectedEnd text = text ≡ codes "the text ends inside a comment, an attribute, a directive or the module, or has no module"
IsSentence kind.Syntax text = text ≡ codes "a word that the grammar doesn't allow here"
IsSentence kind.ZeroDelay text = text ≡ codes "a delay of 0"
IsSentence kind.DelayTooFine text = text ≡ codes "a delay that is no whole number of steps"
IsSentence kind.DelayTooLarge text = text ≡ codes "a delay of more than 1,000,000,000 steps"
IsSentence kind.Redeclared text = text ≡ codes "a name that is declared again: with a second direction, as a second wire or port, or with another range"
IsSentence kind.UnknownBit text = text ≡ codes "a bit of a scalar, of a name that isn't declared, or outside its range"
IsSentence kind.WidthNotOne text = text ≡ codes "a vector of several bits as the terminal of a gate"
IsSentence kind.TwoDrivers text = text ≡ codes "a second gate drives a net that has a driver"
IsSentence kind.DrivenInput text = text ≡ codes "a gate drives an input of the module"
IsSentence kind.Undriven text = text ≡ codes "a net without a driver, which a gate reads or which is an output"
IsSentence kind.TooMany text = text ≡ codes "a limit on the size of a netlist is passed"
IsSentence kind.PortUndeclared text = text ≡ codes "a port without a direction, or a direction for a name that is no port"
IsSentence (kind.OutOfSubset token) text = (left : Leaving) × (text ≡ leaving_sentence left)

-- the text says what to do about it
abbrev pub IsAdvice : FaultKind → List ℕ → Type 0
IsAdvice kind.OutOfMemory text = text ≡ codes "give it more memory, or a smaller netlist"
IsAdvice kind.BadByte text = text ≡ codes "rename the net, or save the text as ASCII"
IsAdvice kind.UnexpectedEnd text = text ≡ codes "close it; if the file is empty or cut off, fetch it again"
IsAdvice kind.Syntax text = text ≡ codes "mend the line; a comma or a semicolon is often missing before it"
IsAdvice kind.ZeroDelay text = text ≡ codes "give it 1 step at least, or leave it out and choose --default-rise and --default-fall"
IsAdvice kind.DelayTooFine text = text ≡ codes "give `timescale a shorter step, or round the delay"
IsAdvice kind.DelayTooLarge text = text ≡ codes "give `timescale a longer step"
IsAdvice kind.Redeclared text = text ≡ codes "remove one of the two, or make the ranges equal"
IsAdvice kind.UnknownBit text = text ≡ codes "declare the vector, or mend the number"
IsAdvice kind.WidthNotOne text = text ≡ codes "name a bit, one gate for each"
IsAdvice kind.TwoDrivers text = text ≡ codes "give the two outputs two names: there are no wired nets"
IsAdvice kind.DrivenInput text = text ≡ codes "rename the net, or make it no input"
IsAdvice kind.Undriven text = text ≡ codes "mind its spelling; drive it by a gate, by 1'b0 or 1'b1, or make it an input; an output that passes an input on needs a buf"
IsAdvice kind.TooMany text = text ≡ codes "take the circuit apart, or make the range smaller: docs/NETLIST.md, Limits"
IsAdvice kind.PortUndeclared text = text ≡ codes "declare it, or list it among the ports"
IsAdvice (kind.OutOfSubset token) text = (left : Leaving) × (text ≡ leaving_advice left)
