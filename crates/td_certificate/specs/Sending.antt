-- Internal: what a writer has of a text where writing stops.
use Rattle.std.specs.Prelude.{ℕ, List}
use Rattle.td_text.specs.Output.{Output, SentTo, Failed}
use Rattle.td_certificate.specs.declared.fault.WriteFault.{WriteFault}
use Rattle.td_certificate.specs.declared.fault.WriteFault.TheVariants.{Device, OutOfMemory}

-- the writer failed after a beginning of the text, or memory ran out after one
abbrev pub StopsIn : WriteFault → Output → Output → List ℕ → Type 0
StopsIn Device old new text = Failed old new text
StopsIn OutOfMemory old new text = (rest : List ℕ) × SentTo old new text rest
