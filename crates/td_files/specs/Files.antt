-- What is done to files, and the texts that are written to them.
use Rattle.std.specs.Prelude.{◌≡◌, ◌⊎◌, ℕ, List, [], ◌∷◌, ◌++◌, Option, Some, None}
use Rattle.td_text.specs.Output.{Output, Sent, SentFront, one_more}
use Rattle.td_certificate.specs.declared.fault.WriteFault.{WriteFault}
use Rattle.td_certificate.specs.declared.fault.WriteFault.TheVariants as unwritten

-- A new file was begun for a name, with a writer of its own, and what has the name stayed as it
-- was. The writing ended: what the writer took is the file of this name now, in place of the one
-- that had it.
pub data FileStep : Type 0 where
  Made : (name : List ℕ) (begun : Output) → FileStep
  Ended : (name : List ℕ) (output : Output) → FileStep

-- a text, and the name of the file that it is for
pub record FileText : Type 0 where
  pub name : List ℕ
  pub text : List ℕ

-- a text for the file of a name, where one is given
abbrev pub file_for : Option (List ℕ) → List ℕ → List FileText
file_for None text = []
file_for (Some name) text = record { name = name; text = text } ∷ []

-- the file was begun, and then put whole under its name
pub record IsWritten (file : FileText) (steps : List FileStep) : Type 0 where
  pub begun : Output
  pub ended : Output
  pub sent : Sent begun ended file.text
  pub are : steps ≡ Made file.name begun ∷ Ended file.name ended ∷ []

-- these files were written, one after another
abbrev pub AreWritten : List FileText → List FileStep → Type 0
AreWritten [] steps = steps ≡ []
AreWritten (file ∷ files) steps =
    (first rest : List FileStep) × (steps ≡ first ++ rest) × IsWritten file first × AreWritten files rest

-- a writer took a beginning of a text, and it failed once where the fault is a device's failure
pub record HasBeginning (begun ended : Output) (text : List ℕ) (fault : WriteFault) : Type 0 where
  pub front : SentFront begun ended text
  pub failed : fault ≡ unwritten.Device → ended.failures ≡ one_more begun.failures

-- the file was begun, its writer took a beginning of the text and no more, and nothing was put
-- under the name
pub record IsBroken (file : FileText) (fault : WriteFault) (steps : List FileStep) : Type 0 where
  pub begun : Output
  pub ended : Output
  pub has : HasBeginning begun ended file.text fault
  pub are : steps ≡ Made file.name begun ∷ []

-- the fault is a device's only where one may fail to make or to end the file
abbrev pub MayBreak : Type 0 → WriteFault → Type 0
MayBreak breaks fault = fault ≡ unwritten.Device → breaks

-- A file was not written, and what has its name is as it was: it was not begun, or it couldn't be
-- put under its name, or its writer took a beginning of the text alone.
abbrev pub IsLeft : Type 0 → FileText → WriteFault → List FileStep → Type 0
IsLeft breaks file fault steps =
    (MayBreak breaks fault × ((steps ≡ []) ⊎ ((begun : Output) × (steps ≡ Made file.name begun ∷ [])))) ⊎ IsBroken file fault steps

-- some steps were taken, of which this holds
abbrev pub Takes : (List FileStep → Type 0) → (List FileStep → Type 0) → Type 0
Takes WereTaken Holds = (steps : List FileStep) × WereTaken steps × Holds steps
