-- How the program ends, by its words.
use Rattle.std.specs.Prelude.{◌≡◌, ◌≢◌, ◌⊎◌, ℕ, List, false}
use Rattle.clap.specs.declared.error.kind.ErrorKind.{ErrorKind}
use Rattle.clap.specs.declared.error.kind.ErrorKind.TheVariants as kind
use Rattle.td_text.specs.Output.{Output, Sent, SentFront}
use Rattle.td_files.specs.Disks.{Disk}
use Rattle.td_files.specs.declared.disk.ReadFault.{ReadFault}
use Rattle.td_files.specs.declared.disk.ReadFault.TheVariants as read
use Rattle.td_command.specs.declared.words.Words.{Words}
use Rattle.td_command.specs.Parting.{AreParted}
use Rattle.td_command.specs.Saying.{AskFor, take_names}
use Rattle.td_command.specs.Faults.{IsShown, IsReported}
use Rattle.td_request.specs.declared.request.Request.{Request}
use Rattle.td_answer.specs.declared.status.Status.{Status}
use Rattle.td_answer.specs.declared.status.Status.TheVariants as status
use Rattle.td_cli.specs.Carrying.{Carries}

-- how the program ends where the words of its command line can't be read
abbrev pub words_status : ReadFault → Status
words_status read.OutOfMemory = status.Device
words_status read.Device = status.BadCommand

-- the words ask for this request, and it was carried out
pub record CarriesAsked (disk : Disk) (words : Words) (ending : Status) (old new : Output) : Type 0 where
  pub request : Request
  pub asked : AskFor words request
  pub carries : Carries disk request ending old new

-- a beginning of a text of this kind went out, or all of it: help, or the version
pub record ShowsText (reported : ErrorKind) (ending : Status) (old new : Output) : Type 0 where
  pub kind_is : IsShown reported
  pub text : List ℕ
  pub shown : SentFront old new text
  pub whole : (ending ≡ status.Device) ⊎ ((ending ≡ status.Done) × Sent old new text)

-- nothing went out: this is told on standard error, or memory ran out
pub record TellsFault (reported : ErrorKind) (ending : Status) (old new : Output) : Type 0 where
  pub silent : new ≡ old
  pub why : (ending ≡ status.Device) ⊎ ((ending ≡ status.BadCommand) × (reported ≢ kind.OutOfMemory) × ¬ IsShown reported)

-- the words ask for help or the version, and that went out
abbrev pub Shows : Words → Status → Output → Output → Type 0
Shows words ending old new = (reported : ErrorKind) × IsReported words reported × ShowsText reported ending old new

-- the parser reports a fault of the words, or they say something of inputs by name that their
-- command doesn't take
abbrev pub AreBad : Words → Type 0
AreBad words = ((reported : ErrorKind) × IsReported words reported × ¬ IsShown reported) ⊎ (take_names words ≡ false)

-- nothing went out: the words are bad, or memory ran out
pub record Refuses (words : Words) (ending : Status) (old new : Output) : Type 0 where
  pub silent : new ≡ old
  pub why : (ending ≡ status.Device) ⊎ ((ending ≡ status.BadCommand) × AreBad words)

-- how the program ends by these words
abbrev pub EndsBy : Disk → Words → Status → Output → Output → Type 0
EndsBy disk words ending old new = CarriesAsked disk words ending old new ⊎ (Shows words ending old new ⊎ Refuses words ending old new)

-- What the program does: it carries out what the words ask for, shows help, or says on standard
-- error what is wrong with them; or memory ran out before they were read.
abbrev pub Ends : Disk → List (List ℕ) → Status → Output → Output → Type 0
Ends disk all ending old new =
    ((words : Words) × AreParted all words × EndsBy disk words ending old new) ⊎ ((ending ≡ status.Device) × (new ≡ old))
