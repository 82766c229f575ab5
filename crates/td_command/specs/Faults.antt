-- What is reported of words that ask for nothing.
use Rattle.std.specs.Prelude.{◌≡◌, ◌⊎◌, List, false, map}
use Rattle.clap.specs.Words.{Text, HasKind, IsAmong}
use Rattle.clap.specs.declared.error.Error.{Error}
use Rattle.clap.specs.declared.error.kind.ErrorKind.{ErrorKind}
use Rattle.clap.specs.declared.error.kind.ErrorKind.TheVariants as kind
use Rattle.td_command.specs.CommandLine.{kinds_of}
use Rattle.td_command.specs.Saying.{plain_of, take_names}
use Rattle.td_command.specs.declared.words.Words.{Words}

-- the words of a command line as they came
abbrev pub all_of : Words → List Text
all_of words = map (λ word. word.now) words.all.items

-- Memory ran out, or the parser has this to report of the words without those by name; or of the
-- words as they came, where the command doesn't take what they say by name.
abbrev pub HasFault : Words → Error → Type 0
HasFault words error =
    HasKind (kinds_of (plain_of words)) error ⊎ ((take_names words ≡ false) × HasKind (kinds_of (all_of words)) error)

-- a kind of text that goes to standard output
abbrev pub IsShown : ErrorKind → Type 0
IsShown reported = (reported ≡ kind.DisplayHelp) ⊎ (reported ≡ kind.DisplayVersion)

-- The parser has a text of this kind to report of the words without those by name; or of the words
-- as they came, where the command doesn't take what they say by name.
abbrev pub IsReported : Words → ErrorKind → Type 0
IsReported words reported =
    IsAmong reported (kinds_of (plain_of words)) ⊎ ((take_names words ≡ false) × IsAmong reported (kinds_of (all_of words)))
