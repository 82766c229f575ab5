-- The words of a command line, with those about inputs and nets by name set apart.
use Rattle.std.specs.Prelude.{◌≡◌, List, [], ◌∷◌, Bool, true, false, not, ◌==◌, ◌&&◌, ◌||◌, map}
use Rattle.td_inputs.specs.declared.topic.Topic.TheVariants.{At, Pin, HoldInput, Keep}
use Rattle.td_inputs.specs.Readings.{has}
use Rattle.td_inputs.specs.Scans.{Text, Taken, Scan, taken_in, scan_of, with_words}
use Rattle.td_command.specs.declared.words.Words.{Words}

-- something is said by name
abbrev pub say_by_name : List Taken → Bool
say_by_name named = has Pin named || has HoldInput named || has Keep named || has At named

-- a word that isn't empty, and begins with no `-`
abbrev pub is_command : Text → Bool
is_command [] = false
is_command (byte ∷ rest) = not (byte == 45)

-- a command's name comes first, after the program's
abbrev pub begin_with_command : List Text → Bool
begin_with_command [] = false
begin_with_command (program ∷ []) = false
begin_with_command (program ∷ command ∷ rest) = is_command command

-- Where something is said by name, and a command comes first, that is apart, and options by place
-- stand after the command. Else the words stay as they are.
abbrev pub IsParted : Bool → List Text → Scan → Words → Type 0
IsParted true all scan words =
    (map (λ word. word.now) words.plain.items ≡ with_words scan.rest scan.given) × (map taken_in words.named.items ≡ scan.taken)
IsParted false all scan words = (map (λ word. word.now) words.plain.items ≡ all) × (words.named.items ≡ [])

-- the words as they came are kept too
abbrev pub AreParted : List Text → Words → Type 0
AreParted all words =
    (map (λ word. word.now) words.all.items ≡ all) × IsParted (say_by_name (scan_of all).taken && begin_with_command all) all (scan_of all) words
