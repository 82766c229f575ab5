-- Where the values of options come from, and all the words of one, by the rows of a command's
-- matches.
use Rattle.std.proofs.Common.{◌≡◌, ◌∙◌, Bool, true, false, cond, List, [], ◌∷◌, ◌++◌, map, Option, Some, None, refl, ap}
use Rattle.std.specs.Prelude.{find, option_map, option_and_then}
use Rattle.std.specs.Option.{option_map_or}
use Rattle.std.specs.Str.{bytes_eq}
use Rattle.std.specs.Borrow.{Bor}
use Rattle.clap.specs.Facts.{Entry}
use Rattle.clap.specs.Matches.{matched_of}
use Rattle.clap.specs.Walk.{Row, Text, all_of, row_of, rows_of}
use Rattle.clap.specs.declared.parser.matches.Found.{Found}
use Rattle.td_command.specs.CommandLine.{source_in, words_of}

-- the source of the first entry of an id is that of its row
entry_source : (entries : List Entry) (id : Text)
    → option_and_then (λ a. a.source) (option_map (λ (e : Entry). e.1) (find (λ (e : Entry). bytes_eq e.0.now id) entries)) ≡ source_in id (map row_of entries)
entry_source [] id = refl
entry_source (entry ∷ entries) id = go (bytes_eq entry.0.now id) (entry_source entries id)
  where
    go : (is : Bool)
        → option_and_then (λ a. a.source) (option_map (λ (e : Entry). e.1) (find (λ (e : Entry). bytes_eq e.0.now id) entries)) ≡ source_in id (map row_of entries)
        → option_and_then (λ a. a.source) (option_map (λ (e : Entry). e.1) (cond is (Some entry) (find (λ (e : Entry). bytes_eq e.0.now id) entries)))
        ≡ option_and_then (λ (row : Row). row.source) (cond is (Some (row_of entry)) (find (λ (row : Row). bytes_eq row.id id) (map row_of entries)))
    go true behind = refl
    go false behind = behind

pub source_is : (found : Found) (id : Text) → option_and_then (λ a. a.source) (matched_of found id) ≡ source_in id (rows_of found)
source_is found id = entry_source found.entries.items id

-- the words of an option, copied to a list that had none
pub words_are : (id : Text) (rows : List Row) (given before made : List (Bor Text)) → Some (map (λ word. word.now) given) ≡ all_of id rows → made ≡ before ++ given
    → before ≡ [] → map (λ word. word.now) made ≡ words_of id rows
words_are id rows given before made are is none =
    ap (map (λ (word : Bor Text). word.now)) (is ∙ ap (λ (front : List (Bor Text)). front ++ given) none)
    ∙ ap (λ (o : Option (List Text)). option_map_or (λ words. words) o []) are

pub no_words_are : (id : Text) (rows : List Row) (made : List (Bor Text)) → None ≡ all_of id rows → made ≡ [] → map (λ word. word.now) made ≡ words_of id rows
no_words_are id rows made are none =
    ap (map (λ (word : Bor Text). word.now)) none ∙ ap (λ (o : Option (List Text)). option_map_or (λ words. words) o []) are
