-- What words say.
use Rattle.std.proofs.Common.{◌≡◌, ◌∙◌, sym, List, ℕ, Option, Some, None}
use Rattle.std.specs.Prelude.{option_map}
use Rattle.std.specs.Borrow.{Bor}
use Rattle.clap.specs.Words.{Text, rows_of, first_value}
use Rattle.clap.specs.declared.parser.matches.Found.{Found}
use Rattle.clap.proofs.WalkLemmas.{first_value-rows}
use Rattle.td_command.specs.CommandLine.{IsAnswered, IsGiven}

pub given : (found : Found) (id : Text) (got : Option (Bor (List ℕ))) → option_map (λ word. word.now) got ≡ first_value found id
    → IsAnswered (IsGiven id (rows_of found)) got
given found id None is = λ word has.
    let no : None ≡ Some word.now = is ∙ first_value-rows found id ∙ has in cc
given found id (Some word) is = sym (is ∙ first_value-rows found id)
