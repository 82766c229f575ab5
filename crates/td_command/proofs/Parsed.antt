-- What the parser reports, whatever stands for the program in memory.
use Rattle.std.proofs.Common.{◌≡◌, ◌∙◌, ap, refl, subst, sym, true, List, [], Option}
use Rattle.clap.specs.Words.{App, HasKind, Kinds, Row, Text, fault_of, is_simple, is_simple_and_free, subcommand_of}
use Rattle.clap.specs.declared.error.Error.{Error}
use Rattle.td_command.specs.CommandLine.{IsOfStrategies, kinds_of, program, program_of}
use Rattle.td_command.proofs.Whereabouts.{commands_same, faults_same}

module _ (app : App) (is : IsOfStrategies program_of app) where
  is_simple_app : is_simple app ≡ true
  is_simple_app = ap is_simple is.is ∙ refl

  pub is_free : is_simple_and_free app ≡ true
  is_free = ap is_simple_and_free is.is ∙ refl

  pub same_faults : (words : List Text) → fault_of app words ≡ kinds_of words
  same_faults words = ap (λ (app : App). fault_of app words) is.is ∙ faults_same is.strategies is.named words

  pub same_commands : (words : List Text) → subcommand_of app words ≡ subcommand_of program words
  same_commands words = ap (λ (app : App). subcommand_of app words) is.is ∙ commands_same is.strategies is.named words

  -- what is reported of words
  pub has_kind : (words : List Text) (error : Error) → (is_simple_and_free app ≡ true → HasKind (fault_of app words) error)
      → HasKind (kinds_of words) error
  has_kind words error has = subst (λ (kinds : Kinds). HasKind kinds error) (same_faults words) (has is_free)

  -- words of which nothing is
  pub are_taken : (words : List Text) → (is_simple_and_free app ≡ true → fault_of app words ≡ []) → kinds_of words ≡ []
  are_taken words none = sym (same_faults words) ∙ none is_free

  -- the command that was entered
  pub is_entered : (words : List Text) (entered : Option (Text × List Row)) → (is_simple app ≡ true → entered ≡ subcommand_of app words)
      → entered ≡ subcommand_of program words
  is_entered words entered found = found is_simple_app ∙ same_commands words
