-- Reading conditions.
use Rattle.std.specs.Prelude.{ℕ, Bool, true, false, List, [], ◌∷◌, codes, Ok, Err, ◌==◌, if◌then◌else◌}
use Rattle.td_gates.specs.declared.primitives.Level.{Level}
use Rattle.td_gates.specs.declared.primitives.Level.TheVariants.{Zero, One, X}
use Rattle.td_spans.specs.declared.condition.Form.{Form}
use Rattle.td_spans.specs.declared.condition.Form.TheVariants.{Levels, Equal}
use Rattle.td_refutation.specs.declared.conditions.NamedCondition.{NamedCondition}
use Rattle.td_certificate.specs.declared.conditions.Sign.{Sign}
use Rattle.td_certificate.specs.declared.conditions.Sign.TheVariants as sign
use Rattle.td_certificate.specs.Steps.{greatest}
use Rattle.td_certificate.specs.Text.{level_byte}
use Rattle.td_certificate.specs.Fields.{Ends, Reading, ◌>>=◌, written_as, char_at}
use Rattle.td_certificate.specs.StepReading.{closing_byte, until_at}
unfoldable use Rattle.td_certificate.specs.Fields.{literal, number_at}

-- a condition's form begins with a level, or with the first of two equal signs
abbrev pub sign_byte : Sign → ℕ
sign_byte (sign.Level asked) = level_byte asked
sign_byte sign.Equal = 61

abbrev pub signs : List Sign
signs = sign.Level Zero ∷ sign.Level One ∷ sign.Level X ∷ sign.Equal ∷ []

-- the second level of a condition: not both are free
abbrev pub second_levels : Level → List Level
second_levels X = Zero ∷ One ∷ []
second_levels asked = Zero ∷ One ∷ X ∷ []

unfoldable pub behind_sign : Sign → List ℕ → Reading Form
behind_sign (sign.Level first) bytes = do
  second ← char_at (λ b. written_as level_byte (second_levels first) b) bytes
  Ok (Levels first second.0, second.1)
behind_sign sign.Equal bytes = do
  word ← literal (codes "=") bytes
  Ok (Equal, word.1)

-- the form of a condition
unfoldable pub form_at : List ℕ → Reading Form
form_at bytes = do
  begins ← char_at (λ b. written_as sign_byte signs b) bytes
  behind_sign begins.0 begins.1

abbrev pub condition_by : ℕ → Form → NamedCondition
condition_by net form = record { net = net; form = form }

-- a condition and the byte that closes it, and whether that is the newline
unfoldable pub condition_at : List ℕ → Reading (NamedCondition × Bool)
condition_at bytes = do
  net ← number_at greatest 32 bytes
  form ← form_at net.1
  close ← char_at (λ b. written_as closing_byte (true ∷ false ∷ []) b) form.1
  Ok ((condition_by net.0 form.0, close.0), close.1)

-- at least one condition
unfoldable pub conditions_at : List ℕ → Reading (List NamedCondition)
conditions_at bytes = until_at (λ x. x.1) (λ x. x.0 ∷ []) (λ x others. x.0 ∷ others) condition_at bytes

-- conditions, or none
unfoldable pub kept_at : List ℕ → Reading (List NamedCondition)
kept_at [] = Err Ends
kept_at (b ∷ rest) = if b == 110 then (literal (codes "none\n") (b ∷ rest) >>= λ word. Ok ([], word.1)) else conditions_at (b ∷ rest)
