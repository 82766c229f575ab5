-- Whether a question is the one that is asked, but for pins.
use Rattle.std.specs.Prelude.{◌≡◌, ◌≢◌, ℕ, List}
use Rattle.td_refutation.specs.Asking.{Asking}
use Rattle.td_certificate.specs.Questions.{Question, keep_by}
use Rattle.td_answer.specs.declared.difference.Difference.{Difference}
use Rattle.td_answer.specs.declared.difference.Difference.TheVariants.{Hold, Flips, Moments, Conditions}

-- the same inputs are held, bits may differ at as many inputs, inputs change at these moments, and
-- pairs keep the same conditions
pub record AsksSame (moments : List ℕ) (asking : Asking) (question : Question) : Type 0 where
  pub held : question.admit.held ≡ asking.admit.held
  pub flips : question.admit.flips ≡ asking.admit.flips
  pub at : question.moments ≡ moments
  pub keep : keep_by question.terms ≡ asking.keep

-- it isn't so of what this names
abbrev pub DiffersIn : List ℕ → Asking → Question → Difference → Type 0
DiffersIn moments asking question Hold = question.admit.held ≢ asking.admit.held
DiffersIn moments asking question Flips = question.admit.flips ≢ asking.admit.flips
DiffersIn moments asking question Moments = question.moments ≢ moments
DiffersIn moments asking question Conditions = keep_by question.terms ≢ asking.keep
