-- What is known of texts that go to a terminal.
use Rattle.std.specs.Prelude.{◌≡◌, ℕ, ◌<◌, ◌≤◌, Bool, true, false, List, [], ◌∷◌, ◌++◌, ◌⊎◌, length, take, None}
use Rattle.td_text.specs.Output.{Output, Sent}

-- what went out, as it was given; of lines that are shown in place nobody knows it, but for the
-- count of failures
abbrev pub shown : Bool → Output → Output
shown false output = output
shown true output = record { sent = None; failures = output.failures }

-- the codes that go to the line above and clear it
abbrev pub up : List ℕ
up = 27 ∷ 91 ∷ 65 ∷ 27 ∷ 91 ∷ 50 ∷ 75 ∷ []

-- nothing went out, or the codes alone
abbrev pub GoesUp : Output → Output → Type 0
GoesUp old new = (front : List ℕ) × ((front ≡ []) ⊎ (front ≡ up)) × Sent old new front

-- the first of the bytes went out, `taken` of them, and before them nothing or the codes
pub record IsShown (old new : Output) (bytes : List ℕ) (taken : ℕ) : Type 0 where
  pub within : taken ≤ length bytes
  pub some : 0 < length bytes → 0 < taken
  pub front : List ℕ
  pub codes : (front ≡ []) ⊎ (front ≡ up)
  pub sent : Sent old new (front ++ take taken bytes)
