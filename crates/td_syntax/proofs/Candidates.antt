-- A word that is no candidate for a reserved one is a name.
use Rattle.std.proofs.Common.{◌≡◌, ℕ, false, List, refl}
use Rattle.td_nets.specs.Candidates.{is_candidate}
use Rattle.td_nets.proofs.Candidates.{others_are_not, no_keyword}
use Rattle.td_syntax.specs.Token.{Name}
use Rattle.td_syntax.specs.Lexical.{word_of}

pub plain_name : (w : List ℕ) → is_candidate w ≡ false → word_of w ≡ Name w
plain_name w h = rw (no_keyword w h, others_are_not w h) refl
