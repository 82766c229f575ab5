-- What a text is as a module.
use Rattle.std.specs.Prelude.{◌≡◌, ℕ, ◌+◌, ◌≤◌, List, [], ◌∷◌, length, take, drop, Some}
use Rattle.td_syntax.specs.Bytes.{newlines}
use Rattle.td_syntax.specs.Token.{Token, Name, Placed, placed_on}
use Rattle.td_syntax.specs.Pieces.{Gap, Stands, piece_in}
use Rattle.td_syntax.specs.Grammar.{Module, IsModule, module_tokens}

-- a token as the grammar names it, with the line of a name alone
abbrev pub token_on : ℕ → Token → Placed
token_on line (Name w) = placed_on line (Name w)
token_on line t = placed_on 0 t

-- The bytes, which begin on this line, have these tokens: white space and comments stand between
-- them.
pub data Lexes : ℕ → List ℕ → List Placed → Type 0 where
  end : {line : ℕ} → Lexes line [] []
  gap : {line n : ℕ} {bytes : List ℕ} {tokens : List Placed} → piece_in bytes ≡ Some (Gap n) → Lexes (line + newlines (take n bytes)) (drop n bytes) tokens → Lexes line bytes tokens
  token : {line n : ℕ} {bytes : List ℕ} {t : Token} {tokens : List Placed} → piece_in bytes ≡ Some (Stands t n) → Lexes (line + newlines (take n bytes)) (drop n bytes) tokens → Lexes line bytes (token_on line t ∷ tokens)

-- The text is within its limit, and its tokens are those of the module, in the grammar's order.
pub record Parses (text : List ℕ) (m : Module) : Type 0 where
  pub size : length text ≤ 67108864
  pub spelled : Lexes 1 text (module_tokens m)
  pub kept : IsModule m
