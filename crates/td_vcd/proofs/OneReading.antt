-- One list of lines alone spells a text, so it says one thing.
use Rattle.std.proofs.Common.{◌≡◌, ◌≢◌, ℕ, suc, List, [], ◌∷◌, ◌++◌, refl, arith, sym, ap, ◌∙◌, append_assoc}
use Rattle.std.specs.Prelude.{◌==◌, if◌then◌else◌}
use Rattle.std.specs.List.{AllByRecursion}
use Rattle.td_gates.specs.declared.primitives.Level.{Level}
use Rattle.td_gates.specs.declared.primitives.Level.TheVariants.{Zero, One, X}
use Rattle.td_vcd.specs.Text.{Line, Keyword, Number, Sets, level_character, line_text, text_of}
use Rattle.td_vcd.specs.Says.{IsOnOneLine, IsOneLine, level_by, declared}
use Rattle.td_vcd.specs.Laws.{SaysOneThing}
use Rattle.td_vcd.proofs.Codes.{code_value, code-value}
use Rattle.td_vcd.proofs.Numerals.{value_after, numeral-value}
use Rattle.td_vcd.proofs.OneLine.{numeral_fine, code_fine}

-- ---- a line

abbrev read_level : ℕ → Level
read_level character = if character == 48 then Zero else (if character == 49 then One else X)

abbrev read_line : List ℕ → Line
read_line [] = Keyword []
read_line (first ∷ later) =
    if first == 36 then Keyword later
    else (if first == 35 then Number (value_after 0 later) else Sets (code_value later) (read_level first))

line_read : (line : Line) → read_line (line_text line) ≡ line
line_read (Keyword words) = refl
line_read (Number number) = ap (λ (n : ℕ). Number n) (numeral-value number)
line_read (Sets variable Zero) = ap (λ (n : ℕ). Sets n Zero) (code-value variable)
line_read (Sets variable One) = ap (λ (n : ℕ). Sets n One) (code-value variable)
line_read (Sets variable X) = ap (λ (n : ℕ). Sets n X) (code-value variable)

same_line : (x y : Line) → line_text x ≡ line_text y → x ≡ y
same_line x y same = sym (line_read x) ∙ ap (λ (text : List ℕ). read_line text) same ∙ line_read y

level_fine : (level : Level) → level_character level ≢ 10
level_fine Zero same = omega (arith, same)
level_fine One same = omega (arith, same)
level_fine X same = omega (arith, same)

line_fine : (line : Line) → IsOneLine line → IsOnOneLine (line_text line)
line_fine (Keyword words) fine = (λ same. omega (arith, same), fine)
line_fine (Number number) fine = (λ same. omega (arith, same), numeral_fine number)
line_fine (Sets variable level) fine = (level_fine level, code_fine variable)

-- ---- the first newline

heads : (x y : ℕ) (xs ys : List ℕ) → x ∷ xs ≡ y ∷ ys → x ≡ y
heads x y xs ys same = cc

tails : (x y : ℕ) (xs ys : List ℕ) → x ∷ xs ≡ y ∷ ys → xs ≡ ys
tails x y xs ys same = cc

-- the first newline parts a text in one way
cut : (xs ys later others : List ℕ) → IsOnOneLine xs → IsOnOneLine ys → xs ++ 10 ∷ later ≡ ys ++ 10 ∷ others → (xs ≡ ys) × (later ≡ others)
cut [] [] later others p q same = (refl, tails 10 10 later others same)
cut [] (y ∷ ys) later others p q same = absurd (q.0 (sym (heads 10 y later (ys ++ 10 ∷ others) same)))
cut (x ∷ xs) [] later others p q same = absurd (p.0 (heads x 10 (xs ++ 10 ∷ later) others same))
cut (x ∷ xs) (y ∷ ys) later others p q same =
    let further : (xs ≡ ys) × (later ≡ others) = cut xs ys later others p.1 q.1 (tails x y (xs ++ 10 ∷ later) (ys ++ 10 ∷ others) same) in
    (ap (λ (z : ℕ). z ∷ xs) (heads x y (xs ++ 10 ∷ later) (ys ++ 10 ∷ others) same) ∙ ap (λ (zs : List ℕ). y ∷ zs) further.0, further.1)

-- ---- all lines

some_text : (xs later : List ℕ) → (xs ++ 10 ∷ []) ++ later ≡ [] → ⊥
some_text [] later same = cc
some_text (x ∷ xs) later same = cc

same_lines : (a b : List Line) → AllByRecursion IsOneLine a → AllByRecursion IsOneLine b → text_of a ≡ text_of b → a ≡ b
same_lines [] [] p q same = refl
same_lines [] (y ∷ b) p q same = absurd (some_text (line_text y) (text_of b) (sym same))
same_lines (x ∷ a) [] p q same = absurd (some_text (line_text x) (text_of a) same)
same_lines (x ∷ a) (y ∷ b) p q same =
    let parts : (line_text x ≡ line_text y) × (text_of a ≡ text_of b) =
    cut (line_text x) (line_text y) (text_of a) (text_of b) (line_fine x p.0) (line_fine y q.0)
    (sym (append_assoc (line_text x) (10 ∷ []) (text_of a)) ∙ same ∙ append_assoc (line_text y) (10 ∷ []) (text_of b)) in
    ap (λ (line : Line). line ∷ a) (same_line x y parts.0) ∙ ap (λ (lines : List Line). y ∷ lines) (same_lines a b p.1 q.1 parts.1)

pub one_thing : SaysOneThing
one_thing text a b first second =
    let same : first.lines ≡ second.lines = same_lines first.lines second.lines first.each second.each (sym first.parts ∙ second.parts) in (
      sym first.count ∙ ap (λ (lines : List Line). declared lines) same ∙ second.count,
      λ variable x y here there. (
        sym (first.starts variable x here Zero) ∙ ap (λ (lines : List Line). level_by variable 0 0 Zero lines) same ∙ second.starts variable y there Zero,
        λ t. sym (first.levels variable t x here Zero) ∙ ap (λ (lines : List Line). level_by variable (suc t) 0 Zero lines) same ∙ second.levels variable t y there Zero,
      ),
    )
