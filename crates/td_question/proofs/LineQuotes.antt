-- The lines of a file of conditions.
use Rattle.std.proofs.Common.{◌≡◌, ◌∙◌, ◌≢◌, ℕ, ◌+◌, ◌-◌, ◌<◌, ◌≤◌, Bool, true, false, List, [], ◌∷◌, ◌++◌, length, take, drop, get_or, arith, refl, sym, ap, append_assoc}
use Rattle.std.specs.Prelude.{◌==◌, slice_range, if◌then◌else◌}
use Rattle.std.proofs.lemmas.Bool.{eq-eqb, ne_eqb}
use Rattle.std.proofs.lemmas.List.{at_drop_more, take_more, get_or-drop, length-drop}
use Rattle.td_question.specs.KeepLines.{Quote, line_quotes, quotes_from, quotes_in}

if_true : {A : Type 0} {b : Bool} (one other : A) → b ≡ true → (if b then one else other) ≡ one
if_true one other is = rw is refl

if_false : {A : Type 0} {b : Bool} (one other : A) → b ≡ false → (if b then one else other) ≡ other
if_false one other is = rw is refl

-- the lines before this place were read, and what stands before it in its line
pub record AreRead (text : List ℕ) (start at number : ℕ) (first now : List Quote) : Type 0 where
  pub said : now ++ quotes_from number (slice_range text start at) (drop at text) ≡ first ++ quotes_in text
  pub within : start ≤ at
  pub low : number ≤ at + 1

range_more : (text : List ℕ) (start at d : ℕ) → start ≤ at → at < length text → slice_range text start (at + 1) ≡ slice_range text start at ++ get_or text at d ∷ []
range_more text start at d within less =
    let next : at + 1 - start ≡ (at - start) + 1 = omega arith in
    let here : start + (at - start) ≡ at = omega arith in
    let low : at - start < length (drop start text) = omega (arith, within, less, length-drop start text) in
    ap (λ n. take n (drop start text)) next ∙ take_more (drop start text) (at - start) d low
    ∙ ap (λ (byte : ℕ). take (at - start) (drop start text) ++ byte ∷ []) (get_or-drop start text (at - start) d ∙ ap (λ n. get_or text n d) here)

module _ (text : List ℕ) (start at number : ℕ) (first now : List Quote) (read : AreRead text start at number first now) where
  next : at < length text
      → quotes_from number (slice_range text start at) (drop at text)
      ≡ (if get_or text at 0 == 10 then line_quotes number (slice_range text start at) ++ quotes_from (number + 1) [] (drop (at + 1) text)
      else quotes_from number (slice_range text start at ++ get_or text at 0 ∷ []) (drop (at + 1) text))
  next less = at_drop_more (quotes_from number (slice_range text start at)) text at 0 less

  -- a line ends here
  pub line_read : (new : List Quote) → at < length text → get_or text at 0 ≡ 10 → new ≡ now ++ line_quotes number (slice_range text start at)
      → AreRead text (at + 1) (at + 1) (number + 1) first new
  line_read new less is added = record {
    said =
        ap (λ (quotes : List Quote). quotes ++ quotes_from (number + 1) (slice_range text (at + 1) (at + 1)) (drop (at + 1) text)) added
        ∙ append_assoc now (line_quotes number (slice_range text start at)) (quotes_from (number + 1) (slice_range text (at + 1) (at + 1)) (drop (at + 1) text))
        ∙ ap (λ (front : List ℕ). now ++ (line_quotes number (slice_range text start at) ++ quotes_from (number + 1) front (drop (at + 1) text))) empty
        ∙ ap (λ (quotes : List Quote). now ++ quotes) (sym (next less ∙ if_true _ _ (eq-eqb (get_or text at 0) 10 is))) ∙ read.said;
    within = omega arith;
    low = omega (arith, read.low);
  }
    where
      empty : slice_range text (at + 1) (at + 1) ≡ []
      empty = let none : at + 1 - (at + 1) ≡ 0 = omega arith in ap (λ n. take n (drop (at + 1) text)) none

  -- it goes on
  pub byte_read : at < length text → get_or text at 0 ≢ 10 → AreRead text start (at + 1) number first now
  byte_read less is = record {
    said =
        ap (λ (front : List ℕ). now ++ quotes_from number front (drop (at + 1) text)) (range_more text start at 0 read.within less)
        ∙ ap (λ (quotes : List Quote). now ++ quotes) (sym (next less ∙ if_false _ _ (ne_eqb (get_or text at 0) 10 is))) ∙ read.said;
    within = omega (arith, read.within);
    low = omega (arith, read.low);
  }
