-- Steps of the loops over what is said of inputs.
use Rattle.std.proofs.Common.{◌≡◌, ◌∙◌, ℕ, nat_eq, ◌+◌, ◌<◌, ◌≤◌, ◌^◌, ◌/◌, Bool, true, false, cond, List, [], ◌∷◌, ◌++◌, Option, None, Some, length, drop, get_or, Result, Ok, Err, IfOk, IfNone, map, append_assoc, decimal, unwrap_or, zero, suc, sym, ap, subst, arith}
use Rattle.std.proofs.Math.Pow.{pow_mono}
use Rattle.std.proofs.lemmas.List.{at_drop_more}
use Rattle.std.proofs.lemmas.Nat.{shr_below}
use Rattle.td_inputs.specs.declared.labels.Label.{Label as CodeLabel}
use Rattle.td_inputs.specs.declared.value.Value.{Value}
use Rattle.td_inputs.specs.Cells.{agree, clash_from, either, named_count, next_cell, said, together}
use Rattle.td_inputs.specs.Labels.{is_named, label_in}
use Rattle.td_inputs.specs.Numbers.{digits_from, with_digit}
use Rattle.td_inputs.specs.declared.writing.Letters.{Letters}
use Rattle.td_inputs.specs.declared.writing.Letters.TheVariants.{Trits, Holds}
use Rattle.td_inputs.specs.Placings.{GivesCells}
use Rattle.td_inputs.specs.Patterns.{cell_of, letter_of, moments_at, separator}
use Rattle.td_inputs.specs.Scans.{Text, cut_from}

-- a number has no bit from its width on
pub no_bits : (number k : ℕ) → number < 2 ^ 64 → 64 ≤ k → number / 2 ^ k ≡ 0
no_bits number k small wide =
    let most : 2 ^ 64 ≤ 2 ^ k = pow_mono wide in
    let same : 0 + k ≡ k = omega arith in
    let small_enough : number < 2 ^ k = omega (arith, most) in
    let below : number / 2 ^ k < 2 ^ 0 = shr_below number 0 k (subst (λ (j : ℕ). number < 2 ^ j) (sym same) small_enough) in
    omega (arith, below)

pub clash_step : (ones others : List (Option ℕ)) (i : ℕ) (d e : Option ℕ) → i < length ones → i < length others
    → clash_from i (drop i ones) (drop i others)
    ≡ cond (agree (get_or ones i d) (get_or others i e)) (clash_from (i + 1) (drop (i + 1) ones) (drop (i + 1) others)) (Some i)
clash_step ones others i d e less fewer =
    at_drop_more (λ (xs : List (Option ℕ)). clash_from i xs (drop i others)) ones i d less
    ∙ at_drop_more (λ (ys : List (Option ℕ)). clash_from i (get_or ones i d ∷ drop (i + 1) ones) ys) others i e fewer

pub together_step : (ones others : List (Option ℕ)) (i : ℕ) (d e : Option ℕ) → i < length ones → i < length others
    → together (drop i ones) (drop i others) ≡ either (get_or ones i d) (get_or others i e) ∷ together (drop (i + 1) ones) (drop (i + 1) others)
together_step ones others i d e less fewer =
    at_drop_more (λ (xs : List (Option ℕ)). together xs (drop i others)) ones i d less
    ∙ at_drop_more (λ (ys : List (Option ℕ)). together (get_or ones i d ∷ drop (i + 1) ones) ys) others i e fewer

pub count_step : (word : Text) (labels : List CodeLabel) (i : ℕ) (d : CodeLabel) → i < length labels
    → named_count word (map label_in (drop i labels))
    ≡ cond (is_named word (label_in (get_or labels i d))) (1 + named_count word (map label_in (drop (i + 1) labels)))
    (named_count word (map label_in (drop (i + 1) labels)))
count_step word labels i d less = at_drop_more (λ (xs : List CodeLabel). named_count word (map label_in xs)) labels i d less

pub said_step : (word : Text) (value : Value) (labels : List CodeLabel) (i : ℕ) (d : CodeLabel) → i < length labels
    → said word value (map label_in (drop i labels))
    ≡ next_cell (is_named word (label_in (get_or labels i d))) value (named_count word (map label_in (drop (i + 1) labels)))
    ∷ said word value (map label_in (drop (i + 1) labels))
said_step word value labels i d less = at_drop_more (λ (xs : List CodeLabel). said word value (map label_in xs)) labels i d less

pub digits_step : (radix number : ℕ) (text : Text) (i : ℕ) → i < length text → (next : ℕ) → with_digit radix number (get_or text i 0) ≡ Some next
    → digits_from radix number (drop i text) ≡ digits_from radix next (drop (i + 1) text)
digits_step radix number text i less next is =
    at_drop_more (digits_from radix number) text i 0 less
    ∙ ap (λ (o : Option ℕ). elim o as (λ (_ : Option ℕ). Option ℕ) [ None ↦ None | Some next ↦ digits_from radix next (drop (i + 1) text) ]) is

pub digits_stop : (radix number : ℕ) (text : Text) (i : ℕ) → i < length text → with_digit radix number (get_or text i 0) ≡ None
    → digits_from radix number (drop i text) ≡ None
digits_stop radix number text i less is =
    at_drop_more (digits_from radix number) text i 0 less
    ∙ ap (λ (o : Option ℕ). elim o as (λ (_ : Option ℕ). Option ℕ) [ None ↦ None | Some next ↦ digits_from radix next (drop (i + 1) text) ]) is

pub cut_step : (mark : ℕ) (front text : Text) (i : ℕ) → i < length text
    → cut_from mark front (drop i text)
    ≡ cond (nat_eq (get_or text i 0) mark) (Some (front, drop (i + 1) text)) (cut_from mark (front ++ get_or text i 0 ∷ []) (drop (i + 1) text))
cut_step mark front text i less = at_drop_more (cut_from mark front) text i 0 less

pub moments_step : (cells : List (Option ℕ)) (i : ℕ) (d : Option ℕ) → i < length cells
    → moments_at i (drop i cells) ≡ separator i ++ decimal (unwrap_or (get_or cells i d) 0) ++ moments_at (i + 1) (drop (i + 1) cells)
moments_step cells i d less = at_drop_more (moments_at i) cells i d less

-- two texts are written after one another
pub two_written : (before first second rest all was after : Text) → before ++ rest ≡ all → rest ≡ first ++ second ++ was
    → after ≡ (before ++ first) ++ second → after ++ was ≡ all
two_written before first second rest all was after is are new = rw new (simp append_assoc (ap (λ (t : Text). before ++ t) (sym (are ∙ simp append_assoc)) ∙ is))

-- a character that says nothing is that of no cell
pub no_cell : (letters : Letters) (letter : ℕ) → cell_of letters letter ≡ None → (cell : Option ℕ) → ¬ (letter ≡ letter_of letters cell)
no_cell Trits letter none None same = let some : cell_of Trits 46 ≡ None = subst (λ (l : ℕ). cell_of Trits l ≡ None) same none in cc
no_cell Holds letter none None same = let some : cell_of Holds 46 ≡ None = subst (λ (l : ℕ). cell_of Holds l ≡ None) same none in cc
no_cell Holds letter none (Some said) same = let some : cell_of Holds 61 ≡ None = subst (λ (l : ℕ). cell_of Holds l ≡ None) same none in cc
no_cell Trits letter none (Some said) same = go (nat_eq said 0) same
  where
    go : (is : Bool) → letter ≡ cond is 48 49 → ⊥
    go true same = let some : cell_of Trits 48 ≡ None = subst (λ (l : ℕ). cell_of Trits l ≡ None) same none in cc
    go false same = let some : cell_of Trits 49 ≡ None = subst (λ (l : ℕ). cell_of Trits l ≡ None) same none in cc

-- a text with a character that is that of no cell spells none
pub not_spelled : (letters : Letters) (word : Text) (i : ℕ) → i < length word → ((cell : Option ℕ) → ¬ (get_or word i 0 ≡ letter_of letters cell))
    → (cells : List (Option ℕ)) → ¬ (word ≡ map (letter_of letters) cells)
not_spelled letters [] i within none cells same = omega arith
not_spelled letters (c ∷ word) i within none [] same = (let long : length (c ∷ word) ≡ 0 = ap length same in omega arith)
not_spelled letters (c ∷ word) zero within none (cell ∷ cells) same = none cell (ap (λ w. get_or w 0 0) same)
not_spelled letters (c ∷ word) (suc i) within none (cell ∷ cells) same =
    not_spelled letters word i (omega arith) none cells (ap tail same)
  where
    tail : List ℕ → List ℕ
    tail [] = []
    tail (x ∷ xs) = xs

-- a word that spells no cells gives none
pub not_given : (letters : Letters) (count : ℕ) (word : Text) → 0 < count → ((cells : List (Option ℕ)) → ¬ (word ≡ map (letter_of letters) cells))
    → (cells : List (Option ℕ)) → ¬ GivesCells letters count (Some word) cells
not_given letters count word some none [] has = (let none_left : 0 ≡ count = has.0 in omega arith)
not_given letters count word some none (cell ∷ rest) has = none (cell ∷ rest) has.1

pub if_none : {A E : Type 0} (P Q : Type 0) → (P → Q) → (r : Result (Option A) E) → IfOk r (λ found. IfNone found P) → IfOk r (λ found. IfNone found Q)
if_none P Q f (Ok None) h = f h
if_none P Q f (Ok (Some x)) h = tt
if_none P Q f (Err e) h = tt
