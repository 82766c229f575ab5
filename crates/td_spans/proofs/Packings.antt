-- Packings: what is laid out is found again, also where more comes behind it.
use Rattle.std.proofs.Common.{◌≡◌, ℕ, zero, suc, ◌+◌, ◌*◌, ◌<◌, ◌≤◌, List, [], ◌∷◌, ◌++◌, length, get_or, take, Some, None, refl, ap, sym, ◌∙◌, arith}
use Rattle.std.specs.Prelude.{◌/◌, ◌%◌, ◌==◌, slice_get, Result, Ok, Err, OnErr}
use Rattle.std.proofs.lemmas.List.{get_or-take}
use Rattle.std.proofs.lemmas.Option.{slice_get_past, slice_get-get_or}
use Rattle.td_spans.specs.declared.variable.Variable.{Variable}
use Rattle.td_spans.specs.declared.variable.Variable.TheVariants as variable
use Rattle.td_spans.specs.declared.variables.Layout.{Layout}
use Rattle.td_spans.specs.declared.variables.Layout.TheVariants.{First, Last, FewFlips, Flips, Rest, Span, LongRest, LongSpan}
use Rattle.td_spans.specs.Packing.{word_at, long_at, spanned, decoded, IsWithin, all_decoded, AreWithin}

-- ---- words that are put at the end

behind : (words more : List ℕ) (k : ℕ) → get_or (words ++ more) (length words + k) 0 ≡ get_or more k 0
behind [] more k = ap (λ n. get_or more n 0) (let none : 0 + k ≡ k = omega arith in none)
behind (word ∷ words) more k =
    ap (λ n. get_or (word ∷ (words ++ more)) n 0) (let next : suc (length words) + k ≡ suc (length words + k) = omega arith in next) ∙ behind words more k

module _ (words more new : List ℕ) (place : ℕ) (is : new ≡ words ++ more) (at : place ≡ length words) where
  pub word_behind : (k : ℕ) → word_at new (place + k) ≡ get_or more k 0
  word_behind k = ap (λ it. get_or it (place + k) 0) is ∙ ap (λ p. get_or (words ++ more) (p + k) 0) at ∙ behind words more k

  pub first_behind : word_at new place ≡ get_or more 0 0
  first_behind = ap (λ p. word_at new p) (let same : place ≡ place + 0 = omega arith in same) ∙ word_behind 0

halves : (low high number : ℕ) → low ≡ number % 4294967296 → high ≡ number / 4294967296 → low + 4294967296 * high ≡ number
halves low high number is over = omega (arith, is, over)

-- ---- spans

module _ (words new : List ℕ) (number : ℕ) (at : number / 2 ≡ length words) where
  pub rest_laid : (net first : ℕ) → new ≡ words ++ net ∷ first ∷ []
      → decoded new Rest number ≡ variable.Span (spanned net (number % 2 == 1) first None)
  rest_laid net first is =
      rw (first_behind words (net ∷ first ∷ []) new (number / 2) is at, word_behind words (net ∷ first ∷ []) new (number / 2) is at 1) refl

  pub span_laid : (net first last : ℕ) → new ≡ words ++ net ∷ first ∷ last ∷ []
      → decoded new Span number ≡ variable.Span (spanned net (number % 2 == 1) first (Some last))
  span_laid net first last is =
      rw (
        first_behind words (net ∷ first ∷ last ∷ []) new (number / 2) is at,
        word_behind words (net ∷ first ∷ last ∷ []) new (number / 2) is at 1,
        word_behind words (net ∷ first ∷ last ∷ []) new (number / 2) is at 2,
      ) refl

  module _ (net low high first : ℕ) (low_is : low ≡ first % 4294967296) (high_is : high ≡ first / 4294967296) where
    pub long_rest_laid : new ≡ words ++ net ∷ low ∷ high ∷ []
        → decoded new LongRest number ≡ variable.Span (spanned net (number % 2 == 1) first None)
    long_rest_laid is =
        let next : number / 2 + 1 + 1 ≡ number / 2 + 2 = omega arith in
        rw (
          next,
          first_behind words (net ∷ low ∷ high ∷ []) new (number / 2) is at,
          word_behind words (net ∷ low ∷ high ∷ []) new (number / 2) is at 1,
          word_behind words (net ∷ low ∷ high ∷ []) new (number / 2) is at 2,
          halves low high first low_is high_is,
        ) refl

    pub long_span_laid : (low' high' last : ℕ) → low' ≡ last % 4294967296 → high' ≡ last / 4294967296
        → new ≡ words ++ net ∷ low ∷ high ∷ low' ∷ high' ∷ []
        → decoded new LongSpan number ≡ variable.Span (spanned net (number % 2 == 1) first (Some last))
    long_span_laid low' high' last low_is' high_is' is =
        let next : number / 2 + 1 + 1 ≡ number / 2 + 2 = omega arith in
        let last_next : number / 2 + 3 + 1 ≡ number / 2 + 4 = omega arith in
        rw (
          next,
          last_next,
          first_behind words (net ∷ low ∷ high ∷ low' ∷ high' ∷ []) new (number / 2) is at,
          word_behind words (net ∷ low ∷ high ∷ low' ∷ high' ∷ []) new (number / 2) is at 1,
          word_behind words (net ∷ low ∷ high ∷ low' ∷ high' ∷ []) new (number / 2) is at 2,
          word_behind words (net ∷ low ∷ high ∷ low' ∷ high' ∷ []) new (number / 2) is at 3,
          word_behind words (net ∷ low ∷ high ∷ low' ∷ high' ∷ []) new (number / 2) is at 4,
          halves low high first low_is high_is,
          halves low' high' last low_is' high_is',
        ) refl

-- ---- flips

pub few_laid : (words : List ℕ) (inputs count : ℕ) → count < 65536
    → decoded words FewFlips (65536 * inputs + count) ≡ variable.Flips inputs count
few_laid words inputs count few =
    let over : (65536 * inputs + count) / 65536 ≡ inputs = omega arith in
    let rest : (65536 * inputs + count) % 65536 ≡ count = omega arith in
    rw (over, rest) refl

pub flips_laid : (words new : List ℕ) (number inputs low high count : ℕ) → number ≡ length words → low ≡ count % 4294967296 → high ≡ count / 4294967296
    → new ≡ words ++ inputs ∷ low ∷ high ∷ [] → decoded new Flips number ≡ variable.Flips inputs count
flips_laid words new number inputs low high count at low_is high_is is =
    let next : number + 1 + 1 ≡ number + 2 = omega arith in
    rw (
      next,
      first_behind words (inputs ∷ low ∷ high ∷ []) new number is at,
      word_behind words (inputs ∷ low ∷ high ∷ []) new number is at 1,
      word_behind words (inputs ∷ low ∷ high ∷ []) new number is at 2,
      halves low high count low_is high_is,
    ) refl

-- ---- more words

module _ (words new : List ℕ) (kept : take (length words) new ≡ words) where
  pub not_fewer : length words ≤ length new
  not_fewer = fewer (length words) new words kept refl
    where
      fewer : (n : ℕ) (new words : List ℕ) → take n new ≡ words → length words ≡ n → n ≤ length new
      fewer zero new words is many = omega arith
      fewer (suc n) [] words is many = absurd (let none = ap length is in omega arith)
      fewer (suc n) (word ∷ new) [] is many = absurd (omega arith)
      fewer (suc n) (word ∷ new) (other ∷ words) is many =
          let rest : take n new ≡ words = cc in
          let low = fewer n new words rest (let l : length words ≡ n = omega arith in l) in omega arith

  word_kept : (place : ℕ) → place < length words → word_at new place ≡ word_at words place
  word_kept place low = sym (get_or-take (length words) new place 0 low) ∙ ap (λ it. get_or it place 0) kept

  long_kept : (place : ℕ) → place + 1 < length words → long_at new place ≡ long_at words place
  long_kept place low = rw (word_kept place (omega arith), word_kept (place + 1) low) refl

  pub one_kept : (layout : Layout) (number : ℕ) → IsWithin (length words) layout number → decoded new layout number ≡ decoded words layout number
  one_kept First number within = refl
  one_kept Last number within = refl
  one_kept FewFlips number within = refl
  one_kept Flips number within = rw (word_kept number (omega arith), long_kept (number + 1) (omega arith)) refl
  one_kept Rest number within = rw (word_kept (number / 2) (omega arith), word_kept (number / 2 + 1) (omega arith)) refl
  one_kept Span number within =
      rw (word_kept (number / 2) (omega arith), word_kept (number / 2 + 1) (omega arith), word_kept (number / 2 + 2) (omega arith)) refl
  one_kept LongRest number within = rw (word_kept (number / 2) (omega arith), long_kept (number / 2 + 1) (omega arith)) refl
  one_kept LongSpan number within =
      rw (word_kept (number / 2) (omega arith), long_kept (number / 2 + 1) (omega arith), long_kept (number / 2 + 3) (omega arith)) refl

  within_kept : (layout : Layout) (number : ℕ) → IsWithin (length words) layout number → IsWithin (length new) layout number
  within_kept First number within = omega arith
  within_kept Last number within = omega arith
  within_kept FewFlips number within = omega arith
  within_kept Flips number within = let more = not_fewer in omega arith
  within_kept Rest number within = let more = not_fewer in omega arith
  within_kept Span number within = let more = not_fewer in omega arith
  within_kept LongRest number within = let more = not_fewer in omega arith
  within_kept LongSpan number within = let more = not_fewer in omega arith

  pub all_kept : (layouts : List Layout) (numbers : List ℕ) → AreWithin words layouts numbers → all_decoded new layouts numbers ≡ all_decoded words layouts numbers
  all_kept [] numbers within = refl
  all_kept (layout ∷ layouts) [] within = absurd within
  all_kept (layout ∷ layouts) (number ∷ numbers) within = rw (one_kept layout number within.0, all_kept layouts numbers within.1) refl

  pub are_kept : (layouts : List Layout) (numbers : List ℕ) → AreWithin words layouts numbers → AreWithin new layouts numbers
  are_kept [] [] within = omega arith
  are_kept [] (number ∷ numbers) within = absurd within
  are_kept (layout ∷ layouts) [] within = absurd within
  are_kept (layout ∷ layouts) (number ∷ numbers) within = (within_kept layout number within.0, are_kept layouts numbers within.1)

-- ---- variables

pub decoded_length : (words : List ℕ) (layouts : List Layout) (numbers : List ℕ) → AreWithin words layouts numbers
    → length (all_decoded words layouts numbers) ≡ length layouts
decoded_length words [] numbers within = refl
decoded_length words (layout ∷ layouts) [] within = absurd within
decoded_length words (layout ∷ layouts) (number ∷ numbers) within = ap suc (decoded_length words layouts numbers within.1)

pub as_many : (words : List ℕ) (layouts : List Layout) (numbers : List ℕ) → AreWithin words layouts numbers → length layouts ≡ length numbers
as_many words [] [] within = refl
as_many words [] (number ∷ numbers) within = absurd within
as_many words (layout ∷ layouts) [] within = absurd within
as_many words (layout ∷ layouts) (number ∷ numbers) within = ap suc (as_many words layouts numbers within.1)

pub found : (words : List ℕ) (layouts : List Layout) (numbers : List ℕ) (i : ℕ) (layout : Layout) (number : ℕ) → slice_get layouts i ≡ Some layout → slice_get numbers i ≡ Some number
    → slice_get (all_decoded words layouts numbers) i ≡ Some (decoded words layout number)
found words [] numbers i layout number at is = absurd (let wrong = at in cc)
found words (other ∷ layouts) [] i layout number at is = absurd (let wrong = is in cc)
found words (other ∷ layouts) (one ∷ numbers) zero layout number at is =
    let same : other ≡ layout = cc in let equal : one ≡ number = cc in rw (same, equal) refl
found words (other ∷ layouts) (one ∷ numbers) (suc i) layout number at is = found words layouts numbers i layout number at is

-- what a look-up answers
pub lookup_none : (words : List ℕ) (layouts : List Layout) (numbers : List ℕ) (i : ℕ) → AreWithin words layouts numbers → length layouts ≤ i
    → None ≡ slice_get (all_decoded words layouts numbers) i
lookup_none words layouts numbers i within past =
    sym (slice_get_past (all_decoded words layouts numbers) i (let l = decoded_length words layouts numbers within in omega arith))

pub lookup_neither : (words : List ℕ) (layouts : List Layout) (numbers : List ℕ) (i : ℕ) → AreWithin words layouts numbers → length numbers ≤ i
    → None ≡ slice_get (all_decoded words layouts numbers) i
lookup_neither words layouts numbers i within past =
    lookup_none words layouts numbers i within (let l = as_many words layouts numbers within in omega arith)

pub lookup_some : (words : List ℕ) (layouts : List Layout) (numbers : List ℕ) (i : ℕ) (layout : Layout) (number : ℕ)
    → i < length layouts → layout ≡ get_or layouts i layout → i < length numbers → number ≡ get_or numbers i number
    → Some (decoded words layout number) ≡ slice_get (all_decoded words layouts numbers) i
lookup_some words layouts numbers i layout number low at below is =
    sym (found words layouts numbers i layout number (slice_get-get_or layouts i layout low ∙ ap Some (sym at)) (slice_get-get_or numbers i number below ∙ ap Some (sym is)))

pub on_err : {T E P : Type 0} (result : Result T E) → P → OnErr result P
on_err (Ok x) holds = tt
on_err (Err e) holds = holds

one_more : (words : List ℕ) (layouts : List Layout) (numbers : List ℕ) (layout : Layout) (number : ℕ) → AreWithin words layouts numbers
    → all_decoded words (layouts ++ layout ∷ []) (numbers ++ number ∷ []) ≡ all_decoded words layouts numbers ++ decoded words layout number ∷ []
one_more words [] [] layout number within = refl
one_more words [] (other ∷ numbers) layout number within = absurd within
one_more words (other ∷ layouts) [] layout number within = absurd within
one_more words (other ∷ layouts) (one ∷ numbers) layout number within =
    ap (λ rest. decoded words other one ∷ rest) (one_more words layouts numbers layout number within.1)

one_within : (words : List ℕ) (layouts : List Layout) (numbers : List ℕ) (layout : Layout) (number : ℕ) → AreWithin words layouts numbers
    → IsWithin (length words) layout number → AreWithin words (layouts ++ layout ∷ []) (numbers ++ number ∷ [])
one_within words [] [] layout number within is = (is, omega arith)
one_within words [] (other ∷ numbers) layout number within is = absurd within
one_within words (other ∷ layouts) [] layout number within is = absurd within
one_within words (other ∷ layouts) (one ∷ numbers) layout number within is =
    (within.0, one_within words layouts numbers layout number within.1 is)

module _ (words new : List ℕ) (layouts layouts' : List Layout) (numbers numbers' : List ℕ) (layout : Layout) (number : ℕ)
    (within : AreWithin words layouts numbers) (kept : take (length words) new ≡ words) (is : IsWithin (length new) layout number)
    (more : layouts' ≡ layouts ++ layout ∷ []) (besides : numbers' ≡ numbers ++ number ∷ []) where
  pub pushed_within : AreWithin new layouts' numbers'
  pushed_within = rw (more, besides) (one_within new layouts numbers layout number (are_kept words new kept layouts numbers within) is)

  pub pushed : (variable : Variable) → decoded new layout number ≡ variable → all_decoded new layouts' numbers' ≡ all_decoded words layouts numbers ++ variable ∷ []
  pushed variable says =
      rw (
        more,
        besides,
        one_more new layouts numbers layout number (are_kept words new kept layouts numbers within),
        all_kept words new kept layouts numbers within,
        says,
      ) refl

pub first_within : (words : List ℕ) (layouts : List Layout) (numbers : List ℕ) (count : ℕ) → AreWithin words layouts numbers
    → AreWithin words (take count layouts) (take count numbers)
first_within words layouts numbers zero within = omega arith
first_within words [] [] (suc count) within = omega arith
first_within words [] (number ∷ numbers) (suc count) within = absurd within
first_within words (layout ∷ layouts) [] (suc count) within = absurd within
first_within words (layout ∷ layouts) (number ∷ numbers) (suc count) within = (within.0, first_within words layouts numbers count within.1)

pub first_decoded : (words : List ℕ) (layouts : List Layout) (numbers : List ℕ) (count : ℕ) → AreWithin words layouts numbers
    → all_decoded words (take count layouts) (take count numbers) ≡ take count (all_decoded words layouts numbers)
first_decoded words layouts numbers zero within = refl
first_decoded words [] [] (suc count) within = refl
first_decoded words [] (number ∷ numbers) (suc count) within = absurd within
first_decoded words (layout ∷ layouts) [] (suc count) within = absurd within
first_decoded words (layout ∷ layouts) (number ∷ numbers) (suc count) within =
    ap (λ rest. decoded words layout number ∷ rest) (first_decoded words layouts numbers count within.1)
