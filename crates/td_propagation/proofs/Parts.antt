-- Parts: clauses whose literals stand one after another, and one clause more.
use Rattle.std.proofs.Common.{◌≡◌, ℕ, zero, suc, ◌+◌, ◌-◌, ◌<◌, ◌≤◌, List, [], ◌∷◌, ◌++◌, length, get_or, take, drop, map, Some, refl, sym, ◌∙◌, ap, subst, arith}
use Rattle.std.specs.Prelude.{slice_get, slice_range}
use Rattle.std.proofs.lemmas.List.{take-append-le}
use Rattle.td_propagation.specs.declared.literal.Literal.{Literal}
use Rattle.td_propagation.specs.Literals.{literal_at}
use Rattle.td_propagation.specs.Arenas.{parted, AreEnds, start_at}

pub parted_length : (literals : List Literal) (start : ℕ) (ends : List ℕ) → length (parted literals start ends) ≡ length ends
parted_length literals start [] = refl
parted_length literals start (end ∷ ends) = ap suc (parted_length literals end ends)

-- the ends are within the literals
pub ends_within : (start : ℕ) (ends : List ℕ) (total : ℕ) → AreEnds start ends total → start ≤ total
ends_within start [] total is = omega arith
ends_within start (end ∷ ends) total is = let rest = ends_within end ends total is.1 in let first = is.0 in omega arith

pub start_within : (start : ℕ) (ends : List ℕ) (total number d : ℕ) → AreEnds start ends total → number < length ends
    → (start_at start ends number ≤ get_or ends number d) × (get_or ends number d ≤ total)
start_within start [] total number d is low = absurd (omega arith)
start_within start (end ∷ ends) total zero d is low = (is.0, ends_within end ends total is.1)
start_within start (end ∷ ends) total (suc number) d is low = start_within end ends total number d is.1 (let l : number < length ends = omega arith in l)

pub part_at : (literals : List Literal) (start : ℕ) (ends : List ℕ) (number d : ℕ) → number < length ends
    → slice_get (parted literals start ends) number ≡ Some (slice_range literals (start_at start ends number) (get_or ends number d))
part_at literals start [] number d low = absurd (omega arith)
part_at literals start (end ∷ ends) zero d low = refl
part_at literals start (end ∷ ends) (suc number) d low = part_at literals end ends number d (let l : number < length ends = omega arith in l)

-- the end of a clause is where the next one begins
pub start_is_end : (start : ℕ) (ends : List ℕ) (number : ℕ) → number < length ends → start_at start ends (suc number) ≡ get_or ends number 0
start_is_end start [] number low = absurd (omega arith)
start_is_end start (end ∷ ends) zero low = begins end ends
  where
    begins : (start : ℕ) (ends : List ℕ) → start_at start ends zero ≡ start
    begins start [] = refl
    begins start (end ∷ ends) = refl
start_is_end start (end ∷ ends) (suc number) low = start_is_end end ends number (let l : number < length ends = omega arith in l)

drop_front : (n : ℕ) (front more : List Literal) → n ≤ length front → drop n (front ++ more) ≡ drop n front ++ more
drop_front zero front more low = refl
drop_front (suc n) [] more low = absurd (omega arith)
drop_front (suc n) (x ∷ front) more low = drop_front n front more (let l : n ≤ length front = omega arith in l)

drop_length : (n : ℕ) (xs : List Literal) → length (drop n xs) ≡ length xs - n
drop_length zero xs = omega arith
drop_length (suc n) [] = omega arith
drop_length (suc n) (x ∷ xs) = let rest = drop_length n xs in omega arith

-- a part of the front stays where more comes after it
range_front : (literals more : List Literal) (start end : ℕ) → start ≤ end → end ≤ length literals
    → slice_range (literals ++ more) start end ≡ slice_range literals start end
range_front literals more start end ordered within =
    ap (λ rest. take (end - start) rest) (drop_front start literals more (let l : start ≤ length literals = omega arith in l))
    ∙ take-append-le (end - start) (drop start literals) more (let l = drop_length start literals in omega arith)

take_all : (xs : List Literal) (n : ℕ) → length xs ≡ n → take n xs ≡ xs
take_all [] zero is = refl
take_all [] (suc n) is = refl
take_all (x ∷ xs) zero is = absurd (omega arith)
take_all (x ∷ xs) (suc n) is = ap (λ rest. x ∷ rest) (take_all xs n (let l : length xs ≡ n = omega arith in l))

drop_all : (xs more : List Literal) → drop (length xs) (xs ++ more) ≡ more
drop_all [] more = refl
drop_all (x ∷ xs) more = drop_all xs more

length_both : (xs ys : List Literal) → length (xs ++ ys) ≡ length xs + length ys
length_both [] ys = omega arith
length_both (x ∷ xs) ys = let rest = length_both xs ys in omega arith

-- the last part
range_end : (literals more : List Literal) → slice_range (literals ++ more) (length literals) (length (literals ++ more)) ≡ more
range_end literals more =
    ap (λ rest. take (length (literals ++ more) - length literals) rest) (drop_all literals more)
    ∙ take_all more (length (literals ++ more) - length literals) (let l = length_both literals more in omega arith)

-- one clause more
pub parted_more : (literals clause : List Literal) (start : ℕ) (ends : List ℕ) → AreEnds start ends (length literals)
    → parted (literals ++ clause) start (ends ++ length (literals ++ clause) ∷ []) ≡ parted literals start ends ++ clause ∷ []
parted_more literals clause start [] is =
    ap (λ part. part ∷ []) (ap (λ at. slice_range (literals ++ clause) at (length (literals ++ clause))) is ∙ range_end literals clause)
parted_more literals clause start (end ∷ ends) is =
    ap (λ part. part ∷ parted (literals ++ clause) end (ends ++ length (literals ++ clause) ∷ []))
    (range_front literals clause start end is.0 (ends_within end ends (length literals) is.1))
    ∙ ap (λ rest. slice_range literals start end ∷ rest) (parted_more literals clause end ends is.1)

pub ends_more : (literals clause : List Literal) (start : ℕ) (ends : List ℕ) → AreEnds start ends (length literals)
    → AreEnds start (ends ++ length (literals ++ clause) ∷ []) (length (literals ++ clause))
ends_more literals clause start [] is = (let l = length_both literals clause in let s = is in omega arith, refl)
ends_more literals clause start (end ∷ ends) is = (is.0, ends_more literals clause end ends is.1)

-- where a clause begins that isn't the first
pub start_before : (start : ℕ) (ends : List ℕ) (number : ℕ) → (number ≡ 0 → ⊥) → number ≤ length ends
    → start_at start ends number ≡ get_or ends (number - 1) 0
start_before start ends zero is low = absurd (is refl)
start_before start ends (suc number) is low =
    let back : suc number - 1 ≡ number = omega arith in
    start_is_end start ends number (let l : number < length ends = omega arith in l) ∙ ap (λ place. get_or ends place 0) (sym back)

-- what becomes of literals and ends where a clause comes after them
pub pushed : (literals literals' clause : List Literal) (ends ends' : List ℕ) (len : ℕ) → AreEnds 0 ends (length literals)
    → literals' ≡ literals ++ clause → ends' ≡ ends ++ len ∷ [] → len ≡ length literals'
    → parted literals' 0 ends' ≡ parted literals 0 ends ++ clause ∷ []
pushed literals literals' clause ends ends' len is more ended all =
    ap (λ it. parted it 0 ends') more
    ∙ (ap (λ it. parted (literals ++ clause) 0 it) (ended ∙ ap (λ n. ends ++ n ∷ []) (all ∙ ap (λ it. length it) more))
    ∙ parted_more literals clause 0 ends is)

pub pushed_ends : (literals literals' clause : List Literal) (ends ends' : List ℕ) (len : ℕ) → AreEnds 0 ends (length literals)
    → literals' ≡ literals ++ clause → ends' ≡ ends ++ len ∷ [] → len ≡ length literals' → AreEnds 0 ends' (length literals')
pushed_ends literals literals' clause ends ends' len is more ended all =
    subst (λ (it : List Literal). AreEnds 0 ends' (length it)) (sym more)
    (subst (λ (it : List ℕ). AreEnds 0 it (length (literals ++ clause))) (sym (ended ∙ ap (λ n. ends ++ n ∷ []) (all ∙ ap (λ it. length it) more)))
    (ends_more literals clause 0 ends is))

-- ---- literals as their numbers

numbers_drop : (start : ℕ) (numbers : List ℕ) → map literal_at (drop start numbers) ≡ drop start (map literal_at numbers)
numbers_drop zero numbers = refl
numbers_drop (suc start) [] = refl
numbers_drop (suc start) (number ∷ numbers) = numbers_drop start numbers

numbers_take : (count : ℕ) (numbers : List ℕ) → map literal_at (take count numbers) ≡ take count (map literal_at numbers)
numbers_take zero numbers = refl
numbers_take (suc count) [] = refl
numbers_take (suc count) (number ∷ numbers) = ap (λ rest. literal_at number ∷ rest) (numbers_take count numbers)

pub numbers_range : (numbers : List ℕ) (start end : ℕ) → map literal_at (slice_range numbers start end) ≡ slice_range (map literal_at numbers) start end
numbers_range numbers start end =
    numbers_take (end - start) (drop start numbers) ∙ ap (λ rest. take (end - start) rest) (numbers_drop start numbers)

pub numbers_length : (numbers : List ℕ) → length (map literal_at numbers) ≡ length numbers
numbers_length [] = refl
numbers_length (number ∷ numbers) = ap suc (numbers_length numbers)

pub numbers_part : (numbers : List ℕ) (ends : List ℕ) (number d : ℕ) → number < length ends
    → slice_get (parted (map literal_at numbers) 0 ends) number ≡ Some (map literal_at (slice_range numbers (start_at 0 ends number) (get_or ends number d)))
numbers_part numbers ends number d low =
    part_at (map literal_at numbers) 0 ends number d low
    ∙ ap Some (sym (numbers_range numbers (start_at 0 ends number) (get_or ends number d)))

-- what becomes of numbers and ends where the numbers of a clause come after them
module _ (numbers numbers' : List ℕ) (clause : List Literal) (ends ends' : List ℕ) (end : ℕ) (are : AreEnds 0 ends (length numbers))
    (more : map literal_at numbers' ≡ map literal_at numbers ++ clause) (ended : ends' ≡ ends ++ end ∷ []) (all : end ≡ length numbers') where
  ends_are : AreEnds 0 ends (length (map literal_at numbers))
  ends_are = subst (λ (n : ℕ). AreEnds 0 ends n) (sym (numbers_length numbers)) are

  end_is : end ≡ length (map literal_at numbers')
  end_is = all ∙ sym (numbers_length numbers')

  pub numbers_pushed : parted (map literal_at numbers') 0 ends' ≡ parted (map literal_at numbers) 0 ends ++ clause ∷ []
  numbers_pushed = pushed (map literal_at numbers) (map literal_at numbers') clause ends ends' end ends_are more ended end_is

  pub numbers_pushed_ends : AreEnds 0 ends' (length numbers')
  numbers_pushed_ends = subst (λ (n : ℕ). AreEnds 0 ends' n) (numbers_length numbers')
      (pushed_ends (map literal_at numbers) (map literal_at numbers') clause ends ends' end ends_are more ended end_is)
