-- Lists of words, as they are lent.
use Rattle.std.proofs.Common.{◌<◌, ◌≤◌, ℕ, List, length, take, get_or, Option, Some, None, sym, subst}
use Rattle.std.specs.Prelude.{map, All, Contains, IfNone}
use Rattle.std.specs.Borrow.{Bor}
use Rattle.std.proofs.lemmas.List.{take_all, get_or-map, length-map}
use Rattle.std.proofs.lemmas.List.Elements.{Contains-get_or, All-map}

-- the text of a borrowed word
abbrev pub now_of : Bor (List ℕ) → List ℕ
now_of word = word.now

pub contains_word : (words : List (Bor (List ℕ))) (i : ℕ) (d : Bor (List ℕ)) → i < length words → Contains (map now_of words) (get_or words i d).now
contains_word words i d less =
    let here = Contains-get_or (map now_of words) i d.now (subst (λ count. i < count) (sym (length-map words now_of)) less) in
    subst (λ (name : List ℕ). Contains (map now_of words) name) (get_or-map now_of words i d d.now less) here

-- no file that is read is written over
pub all_kept : (P : List ℕ → Type 0) (words : List (Bor (List ℕ))) (i : ℕ) → length words ≤ i → All (λ (word : Bor (List ℕ)). P word.now) (take i words)
    → All P (map now_of words)
all_kept P words i past all =
    All-map P now_of words (subst (λ (front : List (Bor (List ℕ))). All (λ (word : Bor (List ℕ)). P word.now) front) (take_all i words past) all)

-- one of those that are read is written over
pub one_over : (P : List ℕ → Type 0) (words : List (Bor (List ℕ))) (i : ℕ) (d : Bor (List ℕ)) → i < length words → P (get_or words i d).now
    → (name : List ℕ) × Contains (map now_of words) name × P name
one_over P words i d less holds = ((get_or words i d).now, contains_word words i d less, holds)

-- where there is no value, and this follows
pub none_with : {X A B : Type 0} (r : Option X) → (A → B) → IfNone r A → IfNone r B
none_with (Some x) follows none = tt
none_with None follows none = follows none
