-- The loops of the reader, against reading as a function.
use Rattle.std.proofs.Common.{◌≡◌, ◌≢◌, ℕ, suc, ◌+◌, ◌-◌, ◌<◌, ◌≤◌, Bool, cond, eqb, List, [], ◌∷◌, ◌++◌, length, drop, get_or, Option, Ok, Err, refl, sym, ap, ◌∙◌, append_assoc, add-one, arith}
use Rattle.std.specs.Prelude.{◌&&◌, ◌==◌}
use Rattle.std.proofs.lemmas.List.{append-nil, nil_from_length, length-drop}
use Rattle.std.proofs.Math.Seq.{drop-cons}
use Rattle.std.proofs.lemmas.Bool.{ne_eqb, eq-eqb}
use Rattle.td_certificate.specs.declared.fields.Reason.TheVariants.{Syntax}
use Rattle.td_certificate.specs.declared.fields.Stop as code_stop
use Rattle.td_certificate.specs.declared.fields.Stop.TheVariants as code
use Rattle.td_certificate.specs.Reading.{Ends, Wrong, Reading, ◌>>=◌, Fails, byte_at, literal, char_at, chars_at, moment_at, moments_at}

-- what is read after a list that was read, with this list in front
abbrev pub with_front : {A : Type 0} → List A → Reading (List A) → Reading (List A)
with_front front read = read >>= λ x. Ok (front ++ x.0, x.1)

-- one more element moves to the front
pub with_front-push : {A : Type 0} (front : List A) (x : A) (read : Reading (List A)) → with_front front (read >>= λ y. Ok (x ∷ y.0, y.1)) ≡ with_front (front ++ x ∷ []) read
with_front-push {A} front x (Ok y) = ap (λ (l : List A). Ok (l, y.1)) (sym (append_assoc front (x ∷ []) y.0))
with_front-push front x (Err stop) = refl

-- ---- the first byte

abbrev pub done : {A : Type 0} → A × List ℕ → Reading A
done x = Ok x

pub done_is : {A : Type 0} (x y : A × List ℕ) → done x ≡ done y → x ≡ y
done_is x y e = cc

pub byte_is : (bytes : List ℕ) (x : ℕ × List ℕ) → byte_at bytes ≡ Ok x → bytes ≡ x.0 ∷ x.1
byte_is [] x e = absurd cc
byte_is (b ∷ rest) x e = ap (λ (y : ℕ × List ℕ). y.0 ∷ y.1) (done_is (b, rest) x e)

-- what ends where the bytes end stops where the first byte can't be taken
pub no_byte : {A : Type 0} (stop : code_stop.Stop) (bytes : List ℕ) (read : Reading A) → Fails stop (byte_at bytes) → (bytes ≡ [] → read ≡ Err Ends) → Fails stop read
no_byte code.OutOfMemory bytes read e f = tt
no_byte code.Ends [] read e f = f refl
no_byte code.Ends (b ∷ rest) read e f = absurd cc
no_byte (code.Wrong reason at) [] read e f = absurd cc
no_byte (code.Wrong reason at) (b ∷ rest) read e f = absurd cc

-- ---- a literal

literal_ends : (word : List ℕ) (i : ℕ) (rest : List ℕ) → i < length word → rest ≡ [] → literal (drop i word) rest ≡ Err Ends
unfolding literal
literal_ends word i rest lt e = rw (drop-cons word i 0, e) refl

literal_at : (c b : ℕ) (cs rest : List ℕ) → literal (c ∷ cs) (b ∷ rest) ≡ cond (eqb b c) (literal cs rest) (Err (Wrong Syntax (b ∷ rest)))
unfolding literal
literal_at c b cs rest = refl

literal_same : (word : List ℕ) (i : ℕ) (x : ℕ × List ℕ) (rest : List ℕ) → i < length word → byte_at rest ≡ Ok x
    → literal (drop i word) rest ≡ cond (eqb x.0 (get_or word i 0)) (literal (drop (i + 1) word) x.1) (Err (Wrong Syntax rest))
literal_same word i x rest lt e =
    rw (add-one, drop-cons word i 0, byte_is rest x e) (literal_at (get_or word i 0) x.0 (drop (suc i) word) x.1)

pub literal_stops : (stop : code_stop.Stop) (word : List ℕ) (i : ℕ) (rest : List ℕ) (total : Reading (Unit {0})) → i < length word
    → Fails stop (byte_at rest) → literal (drop i word) rest ≡ total → Fails stop total
literal_stops stop word i rest total lt e so_far = no_byte stop rest total e (λ none. sym so_far ∙ literal_ends word i rest lt none)

pub literal_differs : (word : List ℕ) (i : ℕ) (x : ℕ × List ℕ) (rest : List ℕ) (total : Reading (Unit {0})) → i < length word → byte_at rest ≡ Ok x
    → x.0 ≢ get_or word i 0 → literal (drop i word) rest ≡ total → total ≡ Err (Wrong Syntax rest)
literal_differs word i x rest total lt e ne so_far = sym so_far ∙ literal_same word i x rest lt e ∙ rw (ne_eqb x.0 (get_or word i 0) ne) refl

pub literal_goes_on : (word : List ℕ) (i : ℕ) (x : ℕ × List ℕ) (rest : List ℕ) (total : Reading (Unit {0})) → i < length word → byte_at rest ≡ Ok x
    → x.0 ≡ get_or word i 0 → literal (drop i word) rest ≡ total → literal (drop (i + 1) word) x.1 ≡ total
literal_goes_on word i x rest total lt e is so_far = sym (literal_same word i x rest lt e ∙ rw (eq-eqb x.0 (get_or word i 0) is) refl) ∙ so_far

pub literal_done : (word : List ℕ) (i : ℕ) (rest : List ℕ) (total : Reading (Unit {0})) → length word ≤ i → literal (drop i word) rest ≡ total → total ≡ Ok (tt, rest)
unfolding literal
literal_done word i rest total le so_far =
    let none : drop i word ≡ [] = nil_from_length (drop i word) (omega (arith, length-drop i word)) in
    sym so_far ∙ ap (λ (w : List ℕ). literal w rest) none

-- ---- characters

chars_first : {A : Type 0} (value : ℕ → Option A) (count i : ℕ) (rest : List ℕ) → i < count
    → chars_at value (count - i) rest ≡ (char_at value rest >>= λ x. chars_at value (count - (i + 1)) x.1 >>= λ others. Ok (x.0 ∷ others.0, others.1))
unfolding chars_at
chars_first {A} value count i rest lt =
    let k : count - i ≡ suc (count - (i + 1)) = omega arith in
    ap (λ (n : ℕ). chars_at value n rest) k

-- a reading that stops, after others that were read
front_stops : {A B : Type 0} (stop : code_stop.Stop) (front : List B) (read : Reading A) (next : A × List ℕ → Reading (List B)) (whole total : Reading (List B))
    → Fails stop read → whole ≡ (read >>= next) → with_front front whole ≡ total → Fails stop total
front_stops code.OutOfMemory front read next whole total e is so_far = tt
front_stops {A} code.Ends front read next whole total e is so_far = sym so_far ∙ ap (with_front front) (is ∙ ap (λ (r : Reading A). r >>= next) e)
front_stops {A} (code.Wrong reason at) front read next whole total e is so_far = sym so_far ∙ ap (with_front front) (is ∙ ap (λ (r : Reading A). r >>= next) e)

pub chars_stop : {A : Type 0} (stop : code_stop.Stop) (value : ℕ → Option A) (front : List A) (count i : ℕ) (rest : List ℕ) (total : Reading (List A)) → i < count
    → Fails stop (char_at value rest) → with_front front (chars_at value (count - i) rest) ≡ total → Fails stop total
chars_stop stop value front count i rest total lt e so_far =
    front_stops stop front (char_at value rest) (λ x. chars_at value (count - (i + 1)) x.1 >>= λ others. Ok (x.0 ∷ others.0, others.1))
    (chars_at value (count - i) rest) total e (chars_first value count i rest lt) so_far

pub chars_go_on : {A : Type 0} (value : ℕ → Option A) (front : List A) (count i : ℕ) (x : A × List ℕ) (rest : List ℕ) (total : Reading (List A)) → i < count → char_at value rest ≡ Ok x
    → with_front front (chars_at value (count - i) rest) ≡ total → with_front (front ++ x.0 ∷ []) (chars_at value (count - (i + 1)) x.1) ≡ total
chars_go_on {A} value front count i x rest total lt e so_far =
    let one : chars_at value (count - i) rest ≡ (chars_at value (count - (i + 1)) x.1 >>= λ others. Ok (x.0 ∷ others.0, others.1)) =
    chars_first value count i rest lt ∙ ap (λ (r : Reading A). r >>= λ y. chars_at value (count - (i + 1)) y.1 >>= λ others. Ok (y.0 ∷ others.0, others.1)) e in
    sym (ap (with_front front) one ∙ with_front-push front x.0 (chars_at value (count - (i + 1)) x.1)) ∙ so_far

pub chars_done : {A : Type 0} (value : ℕ → Option A) (front : List A) (count i : ℕ) (rest : List ℕ) (total : Reading (List A)) → count ≤ i
    → with_front front (chars_at value (count - i) rest) ≡ total → total ≡ Ok (front, rest)
unfolding chars_at
chars_done {A} value front count i rest total le so_far =
    let k : count - i ≡ 0 = omega arith in
    sym so_far ∙ ap (λ (n : ℕ). with_front front (chars_at value n rest)) k ∙ ap (λ (xs : List A). Ok (xs, rest)) (append-nil front)

-- ---- moments

abbrev behind_moment : Bool → ℕ → ℕ × List ℕ → Reading (List ℕ)
behind_moment at_once others x = moments_at (at_once && x.0 == 0) others x.1 >>= λ later. Ok (x.0 ∷ later.0, later.1)

moments_first : (at_once : Bool) (count i : ℕ) (rest : List ℕ) → i < count
    → moments_at at_once (count - i) rest ≡ (moment_at at_once (count - i - 1) rest >>= behind_moment at_once (count - i - 1))
unfolding moments_at
moments_first at_once count i rest lt =
    let k : count - i ≡ suc (count - i - 1) = omega arith in
    ap (λ (n : ℕ). moments_at at_once n rest) k

pub moments_stop : (stop : code_stop.Stop) (at_once : Bool) (front : List ℕ) (count i : ℕ) (rest : List ℕ) (total : Reading (List ℕ)) → i < count
    → Fails stop (moment_at at_once (count - i - 1) rest) → with_front front (moments_at at_once (count - i) rest) ≡ total → Fails stop total
moments_stop stop at_once front count i rest total lt e so_far =
    front_stops stop front (moment_at at_once (count - i - 1) rest) (behind_moment at_once (count - i - 1))
    (moments_at at_once (count - i) rest) total e (moments_first at_once count i rest lt) so_far

pub moments_go_on : (at_once now : Bool) (front : List ℕ) (count i : ℕ) (x : ℕ × List ℕ) (rest : List ℕ) (total : Reading (List ℕ)) → i < count
    → moment_at at_once (count - i - 1) rest ≡ Ok x → now ≡ (at_once && x.0 == 0)
    → with_front front (moments_at at_once (count - i) rest) ≡ total → with_front (front ++ x.0 ∷ []) (moments_at now (count - (i + 1)) x.1) ≡ total
moments_go_on at_once now front count i x rest total lt e is so_far =
    let one : moments_at at_once (count - i) rest ≡ behind_moment at_once (count - i - 1) x =
    moments_first at_once count i rest lt ∙ ap (λ (r : Reading ℕ). r >>= behind_moment at_once (count - i - 1)) e in
    let left : count - (i + 1) ≡ count - i - 1 = omega arith in
    ap (λ (b : Bool). with_front (front ++ x.0 ∷ []) (moments_at b (count - (i + 1)) x.1)) is
    ∙ ap (λ (n : ℕ). with_front (front ++ x.0 ∷ []) (moments_at (at_once && x.0 == 0) n x.1)) left
    ∙ sym (ap (with_front front) one ∙ with_front-push front x.0 (moments_at (at_once && x.0 == 0) (count - i - 1) x.1)) ∙ so_far

pub moments_done : (at_once : Bool) (front : List ℕ) (count i : ℕ) (rest : List ℕ) (total : Reading (List ℕ)) → count ≤ i
    → with_front front (moments_at at_once (count - i) rest) ≡ total → total ≡ Ok (front, rest)
unfolding moments_at
moments_done at_once front count i rest total le so_far =
    let k : count - i ≡ 0 = omega arith in
    sym so_far ∙ ap (λ (n : ℕ). with_front front (moments_at at_once n rest)) k ∙ ap (λ (xs : List ℕ). Ok (xs, rest)) (append-nil front)
