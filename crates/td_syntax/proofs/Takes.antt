-- What each reader takes from the tokens is what its tree is spelled by.
use Rattle.std.proofs.Common.{◌≡◌, ℕ, zero, suc, ◌+◌, ◌≤◌, Bool, true, false, cond, List, [], ◌∷◌, ◌++◌, length, map, drop, Option, None, Some, Result, Ok, Err, refl, sym, ap, subst, ◌∙◌, arith, append_assoc, length-append, inl, inr, ◌⊎◌}
use Rattle.std.specs.List.{flat_map, sum_by, AllByRecursion}
use Rattle.std.proofs.lemmas.Bool.{eqb-true}
use Rattle.std.proofs.lemmas.List.Concat.{flat_map-cons}
use Rattle.std.proofs.lemmas.List.Sums.{sum_by-cons}
use Rattle.td_syntax.specs.declared.token.Symbol.{Symbol}
use Rattle.td_syntax.specs.declared.token.Symbol.TheVariants as symbol
use Rattle.td_syntax.specs.declared.token.Stop.{Stop}
use Rattle.td_syntax.specs.Token.{Token, Name, Escaped, Reserved, Number, Constant, Mark, Attribute, Directs, Outside}
use Rattle.td_syntax.specs.Token.{Placed, placed_on}
use Rattle.td_syntax.specs.Tokens.{front_in, front_of, rest_of}
use Rattle.td_syntax.specs.Grammar as grammar
use Rattle.td_syntax.proofs.Plain.{plain}
use Rattle.td_syntax.specs.Faults.{Fault, refused, ◌>>=◌}
use Rattle.td_syntax.specs.Readers.{Remainder, next_by, read_as, read_if, code_of, is_mark, as_name, ListStep, More, Final, Done, go_on, step_of, behind, next_at, take_at, maybe_at, name_at, mark_at, maybe_mark_at, many_within, many_from, separator_at}
use Rattle.td_syntax.proofs.Lists.{left, Shortens}

-- s is the tokens of text, up to lines, and then those of rest, which counts `gates` gates more
pub record Takes (s : Remainder) (text : List Placed) (gates : ℕ) (rest : Remainder) : Type 0 where
  pub tokens : map plain s.stream.tokens ≡ text ++ map plain rest.stream.tokens
  pub stop : rest.stream.stop ≡ s.stream.stop
  pub counted : rest.gates ≡ s.gates + gates
  pub within : s.gates ≤ 200000 → rest.gates ≤ 200000

pub takes_nothing : (s : Remainder) → Takes s [] 0 s
takes_nothing s = record { tokens = refl; stop = refl; counted = omega arith; within = λ le. le }

pub takes_then : (s : Remainder) (x : List Placed) (n : ℕ) (t : Remainder) (y : List Placed) (m : ℕ) (u : Remainder) → Takes s x n t → Takes t y m u → Takes s (x ++ y) (n + m) u
takes_then s x n t y m u p q = record {
  tokens = p.tokens ∙ ap (λ (z : List Placed). x ++ z) q.tokens ∙ sym (append_assoc x y (map plain u.stream.tokens));
  stop = q.stop ∙ p.stop;
  counted = omega (arith, p.counted, q.counted);
  within = λ le. q.within (p.within le);
}

-- the same text in another grouping, and the same count
pub regrouped : (s : Remainder) (x y : List Placed) (n m : ℕ) (rest : Remainder) → x ≡ y → n ≡ m → Takes s x n rest → Takes s y m rest
regrouped s x y n m rest e f t = record { tokens = rw (← e) t.tokens; stop = t.stop; counted = rw (← f) t.counted; within = t.within }

-- a part, another, and one after it
pub then_two : (s : Remainder) (x : List Placed) (n : ℕ) (mid : Remainder) (y z : List Placed) (m : ℕ) (rest : Remainder) → Takes s x n mid → Takes mid (y ++ z) m rest → Takes s (x ++ y ++ z) (n + m) rest
then_two s x n mid y z m rest p q = regrouped s (x ++ (y ++ z)) (x ++ y ++ z) (n + m) (n + m) rest (sym (append_assoc x y z)) refl (takes_then s x n mid (y ++ z) m rest p q)

pub length_map : (ts : List Placed) → length (map plain ts) ≡ length ts
length_map [] = refl
length_map (t ∷ ts) = ap suc (length_map ts)

pub takes_length : (s : Remainder) (x : List Placed) (n : ℕ) (t : Remainder) → Takes s x n t → left s ≡ length x + left t
takes_length s x n t p = sym (length_map s.stream.tokens) ∙ ap length p.tokens ∙ length-append x (map plain t.stream.tokens) ∙ ap (λ (k : ℕ). length x + k) (length_map t.stream.tokens)

-- the value of a step that did not fail
pub bind_ok : {A B : Type 0} (r : Result A Fault) (f : A → Result B Fault) (y : B) → (r >>= f) ≡ Ok y → (x : A) × (r ≡ Ok x) × (f x ≡ Ok y)
bind_ok (Ok x) f y e = (x, refl, e)
bind_ok (Err d) f y e = absurd cc

pub chosen : {X : Type 0} (b : Bool) (x y z : X) → cond b x y ≡ z → ((b ≡ true) × (x ≡ z)) ⊎ ((b ≡ false) × (y ≡ z))
chosen true x y z e = inl (refl, e)
chosen false x y z e = inr (refl, e)

abbrev pub done : {A : Type 0} → A → Result A Fault
done x = Ok x

pub ok_is : {A : Type 0} (x y : A) → done x ≡ done y → x ≡ y
ok_is x y e = cc

pub err_is_no_ok : {A : Type 0} (f : Fault) (y : A) → done y ≡ Err f → ⊥
err_is_no_ok f y e = cc

-- a choice that was made, where the other is a fault
pub taken : {A : Type 0} (b : Bool) (x : Result A Fault) (f : Fault) (y : A) → cond b x (Err f) ≡ Ok y → (b ≡ true) × (x ≡ Ok y)
taken true x f y e = (refl, e)
taken false x f y e = absurd (err_is_no_ok f y (sym e))

-- ---- one token

next_in : (ts : List Placed) (stop : Stop) (line gates : ℕ) (x : Placed × Remainder)
    → next_by (record { stream = record { tokens = ts; stop = stop; line = line }; gates = gates }) (front_in ts stop line) ≡ Ok x
    → Takes (record { stream = record { tokens = ts; stop = stop; line = line }; gates = gates }) (plain x.0 ∷ []) 0 x.1
unfolding rest_of
next_in [] stop line gates x e = absurd (err_is_no_ok _ x (sym e))
next_in (t ∷ ts) stop line gates x e =
    let s : Remainder = record { stream = record { tokens = t ∷ ts; stop = stop; line = line }; gates = gates } in
    let rest : Remainder = record { stream = record { tokens = ts; stop = stop; line = line }; gates = gates } in
    subst (λ (y : Placed × Remainder). Takes s (plain y.0 ∷ []) 0 y.1) (ok_is (t, rest) x e) (record { tokens = refl; stop = refl; counted = omega arith; within = λ le. le })

pub next_takes : (s : Remainder) (x : Placed × Remainder) → next_at s ≡ Ok x → Takes s (plain x.0 ∷ []) 0 x.1
unfolding next_at front_of
next_takes s x e = next_in s.stream.tokens s.stream.stop s.stream.line s.gates x e

-- These tokens are reported by what they are spelled by, whatever their lines.
pub record Classifies {A : Type 0} (find : Placed → Option A) (spell : A → List Placed) : Type 0 where
  pub stable : (p : Placed) → find p ≡ find (plain p)
  pub spelled : (p : Placed) (a : A) → find p ≡ Some a → plain p ∷ [] ≡ spell a

pub read_as_is : {A : Type 0} (f : Fault) (rest : Remainder) (o : Option A) (x : A × Remainder) → read_as f rest o ≡ Ok x → (o ≡ Some x.0) × (rest ≡ x.1)
read_as_is f rest None x e = absurd (err_is_no_ok f x (sym e))
read_as_is {A} f rest (Some a) x e =
    let same = ok_is (a, rest) x e in
    (ap (λ (y : A × Remainder). Some y.0) same, ap (λ (y : A × Remainder). y.1) same)

pub take_takes : {A : Type 0} (find : Placed → Option A) (spell : A → List Placed) (refuse : Placed → Fault) → Classifies find spell
    → (s : Remainder) (x : A × Remainder) → take_at find refuse s ≡ Ok x → Takes s (spell x.0) 0 x.1
unfolding take_at
take_takes {A} find spell refuse c s x e =
    let b = bind_ok (next_at s) (λ p. read_as (refuse p.0) p.1 (find p.0)) x e in
    let r = read_as_is (refuse b.0.0) b.0.1 (find b.0.0) x b.2 in
    let t = next_takes s b.0 b.1 in
    subst (λ (rest : Remainder). Takes s (spell x.0) 0 rest) r.1 (regrouped s _ _ 0 0 b.0.1 (c.spelled b.0.0 x.0 r.0) refl t)

maybe_by : {A : Type 0} (find : Placed → Option A) (spell : A → List Placed) (s rest : Remainder) (p : Placed) (o : Option A) → Classifies find spell → Takes s (plain p ∷ []) 0 rest → find p ≡ o
    → Takes s (grammar.optional spell (read_if s rest o).0) 0 (read_if s rest o).1
maybe_by find spell s rest p None c t e = takes_nothing s
maybe_by find spell s rest p (Some a) c t e = regrouped s _ _ 0 0 rest (c.spelled p a e) refl t

pub maybe_takes : {A : Type 0} (find : Placed → Option A) (spell : A → List Placed) → Classifies find spell
    → (s : Remainder) (x : Option A × Remainder) → maybe_at find s ≡ Ok x → Takes s (grammar.optional spell x.0) 0 x.1
unfolding maybe_at
maybe_takes {A} find spell c s x e =
    let b = bind_ok (next_at s) (λ p. Ok (read_if s p.1 (find p.0))) x e in
    subst (λ (y : Option A × Remainder). Takes s (grammar.optional spell y.0) 0 y.1) (ok_is (read_if s b.0.1 (find b.0.0)) x b.2)
    (maybe_by find spell s b.0.1 b.0.0 (find b.0.0) c (next_takes s b.0 b.1) refl)

stable_name : (l : ℕ) (t : Token) → as_name (placed_on l t) ≡ as_name (plain (placed_on l t))
stable_name l (Name w) = refl
stable_name l (Escaped w) = refl
stable_name l (Reserved k) = refl
stable_name l (Number n) = refl
stable_name l (Constant b w) = refl
stable_name l (Mark m) = refl
stable_name l Attribute = refl
stable_name l (Directs d w) = refl
stable_name l (Outside w) = refl

spelled_name : (l : ℕ) (t : Token) (n : grammar.Name) → as_name (placed_on l t) ≡ Some n → plain (placed_on l t) ∷ [] ≡ grammar.name n
spelled_name l (Name w) n e = let same : record { name = w; line = l } ≡ n = cc in ap grammar.name same
spelled_name l (Escaped w) n e = let same : record { name = drop 1 w; line = l } ≡ n = cc in ap grammar.name same
spelled_name l (Reserved k) n e = absurd cc
spelled_name l (Number m) n e = absurd cc
spelled_name l (Constant b w) n e = absurd cc
spelled_name l (Mark m) n e = absurd cc
spelled_name l Attribute n e = absurd cc
spelled_name l (Directs d w) n e = absurd cc
spelled_name l (Outside w) n e = absurd cc

pub names_classified : Classifies as_name grammar.name
names_classified = record { stable = λ p. stable_name p.line p.token; spelled = λ p n e. spelled_name p.line p.token n e }

pub name_takes : (s : Remainder) (x : grammar.Name × Remainder) → name_at s ≡ Ok x → Takes s (grammar.name x.0) 0 x.1
unfolding name_at
name_takes s x e = take_takes as_name grammar.name refused names_classified s x e

decode : ℕ → Symbol
decode zero = symbol.Open
decode (suc zero) = symbol.Close
decode (suc (suc zero)) = symbol.Comma
decode (suc (suc (suc zero))) = symbol.Semicolon
decode (suc (suc (suc (suc zero)))) = symbol.Hash
decode (suc (suc (suc (suc (suc zero))))) = symbol.LeftBracket
decode (suc (suc (suc (suc (suc (suc zero)))))) = symbol.RightBracket
decode (suc (suc (suc (suc (suc (suc (suc n))))))) = symbol.Colon

decoded : (m : Symbol) → decode (code_of m) ≡ m
unfolding decode
decoded symbol.Open = refl
decoded symbol.Close = refl
decoded symbol.Comma = refl
decoded symbol.Semicolon = refl
decoded symbol.Hash = refl
decoded symbol.LeftBracket = refl
decoded symbol.RightBracket = refl
decoded symbol.Colon = refl

from_code : (n m : Symbol) → code_of n ≡ code_of m → n ≡ m
from_code n m e = sym (decoded n) ∙ ap decode e ∙ decoded m

mark_by : (m : Symbol) (l : ℕ) (t : Token) → is_mark m t ≡ true → plain (placed_on l t) ∷ [] ≡ grammar.mark m
mark_by m l (Mark n) e = ap (λ (k : Symbol). grammar.mark k) (from_code n m (eqb-true _ _ e))
mark_by m l (Name w) e = absurd cc
mark_by m l (Escaped w) e = absurd cc
mark_by m l (Reserved k) e = absurd cc
mark_by m l (Number n) e = absurd cc
mark_by m l (Constant b w) e = absurd cc
mark_by m l Attribute e = absurd cc
mark_by m l (Directs d w) e = absurd cc
mark_by m l (Outside w) e = absurd cc

pub mark_spelled : (m : Symbol) (p : Placed) → is_mark m p.token ≡ true → plain p ∷ [] ≡ grammar.mark m
mark_spelled m p e = mark_by m p.line p.token e

-- the mark m was the token in front
pub mark_taken : (m : Symbol) (s : Remainder) (x : Placed × Remainder) → next_at s ≡ Ok x → is_mark m x.0.token ≡ true → Takes s (grammar.mark m) 0 x.1
mark_taken m s x e is = regrouped s _ _ 0 0 x.1 (mark_spelled m x.0 is) refl (next_takes s x e)

pub mark_takes : (m : Symbol) (s rest : Remainder) → mark_at m s ≡ Ok rest → Takes s (grammar.mark m) 0 rest
unfolding mark_at
mark_takes m s rest e =
    let b = bind_ok (next_at s) (λ p. cond (is_mark m p.0.token) (Ok p.1) (Err (refused p.0))) rest e in
    let t = taken (is_mark m b.0.0.token) (Ok b.0.1) (refused b.0.0) rest b.2 in
    subst (λ (u : Remainder). Takes s (grammar.mark m) 0 u) (ok_is b.0.1 rest t.1) (mark_taken m s b.0 b.1 t.0)

abbrev pub if_mark : Symbol → Bool → List Placed
if_mark m true = grammar.mark m
if_mark m false = []

pub maybe_mark_takes : (m : Symbol) (s : Remainder) (x : Bool × Remainder) → maybe_mark_at m s ≡ Ok x → Takes s (if_mark m x.0) 0 x.1
unfolding maybe_mark_at
maybe_mark_takes m s x e =
    let b = bind_ok (next_at s) (λ p. cond (is_mark m p.0.token) (Ok (true, p.1)) (Ok (false, s))) x e in
    elim (chosen (is_mark m b.0.0.token) (done (true, b.0.1)) (Ok (false, s)) (Ok x) b.2) [
      | inl h ↦ subst (λ (y : Bool × Remainder). Takes s (if_mark m y.0) 0 y.1) (ok_is (true, b.0.1) x h.1) (mark_taken m s b.0 b.1 h.0)
      | inr h ↦ subst (λ (y : Bool × Remainder). Takes s (if_mark m y.0) 0 y.1) (ok_is (false, s) x h.1) (takes_nothing s)
    ]

-- ---- lists

abbrev pub separator_text : Symbol → Bool → List Placed
separator_text end true = grammar.mark symbol.Comma
separator_text end false = grammar.mark end

pub separator_takes : (end : Symbol) (s : Remainder) (x : Bool × Remainder) → separator_at end s ≡ Ok x → Takes s (separator_text end x.0) 0 x.1
unfolding separator_at
separator_takes end s x e =
    let b = bind_ok (next_at s) (λ p. cond (is_mark symbol.Comma p.0.token) (Ok (true, p.1)) (cond (is_mark end p.0.token) (Ok (false, p.1)) (Err (refused p.0)))) x e in
    elim (chosen (is_mark symbol.Comma b.0.0.token) (done (true, b.0.1)) (cond (is_mark end b.0.0.token) (Ok (false, b.0.1)) (Err (refused b.0.0))) (Ok x) b.2) [
      | inl h ↦ subst (λ (y : Bool × Remainder). Takes s (separator_text end y.0) 0 y.1) (ok_is (true, b.0.1) x h.1) (mark_taken symbol.Comma s b.0 b.1 h.0)
      | inr h ↦
          let t = taken (is_mark end b.0.0.token) (Ok (false, b.0.1)) (refused b.0.0) x h.1 in
          subst (λ (y : Bool × Remainder). Takes s (separator_text end y.0) 0 y.1) (ok_is (false, b.0.1) x t.1) (mark_taken end s b.0 b.1 t.0)
    ]

-- What a step of a list with commas takes, and what its members keep. The gates and the facts may
-- depend on a member's number.
pub record MemberTakes {A : Type 0} (step : ℕ → Remainder → Result (ListStep A × Remainder) Fault) (spell : A → List Placed) (P Q : ℕ → A → Type 0) (g h : ℕ → A → ℕ) (closing : List Placed) : Type 0 where
  pub more : (k : ℕ) (s : Remainder) (a : A) (rest : Remainder) → step k s ≡ Ok (More a, rest) → Takes s (spell a ++ grammar.mark symbol.Comma) (g k a) rest × P k a
  pub final : (k : ℕ) (s : Remainder) (a : A) (rest : Remainder) → step k s ≡ Ok (Final a, rest) → Takes s (spell a ++ closing) (h k a) rest × Q k a
  pub never : (k : ℕ) (s : Remainder) (rest : Remainder) → step k s ≡ Ok (Done, rest) → ⊥

more_is : {A : Type 0} (a b : A) (more : Bool) → step_of a more ≡ More b → (a ≡ b) × (more ≡ true)
more_is a b true e = (cc, refl)
more_is a b false e = absurd cc

final_is : {A : Type 0} (a b : A) (more : Bool) → step_of a more ≡ Final b → (a ≡ b) × (more ≡ false)
final_is a b true e = absurd cc
final_is a b false e = (cc, refl)

no_done : {A : Type 0} (a : A) (more : Bool) → step_of a more ≡ Done → ⊥
no_done a true e = cc
no_done a false e = cc

pub behind_never : {A : Type 0} (end : Symbol) (a : A) (t rest : Remainder) → behind end a t ≡ Ok (Done, rest) → ⊥
behind_never {A} end a t rest e =
    let m = bind_ok (separator_at end t) (λ x. Ok (step_of a x.0, x.1)) (Done, rest) e in
    no_done a m.0.0 (ap (λ (p : ListStep A × Remainder). p.0) (ok_is (step_of a m.0.0, m.0.1) (Done, rest) m.2))

text_is : {A : Type 0} (spell : A → List Placed) (end : Symbol) (a b : A) (m n : Bool) → a ≡ b → m ≡ n → spell a ++ separator_text end m ≡ spell b ++ separator_text end n
text_is {A} spell end a b m n p q = ap (λ (x : A). spell x ++ separator_text end m) p ∙ ap (λ (y : Bool). spell b ++ separator_text end y) q

-- a member and the comma after it
pub behind_more : {A : Type 0} (spell : A → List Placed) (end : Symbol) (s : Remainder) (a : A) (n : ℕ) (t : Remainder) (b : A) (rest : Remainder) → Takes s (spell a) n t → behind end a t ≡ Ok (More b, rest)
    → (a ≡ b) × Takes s (spell b ++ grammar.mark symbol.Comma) n rest
behind_more {A} spell end s a n t b rest first e =
    let m = bind_ok (separator_at end t) (λ x. Ok (step_of a x.0, x.1)) (More b, rest) e in
    let same = ok_is (step_of a m.0.0, m.0.1) (More b, rest) m.2 in
    let is = more_is a b m.0.0 (ap (λ (p : ListStep A × Remainder). p.0) same) in
    let second = separator_takes end t m.0 m.1 in
    let both = takes_then s (spell a) n t (separator_text end m.0.0) 0 m.0.1 first second in (
      is.0,
      subst (λ (u : Remainder). Takes s (spell b ++ grammar.mark symbol.Comma) n u) (ap (λ (p : ListStep A × Remainder). p.1) same)
          (regrouped s _ _ (n + 0) n m.0.1 (text_is spell end a b m.0.0 _ is.0 is.1) (omega arith) both),
    )

pub behind_final : {A : Type 0} (spell : A → List Placed) (end : Symbol) (s : Remainder) (a : A) (n : ℕ) (t : Remainder) (b : A) (rest : Remainder) → Takes s (spell a) n t → behind end a t ≡ Ok (Final b, rest)
    → (a ≡ b) × Takes s (spell b ++ grammar.mark end) n rest
behind_final {A} spell end s a n t b rest first e =
    let m = bind_ok (separator_at end t) (λ x. Ok (step_of a x.0, x.1)) (Final b, rest) e in
    let same = ok_is (step_of a m.0.0, m.0.1) (Final b, rest) m.2 in
    let is = final_is a b m.0.0 (ap (λ (p : ListStep A × Remainder). p.0) same) in
    let second = separator_takes end t m.0 m.1 in
    let both = takes_then s (spell a) n t (separator_text end m.0.0) 0 m.0.1 first second in (
      is.0,
      subst (λ (u : Remainder). Takes s (spell b ++ grammar.mark end) n u) (ap (λ (p : ListStep A × Remainder). p.1) same)
          (regrouped s _ _ (n + 0) n m.0.1 (text_is spell end a b m.0.0 _ is.0 is.1) (omega arith) both),
    )

-- each member but the last keeps P at its number, and the last one Q
abbrev pub AllFrom : {A : Type 0} → (ℕ → A → Type 0) → (ℕ → A → Type 0) → ℕ → List A → Type 0
AllFrom P Q k [] = ⊥
AllFrom P Q k (a ∷ []) = Q k a
AllFrom P Q k (a ∷ b ∷ bs) = P k a × AllFrom P Q (k + 1) (b ∷ bs)

abbrev pub gates_from : {A : Type 0} → (ℕ → A → ℕ) → (ℕ → A → ℕ) → ℕ → List A → ℕ
gates_from g h k [] = 0
gates_from g h k (a ∷ []) = h k a
gates_from g h k (a ∷ b ∷ bs) = g k a + gates_from g h (k + 1) (b ∷ bs)

-- members with commas between them, and what follows them
pub record TakesList {A : Type 0} (spell : A → List Placed) (P Q : ℕ → A → Type 0) (g h : ℕ → A → ℕ) (closing : List Placed) (k : ℕ) (s : Remainder) (xs : List A) (rest : Remainder) : Type 0 where
  pub takes : Takes s (grammar.separated spell xs ++ closing) (gates_from g h k xs) rest
  pub holds : AllFrom P Q k xs

module _ {A : Type 0} (step : ℕ → Remainder → Result (ListStep A × Remainder) Fault) (spell : A → List Placed) (P Q : ℕ → A → Type 0) (g h : ℕ → A → ℕ) (closing : List Placed) (member : MemberTakes step spell P Q g h closing) where
  list_one : (k : ℕ) (s : Remainder) (a : A) (rest : Remainder) → Takes s (spell a ++ closing) (h k a) rest × Q k a → TakesList spell P Q g h closing k s (a ∷ []) rest
  unfolding grammar.separated
  list_one k s a rest t = record { takes = t.0; holds = t.1 }

  list_more : (k : ℕ) (s : Remainder) (a : A) (mid : Remainder) (xs : List A) (rest : Remainder) → Takes s (spell a ++ grammar.mark symbol.Comma) (g k a) mid × P k a → TakesList spell P Q g h closing (k + 1) mid xs rest → TakesList spell P Q g h closing k s (a ∷ xs) rest
  unfolding grammar.separated
  list_more k s a mid [] rest t l = absurd l.holds
  list_more k s a mid (b ∷ bs) rest t l = record {
    takes = then_two s (spell a ++ grammar.mark symbol.Comma) (g k a) mid (grammar.separated spell (b ∷ bs)) closing (gates_from g h (k + 1) (b ∷ bs)) rest t.0 l.takes;
    holds = (t.1, l.holds);
  }

  list_within : (m k : ℕ) (s : Remainder) (y : List A × Remainder) → many_within step k m s ≡ Ok y → TakesList spell P Q g h closing k s y.0 y.1
  unfolding many_within
  list_within zero k s y e = absurd (err_is_no_ok _ y (sym e))
  list_within (suc m) k s y e =
      let b = bind_ok (step k s) (go_on (many_within step (k + 1) m)) y e in
      let x = b.0 in
      elim x.0 as (λ (z : ListStep A). x.0 ≡ z → go_on (many_within step (k + 1) m) (z, x.1) ≡ Ok y → TakesList spell P Q g h closing k s y.0 y.1) [
        | More a ↦ λ is after.
            let at_more = b.1 ∙ ap (λ (z : ListStep A). Ok (z, x.1)) is in
            let r = bind_ok (many_within step (k + 1) m x.1) (λ z. Ok (a ∷ z.0, z.1)) y after in
            let rest = list_within m (k + 1) x.1 r.0 r.1 in
            subst (λ (z : List A × Remainder). TakesList spell P Q g h closing k s z.0 z.1) (ok_is (a ∷ r.0.0, r.0.1) y r.2)
            (list_more k s a x.1 r.0.0 r.0.1 (member.more k s a x.1 at_more) rest)
        | Final a ↦ λ is after.
            let at_final = b.1 ∙ ap (λ (z : ListStep A). Ok (z, x.1)) is in
            subst (λ (z : List A × Remainder). TakesList spell P Q g h closing k s z.0 z.1) (ok_is (a ∷ [], x.1) y after)
            (list_one k s a x.1 (member.final k s a x.1 at_final))
        | Done ↦ λ is after. absurd (member.never k s x.1 (b.1 ∙ ap (λ (z : ListStep A). Ok (z, x.1)) is))
      ] refl b.2

  pub list_takes : (k : ℕ) (s : Remainder) (y : List A × Remainder) → many_from step k s ≡ Ok y → TakesList spell P Q g h closing k s y.0 y.1
  unfolding many_from
  list_takes k s y e = list_within (suc (left s)) k s y e

  pub list_shortens : Shortens step
  list_shortens = record {
    by = λ k s a rest e. omega (arith, takes_length s (spell a ++ grammar.mark symbol.Comma) (g k a) rest (member.more k s a rest e).0, length-append (spell a) (grammar.mark symbol.Comma));
  }

-- ---- members one after another

pub record SequenceTakes {A : Type 0} (step : ℕ → Remainder → Result (ListStep A × Remainder) Fault) (spell : A → List Placed) (P : A → Type 0) (g : A → ℕ) (closing : List Placed) : Type 0 where
  pub more : (k : ℕ) (s : Remainder) (a : A) (rest : Remainder) → step k s ≡ Ok (More a, rest) → Takes s (spell a) (g a) rest × P a
  pub end : (k : ℕ) (s : Remainder) (rest : Remainder) → step k s ≡ Ok (Done, rest) → Takes s closing 0 rest
  pub never : (k : ℕ) (s : Remainder) (a : A) (rest : Remainder) → step k s ≡ Ok (Final a, rest) → ⊥
  pub some : (a : A) → 1 ≤ length (spell a)

pub record TakesAll {A : Type 0} (spell : A → List Placed) (P : A → Type 0) (g : A → ℕ) (closing : List Placed) (s : Remainder) (xs : List A) (rest : Remainder) : Type 0 where
  pub takes : Takes s (flat_map spell xs ++ closing) (sum_by g xs) rest
  pub holds : AllByRecursion P xs

module _ {A : Type 0} (step : ℕ → Remainder → Result (ListStep A × Remainder) Fault) (spell : A → List Placed) (P : A → Type 0) (g : A → ℕ) (closing : List Placed) (sequence : SequenceTakes step spell P g closing) where
  all_more : (s : Remainder) (a : A) (mid : Remainder) (xs : List A) (rest : Remainder) → Takes s (spell a) (g a) mid × P a → TakesAll spell P g closing mid xs rest → TakesAll spell P g closing s (a ∷ xs) rest
  all_more s a mid xs rest t l = record {
    takes = regrouped s _ _ _ _ rest
        (ap (λ (text : List Placed). text ++ closing) (sym (flat_map-cons spell a xs)))
        (sym (sum_by-cons g a xs))
        (then_two s (spell a) (g a) mid (flat_map spell xs) closing (sum_by g xs) rest t.0 l.takes);
    holds = (t.1, l.holds);
  }

  all_within : (m k : ℕ) (s : Remainder) (y : List A × Remainder) → many_within step k m s ≡ Ok y → TakesAll spell P g closing s y.0 y.1
  unfolding many_within
  all_within zero k s y e = absurd (err_is_no_ok _ y (sym e))
  all_within (suc m) k s y e =
      let b = bind_ok (step k s) (go_on (many_within step (k + 1) m)) y e in
      let x = b.0 in
      elim x.0 as (λ (z : ListStep A). x.0 ≡ z → go_on (many_within step (k + 1) m) (z, x.1) ≡ Ok y → TakesAll spell P g closing s y.0 y.1) [
        | More a ↦ λ is after.
            let at_more = b.1 ∙ ap (λ (z : ListStep A). Ok (z, x.1)) is in
            let r = bind_ok (many_within step (k + 1) m x.1) (λ z. Ok (a ∷ z.0, z.1)) y after in
            let rest = all_within m (k + 1) x.1 r.0 r.1 in
            subst (λ (z : List A × Remainder). TakesAll spell P g closing s z.0 z.1) (ok_is (a ∷ r.0.0, r.0.1) y r.2)
            (all_more s a x.1 r.0.0 r.0.1 (sequence.more k s a x.1 at_more) rest)
        | Final a ↦ λ is after. absurd (sequence.never k s a x.1 (b.1 ∙ ap (λ (z : ListStep A). Ok (z, x.1)) is))
        | Done ↦ λ is after.
            let at_done = b.1 ∙ ap (λ (z : ListStep A). Ok (z, x.1)) is in
            subst (λ (z : List A × Remainder). TakesAll spell P g closing s z.0 z.1) (ok_is ([], x.1) y after)
            (record { takes = sequence.end k s x.1 at_done; holds = tt })
      ] refl b.2

  pub all_takes : (k : ℕ) (s : Remainder) (y : List A × Remainder) → many_from step k s ≡ Ok y → TakesAll spell P g closing s y.0 y.1
  unfolding many_from
  all_takes k s y e = all_within (suc (left s)) k s y e

  pub all_shortens : Shortens step
  all_shortens = record {
    by = λ k s a rest e. omega (arith, takes_length s (spell a) (g a) rest (sequence.more k s a rest e).0, sequence.some a);
  }
