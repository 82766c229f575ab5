-- The parts of a `timescale, as texts and byte by byte.
use Rattle.std.proofs.Common.{◌≡◌, ℕ, ◌+◌, Bool, true, false, cond, List, [], ◌∷◌, Option, Some, None, Result, Ok, Err, drop, refl, sym, ap, subst, arith}
use Rattle.std.specs.Prelude.{◌==◌, nat_le, min, codes}
use Rattle.std.specs.List.{prefix_len}
use Rattle.std.specs.Option.{option_and_then, option_map}
use Rattle.std.proofs.lemmas.Bool.{eqb-true}
use Rattle.td_syntax.specs.declared.token.Directive.{Directive}
use Rattle.td_syntax.specs.declared.token.Directive.TheVariants as directive
use Rattle.td_syntax.specs.declared.token.Unread.{Unread}
use Rattle.td_syntax.specs.declared.token.Unread.TheVariants.{Wrong}
use Rattle.td_syntax.specs.Bytes.{is_zero}
use Rattle.td_syntax.specs.Spans.{part_in, unblanked, magnitudes, units, span_in, pair_in, timescale_in}
use Rattle.td_syntax.specs.Timescales.{◌>>=◌, magnitude_at, unit_at, span_at, slash_at, ordered, timescale_at}

abbrev pub told : {A : Type 0} → Result A Unread → Option A
told (Ok x) = Some x
told (Err e) = None

abbrev pub rest_told : Result (List ℕ) Unread → Option (ℕ × List ℕ)
rest_told (Ok bs) = Some (0, bs)
rest_told (Err e) = None

-- ---- magnitudes

at_most : (k : ℕ) → min (1 + (1 + k)) 2 ≡ 2
at_most k = omega arith

second_zero : (zero : Bool) (c : ℕ) (cs : List ℕ) → (c == 48) ≡ zero → part_in magnitudes (49 ∷ 48 ∷ c ∷ cs) ≡ told (magnitude_at (49 ∷ 48 ∷ c ∷ cs))
unfolding part_in magnitude_at
second_zero true c cs z = rw z (ap (λ (n : ℕ). Some (n, drop n (48 ∷ c ∷ cs))) (sym (at_most (prefix_len is_zero cs))))
second_zero false c cs z = rw z refl

first_zero : (zero : Bool) (b : ℕ) (bs : List ℕ) → (b == 48) ≡ zero → part_in magnitudes (49 ∷ b ∷ bs) ≡ told (magnitude_at (49 ∷ b ∷ bs))
unfolding part_in magnitude_at
first_zero false b bs z = rw z refl
first_zero true b [] z = rw z refl
first_zero true b (c ∷ cs) z = subst (λ n. part_in magnitudes (49 ∷ n ∷ c ∷ cs) ≡ told (magnitude_at (49 ∷ n ∷ c ∷ cs))) (sym (eqb-true b 48 z)) (second_zero (c == 48) c cs refl)

one_begins : (one : Bool) (b : ℕ) (bs : List ℕ) → (b == 49) ≡ one → part_in magnitudes (b ∷ bs) ≡ told (magnitude_at (b ∷ bs))
unfolding part_in magnitude_at
one_begins false b bs o = rw o refl
one_begins true b [] o = rw o refl
one_begins true b (c ∷ cs) o = subst (λ n. part_in magnitudes (n ∷ c ∷ cs) ≡ told (magnitude_at (n ∷ c ∷ cs))) (sym (eqb-true b 49 o)) (first_zero (c == 48) c cs refl)

same_magnitude : (bytes : List ℕ) → part_in magnitudes bytes ≡ told (magnitude_at bytes)
unfolding part_in magnitude_at
same_magnitude [] = refl
same_magnitude (b ∷ bs) = one_begins (b == 49) b bs refl

-- ---- units

abbrev SameUnit : List ℕ → Type 0
SameUnit bytes = part_in units bytes ≡ told (unit_at bytes)

abbrev begins_s : List ℕ → Bool
begins_s [] = false
begins_s (c ∷ cs) = c == 115

unit_m : (s : Bool) (bs : List ℕ) → begins_s bs ≡ s → SameUnit (109 ∷ bs)
unfolding part_in unit_at
unit_m s [] e = refl
unit_m true (c ∷ cs) e = rw e refl
unit_m false (c ∷ cs) e = rw e refl

unit_u : (s : Bool) (bs : List ℕ) → begins_s bs ≡ s → SameUnit (117 ∷ bs)
unfolding part_in unit_at
unit_u s [] e = refl
unit_u true (c ∷ cs) e = rw e refl
unit_u false (c ∷ cs) e = rw e refl

unit_n : (s : Bool) (bs : List ℕ) → begins_s bs ≡ s → SameUnit (110 ∷ bs)
unfolding part_in unit_at
unit_n s [] e = refl
unit_n true (c ∷ cs) e = rw e refl
unit_n false (c ∷ cs) e = rw e refl

unit_p : (s : Bool) (bs : List ℕ) → begins_s bs ≡ s → SameUnit (112 ∷ bs)
unfolding part_in unit_at
unit_p s [] e = refl
unit_p true (c ∷ cs) e = rw e refl
unit_p false (c ∷ cs) e = rw e refl

unit_f : (s : Bool) (bs : List ℕ) → begins_s bs ≡ s → SameUnit (102 ∷ bs)
unfolding part_in unit_at
unit_f s [] e = refl
unit_f true (c ∷ cs) e = rw e refl
unit_f false (c ∷ cs) e = rw e refl

unit_other : (b : ℕ) (bs : List ℕ) → (b == 115) ≡ false → (b == 109) ≡ false → (b == 117) ≡ false → (b == 110) ≡ false → (b == 112) ≡ false → (b == 102) ≡ false → SameUnit (b ∷ bs)
unfolding part_in unit_at
unit_other b bs s m u n p f = rw (s, m, u, n, p, f) refl

unit_s : (bs : List ℕ) → SameUnit (115 ∷ bs)
unfolding part_in unit_at
unit_s bs = refl

-- where the byte is k, or where it isn't
either_by : (t : Bool) (b k : ℕ) (P : ℕ → Type 0) → (b == k) ≡ t → P k → ((b == k) ≡ false → P b) → P b
either_by true b k P e here other = subst P (sym (eqb-true b k e)) here
either_by false b k P e here other = other e

either : (b k : ℕ) (P : ℕ → Type 0) → P k → ((b == k) ≡ false → P b) → P b
either b k P here other = either_by (b == k) b k P refl here other

unit_begins : (b : ℕ) (bs : List ℕ) → SameUnit (b ∷ bs)
unit_begins b bs =
    let P : ℕ → Type 0 = λ k. SameUnit (k ∷ bs) in
    either b 115 P (unit_s bs)
    (λ s. either b 109 P (unit_m _ bs refl)
    (λ m. either b 117 P (unit_u _ bs refl)
    (λ u. either b 110 P (unit_n _ bs refl)
    (λ n. either b 112 P (unit_p _ bs refl)
    (λ p. either b 102 P (unit_f _ bs refl)
    (λ f. unit_other b bs s m u n p f))))))

same_unit : (bytes : List ℕ) → SameUnit bytes
unfolding part_in unit_at
same_unit [] = refl
same_unit (b ∷ bs) = unit_begins b bs

-- ---- the whole

abbrev slashes : List (List ℕ × ℕ)
slashes = (codes "/", 0) ∷ []

same_slash : (bytes : List ℕ) → part_in slashes bytes ≡ rest_told (slash_at bytes)
unfolding part_in slash_at
same_slash [] = refl
same_slash (b ∷ bs) = by (b == 47) refl
  where
    by : (t : Bool) → (b == 47) ≡ t → part_in slashes (b ∷ bs) ≡ rest_told (slash_at (b ∷ bs))
    by true e = rw e refl
    by false e = rw e refl

abbrev Part : Type 0
Part = ℕ × List ℕ

abbrev longer : Part → Part → Part
longer m u = (m.0 + u.0, u.1)

abbrev as_ok : Part → Result Part Unread
as_ok x = Ok x

span_by : (m : Result Part Unread) → option_and_then (λ (m : Part). option_map (longer m) (part_in units (unblanked m.1))) (told m) ≡ told (m >>= λ (m : Part). unit_at (unblanked m.1) >>= λ (u : Part). as_ok (longer m u))
span_by (Err e) = refl
span_by (Ok m) = rw (same_unit (unblanked m.1)) (by (unit_at (unblanked m.1)))
  where
    by : (u : Result Part Unread) → option_map (longer m) (told u) ≡ told (u >>= λ (u : Part). as_ok (longer m u))
    by (Ok u) = refl
    by (Err e) = refl

same_span : (bytes : List ℕ) → span_in bytes ≡ told (span_at bytes)
unfolding span_in span_at
same_span bytes = rw (same_magnitude (unblanked bytes)) (span_by (magnitude_at (unblanked bytes)))

same_pair : (unit : ℕ) (step : ℕ × List ℕ) → pair_in unit step ≡ told (ordered unit step)
same_pair unit step = by (nat_le step.0 unit)
  where
    both : Directive × List ℕ
    both = (directive.Timescale (record { unit = unit; step = step.0 }), step.1)

    by : (b : Bool) → cond b (Some both) None ≡ told (cond b (Ok both) (Err Wrong))
    by true = refl
    by false = refl

step_by : (unit : ℕ) (s : Result (ℕ × List ℕ) Unread) → option_and_then (pair_in unit) (told s) ≡ told (s >>= ordered unit)
step_by unit (Err e) = refl
step_by unit (Ok s) = same_pair unit s

slash_by : (unit : ℕ) (s : Result (List ℕ) Unread) → option_and_then (λ slash. option_and_then (pair_in unit) (span_in slash.1)) (rest_told s) ≡ told (s >>= λ rest. span_at rest >>= ordered unit)
slash_by unit (Err e) = refl
slash_by unit (Ok rest) = rw (same_span rest) (step_by unit (span_at rest))

unit_by : (u : Result (ℕ × List ℕ) Unread) → option_and_then (λ unit. option_and_then (λ slash. option_and_then (pair_in unit.0) (span_in slash.1)) (part_in slashes (unblanked unit.1))) (told u) ≡ told (u >>= λ unit. slash_at (unblanked unit.1) >>= λ rest. span_at rest >>= ordered unit.0)
unit_by (Err e) = refl
unit_by (Ok u) = rw (same_slash (unblanked u.1)) (slash_by u.0 (slash_at (unblanked u.1)))

pub same_timescale : (bytes : List ℕ) → timescale_in bytes ≡ told (timescale_at bytes)
unfolding timescale_in timescale_at
same_timescale bytes = rw (same_span bytes) (unit_by (span_at bytes))
