-- Steps of a walk: to the zero side of a split, and from a leaf to the next one side.
use Rattle.std.proofs.Common.{◌≡◌, ◌≢◌, ◌<◌, ℕ, zero, suc, List, [], ◌∷◌, ◌++◌, length, set, Some, reverse, refl, sym, ap, subst, ◌∙◌, arith}
use Rattle.std.specs.Prelude.{slice_get}
use Rattle.std.proofs.lemmas.List.{length-set, set-set, reverse-append}
use Rattle.std.proofs.lemmas.Option.{slice_get_within}
use Rattle.td_certificate.proofs.VectorCodes.{none_not, some_is}
use Rattle.td_domain.specs.declared.cubes.Trit.{Trit}
use Rattle.td_domain.specs.declared.cubes.Trit.TheVariants.{Zero, One, Free}
use Rattle.td_checker.specs.Paths.{other_side, cubes_ahead, StandsAt, AreInside}

got : (cube : List Trit) (i : ℕ) (t u : Trit) → slice_get cube i ≡ Some t → slice_get (set cube i u) i ≡ Some u
got [] i t u is = none_not t is
got (c ∷ cube) zero t u is = refl
got (c ∷ cube) (suc i) t u is = got cube i t u is

kept : (cube : List Trit) (i : ℕ) (t : Trit) → slice_get cube i ≡ Some t → set cube i t ≡ cube
kept [] i t is = none_not t is
kept (c ∷ cube) zero t is = ap (λ x. x ∷ cube) (sym (some_is c t is))
kept (c ∷ cube) (suc i) t is = ap (λ xs. c ∷ xs) (kept cube i t is)

after : (cube : List Trit) (position : ℕ) (path : List ℕ) (t : Trit) → slice_get cube position ≡ Some t
    → cubes_ahead cube (position ∷ path) ≡ other_side (Some t) cube position ++ cubes_ahead (set cube position Free) path
after cube position path t is = ap (λ o. other_side o cube position ++ cubes_ahead (set cube position Free) path) is

-- to the zero side
pub descended : (cube next : List Trit) (position : ℕ) (path ahead : List ℕ) → slice_get cube position ≡ Some Free
    → next ≡ set cube position Zero → ahead ≡ position ∷ path
    → StandsAt (set cube position Zero ∷ set cube position One ∷ cubes_ahead cube path) next ahead
descended cube next position path ahead free is goes =
    let low : List Trit = set cube position Zero in
    let back : set low position Free ≡ cube = set-set cube position Zero Free ∙ kept cube position Free free in
    let other : set low position One ≡ set cube position One = set-set cube position Zero One in
    let there : cubes_ahead low (position ∷ path) ≡ set low position One ∷ cubes_ahead (set low position Free) path =
    after low position path Zero (got cube position Free Zero free) in
    rw (is, goes) (
      refl,
      there ∙ ap (λ c. c ∷ cubes_ahead (set low position Free) path) other
          ∙ ap (λ c. set cube position One ∷ cubes_ahead c path) back,
    )

pub inside_below : (cube next : List Trit) (position : ℕ) (path ahead : List ℕ) → slice_get cube position ≡ Some Free
    → next ≡ set cube position Zero → ahead ≡ position ∷ path → AreInside (length cube) path → AreInside (length next) ahead
inside_below cube next position path ahead free is goes inside =
    let same : length next ≡ length cube = ap length is ∙ length-set cube position Zero in
    subst (λ (count : ℕ). AreInside count ahead) (sym same) (rw goes (slice_get_within cube position Free free, inside))

pub reversed : (path rest : List ℕ) (position : ℕ) → path ≡ rest ++ position ∷ [] → reverse path ≡ position ∷ reverse rest
reversed path rest position is = ap reverse is ∙ reverse-append rest (position ∷ [])

-- to the one side, where the walk stands before it on the zero side
turned_at : (cube next : List Trit) (position : ℕ) (path : List ℕ) → slice_get cube position ≡ Some Zero
    → next ≡ set cube position One → StandsAt (cubes_ahead cube (position ∷ path)) next (position ∷ path)
turned_at cube next position path zero_side is =
    let high : List Trit = set cube position One in
    let was : cubes_ahead cube (position ∷ path) ≡ high ∷ cubes_ahead (set cube position Free) path = after cube position path Zero zero_side in
    let there : cubes_ahead high (position ∷ path) ≡ cubes_ahead (set high position Free) path =
    after high position path One (got cube position Zero One zero_side) in
    subst (λ cubes. StandsAt cubes next (position ∷ path)) (sym was)
    (rw is (refl, there ∙ ap (λ c. cubes_ahead c path) (set-set cube position One Free)))

pub turned : (cube next : List Trit) (position : ℕ) (before rest ahead : List ℕ) (cubes : List (List Trit))
    → cubes_ahead cube (reverse before) ≡ cubes → before ≡ rest ++ position ∷ [] → slice_get cube position ≡ Some Zero
    → next ≡ set cube position One → ahead ≡ rest ++ position ∷ [] → StandsAt cubes next (reverse ahead)
turned cube next position before rest ahead cubes are goes zero_side is ends =
    let path : cubes_ahead cube (position ∷ reverse rest) ≡ cubes =
    ap (cubes_ahead cube) (sym (reversed before rest position goes)) ∙ are in
    let there : StandsAt cubes next (position ∷ reverse rest) =
    subst (λ cs. StandsAt cs next (position ∷ reverse rest)) path (turned_at cube next position (reverse rest) zero_side is) in
    subst (λ p. StandsAt cubes next p) (sym (reversed ahead rest position ends)) there

-- back over a split whose one side is done
freed_at : (cube next : List Trit) (position : ℕ) (path : List ℕ) (t : Trit) → slice_get cube position ≡ Some t → t ≢ Zero
    → next ≡ set cube position Free → cubes_ahead next path ≡ cubes_ahead cube (position ∷ path)
freed_at cube next position path Zero stands other is = absurd (other refl)
freed_at cube next position path One stands other is = ap (λ c. cubes_ahead c path) is ∙ sym (after cube position path One stands)
freed_at cube next position path Free stands other is = ap (λ c. cubes_ahead c path) is ∙ sym (after cube position path Free stands)

pub freed : (cube next : List Trit) (position : ℕ) (before rest : List ℕ) (t : Trit) (cubes : List (List Trit))
    → cubes_ahead cube (reverse before) ≡ cubes → before ≡ rest ++ position ∷ [] → slice_get cube position ≡ Some t → t ≢ Zero
    → next ≡ set cube position Free → cubes_ahead next (reverse rest) ≡ cubes
freed cube next position before rest t cubes are goes stands other is =
    freed_at cube next position (reverse rest) t stands other is
    ∙ ap (cubes_ahead cube) (sym (reversed before rest position goes)) ∙ are

-- at the end of the path nothing is to come
pub emptied : (cube next : List Trit) (before ahead : List ℕ) (cubes : List (List Trit)) → cubes_ahead cube (reverse before) ≡ cubes
    → length before ≡ 0 → StandsAt cubes next ahead
emptied cube next [] ahead cubes are none = subst (λ cs. StandsAt cs next ahead) are tt
emptied cube next (position ∷ before) ahead cubes are none = absurd (omega (arith, none))

-- positions stay inside
inside_at : (count : ℕ) (before rest : List ℕ) (position : ℕ) → AreInside count (reverse before) → before ≡ rest ++ position ∷ []
    → (position < count) × AreInside count (reverse rest)
inside_at count before rest position inside goes =
    let both : AreInside count (position ∷ reverse rest) = subst (AreInside count) (reversed before rest position goes) inside in
    (both.0, both.1)

pub below : (count : ℕ) (before rest : List ℕ) (position : ℕ) → AreInside count (reverse before) → before ≡ rest ++ position ∷ [] → position < count
below count before rest position inside goes = (inside_at count before rest position inside goes).0

pub inside_turned : (cube next : List Trit) (position : ℕ) (t : Trit) (before rest ahead : List ℕ) → AreInside (length cube) (reverse before)
    → before ≡ rest ++ position ∷ [] → next ≡ set cube position t → ahead ≡ rest ++ position ∷ [] → AreInside (length next) (reverse ahead)
inside_turned cube next position t before rest ahead inside goes is ends =
    let same : length cube ≡ length next = sym (length-set cube position t) ∙ ap length (sym is) in
    subst (λ n. AreInside n (reverse ahead)) same (subst (λ p. AreInside (length cube) (reverse p)) (goes ∙ sym ends) inside)

pub inside_freed : (cube next : List Trit) (position : ℕ) (t : Trit) (before rest : List ℕ) → AreInside (length cube) (reverse before)
    → before ≡ rest ++ position ∷ [] → next ≡ set cube position t → AreInside (length next) (reverse rest)
inside_freed cube next position t before rest inside goes is =
    let same : length cube ≡ length next = sym (length-set cube position t) ∙ ap length (sym is) in
    subst (λ n. AreInside n (reverse rest)) same (inside_at (length cube) before rest position inside goes).1
