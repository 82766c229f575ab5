-- Parts that are halved go on to share out the admitted pairs.
use Rattle.std.proofs.Common.{◌≡◌, ℕ, List, [], ◌∷◌, ◌++◌, length, set, Some, None, Option, sym, ap, subst, ◌∙◌, arith, inl, inr, ◌⊎◌}
use Rattle.std.specs.Prelude.{slice_get}
use Rattle.std.proofs.lemmas.List.{length-set}
use Rattle.std.proofs.lemmas.List.Elements.{All-set, All-push, All-contains}
use Rattle.td_gates.proofs.Places.{slice_get-set_same, slice_get-set_other, slice_get-set_cases, slice_get-push_cases, slice_get-append_left, slice_get-append_right, slice_get-Contains}
use Rattle.std.proofs.lemmas.Option.{slice_get_within}
use Rattle.td_domain.specs.declared.cubes.Trit.{Trit}
use Rattle.td_domain.specs.declared.cubes.Trit.TheVariants.{Zero, One, Free}
use Rattle.td_domain.specs.Pairs.{Pair}
use Rattle.td_domain.specs.Cubes.{IsIn}
use Rattle.td_domain.specs.Admits.{Admitted, IsAdmitted, HasAdmitted}
use Rattle.td_certificate.proofs.Acceptance.{side, low, high}
use Rattle.td_join.specs.Partition.{LiesInOne}
use Rattle.td_join.proofs.Cubing.{wider, meet_at}
use Rattle.td_join.proofs.Restricting.{order, same, apart}
use Rattle.td_parts.specs.Sharing.{IsShare, AreShares}

abbrev pub Cubes : Type 0
Cubes = List (List Trit)

-- a pair lies in one side alone
not_in_both : (cube : List Trit) (position : ℕ) (pair : Pair) → slice_get cube position ≡ Some Free → IsIn pair (set cube position Zero) → IsIn pair (set cube position One) → ⊥
not_in_both cube position pair free zero one =
    let within = slice_get_within cube position Free free in
    meet_at (set cube position Zero) (set cube position One) pair.first pair.second zero one position Zero One
    (slice_get-set_same cube position Zero within) (slice_get-set_same cube position One within)

in_cube : (t : Trit) (cube : List Trit) (position : ℕ) (pair : Pair) → slice_get cube position ≡ Some Free → IsIn pair (set cube position t) → IsIn pair cube
in_cube t cube position pair free h = wider t cube position pair.first pair.second free h

abbrev InSome : Pair → Option (List Trit) → Type 0
InSome pair (Some cube) = IsIn pair cube
InSome pair None = ⊥

-- ---- one cube in place of another, with the same admitted pairs

module _ (cubes : Cubes) (n : ℕ) (cube half : List Trit) (at : slice_get cubes n ≡ Some cube) (part : (pair : Pair) → IsIn pair half → IsIn pair cube)
    (pair : Pair) where
  stays : (other : ℕ) (that : List Trit) → slice_get (set cubes n half) other ≡ Some that → IsIn pair that
      → (there : List Trit) × (slice_get cubes other ≡ Some there) × IsIn pair there
  stays other that stands inside = elim (slice_get-set_cases cubes n half other that stands) [
    | inl here ↦ (cube, subst (λ (k : ℕ). slice_get cubes k ≡ Some cube) (sym here.0) at, part pair (subst (λ (x : List Trit). IsIn pair x) (sym here.1) inside))
    | inr there ↦ (that, there.1, inside)
  ]

  pub in_half : LiesInOne pair cubes → (IsIn pair cube → IsIn pair half) → LiesInOne pair (set cubes n half)
  in_half lies all = elim (order lies.place n) [
    | same e ↦ record {
      place = n;
      cube = half;
      at = slice_get-set_same cubes n half (slice_get_within cubes n cube at);
      inside = all (subst (λ (o : Option (List Trit)). InSome pair o) (sym lies.at ∙ ap (λ (k : ℕ). slice_get cubes k) e ∙ at) lies.inside);
      in_no_other = λ other that stands inside. let there = stays other that stands inside in lies.in_no_other other there.0 there.1 there.2 ∙ e;
    }
    | apart differ ↦ record {
      place = lies.place;
      cube = lies.cube;
      at = slice_get-set_other cubes n half lies.place differ ∙ lies.at;
      inside = lies.inside;
      in_no_other = λ other that stands inside. let there = stays other that stands inside in lies.in_no_other other there.0 there.1 there.2;
    }
  ]

-- ---- both halves

module _ (cubes : Cubes) (n : ℕ) (cube : List Trit) (position : ℕ) (at : slice_get cubes n ≡ Some cube) (free : slice_get cube position ≡ Some Free)
    (pair : Pair) where
  abbrev zero_half : List Trit
  zero_half = set cube position Zero

  abbrev one_half : List Trit
  one_half = set cube position One

  abbrev both_halves : Cubes
  both_halves = set cubes n zero_half ++ one_half ∷ []

  there_before : (other : ℕ) (that : List Trit) → slice_get both_halves other ≡ Some that → IsIn pair that
      → ((there : List Trit) × (slice_get cubes other ≡ Some there) × IsIn pair there × (other ≡ n → IsIn pair zero_half)) ⊎ ((other ≡ length cubes) × IsIn pair one_half)
  there_before other that stands inside = elim (slice_get-push_cases (set cubes n zero_half) one_half other that stands) [
    | inl front ↦ elim (slice_get-set_cases cubes n zero_half other that front) [
      | inl here ↦
          let half = subst (λ (x : List Trit). IsIn pair x) (sym here.1) inside in
          inl (cube, subst (λ (k : ℕ). slice_get cubes k ≡ Some cube) (sym here.0) at, in_cube Zero cube position pair free half, λ e. half)
      | inr there ↦ inl (that, there.1, inside, λ e. absurd (there.0 e))
    ]
    | inr last ↦ inr (last.0 ∙ length-set cubes n zero_half, subst (λ (x : List Trit). IsIn pair x) (sym last.1) inside)
  ]

  pub in_halves : LiesInOne pair cubes → LiesInOne pair both_halves
  in_halves lies = elim (order lies.place n) [
    | apart differ ↦ record {
      place = lies.place;
      cube = lies.cube;
      at = slice_get-append_left (set cubes n zero_half) (one_half ∷ []) lies.place lies.cube (slice_get-set_other cubes n zero_half lies.place differ ∙ lies.at);
      inside = lies.inside;
      in_no_other = λ other that stands inside. elim (there_before other that stands inside) [
        | inl there ↦ lies.in_no_other other there.0 there.1 there.2
        | inr last ↦ absurd (differ (sym (lies.in_no_other n cube at (in_cube One cube position pair free last.1))))
      ];
    }
    | same e ↦
        let here : IsIn pair cube = subst (λ (o : Option (List Trit)). InSome pair o) (sym lies.at ∙ ap (λ (k : ℕ). slice_get cubes k) e ∙ at) lies.inside in
        elim (side cube position pair.first pair.second free here) [
          | low zero ↦ record {
            place = n;
            cube = zero_half;
            at = slice_get-append_left (set cubes n zero_half) (one_half ∷ []) n zero_half (slice_get-set_same cubes n zero_half (slice_get_within cubes n cube at));
            inside = zero;
            in_no_other = λ other that stands inside. elim (there_before other that stands inside) [
              | inl there ↦ lies.in_no_other other there.0 there.1 there.2 ∙ e
              | inr last ↦ absurd (not_in_both cube position pair free zero last.1)
            ];
          }
          | high one ↦ record {
            place = length cubes;
            cube = one_half;
            at = slice_get-append_right (set cubes n zero_half) (one_half ∷ []) 0 (length cubes) (omega (arith, length-set cubes n zero_half));
            inside = one;
            in_no_other = λ other that stands inside. elim (there_before other that stands inside) [
              | inl there ↦ absurd (not_in_both cube position pair free (there.3 (lies.in_no_other other there.0 there.1 there.2 ∙ e)) one)
              | inr last ↦ last.0
            ];
          }
        ]
  ]

-- ---- shares

abbrev pub share_of : (admit : Admitted) (cubes : Cubes) (n : ℕ) (cube : List Trit) → AreShares admit cubes → slice_get cubes n ≡ Some cube → IsShare admit cube
share_of admit cubes n cube shares at = All-contains (IsShare admit) cubes cube shares.shares (slice_get-Contains cubes n cube at)

half_share : (admit : Admitted) (t : Trit) (cube : List Trit) (position : ℕ) → slice_get cube position ≡ Some Free → IsShare admit cube
    → HasAdmitted admit (set cube position t) → IsShare admit (set cube position t)
half_share admit t cube position free share some = record {
  some = some;
  inside = λ pair h. share.inside pair (in_cube t cube position pair free h);
  fits = length-set cube position t ∙ share.fits;
}

module _ (admit : Admitted) (cubes : Cubes) (n : ℕ) (cube : List Trit) (position : ℕ) (shares : AreShares admit cubes) (at : slice_get cubes n ≡ Some cube)
    (free : slice_get cube position ≡ Some Free) where
  whole : IsShare admit cube
  whole = share_of admit cubes n cube shares at

  -- the zero side has no admitted pair
  pub only_high : (¬ HasAdmitted admit (set cube position Zero)) → AreShares admit (set cubes n (set cube position One))
  only_high none =
      let all : (pair : Pair) → IsAdmitted admit pair → IsIn pair cube → IsIn pair (set cube position One) = λ pair admitted inside.
      elim (side cube position pair.first pair.second free inside) [
        | low zero ↦ absurd (none (pair, admitted, zero))
        | high one ↦ one
      ] in
      let pair = whole.some.0 in
      record {
        partition = λ pair admitted. in_half cubes n cube (set cube position One) at (λ pair h. in_cube One cube position pair free h) pair
            (shares.partition pair admitted) (all pair admitted);
        shares = All-set (IsShare admit) cubes n (set cube position One)
            (half_share admit One cube position free whole (pair, whole.some.1, all pair whole.some.1 whole.some.2)) shares.shares;
      }

  -- the one side has none
  pub only_low : HasAdmitted admit (set cube position Zero) → (¬ HasAdmitted admit (set cube position One)) → AreShares admit (set cubes n (set cube position Zero))
  only_low some none = record {
    partition = λ pair admitted. in_half cubes n cube (set cube position Zero) at (λ pair h. in_cube Zero cube position pair free h) pair
        (shares.partition pair admitted) (λ inside. elim (side cube position pair.first pair.second free inside) [
          | low zero ↦ zero
          | high one ↦ absurd (none (pair, admitted, one))
        ]);
    shares = All-set (IsShare admit) cubes n (set cube position Zero) (half_share admit Zero cube position free whole some) shares.shares;
  }

  pub both_sides : HasAdmitted admit (set cube position Zero) → HasAdmitted admit (set cube position One)
      → AreShares admit (set cubes n (set cube position Zero) ++ set cube position One ∷ [])
  both_sides zero one = record {
    partition = λ pair admitted. in_halves cubes n cube position at free pair (shares.partition pair admitted);
    shares = All-push (IsShare admit) (set cubes n (set cube position Zero)) (set cube position One)
        (All-set (IsShare admit) cubes n (set cube position Zero) (half_share admit Zero cube position free whole zero) shares.shares)
        (half_share admit One cube position free whole one);
  }
