-- Parts under way: each step leads on.
use Rattle.std.proofs.Common.{◌≡◌, ◌<◌, ◌+◌, ℕ, List, [], ◌∷◌, ◌++◌, length, set, Some, sym, ap, subst, ◌∙◌, arith}
use Rattle.std.specs.Prelude.{slice_get, All}
use Rattle.std.proofs.lemmas.List.{length-set, length-map}
use Rattle.std.proofs.lemmas.List.Elements.{All-weaker}
use Rattle.td_gates.proofs.Places.{slice_get-map_some}
use Rattle.td_domain.specs.declared.cubes.Trit.{Trit}
use Rattle.td_domain.specs.declared.cubes.Trit.TheVariants.{Zero, One, Free}
use Rattle.td_domain.specs.Admits.{Admitted, HasAdmitted}
use Rattle.td_search.specs.Problems.{IsPart}
use Rattle.td_parts.specs.declared.cutting.Cutting.{Cutting}
use Rattle.td_parts.specs.declared.part.Part.{Part}
use Rattle.td_parts.specs.Queues.{AreBelow}
use Rattle.td_circuit.specs.Settings.{Setting}
use Rattle.td_search.specs.declared.strategy.Strategy.{Strategy}
use Rattle.td_parts.specs.Splits.{IsTruePart, cube_of, cubes_of}
use Rattle.td_parts.specs.Sharing.{IsShare, AreShares, IsFreeIn, IsCutting, weight}
use Rattle.td_join.proofs.Weights.{Known}
use Rattle.td_parts.proofs.Shares.{share_of, only_high, only_low, both_sides}
use Rattle.td_parts.proofs.Weighing.{one_less, both_less}

-- ---- halves

pub narrowed_length : (new old : List Part) (n : ℕ) (half : List Trit) → cubes_of new ≡ set (cubes_of old) n half → length new ≡ length old
narrowed_length new old n half e = sym (length-map new cube_of) ∙ ap length e ∙ length-set (cubes_of old) n half ∙ length-map old cube_of

snoc_length : (cubes : List (List Trit)) (half : List Trit) → length (cubes ++ half ∷ []) ≡ length cubes + 1
snoc_length [] half = omega arith
snoc_length (x ∷ cubes) half = omega (arith, snoc_length cubes half)

pub added_length : (new old : List Part) (half : List Trit) → cubes_of new ≡ cubes_of old ++ half ∷ [] → length new ≡ length old + 1
added_length new old half e =
    sym (length-map new cube_of) ∙ ap length e ∙ snoc_length (cubes_of old) half ∙ ap (λ (k : ℕ). k + 1) (length-map old cube_of)

pub one_half : (strategy : Strategy) (given : Setting) (admit : Admitted) (old new : Cutting) (place : ℕ) (half : List Trit) → AreShares admit (set (cubes_of old.parts.items) place half)
    → cubes_of new.parts.items ≡ set (cubes_of old.parts.items) place half → All (IsTruePart strategy given) new.parts.items
    → AreBelow (length old.parts.items) new.queue → IsCutting strategy given admit new
one_half strategy given admit old new place half shares e splits queued = record {
  shares = subst (λ (cubes : List (List Trit)). AreShares admit cubes) (sym e) shares;
  splits = splits;
  queued = subst (λ (n : ℕ). AreBelow n new.queue) (sym (narrowed_length new.parts.items old.parts.items place half e)) queued;
}

pub two_halves : (strategy : Strategy) (given : Setting) (admit : Admitted) (old new : Cutting) (cubes : List (List Trit)) (half : List Trit) → AreShares admit (cubes ++ half ∷ [])
    → cubes_of old.parts.items ≡ cubes → cubes_of new.parts.items ≡ cubes_of old.parts.items ++ half ∷ [] → All (IsTruePart strategy given) new.parts.items
    → AreBelow (length old.parts.items + 1) new.queue → IsCutting strategy given admit new
two_halves strategy given admit old new cubes half shares before e splits queued = record {
  shares = subst (λ (cs : List (List Trit)). AreShares admit cs) (sym (e ∙ ap (λ (cs : List (List Trit)). cs ++ half ∷ []) before)) shares;
  splits = splits;
  queued = subst (λ (n : ℕ). AreBelow n new.queue) (sym (added_length new.parts.items old.parts.items half e)) queued;
}

-- ---- a part that is halved

module _ (strategy : Strategy) (given : Setting) (admit : Admitted) (old : Cutting) (place : ℕ) (part : Part) (position : ℕ) (cutting : IsCutting strategy given admit old)
    (at : slice_get old.parts.items place ≡ Some part) (free_at : IsFreeIn (cubes_of old.parts.items) place position) where
  at_cube : slice_get (cubes_of old.parts.items) place ≡ Some part.cube
  at_cube = slice_get-map_some cube_of old.parts.items place part at

  free : slice_get part.cube position ≡ Some Free
  free = free_at part.cube at_cube

  pub half_fits : (t : Trit) (half : List Trit) → half ≡ set part.cube position t → length half ≡ length admit.pins
  half_fits t half e = ap length e ∙ length-set part.cube position t ∙ (share_of admit (cubes_of old.parts.items) place part.cube cutting.shares at_cube).fits

  -- the zero side has no admitted pair
  pub high_kept : (new : Cutting) (low high : List Trit) → low ≡ set part.cube position Zero → high ≡ set part.cube position One → (¬ HasAdmitted admit low)
      → cubes_of new.parts.items ≡ set (cubes_of old.parts.items) place high → All (IsTruePart strategy given) new.parts.items
      → AreBelow (length old.parts.items) new.queue → IsCutting strategy given admit new
  high_kept new low high is_low is_high none e splits queued =
      one_half strategy given admit old new place high
      (subst (λ (h : List Trit). AreShares admit (set (cubes_of old.parts.items) place h)) (sym is_high)
      (only_high admit (cubes_of old.parts.items) place part.cube position cutting.shares at_cube free
      (subst (λ (l : List Trit). ¬ HasAdmitted admit l) is_low none)))
      e splits queued

  -- the one side has none
  pub low_kept : (new : Cutting) (low high : List Trit) → low ≡ set part.cube position Zero → high ≡ set part.cube position One → HasAdmitted admit low
      → (¬ HasAdmitted admit high) → cubes_of new.parts.items ≡ set (cubes_of old.parts.items) place low → All (IsTruePart strategy given) new.parts.items
      → AreBelow (length old.parts.items) new.queue → IsCutting strategy given admit new
  low_kept new low high is_low is_high some none e splits queued =
      one_half strategy given admit old new place low
      (subst (λ (l : List Trit). AreShares admit (set (cubes_of old.parts.items) place l)) (sym is_low)
      (only_low admit (cubes_of old.parts.items) place part.cube position cutting.shares at_cube free
      (subst (λ (l : List Trit). HasAdmitted admit l) is_low some) (subst (λ (h : List Trit). ¬ HasAdmitted admit h) is_high none)))
      e splits queued

  pub both_kept : (mid new : Cutting) (low high : List Trit) → low ≡ set part.cube position Zero → high ≡ set part.cube position One → HasAdmitted admit low
      → HasAdmitted admit high → cubes_of mid.parts.items ≡ set (cubes_of old.parts.items) place low
      → cubes_of new.parts.items ≡ cubes_of mid.parts.items ++ high ∷ [] → All (IsTruePart strategy given) new.parts.items
      → AreBelow (length old.parts.items) mid.queue
      → (AreBelow (length mid.parts.items) mid.queue → AreBelow (length mid.parts.items + 1) new.queue) → IsCutting strategy given admit new
  both_kept mid new low high is_low is_high some more before e splits queued adds =
      two_halves strategy given admit mid new (set (cubes_of old.parts.items) place low) high
      (subst (λ (h : List Trit). AreShares admit (set (cubes_of old.parts.items) place low ++ h ∷ [])) (sym is_high)
      (subst (λ (l : List Trit). AreShares admit (set (cubes_of old.parts.items) place l ++ set part.cube position One ∷ [])) (sym is_low)
      (both_sides admit (cubes_of old.parts.items) place part.cube position cutting.shares at_cube free
      (subst (λ (l : List Trit). HasAdmitted admit l) is_low some) (subst (λ (h : List Trit). HasAdmitted admit h) is_high more))))
      before e splits
      (adds (subst (λ (n : ℕ). AreBelow n mid.queue) (sym (narrowed_length mid.parts.items old.parts.items place low before)) queued))

  pub one_smaller : (t : Trit) → Known t → (new : Cutting) (half : List Trit) → half ≡ set part.cube position t
      → cubes_of new.parts.items ≡ set (cubes_of old.parts.items) place half → weight (cubes_of new.parts.items) < weight (cubes_of old.parts.items)
  one_smaller t known new half is e =
      subst (λ (cubes : List (List Trit)). weight cubes < weight (cubes_of old.parts.items))
      (sym (e ∙ ap (λ (h : List Trit). set (cubes_of old.parts.items) place h) is))
      (one_less (cubes_of old.parts.items) place part.cube position at_cube free t known)

  pub both_smaller : (mid new : Cutting) (low high : List Trit) → low ≡ set part.cube position Zero → high ≡ set part.cube position One
      → cubes_of mid.parts.items ≡ set (cubes_of old.parts.items) place low → cubes_of new.parts.items ≡ cubes_of mid.parts.items ++ high ∷ []
      → weight (cubes_of new.parts.items) < weight (cubes_of old.parts.items)
  both_smaller mid new low high is_low is_high before e =
      subst (λ (cubes : List (List Trit)). weight cubes < weight (cubes_of old.parts.items))
      (sym (e ∙ ap (λ (cubes : List (List Trit)). cubes ++ high ∷ []) before
      ∙ ap (λ (l : List Trit). set (cubes_of old.parts.items) place l ++ high ∷ []) is_low
      ∙ ap (λ (h : List Trit). set (cubes_of old.parts.items) place (set part.cube position Zero) ++ h ∷ []) is_high))
      (both_less (cubes_of old.parts.items) place part.cube position at_cube free)

-- ---- what the shares say of each cube

pub some_each : (admit : Admitted) (cubes : List (List Trit)) → AreShares admit cubes → All (HasAdmitted admit) cubes
some_each admit cubes shares = All-weaker (IsShare admit) (HasAdmitted admit) (λ cube share. share.some) cubes shares.shares

pub inside_each : (admit : Admitted) (cubes : List (List Trit)) → AreShares admit cubes → All (λ cube. IsPart cube admit.pins) cubes
inside_each admit cubes shares = All-weaker (IsShare admit) (λ cube. IsPart cube admit.pins) (λ cube share. share.inside) cubes shares.shares

pub fits_each : (admit : Admitted) (cubes : List (List Trit)) → AreShares admit cubes → All (λ cube. length cube ≡ length admit.pins) cubes
fits_each admit cubes shares = All-weaker (IsShare admit) (λ cube. length cube ≡ length admit.pins) (λ cube share. share.fits) cubes shares.shares
