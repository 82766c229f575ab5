-- The leaves that are left hold each pair with a greater delay than was found, after a leaf was
-- closed or split.
use Rattle.std.proofs.Common.{◌≡◌, ℕ, zero, suc, ◌+◌, ◌<◌, ◌≤◌, ◌⊎◌, max, List, [], ◌∷◌, ◌++◌, length, map, take, drop, get_or, min, refl, sym, ap, subst, ◌∙◌, inl, inr, ⊎_elim, arith}
use Rattle.std.specs.Prelude.{slice_get, Some, Result, Ok, Err, OnOk, OnErr}
use Rattle.std.specs.List.{AllByRecursion}
use Rattle.std.specs.Coded.{le_prop}
use Rattle.std.proofs.Math.Logic.{∥∥₁_elim}
use Rattle.std.proofs.lemmas.Option.{slice_get-get_or}
use Rattle.td_domain.specs.declared.cubes.Trit.{Trit}
use Rattle.td_domain.specs.declared.cubes.Trit.TheVariants.{Free}
use Rattle.td_domain.specs.Pairs.{Pair}
use Rattle.td_domain.specs.Cubes.{IsIn}
use Rattle.td_domain.specs.Worst.{IsUpperBound, IsWorst}
use Rattle.td_certificate.specs.Cubes.{zero_side, one_side}
use Rattle.td_certificate.proofs.Acceptance.{side, low, high}
use Rattle.td_search.specs.CutShort.{greatest_of}
use Rattle.td_search.specs.declared.findings.Finding.{Finding}
use Rattle.td_search.specs.declared.findings.Finding.TheVariants.{Closed, Split}
use Rattle.td_search.specs.Findings.{IsTrueFinding, AreTrueFindings}
use Rattle.td_circuit.specs.Settings.{AreMoments}
use Rattle.td_circuit.specs.Numbering.{Numbered, setting, IsNumbering}
use Rattle.td_domain.specs.Admits.{Admitted}
use Rattle.td_search.specs.declared.strategy.Strategy.{Strategy}
use Rattle.td_search.specs.Problems.{Problem, problem_by, has_delay, IsAbove}
use Rattle.td_search.specs.Representatives.{representative}
use Rattle.td_search.proofs.Bounded.{above_bound}
use Rattle.td_search.proofs.Found.{nothing}
use Rattle.td_pool.specs.declared.leaf.OpenLeaf.{OpenLeaf}
use Rattle.td_search.specs.declared.root.Root.{Root}
use Rattle.td_search.specs.Roots.{IsRoot}
use Rattle.td_pool.specs.Watched.{IsFound, FoundIsAtMostWorst}
use Rattle.td_pool.specs.Frontiers.{IsWithin, IsCover, IsSplit, IsLeafSettled, AreSettled, leaf_of, bounds_of}

module _ {X : Type 0} (P : X → Type 0) where
  all_behind : (xs : List X) (y : X) → AllByRecursion P xs → P y → AllByRecursion P (xs ++ y ∷ [])
  all_behind [] y h p = (p, tt)
  all_behind (x ∷ xs) y h p = (h.0, all_behind xs y h.1 p)

  all_before : (xs : List X) (y : X) → AllByRecursion P (xs ++ y ∷ []) → AllByRecursion P xs
  all_before [] y h = tt
  all_before (x ∷ xs) y h = (h.0, all_before xs y h.1)

  all_last : (xs : List X) (y : X) → AllByRecursion P (xs ++ y ∷ []) → P y
  all_last [] y h = h.0
  all_last (x ∷ xs) y h = all_last xs y h.1

  all_moved : (xs : List X) (k : ℕ) (y : X) → slice_get xs k ≡ Some y → AllByRecursion P ((take k xs ++ drop (suc k) xs) ++ y ∷ []) → AllByRecursion P xs
  all_moved [] k y at h = tt
  all_moved (x ∷ xs) zero y at h =
      let same : y ≡ x = cc in (subst P same (all_last xs y h), all_before xs y h)
  all_moved (x ∷ xs) (suc k) y at h = (h.0, all_moved xs k y at h.1)

-- a greater figure to begin with
pub greatest_max : (from bound : ℕ) (others : List ℕ) → greatest_of (max from bound) others ≡ max bound (greatest_of from others)
greatest_max from bound [] = omega arith
greatest_max from bound (x ∷ others) = let e = greatest_max from bound others in omega arith

module _ {X : Type 0} where
  -- the next one is taken off, and the greater of both goes on
  pub greatest_next : (all rest : List X) (next : X) (size : X → ℕ) (from more most : ℕ) → all ≡ next ∷ rest → more ≡ max from (size next)
      → greatest_of from (map size all) ≡ most → greatest_of more (map size rest) ≡ most
  greatest_next all rest next size from more most is same before =
      ap (λ (n : ℕ). greatest_of n (map size rest)) same
      ∙ (greatest_max from (size next) (map size rest) ∙ (ap (λ (xs : List X). greatest_of from (map size xs)) (sym is) ∙ before))

closed_within : (closed : ℕ) (xs : List ℕ) → closed ≤ greatest_of closed xs
closed_within closed [] = omega arith
closed_within closed (x ∷ xs) = let e = closed_within closed xs in omega arith

more_within : (pair : Pair) (top more : ℕ) (leaves : List OpenLeaf) → top ≤ more → AllByRecursion (IsWithin pair top) leaves → AllByRecursion (IsWithin pair more) leaves
more_within pair top more [] le h = tt
more_within pair top more (x ∷ leaves) le h = ((λ is_in. let e = h.0 is_in in omega arith), more_within pair top more leaves le h.1)

all_within : (pair : Pair) (closed : ℕ) (leaves : List OpenLeaf) → AllByRecursion (IsWithin pair (greatest_of closed (bounds_of leaves))) leaves
all_within pair closed [] = tt
all_within pair closed (x ∷ leaves) =
    ((λ is_in. omega arith), more_within pair (greatest_of closed (bounds_of leaves)) (greatest_of closed (bounds_of (x ∷ leaves))) leaves (omega arith) (all_within pair closed leaves))

either : (m n : ℕ) → (m ≤ n) ⊎ (n < m)
either zero n = inl (omega arith)
either (suc m) zero = inr (omega arith)
either (suc m) (suc n) = ⊎_elim (λ (a : m ≤ n). inl (omega arith)) (λ (b : n < m). inr (omega arith)) (either m n)

module _ (asked : Problem) (closed : ℕ) where
  -- the one leaf is that of the pins
  pub cover_begins : (leaf : OpenLeaf) → leaf.cube ≡ asked.admit.pins → IsAbove asked asked.admit.pins leaf.bound → IsCover asked closed (leaf ∷ [])
  cover_begins leaf whole above pair delay top is least all =
      let within = above pair delay is.0.pinned is in
      let here = all.0 (subst (IsIn pair) (sym whole) is.0.pinned) in omega arith

  -- nothing is left above this
  pub cover_none : IsAbove asked asked.admit.pins closed → IsCover asked closed []
  cover_none above pair delay top is least all = let within = above pair delay is.0.pinned is in omega arith

  -- a leaf is the last one
  pub cover_moved : (leaves : List OpenLeaf) (k : ℕ) (leaf : OpenLeaf) → slice_get leaves k ≡ Some leaf → IsCover asked closed leaves
      → IsCover asked closed ((take k leaves ++ drop (k + 1) leaves) ++ leaf ∷ [])
  cover_moved leaves k leaf at cover pair delay top is least all =
      let next : k + 1 ≡ suc k = omega arith in
      cover pair delay top is least (all_moved (IsWithin pair top) leaves k leaf at
      (subst (λ (n : ℕ). AllByRecursion (IsWithin pair top) ((take k leaves ++ drop n leaves) ++ leaf ∷ [])) next all))

  -- a pair of the last leaf has no delay above a figure that is no less than a bound of it
  last_within : (leaf : OpenLeaf) (pair : Pair) (delay top : ℕ) → top < delay → (IsIn pair leaf.cube → delay ≤ top) → IsWithin pair top leaf
  last_within leaf pair delay top more within is_in = absurd (let e = within is_in in omega arith)

  -- the last leaf is closed with a bound of its cube
  pub cover_closed : (rest : List OpenLeaf) (leaf : OpenLeaf) (bound : ℕ) → IsAbove asked leaf.cube bound → IsCover asked closed (rest ++ leaf ∷ [])
      → IsCover asked (max closed bound) rest
  cover_closed rest leaf bound above cover pair delay top is least all = ⊎_elim
      (λ (a : delay ≤ top). a)
      (λ (b : top < delay). cover pair delay top is (omega arith) (all_behind (IsWithin pair top) rest leaf all
      (last_within leaf pair delay top b (λ is_in. let e = above pair delay is_in is in omega arith))))
      (either delay top)

  -- the last leaf is split
  pub cover_split : (rest : List OpenLeaf) (leaf : OpenLeaf) (position bound : ℕ) (leaves : List OpenLeaf) → slice_get leaf.cube position ≡ Some Free
      → IsAbove asked leaf.cube bound → IsSplit rest leaf position bound leaves → IsCover asked closed (rest ++ leaf ∷ []) → IsCover asked closed leaves
  cover_split rest leaf position bound leaves free above split cover pair delay top is least all =
      let zero_leaf : OpenLeaf = leaf_of split.0 (zero_side leaf.cube position) bound in
      let one_leaf : OpenLeaf = leaf_of split.1 (one_side leaf.cube position) bound in
      let both : AllByRecursion (IsWithin pair top) ((rest ++ one_leaf ∷ []) ++ zero_leaf ∷ []) = subst (AllByRecursion (IsWithin pair top)) split.2 all in
      let most = all_before (IsWithin pair top) (rest ++ one_leaf ∷ []) zero_leaf both in
      let zero_within : IsIn pair (zero_side leaf.cube position) → bound ≤ top = all_last (IsWithin pair top) (rest ++ one_leaf ∷ []) zero_leaf both in
      let one_within : IsIn pair (one_side leaf.cube position) → bound ≤ top = all_last (IsWithin pair top) rest one_leaf most in
      ⊎_elim
      (λ (a : delay ≤ top). a)
      (λ (b : top < delay). cover pair delay top is least (all_behind (IsWithin pair top) rest leaf (all_before (IsWithin pair top) rest one_leaf most)
      (last_within leaf pair delay top b (λ is_in.
      let within = above pair delay is_in is in
      elim (side leaf.cube position pair.first pair.second free is_in) [
        | low here ↦ let e = zero_within here in omega arith
        | high here ↦ let e = one_within here in omega arith
      ]))))
      (either delay top)

  -- where memory ran out the leaves are as before
  pub cover_halved : {X Y : Type 0} (r : Result X Y) (rest : List OpenLeaf) (leaf : OpenLeaf) (position bound : ℕ) (old new : List OpenLeaf)
      → OnOk r ((front : List OpenLeaf) (last : OpenLeaf) → old ≡ front ++ last ∷ [] → IsSplit front last position bound new) → OnErr r (new ≡ old)
      → old ≡ rest ++ leaf ∷ [] → slice_get leaf.cube position ≡ Some Free → IsAbove asked leaf.cube bound → IsCover asked closed old → IsCover asked closed new
  cover_halved (Ok x) rest leaf position bound old new split same is free above cover =
      cover_split rest leaf position bound new free above (split rest leaf is) (subst (IsCover asked closed) is cover)
  cover_halved (Err y) rest leaf position bound old new split same is free above cover = subst (IsCover asked closed) (sym same) cover

  -- no admitted pair's delay is above the greatest of what is left and of what was closed
  pub cover_within : (leaves : List OpenLeaf) → IsCover asked closed leaves → IsUpperBound asked.setting asked.admit (greatest_of closed (bounds_of leaves))
  cover_within leaves cover pair delay admitted is =
      cover pair delay (greatest_of closed (bounds_of leaves)) (admitted, is) (closed_within closed (bounds_of leaves)) (all_within pair closed leaves)

-- ---- what is known of the delays

-- an admitted pair has this delay
pub pair_found : (asked : Problem) (pair : Pair) (delay time : ℕ) → has_delay asked pair delay → time ≡ delay → IsFound asked time
pair_found asked pair delay time is same = ∣ (pair, subst (has_delay asked pair) (sym same) is) ∣₁

-- the greater of two is one of them
pub found_max : (asked : Problem) (a b n : ℕ) → n ≡ max a b → IsFound asked a → IsFound asked b → IsFound asked n
found_max asked a b n same one other = ⊎_elim
    (λ (le : a ≤ b). let e : b ≡ n = omega (arith, same, le) in subst (IsFound asked) e other)
    (λ (less : b < a). let e : a ≡ n = omega (arith, same, less) in subst (IsFound asked) e one)
    (either a b)

-- no pair has a greater delay than the worst one
within_worst : (asked : Problem) (time worst : ℕ) (pair : Pair) → has_delay asked pair time → IsWorst asked.setting asked.admit worst → time ≤ worst
within_worst asked time worst pair is w = w.greatest pair time is.0 is.1

pub at_most_worst : FoundIsAtMostWorst
at_most_worst asked time worst found w = ∥∥₁_elim found le_prop (λ it. within_worst asked time worst it.0 it.1 w)

pub upper_min : (asked : Problem) (a b n : ℕ) → n ≡ min a b → IsUpperBound asked.setting asked.admit a → IsUpperBound asked.setting asked.admit b
    → IsUpperBound asked.setting asked.admit n
upper_min asked a b n same one other pair delay admitted is = let e = one pair delay admitted is in let f = other pair delay admitted is in omega arith

pub root_found : (asked : Problem) (root : Root) → IsRoot asked root → IsFound asked root.first
root_found asked root is = pair_found asked (representative asked.admit asked.admit.pins) root.first root.first is.first refl

module _ (strategy : Strategy) (circuit : Numbered) (admit : Admitted) (numbering : IsNumbering circuit) (fit : AreMoments circuit.netlist circuit.moments)
    (root : Root) (known : IsRoot (problem_by strategy circuit admit) root) where
  pub root_above : IsAbove (problem_by strategy circuit admit) admit.pins root.bound
  root_above pair delay is_in is = above_bound strategy circuit numbering fit admit.pins root.bound pair delay known.bound is_in is.1

  pub root_greatest : IsUpperBound (setting circuit) admit root.bound
  root_greatest pair delay admitted is = root_above pair delay admitted.pinned (admitted, is)

-- ---- the last place at which something holds

-- what was read stands in the list
pub stands_below : {X : Type 0} (xs : List X) (k : ℕ) (x : X) → slice_get xs k ≡ Some x → k < length xs
stands_below [] k x is = cc
stands_below (y ∷ xs) zero x is = omega arith
stands_below (y ∷ xs) (suc k) x is = let e = stands_below xs k x is in omega arith

-- one place more at which it doesn't
pub none_more : {X : Type 0} (P : X → Type 0) (xs : List X) (behind place : ℕ) (x : X) → slice_get xs place ≡ Some x → place + behind + 1 ≡ length xs → ¬ P x
    → ((k : ℕ) (y : X) → slice_get xs k ≡ Some y → length xs ≤ k + behind → ¬ P y)
    → (k : ℕ) (y : X) → slice_get xs k ≡ Some y → length xs ≤ k + (behind + 1) → ¬ P y
none_more P xs behind place x at last never before k y here far = ⊎_elim
    (λ (a : length xs ≤ k + behind). before k y here a)
    (λ (b : k + behind < length xs).
    let same : k ≡ place = omega (arith, b, far, last) in
    let one : y ≡ x = cc in
    subst (λ (z : _). ¬ P z) (sym one) never)
    (either (length xs) (k + behind))

-- ---- a walk over what was found

-- the leaves of a stack after others, the next one last
abbrev pub piled : List OpenLeaf → List OpenLeaf → List OpenLeaf
piled front [] = front
piled front (leaf ∷ stack) = piled front stack ++ leaf ∷ []

abbrev pub cubes_in : List OpenLeaf → List (List Trit)
cubes_in [] = []
cubes_in (leaf ∷ stack) = leaf.cube ∷ cubes_in stack

-- what is still to come of what was found is true of the last leaves, one after another
pub record IsWalk (asked : Problem) (leaves : List OpenLeaf) (findings : List Finding) : Type 0 where
  pub front : List OpenLeaf
  pub stack : List OpenLeaf
  pub is : leaves ≡ piled front stack
  pub holds : AreTrueFindings asked (cubes_in stack) findings

-- the next finding is true of the last leaf, and once that is settled so the walk goes on
pub record IsAt (asked : Problem) (leaves : List OpenLeaf) (f : Finding) (findings : List Finding) : Type 0 where
  pub rest : List OpenLeaf
  pub leaf : OpenLeaf
  pub is : leaves ≡ rest ++ leaf ∷ []
  pub holds : IsTrueFinding asked leaf.cube f
  pub goes_on : (later : List OpenLeaf) → IsLeafSettled rest leaf f later → IsWalk asked later findings

pub walk_at : (asked : Problem) (leaves : List OpenLeaf) (f : Finding) (findings : List Finding) → IsWalk asked leaves (f ∷ findings) → IsAt asked leaves f findings
walk_at asked leaves f findings walk = at walk.front walk.stack walk.is walk.holds
  where
    goes : (front stack : List OpenLeaf) (leaf : OpenLeaf) (g : Finding) → AreTrueFindings asked (cubes_in (leaf ∷ stack)) (g ∷ findings) → (later : List OpenLeaf)
        → IsLeafSettled (piled front stack) leaf g later → IsWalk asked later findings
    goes front stack leaf (Closed mark bound) holds later is = record { front = front; stack = stack; is = is; holds = holds.1 }
    goes front stack leaf (Split position bound delay) holds later is = record {
      front = front;
      stack = leaf_of is.0 (zero_side leaf.cube position) bound ∷ leaf_of is.1 (one_side leaf.cube position) bound ∷ stack;
      is = is.2;
      holds = holds.1;
    }

    at : (front stack : List OpenLeaf) → leaves ≡ piled front stack → AreTrueFindings asked (cubes_in stack) (f ∷ findings) → IsAt asked leaves f findings
    at front [] is holds = absurd holds
    at front (leaf ∷ stack) is holds = record { rest = piled front stack; leaf = leaf; is = is; holds = holds.0; goes_on = goes front stack leaf f holds }

-- a walk begins at the last leaf
pub walk_begins : (asked : Problem) (front : List OpenLeaf) (leaf : OpenLeaf) (cube : List Trit) (findings : List Finding) (leaves : List OpenLeaf)
    → leaves ≡ front ++ leaf ∷ [] → leaf.cube ≡ cube → AreTrueFindings asked (cube ∷ []) findings → IsWalk asked leaves findings
walk_begins asked front leaf cube findings leaves is same holds =
    record { front = front; stack = leaf ∷ []; is = is; holds = subst (λ (c : List Trit). AreTrueFindings asked (c ∷ []) findings) (sym same) holds }

-- the next of what was found, where a walk has come to it
drop_step : (findings : List Finding) (i : ℕ) (f : Finding) → slice_get findings i ≡ Some f → drop i findings ≡ f ∷ drop (suc i) findings
drop_step [] i f is = cc
drop_step (g ∷ findings) zero f is = let same : g ≡ f = cc in ap (λ (h : Finding). h ∷ findings) same
drop_step (g ∷ findings) (suc i) f is = drop_step findings i f is

pub walk_next : (asked : Problem) (leaves : List OpenLeaf) (findings : List Finding) (i : ℕ) (f : Finding) → slice_get findings i ≡ Some f
    → IsWalk asked leaves (drop i findings) → IsAt asked leaves f (drop (i + 1) findings)
walk_next asked leaves findings i f is walk =
    let next : suc i ≡ i + 1 = omega arith in
    subst (λ (n : ℕ). IsAt asked leaves f (drop n findings)) next
    (walk_at asked leaves f (drop (suc i) findings) (subst (IsWalk asked leaves) (drop_step findings i f is) walk))

-- the element of a list at a place that was read
pub read_at : {X : Type 0} (xs : List X) (k : ℕ) (x : X) → k < length xs → x ≡ get_or xs k x → slice_get xs k ≡ Some x
read_at xs k x inside is = slice_get-get_or xs k x inside ∙ ap Some (sym is)

-- a walk at a place of what was found
pub finding_at : (asked : Problem) (leaves : List OpenLeaf) (findings : List Finding) (i : ℕ) → i < length findings → IsWalk asked leaves (drop i findings)
    → IsAt asked leaves (get_or findings i nothing) (drop (i + 1) findings)
finding_at asked leaves findings i inside walk =
    walk_next asked leaves findings i (get_or findings i nothing) (slice_get-get_or findings i nothing inside) walk

-- one finding more, before the others
pub settled_more : (leaves later after : List OpenLeaf) (findings : List Finding) (i : ℕ) (rest : List OpenLeaf) (leaf : OpenLeaf) → i < length findings → leaves ≡ rest ++ leaf ∷ []
    → IsLeafSettled rest leaf (get_or findings i nothing) later → AreSettled later (drop (i + 1) findings) after → AreSettled leaves (drop i findings) after
settled_more leaves later after findings i rest leaf inside is done others =
    let next : i + 1 ≡ suc i = omega arith in
    subst (λ (l : List Finding). AreSettled leaves l after) (sym (drop_step findings i (get_or findings i nothing) (slice_get-get_or findings i nothing inside)))
    (rest, leaf, later, is, done, subst (λ (n : ℕ). AreSettled later (drop n findings) after) next others)

-- no finding is left
pub settled_none : (leaves : List OpenLeaf) (findings : List Finding) (i : ℕ) → length findings ≤ i → AreSettled leaves (drop i findings) leaves
settled_none leaves [] zero all = refl
settled_none leaves [] (suc i) all = refl
settled_none leaves (f ∷ findings) zero all = absurd (omega arith)
settled_none leaves (f ∷ findings) (suc i) all = settled_none leaves findings i (omega arith)
