-- A joining under way: each step leads on.
use Rattle.std.proofs.Common.{◌≡◌, ◌≢◌, ◌<◌, ℕ, zero, suc, true, List, [], ◌∷◌, ◌++◌, length, set, Some, None, Option, refl, sym, ap, subst, ◌∙◌, arith, append_assoc}
use Rattle.std.specs.Prelude.{slice_get, All, Contains}
use Rattle.std.proofs.lemmas.List.{append-nil, length-set}
use Rattle.std.proofs.lemmas.List.Kept.{AllPairs-filter}
use Rattle.std.proofs.lemmas.List.Elements.{All-filter, All-contains, All-push, All-nil, All-cons, All-same}
use Rattle.td_gates.proofs.Places.{All-from_contains}
use Rattle.td_domain.specs.declared.cubes.Trit.{Trit}
use Rattle.td_domain.specs.declared.cubes.Trit.TheVariants.{Zero, One, Free}
use Rattle.td_domain.specs.Pairs.{Pair}
use Rattle.td_domain.specs.Cubes.{IsIn}
use Rattle.td_domain.specs.Admits.{Admitted, HasAdmitted}
use Rattle.td_certificate.specs.declared.tree.Node.{Node}
use Rattle.td_certificate.specs.declared.tree.Node.TheVariants as node
use Rattle.td_certificate.specs.declared.certificate.Certificate.{Certificate}
use Rattle.td_join.specs.declared.fault.JoinFault.{JoinFault}
use Rattle.td_join.specs.declared.fault.JoinFault.TheVariants as fault
use Rattle.td_join.specs.declared.parts.Part.{Part}
use Rattle.td_join.specs.declared.parts.Group.{Group}
use Rattle.td_join.specs.Faults.{IsLeftEmpty, bare, in_zero, in_one}
use Rattle.td_join.specs.Joining.{pins_of, is_zero, is_one, is_known, zeros, ones, AreKnownAt, AreJoined, halved}
use Rattle.td_join.specs.Steps.{certificate_of, certificates_of, IsPlaced, AreInOrder, AreAllInside, zero_parts, one_parts, IsJoinable, IsStuck}
use Rattle.td_join.specs.Stacks.{members, AreAllJoined, IsGroup, IsUnderWay, IsTreeFault}
use Rattle.td_join.proofs.Cubing.{wider, Meet, meet_at, map_filter, filter_has}
use Rattle.td_join.proofs.Restricting.{is_known_at, zero_joinable, one_joinable}
use Rattle.td_join.proofs.Joins.{some_certificates}
use Rattle.td_join.proofs.Within.{zero_within, one_within, has_member, member}
use Rattle.std.proofs.lemmas.Option.{slice_get_within}
use Rattle.td_gates.proofs.Places.{slice_get-set_same}

-- ---- the stack

-- the group on top comes first
with_top : (admit : Admitted) (groups : List Group) (top : Group) (tree rest : List Node) → AreJoined admit top.cube (members top) tree
    → AreAllJoined admit groups rest → AreAllJoined admit (groups ++ top ∷ []) (tree ++ rest)
with_top admit [] top tree rest joined none = ([], tree, refl, joined, ap (λ (r : List Node). tree ++ r) none ∙ append-nil tree)
with_top admit (g ∷ groups) top tree rest joined all =
    (tree ++ all.0, all.1, with_top admit groups top tree all.0 joined all.2, all.3, ap (λ (r : List Node). tree ++ r) all.4 ∙ sym (append_assoc tree all.0 all.1))

record HasTop (admit : Admitted) (groups : List Group) (top : Group) (nodes : List Node) : Type 0 where
  tree : List Node
  rest : List Node
  joined : AreJoined admit top.cube (members top) tree
  others : AreAllJoined admit groups rest
  parts : nodes ≡ tree ++ rest

without_top : (admit : Admitted) (groups : List Group) (top : Group) (nodes : List Node) → AreAllJoined admit (groups ++ top ∷ []) nodes
    → HasTop admit groups top nodes
without_top admit [] top nodes all =
    record { tree = all.1; rest = []; joined = all.3; others = refl; parts = all.4 ∙ ap (λ (f : List Node). f ++ all.1) all.2 ∙ sym (append-nil all.1) }
without_top admit (g ∷ groups) top nodes all =
    let deeper = without_top admit groups top all.0 all.2 in
    record {
      tree = deeper.tree;
      rest = deeper.rest ++ all.1;
      joined = deeper.joined;
      others = (deeper.rest, all.1, deeper.others, all.3, refl);
      parts = all.4 ∙ ap (λ (f : List Node). f ++ all.1) deeper.parts ∙ append_assoc deeper.tree deeper.rest all.1;
    }

last_of : (P : Group → Type 0) (groups : List Group) (top : Group) → All P (groups ++ top ∷ []) → All P groups × P top
last_of P groups top all = (
  All-from_contains P groups (λ g has. All-contains P (groups ++ top ∷ []) g all (in_front groups top g has)),
  All-contains P (groups ++ top ∷ []) top all (at_end groups top),
) where
  in_front : (groups : List Group) (top g : Group) → Contains groups g → Contains (groups ++ top ∷ []) g
  in_front [] top g has = absurd (omega (arith, has.1))
  in_front (h ∷ groups) top g (zero, below, at) = (0, omega arith, at)
  in_front (h ∷ groups) top g (suc k, below, at) = let deeper = in_front groups top g (k, omega (arith, below), at) in (suc deeper.0, omega (arith, deeper.1), deeper.2)

  at_end : (groups : List Group) (top : Group) → Contains (groups ++ top ∷ []) top
  at_end [] top = (0, omega arith, refl)
  at_end (h ∷ groups) top = let deeper = at_end groups top in (suc deeper.0, omega (arith, deeper.1), deeper.2)

module _ (certificates : List Certificate) (admit : Admitted) where
  pub top_known : (nodes : List Node) (groups : List Group) (top : Group) → IsUnderWay certificates admit nodes (groups ++ top ∷ [])
      → IsGroup certificates admit top
  top_known nodes groups top way = (last_of (IsGroup certificates admit) groups top way.groups_are).1

  pub begun : (group : Group) → group.cube ≡ admit.pins → members group ≡ certificates → All (IsPlaced certificates) group.parts.items
      → AreInOrder group.parts.items → AreAllInside admit.pins group.parts.items → IsUnderWay certificates admit [] ([] ++ group ∷ [])
  begun group cube all placed order within = record {
    goes_on = λ rest joined. let top = without_top admit [] group rest joined in
        subst (λ (ns : List Node). AreJoined admit admit.pins certificates ns) (sym (top.parts ∙ ap (λ (r : List Node). top.tree ++ r) top.others ∙ append-nil top.tree))
        (subst (λ (cs : List Certificate). AreJoined admit admit.pins cs top.tree) all
        (subst (λ (x : List Trit). AreJoined admit x (members group) top.tree) cube top.joined));
    groups_are = All-cons (IsGroup certificates admit) group [] (record {
      joinable = subst (λ (x : List Trit). IsJoinable admit admit.pins certificates → IsJoinable admit x (members group)) (sym cube)
          (subst (λ (cs : List Certificate). IsJoinable admit admit.pins certificates → IsJoinable admit admit.pins cs) (sym all) (λ j. j));
      all = λ c pair has pinned inside. subst (λ (cs : List Certificate). Contains cs c) (sym all) has;
      inside = λ pair. subst (λ (x : List Trit). IsIn pair x → IsIn pair admit.pins) (sym cube) (λ h. h);
      fits = ap length cube;
      placed = placed;
      left = λ gap. subst (λ (x : List Trit). IsLeftEmpty x (members group) gap → IsLeftEmpty admit.pins certificates gap) (sym cube)
          (subst (λ (cs : List Certificate). IsLeftEmpty admit.pins cs gap → IsLeftEmpty admit.pins certificates gap) (sym all) (λ h. h));
      in_order = order;
      within = subst (λ (x : List Trit). AreAllInside x group.parts.items) (sym cube) within;
    }) (All-nil (IsGroup certificates admit));
  }

  -- a group that is joined at once
  pub leaf : (nodes : List Node) (groups : List Group) (top : Group) (tree : List Node) → IsUnderWay certificates admit nodes (groups ++ top ∷ [])
      → AreJoined admit top.cube (members top) tree → IsUnderWay certificates admit (nodes ++ tree) groups
  leaf nodes groups top tree way joined = record {
    goes_on = λ rest others.
        subst (λ (ns : List Node). AreJoined admit admit.pins certificates ns) (sym (append_assoc nodes tree rest))
        (way.goes_on (tree ++ rest) (with_top admit groups top tree rest joined others));
    groups_are = (last_of (IsGroup certificates admit) groups top way.groups_are).0;
  }

  -- ---- a group that is halved

  zero_known : (o : Option Trit) → is_known o ≡ true → ((t : Trit) → o ≡ Some t → Meet t Zero) → is_zero o ≡ true
  zero_known (Some Zero) k meets = refl
  zero_known (Some One) k meets = absurd (meets One refl)
  zero_known (Some Free) k meets = absurd cc
  zero_known None k meets = absurd cc

  one_known : (o : Option Trit) → is_known o ≡ true → ((t : Trit) → o ≡ Some t → Meet t One) → is_one o ≡ true
  one_known (Some One) k meets = refl
  one_known (Some Zero) k meets = absurd (meets Zero refl)
  one_known (Some Free) k meets = absurd cc
  one_known None k meets = absurd cc

  pub low_group : (group low : Group) (position : ℕ) → IsGroup certificates admit group → group.parts.items ≢ [] → slice_get group.cube position ≡ Some Free
      → AreKnownAt position (members group) → low.cube ≡ set group.cube position Zero → low.parts.items ≡ zero_parts position group.parts.items
      → IsGroup certificates admit low
  low_group group low position known some free at cube parts =
      let same : members low ≡ zeros position (members group) =
      ap (λ (ps : List Part). certificates_of ps) parts ∙ map_filter certificate_of (λ c. is_zero (slice_get (pins_of c) position)) group.parts.items in
      let within = slice_get_within group.cube position Free free in
      record {
        joinable = λ all. let here = known.joinable all in
            let half = zero_joinable admit group.cube (members group) here.0 here.1 position free at in (
              half.0,
              subst (λ (x : List Trit). AreJoined admit x (members low) half.0) (sym cube)
                  (subst (λ (cs : List Certificate). AreJoined admit (set group.cube position Zero) cs half.0) (sym same) half.1),
            );
        all = λ c pair has pinned inside.
            let here = subst (λ (x : List Trit). IsIn pair x) cube inside in
            let member = known.all c pair has pinned (wider Zero group.cube position pair.first pair.second free here) in
            subst (λ (cs : List Certificate). Contains cs c) (sym same)
            (filter_has (λ d. is_zero (slice_get (pins_of d) position)) (members group) c member
            (zero_known (slice_get (pins_of c) position) (All-contains (is_known_at position) (members group) c at member)
            (λ t e. meet_at (pins_of c) (set group.cube position Zero) pair.first pair.second pinned here position t Zero e
            (slice_get-set_same group.cube position Zero within))));
        inside = λ pair inside. known.inside pair
            (wider Zero group.cube position pair.first pair.second free (subst (λ (x : List Trit). IsIn pair x) cube inside));
        fits = ap length cube ∙ length-set group.cube position Zero ∙ known.fits;
        placed = All-same (IsPlaced certificates) low.parts.items (zero_parts position group.parts.items) parts
            (All-filter (λ p. is_zero (slice_get (pins_of p.certificate) position)) (IsPlaced certificates) group.parts.items known.placed);
        left = λ gap h. known.left gap
            (in_zero group.cube gap (members group) position (some_certificates group.parts.items some) free at
            (subst (λ (x : List Trit). IsLeftEmpty x (zeros position (members group)) gap) cube
            (subst (λ (cs : List Certificate). IsLeftEmpty low.cube cs gap) same h)));
        in_order = subst (λ (ps : List Part). AreInOrder ps) (sym parts)
            (AllPairs-filter (λ p q. p.place < q.place) (λ p. is_zero (slice_get (pins_of p.certificate) position)) group.parts.items known.in_order);
        within = subst (λ (ps : List Part). AreAllInside low.cube ps) (sym parts)
            (subst (λ (x : List Trit). AreAllInside x (zero_parts position group.parts.items)) (sym cube)
            (zero_within group.cube position group.parts.items within known.within));
      }

  pub high_group : (group high : Group) (position : ℕ) → IsGroup certificates admit group → group.parts.items ≢ [] → slice_get group.cube position ≡ Some Free
      → AreKnownAt position (members group) → high.cube ≡ set group.cube position One → high.parts.items ≡ one_parts position group.parts.items
      → IsGroup certificates admit high
  high_group group high position known some free at cube parts =
      let same : members high ≡ ones position (members group) =
      ap (λ (ps : List Part). certificates_of ps) parts ∙ map_filter certificate_of (λ c. is_one (slice_get (pins_of c) position)) group.parts.items in
      let within = slice_get_within group.cube position Free free in
      record {
        joinable = λ all. let here = known.joinable all in
            let half = one_joinable admit group.cube (members group) here.0 here.1 position free at in (
              half.0,
              subst (λ (x : List Trit). AreJoined admit x (members high) half.0) (sym cube)
                  (subst (λ (cs : List Certificate). AreJoined admit (set group.cube position One) cs half.0) (sym same) half.1),
            );
        all = λ c pair has pinned inside.
            let here = subst (λ (x : List Trit). IsIn pair x) cube inside in
            let member = known.all c pair has pinned (wider One group.cube position pair.first pair.second free here) in
            subst (λ (cs : List Certificate). Contains cs c) (sym same)
            (filter_has (λ d. is_one (slice_get (pins_of d) position)) (members group) c member
            (one_known (slice_get (pins_of c) position) (All-contains (is_known_at position) (members group) c at member)
            (λ t e. meet_at (pins_of c) (set group.cube position One) pair.first pair.second pinned here position t One e
            (slice_get-set_same group.cube position One within))));
        inside = λ pair inside. known.inside pair
            (wider One group.cube position pair.first pair.second free (subst (λ (x : List Trit). IsIn pair x) cube inside));
        fits = ap length cube ∙ length-set group.cube position One ∙ known.fits;
        placed = All-same (IsPlaced certificates) high.parts.items (one_parts position group.parts.items) parts
            (All-filter (λ p. is_one (slice_get (pins_of p.certificate) position)) (IsPlaced certificates) group.parts.items known.placed);
        left = λ gap h. known.left gap
            (in_one group.cube gap (members group) position (some_certificates group.parts.items some) free at
            (subst (λ (x : List Trit). IsLeftEmpty x (ones position (members group)) gap) cube
            (subst (λ (cs : List Certificate). IsLeftEmpty high.cube cs gap) same h)));
        in_order = subst (λ (ps : List Part). AreInOrder ps) (sym parts)
            (AllPairs-filter (λ p q. p.place < q.place) (λ p. is_one (slice_get (pins_of p.certificate) position)) group.parts.items known.in_order);
        within = subst (λ (ps : List Part). AreAllInside high.cube ps) (sym parts)
            (subst (λ (x : List Trit). AreAllInside x (one_parts position group.parts.items)) (sym cube)
            (one_within group.cube position group.parts.items within known.within));
      }

  regrouped : (nodes low high rest : List Node) (split : Node) → nodes ++ ((split ∷ (low ++ high)) ++ rest) ≡ (nodes ++ split ∷ []) ++ (low ++ (high ++ rest))
  regrouped nodes low high rest split =
      ap (λ (ns : List Node). nodes ++ split ∷ ns) (append_assoc low high rest) ∙ sym (append_assoc nodes (split ∷ []) (low ++ (high ++ rest)))

  pub halves : (nodes : List Node) (groups : List Group) (top low high : Group) (position : ℕ)
      → IsUnderWay certificates admit nodes (groups ++ top ∷ []) → top.parts.items ≢ [] → slice_get top.cube position ≡ Some Free
      → AreKnownAt position (members top) → low.cube ≡ set top.cube position Zero → low.parts.items ≡ zero_parts position top.parts.items
      → high.cube ≡ set top.cube position One → high.parts.items ≡ one_parts position top.parts.items
      → IsUnderWay certificates admit (nodes ++ node.Split position ∷ []) ((groups ++ high ∷ []) ++ low ∷ [])
  halves nodes groups top low high position way some free at low_cube low_parts high_cube high_parts =
      let both = last_of (IsGroup certificates admit) groups top way.groups_are in
      let lows : members low ≡ zeros position (members top) =
      ap (λ (ps : List Part). certificates_of ps) low_parts ∙ map_filter certificate_of (λ c. is_zero (slice_get (pins_of c) position)) top.parts.items in
      let highs : members high ≡ ones position (members top) =
      ap (λ (ps : List Part). certificates_of ps) high_parts ∙ map_filter certificate_of (λ c. is_one (slice_get (pins_of c) position)) top.parts.items in
      record {
        goes_on = λ rest joined.
            let first = without_top admit (groups ++ high ∷ []) low rest joined in
            let second = without_top admit groups high first.rest first.others in
            let whole = halved top.cube (members top) position first.tree second.tree (some_certificates top.parts.items some) free at
            (subst (λ (x : List Trit). AreJoined admit x (zeros position (members top)) first.tree) low_cube
            (subst (λ (cs : List Certificate). AreJoined admit low.cube cs first.tree) lows first.joined))
            (subst (λ (x : List Trit). AreJoined admit x (ones position (members top)) second.tree) high_cube
            (subst (λ (cs : List Certificate). AreJoined admit high.cube cs second.tree) highs second.joined)) in
            let split : List Node = node.Split position ∷ (first.tree ++ second.tree) in
            subst (λ (ns : List Node). AreJoined admit admit.pins certificates ns)
            (regrouped nodes first.tree second.tree second.rest (node.Split position)
            ∙ ap (λ (ns : List Node). (nodes ++ node.Split position ∷ []) ++ ns) (sym (first.parts ∙ ap (λ (r : List Node). first.tree ++ r) second.parts)))
            (way.goes_on (split ++ second.rest) (with_top admit groups top split second.rest whole second.others));
        groups_are = All-push (IsGroup certificates admit) (groups ++ high ∷ []) low
            (All-push (IsGroup certificates admit) groups high both.0 (high_group top high position both.1 some free at high_cube high_parts))
            (low_group top low position both.1 some free at low_cube low_parts);
      }

  pub ended : (nodes : List Node) → IsUnderWay certificates admit nodes [] → AreJoined admit admit.pins certificates nodes
  ended nodes way = subst (λ (ns : List Node). AreJoined admit admit.pins certificates ns) (append-nil nodes) (way.goes_on [] refl)

  -- ---- faults

  in_no_part : {X : Type 0} (parts : List Part) (c : Certificate) → parts ≡ [] → Contains (certificates_of parts) c → X
  in_no_part [] c e has = absurd (omega (arith, has.1))
  in_no_part (p ∷ parts) c e has = absurd cc

  pub tree_fault : (group : Group) (reported : JoinFault ℕ) → IsGroup certificates admit group → IsStuck admit group.cube group.parts.items reported
      → IsTreeFault admit certificates reported
  tree_fault group fault.OutOfMemory known stuck = tt
  tree_fault group (fault.Gap gap) known stuck =
      let there = subst (λ (x : List Trit). HasAdmitted admit x) (sym stuck.0) stuck.2 in
      record {
        admitted = there;
        fits = ap length stuck.0 ∙ known.fits;
        inside = λ pair h. known.inside pair (subst (λ (x : List Trit). IsIn pair x) stuck.0 h);
        left = known.left gap (subst (λ (x : List Trit). IsLeftEmpty x (members group) gap) stuck.0
            (subst (λ (ps : List Part). IsLeftEmpty gap (certificates_of ps) gap) (sym stuck.1) (bare gap)));
        in_none = All-from_contains (λ c. (pair : Pair) → IsIn pair gap → ¬ IsIn pair (pins_of c)) certificates (λ c has pair h pinned.
            in_no_part group.parts.items c stuck.1 (known.all c pair has pinned (subst (λ (x : List Trit). IsIn pair x) stuck.0 h)));
      }
  tree_fault group (fault.Overlap this that) known (shared, uncut, unjoinable) = (
    record {
      one = shared.one.certificate;
      other = shared.other.certificate;
      one_at = subst (λ (n : ℕ). slice_get certificates n ≡ Some shared.one.certificate) shared.one_place (All-contains (IsPlaced certificates) group.parts.items shared.one known.placed shared.one_among);
      other_at = subst (λ (n : ℕ). slice_get certificates n ≡ Some shared.other.certificate) shared.other_place (All-contains (IsPlaced certificates) group.parts.items shared.other known.placed shared.other_among);
      differ = shared.differ;
      shares = shared.shares;
    },
    λ all. unjoinable (known.joinable all),
  )
  tree_fault group (fault.Crossed this that) known (places, uncut, unjoinable) = (
    record {
      cube = group.cube;
      group = members group;
      one = places.0.part.certificate;
      other = places.1.part.certificate;
      one_at = subst (λ (n : ℕ). slice_get certificates n ≡ Some places.0.part.certificate) places.0.place_is (All-contains (IsPlaced certificates) group.parts.items places.0.part known.placed places.0.among);
      other_at = subst (λ (n : ℕ). slice_get certificates n ≡ Some places.1.part.certificate) places.1.place_is (All-contains (IsPlaced certificates) group.parts.items places.1.part known.placed places.1.among);
      differ = places.2;
      one_among = has_member group.parts.items places.0.part places.0.among;
      other_among = has_member group.parts.items places.1.part places.1.among;
      members = member certificates group.cube group.parts.items known.placed known.within;
      inside = known.inside;
      all = known.all;
      uncut = uncut;
    },
    λ all. unjoinable (known.joinable all),
  )
  tree_fault group fault.NoCertificate known stuck = absurd stuck.0
  tree_fault group (fault.OtherCircuit this that) known stuck = absurd stuck.0
  tree_fault group (fault.OtherHold this that) known stuck = absurd stuck.0
  tree_fault group (fault.OtherFlips this that) known stuck = absurd stuck.0
  tree_fault group (fault.OtherMoments this that) known stuck = absurd stuck.0
  tree_fault group (fault.OtherTerms this that) known stuck = absurd stuck.0
  tree_fault group (fault.Outside this) known stuck = absurd stuck.0
  tree_fault group (fault.FalseNone this) known stuck = absurd stuck.0
