-- Where certificates are accepted, so is what they are joined into.
use Rattle.std.proofs.Common.{Bool, true, inl, inr, ◌≡◌, ◌+◌, ◌*◌, ◌≤◌, ℕ, List, [], ◌∷◌, ◌++◌, length, set, Some, None, Option, refl, sym, ap, subst, ◌∙◌, arith}
use Rattle.std.specs.Prelude.{slice_get, All, Contains}
use Rattle.std.specs.List.{AllByRecursion}
use Rattle.std.proofs.lemmas.List.{length-set}
use Rattle.std.proofs.lemmas.List.Elements.{All-filter, All-contains}
use Rattle.td_circuit.specs.Settings.{Setting}
use Rattle.td_circuit.specs.Run.{IsDelayOfBits}
use Rattle.td_nets.specs.Netlist.{Netlist}
use Rattle.td_domain.specs.declared.cubes.Trit.{Trit}
use Rattle.td_domain.specs.declared.cubes.Trit.TheVariants.{Zero, One, Free}
use Rattle.td_domain.specs.Pairs.{Pair}
use Rattle.td_domain.specs.Cubes.{IsIn}
use Rattle.td_domain.specs.Admits.{Admitted, AreHeld, flips_of, IsAdmitted, HasAdmitted}
use Rattle.td_domain.proofs.Lists.{all_append, all_parts}
use Rattle.td_certificate.specs.declared.tree.Node.{Node}
use Rattle.td_certificate.specs.declared.tree.Node.TheVariants as node
use Rattle.td_certificate.specs.declared.certificate.Certificate.{Certificate}
use Rattle.td_certificate.specs.declared.certificate.Claim.{Claim}
use Rattle.td_certificate.specs.Trees.{Tree, nodes_of, IsTree, lines_of}
use Rattle.td_certificate.specs.Trees as trees
use Rattle.td_certificate.specs.Walks.{Line, lines_from}
use Rattle.td_refutation.specs.declared.conditions.NamedCondition.{NamedCondition}
use Rattle.td_refutation.specs.Asking.{Asking, IsKept, IsAskedAbout}
use Rattle.td_certificate.specs.Questions.{Terms, inputs_of, keep_by, asking_of}
use Rattle.td_certificate.specs.Accepts.{SaysNone, IsEnough, IsAtMost, IsBoundWithin, IsGood, IsOfCube, IsWithin, are_fit, ClaimsAdmitted, ClaimsDelay, high_of, Accepts, setting_of}
use Rattle.td_certificate.proofs.TreeLaws.{trees_are_counted}
use Rattle.td_certificate.proofs.Walking.{lines_are_walked}
use Rattle.td_certificate.proofs.Acceptance.{at_moments}
use Rattle.td_join.specs.Joining.{pins_of, is_zero, is_one, is_known, AreJoined, alone, missing, halved, IsAlike, AreMerged, time_of, pair_of, IsNotAbove, AcceptedTogether}
use Rattle.td_join.proofs.Pinned.{same_pairs, same_asking, shows_wider}
use Rattle.td_join.proofs.Cubing.{wider, filter_has, Contains-less}
use Rattle.td_join.proofs.Restricting.{is_known_at}
use Rattle.td_gates.proofs.Places.{All-from_contains}

-- ---- a tree that is good with its own pins and time is so with wider pins and a greater time

abbrev some_number : ℕ → Option ℕ
some_number x = Some x

says_enough : (most : Option ℕ) (n : Node) → SaysNone n → IsEnough most n
says_enough None n says = says
says_enough (Some most) n says = tt

enough_more : (least most : Option ℕ) (n : Node) → IsNotAbove least most → IsEnough least n → IsEnough most n
enough_more None most n less enough = says_enough most n enough
enough_more (Some least) None n less enough = absurd less
enough_more (Some least) (Some most) n less enough = tt

number_more : (least most : Option ℕ) (number : ℕ) → IsNotAbove least most → (least ≡ None → ⊥) → IsAtMost least number → IsAtMost most number
number_more None most number less some h = absurd (some refl)
number_more (Some least) None number less some h = absurd less
number_more (Some least) (Some most) number less some h = omega (arith, h, less)

bound_more : (least most : Option ℕ) (bound : Option ℕ) → IsNotAbove least most → (least ≡ None → bound ≡ None) → IsBoundWithin least bound → IsBoundWithin most bound
bound_more least most None less none h = tt
bound_more least most (Some bound) less none h = number_more least most bound less (λ is. none_some bound (none is)) h
  where
    none_some : (x : ℕ) → some_number x ≡ None → ⊥
    none_some x e = cc

module _ (setting : Setting) (asking : Asking) (own : List Trit) (least most : Option ℕ) (more : IsNotAbove least most) where
  -- what is said of a line holds with wider pins, where its cube is a part of its own
  of_wider : (cube : List Trit) (n : Node) → ((pair : Pair) → IsIn pair cube → IsIn pair own)
      → IsOfCube setting (same_asking asking own) cube n → IsOfCube setting asking cube n
  of_wider cube (node.Split position) part h = h
  of_wider cube (node.Bound domain bound) part h = h
  of_wider cube (node.Point time) part h = h
  of_wider cube (node.Refuted refuted) part h = shows_wider setting asking own cube refuted.steps refuted.bound h
  of_wider cube node.Empty part h = λ may. h (
    (may.0.0, record { pinned = part may.0.0 may.0.2; held = may.0.1.held; few = may.0.1.few }, may.0.2),
    may.1,
  )

  -- where no pair is claimed, a leaf says that none lies in its cube
  says_none : (n : Node) → IsEnough least n → least ≡ None → SaysNone n
  says_none n enough none = subst (λ (l : Option ℕ). IsEnough l n) none enough

  within_more : (n : Node) → IsEnough least n → IsWithin least n → IsWithin most n
  within_more (node.Split position) enough h = h
  within_more (node.Bound domain bound) enough h = number_more least most bound more (says_none (node.Bound domain bound) enough) h
  within_more (node.Point time) enough h = number_more least most time more (says_none (node.Point time) enough) h
  within_more node.Empty enough h = h
  within_more (node.Refuted refuted) enough h = bound_more least most refuted.bound more (says_none (node.Refuted refuted) enough) h

  good_more : (cube : List Trit) (n : Node) → ((pair : Pair) → IsIn pair cube → IsIn pair own)
      → IsGood setting (same_asking asking own) least (record { cube = cube; node = n }) → IsGood setting asking most (record { cube = cube; node = n })
  good_more cube n part good = record {
    splits = good.splits;
    enough = enough_more least most n more good.enough;
    one_pair = good.one_pair;
    of_cube = of_wider cube n part good.of_cube;
    within = within_more n good.enough good.within;
  }

  pub lines_more : (tree : Tree) (cube : List Trit) → ((pair : Pair) → IsIn pair cube → IsIn pair own)
      → AllByRecursion (IsGood setting (same_asking asking own) least) (lines_of cube tree) → AllByRecursion (IsGood setting asking most) (lines_of cube tree)
  unfolding lines_of
  lines_more (trees.Split position low high) cube part good =
      let free = good.0.splits in
      let sides = all_parts (IsGood setting (same_asking asking own) least) (lines_of (set cube position Zero) low) (lines_of (set cube position One) high) good.1 in (
        good_more cube (node.Split position) part good.0,
        all_append (IsGood setting asking most) (lines_of (set cube position Zero) low) (lines_of (set cube position One) high)
            (lines_more low (set cube position Zero) (λ pair h. part pair (wider Zero cube position pair.first pair.second free h)) sides.0)
            (lines_more high (set cube position One) (λ pair h. part pair (wider One cube position pair.first pair.second free h)) sides.1),
      )
  lines_more (trees.Bound domain bound) cube part good = (good_more cube (node.Bound domain bound) part good.0, tt)
  lines_more (trees.Point time) cube part good = (good_more cube (node.Point time) part good.0, tt)
  lines_more trees.Empty cube part good = (good_more cube node.Empty part good.0, tt)
  lines_more (trees.RefutedLeaf refuted) cube part good = (good_more cube (node.Refuted refuted) part good.0, tt)

-- ---- joined trees

-- the certificate's tree is good with its own pins and time, and its time is at most this
record IsGoodPart (setting : Setting) (asking : Asking) (most : Option ℕ) (c : Certificate) : Type 0 where
  is_tree : IsTree c.tree
  good : AllByRecursion (IsGood setting (same_asking asking (pins_of c)) (high_of c.claim)) (lines_from (pins_of c ∷ []) c.tree)
  less : IsNotAbove (high_of c.claim) most

-- the tree whose nodes these are is good
record IsGoodTree (setting : Setting) (asking : Asking) (most : Option ℕ) (cube : List Trit) (nodes : List Node) : Type 0 where
  tree : Tree
  nodes_are : nodes_of tree ≡ nodes
  good : AllByRecursion (IsGood setting asking most) (lines_of cube tree)

module _ (setting : Setting) (asking : Asking) (most : Option ℕ) where
  own_tree : (c : Certificate) → IsGoodPart setting asking most c → IsGoodTree setting asking most (pins_of c) c.tree
  own_tree c part =
      let t = trees_are_counted.has_tree c.tree part.is_tree in
      let walked : lines_from (pins_of c ∷ []) c.tree ≡ lines_of (pins_of c) t.0 =
      ap (λ (ns : List Node). lines_from (pins_of c ∷ []) ns) (sym t.1) ∙ lines_are_walked t.0 (pins_of c) in
      record {
        tree = t.0;
        nodes_are = t.1;
        good = lines_more setting asking (pins_of c) (high_of c.claim) most part.less t.0 (pins_of c) (λ pair h. h)
            (subst (λ (ls : List Line). AllByRecursion (IsGood setting (same_asking asking (pins_of c)) (high_of c.claim)) ls) walked part.good);
      }

  empty_tree : (cube : List Trit) → (¬ HasAdmitted asking.admit cube) → IsGoodTree setting asking most cube (node.Empty ∷ [])
  unfolding nodes_of lines_of
  empty_tree cube none = record {
    tree = trees.Empty;
    nodes_are = refl;
    good = (record { splits = tt; enough = says_enough most node.Empty tt; one_pair = tt; of_cube = λ may. none may.0; within = tt }, tt);
  }

  split_tree : (cube : List Trit) (position : ℕ) (low high : List Node) → slice_get cube position ≡ Some Free
      → IsGoodTree setting asking most (set cube position Zero) low → IsGoodTree setting asking most (set cube position One) high
      → IsGoodTree setting asking most cube (node.Split position ∷ (low ++ high))
  unfolding nodes_of lines_of
  split_tree cube position low high free lows highs = record {
    tree = trees.Split position lows.tree highs.tree;
    nodes_are = ap (λ (ns : List Node). node.Split position ∷ (ns ++ nodes_of highs.tree)) lows.nodes_are
        ∙ ap (λ (ns : List Node). node.Split position ∷ (low ++ ns)) highs.nodes_are;
    good = (
      record { splits = free; enough = says_enough most (node.Split position) tt; one_pair = tt; of_cube = tt; within = tt },
      all_append (IsGood setting asking most) (lines_of (set cube position Zero) lows.tree) (lines_of (set cube position One) highs.tree) lows.good highs.good,
    );
  }

  joined_tree : (cube : List Trit) (certificates : List Certificate) (nodes : List Node) → AreJoined asking.admit cube certificates nodes
      → All (IsGoodPart setting asking most) certificates → IsGoodTree setting asking most cube nodes
  joined_tree _ _ _ (alone c) parts = own_tree c (All-contains (IsGoodPart setting asking most) (c ∷ []) c parts (0, omega arith, refl))
  joined_tree _ _ _ (missing cube none) parts = empty_tree cube none
  joined_tree _ _ _ (halved cube certificates position low high some free known lows highs) parts =
      split_tree cube position low high free
      (joined_tree _ _ low lows (All-filter (λ c. is_zero (slice_get (pins_of c) position)) (IsGoodPart setting asking most) certificates parts))
      (joined_tree _ _ high highs (All-filter (λ c. is_one (slice_get (pins_of c) position)) (IsGoodPart setting asking most) certificates parts))

-- ---- trees that are joined are a tree

record HasTree (nodes : List Node) : Type 0 where
  tree : Tree
  nodes_are : nodes_of tree ≡ nodes

split_of : (position : ℕ) (low high : List Node) → HasTree low → HasTree high → HasTree (node.Split position ∷ (low ++ high))
unfolding nodes_of
split_of position low high lows highs = record {
  tree = trees.Split position lows.tree highs.tree;
  nodes_are = ap (λ (ns : List Node). node.Split position ∷ (ns ++ nodes_of highs.tree)) lows.nodes_are
      ∙ ap (λ (ns : List Node). node.Split position ∷ (low ++ ns)) highs.nodes_are;
}

empty_of : HasTree (node.Empty ∷ [])
unfolding nodes_of
empty_of = record { tree = trees.Empty; nodes_are = refl }

abbrev has_own_tree : Certificate → Type 0
has_own_tree c = IsTree c.tree

tree_of_joined : (admit : Admitted) (cube : List Trit) (certificates : List Certificate) (nodes : List Node) → AreJoined admit cube certificates nodes
    → All has_own_tree certificates → HasTree nodes
tree_of_joined admit _ _ _ (alone c) all =
    let t = trees_are_counted.has_tree c.tree (All-contains has_own_tree (c ∷ []) c all (0, omega arith, refl)) in
    record { tree = t.0; nodes_are = t.1 }
tree_of_joined admit _ _ _ (missing cube none) all = empty_of
tree_of_joined admit _ _ _ (halved cube certificates position low high some free known lows highs) all =
    split_of position low high
    (tree_of_joined admit _ _ low lows (All-filter (λ c. is_zero (slice_get (pins_of c) position)) has_own_tree certificates all))
    (tree_of_joined admit _ _ high highs (All-filter (λ c. is_one (slice_get (pins_of c) position)) has_own_tree certificates all))

pub joined_is_tree : (admit : Admitted) (cube : List Trit) (certificates : List Certificate) (nodes : List Node) → AreJoined admit cube certificates nodes
    → All (λ c. IsTree c.tree) certificates → IsTree nodes
joined_is_tree admit cube certificates nodes joined all =
    let t = tree_of_joined admit cube certificates nodes joined all in
    subst (λ (ns : List Node). IsTree ns) t.nodes_are (trees_are_counted.counted t.tree)

-- ---- pins

data Bit (o : Option Trit) : Type 0 where
  bit_zero : is_zero o ≡ true → Bit o
  bit_one : is_one o ≡ true → Bit o

bit_of : (o : Option Trit) → is_known o ≡ true → Bit o
bit_of (Some Zero) k = bit_zero refl
bit_of (Some One) k = bit_one refl
bit_of (Some Free) k = absurd cc
bit_of None k = absurd cc

-- the pins of each certificate are a part of the cube
pub parts_inside : (admit : Admitted) (cube : List Trit) (certificates : List Certificate) (nodes : List Node) → AreJoined admit cube certificates nodes
    → (c : Certificate) → Contains certificates c → (pair : Pair) → IsIn pair (pins_of c) → IsIn pair cube
parts_inside admit _ _ _ (alone d) c has pair inside = elim (Contains-less d c [] has) [
  | inl same ↦ subst (λ (x : Certificate). IsIn pair (pins_of x)) (sym same) inside
  | inr none ↦ absurd (omega (arith, none.1))
]
parts_inside admit _ _ _ (missing cube none) c has pair inside = absurd (omega (arith, has.1))
parts_inside admit _ _ _ (halved cube certificates position low high some free known lows highs) c has pair inside =
    elim (bit_of (slice_get (pins_of c) position) (All-contains (is_known_at position) certificates c known has)) [
      | bit_zero e ↦
          wider Zero cube position pair.first pair.second free
          (parts_inside admit _ _ low lows c (filter_has (λ d. is_zero (slice_get (pins_of d) position)) certificates c has e) pair inside)
      | bit_one e ↦
          wider One cube position pair.first pair.second free
          (parts_inside admit _ _ high highs c (filter_has (λ d. is_one (slice_get (pins_of d) position)) certificates c has e) pair inside)
    ]

-- ---- the law

same_question : (this that : Admitted) → this.held ≡ that.held → this.flips ≡ that.flips → that ≡ same_pairs this that.pins
same_question this that held flips = rw (held, flips) refl

-- a part has the conditions of the whole
keep_merged : (whole part : Option Terms) → AreMerged whole part → keep_by part ≡ keep_by whole
keep_merged whole part (inl none) = ap keep_by none.0 ∙ sym none.1
keep_merged whole part (inr same) = ap keep_by same

asking_is : (this : Asking) (that : Admitted) (keep : List NamedCondition) → this.admit.held ≡ that.held → this.admit.flips ≡ that.flips → keep ≡ this.keep
    → ◌≡◌ {A = Asking} (record { admit = that; keep = keep }) (same_asking this that.pins)
asking_is this that keep held flips kept =
    ap (λ (a : Admitted). record { admit = a; keep = keep }) (same_question this.admit that held flips)
    ∙ ap (λ (k : List NamedCondition). record { admit = same_pairs this.admit that.pins; keep = k }) kept

-- the pair that is claimed is one of those of the whole
admitted_whole : (netlist : Netlist) (one other : Asking) (claim whole : Option Claim) → pair_of claim ≡ pair_of whole
    → ((pair : Pair) → IsIn pair one.admit.pins → IsIn pair other.admit.pins)
    → one.admit.held ≡ other.admit.held → one.admit.flips ≡ other.admit.flips → one.keep ≡ other.keep → ClaimsAdmitted netlist one claim → ClaimsAdmitted netlist other whole
admitted_whole netlist one other claim None pair inside held flips keep admitted = tt
admitted_whole netlist one other None (Some whole) pair inside held flips keep admitted = absurd cc
admitted_whole netlist one other (Some claim) (Some whole) pair inside held flips keep admitted =
    let same : claim.pair ≡ whole.pair = cc in
    subst (λ (p : Pair). IsAskedAbout netlist other p) same (record {
      admitted = record {
        pinned = inside claim.pair admitted.admitted.pinned;
        held = subst (λ (hs : List Bool). AreHeld hs claim.pair.first claim.pair.second) held admitted.admitted.held;
        few = subst (λ (n : ℕ). flips_of claim.pair.first claim.pair.second ≤ n) flips admitted.admitted.few;
      };
      kept = subst (λ (keep : List NamedCondition). IsKept netlist keep claim.pair) keep admitted.kept;
    })

-- the time that is claimed is that of the whole, and so is its pair
reached_whole : (setting : Setting) (claim whole : Option Claim) → time_of claim ≡ time_of whole → pair_of claim ≡ pair_of whole
    → ClaimsDelay setting claim → ClaimsDelay setting whole
reached_whole setting claim None time pair reached = tt
reached_whole setting None (Some whole) time pair reached = absurd cc
reached_whole setting (Some claim) (Some whole) time pair reached =
    let same : claim.pair ≡ whole.pair = cc in
    let delay : claim.time ≡ whole.time = cc in
    subst (λ (p : Pair). IsDelayOfBits setting p.first p.second whole.time) same
    (subst (λ (n : ℕ). IsDelayOfBits setting claim.pair.first claim.pair.second n) delay reached)

-- a whole has two pins for each input
pins_whole : (admit : Admitted) (cube : List Trit) (certificates : List Certificate) (nodes : List Node) (count : ℕ) → AreJoined admit cube certificates nodes
    → All (λ c. length (pins_of c) ≡ count) certificates → (c : Certificate) → Contains certificates c → length cube ≡ count
pins_whole admit _ _ _ count (alone d) all c has = All-contains (λ e. length (pins_of e) ≡ count) (d ∷ []) d all (0, omega arith, refl)
pins_whole admit _ _ _ count (missing cube none) all c has = absurd (omega (arith, has.1))
pins_whole admit _ _ _ count (halved cube certificates position low high some free known lows highs) all c has =
    elim (bit_of (slice_get (pins_of c) position) (All-contains (is_known_at position) certificates c known has)) [
      | bit_zero e ↦
          sym (length-set cube position Zero)
          ∙ pins_whole admit _ _ low count lows (All-filter (λ d. is_zero (slice_get (pins_of d) position)) (λ d. length (pins_of d) ≡ count) certificates all) c
          (filter_has (λ d. is_zero (slice_get (pins_of d) position)) certificates c has e)
      | bit_one e ↦
          sym (length-set cube position One)
          ∙ pins_whole admit _ _ high count highs (All-filter (λ d. is_one (slice_get (pins_of d) position)) (λ d. length (pins_of d) ≡ count) certificates all) c
          (filter_has (λ d. is_one (slice_get (pins_of d) position)) certificates c has e)
    ]

pub accepted_together : AcceptedTogether
accepted_together netlist certificates pins whole joined accepted =
    let from : Certificate = joined.claim.reached.certificate in
    let most : Option ℕ = high_of whole.claim in
    let alike = All-contains (IsAlike whole) certificates from joined.alike joined.claim.reached.among in
    let given = All-contains (Accepts netlist) certificates from accepted joined.claim.reached.among in
    let low : (c : Certificate) → Contains certificates c → IsNotAbove (high_of c.claim) most = λ c has.
    All-contains (λ d. IsNotAbove (high_of d.claim) most) certificates c joined.claim.highest has in
    let kept : (c : Certificate) → Contains certificates c → keep_by c.question.terms ≡ keep_by whole.question.terms =
    λ c has. keep_merged whole.question.terms c.question.terms (All-contains (λ d. AreMerged whole.question.terms d.question.terms) certificates c joined.terms has) in
    let part : (c : Certificate) → Contains certificates c → IsGoodPart (setting_of netlist whole) (asking_of whole.question) most c =
    λ c has. good_part c (All-contains (IsAlike whole) certificates c joined.alike has) (kept c has) (All-contains (Accepts netlist) certificates c accepted has)
    (low c has) in
    let tree = joined_tree (setting_of netlist whole) (asking_of whole.question) most pins certificates whole.tree joined.tree (All-from_contains (IsGoodPart (setting_of netlist whole) (asking_of whole.question) most) certificates part) in
    let count : (c : Certificate) → Contains certificates c → length (pins_of c) ≡ 2 * inputs_of whole.question = λ c has.
    (All-contains (Accepts netlist) certificates c accepted has).size.pins
    ∙ ap (λ (hs : List Bool). 2 * length hs) (sym (All-contains (IsAlike whole) certificates c joined.alike has).held) in
    let long : length pins ≡ 2 * inputs_of whole.question =
    pins_whole whole.question.admit pins certificates whole.tree (2 * inputs_of whole.question) joined.tree
    (All-from_contains (λ c. length (pins_of c) ≡ 2 * inputs_of whole.question) certificates count) from joined.claim.reached.among in
    record {
      size = record {
        inputs = given.size.inputs ∙ ap (λ (hs : List Bool). length hs) (sym alike.held);
        gates = given.size.gates ∙ sym alike.gates;
        pins = ap (λ (x : List Trit). length x) joined.pins_are ∙ long;
        fit = fits_whole from alike (kept from joined.claim.reached.among) given.size.fit;
      };
      admitted = admitted_whole netlist (asking_of from.question) (asking_of whole.question) from.claim whole.claim joined.claim.reached.pair_is
          (λ pair h. subst (λ (x : List Trit). IsIn pair x) (sym joined.pins_are) (parts_inside whole.question.admit pins certificates whole.tree joined.tree from joined.claim.reached.among pair h))
          (sym alike.held) (sym alike.flips) (kept from joined.claim.reached.among) given.admitted;
      reached = reached_whole (setting_of netlist whole) from.claim whole.claim joined.claim.reached.time_is joined.claim.reached.pair_is
          (subst (λ (ms : List ℕ). ClaimsDelay (at_moments netlist ms) from.claim) (sym alike.moments) given.reached);
      tree = subst (λ (ns : List Node). IsTree ns) tree.nodes_are (trees_are_counted.counted tree.tree);
      good = subst (λ (x : List Trit). AllByRecursion (IsGood (setting_of netlist whole) (asking_of whole.question) most) (lines_from (x ∷ []) whole.tree)) (sym joined.pins_are)
          (subst (λ (ns : List Node). AllByRecursion (IsGood (setting_of netlist whole) (asking_of whole.question) most) (lines_from (pins ∷ []) ns)) tree.nodes_are
          (subst (λ (ls : List Line). AllByRecursion (IsGood (setting_of netlist whole) (asking_of whole.question) most) ls) (sym (lines_are_walked tree.tree pins)) tree.good));
    }
  where
    fits_whole : (c : Certificate) → IsAlike whole c → keep_by c.question.terms ≡ keep_by whole.question.terms
        → are_fit (2 + inputs_of c.question + c.gates) (keep_by c.question.terms) ≡ true → are_fit (2 + inputs_of whole.question + whole.gates) (keep_by whole.question.terms) ≡ true
    fits_whole c alike keep fit =
        ap (λ (n : ℕ). are_fit n (keep_by whole.question.terms)) (ap (λ (hs : List Bool). 2 + length hs + whole.gates) alike.held ∙ ap (λ (g : ℕ). 2 + inputs_of c.question + g) alike.gates)
        ∙ ap (are_fit (2 + inputs_of c.question + c.gates)) (sym keep) ∙ fit

    good_part : (c : Certificate) → IsAlike whole c → keep_by c.question.terms ≡ keep_by whole.question.terms → Accepts netlist c → IsNotAbove (high_of c.claim) (high_of whole.claim)
        → IsGoodPart (setting_of netlist whole) (asking_of whole.question) (high_of whole.claim) c
    good_part c alike keep accepts less = record {
      is_tree = accepts.tree;
      good = subst (λ (s : Setting). AllByRecursion (IsGood s (same_asking (asking_of whole.question) (pins_of c)) (high_of c.claim)) (lines_from (pins_of c ∷ []) c.tree))
          (ap (at_moments netlist) (sym alike.moments))
          (subst (λ (a : Asking). AllByRecursion (IsGood (setting_of netlist c) a (high_of c.claim)) (lines_from (pins_of c ∷ []) c.tree))
          (asking_is (asking_of whole.question) c.question.admit (keep_by c.question.terms) alike.held alike.flips keep) accepts.good);
      less = less;
    }
