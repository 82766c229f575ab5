-- The certificate of a tree of one leaf: steps or edges show a bound of the pairs that keep conditions, or
-- steps that there are none.
use Rattle.std.proofs.Common.{◌≡◌, ◌∙◌, ℕ, ◌+◌, ◌<◌, ◌≤◌, ◌^◌, List, [], ◌∷◌, length, refl, sym, ap, subst, arith}
use Rattle.std.proofs.lemmas.List.Elements.{recursion_from_All}
use Rattle.std.specs.List.{AllByRecursion}
use Rattle.std.specs.Prelude.{Option, Some, None, IfSome}
use Rattle.td_circuit.specs.Settings.{Setting}
use Rattle.td_domain.specs.Admits.{Admitted}
use Rattle.td_domain.proofs.Changing.{vectors_in}
use Rattle.td_lead.specs.declared.timed.Timed.{Timed}
use Rattle.td_refutation.specs.declared.conditions.NamedCondition.{NamedCondition}
use Rattle.td_refute.specs.Kept.{IsTimedAmong}
use Rattle.td_certificate.specs.declared.tree.Node.{Node}
use Rattle.td_certificate.specs.declared.tree.BoundedBy.TheVariants.{Edges}
use Rattle.td_certificate.specs.declared.tree.Node.TheVariants.{Bound, Refuted}
use Rattle.td_certificate.specs.declared.certificate.Certificate.{Certificate}
use Rattle.td_certificate.specs.declared.certificate.Claim.{Claim}
use Rattle.td_certificate.specs.Accepts.{Shows, IsBoundBy, IsGood, IsEnough, IsWithin, ClaimsAdmitted, ClaimsDelay, are_fit, high_of}
use Rattle.td_certificate.specs.Lengths.{HaveFew, IsShort, IsShortClaim}
use Rattle.td_certificate.specs.Questions.{Terms}
use Rattle.td_certificate.specs.Spelling.{HasSpelling, AreConditions, AreTerms, IsNode, MayClaim, spelling}
use Rattle.td_certificate.specs.Faults.{IsWithinLimit}
use Rattle.td_certificate.specs.declared.question.Version.TheVariants.{Fourth}
use Rattle.td_certificate.specs.Steps as steps
use Rattle.td_certificate.specs.Trees.{IsTree}
use Rattle.td_certificate.specs.Walks.{lines_from}
use Rattle.td_certificate.proofs.Lengths.{refuted_texts_fit, searched_texts_fit}
use Rattle.td_search.proofs.Capped.{capped, capped_asking, shows_fewer}
use Rattle.td_search.specs.Opened.{ShowsHigh}
use Rattle.td_worst.specs.Known.{IsToldLeaf, IsFitted}
use Rattle.td_worst.specs.Kept.{certificate_with, claim_of, claim_to, IsCertifiedAmong}
use Rattle.td_worst.proofs.OpenTrees.{good_among, nodes_of}
use Rattle.td_worst.proofs.Leaves.{cap}

-- ---- of any tree

module _ (given : Setting) (admit : Admitted) (keep : List NamedCondition) (fitted : IsFitted given admit keep) (claim : Option Claim)
    (admitted : ClaimsAdmitted given.netlist (capped_asking (record { admit = admit; keep = keep })) claim) (reached : ClaimsDelay given claim)
    (spelled_claim : MayClaim Fourth (length admit.held) claim) (short_claim : IsShortClaim claim)
    (tree : List Node) (whole : IsTree tree)
    (good : AllByRecursion (IsGood given (record { admit = capped admit; keep = keep }) (high_of claim)) (lines_from (admit.pins ∷ []) tree))
    (nodes : AllByRecursion (IsNode Fourth) tree)
    (fits : (c : Certificate) → HasSpelling c → HaveFew c.question.terms → IsShortClaim c.claim → c.tree ≡ tree → IsWithinLimit (spelling c))
    (told : AreConditions keep) (few : length keep ≤ 5000) where
  spelled : (terms : Terms) → AreTerms (Some terms) → HasSpelling (certificate_with given admit terms claim tree)
  spelled terms are = record {
    inputs = omega (arith, fitted.sizes.inputs, fitted.helds);
    gates = fitted.sizes.gates;
    pins = fitted.sizes.pins;
    flips = omega arith;
    count = fitted.sizes.moments.count ∙ sym fitted.helds;
    moments = recursion_from_All _ given.moments fitted.sizes.moments.within;
    terms = are;
    claim = spelled_claim;
    nodes = nodes;
    tree = whole;
  }

  pub tree_certified : IsCertifiedAmong given (record { admit = admit; keep = keep }) claim tree
  tree_certified = record {
    accepted = λ terms told. record {
      size = record {
        inputs = sym fitted.helds;
        gates = refl;
        pins = fitted.sizes.pins;
        fit = ap (are_fit (2 + length admit.held + length given.netlist.gates)) told
            ∙ (ap (λ (n : ℕ). are_fit (2 + n + length given.netlist.gates) keep) fitted.helds ∙ fitted.fit);
      };
      admitted = subst (λ (others : List NamedCondition). ClaimsAdmitted given.netlist (record { admit = capped admit; keep = others }) claim) (sym told) admitted;
      reached = reached;
      tree = whole;
      good = subst (λ (others : List NamedCondition). AllByRecursion (IsGood given (record { admit = capped admit; keep = others }) (high_of claim))
          (lines_from (admit.pins ∷ []) tree)) (sym told) good;
    };
    written = λ terms told are few. (
      spelled terms are,
      fits (certificate_with given admit terms claim tree) (spelled terms are) few short_claim refl,
    );
    told = told;
    few = few;
  }

-- ---- of a tree of one leaf

module _ (given : Setting) (admit : Admitted) (keep : List NamedCondition) (fitted : IsFitted given admit keep) (claim : Option Claim)
    (admitted : ClaimsAdmitted given.netlist (capped_asking (record { admit = admit; keep = keep })) claim) (reached : ClaimsDelay given claim)
    (spelled_claim : MayClaim Fourth (length admit.held) claim) (short_claim : IsShortClaim claim)
    (leaf : Node) (tree : List Node) (is : tree ≡ leaf ∷ []) (whole : IsTree (leaf ∷ []))
    (good : AllByRecursion (IsGood given (record { admit = capped admit; keep = keep }) (high_of claim)) (lines_from (admit.pins ∷ []) (leaf ∷ [])))
    (node : IsNode Fourth leaf)
    (fits : (c : Certificate) → HasSpelling c → HaveFew c.question.terms → IsShortClaim c.claim → c.tree ≡ leaf ∷ [] → IsWithinLimit (spelling c))
    (told : AreConditions keep) (few : length keep ≤ 5000) where
  pub certified : IsCertifiedAmong given (record { admit = admit; keep = keep }) claim tree
  certified =
      tree_certified given admit keep fitted claim admitted reached spelled_claim short_claim tree (subst IsTree (sym is) whole)
      (subst (λ (nodes : List Node). AllByRecursion (IsGood given (record { admit = capped admit; keep = keep }) (high_of claim)) (lines_from (admit.pins ∷ []) nodes)) (sym is) good)
      (subst (λ (nodes : List Node). AllByRecursion (IsNode Fourth) nodes) (sym is) (node, tt))
      (λ c spells asked small same. fits c spells asked small (same ∙ is)) told few

-- of a leaf that steps show
module _ (given : Setting) (admit : Admitted) (keep : List NamedCondition) (fitted : IsFitted given admit keep) (claim : Option Claim)
    (admitted : ClaimsAdmitted given.netlist (capped_asking (record { admit = admit; keep = keep })) claim) (reached : ClaimsDelay given claim)
    (spelled_claim : MayClaim Fourth (length admit.held) claim) (short_claim : IsShortClaim claim)
    (leaf : steps.Refuted) (tree : List Node) (is : IsToldLeaf keep leaf tree)
    (shows : Shows given (record { admit = admit; keep = keep }) admit.pins leaf.steps leaf.bound)
    (enough : IsEnough (high_of claim) (Refuted leaf)) (within : IsWithin (high_of claim) (Refuted leaf)) where
  good_steps : AllByRecursion (IsGood given (record { admit = capped admit; keep = keep }) (high_of claim)) (lines_from (admit.pins ∷ []) (Refuted leaf ∷ []))
  good_steps = (
    record {
      splits = tt;
      enough = enough;
      one_pair = tt;
      of_cube = shows_fewer given (record { admit = admit; keep = keep }) admit.pins leaf.steps leaf.bound fitted.helds shows;
      within = within;
    },
    tt,
  )

  pub shown_by_steps : IsCertifiedAmong given (record { admit = admit; keep = keep }) claim tree
  shown_by_steps =
      certified given admit keep fitted claim admitted reached spelled_claim short_claim (Refuted leaf) tree is.leaf_is.is refl good_steps (is.leaf_is.spelled, refl)
      (λ c has asked small one. refuted_texts_fit c leaf has asked small one is.leaf_is.few) is.told is.few

-- what is so of what there may be
pub if_some : {A : Type 0} (P Q : A → Type 0) → ((x : A) → P x → Q x) → (found : Option A) → IfSome found P → IfSome found Q
if_some P Q weaker None is = tt
if_some P Q weaker (Some x) is = weaker x is

-- the bits of a pair that is asked about, as many in each vector as inputs
bits_of : (given : Setting) (admit : Admitted) (keep : List NamedCondition) → IsFitted given admit keep → (best : Timed)
    → IsTimedAmong given (record { admit = admit; keep = keep }) best → (length best.pair.first ≡ length admit.held) × (length best.pair.second ≡ length admit.held)
bits_of given admit keep fitted best timed = vectors_in _ admit.pins best.pair.first best.pair.second fitted.sizes.pins timed.asked.admitted.pinned

-- a claim of that pair
module _ (given : Setting) (admit : Admitted) (keep : List NamedCondition) (fitted : IsFitted given admit keep) (best : Timed) (high : ℕ)
    (ordered : best.time ≤ high) (small : high < 10 ^ 15) (timed : IsTimedAmong given (record { admit = admit; keep = keep }) best) where
  long : (length best.pair.first ≡ length admit.held) × (length best.pair.second ≡ length admit.held)
  long = bits_of given admit keep fitted best timed

  claimed : ClaimsAdmitted given.netlist (capped_asking (record { admit = admit; keep = keep })) (Some (claim_to best high))
  claimed = record { admitted = cap admit best.pair long.0 timed.asked.admitted; kept = timed.asked.kept }

  told : MayClaim Fourth (length admit.held) (Some (claim_to best high))
  told = record { time = omega (arith, small, ordered); high = omega (arith, small); first = long.0; second = long.1 }

  short : IsShortClaim (Some (claim_to best high))
  short = (omega (arith, small, ordered), small)

  -- by steps
  pub steps_certified : (leaf : steps.Refuted) (bound : ℕ) → leaf.bound ≡ Some bound → bound ≤ high
      → Shows given (record { admit = admit; keep = keep }) admit.pins leaf.steps leaf.bound
      → (tree : List Node) → IsToldLeaf keep leaf tree → IsCertifiedAmong given (record { admit = admit; keep = keep }) (Some (claim_to best high)) tree
  steps_certified leaf bound e le shows tree is =
      shown_by_steps given admit keep fitted (Some (claim_to best high)) claimed timed.delay told short leaf tree is shows tt (rw e le)

  -- by the tree of a search
  pub search_certified : AreConditions keep → length keep ≤ 5000 → (tree : List Node) → ShowsHigh given admit high tree
      → IsCertifiedAmong given (record { admit = admit; keep = keep }) (Some (claim_to best high)) tree
  search_certified are few tree shows =
      tree_certified given admit keep fitted (Some (claim_to best high)) claimed timed.delay told short tree shows.whole
      (good_among given admit keep high (admit.pins ∷ []) tree shows.short shows.good) (nodes_of tree shows.short)
      (λ c spells asked small_claim same. searched_texts_fit c spells asked small_claim (subst (AllByRecursion IsShort) (sym same) shows.short)
      (omega (arith, ap length same, shows.few)))
      are few

  -- by edges
  pub edges_certified : (bound : ℕ) → IsBoundBy Edges given admit.pins (Some bound) → bound ≤ high → AreConditions keep → length keep ≤ 5000
      → (tree : List Node) → tree ≡ Bound Edges bound ∷ [] → IsCertifiedAmong given (record { admit = admit; keep = keep }) (Some (claim_to best high)) tree
  edges_certified bound has le are few tree is =
      certified given admit keep fitted (Some (claim_to best high)) claimed timed.delay told short (Bound Edges bound) tree is refl
      (record { splits = tt; enough = tt; one_pair = tt; of_cube = record { bound = bound; is = has; within = omega arith }; within = le }, tt)
      (omega (arith, le, small), λ other. absurd (other refl))
      (λ c spells asked small_claim one. searched_texts_fit c spells asked small_claim
      (subst (AllByRecursion IsShort) (sym one) (omega (arith, le, small), tt)) (omega (arith, ap length one)))
      are few

-- of the worst delay's pair
pub exact_certified : (given : Setting) (admit : Admitted) (keep : List NamedCondition) → IsFitted given admit keep → (best : Timed) → best.time < 10 ^ 15
    → IsTimedAmong given (record { admit = admit; keep = keep }) best → (leaf : steps.Refuted) (bound : ℕ) → leaf.bound ≡ Some bound → bound ≤ best.time
    → Shows given (record { admit = admit; keep = keep }) admit.pins leaf.steps leaf.bound
    → (tree : List Node) → IsToldLeaf keep leaf tree → IsCertifiedAmong given (record { admit = admit; keep = keep }) (Some (claim_of best)) tree
exact_certified given admit keep fitted best small timed leaf bound e le shows tree is =
    steps_certified given admit keep fitted best best.time (omega arith) small timed leaf bound e le shows tree is

-- of no pair
pub none_certified : (given : Setting) (admit : Admitted) (keep : List NamedCondition) → IsFitted given admit keep → (leaf : steps.Refuted) → leaf.bound ≡ None
    → Shows given (record { admit = admit; keep = keep }) admit.pins leaf.steps leaf.bound
    → (tree : List Node) → IsToldLeaf keep leaf tree → IsCertifiedAmong given (record { admit = admit; keep = keep }) None tree
none_certified given admit keep fitted leaf e shows tree is =
    shown_by_steps given admit keep fitted None tt tt refl tt leaf tree is shows e (rw e tt)
