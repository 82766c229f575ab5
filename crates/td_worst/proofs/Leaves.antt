-- A tree of one leaf, which steps refute.
use Rattle.std.proofs.Common.{◌≡◌, ◌∙◌, ℕ, ◌+◌, ◌<◌, ◌≤◌, ◌^◌, Bool, true, List, [], ◌∷◌, length, refl, sym, ap, subst, arith}
use Rattle.std.proofs.lemmas.List.Elements.{recursion_from_All}
use Rattle.std.specs.List.{AllByRecursion}
use Rattle.td_domain.specs.Pairs.{Pair}
use Rattle.td_domain.specs.Admits.{Admitted, IsAdmitted, flips_of}
use Rattle.td_domain.proofs.Flips.{one_flip}
use Rattle.td_lead.specs.Timed.{IsTimed}
use Rattle.td_refutation.specs.Whole.{IsRefuted}
use Rattle.td_certificate.specs.declared.tree.Node.{Node}
use Rattle.td_certificate.specs.declared.tree.Node.TheVariants.{Refuted}
use Rattle.td_refutation.specs.declared.conditions.NamedCondition.{NamedCondition}
use Rattle.td_refutation.specs.Asking.{all_admitted, IsKept}
use Rattle.td_refutation.proofs.Asking.{nothing_kept}
use Rattle.td_certificate.specs.Accepts.{IsGood, are_fit}
use Rattle.td_certificate.specs.Spelling.{HasSpelling, IsNode, version_in}
use Rattle.std.specs.Prelude.{Option, Some}
use Rattle.td_certificate.specs.Questions.{Terms}
use Rattle.td_certificate.specs.Lengths.{CanTell}
use Rattle.td_certificate.specs.Trees.{IsTree, has_refuted}
use Rattle.td_certificate.proofs.Told.{is_fourth, are_terms, have_few, one_moment}
use Rattle.td_certificate.specs.Walks.{lines_from}
use Rattle.td_certificate.proofs.Lengths.{refuted_texts_fit}
use Rattle.td_refute.specs.declared.refuting.Refuted as found
use Rattle.td_refute.specs.Answers.{IsShown}
use Rattle.td_search.proofs.Capped.{capped, capped_asking, refuted_fewer}
use Rattle.td_search.specs.declared.answers.Answer.TheVariants as answer
use Rattle.td_search.specs.Problems.{Problem}
use Rattle.td_search.specs.Answers.{question_by, certificate_by, IsExact}
use Rattle.td_search.specs.Written.{CanBeWritten}
use Rattle.td_worst.specs.Leaves.{leaf_of, IsLeafOf, IsSpellable}
use Rattle.td_worst.specs.Methods.{IsSoundAnswer}

few_flips : (before after : List Bool) → flips_of before after ≤ length before
few_flips [] after = omega arith
few_flips (a ∷ before) [] = omega arith
few_flips (a ∷ before) (b ∷ after) = omega (arith, one_flip a b, few_flips before after)

pub cap : (admit : Admitted) (pair : Pair) → length pair.first ≡ length admit.held → IsAdmitted admit pair → IsAdmitted (capped admit) pair
cap admit pair long is = record {
  pinned = is.pinned;
  held = is.held;
  few = omega (arith, is.few, few_flips pair.first pair.second, long);
}

-- the nodes of one leaf are a tree's
pub leaf_tree : (refuted : found.Refuted) (nodes : List Node) → nodes ≡ Refuted (leaf_of refuted) ∷ [] → IsTree nodes
leaf_tree refuted nodes is = subst IsTree (sym is) refl

module _ (asked : Problem) (budget : ℕ) (some : 0 < budget) (sizes : IsSpellable asked) (pair : Pair) (time : ℕ) (small : time < 10 ^ 15)
    (long : (length pair.first ≡ length asked.admit.held) × (length pair.second ≡ length asked.admit.held))
    (timed : IsTimed asked.setting asked.admit (record { pair = pair; time = time }))
    (refuted : found.Refuted) (shown : IsShown asked.setting asked.admit refuted) (within : refuted.bound ≤ time)
    (tree : List Node) (leaf : IsLeafOf refuted tree) where
  steps_shown : IsRefuted asked.setting (capped_asking (all_admitted asked.admit)) asked.admit.pins (leaf_of refuted).steps refuted.bound
  steps_shown = refuted_fewer asked.setting (all_admitted asked.admit) asked.admit.pins (leaf_of refuted).steps refuted.bound sizes.held shown.steps

  good : AllByRecursion (IsGood asked.setting (capped_asking (all_admitted asked.admit)) (Some time)) (lines_from (asked.admit.pins ∷ []) (Refuted (leaf_of refuted) ∷ []))
  good = (record { splits = tt; enough = tt; one_pair = tt; of_cube = steps_shown; within = within }, tt)

  is_exact : IsExact asked budget time pair tree
  is_exact = record {
    reached = (timed.admitted, timed.delay);
    greatest = λ other delay admitted is. omega (arith, shown.bound other delay admitted is, within);
    accepted = λ terms bare. record {
      size = record { inputs = sym sizes.held; gates = refl; pins = sizes.pins; fit = ap (are_fit (2 + length asked.admit.held + length asked.setting.netlist.gates)) bare };
      admitted = record {
        admitted = cap asked.admit pair long.0 timed.admitted;
        kept = subst (λ (keep : List NamedCondition). IsKept asked.setting.netlist keep pair) (sym bare) (nothing_kept asked.setting.netlist pair);
      };
      reached = timed.delay;
      tree = leaf_tree refuted tree leaf.is;
      good = subst (λ (keep : List NamedCondition). AllByRecursion (IsGood asked.setting (record { admit = capped asked.admit; keep = keep }) (Some time))
          (lines_from (asked.admit.pins ∷ []) tree)) (sym bare)
          (subst (λ (nodes : List Node). AllByRecursion (IsGood asked.setting (capped_asking (all_admitted asked.admit)) (Some time)) (lines_from (asked.admit.pins ∷ []) nodes))
          (sym leaf.is) good);
    };
    within = omega (arith, ap length leaf.is, some);
    small = small;
  }

  -- its one leaf is refuted
  leaf_refuted : has_refuted tree ≡ true
  leaf_refuted = ap has_refuted leaf.is

  spelled : (terms : Option Terms) → CanTell tree terms → HasSpelling (certificate_by terms asked time pair tree)
  spelled terms can = record {
    inputs = omega (arith, sizes.inputs, sizes.held);
    gates = sizes.gates;
    pins = sizes.pins;
    flips = omega arith;
    count = sizes.moments.count ∙ sym sizes.held;
    moments = recursion_from_All _ asked.setting.moments sizes.moments.within;
    terms = are_terms terms tree can;
    claim = record {
      time = omega (arith, small);
      high = one_moment (version_in (certificate_by terms asked time pair tree)) time time refl (omega (arith, small));
      first = long.0;
      second = long.1;
    };
    nodes = subst (λ (nodes : List Node). AllByRecursion (IsNode (version_in (certificate_by terms asked time pair tree))) nodes) (sym leaf.is)
        ((leaf.spelled, is_fourth terms tree (question_by terms asked).admit (question_by terms asked).moments can leaf_refuted), tt);
    tree = leaf_tree refuted tree leaf.is;
  }

  pub exact_reported : IsSoundAnswer asked budget (answer.Exact time pair tree) × CanBeWritten asked (answer.Exact time pair tree)
  exact_reported = (
    is_exact,
    λ terms can. (
      spelled terms can,
      refuted_texts_fit (certificate_by terms asked time pair tree) (leaf_of refuted) (spelled terms can) (have_few terms tree can) (small, small) leaf.is leaf.few,
    ),
  )
