-- A tree of one leaf, which edges bound.
use Rattle.std.proofs.Common.{◌≡◌, ◌∙◌, ℕ, ◌+◌, ◌<◌, ◌≤◌, ◌^◌, List, [], ◌∷◌, length, refl, sym, ap, subst, arith, Some}
use Rattle.std.proofs.lemmas.List.Elements.{recursion_from_All}
use Rattle.std.specs.List.{AllByRecursion}
use Rattle.std.specs.Prelude.{Option}
use Rattle.td_domain.specs.Pairs.{Pair}
use Rattle.td_domain.specs.Bounds.{IsUpperBoundIn}
use Rattle.td_lead.specs.Timed.{IsTimed}
use Rattle.td_refutation.specs.declared.conditions.NamedCondition.{NamedCondition}
use Rattle.td_refutation.specs.Asking.{all_admitted, IsKept}
use Rattle.td_refutation.proofs.Asking.{nothing_kept}
use Rattle.td_certificate.specs.declared.tree.BoundedBy.TheVariants.{Edges}
use Rattle.td_certificate.specs.declared.tree.Node.{Node}
use Rattle.td_certificate.specs.declared.tree.Node.TheVariants.{Bound}
use Rattle.td_certificate.specs.Accepts.{IsBoundBy, IsGood, are_fit}
use Rattle.td_certificate.specs.Lengths.{IsShort, CanTell}
use Rattle.td_certificate.specs.Questions.{Terms}
use Rattle.td_certificate.specs.Spelling.{HasSpelling, IsNode, version_in}
use Rattle.td_certificate.specs.Trees.{IsTree, has_edges}
use Rattle.td_certificate.specs.Walks.{lines_from}
use Rattle.td_certificate.proofs.Lengths.{searched_texts_fit}
use Rattle.td_certificate.proofs.Told.{no_edges, are_terms, have_few, one_moment}
use Rattle.td_search.proofs.Capped.{capped, capped_asking}
use Rattle.td_search.specs.declared.answers.Answer.TheVariants as answer
use Rattle.td_search.specs.Problems.{Problem}
use Rattle.td_search.specs.Answers.{question_by, certificate_by, IsExact}
use Rattle.td_search.specs.Written.{CanBeWritten}
use Rattle.td_worst.specs.Leaves.{IsSpellable}
use Rattle.td_worst.specs.Methods.{IsSoundAnswer}
use Rattle.td_worst.proofs.Leaves.{cap}

module _ (asked : Problem) (budget : ℕ) (some : 0 < budget) (sizes : IsSpellable asked) (pair : Pair) (time : ℕ) (small : time < 10 ^ 15)
    (long : (length pair.first ≡ length asked.admit.held) × (length pair.second ≡ length asked.admit.held))
    (timed : IsTimed asked.setting asked.admit (record { pair = pair; time = time }))
    (bound : ℕ) (is : IsBoundBy Edges asked.setting asked.admit.pins (Some bound)) (greatest : IsUpperBoundIn asked.setting asked.admit.pins bound)
    (within : bound ≤ time) (tree : List Node) (leaf : tree ≡ Bound Edges bound ∷ []) where
  good : AllByRecursion (IsGood asked.setting (capped_asking (all_admitted asked.admit)) (Some time)) (lines_from (asked.admit.pins ∷ []) (Bound Edges bound ∷ []))
  good = (record { splits = tt; enough = tt; one_pair = tt; of_cube = record { bound = bound; is = is; within = omega arith }; within = within }, tt)

  is_whole : IsTree tree
  is_whole = subst IsTree (sym leaf) refl

  is_exact : IsExact asked budget time pair tree
  is_exact = record {
    reached = (timed.admitted, timed.delay);
    greatest = λ other delay admitted has. omega (arith, greatest other delay admitted.pinned has, within);
    accepted = λ terms bare. record {
      size = record { inputs = sym sizes.held; gates = refl; pins = sizes.pins; fit = ap (are_fit (2 + length asked.admit.held + length asked.setting.netlist.gates)) bare };
      admitted = record {
        admitted = cap asked.admit pair long.0 timed.admitted;
        kept = subst (λ (keep : List NamedCondition). IsKept asked.setting.netlist keep pair) (sym bare) (nothing_kept asked.setting.netlist pair);
      };
      reached = timed.delay;
      tree = is_whole;
      good = subst (λ (keep : List NamedCondition). AllByRecursion (IsGood asked.setting (record { admit = capped asked.admit; keep = keep }) (Some time))
          (lines_from (asked.admit.pins ∷ []) tree)) (sym bare)
          (subst (λ (nodes : List Node). AllByRecursion (IsGood asked.setting (capped_asking (all_admitted asked.admit)) (Some time)) (lines_from (asked.admit.pins ∷ []) nodes))
          (sym leaf) good);
    };
    within = omega (arith, ap length leaf, some);
    small = small;
  }

  spelled : (terms : Option Terms) → CanTell tree terms → HasSpelling (certificate_by terms asked time pair tree)
  spelled terms can = record {
    inputs = omega (arith, sizes.inputs, sizes.held);
    gates = sizes.gates;
    pins = sizes.pins;
    flips = omega arith;
    count = sizes.moments.count ∙ sym sizes.held;
    moments = recursion_from_All _ asked.setting.moments sizes.moments.within;
    terms = are_terms terms tree can;
    claim = record {
      time = omega (arith, small);
      high = one_moment (version_in (certificate_by terms asked time pair tree)) time time refl (omega (arith, small));
      first = long.0;
      second = long.1;
    };
    nodes = subst (λ (nodes : List Node). AllByRecursion (IsNode (version_in (certificate_by terms asked time pair tree))) nodes) (sym leaf) (
      (
        omega (arith, within, small),
        λ other. sym (ap has_edges leaf) ∙ no_edges terms tree (question_by terms asked).admit (question_by terms asked).moments can other,
      ),
      tt,
    );
    tree = is_whole;
  }

  short : AllByRecursion IsShort tree
  short = subst (AllByRecursion IsShort) (sym leaf) (omega (arith, within, small), tt)

  pub exact_by_edges : IsSoundAnswer asked budget (answer.Exact time pair tree) × CanBeWritten asked (answer.Exact time pair tree)
  exact_by_edges = (
    is_exact,
    λ terms can. (
      spelled terms can,
      searched_texts_fit (certificate_by terms asked time pair tree) (spelled terms can) (have_few terms tree can) (small, small) short (omega (arith, ap length leaf)),
    ),
  )
