use Rattle.std.proofs.Common.{rules, length, arith, sym, subst}
use Rattle.std.specs.List.Sorted.{IsNonDecreasingBy, IsPermutation}
use Rattle.std.proofs.lemmas.List.Sorted.{IsNonDecreasingBy-from_sort_by_key}
use Rattle.std.proofs.lemmas.Result.{IfOk-weaker}
use Rattle.td_question.specs.Found.{condition_order}
use Rattle.td_question.proofs.Orders.{in_order}
use Rattle.td_question.proofs.rising.in_order.Goals as goal

pub once-requires : goal.once-requires
once-requires c =
    subst (IsNonDecreasingBy condition_order) (sym c.deref.ensures.value)
    (IsNonDecreasingBy-from_sort_by_key condition_order _ c.sort_unstable_by_key.ensures.sorted (λ a r q k. search rules))

pub returns : goal.returns
returns c = IfOk-weaker c.once.result _ _
    (λ keep is. in_order c.args.said.items c.deref.result.now keep.items (length c.deref.result.now)
    (subst (IsPermutation c.args.said.items) (sym c.deref.ensures.value) c.sort_unstable_by_key.ensures.permutation) (omega arith) is)
    c.once.ensures
