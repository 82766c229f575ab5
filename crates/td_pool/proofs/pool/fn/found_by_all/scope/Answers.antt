use Rattle.std.proofs.Common.{rules, sym, subst, arith}
use Rattle.std.specs.List.{AllByRecursion}
use Rattle.td_pool.proofs.Finds.{all_push, one_longer}
use Rattle.td_pool.proofs.pool.fn.found_by_all.scope.Goals as goal
use Rattle.td_pool.proofs.pool.fn.found_by_all.scope.Goals.{in-Ok, in_default-spawn_with+in-Err-1, in_default-spawn_with+in-Ok-1}

pub loop-worker-preserved : goal.loop-worker-preserved
loop-worker-preserved g c =
    let left = c.split_off-share.ensures.parts_left in
    let kept = c.split_off-share.ensures.amount_left in
    let was = c.loop-worker.invariant in
    let parts = was.parts in
    let none = was.amount in
    let few = was.few in
    record {
      waiting = c.next_found.ensures.waiting;
      started = elim c.match-spawn_with.branch [
        | in-Ok w ↦ rw w.handles-is (subst (AllByRecursion _) (sym w.push_reserved.ensures.items) (all_push _ _ _ was.started (search rules)))
        | in_default-spawn_with+in-Err-1 w ↦ rw w.handles-is was.started
        | in_default-spawn_with+in-Ok-1 w ↦ rw w.handles-is was.started
      ];
      few = elim c.match-spawn_with.branch [
        | in-Ok w ↦ rw w.handles-is (let size = one_longer c.loop-worker.handles.items _ _ w.push_reserved.ensures.items in omega (arith, size, few))
        | in_default-spawn_with+in-Err-1 w ↦ rw w.handles-is (omega (arith, few))
        | in_default-spawn_with+in-Ok-1 w ↦ rw w.handles-is (omega (arith, few))
      ];
      space = elim c.match-spawn_with.branch [
        | in-Ok w ↦ rw w.handles-is (let same = w.push_reserved.ensures.capacity in let r = was.space in omega (arith, same, r))
        | in_default-spawn_with+in-Err-1 w ↦ rw w.handles-is was.space
        | in_default-spawn_with+in-Ok-1 w ↦ rw w.handles-is was.space
      ];
      none = was.none;
      all_space = was.all_space;
      parts = omega arith;
      amount = omega arith;
    }
