use Rattle.std.proofs.Common.{◌≡◌}
use Rattle.std.specs.Prelude.{vec_capacity}
use Rattle.td_book.specs.Grafting.{open_leaf}
use Rattle.td_book.proofs.Grafting.{IsSettling}
use Rattle.td_book.proofs.book.settle_all.Given as goal

abbrev pub invariant-loop-state : goal.invariant-loop-state
invariant-loop-state l = record {
  cube : l.chain.cube ≡ l.initial.chain.cube;
  space : l.chain.space ≡ l.initial.chain.space;
  capacity : vec_capacity l.order ≡ vec_capacity l.initial.order;
  settling : IsSettling l.initial.chain.cube l.initial.chain.nodes l.initial.order.items (open_leaf l.fn.lease.cube l.fn.lease.number) l.states l.state-index l.chain.nodes l.order.items l.at;
}
