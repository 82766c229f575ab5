use Rattle.std.proofs.Common.{◌≡◌, ◌<◌, List, length, get_or, ap, arith, rules}
use Rattle.std.proofs.lemmas.Option.{slice_get_within}
use Rattle.td_pool.specs.Fair.{DequePorts, ring}
use Rattle.td_pool.proofs.Dealing.{own_after, others_after}
use Rattle.td_pool.proofs.deck.Deck.deal.Goals as goal

pub loop-k-preserved : goal.loop-k-preserved
loop-k-preserved c =
    let seats : List DequePorts = c.loop-k.decks.items in
    let count : length seats ≡ c.args.workers = c.loop-k.invariant.count in
    let low : c.loop-k.k < length seats = let t = c.loop-k-test.true in omega arith in
    let u : DequePorts = c.index_mut.result.now in
    let is : u ≡ get_or seats c.loop-k.k u = c.index_mut.ensures.value in
    let own : c.steal_from.new.self.own ≡ u.own = ap (λ (s : DequePorts). s.own) c.steal_from.ensures in
    let others : c.steal_from.new.self.others ≡ ring seats c.loop-k.k = search rules in
    record {
      count = search rules;
      own = own_after seats c.loop-k.k u c.steal_from.new.self low is own others c.loop-k.invariant.own;
      others = others_after seats c.loop-k.k u c.steal_from.new.self low is own others c.loop-k.invariant.others;
    }

pub returns-clause-dealt : goal.returns-clause-dealt
returns-clause-dealt c = record {
  own = c.loop-k.invariant.own;
  others = λ j s at.
      let low = slice_get_within c.loop-k.decks.items j s at in
      let count = c.loop-k.invariant.count in let over = c.loop-k-test.false in
      c.loop-k.invariant.others j s (omega arith) at;
}
