use Rattle.std.proofs.Common.{◌≡◌, max, length, sym, ap, subst, ◌∙◌, arith}
use Rattle.td_incumbent.specs.Held.{Held}
use Rattle.td_search.specs.Best.{Found as Best}
use Rattle.td_search.specs.Problems.{problem_of, has_delay}
use Rattle.td_search.proofs.Bounded.{vectors_inside}
use Rattle.td_pool.proofs.Finds.{better_best}
use Rattle.td_pool.proofs.kept.KeptKeeper.offer_pair.Goals as goal

pub put-requires-clause-first : goal.put-requires-clause-first
put-requires-clause-first c =
    let admit = c.args.problem.now.admit.now in
    c.requires.keeps.kept.first ∙ sym (vectors_inside (length admit.held) admit.pins c.args.timed.now.pair c.pins-pins.ensures.fit c.requires.timed.admitted.pinned).0

pub put-requires-clause-second : goal.put-requires-clause-second
put-requires-clause-second c =
    let admit = c.args.problem.now.admit.now in
    c.requires.keeps.kept.second ∙ sym (vectors_inside (length admit.held) admit.pins c.args.timed.now.pair c.pins-pins.ensures.fit c.requires.timed.admitted.pinned).1

pub returns-then-timed-self-clause-keeps : goal.returns-then-timed-self-clause-keeps
returns-then-timed-self-clause-keeps c =
    let given = c.args.problem.now in
    let admit = given.admit.now in
    let was = c.requires.keeps.kept in
    let timed = c.args.timed.now in
    let best : c.put.new.self ≡ record { time = timed.time; pair = timed.pair } = c.put.ensures in
    let delay : has_delay (problem_of given) c.put.new.self.pair c.put.new.self.time =
    subst (λ (b : Best). has_delay (problem_of given) b.pair b.time) (sym best) (c.requires.timed.admitted, c.requires.timed.delay) in
    let fits = vectors_inside (length admit.held) admit.pins timed.pair c.pins-pins.ensures.fit c.requires.timed.admitted.pinned in
    let looked : c.look-self.new.seat.offer ≡ c.args.self.now.seat.offer = ap (λ (h : Held). h.offer) c.look-self.ensures.seat in
    let raised : c.raise-self.new.seat.offer ≡ max c.look-self.new.seat.offer timed.time = ap (λ (h : Held). h.offer) c.raise-self.ensures.seat in
    let sees : c.raise-self.new.seat.seen ≡ c.raise-self.result = ap (λ (h : Held). h.seen) c.raise-self.ensures.seat in
    let seen = c.look-self.ensures.seen in
    let before = was.seen in
    let same = was.offer in
    let more = c.if-timed-self.true in
    let of_best : c.put.new.self.time ≡ timed.time = ap (λ (b : Best). b.time) best in
    let low = c.raise-self.ensures.offer in
    record {
      table = ap (λ (h : Held). h.table) c.raise-self.ensures.seat ∙ (ap (λ (h : Held). h.table) c.look-self.ensures.seat ∙ c.requires.keeps.table);
      kept = record {
        is = better_best (problem_of given) c.args.self.now.best c.put.new.self was.is delay (omega (arith, seen, before, same, more, of_best));
        offer = omega (arith, looked, raised, seen, before, more, of_best);
        seen = omega (arith, looked, raised, sees, seen, before, more, low);
        first = ap (λ (b : Best). length b.pair.first) best ∙ fits.0;
        second = ap (λ (b : Best). length b.pair.second) best ∙ fits.1;
      };
      low = omega (arith, of_best, low);
    }
