use Rattle.std.proofs.Common.{◌≡◌, ℕ, max, length, sym, ap, subst, ◌∙◌, arith}
use Rattle.td_domain.specs.Pairs.{Pair}
use Rattle.td_incumbent.specs.Held.{Held}
use Rattle.td_search.specs.Best.{Found as Best}
use Rattle.td_search.specs.Problems.{problem_of, has_delay}
use Rattle.td_search.specs.Representatives.{representative}
use Rattle.td_search.proofs.Bits.{is_inside}
use Rattle.td_search.proofs.Bounded.{vectors_inside}
use Rattle.td_pool.proofs.Finds.{better_best}
use Rattle.td_pool.proofs.kept.KeptKeeper.offer.Goals as goal

pub returns-then-time-self-clause-keeps : goal.returns-then-time-self-clause-keeps
returns-then-time-self-clause-keeps c =
    let given = c.args.problem.now in
    let admit = given.admit.now in
    let was = c.requires.keeps.kept in
    let pair : Pair = representative admit c.args.cube.now in
    let time : ℕ = c.args.time in
    let best : c.replace.new.self ≡ best_of time pair = c.replace.ensures in
    let delay : has_delay (problem_of given) c.replace.new.self.pair c.replace.new.self.time =
    subst (λ (b : Best). has_delay (problem_of given) b.pair b.time) (sym best) c.requires.measured.is in
    let fits = vectors_inside (length admit.held) c.args.cube.now pair c.requires.positions (is_inside admit c.args.cube.now c.requires.positions) in
    let looked : c.look-self.new.seat.offer ≡ c.args.self.now.seat.offer = ap (λ (h : Held). h.offer) c.look-self.ensures.seat in
    let raised : c.raise-self.new.seat.offer ≡ max c.look-self.new.seat.offer time = ap (λ (h : Held). h.offer) c.raise-self.ensures.seat in
    let sees : c.raise-self.new.seat.seen ≡ c.raise-self.result = ap (λ (h : Held). h.seen) c.raise-self.ensures.seat in
    let seen = c.look-self.ensures.seen in
    let before = was.seen in
    let same = was.offer in
    let more = c.if-time-self.true in
    let of_best : c.replace.new.self.time ≡ time = ap (λ (b : Best). b.time) best in
    let low = c.raise-self.ensures.offer in
    record {
      table = ap (λ (h : Held). h.table) c.raise-self.ensures.seat ∙ (ap (λ (h : Held). h.table) c.look-self.ensures.seat ∙ c.requires.keeps.table);
      kept = record {
        is = better_best (problem_of given) c.args.self.now.best c.replace.new.self was.is delay (omega (arith, seen, before, same, more, of_best));
        offer = omega (arith, looked, raised, seen, before, more, of_best);
        seen = omega (arith, looked, raised, sees, seen, before, more, low);
        first = ap (λ (b : Best). length b.pair.first) best ∙ fits.0;
        second = ap (λ (b : Best). length b.pair.second) best ∙ fits.1;
      };
      low = omega (arith, of_best, low);
    }
  where
    best_of : ℕ → Pair → Best
    best_of time pair = record { time = time; pair = pair }
