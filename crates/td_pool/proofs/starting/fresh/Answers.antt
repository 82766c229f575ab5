use Rattle.std.proofs.Common.{◌≡◌, max, length, sym, ap, subst, ◌∙◌, arith}
use Rattle.std.specs.List.{AllByRecursion}
use Rattle.td_incumbent.specs.Held.{Held}
use Rattle.td_search.specs.Findings.{IsTrueEvidence}
use Rattle.td_search.specs.Problems.{Problem, problem_by}
use Rattle.td_search.proofs.Bounded.{vectors_inside}
use Rattle.td_pool.proofs.starting.fresh.Goals as goal

pub returns : goal.returns
returns c =
    let asked : Problem = problem_by c.args.problem.now.strategy c.args.problem.now.circuit.now c.args.problem.now.admit.now in
    let raised : c.raise-seen.new.seat.offer ≡ max c.args.seat.offer c.args.first = ap (λ (h : Held). h.offer) c.raise-seen.ensures.seat in
    let sees : c.raise-seen.new.seat.seen ≡ c.raise-seen.result = ap (λ (h : Held). h.seen) c.raise-seen.ensures.seat in
    let none = c.requires.seat.1 in
    let time = c.in_ok-best.ensures.time in
    let low = c.raise-seen.ensures.offer in
    let fits = vectors_inside (length c.args.problem.now.admit.now.held) c.args.problem.now.admit.now.pins c.in_ok-best.best.pair c.pins-pins.ensures.fit c.in_ok-best.ensures.best.0.0.pinned in (
      ap (λ (h : Held). h.table) c.raise-seen.ensures.seat ∙ c.requires.seat.0,
      record {
        evidence = subst (AllByRecursion (IsTrueEvidence asked)) (sym c.new.ensures.items) tt;
        kept = record {
          is = c.in_ok-best.ensures.best;
          offer = omega (arith, raised, none, time);
          seen = omega (arith, raised, none, sees, low);
          first = fits.0;
          second = fits.1;
        };
      },
    )
