use Rattle.std.proofs.Common.{rules, sym, ◌∙◌, arith}
use Rattle.std.proofs.lemmas.Option.{slice_get_within}
use Rattle.td_join.proofs.Widening.{outside_at, kept_more}
use Rattle.td_join.proofs.hulls.is_outside.Goals as goal

pub returns-then-is_pinned_otherwise-clause-outside : goal.returns-then-is_pinned_otherwise-clause-outside
returns-then-is_pinned_otherwise-clause-outside c reported =
    let differ = c.is_pinned_otherwise.ensures.other (search rules) in
    outside_at c.args.pins.now c.args.cube.now c.loop-position.position c.trit.result c.trit-in-loop-position.result
    c.trit.ensures c.trit-in-loop-position.ensures differ.0 differ.1

pub loop-position-preserved : goal.loop-position-preserved
loop-position-preserved c =
    kept_more c.args.pins.now c.args.cube.now c.loop-position.position c.trit.result c.trit-in-loop-position.result c.loop-position.invariant
    c.trit.ensures c.trit-in-loop-position.ensures (c.is_pinned_otherwise.ensures.same c.if-is_pinned_otherwise.false)

pub returns-clause-inside : goal.returns-clause-inside
returns-clause-inside c same = record {
  fits = sym c.len.ensures ∙ c.if-len.false ∙ c.len-2.ensures;
  keeps = λ position t at known. c.loop-position.invariant position t
      (omega (arith, slice_get_within c.args.pins.now position t at, c.loop-position-test.false, c.len-position-end.ensures)) at known;
}
