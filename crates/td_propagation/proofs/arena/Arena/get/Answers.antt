use Rattle.std.proofs.Common.{◌<◌, ◌≤◌, Some, length, map, get_or, sym, ◌∙◌, ap, arith}
use Rattle.std.specs.Prelude.{slice_get, slice_range}
use Rattle.std.proofs.lemmas.Option.{slice_get_past}
use Rattle.td_propagation.specs.Arenas.{start_at}
use Rattle.td_propagation.specs.Literals.{literal_at}
use Rattle.td_propagation.proofs.Parts.{parted_length, start_within, numbers_part}
use Rattle.td_propagation.proofs.arena.Arena.get.Goals as goal

pub part-requires-clause-ordered : goal.part-requires-clause-ordered
part-requires-clause-ordered c =
    let low : c.args.number < length c.self.inside.ends.items = omega (arith, c.if-number-len.true, c.len.ensures, c.self.inside.ends.ok) in
    let within = start_within 0 c.self.inside.ends.items (length c.self.inside.numbers.items) c.args.number c.index.result.now c.self.invariant low in
    let begin = c.start_at-start.ensures ∙ ap (λ ends. start_at 0 ends c.args.number) c.deref.ensures.value in
    omega (arith, within.0, begin, c.index.ensures)

pub part-requires-clause-within : goal.part-requires-clause-within
part-requires-clause-within c =
    let low : c.args.number < length c.self.inside.ends.items = omega (arith, c.if-number-len.true, c.len.ensures, c.self.inside.ends.ok) in
    let within = start_within 0 c.self.inside.ends.items (length c.self.inside.numbers.items) c.args.number c.index.result.now c.self.invariant low in
    let all = ap (λ list. length list) c.deref-then-number-len.ensures.value in
    omega (arith, within.1, all, c.index.ensures)

pub returns-then-number-len : goal.returns-then-number-len
returns-then-number-len c =
    let low : c.args.number < length c.self.inside.ends.items = omega (arith, c.if-number-len.true, c.len.ensures, c.self.inside.ends.ok) in
    let begin = c.start_at-start.ensures ∙ ap (λ ends. start_at 0 ends c.args.number) c.deref.ensures.value in
    ap (λ list. slice_get list c.args.number) (sym c.self.view_is)
    ∙ (numbers_part c.self.inside.numbers.items c.self.inside.ends.items c.args.number c.index.result.now low
    ∙ ap (λ part. Some (map literal_at part)) (ap (λ start. slice_range c.self.inside.numbers.items start (get_or c.self.inside.ends.items c.args.number c.index.result.now)) (sym begin)
    ∙ (ap (λ end. slice_range c.self.inside.numbers.items c.start_at-start.result end) (sym c.index.ensures)
    ∙ (ap (λ list. slice_range list c.start_at-start.result c.index.result.now) (sym c.deref-then-number-len.ensures.value)
    ∙ sym c.part.ensures))))

pub returns-else-number-len : goal.returns-else-number-len
returns-else-number-len c =
    let all = sym (ap (λ list. length list) c.self.view_is) ∙ parted_length (map literal_at c.self.inside.numbers.items) 0 c.self.inside.ends.items in
    let past : length c.args.self.now ≤ c.args.number = omega (arith, c.if-number-len.false, c.len.ensures, c.self.inside.ends.ok, all) in
    slice_get_past c.args.self.now c.args.number past
