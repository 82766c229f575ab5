use Rattle.std.proofs.Common.{map, ap, ◌∙◌}
use Rattle.td_gates.specs.Table.{level_from}
use Rattle.td_refutation.proofs.Keeping.{AreLevels, tests_keep, kept_tests}
use Rattle.td_refutation.proofs.settled.is_kept.Goals as goal

pub returns : goal.returns
returns c =
    let circuit = c.args.circuit.now in
    let starts : AreLevels circuit c.in_ok-firsts.firsts.items c.in_ok-before.before.items =
    record { settled = rw c.deref.ensures.value at c.in_ok-before.ensures.settled; only = rw c.deref.ensures.value at c.in_ok-before.ensures.only; count = c.in_ok-before.ensures.nets } in
    let ends : AreLevels circuit c.in_ok-seconds.seconds.items c.in_ok-after.after.items =
    record { settled = rw c.deref-2.ensures.value at c.in_ok-after.ensures.settled; only = rw c.deref-2.ensures.value at c.in_ok-after.ensures.only; count = c.in_ok-after.ensures.nets } in
    let one = c.in_ok-firsts.ensures ∙ ap (map level_from) c.first.ensures in
    let two = c.in_ok-seconds.ensures ∙ ap (map level_from) c.second.ensures in
    rw (c.all_kept.ensures, c.deref-3.ensures.value, c.deref-4.ensures.value) (
      tests_keep circuit c.gates-gates.ensures.numbering c.in_ok-firsts.firsts.items c.in_ok-seconds.seconds.items c.in_ok-before.before.items c.in_ok-after.after.items starts ends
          c.args.keep.now c.args.pair.now one two,
      kept_tests circuit c.gates-gates.ensures.numbering c.in_ok-firsts.firsts.items c.in_ok-seconds.seconds.items c.in_ok-before.before.items c.in_ok-after.after.items starts ends
          c.args.keep.now c.args.pair.now one two,
    )
