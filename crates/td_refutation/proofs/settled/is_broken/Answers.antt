use Rattle.std.proofs.Common.{true, false}
use Rattle.td_refutation.proofs.Keeping.{AreLevels, tests_break, broken_tests, long_levels}
use Rattle.td_refutation.proofs.settled.is_broken.Goals as goal

pub settle-requires : goal.settle-requires
settle-requires c = rw (c.deref.ensures.value, c.in_ok-firsts.ensures) (long_levels false c.args.circuit.now c.args.cube.now c.requires)

pub settle-requires-2 : goal.settle-requires-2
settle-requires-2 c = rw (c.deref-2.ensures.value, c.in_ok-seconds.ensures) (long_levels true c.args.circuit.now c.args.cube.now c.requires)

pub returns : goal.returns
returns c =
    let circuit = c.args.circuit.now in
    let starts : AreLevels circuit c.in_ok-firsts.firsts.items c.in_ok-before.before.items =
    record { settled = rw c.deref.ensures.value at c.in_ok-before.ensures.settled; only = rw c.deref.ensures.value at c.in_ok-before.ensures.only; count = c.in_ok-before.ensures.nets } in
    let ends : AreLevels circuit c.in_ok-seconds.seconds.items c.in_ok-after.after.items =
    record { settled = rw c.deref-2.ensures.value at c.in_ok-after.ensures.settled; only = rw c.deref-2.ensures.value at c.in_ok-after.ensures.only; count = c.in_ok-after.ensures.nets } in
    rw (c.some_broken.ensures, c.deref-3.ensures.value, c.deref-4.ensures.value) (
      tests_break circuit c.gates-gates.ensures.numbering c.in_ok-firsts.firsts.items c.in_ok-seconds.seconds.items c.in_ok-before.before.items c.in_ok-after.after.items starts ends
          c.args.keep.now c.args.cube.now c.in_ok-firsts.ensures c.in_ok-seconds.ensures,
      broken_tests circuit c.gates-gates.ensures.numbering c.in_ok-firsts.firsts.items c.in_ok-seconds.seconds.items c.in_ok-before.before.items c.in_ok-after.after.items starts ends
          c.args.keep.now c.args.cube.now c.in_ok-firsts.ensures c.in_ok-seconds.ensures,
    )
