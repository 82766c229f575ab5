use Rattle.std.proofs.Common.{[]}
use Rattle.td_run.specs.Waves.{waves_of}
use Rattle.td_ternary.proofs.Picked.{one-picked, two-picked, first-within, second-within}
use Rattle.td_ternary.proofs.gates.uncapped.Goals as goal

pub output_of_one-requires-clause-within : goal.output_of_one-requires-clause-within
output_of_one-requires-clause-within c = first-within 9223372036854775808 (waves_of c.args.all.now c.args.ins.now) c.index-all-ins.result []
    (one-picked c.args.all.now c.args.ins.now c.index-all-ins.result c.in-1.is c.requires.places c.index-all-ins.is) c.requires.within

pub output_of_two-requires-clause-left : goal.output_of_two-requires-clause-left
output_of_two-requires-clause-left c = first-within 9223372036854775808 (waves_of c.args.all.now c.args.ins.now) c.index-all-ins-in-2.result _
    (two-picked c.args.all.now c.args.ins.now c.index-all-ins-in-2.result c.index-all-ins-in-2-2.result c.in-2.is c.requires.places c.index-all-ins-in-2.is c.index-all-ins-in-2-2.is)
    c.requires.within

pub output_of_two-requires-clause-right : goal.output_of_two-requires-clause-right
output_of_two-requires-clause-right c = second-within 9223372036854775808 (waves_of c.args.all.now c.args.ins.now) c.index-all-ins-in-2.result c.index-all-ins-in-2-2.result []
    (two-picked c.args.all.now c.args.ins.now c.index-all-ins-in-2.result c.index-all-ins-in-2-2.result c.in-2.is c.requires.places c.index-all-ins-in-2.is c.index-all-ins-in-2-2.is)
    c.requires.within

pub returns-in-2-clause-shows : goal.returns-in-2-clause-shows
returns-in-2-clause-shows c =
    rw (two-picked c.args.all.now c.args.ins.now c.index-all-ins-in-2.result c.index-all-ins-in-2-2.result c.in-2.is c.requires.places c.index-all-ins-in-2.is c.index-all-ins-in-2-2.is)
    c.output_of_two.ensures.shows
