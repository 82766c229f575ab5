use Rattle.std.proofs.Common.{◌<◌, length, arith}
use Rattle.td_search.proofs.Rooted.{some_at, some_below, places_more}
use Rattle.td_search.proofs.findings.write_places.Goals as goal

pub loop-place-preserved : goal.loop-place-preserved
loop-place-preserved c =
    let pieces = c.args.pieces.now in
    let low : c.loop-place.place < length pieces = let h = c.loop-place-test.true in let e = c.loop-place.auto.place-end in omega arith in
    let at = some_at pieces c.loop-place.place low in
    places_more pieces c.loop-place.place _ c.number_at.result at.0 c.loop-place.places c.write_place.new.places at.1 (c.number_at.ensures at.0 at.1) c.loop-place.invariant c.write_place.ensures.len
    c.write_place.ensures.here c.write_place.ensures.elsewhere

pub returns : goal.returns
returns c = λ place piece last inside.
    let low = some_below c.args.pieces.now place piece last.there in
    let h = c.loop-place-test.false in
    let e = c.loop-place.auto.place-end in
    c.loop-place.invariant.known place piece (omega (arith, low, h, e)) last.there (λ other later after before found. last.last other later after found) last.small inside
