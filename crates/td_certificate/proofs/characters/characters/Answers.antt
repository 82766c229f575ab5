use Rattle.std.proofs.Common.{arith, ap, length, [], ◌∷◌}
use Rattle.std.proofs.lemmas.List.{length-append}
use Rattle.std.proofs.lemmas.Result.{err_from_is_err_and}
use Rattle.td_certificate.proofs.Loops.{chars_stop, chars_go_on, chars_done}
use Rattle.td_certificate.proofs.characters.characters.Goals as goal

pub returns-in_err-value-clause-read : goal.returns-in_err-value-clause-read
returns-in_err-value-clause-read g c =
    let p = err_from_is_err_and c.from_residual.result c.from_residual.ensures.1 in
    rw (p.1, p.2) (chars_stop _ g.A.Alphabet.value_of c.loop.values.items c.args.count c.loop.counter _ _ c.loop-test.true c.in_err-value.ensures c.loop.invariant.read)

pub loop-preserved : goal.loop-preserved
loop-preserved g c = record {
  read = rw c.in_ok-push.ensures.items (chars_go_on g.A.Alphabet.value_of c.loop.values.items c.args.count c.loop.counter _ _ _ c.loop-test.true c.in_ok-value.ensures c.loop.invariant.read);
  count = omega (arith, ap length c.in_ok-push.ensures.items, length-append c.loop.values.items (c.in_ok-value.value ∷ []), c.loop.invariant.count);
}

pub returns-clause-read : goal.returns-clause-read
returns-clause-read g c = chars_done g.A.Alphabet.value_of c.loop.values.items c.args.count c.loop.counter _ _ (omega arith) c.loop.invariant.read
