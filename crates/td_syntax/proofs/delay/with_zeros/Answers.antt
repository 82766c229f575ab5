use Rattle.std.proofs.Common.{◌≡◌, ℕ, ◌-◌, [], suc, inl, ap, subst, arith, add-one}
use Rattle.td_syntax.specs.Grammar.{steps_behind}
use Rattle.td_syntax.proofs.Values.{Alike, zero_goes, kept_as}
use Rattle.td_syntax.proofs.delay.with_zeros.Goals as goal

pub loop-init : goal.loop-init
loop-init c =
    let all : c.args.zeros - 0 ≡ c.args.zeros = omega arith in
    (c.requires, inl (ap (λ (n : ℕ). steps_behind c.args.value n []) all))

pub loop-preserved : goal.loop-preserved
loop-preserved c =
    let left = c.args.zeros - suc c.loop.counter in
    let one : c.args.zeros - c.loop.counter ≡ suc left = omega arith in
    rw add-one (zero_goes c.loop.longer left (steps_behind c.args.value c.args.zeros []) c.with_digit-longer.result c.with_digit-longer.ensures
    (subst (λ (n : ℕ). Alike (steps_behind c.loop.longer n []) (steps_behind c.args.value c.args.zeros [])) one c.loop.invariant.1))

pub returns : goal.returns
returns c =
    let none : c.args.zeros - c.loop.counter ≡ 0 = omega arith in
    kept_as c.loop.longer (steps_behind c.args.value c.args.zeros []) c.loop.invariant.0
    (subst (λ (n : ℕ). Alike (steps_behind c.loop.longer n []) (steps_behind c.args.value c.args.zeros [])) none c.loop.invariant.1)
