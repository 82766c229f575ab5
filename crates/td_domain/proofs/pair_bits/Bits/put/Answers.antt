use Rattle.std.proofs.Common.{◌≡◌, ◌-◌, ◌+◌, ℕ, ◌∙◌, set, ap, refl, arith}
use Rattle.std.proofs.lemmas.List.{length-set}
use Rattle.td_domain.specs.Admits.{flips_of}
use Rattle.td_domain.proofs.Changing.{flips-changed, stays}
use Rattle.td_domain.proofs.pair_bits.Bits.put.Goals as goal

pub overflow_sub-others : goal.overflow_sub-others
overflow_sub-others c =
    (flips-changed c.args.self.now.first.items c.args.self.now.second.items c.args.input _ _ _ _ (omega arith) (omega arith)
    c.index.ensures c.index-2.ensures c.flip_of.ensures.is c.requires.bits.flips).0

pub returns-then-fits : goal.returns-then-fits
returns-then-fits c =
    let changed = flips-changed c.args.self.now.first.items c.args.self.now.second.items c.args.input _ _ _ _ (omega arith) (omega arith)
    c.index.ensures c.index-2.ensures c.flip_of.ensures.is c.requires.bits.flips in
    let flips : c.args.self.now.flips - c.flip_of.result + c.flip_of-flip.result
    ≡ flips_of (set c.args.self.now.first.items c.args.input c.args.before) (set c.args.self.now.second.items c.args.input c.args.after) =
    ap (λ (f : ℕ). c.args.self.now.flips - c.flip_of.result + f) c.flip_of-flip.ensures.is ∙ changed.1 c.args.before c.args.after in
    record {
      admitted = stays c.args.admit.now c.args.self.now.first.items c.args.self.now.second.items c.args.input c.args.before c.args.after c.requires.bits.admitted
          (c.if-fits.ensures.0 refl) (omega (arith, flips, c.flips.ensures, c.if-flip-flips.true, c.requires.bits.admitted.few, c.requires.bits.flips));
      flips = flips;
      firsts = length-set c.args.self.now.first.items c.args.input c.args.before ∙ c.requires.bits.firsts;
      seconds = length-set c.args.self.now.second.items c.args.input c.args.after ∙ c.requires.bits.seconds;
    }
