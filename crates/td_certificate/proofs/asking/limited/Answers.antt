use Rattle.std.proofs.Common.{ap, length, arith}
use Rattle.td_domain.proofs.Weaving.{weave-length}
use Rattle.td_certificate.proofs.asking.limited.Goals as goal

pub new-requires : goal.new-requires
new-requires c =
    omega (
      arith,
      ap length c.in_ok-pins.ensures,
      weave-length c.args.firsts.now c.args.seconds.now (omega (arith, c.requires.firsts, c.requires.seconds)),
      c.requires.firsts,
    )
