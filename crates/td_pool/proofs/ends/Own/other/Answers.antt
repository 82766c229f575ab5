use Rattle.td_pool.proofs.Fairness.{admits}
use Rattle.td_pool.proofs.ends.Own.other.Goals as goal

pub pass-pass-requires : goal.pass-pass-requires
pass-pass-requires c = admits
