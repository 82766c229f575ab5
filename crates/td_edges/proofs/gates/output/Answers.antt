use Rattle.std.proofs.Common.{max}
use Rattle.td_edges.proofs.Reaching.{within}
use Rattle.td_edges.proofs.gates.output.Goals as goal

pub delayed_changes-changes-requires : goal.delayed_changes-changes-requires
delayed_changes-changes-requires c = record {
  within = within c.args.kind _ _ _ _ _ (max c.args.delay.rise c.args.delay.fall) c.gathered-start.ensures.changes c.in-Some.is
      c.target_span-target.ensures c.kept_by-kept.ensures c.requires.within;
}
