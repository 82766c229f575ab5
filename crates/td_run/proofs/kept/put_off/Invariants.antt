use Rattle.std.proofs.Common.{◌≡◌, ℕ, ◌≤◌, length, get_or, take}
use Rattle.std.specs.List.{All}
use Rattle.td_run.proofs.kept.put_off.Given as goal

abbrev pub invariant-loop-net : goal.invariant-loop-net
invariant-loop-net l = record {
  count : length l.ends ≡ length l.initial.ends;
  later : (net : ℕ) → get_or l.initial.ends net 0 ≤ get_or l.ends net 0;
  these : All (λ net. l.evaluated ≤ get_or l.ends net 0) (take l.net-index l.nets);
}
