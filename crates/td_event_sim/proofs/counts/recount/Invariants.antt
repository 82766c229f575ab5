use Rattle.std.proofs.Common.{◌≡◌, ◌+◌, ℕ, List, length, take}
use Rattle.td_event_sim.specs.Counting.{AreRecounted}
use Rattle.td_event_sim.specs.Rules.{AreReported, ones_of, rules_of}
use Rattle.td_event_sim.specs.Scratch.{AreNets}
use Rattle.td_event_sim.proofs.counts.recount.Given as goal

abbrev pub invariant-loop-reader : goal.invariant-loop-reader
invariant-loop-reader l = record {
  counts : AreRecounted l.first_output (take l.reader-index l.readers) l.rises (ones_of l.fn.tallies) (ones_of l.tallies);
  rules : rules_of l.tallies ≡ rules_of l.fn.tallies;
  reported : (begun : List ℕ) → AreReported l.first_output (rules_of l.fn.tallies) begun (ones_of l.fn.tallies) l.fn.turned.items
      → AreReported l.first_output (rules_of l.fn.tallies) begun (ones_of l.tallies) l.turned.items;
  outputs : AreNets l.first_output (l.first_output + length l.fn.tallies) l.fn.turned.items → AreNets l.first_output (l.first_output + length l.fn.tallies) l.turned.items;
}
