use Rattle.std.proofs.lemmas.List.Sorted.{IsPermutation-map}
use Rattle.td_parts.specs.Queues.{place_of}
use Rattle.td_parts.proofs.queue.Queue.push.Goals as goal

pub returns : goal.returns
returns c = IsPermutation-map place_of _ _ c.in_ok-push.ensures.permutation
