use Rattle.std.proofs.Common.{sym, ap, ◌∙◌, map}
use Rattle.std.proofs.lemmas.List.{nil_from_length}
use Rattle.std.proofs.lemmas.List.Sorted.{IsPermutation-map}
use Rattle.td_parts.specs.Queues.{place_of}
use Rattle.td_parts.proofs.queue.Queue.pop.Goals as goal

pub returns-in-Some : goal.returns-in-Some
returns-in-Some c = IsPermutation-map place_of _ _ c.in-Some.ensures.permutation

pub returns-in-None : goal.returns-in-None
returns-in-None c =
    let none = ap (map place_of) (nil_from_length _ (sym c.args.self.now.heap.data.ok.0 ∙ c.in-None.ensures.none)) in
    (none, ap (map place_of) c.in-None.ensures.unchanged.0 ∙ none)
