-- Internal: the places in a queue of parts.
use Rattle.std.specs.Prelude.{◌≡◌, ◌≢◌, ℕ, ◌<◌, List, map, All, slice_get, Some}
use Rattle.std.specs.List.{Contains}
use Rattle.std.specs.BinaryHeap.{heap_items}
use Rattle.std.specs.declared.cmp.Reverse.{Reverse}
use Rattle.td_parts.specs.declared.split.Split.{Split}
use Rattle.td_parts.specs.declared.part.Part.{Part}
use Rattle.td_parts.specs.declared.queue.Queue.{Queue}

abbrev pub place_of : ℕ × Reverse ℕ → ℕ
place_of entry = entry.1.0

-- the places in the queue, in no particular order
abbrev pub places_of : Queue → List ℕ
places_of queue = map place_of (heap_items queue.heap)

-- each place in the queue is below this
abbrev pub AreBelow : ℕ → Queue → Type 0
AreBelow count queue = All (λ place. place < count) (places_of queue)

-- the place of each part that may be split is in the queue
abbrev pub AreWaiting : List Part → Queue → Type 0
AreWaiting parts queue = (place : ℕ) (part : Part) (split : Split) → slice_get parts place ≡ Some part → part.split ≡ Some split → Contains (places_of queue) place

-- that of each but the part of this place
abbrev pub AreWaitingBut : ℕ → List Part → Queue → Type 0
AreWaitingBut taken parts queue =
    (place : ℕ) (part : Part) (split : Split) → place ≢ taken → slice_get parts place ≡ Some part → part.split ≡ Some split → Contains (places_of queue) place
