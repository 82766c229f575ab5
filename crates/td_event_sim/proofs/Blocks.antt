-- Lemmas on the earliest moments of blocks of slots.
use Rattle.std.proofs.Common.{◌≢◌, ℕ, ◌+◌, ◌-◌, ◌*◌, ◌/◌, ◌^◌, ◌<◌, ◌≤◌, min, List, length, get_or, set, arith, inl, inr, length-set, get_or-set_same, get_or-set_other}
use Rattle.std.proofs.lemmas.Bool.{cases_eq}
use Rattle.td_event_sim.specs.Earliest.{IsLeast, AreBlocks, IsFrom}

-- ---- the least of some moments

pub least-more : (start place : ℕ) (moments : List ℕ) (least : ℕ) → start ≤ place → IsLeast start place moments least
    → IsLeast start (place + 1) moments (min least (get_or moments place 0))
least-more start place moments least order is = record {
  low = λ other from before. elim (cases_eq other place) [
    | inl here ↦ rw here (omega arith)
    | inr apart ↦ (let low : least ≤ get_or moments other 0 = is.low other from (omega arith) in omega arith)
  ];
  greatest = λ from small all.
      let before : from ≤ least = is.greatest from small (λ other after h. all other after (omega arith)) in
      let here : from ≤ get_or moments place 0 = all place order (omega arith) in
      omega arith;
}

-- ---- the moment of a slot is another one
lowered-least : (start end slot moment : ℕ) (moments : List ℕ) (least : ℕ) → slot < length moments → start ≤ slot → slot < end → moment ≤ get_or moments slot 0
    → IsLeast start end moments least → IsLeast start end (set moments slot moment) (min least moment)
lowered-least start end slot moment moments least inside after before earlier is = record {
  low = λ other from h. elim (cases_eq other slot) [
    | inl here ↦ rw (here, get_or-set_same moments slot moment 0 inside) (omega arith)
    | inr apart ↦ rw (get_or-set_other moments slot other moment 0 apart) (let low : least ≤ get_or moments other 0 = is.low other from h in omega arith)
  ];
  greatest = λ from small all.
      let here : from ≤ moment = rw (get_or-set_same moments slot moment 0 inside) at (all slot after before) in
      let old : from ≤ least = is.greatest from small (λ other low h. elim (cases_eq other slot) [
        | inl at_slot ↦ rw at_slot (omega arith)
        | inr apart ↦ rw (get_or-set_other moments slot other moment 0 apart) at (all other low h)
      ]) in
      omega arith;
}

other-least : (start end slot moment : ℕ) (moments : List ℕ) (least : ℕ) → ((place : ℕ) → start ≤ place → place < end → place ≢ slot)
    → IsLeast start end moments least → IsLeast start end (set moments slot moment) least
other-least start end slot moment moments least apart is = record {
  low = λ other from h. rw (get_or-set_other moments slot other moment 0 (apart other from h)) (is.low other from h);
  greatest = λ from small all. is.greatest from small (λ other low h. rw (get_or-set_other moments slot other moment 0 (apart other low h)) at (all other low h));
}

pub changed : (moments blocks : List ℕ) (slot moment least : ℕ) → slot < length moments → moment ≤ 2 ^ 64 - 1 → AreBlocks moments blocks
    → IsLeast (slot / 8 * 8) (slot / 8 * 8 + 8) (set moments slot moment) least
    → AreBlocks (set moments slot moment) (set blocks (slot / 8) least)
changed moments blocks slot moment least inside small are is = record {
  some = rw (length-set blocks (slot / 8) least) are.some;
  slots = rw (length-set moments slot moment, length-set blocks (slot / 8) least) are.slots;
  within = λ other h. elim (cases_eq other slot) [
    | inl here ↦ rw (here, get_or-set_same moments slot moment 0 inside) small
    | inr apart ↦ rw (get_or-set_other moments slot other moment 0 apart) (are.within other (rw (length-set moments slot moment) at h))
  ];
  least = λ block h. elim (cases_eq block (slot / 8)) [
    | inl here ↦ rw (here, get_or-set_same blocks (slot / 8) least 0 (omega (arith, are.slots))) is
    | inr apart ↦ rw (get_or-set_other blocks (slot / 8) block least 0 apart)
        (other-least (block * 8) (block * 8 + 8) slot moment moments (get_or blocks block 0) (λ place low high e. apart (omega arith))
        (are.least block (rw (length-set blocks (slot / 8) least) at h)))
  ];
}

pub lowered : (moments blocks : List ℕ) (slot moment : ℕ) → slot < length moments → moment ≤ get_or moments slot 0 → AreBlocks moments blocks
    → AreBlocks (set moments slot moment) (set blocks (slot / 8) (min (get_or blocks (slot / 8) 0) moment))
lowered moments blocks slot moment inside earlier are =
    let small : get_or moments slot 0 ≤ 2 ^ 64 - 1 = are.within slot inside in
    changed moments blocks slot moment (min (get_or blocks (slot / 8) 0) moment) inside (omega arith) are
    (lowered-least (slot / 8 * 8) (slot / 8 * 8 + 8) slot moment moments (get_or blocks (slot / 8) 0) inside (omega arith) (omega arith) earlier
    (are.least (slot / 8) (omega (arith, are.slots))))

-- ---- all slots
pub first-low : (moments blocks : List ℕ) (read : ℕ) → AreBlocks moments blocks → IsLeast 0 (length blocks) blocks read → IsFrom read moments
first-low moments blocks read are is = λ slot h.
    let block : ℕ = slot / 8 in
    let inside : block < length blocks = omega (arith, are.slots) in
    let first : read ≤ get_or blocks block 0 = is.low block (omega arith) inside in
    let then : get_or blocks block 0 ≤ get_or moments slot 0 = (are.least block inside).low slot (omega arith) (omega arith) in
    omega arith

pub first-greatest : (moments blocks : List ℕ) (read : ℕ) → AreBlocks moments blocks → IsLeast 0 (length blocks) blocks read
    → (from : ℕ) → IsFrom from moments → from ≤ read
first-greatest moments blocks read are is from all =
    let some : 0 < length moments = omega (arith, are.slots, are.some) in
    let low : from ≤ get_or moments 0 0 = all 0 some in
    let within : get_or moments 0 0 ≤ 2 ^ 64 - 1 = are.within 0 some in
    let small : from ≤ 2 ^ 64 - 1 = omega arith in
    is.greatest from small (λ block zero inside. (are.least block inside).greatest from small (λ slot lower upper. all slot (omega (arith, are.slots))))

-- ---- no moment at all
