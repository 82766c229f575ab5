-- The signals at the places of a gate's inputs, one more at a time.
use Rattle.std.proofs.Common.{◌≡◌, ℕ, ◌+◌, ◌<◌, ◌≤◌, min, max, List, [], ◌∷◌, ◌++◌, length, map, take, get_or, refl, arith, ap, ◌∙◌, sym, Bool, true, false, Option, Some, None}
use Rattle.std.specs.Prelude.{filter_map, slice_get, cond, count_by}
use Rattle.std.specs.Option.{is_some}
use Rattle.std.proofs.lemmas.List.{take_more, map-append}
use Rattle.std.proofs.lemmas.List.Elements.{filter_map-append}
use Rattle.std.proofs.lemmas.Option.{slice_get-get_or}
use Rattle.td_gates.specs.declared.primitives.Level.{Level}
use Rattle.td_gates.specs.declared.primitives.Level.TheVariants.{Zero, One, X}
use Rattle.td_gates.specs.declared.counts.Counts.{Counts}
use Rattle.td_gates.specs.Table.{level_eq}
use Rattle.td_gates.specs.Counts.{count_at, with_one, counts_of}
use Rattle.td_gates.proofs.CountLaws.{count-passing, passing}
use Rattle.td_edges.specs.declared.signals.Span.{Span}
use Rattle.td_edges.specs.declared.signals.Signal.{Signal}
use Rattle.td_edges.specs.declared.parting.Parting.{Parting}
use Rattle.td_edges.specs.EdgeSignals.{around, hull, capped, raised, kept_by}
use Rattle.td_edges.specs.Parting.{parted_with, parted}

-- the elements at one more place
pub picked-more : {A : Type 0} (xs : List A) (places : List ℕ) (i : ℕ) (d : A) → i < length places → get_or places i 0 < length xs
    → filter_map (slice_get xs) (take (i + 1) places) ≡ filter_map (slice_get xs) (take i places) ++ get_or xs (get_or places i 0) d ∷ []
picked-more xs places i d within place =
    let stands : slice_get xs (get_or places i 0) ≡ Some (get_or xs (get_or places i 0) d) = slice_get-get_or xs (get_or places i 0) d place in
    let longer : take (i + 1) places ≡ take i places ++ get_or places i 0 ∷ [] = take_more places i 0 within in
    let picked : filter_map (slice_get xs) (get_or places i 0 ∷ []) ≡ get_or xs (get_or places i 0) d ∷ [] = rw stands refl in
    rw (longer, filter_map-append, picked) refl

-- one more input
around-assoc : (a b c : Option Span) → around (around a b) c ≡ around a (around b c)
around-assoc None b c = refl
around-assoc (Some a) None c = refl
around-assoc (Some a) (Some b) None = refl
around-assoc (Some a) (Some b) (Some c) =
    let early : min (min a.earliest b.earliest) c.earliest ≡ min a.earliest (min b.earliest c.earliest) = omega arith in
    let falls : max (max a.falls_until b.falls_until) c.falls_until ≡ max a.falls_until (max b.falls_until c.falls_until) = omega arith in
    let rises : max (max a.rises_until b.rises_until) c.rises_until ≡ max a.rises_until (max b.rises_until c.rises_until) = omega arith in
    rw (early, falls, rises) refl

around-none : (a : Option Span) → around a None ≡ a
around-none None = refl
around-none (Some a) = refl

pub hull-more : (signals : List Signal) (signal : Signal) → hull (signals ++ signal ∷ []) ≡ around (hull signals) signal.changes
hull-more [] signal = around-none signal.changes
hull-more (s ∷ signals) signal = ap (λ rest. around s.changes rest) (hull-more signals signal) ∙ sym (around-assoc s.changes (hull signals) signal.changes)

pub parted-more : (parts : Parting) (signals : List Signal) (signal : Signal)
    → parted parts (signals ++ signal ∷ []) ≡ parted_with signal (parted parts signals)
parted-more parts [] signal = refl
parted-more parts (s ∷ signals) signal = parted-more (parted_with s parts) signals signal

pub kept-more : (control : Option Level) (out : Level) (signals : List Signal) (signal : Signal) (span : Span)
    → kept_by control out (signals ++ signal ∷ []) span ≡ raised control signal (capped control out signal (kept_by control out signals span))
kept-more control out [] signal span = refl
kept-more control out (s ∷ signals) signal span = kept-more control out signals signal (raised control s (capped control out s span))

nobody : (out : Level) (signals : List Signal) (span : Span) → span ≡ kept_by None out signals span
nobody out [] span = refl
nobody out (s ∷ signals) span = nobody out signals span

pub kept-none : (given control : Option Level) (out : Level) (signals : List Signal) (span : Span) → given ≡ control → is_some given ≡ false
    → span ≡ kept_by control out signals span
kept-none given None out signals span same none = nobody out signals span
kept-none given (Some level) out signals span same none = let no = rw same at none in cc

count-more : (test : Level → Bool) (levels : List Level) (level : Level)
    → count_by test (levels ++ level ∷ []) ≡ count_by test levels + cond (test level) 1 0
count-more test levels level = count-passing test (levels ++ level ∷ []) ∙ by levels ∙ ap (λ n. n + cond (test level) 1 0) (sym (count-passing test levels))
  where
    by : (levels : List Level) → passing test (levels ++ level ∷ []) ≡ passing test levels + cond (test level) 1 0
    by [] = one (test level)
      where
        one : (b : Bool) → cond b (1 + 0) 0 ≡ 0 + cond b 1 0
        one true = omega arith
        one false = omega arith
    by (l ∷ levels) = two (test l) (passing test (levels ++ level ∷ [])) (passing test levels) (cond (test level) 1 0) (by levels)
      where
        two : (b : Bool) (n m k : ℕ) → n ≡ m + k → cond b (1 + n) n ≡ cond b (1 + m) m + k
        two true n m k same = omega arith
        two false n m k same = same

pub counted-more : (f : Signal → Level) (signals : List Signal) (signal : Signal)
    → with_one (counts_of (map f signals)) (f signal) ≡ counts_of (map f (signals ++ signal ∷ []))
counted-more f signals signal = rw map-append (by (f signal) (map f signals))
  where
    none : (n : ℕ) → n + 0 ≡ n
    none n = omega arith

    by : (level : Level) (levels : List Level) → with_one (counts_of levels) level ≡ counts_of (levels ++ level ∷ [])
    by Zero levels = rw (
      count-more (level_eq Zero) levels Zero,
      count-more (level_eq One) levels Zero,
      count-more (level_eq X) levels Zero,
      none (count_by (level_eq One) levels),
      none (count_by (level_eq X) levels),
    ) refl
    by One levels = rw (
      count-more (level_eq Zero) levels One,
      count-more (level_eq One) levels One,
      count-more (level_eq X) levels One,
      none (count_by (level_eq Zero) levels),
      none (count_by (level_eq X) levels),
    ) refl
    by X levels = rw (
      count-more (level_eq Zero) levels X,
      count-more (level_eq One) levels X,
      count-more (level_eq X) levels X,
      none (count_by (level_eq Zero) levels),
      none (count_by (level_eq One) levels),
    ) refl

-- a count is at most how many were counted
pub count-low : (counts : Counts) (level v : Level) (n : ℕ) → count_at counts v ≤ n → count_at (with_one counts level) v ≤ n + 1
count-low counts Zero Zero n low = omega arith
count-low counts Zero One n low = omega arith
count-low counts Zero X n low = omega arith
count-low counts One Zero n low = omega arith
count-low counts One One n low = omega arith
count-low counts One X n low = omega arith
count-low counts X Zero n low = omega arith
count-low counts X One n low = omega arith
count-low counts X X n low = omega arith

-- one turn of a loop over the places
module _ (all : List Signal) (ins : List ℕ) (i : ℕ) (d : Signal) (within : i < length ins) (place : get_or ins i 0 < length all) where
  abbrev next : Signal
  next = get_or all (get_or ins i 0) d

  pub parts-step : (first parts after : Parting) → parts ≡ parted first (filter_map (slice_get all) (take i ins)) → after ≡ parted_with next parts
      → after ≡ parted first (filter_map (slice_get all) (take (i + 1) ins))
  parts-step first parts after are is = rw (is, are, picked-more all ins i d within place, parted-more) refl

  pub kept-step : (control : Option Level) (out : Level) (span kept cap after : Span)
      → kept ≡ kept_by control out (filter_map (slice_get all) (take i ins)) span → cap ≡ capped control out next kept → after ≡ raised control next cap
      → after ≡ kept_by control out (filter_map (slice_get all) (take (i + 1) ins)) span
  kept-step control out span kept cap after are one is = rw (is, one, are, picked-more all ins i d within place, kept-more) refl

  pub hull-step : (changes after : Option Span) → changes ≡ hull (filter_map (slice_get all) (take i ins)) → after ≡ around changes next.changes
      → after ≡ hull (filter_map (slice_get all) (take (i + 1) ins))
  hull-step changes after are is = rw (is, are, picked-more all ins i d within place, hull-more) refl

  pub starts-step : (counts after : Counts) → counts ≡ counts_of (map (λ signal. signal.start) (filter_map (slice_get all) (take i ins)))
      → after ≡ with_one counts next.start
      → after ≡ counts_of (map (λ signal. signal.start) (filter_map (slice_get all) (take (i + 1) ins)))
  starts-step counts after are is = rw (is, are, picked-more all ins i d within place) (counted-more (λ signal. signal.start) (filter_map (slice_get all) (take i ins)) next)

  pub finishes-step : (counts after : Counts) → counts ≡ counts_of (map (λ signal. signal.finish) (filter_map (slice_get all) (take i ins)))
      → after ≡ with_one counts next.finish
      → after ≡ counts_of (map (λ signal. signal.finish) (filter_map (slice_get all) (take (i + 1) ins)))
  finishes-step counts after are is = rw (is, are, picked-more all ins i d within place) (counted-more (λ signal. signal.finish) (filter_map (slice_get all) (take i ins)) next)

pub low-step : (counts after : Counts) (level : Level) (n : ℕ) → after ≡ with_one counts level → ((v : Level) → count_at counts v ≤ n)
    → (v : Level) → count_at after v ≤ n + 1
low-step counts after level n is low v = rw is (count-low counts level v n (low v))
