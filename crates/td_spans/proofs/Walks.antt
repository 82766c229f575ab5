-- Walks: what a walk has is so.
use Rattle.std.proofs.Common.{◌≡◌, ℕ, zero, suc, ◌+◌, ◌-◌, ◌<◌, ◌≤◌, Bool, true, false, refl, arith, ◌∙◌, subst, inl, inr, Option, Some, None}
use Rattle.std.specs.Prelude.{nat_le, nat_lt, ◌&&◌, ◌==◌, if◌then◌else◌}
use Rattle.std.proofs.lemmas.Bool.{cases_lt, cases_eq, leb-true, lt-ltb, ltb-true, eq-eqb, ne_eqb, and_parts, or_left, or_right, or_cases}
use Rattle.std.proofs.lemmas.Option.{none-some}
use Rattle.td_gates.proofs.Places.{some-same}
use Rattle.td_spans.specs.Times.{is_by}
use Rattle.td_spans.specs.declared.variable.Saying.{Saying}
use Rattle.td_spans.specs.declared.walk.Sure.{Sure}
use Rattle.td_spans.specs.declared.walk.Walk.{Walk}
use Rattle.td_spans.specs.Sure.{IsNear, IsSure}
use Rattle.td_spans.specs.Walking.{is_before, is_soon, old_since, start_of, TOP, window_since, fresh_since, since_by, sure_from, walked, is_last_soon, is_covered, IsRun, IsSureFor, IsWalk, IsStretch, IsWalkTo}

pub soon_lt : (n going end : ℕ) → is_soon n going (Some end) ≡ true → 1 ≤ going → n < end + going
soon_lt n going end is some = elim (or_cases (nat_lt n end) (nat_lt (n - end) going) is) [
  | inl before ↦ (let less = ltb-true n end before in omega arith)
  | inr after ↦ (let less = ltb-true (n - end) going after in omega arith)
]

pub lt_soon : (n going end : ℕ) → n < end + going → is_soon n going (Some end) ≡ true
lt_soon n going end less = elim (cases_lt n end) [
  | inl before ↦ or_left (nat_lt n end) (nat_lt (n - end) going) (lt-ltb n end before)
  | inr after ↦ or_right (nat_lt n end) (nat_lt (n - end) going) (lt-ltb (n - end) going (omega arith))
]

module _ (known : ℕ → Bool) (coming going : ℕ) (some : 1 ≤ coming) (some' : 1 ≤ going) where
  -- the test passed at a place at or just before the last one
  near_by : (end : Option ℕ) (b t : ℕ) → b ≤ t → is_soon (suc t) going end ≡ true → ((n : ℕ) → b ≤ n → is_before n end ≡ true → known n ≡ true)
      → ((m : ℕ) → end ≡ Some m → (1 ≤ m) × (known (m - 1) ≡ true)) → IsNear known going t
  near_by None b t low soon all last = (t, omega arith, omega arith, all t low refl)
  near_by (Some m) b t low soon all last =
      let less = soon_lt (suc t) going m soon some' in
      elim (cases_lt t m) [
        | inl before ↦ (t, omega arith, omega arith, all t low (lt-ltb t m before))
        | inr after ↦ (let there = last m refl in (m - 1, omega arith, omega (arith, there.0), there.1))
      ]

  soon_before : (end : Option ℕ) (t : ℕ) → is_soon (suc t) going end ≡ true → is_soon t going end ≡ true
  soon_before None t soon = refl
  soon_before (Some m) t soon = let less = soon_lt (suc t) going m soon some' in lt_soon t going m (omega arith)

  -- from a place at which the output surely is at the level on
  sure_on : (b : ℕ) (end : Option ℕ) → IsSure known coming going b → ((n : ℕ) → b ≤ n → is_before n end ≡ true → known n ≡ true)
      → ((m : ℕ) → end ≡ Some m → (1 ≤ m) × (known (m - 1) ≡ true)) → (n : ℕ) → b ≤ n → is_soon n going end ≡ true → IsSure known coming going n
  sure_on b end base all last zero low soon = let none : b ≡ 0 = omega arith in subst (IsSure known coming going) none base
  sure_on b end base all last (suc t) low soon = elim (cases_eq b (suc t)) [
    | inl here ↦ subst (IsSure known coming going) here base
    | inr later ↦ inr (sure_on b end base all last t (omega arith) (soon_before end t soon), near_by end b t (omega arith) soon all last)
  ]

  by_window : (from n : ℕ) → ((k : ℕ) → from ≤ k → k < n → known k ≡ true) → from + coming ≡ n → IsSure known coming going n
  by_window from zero all is = absurd (omega arith)
  by_window from (suc t) all is = inl (λ k low high. all k (omega arith) (omega arith))

  module _ (place : ℕ) (next : Option ℕ) (before : is_before place next ≡ true) (all : (n : ℕ) → place ≤ n → is_before n next ≡ true → known n ≡ true) where
    last_known : (m : ℕ) → next ≡ Some m → (1 ≤ m) × (known (m - 1) ≡ true)
    last_known m is =
        let less = ltb-true place m (rw is at before) in
        (omega arith, all (m - 1) (omega arith) (rw is (lt-ltb (m - 1) m (omega arith))))

    start_low : (run : Option ℕ) → IsRun known place run → start_of run place ≤ place
    start_low None is = omega arith
    start_low (Some from) is = is.0

    -- the test passes from the start of the run on
    run_all : (run : Option ℕ) → IsRun known place run → (n : ℕ) → start_of run place ≤ n → is_before n next ≡ true → known n ≡ true
    run_all None is n low high = all n low high
    run_all (Some from) is n low high = elim (cases_lt n place) [
      | inl early ↦ is.1 n low early
      | inr late ↦ all n late high
    ]

    old_sure : (sure : Option Sure) (since : ℕ) → IsSureFor known coming going sure → old_since sure place going ≡ Some since
        → IsSureFor known coming going (Some (record { since = since; end = next }))
    old_sure None since is at = absurd (none-some since at)
    old_sure (Some sure) since is at = go (nat_le sure.since place && is_soon place going sure.end) refl at
      where
        go : (b : Bool) → (nat_le sure.since place && is_soon place going sure.end) ≡ b → (if b then Some sure.since else None) ≡ Some since
            → (n : ℕ) → since ≤ n → is_soon n going next ≡ true → IsSure known coming going n
        go false test at = absurd (none-some since at)
        go true test at = λ n low soon.
            let both = and_parts (nat_le sure.since place) (is_soon place going sure.end) test in
            let same : sure.since ≡ since = some-same sure.since since at in
            elim (cases_lt n place) [
              | inl early ↦ is n (omega arith) (sooner sure.end n (omega arith) both.1)
              | inr late ↦ sure_on place next (is place (leb-true sure.since place both.0) both.1) all last_known n late soon
            ]
          where
            sooner : (end : Option ℕ) (n : ℕ) → n ≤ place → is_soon place going end ≡ true → is_soon n going end ≡ true
            sooner None n low soon = refl
            sooner (Some m) n low soon = let less = soon_lt place going m soon some' in lt_soon n going m (omega arith)

    window_sure : (from since : ℕ) → ((n : ℕ) → from ≤ n → is_before n next ≡ true → known n ≡ true) → (end : Option ℕ) → next ≡ end
        → window_since from end coming ≡ Some since → IsSureFor known coming going (Some (record { since = since; end = next }))
    window_sure from since runs None is at = go (nat_le from TOP) at
      where
        go : (b : Bool) → (if b then Some (from + coming) else None) ≡ Some since → (n : ℕ) → since ≤ n → is_soon n going next ≡ true → IsSure known coming going n
        go false at = absurd (none-some since at)
        go true at = λ n low soon.
            let same : from + coming ≡ since = some-same (from + coming) since at in
            sure_on since next (by_window from since (λ k a b. runs k a (rw is refl)) same) (λ k a b. runs k (omega arith) b) last_known n low soon
    window_sure from since runs (Some m) is at = go (nat_le from m && nat_le coming (m - from)) refl at
      where
        go : (b : Bool) → (nat_le from m && nat_le coming (m - from)) ≡ b → (if b then Some (from + coming) else None) ≡ Some since
            → (n : ℕ) → since ≤ n → is_soon n going next ≡ true → IsSure known coming going n
        go false test at = absurd (none-some since at)
        go true test at = λ n low soon.
            let both = and_parts (nat_le from m) (nat_le coming (m - from)) test in
            let one = leb-true from m both.0 in
            let two = leb-true coming (m - from) both.1 in
            let same : from + coming ≡ since = some-same (from + coming) since at in
            sure_on since next (by_window from since (λ k a b. runs k a (rw is (lt-ltb k m (omega arith)))) same) (λ k a b. runs k (omega arith) b) last_known n low soon

    fresh_sure : (run : Option ℕ) → IsRun known place run → (since : ℕ) → fresh_since run place next coming ≡ Some since
        → IsSureFor known coming going (Some (record { since = since; end = next }))
    fresh_sure run is since at = elim (cases_eq place 0) [
      | inl first ↦
          let test : (place == 0) ≡ true = eq-eqb place 0 first in
          let same : 0 ≡ since = some-same 0 since (rw test at at) in
          λ n low soon. sure_on 0 next (all 0 (omega (arith, first)) (rw first at before)) (λ k a b. all k (omega (arith, first)) b) last_known n (omega arith) soon
      | inr later ↦
          let test : (place == 0) ≡ false = ne_eqb place 0 later in
          window_sure (start_of run place) since (run_all run is) next refl (rw test at at)
    ]

    since_sure : (old : Option ℕ) (walk : Walk) → old_since walk.sure place going ≡ old → IsWalk known coming going place walk
        → (o : Option ℕ) → since_by old walk.run place next coming ≡ o → IsSureFor known coming going (sure_from o next)
    since_sure old walk at is None by = tt
    since_sure None walk at is (Some since) by = fresh_sure walk.run is.run since by
    since_sure (Some s) walk at is (Some since) by = old_sure walk.sure since is.sure (at ∙ by)

    walked_on : (walk : Walk) → IsWalk known coming going place walk → IsSureFor known coming going (walked walk true place next coming going).sure
    walked_on walk is = since_sure (old_since walk.sure place going) walk refl is (since_by (old_since walk.sure place going) walk.run place next coming) refl

  run_to : (place m : ℕ) (run : Option ℕ) → (is_before place (Some m) ≡ true) → ((n : ℕ) → place ≤ n → is_before n (Some m) ≡ true → known n ≡ true) → IsRun known place run
      → IsRun known m (Some (start_of run place))
  run_to place m run before all is =
      let less = ltb-true place m before in
      let low = start_low place (Some m) before all run is in
      (omega arith, λ n a b. run_all place (Some m) before all run is n a (lt-ltb n m b))

  -- What a walk has after a stretch.
  pub walked_right : (walk : Walk) (passes : Bool) (place : ℕ) (next : Option ℕ) → is_before place next ≡ true → IsStretch known passes place next
      → IsWalk known coming going place walk → IsWalkTo known coming going next (walked walk passes place next coming going)
  walked_right walk false place None before stretch is = is.sure
  walked_right walk false place (Some m) before stretch is = record { run = tt; sure = is.sure }
  walked_right walk true place None before stretch is = walked_on place None before stretch walk is
  walked_right walk true place (Some m) before stretch is = record {
    run = run_to place m walk.run before stretch is.run;
    sure = walked_on place (Some m) before stretch walk is;
  }

  -- What is covered is sure.
  pub covered_sure : (sure : Option Sure) (saying : Saying) → IsSureFor known coming going sure → is_covered sure saying going ≡ true
      → (n : ℕ) → saying.first ≤ n → is_by n saying.last ≡ true → IsSure known coming going n
  covered_sure None saying is covered n low by = cc
  covered_sure (Some sure) saying is covered n low by =
      let both = and_parts (nat_le sure.since saying.first) (is_last_soon saying.last going sure.end) covered in
      let first = leb-true sure.since saying.first both.0 in
      is n (omega arith) (go saying.last sure.end both.1 by)
    where
      go : (last end : Option ℕ) → is_last_soon last going end ≡ true → is_by n last ≡ true → is_soon n going end ≡ true
      go None None soon by = refl
      go None (Some end) soon by = cc
      go (Some last) None soon by = refl
      go (Some last) (Some end) soon by = let less = soon_lt last going end soon some' in let low = leb-true n last by in lt_soon n going end (omega arith)
