-- Completing: what is surely so, a walk has.
use Rattle.std.proofs.Common.{◌≡◌, ℕ, zero, suc, ◌+◌, ◌-◌, ◌<◌, ◌≤◌, max, Bool, true, false, refl, arith, ap, sym, ◌∙◌, subst, inl, inr, Option, Some, None, ◌⊎◌}
use Rattle.std.specs.Prelude.{nat_le, ◌&&◌, if◌then◌else◌}
use Rattle.std.proofs.lemmas.Bool.{cases_lt, cases_eq, leb-true, le-leb, lt-ltb, ltb-true, eq-eqb, ne_eqb, and_parts, and_from}
use Rattle.std.proofs.lemmas.Option.{none-some}
use Rattle.td_gates.proofs.Places.{some-same}
use Rattle.td_spans.specs.Times.{is_by}
use Rattle.td_spans.specs.declared.variable.Saying.{Saying}
use Rattle.td_spans.specs.declared.walk.Sure.{Sure}
use Rattle.td_spans.specs.declared.walk.Walk.{Walk}
use Rattle.td_spans.specs.Sure.{IsNear, IsSure}
use Rattle.td_spans.specs.Clauses.{IsSureOf}
use Rattle.td_spans.specs.Walking.{is_before, is_soon, old_since, start_of, TOP, window_since, since_by, sure_from, walked, is_last_soon, is_covered, IsRun, IsWalk, IsStretch}
use Rattle.td_spans.proofs.Walks.{soon_lt, lt_soon}

-- the output surely is at the level at all places from one to another
abbrev pub AllSure : (ℕ → Bool) → ℕ → ℕ → ℕ → ℕ → Type 0
AllSure known coming going n q = (j : ℕ) → n ≤ j → j ≤ q → IsSure known coming going j

-- the walk has the places from one to another
abbrev pub Covers : ℕ → Option Sure → ℕ → ℕ → Type 0
Covers going None n q = ⊥
Covers going (Some sure) n q = (sure.since ≤ n) × (is_soon q going sure.end ≡ true)

-- no run of places at which the test passes goes over the place before
abbrev pub IsStart : (ℕ → Bool) → ℕ → Type 0
IsStart known from = (from ≡ 0) ⊎ (known (from - 1) ≡ false)

-- the test passes at no place before this one and after the end
abbrev pub EndsLate : (ℕ → Bool) → ℕ → Option Sure → Type 0
EndsLate known place None = Unit {0}
EndsLate known place (Some sure) = (p : ℕ) → p < place → known p ≡ true → is_before p sure.end ≡ true

-- a walk that has all that is surely so just before a place
pub record IsWhole (known : ℕ → Bool) (coming going place : ℕ) (walk : Walk) : Type 0 where
  pub start : IsStart known (start_of walk.run place)
  pub ends : EndsLate known place walk.sure
  pub all : (n : ℕ) → n ≤ place → 1 ≤ place → AllSure known coming going n place → Covers going walk.sure n place

pub begins_whole : (known : ℕ → Bool) (coming going : ℕ) → IsWhole known coming going 0 (record { run = None; sure = None })
begins_whole known coming going = record { start = inl refl; ends = tt; all = λ n low some sure. absurd (omega arith) }

not_both : (b : Bool) → b ≡ true → b ≡ false → ⊥
not_both true is not = cc
not_both false is not = cc

is_none_end : (next : Option ℕ) (q : ℕ) (going : ℕ) → 1 ≤ going → ((m : ℕ) → next ≡ Some m → q ≤ m) → is_soon q going next ≡ true
is_none_end None q going some low = refl
is_none_end (Some m) q going some low = let less = low m refl in lt_soon q going m (omega arith)

before_end : (next : Option ℕ) (t q : ℕ) → t < q → ((m : ℕ) → next ≡ Some m → q ≤ m) → is_before t next ≡ true
before_end None t q less low = refl
before_end (Some m) t q less low = let more = low m refl in lt-ltb t m (omega arith)

-- the saying's last place isn't before this one, where the output surely is at the level at all its
-- places
abbrev pub IsOpen : (ℕ → Bool) → ℕ → ℕ → ℕ → Saying → Type 0
IsOpen known coming going place saying = (last : ℕ) → saying.last ≡ Some last → IsSureOf known coming going saying → place ≤ last

-- a walk under way
pub record IsUnderWay (known : ℕ → Bool) (coming going place : ℕ) (walk : Walk) (saying : Saying) : Type 0 where
  pub right : IsWalk known coming going place walk
  pub whole : IsWhole known coming going place walk
  pub opens : IsOpen known coming going place saying
  pub low : place ≤ TOP

module _ (known : ℕ → Bool) (coming going : ℕ) (some : 1 ≤ coming) (some' : 1 ≤ going) where
  -- what is sure at a place is so at places before it, as long as each step leads back
  back : (q j : ℕ) → ((t : ℕ) → j ≤ t → t < q → IsSure known coming going (suc t) → IsSure known coming going t) → j ≤ q
      → IsSure known coming going q → IsSure known coming going j
  back zero j step low sure = let none : 0 ≡ j = omega arith in subst (IsSure known coming going) none sure
  back (suc q) j step low sure = elim (cases_eq j (suc q)) [
    | inl same ↦ subst (IsSure known coming going) (sym same) sure
    | inr other ↦ back q j (λ t a b. step t a (omega arith)) (omega arith) (step q (omega arith) (omega arith) sure)
  ]

  -- after a place at which the test doesn't pass, the output surely is at the level only by a hold
  by_hold : (t : ℕ) → known t ≡ false → IsSure known coming going (suc t) → IsSure known coming going t × IsNear known going t
  by_hold t not (inl kept) = absurd (not_both (known t) (kept t (omega arith) (omega arith)) not)
  by_hold t not (inr both) = both

  soon_end : (sure : Option Sure) (n q p place : ℕ) → EndsLate known place sure → p < place → known p ≡ true → q < p + 1 + going → Covers going sure n place → Covers going sure n q
  soon_end None n q p place ends low is near covers = absurd covers
  soon_end (Some sure) n q p place ends low is near covers = (covers.0, go sure.end (ends p low is))
    where
      go : (end : Option ℕ) → is_before p end ≡ true → is_soon q going end ≡ true
      go None before = refl
      go (Some e) before = let less = ltb-true p e before in lt_soon q going e (omega arith)

  earlier : (sure : Option Sure) (n n' q : ℕ) → n ≤ n' → Covers going sure n q → Covers going sure n' q
  earlier None n n' q low covers = absurd covers
  earlier (Some sure) n n' q low covers = (let since = covers.0 in omega arith, covers.1)

  module _ (place : ℕ) (walk : Walk) (is : IsWhole known coming going place walk) where
    -- a stretch in which the test doesn't pass
    silent : (n q : ℕ) → known place ≡ false → ((t : ℕ) → place ≤ t → t < q → known t ≡ false) → n ≤ q → place ≤ q → AllSure known coming going n q
        → Covers going walk.sure n q
    silent n q here none low late all = elim (cases_eq place q) [
      | inl same ↦ at_once same
      | inr other ↦ later q refl (omega arith)
    ]
      where
        at_once : place ≡ q → Covers going walk.sure n q
        at_once same = elim (cases_eq place 0) [
          | inl first ↦ absurd (not_both (known 0) (all 0 (omega (arith, same, first, low)) (omega arith)) (subst (λ (p : ℕ). known p ≡ false) first here))
          | inr after ↦ subst (Covers going walk.sure n) same (is.all n (omega arith) (omega arith) (λ j a b. all j a (omega arith)))
        ]

        later : (k : ℕ) → q ≡ k → place < k → Covers going walk.sure n q
        later zero is_q less = absurd (omega arith)
        later (suc t) is_q less =
            let held = by_hold t (none t (omega arith) (omega arith)) (subst (IsSure known coming going) is_q (all q low (omega arith))) in
            let near = held.1 in
            let p : ℕ = near.0 in
            let before : p < place = elim (cases_lt p place) [
              | inl early ↦ early
              | inr on ↦ absurd (not_both (known p) near.3 (none p on (omega (arith, near.1))))
            ] in
            let at_place : IsSure known coming going place = back q place (λ k a b sure. (by_hold k (none k a b) sure).0) late (all q low (omega arith)) in
            elim (cases_lt place n) [
              | inl after ↦ earlier walk.sure place n q (omega arith) (soon_end walk.sure place q p place is.ends before near.3 (omega (arith, near.2))
                  (is.all place (omega arith) (omega arith) (λ j a b. subst (IsSure known coming going) (let e : place ≡ j = omega arith in e) at_place)))
              | inr now ↦ soon_end walk.sure n q p place is.ends before near.3 (omega (arith, near.2))
                  (is.all n (omega arith) (omega arith) (λ j a b. all j a (omega arith)))
            ]

    old_low : (sure : Option Sure) (since : ℕ) → old_since sure place going ≡ Some since → since ≤ place
    old_low None since at = absurd (none-some since at)
    old_low (Some sure) since at = go (nat_le sure.since place && is_soon place going sure.end) refl at
      where
        go : (b : Bool) → (nat_le sure.since place && is_soon place going sure.end) ≡ b → (if b then Some sure.since else None) ≡ Some since → since ≤ place
        go false test at = absurd (none-some since at)
        go true test at =
            let both = and_parts (nat_le sure.since place) (is_soon place going sure.end) test in
            let less = leb-true sure.since place both.0 in
            let same : sure.since ≡ since = some-same sure.since since at in omega arith

    -- what is covered up to the place goes on
    old_covers : (sure : Option Sure) (n : ℕ) → n ≤ place → Covers going sure n place → (since : ℕ) × (old_since sure place going ≡ Some since) × (since ≤ n)
    old_covers None n low covers = absurd covers
    old_covers (Some sure) n low covers =
        let since = covers.0 in
        let test : (nat_le sure.since place && is_soon place going sure.end) ≡ true =
        and_from (nat_le sure.since place) (is_soon place going sure.end) (le-leb sure.since place (omega arith)) covers.1 in
        (sure.since, rw test refl, since)

    module _ (here : known place ≡ true) (run : IsRun known place walk.run) where
      from_low : (run : Option ℕ) → IsRun known place run → start_of run place ≤ place
      from_low None is = omega arith
      from_low (Some from) is = is.0

      run_known : (run : Option ℕ) → IsRun known place run → (t : ℕ) → start_of run place ≤ t → t ≤ place → known t ≡ true
      run_known None is t low high = subst (λ (p : ℕ). known p ≡ true) (let e : place ≡ t = omega arith in e) here
      run_known (Some from) is t low high = elim (cases_lt t place) [
        | inl early ↦ is.1 t low early
        | inr late ↦ subst (λ (p : ℕ). known p ≡ true) (let e : place ≡ t = omega arith in e) here
      ]

      refuse : ((since : ℕ) → old_since walk.sure place going ≡ Some since → ⊥) → 1 ≤ place → (k : ℕ) → k ≤ place → AllSure known coming going k place → ⊥
      refuse none first k under all = let old = old_covers walk.sure k under (is.all k under first all) in none old.0 old.1

      from_zero : start_of walk.run place ≡ 0 → (t : ℕ) → t ≤ place → IsSure known coming going t
      from_zero zero_from zero low = run_known walk.run run 0 (omega (arith, zero_from)) (omega arith)
      from_zero zero_from (suc t) low = inr (
        from_zero zero_from t (omega arith),
        (t, omega arith, omega arith, run_known walk.run run t (omega (arith, zero_from)) (omega arith)),
      )

      -- a step within the window of a run that starts after a place at which the test doesn't pass
      step_back : (n : ℕ) → n < start_of walk.run place + coming → 1 ≤ start_of walk.run place → known (start_of walk.run place - 1) ≡ false
          → (t : ℕ) → place ≤ t → t < n → IsSure known coming going (suc t) → IsSure known coming going t
      step_back n short some_from stops t low high (inl kept) =
          let under = from_low walk.run run in
          absurd (not_both (known (start_of walk.run place - 1)) (kept (start_of walk.run place - 1) (omega arith) (omega arith)) stops)
      step_back n short some_from stops t low high (inr both) = both.0

      -- Where the walk isn't sure at this place, no place is before a window from the start of the
      -- run has ended.
      no_window : (n : ℕ) → place < n → n < start_of walk.run place + coming → IsSure known coming going n
          → ((since : ℕ) → old_since walk.sure place going ≡ Some since → ⊥) → 1 ≤ place → ⊥
      no_window n after short sure none first = elim (cases_eq (start_of walk.run place) 0) [
        | inl zero_from ↦ refuse none first 0 (omega arith) (λ j a b. from_zero zero_from j b)
        | inr some_from ↦ elim is.start [
          | inl zero_from ↦ refuse none first 0 (omega arith) (λ j a b. from_zero zero_from j b)
          | inr stops ↦
              let at_place : IsSure known coming going place = back n place (step_back n short (omega arith) stops) (omega arith) sure in
              refuse none first place (omega arith) (λ j a b. subst (IsSure known coming going) (let e : place ≡ j = omega arith in e) at_place)
        ]
      ]

      window_is : (from n q : ℕ) (next : Option ℕ) → from ≤ TOP → from + coming ≤ n → n ≤ q → ((m : ℕ) → next ≡ Some m → q ≤ m) → window_since from next coming ≡ Some (from + coming)
      window_is from n q None top low less ends = rw (le-leb from TOP top) refl
      window_is from n q (Some m) top low less ends =
          let end = ends m refl in
          rw (le-leb from m (omega arith), le-leb coming (m - from) (omega arith)) refl

      -- a stretch in which the test passes
      loud : (next : Option ℕ) → place ≤ TOP → (n q : ℕ) → n ≤ q → place ≤ q → ((m : ℕ) → next ≡ Some m → q ≤ m) → AllSure known coming going n q
          → (old : Option ℕ) → old_since walk.sure place going ≡ old → Covers going (sure_from (since_by old walk.run place next coming) next) n q
      loud next top n q low late ends all (Some since) at = (since_low, is_none_end next q going some' ends)
        where
          since_low : since ≤ n
          since_low = elim (cases_lt place n) [
            | inl after ↦ let under = old_low walk.sure since at in omega arith
            | inr now ↦ elim (cases_eq place 0) [
              | inl first ↦ let under = old_low walk.sure since at in omega arith
              | inr later ↦
                  let old = old_covers walk.sure n now (is.all n now (omega arith) (λ j a b. all j a (omega arith))) in
                  let same : old.0 ≡ since = some-same old.0 since (sym old.1 ∙ at) in
                  omega (arith, old.2, same)
            ]
          ]
      loud next top n q low late ends all None at = elim (cases_eq place 0) [
        | inl first ↦ rw (eq-eqb place 0 first) (omega arith, is_none_end next q going some' ends)
        | inr later ↦
            let none : (since : ℕ) → old_since walk.sure place going ≡ Some since → ⊥ = λ since old. none-some since (sym at ∙ old) in
            let window : start_of walk.run place + coming ≤ n = elim (cases_lt n (start_of walk.run place + coming)) [
              | inr window ↦ window
              | inl short ↦ elim (cases_lt place n) [
                | inl after ↦ absurd (no_window n after short (all n (omega arith) low) none (omega arith))
                | inr now ↦ absurd (refuse none (omega arith) n now (λ j a b. all j a (omega arith)))
              ]
            ] in
            let under = from_low walk.run run in
            rw (ne_eqb place 0 later, window_is (start_of walk.run place) n q next (omega arith) window low ends) (window, is_none_end next q going some' ends)
      ]

  -- What is surely so up to the end of a stretch, a walk has after it.
  pub walked_covers : (walk : Walk) (passes : Bool) (place : ℕ) (next : Option ℕ) → is_before place next ≡ true → place ≤ TOP → IsStretch known passes place next
      → IsRun known place walk.run → IsWhole known coming going place walk
      → (n q : ℕ) → n ≤ q → place ≤ q → ((m : ℕ) → next ≡ Some m → q ≤ m) → AllSure known coming going n q
      → Covers going (walked walk passes place next coming going).sure n q
  walked_covers walk false place next before top stretch run is n q low late ends all =
      silent place walk is n q (stretch place (omega arith) before) (λ t a b. stretch t a (before_end next t q b ends)) low late all
  walked_covers walk true place next before top stretch run is n q low late ends all =
      loud place walk is (stretch place (omega arith) before) run next top n q low late ends all (old_since walk.sure place going) refl

  sure_ends : (o : Option ℕ) (m : ℕ) → EndsLate known m (sure_from o (Some m))
  sure_ends None m = tt
  sure_ends (Some since) m = λ p low is. lt-ltb p m low

  silent_ends : (sure : Option Sure) (place m : ℕ) → EndsLate known place sure → ((t : ℕ) → place ≤ t → t < m → known t ≡ false) → EndsLate known m sure
  silent_ends None place m ends none = tt
  silent_ends (Some sure) place m ends none = λ p low is. elim (cases_lt p place) [
    | inl early ↦ ends p early is
    | inr late ↦ absurd (not_both (known p) is (none p late low))
  ]

  -- A walk has it all at the place after a stretch.
  pub walked_whole : (walk : Walk) (passes : Bool) (place m : ℕ) → is_before place (Some m) ≡ true → place ≤ TOP → IsStretch known passes place (Some m)
      → IsRun known place walk.run → IsWhole known coming going place walk → IsWhole known coming going m (walked walk passes place (Some m) coming going)
  walked_whole walk false place m before top stretch run is =
      let less = ltb-true place m before in record {
        start = inr (stretch (m - 1) (omega arith) (lt-ltb (m - 1) m (omega arith)));
        ends = silent_ends walk.sure place m is.ends (λ t a b. stretch t a (lt-ltb t m b));
        all = λ n low some all. walked_covers walk false place (Some m) before top stretch run is n m low (omega arith)
            (λ k same. let e : m ≡ k = some-same m k same in omega arith) all;
      }
  walked_whole walk true place m before top stretch run is =
      let less = ltb-true place m before in record {
        start = is.start;
        ends = sure_ends (since_by (old_since walk.sure place going) walk.run place (Some m) coming) m;
        all = λ n low some all. walked_covers walk true place (Some m) before top stretch run is n m low (omega arith)
            (λ k same. let e : m ≡ k = some-same m k same in omega arith) all;
      }

  covers_is : (sure : Option Sure) (saying : Saying) (last : ℕ) → saying.last ≡ Some last → Covers going sure saying.first last → is_covered sure saying going ≡ true
  covers_is None saying last is covers = absurd covers
  covers_is (Some sure) saying last is covers =
      and_from (nat_le sure.since saying.first) (is_last_soon saying.last going sure.end) (le-leb sure.since saying.first covers.0)
      (ap (λ (o : Option ℕ). is_last_soon o going sure.end) is ∙ covers.1)

  of_saying : (saying : Saying) (last : ℕ) → saying.last ≡ Some last → IsSureOf known coming going saying → AllSure known coming going saying.first last
  of_saying saying last is all j low high = all j low (ap (is_by j) is ∙ le-leb j last high)

  module _ (walk : Walk) (passes : Bool) (place : ℕ) (next : Option ℕ) (before : is_before place next ≡ true) (top : place ≤ TOP) (stretch : IsStretch known passes place next)
      (run : IsRun known place walk.run) (is : IsWhole known coming going place walk) (saying : Saying) (some_place : is_by saying.first saying.last ≡ true)
      (opens : IsOpen known coming going place saying) (not : is_covered (walked walk passes place next coming going).sure saying going ≡ false) where
    none_covers : (last : ℕ) → saying.last ≡ Some last → ((m : ℕ) → next ≡ Some m → last ≤ m) → IsSureOf known coming going saying → ⊥
    none_covers last is_last ends all =
        let low = leb-true saying.first last (ap (is_by saying.first) (sym is_last) ∙ some_place) in
        not_both (is_covered (walked walk passes place next coming going).sure saying going)
        (covers_is (walked walk passes place next coming going).sure saying last is_last
        (walked_covers walk passes place next before top stretch run is saying.first last low (opens last is_last all) ends (of_saying saying last is_last all))) not

    -- The walk goes on where the saying isn't covered.
    pub open_on : (m : ℕ) → next ≡ Some m → IsOpen known coming going m saying
    open_on m is_next last is_last all = elim (cases_lt last m) [
      | inl over ↦ absurd (none_covers last is_last (λ k same. let e : m ≡ k = some-same m k (sym is_next ∙ same) in omega arith) all)
      | inr on ↦ on
    ]

    for_ever : (sure : Option Sure) → (walked walk passes place next coming going).sure ≡ sure → saying.last ≡ None → next ≡ None → IsSureOf known coming going saying → ⊥
    for_ever None is_sure is_last is_next all =
        subst (λ (o : Option Sure). Covers going o saying.first (max saying.first place)) is_sure
        (walked_covers walk passes place next before top stretch run is saying.first (max saying.first place) (omega arith) (omega arith)
        (λ m same. absurd (none-some m (sym is_next ∙ same))) (λ j a b. all j a (ap (is_by j) is_last)))
    for_ever (Some sure) is_sure is_last is_next all = go sure.end refl
      where
        covers_to : (q : ℕ) → saying.first ≤ q → place ≤ q → Covers going (Some sure) saying.first q
        covers_to q low late = subst (λ (o : Option Sure). Covers going o saying.first q) is_sure
            (walked_covers walk passes place next before top stretch run is saying.first q low late
            (λ m same. absurd (none-some m (sym is_next ∙ same))) (λ j a b. all j a (ap (is_by j) is_last)))

        go : (end : Option ℕ) → sure.end ≡ end → ⊥
        go None is_end =
            let covers = covers_to (max saying.first place) (omega arith) (omega arith) in
            let covered : is_covered (Some sure) saying going ≡ true =
            and_from (nat_le sure.since saying.first) (is_last_soon saying.last going sure.end) (le-leb sure.since saying.first covers.0)
            (rw (is_last, is_end) refl) in
            not_both (is_covered (walked walk passes place next coming going).sure saying going) (ap (λ (o : Option Sure). is_covered o saying going) is_sure ∙ covered) not
        go (Some e) is_end =
            let q : ℕ = max (max saying.first place) (e + going) in
            let covers = covers_to q (omega arith) (omega arith) in
            let less = soon_lt q going e (ap (is_soon q going) (sym is_end) ∙ covers.1) some' in
            omega arith

    -- Where no stretch is left, the saying isn't sure.
    pub not_sure : next ≡ None → IsSureOf known coming going saying → ⊥
    not_sure is_next all = go saying.last refl
      where
        go : (last : Option ℕ) → saying.last ≡ last → ⊥
        go None is_last = for_ever (walked walk passes place next coming going).sure refl is_last is_next all
        go (Some last) is_last = none_covers last is_last (λ m same. absurd (none-some m (sym is_next ∙ same))) all
