-- Covering: what covers a wave by edges gives times that are right for it.
use Rattle.std.proofs.Common.{◌≡◌, ◌≢◌, ℕ, zero, suc, ◌+◌, ◌<◌, ◌≤◌, max, Bool, true, false, refl, arith, ap, sym, ◌∙◌, subst, inl, inr, Option, Some, None}
use Rattle.std.proofs.lemmas.Bool.{leb-true, cases_lt}
use Rattle.td_gates.specs.declared.primitives.Level.{Level}
use Rattle.td_gates.specs.declared.primitives.Level.TheVariants.{Zero, One, X}
use Rattle.td_gates.specs.Table.{level_eq, level_from}
use Rattle.td_gates.specs.Wave.{Wave, at, before}
use Rattle.td_gates.proofs.Levels.{cases_level}
use Rattle.td_domain.specs.Waves.{IsBoolean}
use Rattle.td_edges.specs.declared.signals.Span.{Span}
use Rattle.td_edges.specs.declared.signals.Signal.{Signal}
use Rattle.td_edges.specs.Spans.{until}
use Rattle.td_edges.specs.Coverage.{ChangesWithin, EdgesCover}
use Rattle.td_spans.specs.declared.times.Times.{Times}
use Rattle.td_spans.specs.Times.{place_for, AreTimes}
use Rattle.td_spans.specs.Signals.{times_within, times_from}

whole : (l : Level) (v : Bool) → l ≢ X → level_eq One l ≡ v → l ≡ level_from v
whole Zero true boolean is = cc
whole Zero false boolean is = refl
whole One true boolean is = refl
whole One false boolean is = cc
whole X v boolean is = absurd (boolean refl)

differ : (a n : ℕ) → a ≤ n → (k : ℕ) × (n ≡ a + k)
differ zero n low = (n, omega arith)
differ (suc a) zero low = absurd (omega arith)
differ (suc a) (suc n) low = let it = differ a n (omega arith) in (it.0, omega (arith, it.1))

-- a place from which on the net is at rest, at whichever level it ends
abbrev pub rest_of : Times → ℕ
rest_of it = max it.ends.zero it.ends.one

module _ (wave : Wave) (boolean : IsBoolean wave) where
  -- the wave's level by place
  abbrev pub bits : ℕ → Bool
  bits n = level_eq One (before wave n)

  still : ChangesWithin None wave → (n : ℕ) → bits n ≡ bits 0
  still within zero = refl
  still within (suc n) = ap (level_eq One) (within n) ∙ still within n

  module _ (span : Span) (within : ChangesWithin (Some span) wave) where
    -- it keeps its level up to the earliest change
    keeps : (n : ℕ) → n ≤ span.earliest → bits n ≡ bits 0
    keeps zero low = refl
    keeps (suc n) low = elim (cases_level (at wave n) (before wave n)) [
      | inl same ↦ ap (level_eq One) same ∙ keeps n (omega arith)
      | inr change ↦ absurd (let first = (within n change).0 in omega (arith, first, low))
    ]

    until_most : (l : Level) → until l span ≤ max span.falls_until span.rises_until
    until_most Zero = omega arith
    until_most One = omega arith
    until_most X = omega arith

    -- it stays as it is after the latest change
    stays : (k n : ℕ) → n ≡ max span.falls_until span.rises_until + k → bits n ≡ bits (max span.falls_until span.rises_until)
    stays zero n is = ap bits (let e : n ≡ max span.falls_until span.rises_until = omega (arith, is) in e)
    stays (suc k) n is =
        let last : ℕ = max span.falls_until span.rises_until + k in
        let next : n ≡ suc last = omega (arith, is) in
        ap bits next ∙ elim (cases_level (at wave last) (before wave last)) [
          | inl same ↦ ap (level_eq One) same ∙ stays k last refl
          | inr change ↦ absurd (let low = (within last change).1 in let most = until_most (at wave last) in omega (arith, low, most))
        ]

    place_is : (v : Bool) → until (level_from v) span ≡ place_for (times_within (Some span)).ends v
    place_is true = refl
    place_is false = refl

    -- before it, it has its last level from the end for that level on
    back : (v : Bool) (d n : ℕ) → n + d ≡ max span.falls_until span.rises_until → bits (max span.falls_until span.rises_until) ≡ v
        → place_for (times_within (Some span)).ends v ≤ n → bits n ≡ v
    back v zero n is at_end low = ap bits (let e : n ≡ max span.falls_until span.rises_until = omega (arith, is) in e) ∙ at_end
    back v (suc d) n is at_end low =
        let next : bits (suc n) ≡ v = back v d (suc n) (omega (arith, is)) at_end (omega (arith, low)) in
        elim (cases_level (at wave n) (before wave n)) [
          | inl same ↦ ap (level_eq One) (sym same) ∙ next
          | inr change ↦
              let level : at wave n ≡ level_from v = whole (at wave n) v (boolean (suc n)) next in
              absurd (let early : n < until (level_from v) span = subst (λ (l : Level). n < until l span) level (within n change).1 in
              let place = place_is v in omega (arith, early, place, low))
        ]

    rests : (n : ℕ) → place_for (times_within (Some span)).ends (bits (max span.falls_until span.rises_until)) ≤ n → bits n ≡ bits (max span.falls_until span.rises_until)
    rests n low = elim (cases_lt n (max span.falls_until span.rises_until)) [
      | inl before_it ↦ go (bits (max span.falls_until span.rises_until)) refl low before_it
      | inr after ↦ (let it = differ (max span.falls_until span.rises_until) n after in stays it.0 n it.1)
    ]
      where
        go : (v : Bool) → bits (max span.falls_until span.rises_until) ≡ v → place_for (times_within (Some span)).ends v ≤ n
            → n < max span.falls_until span.rises_until → bits n ≡ v
        go v at_end low before_it =
            let it = differ n (max span.falls_until span.rises_until) (omega arith) in
            back v it.0 n (sym it.1) at_end low

  -- The times are right, where the net ends at its level at a place where it is at rest.
  pub within_right : (changes : Option Span) → ChangesWithin changes wave → AreTimes (times_within changes) bits (bits (rest_of (times_within changes)))
  within_right None within = record { keeps = λ n to. still within n; rests = λ n late. still within n ∙ sym (still within 0) }
  within_right (Some span) within = record {
    keeps = λ n to. keeps span within n (leb-true n span.earliest to);
    rests = rests span within;
  }

  pub covered_right : (signal : Signal) → EdgesCover signal wave → AreTimes (times_from signal) bits (bits (rest_of (times_from signal)))
  covered_right signal covers = within_right signal.changes covers.changes

pub edges_give_times : (signal : Signal) (wave : Wave) → EdgesCover signal wave → IsBoolean wave
    → (final : Bool) × AreTimes (times_from signal) (λ n. level_eq One (before wave n)) final
edges_give_times signal wave covers boolean = (bits wave boolean (rest_of (times_from signal)), covered_right wave boolean signal covers)
