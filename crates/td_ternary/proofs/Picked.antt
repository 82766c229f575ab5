-- The signals of one and of two inputs, by the places that they stand at.
use Rattle.std.proofs.Common.{◌≡◌, ℕ, ◌<◌, List, [], ◌∷◌, length, get_or, ap, ◌∙◌, sym, arith}
use Rattle.std.specs.List.{All}
use Rattle.std.proofs.lemmas.List.Elements.{All-head, All-tail}
use Rattle.td_gates.specs.declared.primitives.Level.TheVariants.{X}
use Rattle.td_gates.specs.Wave.{Wave}
use Rattle.td_run.specs.Waves.{AreWithin, constant, waves_of}
use Rattle.td_run.proofs.Sampling.{get_or-any}

same : (all : List Wave) (place : ℕ) (wave : Wave) → place < length all → wave ≡ get_or all place wave → get_or all place (constant X) ≡ wave
same all place wave inside is = get_or-any all place (constant X) wave inside ∙ sym is

pub one-picked : (all : List Wave) (ins : List ℕ) (wave : Wave) → length ins ≡ 1 → All (λ place. place < length all) ins
    → wave ≡ get_or all (get_or ins 0 0) wave → waves_of all ins ≡ wave ∷ []
one-picked all [] wave one places is = absurd (omega (arith, one))
one-picked all (a ∷ []) wave one places is = ap (λ (w : Wave). w ∷ []) (same all a wave (places 0 0 (omega arith)) is)
one-picked all (a ∷ b ∷ others) wave one places is = absurd (omega (arith, one))

pub two-picked : (all : List Wave) (ins : List ℕ) (wave other : Wave) → length ins ≡ 2 → All (λ place. place < length all) ins
    → wave ≡ get_or all (get_or ins 0 0) wave → other ≡ get_or all (get_or ins 1 0) other → waves_of all ins ≡ wave ∷ other ∷ []
two-picked all [] wave other two places is other_is = absurd (omega (arith, two))
two-picked all (a ∷ []) wave other two places is other_is = absurd (omega (arith, two))
two-picked all (a ∷ b ∷ []) wave other two places is other_is =
    ap (λ (w : Wave). w ∷ get_or all b (constant X) ∷ []) (same all a wave (places 0 0 (omega arith)) is)
    ∙ ap (λ (w : Wave). wave ∷ w ∷ []) (same all b other (places 1 0 (omega arith)) other_is)
two-picked all (a ∷ b ∷ c ∷ others) wave other two places is other_is = absurd (omega (arith, two))

abbrev within : ℕ → Wave → Type 0
within bound wave = AreWithin bound wave.changes

pub first-within : (bound : ℕ) (waves : List Wave) (wave : Wave) (others : List Wave) → waves ≡ wave ∷ others
    → All (λ wave. AreWithin bound wave.changes) waves → AreWithin bound wave.changes
first-within bound waves wave others are all = All-head (within bound) wave others (rw are at all)

pub second-within : (bound : ℕ) (waves : List Wave) (wave other : Wave) (others : List Wave) → waves ≡ wave ∷ other ∷ others
    → All (λ wave. AreWithin bound wave.changes) waves → AreWithin bound other.changes
second-within bound waves wave other others are all = All-head (within bound) other others (All-tail (within bound) wave (other ∷ others) (rw are at all))
