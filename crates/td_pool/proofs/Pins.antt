-- A cube compared with the pins, position by position.
use Rattle.std.proofs.Common.{◌≡◌, ℕ, zero, suc, ◌+◌, Bool, List, [], ◌∷◌, take, subst, arith}
use Rattle.std.specs.Prelude.{slice_get, Some}
use Rattle.td_domain.specs.declared.cubes.Trit.{Trit}
use Rattle.td_domain.specs.declared.cubes.Trit.TheVariants.{Zero, One, Free}
use Rattle.td_domain.specs.Cubes.{Allows, AllowsBits}
use Rattle.td_pool.specs.Turning.{IsPinned}

abbrev pub ArePinned : List Trit → List Trit → Type 0
ArePinned [] [] = Unit {0}
ArePinned [] (trit ∷ cube) = ⊥
ArePinned (pin ∷ pins) [] = ⊥
ArePinned (pin ∷ pins) (trit ∷ cube) = IsPinned pin trit × ArePinned pins cube

more_pinned : (pins cube : List Trit) (i : ℕ) (pin trit : Trit) → ArePinned (take i pins) (take i cube) → slice_get pins i ≡ Some pin → slice_get cube i ≡ Some trit
    → IsPinned pin trit → ArePinned (take (suc i) pins) (take (suc i) cube)
more_pinned [] cube i pin trit h at to is = cc
more_pinned (p ∷ pins) [] i pin trit h at to is = cc
more_pinned (p ∷ pins) (t ∷ cube) zero pin trit h at to is =
    let first : pin ≡ p = cc in
    let second : trit ≡ t = cc in
    (subst (λ (q : Trit). IsPinned p q) second (subst (λ (q : Trit). IsPinned q trit) first is), tt)
more_pinned (p ∷ pins) (t ∷ cube) (suc i) pin trit h at to is = (h.0, more_pinned pins cube i pin trit h.1 at to is)

pub one_more_pinned : (pins cube : List Trit) (i : ℕ) (pin trit : Trit) → ArePinned (take i pins) (take i cube) → slice_get pins i ≡ Some pin → slice_get cube i ≡ Some trit
    → IsPinned pin trit → ArePinned (take (i + 1) pins) (take (i + 1) cube)
one_more_pinned pins cube i pin trit h at to is =
    let next : suc i ≡ i + 1 = omega arith in
    subst (λ (n : ℕ). ArePinned (take n pins) (take n cube)) next (more_pinned pins cube i pin trit h at to is)

allows_pin : (pin trit : Trit) (bit : Bool) → IsPinned pin trit → Allows trit bit → Allows pin bit
allows_pin Free trit bit is h = tt
allows_pin Zero Zero bit is h = h
allows_pin Zero One bit is h = absurd is
allows_pin Zero Free bit is h = absurd is
allows_pin One Zero bit is h = absurd is
allows_pin One One bit is h = h
allows_pin One Free bit is h = absurd is

pub pinned_inside : (pins cube : List Trit) (before after : List Bool) → ArePinned pins cube → AllowsBits cube before after → AllowsBits pins before after
pinned_inside [] [] before after is h = h
pinned_inside [] (t ∷ cube) before after is h = absurd is
pinned_inside (p ∷ pins) [] before after is h = absurd is
pinned_inside (p ∷ []) (t ∷ []) before after is h = absurd h
pinned_inside (p ∷ []) (t ∷ u ∷ cube) before after is h = absurd is.1
pinned_inside (p ∷ q ∷ pins) (t ∷ []) before after is h = absurd is.1
pinned_inside (p ∷ q ∷ pins) (t ∷ u ∷ cube) [] after is h = absurd h
pinned_inside (p ∷ q ∷ pins) (t ∷ u ∷ cube) (a ∷ before) [] is h = absurd h
pinned_inside (p ∷ q ∷ pins) (t ∷ u ∷ cube) (a ∷ before) (b ∷ after) is h =
    (allows_pin p t a is.0 h.0, allows_pin q u b is.1.0 h.1, pinned_inside pins cube before after is.1.1 h.2)
