-- What two figures say of a required moment is true.
use Rattle.std.proofs.Common.{◌≡◌, ℕ, ◌<◌, ◌≤◌, Bool, true, false, cond, refl, arith}
use Rattle.std.proofs.lemmas.Bool.{leb-true, ltb-true}
use Rattle.std.specs.Prelude.{Option, Some, None, nat_le, nat_lt, IfSome}
use Rattle.td_lines.specs.declared.line.Standing.TheVariants.{Met, Violated, Open}
use Rattle.td_answer.specs.declared.status.Status.{Status}
use Rattle.td_answer.specs.Requirements.{standing_of, required_lines, ending_by, IsStanding, TellsRequired}

-- none is later than the upper figure, and one has the lower one, where that is late
pub by_two : (bounded late : ℕ → Type 0) → ((one other : ℕ) → one ≤ other → bounded one → bounded other) → (moment low high : ℕ)
    → bounded high → (moment < low → late low) → IsStanding bounded late moment (standing_of moment low high)
by_two bounded late more moment low high is has = go (nat_le high moment) (nat_lt moment low) refl refl
  where
    go : (met violated : Bool) → nat_le high moment ≡ met → nat_lt moment low ≡ violated
        → IsStanding bounded late moment (cond met Met (cond violated Violated Open))
    go true violated e f = more high moment (leb-true high moment e) is
    go false true e f = (low, has (ltb-true moment low f), ltb-true moment low f)
    go false false e f = tt

pub none_before : (moment : ℕ) → moment < 0 → ⊥
none_before moment less = omega (arith, less)

-- a pair has the lower figure, and none is later than the upper one
pub tells : (bounded late : ℕ → Type 0) → ((one other : ℕ) → one ≤ other → bounded one → bounded other) → (plain : Status) (required : Option ℕ) (low high : ℕ)
    → bounded high → late low → TellsRequired bounded late plain low high required (required_lines required low high) (ending_by required plain low high)
tells bounded late more plain required low high is has = record { said = refl; ends = refl; stands = go required }
  where
    go : (asked : Option ℕ) → IfSome asked (λ moment. IsStanding bounded late moment (standing_of moment low high))
    go None = tt
    go (Some moment) = by_two bounded late more moment low high is (λ less. has)

-- likewise where no pair is known: then the lower figure is 0
pub tells_bound : (bounded : ℕ → Type 0) → ((one other : ℕ) → one ≤ other → bounded one → bounded other) → (plain : Status) (required : Option ℕ) (high : ℕ)
    → bounded high → TellsRequired bounded (λ delay. ⊥) plain 0 high required (required_lines required 0 high) (ending_by required plain 0 high)
tells_bound bounded more plain required high is = record { said = refl; ends = refl; stands = go required }
  where
    go : (asked : Option ℕ) → IfSome asked (λ moment. IsStanding bounded (λ delay. ⊥) moment (standing_of moment 0 high))
    go None = tt
    go (Some moment) = by_two bounded (λ delay. ⊥) more moment 0 high is (λ less. none_before moment less)
