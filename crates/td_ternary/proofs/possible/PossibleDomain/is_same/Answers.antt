use Rattle.std.proofs.Common.{◌≡◌, ◌∙◌, ◌==◌, refl, sym, ap}
use Rattle.std.specs.Bool.{Decides}
use denote.Enum.Bare.{sameb}
use Rattle.std.proofs.lemmas.Bool.Decides.{Decides-and, Decides-eqb}
use Rattle.std.proofs.lemmas.Slice.Eq.{slice_eq-Decides}
use Rattle.td_gates.specs.contracts.primitives.Level.{the_type}
use Rattle.td_gates.specs.contracts.timing.ChangePartialEq.TheImpl.{eq-value}
use Rattle.td_gates.specs.declared.primitives.Level.{Level}
use Rattle.td_gates.specs.declared.primitives.Level.TheVariants.{Zero, One, X}
use Rattle.td_gates.specs.declared.timing.Change.{Change}
use Rattle.td_gates.specs.Wave.{Wave}
use Rattle.td_ternary.proofs.possible.PossibleDomain.is_same.Goals as goal

same_level : (a b : Level) → Decides (sameb the_type a b) (a ≡ b)
same_level Zero Zero = (λ h. refl, λ h. refl)
same_level One One = (λ h. refl, λ h. refl)
same_level X X = (λ h. refl, λ h. refl)
same_level Zero One = (λ h. cc, λ h. cc)
same_level Zero X = (λ h. cc, λ h. cc)
same_level One Zero = (λ h. cc, λ h. cc)
same_level One X = (λ h. cc, λ h. cc)
same_level X Zero = (λ h. cc, λ h. cc)
same_level X One = (λ h. cc, λ h. cc)

same_change : (a b : Change) → Decides (eq-value.it a b) (a ≡ b)
same_change a b =
    let both = Decides-and (a.moment == b.moment) (sameb the_type a.level b.level) (Decides-eqb a.moment b.moment) (same_level a.level b.level) in (
      λ h. (let parts = both.0 h in λ i. record { moment = parts.0 i; level = parts.1 i }),
      λ h. both.1 (ap (λ (change : Change). change.moment) h, ap (λ (change : Change). change.level) h),
    )

pub returns-then-eq : goal.returns-then-eq
returns-then-eq c =
    let start : c.args.left.now.start ≡ c.args.right.now.start =
    sym c.start.ensures ∙ ((same_level c.start.result c.start-2.result).0 (sym c.if-eq.ensures) ∙ c.start-2.ensures) in
    let changes = slice_eq-Decides same_change c.changes.result.now c.changes-then-eq.result.now c.eq-then-eq.result c.eq-then-eq.ensures in (
      λ h. (let same : c.args.left.now.changes ≡ c.args.right.now.changes =
          sym c.changes.ensures.changes ∙ (changes.0 h ∙ c.changes-then-eq.ensures.changes) in λ i. record { start = start i; changes = same i }),
      λ h. changes.1 (c.changes.ensures.changes ∙ (ap (λ (wave : Wave). wave.changes) h ∙ sym c.changes-then-eq.ensures.changes)),
    )
