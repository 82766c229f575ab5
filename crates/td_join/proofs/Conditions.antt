-- When two conditions are the same.
use Rattle.std.proofs.Common.{◌≡◌, ◌==◌, refl, ap}
use Rattle.std.specs.Bool.{Decides}
use denote.Enum.Bare.{sameb}
use Rattle.std.proofs.lemmas.Bool.Decides.{Decides-and, Decides-eqb}
use Rattle.td_gates.specs.contracts.primitives.Level.{the_type}
use Rattle.td_spans.specs.contracts.condition.FormPartialEq.TheImpl as form_eq
use Rattle.td_refutation.specs.contracts.conditions.NamedConditionPartialEq.TheImpl.{eq-value}
use Rattle.td_refutation.specs.declared.conditions.NamedCondition.{NamedCondition}
use Rattle.td_gates.specs.declared.primitives.Level.{Level}
use Rattle.td_gates.specs.declared.primitives.Level.TheVariants.{Zero, One, X}
use Rattle.td_spans.specs.declared.condition.Form.{Form}
use Rattle.td_spans.specs.declared.condition.Form.TheVariants.{Levels, Equal}

same_level : (a b : Level) → Decides (sameb the_type a b) (a ≡ b)
same_level Zero Zero = (λ h. refl, λ h. refl)
same_level One One = (λ h. refl, λ h. refl)
same_level X X = (λ h. refl, λ h. refl)
same_level Zero One = (λ h. cc, λ h. cc)
same_level Zero X = (λ h. cc, λ h. cc)
same_level One Zero = (λ h. cc, λ h. cc)
same_level One X = (λ h. cc, λ h. cc)
same_level X Zero = (λ h. cc, λ h. cc)
same_level X One = (λ h. cc, λ h. cc)

first : Form → Level
first (Levels a b) = a
first Equal = X

second : Form → Level
second (Levels a b) = b
second Equal = X

same_form : (a b : Form) → Decides (form_eq.eq-value.it a b) (a ≡ b)
unfolding first second
same_form (Levels a b) (Levels c d) =
    let both = Decides-and (sameb the_type a c) (sameb the_type b d) (same_level a c) (same_level b d) in (
      λ h. (let parts = both.0 h in λ i. Levels (parts.0 i) (parts.1 i)),
      λ h. both.1 (ap first h, ap second h),
    )
same_form (Levels a b) Equal = (λ h. cc, λ h. cc)
same_form Equal (Levels c d) = (λ h. cc, λ h. cc)
same_form Equal Equal = (λ h. refl, λ h. refl)

pub same_condition : (a b : NamedCondition) → Decides (eq-value.it a b) (a ≡ b)
same_condition a b =
    let both = Decides-and (a.net == b.net) (form_eq.eq-value.it a.form b.form) (Decides-eqb a.net b.net) (same_form a.form b.form) in (
      λ h. (let parts = both.0 h in λ i. record { net = parts.0 i; form = parts.1 i }),
      λ h. both.1 (ap (λ (condition : NamedCondition). condition.net) h, ap (λ (condition : NamedCondition). condition.form) h),
    )
