-- Internal: what is known of the pairs that keep conditions.
use Rattle.std.specs.Prelude.{◌≡◌, ◌+◌, ◌<◌, ◌≤◌, ◌^◌, true, List, length, IfSome}
use Rattle.td_circuit.specs.Settings.{Setting}
use Rattle.td_domain.specs.Admits.{Admitted}
use Rattle.td_refutation.specs.declared.conditions.NamedCondition.{NamedCondition}
use Rattle.td_refutation.specs.Asking.{Asking}
use Rattle.td_refute.specs.Kept.{IsTimedAmong, IsBoundAmong}
use Rattle.td_certificate.specs.declared.tree.Node.{Node}
use Rattle.td_certificate.specs.Accepts.{are_fit}
use Rattle.td_certificate.specs.Spelling.{AreConditions}
use Rattle.td_certificate.specs.Steps.{Refuted}
use Rattle.td_search.specs.declared.strategy.Strategy.TheVariants.{Lead}
use Rattle.td_worst.specs.declared.kept_answer.Known.{Known}
use Rattle.td_worst.specs.Leaves.{IsLeaf, IsSpellable}

-- the best pair, if there is one, is asked about, and no such pair is later than the upper figure
pub record IsKnown (given : Setting) (asking : Asking) (known : Known) : Type 0 where
  pub best : IfSome known.best (IsTimedAmong given asking)
  pub high : IsBoundAmong given asking known.high
  pub small : known.high < 10 ^ 15

-- the conditions, which a text can tell, and the one leaf of a tree
pub record IsToldLeaf (keep : List NamedCondition) (leaf : Refuted) (tree : List Node) : Type 0 where
  pub leaf_is : IsLeaf leaf tree
  pub told : AreConditions keep
  pub few : length keep ≤ 5000

-- the sizes are a certificate's, and the conditions rise, each on a net that there is
pub record IsFitted (given : Setting) (admit : Admitted) (keep : List NamedCondition) : Type 0 where
  pub sizes : IsSpellable (record { setting = given; admit = admit; strategy = Lead })
  pub helds : length admit.held ≡ length given.netlist.inputs
  pub fit : are_fit (2 + length given.netlist.inputs + length given.netlist.gates) keep ≡ true
