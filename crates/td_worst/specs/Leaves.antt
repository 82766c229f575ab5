-- Internal: the certificate's tree of a refutation.
use Rattle.std.specs.Prelude.{◌≡◌, ◌*◌, ◌≤◌, List, [], ◌∷◌, length, map, Some}
use Rattle.td_circuit.specs.Settings.{AreMoments}
use Rattle.td_certificate.specs.declared.tree.Node.{Node}
use Rattle.td_certificate.specs.declared.tree.Node.TheVariants.{Refuted}
use Rattle.td_certificate.specs.Steps as steps
use Rattle.td_refutation.specs.Whole.{step_of}
use Rattle.td_search.specs.Problems.{Problem}
use Rattle.td_refute.specs.declared.refuting.Refuted as found

-- the leaf of what was found
abbrev pub leaf_of : found.Refuted → steps.Refuted
leaf_of refuted = record { steps = map step_of refuted.steps.items; bound = Some refuted.bound }

-- the tree is this leaf alone, which has a text that isn't too long
pub record IsLeaf (leaf : steps.Refuted) (tree : List Node) : Type 0 where
  pub is : tree ≡ Refuted leaf ∷ []
  pub spelled : steps.IsRefutedText leaf
  pub few : length (steps.steps_text leaf.steps) ≤ 268000000

abbrev pub IsLeafOf : found.Refuted → List Node → Type 0
IsLeafOf refuted tree = IsLeaf (leaf_of refuted) tree

-- what is asked of a circuit has a certificate's sizes
pub record IsSpellable (asked : Problem) : Type 0 where
  pub inputs : length asked.setting.netlist.inputs ≤ 4096
  pub gates : length asked.setting.netlist.gates ≤ 200000
  pub held : length asked.admit.held ≡ length asked.setting.netlist.inputs
  pub pins : length asked.admit.pins ≡ 2 * length asked.admit.held
  pub moments : AreMoments asked.setting.netlist asked.setting.moments
