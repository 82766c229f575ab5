-- Internal: a joining under way, with the groups that are still to come on a stack.
use Rattle.std.specs.Prelude.{◌≡◌, ℕ, ◌+◌, ◌*◌, List, [], ◌∷◌, ◌++◌, All, Contains, length}
use Rattle.td_domain.specs.declared.cubes.Trit.{Trit}
use Rattle.td_domain.specs.declared.cubes.Trit.TheVariants.{Free}
use Rattle.td_domain.specs.Pairs.{Pair}
use Rattle.td_domain.specs.Cubes.{IsIn}
use Rattle.td_domain.specs.Admits.{Admitted}
use Rattle.td_certificate.specs.declared.tree.Node.{Node}
use Rattle.td_certificate.specs.declared.certificate.Certificate.{Certificate}
use Rattle.td_certificate.specs.Questions.{Question}
use Rattle.td_join.specs.declared.fault.JoinFault.{JoinFault}
use Rattle.td_join.specs.declared.fault.JoinFault.TheVariants as fault
use Rattle.td_join.specs.declared.parts.Group.{Group}
use Rattle.td_join.specs.Faults.{IsOverlap, IsCrossed, IsLeftEmpty, IsGap}
use Rattle.td_join.specs.Joining.{pins_of, AreJoined}
use Rattle.td_join.specs.Steps.{certificates_of, IsPlaced, AreInOrder, AreAllInside, IsJoinable}

-- the certificates of a group
abbrev pub members : Group → List Certificate
members group = certificates_of group.parts.items

-- the groups of a stack, its last one first, are joined to these trees, one after another
abbrev pub AreAllJoined : Admitted → List Group → List Node → Type 0
AreAllJoined admit [] nodes = nodes ≡ []
AreAllJoined admit (group ∷ groups) nodes =
    (front : List Node) × (tree : List Node) × AreAllJoined admit groups front × AreJoined admit group.cube (members group) tree × (nodes ≡ front ++ tree)

-- What is known of a group of some certificates in these pins: where all can be joined, so can it;
-- each certificate with a pair in its cube is one of it; its cube is a part of the pins, and its
-- certificates' pins are parts of the cube; a cube that halvings leave in it without a certificate
-- is one that they leave in the pins; and its parts come in order.
pub record IsGroup (certificates : List Certificate) (admit : Admitted) (group : Group) : Type 0 where
  pub joinable : IsJoinable admit admit.pins certificates → IsJoinable admit group.cube (members group)
  pub all : (c : Certificate) (pair : Pair) → Contains certificates c → IsIn pair (pins_of c) → IsIn pair group.cube → Contains (members group) c
  pub inside : (pair : Pair) → IsIn pair group.cube → IsIn pair admit.pins
  pub fits : length group.cube ≡ length admit.pins
  pub placed : All (IsPlaced certificates) group.parts.items
  pub left : (cube : List Trit) → IsLeftEmpty group.cube (members group) cube → IsLeftEmpty admit.pins certificates cube
  pub in_order : AreInOrder group.parts.items
  pub within : AreAllInside group.cube group.parts.items

-- with these nodes of the tree, and these groups to come, the joining is under way
pub record IsUnderWay (certificates : List Certificate) (admit : Admitted) (nodes : List Node) (groups : List Group) : Type 0 where
  pub goes_on : (rest : List Node) → AreAllJoined admit groups rest → AreJoined admit admit.pins certificates (nodes ++ rest)
  pub groups_are : All (IsGroup certificates admit) groups

-- how many nodes a tree of a cube has at most
abbrev pub most_nodes : List Trit → ℕ
most_nodes [] = 1
most_nodes (Free ∷ cube) = 1 + 2 * most_nodes cube
most_nodes (trit ∷ cube) = most_nodes cube

abbrev pub weights : List Group → ℕ
weights [] = 0
weights (group ∷ groups) = most_nodes group.cube + weights groups

-- What a fault says of certificates that aren't joined in these pins: they can't be. An admitted
-- pair lies in two of them, or no position parts those of a cube; or an admitted pair lies in a
-- cube of the pins and in no certificate's.
abbrev pub IsTreeFault : Admitted → List Certificate → JoinFault ℕ → Type 0
IsTreeFault admit certificates fault.OutOfMemory = Unit {0}
IsTreeFault admit certificates (fault.Overlap this that) = IsOverlap certificates this that × (¬ IsJoinable admit admit.pins certificates)
IsTreeFault admit certificates (fault.Crossed this that) = IsCrossed certificates admit.pins this that × (¬ IsJoinable admit admit.pins certificates)
IsTreeFault admit certificates (fault.Gap cube) = IsGap admit certificates cube
IsTreeFault admit certificates fault = ⊥

-- the certificate is of a circuit with this number of gates, and of this question but for its pins
pub record IsOfQuestion (gates : ℕ) (question : Question) (c : Certificate) : Type 0 where
  pub gates_are : gates ≡ c.gates
  pub held : question.admit.held ≡ c.question.admit.held
  pub flips : question.admit.flips ≡ c.question.admit.flips
  pub moments : question.moments ≡ c.question.moments
