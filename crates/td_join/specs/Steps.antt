-- Internal: how certificates are joined, group by group.
use Rattle.std.specs.Prelude.{◌≡◌, ◌≢◌, ℕ, ◌*◌, ◌<◌, true, List, [], ◌∷◌, All, Contains, filter, map, length, slice_get, Some}
use Rattle.std.specs.List.{AllPairs}
use Rattle.td_domain.specs.declared.cubes.Trit.{Trit}
use Rattle.td_domain.specs.declared.cubes.Trit.TheVariants.{Free}
use Rattle.td_domain.specs.Admits.{Admitted, HasAdmitted}
use Rattle.td_certificate.specs.declared.tree.Node.{Node}
use Rattle.td_certificate.specs.declared.certificate.Certificate.{Certificate}
use Rattle.td_certificate.specs.declared.question.Version.TheVariants.{First}
use Rattle.td_certificate.specs.Questions.{Question, version_of}
use Rattle.td_certificate.specs.Cubes.{zero_side, one_side}
use Rattle.td_join.specs.declared.fault.JoinFault.{JoinFault}
use Rattle.td_join.specs.declared.fault.JoinFault.TheVariants as fault
use Rattle.td_join.specs.declared.parts.Part.{Part}
use Rattle.td_join.specs.declared.parts.Group.{Group}
use Rattle.td_join.specs.declared.steps.Step.{Step}
use Rattle.td_join.specs.declared.steps.Step.TheVariants as step
use Rattle.td_join.specs.Faults.{IsInside}
use Rattle.td_join.specs.Joining.{pins_of, has_none, is_zero, is_one, AreKnownAt, AreJoined}

-- two pins for each input
abbrev pub HasFit : Certificate → Type 0
HasFit c = length (pins_of c) ≡ 2 * length c.question.admit.held

abbrev pub certificate_of : Part → Certificate
certificate_of p = p.certificate

abbrev pub certificates_of : List Part → List Certificate
certificates_of parts = map certificate_of parts

-- the part's place is that of its certificate
abbrev pub IsPlaced : List Certificate → Part → Type 0
IsPlaced certificates p = slice_get certificates p.place ≡ Some p.certificate

-- each part's place is below those of the parts after it
abbrev pub AreInOrder : List Part → Type 0
AreInOrder parts = AllPairs (λ p q. p.place < q.place) parts

-- the pins of each part are a part of the cube
abbrev pub AreAllInside : List Trit → List Part → Type 0
AreAllInside cube parts = All (λ p. IsInside cube (pins_of p.certificate)) parts

abbrev pub zero_parts : ℕ → List Part → List Part
zero_parts position parts = filter (λ p. is_zero (slice_get (pins_of p.certificate) position)) parts

abbrev pub one_parts : ℕ → List Part → List Part
one_parts position parts = filter (λ p. is_one (slice_get (pins_of p.certificate) position)) parts

-- no position halves the parts of a cube
abbrev pub IsUncutIn : List Trit → List Part → Type 0
IsUncutIn cube parts = (position : ℕ) → slice_get cube position ≡ Some Free → ¬ AreKnownAt position (certificates_of parts)

abbrev pub IsUncut : Group → Type 0
IsUncut group = IsUncutIn group.cube group.parts.items

-- the group's certificates can be joined to a tree of its cube
abbrev pub IsJoinable : Admitted → List Trit → List Certificate → Type 0
IsJoinable admit cube certificates = (tree : List Node) × AreJoined admit cube certificates tree

-- the group is one part, with the cube as its pins
pub record IsOwn (cube : List Trit) (parts : List Part) : Type 0 where
  pub part : Part
  pub only : parts ≡ part ∷ []
  pub pins : pins_of part.certificate ≡ cube

-- one part of a group, at this place
pub record IsPartAt (parts : List Part) (place : ℕ) : Type 0 where
  pub part : Part
  pub among : Contains parts part
  pub place_is : part.place ≡ place

-- two parts of a group with an admitted pair in both
pub record ShareAt (parts : List Part) (this that : ℕ) : Type 0 where
  pub one : Part
  pub other : Part
  pub one_among : Contains parts one
  pub other_among : Contains parts other
  pub one_place : one.place ≡ this
  pub other_place : other.place ≡ that
  pub differ : this ≢ that
  pub shares : HasAdmitted one.certificate.question.admit (pins_of other.certificate)

-- two parts clash in the group
abbrev pub IsClash : List Part → JoinFault ℕ → Type 0
IsClash parts (fault.Overlap this that) = ShareAt parts this that
IsClash parts (fault.Crossed this that) = IsPartAt parts this × IsPartAt parts that × (this ≢ that)
IsClash parts fault = ⊥

-- a group is joined at once, or halved where it has a part
abbrev pub IsStep : Admitted → List Trit → List Part → Step → Type 0
IsStep admit cube parts (step.Leaf nodes) = AreJoined admit cube (certificates_of parts) nodes.items
IsStep admit cube parts (step.Halves position low high) =
    (slice_get cube position ≡ Some Free) × AreKnownAt position (certificates_of parts)
    × (low.cube ≡ zero_side cube position) × (low.parts.items ≡ zero_parts position parts)
    × (high.cube ≡ one_side cube position) × (high.parts.items ≡ one_parts position parts) × (parts ≢ [])

-- why a group is neither
abbrev pub IsStuck : Admitted → List Trit → List Part → JoinFault ℕ → Type 0
IsStuck admit cube parts fault.OutOfMemory = Unit {0}
IsStuck admit cube parts (fault.Gap gap) = (gap ≡ cube) × (parts ≡ []) × HasAdmitted admit cube
IsStuck admit cube parts fault = IsClash parts fault × IsUncutIn cube parts × (¬ IsJoinable admit cube (certificates_of parts))

-- all pairs are admitted and all inputs change at moment 0, and a leaf of the certificate that the
-- fault names says that no admitted pair lies in its cube
pub record IsFalseNoneIn (certificates : List Certificate) (question : Question) (reported : JoinFault ℕ) : Type 0 where
  pub certificate : Certificate
  pub place : ℕ
  pub at : slice_get certificates place ≡ Some certificate
  pub reported_is : reported ≡ fault.FalseNone place
  pub all : version_of question ≡ First
  pub none : has_none certificate.tree ≡ true
