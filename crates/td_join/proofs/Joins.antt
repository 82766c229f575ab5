-- Joined certificates: what can't be joined.
use Rattle.std.proofs.Common.{◌≡◌, ◌≢◌, ℕ, List, [], ◌∷◌, ◌++◌, Some, refl, sym, ap, subst, ◌∙◌}
use Rattle.std.specs.Prelude.{slice_get, Option}
use Rattle.std.specs.Option.{option_to_list}
use Rattle.td_domain.specs.declared.cubes.Trit.{Trit}
use Rattle.td_domain.specs.declared.cubes.Trit.TheVariants.{Free}
use Rattle.td_domain.specs.Admits.{Admitted}
use Rattle.td_certificate.specs.declared.tree.Node.{Node}
use Rattle.td_certificate.specs.declared.certificate.Certificate.{Certificate}
use Rattle.td_join.specs.declared.parts.Part.{Part}
use Rattle.td_join.specs.declared.parts.Group.{Group}
use Rattle.td_join.specs.Joining.{pins_of, AreKnownAt, AreJoined, alone, missing, halved}
use Rattle.td_join.specs.declared.fault.JoinFault.{JoinFault}
use Rattle.td_join.specs.declared.fault.JoinFault.TheVariants as fault
use Rattle.td_join.specs.Steps.{certificates_of, IsOwn, IsUncutIn, IsUncut, IsJoinable, IsClash, IsStuck}

-- some certificates, not one of this cube, that no position parts
uncut : (admit : Admitted) (cube : List Trit) (certificates : List Certificate) (tree : List Node) → AreJoined admit cube certificates tree
    → certificates ≢ [] → ((c : Certificate) → certificates ≡ c ∷ [] → ¬ (pins_of c ≡ cube))
    → ((position : ℕ) → slice_get cube position ≡ Some Free → ¬ AreKnownAt position certificates) → ⊥
uncut admit _ _ _ (alone c) some own cut = own c refl refl
uncut admit _ _ _ (missing cube none) some own cut = some refl
uncut admit _ _ _ (halved cube certificates position low high any free known lows highs) some own cut = cut position free known

one_part : (cube : List Trit) (parts : List Part) (c : Certificate) → certificates_of parts ≡ c ∷ [] → pins_of c ≡ cube → IsOwn cube parts
one_part cube [] c e pins = absurd cc
one_part cube (p ∷ []) c e pins =
    let same : p.certificate ≡ c = cc in
    record { part = p; only = refl; pins = rw same pins }
one_part cube (p ∷ q ∷ parts) c e pins = absurd cc

pub some_certificates : (parts : List Part) → parts ≢ [] → certificates_of parts ≢ []
some_certificates [] some e = some refl
some_certificates (p ∷ parts) some e = absurd cc

pub stuck : (admit : Admitted) (group : Group) → group.parts.items ≢ [] → (¬ IsOwn group.cube group.parts.items) → IsUncut group
    → ¬ IsJoinable admit group.cube (certificates_of group.parts.items)
stuck admit group some own cut joinable =
    uncut admit group.cube (certificates_of group.parts.items) joinable.0 joinable.1 (some_certificates group.parts.items some)
    (λ c e pins. own (one_part group.cube group.parts.items c e pins)) cut

-- the tree of one part
pub own_tree : (admit : Admitted) (cube : List Trit) (parts : List Part) (own : IsOwn cube parts) (tree : List Node)
    → own.part.certificate.tree ≡ tree → AreJoined admit cube (certificates_of parts) tree
own_tree admit cube parts own tree e =
    subst (λ (t : List Node). AreJoined admit cube (certificates_of parts) t) e
    (subst (λ (ps : List Part). AreJoined admit cube (certificates_of ps) own.part.certificate.tree) (sym own.only)
    (subst (λ (q : List Trit). AreJoined admit q (own.part.certificate ∷ []) own.part.certificate.tree) own.pins (alone own.part.certificate)))

pub is_stuck : (admit : Admitted) (cube : List Trit) (parts : List Part) (fault : JoinFault ℕ) → IsClash parts fault
    → IsUncutIn cube parts → (¬ IsJoinable admit cube (certificates_of parts)) → IsStuck admit cube parts fault
is_stuck admit cube parts (fault.Overlap this that) clash uncut not_joinable = (clash, uncut, not_joinable)
is_stuck admit cube parts (fault.Crossed this that) clash uncut not_joinable = (clash, uncut, not_joinable)
is_stuck admit cube parts fault.OutOfMemory clash uncut not_joinable = tt
is_stuck admit cube parts fault.NoCertificate clash uncut not_joinable = absurd clash
is_stuck admit cube parts (fault.OtherCircuit this that) clash uncut not_joinable = absurd clash
is_stuck admit cube parts (fault.OtherHold this that) clash uncut not_joinable = absurd clash
is_stuck admit cube parts (fault.OtherFlips this that) clash uncut not_joinable = absurd clash
is_stuck admit cube parts (fault.OtherMoments this that) clash uncut not_joinable = absurd clash
is_stuck admit cube parts (fault.OtherTerms this that) clash uncut not_joinable = absurd clash
is_stuck admit cube parts (fault.Outside this) clash uncut not_joinable = absurd clash
is_stuck admit cube parts (fault.Gap gap) clash uncut not_joinable = absurd clash
is_stuck admit cube parts (fault.FalseNone this) clash uncut not_joinable = absurd clash

-- the last of one part
pub last_part : (parts rest : List Part) (popped : Option Part) (p q : Part) → parts ≡ p ∷ [] → parts ≡ rest ++ option_to_list popped
    → popped ≡ Some q → p.certificate.tree ≡ q.certificate.tree
last_part parts rest popped p q only items is = go rest (sym only ∙ items ∙ ap (λ (o : Option Part). rest ++ option_to_list o) is) where
  go : (rest : List Part) → p ∷ [] ≡ rest ++ q ∷ [] → p.certificate.tree ≡ q.certificate.tree
  go [] e = let same : p ≡ q = cc in ap (λ (x : Part). x.certificate.tree) same
  go (r ∷ []) e = absurd cc
  go (r ∷ s ∷ rest) e = absurd cc
