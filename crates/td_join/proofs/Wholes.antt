-- The certificate of the whole.
use Rattle.std.proofs.Common.{◌≡◌, ◌<◌, ◌≤◌, ℕ, List, length, Option, Some, inl, inr, refl, sym, ap, subst, ◌∙◌}
use Rattle.std.specs.Prelude.{All, Contains, slice_get}
use Rattle.std.proofs.lemmas.List.Elements.{All-weaker, All-contains}
use Rattle.td_domain.specs.declared.cubes.Trit.{Trit}
use Rattle.td_certificate.specs.declared.tree.Node.{Node}
use Rattle.td_certificate.specs.declared.certificate.Certificate.{Certificate}
use Rattle.td_certificate.specs.declared.certificate.Claim.{Claim}
use Rattle.td_certificate.specs.declared.question.Version.TheVariants.{First}
use Rattle.td_certificate.specs.Questions.{Question, version_of, keep_by}
use Rattle.td_gates.proofs.Places.{slice_get-Contains, slice_get-within}
use Rattle.td_join.specs.Joining.{with_pins, AreJoined, AreMerged, HasTerms, IsWholeClaim, IsAlike, IsJoined}
use Rattle.td_domain.specs.Admits.{Admitted}
use Rattle.td_join.specs.declared.fault.JoinFault.{JoinFault}
use Rattle.td_join.specs.declared.fault.JoinFault.TheVariants as fault
use Rattle.td_join.specs.Faults.{IsGap, IsUnjoinable, IsJoinFault}
use Rattle.td_join.specs.Steps.{HasFit, IsJoinable, IsFalseNoneIn}
use Rattle.td_join.specs.Stacks.{IsOfQuestion, IsTreeFault}
use Rattle.td_join.proofs.Refused.{refused}
use Rattle.td_join.proofs.Spelled.{no_terms}
use Rattle.td_join.proofs.Pinned.{same_pairs}

abbrev pub whole_of : ℕ → Question → Option Claim → List Node → Certificate
whole_of gates question claim tree = record { gates = gates; question = question; claim = claim; tree = tree }

pub is_joined : (certificates : List Certificate) (gates : ℕ) (question : Question) (claim : Option Claim) (tree nodes : List Node)
    → All (IsOfQuestion gates question) certificates → IsWholeClaim certificates claim
    → nodes ≡ tree → AreJoined question.admit question.admit.pins certificates tree
    → All (λ c. AreMerged question.terms c.question.terms) certificates → HasTerms certificates question.terms
    → IsJoined certificates question.admit.pins (whole_of gates question claim nodes)
is_joined certificates gates question claim tree nodes alike claimed same joined terms told = record {
  alike = All-weaker (IsOfQuestion gates question) (IsAlike (whole_of gates question claim nodes))
      (λ c h. record { gates = h.gates_are; held = h.held; flips = h.flips; moments = h.moments }) certificates alike;
  pins_are = refl;
  tree = subst (λ (ns : List Node). AreJoined question.admit question.admit.pins certificates ns) (sym same) joined;
  claim = claimed;
  terms = terms;
  told = told;
}

-- ---- faults

module _ (certificates : List Certificate) (gates : ℕ) (question : Question) (some : 0 < length certificates) (alike : All (IsOfQuestion gates question) certificates) where
  first_of : (c : Certificate) × (slice_get certificates 0 ≡ Some c)
  first_of = slice_get-within certificates 0 some

  same_admit : (this that : Admitted) → this.held ≡ that.held → this.flips ≡ that.flips → this ≡ record that { pins = this.pins }
  same_admit this that held flips = rw (held, flips) refl

  of_first : (c : Certificate) → Contains certificates c → question.admit ≡ record c.question.admit { pins = question.admit.pins }
  of_first c has =
      let h = All-contains (IsOfQuestion gates question) certificates c alike has in
      same_admit question.admit c.question.admit h.held h.flips

  unjoinable : (¬ IsJoinable question.admit question.admit.pins certificates) → IsUnjoinable certificates question.admit.pins
  unjoinable none whole joined =
      let c = joined.told.certificate in
      let mine = of_first c joined.told.among in
      let yours = All-contains (IsAlike whole) certificates c joined.alike joined.told.among in
      let same : whole.question.admit ≡ question.admit =
      same_admit whole.question.admit c.question.admit yours.held yours.flips
      ∙ ap (λ (x : List Trit). same_pairs c.question.admit x) joined.pins_are ∙ sym mine in
      none (whole.tree, subst (λ (a : Admitted). AreJoined a question.admit.pins certificates whole.tree) same joined.tree)

  pub reported : (fault : JoinFault ℕ) → IsTreeFault question.admit certificates fault → IsJoinFault certificates question.admit.pins fault
  reported fault.OutOfMemory h = tt
  reported (fault.Overlap this that) h = (h.0, unjoinable h.1)
  reported (fault.Crossed this that) h = (h.0, unjoinable h.1)
  reported (fault.Gap cube) h =
      let f = first_of in
      (f.0, f.1, subst (λ (a : Admitted). IsGap a certificates cube) (of_first f.0 (slice_get-Contains certificates 0 f.0 f.1)) h)
  reported fault.NoCertificate h = absurd h
  reported (fault.OtherCircuit this that) h = absurd h
  reported (fault.OtherHold this that) h = absurd h
  reported (fault.OtherFlips this that) h = absurd h
  reported (fault.OtherMoments this that) h = absurd h
  reported (fault.OtherTerms this that) h = absurd h
  reported (fault.Outside this) h = absurd h
  reported (fault.FalseNone this) h = absurd h

  same_question : (this that : Question) → this.admit ≡ record that.admit { pins = this.admit.pins } → this.moments ≡ that.moments
      → this.terms ≡ that.terms → this ≡ with_pins that this.admit.pins
  same_question this that admit moments terms = rw (admit, moments, terms) refl

  same_terms : (this that : Question) → version_of this ≡ First → AreMerged this.terms that.terms → this.terms ≡ that.terms
  same_terms this that first (inl none) = no_terms this.terms this.admit this.moments first ∙ sym none.0
  same_terms this that first (inr same) = sym same

  pub false_none : All HasFit certificates → All (λ c. AreMerged question.terms c.question.terms) certificates → (reported : JoinFault ℕ) → IsFalseNoneIn certificates question reported → IsJoinFault certificates question.admit.pins reported
  false_none fit merged reported h =
      let c = h.certificate in
      let has = slice_get-Contains certificates h.place c h.at in
      let mine = All-contains (IsOfQuestion gates question) certificates c alike has in
      let first = All-contains (IsOfQuestion gates question) certificates first_of.0 alike (slice_get-Contains certificates 0 first_of.0 first_of.1) in
      subst (λ (f : JoinFault ℕ). IsJoinFault certificates question.admit.pins f) (sym h.reported_is) (record {
        first = first_of.0;
        certificate = c;
        first_at = first_of.1;
        at = h.at;
        all = subst (λ (q : Question). version_of q ≡ First)
            (same_question question first_of.0.question (of_first first_of.0 (slice_get-Contains certificates 0 first_of.0 first_of.1)) first.moments
            (same_terms question first_of.0.question h.all
            (All-contains (λ d. AreMerged question.terms d.question.terms) certificates first_of.0 merged (slice_get-Contains certificates 0 first_of.0 first_of.1)))) h.all;
        none = h.none;
        refused = λ netlist. refused question c netlist h.all mine.held mine.flips
            (ap keep_by (sym (same_terms question c.question h.all (All-contains (λ d. AreMerged question.terms d.question.terms) certificates c merged has))
            ∙ no_terms question.terms question.admit question.moments h.all)) (All-contains HasFit certificates c fit has) h.none;
      })
