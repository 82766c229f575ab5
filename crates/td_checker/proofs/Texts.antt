-- From what is said of two texts to what the checker answers.
use Rattle.std.proofs.Common.{◌≡◌, ◌≢◌, ◌≤◌, ℕ, List, [], ◌∷◌, ◌++◌, length, map, length-append, Option, Some, None, inl, inr, refl, sym, ap, ap₂, subst, ◌∙◌, arith}
use Rattle.std.specs.Prelude.{codes, Result, Ok, Err, IfOk, IfErr, IfSome}
use Rattle.std.specs.List.{Contains, flat_map}
use Rattle.std.proofs.lemmas.List.{append-nil}
use Rattle.std.proofs.lemmas.List.Concat.{flat_map-append, flat_map-cons}
use Rattle.std.proofs.lemmas.List.Elements.{All-from_recursion}
use Rattle.td_reading.specs.declared.reading.Reading.{Reading}
use Rattle.td_reading.specs.declared.told.Told.{Told}
use Rattle.td_gates.specs.Delays.{Delays, IsInRange}
use Rattle.td_gates.proofs.Places.{slice_get-Contains}
use Rattle.td_nets.specs.Netlist.{Netlist}
use Rattle.td_nets.specs.WellFormed.{IsWellFormed}
use Rattle.td_nets.specs.Views.{name_of}
use Rattle.td_netlist.specs.Means.{Means}
use Rattle.td_netlist.proofs.Readings.{one_netlist}
use Rattle.td_circuit.specs.Loops.{Loop, LiesOnLoop}
use Rattle.td_source.specs.declared.fault.SourceFault.{SourceFault}
use Rattle.td_source.specs.declared.fault.SourceFault.TheVariants as source
use Rattle.td_source.specs.Kept.{AreNumbers, HasOutputs}
use Rattle.td_source.specs.Reads.{reading_of, HasNoneNamed, AreOutputsIn, ReadsNetlist}
use Rattle.td_source.specs.Faults.{IsSourceFault}
use Rattle.td_source.proofs.Naming.{reads_one, same_outputs}
use Rattle.td_source.proofs.Asked.{outputs_exist, acyclic_too, formed_too}
use Rattle.td_source.proofs.Reading.{numbers_fit, outputs_asked, reads_whole, circuit_whole}
use Rattle.td_source.proofs.Rising.{none_in}
use Rattle.td_circuit.specs.Settings.{AreMoments}
use Rattle.td_certificate.specs.declared.certificate.Certificate.{Certificate}
use Rattle.td_certificate.specs.declared.fault.CertFaultKind.{CertFaultKind}
use Rattle.td_certificate.specs.declared.fault.CertFaultKind.TheVariants as kind
use Rattle.td_certificate.specs.Questions.{Terms}
use Rattle.td_certificate.specs.Text.{node_line}
use Rattle.td_certificate.specs.Spelling.{head_lines, ended, spelling, AreTerms, HasSpelling, Spells}
use Rattle.td_domain.specs.declared.cubes.Trit.{Trit}
use Rattle.td_refutation.specs.Whole.{Step}
use Rattle.td_certificate.specs.declared.tree.Node.{Node}
use Rattle.td_certificate.specs.declared.tree.Node.TheVariants as node
use Rattle.td_certificate.specs.Steps.{or_none, step_text, steps_text}
use Rattle.td_certificate.specs.Cubes.{cubes_past}
use Rattle.td_certificate.specs.Walks.{position_of, lines_from}
use Rattle.td_certificate.specs.Accepts.{lines_in, IsOfSize, Accepts}
use Rattle.td_certificate.specs.Faults.{IsWithinLimit, IsFault}
use Rattle.td_certificate.proofs.Acceptance.{accepted_is_true}
use Rattle.td_certificate.proofs.Exclusion.{spells-front, spells-more, spells-stops}
use Rattle.td_certificate.proofs.Texts.{spells_once}
use Rattle.td_checker.specs.declared.verdict.Verdict.{Verdict}
use Rattle.td_checker.specs.declared.verdict.Verdict.TheVariants as verdict
use Rattle.td_checker.specs.declared.verdict.Checked.{Checked}
use Rattle.td_checker.specs.declared.verdict.CheckFault.{CheckFault}
use Rattle.td_checker.specs.declared.verdict.CheckFault.TheVariants as fault
use Rattle.td_checker.specs.Verdicts.{Said, AreTold, IsVerdictFor, IsVerdictOfWhole, outputs_for, line_count, line_total}
use Rattle.td_checker.specs.Checks.{told_all, said_by, default_for, with_default, HasVerdict, HaveVerdict, IsWholeFault, IsDefaultFor, IsNetlistFaultFor, IsCheckFault, fault_of, IsCertificateFault, AsksAbout, TellsTruth, TellsTruthOf}
use Rattle.td_checker.specs.Stopping.{IsReportedInTime}
use Rattle.td_checker.proofs.OneVerdict.{one_with, texts_have_one_verdict}

-- ---- a text is at least as long as its lines are many

steps_long : (steps : List Step) → length steps ≤ length (steps_text steps)
steps_long [] = omega arith
steps_long (step ∷ steps) =
    omega (arith, steps_long steps, ap length (flat_map-cons step_text step steps), length-append (step_text step) (steps_text steps))

node_long : (n : Node) → line_count n ≤ length (ended (node_line n))
node_long (node.Split position) = omega (arith, length-append (node_line (node.Split position)) (10 ∷ []))
node_long (node.Bound domain bound) = omega (arith, length-append (node_line (node.Bound domain bound)) (10 ∷ []))
node_long (node.Point time) = omega (arith, length-append (node_line (node.Point time)) (10 ∷ []))
node_long node.Empty = omega (arith, length-append (node_line node.Empty) (10 ∷ []))
node_long (node.Refuted refuted) =
    omega (
      arith,
      steps_long refuted.steps,
      length-append (node_line (node.Refuted refuted)) (10 ∷ []),
      length-append (codes "r\n") (steps_text refuted.steps ++ (codes "q " ++ or_none refuted.bound)),
      length-append (steps_text refuted.steps) (codes "q " ++ or_none refuted.bound),
    )

total_long : (cubes : List (List Trit)) (nodes : List Node) → line_total (lines_from cubes nodes) ≤ length (flat_map ended (map node_line nodes))
total_long [] nodes = omega arith
total_long (cube ∷ cubes) [] = omega arith
total_long (cube ∷ cubes) (n ∷ nodes) =
    omega (
      arith,
      node_long n,
      total_long (cubes_past cube (position_of n) cubes) nodes,
      ap length (flat_map-cons ended (node_line n) (map node_line nodes)),
      length-append (ended (node_line n)) (flat_map ended (map node_line nodes)),
    )

pub few_lines : (c : Certificate) (text : List ℕ) → Spells c text → IsWithinLimit text → line_total (lines_in c) ≤ 268435456
unfolding spelling
few_lines c text spells within =
    let parts : length text ≡ length (flat_map ended (head_lines c ++ map node_line c.tree)) = ap length spells.parts in
    omega (
      arith,
      parts,
      ap length (flat_map-append ended (head_lines c) (map node_line c.tree)),
      length-append (flat_map ended (head_lines c)) (flat_map ended (map node_line c.tree)),
      total_long (c.question.admit.pins ∷ []) c.tree,
      within,
    )

-- ---- faults

spelled_fault : {X : Type 0} (k : CertFaultKind) (line : ℕ) (text : List ℕ) (c : Certificate) → Spells c text → IsWithinLimit text
    → k ≢ kind.OutOfMemory → IsFault k line text → X
spelled_fault kind.OutOfMemory line text c spells within other is = absurd (other refl)
spelled_fault kind.TooLong line text c spells within other is = absurd (omega (arith, within, is.0))
spelled_fault kind.UnexpectedEnd line text c spells within other is = spells-front text c spells is.1
spelled_fault kind.Trailing line text c spells within other is = spells-more text c line spells is.1
spelled_fault kind.Syntax line text c spells within other is = spells-stops text c line spells is.1
spelled_fault kind.NumberTooLarge line text c spells within other is = spells-stops text c line spells is.1
spelled_fault kind.Version line text c spells within other is = spells-stops text c line spells is.1

pub source_fault : (netlist_text : List ℕ) (reading : Reading) (reported : SourceFault) → IsSourceFault netlist_text reading reported
    → IsWholeFault netlist_text reading (fault_of reported)
source_fault netlist_text reading source.OutOfMemory is = tt
source_fault netlist_text reading (source.Netlist reported) is = is
source_fault netlist_text reading source.NoOutput is = is
source_fault netlist_text reading (source.Loop name) is = is

-- a text that spells a certificate within the limit
default_spelled : (reading : Reading) (text : List ℕ) (c : Certificate) → Spells c text → IsWithinLimit text
    → IsDefaultFor reading text (default_for reading.default c.question.terms)
default_spelled reading text c spells within = record {
  spelled = λ d also _. ap (λ (k : Certificate). default_for reading.default k.question.terms) (spells_once c d text text [] spells also (sym (append-nil text))).0;
  unread = λ none. absurd (none c spells within);
}

-- and one that has a fault
default_unread : (reading : Reading) (text : List ℕ) → ((c : Certificate) → Spells c text → ¬ IsWithinLimit text) → IsDefaultFor reading text reading.default
default_unread reading text none = record {
  spelled = λ c spells within. absurd (none c spells within);
  unread = λ _. refl;
}

-- what a fault of the netlist's text is beside a certificate's text
whole_fault : (netlist_text : List ℕ) (reading : Reading) (text : List ℕ) (default : Delays) (reported : CheckFault) → IsDefaultFor reading text default
    → IsWholeFault netlist_text (with_default reading default) reported → IsCheckFault netlist_text reading text reported
whole_fault netlist_text reading text default fault.OutOfMemory is_default is = tt
whole_fault netlist_text reading text default (fault.Netlist reported) is_default is = (default, is_default, is)
whole_fault netlist_text reading text default fault.NoOutput is_default is = (default, is_default, is)
whole_fault netlist_text reading text default (fault.Loop name) is_default is = (default, is_default, is)
whole_fault netlist_text reading text default (fault.Certificate reported) is_default is = absurd is

pub spelled_fault_of : (netlist_text : List ℕ) (reading : Reading) (text : List ℕ) (c : Certificate) (reported : CheckFault) → Spells c text × IsWithinLimit text
    → IsWholeFault netlist_text (with_default reading (default_for reading.default c.question.terms)) reported → IsCheckFault netlist_text reading text reported
spelled_fault_of netlist_text reading text c reported spells is =
    whole_fault netlist_text reading text (default_for reading.default c.question.terms) reported (default_spelled reading text c spells.0 spells.1) is

-- what has a fault that isn't of memory spells no certificate within the limit
none_spelled : (text : List ℕ) (reported : CheckFault) → IsCertificateFault text reported → reported ≢ fault.OutOfMemory → (c : Certificate) → Spells c text
    → ¬ IsWithinLimit text
none_spelled text fault.OutOfMemory is other c spells within = absurd (other refl)
none_spelled text (fault.Netlist reported) is other c spells within = absurd is
none_spelled text fault.NoOutput is other c spells within = absurd is
none_spelled text (fault.Loop name) is other c spells within = absurd is
none_spelled text (fault.Certificate reported) is other c spells within = spelled_fault reported.kind reported.line text c spells within is.0 is.1

-- where the certificate's text has a fault, that of the netlist's comes first
pub unread_source : (netlist_text : List ℕ) (reading : Reading) (text : List ℕ) (found : CheckFault) (reported : SourceFault) → IsCertificateFault text found
    → found ≢ fault.OutOfMemory → IsSourceFault netlist_text (reading_of reading.default reading.outputs) reported
    → IsCheckFault netlist_text reading text (fault_of reported)
unread_source netlist_text reading text found reported is other source =
    whole_fault netlist_text reading text reading.default (fault_of reported) (default_unread reading text (none_spelled text found is other))
    (source_fault netlist_text (with_default reading reading.default) reported source)

pub unread_certificate : (netlist_text : List ℕ) (reading : Reading) (text : List ℕ) (whole : Netlist) (outputs : Option (List ℕ)) (reported : CheckFault)
    → Means netlist_text reading.default whole → (¬ Loop whole) → AreOutputsIn whole reading.outputs outputs
    → IsCertificateFault text reported → IsCheckFault netlist_text reading text reported
unread_certificate netlist_text reading text whole outputs fault.OutOfMemory means acyclic named is = tt
unread_certificate netlist_text reading text whole outputs (fault.Netlist reported) means acyclic named is = absurd is
unread_certificate netlist_text reading text whole outputs fault.NoOutput means acyclic named is = absurd is
unread_certificate netlist_text reading text whole outputs (fault.Loop name) means acyclic named is = absurd is
unread_certificate netlist_text reading text whole outputs (fault.Certificate reported) means acyclic named is =
    let asked = outputs_exist whole outputs (numbers_fit whole reading.outputs outputs named) in
    (asked.0, circuit_whole netlist_text reading whole outputs asked.0 means acyclic named asked.1, is.0, is.1)

-- ---- texts that have a verdict have no fault

-- words that name outputs have no name of none
named_some : (whole : Netlist) (words : List (List ℕ)) (outputs : Option (List ℕ)) (word : List ℕ) → AreOutputsIn whole words outputs → Contains words word
    → ¬ HasNoneNamed whole word
named_some whole [] outputs word are has none = absurd (none_in word has)
named_some whole (first ∷ words) outputs word are has none =
    let named = are.2.each word has in
    none named.1.output (slice_get-Contains whole.outputs named.0 named.1.output named.1.stands) named.1.named

no_whole_fault : (netlist_text : List ℕ) (reading : Reading) (whole : Netlist) (outputs : Option (List ℕ)) (reported : CheckFault)
    → Means netlist_text reading.default whole → (¬ Loop whole) → AreOutputsIn whole reading.outputs outputs → IsWholeFault netlist_text reading reported
    → reported ≡ fault.OutOfMemory
no_whole_fault netlist_text reading whole outputs fault.OutOfMemory means acyclic named is = refl
no_whole_fault netlist_text reading whole outputs (fault.Netlist reported) means acyclic named is = absurd (is.means_none whole means)
no_whole_fault netlist_text reading whole outputs fault.NoOutput means acyclic named is =
    let same : is.whole ≡ whole = one_netlist netlist_text reading.default is.whole whole is.means means in
    absurd (named_some whole reading.outputs outputs is.word named is.asked (subst (λ (n : Netlist). HasNoneNamed n is.word) same is.none))
no_whole_fault netlist_text reading whole outputs (fault.Loop name) means acyclic named is =
    let asked = outputs_exist whole outputs (numbers_fit whole reading.outputs outputs named) in
    let reads = reads_whole netlist_text reading whole outputs asked.0 means named asked.1 in
    let same : is.0 ≡ asked.0 = reads_one netlist_text reading is.0 asked.0 is.1 reads in
    absurd (acyclic_too whole outputs asked.0 asked.1 acyclic (subst (λ (n : Netlist). LiesOnLoop n (name_of name)) same is.2).0)
no_whole_fault netlist_text reading whole outputs (fault.Certificate reported) means acyclic named is = absurd is

no_netlist_fault : (netlist_text : List ℕ) (reading : Reading) (told : Told) (text : List ℕ) (reported : CheckFault) (v : Verdict)
    → IsNetlistFaultFor netlist_text reading text reported → HaveVerdict netlist_text reading told text v → reported ≡ fault.OutOfMemory
no_netlist_fault netlist_text reading told text reported v is have =
    let c : Certificate = have.certificate in
    let default : is.0 ≡ default_for reading.default c.question.terms = is.1.spelled c have.spells have.within in
    no_whole_fault netlist_text (with_default reading is.0) have.has.whole have.has.outputs reported
    (subst (λ (d : Delays). Means netlist_text d have.has.whole) (sym default) have.has.means) have.has.acyclic have.has.asked is.2

fault_is_memory : (netlist_text : List ℕ) (reading : Reading) (told : Told) (text : List ℕ) (reported : CheckFault) (v : Verdict)
    → IsCheckFault netlist_text reading text reported → HaveVerdict netlist_text reading told text v → reported ≡ fault.OutOfMemory
fault_is_memory netlist_text reading told text fault.OutOfMemory v is have = refl
fault_is_memory netlist_text reading told text (fault.Netlist reported) v is have = no_netlist_fault netlist_text reading told text (fault.Netlist reported) v is have
fault_is_memory netlist_text reading told text fault.NoOutput v is have = no_netlist_fault netlist_text reading told text fault.NoOutput v is have
fault_is_memory netlist_text reading told text (fault.Loop name) v is have = no_netlist_fault netlist_text reading told text (fault.Loop name) v is have
fault_is_memory netlist_text reading told text (fault.Certificate reported) v is have =
    spelled_fault reported.kind reported.line text have.certificate have.spells have.within is.2 is.3

pub reported_only : (netlist_text : List ℕ) (reading : Reading) (told : Told) (text : List ℕ) (result : Result (Option Checked) CheckFault)
    → IfOk result (λ found. IfSome found (λ reported. HaveVerdict netlist_text reading told text reported.verdict))
    → IfErr result (λ reported. IsCheckFault netlist_text reading text reported) → (v : Verdict) → HaveVerdict netlist_text reading told text v → IsReportedInTime v result
reported_only netlist_text reading told text (Ok (Some reported)) found fails v have = texts_have_one_verdict netlist_text reading told text reported.verdict v found have
reported_only netlist_text reading told text (Ok None) found fails v have = tt
reported_only netlist_text reading told text (Err reported) found fails v have = fault_is_memory netlist_text reading told text reported v fails have

-- ---- what is told is true

-- the delays that a certificate tells are in range
pub default_in_range : (c : Certificate) (terms : Terms) → HasSpelling c → Some terms ≡ c.question.terms → IsInRange terms.default
default_in_range c terms has is = (subst AreTerms (sym is) has.terms).0

-- the moments of a certificate of this circuit are the circuit's
pub moments_fit : (netlist : Netlist) (c : Certificate) → IsOfSize netlist c → HasSpelling c → AreMoments netlist c.question.moments
moments_fit netlist c size has =
    record { count = has.count ∙ sym size.inputs; within = All-from_recursion (λ moment. moment ≤ 1000000000) c.question.moments has.moments }

-- an accepted certificate of a netlist that it asks about
accepted_for : (said : Said) (whole : Netlist) (c : Certificate) (numbers : Option (List ℕ)) (netlist : Netlist) → HasOutputs whole numbers netlist
    → IsVerdictFor said whole c numbers verdict.Accepted → AreNumbers whole numbers × Accepts netlist c
accepted_for said whole c numbers netlist has (inl is) =
    (is.0, subst (λ (n : Netlist). Accepts n c) (one_with whole numbers is.1.0 netlist is.1.1 has) is.1.2.1)
accepted_for said whole c numbers netlist has (inr is) = absurd (let no : verdict.Accepted ≡ verdict.OtherCircuit = is.1 in cc)

-- the netlist that a certificate asks about is one
asks_same : (netlist_text : List ℕ) (reading : Reading) (c : Certificate) (whole netlist : Netlist) (outputs : Option (List ℕ))
    → Means netlist_text (default_for reading.default c.question.terms) whole → AreOutputsIn whole reading.outputs outputs
    → AsksAbout netlist_text reading c netlist → HasOutputs whole (outputs_for outputs c.question.terms) netlist
asks_same netlist_text reading c whole netlist outputs means named asks =
    let same : asks.whole ≡ whole = one_netlist netlist_text (default_for reading.default c.question.terms) asks.whole whole asks.means means in
    let listed : asks.outputs ≡ outputs =
    same_outputs whole reading.outputs asks.outputs outputs (subst (λ (n : Netlist). AreOutputsIn n reading.outputs asks.outputs) same asks.named) named in
    subst (λ (o : Option (List ℕ)). HasOutputs whole (outputs_for o c.question.terms) netlist) listed
    (subst (λ (n : Netlist). HasOutputs n (outputs_for asks.outputs c.question.terms) netlist) same asks.has)

pub tells_truth_of : (netlist_text : List ℕ) (reading : Reading) (told : Told) (c : Certificate) (v : Verdict) (whole : Netlist) (outputs : Option (List ℕ))
    → Means netlist_text (default_for reading.default c.question.terms) whole → (¬ Loop whole) → IsWellFormed whole → AreOutputsIn whole reading.outputs outputs
    → HasSpelling c → IsVerdictOfWhole (said_by told reading.default outputs) whole c v → v ≡ verdict.Accepted → TellsTruthOf netlist_text reading c
tells_truth_of netlist_text reading told c v whole outputs means acyclic formed named spelled is accepted netlist asks =
    let numbers : Option (List ℕ) = outputs_for outputs c.question.terms in
    let has = asks_same netlist_text reading c whole netlist outputs means named asks in
    let judged : IsVerdictFor (said_by told reading.default outputs) whole c numbers verdict.Accepted = rw accepted at is in
    let both = accepted_for (said_by told reading.default outputs) whole c numbers netlist has judged in
    accepted_is_true netlist c (formed_too whole numbers netlist formed both.0 has) (acyclic_too whole numbers netlist has acyclic)
    (moments_fit netlist c both.1.size spelled) both.1

pub tells_truth : (netlist_text : List ℕ) (reading : Reading) (text : List ℕ) (c : Certificate) → Spells c text → TellsTruthOf netlist_text reading c
    → TellsTruth netlist_text reading text
tells_truth netlist_text reading text c spells truth d also =
    subst (λ (k : Certificate). TellsTruthOf netlist_text reading k) (spells_once c d text text [] spells also (sym (append-nil text))).0 truth

pub have_verdict : (netlist_text : List ℕ) (reading : Reading) (told : Told) (text : List ℕ) (c : Certificate) (v : Verdict) → Spells c text × IsWithinLimit text
    → HasVerdict netlist_text reading told c v → HaveVerdict netlist_text reading told text v
have_verdict netlist_text reading told text c v spells has = record { certificate = c; spells = spells.0; within = spells.1; has = has }

-- where all of the reading is told, an accepted certificate is accepted of the netlist that is read
pub accepted_read : (netlist_text : List ℕ) (reading : Reading) (text : List ℕ) (netlist : Netlist) (c : Certificate) → ReadsNetlist netlist_text reading netlist
    → Spells c text → HaveVerdict netlist_text reading told_all text verdict.Accepted → Accepts netlist c
accepted_read netlist_text reading text netlist c reads spells have =
    let same : have.certificate ≡ c = (spells_once have.certificate c text text [] have.spells spells (sym (append-nil text))).0 in
    accepted_by_terms netlist_text reading netlist c reads (subst (λ (k : Certificate). HasVerdict netlist_text reading told_all k verdict.Accepted) same have.has)
  where
    told_of : (said : Said) (whole : Netlist) (c : Certificate) (numbers : Option (List ℕ)) → IsVerdictFor said whole c numbers verdict.Accepted → AreTold said c.question.terms
    told_of said whole c numbers (inl is) = is.1.2.0
    told_of said whole c numbers (inr is) = absurd (let no : verdict.Accepted ≡ verdict.OtherCircuit = is.1 in cc)

    default_same : (default : Delays) (outputs : Option (List ℕ)) (terms : Option Terms) → AreTold (said_by told_all default outputs) terms → default_for default terms ≡ default
    default_same default outputs None are = refl
    default_same default outputs (Some terms) are =
        let rise : terms.default.rise ≡ default.rise = are.0.0 refl in
        let fall : terms.default.fall ≡ default.fall = are.0.1 refl in
        ap₂ (λ (r f : ℕ). record { rise = r; fall = f }) rise fall

    outputs_same : (default : Delays) (outputs : Option (List ℕ)) (terms : Option Terms) → AreTold (said_by told_all default outputs) terms → outputs_for outputs terms ≡ outputs
    outputs_same default outputs None are = refl
    outputs_same default outputs (Some terms) are = are.1 refl

    accepted_by_terms : (netlist_text : List ℕ) (reading : Reading) (netlist : Netlist) (c : Certificate) → ReadsNetlist netlist_text reading netlist
        → HasVerdict netlist_text reading told_all c verdict.Accepted → Accepts netlist c
    accepted_by_terms netlist_text reading netlist c reads has =
        let said : Said = said_by told_all reading.default has.outputs in
        let are = told_of said has.whole c (outputs_for has.outputs c.question.terms) has.is in
        let default = default_same reading.default has.outputs c.question.terms are in
        let listed = outputs_same reading.default has.outputs c.question.terms are in
        let whole : reads.whole ≡ has.whole =
        one_netlist netlist_text reading.default reads.whole has.whole reads.means (subst (λ (d : Delays). Means netlist_text d has.whole) default has.means) in
        let asked = outputs_asked reads.whole reading.outputs netlist reads.asked in
        let named : asked.0 ≡ has.outputs =
        same_outputs has.whole reading.outputs asked.0 has.outputs (subst (λ (n : Netlist). AreOutputsIn n reading.outputs asked.0) whole asked.1) has.asked in
        let there : HasOutputs has.whole has.outputs netlist =
        subst (λ (o : Option (List ℕ)). HasOutputs has.whole o netlist) named (subst (λ (n : Netlist). HasOutputs n asked.0 netlist) whole asked.2) in
        (accepted_for said has.whole c (outputs_for has.outputs c.question.terms) netlist
        (subst (λ (o : Option (List ℕ)). HasOutputs has.whole o netlist) (sym listed) there) has.is).1

-- the netlist that an accepted certificate asks about, which has no loop
pub asked_by : (netlist_text : List ℕ) (reading : Reading) (told : Told) (text : List ℕ) → (have : HaveVerdict netlist_text reading told text verdict.Accepted)
    → (netlist : Netlist) × AsksAbout netlist_text reading have.certificate netlist × (¬ Loop netlist)
asked_by netlist_text reading told text have = go (outputs_for have.has.outputs have.certificate.question.terms) refl have.has.is
  where
    go : (numbers : Option (List ℕ)) → outputs_for have.has.outputs have.certificate.question.terms ≡ numbers
        → IsVerdictFor (said_by told reading.default have.has.outputs) have.has.whole have.certificate numbers verdict.Accepted
        → (netlist : Netlist) × AsksAbout netlist_text reading have.certificate netlist × (¬ Loop netlist)
    go numbers same (inl is) = (
      is.1.0,
      record {
        whole = have.has.whole;
        means = have.has.means;
        outputs = have.has.outputs;
        named = have.has.asked;
        has = subst (λ (o : Option (List ℕ)). HasOutputs have.has.whole o is.1.0) (sym same) is.1.1;
      },
      acyclic_too have.has.whole numbers is.1.0 is.1.1 have.has.acyclic,
    )
    go numbers same (inr is) = absurd (let no : verdict.Accepted ≡ verdict.OtherCircuit = is.1 in cc)
