-- The first output of a name, and the one netlist that is read of a text.
use Rattle.std.proofs.Common.{◌≡◌, ◌≢◌, ◌≤◌, ◌+◌, ◌∙◌, ℕ, List, [], ◌∷◌, length, map, refl, sym, ap, ap₂, subst, arith, inl, inr, slice_get, Option, Some}
use Rattle.std.proofs.lemmas.Bool.{cases_eq, cases_lt}
use Rattle.td_gates.proofs.Places.{some-same, slice_get-some, Contains-slice_get}
use Rattle.td_nets.specs.Netlist.{Name, Netlist}
use Rattle.td_nets.specs.Outputs.{with_outputs}
use Rattle.td_nets.specs.Printed.{printed}
use Rattle.td_netlist.specs.declared.fault.Fault.{Fault}
use Rattle.td_netlist.specs.declared.fault.FaultKind.TheVariants as kind
use Rattle.td_netlist.specs.NameFaults.{IsFaultIn}
use Rattle.td_netlist.specs.Means.{Means}
use Rattle.td_netlist.proofs.Readings.{one_netlist}
use Rattle.td_reading.specs.declared.reading.Reading.{Reading}
use Rattle.td_source.specs.declared.fault.SourceFault.{SourceFault}
use Rattle.td_source.specs.Faults.{IsOfFault, IsSourceFault}
use Rattle.td_source.specs.Kept.{HasOutputsAt}
use Rattle.td_source.specs.Reads.{NoneBefore, IsFirstNamed, HasNoneNamed, ArePlaces, IsAskedAbout, ReadsOne, AreOutputsIn, AreOutputsOf}
use Rattle.td_source.proofs.Rising.{rise_same}

-- one more output that isn't printed so
pub none_next : (netlist : Netlist) (word : List ℕ) (count : ℕ) (name : Name) → slice_get netlist.outputs count ≡ Some name
    → printed name ≢ word → NoneBefore netlist word count → NoneBefore netlist word (count + 1)
none_next netlist word count name at other none place output less at_place = elim (cases_eq place count) [
  | inl same ↦
      let equal : output ≡ name = some-same output name (sym at_place ∙ ap (slice_get netlist.outputs) same ∙ at) in
      λ spelled. other (ap printed (sym equal) ∙ spelled)
  | inr earlier ↦ none place output (omega (arith, less, earlier)) at_place
]

pub none_named : (netlist : Netlist) (word : List ℕ) (count : ℕ) → length netlist.outputs ≤ count → NoneBefore netlist word count → HasNoneNamed netlist word
none_named netlist word count all none output stands =
    let place = Contains-slice_get netlist.outputs output stands in
    none place.0 output (omega (arith, slice_get-some netlist.outputs place.0 output place.1, all)) place.1

-- two first outputs of one name stand at one place
pub one_place : (netlist : Netlist) (word : List ℕ) (i j : ℕ) → IsFirstNamed netlist word i → IsFirstNamed netlist word j → i ≡ j
one_place netlist word i j p q = elim (cases_lt i j) [
  | inl less ↦ absurd (q.first i p.output less p.stands p.named)
  | inr high ↦ elim (cases_lt j i) [
    | inl more ↦ absurd (p.first j q.output more q.stands q.named)
    | inr low ↦ omega (arith, high, low)
  ]
]

-- words name the outputs at the same places
same_places : (netlist : Netlist) (words : List (List ℕ)) (one other : List ℕ) → ArePlaces netlist words one → ArePlaces netlist words other → one ≡ other
same_places netlist words one other p q =
    rise_same one other p.rising q.rising (λ place. ((λ has. (q.named place).1 ((p.named place).0 has)), (λ has. (p.named place).1 ((q.named place).0 has))))

some_same : (one other : List Name) → map (λ name. Some name) one ≡ map (λ name. Some name) other → one ≡ other
some_same [] [] e = refl
some_same [] (name ∷ names) e = absurd cc
some_same (name ∷ names) [] e = absurd cc
some_same (name ∷ names) (other ∷ others) e =
    let same : name ≡ other = cc in
    let later : map (λ name. Some name) names ≡ map (λ name. Some name) others = cc in
    ap₂ (λ x xs. x ∷ xs) same (some_same names others later)

-- a netlist with outputs of these numbers is one alone
pub same_kept : (whole : Netlist) (places : List ℕ) (one other : Netlist) → HasOutputsAt whole places one → HasOutputsAt whole places other → one ≡ other
same_kept whole places one other p q = p.2 ∙ ap (with_outputs whole) (some_same p.0 q.0 (sym p.1 ∙ q.1)) ∙ sym q.2

one_asked : (whole : Netlist) (words : List (List ℕ)) (one other : Netlist) → IsAskedAbout whole words one → IsAskedAbout whole words other → one ≡ other
one_asked whole [] one other p q = p ∙ sym q
one_asked whole (word ∷ words) one other p q =
    same_kept whole q.0 one other
    (subst (λ (places : List ℕ). HasOutputsAt whole places one) (same_places whole (word ∷ words) p.0 q.0 p.1 q.1) p.2) q.2

pub same_outputs : (whole : Netlist) (words : List (List ℕ)) (one other : Option (List ℕ)) → AreOutputsIn whole words one → AreOutputsIn whole words other → one ≡ other
same_outputs whole [] one other p q = p ∙ sym q
same_outputs whole (word ∷ words) one other p q =
    p.1 ∙ ap (λ (places : List ℕ). Some places) (same_places whole (word ∷ words) p.0 q.0 p.2 q.2) ∙ sym q.1

-- a reading of a text asks about one list of outputs at most
pub one_list : (text : List ℕ) (reading : Reading) (one other : Option (List ℕ)) → AreOutputsOf text reading one → AreOutputsOf text reading other → one ≡ other
one_list text reading one other p q =
    let same : p.whole ≡ q.whole = one_netlist text reading.default p.whole q.whole p.means q.means in
    same_outputs q.whole reading.outputs one other (subst (λ (whole : Netlist). AreOutputsIn whole reading.outputs one) same p.are) q.are

pub reads_one : ReadsOne
reads_one text reading one other p q =
    let same : p.whole ≡ q.whole = one_netlist text reading.default p.whole q.whole p.means q.means in
    one_asked q.whole reading.outputs one other (subst (λ (whole : Netlist). IsAskedAbout whole reading.outputs one) same p.asked) q.asked

-- what a fault of the reader is to whoever asked for a circuit
pub refused_fits : (text : List ℕ) (reading : Reading) (reported : Fault) (refused : SourceFault) → IsOfFault reported refused
    → ((netlist : Netlist) → Means text reading.default netlist → reported.kind ≡ kind.OutOfMemory)
    → IsFaultIn text reported.kind reported.line → IsSourceFault text reading refused
refused_fits text reading reported refused is only has =
    let P : SourceFault → Type 0 = λ r. IsSourceFault text reading r in
    elim is [
      | inl memory ↦ subst P (sym memory) tt
      | inr other ↦ subst P (sym other.1) (record { reported = other.0; means_none = λ netlist means. other.0 (only netlist means); has = has })
    ]
