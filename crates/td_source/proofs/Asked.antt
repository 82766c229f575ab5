-- Circuits that are asked about some of their outputs.
use Rattle.std.proofs.Common.{◌≡◌, ◌<◌, ◌≤◌, ◌+◌, ◌∙◌, ◌&&◌, ℕ, zero, suc, Bool, true, false, List, [], ◌∷◌, ◌++◌, length, take, map, get_or, refl, sym, ap, ap₂, subst, arith, inl, inr, slice_get, Option, Some, None, true≢false}
use Rattle.std.specs.Prelude.{◌↔◌, IsTrue, nat_lt}
use Rattle.std.specs.List.{Contains}
use Rattle.std.proofs.lemmas.Bool.{lt-ltb, ltb-true}
use Rattle.std.proofs.lemmas.List.{length-map, map-append}
use Rattle.td_gates.proofs.Places.{some-same, none-some, slice_get-some, slice_get-within, slice_get-Contains, get-slice_get, take_push}
use Rattle.td_nets.specs.declared.name.Name as code_name
use Rattle.td_nets.specs.Netlist.{Name, Net, Named, Netlist}
use Rattle.td_nets.specs.Views.{name_of}
use Rattle.td_nets.specs.WellFormed.{IsWellFormed}
use Rattle.td_nets.specs.Outputs.{with_outputs}
use Rattle.td_nets.proofs.Outputs.{formed_with}
use Rattle.td_circuit.specs.Loops.{Loop, LiesOnLoop}
use Rattle.td_circuit.specs.Numbering.{Numbered, nets, IsNumbering, CanBeAsked}
use Rattle.td_source.specs.Kept.{Rise, AreOutputs, AreAt, AreNumbers, HasOutputs}
use Rattle.td_source.specs.Places.{are_rising, nets_at}
use Rattle.td_source.proofs.Keeping.{kept_at, kept_can}
use Rattle.td_source.proofs.OutputNets.{output_at, output_named, output_count}
use Rattle.td_source.proofs.Rising.{none_in, at_head, in_tail, head_or_tail}

-- ---- numbers that rise

both_true : (this that : Bool) → (this && that) ≡ true → (this ≡ true) × (that ≡ true)
both_true true that e = (refl, e)
both_true false that e = absurd (true≢false (sym e))

pub rising_are : (count : ℕ) (numbers : List ℕ) → are_rising count numbers ≡ true → Rise numbers × ((number : ℕ) → Contains numbers number → number < count)
rising_are count [] e = (tt, λ number has. absurd (none_in number has))
rising_are count (this ∷ []) e = (
  ((λ other has. absurd (none_in other has)), tt),
  λ number has. elim (head_or_tail this [] number has) [
    | inl same ↦ subst (λ (n : ℕ). n < count) same (ltb-true this count e)
    | inr none ↦ absurd (none_in number none)
  ],
)
rising_are count (this ∷ that ∷ more) e =
    let parts = both_true (nat_lt this that) (are_rising count (that ∷ more)) e in
    let less : this < that = ltb-true this that parts.0 in
    let rest = rising_are count (that ∷ more) parts.1 in (
      (
        (λ other has. elim (head_or_tail that more other has) [
          | inl same ↦ subst (λ (n : ℕ). this < n) same less
          | inr later ↦ omega (arith, less, rest.0.0 other later)
        ]),
        rest.0,
      ),
      λ number has. elim (head_or_tail this (that ∷ more) number has) [
        | inl same ↦ subst (λ (n : ℕ). n < count) same (omega (arith, less, rest.1 that (at_head that more)))
        | inr later ↦ rest.1 number later
      ],
    )

pub are_rising_true : (count : ℕ) (numbers : List ℕ) → Rise numbers → ((number : ℕ) → Contains numbers number → number < count) → are_rising count numbers ≡ true
are_rising_true count [] rise within = refl
are_rising_true count (this ∷ []) rise within = lt-ltb this count (within this (at_head this []))
are_rising_true count (this ∷ that ∷ more) rise within =
    rw (lt-ltb this that (rise.0 that (at_head that more)))
    (are_rising_true count (that ∷ more) rise.1 (λ number has. within number (in_tail this (that ∷ more) number has)))

pub outputs_by : (netlist : Netlist) (numbers : List ℕ) (count : ℕ) (result : Bool) → result ≡ are_rising count numbers → count ≡ length netlist.outputs
    → IsTrue result ↔ AreOutputs netlist numbers
outputs_by netlist numbers count true e same = (
  (λ _. let are = rising_are count numbers (sym e) in
      record { rising = are.0; within = λ number has. subst (λ (n : ℕ). number < n) same (are.1 number has) }),
  λ _. refl,
)
outputs_by netlist numbers count false e same = (
  (λ no. absurd (true≢false (sym no))),
  λ are. absurd (true≢false
      (sym (are_rising_true count numbers are.rising (λ number has. subst (λ (n : ℕ). number < n) (sym same) (are.within number has))) ∙ sym e)),
)

-- ---- names and nets

-- beyond a list there is nothing to read
pub read_beyond : (xs : List ℕ) (i : ℕ) → length xs ≤ i → 0 ≡ get_or xs i 0
read_beyond [] i less = refl
read_beyond (x ∷ xs) zero less = absurd (omega (arith, less))
read_beyond (x ∷ xs) (suc i) less = read_beyond xs i (omega (arith, less))

-- the output with the number at a place of a list
pub record ChosenAt (circuit : Numbered) (numbers : List ℕ) (i : ℕ) (net : ℕ) : Type 0 where
  pub at : slice_get numbers i ≡ Some (get_or numbers i 0)
  pub is : net ≡ get_or circuit.outputs (get_or numbers i 0) 0
  pub within : get_or numbers i 0 < length circuit.outputs
  pub no_constant : 1 < net
  pub below : net < length (nets circuit)

pub chosen_at : (circuit : Numbered) → IsNumbering circuit → (numbers : List ℕ) (i : ℕ) (outputs : List ℕ) (net : ℕ) → AreOutputs circuit.netlist numbers
    → i < length numbers → outputs ≡ circuit.outputs → net ≡ get_or outputs (get_or numbers i 0) 0 → ChosenAt circuit numbers i net
chosen_at circuit numbering numbers i outputs net fit less same read =
    let at : slice_get numbers i ≡ Some (get_or numbers i 0) = get-slice_get numbers i 0 (get_or numbers i 0) less refl in
    let within : get_or numbers i 0 < length circuit.outputs =
    omega (arith, fit.within (get_or numbers i 0) (slice_get-Contains numbers i (get_or numbers i 0) at), output_count circuit numbering) in
    let is : net ≡ get_or circuit.outputs (get_or numbers i 0) 0 = read ∙ ap (λ (xs : List ℕ). get_or xs (get_or numbers i 0) 0) same in
    let out = output_at circuit numbering (get_or numbers i 0) within in
    record {
      at = at;
      is = is;
      within = within;
      no_constant = omega (arith, is, out.no_constant);
      below = omega (arith, is, out.within);
    }

pub names_more : (netlist : Netlist) (numbers : List ℕ) (i number : ℕ) (names new : List Name) (name : Name) → slice_get numbers i ≡ Some number
    → slice_get netlist.outputs number ≡ Some name → new ≡ names ++ name ∷ [] → AreAt netlist (take i numbers) names → AreAt netlist (take (i + 1) numbers) new
names_more netlist numbers i number names new name at stands added are =
    let next : i + 1 ≡ suc i = omega arith in
    rw (next, added, take_push numbers i number at)
    (map-append (λ (n : ℕ). slice_get netlist.outputs n) (take i numbers) (number ∷ [])
    ∙ ap₂ (λ xs x. xs ++ x ∷ []) are stands
    ∙ sym (map-append (λ (n : Name). Some n) names (name ∷ [])))

pub nets_more : (circuit : Numbered) (numbers : List ℕ) (i number : ℕ) (before new : List ℕ) (net : ℕ) → slice_get numbers i ≡ Some number
    → net ≡ get_or circuit.outputs number 0 → new ≡ before ++ net ∷ [] → before ≡ nets_at circuit (take i numbers) → new ≡ nets_at circuit (take (i + 1) numbers)
nets_more circuit numbers i number before new net at is added are =
    let next : i + 1 ≡ suc i = omega arith in
    rw (next, take_push numbers i number at)
    (added ∙ ap₂ (λ xs x. xs ++ x ∷ []) are is ∙ sym (map-append (λ (n : ℕ). get_or circuit.outputs n 0) (take i numbers) (number ∷ [])))

-- one more name
pub name_next : (circuit : Numbered) → IsNumbering circuit → (numbers : List ℕ) (i net : ℕ) → ChosenAt circuit numbers i net → (names new : List code_name.Name)
    → (name : code_name.Name) (found : Name) → slice_get (nets circuit) net ≡ Some (Named found) → name_of name ≡ found → new ≡ names ++ name ∷ []
    → AreAt circuit.netlist (take i numbers) (map name_of names) → AreAt circuit.netlist (take (i + 1) numbers) (map name_of new)
name_next circuit numbering numbers i net chosen names new name found at_net is added are =
    let number = get_or numbers i 0 in
    let net_is : slice_get (nets circuit) (get_or circuit.outputs (get_or numbers i 0) 0) ≡ Some (Named found) =
    subst (λ (n : ℕ). slice_get (nets circuit) n ≡ Some (Named found)) chosen.is at_net in
    let stands = output_named circuit numbering (get_or numbers i 0) chosen.within found net_is ∙ ap (λ (n : Name). Some n) (sym is) in
    names_more circuit.netlist numbers i (get_or numbers i 0) (map name_of names) (map name_of new) (name_of name) chosen.at stands
    (ap (map name_of) added ∙ map-append name_of names (name ∷ [])) are

-- what stands in a mapped list comes from what stands there
map_at : {A B : Type 0} (f : A → B) (xs : List A) (i : ℕ) (y : B) → slice_get (map f xs) i ≡ Some y → (x : A) × (slice_get xs i ≡ Some x) × (f x ≡ y)
map_at f [] i y at = absurd (none-some y at)
map_at f (x ∷ xs) zero y at = (x, refl, some-same (f x) y at)
map_at f (x ∷ xs) (suc i) y at = map_at f xs i y at

pub at_long : (netlist : Netlist) (numbers : List ℕ) (names : List Name) → AreAt netlist numbers names → length numbers ≡ length names
at_long netlist numbers names are =
    sym (length-map numbers (λ (n : ℕ). slice_get netlist.outputs n)) ∙ ap length are ∙ length-map names (λ (n : Name). Some n)

-- these names and nets can be the circuit's outputs
pub can_be_asked : (circuit : Numbered) (numbers : List ℕ) (names : List Name) (chosen : List ℕ) → IsNumbering circuit → AreOutputs circuit.netlist numbers
    → AreAt circuit.netlist numbers names → chosen ≡ nets_at circuit numbers → CanBeAsked circuit names chosen
can_be_asked circuit numbers names chosen numbering fit are is = record {
  outputs = kept_can circuit.netlist numbers names numbering.well_formed fit.rising are;
  named = record {
    count = ap length is ∙ length-map numbers (λ (n : ℕ). get_or circuit.outputs n 0) ∙ at_long circuit.netlist numbers names are
        ∙ sym (length-map names (λ (n : Name). Named n));
    each = λ i number net at_number at_net.
        let from = map_at (λ (n : ℕ). get_or circuit.outputs n 0) numbers i number (subst (λ (ns : List ℕ). slice_get ns i ≡ Some number) is at_number) in
        let named = map_at (λ (n : Name). Named n) names i net at_net in
        let kept = kept_at circuit.netlist numbers names i named.0 are named.1 in
        let same : kept.0 ≡ from.0 = some-same kept.0 from.0 (sym kept.1 ∙ from.1) in
        let stands : slice_get circuit.netlist.outputs from.0 ≡ Some named.0 = subst (λ (p : ℕ). slice_get circuit.netlist.outputs p ≡ Some named.0) same kept.2 in
        let within : from.0 < length circuit.outputs =
        omega (arith, slice_get-some circuit.netlist.outputs from.0 named.0 stands, numbering.outputs.count, length-map circuit.netlist.outputs (λ (n : Name). Named n)) in
        let out = output_at circuit numbering from.0 within in
        let name : out.name ≡ named.0 = some-same out.name named.0 (sym out.at ∙ stands) in
        subst (λ (k : ℕ). slice_get (nets circuit) k ≡ Some net) from.2 (out.net ∙ ap (λ (n : Name). Some (Named n)) name ∙ ap (λ (n : Net). Some n) named.2);
  };
}

-- ---- netlists with these outputs

names_at : (netlist : Netlist) (numbers : List ℕ) → ((number : ℕ) → Contains numbers number → number < length netlist.outputs)
    → (names : List Name) × AreAt netlist numbers names
names_at netlist [] within = ([], refl)
names_at netlist (number ∷ numbers) within =
    let here = slice_get-within netlist.outputs number (within number (at_head number numbers)) in
    let later = names_at netlist numbers (λ other has. within other (in_tail number numbers other has)) in
    (here.0 ∷ later.0, ap₂ (λ x xs. x ∷ xs) here.1 later.1)

pub outputs_exist : (whole : Netlist) (numbers : Option (List ℕ)) → AreNumbers whole numbers → (netlist : Netlist) × HasOutputs whole numbers netlist
outputs_exist whole None fit = (whole, refl)
outputs_exist whole (Some numbers) fit =
    let names = names_at whole numbers fit.within in
    (with_outputs whole names.0, (names.0, names.1, refl))

abbrev loop_with : (whole : Netlist) (names : List Name) → Loop whole → Loop (with_outputs whole names)
loop_with whole names loop = record { first = loop.first; others = loop.others; of_netlist = loop.of_netlist; closes = loop.closes }

abbrev loop_without : (whole : Netlist) (names : List Name) → Loop (with_outputs whole names) → Loop whole
loop_without whole names loop = record { first = loop.first; others = loop.others; of_netlist = loop.of_netlist; closes = loop.closes }

-- its outputs make no loop of a netlist
pub lies_too : (whole : Netlist) (numbers : Option (List ℕ)) (netlist : Netlist) (name : Name) → HasOutputs whole numbers netlist → LiesOnLoop whole name → LiesOnLoop netlist name
lies_too whole None netlist name has lies = subst (λ (n : Netlist). LiesOnLoop n name) (sym has) lies
lies_too whole (Some numbers) netlist name has lies =
    subst (λ (n : Netlist). LiesOnLoop n name) (sym has.2) (loop_with whole has.0 lies.0, lies.1, lies.2, lies.3)

pub acyclic_too : (whole : Netlist) (numbers : Option (List ℕ)) (netlist : Netlist) → HasOutputs whole numbers netlist → (¬ Loop whole) → ¬ Loop netlist
acyclic_too whole None netlist has acyclic loop = acyclic (subst (λ (n : Netlist). Loop n) has loop)
acyclic_too whole (Some numbers) netlist has acyclic loop = acyclic (loop_without whole has.0 (subst (λ (n : Netlist). Loop n) has.2 loop))

pub acyclic_whole : (whole : Netlist) (numbers : Option (List ℕ)) (netlist : Netlist) → HasOutputs whole numbers netlist → (¬ Loop netlist) → ¬ Loop whole
acyclic_whole whole None netlist has acyclic loop = acyclic (subst (λ (n : Netlist). Loop n) (sym has) loop)
acyclic_whole whole (Some numbers) netlist has acyclic loop = acyclic (subst (λ (n : Netlist). Loop n) (sym has.2) (loop_with whole has.0 loop))

-- and it is as well-formed
pub formed_too : (whole : Netlist) (numbers : Option (List ℕ)) (netlist : Netlist) → IsWellFormed whole → AreNumbers whole numbers → HasOutputs whole numbers netlist
    → IsWellFormed netlist
formed_too whole None netlist formed fit has = subst (λ (n : Netlist). IsWellFormed n) (sym has) formed
formed_too whole (Some numbers) netlist formed fit has =
    subst (λ (n : Netlist). IsWellFormed n) (sym has.2)
    (formed_with whole has.0 formed (kept_can whole numbers has.0 formed fit.rising has.1))
