-- How many inputs of each gate are at 1, as nets turn.
use Rattle.std.proofs.Common.{◌≡◌, ◌≢◌, ℕ, suc, ◌+◌, ◌-◌, ◌^◌, ◌<◌, ◌≤◌, Bool, true, false, List, [], ◌∷◌, ◌++◌, length, take, get_or, set, refl, arith, ◌⊎◌, inl, inr, sym, ap, ◌∙◌, add-one, Some, length-set, get_or-set_same, get_or-set_other}
use Rattle.std.specs.Prelude.{slice_get, cond, not, count_by, ◌==◌, ◌%◌, ◌&&◌, ◌||◌}
use Rattle.std.specs.List.{All, list_any, list_all}
use Rattle.std.proofs.Math.Seq.{take-suc}
use Rattle.std.proofs.lemmas.Bool.{cases_eq, eq-eqb, ne_eqb}
use Rattle.std.proofs.lemmas.List.Recursion.{is_count_by}
use Rattle.std.proofs.lemmas.List.Sums.{count_by-le-length}
use Rattle.td_gates.specs.declared.primitives.Kind.{Kind}
use Rattle.td_gates.specs.declared.primitives.Kind.TheVariants.{And, Nand, Or, Nor, Xor, Xnor, Buf, Not}
use Rattle.td_gates.proofs.Places.{slice_get-some, slice_get-get}
use Rattle.td_gates.proofs.OutcomeLaws.{not-not}
use Rattle.td_circuit.specs.Numbering.{NumberedGate, Numbered, first_output, IsNumbering}
use Rattle.td_circuit.proofs.Nets.{few-at, lower-at}
use Rattle.td_event_sim.specs.Bits.{bit_at, target_of}
use Rattle.td_event_sim.specs.Rules.{target_by}
use Rattle.td_event_sim.specs.Counting.{times, AreCounted, AreNarrow, recounted, AreRecounted, StayCounted}

abbrev pub counted : (ℕ → Bool) → List ℕ → ℕ
counted f [] = 0
counted f (input ∷ inputs) = cond (f input) (1 + counted f inputs) (counted f inputs)

count-is : (f : ℕ → Bool) (inputs : List ℕ) → counted f inputs ≡ count_by f inputs
count-is f inputs = is_count_by (counted f) f refl (λ x xs. refl) inputs

-- ---- a target by the count
count-short : (f : ℕ → Bool) (inputs : List ℕ) → counted f inputs ≤ length inputs
count-short f inputs = rw (count-is f inputs) (count_by-le-length f inputs)

all_step : (bit all : Bool) (ones long : ℕ) → ones ≤ long → (ones == long) ≡ all → (cond bit (1 + ones) ones == suc long) ≡ (bit && all)
all_step true all ones long short is = elim (cases_eq ones long) [
  | inl same ↦ eq-eqb (1 + ones) (suc long) (omega arith) ∙ sym (eq-eqb ones long same) ∙ is
  | inr apart ↦ ne_eqb (1 + ones) (suc long) (λ e. apart (omega arith)) ∙ sym (ne_eqb ones long apart) ∙ is
]
all_step false all ones long short is = ne_eqb ones (suc long) (λ e. omega arith)

all-by : (f : ℕ → Bool) (inputs : List ℕ) → (counted f inputs == length inputs) ≡ list_all f inputs
all-by f [] = refl
all-by f (input ∷ inputs) = all_step (f input) (list_all f inputs) (counted f inputs) (length inputs) (count-short f inputs) (all-by f inputs)

any_step : (bit any : Bool) (ones : ℕ) → not (ones == 0) ≡ any → not (cond bit (1 + ones) ones == 0) ≡ (bit || any)
any_step true any ones is = ap not (ne_eqb (1 + ones) 0 (λ e. omega arith))
any_step false any ones is = is

any-by : (f : ℕ → Bool) (inputs : List ℕ) → not (counted f inputs == 0) ≡ list_any f inputs
any-by f [] = refl
any-by f (input ∷ inputs) = any_step (f input) (list_any f inputs) (counted f inputs) (any-by f inputs)

by-counted : (kind : Kind) (levels : List Bool) (inputs : List ℕ) → target_by kind (length inputs) (counted (bit_at levels) inputs) ≡ target_of kind levels inputs
by-counted And levels inputs = all-by (bit_at levels) inputs
by-counted Nand levels inputs = ap not (all-by (bit_at levels) inputs)
by-counted Or levels inputs = any-by (bit_at levels) inputs
by-counted Nor levels inputs = sym (not-not (counted (bit_at levels) inputs == 0)) ∙ ap not (any-by (bit_at levels) inputs)
by-counted Xor levels inputs = ap (λ (n : ℕ). n % 2 == 1) (count-is (bit_at levels) inputs)
by-counted Xnor levels inputs = ap (λ (n : ℕ). not (n % 2 == 1)) (count-is (bit_at levels) inputs)
by-counted Buf levels inputs = all-by (bit_at levels) inputs
by-counted Not levels inputs = ap not (all-by (bit_at levels) inputs)

pub target-by : (kind : Kind) (levels : List Bool) (inputs : List ℕ) (ones : ℕ) → ones ≡ count_by (bit_at levels) inputs
    → target_by kind (length inputs) ones ≡ target_of kind levels inputs
target-by kind levels inputs ones is = ap (target_by kind (length inputs)) (is ∙ sym (count-is (bit_at levels) inputs)) ∙ by-counted kind levels inputs

-- ---- a net that is at 1 by one and at 0 by the other
more_step : (low high here : Bool) (fewer more listed : ℕ) → more ≡ fewer + listed
    → (low ≡ false) × (high ≡ true) × (here ≡ true) ⊎ (high ≡ low) × (here ≡ false)
    → cond high (1 + more) more ≡ cond low (1 + fewer) fewer + cond here (1 + listed) listed
more_step low high here fewer more listed is (inl at_net) = rw (at_net.0, at_net.1, at_net.2) (omega arith)
more_step true high here fewer more listed is (inr off) = rw (off.0, off.1) (omega arith)
more_step false high here fewer more listed is (inr off) = rw (off.0, off.1) (omega arith)

more-times : (f g : ℕ → Bool) (net : ℕ) → f net ≡ false → g net ≡ true → ((other : ℕ) → other ≢ net → g other ≡ f other)
    → (inputs : List ℕ) → counted g inputs ≡ counted f inputs + times net inputs
more-times f g net low high same [] = refl
more-times f g net low high same (input ∷ inputs) = more_step (f input) (g input) (input == net) (counted f inputs) (counted g inputs) (times net inputs)
    (more-times f g net low high same inputs)
    (elim (cases_eq input net) [
      | inl here ↦ inl (rw here low, rw here high, eq-eqb input net here)
      | inr apart ↦ inr (same input apart, ne_eqb input net apart)
    ])

-- ---- a list of readers, one after another
pub times-append : (number : ℕ) (front : List ℕ) (last : ℕ) → times number (front ++ last ∷ []) ≡ times number front + cond (last == number) 1 0
times-append number [] last = one (last == number)
  where
    one : (bit : Bool) → cond bit (1 + 0) 0 ≡ 0 + cond bit 1 0
    one true = refl
    one false = refl
times-append number (first ∷ front) last = more (first == number) _ _ _ (times-append number front last)
  where
    more : (bit : Bool) (a b c : ℕ) → a ≡ b + c → cond bit (1 + a) a ≡ cond bit (1 + b) b + c
    more true a b c is = omega arith
    more false a b c is = is

pub times-more : (number : ℕ) (items : List ℕ) (k : ℕ) → k < length items
    → times number (take (k + 1) items) ≡ times number (take k items) + cond (get_or items k 0 == number) 1 0
times-more number items k h = ap (times number) (rw add-one (take-suc items k 0 h)) ∙ times-append number (take k items) (get_or items k 0)

recounted-none : (rises : Bool) (ones : ℕ) → ones < 2 ^ 32 → recounted rises 0 ones ≡ ones
recounted-none true ones small = omega arith
recounted-none false ones small = omega arith

recounted-next : (rises : Bool) (inputs ones : ℕ) → recounted rises 1 (recounted rises inputs ones) ≡ recounted rises (inputs + 1) ones
recounted-next true inputs ones = omega arith
recounted-next false inputs ones = omega arith

recounted-same : (rises : Bool) (inputs ones : ℕ) → recounted rises (inputs + 0) ones ≡ recounted rises inputs ones
recounted-same rises inputs ones = ap (λ n. recounted rises n ones) (omega arith)

pub recount-begun : (first : ℕ) (readers : List ℕ) (rises : Bool) (ones : List ℕ) → AreRecounted first (take 0 readers) rises ones ones
recount-begun first readers rises ones = record {
  count = refl;
  each = λ place h small. sym (recounted-none rises (get_or ones place 0) small);
}

pub recount-more : (first : ℕ) (readers : List ℕ) (k : ℕ) (rises : Bool) (ones now : List ℕ) (place : ℕ) → k < length readers
    → first ≤ get_or readers k 0 → place ≡ get_or readers k 0 - first → place < length ones
    → AreRecounted first (take k readers) rises ones now
    → AreRecounted first (take (k + 1) readers) rises ones (set now place (recounted rises 1 (get_or now place 0)))
recount-more first readers k rises ones now place h above is within all = record {
  count = length-set now place (recounted rises 1 (get_or now place 0)) ∙ all.count;
  each = λ other inside small. elim (cases_eq other place) [
    | inl here ↦
        let fits : get_or ones place 0 < 2 ^ 32 = rw here at small in
        let listed : times (first + place) (take (k + 1) readers) ≡ times (first + place) (take k readers) + 1 =
        times-more (first + place) readers k h
        ∙ ap (λ (b : Bool). times (first + place) (take k readers) + cond b 1 0) (eq-eqb (get_or readers k 0) (first + place) (omega arith)) in
        rw (here, listed, get_or-set_same now place (recounted rises 1 (get_or now place 0)) 0 (omega (arith, all.count)), all.each place within fits)
        (recounted-next rises (times (first + place) (take k readers)) (get_or ones place 0))
    | inr apart ↦
        let listed : times (first + other) (take (k + 1) readers) ≡ times (first + other) (take k readers) + 0 =
        times-more (first + other) readers k h
        ∙ ap (λ (b : Bool). times (first + other) (take k readers) + cond b 1 0) (ne_eqb (get_or readers k 0) (first + other) (λ e. apart (omega arith))) in
        get_or-set_other now place other (recounted rises 1 (get_or now place 0)) 0 apart ∙ all.each other inside small
        ∙ sym (ap (λ (n : ℕ). recounted rises n (get_or ones other 0)) listed ∙ recounted-same rises (times (first + other) (take k readers)) (get_or ones other 0))
  ];
}

-- ---- a net that turns
turned-one : (first place net : ℕ) (bit : Bool) (gate : NumberedGate) (levels : List Bool) (ones new_ones : ℕ) → net < length levels → bit ≡ bit_at levels net
    → length gate.inputs ≤ 1023 → ones ≡ count_by (bit_at levels) gate.inputs → new_ones ≡ recounted (not bit) (times net gate.inputs) ones
    → new_ones ≡ count_by (bit_at (set levels net (not bit))) gate.inputs
turned-one first place net true gate levels ones new_ones inside is narrow was now =
    let set_is : bit_at (set levels net false) net ≡ false = get_or-set_same levels net false false inside in
    let more : counted (bit_at levels) gate.inputs ≡ counted (bit_at (set levels net false)) gate.inputs + times net gate.inputs =
    more-times (bit_at (set levels net false)) (bit_at levels) net set_is (sym is) (λ other apart. sym (get_or-set_other levels net other false false apart)) gate.inputs in
    let before = count-is (bit_at levels) gate.inputs in
    let after = count-is (bit_at (set levels net false)) gate.inputs in
    let short = count-short (bit_at levels) gate.inputs in
    omega arith
turned-one first place net false gate levels ones new_ones inside is narrow was now =
    let set_is : bit_at (set levels net true) net ≡ true = get_or-set_same levels net true false inside in
    let more : counted (bit_at (set levels net true)) gate.inputs ≡ counted (bit_at levels) gate.inputs + times net gate.inputs =
    more-times (bit_at levels) (bit_at (set levels net true)) net (sym is) set_is (λ other apart. get_or-set_other levels net other true false apart) gate.inputs in
    let before = count-is (bit_at levels) gate.inputs in
    let after = count-is (bit_at (set levels net true)) gate.inputs in
    let short = count-short (bit_at (set levels net true)) gate.inputs in
    omega arith

pub turned-counted : (first net : ℕ) (readers : List (List ℕ)) (levels : List Bool) (ones new_ones : List ℕ) → net < length levels
    → AreRecounted first (get_or readers net []) (not (bit_at levels net)) ones new_ones
    → StayCounted first readers levels (set levels net (not (bit_at levels net))) ones new_ones
turned-counted first net readers levels ones new_ones inside all gates listed narrow long was place gate at_place =
    let within = slice_get-some gates place gate at_place in
    let few = narrow place gate at_place in
    let ones_are = was place gate at_place in
    let short = count_by-le-length (bit_at levels) gate.inputs in
    turned-one first place net (bit_at levels net) gate levels (get_or ones place 0) (get_or new_ones place 0) inside refl few ones_are
    (all.each place (omega (arith, long)) (omega arith) ∙ ap (λ (n : ℕ). recounted (not (bit_at levels net)) n (get_or ones place 0)) (listed place gate net at_place))

pub then-counted : (first : ℕ) (readers : List (List ℕ)) (levels middle_levels new_levels : List Bool) (ones middle new_ones : List ℕ) → length middle ≡ length ones
    → StayCounted first readers levels middle_levels ones middle → StayCounted first readers middle_levels new_levels middle new_ones
    → StayCounted first readers levels new_levels ones new_ones
then-counted first readers levels middle_levels new_levels ones middle new_ones same before after gates listed narrow long was =
    after gates listed narrow (omega arith) (before gates listed narrow long was)

pub all-narrow : (circuit : Numbered) → IsNumbering circuit → AreNarrow circuit.gates
all-narrow circuit numbering place gate at_place = few-at circuit numbering place gate at_place

-- ---- the counts of the gates before a place
abbrev pub AreCountedTo : List NumberedGate → ℕ → List Bool → List ℕ → Type 0
AreCountedTo gates end levels ones = (place : ℕ) (gate : NumberedGate) → place < end → slice_get gates place ≡ Some gate
    → get_or ones place 0 ≡ count_by (bit_at levels) gate.inputs

-- counts don't change where no input is written
count-above : (levels : List Bool) (inputs : List ℕ) (net : ℕ) (bit : Bool) → All (λ input. input < net) inputs
    → counted (bit_at (set levels net bit)) inputs ≡ counted (bit_at levels) inputs
count-above levels [] net bit below = refl
count-above levels (input ∷ inputs) net bit below =
    let here : input < net = below 0 0 (omega arith) in
    let same : bit_at (set levels net bit) input ≡ bit_at levels input = get_or-set_other levels net input bit false (λ e. omega arith) in
    rw (same, count-above levels inputs net bit (λ k d h. below (suc k) d (omega arith))) refl

pub counted-more : (circuit : Numbered) (place : ℕ) (levels : List Bool) (ones : List ℕ) (gate : NumberedGate) (bit : Bool) (count : ℕ) → IsNumbering circuit
    → slice_get circuit.gates place ≡ Some gate → place < length ones → count ≡ count_by (bit_at levels) gate.inputs → AreCountedTo circuit.gates place levels ones
    → AreCountedTo circuit.gates (place + 1) (set levels (first_output circuit + place) bit) (set ones place count)
counted-more circuit place levels ones gate bit count numbering at_place inside is all other at_gate below at_other =
    let net : ℕ = first_output circuit + place in
    let lower = lower-at circuit numbering other at_gate at_other in
    let kept : count_by (bit_at (set levels net bit)) at_gate.inputs ≡ count_by (bit_at levels) at_gate.inputs =
    sym (count-is (bit_at (set levels net bit)) at_gate.inputs)
    ∙ count-above levels at_gate.inputs net bit (λ k d h. (let low : get_or at_gate.inputs k d < first_output circuit + other = lower k d h in omega arith))
    ∙ count-is (bit_at levels) at_gate.inputs in
    elim (cases_eq other place) [
      | inl now ↦
          let same : at_gate ≡ gate = sym (slice_get-get circuit.gates other at_gate gate at_other) ∙ slice_get-get circuit.gates other gate gate (rw now at_place) in
          ap (λ (n : ℕ). get_or (set ones place count) n 0) now ∙ get_or-set_same ones place count 0 inside ∙ is
          ∙ ap (λ (g : NumberedGate). count_by (bit_at levels) g.inputs) (sym same) ∙ sym kept
      | inr apart ↦ get_or-set_other ones place other count 0 apart ∙ all other at_gate (omega arith) at_other ∙ sym kept
    ]

pub counted-all : (gates : List NumberedGate) (end : ℕ) (levels : List Bool) (ones : List ℕ) → length gates ≤ end → AreCountedTo gates end levels ones → AreCounted gates levels ones
counted-all gates end levels ones past all place gate at_place = all place gate (omega (arith, slice_get-some gates place gate at_place)) at_place
