-- The output that changes last.
use Rattle.std.proofs.Common.{◌≡◌, ℕ, zero, suc, ◌<◌, ◌≤◌, List, [], ◌∷◌, map, max, refl, arith, ◌∙◌, sym, ap, ◌⊎◌, inl, inr, Some, None}
use Rattle.std.specs.Prelude.{slice_get, unwrap_or, Option, Result, Ok, Err, IfOk}
use Rattle.std.specs.List.{Contains}
use Rattle.std.specs.Global.{Vec}
use Rattle.std.proofs.lemmas.Bool.{cases_lt}
use Rattle.td_gates.specs.declared.primitives.Level.TheVariants.{X}
use Rattle.td_gates.specs.Wave.{Wave, last}
use Rattle.td_gates.proofs.Places.{none-some, slice_get-some, slice_get-within, slice_get-Contains, Contains-slice_get, slice_get-map_some, map-fuse}
use Rattle.td_nets.specs.Netlist.{Name, Named}
use Rattle.td_circuit.specs.Numbering.{Numbered, nets, IsNumbering}
use Rattle.td_circuit.specs.Run.{latest_change}
use Rattle.td_circuit.specs.NetValues.{net_wave}
use Rattle.td_circuit.proofs.Values.{named-numbers}
use Rattle.std.proofs.lemmas.List.{length-map}
use Rattle.td_run.specs.Waves.{constant, waves_of}
use Rattle.td_run.specs.Runs.{NetWaves}
use Rattle.td_path.specs.declared.links.Link as code
use Rattle.td_path.specs.Chains.{IsRunFor, Explains, IsLatest, ExplainsLatest}
use Rattle.td_path.specs.Walks.{wave_at, IsFirstAt}
use Rattle.td_path.proofs.Lasts.{none_changes}
use Rattle.td_path.proofs.Numbers.{net_at-is, named_wave}

-- one of the nets changes last at this moment
record Attains (waves : List Wave) (numbers : List ℕ) (moment : ℕ) : Type 0 where
  number : ℕ
  has : Contains numbers number
  is_last : last (wave_at waves number) ≡ Some moment

abbrev NoneChanges : List Wave → List ℕ → Type 0
NoneChanges waves numbers = (number : ℕ) → Contains numbers number → last (wave_at waves number) ≡ None

later : {A : Type 0} (x y : A) (xs : List A) → Contains xs y → Contains (x ∷ xs) y
later x y xs has = let here = Contains-slice_get xs y has in slice_get-Contains (x ∷ xs) (suc here.0) y here.1

first_of : {A : Type 0} (x : A) (xs : List A) → Contains (x ∷ xs) x
first_of x xs = slice_get-Contains (x ∷ xs) 0 x refl

never_none : (waves : List Wave) (numbers : List ℕ) → NoneChanges waves numbers → latest_change (waves_of waves numbers) ≡ 0
never_none waves [] none = refl
never_none waves (n ∷ numbers) none =
    let rest = never_none waves numbers (λ number has. none number (later n number numbers has)) in
    let here = none n (first_of n numbers) in
    rw (here, rest) refl

cases_last : (o : Option ℕ) → (o ≡ None) ⊎ ((m : ℕ) × (o ≡ Some m))
cases_last None = inl refl
cases_last (Some m) = inr (m, refl)

cases_cons : {A : Type 0} (P : A → Type 0) (x : A) (xs : List A) → P x → ((y : A) → Contains xs y → P y)
    → (y : A) → Contains (x ∷ xs) y → P y
cases_cons P x xs head tail y (zero, below, is) = rw (← is) head
cases_cons P x xs head tail y (suc k, below, is) = tail y (k, omega arith, is)

attained : (waves : List Wave) (numbers : List ℕ)
    → Attains waves numbers (latest_change (waves_of waves numbers)) ⊎ NoneChanges waves numbers
attained waves [] = inr (λ number has. absurd (omega (arith, has.1)))
attained waves (n ∷ numbers) = elim (cases_last (last (wave_at waves n))) [
  | inl none ↦ elim (attained waves numbers) [
    | inl rest ↦ inl (record {
      number = rest.number;
      has = later n rest.number numbers rest.has;
      is_last = rest.is_last ∙ ap (λ m. Some m) (same_max none);
    })
    | inr all ↦ inr (cases_cons (λ number. last (wave_at waves number) ≡ None) n numbers none all)
  ]
  | inr some ↦ elim (cases_lt some.0 (latest_change (waves_of waves numbers))) [
    | inr least ↦ inl (record {
      number = n;
      has = first_of n numbers;
      is_last = some.1 ∙ ap (λ m. Some m) (sym (own_max some.0 some.1 least));
    })
    | inl more ↦ elim (attained waves numbers) [
      | inl rest ↦ inl (record {
        number = rest.number;
        has = later n rest.number numbers rest.has;
        is_last = rest.is_last ∙ ap (λ m. Some m) (sym (other_max some.0 some.1 more));
      })
      | inr all ↦ absurd (let nothing = never_none waves numbers all in omega arith)
    ]
  ]
]
  where
    same_max : last (wave_at waves n) ≡ None → latest_change (waves_of waves numbers) ≡ max (unwrap_or (last (wave_at waves n)) 0) (latest_change (waves_of waves numbers))
    same_max none = rw none (omega arith)

    own_max : (m : ℕ) → last (wave_at waves n) ≡ Some m → latest_change (waves_of waves numbers) ≤ m
        → max (unwrap_or (last (wave_at waves n)) 0) (latest_change (waves_of waves numbers)) ≡ m
    own_max m is least = rw is (omega arith)

    other_max : (m : ℕ) → last (wave_at waves n) ≡ Some m → m < latest_change (waves_of waves numbers)
        → max (unwrap_or (last (wave_at waves n)) 0) (latest_change (waves_of waves numbers)) ≡ latest_change (waves_of waves numbers)
    other_max m is more = rw is (omega arith)

module _ (circuit : Numbered) (run : NetWaves) (numbering : IsNumbering circuit) (is : IsRunFor circuit run) where
  outputs_are : map (λ name. net_wave (nets circuit) run.waves (Named name)) circuit.netlist.outputs ≡ waves_of run.waves circuit.outputs
  outputs_are =
      sym (map-fuse (λ name. Named name) (net_wave (nets circuit) run.waves) circuit.netlist.outputs)
      ∙ named-numbers (constant X) (net_wave (nets circuit) run.waves) (nets circuit) run.waves circuit.outputs
      (map (λ name. Named name) circuit.netlist.outputs) numbering.outputs (λ number net at_number. named_wave circuit run numbering is number net at_number)

  -- the number of an output
  number_of : (place : ℕ) (name : Name) → slice_get circuit.netlist.outputs place ≡ Some name
      → (number : ℕ) × (slice_get circuit.outputs place ≡ Some number) × (slice_get (nets circuit) number ≡ Some (Named name))
  number_of place name at_place =
      let short = slice_get-some circuit.netlist.outputs place name at_place in
      let long = length-map circuit.netlist.outputs (λ (name : Name). Named name) in
      let number = slice_get-within circuit.outputs place (omega (arith, short, long, numbering.outputs.count)) in (
        number.0,
        number.1,
        numbering.outputs.each place number.0 (Named name) number.1
            (slice_get-map_some (λ (n : Name). Named n) circuit.netlist.outputs place name at_place),
      )

  name_of : (place number : ℕ) → slice_get circuit.outputs place ≡ Some number
      → (name : Name) × (slice_get circuit.netlist.outputs place ≡ Some name) × (slice_get (nets circuit) number ≡ Some (Named name))
  name_of place number at_place =
      let short = slice_get-some circuit.outputs place number at_place in
      let long = length-map circuit.netlist.outputs (λ (name : Name). Named name) in
      let name = slice_get-within circuit.netlist.outputs place (omega (arith, short, long, numbering.outputs.count)) in (
        name.0,
        name.1,
        numbering.outputs.each place number (Named name.0) at_place
            (slice_get-map_some (λ (n : Name). Named n) circuit.netlist.outputs place name.0 name.1),
      )

  abbrev moment : ℕ
  moment = latest_change (waves_of run.waves circuit.outputs)

  pub explains_none : IsFirstAt run.waves circuit.outputs moment None → ExplainsLatest circuit run None
  explains_none never name has =
      let here = Contains-slice_get circuit.netlist.outputs name has in
      let number = number_of here.0 name here.1 in
      let wave = named_wave circuit run numbering is number.0 (Named name) number.2 in
      elim (attained run.waves circuit.outputs) [
        | inl some ↦ absurd (never some.number some.has some.is_last)
        | inr all ↦ rw wave (none_changes (wave_at run.waves number.0).changes (all number.0 (slice_get-Contains circuit.outputs here.0 number.0 number.1)))
      ]

  -- the latest output by its name
  pub named_latest : (number : ℕ) → IsFirstAt run.waves circuit.outputs moment (Some number)
      → (output : Name) × (slice_get (nets circuit) number ≡ Some (Named output))
      × IsLatest circuit.netlist (net_wave (nets circuit) run.waves) output
  named_latest number found =
      let name = name_of found.0 number found.1 in (
        name.0,
        name.2,
        record {
          place = found.0;
          is_output = name.1;
          latest = ap last (named_wave circuit run numbering is number (Named name.0) name.2) ∙ found.2 ∙ ap (λ ws. Some (latest_change ws)) (sym outputs_are);
          first = λ k other less at_k.
              let lower = number_of k other at_k in
              λ equal. found.3 k lower.0 less lower.1
              (sym (ap last (named_wave circuit run numbering is lower.0 (Named other) lower.2)) ∙ equal ∙ ap (λ ws. Some (latest_change ws)) outputs_are);
        },
      )

  explains_some : (number : ℕ) → IsFirstAt run.waves circuit.outputs moment (Some number)
      → (chain : Option (Vec code.Link)) → Explains circuit run number chain → ExplainsLatest circuit run chain
  explains_some number found None never =
      let named = named_latest number found in
      let wave = ap (λ n. net_wave (nets circuit) run.waves n) (net_at-is (nets circuit) number (Named named.0) named.1)
      ∙ named_wave circuit run numbering is number (Named named.0) named.1 in
      absurd (unchanged (wave_at run.waves number) moment (rw wave at never) found.2)
    where
      unchanged : (wave : Wave) (m : ℕ) → wave.changes ≡ [] → last wave ≡ Some m → ⊥
      unchanged wave m none is = none-some m (rw none at is)
  explains_some number found (Some links) chain =
      let named = named_latest number found in (
        named.0,
        named.2,
        rw (net_at-is (nets circuit) number (Named named.0) named.1) at chain,
      )

  pub explains : {E : Type 0} (number : ℕ) → IsFirstAt run.waves circuit.outputs moment (Some number)
      → (result : Result (Option (Vec code.Link)) E) → IfOk result (λ chain. Explains circuit run number chain)
      → IfOk result (λ chain. ExplainsLatest circuit run chain)
  explains number found (Ok chain) is_chain = explains_some number found chain is_chain
  explains number found (Err e) is_chain = tt
