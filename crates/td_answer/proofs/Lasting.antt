-- The moments at which outputs change last, by rows.
use Rattle.std.proofs.Common.{◌≡◌, ◌≢◌, ◌∙◌, ℕ, zero, suc, ◌+◌, ◌<◌, ◌≤◌, Bool, true, false, List, [], ◌∷◌, ◌++◌, length, map, max, get_or, take, refl, arith, sym, ap, subst, ◌⊎◌, inl, inr, Some, None}
use Rattle.std.specs.Prelude.{slice_get, unwrap_or, not, Option}
use Rattle.std.specs.List.{Contains}
use Rattle.std.proofs.lemmas.Bool.{cases_lt}
use Rattle.std.proofs.lemmas.List.{length-map}
use Rattle.td_gates.specs.Wave.{Wave, last}
use Rattle.td_gates.proofs.Places.{none-some, some-same, slice_get-some, slice_get-within, slice_get-map_some, Contains-slice_get}
use Rattle.td_nets.specs.Netlist.{Name, Net, Named, Netlist}
use Rattle.td_circuit.specs.Numbering.{Numbered, nets, IsNumbering}
use Rattle.td_circuit.specs.Run.{latest_change}
use Rattle.td_path.specs.Chains.{IsLatest}
use Rattle.td_path.proofs.Lasts.{none_changes}
use Rattle.td_lines.specs.declared.line.Last.{Last}
use Rattle.td_lines.specs.declared.line.Line.{Line}
use Rattle.td_lines.specs.declared.line.Line.TheVariants as line
use Rattle.td_answer.specs.Heads.{head_lines}
use Rattle.td_answer.specs.Names.{label}
use Rattle.td_answer.specs.Runs.{last_of, AreLasts, IsStill, TellsLast}
use Rattle.td_answer.specs.Additions.{AddsLines, NamesNet}
use Rattle.td_answer.specs.Simulations.{IsRunReport, AreLastsOf, latest_in, IsFirstRow, TellLastOf, told_lines}
use Rattle.td_answer.proofs.Adding.{mapped_more}
use Rattle.td_answer.proofs.OutputNets.{output_at, one_name}
use Rattle.td_answer.proofs.Reporting.{run_report}

-- ---- rows by what is kept

-- one more row
pub kept_more : (circuit : Numbered) → IsNumbering circuit → (waves : Net → Wave) (lasts : List (Option ℕ))
    → lasts ≡ map (λ net. last (waves net)) (nets circuit) → (i : ℕ) → i < length circuit.outputs → (rows new : List Last) (row : Last) (name : Name)
    (moment : Option ℕ) → slice_get (nets circuit) (get_or circuit.outputs i 0) ≡ Some (Named name)
    → slice_get lasts (get_or circuit.outputs i 0) ≡ Some moment → row ≡ record { output = label name; moment = moment }
    → rows ≡ map (last_of waves) (take i circuit.netlist.outputs) → new ≡ rows ++ row ∷ []
    → new ≡ map (last_of waves) (take (i + 1) circuit.netlist.outputs)
kept_more circuit numbering waves lasts are i within rows new row name moment at_net at_last is_row before added =
    let out = output_at circuit numbering i within in
    let same : name ≡ out.name = one_name circuit (get_or circuit.outputs i 0) name out.name at_net out.net in
    let there : slice_get lasts (get_or circuit.outputs i 0) ≡ Some (last (waves (Named out.name))) =
    ap (λ (ms : List (Option ℕ)). slice_get ms (get_or circuit.outputs i 0)) are
    ∙ slice_get-map_some (λ (net : Net). last (waves net)) (nets circuit) (get_or circuit.outputs i 0) (Named out.name) out.net in
    let is : moment ≡ last (waves (Named out.name)) = some-same moment (last (waves (Named out.name))) (sym at_last ∙ there) in
    let told : row ≡ last_of waves out.name =
    is_row ∙ ap (λ (n : Name). record { output = label n; moment = moment }) same
    ∙ ap (λ (m : Option ℕ). record { output = label out.name; moment = m }) is in
    mapped_more (last_of waves) circuit.netlist.outputs i out.name rows new row out.at
    (slice_get-some circuit.netlist.outputs i out.name out.at) before told added

-- the line of an output's net has its name
pub line_named : (circuit : Numbered) → IsNumbering circuit → (place : ℕ) → place < length circuit.outputs → (net : ℕ)
    → net ≡ get_or circuit.outputs place 0 → (told : Line) → NamesNet circuit net told
    → (name : Name) → slice_get circuit.netlist.outputs place ≡ Some name → told ≡ line.Output (label name)
line_named circuit numbering place within net is told names name at =
    let out = output_at circuit numbering place within in
    names name
    (ap (slice_get (nets circuit)) is ∙ out.net ∙ ap (λ (n : Name). Some (Named n)) (some-same out.name name (sym out.at ∙ at)))

-- ---- the latest of rows

latest_mapped : (waves : Net → Wave) (names : List Name)
    → latest_in (map (last_of waves) names) ≡ latest_change (map (λ name. waves (Named name)) names)
latest_mapped waves [] = refl
latest_mapped waves (name ∷ names) = ap (λ (n : ℕ). max (unwrap_or (last (waves (Named name))) 0) n) (latest_mapped waves names)

latest_is : (circuit : Numbered) (waves : Net → Wave) (rows : List Last) → AreLastsOf circuit waves rows
    → latest_in rows ≡ latest_change (map (λ name. waves (Named name)) circuit.netlist.outputs)
latest_is circuit waves rows are = ap latest_in are ∙ latest_mapped waves circuit.netlist.outputs

-- a row has the latest moment
record Attains (rows : List Last) (moment : ℕ) : Type 0 where
  place : ℕ
  row : Last
  at : slice_get rows place ≡ Some row
  is : row.moment ≡ Some moment

abbrev NoneChanges : List Last → Type 0
NoneChanges rows = (k : ℕ) (row : Last) → slice_get rows k ≡ Some row → row.moment ≡ None

none_here : (row : Last) (rows : List Last) → row.moment ≡ None → NoneChanges rows → NoneChanges (row ∷ rows)
none_here row rows none all zero other at = ap (λ (r : Last). r.moment) (sym (some-same row other at)) ∙ none
none_here row rows none all (suc k) other at = all k other at

never_none : (rows : List Last) → NoneChanges rows → latest_in rows ≡ 0
never_none [] all = refl
never_none (row ∷ rows) all =
    let rest = never_none rows (λ k other at. all (suc k) other at) in
    let here = all 0 row refl in
    rw (here, rest) refl

cases_last : (o : Option ℕ) → (o ≡ None) ⊎ ((m : ℕ) × (o ≡ Some m))
cases_last None = inl refl
cases_last (Some m) = inr (m, refl)

attained : (rows : List Last) → Attains rows (latest_in rows) ⊎ NoneChanges rows
attained [] = inr (λ k row at. absurd (none-some row at))
attained (row ∷ rows) = elim (cases_last row.moment) [
  | inl none ↦ elim (attained rows) [
    | inl rest ↦ inl (record {
      place = suc rest.place;
      row = rest.row;
      at = rest.at;
      is = rest.is ∙ ap (λ m. Some m) (same_max none);
    })
    | inr all ↦ inr (none_here row rows none all)
  ]
  | inr some ↦ elim (cases_lt some.0 (latest_in rows)) [
    | inr least ↦ inl (record { place = 0; row = row; at = refl; is = some.1 ∙ ap (λ m. Some m) (sym (own_max some.0 some.1 least)) })
    | inl more ↦ elim (attained rows) [
      | inl rest ↦ inl (record {
        place = suc rest.place;
        row = rest.row;
        at = rest.at;
        is = rest.is ∙ ap (λ m. Some m) (sym (other_max some.0 some.1 more));
      })
      | inr all ↦ absurd (let nothing = never_none rows all in omega arith)
    ]
  ]
]
  where
    same_max : row.moment ≡ None → latest_in rows ≡ max (unwrap_or row.moment 0) (latest_in rows)
    same_max none = rw none (omega arith)

    own_max : (m : ℕ) → row.moment ≡ Some m → latest_in rows ≤ m → max (unwrap_or row.moment 0) (latest_in rows) ≡ m
    own_max m is least = rw is (omega arith)

    other_max : (m : ℕ) → row.moment ≡ Some m → m < latest_in rows → max (unwrap_or row.moment 0) (latest_in rows) ≡ latest_in rows
    other_max m is more = rw is (omega arith)

-- ---- which output changes last

module _ (circuit : Numbered) (rows : List Last) (waves : Net → Wave) (are : AreLastsOf circuit waves rows) where
  row_at : (k : ℕ) (name : Name) → slice_get circuit.netlist.outputs k ≡ Some name → slice_get rows k ≡ Some (last_of waves name)
  row_at k name at =
      ap (λ (rs : List Last). slice_get rs k) are ∙ slice_get-map_some (last_of waves) circuit.netlist.outputs k name at

  name_at : (k : ℕ) (row : Last) → slice_get rows k ≡ Some row
      → (name : Name) × (slice_get circuit.netlist.outputs k ≡ Some name) × (row ≡ last_of waves name)
  name_at k row at =
      let low = slice_get-some rows k row at in
      let long : length rows ≡ length circuit.netlist.outputs = ap length are ∙ length-map circuit.netlist.outputs (last_of waves) in
      let name = slice_get-within circuit.netlist.outputs k (omega (arith, low, long)) in
      (name.0, name.1, some-same row (last_of waves name.0) (sym at ∙ row_at k name.0 name.1))

  still : (time : ℕ) → time ≡ latest_in rows → IsFirstRow rows time None
      → (output : Name) → Contains circuit.netlist.outputs output → IsStill waves output
  still time latest none output has = elim (attained rows) [
    | inl one ↦ absurd (none one.place one.row one.at (one.is ∙ ap (λ m. Some m) (sym latest)))
    | inr all ↦
        let place = Contains-slice_get circuit.netlist.outputs output has in
        none_changes (waves (Named output)).changes (all place.0 (last_of waves output) (row_at place.0 output place.1))
  ]

  first : (time place : ℕ) → time ≡ latest_in rows → IsFirstRow rows time (Some place)
      → (output : Name) × (slice_get circuit.netlist.outputs place ≡ Some output) × IsLatest circuit.netlist waves output
  first time place latest found =
      let name = name_at place found.0.0 found.0.1 in
      let is : time ≡ latest_change (map (λ n. waves (Named n)) circuit.netlist.outputs) = latest ∙ latest_is circuit waves rows are in (
        name.0,
        name.1,
        record {
          place = place;
          is_output = name.1;
          latest = ap (λ (r : Last). r.moment) (sym name.2) ∙ found.0.2 ∙ ap (λ m. Some m) is;
          first = λ k other less at. λ same. found.1 k (last_of waves other) less (row_at k other at) (same ∙ ap (λ m. Some m) (sym is));
        },
      )

pub untold : (outputs : Bool) (circuit : Numbered) (rows : List Last) → outputs ≡ false → TellLastOf outputs circuit rows []
untold true circuit rows is = absurd cc
untold false circuit rows is = λ waves are. refl

pub told_none : (outputs : Bool) (circuit : Numbered) (rows : List Last) (time : ℕ) → outputs ≡ true → time ≡ latest_in rows
    → IsFirstRow rows time None → TellLastOf outputs circuit rows []
told_none false circuit rows time is latest none = absurd cc
told_none true circuit rows time is latest none = λ waves are. inl (still circuit rows waves are time latest none, refl)

pub told_some : (outputs : Bool) (circuit : Numbered) (rows : List Last) (time place : ℕ) (told : Line) → outputs ≡ true → time ≡ latest_in rows
    → IsFirstRow rows time (Some place)
    → ((name : Name) → slice_get circuit.netlist.outputs place ≡ Some name → told ≡ line.Output (label name))
    → TellLastOf outputs circuit rows (told ∷ [])
told_some false circuit rows time place told is latest found tells = absurd cc
told_some true circuit rows time place told is latest found tells = λ waves are.
    let it = first circuit rows waves are time place latest found in
    inr (it.0, it.2, ap (λ (l : Line). l ∷ []) (tells it.0 it.1))

-- ---- the report of rows

pub report_is : (outputs : Bool) (circuit : Numbered) (rows : List Last) (time : ℕ) (told : Option Line) (one two three four : List Line)
    → one ≡ head_lines circuit.netlist → AddsLines (AreLasts rows) one two → three ≡ two ++ line.Time time ∷ [] → time ≡ latest_in rows
    → TellLastOf outputs circuit rows (told_lines told) → four ≡ three ++ told_lines told
    → (waves : Net → Wave) → AreLastsOf circuit waves rows → IsRunReport outputs circuit.netlist waves four
report_is outputs circuit rows time told one two three four is_one lasts is_three latest tells added waves are =
    run_report outputs circuit.netlist waves rows time one two three four is_one lasts are is_three (latest ∙ latest_is circuit waves rows are)
    (told_lines told, added, tells waves are)
