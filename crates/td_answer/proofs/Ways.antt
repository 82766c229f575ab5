-- What a report says of a run, by the numbers of the nets and by their names.
use Rattle.std.proofs.Common.{◌≡◌, ◌≢◌, ℕ, zero, suc, ◌+◌, ◌<◌, ◌≤◌, List, [], ◌∷◌, ◌++◌, length, take, map, get_or, refl, arith, ◌∙◌, sym, ap, subst, inl, inr, Option, Some, None, Bool, true, false, true≢false}
use Rattle.std.specs.Prelude.{slice_get}
use Rattle.std.specs.List.{Contains}
use Rattle.std.specs.Str.{bytes_eq}
use Rattle.std.proofs.lemmas.Bool.{cases_eq, cases_lt}
use Rattle.std.proofs.lemmas.Slice.Eq.{bytes_eq-Decides}
use Rattle.std.proofs.lemmas.Option.{slice_get-get_or}
use Rattle.std.proofs.lemmas.List.{length-map, get_or_past, take_all}
use Rattle.td_gates.proofs.Places.{some-same, slice_get-some, slice_get-within, slice_get-get, slice_get-map_some, slice_get-Contains, Contains-slice_get}
use Rattle.td_gates.specs.declared.primitives.Level.TheVariants.{Zero, X}
use Rattle.td_gates.specs.Wave.{Wave, last}
use Rattle.td_nets.specs.Netlist.{Name, Net, Low, Named, Netlist}
use Rattle.td_nets.specs.Printed.{printed}
use Rattle.td_circuit.specs.Numbering.{Numbered, setting, nets, IsNumbering}
use Rattle.td_circuit.proofs.Values.{value_at}
use Rattle.td_domain.specs.Pairs.{Pair}
use Rattle.td_run.specs.Runs.{NetWaves}
use Rattle.td_path.specs.declared.links.Link as code
use Rattle.td_path.specs.Links.{Link, IsChain, LeadTo}
use Rattle.td_path.specs.Chains.{link_of, net_at, IsLatestNet}
use Rattle.td_lines.specs.declared.line.Last.{Last}
use Rattle.td_lines.specs.declared.line.Change.{Change}
use Rattle.td_lines.specs.declared.line.Line.{Line}
use Rattle.td_lines.specs.declared.line.Line.TheVariants as line
use Rattle.td_request.specs.declared.request.Shown.{Shown}
use Rattle.td_answer.specs.Names.{label}
use Rattle.td_answer.specs.Runs.{last_of, change_of, driver_of, net_label, HasChanges, TellsChain, TellsLast, TellsWay, TellsRun, TellsPair, RunsPair, AreLasts}
use Rattle.td_answer.specs.Additions.{AddsLines, waves_in, NamesNet, AreNamed, IsOutputNamed, TellsNet, NeverChanges}
use Rattle.td_answer.proofs.OutputNets.{output_at, one_name}
use Rattle.td_answer.proofs.Adding.{nothing, two, mapped_more}

-- ---- names of nets

-- the net of a change has this name
pub change_named : (circuit : Numbered) (link : code.Link) (name : Name) (change : Change) → slice_get (nets circuit) link.net ≡ Some (Named name)
    → change ≡ record { moment = link.moment; net = label name; from = link.from; to = link.to; by = driver_of link.cause }
    → change ≡ change_of (link_of (nets circuit) link)
change_named circuit link name change at is =
    is ∙ ap (λ (net : Net). record { moment = link.moment; net = net_label net; from = link.from; to = link.to; by = driver_of link.cause })
    (sym (slice_get-get (nets circuit) link.net (Named name) Low at))

-- the line of a net's name
pub net_named : (circuit : Numbered) (net : ℕ) (own : Name) (printed : Line) → slice_get (nets circuit) net ≡ Some (Named own)
    → printed ≡ line.Output (label own) → NamesNet circuit net printed
net_named circuit net own printed at_own is name at = is ∙ ap (λ (n : Name). line.Output (label n)) (one_name circuit net own name at_own at)

abbrev nowhere : code.Link
nowhere = record { net = 0; moment = 0; from = Zero; to = Zero; cause = None }

pub link_at : (links : List code.Link) (i : ℕ) → i < length links → slice_get links i ≡ Some (get_or links i nowhere)
link_at links i within = slice_get-get_or links i nowhere within

-- ---- which output changes last

-- none does, so none is named
pub none_latest : (circuit : Numbered) (run : NetWaves) (now : List Line) → IsLatestNet circuit run None
    → AddsLines (TellsLast true circuit.netlist (waves_in circuit run)) now now
none_latest circuit run now none = nothing (TellsLast true circuit.netlist (waves_in circuit run)) now (inl (none, refl))

-- it is named
pub latest_named : (circuit : Numbered) (run : NetWaves) (net : ℕ) (told : Line) (old new : List Line) → IsLatestNet circuit run (Some net)
    → NamesNet circuit net told → new ≡ old ++ told ∷ [] → AddsLines (TellsLast true circuit.netlist (waves_in circuit run)) old new
latest_named circuit run net told old new latest names added =
    (told ∷ [], added, inr (latest.0, latest.2, ap (λ (l : Line). l ∷ []) (names latest.0 latest.1)))

-- ---- chains

-- the link's net has a name
abbrev pub IsOfName : Link → Type 0
IsOfName link = (name : Name) × (link.net ≡ Named name)

all_named : (netlist : Netlist) (waves : Net → Wave) (first : Link) (others : List Link) (end : Link) → LeadTo netlist waves first others end
    → IsOfName first → (place : ℕ) (link : Link) → slice_get (first ∷ others) place ≡ Some link → IsOfName link
all_named netlist waves first others end leads named zero link at = let same : first ≡ link = some-same first link at in subst IsOfName same named
all_named netlist waves first [] end leads named (suc place) link at = absurd cc
all_named netlist waves first (next ∷ others) end leads named (suc place) link at =
    all_named netlist waves next others end leads.1 (leads.0.gate.output, leads.0.output) place link at

named_there : (nets : List Net) (number : ℕ) (name : Name) → net_at nets number ≡ Named name → slice_get nets number ≡ Some (Named name)
named_there nets number name is = elim (cases_lt number (length nets)) [
  | inl within ↦
      let net = slice_get-within nets number within in
      net.1 ∙ ap (λ n. Some n) (sym (slice_get-get nets number net.0 Low net.1) ∙ is)
  | inr past ↦ (let no : Low ≡ Named name = sym (get_or_past nets number Low past) ∙ is in absurd cc)
]

-- the nets of a chain have names
pub chain_named : (circuit : Numbered) (waves : Net → Wave) (net : Net) (links : List code.Link)
    → IsChain (setting circuit) waves net (map (link_of (nets circuit)) links) → AreNamed circuit links
chain_named circuit waves net links chain place link at =
    let there : slice_get (map (link_of (nets circuit)) links) place ≡ Some (link_of (nets circuit) link) =
    slice_get-map_some (link_of (nets circuit)) links place link at in
    let named = all_named circuit.netlist waves chain.first chain.others chain.end chain.leads (chain.begins.name, chain.begins.net) place
    (link_of (nets circuit) link) (ap (λ l. slice_get l place) (sym chain.parts) ∙ there) in
    (named.0, named_there (nets circuit) link.net named.0 named.1)

-- one more change
abbrev pub change_in : Numbered → code.Link → Change
change_in circuit link = change_of (link_of (nets circuit) link)

pub changes_more : (circuit : Numbered) (links : List code.Link) (i : ℕ) (link : code.Link) (changes new : List Change) (change : Change)
    → slice_get links i ≡ Some link → i < length links → changes ≡ map (change_in circuit) (take i links)
    → change ≡ change_in circuit link → new ≡ changes ++ change ∷ [] → new ≡ map (change_in circuit) (take (i + 1) links)
changes_more circuit links i link changes new change at less before is added = mapped_more (change_in circuit) links i link changes new change at less before is added

mapped_twice : (circuit : Numbered) (links : List code.Link) → map (change_in circuit) links ≡ map change_of (map (link_of (nets circuit)) links)
mapped_twice circuit [] = refl
mapped_twice circuit (link ∷ links) = ap (λ (cs : List Change). change_in circuit link ∷ cs) (mapped_twice circuit links)

-- all changes
pub changes_all : (circuit : Numbered) (links : List code.Link) (i : ℕ) (changes : List Change) → length links ≤ i
    → changes ≡ map (change_in circuit) (take i links) → changes ≡ map change_of (map (link_of (nets circuit)) links)
changes_all circuit links i changes past before =
    before ∙ ap (map (change_in circuit)) (take_all i links past) ∙ mapped_twice circuit links

-- the line of the links by number tells the chain
pub tells_chain : (circuit : Numbered) (waves : Net → Wave) (output : Name) (links : List code.Link) (told : Line)
    → IsChain (setting circuit) waves (Named output) (map (link_of (nets circuit)) links) → HasChanges (map (link_of (nets circuit)) links) told
    → TellsChain (setting circuit) waves output told
tells_chain circuit waves output links told chain has = record { links = map (link_of (nets circuit)) links; is_chain = chain; has = has }

-- the same, for a net by its number
pub tells_net : (circuit : Numbered) (run : NetWaves) (number : ℕ) (links : List code.Link) (told : Line) (old new : List Line)
    → IsChain (setting circuit) (waves_in circuit run) (net_at (nets circuit) number) (map (link_of (nets circuit)) links)
    → HasChanges (map (link_of (nets circuit)) links) told → new ≡ old ++ told ∷ [] → AddsLines (TellsNet circuit run number) old new
tells_net circuit run number links told old new chain has added = (
  told ∷ [],
  added,
  λ name at. inr (
    told,
    tells_chain circuit (waves_in circuit run) name links told
        (subst (λ net. IsChain (setting circuit) (waves_in circuit run) net (map (link_of (nets circuit)) links))
        (slice_get-get (nets circuit) number (Named name) Low at) chain) has,
    refl,
  ),
)

pub tells_never : (circuit : Numbered) (run : NetWaves) (number : ℕ) (old new : List Line)
    → (waves_in circuit run (net_at (nets circuit) number)).changes ≡ [] → AddsLines (NeverChanges circuit number) old new
    → AddsLines (TellsNet circuit run number) old new
tells_never circuit run number old new none adds = (
  adds.0,
  adds.1,
  λ name at. inl (
    ap (λ net. (waves_in circuit run net).changes) (sym (slice_get-get (nets circuit) number (Named name) Low at)) ∙ none,
    adds.2 name at,
  ),
)

-- a row that says so of the net of this name
pub never_named : (circuit : Numbered) (net : ℕ) (own : Name) (row : Last) (old new : List Line) → slice_get (nets circuit) net ≡ Some (Named own)
    → row ≡ record { output = label own; moment = None } → AddsLines (AreLasts (row ∷ [])) old new → AddsLines (NeverChanges circuit net) old new
never_named circuit net own row old new at_own is adds = (
  adds.0,
  adds.1,
  λ name at. subst (λ (r : Last). AreLasts (r ∷ []) adds.0)
      (is ∙ ap (λ (n : Name). record { output = label n; moment = None }) (one_name circuit net own name at_own at)) adds.2,
)

-- ---- what is asked of a run

-- one after the other
pub run_told : (shown : Shown) (circuit : Numbered) (run : NetWaves) (old mid new : List Line)
    → AddsLines (TellsLast shown.outputs circuit.netlist (waves_in circuit run)) old mid
    → AddsLines (TellsWay shown.path (setting circuit) (waves_in circuit run)) mid new
    → AddsLines (TellsRun shown (setting circuit) (waves_in circuit run)) old new
run_told shown circuit run old mid new =
    two (TellsLast shown.outputs circuit.netlist (waves_in circuit run)) (TellsWay shown.path (setting circuit) (waves_in circuit run))
    (TellsRun shown (setting circuit) (waves_in circuit run)) old mid new
    (λ first second names tells. record { named = first; way = second; is = refl; names = names; tells = tells })

-- of the run of a pair
pub pair_told : (shown : Shown) (circuit : Numbered) (pair : Pair) (run : NetWaves) (old new : List Line)
    → RunsPair (setting circuit) pair (waves_in circuit run) → AddsLines (TellsRun shown (setting circuit) (waves_in circuit run)) old new
    → AddsLines (TellsPair shown (setting circuit) pair) old new
pair_told shown circuit pair run old new runs adds = (adds.0, adds.1, inr (waves_in circuit run, runs, adds.2))

-- ---- when outputs change last

-- one more row
pub last_more : (circuit : Numbered) → IsNumbering circuit → (run : NetWaves) → length run.waves ≡ length (nets circuit) → (i : ℕ)
    → i < length circuit.outputs → (rows new : List Last) (row : Last) (name : Name) (wave : Wave) (moment : Option ℕ)
    → slice_get (nets circuit) (get_or circuit.outputs i 0) ≡ Some (Named name)
    → slice_get run.waves (get_or circuit.outputs i 0) ≡ Some wave → moment ≡ last wave → row ≡ record { output = label name; moment = moment }
    → rows ≡ map (last_of (waves_in circuit run)) (take i circuit.netlist.outputs) → new ≡ rows ++ row ∷ []
    → new ≡ map (last_of (waves_in circuit run)) (take (i + 1) circuit.netlist.outputs)
last_more circuit numbering run long i within rows new row name wave moment at_net at_wave is is_row before added =
    let out = output_at circuit numbering i within in
    let same : name ≡ out.name = one_name circuit (get_or circuit.outputs i 0) name out.name at_net out.net in
    let value : waves_in circuit run (Named out.name) ≡ wave =
    value_at (record { start = X; changes = [] }) circuit numbering run.waves long (get_or circuit.outputs i 0) (Named out.name) out.net
    ∙ slice_get-get run.waves (get_or circuit.outputs i 0) wave (record { start = X; changes = [] }) at_wave in
    let told : row ≡ last_of (waves_in circuit run) out.name =
    is_row ∙ ap (λ (n : Name). record { output = label n; moment = moment }) same
    ∙ ap (λ (m : Option ℕ). record { output = label out.name; moment = m }) (is ∙ ap last (sym value)) in
    mapped_more (last_of (waves_in circuit run)) circuit.netlist.outputs i out.name rows new row out.at
    (slice_get-some circuit.netlist.outputs i out.name out.at) before told added

-- ---- outputs by name

-- none of the outputs before this place is named so
abbrev pub NoneSoFar : Numbered → List ℕ → ℕ → Type 0
NoneSoFar circuit word count = (place : ℕ) (output : Name) → place < count → slice_get circuit.netlist.outputs place ≡ Some output → printed output ≢ word

none_more : (circuit : Numbered) (word : List ℕ) (count : ℕ) (name : Name) → slice_get circuit.netlist.outputs count ≡ Some name
    → printed name ≢ word → NoneSoFar circuit word count → NoneSoFar circuit word (count + 1)
none_more circuit word count name at other none place output less at_place = elim (cases_eq place count) [
  | inl same ↦
      let equal : output ≡ name = some-same output name (sym at_place ∙ ap (slice_get circuit.netlist.outputs) same ∙ at) in
      λ spelled. other (ap printed (sym equal) ∙ spelled)
  | inr earlier ↦ none place output (omega (arith, less, earlier)) at_place
]

pub none_next : (circuit : Numbered) → IsNumbering circuit → (word : List ℕ) (i : ℕ) (name : Name) (same : Bool) → i < length circuit.outputs
    → slice_get (nets circuit) (get_or circuit.outputs i 0) ≡ Some (Named name) → same ≡ bytes_eq (printed name) word → same ≡ false
    → NoneSoFar circuit word i → NoneSoFar circuit word (i + 1)
none_next circuit numbering word i name same within at_net is differs none =
    let out = output_at circuit numbering i within in
    let equal : name ≡ out.name = one_name circuit (get_or circuit.outputs i 0) name out.name at_net out.net in
    none_more circuit word i name (out.at ∙ ap (λ n. Some n) (sym equal))
    (λ spelled. true≢false (sym ((bytes_eq-Decides (printed name) word).1 spelled) ∙ sym is ∙ differs)) none

pub found_named : (circuit : Numbered) → IsNumbering circuit → (word : List ℕ) (i : ℕ) (name : Name) (same : Bool) → i < length circuit.outputs
    → slice_get (nets circuit) (get_or circuit.outputs i 0) ≡ Some (Named name) → same ≡ bytes_eq (printed name) word → same ≡ true
    → IsOutputNamed circuit word (Some (get_or circuit.outputs i 0))
found_named circuit numbering word i name same within at_net is equals =
    let out = output_at circuit numbering i within in
    let equal : name ≡ out.name = one_name circuit (get_or circuit.outputs i 0) name out.name at_net out.net in (
      name,
      record {
        is_output = subst (Contains circuit.netlist.outputs) (sym equal) (slice_get-Contains circuit.netlist.outputs i out.name out.at);
        spelled = (bytes_eq-Decides (printed name) word).0 (sym is ∙ equals);
      },
      at_net,
    )

pub none_named : (circuit : Numbered) → IsNumbering circuit → (word : List ℕ) (count : ℕ) → length circuit.outputs ≤ count → NoneSoFar circuit word count
    → (output : Name) → Contains circuit.netlist.outputs output → printed output ≢ word
none_named circuit numbering word count whole none output is_output =
    let place = Contains-slice_get circuit.netlist.outputs output is_output in
    none place.0 output (omega (
      arith,
      whole,
      slice_get-some circuit.netlist.outputs place.0 output place.1,
      numbering.outputs.count,
      length-map circuit.netlist.outputs (λ (n : Name). Named n),
    )) place.1
