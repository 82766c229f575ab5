-- A certificate that is accepted has a text within the limit.
use Rattle.std.proofs.Common.{◌≡◌, ◌≢◌, ◌*◌, ◌<◌, ◌≤◌, ◌^◌, ℕ, Bool, true, false, List, [], ◌∷◌, length, map, Option, Some, None, inl, refl, sym, ap, subst, ◌∙◌, arith}
use Rattle.std.specs.Prelude.{unwrap_or}
use Rattle.std.specs.List.{All, AllByRecursion}
use Rattle.std.proofs.lemmas.List.{length-map, length-set}
use Rattle.std.proofs.lemmas.List.Elements.{recursion_from_All}
use Rattle.std.proofs.lemmas.Option.{slice_get_within}
use Rattle.td_gates.specs.declared.timing.Change.{Change}
use Rattle.td_gates.specs.Table.{level_from}
use Rattle.td_gates.specs.Wave.{Wave, last_of}
use Rattle.td_circuit.specs.Settings.{Setting, AreMoments}
use Rattle.td_circuit.specs.Numbering.{Numbered, setting, nets, IsNumbering}
use Rattle.td_circuit.specs.Run.{IsDelayOfBits, latest_change}
use Rattle.td_circuit.proofs.Existence.{numbering_exists}
use Rattle.td_circuit.proofs.Nets.{numbers-below, few_gates}
use Rattle.td_run.specs.Laws.{IsAcyclic}
use Rattle.td_run.specs.Waves.{AreWithin, waves_of}
use Rattle.td_run.proofs.Existence.{run_exists}
use Rattle.td_run.proofs.Gates.{waves_of-within, all_small}
use Rattle.td_run.proofs.Named.{only_outputs, same_length}
use Rattle.td_domain.specs.declared.cubes.Trit.{Trit}
use Rattle.td_domain.specs.declared.cubes.Trit.TheVariants.{Zero, One, Free}
use Rattle.td_certificate.specs.declared.tree.Node.{Node}
use Rattle.td_certificate.specs.Cubes.{cubes_past}
use Rattle.td_certificate.specs.Trees.{pending_after, names_edges, has_edges, is_refuted, has_refuted}
use Rattle.td_certificate.proofs.VectorCodes.{cases}
use Rattle.td_certificate.specs.Walks.{position_of, lines_from}
use Rattle.td_certificate.specs.Spelling.{version_in, IsNode, MayClaim, HasSpelling, spelling}
use Rattle.td_certificate.specs.Lengths.{IsShort, IsShortClaim}
use Rattle.td_certificate.specs.Faults.{IsWithinLimit}
use Rattle.td_certificate.specs.declared.tree.Node.TheVariants as node
use Rattle.td_certificate.specs.declared.certificate.Claim.{Claim}
use Rattle.td_certificate.specs.Accepts.{IsGood, setting_of, lines_in, high_of, ClaimsAdmitted, ClaimsDelay}
use Rattle.td_certificate.proofs.Lengths.{searched_texts_fit}
use Rattle.td_certificate.proofs.Acceptance.{cube_fits, vector_fits}
use Rattle.td_certificate.proofs.FirstVersion.{may_lie}
use Rattle.td_certificate.proofs.Told.{no_edges, edges_parts, are_terms, have_few, one_moment}
use Rattle.td_certificate.specs.declared.question.Version.{Version}
use Rattle.td_certificate.specs.declared.question.Version.TheVariants.{First, Fourth}
use Rattle.td_certificate.specs.Questions.{Question, inputs_of, version_of, asking_of}
use Rattle.td_refutation.specs.Asking.{Asking, IsAskedAbout}
use Rattle.td_gates.specs.Delays.{Delays}
use Rattle.td_reading.specs.declared.reading.Reading.{Reading}
use Rattle.td_reading.specs.declared.told.Told.{Told}
use Rattle.td_nets.specs.Netlist.{Netlist}
use Rattle.td_netlist.specs.Means.{Means}
use Rattle.td_netlist.proofs.Readings.{one_netlist}
use Rattle.td_circuit.specs.Loops.{Loop}
use Rattle.td_source.specs.Kept.{AreNumbers, HasOutputs}
use Rattle.td_source.specs.Reads.{AreOutputsIn, AreOutputsOf, ReadsNetlist}
use Rattle.td_source.proofs.Naming.{same_outputs}
use Rattle.td_source.proofs.Asked.{acyclic_whole}
use Rattle.td_source.proofs.Reading.{numbers_fit, outputs_asked}
use Rattle.td_certificate.specs.declared.certificate.Certificate.{Certificate}
use Rattle.td_certificate.specs.Questions.{Terms}
use Rattle.td_certificate.specs.Accepts.{Accepts}
use Rattle.td_checker.specs.declared.verdict.Verdict.TheVariants as verdict
use Rattle.td_checker.specs.Verdicts.{AreTold, outputs_for}
use Rattle.td_checker.specs.Checks.{HasVerdict, default_for, said_by, told_by}
use Rattle.td_checker.specs.Written.{AcceptedIsWritten, AreTerms, TextIsAccepted}
use Rattle.td_checker.proofs.Lines.{count_behind}

-- ---- no delay passes the limits of a circuit

last_within : (bound : ℕ) (changes : List Change) → AllByRecursion (λ change. change.moment ≤ bound) changes → unwrap_or (last_of changes) 0 ≤ bound
last_within bound [] all = omega arith
last_within bound (change ∷ []) all = all.0
last_within bound (change ∷ next ∷ later) all = last_within bound (next ∷ later) all.1

latest_within : (bound : ℕ) (waves : List Wave) → AllByRecursion (λ wave. AreWithin bound wave.changes) waves → latest_change waves ≤ bound
latest_within bound [] all = omega arith
latest_within bound (wave ∷ others) all =
    omega (arith, last_within bound wave.changes (recursion_from_All (λ change. change.moment ≤ bound) wave.changes all.0), latest_within bound others all.1)

delay_by_number : (circuit : Numbered) → IsNumbering circuit → AreMoments circuit.netlist circuit.moments → (first second : List Bool) (delay : ℕ)
    → length first ≡ length circuit.netlist.inputs → length second ≡ length circuit.netlist.inputs → IsDelayOfBits (setting circuit) first second delay → delay < 10 ^ 15
delay_by_number circuit numbering fit first second delay first_fits second_fits is =
    let f : length (map level_from first) ≡ length circuit.netlist.inputs = length-map first level_from ∙ first_fits in
    let s : length (map level_from second) ≡ length circuit.netlist.inputs = length-map second level_from ∙ second_fits in
    let found = run_exists circuit (map level_from first) (map level_from second) numbering fit f s (length circuit.gates) (omega arith) in
    let small = all_small (length circuit.gates) found.0 (few_gates circuit numbering) found.2.within in
    let below : All (λ net. net < length found.0) circuit.outputs =
    rw (same_length circuit (map level_from first) (map level_from second) numbering fit f s found.0 found.1 found.2)
    (numbers-below (nets circuit) circuit.outputs _ numbering.outputs) in
    let outputs = waves_of-within 200001000000000 found.0 circuit.outputs small below in
    let most = latest_within 200001000000000 (waves_of found.0 circuit.outputs)
    (recursion_from_All (λ wave. AreWithin 200001000000000 wave.changes) (waves_of found.0 circuit.outputs) outputs) in
    let same : delay ≡ latest_change (waves_of found.0 circuit.outputs) =
    is.is_latest ∙ ap latest_change (only_outputs circuit (map level_from first) (map level_from second) numbering fit f s found.0 found.1 found.2 is.waves is.runs) in
    omega (arith, most, same)

small_delay : (given : Setting) → IsAcyclic given.netlist → AreMoments given.netlist given.moments → (first second : List Bool) (delay : ℕ)
    → length first ≡ length given.netlist.inputs → length second ≡ length given.netlist.inputs → IsDelayOfBits given first second delay → delay < 10 ^ 15
small_delay given acyclic fit first second delay f s is =
    let numbered = numbering_exists given acyclic.well_formed acyclic.acyclic in
    let by_number : (g : Setting) → setting numbered.0 ≡ g → AreMoments g.netlist g.moments → length first ≡ length g.netlist.inputs → length second ≡ length g.netlist.inputs
    → IsDelayOfBits g first second delay → delay < 10 ^ 15 =
    λ g same. subst (λ (m : Setting). AreMoments m.netlist m.moments → length first ≡ length m.netlist.inputs → length second ≡ length m.netlist.inputs
    → IsDelayOfBits m first second delay → delay < 10 ^ 15) same
    (delay_by_number_of numbered.0 numbered.1) in
    by_number given numbered.2 fit f s is
  where
    delay_by_number_of : (circuit : Numbered) → IsNumbering circuit → AreMoments circuit.netlist circuit.moments → length first ≡ length circuit.netlist.inputs
        → length second ≡ length circuit.netlist.inputs → IsDelayOfBits (setting circuit) first second delay → delay < 10 ^ 15
    delay_by_number_of circuit numbering fit f s is = delay_by_number circuit numbering fit first second delay f s is

-- ---- numbers of a tree whose lines are good

short_node : (given : Setting) (asking : Asking) (most : ℕ) (cube : List Trit) (n : Node) → most < 10 ^ 15 → length cube ≤ 8192
    → is_refuted n ≡ false → IsGood given asking (Some most) (record { cube = cube; node = n }) → IsShort n
short_node given asking most cube (node.Split position) small few plain good = let inside = slice_get_within cube position Free good.splits in omega (arith, inside)
short_node given asking most cube (node.Bound domain bound) small few plain good = omega (arith, good.within)
short_node given asking most cube (node.Point time) small few plain good = omega (arith, good.within)
short_node given asking most cube node.Empty small few plain good = tt
short_node given asking most cube (node.Refuted refuted) small few plain good = absurd (let e : true ≡ false = plain in cc)

-- a leaf without an admitted pair doesn't stand where the first version tells what is asked
written_node : (given : Setting) (question : Question) (version : Version) (most : ℕ) (cube : List Trit) (n : Node) → (version ≢ Fourth → names_edges n ≡ false)
    → (version ≡ First → version_of question ≡ First) → length question.admit.pins ≡ 2 * inputs_of question
    → length cube ≡ length question.admit.pins → IsShort n → IsGood given (asking_of question) (Some most) (record { cube = cube; node = n }) → IsNode version n
written_node given question version most cube (node.Split position) plain asked pins same short good = omega (arith, short)
written_node given question version most cube (node.Bound domain bound) plain asked pins same short good = (omega (arith, short), plain)
written_node given question version most cube (node.Point time) plain asked pins same short good = omega (arith, short)
written_node given question version most cube (node.Refuted refuted) plain asked pins same short good = absurd short
written_node given question version most cube node.Empty plain asked pins same short good = λ first. good.of_cube (may_lie given.netlist question cube (asked first) pins (same ∙ pins))

abbrev AllLong : ℕ → List (List Trit) → Type 0
AllLong count cubes = AllByRecursion (λ cube. length cube ≡ count) cubes

long_past : (count : ℕ) (cube : List Trit) (n : Node) (cubes : List (List Trit)) → length cube ≡ count → AllLong count cubes → AllLong count (cubes_past cube (position_of n) cubes)
long_past count cube (node.Split position) cubes long all = (length-set cube position Zero ∙ long, (length-set cube position One ∙ long, all))
long_past count cube (node.Bound domain bound) cubes long all = all
long_past count cube (node.Point time) cubes long all = all
long_past count cube node.Empty cubes long all = all
long_past count cube (node.Refuted refuted) cubes long all = all

abbrev IsWritten : Version → Node → Type 0
IsWritten version n = IsShort n × IsNode version n

first_plain : (n : Node) (nodes : List Node) → has_refuted (n ∷ nodes) ≡ false → (is_refuted n ≡ false) × (has_refuted nodes ≡ false)
first_plain n nodes none = cases (is_refuted n) (λ h. absurd (let e : has_refuted (n ∷ nodes) ≡ true = rw h refl in cc)) (λ h. (h, rw h at none))

written_nodes : (given : Setting) (question : Question) (version : Version) (most : ℕ) (nodes : List Node) (cubes : List (List Trit)) → (version ≢ Fourth → has_edges nodes ≡ false) → (version ≡ First → version_of question ≡ First) → most < 10 ^ 15 → length question.admit.pins ≤ 8192
    → length question.admit.pins ≡ 2 * inputs_of question → AllLong (length question.admit.pins) cubes
    → pending_after (length cubes) nodes ≡ Some 0 → has_refuted nodes ≡ false → AllByRecursion (IsGood given (asking_of question) (Some most)) (lines_from cubes nodes)
    → AllByRecursion (IsWritten version) nodes
written_nodes given question version most [] cubes edges asked small few pins long tree none good = tt
written_nodes given question version most (n ∷ nodes) [] edges asked small few pins long tree none good = cc
written_nodes given question version most (n ∷ nodes) (cube ∷ cubes) edges asked small few pins long tree none good =
    let plain = first_plain n nodes none in
    let short = short_node given (asking_of question) most cube n small (omega (arith, long.0, few)) plain.0 good.0 in (
      (short, written_node given question version most cube n (λ other. (edges_parts n nodes (edges other)).0) asked pins long.0 short good.0),
      written_nodes given question version most nodes (cubes_past cube (position_of n) cubes) (λ other. (edges_parts n nodes (edges other)).1) asked small few pins (long_past (length question.admit.pins) cube n cubes long.0 long.1)
          (ap (λ (k : ℕ). pending_after k nodes) (count_behind cube n cubes) ∙ tree) plain.1 good.1,
    )

are_short : (version : Version) (nodes : List Node) → AllByRecursion (IsWritten version) nodes → AllByRecursion IsShort nodes
are_short version [] all = tt
are_short version (n ∷ nodes) all = (all.0.0, are_short version nodes all.1)

are_nodes : (version : Version) (nodes : List Node) → AllByRecursion (IsWritten version) nodes → AllByRecursion (IsNode version) nodes
are_nodes version [] all = tt
are_nodes version (n ∷ nodes) all = (all.0.1, are_nodes version nodes all.1)

-- ---- the verdict on what is written

default_told : (reading : Reading) (outputs : Option (List ℕ)) (terms : Option Terms) → AreTerms (told_by reading outputs) terms
    → default_for reading.default terms ≡ reading.default
default_told reading outputs None are = refl
default_told reading outputs (Some terms) are = are.0

outputs_told : (reading : Reading) (outputs : Option (List ℕ)) (terms : Option Terms) → AreTerms (told_by reading outputs) terms → outputs_for outputs terms ≡ outputs
outputs_told reading outputs None are = refl
outputs_told reading outputs (Some terms) are = are.1

terms_told : (reading : Reading) (told : Told) (outputs : Option (List ℕ)) (terms : Option Terms) → AreTerms (told_by reading outputs) terms
    → AreTold (said_by told reading.default outputs) terms
terms_told reading told outputs None are = tt
terms_told reading told outputs (Some terms) are =
    (((λ is. ap (λ d. d.rise) are.0), (λ is. ap (λ d. d.fall) are.0)), (λ is. are.1))

accepted_has : (netlist_text : List ℕ) (reading : Reading) (told : Told) (netlist : Netlist) (c : Certificate) (outputs : Option (List ℕ))
    → ReadsNetlist netlist_text reading netlist → (¬ Loop netlist) → AreOutputsOf netlist_text reading outputs
    → AreTerms (told_by reading outputs) c.question.terms → Accepts netlist c → HasVerdict netlist_text reading told c verdict.Accepted
accepted_has netlist_text reading told netlist c outputs reads acyclic asked are accepts =
    let whole : asked.whole ≡ reads.whole = one_netlist netlist_text reading.default asked.whole reads.whole asked.means reads.means in
    let named : AreOutputsIn reads.whole reading.outputs outputs = subst (λ (n : Netlist). AreOutputsIn n reading.outputs outputs) whole asked.are in
    let found = outputs_asked reads.whole reading.outputs netlist reads.asked in
    let same : found.0 ≡ outputs = same_outputs reads.whole reading.outputs found.0 outputs found.1 named in
    let has : HasOutputs reads.whole outputs netlist = subst (λ (o : Option (List ℕ)). HasOutputs reads.whole o netlist) same found.2 in
    let numbers = outputs_told reading outputs c.question.terms are in
    record {
      whole = reads.whole;
      means = subst (λ (d : Delays). Means netlist_text d reads.whole) (sym (default_told reading outputs c.question.terms are)) reads.means;
      acyclic = acyclic_whole reads.whole outputs netlist has acyclic;
      outputs = outputs;
      asked = named;
      is = inl (
        subst (λ (o : Option (List ℕ)). AreNumbers reads.whole o) (sym numbers) (numbers_fit reads.whole reading.outputs outputs named),
        (netlist, subst (λ (o : Option (List ℕ)). HasOutputs reads.whole o netlist) (sym numbers) has, (terms_told reading told outputs c.question.terms are, accepts)),
      );
    }

-- ---- what is written

pub text_is_accepted : TextIsAccepted
text_is_accepted netlist_text reading netlist c reads acyclic accepts outputs asked are has within = record {
  has = has;
  within = within;
  verdict = λ told. record {
    certificate = c;
    spells = record { has = has; parts = refl };
    within = within;
    has = accepted_has netlist_text reading told netlist c outputs reads acyclic.acyclic asked are accepts;
  };
}

pub accepted_is_written : AcceptedIsWritten
accepted_is_written netlist_text reading netlist c claim reads acyclic fit flips accepts outputs asked can claimed one few none =
    let given : Setting = setting_of netlist c in
    let admitted : IsAskedAbout netlist (asking_of c.question) claim.pair = subst (ClaimsAdmitted netlist (asking_of c.question)) claimed accepts.admitted in
    let reached : IsDelayOfBits given claim.pair.first claim.pair.second claim.time = subst (ClaimsDelay given) claimed accepts.reached in
    let good : AllByRecursion (IsGood given (asking_of c.question) (Some claim.high)) (lines_in c) =
    subst (λ (z : Option Claim). AllByRecursion (IsGood given (asking_of c.question) (high_of z)) (lines_in c)) claimed accepts.good in
    let long = cube_fits c.question.admit.pins claim.pair.first claim.pair.second admitted.admitted.pinned in
    let first : length claim.pair.first ≡ length netlist.inputs = vector_fits given claim.pair.first claim.pair.second claim.time reached in
    let second : length claim.pair.second ≡ length netlist.inputs = omega (arith, long.1, first) in
    let size = accepts.size.inputs in
    let small : claim.time < 10 ^ 15 = small_delay given acyclic fit claim.pair.first claim.pair.second claim.time first second reached in
    let inputs : inputs_of c.question ≤ 4096 = omega (arith, size, acyclic.well_formed.few_inputs) in
    let pins : length c.question.admit.pins ≡ 2 * inputs_of c.question = accepts.size.pins in
    let low : claim.high < 10 ^ 15 = omega (arith, small, one) in
    let written = written_nodes given c.question (version_in c) claim.high c.tree (c.question.admit.pins ∷ [])
    (λ other. no_edges c.question.terms c.tree c.question.admit c.question.moments can.1 other) (λ e. e) low (omega (arith, pins, inputs)) pins (refl, tt) accepts.tree none good in
    let short : AllByRecursion IsShort c.tree = are_short (version_in c) c.tree written in
    let has : HasSpelling c = record {
      inputs = inputs;
      gates = omega (arith, accepts.size.gates, acyclic.well_formed.few_gates);
      pins = pins;
      flips = flips;
      count = fit.count ∙ size;
      moments = recursion_from_All (λ moment. moment ≤ 1000000000) c.question.moments fit.within;
      terms = are_terms c.question.terms c.tree can.1;
      claim = subst (MayClaim (version_in c) (inputs_of c.question)) (sym claimed) (record {
        time = omega (arith, small);
        high = one_moment (version_in c) claim.time claim.high one (omega (arith, small));
        first = first ∙ size;
        second = second ∙ size;
      });
      nodes = are_nodes (version_in c) c.tree written;
      tree = accepts.tree;
    } in
    let within : IsWithinLimit (spelling c) = searched_texts_fit c has (have_few c.question.terms c.tree can.1) (subst IsShortClaim (sym claimed) (small, low)) short few in
    text_is_accepted netlist_text reading netlist c reads acyclic accepts outputs asked can.0 has within
