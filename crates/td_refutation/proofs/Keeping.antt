-- Keeping: conditions on the nets of a circuit are kept, or broken, as the tests of its settled
-- levels say.
use Rattle.std.proofs.Common.{◌≡◌, ℕ, zero, suc, ◌-◌, ◌*◌, ◌<◌, Bool, true, false, List, [], ◌∷◌, ◌++◌, length, map, get_or, Option, Some, None, inl, inr, refl, ap, sym, ◌∙◌, subst, arith, length-append}
use Rattle.std.specs.Prelude.{◌&&◌, ◌||◌, slice_get}
use Rattle.std.specs.List.{Contains}
use Rattle.std.proofs.lemmas.Bool.{cases_lt, lt-ltb, le-ltb, and_parts}
use Rattle.std.proofs.lemmas.List.{length-map}
use Rattle.std.proofs.lemmas.List.Elements.{All-contains}
use Rattle.td_gates.specs.declared.primitives.Level.{Level}
use Rattle.td_gates.specs.declared.primitives.Level.TheVariants.{Zero, One, X}
use Rattle.td_gates.specs.Known.{Agrees}
use Rattle.td_gates.specs.Table.{table, level_eq, level_from}
use Rattle.td_gates.proofs.Places.{none-some, some-same, slice_get-some, slice_get-within, slice_get-map_some, slice_get-Contains}
use Rattle.td_gates.proofs.TableLaws.{AllAgree, table_known}
use Rattle.td_nets.specs.Netlist.{Name, Net, Low, High, Named, Gate, Netlist}
use Rattle.td_circuit.specs.Numbering.{NumberedGate, Numbered, nets, first_output, IsGateAt, IsNumbering}
use Rattle.td_circuit.specs.Run.{IsNetOf, IsSettled}
use Rattle.td_circuit.specs.NetValues.{net_level}
use Rattle.td_circuit.proofs.Nets.{number_of, each_net}
use Rattle.td_circuit.proofs.Values.{value_at}
use Rattle.td_run.proofs.Existence.{levels_exist}
use Rattle.td_run.proofs.Settled.{is_settled}
use Rattle.td_domain.specs.declared.cubes.Trit.{Trit}
use Rattle.td_domain.specs.Cubes.{AllowsBits, IsIn}
use Rattle.td_domain.specs.Pairs.{Pair}
use Rattle.td_domain.proofs.BitLemmas.{bit_known}
use Rattle.td_domain.proofs.Changing.{vectors_in}
use Rattle.td_spans.specs.declared.condition.Form.{Form}
use Rattle.td_spans.specs.declared.condition.Form.TheVariants.{Levels, Equal}
use Rattle.td_spans.specs.Lookups.{net_named}
use Rattle.td_refutation.specs.declared.conditions.NamedCondition.{NamedCondition}
use Rattle.td_refutation.specs.Asking.{net_at, Keeps, IsKept, first_levels, second_levels, levels_by, is_other, breaks, IsBroken, agrees, keeps, is_at, all_kept, some_broken}
use Rattle.td_refutation.proofs.Asking.{net_is_at}

-- ---- nets that numbers name

named_is : (names : List Name) (i : ℕ) (net : Net) → slice_get (map (λ (n : Name). Named n) names) i ≡ Some net
    → (name : Name) × (slice_get names i ≡ Some name) × (Named name ≡ net)
named_is [] i net at = absurd (none-some net at)
named_is (n ∷ names) zero net at = (n, refl, some-same (Named n) net at)
named_is (n ∷ names) (suc i) net at = named_is names i net at

-- the net that a number names is one of the netlist
net_of : (netlist : Netlist) (number : ℕ) (net : Net) → net_at netlist number ≡ Some net → IsNetOf netlist net
net_of netlist zero net at = subst (IsNetOf netlist) (some-same Low net at) tt
net_of netlist (suc zero) net at = subst (IsNetOf netlist) (some-same High net at) tt
net_of netlist (suc (suc i)) net at =
    let names : List Name = netlist.inputs ++ map (λ (gate : Gate). gate.output) netlist.gates in
    let it = named_is names i net at in
    subst (IsNetOf netlist) it.2 (slice_get-Contains names i it.0 it.1)

-- a number that names a net has one of the circuit
record IsNamed (circuit : Numbered) (number : ℕ) (net : Net) : Type 0 where
  n : ℕ
  names : net_named circuit number ≡ Some n
  here : slice_get (nets circuit) n ≡ Some net

module _ (circuit : Numbered) (numbering : IsNumbering circuit) where
  names_some : (number : ℕ) (net : Net) → net_at circuit.netlist number ≡ Some net → (n : ℕ) × (net_named circuit number ≡ Some n)
  names_some number net at = elim (cases_lt number (first_output circuit)) [
    | inl low ↦ (number, rw (lt-ltb number (first_output circuit) low) refl)
    | inr high ↦
        (let all : List Net = Low ∷ High ∷ map (λ (n : Name). Named n) (circuit.netlist.inputs ++ map (λ (gate : Gate). gate.output) circuit.netlist.gates) in
        let short : number < length all = slice_get-some all number net at in
        let below : number - first_output circuit < length circuit.gate_outputs =
        omega (
          arith,
          short,
          high,
          numbering.gate_outputs.count,
          length-map (circuit.netlist.inputs ++ map (λ (gate : Gate). gate.output) circuit.netlist.gates) (λ (n : Name). Named n),
          length-append circuit.netlist.inputs (map (λ (gate : Gate). gate.output) circuit.netlist.gates),
          length-map circuit.netlist.gates (λ (gate : Gate). gate.output),
          length-map circuit.netlist.gates (λ (gate : Gate). Named gate.output),
        ) in
        let there = slice_get-within circuit.gate_outputs (number - first_output circuit) below in
        (there.0, rw (le-ltb number (first_output circuit) high) there.1))
  ]

  is_named : (number : ℕ) (net : Net) → net_at circuit.netlist number ≡ Some net → IsNamed circuit number net
  is_named number net at =
      let some = names_some number net at in
      let it = net_is_at circuit numbering number some.0 some.1 in
      let same : it.net ≡ net = some-same it.net net (sym it.there ∙ at) in
      record { n = some.0; names = some.1; here = it.here ∙ ap (λ (n : Net). Some n) same }

-- ---- levels that are known

agree_at : (known levels : List Level) (i : ℕ) (a b : Level) → AllAgree known levels → slice_get known i ≡ Some a → slice_get levels i ≡ Some b → Agrees a b
agree_at [] levels i a b all at at' = absurd (none-some a at)
agree_at (k ∷ known) [] i a b all at at' = absurd (none-some b at')
agree_at (k ∷ known) (l ∷ levels) zero a b all at at' = subst (λ (x : Level). Agrees a x) (some-same l b at') (subst (λ (x : Level). Agrees x l) (some-same k a at) all.0)
agree_at (k ∷ known) (l ∷ levels) (suc i) a b all at at' = agree_at known levels i a b all.1 at at'

agree_all : (m n : Net → Level) (read : List Net) → ((i : ℕ) (net : Net) → slice_get read i ≡ Some net → Agrees (m net) (n net)) → AllAgree (map m read) (map n read)
agree_all m n [] each = tt
agree_all m n (net ∷ read) each = (each 0 net refl, agree_all m n read (λ i. each (suc i)))

agree_as : (a b c d : Level) → a ≡ b → c ≡ d → Agrees b d → Agrees a c
agree_as a b c d p q is = subst (λ (x : Level). Agrees x c) (sym p) (subst (Agrees b) (sym q) is)

module _ (circuit : Numbered) (numbering : IsNumbering circuit) (known levels : List Level) (m n : Net → Level)
    (known_settles : IsSettled circuit.netlist known m) (settles : IsSettled circuit.netlist levels n) (agree : AllAgree known levels) where
  agree_input : (i : ℕ) (name : Name) → slice_get circuit.netlist.inputs i ≡ Some name → Agrees (m (Named name)) (n (Named name))
  agree_input i name at =
      agree_at known levels i (m (Named name)) (n (Named name)) agree
      (ap (λ (ls : List Level). slice_get ls i) (sym known_settles.inputs) ∙ slice_get-map_some (λ (x : Name). m (Named x)) circuit.netlist.inputs i name at)
      (ap (λ (ls : List Level). slice_get ls i) (sym settles.inputs) ∙ slice_get-map_some (λ (x : Name). n (Named x)) circuit.netlist.inputs i name at)

  agree_gate : (place : ℕ) (numbered : NumberedGate) (gate : Gate) → slice_get circuit.gates place ≡ Some numbered
      → Contains circuit.netlist.gates gate → IsGateAt circuit place numbered gate
      → ((i number : ℕ) (net : Net) → slice_get numbered.inputs i ≡ Some number → slice_get gate.inputs i ≡ Some net → Agrees (m net) (n net))
      → Agrees (m (Named gate.output)) (n (Named gate.output))
  agree_gate place numbered gate at has is read =
      agree_as (m (Named gate.output)) (table gate.kind (map m gate.inputs)) (n (Named gate.output)) (table gate.kind (map n gate.inputs))
      (All-contains (λ (g : Gate). m (Named g.output) ≡ table g.kind (map m g.inputs)) circuit.netlist.gates gate known_settles.gates has)
      (All-contains (λ (g : Gate). n (Named g.output) ≡ table g.kind (map n g.inputs)) circuit.netlist.gates gate settles.gates has)
      (table_known gate.kind (map m gate.inputs) (map n gate.inputs) (agree_all m n gate.inputs (λ i net at_net.
      let number = slice_get-within numbered.inputs i (let low = slice_get-some gate.inputs i net at_net in omega (arith, low, is.inputs.count)) in
      read i number.0 net number.1 at_net)))

  -- where the inputs are as known, all nets settle as known
  agree_net : (i : ℕ) (net : Net) → slice_get (nets circuit) i ≡ Some net → Agrees (m net) (n net)
  agree_net i net at =
      each_net circuit numbering (λ (net : Net) (number : ℕ). Agrees (m net) (n net))
      (λ known. settles.low ∙ sym known_settles.low) (λ known. settles.high ∙ sym known_settles.high)
      agree_input agree_gate i net at

-- ---- a cube that breaks a condition

firsts_agree : (cube : List Trit) (before after : List Bool) → AllowsBits cube before after → AllAgree (first_levels cube) (map level_from before)
firsts_agree [] [] [] is = tt
firsts_agree [] [] (b ∷ after) is = absurd is
firsts_agree [] (a ∷ before) after is = absurd is
firsts_agree (p ∷ []) before after is = absurd is
firsts_agree (p ∷ q ∷ cube) [] after is = absurd is
firsts_agree (p ∷ q ∷ cube) (a ∷ before) [] is = absurd is
firsts_agree (p ∷ q ∷ cube) (a ∷ before) (b ∷ after) is = (bit_known p a is.0, firsts_agree cube before after is.2)

seconds_agree : (cube : List Trit) (before after : List Bool) → AllowsBits cube before after → AllAgree (second_levels cube) (map level_from after)
seconds_agree [] [] [] is = tt
seconds_agree [] [] (b ∷ after) is = absurd is
seconds_agree [] (a ∷ before) after is = absurd is
seconds_agree (p ∷ []) before after is = absurd is
seconds_agree (p ∷ q ∷ cube) [] after is = absurd is
seconds_agree (p ∷ q ∷ cube) (a ∷ before) [] is = absurd is
seconds_agree (p ∷ q ∷ cube) (a ∷ before) (b ∷ after) is = (bit_known q b is.1, seconds_agree cube before after is.2)

never_both : Zero ≡ One → ⊥
never_both is = absurd (let wrong : Zero ≡ One = is in cc)

-- a level that is as two levels are that differ
other_agrees : (this that level : Level) → is_other this that ≡ true → Agrees this level → Agrees that level → ⊥
other_agrees Zero One level is this that = never_both (sym (this (λ e. cc)) ∙ that (λ e. cc))
other_agrees One Zero level is this that = never_both (sym (that (λ e. cc)) ∙ this (λ e. cc))
other_agrees Zero Zero level is this that = absurd (let wrong : false ≡ true = is in cc)
other_agrees One One level is this that = absurd (let wrong : false ≡ true = is in cc)
other_agrees Zero X level is this that = absurd (let wrong : false ≡ true = is in cc)
other_agrees One X level is this that = absurd (let wrong : false ≡ true = is in cc)
other_agrees X that' level is this that = absurd (let wrong : false ≡ true = is in cc)

or_true : {Z : Type 0} (a b : Bool) → (a || b) ≡ true → (a ≡ true → Z) → (b ≡ true → Z) → Z
or_true true b is one other = one refl
or_true false b is one other = other is

-- levels that a condition has are not known to break it
kept_breaks : (form : Form) (before after b a : Level) → Agrees before b → Agrees after a → Keeps form b a → breaks form before after ≡ true → ⊥
kept_breaks (Levels first second) before after b a one two kept is =
    or_true (is_other first before) (is_other second after) is
    (λ first_is. other_agrees first before b first_is kept.0 one)
    (λ second_is. other_agrees second after a second_is kept.1 two)
kept_breaks Equal before after b a one two kept is = other_agrees before after a is (subst (Agrees before) kept one) two

settled_exists : (circuit : Numbered) → IsNumbering circuit → (vector : List Level) → length vector ≡ length circuit.netlist.inputs
    → (levels : Net → Level) × IsSettled circuit.netlist vector levels
settled_exists circuit numbering vector fits =
    let made = levels_exist circuit vector numbering fits (length circuit.gates) (omega arith) in
    (net_level (nets circuit) made.0, is_settled circuit vector numbering fits made.0 made.1 made.2)

-- no pair of a cube that breaks a condition keeps all
pub none_kept : (circuit : Numbered) → IsNumbering circuit → (keep : List NamedCondition) (cube : List Trit) (pair : Pair)
    → length cube ≡ 2 * length circuit.netlist.inputs → IsIn pair cube → IsKept circuit.netlist keep pair → IsBroken circuit.netlist keep cube → ⊥
none_kept circuit numbering keep cube pair whole is_in kept broken =
    let long = vectors_in (length circuit.netlist.inputs) cube pair.first pair.second whole is_in in
    let b = settled_exists circuit numbering (map level_from pair.first) (length-map pair.first level_from ∙ long.0) in
    let a = settled_exists circuit numbering (map level_from pair.second) (length-map pair.second level_from ∙ long.1) in
    let there = number_of circuit numbering broken.net (net_of circuit.netlist broken.condition.net broken.net broken.named) in
    kept_breaks broken.condition.form (broken.before broken.net) (broken.after broken.net) (b.0 broken.net) (a.0 broken.net)
    (agree_net circuit numbering (first_levels cube) (map level_from pair.first) broken.before b.0 broken.starts b.1 (firsts_agree cube pair.first pair.second is_in)
    there.0 broken.net there.1)
    (agree_net circuit numbering (second_levels cube) (map level_from pair.second) broken.after a.0 broken.ends a.1 (seconds_agree cube pair.first pair.second is_in)
    there.0 broken.net there.1)
    (kept b.0 a.0 b.1 a.1 broken.place broken.condition broken.net broken.stands broken.named) broken.broken

-- ---- the tests

-- the levels of all nets, as code has them
pub record AreLevels (circuit : Numbered) (vector : List Level) (levels : List Level) : Type 0 where
  pub settled : IsSettled circuit.netlist vector (net_level (nets circuit) levels)
  pub only : (other : Net → Level) (net : Net) → IsSettled circuit.netlist vector other → IsNetOf circuit.netlist net
      → other net ≡ net_level (nets circuit) levels net
  pub count : length levels ≡ length (nets circuit)

level_eq_is : (a b : Level) → level_eq a b ≡ true → a ≡ b
level_eq_is Zero Zero is = refl
level_eq_is One One is = refl
level_eq_is X X is = refl
level_eq_is Zero One is = absurd (let wrong : false ≡ true = is in cc)
level_eq_is Zero X is = absurd (let wrong : false ≡ true = is in cc)
level_eq_is One Zero is = absurd (let wrong : false ≡ true = is in cc)
level_eq_is One X is = absurd (let wrong : false ≡ true = is in cc)
level_eq_is X Zero is = absurd (let wrong : false ≡ true = is in cc)
level_eq_is X One is = absurd (let wrong : false ≡ true = is in cc)

level_eq_same : (a : Level) → level_eq a a ≡ true
level_eq_same Zero = refl
level_eq_same One = refl
level_eq_same X = refl

agrees_is : (known level : Level) → agrees known level ≡ true → Agrees known level
agrees_is X level is = λ some. absurd (some refl)
agrees_is Zero level is = λ some. sym (level_eq_is Zero level is)
agrees_is One level is = λ some. sym (level_eq_is One level is)

is_agrees : (known level : Level) → Agrees known level → agrees known level ≡ true
is_agrees X level is = refl
is_agrees Zero level is = ap (level_eq Zero) (is (λ e. cc))
is_agrees One level is = ap (level_eq One) (is (λ e. cc))

both_true : (a b : Bool) → a ≡ true → b ≡ true → (a && b) ≡ true
both_true true b one two = two
both_true false b one two = absurd (let wrong : false ≡ true = one in cc)

keeps_is : (form : Form) (before after : Level) → keeps form before after ≡ true → Keeps form before after
keeps_is (Levels first second) before after is =
    let parts = and_parts (agrees first before) (agrees second after) is in
    (agrees_is first before parts.0, agrees_is second after parts.1)
keeps_is Equal before after is = level_eq_is before after is

is_keeps : (form : Form) (before after : Level) → Keeps form before after → keeps form before after ≡ true
is_keeps (Levels first second) before after is =
    both_true (agrees first before) (agrees second after) (is_agrees first before is.0) (is_agrees second after is.1)
is_keeps Equal before after is = ap (level_eq before) (sym is) ∙ level_eq_same before

all_kept_at : (circuit : Numbered) (before after : List Level) (keep : List NamedCondition) → all_kept circuit before after keep ≡ true
    → (i : ℕ) (c : NamedCondition) → slice_get keep i ≡ Some c → is_at keeps true c.form before after (net_named circuit c.net) ≡ true
all_kept_at circuit before after [] all i c at = absurd (none-some c at)
all_kept_at circuit before after (first ∷ keep) all zero c at =
    subst (λ (it : NamedCondition). is_at keeps true it.form before after (net_named circuit it.net) ≡ true) (some-same first c at)
    (and_parts (is_at keeps true first.form before after (net_named circuit first.net)) (all_kept circuit before after keep) all).0
all_kept_at circuit before after (first ∷ keep) all (suc i) c at =
    all_kept_at circuit before after keep
    (and_parts (is_at keeps true first.form before after (net_named circuit first.net)) (all_kept circuit before after keep) all).1 i c at

kept_all : (circuit : Numbered) (before after : List Level) (keep : List NamedCondition)
    → ((i : ℕ) (c : NamedCondition) → slice_get keep i ≡ Some c → is_at keeps true c.form before after (net_named circuit c.net) ≡ true)
    → all_kept circuit before after keep ≡ true
kept_all circuit before after [] each = refl
kept_all circuit before after (first ∷ keep) each =
    both_true (is_at keeps true first.form before after (net_named circuit first.net)) (all_kept circuit before after keep)
    (each 0 first refl) (kept_all circuit before after keep (λ i. each (suc i)))

-- a test that holds of a named net
at_some : (test : Form → Level → Level → Bool) (none : Bool) (form : Form) (before after : List Level) (o : Option ℕ) (n : ℕ) → o ≡ Some n
    → is_at test none form before after o ≡ test form (get_or before n X) (get_or after n X)
at_some test none form before after o n is = ap (is_at test none form before after) is

module _ (circuit : Numbered) (numbering : IsNumbering circuit) (first second before after : List Level)
    (starts : AreLevels circuit first before) (ends : AreLevels circuit second after) where
  before_at : (n : ℕ) (net : Net) → slice_get (nets circuit) n ≡ Some net → net_level (nets circuit) before net ≡ get_or before n X
  before_at n net at = value_at X circuit numbering before starts.count n net at

  after_at : (n : ℕ) (net : Net) → slice_get (nets circuit) n ≡ Some net → net_level (nets circuit) after net ≡ get_or after n X
  after_at n net at = value_at X circuit numbering after ends.count n net at

  test_at : (test : Form → Level → Level → Bool) (none : Bool) (c : NamedCondition) (net : Net) → net_at circuit.netlist c.net ≡ Some net
      → is_at test none c.form before after (net_named circuit c.net) ≡ test c.form (net_level (nets circuit) before net) (net_level (nets circuit) after net)
  test_at test none c net at =
      let it = is_named circuit numbering c.net net at in
      at_some test none c.form before after (net_named circuit c.net) it.n it.names
      ∙ ap (λ (l : Level). test c.form l (get_or after it.n X)) (sym (before_at it.n net it.here))
      ∙ ap (test c.form (net_level (nets circuit) before net)) (sym (after_at it.n net it.here))

  same_test : (test : Form → Level → Level → Bool) (form : Form) (b a : Net → Level) (net : Net) → IsSettled circuit.netlist first b → IsSettled circuit.netlist second a
      → IsNetOf circuit.netlist net → test form (b net) (a net) ≡ test form (net_level (nets circuit) before net) (net_level (nets circuit) after net)
  same_test test form b a net one two is =
      ap (λ (l : Level). test form l (a net)) (starts.only b net one is) ∙ ap (test form (net_level (nets circuit) before net)) (ends.only a net two is)

  pub tests_keep : (keep : List NamedCondition) (pair : Pair) → first ≡ map level_from pair.first → second ≡ map level_from pair.second
      → all_kept circuit before after keep ≡ true → IsKept circuit.netlist keep pair
  tests_keep keep pair p q all = λ b a one two i c net at named.
      keeps_is c.form (b net) (a net)
      (same_test keeps c.form b a net (subst (λ (v : List Level). IsSettled circuit.netlist v b) (sym p) one)
      (subst (λ (v : List Level). IsSettled circuit.netlist v a) (sym q) two) (net_of circuit.netlist c.net net named)
      ∙ sym (test_at keeps true c net named) ∙ all_kept_at circuit before after keep all i c at)

  pub kept_tests : (keep : List NamedCondition) (pair : Pair) → first ≡ map level_from pair.first → second ≡ map level_from pair.second
      → IsKept circuit.netlist keep pair → all_kept circuit before after keep ≡ true
  kept_tests keep pair p q kept = kept_all circuit before after keep (λ i c at. by_net (net_named circuit c.net) i c refl at)
    where
      by_net : (o : Option ℕ) (i : ℕ) (c : NamedCondition) → net_named circuit c.net ≡ o → slice_get keep i ≡ Some c
          → is_at keeps true c.form before after o ≡ true
      by_net None i c is at = refl
      by_net (Some n) i c is at =
          let it = net_is_at circuit numbering c.net n is in
          ap (λ (l : Level). keeps c.form l (get_or after n X)) (sym (before_at n it.net it.here))
          ∙ ap (keeps c.form (net_level (nets circuit) before it.net)) (sym (after_at n it.net it.here))
          ∙ is_keeps c.form (net_level (nets circuit) before it.net) (net_level (nets circuit) after it.net)
          (kept (net_level (nets circuit) before) (net_level (nets circuit) after)
          (subst (λ (v : List Level). IsSettled circuit.netlist v (net_level (nets circuit) before)) p starts.settled)
          (subst (λ (v : List Level). IsSettled circuit.netlist v (net_level (nets circuit) after)) q ends.settled) i c it.net at it.there)

  -- ---- what is broken

  record IsBrokenAt (keep : List NamedCondition) : Type 0 where
    place : ℕ
    c : NamedCondition
    stands : slice_get keep place ≡ Some c
    is : is_at breaks false c.form before after (net_named circuit c.net) ≡ true

  later_broken : (c : NamedCondition) (keep : List NamedCondition) → IsBrokenAt keep → IsBrokenAt (c ∷ keep)
  later_broken c keep it = record { place = suc it.place; c = it.c; stands = it.stands; is = it.is }

  some_at : (keep : List NamedCondition) → some_broken circuit before after keep ≡ true → IsBrokenAt keep
  some_at [] some = absurd (let wrong : false ≡ true = some in cc)
  some_at (c ∷ keep) some =
      or_true (is_at breaks false c.form before after (net_named circuit c.net)) (some_broken circuit before after keep) some
      (λ here. record { place = 0; c = c; stands = refl; is = here })
      (λ there. later_broken c keep (some_at keep there))

  at_some_place : (keep : List NamedCondition) (i : ℕ) (c : NamedCondition) → slice_get keep i ≡ Some c
      → is_at breaks false c.form before after (net_named circuit c.net) ≡ true → some_broken circuit before after keep ≡ true
  at_some_place [] i c at is = absurd (none-some c at)
  at_some_place (first ∷ keep) zero c at is =
      ap (λ (b : Bool). b || some_broken circuit before after keep)
      (subst (λ (it : NamedCondition). is_at breaks false it.form before after (net_named circuit it.net) ≡ true) (sym (some-same first c at)) is)
  at_some_place (first ∷ keep) (suc i) c at is =
      or_last (is_at breaks false first.form before after (net_named circuit first.net)) (some_broken circuit before after keep) (at_some_place keep i c at is)
    where
      or_last : (a b : Bool) → b ≡ true → (a || b) ≡ true
      or_last true b is = refl
      or_last false b is = is

  -- a condition that is broken is on a net
  broken_net : (c : NamedCondition) (o : Option ℕ) → net_named circuit c.net ≡ o → is_at breaks false c.form before after o ≡ true
      → (net : Net) × (net_at circuit.netlist c.net ≡ Some net) × (breaks c.form (net_level (nets circuit) before net) (net_level (nets circuit) after net) ≡ true)
  broken_net c None is broken = absurd (let wrong : false ≡ true = broken in cc)
  broken_net c (Some n) is broken =
      let it = net_is_at circuit numbering c.net n is in
      (it.net, it.there, sym (test_at breaks false c it.net it.there) ∙ ap (is_at breaks false c.form before after) is ∙ broken)

  pub tests_break : (keep : List NamedCondition) (cube : List Trit) → first ≡ first_levels cube → second ≡ second_levels cube
      → some_broken circuit before after keep ≡ true → IsBroken circuit.netlist keep cube
  tests_break keep cube p q some =
      let it = some_at keep some in
      let net = broken_net it.c (net_named circuit it.c.net) refl it.is in
      record {
        before = net_level (nets circuit) before;
        after = net_level (nets circuit) after;
        starts = subst (λ (v : List Level). IsSettled circuit.netlist v (net_level (nets circuit) before)) p starts.settled;
        ends = subst (λ (v : List Level). IsSettled circuit.netlist v (net_level (nets circuit) after)) q ends.settled;
        place = it.place;
        condition = it.c;
        net = net.0;
        stands = it.stands;
        named = net.1;
        broken = net.2;
      }

  pub broken_tests : (keep : List NamedCondition) (cube : List Trit) → first ≡ first_levels cube → second ≡ second_levels cube
      → IsBroken circuit.netlist keep cube → some_broken circuit before after keep ≡ true
  broken_tests keep cube p q it =
      at_some_place keep it.place it.condition it.stands
      (test_at breaks false it.condition it.net it.named
      ∙ sym (same_test breaks it.condition.form it.before it.after it.net (subst (λ (v : List Level). IsSettled circuit.netlist v it.before) (sym p) it.starts)
      (subst (λ (v : List Level). IsSettled circuit.netlist v it.after) (sym q) it.ends) (net_of circuit.netlist it.condition.net it.net it.named))
      ∙ it.broken)

-- ---- lengths

long_firsts : (n : ℕ) (cube : List Trit) → length cube ≡ 2 * n → length (first_levels cube) ≡ n
long_firsts n [] whole = omega (arith, whole)
long_firsts n (p ∷ []) whole = absurd (omega (arith, whole))
long_firsts zero (p ∷ q ∷ cube) whole = absurd (omega (arith, whole))
long_firsts (suc n) (p ∷ q ∷ cube) whole = ap suc (long_firsts n cube (omega (arith, whole)))

long_seconds : (n : ℕ) (cube : List Trit) → length cube ≡ 2 * n → length (second_levels cube) ≡ n
long_seconds n [] whole = omega (arith, whole)
long_seconds n (p ∷ []) whole = absurd (omega (arith, whole))
long_seconds zero (p ∷ q ∷ cube) whole = absurd (omega (arith, whole))
long_seconds (suc n) (p ∷ q ∷ cube) whole = ap suc (long_seconds n cube (omega (arith, whole)))

pub long_levels : (second : Bool) (circuit : Numbered) (cube : List Trit) → length cube ≡ 2 * length circuit.netlist.inputs
    → length (levels_by second cube) ≡ length circuit.netlist.inputs
long_levels true circuit cube whole = long_seconds (length circuit.netlist.inputs) cube whole
long_levels false circuit cube whole = long_firsts (length circuit.netlist.inputs) cube whole
