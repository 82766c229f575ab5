-- Worked rows: an inverter that rises in 2 steps and falls in 3, and its certificate of one leaf.
use Rattle.std.proofs.Common.{◌≡◌, ◌≢◌, ◌≤◌, ◌+◌, ◌*◌, ◌-◌, ℕ, zero, suc, Bool, true, false, List, [], ◌∷◌, map, Some, None, refl, sym, ap, ◌∙◌, arith}
use Rattle.std.specs.Prelude.{codes, nat_lt, slice_get, if◌then◌else◌}
use Rattle.std.specs.List.{AllByRecursion}
use Rattle.std.proofs.lemmas.Bool.{le-leb, le-ltb}
use Rattle.std.proofs.lemmas.List.Elements.{All-from_recursion, recursion_from_All}
use Rattle.td_gates.specs.declared.primitives.Level.{Level}
use Rattle.td_gates.specs.declared.primitives.Level.TheVariants as level
use Rattle.td_gates.specs.declared.primitives.Kind.TheVariants.{Not}
use Rattle.td_gates.specs.declared.timing.Delay.{Delay}
use Rattle.td_gates.specs.Wave.{Wave, at, before, IsWave}
use Rattle.td_gates.specs.Schedule.{target_before, Obeys}
use Rattle.td_gates.specs.WindowRule.{HeldFor}
use Rattle.td_gates.specs.Table.{delay_to, table}
use Rattle.td_gates.proofs.Windows.{Obeys-from_MeetsWindows}
use Rattle.td_nets.specs.declared.netlist.Scale.TheVariants as scale
use Rattle.td_nets.specs.Names.{name_eq}
use Rattle.td_nets.specs.Netlist.{Name, Net, Low, High, Named, Gate, Netlist}
use Rattle.td_circuit.specs.Settings.{Setting}
use Rattle.td_circuit.specs.Run.{IsDelayOfBits}
use Rattle.td_domain.specs.declared.cubes.Trit.{Trit}
use Rattle.td_domain.specs.declared.cubes.Trit.TheVariants.{Zero, One, Free}
use Rattle.td_domain.specs.Pairs.{Pair}
use Rattle.td_domain.specs.Cubes.{AllowsBits, IsIn}
use Rattle.td_domain.specs.Admits.{Admitted, flips_of, IsAdmitted}
use Rattle.td_arrival.specs.Arrivals.{input_signal, constant_signal, gate_signal}
use Rattle.td_arrival.specs.declared.signals.Signal.{Signal}
use Rattle.td_certificate.specs.declared.tree.BoundedBy.TheVariants as by
use Rattle.td_certificate.specs.declared.tree.Node.TheVariants as node
use Rattle.td_certificate.specs.declared.certificate.Certificate.{Certificate}
use Rattle.td_certificate.specs.declared.question.Version.TheVariants.{First, Second, Third, Fourth}
use Rattle.td_gates.proofs.Places.{none-some}
use Rattle.td_refutation.specs.Asking.{all_admitted}
use Rattle.td_refutation.proofs.Asking.{nothing_kept}
use Rattle.td_certificate.specs.Questions.{Question, version_of, all_at_once, asking_of}
use Rattle.td_certificate.specs.Spelling.{version_in}
use Rattle.td_certificate.specs.Accepts.{IsBounded, IsGood, Accepts}
use Rattle.td_certificate.proofs.VectorCodes.{some_of, none_not}

abbrev delay : Delay
delay = record { rise = 2; fall = 3 }

abbrev a : Name
a = record { text = codes "a"; bit = None }

abbrev y : Name
y = record { text = codes "y"; bit = None }

abbrev inverter : Netlist
inverter = record {
  name = codes "t";
  inputs = a ∷ [];
  outputs = y ∷ [];
  gates = record { kind = Not; delay = delay; output = y; inputs = Named a ∷ [] } ∷ [];
  unit = record { magnitude = 1; scale = scale.Nanoseconds };
  defaulted = 0;
}

-- its input changes at moment 0
abbrev given : Setting
given = record { netlist = inverter; moments = 0 ∷ [] }

-- ---- the run of 0 and 1: the output falls at 3

abbrev rises : Wave
rises = record { start = level.Zero; changes = record { moment = 0; level = level.One } ∷ [] }

abbrev falls : Wave
falls = record { start = level.One; changes = record { moment = 3; level = level.Zero } ∷ [] }

abbrev waves : Net → Wave
waves Low = record { start = level.Zero; changes = [] }
waves High = record { start = level.One; changes = [] }
waves (Named name) = if name_eq name a then rises else falls

not_before : (n : ℕ) → nat_lt n 0 ≡ false
not_before n = le-ltb n 0 (omega arith)

risen : (n : ℕ) → at rises n ≡ level.One
risen n = rw (le-leb 0 n (omega arith)) refl

-- after moment 0 the target is 0
later : (n : ℕ) → target_before Not (rises ∷ []) (suc n) ≡ level.Zero
later n = ap (λ l. table Not (l ∷ [])) (risen n)

not_one : {X : Type 0} (n : ℕ) → target_before Not (rises ∷ []) (suc n) ≡ level.One → X
not_one n e = absurd (let h = later n in cc)

not_unknown : {X : Type 0} (n : ℕ) → target_before Not (rises ∷ []) n ≡ level.X → X
not_unknown zero e = absurd cc
not_unknown (suc n) e = absurd (let h = later n in cc)

early : {X : Type 0} → target_before Not (rises ∷ []) 0 ≡ level.Zero → X
early e = absurd cc

fallen : (n : ℕ) → 3 ≤ n → at falls n ≡ level.Zero
fallen n le = rw (le-leb 3 n le) refl

taken : (t : ℕ) (taken : Level) → HeldFor Not (rises ∷ []) taken (delay_to delay taken) t → at falls t ≡ taken
taken t level.X held =
    let same : t - 0 ≡ t = omega arith in
    not_unknown t (rw same at (held 0 (omega arith)))
taken zero level.One held = refl
taken (suc n) level.One held =
    let same : suc n - 0 ≡ suc n = omega arith in
    not_one n (rw same at (held 0 (omega arith)))
taken zero level.Zero held = early (held 0 (omega arith))
taken (suc zero) level.Zero held = early (held 1 (omega arith))
taken (suc (suc zero)) level.Zero held = early (held 2 (omega arith))
taken (suc (suc (suc n))) level.Zero held = fallen (suc (suc (suc n))) (omega arith)

held_at_three : HeldFor Not (rises ∷ []) level.Zero 3 3
held_at_three zero less = later 2
held_at_three (suc zero) less = later 1
held_at_three (suc (suc zero)) less = later 0
held_at_three (suc (suc (suc k))) less = absurd (omega (arith, less))

kept : (t : ℕ) → ((other : Level) → ¬ HeldFor Not (rises ∷ []) other (delay_to delay other) t) → at falls t ≡ before falls t
kept zero none = refl
kept (suc zero) none = refl
kept (suc (suc zero)) none = refl
kept (suc (suc (suc zero))) none = absurd (none level.Zero held_at_three)
kept (suc (suc (suc (suc n)))) none =
    fallen (suc (suc (suc (suc n)))) (omega arith) ∙ sym (fallen (suc (suc (suc n))) (omega arith))

obeys : Obeys Not delay (rises ∷ []) falls
obeys =
    Obeys-from_MeetsWindows Not delay
    (record { least_rise = omega arith; greatest_rise = omega arith; least_fall = omega arith; greatest_fall = omega arith })
    (rises ∷ []) falls (record { opening = refl; taken = taken; kept = kept })

are_waves : (net : Net) → IsWave (waves net)
are_waves Low = tt
are_waves High = tt
are_waves (Named name) = elim (name_eq name a) as (λ is. IsWave (if is then rises else falls)) [
  | true ↦ (omega arith, λ e. cc, tt)
  | false ↦ (omega arith, λ e. cc, tt)
]

has_delay : IsDelayOfBits given (false ∷ []) (true ∷ []) 3
has_delay =
    let settled : AllByRecursion (λ (gate : Gate). (waves (Named gate.output)).start ≡ table gate.kind (map (λ net. (waves net).start) gate.inputs)) inverter.gates = (refl, tt) in
    let obey : AllByRecursion (λ (gate : Gate). Obeys gate.kind gate.delay (map waves gate.inputs) (waves (Named gate.output))) inverter.gates = (obeys, tt) in
    record {
      waves = waves;
      runs = record {
        are_waves = are_waves;
        settled = record {
          low = refl;
          high = refl;
          inputs = refl;
          gates = All-from_recursion (λ (gate : Gate). (waves (Named gate.output)).start ≡ table gate.kind (map (λ net. (waves net).start) gate.inputs)) inverter.gates settled;
        };
        inputs = λ t. rw (not_before t, risen t) refl;
        low = refl;
        high = refl;
        gates = All-from_recursion (λ (gate : Gate). Obeys gate.kind gate.delay (map waves gate.inputs) (waves (Named gate.output))) inverter.gates obey;
      };
      is_latest = refl;
    }

-- ---- the bound of all pairs: the output may change from 2 to 3

abbrev signals : Net → Signal
signals Low = constant_signal false
signals High = constant_signal true
signals (Named name) =
    if name_eq name a then input_signal Free Free 0
    else record { start = level.X; finish = level.X; changes = Some (record { earliest = 2; latest = 3 }) }

some_is : {A : Type 0} (x z : A) → some_of x ≡ some_of z → x ≡ z
some_is x z e = cc

input_signals : (i : ℕ) (name : Name) (first second : Trit) (moment : ℕ) → slice_get (a ∷ []) i ≡ Some name
    → slice_get (Free ∷ Free ∷ []) (2 * i) ≡ Some first → slice_get (Free ∷ Free ∷ []) (2 * i + 1) ≡ Some second → slice_get (0 ∷ []) i ≡ Some moment
    → signals (Named name) ≡ input_signal first second moment
input_signals zero name first second moment e f g h =
    let named : a ≡ name = some_is a name e in
    let one : Free ≡ first = some_is Free first f in
    let two : Free ≡ second = some_is Free second g in
    let three : 0 ≡ moment = some_is 0 moment h in
    ap (λ n. signals (Named n)) (sym named) ∙ ap (λ t. input_signal t Free 0) one ∙ ap (λ t. input_signal first t 0) two ∙ ap (λ m. input_signal first second m) three
input_signals (suc i) name first second moment e f g h = none_not name e

is_bounded : IsBounded by.Arrival given (Free ∷ Free ∷ []) 3
is_bounded = record {
  bound = 3;
  is = record {
    signals = signals;
    are_signals = record { low = refl; high = refl; inputs = input_signals; gates = All-from_recursion (λ (gate : Gate). signals (Named gate.output) ≡ gate_signal gate.kind gate.delay (map signals gate.inputs)) inverter.gates (refl, tt) };
    is_greatest = refl;
  };
  within = omega arith;
}

-- ---- the certificate of one leaf

abbrev question : Question
question = all_at_once 1

abbrev certificate : ℕ → Certificate
certificate bound = record {
  gates = 1;
  question = question;
  claim = Some (record { time = 3; high = 3; pair = record { first = false ∷ []; second = true ∷ [] } });
  tree = node.Bound by.Arrival bound ∷ [];
}

-- all pairs are admitted, so that its text is of the first version
is_first : version_of question ≡ First
is_first = refl

in_first : version_in (certificate 3) ≡ First
in_first = refl

-- with terms it is of the fourth, whatever is asked
abbrev edged : Certificate
edged = record {
  gates = 1;
  question = record { admit = question.admit; moments = question.moments; terms = Some (record { default = record { rise = 1; fall = 1 }; outputs = None; keep = [] }) };
  claim = Some (record { time = 3; high = 3; pair = record { first = false ∷ []; second = true ∷ [] } });
  tree = node.Bound by.Edges 3 ∷ [];
}

in_fourth : version_in edged ≡ Fourth
in_fourth = refl

-- with 3 it is accepted
accepted : Accepts inverter (certificate 3)
accepted = record {
  size = record { inputs = refl; gates = refl; pins = refl; fit = refl };
  admitted = record {
    admitted = record { pinned = (tt, tt, tt); held = (λ e. absurd cc, tt); few = omega arith };
    kept = nothing_kept inverter (record { first = false ∷ []; second = true ∷ [] });
  };
  reached = has_delay;
  tree = refl;
  good = (record { splits = tt; enough = tt; one_pair = tt; of_cube = is_bounded; within = omega arith }, tt);
}

-- a leaf with 2 is below the bound, and no good line
two_is_low : ¬ IsGood given (asking_of question) (Some 3) (record { cube = Free ∷ Free ∷ []; node = node.Bound by.Arrival 2 })
two_is_low good =
    let least = good.of_cube in
    let are = least.is.are_signals in
    let input : least.is.signals (Named a) ≡ input_signal Free Free 0 = are.inputs 0 a Free Free 0 refl refl refl refl in
    let gate : least.is.signals (Named y) ≡ gate_signal Not delay (least.is.signals (Named a) ∷ []) = (recursion_from_All (λ (gate : Gate). least.is.signals (Named gate.output) ≡ gate_signal gate.kind gate.delay (map least.is.signals gate.inputs)) inverter.gates are.gates).0 in
    let output : least.is.signals (Named y) ≡ gate_signal Not delay (input_signal Free Free 0 ∷ []) =
    gate ∙ ap (λ s. gate_signal Not delay (s ∷ [])) input in
    let three : least.bound ≡ 3 = some_is least.bound 3 (rw output at least.is.is_greatest) in
    omega (arith, three, least.within)

-- nor is a leaf with 4, above the time
four_is_high : ¬ IsGood given (asking_of question) (Some 3) (record { cube = Free ∷ Free ∷ []; node = node.Bound by.Arrival 4 })
four_is_high good = omega (arith, good.within)

-- nor a leaf of one pair where something is free
not_one_pair : ¬ IsGood given (asking_of question) (Some 3) (record { cube = Free ∷ Free ∷ []; node = node.Point 3 })
not_one_pair good = (recursion_from_All (λ (trit : Trit). trit ≢ Free) (Free ∷ Free ∷ []) good.one_pair).0 refl

-- nor a leaf without an admitted pair where one lies
not_empty : ¬ IsGood given (asking_of question) (Some 3) (record { cube = Free ∷ Free ∷ []; node = node.Empty })
not_empty good =
    good.of_cube (
      (record { first = false ∷ []; second = false ∷ [] }, record { pinned = (tt, tt, tt); held = (λ e. absurd cc, tt); few = omega arith }, (tt, tt, tt)),
      λ broken. none-some broken.condition broken.stands,
    )

-- without flips no pair lies in the cube of 0 and 1
abbrev still : Admitted
still = record { pins = Free ∷ Free ∷ []; held = false ∷ []; flips = 0 }

no_flip : (pair : Pair) → IsAdmitted still pair → ¬ IsIn pair (Zero ∷ One ∷ [])
no_flip pair admitted is_in = let few = admitted.few in no_pair pair.first pair.second few is_in
  where
    no_pair : (before after : List Bool) → flips_of before after ≤ 0 → ¬ AllowsBits (Zero ∷ One ∷ []) before after
    no_pair [] after few h = absurd h
    no_pair (a ∷ before) [] few h = absurd h
    no_pair (true ∷ before) (b ∷ after) few h = absurd h.0
    no_pair (false ∷ before) (false ∷ after) few h = absurd h.1
    no_pair (false ∷ before) (true ∷ after) few h = absurd (omega (arith, few))

is_empty : IsGood given (all_admitted still) (Some 3) (record { cube = Zero ∷ One ∷ []; node = node.Empty })
is_empty = record { splits = tt; enough = tt; one_pair = tt; of_cube = λ may. no_flip may.0.0 may.0.1 may.0.2; within = tt }

-- a certificate that no pair is admitted: the pins are 0 and 1, and no flip is allowed
abbrev apart : Certificate
apart = record {
  gates = 1;
  question = record {
    admit = record { pins = Zero ∷ One ∷ []; held = false ∷ []; flips = 0 };
    moments = 0 ∷ [];
    terms = Some (record { default = record { rise = 1; fall = 1 }; outputs = None; keep = [] });
  };
  claim = None;
  tree = node.Empty ∷ [];
}

apart_accepted : Accepts inverter apart
apart_accepted = record {
  size = record { inputs = refl; gates = refl; pins = refl; fit = refl };
  admitted = tt;
  reached = tt;
  tree = refl;
  good = (
    record {
      splits = tt;
      enough = tt;
      one_pair = tt;
      of_cube = λ may. no_flip may.0.0 (record { pinned = tt_pinned may.0.0 may.0.2; held = may.0.1.held; few = may.0.1.few }) may.0.2;
      within = tt;
    },
    tt,
  );
}
  where
    tt_pinned : (pair : Pair) → IsIn pair (Zero ∷ One ∷ []) → IsIn pair (Free ∷ Free ∷ [])
    tt_pinned pair is_in = free pair.first pair.second is_in
      where
        free : (before after : List Bool) → AllowsBits (Zero ∷ One ∷ []) before after → AllowsBits (Free ∷ Free ∷ []) before after
        free [] after h = absurd h
        free (a ∷ before) [] h = absurd h
        free (a ∷ before) (b ∷ after) h = (tt, tt, h.2)

-- there a leaf with a number is no good line
too_little : ¬ IsGood given (asking_of question) None (record { cube = Free ∷ Free ∷ []; node = node.Bound by.Arrival 3 })
too_little good = good.enough

-- such pairs are of the second version, and with a moment that isn't 0 of the third
is_second : version_of (record { admit = still; moments = 0 ∷ []; terms = None }) ≡ Second
is_second = refl

is_third : version_of (record { admit = still; moments = 7 ∷ []; terms = None }) ≡ Third
is_third = refl
