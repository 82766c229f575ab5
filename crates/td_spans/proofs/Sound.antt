-- Sound: what is true of the runs of a cube stays true with each step.
use Rattle.std.proofs.Common.{Some, ◌≡◌, ℕ, zero, suc, ◌+◌, ◌-◌, ◌*◌, ◌<◌, ◌≤◌, max, Bool, true, false, List, [], ◌∷◌, ◌++◌, length, map, get_or, refl, arith, ap, sym, subst, ◌∙◌, inl, inr}
use Rattle.std.specs.Prelude.{slice_get}
use Rattle.std.specs.List.{AllByRecursion}
use Rattle.std.proofs.lemmas.Bool.{cases_lt}
use Rattle.td_gates.specs.Table.{table, level_from, level_eq}
use Rattle.td_gates.specs.declared.primitives.Level.TheVariants.{One}
use Rattle.td_gates.specs.Wave.{Wave, before}
use Rattle.td_gates.proofs.Places.{some-same, slice_get-within, slice_get-some, get-slice_get}
use Rattle.td_nets.specs.Netlist.{Net, Low}
use Rattle.td_circuit.specs.Settings.{AreMoments}
use Rattle.td_circuit.specs.Numbering.{NumberedGate, Numbered, setting, nets, first_output, IsNumbering}
use Rattle.td_circuit.specs.Run.{Runs}
use Rattle.td_circuit.proofs.Nets.{length-nets, takes-at}
use Rattle.td_domain.specs.declared.cubes.Trit.{Trit}
use Rattle.td_domain.specs.Pairs.{Pair}
use Rattle.td_domain.specs.Cubes.{Allows, IsIn}
use Rattle.td_domain.proofs.Soundness.{AllowsBits-at}
use Rattle.std.proofs.lemmas.Option.{get_or_from_slice_get}
use Rattle.td_domain.specs.Admits.{Admitted, flip_of, IsAdmitted}
use Rattle.td_propagation.specs.declared.literal.Literal.{Literal}
use Rattle.td_propagation.specs.Literals.{IsTrueUnder}
use Rattle.td_propagation.proofs.Soundness.{one_more_true}
use Rattle.td_spans.specs.Lookups.{the_gate, no_gate, IsDriven, driver}
use Rattle.td_spans.specs.Timing.{level_bits, target_bits}
use Rattle.td_spans.specs.Timed.{IsGate, IsTimed}
use Rattle.td_spans.proofs.Running.{timed, held_at, so_some}
use Rattle.td_spans.specs.declared.times.Times.{Times}
use Rattle.td_spans.specs.declared.variable.Variable.{Variable}
use Rattle.td_spans.specs.Times.{place_for, AreAllTimes}
use Rattle.td_spans.specs.Rules.{no_times}
use Rattle.td_spans.specs.Signals.{first_times}
use Rattle.td_spans.specs.Clauses.{IsGateClause, settled_net, is_settled_clause, is_net_clause}
use Rattle.td_spans.specs.Sayings.{differs_at}
use Rattle.td_spans.specs.Changing.{sum_of, is_so}
use Rattle.td_spans.specs.Pairs.{is_pairs_clause}
use Rattle.td_spans.proofs.Pairing.{Fit, pairs_true}
use Rattle.td_spans.specs.declared.condition.Condition.{Condition}
use Rattle.td_spans.specs.Conditions.{AreSettled, IsKept, is_keep_clause}
use Rattle.td_spans.proofs.Conditioning.{keep_true}
use Rattle.td_spans.specs.Lowering.{lower, are_at_rest, again}
use Rattle.td_spans.specs.Refuting.{IsTrueOf}
use Rattle.td_spans.proofs.Sums.{sum_same, pair_at, all_flips}
use Rattle.td_spans.proofs.Gates.{opens, table_bits}
use Rattle.td_spans.proofs.Firsts.{times_at}
use Rattle.td_spans.proofs.Covering.{rest_of}
use Rattle.td_spans.proofs.Edges.{first_right, length_first}
use Rattle.td_spans.proofs.Speaking.{meant_exists}
use Rattle.td_spans.proofs.Truth.{settled_at, gate_true, settled_true, net_true}
use Rattle.td_spans.proofs.Lowered.{final_is, lower_right, again_right, clause_rests}

lower_than : (n m : ℕ) (inputs : List ℕ) → n ≤ m → AllByRecursion (λ i. i < n) inputs → AllByRecursion (λ i. i < m) inputs
lower_than n m [] low all = tt
lower_than n m (i ∷ inputs) low all = (let first = all.0 in omega arith, lower_than n m inputs low all.1)

get_or-past : {A : Type 0} (xs : List A) (i : ℕ) (d : A) → length xs ≤ i → get_or xs i d ≡ d
get_or-past [] i d past = refl
get_or-past (x ∷ xs) zero d past = absurd (omega arith)
get_or-past (x ∷ xs) (suc i) d past = get_or-past xs i d (omega arith)

module _ (circuit : Numbered) (numbering : IsNumbering circuit) (fit : AreMoments circuit.netlist circuit.moments) (cube : List Trit)
    (count : length cube ≡ 2 * length circuit.netlist.inputs) (admit : Admitted) (helds : length admit.held ≡ length circuit.netlist.inputs)
    (variables : List Variable) where
  -- a run of an admitted pair of the cube
  module _ (pair : Pair) (waves : Net → Wave) (admitted : IsAdmitted admit pair) (is_in : IsIn pair cube)
      (runs : Runs (setting circuit) (map level_from pair.first) (map level_from pair.second) waves) where
    times_are : IsTimed circuit cube pair (level_bits circuit waves) (target_bits circuit waves)
    times_are = timed circuit numbering fit cube count admit pair is_in admitted waves runs

    -- a number of no net has the levels of the constant 0
    past_nets : (net n : ℕ) → length (nets circuit) ≤ net → level_bits circuit waves net n ≡ false
    past_nets net n past = ap (λ (m : Net). level_eq One (before (waves m) n)) (get_or-past (nets circuit) net Low past) ∙ times_are.low n

    -- at the beginning
    pub begins : (length (first_times circuit admit cube) ≡ length (nets circuit)) × IsTrueOf variables (level_bits circuit waves) (first_times circuit admit cube) []
    begins =
        let first : List Times = first_times circuit admit cube in
        let rest : ℕ → ℕ = λ net. rest_of (get_or first net no_times) in
        let level : ℕ → ℕ → Bool = level_bits circuit waves in
        let right = first_right circuit numbering fit cube count admit pair is_in admitted waves runs in
        let whole : length first ≡ length (nets circuit) = length_first circuit admit cube ∙ sym (length-nets circuit numbering) in
        let still : (net n : ℕ) → rest net ≤ n → level net n ≡ level net (rest net) =
        λ net n late. elim (cases_lt net (length first)) [
          | inl low ↦ (times_at level first (λ k. level k (rest k)) right net low).rests n
              (at_most (get_or first net no_times) (level net (rest net)) n late)
          | inr past ↦ past_nets net n (omega arith) ∙ sym (past_nets net (rest net) (omega arith))
        ] in
        let made = meant_exists level (λ net. level net (rest net)) rest still variables in (
          whole,
          record {
            final = λ net. level net (rest net);
            ends = λ net n. (max n (rest net), omega arith, still net (max n (rest net)) (omega arith));
            right = right;
            valuation = made.0;
            meant = made.1;
            true = λ k d low. absurd (omega arith);
          },
        )
      where
        at_most : (it : Times) (b : Bool) (n : ℕ) → rest_of it ≤ n → place_for it.ends b ≤ n
        at_most it true n late = omega arith
        at_most it false n late = omega arith

    module _ (times : List Times) (clauses : List (List Literal)) (whole : length times ≡ length (nets circuit))
        (old : IsTrueOf variables (level_bits circuit waves) times clauses) where
      -- one clause more
      pub more : (clause : List Literal) (after : List (List Literal)) → after ≡ clauses ++ clause ∷ [] → IsTrueUnder old.valuation clause
          → IsTrueOf variables (level_bits circuit waves) times after
      more clause after is holds = record {
        final = old.final;
        ends = old.ends;
        right = old.right;
        valuation = old.valuation;
        meant = old.meant;
        true = one_more_true old.valuation clauses after clause is old.true holds;
      }

      -- other times
      pub with_times : (after : List Times) → AreAllTimes after (level_bits circuit waves) old.final → IsTrueOf variables (level_bits circuit waves) after clauses
      with_times after right = record {
        final = old.final;
        ends = old.ends;
        right = right;
        valuation = old.valuation;
        meant = old.meant;
        true = old.true;
      }

      final_low : old.final 0 ≡ false
      final_low = let late = old.ends 0 0 in sym late.2 ∙ times_are.low late.0

      final_high : old.final 1 ≡ true
      final_high = let late = old.ends 1 0 in sym late.2 ∙ times_are.high late.0

      gate_is : (place : ℕ) → place < length circuit.gates
          → IsGate (the_gate circuit place) (level_bits circuit waves) (first_output circuit + place) (target_bits circuit waves (first_output circuit + place))
      gate_is place low = times_are.gates place (the_gate circuit place) (get-slice_get circuit.gates place no_gate (the_gate circuit place) low refl)

      driven_is : (net : ℕ) → IsDriven circuit net → IsGate (driver circuit net) (level_bits circuit waves) net (target_bits circuit waves net)
      driven_is net driven =
          let first = driven.0 in
          let back : first_output circuit + (net - first_output circuit) ≡ net = omega arith in
          subst (λ (n : ℕ). IsGate (driver circuit net) (level_bits circuit waves) n (target_bits circuit waves n)) back (gate_is (net - first_output circuit) driven.1)

      net_low : (place : ℕ) → place < length circuit.gates → first_output circuit + place < length times
      net_low place low = omega (arith, low, whole, length-nets circuit numbering)

      pub gate_holds : (head : Literal) (body : List Literal) → IsGateClause circuit variables times head body → IsTrueUnder old.valuation (head ∷ body)
      gate_holds head body clause =
          gate_true (level_bits circuit waves) (target_bits circuit waves) old.final times old.right variables old.valuation old.meant times_are.low times_are.high
          circuit head body clause (driven_is clause.saying.net clause.driven)

      -- a gate is settled at its table, at the start and in the end
      settles : (last : Bool) (place : ℕ) → place < length circuit.gates
          → table (the_gate circuit place).kind (map (λ i. level_from (settled_at (level_bits circuit waves) (target_bits circuit waves) old.final times old.right
          variables old.valuation old.meant times_are.low times_are.high last i)) (the_gate circuit place).inputs)
          ≡ level_from (settled_at (level_bits circuit waves) (target_bits circuit waves) old.final times old.right
          variables old.valuation old.meant times_are.low times_are.high last (first_output circuit + place))
      settles false place low =
          let is = gate_is place low in
          is.is_table 0 ∙ ap level_from (sym (opens (target_bits circuit waves (first_output circuit + place)) (the_gate circuit place).delay is.fits
          (level_bits circuit waves (first_output circuit + place)) is.follows))
      settles true place low =
          let is = gate_is place low in
          let gate : NumberedGate = the_gate circuit place in
          let here = net_low place low in
          let takes = takes-at circuit numbering place gate (get-slice_get circuit.gates place no_gate gate low refl) in
          let ends = final_is (level_bits circuit waves) old.final times old.right gate (first_output circuit + place) (target_bits circuit waves (first_output circuit + place)) is
          (lower_than (first_output circuit + place) (length times) gate.inputs (omega (arith, here)) is.lower) here in
          table_bits gate.kind old.final gate.inputs takes
          ∙ ap level_from ends

      settled_place : (last : Bool) (place : ℕ) → place < length circuit.gates → (head : Literal) (body : List Literal)
          → settled_net last (slice_get variables head.variable) ≡ Some (first_output circuit + place)
          → is_settled_clause variables last (the_gate circuit place) head body ≡ true → IsTrueUnder old.valuation (head ∷ body)
      settled_place last place low head body at clause =
          settled_true (level_bits circuit waves) (target_bits circuit waves) old.final times old.right variables old.valuation old.meant times_are.low times_are.high
          final_low final_high last (first_output circuit + place) (the_gate circuit place) (settles last place low) head body at clause

      pub settled_holds : (last : Bool) (net : ℕ) → IsDriven circuit net → (head : Literal) (body : List Literal)
          → settled_net last (slice_get variables head.variable) ≡ Some net
          → is_settled_clause variables last (driver circuit net) head body ≡ true → IsTrueUnder old.valuation (head ∷ body)
      settled_holds last net driven head body at clause =
          let first = driven.0 in
          let back : first_output circuit + (net - first_output circuit) ≡ net = omega arith in
          settled_place last (net - first_output circuit) driven.1 head body (at ∙ ap (λ (n : ℕ). Some n) (sym back)) clause

      pub net_holds : (one other : Literal) → is_net_clause variables times one other ≡ true → IsTrueUnder old.valuation (one ∷ other ∷ [])
      net_holds one other clause =
          net_true (level_bits circuit waves) (target_bits circuit waves) old.final times old.right variables old.valuation old.meant times_are.low times_are.high
          one other clause

      -- an input differs in the run where it does in the pair
      same_flip : (i : ℕ) → i < length circuit.netlist.inputs → differs_at (level_bits circuit waves) old.final i ≡ pair_at pair.first pair.second i
      same_flip i low =
          let p = slice_get-within cube (2 * i) (omega (arith, low, count)) in
          let q = slice_get-within cube (2 * i + 1) (omega (arith, low, count)) in
          let m = slice_get-within circuit.moments i (omega (arith, low, fit.count)) in
          let is = times_are.inputs i low p.0 q.0 m.0 p.1 q.1 m.1 in
          let there = old.ends (2 + i) (m.0 + 1) in
          let start : level_bits circuit waves (2 + i) 0 ≡ is.a = is.early 0 (omega arith) in
          let end : old.final (2 + i) ≡ is.b = sym there.2 ∙ is.late there.0 (let l = there.1 in omega arith) in
          ap (λ (b : Bool). flip_of b (old.final (2 + i))) start ∙ ap (flip_of is.a) end
          ∙ ap (λ (b : Bool). flip_of b is.b) (sym (get_or_from_slice_get pair.first i is.a false is.at_a))
          ∙ ap (flip_of (get_or pair.first i false)) (sym (get_or_from_slice_get pair.second i is.b false is.at_b))

      few_flips : sum_of (differs_at (level_bits circuit waves) old.final) (length circuit.netlist.inputs) ≤ admit.flips
      few_flips =
          let same = sum_same (differs_at (level_bits circuit waves) old.final) (pair_at pair.first pair.second) (length circuit.netlist.inputs) same_flip in
          let all = all_flips (length circuit.netlist.inputs) cube count pair is_in in
          let few = admitted.few in
          omega (arith, same, all, few)

      -- the bits of an input, at its start and at its end
      input_bits : (i : ℕ) → i < length circuit.netlist.inputs → (a b : Bool) × (level_bits circuit waves (2 + i) 0 ≡ a) × (old.final (2 + i) ≡ b)
          × (slice_get pair.first i ≡ Some a) × (slice_get pair.second i ≡ Some b)
      input_bits i low =
          let p = slice_get-within cube (2 * i) (omega (arith, low, count)) in
          let q = slice_get-within cube (2 * i + 1) (omega (arith, low, count)) in
          let m = slice_get-within circuit.moments i (omega (arith, low, fit.count)) in
          let is = times_are.inputs i low p.0 q.0 m.0 p.1 q.1 m.1 in
          let there = old.ends (2 + i) (m.0 + 1) in
          (is.a, is.b, is.early 0 (omega arith), sym there.2 ∙ is.late there.0 (let l = there.1 in omega arith), is.at_a, is.at_b)

      -- an input at its start and at its end
      input_is : (i : ℕ) → i < length circuit.netlist.inputs → (p q : Trit) → slice_get cube (2 * i) ≡ Some p → slice_get cube (2 * i + 1) ≡ Some q
          → Allows p (level_bits circuit waves (2 + i) 0) × Allows q (old.final (2 + i))
      input_is i low p q at_p at_q =
          let m = slice_get-within circuit.moments i (omega (arith, low, fit.count)) in
          let is = times_are.inputs i low p q m.0 at_p at_q m.1 in
          let there = old.ends (2 + i) (m.0 + 1) in
          let start : level_bits circuit waves (2 + i) 0 ≡ is.a = is.early 0 (omega arith) in
          let end : old.final (2 + i) ≡ is.b = sym there.2 ∙ is.late there.0 (let l = there.1 in omega arith) in
          (subst (Allows p) (sym start) is.first, subst (Allows q) (sym end) is.second)

      cube_fits : Fit (level_bits circuit waves) old.final variables old.valuation old.meant cube
      cube_fits i t = (
        λ at.
            let low : i < length circuit.netlist.inputs = let some = slice_get-some cube (2 * i) t at in omega (arith, some, count) in
            let q = slice_get-within cube (2 * i + 1) (omega (arith, low, count)) in
            (input_is i low t q.0 at q.1).0,
        λ at.
            let low : i < length circuit.netlist.inputs = let some = slice_get-some cube (2 * i + 1) t at in omega (arith, some, count) in
            let p = slice_get-within cube (2 * i) (omega (arith, low, count)) in
            (input_is i low p.0 t p.1 at).1,
      )

      -- a held input doesn't differ
      held_still : (i : ℕ) → is_so (slice_get admit.held i) ≡ true → differs_at (level_bits circuit waves) old.final i ≡ 0
      held_still i is =
          let held = so_some (slice_get admit.held i) is in
          let low : i < length circuit.netlist.inputs = let some = slice_get-some admit.held i true held in omega (arith, some, helds) in
          let bits = AllowsBits-at cube pair.first pair.second i is_in (omega (arith, low, count)) in
          let same : bits.0 ≡ bits.1 = held_at admit.held pair.first pair.second i true bits.0 bits.1 admitted.held held bits.4 bits.5 refl in
          same_flip i low
          ∙ ap (λ (b : Bool). flip_of b (get_or pair.second i false)) (get_or_from_slice_get pair.first i bits.0 false bits.4)
          ∙ ap (flip_of bits.0) (get_or_from_slice_get pair.second i bits.1 false bits.5 ∙ sym same) ∙ no_flip bits.0
        where
          no_flip : (b : Bool) → flip_of b b ≡ 0
          no_flip true = refl
          no_flip false = refl

      pub pairs_hold : (clause : List Literal) → is_pairs_clause (length circuit.netlist.inputs) admit cube variables clause ≡ true → IsTrueUnder old.valuation clause
      pairs_hold clause is = pairs_true (level_bits circuit waves) old.final variables old.valuation old.meant
          (length circuit.netlist.inputs) admit cube clause cube_fits held_still few_flips is

      -- the levels at which nets start, and end, are settled
      starts_settled : AreSettled circuit pair.first (λ net. level_bits circuit waves net 0)
      starts_settled = record {
        low = times_are.low 0;
        high = times_are.high 0;
        inputs = λ i bit low at.
            let it = input_bits i low in
            it.2 ∙ some-same it.0 bit (sym it.4 ∙ at);
        gates = λ net driven.
            let first = driven.0 in
            let back : first_output circuit + (net - first_output circuit) ≡ net = omega arith in
            subst (λ (n : ℕ). table (driver circuit net).kind (map (λ m. level_from (level_bits circuit waves m 0)) (driver circuit net).inputs) ≡ level_from (level_bits circuit waves n 0)) back
            (settles false (net - first_output circuit) driven.1);
      }

      ends_settled : AreSettled circuit pair.second old.final
      ends_settled = record {
        low = final_low;
        high = final_high;
        inputs = λ i bit low at.
            let it = input_bits i low in
            it.3 ∙ some-same it.1 bit (sym it.5 ∙ at);
        gates = λ net driven.
            let first = driven.0 in
            let back : first_output circuit + (net - first_output circuit) ≡ net = omega arith in
            subst (λ (n : ℕ). table (driver circuit net).kind (map (λ m. level_from (old.final m)) (driver circuit net).inputs) ≡ level_from (old.final n)) back
            (settles true (net - first_output circuit) driven.1);
      }

      pub keep_holds : (keep : List Condition) → IsKept circuit keep pair → (clause : List Literal) → is_keep_clause keep variables clause ≡ true → IsTrueUnder old.valuation clause
      keep_holds keep kept clause is = keep_true (level_bits circuit waves) old.final variables old.valuation old.meant keep
          (kept (λ net. level_bits circuit waves net 0) old.final starts_settled ends_settled) clause is

      pub again_holds : (place : ℕ) → place < length circuit.gates
          → AreAllTimes (again times (first_output circuit + place) (the_gate circuit place)) (level_bits circuit waves) old.final
      again_holds place low =
          let is = gate_is place low in
          let here = net_low place low in
          again_right (level_bits circuit waves) old.final times old.right (the_gate circuit place) (first_output circuit + place)
          (target_bits circuit waves (first_output circuit + place)) is
          (lower_than (first_output circuit + place) (length times) (the_gate circuit place).inputs (omega (arith, here)) is.lower) here

      pub lower_holds : (net : ℕ) → net < length times → (v : Bool) (place : ℕ) (clause : List Literal) → are_at_rest variables net v place clause ≡ true
          → IsTrueUnder old.valuation clause → AreAllTimes (lower times net v place) (level_bits circuit waves) old.final
      lower_holds net low v place clause are holds =
          lower_right (level_bits circuit waves) old.final times old.right net v place low
          (clause_rests (level_bits circuit waves) old.final times old.right variables old.valuation old.meant net v place clause old.ends are holds)
