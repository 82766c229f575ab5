-- What is left of a run's waves as its gates are evaluated in order.
use Rattle.std.proofs.Common.{◌≡◌, ◌≢◌, ℕ, zero, suc, ◌+◌, ◌*◌, ◌<◌, ◌≤◌, List, [], ◌∷◌, ◌++◌, length, map, get_or, set, refl, arith, sym, ap, ◌∙◌, subst, take, drop, inl, inr, append-nil, Bool, Option, Some, get_or-set_other, get_or-set_same}
use Rattle.std.specs.Prelude.{slice_get}
use Rattle.std.specs.List.{All}
use Rattle.std.proofs.lemmas.Bool.{cases_eq}
use Rattle.std.proofs.lemmas.List.{length-append, map-append, length-set, take_more, take_all, drop_all}
use Rattle.std.proofs.lemmas.List.Elements.{All-nil, All-cons, All-head, All-tail, All-set, All-push, All-weaker}
use Rattle.td_gates.specs.declared.primitives.Level.{Level}
use Rattle.td_gates.specs.declared.primitives.Level.TheVariants.{X}
use Rattle.td_gates.specs.declared.timing.Change.{Change}
use Rattle.td_gates.specs.Wave.{Wave, IsWave, last}
use Rattle.td_gates.specs.Schedule.{Obeys}
use Rattle.td_gates.proofs.Places.{some-same, slice_get-some}
use Rattle.td_circuit.specs.Settings.{AreMoments}
use Rattle.td_circuit.specs.Numbering.{NumberedGate, Numbered, nets, first_output, IsNumbering}
use Rattle.td_circuit.proofs.Nets.{length-nets}
use Rattle.td_run.specs.Waves.{AreWithin, constant, waves_of}
use Rattle.td_run.specs.Runs.{first_waves, IsRunUpTo}
use Rattle.td_run.specs.Keeping.{AreEnds, AreEndsUpTo, HasLeft, IsLeftUpTo}
use Rattle.td_run.proofs.Gates.{run_start}
use Rattle.td_run.proofs.Numbered.{length-waves, next_gate}

-- ---- ends

-- a net that is put off further
pub set_later : (ends : List ℕ) (net high : ℕ) → get_or ends net 0 ≤ high → (other : ℕ) → get_or ends other 0 ≤ get_or (set ends net high) other 0
set_later [] net high low other = omega arith
set_later (e ∷ ends) zero high low zero = low
set_later (e ∷ ends) zero high low (suc other) = omega arith
set_later (e ∷ ends) (suc net) high low zero = omega arith
set_later (e ∷ ends) (suc net) high low (suc other) = set_later ends net high low other

-- one more of the nets
pub put_step : (ends nets : List ℕ) (i evaluated high : ℕ) → i < length nets → get_or nets i 0 < length ends → get_or ends (get_or nets i 0) 0 ≤ high
    → evaluated ≤ high → All (λ net. evaluated ≤ get_or ends net 0) (take i nets)
    → All (λ net. evaluated ≤ get_or (set ends (get_or nets i 0) high) net 0) (take (i + 1) nets)
put_step ends nets i evaluated high inside there low enough all =
    let P : ℕ → Type 0 = λ net. evaluated ≤ get_or ends net 0 in
    let Q : ℕ → Type 0 = λ net. evaluated ≤ get_or (set ends (get_or nets i 0) high) net 0 in
    let own : evaluated ≤ get_or (set ends (get_or nets i 0) high) (get_or nets i 0) 0 =
    rw (get_or-set_same ends (get_or nets i 0) high 0 there) enough in
    rw (take_more nets i 0 inside)
    (All-push Q (take i nets) (get_or nets i 0)
    (All-weaker P Q (λ net h. let more = set_later ends (get_or nets i 0) high low net in omega (arith, h, more)) (take i nets) all) own)

pub ends_step : (circuit : Numbered) (wanted : List Bool) (place next : ℕ) (gate : NumberedGate) (old new : List ℕ) → next ≡ suc place
    → slice_get circuit.gates place ≡ Some gate → AreEndsUpTo circuit wanted place old → length new ≡ length old
    → ((net : ℕ) → get_or old net 0 ≤ get_or new net 0) → All (λ net. next ≤ get_or new net 0) gate.inputs
    → AreEndsUpTo circuit wanted next new
ends_step circuit wanted place next gate old new after at so long later these = record {
  count = long ∙ so.count;
  later = λ net is. let low = so.later net is in let more = later net in omega (arith, low, more);
  read = λ j other below at_j. elim (cases_eq j place) [
    | inl now ↦
        let same : gate ≡ other = some-same gate other (sym at ∙ ap (λ k. slice_get circuit.gates k) (sym now) ∙ at_j) in
        rw (← same) (λ k d h. let high = these k d h in omega (arith, high, after, now))
    | inr earlier ↦ λ k d h.
        let low = so.read j other (omega (arith, after, below, earlier)) at_j k d h in
        let more = later (get_or other.inputs k d) in omega (arith, low, more)
  ];
}

pub ends_end : (circuit : Numbered) (wanted : List Bool) (place : ℕ) (ends : List ℕ) → length circuit.gates ≤ place
    → AreEndsUpTo circuit wanted place ends → AreEnds circuit ends
ends_end circuit wanted place ends past so = record {
  count = so.count;
  read = λ j gate at. so.read j gate (omega (arith, past, slice_get-some circuit.gates j gate at)) at;
}

-- a slice of a vector that was written keeps its length
pub written : {A : Type 0} (new old : List A) (n : ℕ) → length new ≡ length old → n ≡ length old → take n (new ++ drop (length new) old) ≡ new
written new old n long count =
    ap (λ rest. take n (new ++ rest)) (drop_all (length new) old (omega (arith, long)))
    ∙ ap (λ xs. take n xs) (append-nil new)
    ∙ take_all n new (omega (arith, long, count))

-- ---- dropping waves

pub HasLeft-refl : (ends : List ℕ) (evaluated : ℕ) (waves : List Wave) → HasLeft ends evaluated waves waves
HasLeft-refl ends evaluated waves = record { count = refl; within = λ bound h. h; same = λ net h. refl }

pub HasLeft-then : (ends : List ℕ) (evaluated : ℕ) (one two three : List Wave) → HasLeft ends evaluated one two
    → HasLeft ends evaluated two three → HasLeft ends evaluated one three
HasLeft-then ends evaluated one two three p q = record {
  count = q.count ∙ p.count;
  within = λ bound h. q.within bound (p.within bound h);
  same = λ net h. q.same net h ∙ p.same net h;
}

pub HasLeft-set : (ends : List ℕ) (evaluated net : ℕ) (waves : List Wave) → get_or ends net 0 ≤ evaluated
    → HasLeft ends evaluated waves (set waves net (constant X))
HasLeft-set ends evaluated net waves small = record {
  count = length-set waves net (constant X);
  within = λ bound h. All-set (λ (wave : Wave). AreWithin bound wave.changes) waves net (constant X) (All-nil (λ (c : Change). c.moment ≤ bound)) h;
  same = λ other h. get_or-set_other waves net other (constant X) (constant X) (apart ends evaluated net other small h);
}
  where
    apart : (es : List ℕ) (e n other : ℕ) → get_or es n 0 ≤ e → e < get_or es other 0 → other ≢ n
    apart es e n other low high same = let here : get_or es other 0 ≡ get_or es n 0 = ap (λ k. get_or es k 0) same in omega arith

-- ---- a further gate

-- a further wave on both sides
both_pushed : (xs ys : List Wave) (wave : Wave) (n : ℕ) → length xs ≡ length ys → get_or xs n (constant X) ≡ get_or ys n (constant X)
    → get_or (xs ++ wave ∷ []) n (constant X) ≡ get_or (ys ++ wave ∷ []) n (constant X)
both_pushed [] [] wave n long same = refl
both_pushed [] (y ∷ ys) wave n long same = absurd (omega arith)
both_pushed (x ∷ xs) [] wave n long same = absurd (omega arith)
both_pushed (x ∷ xs) (y ∷ ys) wave zero long same = same
both_pushed (x ∷ xs) (y ∷ ys) wave (suc n) long same = both_pushed xs ys wave n (omega arith) same

-- waves that are the same where they are read
same_read : (xs ys : List Wave) (numbers : List ℕ) → All (λ n. get_or xs n (constant X) ≡ get_or ys n (constant X)) numbers
    → waves_of xs numbers ≡ waves_of ys numbers
same_read xs ys [] all = refl
same_read xs ys (n ∷ numbers) all =
    ap (λ w. w ∷ waves_of xs numbers) (All-head (λ k. get_or xs k (constant X) ≡ get_or ys k (constant X)) n numbers all)
    ∙ ap (λ ws. get_or ys n (constant X) ∷ ws)
    (same_read xs ys numbers (All-tail (λ k. get_or xs k (constant X) ≡ get_or ys k (constant X)) n numbers all))

-- what holds of the waves with a further one holds of them, and of that one
front_within : (P : Wave → Type 0) (xs : List Wave) (wave : Wave) → All P (xs ++ wave ∷ []) → All P xs
front_within P [] wave h = All-nil P
front_within P (x ∷ xs) wave h = All-cons P x xs (All-head P x (xs ++ wave ∷ []) h) (front_within P xs wave (All-tail P x (xs ++ wave ∷ []) h))

last_within : (P : Wave → Type 0) (xs : List Wave) (wave : Wave) → All P (xs ++ wave ∷ []) → P wave
last_within P [] wave h = All-head P wave [] h
last_within P (x ∷ xs) wave h = last_within P xs wave (All-tail P x (xs ++ wave ∷ []) h)

module _ (circuit : Numbered) (firsts seconds : List Level) (numbering : IsNumbering circuit) (fit : AreMoments circuit.netlist circuit.moments)
    (first_fits : length firsts ≡ length circuit.netlist.inputs) (second_fits : length seconds ≡ length circuit.netlist.inputs)
    (ends : List ℕ) (are : AreEnds circuit ends) where
  pub left_start : (waves : List Wave) (moments : List (Option ℕ)) → waves ≡ first_waves firsts seconds circuit.moments
      → moments ≡ map last waves → IsLeftUpTo circuit firsts seconds ends 0 waves moments
  left_start waves moments is lasts = record {
    all = waves;
    outs = [];
    run = run_start circuit firsts seconds waves fit is;
    left = HasLeft-refl ends 0 waves;
    lasts = lasts;
  }

  pub left_count : (place : ℕ) (waves : List Wave) (moments : List (Option ℕ)) → IsLeftUpTo circuit firsts seconds ends place waves moments
      → length waves ≡ first_output circuit + place
  left_count place waves moments so = so.left.count
      ∙ length-waves circuit firsts seconds numbering fit first_fits second_fits place so.all so.outs so.run

  pub left_within : (place : ℕ) (waves : List Wave) (moments : List (Option ℕ)) → IsLeftUpTo circuit firsts seconds ends place waves moments
      → All (λ wave. AreWithin ((place + 1) * 1000000000) wave.changes) waves
  left_within place waves moments so = so.left.within ((place + 1) * 1000000000) so.run.within

  pub left_room : (place : ℕ) (waves : List Wave) (moments : List (Option ℕ)) → IsLeftUpTo circuit firsts seconds ends place waves moments
      → place < length circuit.gates → length waves + 1 ≤ length ends
  left_room place waves moments so inside =
      let long = left_count place waves moments so in
      omega (arith, long, inside, are.count, length-nets circuit numbering)

  pub left_end : (place : ℕ) (waves : List Wave) (moments : List (Option ℕ)) → place ≡ length circuit.gates
      → IsLeftUpTo circuit firsts seconds ends place waves moments → IsLeftUpTo circuit firsts seconds ends (length circuit.gates) waves moments
  left_end place waves moments is so = subst (λ (n : ℕ). IsLeftUpTo circuit firsts seconds ends n waves moments) is so

  pub left_step : (place next : ℕ) (waves : List Wave) (moments : List (Option ℕ)) (gate : NumberedGate) (wave : Wave) (some rest : List Wave)
      → next ≡ suc place → IsLeftUpTo circuit firsts seconds ends place waves moments → slice_get circuit.gates place ≡ Some gate
      → Obeys gate.kind gate.delay (waves_of waves gate.inputs) wave → IsWave wave
      → AreWithin ((place + 1) * 1000000000 + 1000000000) wave.changes
      → HasLeft ends next (waves ++ wave ∷ []) some → HasLeft ends next some rest
      → IsLeftUpTo circuit firsts seconds ends next rest (moments ++ last wave ∷ [])
  left_step place next waves moments gate wave some rest after so at obeys rising within first_drop second_drop =
      let read = same_read waves so.all gate.inputs (λ k d h. so.left.same (get_or gate.inputs k d) (are.read place gate at k d h)) in
      let dropped = HasLeft-then ends next (waves ++ wave ∷ []) some rest first_drop second_drop in
      record {
        all = so.all ++ wave ∷ [];
        outs = so.outs ++ wave ∷ [];
        run = subst (λ (n : ℕ). IsRunUpTo circuit firsts seconds n (so.all ++ wave ∷ []) (so.outs ++ wave ∷ [])) (sym after)
            (next_gate circuit firsts seconds numbering fit first_fits second_fits place so.all so.outs gate wave so.run at rising
            (rw read at obeys) within);
        left = HasLeft-then ends next (so.all ++ wave ∷ []) (waves ++ wave ∷ []) rest
            (record {
              count = length-append waves (wave ∷ []) ∙ ap (λ n. n + 1) so.left.count ∙ sym (length-append so.all (wave ∷ []));
              within = λ bound h. All-push (λ (w : Wave). AreWithin bound w.changes) waves wave
                  (so.left.within bound (front_within (λ (w : Wave). AreWithin bound w.changes) so.all wave h))
                  (last_within (λ (w : Wave). AreWithin bound w.changes) so.all wave h);
              same = λ net h. both_pushed waves so.all wave net so.left.count (so.left.same net (omega (arith, h, after)));
            })
            dropped;
        lasts = ap (λ ms. ms ++ last wave ∷ []) so.lasts ∙ sym (map-append last so.all (wave ∷ []));
      }
