-- Truth: the clauses that steps name are true of every run.
use Rattle.std.proofs.Common.{◌≡◌, ℕ, zero, suc, max, Bool, true, false, List, [], ◌∷◌, map, refl, arith, ap, sym, ◌∙◌, inl, inr, Option, Some, None}
use Rattle.std.specs.Prelude.{slice_get, nat_le, not, ◌&&◌, ◌||◌, ◌==◌}
use Rattle.std.proofs.lemmas.Bool.{cases_eq, cases_Bool, le-leb, leb-true, and_parts, or_left, or_right, or_cases, eqb-true, eq-eqb, ne_eqb}
use Rattle.std.proofs.lemmas.Option.{none-some}
use Rattle.td_gates.specs.declared.primitives.Level.{Level}
use Rattle.td_gates.specs.declared.primitives.Level.TheVariants.{Zero, One, X}
use Rattle.td_gates.specs.declared.timing.Delay.{Delay}
use Rattle.td_gates.specs.Delays.{IsInRange}
use Rattle.td_gates.specs.Known.{Agrees}
use Rattle.td_gates.specs.Table.{table, level_eq, level_from}
use Rattle.td_gates.proofs.Places.{some-same}
use Rattle.td_gates.proofs.TableLaws.{AllAgree, table_known}
use Rattle.td_circuit.specs.Numbering.{NumberedGate, Numbered}
use Rattle.td_spans.specs.Targets.{steps_to}
use Rattle.td_spans.specs.Timed.{Follows}
use Rattle.td_spans.proofs.Following.{window_gives}
use Rattle.td_propagation.specs.declared.literal.Literal.{Literal}
use Rattle.td_propagation.specs.Literals.{signed, literal_true, clause_true, negation, IsTrueUnder}
use Rattle.td_spans.specs.Timed.{IsGate}
use Rattle.td_spans.specs.declared.times.Times.{Times}
use Rattle.td_spans.specs.declared.variable.Saying.{Saying}
use Rattle.td_spans.specs.declared.variable.Variable.{Variable}
use Rattle.td_spans.specs.declared.variable.Variable.TheVariants.{First, Last, Span, Flips}
use Rattle.td_spans.specs.Times.{is_by, AreAllTimes}
use Rattle.td_spans.specs.Sayings.{Holds, AreMeant, says}
use Rattle.td_spans.specs.Sure.{IsSure}
use Rattle.td_spans.specs.Clauses.{constant_trit, covers, trit_from, trit_by, is_known, IsGateClause, settled_net, trit_if, settled_trit, is_settled_clause, level_is, is_within, is_part, is_apart, is_part_of, is_apart_from, net_by, is_net_clause}
use Rattle.td_spans.specs.Lookups.{driver}
use Rattle.td_spans.proofs.Gates.{same_bit, not_self, opens, holds_on}
use Rattle.td_spans.proofs.Speaking.{signed_value, value_signed, said_holds, holds_said}

-- What is surely so is so.
pub sure_is : (known e : ℕ → Bool) (delay : Delay) → IsInRange delay → (o : ℕ → Bool) → Follows e delay o → (v : Bool)
    → ((n : ℕ) → known n ≡ true → e n ≡ v) → (n : ℕ) → IsSure known (steps_to delay v) (steps_to delay (not v)) n → o n ≡ v
sure_is known e delay fits o is v there zero sure = opens e delay fits o is ∙ there 0 sure
sure_is known e delay fits o is v there (suc t) (inl kept) =
    window_gives e delay fits o is v t (λ n from to. there n (kept n (omega arith) to))
sure_is known e delay fits o is v there (suc t) (inr (old, near)) =
    holds_on e delay fits o is v t near.0 (sure_is known e delay fits o is v there t old) near.1 near.2 (there near.0 near.3)

-- a known level is the target's
pub known_target : (v : Bool) (b : Bool) (known real : Level) → level_eq (level_from v) known ≡ true → Agrees known real → real ≡ level_from b → b ≡ v
known_target true b One real is agree same = same_bit b true (sym same ∙ agree (λ e. cc))
known_target true b Zero real is agree same = cc
known_target true b X real is agree same = cc
known_target false b Zero real is agree same = same_bit b false (sym same ∙ agree (λ e. cc))
known_target false b One real is agree same = cc
known_target false b X real is agree same = cc

all_agree : (known : ℕ → Level) (level : ℕ → Bool) (inputs : List ℕ) → ((net : ℕ) → Agrees (known net) (level_from (level net)))
    → AllAgree (map known inputs) (map (λ net. level_from (level net)) inputs)
all_agree known level [] each = tt
all_agree known level (net ∷ inputs) each = (each net, all_agree known level inputs each)

agrees_same : (v b : Bool) → b ≡ v → Agrees (level_from v) (level_from b)
agrees_same v b same clear = ap level_from same

-- the constants are as is known of them
constant_agrees : (level : ℕ → Bool) (net : ℕ) → level 0 ≡ false → level 1 ≡ true → Agrees (constant_trit net) (level_from (level net))
constant_agrees level zero low high = λ clear. ap level_from low
constant_agrees level (suc zero) low high = λ clear. ap level_from high
constant_agrees level (suc (suc net)) low high = rw (ne_eqb (suc (suc net)) 0 (λ e. omega arith), ne_eqb (suc (suc net)) 1 (λ e. omega arith)) (λ clear. absurd (clear refl))

denied : (positive value : Bool) → signed positive value ≡ false → signed (not positive) value ≡ true
denied true true is = cc
denied true false is = refl
denied false true is = refl
denied false false is = cc

or_false : (x y : Bool) → x || y ≡ false → (x ≡ false) × (y ≡ false)
or_false true y is = cc
or_false false y is = (refl, is)

module _ (level target : ℕ → ℕ → Bool) (final : ℕ → Bool) (times : List Times) (right : AreAllTimes times level final)
    (variables : List Variable) (valuation : ℕ → Bool) (meant : AreMeant level final variables valuation)
    (low : (n : ℕ) → level 0 n ≡ false) (high : (n : ℕ) → level 1 n ≡ true) where
  from_agrees : (o : Option Saying) (net n : ℕ) (rest : Level) → ((s : Saying) → o ≡ Some s → Holds level s) → Agrees rest (level_from (level net n))
      → Agrees (trit_from o net n rest) (level_from (level net n))
  from_agrees None net n rest holds agree = agree
  from_agrees (Some s) net n rest holds agree = elim (cases_Bool (covers s net n)) [
    | inl here ↦
        let parts = and_parts (s.net == net) (nat_le s.first n && is_by n s.last) here in
        let span = and_parts (nat_le s.first n) (is_by n s.last) parts.1 in
        let same : s.net ≡ net = eqb-true s.net net parts.0 in
        let at : level s.net n ≡ s.level = holds s refl n (leb-true s.first n span.0) span.1 in
        rw here (agrees_same s.level (level net n) (ap (λ (k : ℕ). level k n) (sym same) ∙ at))
    | inr away ↦ rw away agree
  ]

  -- what is known of a net where literals are false is so
  trit_agrees : (body : List Literal) → clause_true valuation body ≡ false → (n net : ℕ) → Agrees (trit_by variables times body net n) (level_from (level net n))
  trit_agrees [] fails n net = constant_agrees (λ k. level k n) net (low n) (high n)
  trit_agrees (literal ∷ body) fails n net =
      let both = or_false (literal_true valuation literal) (clause_true valuation body) fails in
      from_agrees (says variables times (negation literal)) net n (trit_by variables times body net n)
      (λ s said. said_holds level final times right variables valuation meant (negation literal) s said (denied literal.positive (valuation literal.variable) both.0))
      (trit_agrees body both.1 n net)

  -- The clause of a gate is true.
  pub gate_true : (circuit : Numbered) (head : Literal) (body : List Literal) (clause : IsGateClause circuit variables times head body)
      → IsGate (driver circuit clause.saying.net) level clause.saying.net (target clause.saying.net) → IsTrueUnder valuation (head ∷ body)
  gate_true circuit head body clause is = elim (cases_Bool (clause_true valuation body)) [
    | inl some ↦ or_right _ _ some
    | inr none ↦ or_left _ _ (holds_said level final times right variables valuation meant head clause.saying clause.said (λ n from to.
        let gate : NumberedGate = driver circuit clause.saying.net in
        sure_is (is_known variables times gate body clause.saying.level) (target clause.saying.net) gate.delay is.fits (level clause.saying.net) is.follows clause.saying.level
        (λ k known. known_target clause.saying.level (target clause.saying.net k) _ _ known
        (table_known gate.kind _ _ (all_agree (λ i. trit_by variables times body i k) (λ i. level i k) gate.inputs (trit_agrees body none k)))
        (is.is_table k))
        n (clause.sure n from to)))
  ]

  -- the level of a net where it is settled
  abbrev pub settled_at : Bool → ℕ → Bool
  settled_at false net = level net 0
  settled_at true net = final net

  if_agrees : (o : Option ℕ) (v : Bool) (net : ℕ) (rest real : Level) → ((other : ℕ) → o ≡ Some other → other ≡ net → real ≡ level_from v) → Agrees rest real
      → Agrees (trit_if o v net rest) real
  if_agrees None v net rest real is agree = agree
  if_agrees (Some other) v net rest real is agree = elim (cases_eq other net) [
    | inl same ↦ rw (eq-eqb other net same) (λ clear. is other refl same)
    | inr away ↦ rw (ne_eqb other net away) agree
  ]

  -- what the value of a settled variable is
  settled_value : (last : Bool) (x net : ℕ) → settled_net last (slice_get variables x) ≡ Some net → valuation x ≡ settled_at last net
  settled_value last x net = go last (slice_get variables x) refl
    where
      go : (last : Bool) (o : Option Variable) → slice_get variables x ≡ o → settled_net last o ≡ Some net → valuation x ≡ settled_at last net
      go false None at is = absurd (none-some net is)
      go true None at is = absurd (none-some net is)
      go false (Some (First other)) at is = meant x (First other) at ∙ ap (λ (k : ℕ). level k 0) (some-same other net is)
      go true (Some (First other)) at is = absurd (none-some net is)
      go false (Some (Last other)) at is = absurd (none-some net is)
      go true (Some (Last other)) at is = meant x (Last other) at ∙ ap final (some-same other net is)
      go false (Some (Span s)) at is = absurd (none-some net is)
      go true (Some (Span s)) at is = absurd (none-some net is)
      go false (Some (Flips i k)) at is = absurd (none-some net is)
      go true (Some (Flips i k)) at is = absurd (none-some net is)

  constant_settled : (last : Bool) (net : ℕ) → final 0 ≡ false → final 1 ≡ true → Agrees (constant_trit net) (level_from (settled_at last net))
  constant_settled false net low' high' = constant_agrees (λ k. level k 0) net (low 0) (high 0)
  constant_settled true net low' high' = constant_agrees final net low' high'

  settled_agrees : final 0 ≡ false → final 1 ≡ true → (last : Bool) (body : List Literal) → clause_true valuation body ≡ false → (net : ℕ)
      → Agrees (settled_trit last variables body net) (level_from (settled_at last net))
  settled_agrees low' high' last [] fails net = constant_settled last net low' high'
  settled_agrees low' high' last (literal ∷ body) fails net =
      let both = or_false (literal_true valuation literal) (clause_true valuation body) fails in
      if_agrees (settled_net last (slice_get variables literal.variable)) (not literal.positive) net (settled_trit last variables body net) (level_from (settled_at last net))
      (λ other at same. ap level_from (ap (settled_at last) (sym same) ∙ sym (settled_value last literal.variable other at)
      ∙ signed_value (not literal.positive) (valuation literal.variable) (denied literal.positive (valuation literal.variable) both.0)))
      (settled_agrees low' high' last body both.1 net)

  -- The clause of a settled gate is true, where its output is settled at the table of its inputs.
  pub settled_true : final 0 ≡ false → final 1 ≡ true → (last : Bool) (net : ℕ) (gate : NumberedGate)
      → table gate.kind (map (λ i. level_from (settled_at last i)) gate.inputs) ≡ level_from (settled_at last net)
      → (head : Literal) (body : List Literal) → settled_net last (slice_get variables head.variable) ≡ Some net
      → is_settled_clause variables last gate head body ≡ true → IsTrueUnder valuation (head ∷ body)
  settled_true low' high' last net gate is head body at clause = elim (cases_Bool (clause_true valuation body)) [
    | inl some ↦ or_right _ _ some
    | inr none ↦
        or_left _ _ (value_signed head.positive (valuation head.variable) (settled_value last head.variable net at
        ∙ known_target head.positive (settled_at last net) _ _ clause
        (table_known gate.kind _ _ (all_agree (settled_trit last variables body) (settled_at last) gate.inputs (settled_agrees low' high' last body none))) is))
  ]

  level_same : (a b : Bool) → level_is a b ≡ true → a ≡ b
  level_same true true is = refl
  level_same true false is = cc
  level_same false true is = cc
  level_same false false is = refl

  is_by-within : (n : ℕ) (last end : Option ℕ) → is_within last end ≡ true → is_by n last ≡ true → is_by n end ≡ true
  is_by-within n last None within by = refl
  is_by-within n None (Some end) within by = cc
  is_by-within n (Some last) (Some end) within by = le-leb n end (let a = leb-true n last by in let b = leb-true last end within in omega arith)

  part_holds : (part s : Saying) → is_part part s ≡ true → Holds level s → Holds level part
  part_holds part s is holds n from to =
      let a = and_parts (part.net == s.net) _ is in
      let b = and_parts (level_is part.level s.level) _ a.1 in
      let c = and_parts (nat_le s.first part.first) (is_within part.last s.last) b.1 in
      let first = leb-true s.first part.first c.0 in
      ap (λ (k : ℕ). level k n) (eqb-true part.net s.net a.0)
      ∙ holds n (omega arith) (is_by-within n part.last s.last c.1 to)
      ∙ sym (level_same part.level s.level b.0)

  apart_fails : (other s : Saying) → is_apart other s ≡ true → Holds level s → Holds level other → ⊥
  apart_fails other s is holds holds' =
      let a = and_parts (other.net == s.net) _ is in
      let b = and_parts (level_is other.level (not s.level)) _ a.1 in
      let c = and_parts (is_by (max other.first s.first) other.last) (is_by (max other.first s.first) s.last) b.1 in
      let one : level other.net (max other.first s.first) ≡ other.level = holds' (max other.first s.first) (omega arith) c.0 in
      let two : level s.net (max other.first s.first) ≡ s.level = holds (max other.first s.first) (omega arith) c.1 in
      not_self s.level (sym two ∙ ap (λ (k : ℕ). level k (max other.first s.first)) (sym (eqb-true other.net s.net a.0)) ∙ one ∙ level_same other.level (not s.level) b.0)

  part_true : (s : Saying) (positive : Bool) (x : ℕ) (o : Option Variable) → slice_get variables x ≡ o → Holds level s → is_part_of s positive o ≡ true
      → signed positive (valuation x) ≡ true
  part_true s false x o at holds is = cc
  part_true s true x None at holds is = cc
  part_true s true x (Some (First net)) at holds is = cc
  part_true s true x (Some (Last net)) at holds is = cc
  part_true s true x (Some (Flips i k)) at holds is = cc
  part_true s true x (Some (Span part)) at holds is = (meant x (Span part) at).1 (part_holds part s is holds)

  -- The clause of a net is true.
  pub net_true : (one other : Literal) → is_net_clause variables times one other ≡ true → IsTrueUnder valuation (one ∷ other ∷ [])
  net_true one other = go (says variables times (negation one)) refl
    where
      apart : (s : Saying) → Holds level s → (u : Option Saying) → says variables times (negation other) ≡ u → is_apart_from s u ≡ true
          → literal_true valuation other ≡ false → ⊥
      apart s holds None at is none = cc
      apart s holds (Some t) at is none = apart_fails t s is holds
          (said_holds level final times right variables valuation meant (negation other) t at (denied other.positive (valuation other.variable) none))

      second : (s : Saying) → Holds level s → is_part_of s other.positive (slice_get variables other.variable) || is_apart_from s (says variables times (negation other)) ≡ true
          → literal_true valuation other ≡ true
      second s holds is = elim (or_cases (is_part_of s other.positive (slice_get variables other.variable)) (is_apart_from s (says variables times (negation other))) is) [
        | inl part ↦ part_true s other.positive other.variable (slice_get variables other.variable) refl holds part
        | inr away ↦ elim (cases_Bool (literal_true valuation other)) [
          | inl so ↦ so
          | inr none ↦ absurd (apart s holds (says variables times (negation other)) refl away none)
        ]
      ]

      go : (o : Option Saying) → says variables times (negation one) ≡ o
          → net_by o other.positive (slice_get variables other.variable) (says variables times (negation other)) ≡ true → IsTrueUnder valuation (one ∷ other ∷ [])
      go None at is = cc
      go (Some s) at is = elim (cases_Bool (literal_true valuation one)) [
        | inl so ↦ or_left (literal_true valuation one) (literal_true valuation other || false) so
        | inr none ↦ or_right (literal_true valuation one) (literal_true valuation other || false) (or_left (literal_true valuation other) false (second s
            (said_holds level final times right variables valuation meant (negation one) s at (denied one.positive (valuation one.variable) none)) is))
      ]
