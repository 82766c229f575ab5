-- Conditions in order, each of them once.
use Rattle.std.proofs.Common.{◌≡◌, ◌∙◌, ℕ, zero, suc, ◌+◌, ◌-◌, ◌<◌, ◌≤◌, Bool, true, false, List, [], ◌∷◌, ◌++◌, length, arith, refl, sym, ap, subst, inl, inr, length-append, append_assoc}
use Rattle.std.specs.Prelude.{◌&&◌, ◌||◌, ◌==◌, nat_lt, nat_le, slice_get, Some, None}
use Rattle.std.specs.List.{Contains}
use Rattle.std.specs.List.Sorted.{IsPermutation, IsNonDecreasingBy}
use Rattle.std.proofs.lemmas.Bool.{cases_lt, lt-ltb, le-leb, eq-eqb, and_parts, and_from}
use Rattle.std.proofs.lemmas.List.Elements.{Contains-push_cases, Contains-push, Contains-append_left}
use Rattle.std.proofs.lemmas.List.Sorted.{Contains-permutation, IsPermutation-sym}
use Rattle.td_gates.specs.declared.primitives.Level.{Level}
use Rattle.td_gates.specs.declared.primitives.Level.TheVariants.{Zero, One, X}
use Rattle.td_gates.proofs.Places.{none-some, some-same, slice_get-some, slice_get-get, slice_get-Contains, Contains-slice_get, slice_get-append_right}
use Rattle.td_spans.specs.declared.condition.Form.{Form}
use Rattle.td_spans.specs.declared.condition.Form.TheVariants.{Levels, Equal}
use Rattle.td_refutation.specs.declared.conditions.NamedCondition.{NamedCondition}
use Rattle.td_certificate.specs.Text.{level_byte}
use Rattle.td_certificate.specs.Accepts.{form_order, is_before, are_fit}
use Rattle.td_question.specs.Found.{condition_order, IsLastOf, IsPushed, IsKeptTo, AreInOrder}

-- ---- places of conditions

byte_bound : (level : Level) → level_byte level < 61
byte_bound Zero = omega arith
byte_bound One = omega arith
byte_bound X = omega arith

byte_same : (one other : Level) → level_byte one ≡ level_byte other → one ≡ other
byte_same Zero Zero same = refl
byte_same Zero One same = absurd (omega (arith, same))
byte_same Zero X same = absurd (omega (arith, same))
byte_same One Zero same = absurd (omega (arith, same))
byte_same One One same = refl
byte_same One X same = absurd (omega (arith, same))
byte_same X Zero same = absurd (omega (arith, same))
byte_same X One same = absurd (omega (arith, same))
byte_same X X same = refl

order_bound : (form : Form) → form_order form < 65536
order_bound (Levels a b) = omega (arith, byte_bound a, byte_bound b)
order_bound Equal = omega arith

order_same : (one other : Form) → form_order one ≡ form_order other → one ≡ other
order_same (Levels a b) (Levels c d) same =
    let first : level_byte a ≡ level_byte c = omega (arith, same, byte_bound a, byte_bound b, byte_bound c, byte_bound d) in
    let second : level_byte b ≡ level_byte d = omega (arith, same, first) in
    ap (λ (l : Level). Levels l b) (byte_same a c first) ∙ ap (λ (l : Level). Levels c l) (byte_same b d second)
order_same (Levels a b) Equal same = absurd (omega (arith, same, byte_bound a, byte_bound b))
order_same Equal (Levels c d) same = absurd (omega (arith, same, byte_bound c, byte_bound d))
order_same Equal Equal same = refl

abbrev named : ℕ → Form → NamedCondition
named net form = record { net = net; form = form }

-- conditions with one place are one
condition_same : (one other : NamedCondition) → condition_order one ≡ condition_order other → one ≡ other
condition_same one other same =
    let net : one.net ≡ other.net = omega (arith, same, order_bound one.form, order_bound other.form) in
    let form : form_order one.form ≡ form_order other.form = omega (arith, same, net) in
    ap (λ (n : ℕ). named n one.form) net ∙ ap (λ (f : Form). named other.net f) (order_same one.form other.form form)

or_left : (a b : Bool) → a ≡ true → (a || b) ≡ true
or_left true b is = refl
or_left false b is = absurd (let wrong : false ≡ true = is in cc)

or_right : (a b : Bool) → b ≡ true → (a || b) ≡ true
or_right true b is = refl
or_right false b is = is

-- a condition with a lower place stands before the other
before : (this that : NamedCondition) → condition_order this < condition_order that → is_before this that ≡ true
before this that low = elim (cases_lt this.net that.net) [
  | inl less ↦ or_left (nat_lt this.net that.net) ((this.net == that.net) && nat_lt (form_order this.form) (form_order that.form)) (lt-ltb this.net that.net less)
  | inr high ↦
      (let net : this.net ≡ that.net = omega (arith, low, high, order_bound this.form, order_bound that.form) in
      let form : form_order this.form < form_order that.form = omega (arith, low, net) in
      or_right (nat_lt this.net that.net) ((this.net == that.net) && nat_lt (form_order this.form) (form_order that.form))
      (and_from (this.net == that.net) (nat_lt (form_order this.form) (form_order that.form)) (eq-eqb this.net that.net net)
      (lt-ltb (form_order this.form) (form_order that.form) form)))
]

-- ---- conditions that rise

fit_one : (count : ℕ) (next : NamedCondition) → 2 ≤ next.net → next.net < count → are_fit count (next ∷ []) ≡ true
fit_one count next some within = and_from (nat_le 2 next.net) (nat_lt next.net count) (le-leb 2 next.net some) (lt-ltb next.net count within)

module _ (count : ℕ) (last next : NamedCondition) (some : 2 ≤ next.net) (within : next.net < count) (low : condition_order last < condition_order next) where
  -- one condition more, behind the last one
  fit_more : (front : List NamedCondition) → are_fit count (front ++ last ∷ []) ≡ true → are_fit count (front ++ last ∷ next ∷ []) ≡ true
  fit_more [] fit =
      and_from (nat_le 2 last.net && is_before last next) (are_fit count (next ∷ []))
      (and_from (nat_le 2 last.net) (is_before last next) (and_parts (nat_le 2 last.net) (nat_lt last.net count) fit).0 (before last next low))
      (fit_one count next some within)
  fit_more (this ∷ []) fit =
      let parts = and_parts (nat_le 2 this.net && is_before this last) (are_fit count (last ∷ [])) fit in
      and_from (nat_le 2 this.net && is_before this last) (are_fit count (last ∷ next ∷ [])) parts.0 (fit_more [] parts.1)
  fit_more (this ∷ that ∷ front) fit =
      let parts = and_parts (nat_le 2 this.net && is_before this that) (are_fit count ((that ∷ front) ++ last ∷ [])) fit in
      and_from (nat_le 2 this.net && is_before this that) (are_fit count ((that ∷ front) ++ last ∷ next ∷ [])) parts.0
      (fit_more (that ∷ front) parts.1)

ends_at : (kept : List NamedCondition) (i : ℕ) (last : NamedCondition) → length kept ≡ suc i → slice_get kept i ≡ Some last
    → (front : List NamedCondition) × (kept ≡ front ++ last ∷ [])
ends_at [] i last long at = absurd (none-some last at)
ends_at (this ∷ []) zero last long at = ([], ap (λ (c : NamedCondition). c ∷ []) (some-same this last at))
ends_at (this ∷ []) (suc i) last long at = absurd (none-some last at)
ends_at (this ∷ that ∷ kept) zero last long at = absurd (omega (arith, long))
ends_at (this ∷ that ∷ kept) (suc i) last long at =
    let rest = ends_at (that ∷ kept) i last (omega (arith, long)) at in
    (this ∷ rest.0, ap (λ (cs : List NamedCondition). this ∷ cs) rest.1)

ends_from : (kept : List NamedCondition) (last : NamedCondition) → IsLastOf kept last → (front : List NamedCondition) × (kept ≡ front ++ last ∷ [])
ends_from [] last is = absurd (none-some last is)
ends_from (this ∷ kept) last is = ends_at (this ∷ kept) (length (this ∷ kept) - 1) last (omega arith) is

last_pushed : (kept : List NamedCondition) (next : NamedCondition) → IsLastOf (kept ++ next ∷ []) next
last_pushed kept next =
    subst (λ (i : ℕ). slice_get (kept ++ next ∷ []) i ≡ Some next) (omega (arith, length-append kept (next ∷ [])))
    (slice_get-append_right kept (next ∷ []) 0 (length kept + 0) refl)

-- ---- sorted conditions, each kept once

module _ (sorted : List NamedCondition) (rises : IsNonDecreasingBy condition_order sorted) (place : ℕ) (next : NamedCondition)
    (at : slice_get sorted place ≡ Some next) where
  above : (i : ℕ) (last : NamedCondition) → place ≡ i + 1 → slice_get sorted i ≡ Some last → condition_order last ≤ condition_order next
  above i last after here =
      let order = rises i place next (omega (arith, after)) (slice_get-some sorted place next at) in
      omega (
        arith,
        order,
        ap condition_order (slice_get-get sorted i last next here),
        ap condition_order (slice_get-get sorted place next next at),
      )

  each_more : (kept new : List NamedCondition) → IsKeptTo sorted place kept → ((c : NamedCondition) → Contains kept c → Contains new c) → Contains new next
      → (i : ℕ) (c : NamedCondition) → i < place + 1 → slice_get sorted i ≡ Some c → Contains new c
  each_more kept new is keeps has i c low here = elim (cases_lt i place) [
    | inl less ↦ keeps c (is.each i c less here)
    | inr high ↦
        (let same : i ≡ place = omega (arith, low, high) in
        subst (λ (x : NamedCondition). Contains new x)
        (some-same next c (sym at ∙ subst (λ (k : ℕ). slice_get sorted k ≡ Some c) same here)) has)
  ]

  kept_same : (kept : List NamedCondition) (last : NamedCondition) → IsKeptTo sorted place kept → IsLastOf kept last
      → condition_order next ≤ condition_order last → IsKeptTo sorted (place + 1) kept
  kept_same kept last is ends low = elim is.last [
    | inl (none, start) ↦ absurd (none-some last (subst (λ (cs : List NamedCondition). IsLastOf cs last) none ends))
    | inr (other, i, also, after, here) ↦
        (let one : other ≡ last = some-same other last (sym also ∙ ends) in
        let high : condition_order other ≤ condition_order next = above i other after here in
        let same : last ≡ next = condition_same last next (omega (arith, high, low, ap condition_order one)) in
        record {
          rising = is.rising;
          last = inr (next, place, subst (IsLastOf kept) same ends, refl, at);
          from = is.from;
          each = each_more kept kept is (λ c has. has) (slice_get-Contains kept (length kept - 1) next (subst (IsLastOf kept) same ends));
        })
  ]

  kept_more : (kept : List NamedCondition) → IsKeptTo sorted place kept
      → ((last : NamedCondition) → IsLastOf kept last → condition_order last < condition_order next) → IsKeptTo sorted (place + 1) (kept ++ next ∷ [])
  kept_more kept is high = record {
    rising = λ count nets.
        let net = nets next (slice_get-Contains sorted place next at) in
        elim is.last [
          | inl (none, start) ↦
              subst (λ (cs : List NamedCondition). are_fit count (cs ++ next ∷ []) ≡ true) (sym none) (fit_one count next net.0 net.1)
          | inr (last, i, ends, after, here) ↦
              (let front = ends_from kept last ends in
              let fit : are_fit count (front.0 ++ last ∷ next ∷ []) ≡ true =
              fit_more count last next net.0 net.1 (high last ends) front.0
              (subst (λ (cs : List NamedCondition). are_fit count cs ≡ true) front.1 (is.rising count nets)) in
              subst (λ (cs : List NamedCondition). are_fit count cs ≡ true)
              (sym (append_assoc front.0 (last ∷ []) (next ∷ [])) ∙ ap (λ (cs : List NamedCondition). cs ++ next ∷ []) (sym front.1)) fit)
        ];
    last = inr (next, place, last_pushed kept next, refl, at);
    from = λ c has. elim (Contains-push_cases kept next c has) [
      | inl earlier ↦ is.from c earlier
      | inr same ↦ subst (λ (x : NamedCondition). Contains sorted x) same (slice_get-Contains sorted place next at)
    ];
    each = each_more kept (kept ++ next ∷ []) is (λ c has. Contains-append_left kept (next ∷ []) c has) (Contains-push kept next);
  }

  pub pushed : (kept new : List NamedCondition) → IsKeptTo sorted place kept → IsPushed kept next new → IsKeptTo sorted (place + 1) new
  pushed kept new is (inl (same, (last, ends, low))) = subst (IsKeptTo sorted (place + 1)) (sym same) (kept_same kept last is ends low)
  pushed kept new is (inr (more, high)) = subst (IsKeptTo sorted (place + 1)) (sym more) (kept_more kept is high)

pub none_kept : (sorted : List NamedCondition) → IsKeptTo sorted 0 []
none_kept sorted = record {
  rising = λ count nets. refl;
  last = inl (refl, refl);
  from = λ c has. absurd (omega (arith, has.1));
  each = λ i c low here. absurd (omega (arith, low));
}

pub in_order : (said sorted keep : List NamedCondition) (place : ℕ) → IsPermutation said sorted → length sorted ≤ place → IsKeptTo sorted place keep → AreInOrder said keep
in_order said sorted keep place moved end is = record {
  rising = λ count nets. is.rising count (λ c has. nets c (Contains-permutation sorted said c (IsPermutation-sym said sorted moved) has));
  same = λ c. (
    λ has. Contains-permutation sorted said c (IsPermutation-sym said sorted moved) (is.from c has),
    λ has.
        let at = Contains-slice_get sorted c (Contains-permutation said sorted c moved has) in
        is.each at.0 c (omega (arith, slice_get-some sorted at.0 c at.1, end)) at.1,
  );
}

pub last_is : (row items : List NamedCondition) (last : NamedCondition) → row ≡ items → Some last ≡ slice_get row (length row - 1) → IsLastOf items last
last_is row items last same at = subst (λ (cs : List NamedCondition). IsLastOf cs last) same (sym at)

pub no_last : (row items : List NamedCondition) (last : NamedCondition) → row ≡ items → None ≡ slice_get row (length row - 1) → IsLastOf items last → ⊥
no_last row items last same none at =
    none-some last (none ∙ subst (λ (cs : List NamedCondition). slice_get cs (length cs - 1) ≡ Some last) (sym same) at)

pub only_last : (items : List NamedCondition) (last other next : NamedCondition) → IsLastOf items last → IsLastOf items other
    → condition_order last < condition_order next → condition_order other < condition_order next
only_last items last other next this that low =
    omega (arith, low, ap condition_order (some-same last other (sym this ∙ that)))
