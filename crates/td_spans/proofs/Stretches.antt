-- Stretches: what is known of a gate's target stays the same up to the end of a stretch.
use Rattle.std.proofs.Common.{◌≡◌, ℕ, ◌+◌, ◌-◌, ◌<◌, ◌≤◌, min, Bool, true, false, List, [], ◌∷◌, map, refl, arith, ap, sym, ◌∙◌, subst, inl, inr, Option, Some, None}
use Rattle.td_spans.specs.Times.{is_by}
use Rattle.td_spans.specs.Targets.{steps_to}
use Rattle.td_spans.specs.Sure.{IsSure}
use Rattle.std.specs.Prelude.{nat_le, not}
use Rattle.std.proofs.lemmas.Bool.{cases_lt, leb-true, le-leb, lt-leb, lt-ltb, le-ltb, ltb-true}
use Rattle.td_gates.specs.declared.primitives.Level.{Level}
use Rattle.td_gates.specs.declared.timing.Delay.{Delay}
use Rattle.td_gates.specs.Table.{table, level_eq, level_from}
use Rattle.td_circuit.specs.Numbering.{NumberedGate}
use Rattle.td_propagation.specs.declared.literal.Literal.{Literal}
use Rattle.td_propagation.specs.Literals.{negation}
use Rattle.td_spans.specs.declared.times.Times.{Times}
use Rattle.td_spans.specs.declared.variable.Saying.{Saying}
use Rattle.td_spans.specs.declared.variable.Variable.{Variable}
use Rattle.td_spans.specs.declared.walk.Walk.{Walk}
use Rattle.td_spans.proofs.Walks.{walked_right, covered_sure}
use Rattle.td_spans.proofs.Completing.{IsUnderWay, begins_whole, walked_whole, open_on, not_sure}
use Rattle.td_spans.specs.Sayings.{says}
use Rattle.td_spans.specs.Clauses.{trit_from, trit_by, is_known, IsSureOf}
use Rattle.td_spans.specs.Walking.{is_before, TOP, walked, is_covered, IsSureFor, IsStretch, IsWalkTo}
use Rattle.td_spans.specs.Stretching.{nearer, last_before, last_within, last_by, stretch_last, next_after}

nearer_last : (last : Option ℕ) (place n : ℕ) → is_by n (nearer last place) ≡ true → (is_by n last ≡ true) × (n ≤ place)
nearer_last None place n is = (refl, leb-true n place is)
nearer_last (Some e) place n is = (let less = leb-true n (min e place) is in (le-leb n e (omega arith), omega arith))

before_first : (last : Option ℕ) (place first n : ℕ) → place ≤ n → is_by n (last_before last place first) ≡ true
    → (is_by n last ≡ true) × (nat_le first n ≡ nat_le first place)
before_first last place first n low is = elim (cases_lt place first) [
  | inl later ↦
      let it = nearer_last last (first - 1) n (rw (lt-ltb place first later) at is) in
      let under : n < first = omega (arith, it.1, later) in
      (it.0, rw (lt-leb first n under, lt-leb first place later) refl)
  | inr now ↦ (rw (le-ltb place first now) at is, rw (le-leb first n (omega arith), le-leb first place now) refl)
]

after_last : (last : Option ℕ) (place : ℕ) (end : Option ℕ) (n : ℕ) → place ≤ n → is_by n (last_within last place end) ≡ true
    → (is_by n last ≡ true) × (is_by n end ≡ is_by place end)
after_last last place None n low is = (is, refl)
after_last last place (Some end) n low is = elim (cases_lt end place) [
  | inl past ↦ (rw (lt-leb place end past) at is, rw (lt-leb n end (omega arith), lt-leb place end past) refl)
  | inr on ↦
      let it = nearer_last last end n (rw (le-leb place end on) at is) in
      (it.0, rw (le-leb n end it.1, le-leb place end on) refl)
]

by_saying : (last : Option ℕ) (place n : ℕ) (o : Option Saying) → place ≤ n → is_by n (last_by last place o) ≡ true
    → (is_by n last ≡ true) × ((net : ℕ) (rest rest' : Level) → rest ≡ rest' → trit_from o net n rest ≡ trit_from o net place rest')
by_saying last place n None low is = (is, λ net rest rest' same. same)
by_saying last place n (Some s) low is =
    let late = after_last (last_before last place s.first) place s.last n low is in
    let early = before_first last place s.first n low late.0 in
    (early.0, λ net rest rest' same. rw (early.1, late.1, same) refl)

stretch_all : (variables : List Variable) (times : List Times) (last : Option ℕ) (place n : ℕ) (body : List Literal) → place ≤ n
    → is_by n (stretch_last variables times last place body) ≡ true
    → (is_by n last ≡ true) × ((net : ℕ) → trit_by variables times body net n ≡ trit_by variables times body net place)
stretch_all variables times last place n [] low is = (is, λ net. refl)
stretch_all variables times last place n (literal ∷ body) low is =
    let rest = stretch_all variables times (last_by last place (says variables times (negation literal))) place n body low is in
    let here = by_saying last place n (says variables times (negation literal)) low rest.0 in
    (here.0, λ net. here.1 net (trit_by variables times body net n) (trit_by variables times body net place) (rest.1 net))

pub before_next : (last : Option ℕ) (n : ℕ) → is_before n (next_after last) ≡ true → is_by n last ≡ true
before_next None n is = refl
before_next (Some last) n is = let less = ltb-true n (last + 1) is in le-leb n last (omega arith)

-- the last place, where there is one, isn't before the place
abbrev IsFar : ℕ → Option ℕ → Type 0
IsFar place None = Unit {0}
IsFar place (Some last) = place ≤ last

far_nearer : (place n : ℕ) (last : Option ℕ) → place ≤ n → IsFar place last → IsFar place (nearer last n)
far_nearer place n None low far = low
far_nearer place n (Some last) low far = omega (arith, far)

far_before : (place first : ℕ) (last : Option ℕ) → IsFar place last → IsFar place (last_before last place first)
far_before place first last far = elim (cases_lt place first) [
  | inl later ↦ rw (lt-ltb place first later) (far_nearer place (first - 1) last (omega arith) far)
  | inr now ↦ rw (le-ltb place first now) far
]

far_within : (place : ℕ) (last end : Option ℕ) → IsFar place last → IsFar place (last_within last place end)
far_within place last None far = far
far_within place last (Some end) far = elim (cases_lt end place) [
  | inl past ↦ rw (lt-leb place end past) far
  | inr on ↦ rw (le-leb place end on) (far_nearer place end last on far)
]

far_by : (place : ℕ) (last : Option ℕ) (o : Option Saying) → IsFar place last → IsFar place (last_by last place o)
far_by place last None far = far
far_by place last (Some saying) far = far_within place (last_before last place saying.first) saying.last (far_before place saying.first last far)

far_all : (variables : List Variable) (times : List Times) (place : ℕ) (last : Option ℕ) (body : List Literal) → IsFar place last
    → IsFar place (stretch_last variables times last place body)
far_all variables times place last [] far = far
far_all variables times place last (literal ∷ body) far =
    far_all variables times place (last_by last place (says variables times (negation literal))) body (far_by place last (says variables times (negation literal)) far)

far_next : (place : ℕ) (last : Option ℕ) → IsFar place last → is_before place (next_after last) ≡ true
far_next place None far = refl
far_next place (Some last) far = lt-ltb place (last + 1) (omega arith)

same_levels : (f g : ℕ → Level) (inputs : List ℕ) → ((net : ℕ) → f net ≡ g net) → map f inputs ≡ map g inputs
same_levels f g [] same = refl
same_levels f g (net ∷ inputs) same = rw (same net, same_levels f g inputs same) refl

-- Whether the target surely is at a level stays the same in a stretch.
pub known_same : (variables : List Variable) (times : List Times) (gate : NumberedGate) (body : List Literal) (level : Bool) (place : ℕ)
    → IsStretch (is_known variables times gate body level) (is_known variables times gate body level place) place (next_after (stretch_last variables times None place body))
known_same variables times gate body level place n low is =
    let same = stretch_all variables times None place n body low (before_next (stretch_last variables times None place body) n is) in
    ap (λ (ls : List Level). level_eq (level_from level) (table gate.kind ls))
    (same_levels (λ net. trit_by variables times body net n) (λ net. trit_by variables times body net place) gate.inputs same.1)

pub to_sure : (known : ℕ → Bool) (coming going : ℕ) (next : Option ℕ) (walk : Walk) → IsWalkTo known coming going next walk → IsSureFor known coming going walk.sure
to_sure known coming going None walk is = is
to_sure known coming going (Some next) walk is = is.sure

-- at the beginning
pub way_begins : (known : ℕ → Bool) (coming going : ℕ) (saying : Saying) → IsUnderWay known coming going 0 (record { run = None; sure = None }) saying
way_begins known coming going saying = record {
  right = record { run = tt; sure = tt };
  whole = begins_whole known coming going;
  opens = λ last is all. omega arith;
  low = omega arith;
}

-- a saying of no place
pub no_place : (known : ℕ → Bool) (coming going : ℕ) (saying : Saying) (b : Bool) → b ≡ is_by saying.first saying.last → b ≡ false → IsSureOf known coming going saying
no_place known coming going saying b is not n low by = go saying.last refl
  where
    go : (last : Option ℕ) → saying.last ≡ last → IsSure known coming going n
    go None is_last = (let wrong : false ≡ true = sym not ∙ is ∙ ap (is_by saying.first) is_last in cc)
    go (Some last) is_last =
        let less = leb-true n last (ap (is_by n) (sym is_last) ∙ by) in
        let wrong : false ≡ true = sym not ∙ is ∙ ap (is_by saying.first) is_last ∙ le-leb saying.first last (omega arith) in cc

-- the place is before the next one, where literals say where a stretch ends
pub before_next_place : (variables : List Variable) (times : List Times) (body : List Literal) (place : ℕ) (last next : Option ℕ)
    → last ≡ stretch_last variables times None place body → next ≡ next_after last → is_before place next ≡ true
before_next_place variables times body place last next last_is next_is =
    ap (is_before place) (next_is ∙ ap next_after last_is) ∙ far_next place (stretch_last variables times None place body) (far_all variables times place None body tt)

-- a stretch that literals say
pub stretch_by : (variables : List Variable) (times : List Times) (gate : NumberedGate) (body : List Literal) (level : Bool) (place : ℕ) (last next : Option ℕ) (passes : Bool)
    → last ≡ stretch_last variables times None place body → next ≡ next_after last → passes ≡ is_known variables times gate body level place
    → IsStretch (is_known variables times gate body level) passes place next
stretch_by variables times gate body level place last next passes last_is next_is passes_is =
    rw (next_is, last_is, passes_is) (known_same variables times gate body level place)

module _ (known : ℕ → Bool) (delay : Delay) (saying : Saying) (coming going place : ℕ) (walk walk' : Walk)
    (passes covered some_place : Bool) (next : Option ℕ) (coming_is : coming ≡ steps_to delay saying.level) (going_is : going ≡ steps_to delay (not saying.level))
    (some : 1 ≤ coming) (some' : 1 ≤ going) (before : is_before place next ≡ true) (stretch : IsStretch known passes place next)
    (walk_is : walk' ≡ walked walk passes place next coming going)
    (is : IsUnderWay known (steps_to delay saying.level) (steps_to delay (not saying.level)) place walk saying)
    (covered_is : covered ≡ is_covered walk'.sure saying going) (place_is : some_place ≡ is_by saying.first saying.last) (has_place : some_place ≡ true) where
  some_come : 1 ≤ steps_to delay saying.level
  some_come = rw coming_is at some

  some_go : 1 ≤ steps_to delay (not saying.level)
  some_go = rw going_is at some'

  walk_so : walk' ≡ walked walk passes place next (steps_to delay saying.level) (steps_to delay (not saying.level))
  walk_so = walk_is ∙ ap (λ (k : ℕ). walked walk passes place next k going) coming_is ∙ ap (λ (k : ℕ). walked walk passes place next (steps_to delay saying.level) k) going_is

  covered_so : covered ≡ is_covered (walked walk passes place next (steps_to delay saying.level) (steps_to delay (not saying.level))).sure saying (steps_to delay (not saying.level))
  covered_so = covered_is ∙ ap (λ (w : Walk). is_covered w.sure saying going) walk_so
      ∙ ap (is_covered (walked walk passes place next (steps_to delay saying.level) (steps_to delay (not saying.level))).sure saying) going_is

  -- what is covered is sure
  pub all_sure : covered ≡ true
      → IsSureOf known (steps_to delay saying.level) (steps_to delay (not saying.level)) saying
  all_sure holds n low by =
      covered_sure known (steps_to delay saying.level) (steps_to delay (not saying.level))
      some_come some_go (walked walk passes place next (steps_to delay saying.level) (steps_to delay (not saying.level))).sure saying
      (to_sure known (steps_to delay saying.level) (steps_to delay (not saying.level)) next
      (walked walk passes place next (steps_to delay saying.level) (steps_to delay (not saying.level)))
      (walked_right known (steps_to delay saying.level) (steps_to delay (not saying.level)) some_come some_go
      walk passes place next before stretch is.right))
      (sym covered_so ∙ holds) n low by

  -- where nothing is left, the saying isn't sure
  pub none_sure : covered ≡ false → next ≡ None
      → IsSureOf known (steps_to delay saying.level) (steps_to delay (not saying.level)) saying → ⊥
  none_sure away =
      not_sure known (steps_to delay saying.level) (steps_to delay (not saying.level)) some_come some_go
      walk passes place next before is.low stretch is.right.run is.whole saying (sym place_is ∙ has_place) is.opens (sym covered_so ∙ away)

  -- the walk goes on
  pub way_on : covered ≡ false → (later : ℕ) → next ≡ Some later → later ≤ TOP
      → IsUnderWay known (steps_to delay saying.level) (steps_to delay (not saying.level)) later walk' saying
  way_on away later is_later top =
      let before' : is_before place (Some later) ≡ true = ap (is_before place) (sym is_later) ∙ before in
      let stretch' : IsStretch known passes place (Some later) =
      subst (IsStretch known passes place) is_later stretch in
      let walk_later : walk' ≡ walked walk passes place (Some later) (steps_to delay saying.level) (steps_to delay (not saying.level)) =
      walk_so ∙ ap (λ (o : Option ℕ). walked walk passes place o (steps_to delay saying.level) (steps_to delay (not saying.level))) is_later in
      subst (λ (w : Walk). IsUnderWay known (steps_to delay saying.level) (steps_to delay (not saying.level)) later w saying) (sym walk_later)
      (record {
        right = walked_right known (steps_to delay saying.level) (steps_to delay (not saying.level)) some_come some_go
            walk passes place (Some later) before' stretch' is.right;
        whole = walked_whole known (steps_to delay saying.level) (steps_to delay (not saying.level)) some_come some_go
            walk passes place later before' is.low stretch' is.right.run is.whole;
        opens = open_on known (steps_to delay saying.level) (steps_to delay (not saying.level)) some_come some_go
            walk passes place next before is.low stretch is.right.run is.whole saying (sym place_is ∙ has_place) is.opens (sym covered_so ∙ away) later is_later;
        low = top;
      })

  pub gets_less : (later : ℕ) → next ≡ Some later → later ≤ TOP → TOP - later < TOP - place
  gets_less later is_later top =
      let less = ltb-true place later (ap (is_before place) (sym is_later) ∙ before) in omega arith
