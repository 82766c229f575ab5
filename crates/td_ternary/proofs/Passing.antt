-- Both levels over time, and the changes of the signal that stands for those that are possible.
use Rattle.std.proofs.Common.{◌≡◌, ℕ, zero, suc, ◌+◌, ◌<◌, ◌≤◌, ◌⊎◌, min, true, false, List, [], ◌∷◌, ◌++◌, refl, arith, ap, ◌∙◌, sym, inl, inr, Option, Some, None, append-nil, append_assoc, length, drop, get_or, add-one, drop-cons}
use Rattle.std.proofs.lemmas.List.{drop_all}
use Rattle.std.specs.Prelude.{nat_le}
use Rattle.std.proofs.lemmas.Bool.{cases_lt, le-leb, lt-leb, cases_Bool}
use Rattle.td_gates.specs.declared.primitives.Level.{Level}
use Rattle.td_gates.specs.declared.primitives.Level.TheVariants.{Zero as Low, One as High, X}
use Rattle.td_gates.specs.declared.timing.Delay.{Delay}
use Rattle.td_gates.specs.declared.timing.Change.{Change}
use Rattle.td_gates.specs.Delays.{IsInRange}
use Rattle.td_gates.specs.Wave.{Wave, level_after, at, before, IsRising, IsWave}
use Rattle.td_gates.proofs.Levels.{level_eq-same, level_eq-other, cases_level, level_after-early, IsRising-sooner}
use Rattle.td_gates.proofs.Scheduling.{delivered, IsReady}
use Rattle.td_run.proofs.Delayed.{delayed_wave, delayed_wave-obeys}
use Rattle.td_ternary.specs.Prospects.{Prospect}
use Rattle.td_ternary.specs.Prospects.{Outlook}
use Rattle.td_ternary.specs.Possibles.{has, is_possible, change_at}
use Rattle.td_ternary.specs.Turning.{may_be, either, possible_after}
use Rattle.td_ternary.specs.Prospects.{is_by, due_moment, earlier, fired, fired_by, level_of, stepped, stepping, settled, settling, driven, begun, passed}
use Rattle.td_ternary.proofs.Turning.{turns, turns-rising, turns-after}
use Rattle.td_ternary.proofs.Computing.{level_of_test, possible-buffered, either-possible}
use Rattle.td_ternary.proofs.Firing.{Follows, fire, stays, stays-under, drive}

-- ---- what is due

-- the event isn't before a moment
abbrev IsFrom : ℕ → Option Change → Type 0
IsFrom t None = Unit {0}
IsFrom t (Some event) = t ≤ event.moment

-- no event is due by the end
abbrev IsQuiet : Option ℕ → Option Change → Type 0
IsQuiet end scheduled = (t : ℕ) → is_by end t ≡ true → IsFrom (suc t) scheduled

later_than : (end : Option ℕ) (moment t : ℕ) → is_by end moment ≡ false → is_by end t ≡ true → t < moment
later_than None moment t past by = cc
later_than (Some end) moment t past by = elim (cases_lt end moment) [
  | inr wrong ↦ (let e : true ≡ false = rw (le-leb moment end wrong) at past in cc)
  | inl after ↦ elim (cases_lt end t) [
    | inl wrong ↦ (let e : false ≡ true = rw (lt-leb t end wrong) at by in cc)
    | inr reached ↦ omega arith
  ]
]

pub by_end : (end t : ℕ) → nat_le t end ≡ true → t ≤ end
by_end end t by = elim (cases_lt end t) [
  | inl wrong ↦ (let e : false ≡ true = rw (lt-leb t end wrong) at by in cc)
  | inr reached ↦ reached
]

-- an event that is due by the end, or none
due-cases : (end : Option ℕ) (scheduled : Option Change)
    → ((due_moment end scheduled ≡ None) × IsQuiet end scheduled)
    ⊎ ((event : Change) × (scheduled ≡ Some event) × (is_by end event.moment ≡ true) × (due_moment end scheduled ≡ Some event.moment))
due-cases end None = inl (refl, λ t by. tt)
due-cases end (Some event) = elim (cases_Bool (is_by end event.moment)) [
  | inl by ↦ inr (event, refl, by, rw by refl)
  | inr past ↦ inl (rw past refl, λ t by. later_than end event.moment t past by)
]

-- the moment is that of the event
abbrev IsOf : ℕ → Option Change → Type 0
IsOf t scheduled = (event : Change) × (scheduled ≡ Some event) × (event.moment ≡ t)

-- the moment of the next event
record IsNext (end : Option ℕ) (this that : Option Change) (t : ℕ) : Type 0 where
  by : is_by end t ≡ true
  first : IsFrom t this
  second : IsFrom t that
  one_of : IsOf t this ⊎ IsOf t that

from_quiet : (t : ℕ) (scheduled : Option Change) → IsFrom (suc t) scheduled → IsFrom t scheduled
from_quiet t None from = tt
from_quiet t (Some event) from = omega arith

from_event : (t : ℕ) (scheduled : Option Change) (event : Change) → scheduled ≡ Some event → t ≤ event.moment → IsFrom t scheduled
from_event t scheduled event is from = rw is from

next-cases : (end : Option ℕ) (this that : Option Change)
    → ((earlier (due_moment end this) (due_moment end that) ≡ None) × IsQuiet end this × IsQuiet end that)
    ⊎ ((t : ℕ) × (earlier (due_moment end this) (due_moment end that) ≡ Some t) × IsNext end this that t)
next-cases end this that = elim (due-cases end this) [
  | inl idle ↦ elim (due-cases end that) [
    | inl other ↦ inl (rw (idle.0, other.0) refl, idle.1, other.1)
    | inr other ↦ inr (
      other.0.moment,
      rw (idle.0, other.3) refl,
      record {
        by = other.2;
        first = from_quiet _ this (idle.1 other.0.moment other.2);
        second = from_event _ that other.0 other.1 (omega arith);
        one_of = inr (other.0, other.1, refl);
      },
    )
  ]
  | inr due ↦ elim (due-cases end that) [
    | inl other ↦ inr (
      due.0.moment,
      rw (due.3, other.0) refl,
      record {
        by = due.2;
        first = from_event _ this due.0 due.1 (omega arith);
        second = from_quiet _ that (other.1 due.0.moment due.2);
        one_of = inl (due.0, due.1, refl);
      },
    )
    | inr other ↦ elim (cases_lt other.0.moment due.0.moment) [
      | inl sooner ↦ inr (
        other.0.moment,
        (let e : min due.0.moment other.0.moment ≡ other.0.moment = omega arith in rw (due.3, other.3) (ap (λ t. Some t) e)),
        record {
          by = other.2;
          first = from_event _ this due.0 due.1 (omega arith);
          second = from_event _ that other.0 other.1 (omega arith);
          one_of = inr (other.0, other.1, refl);
        },
      )
      | inr after ↦ inr (
        due.0.moment,
        (let e : min due.0.moment other.0.moment ≡ due.0.moment = omega arith in rw (due.3, other.3) (ap (λ t. Some t) e)),
        record {
          by = due.2;
          first = from_event _ this due.0 due.1 (omega arith);
          second = from_event _ that other.0 other.1 (omega arith);
          one_of = inl (due.0, due.1, refl);
        },
      )
    ]
  ]
]

-- ---- two steps leave nothing that is due

quiet-stays : (end : Option ℕ) (t : ℕ) (prospect : Prospect) (scheduled : Option Change) → prospect.scheduled ≡ scheduled → IsQuiet end scheduled
    → IsQuiet end (fired_by t scheduled prospect).scheduled
quiet-stays end t prospect None is quiet = rw is quiet
quiet-stays end t prospect (Some event) is quiet = elim (cases_lt t event.moment) [
  | inl early ↦ rw (lt-leb event.moment t early, is) quiet
  | inr due ↦ rw (le-leb event.moment t due) (λ u by. tt)
]

fired-quiet : (end : Option ℕ) (t : ℕ) (prospect : Prospect) → IsOf t prospect.scheduled → IsQuiet end (fired t prospect).scheduled
fired-quiet end t prospect of = rw (of.1, le-leb of.0.moment t (omega (arith, of.2))) (λ u by. tt)

abbrev AreQuiet : Option ℕ → Outlook → Type 0
AreQuiet end now = IsQuiet end now.zero.scheduled × IsQuiet end now.one.scheduled

one-quiet : (end : Option ℕ) (now : Outlook) → IsQuiet end (stepped end now).zero.scheduled ⊎ IsQuiet end (stepped end now).one.scheduled
one-quiet end now = elim (next-cases end now.zero.scheduled now.one.scheduled) [
  | inl none ↦ rw none.0 (inl none.1)
  | inr next ↦ rw next.1 (elim next.2.one_of [
    | inl of ↦ inl (fired-quiet end next.0 now.zero of)
    | inr of ↦ inr (fired-quiet end next.0 now.one of)
  ])
]

not_quiet : (end : Option ℕ) (t : ℕ) (scheduled : Option Change) → IsQuiet end scheduled → is_by end t ≡ true → IsOf t scheduled → ⊥
not_quiet end t scheduled quiet by of = let wrong : t < of.0.moment = rw of.1 at (quiet t by) in absurd (omega (arith, of.2))

both-quiet : (end : Option ℕ) (now : Outlook) → IsQuiet end now.zero.scheduled ⊎ IsQuiet end now.one.scheduled → AreQuiet end (stepped end now)
both-quiet end now one = elim (next-cases end now.zero.scheduled now.one.scheduled) [
  | inl none ↦ rw none.0 (none.1, none.2)
  | inr next ↦ rw next.1 (elim one [
    | inl zero_is ↦ (
      quiet-stays end next.0 now.zero now.zero.scheduled refl zero_is,
      elim next.2.one_of [
        | inl of ↦ absurd (not_quiet end next.0 now.zero.scheduled zero_is next.2.by of)
        | inr of ↦ fired-quiet end next.0 now.one of
      ],
    )
    | inr one_is ↦ (
      elim next.2.one_of [
        | inl of ↦ fired-quiet end next.0 now.zero of
        | inr of ↦ absurd (not_quiet end next.0 now.one.scheduled one_is next.2.by of)
      ],
      quiet-stays end next.0 now.one now.one.scheduled refl one_is,
    )
  ])
]

settled-quiet : (end : Option ℕ) (now : Outlook) → AreQuiet end (settled end now)
settled-quiet end now = both-quiet end (stepped end now) (one-quiet end now)

-- ---- the signal

-- from a moment on the changes show these levels
pub record IsShown (n : ℕ) (level : Level) (changes : List Change) (f : ℕ → Level) : Type 0 where
  pub rising : IsRising n level changes
  pub shows : (t : ℕ) → n ≤ t → level_after level changes t ≡ f t

-- nothing happens up to a moment, and what comes at it is shown
shown-more : (n u : ℕ) (level next : Level) (later : List Change) (f : ℕ → Level) → n ≤ u → ((t : ℕ) → n ≤ t → t < u → f t ≡ level) → f u ≡ next
    → IsShown (suc u) next later f → IsShown n level (change_at u level next ++ later) f
shown-more n u level next later f from before_it at_it shown = elim (cases_level level next) [
  | inl same ↦ rw (same, level_eq-same next) (record {
    rising = IsRising-sooner n (suc u) next later (omega arith) shown.rising;
    shows = λ t late. elim (cases_lt u t) [
      | inl after ↦ shown.shows t after
      | inr early ↦ level_after-early (suc u) t next later shown.rising (omega arith) ∙ sym (elim (cases_lt t u) [
        | inl under ↦ before_it t late under ∙ same
        | inr now ↦ (let e : t ≡ u = omega arith in ap f e ∙ at_it)
      ])
    ];
  })
  | inr differ ↦ rw (level_eq-other level next differ) (record {
    rising = (from, differ, shown.rising);
    shows = λ t late. elim (cases_lt t u) [
      | inl under ↦ rw (lt-leb u t under) (sym (before_it t late under))
      | inr on ↦ rw (le-leb u t on) (elim (cases_lt u t) [
        | inl after ↦ shown.shows t after
        | inr now ↦ (let e : t ≡ u = omega arith in level_after-early (suc u) t next later shown.rising (omega arith) ∙ sym (ap f e ∙ at_it))
      ])
    ];
  })
]

-- nothing happens up to a moment
shown-wait : (n u : ℕ) (level : Level) (later : List Change) (f : ℕ → Level) → n ≤ u → ((t : ℕ) → n ≤ t → t < u → f t ≡ level)
    → IsShown u level later f → IsShown n level later f
shown-wait n u level later f from before_it shown = record {
  rising = IsRising-sooner n u level later from shown.rising;
  shows = λ t late. elim (cases_lt t u) [
    | inl under ↦ level_after-early u t level later shown.rising under ∙ sym (before_it t late under)
    | inr on ↦ shown.shows t on
  ];
}

-- ---- the loop

abbrev pub both : Wave → Wave → ℕ → Level
both zeros ones t = either (at zeros t) (at ones t)

module _ (falling rising_by : Delay) (fits_zero : IsInRange falling) (fits_one : IsInRange rising_by) (zeros ones : Wave) (start : Level) where
  -- all before a moment is in the changes so far
  pub record IsUnderWay (n : ℕ) (level : Level) (rest out : List Change) (now : Outlook) : Type 0 where
    pub zero_is : Follows Low falling zeros n level rest now.zero
    pub one_is : Follows High rising_by ones n level rest now.one
    pub level_is : now.level ≡ level_of now.zero now.one
    pub goes_on : (later : List Change) → IsShown n now.level later (both zeros ones) → IsShown 0 start (out ++ later) (both zeros ones)

  ready_from : (n t : ℕ) (output : Level) (scheduled : Option Change) → IsReady n output scheduled → IsFrom t scheduled → IsReady t output scheduled
  ready_from n t output None ready from = tt
  ready_from n t output (Some event) ready from = (ready.0, from)

  of-from : (n t : ℕ) (output : Level) (scheduled : Option Change) → IsReady n output scheduled → IsOf t scheduled → n ≤ t
  of-from n t output scheduled ready of = let here : IsReady n output (Some of.0) = rw of.1 at ready in omega (arith, here.1, of.2)

  -- all that is due by the end is later than all that took place
  abbrev Reaches : Option ℕ → ℕ → Type 0
  Reaches None n = Unit {0}
  Reaches (Some end) n = n ≤ suc end

  reach : (end : Option ℕ) (t : ℕ) → is_by end t ≡ true → Reaches end (suc t)
  reach None t by = tt
  reach (Some end) t by = let low = by_end end t by in omega arith

  pub step : (end : Option ℕ) (n : ℕ) (level : Level) (rest out : List Change) (now : Outlook) → Reaches end n → ((t : ℕ) → is_by end t ≡ true → IsRising t level rest)
      → IsUnderWay n level rest out now
      → (m : ℕ) × Reaches end m × IsUnderWay m level rest (out ++ stepping end now) (stepped end now)
  step end n level rest out now reaches rises way = elim (next-cases end now.zero.scheduled now.one.scheduled) [
    | inl none ↦ rw none.0 (
      n,
      reaches,
      record {
        zero_is = way.zero_is;
        one_is = way.one_is;
        level_is = way.level_is;
        goes_on = λ later shown. rw (append-nil out) (way.goes_on later shown);
      },
    )
    | inr next ↦
        let u : ℕ = next.0 in
        let from : n ≤ u = elim next.2.one_of [
          | inl of ↦ of-from n u now.zero.output now.zero.scheduled way.zero_is.ready of
          | inr of ↦ of-from n u now.one.output now.one.scheduled way.one_is.ready of
        ] in
        let rising : IsRising u level rest = rises u next.2.by in
        let zero_ready = ready_from n u now.zero.output now.zero.scheduled way.zero_is.ready next.2.first in
        let one_ready = ready_from n u now.one.output now.one.scheduled way.one_is.ready next.2.second in
        let zero_fired = fire Low falling fits_zero zeros n level rest u from rising now.zero.target now.zero.output now.zero.scheduled way.zero_is zero_ready in
        let one_fired = fire High rising_by fits_one ones n level rest u from rising now.one.target now.one.output now.one.scheduled way.one_is one_ready in
        let before_it : (t : ℕ) → n ≤ t → t < u → both zeros ones t ≡ now.level =
        (λ t late under. rw (
          stays-under Low falling fits_zero zeros n level rest u now.zero.target now.zero.output now.zero.scheduled way.zero_is zero_ready rising t late under,
          stays-under High rising_by fits_one ones n level rest u now.one.target now.one.output now.one.scheduled way.one_is one_ready rising t late under,
        ) (sym way.level_is)) in
        let at_it : both zeros ones u ≡ level_of (fired u now.zero) (fired u now.one) = rw (zero_fired.1, one_fired.1) refl in
        rw next.1 (
          suc u,
          reach end u next.2.by,
          record {
            zero_is = zero_fired.0;
            one_is = one_fired.0;
            level_is = refl;
            goes_on = λ later shown. rw append_assoc (way.goes_on _ (shown-more n u now.level _ later (both zeros ones) from before_it at_it shown));
          },
        )
  ]

  pub settle : (end : Option ℕ) (n : ℕ) (level : Level) (rest out : List Change) (now : Outlook) → Reaches end n → ((t : ℕ) → is_by end t ≡ true → IsRising t level rest)
      → IsUnderWay n level rest out now
      → (m : ℕ) × Reaches end m × IsUnderWay m level rest (out ++ settling end now) (settled end now)
  settle end n level rest out now reaches rises way =
      let once = step end n level rest out now reaches rises way in
      let again = step end once.0 level rest (out ++ stepping end now) (stepped end now) once.1 rises once.2 in
      (again.0, again.1, rw append_assoc at again.2)

  -- what the loop keeps
  pub record Goes (rest out : List Change) (now : Outlook) : Type 0 where
    pub n : ℕ
    pub level : Level
    pub rising : IsRising n level rest
    pub way : IsUnderWay n level rest out now

  pub goes-on : (change : Change) (rest out : List Change) (now : Outlook) → Goes (change ∷ rest) out now
      → Goes rest (out ++ settling (Some change.moment) now) (passed falling rising_by change now)
  goes-on change rest out now goes =
      let all : IsRising goes.n goes.level (change ∷ rest) = goes.rising in
      let rises : (t : ℕ) → is_by (Some change.moment) t ≡ true → IsRising t goes.level (change ∷ rest) =
      (λ t by. (by_end change.moment t by, all.1, all.2)) in
      let done = settle (Some change.moment) goes.n goes.level (change ∷ rest) out now (omega (arith, all.0)) rises goes.way in
      let after : Outlook = settled (Some change.moment) now in
      let quiet = settled-quiet (Some change.moment) now in
      let by : is_by (Some change.moment) change.moment ≡ true = le-leb change.moment change.moment (omega arith) in
      let way = done.2 in
      let zero_ready = ready_from done.0 (suc change.moment) after.zero.output after.zero.scheduled way.zero_is.ready (quiet.0 change.moment by) in
      let one_ready = ready_from done.0 (suc change.moment) after.one.output after.one.scheduled way.one_is.ready (quiet.1 change.moment by) in
      let rising = rises change.moment by in
      let reached : done.0 ≤ suc change.moment = done.1 in
      let waits : (t : ℕ) → done.0 ≤ t → t < suc change.moment → both zeros ones t ≡ after.level =
      (λ t late under. rw (
        stays Low falling fits_zero zeros done.0 goes.level (change ∷ rest) change.moment after.zero.target after.zero.output after.zero.scheduled way.zero_is zero_ready rising t late (omega arith),
        stays High rising_by fits_one ones done.0 goes.level (change ∷ rest) change.moment after.one.target after.one.output after.one.scheduled way.one_is one_ready rising t late (omega arith),
      ) (sym way.level_is)) in
      record {
        n = suc change.moment;
        level = change.level;
        rising = all.2;
        way = record {
          zero_is = drive Low falling fits_zero zeros done.0 goes.level change rest after.zero.target after.zero.output after.zero.scheduled way.zero_is reached zero_ready;
          one_is = drive High rising_by fits_one ones done.0 goes.level change rest after.one.target after.one.output after.one.scheduled way.one_is reached one_ready;
          level_is = way.level_is ∙ sym (driven-level Low High falling rising_by change after.zero after.one);
          goes_on = λ later shown. way.goes_on later (shown-wait done.0 (suc change.moment) after.level later (both zeros ones) reached waits shown);
        };
      }
    where
      driven-output : (wanted : Level) (d : Delay) (change : Change) (prospect : Prospect) → (driven wanted d change prospect).output ≡ prospect.output
      driven-output wanted d change prospect = elim (cases_level (may_be wanted change.level) prospect.target) [
        | inl same ↦ rw (same, level_eq-same prospect.target) refl
        | inr differ ↦ rw (level_eq-other (may_be wanted change.level) prospect.target differ) refl
      ]

      driven-level : (wanted other : Level) (d e : Delay) (change : Change) (this that : Prospect)
          → level_of (driven wanted d change this) (driven other e change that) ≡ level_of this that
      driven-level wanted other d e change this that = rw (driven-output wanted d change this, driven-output other e change that) refl

  -- without an end nothing is left
  none_left : (scheduled : Option Change) → IsQuiet None scheduled → scheduled ≡ None
  none_left None quiet = refl
  none_left (Some event) quiet = absurd (let wrong : suc event.moment ≤ event.moment = quiet event.moment refl in omega arith)

  pub ends : (out : List Change) (now : Outlook) → Goes [] out now → IsShown 0 start (out ++ settling None now) (both zeros ones)
  ends out now goes =
      let done = settle None goes.n goes.level [] out now tt (λ t by. tt) goes.way in
      let after : Outlook = settled None now in
      let quiet = settled-quiet None now in
      let way = done.2 in
      let shows : (t : ℕ) → done.0 ≤ t → after.level ≡ both zeros ones t =
      (λ t late. way.level_is ∙ sym (rw (
        still Low falling zeros done.0 goes.level after.zero way.zero_is (none_left after.zero.scheduled quiet.0) t late,
        still High rising_by ones done.0 goes.level after.one way.one_is (none_left after.one.scheduled quiet.1) t late,
      ) refl)) in
      rw (append-nil (out ++ settling None now)) at (way.goes_on [] (record { rising = tt; shows = shows }))
    where
      still : (wanted : Level) (d : Delay) (wave : Wave) (n : ℕ) (level : Level) (prospect : Prospect) → Follows wanted d wave n level [] prospect
          → prospect.scheduled ≡ None → (t : ℕ) → n ≤ t → at wave t ≡ prospect.output
      still wanted d wave n level prospect follows none t late =
          follows.shows t late ∙ ap (λ scheduled. level_after prospect.output (delivered d prospect.output scheduled []) t) none

-- ---- from the target to the signal

-- the wave of a level's buffer
abbrev driving : Level → Wave → Wave
driving wanted target = record { start = may_be wanted target.start; changes = turns wanted (may_be wanted target.start) target.changes }

abbrev pub buffer : Level → Delay → Wave → Wave
buffer wanted d target = delayed_wave d (driving wanted target)

drives : (wanted : Level) (target : Wave) → IsWave target → (n : ℕ) → before (driving wanted target) n ≡ may_be wanted (before target n)
drives wanted target is zero = refl
drives wanted target is (suc t) = turns-after wanted target.start (may_be wanted target.start) 0 t target.changes refl is

buffer-says : (wanted : Level) (d : Delay) → IsInRange d → (target : Wave) → IsWave target
    → (n : ℕ) → before (buffer wanted d target) n ≡ level_of_test (is_possible (λ m. has (before target m) wanted) d.rise d.fall n)
buffer-says wanted d fits target is =
    let rising : IsWave (driving wanted target) = turns-rising wanted target.start (may_be wanted target.start) 0 target.changes refl is in
    possible-buffered wanted d fits target (driving wanted target) (buffer wanted d target) (drives wanted target is) (delayed_wave-obeys d fits (driving wanted target) rising)

-- what is shown is what is possible
pub shown-possible : (delay falling : Delay) → IsInRange delay → IsInRange falling → falling.rise ≡ delay.fall → falling.fall ≡ delay.rise → (target : Wave) → IsWave target
    → (out : Wave) → IsShown 0 out.start out.changes (both (buffer Low falling target) (buffer High delay target)) → out.start ≡ (begun target.start).level
    → (n : ℕ) → before out n ≡ possible_after delay (before target) n
shown-possible delay falling fits fits_falling rise fall target is out shown start n =
    whole n ∙ either-possible delay (before target) (before (buffer Low falling target)) (before (buffer High delay target))
    low (buffer-says High delay fits target is) n
  where
    low : (m : ℕ) → before (buffer Low falling target) m ≡ level_of_test (is_possible (λ k. has (before target k) Low) delay.fall delay.rise m)
    low m = buffer-says Low falling fits_falling target is m
        ∙ ap (λ coming. level_of_test (is_possible (λ k. has (before target k) Low) coming falling.fall m)) rise
        ∙ ap (λ going. level_of_test (is_possible (λ k. has (before target k) Low) delay.fall going m)) fall

    whole : (m : ℕ) → before out m ≡ either (before (buffer Low falling target) m) (before (buffer High delay target) m)
    whole zero = start
    whole (suc t) = shown.shows t (omega arith)

-- what the loop keeps, where the delays are in range
abbrev pub IsKept : Delay → Delay → Wave → List Change → List Change → Outlook → Type 0
IsKept delay falling target rest out now = (fits : IsInRange delay) (fits_falling : IsInRange falling)
    → Goes falling delay fits_falling fits (buffer Low falling target) (buffer High delay target) (begun target.start).level rest out now

-- before the first change of the target
pub kept-begun : (delay falling : Delay) (target : Wave) → IsWave target → IsKept delay falling target target.changes [] (begun target.start)
kept-begun delay falling target is fits fits_falling = record {
  n = 0;
  level = target.start;
  rising = is;
  way = record {
    zero_is = record { shows = λ t late. refl; ready = tt; aim = refl; may = refl };
    one_is = record { shows = λ t late. refl; ready = tt; aim = refl; may = refl };
    level_is = refl;
    goes_on = λ later shown. shown;
  };
}

pub kept-on : (delay falling : Delay) (target : Wave) (all out changes : List Change) (now next : Outlook) (i : ℕ) (z : Change) → i < length all
    → IsKept delay falling target (drop i all) out now → changes ≡ out ++ settling (Some (get_or all i z).moment) now
    → next ≡ passed falling delay (get_or all i z) now → IsKept delay falling target (drop (i + 1) all) changes next
kept-on delay falling target all out changes now next i z within kept changes_are next_is fits fits_falling =
    rw (changes_are, next_is, add-one)
    (goes-on falling delay fits_falling fits _ _ _ (get_or all i z) (drop (suc i) all) out now (rw (drop-cons all i z) at (kept fits fits_falling)))

exchanged-in_range : (delay falling : Delay) → IsInRange delay → falling ≡ record { rise = delay.fall; fall = delay.rise } → IsInRange falling
exchanged-in_range delay falling fits is = rw is (record {
  least_rise = fits.least_fall;
  greatest_rise = fits.greatest_fall;
  least_fall = fits.least_rise;
  greatest_fall = fits.greatest_rise;
})

-- after the last change of the target
pub kept-end : (delay falling : Delay) (target : Wave) (all out changes : List Change) (now : Outlook) (i : ℕ) → length all ≤ i → IsInRange delay
    → falling ≡ record { rise = delay.fall; fall = delay.rise }
    → IsKept delay falling target (drop i all) out now → changes ≡ out ++ settling None now
    → IsShown 0 (begun target.start).level changes (both (buffer Low falling target) (buffer High delay target))
kept-end delay falling target all out changes now i past fits is kept changes_are =
    let fits_falling = exchanged-in_range delay falling fits is in
    let goes = rw (drop_all i all past) at (kept fits fits_falling) in
    rw changes_are (ends falling delay fits_falling fits _ _ _ out now goes)

-- the output starts at the target's level
pub begun-level : (start : Level) → start ≡ (begun start).level
begun-level Low = refl
begun-level High = refl
begun-level X = refl

pub kept-rising : (delay falling : Delay) (target : Wave) (start : Level) (changes : List Change) → start ≡ (begun target.start).level
    → IsShown 0 (begun target.start).level changes (both (buffer Low falling target) (buffer High delay target)) → IsRising 0 start changes
kept-rising delay falling target start changes is shown = rw is shown.rising

pub kept-possible : (delay falling : Delay) (target : Wave) (start : Level) (changes : List Change) (out : Wave) → IsInRange delay → IsWave target
    → falling ≡ record { rise = delay.fall; fall = delay.rise } → start ≡ (begun target.start).level
    → IsShown 0 (begun target.start).level changes (both (buffer Low falling target) (buffer High delay target))
    → out ≡ record { start = start; changes = changes }
    → (n : ℕ) → before out n ≡ possible_after delay (before target) n
kept-possible delay falling target start changes out fits wave falling_is start_is shown out_is n = rw (out_is, start_is)
    (shown-possible delay falling fits (exchanged-in_range delay falling fits falling_is) (ap (λ d. d.rise) falling_is) (ap (λ d. d.fall) falling_is) target wave
    (record { start = (begun target.start).level; changes = changes }) shown refl n)
