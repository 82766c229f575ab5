-- A certificate has at most one verdict.
use Rattle.std.proofs.Common.{◌≡◌, ◌<◌, ◌+◌, ◌*◌, ℕ, zero, suc, length, List, [], ◌∷◌, take, Option, Some, None, inl, inr, refl, sym, ap, subst, ◌∙◌, arith}
use Rattle.std.specs.Prelude.{slice_get}
use Rattle.std.specs.List.{AllByRecursion}
use Rattle.std.proofs.lemmas.Bool.{cases_lt}
use Rattle.std.proofs.lemmas.List.{append-nil, length-set}
use Rattle.td_nets.specs.Netlist.{Netlist}
use Rattle.td_circuit.specs.Settings.{Setting}
use Rattle.td_refutation.specs.Asking.{Asking}
use Rattle.td_netlist.proofs.Readings.{one_netlist}
use Rattle.td_reading.specs.declared.reading.Reading.{Reading}
use Rattle.td_reading.specs.declared.told.Told.{Told}
use Rattle.td_source.specs.Kept.{HasOutputs}
use Rattle.td_source.specs.Reads.{AreOutputsIn}
use Rattle.td_source.proofs.Naming.{same_kept, same_outputs}
use Rattle.td_certificate.specs.declared.certificate.Certificate.{Certificate}
use Rattle.td_domain.specs.declared.cubes.Trit.{Trit}
use Rattle.td_domain.specs.declared.cubes.Trit.TheVariants.{Zero, One}
use Rattle.td_refutation.specs.declared.flaw.Flaw as step_flaw
use Rattle.td_refutation.specs.Whole.{Step, IsBadStep}
use Rattle.td_refutation.proofs.OneVerdict.{leaf_has_one_verdict, emptied_has_one_verdict}
use Rattle.td_certificate.specs.declared.tree.Node.{Node}
use Rattle.td_certificate.specs.declared.tree.Node.TheVariants as node
use Rattle.td_certificate.specs.Steps.{Refuted}
use Rattle.td_certificate.specs.Questions.{Terms, asking_of}
use Rattle.td_certificate.specs.Cubes.{cubes_past}
use Rattle.td_certificate.specs.Spelling.{head_lines}
use Rattle.td_certificate.specs.Walks.{position_of, Line, lines_from}
use Rattle.td_certificate.specs.Accepts.{lines_in, SplitsFree, SaysNone, IsEnough, IsOfOnePair, Shows, IsOfCube, IsGood, IsOfSize, setting_of, high_of, HasItsTime, Accepts}
use Rattle.td_certificate.proofs.Texts.{spells_once}
use Rattle.td_certificate.proofs.VectorCodes.{none_not, some_is}
use Rattle.td_checker.specs.declared.verdict.Verdict.{Verdict}
use Rattle.td_checker.specs.declared.verdict.Verdict.TheVariants as verdict
use Rattle.td_checker.specs.Verdicts.{Flaw, Misplaced, NotEmpty, NotOnePair, WrongNumber, AboveTime, BadStep, LeaveOpen, IsNotEmpty, AreAbove, IsWrong, HasBadStep, HasFlaw, line_total, reported_at, IsGoodIn, HasAdmittedPair, IsFirstBad, Said, AreTold, AreOther, IsVerdictOn, IsVerdict, IsVerdictFor, IsVerdictOfWhole, outputs_for, OneVerdict}
use Rattle.td_checker.specs.Checks.{TextsHaveOneVerdict, HasVerdict, default_for, said_by}

-- the cube has two positions for each input
abbrev IsOfInputs : Setting → List Trit → Type 0
IsOfInputs given cube = length cube ≡ 2 * length given.netlist.inputs

-- ---- lines

-- a leaf's number is wrong only where it isn't so of its cube
not_shown : {X : Type 0} (given : Setting) (asking : Asking) (cube : List Trit) (steps : List Step) (bound : Option ℕ) → IsOfInputs given cube
    → AreAbove given asking cube steps bound → Shows given asking cube steps bound → X
not_shown given asking cube steps None fits above shows = absurd above
not_shown given asking cube steps (Some bound) fits above shows = absurd (leaf_has_one_verdict.refuted_or_above given asking cube steps bound fits shows above)

not_so : {X : Type 0} (given : Setting) (asking : Asking) (cube : List Trit) (n : Node) → IsOfInputs given cube → IsWrong given asking cube n → IsOfCube given asking cube n → X
not_so given asking cube (node.Split position) fits wrong is = absurd wrong
not_so given asking cube (node.Bound domain bound) fits wrong is = absurd (wrong is)
not_so given asking cube (node.Point time) fits wrong is = absurd (wrong is)
not_so given asking cube node.Empty fits wrong is = absurd wrong
not_so given asking cube (node.Refuted refuted) fits wrong is = not_shown given asking cube refuted.steps refuted.bound fits wrong is

-- a leaf that has a number says too little where no pair is to be asked about
no_number : {X : Type 0} (most : Option ℕ) (n : Node) → most ≡ None → IsEnough most n → (SaysNone n → X) → X
no_number None n none enough f = f enough
no_number (Some most) n none enough f = none_not most (sym none)

open_shown : {X : Type 0} (given : Setting) (asking : Asking) (most : Option ℕ) (cube : List Trit) (refuted : Refuted) (bound : Option ℕ) → refuted.bound ≡ bound → IsOfInputs given cube
    → LeaveOpen given asking most cube refuted.steps bound → IsEnough most (node.Refuted refuted) → Shows given asking cube refuted.steps bound → X
open_shown given asking most cube refuted None is fits left enough shows = absurd (emptied_has_one_verdict.emptied_or_not given asking cube refuted.steps fits shows left)
open_shown given asking most cube refuted (Some bound) is fits left enough shows =
    no_number most (node.Refuted refuted) left.0 enough (λ none. none_not bound (sym none ∙ is))

-- where a leaf leaves its cube open, what it says isn't so
open_not : {X : Type 0} (given : Setting) (asking : Asking) (most : Option ℕ) (cube : List Trit) (n : Node) → IsOfInputs given cube → IsNotEmpty given asking most cube n → IsEnough most n
    → IsOfCube given asking cube n → X
open_not given asking most cube (node.Split position) fits left enough is = absurd left
open_not given asking most cube (node.Bound domain bound) fits left enough is = no_number most (node.Bound domain bound) left enough (λ none. absurd none)
open_not given asking most cube (node.Point time) fits left enough is = no_number most (node.Point time) left enough (λ none. absurd none)
open_not given asking most cube node.Empty fits left enough is = absurd (left is)
open_not given asking most cube (node.Refuted refuted) fits left enough is = open_shown given asking most cube refuted refuted.bound refl fits left enough is

open_above : {X : Type 0} (given : Setting) (asking : Asking) (most : Option ℕ) (cube : List Trit) (refuted : Refuted) (bound : Option ℕ) → refuted.bound ≡ bound
    → LeaveOpen given asking most cube refuted.steps bound → IsEnough most (node.Refuted refuted) → AreAbove given asking cube refuted.steps bound → X
open_above given asking most cube refuted None is left enough above = absurd above
open_above given asking most cube refuted (Some bound) is left enough above =
    no_number most (node.Refuted refuted) left.0 enough (λ none. none_not bound (sym none ∙ is))

open_wrong : {X : Type 0} (given : Setting) (asking : Asking) (most : Option ℕ) (cube : List Trit) (n : Node) → IsNotEmpty given asking most cube n → IsEnough most n
    → IsWrong given asking cube n → X
open_wrong given asking most cube (node.Split position) left enough wrong = absurd left
open_wrong given asking most cube (node.Bound domain bound) left enough wrong = no_number most (node.Bound domain bound) left enough (λ none. absurd none)
open_wrong given asking most cube (node.Point time) left enough wrong = no_number most (node.Point time) left enough (λ none. absurd none)
open_wrong given asking most cube node.Empty left enough wrong = absurd wrong
open_wrong given asking most cube (node.Refuted refuted) left enough wrong = open_above given asking most cube refuted refuted.bound refl left enough wrong

open_pair : {X : Type 0} (given : Setting) (asking : Asking) (most : Option ℕ) (cube : List Trit) (n : Node) → IsNotEmpty given asking most cube n → IsEnough most n
    → (¬ IsOfOnePair cube n) → X
open_pair given asking most cube (node.Split position) left enough free = absurd left
open_pair given asking most cube (node.Bound domain bound) left enough free = absurd (free tt)
open_pair given asking most cube (node.Point time) left enough free = no_number most (node.Point time) left enough (λ none. absurd none)
open_pair given asking most cube node.Empty left enough free = absurd (free tt)
open_pair given asking most cube (node.Refuted refuted) left enough free = absurd (free tt)

-- what holds of a leaf with a bad step, of which no other flaw is looked for
record HasOnlySteps (given : Setting) (asking : Asking) (most : Option ℕ) (cube : List Trit) (n : Node) : Type 0 where
  splits : SplitsFree cube n
  one_pair : IsOfOnePair cube n
  not_open : ¬ IsNotEmpty given asking most cube n
  not_wrong : ¬ IsWrong given asking cube n
  not_of_cube : ¬ IsOfCube given asking cube n

module _ (given : Setting) (asking : Asking) (most : Option ℕ) (cube : List Trit) (steps : List Step) (place : ℕ) (why : step_flaw.Flaw) (fits : IsOfInputs given cube)
    (is : IsBadStep given asking cube steps place why) where
  bad_not_open : (bound : Option ℕ) → ¬ LeaveOpen given asking most cube steps bound
  bad_not_open None = λ left. emptied_has_one_verdict.not_or_bad given asking cube steps place why fits left is
  bad_not_open (Some bound) = λ left. emptied_has_one_verdict.good_or_bad given asking cube steps place why fits left.1 is

  bad_not_above : (bound : Option ℕ) → ¬ AreAbove given asking cube steps bound
  bad_not_above None = λ above. above
  bad_not_above (Some bound) = λ above. leaf_has_one_verdict.above_or_bad given asking cube steps bound place why fits above is

  bad_not_shown : (bound : Option ℕ) → ¬ Shows given asking cube steps bound
  bad_not_shown None = λ shows. emptied_has_one_verdict.emptied_or_bad given asking cube steps place why fits shows is
  bad_not_shown (Some bound) = λ shows. leaf_has_one_verdict.refuted_or_bad given asking cube steps bound place why fits shows is

only_steps : (given : Setting) (asking : Asking) (most : Option ℕ) (cube : List Trit) (n : Node) (place : ℕ) (why : step_flaw.Flaw) → IsOfInputs given cube
    → HasBadStep given asking cube n place why → HasOnlySteps given asking most cube n
only_steps given asking most cube (node.Split position) place why fits is = absurd is
only_steps given asking most cube (node.Bound domain bound) place why fits is = absurd is
only_steps given asking most cube (node.Point time) place why fits is = absurd is
only_steps given asking most cube node.Empty place why fits is = absurd is
only_steps given asking most cube (node.Refuted refuted) place why fits is = record {
  splits = tt;
  one_pair = tt;
  not_open = bad_not_open given asking most cube refuted.steps place why fits is refuted.bound;
  not_wrong = bad_not_above given asking most cube refuted.steps place why fits is refuted.bound;
  not_of_cube = bad_not_shown given asking most cube refuted.steps place why fits is refuted.bound;
}

same_step : (given : Setting) (asking : Asking) (cube : List Trit) (n : Node) (place other : ℕ) (why because : step_flaw.Flaw) → IsOfInputs given cube
    → HasBadStep given asking cube n place why → HasBadStep given asking cube n other because → (place ≡ other) × (why ≡ because)
same_step given asking cube (node.Split position) place other why because fits h k = absurd h
same_step given asking cube (node.Bound domain bound) place other why because fits h k = absurd h
same_step given asking cube (node.Point time) place other why because fits h k = absurd h
same_step given asking cube node.Empty place other why because fits h k = absurd h
same_step given asking cube (node.Refuted refuted) place other why because fits h k =
    leaf_has_one_verdict.one_bad_step given asking cube refuted.steps place other why because fits h k

-- a bad step is the only flaw of its line
step_only : (given : Setting) (asking : Asking) (most : Option ℕ) (line : Line) (place : ℕ) (why : step_flaw.Flaw) (that : Flaw) → IsOfInputs given line.cube
    → HasOnlySteps given asking most line.cube line.node → HasBadStep given asking line.cube line.node place why → HasFlaw given asking most that line → BadStep place why ≡ that
step_only given asking most line place why Misplaced fits only h k = absurd (k only.splits)
step_only given asking most line place why NotEmpty fits only h k = absurd (only.not_open k.1)
step_only given asking most line place why NotOnePair fits only h k = absurd (k.2 only.one_pair)
step_only given asking most line place why WrongNumber fits only h k = absurd (only.not_wrong k.3)
step_only given asking most line place why AboveTime fits only h k = absurd (only.not_of_cube k.3)
step_only given asking most line place why (BadStep other because) fits only h k =
    let same = same_step given asking line.cube line.node place other why because fits h k in
    ap (λ (p : ℕ). BadStep p why) same.0 ∙ ap (λ (w : step_flaw.Flaw). BadStep other w) same.1

bad_step : (given : Setting) (asking : Asking) (most : Option ℕ) (line : Line) (place : ℕ) (why : step_flaw.Flaw) (that : Flaw) → IsOfInputs given line.cube
    → HasBadStep given asking line.cube line.node place why → HasFlaw given asking most that line → BadStep place why ≡ that
bad_step given asking most line place why that fits h k =
    step_only given asking most line place why that fits (only_steps given asking most line.cube line.node place why fits h) h k

one_flaw : (given : Setting) (asking : Asking) (most : Option ℕ) (line : Line) (this that : Flaw) → IsOfInputs given line.cube → HasFlaw given asking most this line → HasFlaw given asking most that line
    → this ≡ that
one_flaw given asking most line Misplaced Misplaced p h k = refl
one_flaw given asking most line Misplaced NotEmpty p h k = absurd (h k.0)
one_flaw given asking most line Misplaced NotOnePair p h k = absurd (h k.0)
one_flaw given asking most line Misplaced WrongNumber p h k = absurd (h k.0)
one_flaw given asking most line Misplaced AboveTime p h k = absurd (h k.0)
one_flaw given asking most line Misplaced (BadStep place why) p h k = sym (bad_step given asking most line place why Misplaced p k h)
one_flaw given asking most line NotEmpty Misplaced p h k = absurd (k h.0)
one_flaw given asking most line NotEmpty NotEmpty p h k = refl
one_flaw given asking most line NotEmpty NotOnePair p h k = open_pair given asking most line.cube line.node h.1 k.1 k.2
one_flaw given asking most line NotEmpty WrongNumber p h k = open_wrong given asking most line.cube line.node h.1 k.1 k.3
one_flaw given asking most line NotEmpty AboveTime p h k = open_not given asking most line.cube line.node p h.1 k.1 k.3
one_flaw given asking most line NotEmpty (BadStep place why) p h k = sym (bad_step given asking most line place why NotEmpty p k h)
one_flaw given asking most line NotOnePair Misplaced p h k = absurd (k h.0)
one_flaw given asking most line NotOnePair NotEmpty p h k = open_pair given asking most line.cube line.node k.1 h.1 h.2
one_flaw given asking most line NotOnePair NotOnePair p h k = refl
one_flaw given asking most line NotOnePair WrongNumber p h k = absurd (h.2 k.2)
one_flaw given asking most line NotOnePair AboveTime p h k = absurd (h.2 k.2)
one_flaw given asking most line NotOnePair (BadStep place why) p h k = sym (bad_step given asking most line place why NotOnePair p k h)
one_flaw given asking most line WrongNumber Misplaced p h k = absurd (k h.0)
one_flaw given asking most line WrongNumber NotEmpty p h k = open_wrong given asking most line.cube line.node k.1 h.1 h.3
one_flaw given asking most line WrongNumber NotOnePair p h k = absurd (k.2 h.2)
one_flaw given asking most line WrongNumber WrongNumber p h k = refl
one_flaw given asking most line WrongNumber AboveTime p h k = not_so given asking line.cube line.node p h.3 k.3
one_flaw given asking most line WrongNumber (BadStep place why) p h k = sym (bad_step given asking most line place why WrongNumber p k h)
one_flaw given asking most line AboveTime Misplaced p h k = absurd (k h.0)
one_flaw given asking most line AboveTime NotEmpty p h k = open_not given asking most line.cube line.node p k.1 h.1 h.3
one_flaw given asking most line AboveTime NotOnePair p h k = absurd (k.2 h.2)
one_flaw given asking most line AboveTime WrongNumber p h k = not_so given asking line.cube line.node p k.3 h.3
one_flaw given asking most line AboveTime AboveTime p h k = refl
one_flaw given asking most line AboveTime (BadStep place why) p h k = sym (bad_step given asking most line place why AboveTime p k h)
one_flaw given asking most line (BadStep place why) that p h k = bad_step given asking most line place why that p h k

-- a good line has no flaw
flawless : {X : Type 0} (given : Setting) (asking : Asking) (most : Option ℕ) (line : Line) (flaw : Flaw) → IsOfInputs given line.cube → IsGood given asking most line
    → HasFlaw given asking most flaw line → X
flawless given asking most line Misplaced p good h = absurd (h good.splits)
flawless given asking most line NotEmpty p good h = open_not given asking most line.cube line.node p h.1 good.enough good.of_cube
flawless given asking most line NotOnePair p good h = absurd (h.2 good.one_pair)
flawless given asking most line WrongNumber p good h = not_so given asking line.cube line.node p h.3 good.of_cube
flawless given asking most line AboveTime p good h = absurd (h.4 good.within)
flawless given asking most line (BadStep place why) p good h =
    absurd ((only_steps given asking most line.cube line.node place why p h).not_of_cube good.of_cube)

-- ---- the cubes of lines

abbrev HasLength : ℕ → List Trit → Type 0
HasLength count cube = length cube ≡ count

sides_fit : (count : ℕ) (cube : List Trit) (place : Option ℕ) (cubes : List (List Trit)) → HasLength count cube → AllByRecursion (HasLength count) cubes
    → AllByRecursion (HasLength count) (cubes_past cube place cubes)
sides_fit count cube None cubes fits all = all
sides_fit count cube (Some position) cubes fits all =
    (length-set cube position Zero ∙ fits, (length-set cube position One ∙ fits, all))

abbrev IsOfLength : ℕ → Line → Type 0
IsOfLength count line = HasLength count line.cube

lines_fit : (count : ℕ) (cubes : List (List Trit)) (nodes : List Node) → AllByRecursion (HasLength count) cubes → AllByRecursion (IsOfLength count) (lines_from cubes nodes)
lines_fit count [] nodes all = tt
lines_fit count (cube ∷ cubes) [] all = tt
lines_fit count (cube ∷ cubes) (n ∷ nodes) all =
    (all.0, lines_fit count (cubes_past cube (position_of n) cubes) nodes (sides_fit count cube (position_of n) cubes all.0 all.1))

-- what holds of each of the lines before a place holds of each of them
pub at_place : {A : Type 0} (P : A → Type 0) (xs : List A) (i : ℕ) (x : A) → AllByRecursion P xs → slice_get xs i ≡ Some x → P x
at_place P [] i x all is = none_not x is
at_place P (y ∷ xs) zero x all is = subst P (some_is y x is) all.0
at_place P (y ∷ xs) (suc i) x all is = at_place P xs i x all.1 is

before_place : {A : Type 0} (P : A → Type 0) (xs : List A) (i j : ℕ) (x : A) → i < j → AllByRecursion P (take j xs) → slice_get xs i ≡ Some x → P x
before_place P [] i j x less all is = none_not x is
before_place P (y ∷ xs) i zero x less all is = absurd (omega (arith, less))
before_place P (y ∷ xs) zero (suc j) x less all is = subst P (some_is y x is) all.0
before_place P (y ∷ xs) (suc i) (suc j) x less all is = before_place P xs i j x (omega (arith, less)) all.1 is

one_place : (given : Setting) (asking : Asking) (most : Option ℕ) (lines : List Line) (i j : ℕ) (x y : Line) (this that : Flaw) → IsOfInputs given x.cube → IsOfInputs given y.cube
    → slice_get lines i ≡ Some x → slice_get lines j ≡ Some y
    → AllByRecursion (IsGood given asking most) (take i lines) → AllByRecursion (IsGood given asking most) (take j lines)
    → HasFlaw given asking most this x → HasFlaw given asking most that y → (this ≡ that) × (i ≡ j)
one_place given asking most lines i j x y this that x_fits y_fits at_i at_j good_i good_j h k =
    elim (cases_lt i j) [
      | inl less ↦ flawless given asking most x this x_fits (before_place (IsGood given asking most) lines i j x less good_j at_i) h
      | inr high ↦ elim (cases_lt j i) [
        | inl more ↦ flawless given asking most y that y_fits (before_place (IsGood given asking most) lines j i y more good_i at_j) k
        | inr low ↦
            let same : i ≡ j = omega (arith, high, low) in
            let line : x ≡ y = some_is x y (sym at_i ∙ ap (slice_get lines) same ∙ at_j) in
            (one_flaw given asking most y this that y_fits (subst (HasFlaw given asking most this) line h) k, same)
      ]
    ]

-- the cubes of a certificate of this circuit
all_fit : (netlist : Netlist) (c : Certificate) (place : ℕ) (line : Line) → IsOfSize netlist c → slice_get (lines_in c) place ≡ Some line
    → IsOfInputs (setting_of netlist c) line.cube
all_fit netlist c place line size stands =
    let pins : List Trit = c.question.admit.pins in
    let count : HasLength (2 * length netlist.inputs) pins = omega (arith, size.pins, size.inputs) in
    at_place (IsOfLength (2 * length netlist.inputs)) (lines_in c) place line (lines_fit (2 * length netlist.inputs) (pins ∷ []) c.tree (count, tt)) stands

one_bad : (netlist : Netlist) (c : Certificate) (this that : Flaw) (line other : ℕ) → IsFirstBad netlist c this line
    → IsFirstBad netlist c that other → (this ≡ that) × (line ≡ other)
one_bad netlist c this that line other h k =
    let found = one_place (setting_of netlist c) (asking_of c.question) (high_of c.claim) (lines_in c) h.place k.place h.bad k.bad this that
    (all_fit netlist c h.place h.bad h.size h.stands) (all_fit netlist c k.place k.bad k.size k.stands)
    h.stands k.stands h.good_before k.good_before h.has k.has in
    let same : h.bad ≡ k.bad = some_is h.bad k.bad (sym h.stands ∙ ap (slice_get (lines_in c)) found.1 ∙ k.stands) in
    let reported : line_total (take h.place (lines_in c)) + reported_at this h.bad.node ≡ line_total (take k.place (lines_in c)) + reported_at that k.bad.node =
    ap (λ (p : ℕ). line_total (take p (lines_in c)) + reported_at this h.bad.node) found.1
    ∙ ap (λ (f : Flaw). line_total (take k.place (lines_in c)) + reported_at f h.bad.node) found.0
    ∙ ap (λ (l : Line). line_total (take k.place (lines_in c)) + reported_at that l.node) same in
    (found.0, h.line_is ∙ ap (λ (n : ℕ). 1 + length (head_lines c) + n) reported ∙ sym k.line_is)

-- where all lines are good, none is bad
not_bad : {X : Type 0} (netlist : Netlist) (c : Certificate) (flaw : Flaw) (line : ℕ) → Accepts netlist c → IsFirstBad netlist c flaw line → X
not_bad netlist c flaw line accepts bad =
    flawless (setting_of netlist c) (asking_of c.question) (high_of c.claim) bad.bad flaw (all_fit netlist c bad.place bad.bad bad.size bad.stands)
    (at_place (IsGoodIn netlist c) (lines_in c) bad.place bad.bad accepts.good bad.stands) bad.has

-- ---- verdicts

abbrev verdict_of : Flaw → ℕ → Verdict
verdict_of Misplaced line = verdict.BadPosition line
verdict_of NotOnePair line = verdict.NotAPoint line
verdict_of WrongNumber line = verdict.LeafBound line
verdict_of NotEmpty line = verdict.LeafNotEmpty line
verdict_of AboveTime line = verdict.LeafAboveTime line
verdict_of (BadStep place why) line = verdict.BadStep line why

data Reported (netlist : Netlist) (c : Certificate) (reported : Verdict) : Type 0 where
  other_circuit : reported ≡ verdict.OtherCircuit → (¬ IsOfSize netlist c) → Reported netlist c reported
  not_admitted : reported ≡ verdict.PairNotAdmitted → IsOfSize netlist c → (¬ HasAdmittedPair netlist c) → Reported netlist c reported
  pair_time : reported ≡ verdict.PairTime → IsOfSize netlist c → HasAdmittedPair netlist c → (¬ HasItsTime netlist c) → Reported netlist c reported
  bad_line : (flaw : Flaw) (line : ℕ) → reported ≡ verdict_of flaw line → IsFirstBad netlist c flaw line → Reported netlist c reported
  all_good : reported ≡ verdict.Accepted → Accepts netlist c → Reported netlist c reported

reported_as : (netlist : Netlist) (c : Certificate) (reported : Verdict) → IsVerdictOn netlist c reported → Reported netlist c reported
reported_as netlist c verdict.Accepted is = all_good refl is
reported_as netlist c verdict.PairTime is = pair_time refl is.0 is.1 is.2
reported_as netlist c (verdict.LeafBound line) is = bad_line WrongNumber line refl is
reported_as netlist c (verdict.BadStep line why) is = bad_line (BadStep is.0 why) line refl is.1
reported_as netlist c (verdict.LeafAboveTime line) is = bad_line AboveTime line refl is
reported_as netlist c (verdict.BadPosition line) is = bad_line Misplaced line refl is
reported_as netlist c (verdict.NotAPoint line) is = bad_line NotOnePair line refl is
reported_as netlist c verdict.OtherCircuit is = other_circuit refl is
reported_as netlist c verdict.PairNotAdmitted is = not_admitted refl is.0 is.1
reported_as netlist c (verdict.LeafNotEmpty line) is = bad_line NotEmpty line refl is
reported_as netlist c (verdict.OtherQuestion line) is = absurd is

one_reported : (netlist : Netlist) (c : Certificate) (this that : Verdict) → Reported netlist c this → Reported netlist c that → this ≡ that
one_reported netlist c this that (other_circuit e no_size) (other_circuit f _) = e ∙ sym f
one_reported netlist c this that (other_circuit e no_size) (not_admitted f size _) = absurd (no_size size)
one_reported netlist c this that (other_circuit e no_size) (pair_time f size _ _) = absurd (no_size size)
one_reported netlist c this that (other_circuit e no_size) (bad_line _ _ f bad) = absurd (no_size bad.size)
one_reported netlist c this that (other_circuit e no_size) (all_good f accepts) = absurd (no_size accepts.size)
one_reported netlist c this that (not_admitted e size barred) (other_circuit f no_size) = absurd (no_size size)
one_reported netlist c this that (not_admitted e size barred) (not_admitted f _ _) = e ∙ sym f
one_reported netlist c this that (not_admitted e size barred) (pair_time f _ admitted _) = absurd (barred admitted)
one_reported netlist c this that (not_admitted e size barred) (bad_line _ _ f bad) = absurd (barred bad.admitted)
one_reported netlist c this that (not_admitted e size barred) (all_good f accepts) = absurd (barred accepts.admitted)
one_reported netlist c this that (pair_time e size admitted missed) (other_circuit f no_size) = absurd (no_size size)
one_reported netlist c this that (pair_time e size admitted missed) (not_admitted f _ barred) = absurd (barred admitted)
one_reported netlist c this that (pair_time e size admitted missed) (pair_time f _ _ _) = e ∙ sym f
one_reported netlist c this that (pair_time e size admitted missed) (bad_line _ _ f bad) = absurd (missed bad.reached)
one_reported netlist c this that (pair_time e size admitted missed) (all_good f accepts) = absurd (missed accepts.reached)
one_reported netlist c this that (bad_line _ _ e bad) (other_circuit f no_size) = absurd (no_size bad.size)
one_reported netlist c this that (bad_line _ _ e bad) (not_admitted f size barred) = absurd (barred bad.admitted)
one_reported netlist c this that (bad_line _ _ e bad) (pair_time f size admitted missed) = absurd (missed bad.reached)
one_reported netlist c this that (bad_line flaw line e bad) (bad_line other place f also) =
    let same = one_bad netlist c flaw other line place bad also in
    e ∙ ap (λ x. verdict_of x line) same.0 ∙ ap (verdict_of other) same.1 ∙ sym f
one_reported netlist c this that (bad_line flaw line e bad) (all_good f accepts) = not_bad netlist c flaw line accepts bad
one_reported netlist c this that (all_good e accepts) (other_circuit f no_size) = absurd (no_size accepts.size)
one_reported netlist c this that (all_good e accepts) (not_admitted f size barred) = absurd (barred accepts.admitted)
one_reported netlist c this that (all_good e accepts) (pair_time f size admitted missed) = absurd (missed accepts.reached)
one_reported netlist c this that (all_good e accepts) (bad_line flaw line f bad) = not_bad netlist c flaw line accepts bad
one_reported netlist c this that (all_good e accepts) (all_good f also) = e ∙ sym f

-- ---- the question

not_both : {X : Type 0} (said : Said) (terms : Option Terms) (line : ℕ) → AreTold said terms → AreOther said terms line → X
not_both said None line are other = absurd other
not_both said (Some terms) line are (inl other) = absurd (other.1 are.0)
not_both said (Some terms) line are (inr other) = absurd (other.2 are.1)

one_line : (said : Said) (terms : Option Terms) (this that : ℕ) → AreOther said terms this → AreOther said terms that → this ≡ that
one_line said None this that h k = absurd h
one_line said (Some terms) this that (inl h) (inl k) = h.0 ∙ sym k.0
one_line said (Some terms) this that (inl h) (inr k) = absurd (h.1 k.1)
one_line said (Some terms) this that (inr h) (inl k) = absurd (k.1 h.1)
one_line said (Some terms) this that (inr h) (inr k) = h.0 ∙ sym k.0

-- the certificate is of another size, or tells no other terms
data Judged (said : Said) (netlist : Netlist) (c : Certificate) (judged : Verdict) : Type 0 where
  other_terms : (line : ℕ) → judged ≡ verdict.OtherQuestion line → IsOfSize netlist c → AreOther said c.question.terms line → Judged said netlist c judged
  by_size : (¬ IsOfSize netlist c) → IsVerdictOn netlist c judged → Judged said netlist c judged
  by_terms : AreTold said c.question.terms → IsVerdictOn netlist c judged → Judged said netlist c judged

judged_as : (said : Said) (netlist : Netlist) (c : Certificate) (judged : Verdict) → IsVerdict said netlist c judged → Judged said netlist c judged
judged_as said netlist c verdict.Accepted is = by_terms is.0 is.1
judged_as said netlist c verdict.PairTime is = by_terms is.0 is.1
judged_as said netlist c (verdict.LeafBound line) is = by_terms is.0 is.1
judged_as said netlist c (verdict.BadStep line why) is = by_terms is.0 is.1
judged_as said netlist c (verdict.LeafAboveTime line) is = by_terms is.0 is.1
judged_as said netlist c (verdict.BadPosition line) is = by_terms is.0 is.1
judged_as said netlist c (verdict.NotAPoint line) is = by_terms is.0 is.1
judged_as said netlist c verdict.OtherCircuit is = by_size is is
judged_as said netlist c verdict.PairNotAdmitted is = by_terms is.0 is.1
judged_as said netlist c (verdict.LeafNotEmpty line) is = by_terms is.0 is.1
judged_as said netlist c (verdict.OtherQuestion line) is = other_terms line refl is.0 is.1

one_judged : (said : Said) (netlist : Netlist) (c : Certificate) (this that : Verdict) → Judged said netlist c this → Judged said netlist c that → this ≡ that
one_judged said netlist c this that (other_terms line e size other) (other_terms place f _ also) =
    e ∙ ap (λ (l : ℕ). verdict.OtherQuestion l) (one_line said c.question.terms line place other also) ∙ sym f
one_judged said netlist c this that (other_terms line e size other) (by_size no_size is) = absurd (no_size size)
one_judged said netlist c this that (other_terms line e size other) (by_terms are is) = not_both said c.question.terms line are other
one_judged said netlist c this that (by_size no_size is) (other_terms line e size other) = absurd (no_size size)
one_judged said netlist c this that (by_terms are is) (other_terms line e size other) = not_both said c.question.terms line are other
one_judged said netlist c this that (by_size no_size is) (by_size _ also) = one_reported netlist c this that (reported_as netlist c this is) (reported_as netlist c that also)
one_judged said netlist c this that (by_size no_size is) (by_terms _ also) = one_reported netlist c this that (reported_as netlist c this is) (reported_as netlist c that also)
one_judged said netlist c this that (by_terms are is) (by_size _ also) = one_reported netlist c this that (reported_as netlist c this is) (reported_as netlist c that also)
one_judged said netlist c this that (by_terms are is) (by_terms _ also) = one_reported netlist c this that (reported_as netlist c this is) (reported_as netlist c that also)

one_asked : (said : Said) (netlist : Netlist) (c : Certificate) (this that : Verdict) → IsVerdict said netlist c this → IsVerdict said netlist c that → this ≡ that
one_asked said netlist c this that h k = one_judged said netlist c this that (judged_as said netlist c this h) (judged_as said netlist c that k)

-- a netlist has outputs of these numbers in one way
pub one_with : (whole : Netlist) (numbers : Option (List ℕ)) (one other : Netlist) → HasOutputs whole numbers one → HasOutputs whole numbers other → one ≡ other
one_with whole None one other p q = p ∙ sym q
one_with whole (Some numbers) one other p q = same_kept whole numbers one other p q

one_for : (said : Said) (whole : Netlist) (c : Certificate) (numbers : Option (List ℕ)) (this that : Verdict) → IsVerdictFor said whole c numbers this
    → IsVerdictFor said whole c numbers that → this ≡ that
one_for said whole c numbers this that (inl p) (inl q) =
    one_asked said q.1.0 c this that
    (subst (λ (n : Netlist). IsVerdict said n c this) (one_with whole numbers p.1.0 q.1.0 p.1.1 q.1.1) p.1.2) q.1.2
one_for said whole c numbers this that (inl p) (inr q) = absurd (q.0 p.0)
one_for said whole c numbers this that (inr p) (inl q) = absurd (p.0 q.0)
one_for said whole c numbers this that (inr p) (inr q) = p.1 ∙ sym q.1

pub one_verdict : OneVerdict
one_verdict said whole c this that h k = one_for said whole c (outputs_for said.outputs c.question.terms) this that h k

-- a certificate has one verdict of a text
pub one_of_text : (netlist_text : List ℕ) (reading : Reading) (told : Told) (c : Certificate) (this that : Verdict) → HasVerdict netlist_text reading told c this
    → HasVerdict netlist_text reading told c that → this ≡ that
one_of_text netlist_text reading told c this that h k =
    let whole : h.whole ≡ k.whole = one_netlist netlist_text (default_for reading.default c.question.terms) h.whole k.whole h.means k.means in
    let outputs : h.outputs ≡ k.outputs =
    same_outputs k.whole reading.outputs h.outputs k.outputs (subst (λ (n : Netlist). AreOutputsIn n reading.outputs h.outputs) whole h.asked) k.asked in
    one_verdict (said_by told reading.default k.outputs) k.whole c this that
    (subst (λ (o : Option (List ℕ)). IsVerdictOfWhole (said_by told reading.default o) k.whole c this) outputs
    (subst (λ (n : Netlist). IsVerdictOfWhole (said_by told reading.default h.outputs) n c this) whole h.is)) k.is

pub texts_have_one_verdict : TextsHaveOneVerdict
texts_have_one_verdict netlist_text reading told text this that h k =
    let certificate : h.certificate ≡ k.certificate =
    (spells_once h.certificate k.certificate text text [] h.spells k.spells (sym (append-nil text))).0 in
    one_of_text netlist_text reading told k.certificate this that
    (subst (λ (c : Certificate). HasVerdict netlist_text reading told c this) certificate h.has) k.has
