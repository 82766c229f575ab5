-- The loops over the numbers of a line and over lines, and steps that are kept as their lines.
use Rattle.std.proofs.Common.{◌≡◌, ℕ, ◌-◌, ◌<◌, ◌≤◌, Bool, true, false, List, [], ◌∷◌, ◌++◌, length, take, Ok, Err, refl, sym, ap, subst, ◌∙◌, append_assoc, arith}
use Rattle.std.specs.Prelude.{codes, Option, Some}
use Rattle.std.specs.List.{AllByRecursion}
use Rattle.std.proofs.lemmas.List.{append-nil, length-append}
use Rattle.std.proofs.Math.Seq.{take-append_seam}
use Rattle.std.proofs.lemmas.List.Concat.{flat_map-append, flat_map-cons}
use Rattle.std.proofs.lemmas.Fmt.{decimal_digit}
use Rattle.td_refutation.specs.Whole.{Step}
use Rattle.td_refutation.specs.declared.kind.StepKind.{StepKind}
use Rattle.td_certificate.specs.declared.fields.Stop as code_stop
use Rattle.td_certificate.specs.declared.fields.Stop.TheVariants as code
use Rattle.td_certificate.specs.Fields.{Reading, ◌>>=◌, Fails}
use Rattle.td_certificate.specs.Steps.{Refuted, step_text, steps_text, IsStep}
use Rattle.td_certificate.specs.StepReading.{open_number_at, numbers_at, RefutedLine, StepLine, BoundLine, refuted_line_at, is_bound_line, bound_alone, step_before, refuted_at}
use Rattle.td_certificate.specs.Lines.{steps_read, steps_in, refuted_by, AreLines, IsNext}
use Rattle.td_certificate.proofs.Loops.{with_front, done, done_is}
use Rattle.td_certificate.proofs.Until.{shorter, behind_value, until_first}
use Rattle.td_certificate.proofs.ListLoops.{listed_more, listed_done, listed_stop}
use Rattle.td_certificate.proofs.StepCodes.{open_code, open_long, line_text, line_code, line_long, refuted_tail, refuted_code}

-- ---- the numbers of a line

pub number_shorter : (bytes : List ℕ) (x : (ℕ × Bool) × List ℕ) → open_number_at bytes ≡ Ok x → length x.1 < length bytes
number_shorter bytes x e = shorter open_code (λ x v. open_long x) bytes x e

pub numbers_more : (front : List ℕ) (n : ℕ) (last : Bool) (rest after : List ℕ) (total : Reading (List ℕ)) → open_number_at rest ≡ Ok ((n, last), after) → last ≡ false
    → with_front front (numbers_at rest) ≡ total → with_front (front ++ n ∷ []) (numbers_at after) ≡ total
unfolding numbers_at
numbers_more front n last rest after total e h so_far = listed_more open_code (λ x v. open_long x) front n last rest after total e h so_far

pub numbers_done : (front : List ℕ) (n : ℕ) (last : Bool) (rest after : List ℕ) (total : Reading (List ℕ)) → open_number_at rest ≡ Ok ((n, last), after) → last ≡ true
    → with_front front (numbers_at rest) ≡ total → total ≡ Ok (front ++ n ∷ [], after)
unfolding numbers_at
numbers_done front n last rest after total e h so_far = listed_done open_code (λ x v. open_long x) front n last rest after total e h so_far

pub numbers_stop : (stop : code_stop.Stop) (front rest : List ℕ) (total : Reading (List ℕ)) → Fails stop (open_number_at rest) → with_front front (numbers_at rest) ≡ total → Fails stop total
unfolding numbers_at
numbers_stop stop front rest total e so_far = listed_stop open_code (λ x v. open_long x) stop front rest total e so_far

-- ---- steps that are kept as their lines

zero_line : line_text (BoundLine (Some 0)) ≡ codes "q 0\n"
zero_line = ap (λ (t : List ℕ). 113 ∷ 32 ∷ (t ++ 10 ∷ [])) (decimal_digit 0 (omega arith))

pub steps_back : (steps : List Step) → AllByRecursion IsStep steps → steps_in (steps_text steps) ≡ steps
steps_back steps all =
    let whole : Refuted = record { steps = steps; bound = Some 0 } in
    let again = refuted_code.again whole [] (record { steps = all; bound = omega arith }) in
    let same : refuted_at (steps_text steps ++ codes "q 0\n") ≡ Ok (whole, []) =
    ap refuted_at (ap (λ (t : List ℕ). steps_text steps ++ t) (sym zero_line) ∙ sym (append-nil (refuted_tail whole))) ∙ again in
    ap steps_read same

pub lines_of_steps : (steps : List Step) (lines : List ℕ) → AllByRecursion IsStep steps → lines ≡ steps_text steps → AreLines lines
lines_of_steps steps lines all is =
    let back : steps_in lines ≡ steps = ap steps_in is ∙ steps_back steps all in
    record { parts = is ∙ ap steps_text (sym back); steps = subst (AllByRecursion IsStep) (sym back) all }

-- ---- lines

-- steps after others
abbrev with_steps : List Step → Reading Refuted → Reading Refuted
with_steps front read = read >>= λ x. Ok (record { steps = front ++ x.0.steps; bound = x.0.bound }, x.1)

-- these steps were read in front of the rest
pub record AreRead (text rest : List ℕ) : Type 0 where
  pub front : List Step
  pub parts : text ≡ steps_text front ++ rest
  pub steps : AllByRecursion IsStep front
  pub read : with_steps front (refuted_at rest) ≡ refuted_at text

no_front : (read : Reading Refuted) → with_steps [] read ≡ read
no_front (Ok x) = refl
no_front (Err stop) = refl

pub lines_begin : (text : List ℕ) → AreRead text text
lines_begin text = record { front = []; parts = refl; steps = tt; read = no_front (refuted_at text) }

lines_first : (bytes : List ℕ) → refuted_at bytes ≡ (refuted_line_at bytes >>= behind_value is_bound_line bound_alone step_before refuted_at)
unfolding refuted_at
lines_first bytes = until_first is_bound_line bound_alone step_before line_code (λ line v. line_long line) bytes

pub line_shorter : (bytes : List ℕ) (x : RefutedLine × List ℕ) → refuted_line_at bytes ≡ Ok x → length x.1 < length bytes
line_shorter bytes x e = shorter line_code (λ line v. line_long line) bytes x e

abbrev lines_behind : RefutedLine × List ℕ → Reading Refuted
lines_behind x = behind_value is_bound_line bound_alone step_before refuted_at x

all_push : (front : List Step) (step : Step) → AllByRecursion IsStep front → IsStep step → AllByRecursion IsStep (front ++ step ∷ [])
all_push [] step all is = (is, tt)
all_push (first ∷ front) step all is = (all.0, all_push front step all.1 is)

text_push : (front : List Step) (step : Step) → steps_text (front ++ step ∷ []) ≡ steps_text front ++ step_text step
text_push front step =
    flat_map-append step_text front (step ∷ []) ∙ ap (λ (t : List ℕ). steps_text front ++ t) (flat_map-cons step_text step [] ∙ append-nil (step_text step))

step_push : (front : List Step) (step : Step) (read : Reading Refuted) → with_steps front (read >>= λ y. Ok (step_before (StepLine step) y.0, y.1)) ≡ with_steps (front ++ step ∷ []) read
step_push front step (Ok y) = ap (λ (steps : List Step). done (record { steps = steps; bound = y.0.bound }, y.1)) (sym (append_assoc front (step ∷ []) y.0.steps))
step_push front step (Err stop) = refl

pub lines_more : (text rest after : List ℕ) (step : Step) → AreRead text rest → refuted_line_at rest ≡ Ok (StepLine step, after) → AreRead text after
lines_more text rest after step so_far e =
    let taken = line_code.takes rest (StepLine step) after e in
    record {
      front = so_far.front ++ step ∷ [];
      parts = so_far.parts ∙ ap (λ (t : List ℕ). steps_text so_far.front ++ t) taken.1 ∙ sym (append_assoc (steps_text so_far.front) (step_text step) after)
          ∙ ap (λ (t : List ℕ). t ++ after) (sym (text_push so_far.front step));
      steps = all_push so_far.front step so_far.steps taken.0;
      read = sym (ap (with_steps so_far.front) (lines_first rest ∙ ap (λ (r : Reading RefutedLine). r >>= lines_behind) e) ∙ step_push so_far.front step (refuted_at after)) ∙ so_far.read;
    }

-- the lines in front of the rest
front_is : (text rest front : List ℕ) → text ≡ front ++ rest → take (length text - length rest) text ≡ front
front_is text rest front e =
    let count : length text - length rest ≡ length front = omega (arith, ap length e, length-append front rest) in
    ap (λ (n : ℕ). take n text) count ∙ ap (take (length front)) e ∙ take-append_seam front rest

pub lines_are : (text rest : List ℕ) → AreRead text rest → AreLines (take (length text - length rest) text)
lines_are text rest so_far = lines_of_steps so_far.front (take (length text - length rest) text) so_far.steps (front_is text rest (steps_text so_far.front) so_far.parts)

pub lines_done : (text rest after : List ℕ) (bound : Option ℕ) (refuted : Refuted) → AreRead text rest → refuted_line_at rest ≡ Ok (BoundLine bound, after)
    → refuted ≡ refuted_by (take (length text - length rest) text) bound → refuted_at text ≡ Ok (refuted, after)
lines_done text rest after bound refuted so_far e is =
    let back : steps_in (take (length text - length rest) text) ≡ so_far.front =
    ap steps_in (front_is text rest (steps_text so_far.front) so_far.parts) ∙ steps_back so_far.front so_far.steps in
    sym so_far.read ∙ ap (with_steps so_far.front) (lines_first rest ∙ ap (λ (r : Reading RefutedLine). r >>= lines_behind) e)
    ∙ ap (λ (steps : List Step). done (record { steps = steps; bound = bound }, after)) (append-nil so_far.front ∙ sym back)
    ∙ ap (λ (r : Refuted). done (r, after)) (sym is)

pub lines_stop : (stop : code_stop.Stop) (text rest : List ℕ) → AreRead text rest → Fails stop (refuted_line_at rest) → Fails stop (refuted_at text)
lines_stop code.OutOfMemory text rest so_far e = tt
lines_stop code.Ends text rest so_far e = sym so_far.read ∙ ap (with_steps so_far.front) (lines_first rest ∙ ap (λ (r : Reading RefutedLine). r >>= lines_behind) e)
lines_stop (code.Wrong reason at) text rest so_far e = sym so_far.read ∙ ap (with_steps so_far.front) (lines_first rest ∙ ap (λ (r : Reading RefutedLine). r >>= lines_behind) e)

-- ---- one step after another

-- the first step was taken
pub record IsTaken (rest after : List ℕ) (kind : StepKind) (numbers : List ℕ) : Type 0 where
  pub next : IsNext (steps_in rest) (steps_in after) numbers (Some kind)
  pub lines : AreLines after

same_line : (this that : RefutedLine) (rest after : List ℕ) → done (this, rest) ≡ done (that, after) → (this ≡ that) × (rest ≡ after)
same_line this that rest after e = let p = done_is (this, rest) (that, after) e in (ap (λ (x : RefutedLine × List ℕ). x.0) p, ap (λ (x : RefutedLine × List ℕ). x.1) p)

same_step : (this that : Step) → StepLine this ≡ StepLine that → this ≡ that
same_step this that e = cc

pub step_taken : (rest after : List ℕ) (kind : StepKind) (numbers : List ℕ) → AreLines rest → 0 < length rest
    → refuted_line_at rest ≡ Ok (StepLine (record { kind = kind; numbers = numbers }), after) → IsTaken rest after kind numbers
step_taken rest after kind numbers lines some e = by_steps (steps_in rest) refl lines.parts lines.steps
  where
    by_steps : (steps : List Step) → steps_in rest ≡ steps → rest ≡ steps_text steps → AllByRecursion IsStep steps → IsTaken rest after kind numbers
    by_steps [] is parts all = absurd (omega (arith, some, ap length parts))
    by_steps (step ∷ steps) is parts all =
        let split : rest ≡ line_text (StepLine step) ++ steps_text steps = parts ∙ flat_map-cons step_text step steps in
        let again : refuted_line_at rest ≡ Ok (StepLine step, steps_text steps) = ap refuted_line_at split ∙ line_code.again (StepLine step) (steps_text steps) all.0 in
        let same = same_line (StepLine step) (StepLine (record { kind = kind; numbers = numbers })) (steps_text steps) after (sym again ∙ e) in
        let step_is : step ≡ record { kind = kind; numbers = numbers } = same_step step (record { kind = kind; numbers = numbers }) same.0 in
        let back : steps_in after ≡ steps = ap steps_in (sym same.1) ∙ steps_back steps all.1 in
        record {
          next = is ∙ ap (λ (s : Step). s ∷ steps) step_is ∙ ap (λ (ss : List Step). record { kind = kind; numbers = numbers } ∷ ss) (sym back);
          lines = lines_of_steps steps after all.1 (sym same.1);
        }

pub none_left : (rest : List ℕ) → length rest ≤ 0 → steps_in rest ≡ []
none_left [] le = steps_back [] tt
none_left (b ∷ rest) le = absurd (omega (arith, le))

-- there are no more steps than bytes
steps_long : (steps : List Step) → length steps ≤ length (steps_text steps)
steps_long [] = omega arith
steps_long (step ∷ steps) =
    omega (arith, steps_long steps, ap length (flat_map-cons step_text step steps), length-append (step_text step) (steps_text steps))

pub steps_few : (lines : List ℕ) → AreLines lines → length (steps_in lines) ≤ length lines
steps_few lines are = omega (arith, steps_long (steps_in lines), ap length are.parts)
