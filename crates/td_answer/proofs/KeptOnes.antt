-- From the answer of a search for the pairs that keep conditions to the sentences.
use Rattle.std.proofs.Common.{◌≡◌, ◌∙◌, ℕ, ◌≤◌, ◌+◌, List, [], ◌∷◌, ◌++◌, length, refl, sym, ap, subst, arith, append_assoc, append-nil, inl, inr}
use Rattle.std.specs.Prelude.{Option, Some, None, IfSome, min, option_map}
use Rattle.std.specs.List.{Contains}
use Rattle.td_reading.specs.declared.reading.Reading.{Reading}
use Rattle.td_source.specs.Reads.{AreOutputsOf}
use Rattle.td_circuit.specs.Numbering.{Numbered, setting}
use Rattle.td_domain.specs.Admits.{Admitted}
use Rattle.td_lead.specs.declared.timed.Timed.{Timed}
use Rattle.td_refutation.specs.Asking.{Asking}
use Rattle.td_refute.specs.Kept.{IsTimedAmong, IsBoundAmong, AsksNone}
use Rattle.td_certificate.specs.declared.certificate.Certificate.{Certificate}
use Rattle.td_certificate.specs.declared.certificate.Claim.{Claim}
use Rattle.td_certificate.specs.declared.tree.Node.{Node}
use Rattle.td_certificate.specs.Lengths.{HaveFew}
use Rattle.td_certificate.specs.Spelling.{AreConditions, AreTerms, HasSpelling}
use Rattle.td_search.specs.Problems.{problem_by}
use Rattle.td_search.specs.declared.strategy.Strategy.TheVariants.{Lead}
use Rattle.td_worst.specs.Kept.{certificate_with, claim_of, claim_to, IsCertifiedAmong as IsCertifiedWith, IsWorstAmong, LiesBetweenAmong}
use Rattle.td_request.specs.declared.request.Search.{Search}
use Rattle.td_question.specs.Asking.{IsAskedKeeping}
use Rattle.td_question.proofs.Questions.{asked_flips}
use Rattle.td_lines.specs.declared.line.Cause.{Cause}
use Rattle.td_lines.specs.declared.line.Line.{Line}
use Rattle.td_lines.specs.declared.line.Line.TheVariants as line
use Rattle.td_answer.specs.declared.kept_certificate.Told.{Told}
use Rattle.td_answer.specs.declared.outcome.Outcome.{Outcome}
use Rattle.td_answer.specs.declared.outcome.Dump.{Dump}
use Rattle.td_answer.specs.declared.status.Status.{Status}
use Rattle.td_answer.specs.declared.status.Status.TheVariants as status
use Rattle.td_answer.specs.Heads.{head_lines}
use Rattle.td_answer.specs.declared.ended.Ended.{Ended}
use Rattle.td_answer.specs.Ends.{work_lines}
use Rattle.td_answer.specs.Lines.{exact_lines, between_lines, at_most_lines}
use Rattle.td_answer.specs.Runs.{TellsPair}
use Rattle.td_answer.specs.Additions.{AddsLines}
use Rattle.td_answer.specs.Kept.{HasDelayAmong, HasFigureAmong, DumpsPair, IsTrueKept, IsShownAmong, TellsClaim, IsCertifiedAmong}
use Rattle.td_answer.specs.KeptTerms.{kept_terms}
use Rattle.td_answer.specs.OpenCertificates.{IsWantedCertificate}
use Rattle.td_answer.specs.Requirements.{required_lines, cause_by, ending_by}
use Rattle.td_answer.proofs.Standing.{tells, tells_bound}
use Rattle.td_answer.proofs.Searched.{delay_fits}
use Rattle.td_answer.proofs.Works.{works}

-- nothing comes after these lines
pub whole : (report lines : List Line) → report ≡ lines → (more : List Line) × (report ≡ lines ++ more)
whole report lines is = ([], is ∙ sym (append-nil lines))

-- the pair has a bit in each vector for each input
pub best_fits : (circuit : Numbered) (asking : Asking) (best : Timed) → IsTimedAmong (setting circuit) asking best
    → (length best.pair.first ≡ length circuit.netlist.inputs) × (length best.pair.second ≡ length circuit.netlist.inputs)
best_fits circuit asking best timed = delay_fits (problem_by Lead circuit asking.admit) best.pair best.time (timed.asked.admitted, timed.delay)

module _ (circuit : Numbered) (admit : Admitted) (told : Told) (ended : Ended) (text : List ℕ) (reading : Reading)
    (asked : IsAskedKeeping text reading ended.search.now.question (setting circuit) (record { admit = admit; keep = told.keep.items })) (outcome : Outcome) where
  abbrev search : Search
  search = ended.search.now

  abbrev asking : Asking
  asking = record { admit = admit; keep = told.keep.items }

  abbrev Figure : List Line → Option Dump → Status → Type 0
  Figure lines dump ending = HasFigureAmong (setting circuit) asking search lines dump ending

  -- a bound stays one where it is greater
  more_bound : (one other : ℕ) → one ≤ other → IsBoundAmong (setting circuit) asking one → IsBoundAmong (setting circuit) asking other
  more_bound one other le is = λ pair delay among has. (let low = is pair delay among has in omega (arith, le))

  -- ---- what the report says

  says : (lines : List Line) (ending : Status) → outcome.report ≡ head_lines circuit.netlist ++ lines → outcome.status ≡ ending → Figure lines outcome.dump ending
      → IsTrueKept text reading search outcome
  says lines ending printed ends figure = record {
    setting = setting circuit;
    asking = asking;
    asked = asked;
    lines = lines;
    is = printed;
    figure = subst (λ (e : Status). Figure lines outcome.dump e) (sym ends) figure;
  }

  pub exact_says : (best : Timed) (tree : List Node) → IsWorstAmong (setting circuit) asking best
      → AddsLines (TellsPair search.shown (setting circuit) best.pair) (head_lines circuit.netlist ++ exact_lines ended best.time best.pair (length tree)) outcome.report
      → outcome.status ≡ ending_by search.required status.Done best.time best.time → DumpsPair search (setting circuit) best.pair outcome.dump
      → IsTrueKept text reading search outcome
  exact_says best tree worst adds ends dumped =
      says (exact_lines ended best.time best.pair (length tree) ++ adds.0) (ending_by search.required status.Done best.time best.time)
      (adds.1 ∙ append_assoc (head_lines circuit.netlist) (exact_lines ended best.time best.pair (length tree)) adds.0) ends
      (inl (
        best.pair,
        record {
          time = best.time;
          nodes = length tree;
          used = work_lines ended;
          required = required_lines search.required best.time best.time;
          more = adds.0;
          printed = refl;
          has = record { asked = worst.timed.asked; delays = worst.timed.delay };
          greatest = worst.greatest;
          stands = tells (IsBoundAmong (setting circuit) asking) (HasDelayAmong (setting circuit) asking best.pair) more_bound status.Done search.required best.time best.time
              worst.greatest (record { asked = worst.timed.asked; delays = worst.timed.delay });
          took = works ended;
          tells = adds.2;
        },
        dumped,
      ))

  pub between_says : (best : Timed) (high : ℕ) (why : Cause) → LiesBetweenAmong (setting circuit) asking best high
      → AddsLines (TellsPair search.shown (setting circuit) best.pair) (head_lines circuit.netlist ++ between_lines ended best.time high why best.pair 0) outcome.report
      → outcome.status ≡ ending_by search.required status.Between best.time high → DumpsPair search (setting circuit) best.pair outcome.dump
      → IsTrueKept text reading search outcome
  between_says best high why lies adds ends dumped =
      says (between_lines ended best.time high why best.pair 0 ++ adds.0) (ending_by search.required status.Between best.time high)
      (adds.1 ∙ append_assoc (head_lines circuit.netlist) (between_lines ended best.time high why best.pair 0) adds.0) ends
      (inr (inl (
        best.pair,
        record {
          low = best.time;
          high = high;
          cause = cause_by search.required best.time high why;
          nodes = 0;
          used = work_lines ended;
          required = required_lines search.required best.time high;
          more = adds.0;
          printed = refl;
          has = record { asked = lies.timed.asked; delays = lies.timed.delay };
          greatest = lies.greatest;
          ordered = lies.ordered;
          stands = tells (IsBoundAmong (setting circuit) asking) (HasDelayAmong (setting circuit) asking best.pair) more_bound status.Between search.required best.time high
              lies.greatest (record { asked = lies.timed.asked; delays = lies.timed.delay });
          took = works ended;
          tells = adds.2;
        },
        dumped,
      )))

  pub at_most_says : (high : ℕ) (why : Cause) → IsBoundAmong (setting circuit) asking high
      → outcome.report ≡ head_lines circuit.netlist ++ at_most_lines ended high why → outcome.status ≡ ending_by search.required status.Between 0 high
      → outcome.dump ≡ None → IsTrueKept text reading search outcome
  at_most_says high why bound printed ends none =
      says (at_most_lines ended high why) (ending_by search.required status.Between 0 high) printed ends
      (inr (inr (inl (
        record {
          high = high;
          cause = cause_by search.required 0 high why;
          used = work_lines ended;
          required = required_lines search.required 0 high;
          printed = refl;
          greatest = bound;
          took = works ended;
          stands = tells_bound (IsBoundAmong (setting circuit) asking) more_bound status.Between search.required high bound;
        },
        none,
      ))))

  pub none_says : (tree : List Node) → AsksNone (setting circuit) asking
      → outcome.report ≡ head_lines circuit.netlist ++ line.NoPair ∷ line.Nodes (length tree) ∷ [] → outcome.status ≡ status.Refused → outcome.dump ≡ None
      → IsTrueKept text reading search outcome
  none_says tree asks_none printed ends none =
      says (line.NoPair ∷ line.Nodes (length tree) ∷ []) status.Refused printed ends
      (inr (inr (inr (record { nodes = length tree; printed = refl; none = asks_none }, none, refl))))

  -- ---- the certificate

  same_admit : record admit { flips = min admit.flips (length admit.held) } ≡ admit
  same_admit = ap (λ (flips : ℕ). record admit { flips = flips }) (omega (arith, asked_flips text reading search.question (setting circuit) admit asked.asked))

  abbrev certificate : Option Claim → List Node → Certificate
  certificate claim tree = certificate_with (setting circuit) admit (kept_terms told) claim tree

  module _ (are_outputs : AreOutputsOf text reading (option_map (λ numbers. numbers.items) told.outputs)) (same : told.default ≡ reading.default)
      (terms : AreConditions told.keep.items → AreTerms (Some (kept_terms told))) (few : length told.keep.items ≤ 5000 → HaveFew (Some (kept_terms told))) where
    shown : (claim : Option Claim) (tree : List Node) → IsCertifiedWith (setting circuit) asking claim tree
        → IsShownAmong text reading search.question (certificate claim tree)
    shown claim tree is = record {
      netlist = circuit.netlist;
      asked = subst (λ (a : Admitted). IsAskedKeeping text reading search.question (setting circuit) (record { admit = a; keep = told.keep.items })) (sym same_admit) asked;
      terms = (are_outputs, same);
      accepted = is.accepted (kept_terms told) refl;
      written = is.written (kept_terms told) refl (terms is.told) (few is.few);
    }

    -- a certificate with what it shows, where the outcome has it
    kept : (claim : Option Claim) (tree : List Node) → outcome.certificate ≡ Some (certificate claim tree) → IsCertifiedWith (setting circuit) asking claim tree
        → TellsClaim search outcome.report claim → IsCertifiedAmong text reading search outcome.report outcome.certificate
    kept claim tree has is tells_claim =
        subst (λ (c : Option Certificate). IsCertifiedAmong text reading search outcome.report c) (sym has) (shown claim tree is, tells_claim)

    pub exact_kept : (best : Timed) (tree : List Node) → IsCertifiedWith (setting circuit) asking (Some (claim_of best)) tree
        → AddsLines (TellsPair search.shown (setting circuit) best.pair) (head_lines circuit.netlist ++ exact_lines ended best.time best.pair (length tree)) outcome.report
        → outcome.certificate ≡ Some (certificate (Some (claim_of best)) tree)
        → IsCertifiedAmong text reading search outcome.report outcome.certificate
    exact_kept best tree is adds has =
        kept (Some (claim_of best)) tree has is
        (inl (refl, subst (λ (lines : List Line). Contains lines (line.Exact best.time)) (sym adds.1) (2, omega arith, refl)))

    pub none_kept : (tree : List Node) → IsCertifiedWith (setting circuit) asking None tree
        → outcome.report ≡ head_lines circuit.netlist ++ line.NoPair ∷ line.Nodes (length tree) ∷ []
        → outcome.certificate ≡ Some (certificate None tree)
        → IsCertifiedAmong text reading search outcome.report outcome.certificate
    none_kept tree is printed has =
        kept None tree has is (subst (λ (lines : List Line). Contains lines line.NoPair) (sym printed) (2, omega arith, refl))

  -- of an open answer, where it has one
  pub between_kept : AreOutputsOf text reading (option_map (λ numbers. numbers.items) told.outputs) → told.default ≡ reading.default
      → (best : Timed) (high : ℕ) (why : Cause) → IfSome outcome.certificate (IsWantedCertificate search (setting circuit) admit told best high)
      → AddsLines (TellsPair search.shown (setting circuit) best.pair) (head_lines circuit.netlist ++ between_lines ended best.time high why best.pair 0) outcome.report
      → IsCertifiedAmong text reading search outcome.report outcome.certificate
  between_kept are_outputs same best high why is adds = go outcome.certificate is
    where
      printed : Contains outcome.report (line.Between best.time high)
      printed = subst (λ (lines : List Line). Contains lines (line.Between best.time high)) (sym adds.1) (2, omega arith, refl)

      go : (found : Option Certificate) → IfSome found (IsWantedCertificate search (setting circuit) admit told best high)
          → IsCertifiedAmong text reading search outcome.report found
      go None has = inl (best.time, high, printed)
      go (Some found) has =
          subst (λ (c : Certificate). IsCertifiedAmong text reading search outcome.report (Some c)) (sym has.is.is)
          (shown are_outputs same has.is.spelled has.is.few (Some (claim_to best high)) has.is.tree has.is.certified, inr (has.wanted, printed))

  -- no certificate
  pub open_kept : (high : ℕ) (why : Cause) → outcome.certificate ≡ None → outcome.report ≡ head_lines circuit.netlist ++ at_most_lines ended high why
      → IsCertifiedAmong text reading search outcome.report outcome.certificate
  open_kept high why none printed =
      subst (λ (c : Option Certificate). IsCertifiedAmong text reading search outcome.report c) (sym none)
      (inr (high, subst (λ (lines : List Line). Contains lines (line.AtMost high)) (sym printed) (2, omega arith, refl)))

-- ---- what can be written

pub certificate_written : (circuit : Numbered) (admit : Admitted) (told : Told) (claim : Option Claim) (tree : List Node)
    → IsCertifiedWith (setting circuit) (record { admit = admit; keep = told.keep.items }) claim tree
    → (AreConditions told.keep.items → AreTerms (Some (kept_terms told))) → (length told.keep.items ≤ 5000 → HaveFew (Some (kept_terms told)))
    → HasSpelling (certificate_with (setting circuit) admit (kept_terms told) claim tree)
certificate_written circuit admit told claim tree is terms few = (is.written (kept_terms told) refl (terms is.told) (few is.few)).0

pub open_written : (circuit : Numbered) (admit : Admitted) (told : Told) (search : Search) (best : Timed) (high : ℕ) (certificate : Option Certificate)
    → IfSome certificate (IsWantedCertificate search (setting circuit) admit told best high) → IfSome certificate HasSpelling
open_written circuit admit told search best high None is = tt
open_written circuit admit told search best high (Some certificate) is =
    subst HasSpelling (sym is.is.is) (certificate_written circuit admit told (Some (claim_to best high)) is.is.tree is.is.certified is.is.spelled is.is.few)
