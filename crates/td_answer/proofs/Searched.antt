-- From the answer of a search to the sentences.
use Rattle.std.proofs.Common.{◌≡◌, ◌∙◌, ℕ, ◌≤◌, suc, List, [], ◌∷◌, ◌++◌, length, refl, sym, ap, subst, arith, Bool, true, false, append_assoc, inl, inr}
use Rattle.std.proofs.lemmas.List.{length-map}
use Rattle.std.specs.Prelude.{Option, Some, None, min, is_some, IfSome, if◌then◌else◌}
use Rattle.std.specs.List.{Contains}
use Rattle.td_gates.specs.declared.primitives.Level.{Level}
use Rattle.td_gates.specs.Table.{level_from}
use Rattle.td_nets.specs.Netlist.{Name, Named}
use Rattle.td_reading.specs.declared.reading.Reading.{Reading}
use Rattle.td_source.specs.Reads.{AreOutputsOf}
use Rattle.td_circuit.specs.Numbering.{Numbered, setting}
use Rattle.td_domain.specs.declared.cubes.Trit.{Trit}
use Rattle.td_domain.specs.Pairs.{Pair}
use Rattle.td_domain.specs.Cubes.{AllowsBits}
use Rattle.td_domain.specs.Admits.{Admitted}
use Rattle.td_domain.specs.Worst.{IsUpperBound}
use Rattle.td_refutation.specs.Asking.{Asking}
use Rattle.td_refutation.specs.declared.conditions.NamedCondition.{NamedCondition}
use Rattle.td_certificate.specs.declared.certificate.Certificate.{Certificate}
use Rattle.td_certificate.specs.declared.tree.Node.{Node}
use Rattle.td_certificate.specs.Questions.{keep_by}
use Rattle.td_certificate.specs.Reading.{with_keep}
use Rattle.td_checker.specs.Checks.{told_terms}
use Rattle.td_search.specs.declared.strategy.Strategy.{Strategy}
use Rattle.td_search.specs.declared.answers.Answer.{Answer}
use Rattle.td_search.specs.declared.answers.Answer.TheVariants as answer
use Rattle.td_search.specs.declared.answers.SearchFault.{SearchFault}
use Rattle.td_search.specs.declared.answers.SearchFault.TheVariants as search
use Rattle.td_search.specs.Problems.{Problem, problem_by, has_delay}
use Rattle.td_search.specs.Answers.{low_of, IsSearchFault}
use Rattle.td_search.specs.Written.{CanBeWritten}
use Rattle.td_worst.specs.declared.method.Method.{Method}
use Rattle.td_worst.specs.Kept.{claim_to}
use Rattle.td_worst.specs.Methods.{IsAnswerBy, IsSoundAnswer, high_of}
use Rattle.td_worst.proofs.Outcomes.{outcome_by}
use Rattle.td_request.specs.declared.request.Search.{Search}
use Rattle.td_question.specs.Asking.{IsAsked, IsAskedKeeping}
use Rattle.td_question.proofs.Questions.{asked_flips}
use Rattle.td_lines.specs.declared.line.Line.{Line}
use Rattle.td_lines.specs.declared.line.Line.TheVariants as line
use Rattle.td_answer.specs.declared.outcome.Outcome.{Outcome}
use Rattle.td_answer.specs.declared.refusal.Refusal.TheVariants as refusal
use Rattle.td_answer.specs.declared.status.Status.{Status}
use Rattle.td_answer.specs.declared.status.Status.TheVariants.{Done, Between}
use Rattle.td_answer.specs.declared.certifying.Read.{Read}
use Rattle.td_answer.specs.declared.kept_certificate.Told.{Told}
use Rattle.td_answer.specs.Heads.{head_lines}
use Rattle.td_answer.specs.declared.ended.Ended.{Ended}
use Rattle.td_answer.specs.Ends.{cause_of, work_lines}
use Rattle.td_answer.specs.Lines.{answer_lines, ending_of, pair_in}
use Rattle.td_answer.specs.Runs.{TellsPair, RunsPair}
use Rattle.td_answer.specs.Dumps.{IsDumpWhere}
use Rattle.td_answer.specs.Additions.{AddsLines}
use Rattle.td_answer.specs.Certificates.{outputs_in, terms_in, tells_terms}
use Rattle.td_answer.specs.Certified.{AreTermsOf, IsShown, IsCertified}
use Rattle.td_answer.specs.KeptTerms.{kept_terms}
use Rattle.td_answer.specs.OpenCertificates.{IsCertificateOf, IsWantedCertificate, read_of}
use Rattle.td_answer.specs.Requirements.{required_lines, cause_by}
use Rattle.td_answer.specs.Searches.{IsRefusedSearch}
use Rattle.td_answer.specs.Sentences.{HasDelay, HasFigure, IsTrueWorst}
use Rattle.td_answer.proofs.Standing.{tells}
use Rattle.td_answer.proofs.Works.{works}

-- ---- the pair of an answer

same_length : (cube : List Trit) (before after : List Bool) → AllowsBits cube before after → length before ≡ length after
same_length [] [] [] allows = refl
same_length [] [] (b ∷ after) allows = absurd allows
same_length [] (a ∷ before) after allows = absurd allows
same_length (first ∷ []) before after allows = absurd allows
same_length (first ∷ second ∷ rest) [] after allows = absurd allows
same_length (first ∷ second ∷ rest) (a ∷ before) [] allows = absurd allows
same_length (first ∷ second ∷ rest) (a ∷ before) (b ∷ after) allows = ap suc (same_length rest before after allows.2)

pub delay_fits : (asked : Problem) (pair : Pair) (delay : ℕ) → has_delay asked pair delay
    → (length pair.first ≡ length asked.setting.netlist.inputs) × (length pair.second ≡ length asked.setting.netlist.inputs)
delay_fits asked pair delay has =
    let first : length pair.first ≡ length asked.setting.netlist.inputs =
    sym (length-map pair.first level_from) ∙ ap (λ (v : List Level). length v) (sym has.1.runs.settled.inputs)
    ∙ length-map asked.setting.netlist.inputs (λ (name : Name). (has.1.waves (Named name)).start) in
    (first, sym (same_length asked.admit.pins pair.first pair.second has.0.pinned) ∙ first)

answer_fits : (asked : Problem) (budget : ℕ) (found : Answer) → IsSoundAnswer asked budget found
    → (length (pair_in found).first ≡ length asked.setting.netlist.inputs) × (length (pair_in found).second ≡ length asked.setting.netlist.inputs)
answer_fits asked budget (answer.Exact time pair tree) is = delay_fits asked pair time is.reached
answer_fits asked budget (answer.Between low high pair nodes short) is = delay_fits asked pair low is.reached

pub pair_fits : (method : Method) (asked : Problem) (budget : ℕ) (found : Answer) → IsAnswerBy method asked budget found
    → (length (pair_in found).first ≡ length asked.setting.netlist.inputs) × (length (pair_in found).second ≡ length asked.setting.netlist.inputs)
pair_fits method asked budget found is = answer_fits asked budget found (outcome_by method asked budget found is)

-- its pair has the lower figure, which isn't above the upper one
pub figures_of : (asked : Problem) (budget : ℕ) (found : Answer) → IsSoundAnswer asked budget found
    → has_delay asked (pair_in found) (low_of found) × (low_of found ≤ high_of found)
figures_of asked budget (answer.Exact time pair tree) is = (is.reached, omega arith)
figures_of asked budget (answer.Between low high pair nodes why) is = (is.reached, is.ordered)

-- ---- terms

-- a certificate tells how the netlist was read
pub terms_read : (text : List ℕ) (reading : Reading) (by : Strategy) (read : Read) (tree : List Node) → read.default ≡ reading.default
    → AreOutputsOf text reading (outputs_in read) → AreTermsOf text reading (terms_in by read tree)
terms_read text reading by read tree same is_output = go (tells_terms by (is_some read.outputs) tree)
  where
    go : (tells : Bool) → AreTermsOf text reading (if tells then Some (told_terms read.default (outputs_in read)) else None)
    go true = (outputs_in read, is_output, ap (λ delays. told_terms delays (outputs_in read)) same)
    go false = tt

-- and no condition
no_condition : (by : Strategy) (read : Read) (tree : List Node) → keep_by (terms_in by read tree) ≡ []
no_condition by read tree = go (tells_terms by (is_some read.outputs) tree)
  where
    go : (tells : Bool) → keep_by (if tells then Some (told_terms read.default (outputs_in read)) else None) ≡ []
    go true = refl
    go false = refl

module _ (text : List ℕ) (reading : Reading) (ended : Ended) (circuit : Numbered) (admit : Admitted) (by : Strategy)
    (asked : IsAsked text reading ended.search.now.question (setting circuit) admit) where
  abbrev problem : Problem
  problem = problem_by by circuit admit

  abbrev asked_by : Search
  asked_by = ended.search.now

  -- ---- the figure

  more_bound : (one other : ℕ) → one ≤ other → IsUpperBound (setting circuit) admit one → IsUpperBound (setting circuit) admit other
  more_bound one other le is = λ pair delay admitted has. (let low = is pair delay admitted has in omega (arith, le))

  figure : (budget : ℕ) (found : Answer) (more : List Line) → IsSoundAnswer problem budget found → TellsPair asked_by.shown (setting circuit) (pair_in found) more
      → HasFigure (setting circuit) admit asked_by (pair_in found) (answer_lines ended found ++ more) (ending_of asked_by.required found)
  figure budget (answer.Exact time pair nodes) more is tells_more = inl (record {
    time = time;
    nodes = length nodes;
    used = work_lines ended;
    required = required_lines asked_by.required time time;
    more = more;
    printed = refl;
    worst = record { pair = pair; admitted = is.reached.0; reached = is.reached.1; greatest = is.greatest };
    has = record { admitted = is.reached.0; delays = is.reached.1 };
    stands = tells (IsUpperBound (setting circuit) admit) (HasDelay (setting circuit) admit pair) more_bound Done asked_by.required time time
        is.greatest (record { admitted = is.reached.0; delays = is.reached.1 });
    took = works ended;
    tells = tells_more;
  })
  figure budget (answer.Between low high pair nodes short) more is tells_more = inr (record {
    low = low;
    high = high;
    cause = cause_by asked_by.required low high (cause_of ended nodes short);
    nodes = nodes;
    used = work_lines ended;
    required = required_lines asked_by.required low high;
    more = more;
    printed = refl;
    has = record { admitted = is.reached.0; delays = is.reached.1 };
    greatest = is.greatest;
    ordered = is.ordered;
    stands = tells (IsUpperBound (setting circuit) admit) (HasDelay (setting circuit) admit pair) more_bound Between asked_by.required low high
        is.greatest (record { admitted = is.reached.0; delays = is.reached.1 });
    took = works ended;
    tells = tells_more;
  })

  -- what a search says is true
  pub says : (budget : ℕ) (found : Answer) (outcome : Outcome) → IsSoundAnswer problem budget found
      → AddsLines (TellsPair asked_by.shown (setting circuit) (pair_in found)) (head_lines circuit.netlist ++ answer_lines ended found) outcome.report
      → outcome.status ≡ ending_of asked_by.required found
      → IsDumpWhere (is_some asked_by.dump) (setting circuit) (RunsPair (setting circuit) (pair_in found)) outcome.dump
      → IsTrueWorst text reading asked_by outcome
  says budget found outcome is adds ends dumped = record {
    setting = setting circuit;
    admit = admit;
    asked = asked;
    pair = pair_in found;
    lines = answer_lines ended found ++ adds.0;
    is = adds.1 ∙ append_assoc (head_lines circuit.netlist) (answer_lines ended found) adds.0;
    figure = subst (λ (status : Status). HasFigure (setting circuit) admit asked_by (pair_in found) (answer_lines ended found ++ adds.0) status) (sym ends)
        (figure budget found adds.0 is adds.2);
    dumped = dumped;
  }

  -- ---- the certificate

  same_admit : record admit { flips = min admit.flips (length admit.held) } ≡ admit
  same_admit =
      ap (λ (flips : ℕ). record admit { flips = flips }) (omega (arith, asked_flips text reading asked_by.question (setting circuit) admit asked))

  asked_so : IsAsked text reading asked_by.question (setting circuit) (record admit { flips = min admit.flips (length admit.held) })
  asked_so = subst (λ (a : Admitted). IsAsked text reading asked_by.question (setting circuit) a) (sym same_admit) asked

  module _ (told : Told) (same : told.default ≡ reading.default) (bare : told.keep.items ≡ []) (is_output : AreOutputsOf text reading (outputs_in (read_of told))) where
    told_are : AreTermsOf text reading (Some (kept_terms told))
    told_are = (
      outputs_in (read_of told),
      is_output,
      ap (λ (keep : List NamedCondition). with_keep keep (told_terms told.default (outputs_in (read_of told)))) bare
          ∙ ap (λ delays. told_terms delays (outputs_in (read_of told))) same,
    )

    -- of an open answer
    open_shown : (low high : ℕ) (pair : Pair) (report : List Line) (certificate : Certificate)
        → IsWantedCertificate asked_by (setting circuit) admit told (record { pair = pair; time = low }) high certificate → Contains report (line.Between low high)
        → IsShown text reading asked_by report certificate
    open_shown low high pair report certificate is tells_between =
        subst (λ (c : Certificate). IsShown text reading asked_by report c) (sym is.is.is) (record {
          netlist = circuit.netlist;
          asked = asked_so;
          terms = told_are;
          claim = claim_to (record { pair = pair; time = low }) high;
          claims = refl;
          tells = inr (is.wanted, tells_between);
          accepted = is.is.certified.accepted (kept_terms told) refl;
          written = is.is.certified.written (kept_terms told) refl (is.is.spelled is.is.certified.told) (is.is.few is.is.certified.few);
        })

    open_certified : (low high : ℕ) (pair : Pair) (report : List Line) (certificate : Option Certificate)
        → IfSome certificate (IsWantedCertificate asked_by (setting circuit) admit told (record { pair = pair; time = low }) high) → Contains report (line.Between low high)
        → IsCertified text reading asked_by report certificate
    open_certified low high pair report None is tells_between = (low, high, tells_between)
    open_certified low high pair report (Some certificate) is tells_between = open_shown low high pair report certificate is tells_between

    shown_by : (budget : ℕ) (found : Answer) (report : List Line) (more : List Line) (certificate : Option Certificate)
        → IsSoundAnswer problem budget found → CanBeWritten problem found → IsCertificateOf told problem asked_by found certificate
        → report ≡ (head_lines circuit.netlist ++ answer_lines ended found) ++ more
        → IsCertified text reading asked_by report certificate
    shown_by budget (answer.Exact time pair tree) report more certificate is written kept printed =
        subst (λ (c : Option Certificate). IsCertified text reading asked_by report c) (sym kept.0) (record {
          netlist = circuit.netlist;
          asked = asked_so;
          terms = terms_read text reading by (read_of told) tree same is_output;
          claim = record { time = time; high = time; pair = pair };
          claims = refl;
          tells = inl (refl, subst (λ (lines : List Line). Contains lines (line.Exact time)) (sym printed) (2, omega arith, refl));
          accepted = is.accepted (terms_in by (read_of told) tree) (no_condition by (read_of told) tree);
          written = written (terms_in by (read_of told) tree) kept.1;
        })
    shown_by budget (answer.Between low high pair nodes short) report more certificate is written kept printed =
        open_certified low high pair report certificate kept
        (subst (λ (lines : List Line). Contains lines (line.Between low high)) (sym printed) (2, omega arith, refl))

    -- what a search keeps is a certificate of its answer
    pub certified : (budget : ℕ) (found : Answer) (outcome : Outcome) → IsSoundAnswer problem budget found → CanBeWritten problem found
        → AddsLines (TellsPair asked_by.shown (setting circuit) (pair_in found)) (head_lines circuit.netlist ++ answer_lines ended found) outcome.report
        → IsCertificateOf told problem asked_by found outcome.certificate
        → IsCertified text reading asked_by outcome.report outcome.certificate
    certified budget found outcome is written adds kept = shown_by budget found outcome.report adds.0 outcome.certificate is written kept adds.1

-- ---- no answer

pub refused : (text : List ℕ) (reading : Reading) (asked_by : Search) (circuit : Numbered) (asking : Asking) (by : Strategy)
    → IsAskedKeeping text reading asked_by.question (setting circuit) asking → (reason : SearchFault) → IsSearchFault (problem_by by circuit asking.admit) reason
    → IsRefusedSearch text reading asked_by (refusal.Search reason)
refused text reading asked_by circuit asking by asked search.NoPair none =
    (setting circuit, asking, asked, λ pair admitted. none (pair, admitted, admitted.pinned))
refused text reading asked_by circuit asking by asked search.OutOfMemory none = tt
