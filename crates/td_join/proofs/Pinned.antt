-- Pinned: what the lines of a refutation show of a cube doesn't depend on the pins.
use Rattle.std.proofs.Common.{◌≡◌, ℕ, zero, suc, true, false, length, Option, Some, None, List, [], ◌∷◌, ◌++◌, refl, ap, subst}
use Rattle.std.specs.Prelude.{map}
use Rattle.td_circuit.specs.Settings.{Setting}
use Rattle.td_circuit.specs.Numbering.{Numbered}
use Rattle.td_domain.specs.declared.cubes.Trit.{Trit}
use Rattle.td_domain.specs.Admits.{Admitted}
use Rattle.td_edges.specs.declared.signals.Signal.{Signal}
use Rattle.td_spans.specs.Signals.{times_from, input_at, inputs_to, gates_from, first_times}
use Rattle.td_spans.specs.declared.times.Times.{Times}
use Rattle.td_spans.specs.Endings.{ends_empty}
use Rattle.td_refutation.specs.Doing.{state_to}
use Rattle.td_refutation.specs.Emptied.{IsEmptied}
use Rattle.td_refutation.specs.Asking.{Asking, asked_in}
use Rattle.td_refutation.specs.Lines.{Step}
use Rattle.td_refutation.specs.Whole.{IsRefuted}
use Rattle.td_refutation.proofs.Questions.{GoesOver, good_goes, refuted_goes}
use Rattle.td_certificate.specs.Accepts.{Shows}

abbrev pub same_pairs : Admitted → List Trit → Admitted
same_pairs admit pins = record admit { pins = pins }

-- the same conditions on pairs with these pins
abbrev pub same_asking : Asking → List Trit → Asking
same_asking asking pins = record { admit = same_pairs asking.admit pins; keep = asking.keep }

module _ (circuit : Numbered) (admit : Admitted) (own cube : List Trit) where
  inputs_same : (inputs n : ℕ) → inputs_to (same_pairs admit own) cube circuit.moments inputs n ≡ inputs_to admit cube circuit.moments inputs n
  inputs_same inputs zero = refl
  inputs_same inputs (suc n) = ap (λ (signals : List Signal). signals ++ input_at admit cube circuit.moments inputs n ∷ []) (inputs_same inputs n)

  times_same : first_times circuit (same_pairs admit own) cube ≡ first_times circuit admit cube
  times_same = ap (λ (signals : List Signal). map times_from (gates_from signals circuit.gates)) (inputs_same (length circuit.netlist.inputs) (length circuit.netlist.inputs))

pub refuted_wider : (given : Setting) (asking : Asking) (own cube : List Trit) (steps : List Step) (bound : ℕ) → IsRefuted given (same_asking asking own) cube steps bound
    → IsRefuted given asking cube steps bound
refuted_wider given asking own cube steps bound =
    refuted_goes given (same_asking asking own) asking cube cube steps bound (λ circuit _.
    record { times = times_same circuit asking.admit own cube; pairs = λ variables clause is. is; keep = λ variables clause is. is })

-- what lines empty of pairs of a cube they empty of others
emptied_wider : (given : Setting) (asking : Asking) (own cube : List Trit) (steps : List Step) → IsEmptied given (same_asking asking own) cube steps → IsEmptied given asking cube steps
emptied_wider given asking own cube steps h =
    let over : GoesOver h.circuit (asked_in h.circuit (same_asking asking own)) (asked_in h.circuit asking) cube cube =
    record { times = times_same h.circuit asking.admit own cube; pairs = λ variables clause is. is; keep = λ variables clause is. is } in
    record {
      circuit = h.circuit;
      of_setting = h.of_setting;
      good = good_goes h.circuit (asked_in h.circuit (same_asking asking own)) (asked_in h.circuit asking) cube cube over steps h.good;
      empty = subst (λ (times : List Times). ends_empty (state_to h.circuit (record { variables = []; begun = false; times = times; clauses = [] }) steps).clauses ≡ true)
          (times_same h.circuit asking.admit own cube) h.empty;
    }

pub shows_wider : (given : Setting) (asking : Asking) (own cube : List Trit) (steps : List Step) (bound : Option ℕ) → Shows given (same_asking asking own) cube steps bound
    → Shows given asking cube steps bound
shows_wider given asking own cube steps None shows = emptied_wider given asking own cube steps shows
shows_wider given asking own cube steps (Some bound) shows = refuted_wider given asking own cube steps bound shows
