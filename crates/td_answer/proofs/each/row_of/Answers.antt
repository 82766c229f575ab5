use Rattle.std.proofs.Common.{◌≡◌, ◌<◌, ◌∙◌, List, length, sym, ap, subst, arith, Some, slice_get, true}
use Rattle.std.proofs.lemmas.List.{length-map}
use Rattle.td_gates.proofs.Places.{some-same}
use Rattle.td_nets.specs.Netlist.{Name}
use Rattle.td_nets.specs.Views.{name_of}
use Rattle.td_circuit.specs.Numbering.{setting}
use Rattle.td_circuit.specs.Settings.{Setting}
use Rattle.td_source.specs.Each.{alone}
use Rattle.td_source.proofs.OneOutput.{named_there}
use Rattle.td_certificate.specs.Accepts.{are_fit}
use Rattle.td_question.specs.Keeping.{count_nets}
use Rattle.td_answer.specs.Columns.{HasChanges, pairs_of}
use Rattle.td_answer.specs.Names.{label}
use Rattle.td_answer.specs.Sightings.{IsTrueSighting}
use Rattle.td_answer.specs.Outlooks.{IsTrueOutlook}
use Rattle.td_answer.proofs.RowStanding.{says_standing}
use Rattle.td_answer.proofs.each.row_of.Goals as goal

pub found_in-requires-clause-held : goal.found_in-requires-clause-held
found_in-requires-clause-held g c κs lives =
    let within : c.args.place < length c.names.result.now = omega (arith, length-map c.names.result.now name_of, ap (λ (ns : List Name). length ns) c.names.ensures, c.requires.place) in
    let at = subst (λ (ns : List Name). slice_get ns c.args.place ≡ Some (name_of c.index-names-place.result)) c.names.ensures
    (named_there c.names.result.now c.args.place c.index-names-place.result within c.index-names-place.is) in
    let asked = c.in_ok-ask.ensures.asked (name_of c.index-names-place.result) at in
    rw c.circuit-circuit.ensures (c.requires.held ∙ ap (λ (s : Setting). length s.netlist.inputs) (sym asked))

pub found_in-requires-clause-fit : goal.found_in-requires-clause-fit
found_in-requires-clause-fit g c κs lives =
    let within : c.args.place < length c.names.result.now = omega (arith, length-map c.names.result.now name_of, ap (λ (ns : List Name). length ns) c.names.ensures, c.requires.place) in
    let at = subst (λ (ns : List Name). slice_get ns c.args.place ≡ Some (name_of c.index-names-place.result)) c.names.ensures
    (named_there c.names.result.now c.args.place c.index-names-place.result within c.index-names-place.is) in
    let asked = c.in_ok-ask.ensures.asked (name_of c.index-names-place.result) at in
    rw c.circuit-circuit.ensures (subst (λ (s : Setting). are_fit (count_nets s.netlist) c.args.inquiry.keep.now ≡ true) (sym asked) c.requires.fit)

pub found_in-requires-clause-outlook : goal.found_in-requires-clause-outlook
found_in-requires-clause-outlook g c κs lives =
    let within : c.args.place < length c.names.result.now = omega (arith, length-map c.names.result.now name_of, ap (λ (ns : List Name). length ns) c.names.ensures, c.requires.place) in
    let at = subst (λ (ns : List Name). slice_get ns c.args.place ≡ Some (name_of c.index-names-place.result)) c.names.ensures
    (named_there c.names.result.now c.args.place c.index-names-place.result within c.index-names-place.is) in
    let asked = c.in_ok-ask.ensures.asked (name_of c.index-names-place.result) at in
    rw c.circuit-circuit.ensures (subst (λ (s : Setting). IsTrueOutlook s c.args.inquiry.admit.now c.args.outlook) (sym asked)
    (c.requires.outlook (name_of c.index-names-place.result) at))

pub changes_in-requires-clause-held : goal.changes_in-requires-clause-held
changes_in-requires-clause-held g c κs lives =
    let within : c.args.place < length c.names.result.now = omega (arith, length-map c.names.result.now name_of, ap (λ (ns : List Name). length ns) c.names.ensures, c.requires.place) in
    let at = subst (λ (ns : List Name). slice_get ns c.args.place ≡ Some (name_of c.index-names-place.result)) c.names.ensures
    (named_there c.names.result.now c.args.place c.index-names-place.result within c.index-names-place.is) in
    let asked = c.in_ok-ask.ensures.asked (name_of c.index-names-place.result) at in
    rw c.circuit-circuit.ensures (c.requires.held ∙ ap (λ (s : Setting). length s.netlist.inputs) (sym asked))

pub changes_in-requires-clause-fit : goal.changes_in-requires-clause-fit
changes_in-requires-clause-fit g c κs lives =
    let within : c.args.place < length c.names.result.now = omega (arith, length-map c.names.result.now name_of, ap (λ (ns : List Name). length ns) c.names.ensures, c.requires.place) in
    let at = subst (λ (ns : List Name). slice_get ns c.args.place ≡ Some (name_of c.index-names-place.result)) c.names.ensures
    (named_there c.names.result.now c.args.place c.index-names-place.result within c.index-names-place.is) in
    let asked = c.in_ok-ask.ensures.asked (name_of c.index-names-place.result) at in
    rw c.circuit-circuit.ensures (subst (λ (s : Setting). are_fit (count_nets s.netlist) c.args.inquiry.keep.now ≡ true) (sym asked) c.requires.fit)

pub changes_in-requires-clause-output : goal.changes_in-requires-clause-output
changes_in-requires-clause-output g c κs lives =
    let within : c.args.place < length c.names.result.now = omega (arith, length-map c.names.result.now name_of, ap (λ (ns : List Name). length ns) c.names.ensures, c.requires.place) in
    let at = subst (λ (ns : List Name). slice_get ns c.args.place ≡ Some (name_of c.index-names-place.result)) c.names.ensures
    (named_there c.names.result.now c.args.place c.index-names-place.result within c.index-names-place.is) in
    let asked = c.in_ok-ask.ensures.asked (name_of c.index-names-place.result) at in
    rw c.circuit-circuit.ensures (ap (λ (s : Setting). length s.netlist.outputs) asked)

pub changes_in-requires-clause-outlook : goal.changes_in-requires-clause-outlook
changes_in-requires-clause-outlook g c κs lives =
    let within : c.args.place < length c.names.result.now = omega (arith, length-map c.names.result.now name_of, ap (λ (ns : List Name). length ns) c.names.ensures, c.requires.place) in
    let at = subst (λ (ns : List Name). slice_get ns c.args.place ≡ Some (name_of c.index-names-place.result)) c.names.ensures
    (named_there c.names.result.now c.args.place c.index-names-place.result within c.index-names-place.is) in
    let asked = c.in_ok-ask.ensures.asked (name_of c.index-names-place.result) at in
    rw c.circuit-circuit.ensures (subst (λ (s : Setting). IsTrueOutlook s c.args.inquiry.admit.now c.args.outlook) (sym asked)
    (c.requires.outlook (name_of c.index-names-place.result) at))

pub returns-clause-row : goal.returns-clause-row
returns-clause-row g c = λ output stands.
    let within : c.args.place < length c.names.result.now = omega (arith, length-map c.names.result.now name_of, ap (λ (ns : List Name). length ns) c.names.ensures, c.requires.place) in
    let at = subst (λ (ns : List Name). slice_get ns c.args.place ≡ Some (name_of c.index-names-place.result)) c.names.ensures
    (named_there c.names.result.now c.args.place c.index-names-place.result within c.index-names-place.is) in
    let asked = c.in_ok-ask.ensures.asked (name_of c.index-names-place.result) at in
    let same = some-same (name_of c.index-names-place.result) output (sym at ∙ stands) in
    let there = asked ∙ ap (alone (setting c.args.outputs.now.whole)) same in
    let asks = c.args.inquiry.search.now.shown.vectors in
    let seen = subst (λ (s : Setting). IsTrueSighting asks s (pairs_of c.args.inquiry) c.in_ok-found.field-0) there
    (rw c.circuit-circuit.ensures at c.in_ok-found.ensures.found) in
    let figure = seen.0 in
    record {
      named = c.in_ok-output.ensures ∙ ap label same;
      figures = record { figure = figure; bound = (c.requires.outlook output stands).bound };
      pair = seen.1;
      changes = subst (λ (s : Setting). HasChanges c.args.inquiry.search.now.table s (pairs_of c.args.inquiry) c.in_ok-changes.changes) there
          (rw c.circuit-circuit.ensures at c.in_ok-changes.ensures.changes);
      by_figures = c.requirement_of-required.ensures;
      stands = rw c.requirement_of-required.ensures
          (says_standing (alone (setting c.args.outputs.now.whole) output) (pairs_of c.args.inquiry) c.args.inquiry.search.now.required c.in_ok-found.field-0.found figure);
    }
