use Rattle.std.proofs.Common.{◌≡◌, ◌<◌, ◌∙◌, List, length, refl, sym, ap, subst, arith, Some, slice_get, true, false}
use Rattle.std.proofs.lemmas.List.{length-map}
use Rattle.td_gates.proofs.Places.{some-same}
use Rattle.td_nets.specs.Netlist.{Name}
use Rattle.td_nets.specs.Views.{name_of}
use Rattle.td_circuit.specs.Numbering.{setting}
use Rattle.td_circuit.specs.Settings.{Setting}
use Rattle.td_source.specs.Each.{alone}
use Rattle.td_source.proofs.OneOutput.{named_there}
use Rattle.td_certificate.specs.Accepts.{are_fit}
use Rattle.td_question.specs.Keeping.{count_nets}
use Rattle.td_answer.specs.Columns.{IsOnlyOutput, pairs_of, where_settles}
use Rattle.td_answer.specs.Hazards.{IsTrueHazard, settles_at}
use Rattle.td_answer.specs.Names.{label}
use Rattle.td_answer.specs.Outlooks.{IsTrueOutlook}
use Rattle.td_answer.proofs.hazards.both_of.Goals as goal

pub output_number-requires : goal.output_number-requires
output_number-requires g c =
    let within : c.args.place < length c.names.result.now = omega (arith, length-map c.names.result.now name_of, ap (λ (ns : List Name). length ns) c.names.ensures, c.requires.place) in
    let at = subst (λ (ns : List Name). slice_get ns c.args.place ≡ Some (name_of c.index-names-place.result)) c.names.ensures
    (named_there c.names.result.now c.args.place c.index-names-place.result within c.index-names-place.is) in
    let asked = c.in_ok-ask.ensures.asked (name_of c.index-names-place.result) at in
    rw c.circuit-circuit.ensures (ap (λ (s : Setting). length s.netlist.outputs) asked)

pub hazard_at-requires-clause-held : goal.hazard_at-requires-clause-held
hazard_at-requires-clause-held g c κs lives =
    let within : c.args.place < length c.names.result.now = omega (arith, length-map c.names.result.now name_of, ap (λ (ns : List Name). length ns) c.names.ensures, c.requires.place) in
    let at = subst (λ (ns : List Name). slice_get ns c.args.place ≡ Some (name_of c.index-names-place.result)) c.names.ensures
    (named_there c.names.result.now c.args.place c.index-names-place.result within c.index-names-place.is) in
    let asked = c.in_ok-ask.ensures.asked (name_of c.index-names-place.result) at in
    rw c.circuit-circuit.ensures (c.requires.held ∙ ap (λ (s : Setting). length s.netlist.inputs) (sym asked))

pub hazard_at-requires-clause-fit : goal.hazard_at-requires-clause-fit
hazard_at-requires-clause-fit g c κs lives =
    let within : c.args.place < length c.names.result.now = omega (arith, length-map c.names.result.now name_of, ap (λ (ns : List Name). length ns) c.names.ensures, c.requires.place) in
    let at = subst (λ (ns : List Name). slice_get ns c.args.place ≡ Some (name_of c.index-names-place.result)) c.names.ensures
    (named_there c.names.result.now c.args.place c.index-names-place.result within c.index-names-place.is) in
    let asked = c.in_ok-ask.ensures.asked (name_of c.index-names-place.result) at in
    rw c.circuit-circuit.ensures (subst (λ (s : Setting). are_fit (count_nets s.netlist) c.args.inquiry.keep.now ≡ true) (sym asked) c.requires.fit)

pub hazard_at-requires-2-clause-held : goal.hazard_at-requires-2-clause-held
hazard_at-requires-2-clause-held g c κs lives =
    let within : c.args.place < length c.names.result.now = omega (arith, length-map c.names.result.now name_of, ap (λ (ns : List Name). length ns) c.names.ensures, c.requires.place) in
    let at = subst (λ (ns : List Name). slice_get ns c.args.place ≡ Some (name_of c.index-names-place.result)) c.names.ensures
    (named_there c.names.result.now c.args.place c.index-names-place.result within c.index-names-place.is) in
    let asked = c.in_ok-ask.ensures.asked (name_of c.index-names-place.result) at in
    rw c.circuit-circuit.ensures (c.requires.held ∙ ap (λ (s : Setting). length s.netlist.inputs) (sym asked))

pub hazard_at-requires-2-clause-fit : goal.hazard_at-requires-2-clause-fit
hazard_at-requires-2-clause-fit g c κs lives =
    let within : c.args.place < length c.names.result.now = omega (arith, length-map c.names.result.now name_of, ap (λ (ns : List Name). length ns) c.names.ensures, c.requires.place) in
    let at = subst (λ (ns : List Name). slice_get ns c.args.place ≡ Some (name_of c.index-names-place.result)) c.names.ensures
    (named_there c.names.result.now c.args.place c.index-names-place.result within c.index-names-place.is) in
    let asked = c.in_ok-ask.ensures.asked (name_of c.index-names-place.result) at in
    rw c.circuit-circuit.ensures (subst (λ (s : Setting). are_fit (count_nets s.netlist) c.args.inquiry.keep.now ≡ true) (sym asked) c.requires.fit)

pub hazard_at-requires-clause-outlook : goal.hazard_at-requires-clause-outlook
hazard_at-requires-clause-outlook g c κs lives =
    let within : c.args.place < length c.names.result.now = omega (arith, length-map c.names.result.now name_of, ap (λ (ns : List Name). length ns) c.names.ensures, c.requires.place) in
    let at = subst (λ (ns : List Name). slice_get ns c.args.place ≡ Some (name_of c.index-names-place.result)) c.names.ensures
    (named_there c.names.result.now c.args.place c.index-names-place.result within c.index-names-place.is) in
    let asked = c.in_ok-ask.ensures.asked (name_of c.index-names-place.result) at in
    rw c.circuit-circuit.ensures (subst (λ (s : Setting). IsTrueOutlook s c.args.inquiry.admit.now c.args.outlook) (sym asked)
    (c.requires.outlook (name_of c.index-names-place.result) at))

pub hazard_at-requires-2-clause-outlook : goal.hazard_at-requires-2-clause-outlook
hazard_at-requires-2-clause-outlook g c κs lives =
    let within : c.args.place < length c.names.result.now = omega (arith, length-map c.names.result.now name_of, ap (λ (ns : List Name). length ns) c.names.ensures, c.requires.place) in
    let at = subst (λ (ns : List Name). slice_get ns c.args.place ≡ Some (name_of c.index-names-place.result)) c.names.ensures
    (named_there c.names.result.now c.args.place c.index-names-place.result within c.index-names-place.is) in
    let asked = c.in_ok-ask.ensures.asked (name_of c.index-names-place.result) at in
    rw c.circuit-circuit.ensures (subst (λ (s : Setting). IsTrueOutlook s c.args.inquiry.admit.now c.args.outlook) (sym asked)
    (c.requires.outlook (name_of c.index-names-place.result) at))

pub returns-clause-rows : goal.returns-clause-rows
returns-clause-rows g c = λ output stands.
    let within : c.args.place < length c.names.result.now = omega (arith, length-map c.names.result.now name_of, ap (λ (ns : List Name). length ns) c.names.ensures, c.requires.place) in
    let at = subst (λ (ns : List Name). slice_get ns c.args.place ≡ Some (name_of c.index-names-place.result)) c.names.ensures
    (named_there c.names.result.now c.args.place c.index-names-place.result within c.index-names-place.is) in
    let asked = c.in_ok-ask.ensures.asked (name_of c.index-names-place.result) at in
    let within-2 : c.args.place < length c.names-2.result.now = omega (arith, length-map c.names-2.result.now name_of, ap (λ (ns : List Name). length ns) c.names-2.ensures, c.requires.place) in
    let at-2 = subst (λ (ns : List Name). slice_get ns c.args.place ≡ Some (name_of c.index-names-place-2.result)) c.names-2.ensures
    (named_there c.names-2.result.now c.args.place c.index-names-place-2.result within-2 c.index-names-place-2.is) in
    let same = some-same (name_of c.index-names-place.result) output (sym at ∙ stands) in
    let same-2 = some-same (name_of c.index-names-place-2.result) output (sym at-2 ∙ stands) in
    let there = asked ∙ ap (alone (setting c.args.outputs.now.whole)) same in
    let net = c.output_number.result in
    let is_output : IsOnlyOutput (alone (setting c.args.outputs.now.whole) output).netlist net =
    subst (λ (s : Setting). IsOnlyOutput s.netlist net) there (rw c.circuit-circuit.ensures at c.output_number.ensures) in (
      record {
        named = c.in_ok-low_output.ensures ∙ ap label same;
        level = refl;
        net = net;
        output = is_output;
        says = subst (λ (s : Setting). IsTrueHazard s (where_settles (pairs_of c.args.inquiry) net (settles_at false)) c.in_ok-low.low) there
            (rw c.circuit-circuit.ensures at c.in_ok-low.ensures.hazard);
      },
      record {
        named = c.in_ok-high_output.ensures ∙ ap label same-2;
        level = refl;
        net = net;
        output = is_output;
        says = subst (λ (s : Setting). IsTrueHazard s (where_settles (pairs_of c.args.inquiry) net (settles_at true)) c.in_ok-high.high) there
            (rw c.circuit-circuit.ensures at c.in_ok-high.ensures.hazard);
      },
    )
