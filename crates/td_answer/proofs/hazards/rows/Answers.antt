use Rattle.std.proofs.Common.{◌≡◌, ◌<◌, ◌∙◌, ◌++◌, ◌∷◌, [], List, length, get_or, sym, ap, subst, arith, append_assoc, None, Some, slice_get, true, false}
use Rattle.std.proofs.lemmas.List.{length-map}
use Rattle.std.proofs.lemmas.Slice.Zip.{AllZip-long}
use Rattle.td_gates.proofs.Places.{slice_get-within}
use Rattle.td_nets.specs.Netlist.{Name}
use Rattle.td_nets.specs.Views.{name_of}
use Rattle.td_circuit.specs.Numbering.{Numbered, setting}
use Rattle.td_lines.specs.declared.line.HazardRow.{HazardRow}
use Rattle.td_answer.specs.Columns.{pairs_of}
use Rattle.td_source.specs.Each.{alone}
use Rattle.td_answer.specs.Hazards.{IsTrueHazardRow}
use Rattle.td_answer.specs.Outlooks.{IsTrueOutlook}
use Rattle.td_answer.specs.declared.outlook.Outlook.{Outlook}
use Rattle.td_answer.proofs.Zips.{zip_read}
use Rattle.td_answer.proofs.Hazardous.{rows_next}
use Rattle.td_answer.proofs.hazards.rows.Goals as goal

pub bounds-outlooks-place : goal.bounds-outlooks-place
bounds-outlooks-place g c =
    let whole = c.args.outputs.now.whole in
    omega (
      arith,
      length-map c.names-count.result.now name_of,
      ap (λ (ns : List Name). length ns) c.names-count.ensures,
      AllZip-long (λ output. IsTrueOutlook (alone (setting whole) output) c.args.inquiry.admit.now) whole.netlist.outputs c.args.outlooks.now c.requires.outlooks,
      c.loop-place-test.true,
    )

pub both_of-requires-clause-outlook : goal.both_of-requires-clause-outlook
both_of-requires-clause-outlook g c κs lives =
    let whole = c.args.outputs.now.whole in
    let less : c.loop-place.place < length c.args.outlooks.now = omega (
      arith,
      length-map c.names-count.result.now name_of,
      ap (λ (ns : List Name). length ns) c.names-count.ensures,
      AllZip-long (λ output. IsTrueOutlook (alone (setting whole) output) c.args.inquiry.admit.now) whole.netlist.outputs c.args.outlooks.now c.requires.outlooks,
      c.loop-place-test.true,
    ) in
    let it = c.index-outlooks-place.result in
    subst (λ (now : Numbered). (output : Name) → slice_get now.netlist.outputs c.loop-place.place ≡ Some output
    → IsTrueOutlook (alone (setting now) output) c.args.inquiry.admit.now it) (sym c.loop-place.invariant.0)
    (λ output stands. subst (λ (o : Outlook). IsTrueOutlook (alone (setting whole) output) c.args.inquiry.admit.now o) (sym c.index-outlooks-place.is)
    (zip_read (λ output. IsTrueOutlook (alone (setting whole) output) c.args.inquiry.admit.now) whole.netlist.outputs c.args.outlooks.now c.requires.outlooks
    c.loop-place.place it less output stands))

pub loop-place-preserved : goal.loop-place-preserved
loop-place-preserved g c =
    let less : c.loop-place.place < length c.args.outputs.now.whole.netlist.outputs =
    omega (arith, length-map c.names-count.result.now name_of, ap (λ (ns : List Name). length ns) c.names-count.ensures, c.loop-place-test.true) in
    let there = slice_get-within c.args.outputs.now.whole.netlist.outputs c.loop-place.place less in
    let both = subst (λ (whole : Numbered). slice_get whole.netlist.outputs c.loop-place.place ≡ Some there.0
    → IsTrueHazardRow (setting whole) (pairs_of c.args.inquiry) (there.0, false) c.in_ok-low.field-0.low
    × IsTrueHazardRow (setting whole) (pairs_of c.args.inquiry) (there.0, true) c.in_ok-low.field-0.high)
    c.loop-place.invariant.0 (c.in_ok-low.ensures.rows there.0) there.1 in (
      c.in_ok-low.ensures.whole ∙ c.loop-place.invariant.0,
      rows_next (setting c.args.outputs.now.whole) (pairs_of c.args.inquiry) c.args.outputs.now.whole.netlist.outputs c.loop-place.rows.items _
          c.loop-place.place there.0 c.in_ok-low.field-0.low c.in_ok-low.field-0.high there.1
          (c.in_ok-push-2.ensures.items ∙ ap (λ (rows : List HazardRow). rows ++ c.in_ok-low.field-0.high ∷ []) c.in_ok-push.ensures.items
          ∙ append_assoc c.loop-place.rows.items (c.in_ok-low.field-0.low ∷ []) (c.in_ok-low.field-0.high ∷ []))
          c.loop-place.invariant.1 both.0 both.1,
    )
