use Rattle.std.proofs.Common.{◌≡◌, ◌<◌, ◌∙◌, ◌∷◌, [], append-nil, List, length, get_or, sym, ap, subst, arith, None, Some, slice_get}
use Rattle.std.proofs.lemmas.List.{length-map}
use Rattle.std.proofs.lemmas.Slice.Zip.{AllZip-long}
use Rattle.td_gates.proofs.Places.{slice_get-within}
use Rattle.td_nets.specs.Netlist.{Name}
use Rattle.td_nets.specs.Views.{name_of}
use Rattle.td_circuit.specs.Numbering.{Numbered, setting}
use Rattle.td_source.specs.Each.{alone}
use Rattle.td_lines.specs.declared.line.Row.{Row}
use Rattle.td_answer.specs.Columns.{pairs_of}
use Rattle.td_answer.specs.Outlooks.{IsTrueOutlook}
use Rattle.td_answer.specs.declared.outlook.Outlook.{Outlook}
use Rattle.td_answer.specs.Tables.{IsTrueRow}
use Rattle.td_answer.proofs.Zips.{zip_next, zip_read}
use Rattle.td_answer.proofs.each.rows.Goals as goal

pub bounds-outlooks-place : goal.bounds-outlooks-place
bounds-outlooks-place g c =
    let whole = c.args.outputs.now.whole in
    omega (
      arith,
      length-map c.names-count.result.now name_of,
      ap (λ (ns : List Name). length ns) c.names-count.ensures,
      AllZip-long (λ output. IsTrueOutlook (alone (setting whole) output) c.args.inquiry.admit.now) whole.netlist.outputs c.args.outlooks.now c.requires.outlooks,
      c.loop-place-test.true,
    )

pub row_of-requires-clause-outlook : goal.row_of-requires-clause-outlook
row_of-requires-clause-outlook g c κs lives =
    let whole = c.args.outputs.now.whole in
    let less : c.loop-place.place < length c.args.outlooks.now = omega (
      arith,
      length-map c.names-count.result.now name_of,
      ap (λ (ns : List Name). length ns) c.names-count.ensures,
      AllZip-long (λ output. IsTrueOutlook (alone (setting whole) output) c.args.inquiry.admit.now) whole.netlist.outputs c.args.outlooks.now c.requires.outlooks,
      c.loop-place-test.true,
    ) in
    let it = c.index-outlooks-place.result in
    subst (λ (now : Numbered). (output : Name) → slice_get now.netlist.outputs c.loop-place.place ≡ Some output
    → IsTrueOutlook (alone (setting now) output) c.args.inquiry.admit.now it) (sym c.loop-place.invariant.0)
    (λ output stands. subst (λ (o : Outlook). IsTrueOutlook (alone (setting whole) output) c.args.inquiry.admit.now o) (sym c.index-outlooks-place.is)
    (zip_read (λ output. IsTrueOutlook (alone (setting whole) output) c.args.inquiry.admit.now) whole.netlist.outputs c.args.outlooks.now c.requires.outlooks
    c.loop-place.place it less output stands))

pub loop-place-preserved : goal.loop-place-preserved
loop-place-preserved g c =
    let outputs = c.args.outputs.now.whole.netlist.outputs in
    let less : c.loop-place.place < length c.args.outputs.now.whole.netlist.outputs =
    omega (arith, length-map c.names-count.result.now name_of, ap (λ (ns : List Name). length ns) c.names-count.ensures, c.loop-place-test.true) in
    let there = slice_get-within c.args.outputs.now.whole.netlist.outputs c.loop-place.place less in
    let row = subst (λ (whole : Numbered). slice_get whole.netlist.outputs c.loop-place.place ≡ Some there.0 → IsTrueRow (setting whole) (pairs_of c.args.inquiry) c.args.inquiry.search.now there.0 c.in_ok-row.row)
    c.loop-place.invariant.0 (c.in_ok-row.ensures.row there.0) there.1 in (
      c.in_ok-row.ensures.whole ∙ c.loop-place.invariant.0,
      rw c.in_ok-push.ensures.items (zip_next (IsTrueRow (setting c.args.outputs.now.whole) (pairs_of c.args.inquiry) c.args.inquiry.search.now) c.args.outputs.now.whole.netlist.outputs c.loop-place.rows.items
          c.loop-place.place there.0 c.in_ok-row.row there.1 c.loop-place.invariant.1 row),
      λ asked. g.met.W.Watch.reported_both asked c.args.watch.now c.tell.new.watch c.found.new.self
          (g.met.W.Watch.reported_both asked c.args.watch.now c.loop-place.watch c.tell.new.watch (c.loop-place.invariant.2 asked) (c.tell.ensures.reported asked))
          (c.found.ensures.reported asked),
      rw c.in_ok-push.ensures.items (g.met.W.TableWatch.heard_more c.loop-place.rows.items (c.in_ok-row.row ∷ []) c.args.watch.now c.tell.new.watch c.found.new.self
          (subst (λ (rows : List Row). g.W.TableWatch.heard rows c.args.watch.now c.tell.new.watch) (append-nil c.loop-place.rows.items)
          (g.met.W.TableWatch.heard_more c.loop-place.rows.items [] c.args.watch.now c.loop-place.watch c.tell.new.watch c.loop-place.invariant.3 c.tell.ensures.heard))
          c.found.ensures.heard),
    )

pub returns-in_err-row-clause-reported : goal.returns-in_err-row-clause-reported
returns-in_err-row-clause-reported g c = λ asked.
    g.met.W.Watch.reported_both asked c.args.watch.now c.loop-place.watch c.tell.new.watch (c.loop-place.invariant.2 asked) (c.tell.ensures.reported asked)

pub returns-in_err-push-clause-reported : goal.returns-in_err-push-clause-reported
returns-in_err-push-clause-reported g c = λ asked.
    g.met.W.Watch.reported_both asked c.args.watch.now c.tell.new.watch c.found.new.self
    (g.met.W.Watch.reported_both asked c.args.watch.now c.loop-place.watch c.tell.new.watch (c.loop-place.invariant.2 asked) (c.tell.ensures.reported asked))
    (c.found.ensures.reported asked)
