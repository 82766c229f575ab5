use Rattle.std.proofs.Common.{◌≡◌, ℕ, Bool, false, List, length, get_or, sym, ap, ◌∙◌, arith}
use Rattle.std.specs.Prelude.{slice_get, Some}
use Rattle.std.proofs.lemmas.List.{length-set}
use Rattle.std.proofs.lemmas.Option.{slice_get-get_or}
use Rattle.td_domain.specs.declared.cubes.Trit.{Trit}
use Rattle.td_search.specs.Representatives.{first_bit, second_bit}
use Rattle.td_search.proofs.Bits.{next_bits, write_more}
use Rattle.td_search.proofs.representatives.write_representative.Goals as goal

pub loop-i-preserved : goal.loop-i-preserved
loop-i-preserved c =
    let cube : List Trit = c.args.cube.now in
    let held : List Bool = c.args.admit.now.held in
    let items : c.held-held-items.result.now ≡ held = c.held-held-items.ensures in
    let i : ℕ = c.loop-i.i in
    let was = c.loop-i.invariant in
    let count : length c.held-held-items.result.now ≡ length held = ap length items in
    let test = c.loop-i-test.true in
    let h : Bool = get_or c.held-held-items.result.now i false in
    let at : slice_get held i ≡ Some h = ap (λ (l : List Bool). slice_get l i) (sym items) ∙ slice_get-get_or c.held-held-items.result.now i false test in
    let long = was.long in
    let wide = was.wide in
    record {
      first = write_more c.loop-i.first i c.first_bit.result _ _ _ (omega arith)
          (next_bits first_bit c.loop-i.left c.left_after-left.result held cube i h c.trit-before.result c.trit-after.result c.differs-differ.result c.first_bit.result
          at c.trit-before.ensures c.trit-after.ensures c.differs-differ.ensures c.first_bit.ensures c.left_after-left.ensures) was.first;
      second = write_more c.loop-i.second i c.second_bit.result _ _ _ (omega arith)
          (next_bits second_bit c.loop-i.left c.left_after-left.result held cube i h c.trit-before.result c.trit-after.result c.differs-differ.result c.second_bit.result
          at c.trit-before.ensures c.trit-after.ensures c.differs-differ.ensures c.second_bit.ensures c.left_after-left.ensures) was.second;
      long = length-set c.loop-i.first i c.first_bit.result ∙ long;
      wide = length-set c.loop-i.second i c.second_bit.result ∙ wide;
    }
