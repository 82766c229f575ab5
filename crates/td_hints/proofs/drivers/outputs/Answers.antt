use Rattle.std.proofs.Common.{◌≡◌, length, ap, sym, ◌∙◌, map}
use Rattle.std.proofs.lemmas.List.{length-map}
use Rattle.td_syntax.specs.Views.{terminal_view}
use Rattle.td_syntax.specs.Grammar.{output_count}
use Rattle.td_netlist.proofs.Terminals.{front_of}
use Rattle.td_hints.proofs.drivers.outputs.Goals as goal

pub returns : goal.returns
returns c =
    let ts = c.args.terminals.now in
    let same : output_count c.args.kind (length ts) ≡ output_count c.args.kind (length (map terminal_view ts)) = ap (λ (n : _). output_count c.args.kind n) (sym (length-map ts terminal_view)) in
    rw (c.split_at.ensures.front, c.min.ensures) (front_of terminal_view (output_count c.args.kind (length ts)) ts c.output_count-count.result _ (c.output_count-count.ensures ∙ same) same)
