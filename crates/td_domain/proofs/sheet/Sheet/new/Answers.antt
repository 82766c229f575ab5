use Rattle.std.proofs.Common.{◌∙◌, arith}
use Rattle.td_circuit.specs.Numbering.{nets}
use Rattle.td_circuit.proofs.Nets.{numbers-below}
use Rattle.td_domain.proofs.sheet.Sheet.new.Goals as goal

pub invariant_of-result : goal.invariant_of-result
invariant_of-result g c = (
  rw c.new.ensures.items tt,
  rw (c.in_ok-from_slice.ensures.items, c.outputs.ensures, c.in_ok-signals.ensures.all)
      (numbers-below (nets c.args.circuit.now) c.args.circuit.now.outputs _ c.in_ok-signals.ensures.numbering.outputs),
  omega (arith, c.in_ok-vec.ensures.len, c.in_ok-vec.field-0.ok, c.net_count.ensures, c.in_ok-signals.ensures.all),
)

pub returns-clause-sheet : goal.returns-clause-sheet
returns-clause-sheet g c = record {
  numbering = c.in_ok-signals.ensures.numbering;
  fit = c.in_ok-signals.ensures.fit;
  page = record {
    positions = rw c.in_ok-copy.ensures c.requires;
    count = c.in_ok-signals.ensures.all;
    front = rw c.in_ok-copy.ensures c.in_ok-signals.ensures.front;
  };
  wider = rw c.new.ensures.items tt;
  outputs = c.in_ok-from_slice.ensures.items ∙ c.outputs.ensures;
  cones = c.in_ok-no_cones.ensures;
}
