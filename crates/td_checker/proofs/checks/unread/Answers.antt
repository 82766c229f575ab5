use Rattle.std.proofs.Common.{◌≡◌, ◌∙◌, true, false, sym}
use Rattle.td_checker.proofs.Texts.{unread_source, unread_certificate}
use Rattle.td_checker.proofs.checks.unread.Goals as goal

pub returns-in-Ok : goal.returns-in-Ok
returns-in-Ok c = λ text is.
    unread_certificate c.args.netlist.now c.args.reading.now text c.in-Ok._whole.circuit.netlist _ c.args.fault c.in-Ok.ensures.means c.in-Ok.ensures.acyclic
    c.in-Ok.ensures.outputs is

pub returns : goal.returns
returns c = λ text is.
    rw c.from.ensures (unread_source c.args.netlist.now c.args.reading.now text c.args.fault c.in-Err.source is
    (λ of_memory. (let no : true ≡ false = sym (c.is_memory.ensures.1 of_memory) ∙ c.if-is_memory.false in absurd cc)) c.in-Err.ensures.fault)
