use Rattle.td_circuit.specs.Numbering.{setting}
use Rattle.td_answer.proofs.Unkept.{support_among}
use Rattle.td_answer.proofs.worst.certificate_of.Goals as goal

pub open_certificate-kept-requires-clause-shown : goal.open_certificate-kept-requires-clause-shown
open_certificate-kept-requires-clause-shown c =
    support_among (setting c.args.circuit.now) c.args.admit c.args.telling.told.keep.items c.requires.bare c.args.found.support c.requires.shown
