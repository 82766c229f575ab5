use Rattle.std.proofs.Common.{◌≡◌, true, take}
use Rattle.std.specs.List.{list_all}
use Rattle.td_certificate.specs.Questions.{is_free}
use Rattle.td_certificate.proofs.question.are_free.Given as goal

abbrev pub invariant-loop-position : goal.invariant-loop-position
invariant-loop-position l = list_all is_free (take l.position l.pins) ≡ true
