use Rattle.std.proofs.Common.{◌≡◌, drop}
use Rattle.td_syntax.specs.declared.attribute.Place.TheVariants.{Plain}
use Rattle.td_syntax.specs.Lexical.{end_behind}
use Rattle.td_syntax.proofs.Attributes.{later}
use Rattle.td_syntax.proofs.attribute.attribute_len.Given as goal

abbrev pub invariant-loop-i : goal.invariant-loop-i
invariant-loop-i l = later l.i (end_behind l.place (drop l.i l.text)) ≡ end_behind Plain l.text
