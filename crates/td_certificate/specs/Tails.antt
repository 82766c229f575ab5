-- Internal: the later parts of what is read in one, after the earlier ones.
use Rattle.std.specs.Prelude.{ℕ, List, Bool, Ok}
use Rattle.td_domain.specs.declared.cubes.Trit.{Trit}
use Rattle.td_domain.specs.Admits.{Admitted}
use Rattle.td_certificate.specs.declared.certificate.Certificate.{Certificate}
use Rattle.td_certificate.specs.declared.question.Version.{Version}
use Rattle.td_certificate.specs.Questions.{Question}
use Rattle.td_domain.specs.Cubes.{weave}
use Rattle.td_certificate.specs.Reading.{Reading, ◌>>=◌, most_flips, flips_at, with_pins, claim_at, nodes_at, leaves_in, with_fields}

-- the line of the flips, after the rows
abbrev pub limited_at : Version → List Trit → List Trit → List Bool → List ℕ → Reading Admitted
limited_at version firsts seconds held bytes = do
  flips ← flips_at (most_flips version (weave firsts seconds) held) bytes
  Ok (with_pins firsts seconds held flips.0, flips.1)

-- the lines after those of the question
abbrev pub answer_at : Version → ℕ → ℕ → Question → List ℕ → Reading Certificate
answer_at version inputs gates question bytes = do
  claim ← claim_at version inputs bytes
  tree ← nodes_at (leaves_in version) 1 claim.1
  Ok (with_fields gates question claim.0 tree.0, tree.1)
