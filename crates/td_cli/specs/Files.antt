-- The files that a command reads and writes.
use Rattle.std.specs.Prelude.{ℕ, List, [], ◌∷◌, Option, Some, None}
use Rattle.std.specs.Borrow.{Bor}
use Rattle.td_request.specs.declared.request.Command.{Command}
use Rattle.td_request.specs.declared.request.Command.TheVariants as command
use Rattle.td_cli.specs.declared.outputs.Outputs.{Outputs}

-- the files that a command writes
abbrev pub outputs_of : Command → Outputs
outputs_of (command.Worst search) = record { certificate = search.certificate; dump = search.dump }
outputs_of (command.Sim sim) = record { certificate = None; dump = sim.dump }
outputs_of (command.Join join) = record { certificate = join.certificate; dump = None }
outputs_of other = record { certificate = None; dump = None }

-- the certificates that are joined, in order
abbrev pub part_names : Command → List (List ℕ)
part_names (command.Join asked) = asked.parts
part_names other = []

-- the certificates that a command reads, in order
abbrev pub certificate_names : Command → List (List ℕ)
certificate_names (command.Check asked) = asked.certificate.now ∷ []
certificate_names (command.Join asked) = asked.parts
certificate_names other = []

-- the file of conditions that a command reads
abbrev pub keep_file : Command → Option (Bor (List ℕ))
keep_file (command.Worst search) = search.question.keep_file
keep_file (command.Parts asked) = asked.question.keep_file
keep_file (command.Join asked) = asked.question.keep_file
keep_file other = None
