-- Internal: what went out by a writer of the system.
use Rattle.std.specs.Prelude.{ℕ, List, Option}
use Rattle.td_text.specs.Output.{Output}
use Rattle.td_files.specs.declared.real_files.RealWriter.{RealWriter}
use Rattle.td_files.specs.declared.real_files.RealWriter.TheVariants.{File, Output as Standard}

-- what its writer holds, where that is known
abbrev pub output_of : {F P : Type 0} → (F → Option (List ℕ)) → (P → Option (List ℕ)) → RealWriter F P → Output
output_of of_file of_standard (File file) = record { sent = of_file file.sink.writer; failures = file.sink.failures }
output_of of_file of_standard (Standard sink) = record { sent = of_standard sink.writer; failures = sink.failures }
