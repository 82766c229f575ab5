use Rattle.td_files.proofs.FirstFiles.{IsFrom}
use Rattle.td_files.proofs.memory_files.found.Given as goal

-- none of the files so far has the name
abbrev pub invariant-loop-file : goal.invariant-loop-file
invariant-loop-file l = IsFrom l.files l.file-index l.name
