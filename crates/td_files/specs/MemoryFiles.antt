-- Files in memory.
use Rattle.std.proofs.Common.{◌≡◌, ◌<◌, ◌≤◌, ◌⊎◌, ◌∙◌, ℕ, List, [], ◌++◌, length, map, find, option_map, bytes_eq, Option, Some, None, sym, ap, append-nil, append_assoc}
use Rattle.std.specs.Borrow.{Bor}
use Rattle.td_text.specs.MemorySinks.{output_of}
use Rattle.td_files.specs.declared.memory_files.MemoryFile.{MemoryFile}
use Rattle.td_files.specs.declared.memory_files.MemoryStep.{MemoryStep}
use Rattle.td_files.specs.declared.memory_files.MemoryStep.TheVariants as step
use Rattle.td_files.specs.Files.{FileStep, Made, Ended}

-- the bytes of the first file of this name, if one has it
abbrev pub bytes_of : List (Bor (List ℕ) × Bor (List ℕ)) → List ℕ → Option (List ℕ)
bytes_of files name = option_map (λ file. file.1.now) (find (λ file. bytes_eq file.0.now name) files)

-- a read of this name gives these bytes, where readers give at most `readable` bytes: the first
-- file of the name has them, and they are no more than that
abbrev pub Reads : List (Bor (List ℕ) × Bor (List ℕ)) → ℕ → List ℕ → List ℕ → Type 0
Reads files readable name bytes = (bytes_of files name ≡ Some bytes) × (length bytes ≤ readable)

-- a read of this name fails, where readers give at most `readable` bytes: no file has the name, or
-- the first one of the name has more
abbrev pub FailsOn : List (Bor (List ℕ) × Bor (List ℕ)) → ℕ → List ℕ → Type 0
FailsOn files readable name =
    (bytes_of files name ≡ None) ⊎ ((bytes : List ℕ) × (bytes_of files name ≡ Some bytes) × (readable < length bytes))

-- a file is made empty, with a writer that hasn't failed
abbrev pub step_of : MemoryStep → FileStep
step_of (step.Made name) = Made name.items (record { sent = Some []; failures = 0 })
step_of (step.Ended file) = Ended file.name.items (output_of file.sink)

-- the name of a file that was made
abbrev pub made_name : MemoryStep → Option (List ℕ)
made_name (step.Made name) = Some name.items
made_name (step.Ended file) = None

-- the file whose writing ended
abbrev pub ended_file : MemoryStep → Option MemoryFile
ended_file (step.Made name) = None
ended_file (step.Ended file) = Some file

-- these steps were taken after those
abbrev pub IsAfter : List MemoryStep → List MemoryStep → List FileStep → Type 0
IsAfter old new steps = map step_of new ≡ map step_of old ++ steps

pub after_nothing : (old : List MemoryStep) → IsAfter old old []
after_nothing old = sym (append-nil (map step_of old))

pub after_both : (first then last : List MemoryStep) (steps more : List FileStep) → IsAfter first then steps → IsAfter then last more
    → IsAfter first last (steps ++ more)
after_both first then last steps more one other =
    other ∙ ap (λ known. known ++ more) one ∙ append_assoc (map step_of first) steps more
