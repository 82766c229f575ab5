-- Options and files of a request that clash.
use Rattle.std.specs.Prelude.{⊤, ◌≡◌, ◌≢◌, ◌⊎◌, ℕ, true, false, List, All, Option, Some, None, codes, if◌then◌else◌}
use Rattle.std.specs.Borrow.{Bor}
use Rattle.std.specs.List.{Contains}
use Rattle.std.specs.Str.{bytes_eq}
use Rattle.td_files.specs.Disks.{Disk}
use Rattle.td_request.specs.declared.request.Request.{Request}
use Rattle.td_command.specs.Conflicts.{conflict_of}
use Rattle.td_answer.specs.declared.status.Status.{Status}
use Rattle.td_answer.specs.declared.status.Status.TheVariants as status
use Rattle.td_cli.specs.Files.{keep_file, outputs_of, part_names}
use Rattle.td_cli.specs.declared.fault.Fault.{Fault}
use Rattle.td_cli.specs.declared.fault.Fault.TheVariants as fault

-- the name under which a file is read: standard input has two, of which `-` may be that of a file
-- to be written too
abbrev pub read_name : List ℕ → List ℕ
read_name name = if bytes_eq name (codes "-") then codes "stdin" else name

-- the files that are written of these two names, where there are both, are one
abbrev pub AreOne : Disk → Option (Bor (List ℕ)) → Option (List ℕ) → Type 0
AreOne disk (Some out) (Some file) = disk.is_one out.now file true
AreOne disk out file = ⊥

-- the file that is written, where there is one, is this one that is read
abbrev pub IsOverRead : Disk → Option (Bor (List ℕ)) → List ℕ → Type 0
IsOverRead disk out name = AreOne disk out (Some (read_name name))

abbrev pub word_of : Option (Bor (List ℕ)) → Option (List ℕ)
word_of None = None
word_of (Some word) = Some word.now

-- the file that is written, where there is one, is the one that is read, where there is one
abbrev pub IsOverAny : Disk → Option (Bor (List ℕ)) → Option (Bor (List ℕ)) → Type 0
IsOverAny disk out None = ⊥
IsOverAny disk out (Some name) = IsOverRead disk out name.now

-- a file that the request would write is one that it reads, or another one that it would write
abbrev pub Overwrites : Disk → Request → Type 0
Overwrites disk request =
    let outputs = outputs_of request.command in
    IsOverRead disk outputs.certificate request.file.now
    ⊎ (IsOverRead disk outputs.dump request.file.now
    ⊎ ((IsOverAny disk outputs.certificate (keep_file request.command) ⊎ IsOverAny disk outputs.dump (keep_file request.command))
    ⊎ (((name : List ℕ) × Contains (part_names request.command) name × IsOverRead disk outputs.certificate name)
    ⊎ AreOne disk outputs.dump (word_of outputs.certificate))))

-- the files that are written of these two names, where there are both, are two
abbrev pub AreApart : Disk → Option (Bor (List ℕ)) → Option (List ℕ) → Type 0
AreApart disk (Some out) (Some file) = disk.is_one out.now file false
AreApart disk out file = ⊤

-- the file that is written, where there is one, isn't this one that is read
abbrev pub KeepsRead : Disk → Option (Bor (List ℕ)) → List ℕ → Type 0
KeepsRead disk out name = AreApart disk out (Some (read_name name))

-- the file that is written, where there is one, isn't the one that is read, where there is one
abbrev pub KeepsAny : Disk → Option (Bor (List ℕ)) → Option (Bor (List ℕ)) → Type 0
KeepsAny disk out None = ⊤
KeepsAny disk out (Some name) = KeepsRead disk out name.now

-- no file that the request would write is one that it reads, or another one that it would write
pub record KeepsFiles (disk : Disk) (request : Request) : Type 0 where
  pub netlist : KeepsRead disk (outputs_of request.command).certificate request.file.now
  pub netlist_by_dump : KeepsRead disk (outputs_of request.command).dump request.file.now
  pub conditions : KeepsAny disk (outputs_of request.command).certificate (keep_file request.command)
  pub conditions_by_dump : KeepsAny disk (outputs_of request.command).dump (keep_file request.command)
  pub parts : All (KeepsRead disk (outputs_of request.command).certificate) (part_names request.command)
  pub certificate : AreApart disk (outputs_of request.command).dump (word_of (outputs_of request.command).certificate)

-- an option doesn't go together with `--each`, or a file would be written over another
abbrev pub HasClash : Disk → Request → Type 0
HasClash disk request = (conflict_of request ≢ None) ⊎ Overwrites disk request

-- how the program ends with a fault of files and streams
abbrev pub fault_status : Fault → Status
fault_status fault.OutOfMemory = status.Device
fault_status (fault.Conflict option) = status.BadCommand
fault_status (fault.OneFile out file) = status.BadCommand
fault_status (fault.Unread name) = status.Device
fault_status (fault.Unwritten name) = status.Device
fault_status fault.NoTimer = status.Device

-- it is that a file would be written over another
abbrev pub IsOneFile : Fault → Type 0
IsOneFile (fault.OneFile out file) = Unit {0}
IsOneFile other = ⊥

-- a fault of options or files is one of the request
abbrev pub IsFaultOf : Disk → Request → Fault → Type 0
IsFaultOf disk request (fault.Conflict option) = conflict_of request ≡ Some option
IsFaultOf disk request (fault.OneFile out file) = Overwrites disk request
IsFaultOf disk request other = Unit {0}
