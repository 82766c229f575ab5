-- Which fault an error of the system's files is.
use Rattle.std.specs.Prelude.{◌≡◌, ◌↔◌}
use Rattle.std.specs.declared.io.ErrorKind.{ErrorKind}
use Rattle.std.specs.declared.io.ErrorKind.TheVariants.{OutOfMemory}
use Rattle.td_certificate.specs.declared.fault.WriteFault.{WriteFault}
use Rattle.td_certificate.specs.declared.fault.WriteFault.TheVariants as unwritten
use Rattle.td_files.specs.declared.disk.ReadFault.{ReadFault}
use Rattle.td_files.specs.declared.disk.ReadFault.TheVariants as unread

-- out of memory where the system says so, and else a device's failure
abbrev pub IsReadFault : ErrorKind → ReadFault → Type 0
IsReadFault kind fault = (fault ≡ unread.OutOfMemory) ↔ (kind ≡ OutOfMemory)

-- the same of a file that was to be written
abbrev pub IsWriteFault : ErrorKind → WriteFault → Type 0
IsWriteFault kind fault = (fault ≡ unwritten.OutOfMemory) ↔ (kind ≡ OutOfMemory)
