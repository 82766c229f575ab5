-- How the program ends.
use Rattle.std.proofs.Common.{◌≡◌, ◌≢◌, ◌⊎◌, ◌∙◌, ℕ, List, Option, Some, None, refl, sym, ap, subst, inl, inr}
use Rattle.clap.specs.Words.{kind_of}
use Rattle.clap.specs.declared.error.Error.{Error}
use Rattle.clap.specs.declared.error.kind.ErrorKind.TheVariants as kind
use Rattle.td_text.specs.Output.{Output}
use Rattle.td_files.specs.Disks.{Disk}
use Rattle.td_command.specs.declared.words.Words.{Words}
use Rattle.td_command.specs.Conflicts.{conflict_of}
use Rattle.td_command.specs.Faults.{HasFault, IsReported, IsShown}
use Rattle.td_command.specs.Parting.{AreParted}
use Rattle.td_command.specs.Saying.{AskFor}
use Rattle.td_request.specs.declared.request.Request.{Request}
use Rattle.td_answer.specs.declared.outcome.Outcome.{Outcome}
use Rattle.td_answer.specs.declared.refusal.Refusal.{Refusal}
use Rattle.td_answer.specs.declared.status.Status.{Status}
use Rattle.td_answer.specs.declared.status.Status.TheVariants as status
use Rattle.td_answer.specs.declared.texts.Texts.{Texts}
use Rattle.td_answer.specs.Ends.{EndsByStop}
use Rattle.td_answer.specs.Outcomes.{IsTrueOutcome, IsPrintOf, IsRefused}
use Rattle.td_answer.specs.Statuses.{status_of}
use Rattle.td_cli.specs.declared.fault.Fault.{Fault}
use Rattle.td_cli.specs.declared.fault.Fault.TheVariants as fault
use Rattle.td_cli.specs.declared.bytes.Bytes.{Bytes}
use Rattle.td_cli.specs.Carrying.{Prints, Carries, IsEndWithout, IsUnreported}
use Rattle.td_cli.specs.Reading.{AreBytes, AreTexts}
use Rattle.td_cli.specs.Deadlines.{can_end}
use Rattle.td_cli.specs.Clashes.{IsFaultOf, IsOneFile, KeepsFiles, Overwrites, fault_status}
use Rattle.td_cli.specs.Ends.{AreBad, Ends, Refuses, Shows, ShowsText, TellsFault}

-- a fault with which the program ends as where a device fails is none of options or files
pub device_fault : (disk : Disk) (request : Request) (found : Fault) → fault_status found ≡ status.Device → IsFaultOf disk request found
device_fault disk request fault.OutOfMemory is = tt
device_fault disk request (fault.Conflict option) is = cc
device_fault disk request (fault.OneFile out file) is = cc
device_fault disk request (fault.Unread name) is = tt
device_fault disk request (fault.Unwritten name) is = tt
device_fault disk request fault.NoTimer is = tt

pub one_file : (disk : Disk) (request : Request) (found : Fault) → IsOneFile found → Overwrites disk request → IsFaultOf disk request found
one_file disk request fault.OutOfMemory is over = tt
one_file disk request (fault.Conflict option) is over = absurd is
one_file disk request (fault.OneFile out file) is over = over
one_file disk request (fault.Unread name) is over = tt
one_file disk request (fault.Unwritten name) is over = tt
one_file disk request fault.NoTimer is over = tt

-- a message with a status, or that memory ran out
pub device : (meant : Status) (ending : Status) → meant ≡ status.Device → (ending ≡ meant) ⊎ (ending ≡ status.Device) → ending ≡ status.Device
device meant ending is (inl same) = same ∙ is
device meant ending is (inr so) = so

some_is_not_none : {X : Type 0} (x : X) (found : Option X) → found ≡ Some x → found ≢ None
some_is_not_none x found is none = let no : Some x ≡ None = sym is ∙ none in cc

ended_by : (disk : Disk) (request : Request) (found : Fault) (ending : Status) → IsFaultOf disk request found → ending ≡ fault_status found
    → IsEndWithout disk request ending
ended_by disk request fault.OutOfMemory ending is same = inl same
ended_by disk request (fault.Conflict option) ending is same = inr (inl (same, inl (some_is_not_none option (conflict_of request) is)))
ended_by disk request (fault.OneFile out file) ending is same = inr (inl (same, inr is))
ended_by disk request (fault.Unread name) ending is same = inl same
ended_by disk request (fault.Unwritten name) ending is same = inl same
ended_by disk request fault.NoTimer ending is same = inl same

-- there is no outcome, since there is this fault of files and streams
pub stopped : (disk : Disk) (request : Request) (found : Fault) (ending : Status) (old new : Output) → IsFaultOf disk request found → IsUnreported request ending old new
    → (ending ≡ fault_status found) ⊎ (ending ≡ status.Device) → Carries disk request ending old new
stopped disk request found ending old new is unreported (inl same) = inr (unreported, ended_by disk request found ending is same)
stopped disk request found ending old new is unreported (inr so) = inr (unreported, inl so)

-- the texts of bytes that the files hold
pub texts_held : (holds : List ℕ → List ℕ → Type 0) (request : Request) (bytes : Bytes) (texts : Texts) → AreBytes holds request bytes
    → texts.netlist.now ≡ bytes.netlist.items → texts.certificates.now ≡ bytes.certificates.items
    → texts.keep ≡ bytes.keep → AreTexts holds request texts
texts_held holds request bytes texts held netlist certificates keep = rw (netlist, certificates, keep) held

-- or since there is this reason
pub refused : (disk : Disk) (request : Request) (texts : Texts) (reason : Refusal) (ending : Status) (old new : Output)
    → AreTexts disk.holds request texts → EndsByStop (can_end request.command) reason → IsRefused request texts reason → IsUnreported request ending old new
    → (ending ≡ status_of reason) ⊎ (ending ≡ status.Device) → Carries disk request ending old new
refused disk request texts reason ending old new held timely is unreported (inl same) = inr (
  unreported,
  inr (inr (record {
    netlist = texts.netlist.now;
    certificates = texts.certificates.now;
    keep = texts.keep;
    held = held;
    reason = reason;
    timely = timely;
    is = is;
    ends = same;
  })),
)
refused disk request texts reason ending old new held timely is unreported (inr so) = inr (unreported, inl so)

-- an outcome that is true of what was read was printed
pub carried : (disk : Disk) (request : Request) (texts : Texts) (outcome : Outcome) (ending : Status) (old new : Output)
    → conflict_of request ≡ None → KeepsFiles disk request → AreTexts disk.holds request texts
    → IsTrueOutcome request texts outcome → IsPrintOf (can_end request.command) request texts outcome → Prints request outcome ending old new → Carries disk request ending old new
carried disk request texts outcome ending old new alone apart held says answered prints = inl (record {
  apart = apart;
  alone = alone;
  netlist = texts.netlist.now;
  certificates = texts.certificates.now;
  keep = texts.keep;
  held = held;
  outcome = outcome;
  is_true = says;
  answered = answered;
  prints = prints;
})

pub carries_asked : (disk : Disk) (all : List (List ℕ)) (words : Words) (request : Request) (ending : Status) (old new : Output)
    → AreParted all words → AskFor words request → Carries disk request ending old new → Ends disk all ending old new
carries_asked disk all words request ending old new parted asked carries =
    inl (words, parted, inl (record { request = request; asked = asked; carries = carries }))

pub shows : (disk : Disk) (all : List (List ℕ)) (words : Words) (ending : Status) (old new : Output)
    → AreParted all words → Shows words ending old new ⊎ Refuses words ending old new → Ends disk all ending old new
shows disk all words ending old new parted ends = inl (words, parted, inr ends)

-- ---- faults of words

shown_kind : IsShown kind.OutOfMemory → ⊥
shown_kind (inl is) = cc
shown_kind (inr is) = cc

among : (words : Words) (error : Error) → HasFault words error → kind_of error ≢ kind.OutOfMemory → IsReported words (kind_of error)
among words error (inl (inl memory)) other = absurd (other memory)
among words error (inl (inr is)) other = inl is
among words error (inr (untaken, inl memory)) other = absurd (other memory)
among words error (inr (untaken, inr is)) other = inr (untaken, is)

-- what the parser reports of the words was told
pub told : (words : Words) (error : Error) (ending : Status) (old new : Output) → HasFault words error
    → ShowsText (kind_of error) ending old new ⊎ TellsFault (kind_of error) ending old new
    → Shows words ending old new ⊎ Refuses words ending old new
told words error ending old new has (inl shows) =
    inl (kind_of error, among words error has (λ memory. shown_kind (subst IsShown memory shows.kind_is)), shows)
told words error ending old new has (inr tells) = inr (record { silent = tells.silent; why = go tells.why })
  where
    go : (ending ≡ status.Device) ⊎ ((ending ≡ status.BadCommand) × (kind_of error ≢ kind.OutOfMemory) × ¬ IsShown (kind_of error))
        → (ending ≡ status.Device) ⊎ ((ending ≡ status.BadCommand) × AreBad words)
    go (inl device) = inl device
    go (inr bad) = inr (bad.0, inl (kind_of error, among words error has bad.1, bad.2))
