-- What a request does to standard output.
use Rattle.std.specs.Prelude.{◌≡◌, ◌⊎◌, ℕ, List, [], ◌∷◌, codes, Bool, true, false, ◌||◌, take, Option, Some, None, option_map}
use Rattle.std.specs.List.{AllZip}
use Rattle.std.specs.Borrow.{Bor}
use Rattle.std.specs.Global.{Vec}
use Rattle.std.specs.Str.{bytes_eq}
use Rattle.td_text.specs.Output.{Output, Sent, SentFront}
use Rattle.td_files.specs.Disks.{Disk}
use Rattle.td_lines.specs.declared.line.Line.{Line}
use Rattle.td_lines.specs.Texts.{report_text}
use Rattle.td_lines.specs.Asked.{Question, error_json, report_json}
use Rattle.td_lines.specs.Said.{Entry}
use Rattle.td_request.specs.declared.request.Command.{Command}
use Rattle.td_request.specs.declared.request.Command.TheVariants as command
use Rattle.td_request.specs.declared.request.Form.{Form}
use Rattle.td_request.specs.declared.request.Form.TheVariants as form
use Rattle.td_request.specs.declared.request.Request.{Request}
use Rattle.td_answer.specs.declared.outcome.Outcome.{Outcome}
use Rattle.td_answer.specs.declared.status.Status.{Status}
use Rattle.td_answer.specs.declared.status.Status.TheVariants as status
use Rattle.td_answer.specs.declared.refusal.Refusal.{Refusal}
use Rattle.td_answer.specs.Ends.{EndsByStop}
use Rattle.td_answer.specs.Filled.{filled}
use Rattle.td_answer.specs.Outcomes.{SaysTrue, IsPrintOfCommand, IsRefusedBy}
use Rattle.td_answer.specs.Statuses.{code_of, status_of}
use Rattle.td_command.specs.Conflicts.{conflict_of}
use Rattle.td_cli.specs.Clashes.{HasClash, KeepsFiles}
use Rattle.td_cli.specs.Asking.{asked_of}
use Rattle.td_cli.specs.Deadlines.{can_end}
use Rattle.td_cli.specs.Files.{outputs_of, certificate_names, keep_file}

-- a report in its form
abbrev pub printed : Form → Question → List Line → List ℕ
printed form.Text asked report = report_text report
printed form.Json asked report = report_json asked report
printed form.Quiet asked report = []

-- a report in the form that a request asks for
abbrev pub print_of : Request → List Line → List ℕ
print_of request report = printed request.form (asked_of request) report

-- a file goes to standard output
abbrev pub goes_out : Option (Bor (List ℕ)) → Bool
goes_out None = false
goes_out (Some name) = bytes_eq name.now (codes "-")

-- one of the files that a command writes does, in place of the report
abbrev pub HasPlace : Command → Type 0
HasPlace asked = (goes_out (outputs_of asked).certificate || goes_out (outputs_of asked).dump) ≡ true

-- the print of an outcome went out whole, or a file did in its place
abbrev pub IsShown : Request → Outcome → Output → Output → Type 0
IsShown request outcome old new = Sent old new (print_of request outcome.report) ⊎ (HasPlace request.command × (new ≡ old))

-- What went out of an outcome is a beginning of its print. Unless a device failed or memory ran
-- out, it is whole, and the program ends as the outcome says.
pub record Prints (request : Request) (outcome : Outcome) (ending : Status) (old new : Output) : Type 0 where
  pub shown : SentFront old new (print_of request outcome.report)
  pub whole : (ending ≡ status.Device) ⊎ ((ending ≡ outcome.status) × IsShown request outcome old new)

-- the files of the first of these names hold these texts, one for each
abbrev pub AreHeld : (List ℕ → List ℕ → Type 0) → List (List ℕ) → List (Vec ℕ) → Type 0
AreHeld holds names texts = (count : ℕ) × AllZip (λ name (text : Vec ℕ). holds name text.items) (take count names) texts

-- the file of this name, where there is one, holds this text
abbrev pub IsHeldWhere : (List ℕ → List ℕ → Type 0) → Option (Bor (List ℕ)) → Option (List ℕ) → Type 0
IsHeldWhere holds None None = Unit {0}
IsHeldWhere holds (Some name) (Some text) = holds name.now text
IsHeldWhere holds name text = ⊥

-- the texts of the files that a request names; of certificates there may be fewer
pub record Holds (holds : List ℕ → List ℕ → Type 0) (request : Request) (netlist : List ℕ) (certificates : List (Vec ℕ)) (keep : Option (List ℕ)) : Type 0 where
  pub file : holds request.file.now netlist
  pub others : AreHeld holds (certificate_names request.command) certificates
  pub conditions : IsHeldWhere holds (keep_file request.command) keep

-- an outcome that is true of what the files hold, and of the search, was printed, and no file that
-- the request writes is another one of it
pub record PrintsTrue (disk : Disk) (request : Request) (ending : Status) (old new : Output) : Type 0 where
  pub apart : KeepsFiles disk request
  pub alone : conflict_of request ≡ None
  pub netlist : List ℕ
  pub certificates : List (Vec ℕ)
  pub keep : Option (Bor (List ℕ))
  pub held : Holds disk.holds request netlist certificates (option_map (λ text. text.now) keep)
  pub outcome : Outcome
  pub is_true : SaysTrue (filled keep request.command) netlist request.reading certificates outcome
  pub answered : IsPrintOfCommand (can_end request.command) (filled keep request.command) netlist request.reading outcome
  pub prints : Prints request outcome ending old new

-- a reason that holds of what the files hold that the request names; the program ends with its
-- status
pub record HasReason (holds : List ℕ → List ℕ → Type 0) (request : Request) (ending : Status) : Type 0 where
  pub netlist : List ℕ
  pub certificates : List (Vec ℕ)
  pub keep : Option (Bor (List ℕ))
  pub held : Holds holds request netlist certificates (option_map (λ text. text.now) keep)
  pub reason : Refusal
  pub timely : EndsByStop (can_end request.command) reason
  pub is : IsRefusedBy (filled keep request.command) netlist request.reading certificates reason
  pub ends : ending ≡ status_of reason

-- Why there is no outcome, by the status: a device failed, or memory ran out; or options or files of
-- the request clash; or there is a reason.
abbrev pub IsEndWithout : Disk → Request → Status → Type 0
IsEndWithout disk request ending =
    (ending ≡ status.Device) ⊎ (((ending ≡ status.BadCommand) × HasClash disk request) ⊎ HasReason disk.holds request ending)

-- Nothing went out; or, where JSON is asked for, a beginning of an object that says why, with the
-- exit status.
abbrev pub IsUnreported : Request → Status → Output → Output → Type 0
IsUnreported request ending old new =
    (new ≡ old) ⊎ ((request.form ≡ form.Json) × ((error : List Entry) × SentFront old new (error_json (asked_of request) error (code_of ending))))

-- A request was carried out: an outcome that is true of what its files hold was printed, or none,
-- since there is none.
abbrev pub Carries : Disk → Request → Status → Output → Output → Type 0
Carries disk request ending old new =
    PrintsTrue disk request ending old new ⊎ (IsUnreported request ending old new × IsEndWithout disk request ending)
