-- What was asked, and why there is no report, in JSON.
use Rattle.std.specs.Prelude.{ℕ, true, List, ◌∷◌, ◌++◌, codes, decimal}
use Rattle.json.specs.Json.{boolean, number, string, object, Members, no_members, member}
use Rattle.json.specs.Token.{Token}
use Rattle.json.specs.Token as token
use Rattle.json.specs.Print.{print}
use Rattle.json.specs.Tree.{json_tokens}
use Rattle.td_lines.specs.declared.asked.Asked.{Asked}
use Rattle.td_lines.specs.declared.line.Line.{Line}
use Rattle.td_lines.specs.Texts.{newline}
use Rattle.td_lines.specs.Said.{Entry, entries_of, members_by}
use Rattle.td_lines.specs.Values.{member_tokens, members_of}

-- what was asked: the command, the netlist's file, and the question
pub record Question : Type 0 where
  pub command : List ℕ
  pub file : List ℕ
  pub entries : List Entry

abbrev pub question_of : Asked → Question
question_of asked = record { command = asked.command.now; file = asked.file; entries = entries_of asked.question }

abbrev pub asked_tokens : Question → List Token
asked_tokens asked =
    member_tokens (codes "command") (string asked.command) ++ (member_tokens (codes "file") (string asked.file)
    ++ member_tokens (codes "question") (object (members_by asked.entries)))

-- how an object begins: whether the program is proved, and what was asked
abbrev pub opening : Question → List Token
opening asked = token.begin_object ∷ (member_tokens (codes "proved") (boolean true) ++ asked_tokens asked)

-- the members that say what was asked, and others
abbrev pub asked_members : Question → Members → Members
asked_members asked others =
    member (codes "command") (string asked.command) (member (codes "file") (string asked.file)
    (member (codes "question") (object (members_by asked.entries)) others))

-- an object on one line: whether the program is proved, what was asked, and other members
abbrev pub object_line : Question → Members → List ℕ
object_line asked others = print (json_tokens (object (member (codes "proved") (boolean true) (asked_members asked others)))) ++ newline

-- the JSON of a report
abbrev pub report_json : Question → List Line → List ℕ
report_json asked report = object_line asked (members_of report)

-- why there is no report, and the exit status
abbrev pub error_members : List Entry → ℕ → Members
error_members error status = member (codes "error") (object (members_by error)) (member (codes "status") (number (decimal status)) no_members)

-- the JSON of a refusal
abbrev pub error_json : Question → List Entry → ℕ → List ℕ
error_json asked error status = object_line asked (error_members error status)
