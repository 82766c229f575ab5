use Rattle.std.proofs.Common.{List, [], ◌∷◌, ◌++◌, append_assoc}
use Rattle.std.specs.Prelude.{codes, decimal}
use Rattle.json.specs.Json.{number, object}
use Rattle.json.specs.Token.{Token, end_object}
use Rattle.td_lines.specs.Said.{entries_of, members_by}
use Rattle.td_lines.specs.Values.{member_tokens}
use Rattle.td_lines.proofs.Steps.{adds_more, closed}
use Rattle.td_lines.proofs.objects.error_ended.Goals as goal

pub returns : goal.returns
returns c =
    let error : List Token = member_tokens (codes "error") (object (members_by (entries_of c.args.error.now))) in
    let status : List Token = member_tokens (codes "status") (number (decimal c.args.status)) in
    closed c.end_object.result c.args.writer.now c.count_of.new.writer c.end_object.new.self (error ++ status) end_object _
    (append_assoc error status (end_object ∷ []))
    (adds_more error status c.in_ok-object_of.ensures c.in_ok-count_of.ensures) c.end_object.ensures
