-- What went out of a text.
use Rattle.std.proofs.Common.{◌≡◌, ℕ, List, [], ◌++◌, refl, sym, append-nil, Result, Ok, Err, OnOk}
use Rattle.std.specs.Io.KnownBytes.{Appends}
use Rattle.std.specs.Prelude.{Option, Some, None}
use Rattle.td_text.specs.Output.{Output, Sent, SentFront, Writes}

nothing_more : (sent : Option (List ℕ)) → Appends sent sent []
nothing_more None = tt
nothing_more (Some bytes) = sym (append-nil bytes)

-- nothing is a beginning of any text
pub nothing : (now : Output) (text : List ℕ) → SentFront now now text
nothing now text = record { front = []; rest = text; parts = refl; sent = nothing_more now.sent }

-- and all of the empty one
pub empty : (now : Output) → Sent now now []
empty now = record { sent = nothing_more now.sent; failures = refl }

pub written : {T E : Type 0} (result : Result T E) (old new : Output) (text : List ℕ) → Writes result old new text → SentFront old new text
written (Ok done) old new text went = record { front = text; rest = []; parts = sym (append-nil text); sent = went.sent }
written (Err fault) old new text went = went.front
