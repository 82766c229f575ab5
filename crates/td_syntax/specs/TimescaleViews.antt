-- Internal: the parts of a directive, without where they lie in memory.
use Rattle.std.specs.Prelude.{ℕ, List, Result, Ok, Err}
use Rattle.std.specs.Borrow.{Bor}
use Rattle.td_syntax.specs.declared.token.Directive.{Directive}
use Rattle.td_syntax.specs.declared.token.Unread.{Unread}

abbrev pub part_view : Result (ℕ × Bor (List ℕ)) Unread → Result (ℕ × List ℕ) Unread
part_view (Ok x) = Ok (x.0, x.1.now)
part_view (Err e) = Err e

abbrev pub rest_view : Result (Bor (List ℕ)) Unread → Result (List ℕ) Unread
rest_view (Ok x) = Ok x.now
rest_view (Err e) = Err e

abbrev pub directive_view : Result (Directive × Bor (List ℕ)) Unread → Result (Directive × List ℕ) Unread
directive_view (Ok x) = Ok (x.0, x.1.now)
directive_view (Err e) = Err e
