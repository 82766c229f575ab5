use Rattle.std.proofs.Common.{sym, ap, ◌∙◌, arith}
use Rattle.td_syntax.specs.Tokens.{front_of, rest_of}
use Rattle.td_syntax.proofs.Lexing.{tokens_at}
use Rattle.td_syntax.proofs.lexer.Lexer.next.Goals as goal

pub returns-in-Last-clause-front : goal.returns-in-Last-clause-front
unfolding front_of rest_of
returns-in-Last-clause-front c = rw c.stop_line.ensures (ap front_of (sym (tokens_at c.pieces.line c.pieces.rest.now _ c.in-Last.ensures.piece) ∙ c.pieces.invariant.same))

pub returns-in-Last-clause-rest : goal.returns-in-Last-clause-rest
unfolding front_of rest_of
returns-in-Last-clause-rest c =
    let e = tokens_at c.pieces.line c.pieces.rest.now _ c.in-Last.ensures.piece in
    e ∙ ap rest_of (sym e ∙ c.pieces.invariant.same)

pub pieces-preserved : goal.pieces-preserved
pieces-preserved c = record {
  same = rw (c.newlines.ensures.count, c.split_at.ensures.front, c.split_at.ensures.back) (sym (tokens_at c.pieces.line c.pieces.rest.now _ c.in-Space.ensures.piece) ∙ c.pieces.invariant.same);
  within = omega (arith, c.newlines.ensures.within, c.split_at.ensures.front_len, c.split_at.ensures.back_len, c.pieces.invariant.within);
}

pub returns-in-Found-clause-front : goal.returns-in-Found-clause-front
unfolding front_of rest_of
returns-in-Found-clause-front c = ap front_of (sym (tokens_at c.pieces.line c.pieces.rest.now _ c.in-Found.ensures.piece) ∙ c.pieces.invariant.same)

pub returns-in-Found-clause-rest : goal.returns-in-Found-clause-rest
unfolding front_of rest_of
returns-in-Found-clause-rest c =
    let e = tokens_at c.pieces.line c.pieces.rest.now _ c.in-Found.ensures.piece in
    rw (c.newlines-in-Found.ensures.count, c.split_at-in-Found.ensures.front, c.split_at-in-Found.ensures.back)
    (ap rest_of (sym e ∙ c.pieces.invariant.same))
