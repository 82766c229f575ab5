use Rattle.std.proofs.Common.{◌≡◌, arith, sym, ap, subst, ◌∙◌, true, false}
use Rattle.td_book.specs.declared.lease.Claim.{Claim}
use Rattle.td_book.specs.Board.{board_of, Board, some_pending, some_open}
use Rattle.td_book.specs.Chained.{Tree}
use Rattle.td_book.specs.Claimed.{Claimed}
use Rattle.td_book.proofs.Books.{none_pending, some_pending_out}
use Rattle.td_book.proofs.book.Book.claim.Goals as goal
use Rattle.td_book.proofs.book.Book.claim.Goals.{then-self-eq0, else-self-eq0}

pub returns-in_default-clause-ok : goal.returns-in_default-clause-ok
returns-in_default-clause-ok c =
    let same : board_of c.first_open.new.self.cube c.self.inside.workers c.self.inside.budget c.first_open.new.self.nodes c.self.inside.order.items ≡ c.args.self.now =
    ap (λ (t : Tree). board_of t.cube c.self.inside.workers c.self.inside.budget t.nodes c.self.inside.order.items) c.in_default.ensures.same ∙ c.self.view_is in
    let now : Board = board_of c.first_open.new.self.cube c.self.inside.workers c.self.inside.budget c.first_open.new.self.nodes c.self.inside.order.items in
    elim c.if-self-eq0.branch [
      | then-self-eq0 w ↦ subst (λ (r : Claim). Claimed c.args.self.now c.args.worker r now) (sym w.result-is)
          (ap some_pending (sym c.self.view_is) ∙ none_pending c.self.inside.chain.nodes c.in_default.ensures.first c.self.invariant.0.kept.allowances (sym c.self.invariant.0.out_is ∙ w.if-self-eq0.true), same)
      | else-self-eq0 w ↦ subst (λ (r : Claim). Claimed c.args.self.now c.args.worker r now) (sym w.result-is) (
        ap some_pending (sym c.self.view_is) ∙ some_pending_out c.self.inside.chain.nodes (let e = c.self.invariant.0.out_is in let h = w.if-self-eq0.false in omega arith),
        (λ h. let q : true ≡ false = sym h ∙ (ap some_open (sym c.self.view_is) ∙ c.in_default.ensures.first) in cc),
        same,
      )
    ]
