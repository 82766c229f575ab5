use Rattle.std.proofs.Common.{ℕ, ◌≡◌, ◌+◌, ◌-◌, ◌<◌, ◌≤◌, List, [], ◌∷◌, ◌++◌, length, arith, refl, sym, ap, subst, ◌∙◌, rules, false, true}
use Rattle.std.specs.Prelude.{vec_capacity}
use Rattle.td_domain.specs.declared.cubes.Trit.{Trit}
use Rattle.td_book.specs.declared.lease.Lease.{Lease}
use Rattle.td_book.specs.declared.node.State.TheVariants.{Open, Held}
use Rattle.td_book.specs.Board.{board_of, Board, node, handled, allowed}
use Rattle.td_book.specs.Claimed.{allowance, IsLease}
use Rattle.td_book.specs.Steps.{Turns}
use Rattle.td_book.proofs.Books.{book_after, has_some, moved, seen, append_nothing, vec_rewritten, vec_overwritten}
use Rattle.td_book.proofs.book.Book.hold.Goals as goal

pub invariant_of-self-2 : goal.invariant_of-self-2
invariant_of-self-2 c =
    let before = c.requires.leaf.0 in let after = c.requires.leaf.1 in
    let there : c.self.inside.chain.nodes ≡ before ++ node c.args.number Open ∷ after = ap (λ (b : Board). b.nodes) c.self.view_is ∙ c.requires.leaf.2 in
    let is = c.set.ensures.nodes before after Open there in
    let top = c.set.ensures.cube in
    let book = c.self.invariant.0 in
    let old : Board = board_of c.self.inside.chain.cube c.self.inside.workers c.self.inside.budget c.self.inside.chain.nodes c.self.inside.order.items in
    let counted : length c.self.inside.order.items ≡ handled old = book.kept.counted in
    let out : c.self.inside.allowed ≡ allowed old = book.out_is in
    let left : handled old + allowed old < old.budget = subst (λ (b : Board). handled b + allowed b < b.budget) (sym c.self.view_is) c.requires.left in
    let len : c.len.result ≡ length c.self.inside.order.items = search rules in
    let from : c.from.result ≡ c.allowance_of-allowance.result = c.from.ensures in
    let some = c.allowance_of-allowance.ensures.some in
    let within = c.allowance_of-allowance.ensures.within in
    let space : length c.self.inside.order.items + (c.self.inside.allowed + c.allowance_of-allowance.result) ≤ vec_capacity c.reserve.new.self = search rules in (
      moved _ _ _ _ _ _ _ _ top
          (book_after _ _ _ _ _ _ _ before after c.args.number Open there book refl (Held c.args.worker c.allowance_of-allowance.result) c.set.new.self.nodes c.reserve.new.self.items
          (c.self.inside.allowed + c.from.result) (vec_capacity c.reserve.new.self)
          is (c.reserve.ensures.items ∙ sym (append_nothing c.self.inside.order.items)) refl (has_some c.allowance_of-allowance.result some) (λ h. absurd (let q : false ≡ true = h in cc)) (omega arith) (omega arith) (omega arith)),
      vec_rewritten c.self.inside.cube c.cube_of.new.cube ∙ (c.self.invariant.1 ∙ sym (ap length top)),
    )

pub returns-clause-ok : goal.returns-clause-ok
returns-clause-ok c =
    let before = c.requires.leaf.0 in let after = c.requires.leaf.1 in
    let there : c.self.inside.chain.nodes ≡ before ++ node c.args.number Open ∷ after = ap (λ (b : Board). b.nodes) c.self.view_is ∙ c.requires.leaf.2 in
    let book = c.self.invariant.0 in
    let old : Board = board_of c.self.inside.chain.cube c.self.inside.workers c.self.inside.budget c.self.inside.chain.nodes c.self.inside.order.items in
    let counted : length c.self.inside.order.items ≡ handled old = book.kept.counted in
    let out : c.self.inside.allowed ≡ allowed old = book.out_is in
    let fits_left : handled old + allowed old < old.budget = subst (λ (b : Board). handled b + allowed b < b.budget) (sym c.self.view_is) c.requires.left in
    let len : c.len.result ≡ length c.self.inside.order.items = search rules in
    let a : ℕ = c.allowance_of-allowance.result in
    let within = c.allowance_of-allowance.ensures.within in
    let fits : handled old + allowed old + a ≤ old.budget = omega arith in
    let cube : List Trit = c.in_ok-cube.cube in
    let read = c.in_ok-cube.ensures.cube before after Open there in
    let size : length c.cube_of.new.cube ≡ length c.self.inside.cube.items = c.cube_of.ensures.len ∙ sym c.self.invariant.1 in
    let same : c.deref.result.now ≡ cube = c.deref.ensures.value ∙ (vec_overwritten c.self.inside.cube c.cube_of.new.cube size ∙ sym c.in_ok-cube.ensures.same) in
    let left : old.budget - (c.len.result + c.self.inside.allowed) ≡ old.budget - (handled old + allowed old) =
    ap (λ (k : ℕ). old.budget - (k + c.self.inside.allowed)) (len ∙ counted) ∙ ap (λ (k : ℕ). old.budget - (handled old + k)) out in
    let is : a ≡ allowance old.workers cube (old.budget - (handled old + allowed old)) =
    c.allowance_of-allowance.ensures.is ∙ (ap (λ (q : List Trit). allowance old.workers q (old.budget - (c.len.result + c.self.inside.allowed))) same ∙ ap (allowance old.workers cube) left) in
    let lease : Lease = record { worker = c.args.worker; number = c.args.number; cube = cube; allowance = a } in
    let turns : Turns old c.args.number cube Open (node c.args.number (Held c.args.worker a) ∷ []) old.order
    (board_of c.self.inside.chain.cube c.self.inside.workers c.self.inside.budget c.set.new.self.nodes c.reserve.new.self.items) =
    record {
      place = record { before = before; after = after; rest = read.0; is = there; cube_is = read.1 };
      nodes = c.set.ensures.nodes before after Open there;
      settled = c.reserve.ensures.items;
      root = refl;
      workers = refl;
      budget = refl;
    } in
    seen _ _ _ _ _ _ _ _ _ (λ (b : Board) (d : Board). IsLease b c.args.worker c.args.number lease d)
    c.set.ensures.cube c.self.view_is (refl, is, (refl, c.allowance_of-allowance.ensures.some, fits, turns))
