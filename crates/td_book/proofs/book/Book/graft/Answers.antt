use Rattle.std.proofs.Common.{ℕ, ◌≡◌, ◌-◌, ◌≤◌, List, [], ◌∷◌, ◌++◌, length, arith, refl, sym, ap, subst, ◌∙◌, true, false}
use Rattle.std.specs.Prelude.{vec_capacity}
use Rattle.td_domain.specs.declared.cubes.Trit.{Trit}
use Rattle.td_book.specs.declared.node.State.{State}
use Rattle.td_book.specs.declared.node.State.TheVariants.{Open}
use Rattle.td_book.specs.Board.{Board, Leaf, board_of, node, handled}
use Rattle.td_book.specs.Chained.{board_with}
use Rattle.td_book.specs.Kept.{IsBook}
use Rattle.td_book.specs.Grafting.{cubes_left, open_leaf, leaves_left, Grafted}
use Rattle.td_book.specs.Steps.{Shows, held}
use Rattle.td_book.proofs.Books.{book_after, held_out, moved, seen, vec_rewritten, append_nothing}
use Rattle.td_book.proofs.Grafting.{left_long, fits_lease, grafted_by}
use Rattle.td_book.proofs.book.Book.graft.Goals as goal

pub list_numbers-requires-clause-run : goal.list_numbers-requires-clause-run
list_numbers-requires-clause-run c =
    let n = c.settle_all-next.ensures.next in
    let states : List State = c.states.result.now in (
      n.0,
      leaves_left states (open_leaf c.args.lease.cube c.args.lease.number ∷ []) (length c.set.new.self.nodes),
      n.1,
      n.2,
      n.3,
      left_long states c.args.lease.cube c.args.lease.number (length c.set.new.self.nodes)
          ∙ (ap (λ (l : List State). length (cubes_left l (c.args.lease.cube ∷ []))) c.states.ensures.states
          ∙ (ap (λ (q : List Trit). length (cubes_left c.args.subtree.states (q ∷ []))) (sym c.requires.cube) ∙ sym c.left.ensures)),
    )

pub invariant_of-self-2 : goal.invariant_of-self-2
invariant_of-self-2 c =
    let has : Shows (board_with c.self.inside.chain) c.args.lease = c.if-not-shows.ensures.shown.0 refl in
    let is : c.set.new.self.nodes ≡ has.before ++ node c.args.lease.number Open ∷ has.after = c.set.ensures.nodes has.before has.after (held c.args.lease) (c.space_for.ensures.nodes ∙ has.is) in
    let top : c.set.new.self.cube ≡ c.self.inside.chain.cube = c.set.ensures.cube ∙ c.space_for.ensures.cube in
    let book = c.self.invariant.0 in
    let old : Board = board_of c.self.inside.chain.cube c.self.inside.workers c.self.inside.budget c.self.inside.chain.nodes c.self.inside.order.items in
    let counted : length c.self.inside.order.items ≡ handled old = book.kept.counted in
    let out = held_out _ _ _ _ _ _ _ has.before has.after c.args.lease.number (held c.args.lease) has.is book c.args.lease.worker c.args.lease.allowance refl in
    let some = out.0 in let most = out.1 in let fits = out.2 in let space = out.3 in
    let from : c.from.result ≡ c.args.lease.allowance = c.from.ensures in
    let few : length c.states.result.now ≤ c.args.lease.allowance = (let a = ap length c.states.ensures.states in let b = c.requires.few in omega arith) in
    let opened : IsBook (board_of c.set.new.self.cube c.self.inside.workers c.self.inside.budget c.set.new.self.nodes c.self.inside.order.items) (c.self.inside.allowed - c.from.result) (vec_capacity c.self.inside.order) =
    moved _ _ _ _ _ _ _ _ top
    (book_after _ _ _ _ _ _ _ has.before has.after c.args.lease.number (held c.args.lease) has.is book refl Open c.set.new.self.nodes c.self.inside.order.items
    (c.self.inside.allowed - c.from.result) (vec_capacity c.self.inside.order)
    is (sym (append_nothing c.self.inside.order.items)) refl refl (λ h. absurd (let q : false ≡ true = h in cc)) (omega arith) (omega arith) (omega arith)) in
    let done : IsBook (board_of c.set.new.self.cube c.self.inside.workers c.self.inside.budget c.settle_all-next.new.chain.nodes c.settle_all-next.new.order.items) (c.self.inside.allowed - c.from.result) (vec_capacity c.self.inside.order) =
    c.settle_all-next.ensures.kept c.self.inside.workers c.self.inside.budget (c.self.inside.allowed - c.from.result) (vec_capacity c.self.inside.order) opened (omega arith) (omega arith) in (
      moved _ _ _ _ _ _ _ _ c.settle_all-next.ensures.cube
          (subst (λ (k : ℕ). IsBook (board_of c.set.new.self.cube c.self.inside.workers c.self.inside.budget c.settle_all-next.new.chain.nodes c.settle_all-next.new.order.items) (c.self.inside.allowed - c.from.result) k) (sym c.settle_all-next.ensures.capacity) done),
      vec_rewritten c.self.inside.cube c.shows.new.cube ∙ (c.self.invariant.1 ∙ sym (ap length (c.settle_all-next.ensures.cube ∙ top))),
    )

pub returns-clause-ok : goal.returns-clause-ok
returns-clause-ok c =
    let has : Shows (board_with c.self.inside.chain) c.args.lease = c.if-not-shows.ensures.shown.0 refl in
    let is : c.set.new.self.nodes ≡ has.before ++ node c.args.lease.number Open ∷ has.after = c.set.ensures.nodes has.before has.after (held c.args.lease) (c.space_for.ensures.nodes ∙ has.is) in
    let top : c.set.new.self.cube ≡ c.self.inside.chain.cube = c.set.ensures.cube ∙ c.space_for.ensures.cube in
    let n = c.settle_all-next.ensures.next in
    let states : List State = c.states.result.now in
    let left : List Leaf = leaves_left states (open_leaf c.args.lease.cube c.args.lease.number ∷ []) (length c.set.new.self.nodes) in
    let long : length left ≡ c.left.result = left_long states c.args.lease.cube c.args.lease.number (length c.set.new.self.nodes)
    ∙ (ap (λ (l : List State). length (cubes_left l (c.args.lease.cube ∷ []))) c.states.ensures.states
    ∙ (ap (λ (q : List Trit). length (cubes_left c.args.subtree.states (q ∷ []))) (sym c.requires.cube) ∙ sym c.left.ensures)) in
    seen _ _ _ _ _ _ _ _ _ (λ (b : Board) (d : Board). Grafted b c.args.lease c.args.subtree c.list_numbers.result.items d)
    (c.settle_all-next.ensures.cube ∙ top) c.self.view_is
    (grafted_by c.self.inside.chain.cube c.set.new.self.cube c.self.inside.workers c.self.inside.budget c.self.inside.chain.nodes c.self.inside.order.items c.set.new.self.nodes c.settle_all-next.new.chain.nodes c.settle_all-next.new.order.items
    c.args.lease c.args.subtree states c.list_numbers.result.items
    (record { before = has.before; after = has.after; rest = has.rest; is = has.is; cube_is = has.cube_is })
    is top c.states.ensures.states c.requires.some c.requires.few (fits_lease _ _ _ _ (sym c.states.ensures.states) c.requires.cube c.states.ensures.fits)
    (c.settle_all-next.ensures.settled c.self.inside.workers c.self.inside.budget)
    (c.list_numbers.ensures n.0 left n.1 n.2 n.3 long))
