use Rattle.td_search.specs.Problems.{problem_of}
use Rattle.td_search.proofs.Again.{again, still}
use Rattle.std.proofs.Common.{◌≡◌, ℕ, sym, ap, subst, arith}
use Rattle.std.specs.Prelude.{Option, Some, None}
use Rattle.td_book.specs.declared.lease.Lease.{Lease}
use Rattle.td_book.specs.Claimed.{ClaimedAt}
use Rattle.td_search.specs.declared.findings.Evidence.{Evidence}
use Rattle.td_search.specs.Best.{Found}
use Rattle.td_search.specs.Redone.{AreUsable}
use Rattle.td_search.proofs.Rooted.{on_any, on_ok, root_cube, root_redone, root_refused}
use Rattle.td_search.proofs.progress.Search.replay_node.Goals as goal

pub replay_with-requires-clause-search : goal.replay_with-requires-clause-search
replay_with-requires-clause-search g c = λ κ l. again (problem_of c.args.task.now.problem.now) _ c.lease_again.new.self c.lease_again.ensures.search

pub returns-in-Some-evidence_for-clause-search : goal.returns-in-Some-evidence_for-clause-search
returns-in-Some-evidence_for-clause-search g c = still (problem_of c.args.task.now.problem.now) _ c.lease_again.new.self c.replay_with.new.self c.lease_again.ensures.search c.replay_with.ensures.search

pub replay_split-requires-clause-search : goal.replay_split-requires-clause-search
replay_split-requires-clause-search g c = λ κ l. again (problem_of c.args.task.now.problem.now) _ c.lease_again.new.self c.lease_again.ensures.search

pub returns-clause-search : goal.returns-clause-search
returns-clause-search g c = still (problem_of c.args.task.now.problem.now) _ c.lease_again.new.self c.replay_split.new.self c.lease_again.ensures.search c.replay_split.ensures.search

pub returns-in_default-clause-root : goal.returns-in_default-clause-root
returns-in_default-clause-root g c = λ first. on_any c.pass.result (λ piece budget n done of opened usable few within.
    let before = c.args.self.now.book in
    let held = c.lease_again.new.self.book in
    let refused : ClaimedAt before 0 0 None held = subst (λ (x : Option Lease). ClaimedAt before 0 0 x held) c.in_default.is (c.in_ok-lease.ensures.claimed 0 first done) in
    let none = root_refused piece.cube budget before held opened refused in
    omega (arith, within, none))

pub returns-in-Some-evidence_for-clause-root : goal.returns-in-Some-evidence_for-clause-root
returns-in-Some-evidence_for-clause-root g c = λ first. on_ok c.replay_with.result c.replay_with.ensures.redone (λ redone piece budget n done of opened usable few within.
    let before = c.args.self.now.book in
    let held = c.lease_again.new.self.book in
    let lease = c.in-Some.lease in
    let claimed : ClaimedAt before 0 0 (Some lease) held = subst (λ (x : Option Lease). ClaimedAt before 0 0 x held) c.in-Some.is (c.in_ok-lease.ensures.claimed 0 first done) in
    let cube = root_cube piece.cube budget before held lease opened claimed in
    let evidence : Evidence = c.in-Some-evidence_for.evidence.now in
    let found : evidence ≡ piece = c.in-Some-evidence_for.ensures.found piece of (sym cube) in
    let best : c.lease_again.new.self.best.time ≡ c.args.self.now.best.time = ap (λ (b : Found). b.time) c.lease_again.ensures.best in
    let here : AreUsable c.args.self.now.best.time n evidence.findings.items = subst (λ (e : Evidence). AreUsable c.args.self.now.best.time n e.findings.items) (sym found) usable in
    let now : AreUsable c.lease_again.new.self.best.time n evidence.findings.items = subst (λ (t : ℕ). AreUsable t n evidence.findings.items) (sym best) here in
    root_redone c.lease_again.new.self.best.time lease evidence.findings.items piece.cube budget n before held c.replay_with.new.self.book opened claimed redone now few within)

pub returns-clause-root : goal.returns-clause-root
returns-clause-root g c = λ first. on_any c.replay_split.result (λ piece budget n done of opened usable few within.
    let before = c.args.self.now.book in
    let held = c.lease_again.new.self.book in
    let lease = c.in-Some.lease in
    let claimed : ClaimedAt before 0 0 (Some lease) held = subst (λ (x : Option Lease). ClaimedAt before 0 0 x held) c.in-Some.is (c.in_ok-lease.ensures.claimed 0 first done) in
    let cube = root_cube piece.cube budget before held lease opened claimed in
    absurd (c.in_default-evidence_for.ensures.found piece of (sym cube)))
