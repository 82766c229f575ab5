use Rattle.std.proofs.Common.{◌∙◌, ◌≤◌, ℕ, List, length, arith}
use Rattle.std.specs.Borrow.{Bor}
use Rattle.std.proofs.lemmas.List.Elements.{All-more}
use Rattle.td_cli.specs.Clashes.{IsOverRead, KeepsRead}
use Rattle.td_cli.proofs.Words.{all_kept, one_over}
use Rattle.td_cli.proofs.outputs.over_one_of.Goals as goal

pub returns-in-Some-clause-some : goal.returns-in-Some-clause-some
returns-in-Some-clause-some g c =
    let disk = g.F.Files.disk c.args.files.now in
    let found = rw c.loop-name.invariant.0 at c.in-Some.ensures.some in
    (found.0, one_over (IsOverRead disk c.args.out) c.args.names.now c.loop-name.name-index _ c.loop-name-test.true found.1)

pub loop-name-preserved : goal.loop-name-preserved
loop-name-preserved g c =
    let disk = g.F.Files.disk c.args.files.now in (
      c.over_read.ensures.stays ∙ c.loop-name.invariant.0,
      All-more (λ (word : Bor (List ℕ)). KeepsRead disk c.args.out word.now) c.args.names.now c.loop-name.name-index _ c.loop-name-test.true c.loop-name.invariant.1
          (rw c.loop-name.invariant.0 at c.in_default.ensures.none),
    )

pub returns-clause-none : goal.returns-clause-none
returns-clause-none g c =
    let disk = g.F.Files.disk c.args.files.now in
    let past : length c.args.names.now ≤ c.loop-name.name-index = omega arith in
    all_kept (KeepsRead disk c.args.out) c.args.names.now c.loop-name.name-index past c.loop-name.invariant.1
