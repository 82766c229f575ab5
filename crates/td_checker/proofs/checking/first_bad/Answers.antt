use Rattle.std.proofs.Common.{◌≡◌, ℕ, ◌+◌, ◌≤◌, Option, Some, length, reverse, ap, subst, arith}
use Rattle.std.specs.Prelude.{slice_get}
use Rattle.td_circuit.specs.Numbering.{setting}
use Rattle.td_certificate.specs.declared.tree.Node.{Node}
use Rattle.td_certificate.specs.Accepts.{high_of}
use Rattle.td_certificate.specs.Questions.{asking_of}
use Rattle.td_checker.specs.Judging.{with_cube, flaw_of, IsJudged, IsFlawed, IsGoodLine}
use Rattle.td_checker.proofs.Lines.{found_bad, good_more, passed, all_good, node_at, counted_more, counted_within}
use Rattle.td_checker.proofs.checking.first_bad.Goals as goal

pub overflow_add-result : goal.overflow_add-result
overflow_add-result c =
    let given = setting c.args.circuit.now in
    let certificate = c.args.certificate.now in
    let place = c.loop-node.node-index in
    let cube = c.loop-node.walk.cube in
    let path = reverse c.loop-node.walk.path.items in
    let here : Node = c.node-item.result in
    let at : slice_get certificate.tree place ≡ Some here =
    node_at c.nodes-node-items.result.now certificate.tree place here c.nodes-node-items.ensures.nodes c.loop-node-test.true c.node-item.is in
    let judged : IsJudged given (asking_of certificate.question) (high_of certificate.claim) (with_cube cube here) c.in_ok-flaw.field-0 =
    subst (λ (m : Option ℕ). IsJudged given (asking_of certificate.question) m (with_cube cube here) c.in_ok-flaw.field-0) c.high_of-most.ensures c.in_ok-flaw.ensures.judged in
    let flawed : IsFlawed given (asking_of certificate.question) (high_of certificate.claim) (with_cube cube here) (flaw_of c.in-Bad.flaw c.in-Bad.place) c.in-Bad.place =
    rw c.in-Bad.is at judged in
    let within = counted_within certificate place c.loop-node.before (c.in-Bad.place + 1) cube path here c.loop-node.invariant.walk at c.loop-node.invariant.before (omega (arith, flawed.inside)) in
    omega (arith, within, c.requires.few)

pub returns-in-Bad-clause-judged : goal.returns-in-Bad-clause-judged
returns-in-Bad-clause-judged c =
    let given = setting c.args.circuit.now in
    let certificate = c.args.certificate.now in
    let place = c.loop-node.node-index in
    let cube = c.loop-node.walk.cube in
    let path = reverse c.loop-node.walk.path.items in
    let here : Node = c.node-item.result in
    let at : slice_get certificate.tree place ≡ Some here =
    node_at c.nodes-node-items.result.now certificate.tree place here c.nodes-node-items.ensures.nodes c.loop-node-test.true c.node-item.is in
    let judged : IsJudged given (asking_of certificate.question) (high_of certificate.claim) (with_cube cube here) c.in_ok-flaw.field-0 =
    subst (λ (m : Option ℕ). IsJudged given (asking_of certificate.question) m (with_cube cube here) c.in_ok-flaw.field-0) c.high_of-most.ensures c.in_ok-flaw.ensures.judged in
    let flawed : IsFlawed given (asking_of certificate.question) (high_of certificate.claim) (with_cube cube here) (flaw_of c.in-Bad.flaw c.in-Bad.place) c.in-Bad.place =
    rw c.in-Bad.is at judged in
    record {
      at = c.in-Bad.place;
      bad = found_bad given certificate place c.loop-node.before c.in-Bad.place cube path here (flaw_of c.in-Bad.flaw c.in-Bad.place) c.loop-node.invariant.walk at flawed c.loop-node.invariant.before
          c.loop-node.invariant.good;
    }

pub returns-in-Bad-clause-before : goal.returns-in-Bad-clause-before
returns-in-Bad-clause-before c =
    let given = setting c.args.circuit.now in
    let certificate = c.args.certificate.now in
    let place = c.loop-node.node-index in
    let cube = c.loop-node.walk.cube in
    let path = reverse c.loop-node.walk.path.items in
    let here : Node = c.node-item.result in
    let at : slice_get certificate.tree place ≡ Some here =
    node_at c.nodes-node-items.result.now certificate.tree place here c.nodes-node-items.ensures.nodes c.loop-node-test.true c.node-item.is in
    let judged : IsJudged given (asking_of certificate.question) (high_of certificate.claim) (with_cube cube here) c.in_ok-flaw.field-0 =
    subst (λ (m : Option ℕ). IsJudged given (asking_of certificate.question) m (with_cube cube here) c.in_ok-flaw.field-0) c.high_of-most.ensures c.in_ok-flaw.ensures.judged in
    let flawed : IsFlawed given (asking_of certificate.question) (high_of certificate.claim) (with_cube cube here) (flaw_of c.in-Bad.flaw c.in-Bad.place) c.in-Bad.place =
    rw c.in-Bad.is at judged in
    let within = counted_within certificate place c.loop-node.before (c.in-Bad.place + 1) cube path here c.loop-node.invariant.walk at c.loop-node.invariant.before (omega (arith, flawed.inside)) in
    omega (arith, within, c.requires.few)

pub overflow_add-before : goal.overflow_add-before
overflow_add-before c =
    let given = setting c.args.circuit.now in
    let certificate = c.args.certificate.now in
    let place = c.loop-node.node-index in
    let cube = c.loop-node.walk.cube in
    let path = reverse c.loop-node.walk.path.items in
    let here : Node = c.node-item.result in
    let at : slice_get certificate.tree place ≡ Some here =
    node_at c.nodes-node-items.result.now certificate.tree place here c.nodes-node-items.ensures.nodes c.loop-node-test.true c.node-item.is in
    let judged : IsJudged given (asking_of certificate.question) (high_of certificate.claim) (with_cube cube here) c.in_ok-flaw.field-0 =
    subst (λ (m : Option ℕ). IsJudged given (asking_of certificate.question) m (with_cube cube here) c.in_ok-flaw.field-0) c.high_of-most.ensures c.in_ok-flaw.ensures.judged in
    let good : IsGoodLine given (asking_of certificate.question) (high_of certificate.claim) (with_cube cube here) c.in-Good.lines = rw c.in-Good.is at judged in
    let within = counted_within certificate place c.loop-node.before c.in-Good.lines cube path here c.loop-node.invariant.walk at c.loop-node.invariant.before (omega (arith, good.count_is)) in
    omega (arith, within, c.requires.few)

pub loop-node-preserved : goal.loop-node-preserved
loop-node-preserved c =
    let given = setting c.args.circuit.now in
    let certificate = c.args.certificate.now in
    let place = c.loop-node.node-index in
    let cube = c.loop-node.walk.cube in
    let path = reverse c.loop-node.walk.path.items in
    let here : Node = c.node-item.result in
    let at : slice_get certificate.tree place ≡ Some here =
    node_at c.nodes-node-items.result.now certificate.tree place here c.nodes-node-items.ensures.nodes c.loop-node-test.true c.node-item.is in
    let judged : IsJudged given (asking_of certificate.question) (high_of certificate.claim) (with_cube cube here) c.in_ok-flaw.field-0 =
    subst (λ (m : Option ℕ). IsJudged given (asking_of certificate.question) m (with_cube cube here) c.in_ok-flaw.field-0) c.high_of-most.ensures c.in_ok-flaw.ensures.judged in
    let good : IsGoodLine given (asking_of certificate.question) (high_of certificate.claim) (with_cube cube here) c.in-Good.lines = rw c.in-Good.is at judged in
    record {
      walk = passed certificate place cube c.pass.new.self.cube path (reverse c.pass.new.self.path.items) here
          c.loop-node.invariant.walk at c.in_ok-pass-in-Good.ensures.next c.in_ok-pass-in-Good.ensures.inside c.in_ok-pass-in-Good.ensures.length;
      scratch = c.in_ok-flaw.ensures.scratch;
      good = good_more given certificate place cube path here c.loop-node.invariant.walk at good.good c.loop-node.invariant.good;
      before = counted_more certificate place c.loop-node.before c.in-Good.lines cube path here c.loop-node.invariant.walk at c.loop-node.invariant.before good.count_is;
    }

pub returns-clause-judged : goal.returns-clause-judged
returns-clause-judged c =
    let certificate = c.args.certificate.now in
    let few : length certificate.tree ≤ c.loop-node.node-index =
    omega (arith, ap length c.nodes-node-items.ensures.nodes, c.loop-node-test.false) in
    all_good (setting c.args.circuit.now) certificate c.loop-node.node-index c.loop-node.walk.cube
    (reverse c.loop-node.walk.path.items) c.loop-node.invariant.walk few c.loop-node.invariant.good
