-- An honest run of one worker leads to a settled tree: the best is raised first, and then each node
-- is claimed and split or closed, in the tree's order.
use Rattle.std.proofs.Common.{◌≡◌, ℕ, zero, suc, ◌+◌, ◌<◌, ◌≤◌, max, List, [], ◌∷◌, ◌++◌, length, map, refl, sym, ap, subst, ◌∙◌, cond, append_assoc, arith}
use Rattle.std.specs.Prelude.{Contains, Some, slice_get, count_by, sum_by}
use Rattle.std.proofs.lemmas.List.{append-nil}
use Rattle.std.proofs.lemmas.List.Sums.{sum_by-append, sum_by-cons}
use Rattle.td_domain.specs.declared.cubes.Trit.{Trit}
use Rattle.td_domain.specs.declared.cubes.Trit.TheVariants.{Free}
use Rattle.td_domain.specs.Pairs.{Pair}
use Rattle.td_domain.specs.Cubes.{IsIn}
use Rattle.td_certificate.specs.Cubes.{zero_side, one_side, cubes_past}
use Rattle.td_book.specs.declared.lease.Lease.{Lease}
use Rattle.td_book.specs.declared.node.Mark.{Mark}
use Rattle.td_book.specs.declared.node.Node.{Node}
use Rattle.td_book.specs.declared.node.State.{State}
use Rattle.td_book.specs.declared.node.State.TheVariants.{Split, Open, Held, Closed}
use Rattle.td_book.specs.Board.{Board, Leaf, node, root, position_of, cubes_after, is_handled, allowance_of, handled, allowed}
use Rattle.td_book.specs.Steps.{World, Event, Reply, Claiming, Splitting, Closing, Grafting, Raising, Leased, Did, Saw, sees, HonestRun}
use Rattle.td_search.specs.CutShort.{Place, root_place, HadToSplit, AreSettled}
use Rattle.td_search.specs.CutShortLaws.{shape, TreesAreLedTo}
use Rattle.td_search.proofs.Wells.{cubes_of}

-- ---- lists of nodes

abbrev opened : List ℕ → List Node
opened [] = []
opened (n ∷ ns) = node n Open ∷ opened ns

abbrev count : List Node → ℕ
count xs = count_by (λ x. is_handled x.state) xs

abbrev out : List Node → ℕ
out xs = sum_by (λ x. allowance_of x.state) xs

abbrev shapes : List Node → List State
shapes xs = map (λ x. shape x.state) xs

count-append : (xs ys : List Node) → count (xs ++ ys) ≡ count xs + count ys
count-append xs ys = sum_by-append (λ (x : Node). cond (is_handled x.state) 1 0) xs ys

out-append : (xs ys : List Node) → out (xs ++ ys) ≡ out xs + out ys
out-append xs ys = sum_by-append (λ (x : Node). allowance_of x.state) xs ys

count-one : (x : Node) → count (x ∷ []) ≡ cond (is_handled x.state) 1 0
count-one x = let e : count (x ∷ []) ≡ cond (is_handled x.state) 1 0 + count [] = sum_by-cons (λ (y : Node). cond (is_handled y.state) 1 0) x [] in let z : count [] ≡ 0 = refl in omega arith

out-one : (x : Node) → out (x ∷ []) ≡ allowance_of x.state
out-one x = let e : out (x ∷ []) ≡ allowance_of x.state + out [] = sum_by-cons (λ (y : Node). allowance_of y.state) x [] in let z : out [] ≡ 0 = refl in omega arith

none_counted : (ns : List ℕ) → count (opened ns) ≡ 0
none_counted [] = refl
none_counted (n ∷ ns) =
    let e : count (opened (n ∷ ns)) ≡ 0 + count (opened ns) = sum_by-cons (λ (y : Node). cond (is_handled y.state) 1 0) (node n Open) (opened ns) in
    let h = none_counted ns in omega arith

none_out : (ns : List ℕ) → out (opened ns) ≡ 0
none_out [] = refl
none_out (n ∷ ns) =
    let e : out (opened (n ∷ ns)) ≡ 0 + out (opened ns) = sum_by-cons (λ (y : Node). allowance_of y.state) (node n Open) (opened ns) in
    let h = none_out ns in omega arith

glue : {A : Type 0} (xs : List A) (x : A) (ys : List A) → (xs ++ x ∷ []) ++ ys ≡ xs ++ x ∷ ys
glue xs x ys = simp append_assoc

shapes-append : (xs ys : List Node) → shapes (xs ++ ys) ≡ shapes xs ++ shapes ys
shapes-append [] ys = refl
shapes-append (x ∷ xs) ys = ap (λ (l : List State). shape x.state ∷ l) (shapes-append xs ys)

after-append : (cubes : List (List Trit)) (xs ys : List Node) → cubes_after cubes (xs ++ ys) ≡ cubes_after (cubes_after cubes xs) ys
after-append cubes [] ys = refl
after-append [] (x ∷ xs) [] = refl
after-append [] (x ∷ xs) (y ∷ ys) = refl
after-append (c ∷ cubes) (x ∷ xs) ys = after-append (cubes_past c (position_of x.state) cubes) xs ys

abbrev count_states : List State → ℕ
count_states states = count_by is_handled states

counted : (s : State) (states : List State) → count_states (s ∷ states) ≡ cond (is_handled s) 1 0 + count_states states
counted s states = sum_by-cons (λ t. cond (is_handled t) 1 0) s states

module _ (IsDelay : Pair → ℕ → Type 0) (IsBoundOf : List Trit → ℕ → Type 0) (SplitsAbove : List Trit → ℕ → Type 0) (top : List Trit) (best budget : ℕ) where
  abbrev Wide : List Trit → Type 0
  Wide cube = HadToSplit IsDelay IsBoundOf SplitsAbove best cube

  abbrev Settled : List Place → List State → Type 0
  Settled places states = AreSettled IsDelay IsBoundOf SplitsAbove best places states

  abbrev board : List Node → List Node → Board
  board nodes order = record { cube = top; workers = 1; budget = budget; nodes = nodes; order = order }

  abbrev world : List Node → List Node → (ℕ → ℕ) → World
  world nodes order seen = record { board = board nodes order; best = best; seen = seen }

  -- from here an honest run leads on to these states
  record LeadsOn (from : World) (states : List State) : Type 0 where
    events : List (Event × Reply)
    end : World
    run : HonestRun IsDelay from events end
    best_is : end.best ≡ best
    tree : shapes end.board.nodes ≡ states
    wide : (lease : Lease) (position : ℕ) → Contains events (Splitting lease position, Did) → Wide lease.cube
    no_graft : (lease : Lease) (done : List Leaf) → Contains events (Grafting lease done, Did) → ⊥

  -- two steps, which graft nothing, and the second of which splits only a cube that had to be split
  two_more : (s m t : World) (states : List State) (e f : Event) (r q : Reply) → HonestRun IsDelay s ((e, r) ∷ (f, q) ∷ []) t
      → ((lease : Lease) (position : ℕ) → e ≡ Splitting lease position → Wide lease.cube)
      → ((lease : Lease) (position : ℕ) → f ≡ Splitting lease position → Wide lease.cube)
      → ((lease : Lease) (done : List Leaf) → e ≡ Grafting lease done → ⊥) → ((lease : Lease) (done : List Leaf) → f ≡ Grafting lease done → ⊥)
      → LeadsOn t states → LeadsOn s states
  two_more s m t states e f r q run first second no_first no_second l =
      let one = run in
      let two = one.3 in
      record {
        events = (e, r) ∷ (f, q) ∷ l.events;
        end = l.end;
        run = (one.0, one.1, one.2, (two.0, two.1, two.2, subst (λ (w : World). HonestRun IsDelay w l.events l.end) two.3 l.run));
        best_is = l.best_is;
        tree = l.tree;
        wide = λ lease position has. at lease position has;
        no_graft = λ lease done has. no_graft_at lease done has;
      }
    where
      no_graft_at : (lease : Lease) (done : List Leaf) → Contains ((e, r) ∷ (f, q) ∷ l.events) (Grafting lease done, Did) → ⊥
      no_graft_at lease done (zero, lt, is) = no_first lease done (ap (λ (x : Event × Reply). x.0) is)
      no_graft_at lease done (suc zero, lt, is) = no_second lease done (ap (λ (x : Event × Reply). x.0) is)
      no_graft_at lease done (suc (suc k), lt, is) = l.no_graft lease done (k, omega arith, is)

      at : (lease : Lease) (position : ℕ) → Contains ((e, r) ∷ (f, q) ∷ l.events) (Splitting lease position, Did) → Wide lease.cube
      at lease position (zero, lt, is) = first lease position (ap (λ (x : Event × Reply). x.0) is)
      at lease position (suc zero, lt, is) = second lease position (ap (λ (x : Event × Reply). x.0) is)
      at lease position (suc (suc k), lt, is) = l.wide lease position (k, omega arith, is)

  abbrev lease_of : ℕ → List Trit → Lease
  lease_of n cube = record { worker = 0; number = n; cube = cube; allowance = 1 }

  module _ (done : List Node) (n : ℕ) (ns : List ℕ) (order : List Node) (seen : ℕ → ℕ) (cube : List Trit) (rest : List (List Trit))
      (cubes : cubes_after (top ∷ []) done ≡ cube ∷ rest) (none : out done ≡ 0) (space : count done < budget) (saw : seen 0 ≡ best) where
    abbrev before : World
    before = world (done ++ node n Open ∷ opened ns) order seen

    abbrev claimed : World
    claimed = world (done ++ node n (Held 0 1) ∷ opened ns) order seen

    handled_before : handled (board (done ++ node n Open ∷ opened ns) order) ≡ count done
    handled_before =
        let e = count-append done (node n Open ∷ opened ns) in
        let f : count (node n Open ∷ opened ns) ≡ 0 = none_counted (n ∷ ns) in omega arith

    allowed_before : allowed (board (done ++ node n Open ∷ opened ns) order) ≡ 0
    allowed_before =
        let e = out-append done (node n Open ∷ opened ns) in
        let f : out (node n Open ∷ opened ns) ≡ 0 = none_out (n ∷ ns) in omega arith

    -- the leaf is claimed and then closed
    closes : (mark : Mark) (bound : ℕ) → bound ≤ best → ((pair : Pair) (delay : ℕ) → IsIn pair cube → IsDelay pair delay → delay ≤ bound)
        → HonestRun IsDelay before ((Claiming 0, Leased (lease_of n cube)) ∷ (Closing (lease_of n cube) mark bound best, Did) ∷ [])
        (world ((done ++ node n (Closed mark bound best) ∷ []) ++ opened ns) (order ++ node n (Closed mark bound best) ∷ []) seen)
    closes mark bound within above =
        let h = handled_before in let a = allowed_before in (
          claimed,
          tt,
          ((refl, omega arith, omega arith, record { place = record { before = done; after = opened ns; rest = rest; is = refl; cube_is = cubes }; nodes = refl; settled = refl; root = refl; workers = refl; budget = refl }), (refl, λ v. refl)),
          (
            world ((done ++ node n (Closed mark bound best) ∷ []) ++ opened ns) (order ++ node n (Closed mark bound best) ∷ []) seen,
            (λ shown. (omega arith, above)),
            (
              (
                within,
                record {
                  place = record { before = done; after = opened ns; rest = rest; is = refl; cube_is = cubes };
                  nodes = glue done (node n (Closed mark bound best)) (opened ns);
                  settled = refl;
                  root = refl;
                  workers = refl;
                  budget = refl;
                },
              ),
              (refl, λ v. refl),
            ),
            refl,
          ),
        )

    abbrev next : ℕ
    next = length (done ++ node n (Held 0 1) ∷ opened ns)

    -- the leaf is claimed and then split
    splits : (position : ℕ) → slice_get cube position ≡ Some Free
        → HonestRun IsDelay before ((Claiming 0, Leased (lease_of n cube)) ∷ (Splitting (lease_of n cube) position, Did) ∷ [])
        (world ((done ++ node n (Split position) ∷ []) ++ opened (next ∷ (next + 1) ∷ ns)) (order ++ node n (Split position) ∷ []) seen)
    splits position free =
        let h = handled_before in let a = allowed_before in (
          claimed,
          tt,
          ((refl, omega arith, omega arith, record { place = record { before = done; after = opened ns; rest = rest; is = refl; cube_is = cubes }; nodes = refl; settled = refl; root = refl; workers = refl; budget = refl }), (refl, λ v. refl)),
          (
            world ((done ++ node n (Split position) ∷ []) ++ opened (next ∷ (next + 1) ∷ ns)) (order ++ node n (Split position) ∷ []) seen,
            tt,
            (
              (
                free,
                record {
                  place = record { before = done; after = opened ns; rest = rest; is = refl; cube_is = cubes };
                  nodes = glue done (node n (Split position)) (opened (next ∷ (next + 1) ∷ ns));
                  settled = refl;
                  root = refl;
                  workers = refl;
                  budget = refl;
                },
              ),
              (refl, λ v. refl),
            ),
            refl,
          ),
        )

  -- what is known once a node was passed
  passed_cubes : (done : List Node) (x : Node) (cube : List Trit) (rest : List (List Trit)) → cubes_after (top ∷ []) done ≡ cube ∷ rest
      → cubes_after (top ∷ []) (done ++ x ∷ []) ≡ cubes_past cube (position_of x.state) rest
  passed_cubes done x cube rest e = after-append (top ∷ []) done (x ∷ []) ∙ ap (λ (cubes : List (List Trit)). cubes_after cubes (x ∷ [])) e

  passed_shapes : (done : List Node) (x : Node) (shown : List State) → shapes (done ++ x ∷ []) ++ shown ≡ shapes done ++ shape x.state ∷ shown
  passed_shapes done x shown = ap (λ (l : List State). l ++ shown) (shapes-append done (x ∷ [])) ∙ glue (shapes done) (shape x.state) shown

  passed_count : (done : List Node) (x : Node) → count (done ++ x ∷ []) ≡ count done + cond (is_handled x.state) 1 0
  passed_count done x = let e = count-append done (x ∷ []) in let f = count-one x in omega arith

  passed_out : (done : List Node) (x : Node) → out (done ++ x ∷ []) ≡ out done + allowance_of x.state
  passed_out done x = let e = out-append done (x ∷ []) in let f = out-one x in omega arith

  leads_on : (states : List State) (places : List Place) (done : List Node) (ns : List ℕ) (order : List Node) (seen : ℕ → ℕ)
      → Settled places states → cubes_after (top ∷ []) done ≡ cubes_of places → length ns ≡ length places → out done ≡ 0
      → count done + count_states states ≤ budget → seen 0 ≡ best
      → LeadsOn (world (done ++ opened ns) order seen) (shapes done ++ map shape states)
  leads_on [] [] done [] order seen settled cubes long none space saw = record {
    events = [];
    end = world (done ++ []) order seen;
    run = refl;
    best_is = refl;
    tree = ap shapes (append-nil done) ∙ sym (append-nil (shapes done));
    wide = λ lease position has. absurd (let lt = has.1 in omega arith);
    no_graft = λ lease done has. let lt = has.1 in omega arith;
  }
  leads_on [] [] done (n ∷ ns) order seen settled cubes long none space saw = absurd (omega arith)
  leads_on [] (place ∷ places) done ns order seen settled cubes long none space saw = absurd settled
  leads_on (s ∷ states) [] done ns order seen settled cubes long none space saw = absurd settled
  leads_on (s ∷ states) (place ∷ places) done [] order seen settled cubes long none space saw = absurd (omega arith)
  leads_on (Open ∷ states) (place ∷ places) done (n ∷ ns) order seen settled cubes long none space saw =
      let x : Node = node n Open in
      let more = counted Open states in
      let one = passed_count done x in
      let zero_out = passed_out done x in
      let l = leads_on states places (done ++ x ∷ []) ns order seen settled.1 (passed_cubes done x place.cube (cubes_of places) cubes) (omega arith) (omega arith) (omega arith) saw in
      subst (λ (l : List Node). LeadsOn (world l order seen) (shapes done ++ Open ∷ map shape states)) (glue done x (opened ns))
      (subst (LeadsOn (world ((done ++ x ∷ []) ++ opened ns) order seen)) (passed_shapes done x (map shape states)) l)
  leads_on (Held w a ∷ states) (place ∷ places) done (n ∷ ns) order seen settled cubes long none space saw =
      let x : Node = node n Open in
      let more = counted (Held w a) states in
      let one = passed_count done x in
      let zero_out = passed_out done x in
      let l = leads_on states places (done ++ x ∷ []) ns order seen settled.1 (passed_cubes done x place.cube (cubes_of places) cubes) (omega arith) (omega arith) (omega arith) saw in
      subst (λ (l : List Node). LeadsOn (world l order seen) (shapes done ++ Open ∷ map shape states)) (glue done x (opened ns))
      (subst (LeadsOn (world ((done ++ x ∷ []) ++ opened ns) order seen)) (passed_shapes done x (map shape states)) l)
  leads_on (Closed mark bound cut ∷ states) (place ∷ places) done (n ∷ ns) order seen settled cubes long none space saw =
      let x : Node = node n (Closed mark bound best) in
      let more = counted (Closed mark bound cut) states in
      let one = passed_count done x in
      let zero_out = passed_out done x in
      let after : List Node = order ++ x ∷ [] in
      let t : World = world ((done ++ x ∷ []) ++ opened ns) after seen in
      let l = leads_on states places (done ++ x ∷ []) ns after seen settled.1 (passed_cubes done x place.cube (cubes_of places) cubes) (omega arith) (omega arith) (omega arith) saw in
      two_more (world (done ++ node n Open ∷ opened ns) order seen) t t (shapes done ++ Closed mark bound bound ∷ map shape states)
      (Claiming 0) (Closing (lease_of n place.cube) mark bound best) (Leased (lease_of n place.cube)) Did
      (closes done n ns order seen place.cube (cubes_of places) cubes none (omega arith) saw mark bound settled.0.0 settled.0.1)
      (λ lease position e. cc) (λ lease position e. cc) (λ lease grafted e. cc) (λ lease grafted e. cc)
      (subst (LeadsOn t) (passed_shapes done x (map shape states)) l)
  leads_on (Split position ∷ states) (place ∷ places) done (n ∷ ns) order seen settled cubes long none space saw =
      let x : Node = node n (Split position) in
      let more = counted (Split position) states in
      let one = passed_count done x in
      let zero_out = passed_out done x in
      let after : List Node = order ++ x ∷ [] in
      let number : ℕ = length (done ++ node n (Held 0 1) ∷ opened ns) in
      let both : List Place = record { cube = zero_side place.cube position; parent = place.cube } ∷ record { cube = one_side place.cube position; parent = place.cube } ∷ places in
      let t : World = world ((done ++ x ∷ []) ++ opened (number ∷ (number + 1) ∷ ns)) after seen in
      let l = leads_on states both (done ++ x ∷ []) (number ∷ (number + 1) ∷ ns) after seen settled.1 (passed_cubes done x place.cube (cubes_of places) cubes) (omega arith) (omega arith) (omega arith) saw in
      two_more (world (done ++ node n Open ∷ opened ns) order seen) t t (shapes done ++ Split position ∷ map shape states)
      (Claiming 0) (Splitting (lease_of n place.cube) position) (Leased (lease_of n place.cube)) Did
      (splits done n ns order seen place.cube (cubes_of places) cubes none (omega arith) saw position settled.0.0)
      (λ lease p e. cc) (λ lease p e. same_lease lease p e settled.0.1) (λ lease grafted e. cc) (λ lease grafted e. cc)
      (subst (LeadsOn t) (passed_shapes done x (map shape states)) l)
    where
      same_lease : (lease : Lease) (p : ℕ) → Splitting (lease_of n place.cube) position ≡ Splitting lease p → Wide place.cube → Wide lease.cube
      same_lease lease p e w = let same : lease_of n place.cube ≡ lease = cc in subst (λ (l : Lease). Wide l.cube) same w

pub trees_are_led_to : (IsDelay : Pair → ℕ → Type 0) (IsBoundOf : List Trit → ℕ → Type 0) (SplitsAbove : List Trit → ℕ → Type 0) → TreesAreLedTo IsDelay IsBoundOf SplitsAbove
trees_are_led_to IsDelay IsBoundOf SplitsAbove top pair best states inside reached settled =
    let budget : ℕ = count_states states in
    let word : ℕ = max 0 best in
    let same : word ≡ best = omega arith in
    let seen : ℕ → ℕ = sees (λ v. 0) 0 word in
    let l = leads_on IsDelay IsBoundOf SplitsAbove top best budget states (root_place top ∷ []) [] (0 ∷ []) [] seen settled refl refl refl (omega arith) same in
    let s : World = record { board = record { cube = top; workers = 1; budget = budget; nodes = root ∷ []; order = [] }; best = best; seen = seen } in
    record {
      workers = 1;
      budget = budget;
      events = (Raising 0 best, Saw word) ∷ l.events;
      end = l.end;
      run = (s, (pair, inside, reached), (refl, (refl, sym same, λ v. refl)), l.run);
      best = l.best_is;
      tree = l.tree;
      had_to_split = λ lease position has. at l.events l.wide lease position has;
      had_to_split_below = λ lease done leaf position has inside is. absurd (no_graft_at l.events l.no_graft lease done has);
    }
  where
    no_graft_at : (events : List (Event × Reply)) → ((lease : Lease) (done : List Leaf) → Contains events (Grafting lease done, Did) → ⊥)
        → (lease : Lease) (done : List Leaf) → Contains ((Raising 0 best, Saw (max 0 best)) ∷ events) (Grafting lease done, Did) → ⊥
    no_graft_at events none lease done (zero, lt, is) = let other : Raising 0 best ≡ Grafting lease done = ap (λ (x : Event × Reply). x.0) is in cc
    no_graft_at events none lease done (suc k, lt, is) = none lease done (k, omega arith, is)

    at : (events : List (Event × Reply)) → ((lease : Lease) (position : ℕ) → Contains events (Splitting lease position, Did) → HadToSplit IsDelay IsBoundOf SplitsAbove best lease.cube)
        → (lease : Lease) (position : ℕ) → Contains ((Raising 0 best, Saw (max 0 best)) ∷ events) (Splitting lease position, Did) → HadToSplit IsDelay IsBoundOf SplitsAbove best lease.cube
    at events wide lease position (zero, lt, is) = let other : Raising 0 best ≡ Splitting lease position = ap (λ (x : Event × Reply). x.0) is in cc
    at events wide lease position (suc k, lt, is) = wide lease position (k, omega arith, is)
