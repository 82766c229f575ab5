-- Statements of gates that the grammar derives are read.
use Rattle.std.proofs.Common.{◌≡◌, ℕ, zero, suc, ◌+◌, ◌-◌, ◌≤◌, ◌<◌, Bool, true, false, cond, List, [], ◌∷◌, ◌++◌, length, map, take, Option, None, Some, is_some, Result, Ok, refl, sym, ap, subst, ◌∙◌, arith}
use Rattle.std.specs.Prelude.{◌==◌, ◌&&◌, nat_lt}
use Rattle.std.specs.List.{AllByRecursion, sum_by}
use Rattle.std.proofs.lemmas.Bool.{lt-ltb}
use Rattle.std.proofs.Math.Dec.{eqb-suc-zero}
use Rattle.td_gates.specs.declared.primitives.Kind.{Kind}
use Rattle.td_syntax.specs.declared.token.Symbol.TheVariants as symbol
use Rattle.td_syntax.specs.Token.{Token, Name, Escaped, Reserved, Number, Constant, Mark, Attribute, Directs, Outside}
use Rattle.td_syntax.specs.Token.{Placed, placed_on}
use Rattle.td_syntax.specs.Tokens.{Stream}
use Rattle.td_syntax.specs.Grammar as grammar
use Rattle.td_syntax.proofs.Plain.{plain}
use Rattle.td_syntax.specs.Grammar.{LiesWithin, IsNet, IsInstance, IsStatement, has_many_outputs, output_count, instance_gates}
use Rattle.td_syntax.proofs.Plain.{statement_gates}
use Rattle.td_syntax.specs.Faults.{Fault}
use Rattle.td_syntax.specs.Readers.{Remainder, behind_front, is_mark, as_name, many, maybe_at}
use Rattle.td_syntax.specs.Parsing.{as_base, base_by, count_at, output_at, begin_terminal, more_terminals, end_terminals, terminal_end, bit_at, selected_at, terminal_step, opening_at, instance_at, instance_step, statement_at}
use Rattle.td_syntax.proofs.Takes.{next_takes, names_classified, maybe_takes, AllFrom, gates_from}
use Rattle.td_syntax.proofs.SoundDelays.{delay_takes}
use Rattle.td_syntax.proofs.SoundGates.{first_gates, later_gates, OutputIf, selected_takes, opening_takes, MoreTerminal, LastTerminal, more_gates, last_gates, terminal_member, terminals_shorten, terminal_count, AnInstance, its_gates, instance_member, instances_shorten, statement_rest, instances_count}
use Rattle.td_syntax.proofs.AgainTokens.{Reads, Passes, Begins, in_front, maybe_again, maybe_not, whole_again, mark_plain, mark_again, maybe_mark_again, maybe_mark_not, comma_again, end_again, MemberAgain, group4, group5, list_again}
use Rattle.td_syntax.proofs.AgainDelays.{delay_again}

-- ---- terminals

count_again : (line : ℕ) (s : Remainder) → s.gates + 1 ≤ 200000 → count_at line s ≡ Ok (record { stream = s.stream; gates = s.gates + 1 })
unfolding count_at
count_again line s le = let lt : s.gates < 200000 = omega (arith, le) in rw (lt-ltb s.gates 200000 lt) refl

-- the same tokens, with the gates counted
record Counts (read : Result Remainder Fault) (s : Remainder) (n : ℕ) : Type 0 where
  pub rest : Remainder
  pub gives : read ≡ Ok rest
  pub stream : rest.stream ≡ s.stream
  pub gates : rest.gates ≡ s.gates + n

output_again : (line : ℕ) (t : grammar.Terminal) (s : Remainder) → IsNet t → s.gates + 1 ≤ 200000 → output_at line t s ≡ Ok (record { stream = s.stream; gates = s.gates + 1 })
unfolding output_at
output_again line (grammar.Whole n) s h le = count_again line s le
output_again line (grammar.Select n digits) s h le = count_again line s le
output_again line (grammar.Level b) s h le = absurd h

counts_by : (line : ℕ) (t : grammar.Terminal) (s : Remainder) (b : Bool) → OutputIf b t → s.gates + cond b 1 0 ≤ 200000 → Counts (cond b (output_at line t s) (Ok s)) s (cond b 1 0)
counts_by line t s true h le = record { rest = record { stream = s.stream; gates = s.gates + 1 }; gives = output_again line t s h le; stream = refl; gates = refl }
counts_by line t s false h le = record { rest = s; gives = refl; stream = refl; gates = omega arith }

begin_again : (k line : ℕ) (t : grammar.Terminal) (s : Remainder) → k < 1024 → OutputIf (k == 0) t → s.gates + first_gates k ≤ 200000 → Counts (begin_terminal k line t s) s (first_gates k)
unfolding begin_terminal
begin_again k line t s lt h le =
    let c = counts_by line t s (k == 0) h le in
    record { rest = c.rest; gives = rw (lt-ltb k 1024 lt) c.gives; stream = c.stream; gates = c.gates }

later_again : (kind : Kind) (k line : ℕ) (t : grammar.Terminal) (s : Remainder) → OutputIf (has_many_outputs kind && nat_lt 0 k) t → s.gates + later_gates kind k ≤ 200000 → Counts (more_terminals kind k line t s) s (later_gates kind k)
unfolding more_terminals
later_again kind k line t s h le = counts_by line t s (has_many_outputs kind && nat_lt 0 k) h le

ends_again : (k line : ℕ) (s : Remainder) → 1 ≤ k → end_terminals k line s ≡ Ok s
unfolding end_terminals
ends_again zero line s le = absurd (omega arith)
ends_again (suc k) line s le = rw (eqb-suc-zero k) refl

-- the name or constant in front of a terminal
base_of : grammar.Terminal → grammar.Terminal
base_of (grammar.Whole n) = grammar.Whole n
base_of (grammar.Select n digits) = grammar.Whole n
base_of (grammar.Level b) = grammar.Level b

base_token : grammar.Terminal → Placed
base_token (grammar.Whole n) = placed_on n.line (Name n.name)
base_token (grammar.Select n digits) = placed_on n.line (Name n.name)
base_token (grammar.Level b) = placed_on 0 (Constant b [])

behind_base : grammar.Terminal → List Placed
behind_base (grammar.Whole n) = []
behind_base (grammar.Select n digits) = grammar.select digits
behind_base (grammar.Level b) = []

base_text : (t : grammar.Terminal) (more : List Placed) → grammar.terminal t ++ more ≡ base_token t ∷ (behind_base t ++ more)
unfolding base_token behind_base
base_text (grammar.Whole n) more = refl
base_text (grammar.Select n digits) more = refl
base_text (grammar.Level b) more = refl

base_found : (t : grammar.Terminal) → as_base (base_token t) ≡ Some (base_of t)
unfolding base_token base_of
base_found (grammar.Whole n) = refl
base_found (grammar.Select n digits) = refl
base_found (grammar.Level b) = refl

base_output : (b : Bool) (t : grammar.Terminal) → OutputIf b t → OutputIf b (base_of t)
unfolding base_of
base_output true (grammar.Whole n) h = tt
base_output true (grammar.Select n digits) h = tt
base_output true (grammar.Level b) h = h
base_output false t h = tt

base_plain : (l : ℕ) (t : Token) → base_by l t ≡ as_base (plain (placed_on l t))
base_plain l (Name w) = refl
base_plain l (Escaped w) = refl
base_plain l (Reserved k) = refl
base_plain l (Number n) = refl
base_plain l (Constant b w) = refl
base_plain l (Mark m) = refl
base_plain l Attribute = refl
base_plain l (Directs d w) = refl
base_plain l (Outside w) = refl

bit_again : (s : Remainder) (digits : List ℕ) (more : List Placed) → Begins s (grammar.whole digits ++ (grammar.mark symbol.RightBracket ++ more)) → Reads (bit_at s) digits more
unfolding bit_at
bit_again s digits more e =
    let a = whole_again s digits (grammar.mark symbol.RightBracket ++ more) e in
    let b = mark_again symbol.RightBracket a.rest more a.tokens in
    record { rest = b.rest; gives = rw (a.gives, b.gives) refl; tokens = b.tokens }

-- what follows a terminal is no [
selected_again : (t : grammar.Terminal) (s : Remainder) (u : Placed) (more : List Placed) → is_mark symbol.LeftBracket u.token ≡ false → Begins s (behind_base t ++ (u ∷ more)) → Reads (selected_at (base_of t) s) t (u ∷ more)
unfolding selected_at base_of behind_base
selected_again (grammar.Whole n) s u more other e =
    let a = maybe_mark_not symbol.LeftBracket s u more other e in
    record { rest = a.rest; gives = rw a.gives refl; tokens = a.tokens }
selected_again (grammar.Select n digits) s u more other e =
    let a = maybe_mark_again symbol.LeftBracket s (grammar.whole digits ++ (grammar.mark symbol.RightBracket ++ (u ∷ more))) e in
    let b = bit_again a.rest digits (u ∷ more) a.tokens in
    record { rest = b.rest; gives = rw (a.gives, b.gives) refl; tokens = b.tokens }
selected_again (grammar.Level b) s u more other e = record { rest = s; gives = refl; tokens = e }

-- a terminal up to the mark after it
record Reached (kind : Kind) (k : ℕ) (s : Remainder) (t : grammar.Terminal) (more : List Placed) : Type 0 where
  line : ℕ
  rest : Remainder
  gives : terminal_step kind k s ≡ terminal_end kind k line t rest
  tokens : Begins rest more
  gates : rest.gates ≡ s.gates + first_gates k

reached : (kind : Kind) (k : ℕ) (s : Remainder) (t : grammar.Terminal) (u : Placed) (more : List Placed) → k < 1024 → OutputIf (k == 0) t → s.gates + first_gates k ≤ 200000 → is_mark symbol.LeftBracket u.token ≡ false
    → Begins s (grammar.terminal t ++ (u ∷ more)) → Reached kind k s t (u ∷ more)
unfolding terminal_step
reached kind k s t u more lt h le other e =
    let f = in_front s (base_token t) (behind_base t ++ (u ∷ more)) (e ∙ base_text t (u ∷ more)) in
    let found : as_base f.placed ≡ Some (base_of t) = base_plain f.placed.line f.placed.token ∙ ap as_base f.same ∙ base_found t in
    let nt = next_takes s (f.placed, behind_front s) f.gives in
    let b = begin_again k f.placed.line (base_of t) (behind_front s) lt (base_output (k == 0) t h) (omega (arith, le, nt.counted)) in
    let tokens : Begins b.rest (behind_base t ++ (u ∷ more)) = ap (λ (r : Stream). map plain r.tokens) b.stream ∙ f.tokens in
    let c = selected_again t b.rest u more other tokens in
    let ct = (selected_takes (base_of t) b.rest (t, c.rest) c.gives).takes in
    record {
      line = f.placed.line;
      rest = c.rest;
      gives = rw (f.gives, found, b.gives, c.gives) refl;
      tokens = c.tokens;
      gates = omega (arith, nt.counted, b.gates, ct.counted);
    }

terminal_again_member : (kind : Kind) → MemberAgain (terminal_step kind) grammar.terminal (MoreTerminal kind) LastTerminal (more_gates kind) last_gates (grammar.mark symbol.Close)
unfolding terminal_end
terminal_again_member kind = record {
  more = λ k s a tail p le e.
      let r = reached kind k s a (placed_on 0 (Mark symbol.Comma)) tail p.0 p.1 (omega (arith, le)) refl e in
      let f = in_front r.rest (placed_on 0 (Mark symbol.Comma)) tail r.tokens in
      let c = later_again kind k r.line a (behind_front r.rest) p.2 (omega (arith, le, r.gates)) in
      record { rest = c.rest; gives = rw (r.gives, f.gives, mark_plain symbol.Comma f.placed _ f.same, c.gives) refl; tokens = ap (λ (t : Stream). map plain t.tokens) c.stream ∙ f.tokens };
  final = λ k s a tail p le e.
      let r = reached kind k s a (placed_on 0 (Mark symbol.Close)) tail p.0 (late_output k a p.1) (omega (arith, le)) refl e in
      let f = in_front r.rest (placed_on 0 (Mark symbol.Close)) tail r.tokens in
      record { rest = behind_front r.rest; gives = rw (r.gives, f.gives, mark_plain symbol.Comma f.placed _ f.same, mark_plain symbol.Close f.placed _ f.same, ends_again k f.placed.line (behind_front r.rest) p.1) refl; tokens = f.tokens };
}
  where
    late_output : (k : ℕ) (t : grammar.Terminal) → 1 ≤ k → OutputIf (k == 0) t
    late_output zero t le = absurd (omega arith)
    late_output (suc k) t le = subst (λ (b : Bool). OutputIf b t) (sym (eqb-suc-zero k)) tt

-- the first is an output, and so are those of buf and not but the last
no_output : (kind : Kind) (k : ℕ) (t : grammar.Terminal) → has_many_outputs kind ≡ false → OutputIf (has_many_outputs kind && nat_lt 0 k) t
no_output kind k t is = subst (λ (b : Bool). OutputIf (b && nat_lt 0 k) t) (sym is) tt

net_if : (b : Bool) (t : grammar.Terminal) → IsNet t → OutputIf b t
net_if true t h = h
net_if false t h = tt

later_if : (k : ℕ) (t : grammar.Terminal) → OutputIf (suc k == 0) t
later_if k t = subst (λ (b : Bool). OutputIf b t) (sym (eqb-suc-zero k)) tt

many_all : (kind : Kind) (k : ℕ) (xs : List grammar.Terminal) (n : ℕ) → suc n ≡ length xs → 2 ≤ k + length xs → k + length xs ≤ 1024 → AllByRecursion IsNet (take n xs) → AllFrom (MoreTerminal kind) LastTerminal k xs
many_all kind k [] n e low high h = absurd (omega (arith, e))
many_all kind k (x ∷ []) n e low high h = (omega arith, omega arith)
many_all kind k (x ∷ y ∷ ys) zero e low high h = absurd (omega (arith, e))
many_all kind k (x ∷ y ∷ ys) (suc n) e low high h =
    ((omega arith, net_if (k == 0) x h.0, net_if (has_many_outputs kind && nat_lt 0 k) x h.0), many_all kind (k + 1) (y ∷ ys) n (omega (arith, e)) (omega arith) (omega arith) h.1)

one_rest : (kind : Kind) (k : ℕ) (xs : List grammar.Terminal) → has_many_outputs kind ≡ false → 1 ≤ length xs → suc k + length xs ≤ 1024 → AllFrom (MoreTerminal kind) LastTerminal (suc k) xs
one_rest kind k [] is some high = absurd (omega arith)
one_rest kind k (x ∷ []) is some high = (omega arith, omega arith)
one_rest kind k (x ∷ y ∷ ys) is some high =
    let next : suc k + 1 ≡ suc (k + 1) = omega arith in
    ((omega arith, later_if k x, no_output kind (suc k) x is), subst (λ (j : ℕ). AllFrom (MoreTerminal kind) LastTerminal j (y ∷ ys)) (sym next) (one_rest kind (k + 1) (y ∷ ys) is (omega arith) (omega arith)))

terminals_all : (kind : Kind) (b : Bool) (xs : List grammar.Terminal) → has_many_outputs kind ≡ b → LiesWithin 2 1024 (length xs) → AllByRecursion IsNet (take (cond b (length xs - 1) 1) xs) → AllFrom (MoreTerminal kind) LastTerminal 0 xs
terminals_all kind true xs is within h = many_all kind 0 xs (length xs - 1) (omega (arith, within.0)) (omega (arith, within.0)) (omega (arith, within.1)) h
terminals_all kind false [] is within h = absurd (omega (arith, within.0))
terminals_all kind false (x ∷ []) is within h = absurd (omega (arith, within.0))
terminals_all kind false (x ∷ y ∷ ys) is within h =
    ((omega arith, h.0, no_output kind 0 x is), one_rest kind 0 (y ∷ ys) is (omega arith) (omega (arith, within.1)))

terminals_again : (kind : Kind) (xs : List grammar.Terminal) (s : Remainder) (tail : List Placed) → LiesWithin 2 1024 (length xs) → AllByRecursion IsNet (take (output_count kind (length xs)) xs) → s.gates + output_count kind (length xs) ≤ 200000
    → Begins s (grammar.separated grammar.terminal xs ++ (grammar.mark symbol.Close ++ tail)) → Reads (many (terminal_step kind) s) xs tail
terminals_again kind xs s tail within nets le e =
    let all = terminals_all kind (has_many_outputs kind) xs refl within nets in
    let room : s.gates + gates_from (more_gates kind) last_gates 0 xs ≤ 200000 = rw (terminal_count kind xs within.0) le in
    list_again (terminal_step kind) (terminals_shorten kind) grammar.terminal (MoreTerminal kind) LastTerminal (more_gates kind) last_gates (grammar.mark symbol.Close) (terminal_member kind) (terminal_again_member kind) 0 xs s tail all room e

-- ---- instances

opening_again : (named : Bool) (s : Remainder) (more : List Placed) → Begins s (grammar.mark symbol.Open ++ more) → Passes (opening_at named s) more
unfolding opening_at
opening_again named s more e =
    let f = in_front s (placed_on 0 (Mark symbol.Open)) more e in
    record { rest = behind_front s; gives = rw (f.gives, mark_plain symbol.Open f.placed (placed_on 0 (Mark symbol.Open)) f.same) refl; tokens = f.tokens }

optional_again : (s : Remainder) (o : Option grammar.Name) (more : List Placed) → Begins s (grammar.optional grammar.name o ++ (grammar.mark symbol.Open ++ more)) → Reads (maybe_at as_name s) o (grammar.mark symbol.Open ++ more)
optional_again s None more e = maybe_not as_name grammar.name names_classified s (placed_on 0 (Mark symbol.Open)) more refl e
optional_again s (Some n) more e = maybe_again as_name grammar.name names_classified s (placed_on n.line (Name n.name)) n (grammar.mark symbol.Open ++ more) refl e

instance_again : (kind : Kind) (s : Remainder) (i : grammar.Instance) (tail : List Placed) → IsInstance kind i → s.gates + instance_gates kind i ≤ 200000 → Begins s (grammar.instance i ++ tail) → Reads (instance_at kind s) i tail
unfolding instance_at
instance_again kind s i tail within le e =
    let terminals = grammar.separated grammar.terminal i.terminals in
    let split : Begins s (grammar.optional grammar.name i.name ++ (grammar.mark symbol.Open ++ (terminals ++ (grammar.mark symbol.Close ++ tail)))) = e ∙ group5 (grammar.optional grammar.name i.name) (grammar.mark symbol.Open) terminals (grammar.mark symbol.Close) tail in
    let o = optional_again s i.name (terminals ++ (grammar.mark symbol.Close ++ tail)) split in
    let m = opening_again (is_some i.name) o.rest (terminals ++ (grammar.mark symbol.Close ++ tail)) o.tokens in
    let ot = maybe_takes as_name grammar.name names_classified s (i.name, o.rest) o.gives in
    let mt = opening_takes (is_some i.name) o.rest m.rest m.gives in
    let n = terminals_again kind i.terminals m.rest tail within.terminals within.outputs (omega (arith, le, ot.counted, mt.counted)) m.tokens in
    record { rest = n.rest; gives = rw (o.gives, m.gives, n.gives) refl; tokens = n.tokens }

instance_again_member : (kind : Kind) → MemberAgain (instance_step kind) grammar.instance (AnInstance kind) (AnInstance kind) (its_gates kind) (its_gates kind) (grammar.mark symbol.Semicolon)
unfolding instance_step
instance_again_member kind = record {
  more = λ k s a tail p le e.
      let n = instance_again kind s a (grammar.mark symbol.Comma ++ tail) p le e in
      let b = comma_again symbol.Semicolon a n.rest tail n.tokens in
      record { rest = b.rest; gives = rw n.gives b.gives; tokens = b.tokens };
  final = λ k s a tail p le e.
      let n = instance_again kind s a (grammar.mark symbol.Semicolon ++ tail) p le e in
      let b = end_again symbol.Semicolon a n.rest tail refl n.tokens in
      record { rest = b.rest; gives = rw n.gives b.gives; tokens = b.tokens };
}

instances_all : (kind : Kind) (k : ℕ) (xs : List grammar.Instance) → 1 ≤ length xs → AllByRecursion (IsInstance kind) xs → AllFrom (AnInstance kind) (AnInstance kind) k xs
instances_all kind k [] some each = absurd (omega arith)
instances_all kind k (x ∷ []) some each = each.0
instances_all kind k (x ∷ y ∷ ys) some each = (each.0, instances_all kind (k + 1) (y ∷ ys) (omega arith) each.1)

instances_again : (kind : Kind) (xs : List grammar.Instance) (s : Remainder) (tail : List Placed) → 1 ≤ length xs → AllByRecursion (IsInstance kind) xs → s.gates + sum_by (instance_gates kind) xs ≤ 200000 → Begins s (grammar.separated grammar.instance xs ++ (grammar.mark symbol.Semicolon ++ tail)) → Reads (many (instance_step kind) s) xs tail
instances_again kind xs s tail some each le e =
    let room : s.gates + gates_from (its_gates kind) (its_gates kind) 0 xs ≤ 200000 = rw (instances_count kind 0 xs) le in
    list_again (instance_step kind) (instances_shorten kind) grammar.instance (AnInstance kind) (AnInstance kind) (its_gates kind) (its_gates kind) (grammar.mark symbol.Semicolon) (instance_member kind) (instance_again_member kind) 0 xs s tail (instances_all kind 0 xs some each) room e

-- what an instance begins with
abbrev NoHash : List Placed → Type 0
NoHash text = (t : Placed) × (more : List Placed) × (text ≡ t ∷ more) × (is_mark symbol.Hash t.token ≡ false)

instance_front : (i : grammar.Instance) (tail : List Placed) → NoHash (grammar.instance i ++ tail)
instance_front i tail = by i.name
  where
    by : (o : Option grammar.Name) → NoHash (grammar.optional grammar.name o ++ grammar.mark symbol.Open ++ grammar.separated grammar.terminal i.terminals ++ grammar.mark symbol.Close ++ tail)
    by None = (placed_on 0 (Mark symbol.Open), grammar.separated grammar.terminal i.terminals ++ grammar.mark symbol.Close ++ tail, refl, refl)
    by (Some n) = (placed_on n.line (Name n.name), grammar.mark symbol.Open ++ grammar.separated grammar.terminal i.terminals ++ grammar.mark symbol.Close ++ tail, refl, refl)

instances_front : (xs : List grammar.Instance) (tail : List Placed) → 1 ≤ length xs → NoHash (grammar.separated grammar.instance xs ++ tail)
unfolding grammar.separated
instances_front [] tail some = absurd (omega arith)
instances_front (i ∷ []) tail some = instance_front i tail
instances_front (i ∷ j ∷ js) tail some =
    let f = instance_front i (grammar.mark symbol.Comma ++ (grammar.separated grammar.instance (j ∷ js) ++ tail)) in
    (f.0, f.1, group4 (grammar.instance i) (grammar.mark symbol.Comma) (grammar.separated grammar.instance (j ∷ js)) tail ∙ f.2, f.3)

pub statement_again : (tens : ℕ) (g : grammar.Statement) (s : Remainder) (tail : List Placed) → IsStatement tens g → s.gates + statement_gates g ≤ 200000 → Begins s (statement_rest g ++ tail) → Reads (statement_at tens g.attributes g.kind s) g tail
unfolding statement_at
statement_again tens g s tail keeps le e =
    let list = grammar.separated grammar.instance g.instances in
    let behind = list ++ (grammar.mark symbol.Semicolon ++ tail) in
    let split : Begins s (grammar.delay g.delay ++ behind) = e ∙ group4 (grammar.delay g.delay) list (grammar.mark symbol.Semicolon) tail in
    let f = instances_front g.instances (grammar.mark symbol.Semicolon ++ tail) keeps.instances in
    let d = delay_again tens s g.delay f.0 f.1 keeps.delay f.3 (split ∙ ap (λ (text : List Placed). grammar.delay g.delay ++ text) f.2) in
    let dt = (delay_takes tens s (g.delay, d.rest) d.gives).0 in
    let l = instances_again g.kind g.instances d.rest tail keeps.instances keeps.each (omega (arith, le, dt.counted)) (d.tokens ∙ sym f.2) in
    record { rest = l.rest; gives = rw (d.gives, l.gives) refl; tokens = l.tokens }
