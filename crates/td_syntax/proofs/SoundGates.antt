-- What the readers of gates take.
use Rattle.std.proofs.Common.{◌≡◌, ℕ, zero, suc, ◌+◌, ◌-◌, ◌≤◌, ◌<◌, Bool, true, false, cond, List, [], ◌∷◌, ◌++◌, length, take, drop, Option, None, Some, is_some, Ok, Err, refl, sym, ap, subst, ◌∙◌, arith, inl, inr}
use Rattle.std.specs.Prelude.{◌==◌, ◌&&◌, nat_lt}
use Rattle.std.specs.List.{AllByRecursion, sum_by}
use Rattle.std.proofs.lemmas.List.{append-nil}
use Rattle.std.proofs.lemmas.List.Sums.{sum_by-cons}
use Rattle.std.proofs.lemmas.Bool.{ltb-true, lt-ltb}
use Rattle.std.proofs.Math.Dec.{eqb-suc-zero}
use Rattle.td_gates.specs.declared.primitives.Kind.{Kind}
use Rattle.td_syntax.specs.declared.token.Symbol.TheVariants as symbol
use Rattle.td_syntax.specs.Token.{Token, Name, Escaped, Reserved, Number, Constant, Mark, Attribute, Directs, Outside}
use Rattle.td_syntax.specs.Token.{Placed, placed_on}
use Rattle.td_syntax.specs.Grammar as grammar
use Rattle.td_syntax.proofs.Plain.{plain}
use Rattle.td_syntax.specs.Grammar.{LiesWithin, IsNet, IsInstance, IsStatement, has_many_outputs, output_count, instance_gates}
use Rattle.td_syntax.proofs.Plain.{statement_gates}
use Rattle.td_syntax.specs.Faults.{Syntax, TooMany, fault, refused, ◌>>=◌}
use Rattle.td_syntax.specs.Readers.{Remainder, ListStep, More, Final, Done, is_mark, as_name, behind, many, next_at, whole_at, maybe_at, mark_at, maybe_mark_at}
use Rattle.td_syntax.specs.Parsing.{as_base, base_by, count_at, output_at, begin_terminal, more_terminals, end_terminals, terminal_end, bit_at, selected_by, selected_at, terminal_by, terminal_step, opening_refusal, opening_at, instance_at, instance_step, delay_at, statement_at}
use Rattle.td_syntax.proofs.Lists.{Shortens}
use Rattle.td_syntax.proofs.Takes.{Takes, takes_nothing, takes_then, regrouped, then_two, bind_ok, chosen, done, ok_is, err_is_no_ok, taken, next_takes, maybe_takes, names_classified, mark_taken, mark_takes, if_mark, maybe_mark_takes, MemberTakes, behind_never, behind_more, behind_final, AllFrom, gates_from, list_takes, list_shortens}
use Rattle.td_syntax.proofs.SoundDelays.{positive, whole_takes, delay_takes}

-- ---- terminals

base_spelled : (l : ℕ) (t : Token) (b : grammar.Terminal) → base_by l t ≡ Some b → plain (placed_on l t) ∷ [] ≡ grammar.terminal b
base_spelled l (Name w) b e = let same : grammar.Whole (record { name = w; line = l }) ≡ b = cc in ap (λ (x : grammar.Terminal). grammar.terminal x) same
base_spelled l (Escaped w) b e = let same : grammar.Whole (record { name = drop 1 w; line = l }) ≡ b = cc in ap (λ (x : grammar.Terminal). grammar.terminal x) same
base_spelled l (Constant c w) b e = let same : grammar.Level c ≡ b = cc in ap (λ (x : grammar.Terminal). grammar.terminal x) same
base_spelled l (Reserved k) b e = absurd cc
base_spelled l (Number n) b e = absurd cc
base_spelled l (Mark m) b e = absurd cc
base_spelled l Attribute b e = absurd cc
base_spelled l (Directs d w) b e = absurd cc
base_spelled l (Outside w) b e = absurd cc

pub count_takes : (line : ℕ) (s rest : Remainder) → count_at line s ≡ Ok rest → Takes s [] 1 rest
unfolding count_at
count_takes line s rest e =
    let t = taken (nat_lt s.gates 200000) (done (record { stream = s.stream; gates = s.gates + 1 })) (fault TooMany line) rest e in
    subst (λ (u : Remainder). Takes s [] 1 u) (ok_is _ rest t.1) (record { tokens = refl; stop = refl; counted = refl; within = λ le. omega (arith, ltb-true _ _ t.0) })

output_takes : (line : ℕ) (t : grammar.Terminal) (s rest : Remainder) → output_at line t s ≡ Ok rest → Takes s [] 1 rest × IsNet t
unfolding output_at
output_takes line (grammar.Whole n) s rest e = (count_takes line s rest e, tt)
output_takes line (grammar.Select n digits) s rest e = (count_takes line s rest e, tt)
output_takes line (grammar.Level b) s rest e = absurd (err_is_no_ok _ rest (sym e))

-- the gates that a terminal makes as it begins, and those that it makes after a comma
abbrev pub first_gates : ℕ → ℕ
first_gates k = cond (k == 0) 1 0

abbrev pub later_gates : Kind → ℕ → ℕ
later_gates kind k = cond (has_many_outputs kind && nat_lt 0 k) 1 0

-- no constant where it is an output
abbrev pub OutputIf : Bool → grammar.Terminal → Type 0
OutputIf true t = IsNet t
OutputIf false t = Unit {0}

begin_by : (line : ℕ) (t : grammar.Terminal) (s rest : Remainder) (b : Bool) → cond b (output_at line t s) (Ok s) ≡ Ok rest → Takes s [] (cond b 1 0) rest × OutputIf b t
begin_by line t s rest true e = output_takes line t s rest e
begin_by line t s rest false e = (subst (λ (u : Remainder). Takes s [] 0 u) (ok_is s rest e) (takes_nothing s), tt)

begin_takes : (k line : ℕ) (t : grammar.Terminal) (s rest : Remainder) → begin_terminal k line t s ≡ Ok rest → Takes s [] (first_gates k) rest × (k < 1024) × OutputIf (k == 0) t
unfolding begin_terminal
begin_takes k line t s rest e =
    let h = taken (nat_lt k 1024) (cond (k == 0) (output_at line t s) (Ok s)) (fault TooMany line) rest e in
    let b = begin_by line t s rest (k == 0) h.1 in
    (b.0, ltb-true _ _ h.0, b.1)

more_terminals_take : (kind : Kind) (k line : ℕ) (t : grammar.Terminal) (s rest : Remainder) → more_terminals kind k line t s ≡ Ok rest → Takes s [] (later_gates kind k) rest × OutputIf (has_many_outputs kind && nat_lt 0 k) t
unfolding more_terminals
more_terminals_take kind k line t s rest e = begin_by line t s rest (has_many_outputs kind && nat_lt 0 k) e

end_terminals_take : (k line : ℕ) (s rest : Remainder) → end_terminals k line s ≡ Ok rest → Takes s [] 0 rest × (1 ≤ k)
unfolding end_terminals
end_terminals_take k line s rest e = by (k == 0) refl e
  where
    by : (b : Bool) → (k == 0) ≡ b → cond b (Err (fault Syntax line)) (Ok s) ≡ Ok rest → Takes s [] 0 rest × (1 ≤ k)
    by true is e = absurd (err_is_no_ok _ rest (sym e))
    by false is e = (subst (λ (u : Remainder). Takes s [] 0 u) (ok_is s rest e) (takes_nothing s), positive k is)

-- what follows a terminal, by the step
abbrev TerminalEnd : Kind → ℕ → grammar.Terminal → Remainder → ListStep grammar.Terminal × Remainder → Type 0
TerminalEnd kind k t s x = elim x.0 [
  | More m ↦ Takes s (grammar.mark symbol.Comma) (later_gates kind k) x.1 × (t ≡ m) × OutputIf (has_many_outputs kind && nat_lt 0 k) t
  | Final m ↦ Takes s (grammar.mark symbol.Close) 0 x.1 × (t ≡ m) × (1 ≤ k)
  | Done ↦ ⊥
]

terminal_end_takes : (kind : Kind) (k line : ℕ) (n : grammar.Terminal) (s : Remainder) (x : ListStep grammar.Terminal × Remainder) → terminal_end kind k line n s ≡ Ok x → TerminalEnd kind k n s x
unfolding terminal_end
terminal_end_takes kind k line n s x e =
    let b = bind_ok (next_at s) (λ p. cond (is_mark symbol.Comma p.0.token) (more_terminals kind k line n p.1 >>= λ rest. Ok (More n, rest)) (cond (is_mark symbol.Close p.0.token) (end_terminals k p.0.line p.1 >>= λ rest. Ok (Final n, rest)) (Err (refused p.0)))) x e in
    elim (chosen (is_mark symbol.Comma b.0.0.token) (more_terminals kind k line n b.0.1 >>= λ rest. Ok (More n, rest)) (cond (is_mark symbol.Close b.0.0.token) (end_terminals k b.0.0.line b.0.1 >>= λ rest. Ok (Final n, rest)) (Err (refused b.0.0))) (Ok x) b.2) [
      | inl h ↦
          let m = bind_ok (more_terminals kind k line n b.0.1) (λ rest. Ok (More n, rest)) x h.1 in
          let more = more_terminals_take kind k line n b.0.1 m.0 m.1 in
          let t = takes_then s (grammar.mark symbol.Comma) 0 b.0.1 [] (later_gates kind k) m.0 (mark_taken symbol.Comma s b.0 b.1 h.0) more.0 in
          subst (TerminalEnd kind k n s) (ok_is (More n, m.0) x m.2) (regrouped s _ _ _ _ m.0 refl (omega arith) t, refl, more.1)
      | inr h ↦
          let c = taken (is_mark symbol.Close b.0.0.token) (end_terminals k b.0.0.line b.0.1 >>= λ rest. Ok (Final n, rest)) (refused b.0.0) x h.1 in
          let m = bind_ok (end_terminals k b.0.0.line b.0.1) (λ rest. Ok (Final n, rest)) x c.1 in
          let end = end_terminals_take k b.0.0.line b.0.1 m.0 m.1 in
          let t = takes_then s (grammar.mark symbol.Close) 0 b.0.1 [] 0 m.0 (mark_taken symbol.Close s b.0 b.1 c.0) end.0 in
          subst (TerminalEnd kind k n s) (ok_is (Final n, m.0) x m.2) (t, refl, end.1)
    ]

bit_takes : (s : Remainder) (x : List ℕ × Remainder) → bit_at s ≡ Ok x → Takes s (grammar.whole x.0 ++ grammar.mark symbol.RightBracket) 0 x.1
unfolding bit_at
bit_takes s x e =
    let a = bind_ok (whole_at s) (λ digits. mark_at symbol.RightBracket digits.1 >>= λ rest. Ok (digits.0, rest)) x e in
    let b = bind_ok (mark_at symbol.RightBracket a.0.1) (λ rest. Ok (a.0.0, rest)) x a.2 in
    subst (λ (y : List ℕ × Remainder). Takes s (grammar.whole y.0 ++ grammar.mark symbol.RightBracket) 0 y.1) (ok_is (a.0.0, b.0) x b.2)
    (takes_then s (grammar.whole a.0.0) 0 a.0.1 (grammar.mark symbol.RightBracket) 0 b.0 (whole_takes s a.0 a.1) (mark_takes symbol.RightBracket a.0.1 b.0 b.1))

-- what follows the name or constant of a terminal
pub record Selected (base : grammar.Terminal) (s : Remainder) (x : grammar.Terminal × Remainder) : Type 0 where
  pub behind : List Placed
  pub text : grammar.terminal base ++ behind ≡ grammar.terminal x.0
  pub takes : Takes s behind 0 x.1
  pub net : IsNet base → IsNet x.0

not_selected : (base : grammar.Terminal) (s : Remainder) (x : grammar.Terminal × Remainder) → done (base, s) ≡ Ok x → Selected base s x
not_selected base s x e =
    subst (Selected base s) (ok_is (base, s) x e) (record { behind = []; text = append-nil (grammar.terminal base); takes = takes_nothing s; net = λ h. h })

selected_by_takes : (n : grammar.Name) (s : Remainder) (b : Bool) (u : Remainder) (x : grammar.Terminal × Remainder) → Takes s (if_mark symbol.LeftBracket b) 0 u → selected_by n (b, u) ≡ Ok x → Selected (grammar.Whole n) s x
selected_by_takes n s true u x t e =
    let d = bind_ok (bit_at u) (λ digits. Ok (grammar.Select n digits.0, digits.1)) x e in
    let whole = takes_then s (grammar.mark symbol.LeftBracket) 0 u (grammar.whole d.0.0 ++ grammar.mark symbol.RightBracket) 0 d.0.1 t (bit_takes u d.0 d.1) in
    subst (Selected (grammar.Whole n) s) (ok_is (grammar.Select n d.0.0, d.0.1) x d.2)
    (record { behind = grammar.mark symbol.LeftBracket ++ (grammar.whole d.0.0 ++ grammar.mark symbol.RightBracket); text = refl; takes = whole; net = λ h. tt })
selected_by_takes n s false u x t e =
    subst (Selected (grammar.Whole n) s) (ok_is (grammar.Whole n, u) x e) (record { behind = []; text = refl; takes = t; net = λ h. tt })

pub selected_takes : (base : grammar.Terminal) (s : Remainder) (x : grammar.Terminal × Remainder) → selected_at base s ≡ Ok x → Selected base s x
unfolding selected_at
selected_takes (grammar.Whole n) s x e =
    let b = bind_ok (maybe_mark_at symbol.LeftBracket s) (selected_by n) x e in
    selected_by_takes n s b.0.0 b.0.1 x (maybe_mark_takes symbol.LeftBracket s b.0 b.1) b.2
selected_takes (grammar.Select n digits) s x e = not_selected (grammar.Select n digits) s x e
selected_takes (grammar.Level b) s x e = not_selected (grammar.Level b) s x e

abbrev pub MoreTerminal : Kind → ℕ → grammar.Terminal → Type 0
MoreTerminal kind k t = (k < 1024) × OutputIf (k == 0) t × OutputIf (has_many_outputs kind && nat_lt 0 k) t

abbrev pub LastTerminal : ℕ → grammar.Terminal → Type 0
LastTerminal k t = (k < 1024) × (1 ≤ k)

abbrev pub more_gates : Kind → ℕ → grammar.Terminal → ℕ
more_gates kind k t = first_gates k + later_gates kind k

abbrev pub last_gates : ℕ → grammar.Terminal → ℕ
last_gates k t = first_gates k

output_if : (b : Bool) (base t : grammar.Terminal) → (IsNet base → IsNet t) → OutputIf b base → OutputIf b t
output_if true base t net h = net h
output_if false base t net h = tt

-- a terminal and what follows it
record Terminal (kind : Kind) (k : ℕ) (s : Remainder) (x : ListStep grammar.Terminal × Remainder) : Type 0 where
  terminal : grammar.Terminal
  mid : Remainder
  takes : Takes s (grammar.terminal terminal) (first_gates k) mid
  within : k < 1024
  first : OutputIf (k == 0) terminal
  end : TerminalEnd kind k terminal mid x

terminal_from : (kind : Kind) (k : ℕ) (s rest : Remainder) (p : Placed) (o : Option grammar.Terminal) (x : ListStep grammar.Terminal × Remainder) → as_base p ≡ o → Takes s (plain p ∷ []) 0 rest → terminal_by kind k p rest o ≡ Ok x → Terminal kind k s x
terminal_from kind k s rest p None x is t e = absurd (err_is_no_ok _ x (sym e))
terminal_from kind k s rest p (Some base) x is t e =
    let v = bind_ok (begin_terminal k p.line base rest >>= selected_at base) (λ y. terminal_end kind k p.line y.0 y.1) x e in
    let b = bind_ok (begin_terminal k p.line base rest) (selected_at base) v.0 v.1 in
    let begins = begin_takes k p.line base rest b.0 b.1 in
    let selects = selected_takes base b.0 v.0 b.2 in
    let t1 = takes_then s (plain p ∷ []) 0 rest [] (first_gates k) b.0 t begins.0 in
    let t2 = takes_then s _ _ b.0 selects.behind 0 v.0.1 t1 selects.takes in
    let text : (plain p ∷ []) ++ [] ++ selects.behind ≡ grammar.terminal v.0.0 = ap (λ (ys : List Placed). ys ++ selects.behind) (append-nil (plain p ∷ []) ∙ base_spelled p.line p.token base is) ∙ selects.text in
    record {
      terminal = v.0.0;
      mid = v.0.1;
      takes = regrouped s _ _ _ _ v.0.1 text (omega arith) t2;
      within = begins.1;
      first = output_if (k == 0) base v.0.0 selects.net begins.2;
      end = terminal_end_takes kind k p.line v.0.0 v.0.1 x v.2;
    }

terminal_is : (kind : Kind) (k : ℕ) (s : Remainder) (x : ListStep grammar.Terminal × Remainder) → terminal_step kind k s ≡ Ok x → Terminal kind k s x
unfolding terminal_step
terminal_is kind k s x e =
    let a = bind_ok (next_at s) (λ p. terminal_by kind k p.0 p.1 (as_base p.0)) x e in
    terminal_from kind k s a.0.1 a.0.0 (as_base a.0.0) x refl (next_takes s a.0 a.1) a.2

pub terminal_member : (kind : Kind) → MemberTakes (terminal_step kind) grammar.terminal (MoreTerminal kind) LastTerminal (more_gates kind) last_gates (grammar.mark symbol.Close)
terminal_member kind = record {
  more = λ k s a rest e.
      let t = terminal_is kind k s (More a, rest) e in (
        subst (λ (n : grammar.Terminal). Takes s (grammar.terminal n ++ grammar.mark symbol.Comma) (more_gates kind k n) rest) t.end.1
            (takes_then s (grammar.terminal t.terminal) (first_gates k) t.mid (grammar.mark symbol.Comma) (later_gates kind k) rest t.takes t.end.0),
        subst (MoreTerminal kind k) t.end.1 (t.within, t.first, t.end.2),
      );
  final = λ k s a rest e.
      let t = terminal_is kind k s (Final a, rest) e in (
        subst (λ (n : grammar.Terminal). Takes s (grammar.terminal n ++ grammar.mark symbol.Close) (last_gates k n) rest) t.end.1
            (regrouped s _ _ _ _ rest refl (omega arith) (takes_then s (grammar.terminal t.terminal) (first_gates k) t.mid (grammar.mark symbol.Close) 0 rest t.takes t.end.0)),
        (t.within, t.end.2),
      );
  never = λ k s rest e. (terminal_is kind k s (Done, rest) e).end;
}

pub terminals_shorten : (kind : Kind) → Shortens (terminal_step kind)
terminals_shorten kind = list_shortens (terminal_step kind) grammar.terminal (MoreTerminal kind) LastTerminal (more_gates kind) last_gates (grammar.mark symbol.Close) (terminal_member kind)

-- from the second terminal on
later_count : Bool → ℕ → ℕ
later_count true n = n - 1
later_count false n = 0

later_is : (kind : Kind) (b : Bool) → has_many_outputs kind ≡ b → (k : ℕ) (xs : List grammar.Terminal) → 1 ≤ length xs → gates_from (more_gates kind) last_gates (suc k) xs ≡ later_count b (length xs)
unfolding later_count
later_is kind b is k [] some = absurd (omega arith)
later_is kind true is k (a ∷ []) some = rw (eqb-suc-zero k) refl
later_is kind false is k (a ∷ []) some = rw (eqb-suc-zero k) refl
later_is kind true is k (a ∷ c ∷ cs) some =
    let rest = later_is kind true is (k + 1) (c ∷ cs) (omega arith) in
    let next : suc k + 1 ≡ suc (k + 1) = omega arith in
    rw (eqb-suc-zero k, is, next, rest, lt-ltb 0 (suc k) (omega arith)) (omega arith)
later_is kind false is k (a ∷ c ∷ cs) some =
    let rest = later_is kind false is (k + 1) (c ∷ cs) (omega arith) in
    let next : suc k + 1 ≡ suc (k + 1) = omega arith in
    rw (eqb-suc-zero k, is, next, rest) refl

count_by_kind : (kind : Kind) (b : Bool) → has_many_outputs kind ≡ b → (a c : grammar.Terminal) (cs : List grammar.Terminal) → gates_from (more_gates kind) last_gates 0 (a ∷ c ∷ cs) ≡ cond b (length (a ∷ c ∷ cs) - 1) 1
unfolding later_count
count_by_kind kind true is a c cs = rw (is, later_is kind true is 0 (c ∷ cs) (omega arith)) (omega arith)
count_by_kind kind false is a c cs = rw (is, later_is kind false is 0 (c ∷ cs) (omega arith)) refl

pub terminal_count : (kind : Kind) (xs : List grammar.Terminal) → 2 ≤ length xs → gates_from (more_gates kind) last_gates 0 xs ≡ output_count kind (length xs)
terminal_count kind [] two = absurd (omega arith)
terminal_count kind (a ∷ []) two = absurd (omega arith)
terminal_count kind (a ∷ c ∷ cs) two = count_by_kind kind (has_many_outputs kind) refl a c cs

terminals_within : (kind : Kind) (k : ℕ) (xs : List grammar.Terminal) → AllFrom (MoreTerminal kind) LastTerminal k xs → (2 ≤ k + length xs) × (k + length xs ≤ 1024)
terminals_within kind k [] h = absurd h
terminals_within kind k (a ∷ []) h = (omega (arith, h.1), omega (arith, h.0))
terminals_within kind k (a ∷ c ∷ cs) h =
    let rest = terminals_within kind (k + 1) (c ∷ cs) h.1 in
    (omega (arith, rest.0), omega (arith, rest.1))

output_here : (kind : Kind) (k : ℕ) (t : grammar.Terminal) → has_many_outputs kind ≡ true → MoreTerminal kind k t → IsNet t
output_here kind zero t is h = h.1
output_here kind (suc k) t is h = let both : (has_many_outputs kind && nat_lt 0 (suc k)) ≡ true = rw (is, lt-ltb 0 (suc k) (omega arith)) refl in subst (λ (b : Bool). OutputIf b t) both h.2

-- all but the last are outputs
all_outputs : (kind : Kind) (k : ℕ) (xs : List grammar.Terminal) (n : ℕ) → has_many_outputs kind ≡ true → suc n ≡ length xs → AllFrom (MoreTerminal kind) LastTerminal k xs → AllByRecursion IsNet (take n xs)
all_outputs kind k [] n is e h = absurd h
all_outputs kind k (a ∷ []) zero is e h = tt
all_outputs kind k (a ∷ []) (suc n) is e h = absurd (omega (arith, e))
all_outputs kind k (a ∷ b ∷ bs) zero is e h = absurd (omega (arith, e))
all_outputs kind k (a ∷ b ∷ bs) (suc n) is e h = (output_here kind k a is h.0, all_outputs kind (k + 1) (b ∷ bs) n is (omega (arith, e)) h.1)

outputs_by : (kind : Kind) (b : Bool) (xs : List grammar.Terminal) → has_many_outputs kind ≡ b → 2 ≤ length xs → AllFrom (MoreTerminal kind) LastTerminal 0 xs → AllByRecursion IsNet (take (cond b (length xs - 1) 1) xs)
outputs_by kind true xs is two h = all_outputs kind 0 xs (length xs - 1) is (omega (arith, two)) h
outputs_by kind false [] is two h = absurd h
outputs_by kind false (a ∷ []) is two h = absurd (omega (arith, two))
outputs_by kind false (a ∷ b ∷ bs) is two h = (h.0.1, tt)

pub terminals_take : (kind : Kind) (s : Remainder) (y : List grammar.Terminal × Remainder) → many (terminal_step kind) s ≡ Ok y
    → Takes s (grammar.separated grammar.terminal y.0 ++ grammar.mark symbol.Close) (output_count kind (length y.0)) y.1 × LiesWithin 2 1024 (length y.0) × AllByRecursion IsNet (take (output_count kind (length y.0)) y.0)
terminals_take kind s y e =
    let l = list_takes (terminal_step kind) grammar.terminal (MoreTerminal kind) LastTerminal (more_gates kind) last_gates (grammar.mark symbol.Close) (terminal_member kind) 0 s y e in
    let w = terminals_within kind 0 y.0 l.holds in
    let low : 2 ≤ length y.0 = omega (arith, w.0) in
    (regrouped s _ _ _ _ y.1 refl (terminal_count kind y.0 low) l.takes, (low, omega (arith, w.1)), outputs_by kind (has_many_outputs kind) y.0 refl low l.holds)

-- ---- instances

pub opening_takes : (named : Bool) (s rest : Remainder) → opening_at named s ≡ Ok rest → Takes s (grammar.mark symbol.Open) 0 rest
unfolding opening_at
opening_takes named s rest e =
    let b = bind_ok (next_at s) (λ p. cond (is_mark symbol.Open p.0.token) (Ok p.1) (Err (opening_refusal named p.0))) rest e in
    let t = taken (is_mark symbol.Open b.0.0.token) (Ok b.0.1) (opening_refusal named b.0.0) rest b.2 in
    subst (λ (u : Remainder). Takes s (grammar.mark symbol.Open) 0 u) (ok_is b.0.1 rest t.1) (mark_taken symbol.Open s b.0 b.1 t.0)

pub instance_takes : (kind : Kind) (s : Remainder) (x : grammar.Instance × Remainder) → instance_at kind s ≡ Ok x → Takes s (grammar.instance x.0) (instance_gates kind x.0) x.1 × IsInstance kind x.0
unfolding instance_at
instance_takes kind s x e =
    let n = bind_ok (maybe_at as_name s) _ x e in
    let a = bind_ok (opening_at (is_some n.0.0) n.0.1) _ x n.2 in
    let b = bind_ok (many (terminal_step kind) a.0) _ x a.2 in
    let made : grammar.Instance × Remainder = (record { name = n.0.0; terminals = b.0.0 }, b.0.1) in
    let t1 = takes_then s (grammar.optional grammar.name n.0.0) 0 n.0.1 (grammar.mark symbol.Open) 0 a.0 (maybe_takes as_name grammar.name names_classified s n.0 n.1) (opening_takes (is_some n.0.0) n.0.1 a.0 a.1) in
    let list = terminals_take kind a.0 b.0 b.1 in
    let whole = then_two s (grammar.optional grammar.name n.0.0 ++ grammar.mark symbol.Open) 0 a.0 (grammar.separated grammar.terminal b.0.0) (grammar.mark symbol.Close) (output_count kind (length b.0.0)) b.0.1 t1 list.0 in
    subst (λ (y : grammar.Instance × Remainder). Takes s (grammar.instance y.0) (instance_gates kind y.0) y.1 × IsInstance kind y.0) (ok_is made x b.2)
    (regrouped s _ _ _ _ b.0.1 refl (omega arith) whole, record { terminals = list.1; outputs = list.2 })

abbrev pub AnInstance : Kind → ℕ → grammar.Instance → Type 0
AnInstance kind k i = IsInstance kind i

abbrev pub its_gates : Kind → ℕ → grammar.Instance → ℕ
its_gates kind k i = instance_gates kind i

pub instance_member : (kind : Kind) → MemberTakes (instance_step kind) grammar.instance (AnInstance kind) (AnInstance kind) (its_gates kind) (its_gates kind) (grammar.mark symbol.Semicolon)
unfolding instance_step
instance_member kind = record {
  more = λ k s a rest e.
      let m = bind_ok (instance_at kind s) (λ i. behind symbol.Semicolon i.0 i.1) (More a, rest) e in
      let i = instance_takes kind s m.0 m.1 in
      let b = behind_more grammar.instance symbol.Semicolon s m.0.0 (instance_gates kind m.0.0) m.0.1 a rest i.0 m.2 in
      (regrouped s _ _ _ _ rest refl (ap (instance_gates kind) b.0) b.1, subst (IsInstance kind) b.0 i.1);
  final = λ k s a rest e.
      let m = bind_ok (instance_at kind s) (λ i. behind symbol.Semicolon i.0 i.1) (Final a, rest) e in
      let i = instance_takes kind s m.0 m.1 in
      let b = behind_final grammar.instance symbol.Semicolon s m.0.0 (instance_gates kind m.0.0) m.0.1 a rest i.0 m.2 in
      (regrouped s _ _ _ _ rest refl (ap (instance_gates kind) b.0) b.1, subst (IsInstance kind) b.0 i.1);
  never = λ k s rest e.
      let m = bind_ok (instance_at kind s) (λ i. behind symbol.Semicolon i.0 i.1) (Done, rest) e in
      behind_never symbol.Semicolon m.0.0 m.0.1 rest m.2;
}

pub instances_shorten : (kind : Kind) → Shortens (instance_step kind)
instances_shorten kind = list_shortens (instance_step kind) grammar.instance (AnInstance kind) (AnInstance kind) (its_gates kind) (its_gates kind) (grammar.mark symbol.Semicolon) (instance_member kind)

pub instances_count : (kind : Kind) (k : ℕ) (xs : List grammar.Instance) → gates_from (its_gates kind) (its_gates kind) k xs ≡ sum_by (instance_gates kind) xs
instances_count kind k [] = refl
instances_count kind k (a ∷ []) = omega (arith, sum_by-cons (instance_gates kind) a [])
instances_count kind k (a ∷ b ∷ bs) = omega (arith, sum_by-cons (instance_gates kind) a (b ∷ bs), instances_count kind (k + 1) (b ∷ bs))

instances_hold : (kind : Kind) (k : ℕ) (xs : List grammar.Instance) → AllFrom (AnInstance kind) (AnInstance kind) k xs → (1 ≤ length xs) × AllByRecursion (IsInstance kind) xs
instances_hold kind k [] h = absurd h
instances_hold kind k (a ∷ []) h = (omega arith, (h, tt))
instances_hold kind k (a ∷ b ∷ bs) h = (omega arith, (h.0, (instances_hold kind (k + 1) (b ∷ bs) h.1).1))

pub instances_take : (kind : Kind) (s : Remainder) (y : List grammar.Instance × Remainder) → many (instance_step kind) s ≡ Ok y
    → Takes s (grammar.separated grammar.instance y.0 ++ grammar.mark symbol.Semicolon) (sum_by (instance_gates kind) y.0) y.1 × (1 ≤ length y.0) × AllByRecursion (IsInstance kind) y.0
instances_take kind s y e =
    let l = list_takes (instance_step kind) grammar.instance (AnInstance kind) (AnInstance kind) (its_gates kind) (its_gates kind) (grammar.mark symbol.Semicolon) (instance_member kind) 0 s y e in
    let h = instances_hold kind 0 y.0 l.holds in
    (regrouped s _ _ _ _ y.1 refl (instances_count kind 0 y.0) l.takes, h.0, h.1)

-- after the word of the kind
abbrev pub statement_rest : grammar.Statement → List Placed
statement_rest g = grammar.delay g.delay ++ grammar.separated grammar.instance g.instances ++ grammar.mark symbol.Semicolon

pub statement_takes : (tens attributes : ℕ) (kind : Kind) (s : Remainder) (x : grammar.Statement × Remainder) → statement_at tens attributes kind s ≡ Ok x
    → Takes s (statement_rest x.0) (statement_gates x.0) x.1 × IsStatement tens x.0 × (x.0.kind ≡ kind) × (x.0.attributes ≡ attributes)
unfolding statement_at
statement_takes tens attributes kind s x e =
    let a = bind_ok (delay_at tens s) _ x e in
    let b = bind_ok (many (instance_step kind) a.0.1) _ x a.2 in
    let d = delay_takes tens s a.0 a.1 in
    let list = instances_take kind a.0.1 b.0 b.1 in
    let made : grammar.Statement × Remainder = (record { attributes = attributes; kind = kind; delay = a.0.0; instances = b.0.0 }, b.0.1) in
    let whole = then_two s (grammar.delay a.0.0) 0 a.0.1 (grammar.separated grammar.instance b.0.0) (grammar.mark symbol.Semicolon) (sum_by (instance_gates kind) b.0.0) b.0.1 d.0 list.0 in
    subst (λ (y : grammar.Statement × Remainder). Takes s (statement_rest y.0) (statement_gates y.0) y.1 × IsStatement tens y.0 × (y.0.kind ≡ kind) × (y.0.attributes ≡ attributes)) (ok_is made x b.2)
    (regrouped s _ _ _ _ b.0.1 refl (omega arith) whole, record { delay = d.1; instances = list.1; each = list.2 }, refl, refl)
