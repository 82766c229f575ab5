-- One turn of each loop.
use Rattle.std.proofs.Common.{◌≡◌, ℕ, suc, ◌+◌, ◌<◌, ◌≤◌, List, [], ◌∷◌, ◌++◌, length, map, take, drop, get_or, refl, arith, sym, ap, ◌∙◌, append_assoc, append-nil}
use Rattle.std.specs.Borrow.{Bor}
use Rattle.std.specs.List.{All}
use Rattle.std.proofs.lemmas.List.{length-map, map-append, take_more, take_all, drop_more, drop_all, get_or-map}
use Rattle.std.proofs.lemmas.List.Elements.{All-nil, All-append, All-map, All-head, All-tail}
use Rattle.std.proofs.lemmas.List.Concat.{flat_map-append}
use Rattle.td_gates.specs.declared.primitives.Level.{Level}
use Rattle.td_gates.specs.declared.primitives.Level.TheVariants.{Zero}
use Rattle.td_gates.specs.declared.timing.Change.{Change}
use Rattle.td_gates.specs.Wave.{Wave}
use Rattle.td_nets.specs.Netlist.{Name, Netlist}
use Rattle.td_run.specs.Waves.{AreWithin}
use Rattle.td_run.proofs.Turning.{change_origin}
use Rattle.td_vcd.specs.declared.events.Event.{Event}
use Rattle.td_vcd.specs.Text.{Line, Sets, ended, text_of, numbered, time_number, event_of, events_from, dump_head, declaration, start_line, dump_begins, dump_ends, change_lines, dump_lines, named_dump}
use Rattle.td_vcd.specs.Walks.{event_lines, lines_from}

-- ---- lines that are numbered

pub numbered_step : {A : Type 0} (line : ℕ → A → Line) (xs : List A) (i : ℕ) (x : A) → i < length xs → get_or xs i x ≡ x
    → text_of (numbered line i (drop i xs)) ≡ ended (line i x) ++ text_of (numbered line (i + 1) (drop (i + 1) xs))
numbered_step line xs i x inside is =
    let split : drop i xs ≡ x ∷ drop (i + 1) xs = drop_more xs i x inside ∙ ap (λ y. y ∷ drop (i + 1) xs) is in
    let next : suc i ≡ i + 1 = omega arith in
    ap (λ ys. text_of (numbered line i ys)) split
    ∙ ap (λ (n : ℕ). ended (line i x) ++ text_of (numbered line n (drop (i + 1) xs))) next

pub numbered_end : {A : Type 0} (line : ℕ → A → Line) (xs : List A) (i : ℕ) → length xs ≤ i → text_of (numbered line i (drop i xs)) ≡ []
numbered_end line xs i past = rw (drop_all i xs past) refl

-- ---- the changes

abbrev pub event_origin : Event
event_origin = record { moment = 0; variable = 0; level = Zero }

pub lines_step : (number : ℕ) (events : List Event) (i : ℕ) (d : Event) → i < length events
    → text_of (lines_from number (drop i events))
    ≡ text_of (event_lines number (get_or events i d)) ++ text_of (lines_from ((get_or events i d).moment + 1) (drop (i + 1) events))
lines_step number events i d inside =
    let event : Event = get_or events i d in
    let next : time_number event.moment ≡ event.moment + 1 = omega arith in
    ap (λ (es : List Event). text_of (lines_from number es)) (drop_more events i d inside)
    ∙ flat_map-append ended (event_lines number event) (lines_from (time_number event.moment) (drop (i + 1) events))
    ∙ ap (λ (n : ℕ). text_of (event_lines number event) ++ text_of (lines_from n (drop (i + 1) events))) next

pub lines_end : (number : ℕ) (events : List Event) (i : ℕ) → length events ≤ i → text_of (lines_from number (drop i events)) ≡ []
lines_end number events i past = rw (drop_all i events past) refl

-- ---- the events of the variables

events_step : (waves : List Wave) (events whole : List Event) (i : ℕ) (wave : Wave) → i < length waves → get_or waves i wave ≡ wave
    → events ++ events_from i (drop i waves) ≡ whole
    → (events ++ map (event_of i) wave.changes) ++ events_from (i + 1) (drop (i + 1) waves) ≡ whole
events_step waves events whole i wave inside is kept =
    let split : drop i waves ≡ wave ∷ drop (i + 1) waves = drop_more waves i wave inside ∙ ap (λ w. w ∷ drop (i + 1) waves) is in
    let next : suc i ≡ i + 1 = omega arith in
    let opened : events ++ (map (event_of i) wave.changes ++ events_from (i + 1) (drop (i + 1) waves)) ≡ whole =
    ap (λ (n : ℕ). events ++ (map (event_of i) wave.changes ++ events_from n (drop (i + 1) waves))) (sym next)
    ∙ ap (λ (ws : List Wave). events ++ events_from i ws) (sym split)
    ∙ kept in
    append_assoc events (map (event_of i) wave.changes) (events_from (i + 1) (drop (i + 1) waves)) ∙ opened

-- what the references among these stand for
abbrev pub waves_behind : List (Bor Wave) → List Wave
waves_behind refs = map (λ (wave : Bor Wave). wave.now) refs

pub count_behind : (refs : List (Bor Wave)) → length (waves_behind refs) ≡ length refs
count_behind refs = length-map refs (λ (wave : Bor Wave). wave.now)

wave_behind : (refs : List (Bor Wave)) (i : ℕ) (ref : Bor Wave) → i < length refs → ref ≡ get_or refs i ref
    → get_or (waves_behind refs) i ref.now ≡ ref.now
wave_behind refs i ref inside is =
    get_or-map (λ (wave : Bor Wave). wave.now) refs i ref ref.now inside ∙ ap (λ (wave : Bor Wave). wave.now) (sym is)

-- one more wave's changes
pub events_next : (refs : List (Bor Wave)) (events whole : List Event) (i : ℕ) (ref : Bor Wave) → i < length refs → ref ≡ get_or refs i ref
    → events ++ events_from i (drop i (waves_behind refs)) ≡ whole
    → (events ++ map (event_of i) ref.now.changes) ++ events_from (i + 1) (drop (i + 1) (waves_behind refs)) ≡ whole
events_next refs events whole i ref inside is kept =
    events_step (waves_behind refs) events whole i ref.now (omega (arith, inside, count_behind refs)) (wave_behind refs i ref inside is) kept

-- one more wave's level at the start
pub start_step : (refs : List (Bor Wave)) (i : ℕ) (ref : Bor Wave) (level : Level) → i < length refs → ref ≡ get_or refs i ref
    → level ≡ ref.now.start
    → text_of (numbered start_line i (drop i (waves_behind refs)))
    ≡ ended (Sets i level) ++ text_of (numbered start_line (i + 1) (drop (i + 1) (waves_behind refs)))
start_step refs i ref level inside is starts =
    numbered_step start_line (waves_behind refs) i ref.now (omega (arith, inside, count_behind refs)) (wave_behind refs i ref inside is)
    ∙ ap (λ (l : Level). ended (Sets i l) ++ text_of (numbered start_line (i + 1) (drop (i + 1) (waves_behind refs)))) (sym starts)

-- one more reference to a wave
pub refs_step : (f : ℕ → Wave) (nets : List ℕ) (i : ℕ) (refs grown : List (Bor Wave)) (ref : Bor Wave) → i < length nets
    → waves_behind refs ≡ map f (take i nets) → grown ≡ refs ++ ref ∷ [] → ref.now ≡ f (get_or nets i 0)
    → waves_behind grown ≡ map f (take (i + 1) nets)
refs_step f nets i refs grown ref inside so is same =
    ap (λ (rs : List (Bor Wave)). waves_behind rs) is
    ∙ map-append (λ (wave : Bor Wave). wave.now) refs (ref ∷ [])
    ∙ ap (λ (ws : List Wave). ws ++ ref.now ∷ []) so
    ∙ ap (λ (w : Wave). map f (take i nets) ++ w ∷ []) same
    ∙ sym (map-append f (take i nets) (get_or nets i 0 ∷ []))
    ∙ ap (λ (ns : List ℕ). map f ns) (sym (take_more nets i 0 inside))

pub refs_end : (f : ℕ → Wave) (nets : List ℕ) (i : ℕ) (refs : List (Bor Wave)) → length nets ≤ i → waves_behind refs ≡ map f (take i nets)
    → waves_behind refs ≡ map f nets
refs_end f nets i refs past so = so ∙ ap (λ (ns : List ℕ). map f ns) (take_all i nets past)

-- no event is later than the changes are
pub events_small : (bound variable : ℕ) (waves : List Wave) → All (λ (wave : Wave). AreWithin bound wave.changes) waves
    → All (λ (event : Event). event.moment ≤ bound) (events_from variable waves)
events_small bound variable [] small = All-nil (λ (event : Event). event.moment ≤ bound)
events_small bound variable (wave ∷ others) small =
    All-append (λ (event : Event). event.moment ≤ bound) (map (event_of variable) wave.changes) (events_from (suc variable) others)
    (All-map (λ (event : Event). event.moment ≤ bound) (event_of variable) wave.changes
    (All-head (λ (w : Wave). AreWithin bound w.changes) wave others small))
    (events_small bound (suc variable) others (All-tail (λ (w : Wave). AreWithin bound w.changes) wave others small))

-- ---- the parts of a dump

-- one more piece after some
piece : (b x y l p : List ℕ) → x ≡ b ++ l → y ≡ x ++ p → y ≡ b ++ (l ++ p)
piece b x y l p so_far grown = grown ∙ ap (λ (t : List ℕ). t ++ p) so_far ∙ append_assoc b l p

-- the lines before the declarations
pub head_made : (b x1 x2 x3 v t s : List ℕ) → x1 ≡ b ++ v → x2 ≡ x1 ++ t → x3 ≡ x2 ++ s → x3 ≡ b ++ (v ++ (t ++ (s ++ [])))
head_made b x1 x2 x3 v t s p q r =
    piece b x2 x3 (v ++ t) s (piece b x1 x2 v t p q) r
    ∙ ap (λ (rest : List ℕ). b ++ rest) (append_assoc v t s ∙ ap (λ (rest : List ℕ). v ++ (t ++ rest)) (sym (append-nil s)))

pub regroup : (a b c d e f : List Line) → ((((a ++ b) ++ c) ++ d) ++ e) ++ f ≡ a ++ (b ++ (c ++ (d ++ (e ++ f))))
regroup a b c d e f =
    append_assoc (((a ++ b) ++ c) ++ d) e f
    ∙ append_assoc ((a ++ b) ++ c) d (e ++ f)
    ∙ append_assoc (a ++ b) c (d ++ (e ++ f))
    ∙ append_assoc a b (c ++ (d ++ (e ++ f)))

six : (a b c d e f : List Line) → text_of (((((a ++ b) ++ c) ++ d) ++ e) ++ f)
    ≡ text_of a ++ (text_of b ++ (text_of c ++ (text_of d ++ (text_of e ++ text_of f))))
six a b c d e f =
    ap (λ (ls : List Line). text_of ls) (regroup a b c d e f)
    ∙ flat_map-append ended a (b ++ (c ++ (d ++ (e ++ f))))
    ∙ ap (λ (t : List ℕ). text_of a ++ t) (flat_map-append ended b (c ++ (d ++ (e ++ f)))
    ∙ ap (λ (t : List ℕ). text_of b ++ t) (flat_map-append ended c (d ++ (e ++ f))
    ∙ ap (λ (t : List ℕ). text_of c ++ t) (flat_map-append ended d (e ++ f)
    ∙ ap (λ (t : List ℕ). text_of d ++ t) (flat_map-append ended e f))))

pub dump_is : (netlist : Netlist) (names : List Name) (waves : List Wave) → named_dump netlist names waves ≡ text_of (dump_lines netlist names waves)
unfolding named_dump
dump_is netlist names waves = refl

pub dump_parts : (netlist : Netlist) (names : List Name) (waves : List Wave) → named_dump netlist names waves
    ≡ text_of (dump_head netlist) ++ (text_of (numbered declaration 0 names) ++ (text_of dump_begins
    ++ (text_of (numbered start_line 0 waves) ++ (text_of dump_ends ++ text_of (change_lines (events_from 0 waves))))))
dump_parts netlist names waves =
    dump_is netlist names waves ∙ six (dump_head netlist) (numbered declaration 0 names) dump_begins (numbered start_line 0 waves) dump_ends
    (change_lines (events_from 0 waves))

-- one more change of a variable
pub push_step : (variable : ℕ) (events : List Event) (changes : List Change) (i : ℕ) (whole grown : List Event) → i < length changes
    → events ++ map (event_of variable) (drop i changes) ≡ whole
    → grown ≡ events ++ event_of variable (get_or changes i change_origin) ∷ []
    → grown ++ map (event_of variable) (drop (i + 1) changes) ≡ whole
push_step variable events changes i whole grown inside kept is =
    ap (λ (es : List Event). es ++ map (event_of variable) (drop (i + 1) changes)) is
    ∙ append_assoc events (event_of variable (get_or changes i change_origin) ∷ []) (map (event_of variable) (drop (i + 1) changes))
    ∙ ap (λ (cs : List Change). events ++ map (event_of variable) cs) (sym (drop_more changes i change_origin inside))
    ∙ kept

-- the last piece has a newline
last_piece : (b x y l e z : List ℕ) → x ≡ b ++ l → y ≡ x ++ (e ++ z) → y ≡ b ++ ((l ++ e) ++ z)
last_piece b x y l e z so_far grown = piece b x y l (e ++ z) so_far grown ∙ ap (λ (t : List ℕ). b ++ t) (sym (append_assoc l e z))

-- a line of five pieces
pub line_made : (b x1 x2 x3 x4 x5 l a m n e z : List ℕ) → x1 ≡ b ++ l → x2 ≡ x1 ++ a → x3 ≡ x2 ++ m → x4 ≡ x3 ++ n → x5 ≡ x4 ++ (e ++ z)
    → x5 ≡ b ++ (((((l ++ a) ++ m) ++ n) ++ e) ++ z)
line_made b x1 x2 x3 x4 x5 l a m n e z p q r s t =
    last_piece b x4 x5 (((l ++ a) ++ m) ++ n) e z
    (piece b x3 x4 ((l ++ a) ++ m) n (piece b x2 x3 (l ++ a) m (piece b x1 x2 l a p q) r) s) t

-- a line of three pieces
pub short_line_made : (b x1 x2 x3 l a e z : List ℕ) → x1 ≡ b ++ l → x2 ≡ x1 ++ a → x3 ≡ x2 ++ (e ++ z) → x3 ≡ b ++ (((l ++ a) ++ e) ++ z)
short_line_made b x1 x2 x3 l a e z p q r = last_piece b x2 x3 (l ++ a) e z (piece b x1 x2 l a p q) r
