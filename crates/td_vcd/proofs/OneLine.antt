-- Each line of a dump ends at its newline.
use Rattle.std.proofs.Common.{◌≡◌, ◌≢◌, ℕ, zero, suc, ◌+◌, ◌/◌, ◌%◌, Bool, true, false, List, [], ◌∷◌, ◌++◌, refl, arith, inl, inr, map, Option, Some, None}
use Rattle.std.specs.Prelude.{codes, decimal, ◌==◌, if◌then◌else◌}
use Rattle.std.specs.List.{AllByRecursion, flat_map}
use Rattle.std.specs.Fmt.{digits_onto, digit_glyph, digits}
use Rattle.std.proofs.lemmas.Bool.{cases_lt, cases_eq, lt-ltb, le-ltb, eq-eqb, ne_eqb}
use Rattle.td_gates.specs.Wave.{Wave}
use Rattle.td_nets.specs.declared.netlist.Unit.{Unit as Step}
use Rattle.td_nets.specs.declared.netlist.Scale.{Scale}
use Rattle.td_nets.specs.declared.netlist.Scale.TheVariants as scale
use Rattle.td_nets.specs.Identifiers.{is_simple_identifier}
use Rattle.td_nets.specs.Netlist.{Name, Netlist}
use Rattle.td_nets.specs.Printed.{printed, bit_text}
use Rattle.td_nets.specs.Scales.{scale_text}
use Rattle.td_vcd.specs.declared.events.Event.{Event}
use Rattle.td_vcd.specs.Text.{Line, code_within, code, numeral, timescale, scope, dump_head, declaration, start_line, numbered, dump_begins, dump_ends, event_line, events_at, moment_lines, change_lines, events_from, dump_lines, rising, moment_of}
use Rattle.td_vcd.specs.Says.{IsOnOneLine, IsOneLine}

both : {A : Type 0} (P : A → Type 0) (xs ys : List A) → AllByRecursion P xs → AllByRecursion P ys → AllByRecursion P (xs ++ ys)
both P [] ys p q = q
both P (x ∷ xs) ys p q = (p.0, both P xs ys p.1 q)

-- whether no byte is a newline
abbrev without_newline : List ℕ → Bool
without_newline [] = true
without_newline (byte ∷ later) = if byte == 10 then false else without_newline later

by_look : (words : List ℕ) → without_newline words ≡ true → IsOnOneLine words
by_look [] is = tt
by_look (byte ∷ later) is = elim (cases_eq byte 10) [
  | inl newline ↦ absurd cc
  | inr other ↦ (other, by_look later (rw (ne_eqb byte 10 other) at is))
]

join : (xs ys : List ℕ) → IsOnOneLine xs → IsOnOneLine ys → IsOnOneLine (xs ++ ys)
join xs ys p q = both (λ (byte : ℕ). byte ≢ 10) xs ys p q

-- ---- digits

glyph : (d : ℕ) → digit_glyph false d ≢ 10
glyph d same = elim (cases_lt d 10) [
  | inl less ↦ (let low : 48 + d ≡ 10 = rw (lt-ltb d 10 less) at same in omega (arith, low))
  | inr more ↦ (let high : 87 + d ≡ 10 = rw (le-ltb d 10 more) at same in omega (arith, high))
]

onto : (k n : ℕ) (acc : List ℕ) → IsOnOneLine acc → IsOnOneLine (digits_onto k 10 false n acc)
onto zero n acc fine = fine
onto (suc k) n acc fine = elim (cases_eq (n / 10) 0) [
  | inl last ↦ rw (eq-eqb (n / 10) 0 last) (glyph (n % 10), fine)
  | inr more ↦ rw (ne_eqb (n / 10) 0 more) (onto k (n / 10) (digit_glyph false (n % 10) ∷ acc) (glyph (n % 10), fine))
]

number_fine : (n : ℕ) → IsOnOneLine (decimal n)
unfolding digits
number_fine n = onto 64 n [] tt

pub numeral_fine : (n : ℕ) → IsOnOneLine (numeral n)
unfolding numeral
numeral_fine n = onto (suc n) n [] tt

digits_fine : (count number : ℕ) → IsOnOneLine (code_within count number)
digits_fine zero number = tt
digits_fine (suc count) number = elim (cases_lt number 94) [
  | inl last ↦ rw (lt-ltb number 94 last) (λ same. omega (arith, same), tt)
  | inr more ↦ rw (le-ltb number 94 more) (λ same. omega (arith, same), digits_fine count (number / 94))
]

pub code_fine : (number : ℕ) → IsOnOneLine (code number)
unfolding code
code_fine number = digits_fine (suc number) number

-- ---- names

bit_fine : (before : List ℕ) (bit : Option ℕ) → IsOnOneLine before → IsOnOneLine (bit_text before bit)
bit_fine before None fine = tt
bit_fine before (Some i) fine =
    join ((before ++ codes "[") ++ decimal i) (codes "]")
    (join (before ++ codes "[") (decimal i) (join before (codes "[") fine (by_look (codes "[") refl)) (number_fine i)) (by_look (codes "]") refl)

name_fine : (name : Name) → IsOnOneLine name.text → IsOnOneLine (printed name)
name_fine name fine = go (is_simple_identifier name.text)
  where
    go : (simple : Bool) → IsOnOneLine (if simple then name.text ++ bit_text [] name.bit else (codes "\\" ++ name.text ++ bit_text (codes " ") name.bit))
    go true = join name.text (bit_text [] name.bit) fine (bit_fine [] name.bit tt)
    go false = join (codes "\\" ++ name.text) (bit_text (codes " ") name.bit) (λ same. omega (arith, same), fine) (bit_fine (codes " ") name.bit (by_look (codes " ") refl))

-- ---- lines

scale_fine : (unit : Scale) → IsOnOneLine (scale_text unit)
scale_fine scale.Seconds = by_look (codes "s") refl
scale_fine scale.Milliseconds = by_look (codes "ms") refl
scale_fine scale.Microseconds = by_look (codes "us") refl
scale_fine scale.Nanoseconds = by_look (codes "ns") refl
scale_fine scale.Picoseconds = by_look (codes "ps") refl
scale_fine scale.Femtoseconds = by_look (codes "fs") refl

timescale_fine : (unit : Step) → IsOneLine (timescale unit)
timescale_fine unit =
    join (((codes "timescale " ++ numeral unit.magnitude) ++ codes " ") ++ scale_text unit.scale) (codes " $end")
    (join ((codes "timescale " ++ numeral unit.magnitude) ++ codes " ") (scale_text unit.scale)
    (join (codes "timescale " ++ numeral unit.magnitude) (codes " ")
    (join (codes "timescale ") (numeral unit.magnitude) (by_look (codes "timescale ") refl) (numeral_fine unit.magnitude)) (by_look (codes " ") refl))
    (scale_fine unit.scale)) (by_look (codes " $end") refl)

scope_fine : (name : List ℕ) → IsOnOneLine name → IsOneLine (scope name)
scope_fine name fine =
    join (codes "scope module " ++ printed (record { text = name; bit = None })) (codes " $end")
    (join (codes "scope module ") (printed (record { text = name; bit = None })) (by_look (codes "scope module ") refl)
    (name_fine (record { text = name; bit = None }) fine)) (by_look (codes " $end") refl)

declaration_fine : (variable : ℕ) (name : Name) → IsOnOneLine name.text → IsOneLine (declaration variable name)
declaration_fine variable name fine =
    join (((codes "var wire 1 " ++ code variable) ++ codes " ") ++ printed name) (codes " $end")
    (join ((codes "var wire 1 " ++ code variable) ++ codes " ") (printed name)
    (join (codes "var wire 1 " ++ code variable) (codes " ")
    (join (codes "var wire 1 ") (code variable) (by_look (codes "var wire 1 ") refl) (code_fine variable)) (by_look (codes " ") refl))
    (name_fine name fine)) (by_look (codes " $end") refl)

declarations_fine : (variable : ℕ) (names : List Name) → AllByRecursion (λ (name : Name). IsOnOneLine name.text) names
    → AllByRecursion IsOneLine (numbered declaration variable names)
declarations_fine variable [] fine = tt
declarations_fine variable (name ∷ names) fine = (declaration_fine variable name fine.0, declarations_fine (suc variable) names fine.1)

starts_fine : (variable : ℕ) (waves : List Wave) → AllByRecursion IsOneLine (numbered start_line variable waves)
starts_fine variable [] = tt
starts_fine variable (wave ∷ waves) = (tt, starts_fine (suc variable) waves)

events_fine : (events : List Event) → AllByRecursion IsOneLine (map event_line events)
events_fine [] = tt
events_fine (event ∷ later) = (tt, events_fine later)

moments_fine : (events : List Event) (moments : List ℕ) → AllByRecursion IsOneLine (flat_map (moment_lines events) moments)
moments_fine events [] = tt
moments_fine events (t ∷ moments) =
    both IsOneLine (moment_lines events t) (flat_map (moment_lines events) moments) (tt, events_fine (events_at t events)) (moments_fine events moments)

pub dump_fine : (netlist : Netlist) (all : List Name) (waves : List Wave) → IsOnOneLine netlist.name
    → AllByRecursion (λ (name : Name). IsOnOneLine name.text) all → AllByRecursion IsOneLine (dump_lines netlist all waves)
dump_fine netlist all waves own fine =
    let changes : List Line = change_lines (events_from 0 waves) in
    let starts : List Line = numbered start_line 0 waves in
    let names : List Line = numbered declaration 0 all in
    both IsOneLine ((((dump_head netlist ++ names) ++ dump_begins) ++ starts) ++ dump_ends) changes
    (both IsOneLine (((dump_head netlist ++ names) ++ dump_begins) ++ starts) dump_ends
    (both IsOneLine ((dump_head netlist ++ names) ++ dump_begins) starts
    (both IsOneLine (dump_head netlist ++ names) dump_begins
    (both IsOneLine (dump_head netlist) names
    (by_look (codes "version tdelay 1 $end") refl, (timescale_fine netlist.unit, (scope_fine netlist.name own, tt)))
    (declarations_fine 0 all fine))
    (by_look (codes "upscope $end") refl, (by_look (codes "enddefinitions $end") refl, (tt, (by_look (codes "dumpvars") refl, tt)))))
    (starts_fine 0 waves))
    (by_look (codes "end") refl, tt))
    (moments_fine (events_from 0 waves) (rising (map moment_of (events_from 0 waves))))
