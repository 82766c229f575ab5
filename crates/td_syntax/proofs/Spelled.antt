-- The tokens of a text as the definition says them and as faults are reported.
use Rattle.std.proofs.Common.{◌≡◌, ℕ, zero, suc, ◌+◌, ◌≤◌, ◌<◌, Bool, true, false, List, [], ◌∷◌, length, map, take, drop, Some, Ok, Err, refl, sym, ap, subst, ◌∙◌, arith, length-drop}
use Rattle.std.specs.Prelude.{◌&&◌}
use Rattle.td_syntax.specs.declared.token.Stop.TheVariants.{End}
use Rattle.td_syntax.specs.Bytes.{newlines}
use Rattle.td_syntax.specs.Token.{Token, Name, Escaped, Reserved, Number, Constant, Mark, Attribute, Directs, Outside, Placed, placed_on}
use Rattle.td_syntax.specs.Pieces.{Gap, Stands, piece_in}
use Rattle.td_syntax.specs.Lexical.{Piece, Space, Found, Last, Takes, piece_at}
use Rattle.td_syntax.specs.Tokens.{Stream, tokens_of}
use Rattle.td_syntax.specs.Text.{token_on, Lexes, end, gap, token}
use Rattle.td_syntax.proofs.Plain.{plain}
use Rattle.td_syntax.proofs.Pieces.{piece_takes}
use Rattle.td_syntax.proofs.Lexing.{tokens_by, tokens_unrolled}
use Rattle.td_syntax.proofs.Fronts.{seen_as, seen, front_seen, ends_empty}
use Rattle.td_syntax.proofs.Inside.{is_inside, Inside}

-- ---- what the definition says is reported so

is_gap : (p : Piece) (n : ℕ) → seen p ≡ Some (Gap n) → p ≡ Space n
is_gap (Space k) n e = let same : k ≡ n = cc in ap (λ (i : ℕ). Space i) same
is_gap (Last stop) n e = absurd cc
is_gap (Found (Name w) k) n e = absurd cc
is_gap (Found (Escaped w) k) n e = absurd cc
is_gap (Found (Reserved r) k) n e = absurd cc
is_gap (Found (Number m) k) n e = absurd cc
is_gap (Found (Constant b w) k) n e = absurd cc
is_gap (Found (Mark m) k) n e = absurd cc
is_gap (Found Attribute k) n e = absurd cc
is_gap (Found (Directs (Ok d) w) k) n e = absurd cc
is_gap (Found (Directs (Err d) w) k) n e = absurd cc
is_gap (Found (Outside w) k) n e = absurd cc

-- the token in front, as it is reported
record IsFound (p : Piece) (t : Token) (n : ℕ) : Type 0 where
  found : Token
  is : p ≡ Found found n
  same : (line : ℕ) → plain (placed_on line found) ≡ token_on line t

found_as : (u : Token) (k : ℕ) (s t : Token) (n : ℕ) → Some (Stands s k) ≡ Some (Stands t n) → ((line : ℕ) → plain (placed_on line u) ≡ token_on line s) → IsFound (Found u k) t n
found_as u k s t n e same =
    let here : s ≡ t = cc in
    let size : k ≡ n = cc in
    record { found = u; is = ap (λ (i : ℕ). Found u i) size; same = λ line. same line ∙ ap (token_on line) here }

is_found : (p : Piece) (t : Token) (n : ℕ) → seen p ≡ Some (Stands t n) → IsFound p t n
is_found (Space k) t n e = absurd cc
is_found (Last stop) t n e = absurd cc
is_found (Found (Name w) k) t n e = found_as _ _ _ _ _ e (λ _. refl)
is_found (Found (Escaped w) k) t n e = found_as _ _ _ _ _ e (λ _. refl)
is_found (Found (Reserved r) k) t n e = found_as _ _ _ _ _ e (λ _. refl)
is_found (Found (Number m) k) t n e = found_as _ _ _ _ _ e (λ _. refl)
is_found (Found (Constant b w) k) t n e = found_as _ _ _ _ _ e (λ _. refl)
is_found (Found (Mark m) k) t n e = found_as _ _ _ _ _ e (λ _. refl)
is_found (Found Attribute k) t n e = found_as _ _ _ _ _ e (λ _. refl)
is_found (Found (Directs (Ok d) w) k) t n e = found_as _ _ _ _ _ e (λ _. refl)
is_found (Found (Directs (Err d) w) k) t n e = absurd cc
is_found (Found (Outside w) k) t n e = absurd cc

-- these are all the tokens of the bytes
pub record AreTokens (line : ℕ) (bytes : List ℕ) (ts : List Placed) : Type 0 where
  pub stop : (tokens_of line bytes).stop ≡ End
  pub tokens : map plain (tokens_of line bytes).tokens ≡ ts

pub are_tokens : {line : ℕ} {bytes : List ℕ} {ts : List Placed} → Lexes line bytes ts → AreTokens line bytes ts
unfolding piece_at
are_tokens {line} end = record { stop = ap (λ (s : Stream). s.stop) (tokens_unrolled line []); tokens = ap (λ (s : Stream). map plain s.tokens) (tokens_unrolled line []) }
are_tokens {line} {bytes} (gap {n = n} e rest) =
    let is = is_gap (piece_at bytes) n (front_seen bytes ∙ e) in
    let same = tokens_unrolled line bytes ∙ ap (tokens_by line bytes) is in
    let more = are_tokens rest in
    record { stop = ap (λ (s : Stream). s.stop) same ∙ more.stop; tokens = ap (λ (s : Stream). map plain s.tokens) same ∙ more.tokens }
are_tokens {line} {bytes} (token {n = n} {t = t} {tokens = ts} e rest) =
    let f = is_found (piece_at bytes) t n (front_seen bytes ∙ e) in
    let same = tokens_unrolled line bytes ∙ ap (tokens_by line bytes) f.is in
    let more = are_tokens rest in
    record {
      stop = ap (λ (s : Stream). s.stop) same ∙ more.stop;
      tokens = ap (λ (s : Stream). map plain s.tokens) same ∙ ap (λ (p : Placed). p ∷ map plain (tokens_of (line + newlines (take n bytes)) (drop n bytes)).tokens) (f.same line) ∙ ap (λ (us : List Placed). token_on line t ∷ us) more.tokens;
    }

-- ---- what is reported so is what the definition says

-- a token of the grammar, as the definition sees it
record IsSeen (u : Token) (n line : ℕ) : Type 0 where
  as_token : Token
  is : seen_as u n ≡ Some (Stands as_token n)
  same : token_on line as_token ≡ plain (placed_on line u)

is_seen : (u : Token) (n line : ℕ) → is_inside (plain (placed_on line u)).token ≡ true → IsSeen u n line
is_seen (Name w) n line h = record { as_token = Name w; is = refl; same = refl }
is_seen (Escaped w) n line h = record { as_token = Name (drop 1 w); is = refl; same = refl }
is_seen (Reserved k) n line h = record { as_token = Reserved k; is = refl; same = refl }
is_seen (Number m) n line h = record { as_token = Number m; is = refl; same = refl }
is_seen (Constant b w) n line h = record { as_token = Constant b []; is = refl; same = refl }
is_seen (Mark m) n line h = record { as_token = Mark m; is = refl; same = refl }
is_seen Attribute n line h = record { as_token = Attribute; is = refl; same = refl }
is_seen (Directs (Ok d) w) n line h = record { as_token = Directs (Ok d) []; is = refl; same = refl }
is_seen (Directs (Err d) w) n line h = absurd cc
is_seen (Outside w) n line h = absurd cc

parts : (b c : Bool) → (b && c) ≡ true → (b ≡ true) × (c ≡ true)
parts true c e = (refl, e)
parts false c e = absurd cc

abbrev Spelled : ℕ → List ℕ → Stream → Type 0
Spelled line bytes s = s.stop ≡ End → Inside (map plain s.tokens) → Lexes line bytes (map plain s.tokens)

spelled_by : (line : ℕ) (bytes : List ℕ) (p : Piece) → piece_at bytes ≡ p → Takes p (length bytes)
    → ((after n : ℕ) → 0 < n → n ≤ length bytes → Spelled after (drop n bytes) (tokens_of after (drop n bytes)))
    → Spelled line bytes (tokens_by line bytes p)
spelled_by line bytes (Space n) e fits rest stop inside = gap (sym (front_seen bytes) ∙ ap seen e) (rest _ n fits.0 fits.1 stop inside)
spelled_by line bytes (Found u n) e fits rest stop inside =
    let h = parts (is_inside (plain (placed_on line u)).token) _ inside.all in
    let s = is_seen u n line h.0 in
    let after = line + newlines (take n bytes) in
    let more : List Placed = map plain (tokens_of after (drop n bytes)).tokens in
    let is : piece_in bytes ≡ Some (Stands s.as_token n) = sym (front_seen bytes) ∙ ap seen e ∙ s.is in
    subst (λ (t : Placed). Lexes line bytes (t ∷ more)) s.same (token is (rest after n fits.0 fits.1 stop (record { all = h.1 })))
spelled_by line bytes (Last t) e fits rest stop inside =
    let is : piece_at bytes ≡ Last End = e ∙ ap (λ s. Last s) stop in
    subst (λ (bs : List ℕ). Lexes line bs []) (sym (ends_empty bytes is)) end

spelled_within : (m line : ℕ) (bytes : List ℕ) → length bytes < m → Spelled line bytes (tokens_of line bytes)
spelled_within zero line bytes lt = absurd (omega arith)
spelled_within (suc m) line bytes lt =
    subst (λ (s : Stream). Spelled line bytes s) (sym (tokens_unrolled line bytes))
    (spelled_by line bytes (piece_at bytes) refl (piece_takes bytes) (λ after n low high. spelled_within m after (drop n bytes) (omega (arith, length-drop n bytes))))

pub spelled : (line : ℕ) (bytes : List ℕ) → Spelled line bytes (tokens_of line bytes)
spelled line bytes = spelled_within (suc (length bytes)) line bytes (omega arith)
