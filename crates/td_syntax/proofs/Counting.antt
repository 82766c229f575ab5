-- Attributes are counted one by one.
use Rattle.std.proofs.Common.{◌≡◌, ℕ, zero, suc, ◌<◌, List, [], ◌∷◌, ◌++◌, length, map, replicate, Option, None, Some, Result, Ok, Err, refl, ap, ◌∙◌}
use Rattle.std.specs.Prelude.{MatchOption}
use Rattle.std.proofs.lemmas.List.{length-replicate}
use Rattle.td_syntax.specs.declared.fault.Fault as code_fault
use Rattle.td_syntax.specs.Faults.{Fault, FaultKind, fault, reported, Fails, ◌>>=◌}
use Rattle.td_syntax.specs.Readers.{Remainder, as_attribute, many, maybe_at}
use Rattle.td_syntax.specs.Parsing.{attribute_member, attribute_step, attributes_at}
use Rattle.td_syntax.proofs.Lists.{SoFar, same, map_same, left, goes_on, is_done, fails}
use Rattle.td_syntax.proofs.SoundHeads.{attributes_shorten}

abbrev pub ones : ℕ → List (Unit {0})
ones n = replicate n tt

-- `n` attributes before this moment, and those that are still to come
abbrev pub Counted : ℕ → Remainder → Remainder → Type 0
Counted n s begin = SoFar attribute_step attributes_shorten same (ones n) s (many attribute_step begin)

stepped : (k : ℕ) (s rest : Remainder) (o : Option (Unit {0})) → maybe_at as_attribute s ≡ Ok (o, rest) → attribute_step k s ≡ Ok (attribute_member o, rest)
unfolding attribute_step
stepped k s rest o e = rw e refl

one_more : (n : ℕ) → map same (ones (suc n)) ≡ map same (ones n) ++ (tt {0}) ∷ []
one_more zero = refl
one_more (suc n) = ap (λ (us : List (Unit {0})). tt ∷ us) (one_more n)

pub shorter : (s rest : Remainder) (u : Unit {0}) → maybe_at as_attribute s ≡ Ok (Some u, rest) → left rest < left s
shorter s rest u e = attributes_shorten.by 0 s u rest (stepped 0 s rest (Some u) e)

pub one_counted : (n : ℕ) (s rest begin : Remainder) (u : Unit {0}) → maybe_at as_attribute s ≡ Ok (Some u, rest) → Counted n s begin → Counted (suc n) rest begin
one_counted n s rest begin u e h = goes_on attribute_step attributes_shorten same (ones n) (ones (suc n)) s tt rest (many attribute_step begin) (stepped (length (ones n)) s rest (Some u) e) (one_more n) h

pub all_counted : (n : ℕ) (s rest begin : Remainder) → maybe_at as_attribute s ≡ Ok (None, rest) → Counted n s begin → attributes_at begin ≡ Ok (n, rest)
unfolding attributes_at
all_counted n s rest begin e h =
    let total = is_done attribute_step attributes_shorten same (ones n) s rest (many attribute_step begin) (stepped (length (ones n)) s rest None e) h in
    let count : length (map same (ones n)) ≡ n = ap length (map_same (ones n)) ∙ length-replicate {A = Unit {0}} n tt in
    rw (total, count) refl

failing_step : (k : ℕ) (s : Remainder) (line : ℕ) (o : Option FaultKind) → MatchOption o (Unit {0}) (λ kind. maybe_at as_attribute s ≡ Err (fault kind line)) → MatchOption o (Unit {0}) (λ kind. attribute_step k s ≡ Err (fault kind line))
unfolding attribute_step
failing_step k s line None h = tt
failing_step k s line (Some kind) h = rw h refl

failing_count : (begin : Remainder) (line : ℕ) (o : Option FaultKind) → MatchOption o (Unit {0}) (λ kind. many attribute_step begin ≡ Err (fault kind line)) → MatchOption o (Unit {0}) (λ kind. attributes_at begin ≡ Err (fault kind line))
unfolding attributes_at
failing_count begin line None h = tt
failing_count begin line (Some kind) h = rw h refl

pub none_counted : (e : code_fault.Fault) (n : ℕ) (s begin : Remainder) → Fails e (maybe_at as_attribute s) → Counted n s begin → Fails e (attributes_at begin)
none_counted e n s begin h counted =
    failing_count begin e.line (reported e.kind)
    (fails attribute_step attributes_shorten same e (ones n) s (many attribute_step begin) (failing_step (length (ones n)) s e.line (reported e.kind) h) counted)

pub none_yet : (s : Remainder) → Counted 0 s s
none_yet s = begins_counted (many attribute_step s)
  where
    begins_counted : (r : Result (List (Unit {0}) × Remainder) Fault) → (r >>= λ x. Ok ([] ++ x.0, x.1)) ≡ r
    begins_counted (Ok x) = refl
    begins_counted (Err f) = refl
