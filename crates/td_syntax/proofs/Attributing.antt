-- The end of an attribute, as the sentence says it and byte by byte.
use Rattle.std.proofs.Common.{◌≡◌, ℕ, suc, ◌+◌, Bool, true, false, List, [], ◌∷◌, Option, Some, None, refl, sym, ap, ◌∙◌, arith}
use Rattle.std.specs.Prelude.{◌==◌}
use Rattle.std.specs.Option.{option_map}
use Rattle.std.proofs.lemmas.Bool.{eqb-true}
use Rattle.td_syntax.specs.declared.attribute.Place.TheVariants as place
use Rattle.td_syntax.specs.Lexical.{end_behind}
use Rattle.td_syntax.specs.Pieces.{attribute_end}

one_more : Option ℕ → Option ℕ
one_more r = option_map (λ k. suc k) r

two_more : (r : Option ℕ) → option_map (λ k. k + 2) r ≡ option_map (λ k. suc k) (option_map (λ k. suc k) r)
two_more None = refl
two_more (Some k) = let e : k + 2 ≡ suc (suc k) = omega arith in ap (λ (n : ℕ). Some n) e

pub record Same (bytes : List ℕ) : Type 0 where
  pub plain : attribute_end false bytes ≡ end_behind place.Plain bytes
  pub quoted : attribute_end true bytes ≡ end_behind place.Quoted bytes

plain_by : (quote star close : Bool) (b c : ℕ) (bs : List ℕ) → (b == 34) ≡ quote → (b == 42) ≡ star → (c == 41) ≡ close → Same (c ∷ bs) → attribute_end false (b ∷ c ∷ bs) ≡ end_behind place.Plain (b ∷ c ∷ bs)
unfolding attribute_end end_behind
plain_by true true close b c bs q s k same = let is : 34 ≡ 42 = sym (eqb-true b 34 q) ∙ eqb-true b 42 s in absurd (omega (arith, is))
plain_by true false close b c bs q s k same = rw (q, s) (ap (λ r. option_map (λ n. suc n) r) same.quoted)
plain_by false true true b c bs q s k same = rw (q, s, k) refl
plain_by false true false b c bs q s k same = rw (q, s, k) (let e = ap (λ r. option_map (λ n. suc n) r) same.plain in e)
plain_by false false close b c bs q s k same = rw (q, s) (ap (λ r. option_map (λ n. suc n) r) same.plain)

quoted_by : (quote slash : Bool) (b c : ℕ) (bs : List ℕ) → (b == 34) ≡ quote → (b == 92) ≡ slash → Same (c ∷ bs) → Same bs → attribute_end true (b ∷ c ∷ bs) ≡ end_behind place.Quoted (b ∷ c ∷ bs)
unfolding attribute_end end_behind
quoted_by true true b c bs q s same more = let is : 34 ≡ 92 = sym (eqb-true b 34 q) ∙ eqb-true b 92 s in absurd (omega (arith, is))
quoted_by true false b c bs q s same more = rw (q, s) (ap (λ r. option_map (λ n. suc n) r) same.plain)
quoted_by false true b c bs q s same more = rw (q, s) (two_more (attribute_end true bs) ∙ ap (λ r. option_map (λ n. suc n) (option_map (λ n. suc n) r)) more.quoted)
quoted_by false false b c bs q s same more = rw (q, s) (ap (λ r. option_map (λ n. suc n) r) same.quoted)

pub same_end : (bytes : List ℕ) → Same bytes
unfolding attribute_end end_behind
same_end [] = record { plain = refl; quoted = refl }
same_end (b ∷ []) = record { plain = refl; quoted = refl }
same_end (b ∷ c ∷ bs) = record {
  plain = plain_by (b == 34) (b == 42) (c == 41) b c bs refl refl refl (same_end (c ∷ bs));
  quoted = quoted_by (b == 34) (b == 92) b c bs refl refl (same_end (c ∷ bs)) (same_end bs);
}
