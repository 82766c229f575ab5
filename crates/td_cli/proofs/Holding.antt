-- What the files of names hold.
use Rattle.std.proofs.Common.{◌≡◌, ◌∙◌, ◌<◌, ◌+◌, ℕ, List, [], ◌∷◌, ◌++◌, length, take, get_or, refl, sym, ap, subst, zero, suc}
use Rattle.std.specs.Prelude.{map}
use Rattle.std.specs.List.{AllZip}
use Rattle.std.specs.Borrow.{Bor}
use Rattle.std.specs.Global.{Vec}
use Rattle.std.proofs.lemmas.List.{take_more}
use Rattle.td_cli.specs.Carrying.{AreHeld}

module _ (holds : List ℕ → List ℕ → Type 0) where
  -- the file of a word holds this
  abbrev pub HoldsWord : Bor (List ℕ) → Vec ℕ → Type 0
  HoldsWord word text = holds word.now text.items

  push : (words : List (Bor (List ℕ))) (texts : List (Vec ℕ)) (word : Bor (List ℕ)) (text : Vec ℕ) → AllZip HoldsWord words texts → HoldsWord word text
      → AllZip HoldsWord (words ++ word ∷ []) (texts ++ text ∷ [])
  push [] [] word text all held = (held, tt)
  push [] (t ∷ texts) word text all held = absurd all
  push (w ∷ words) [] word text all held = absurd all
  push (w ∷ words) (t ∷ texts) word text all held = (all.0, push words texts word text all.1 held)

  -- one file more was read
  pub more : (words : List (Bor (List ℕ))) (texts : List (Vec ℕ)) (index : ℕ) (default : Bor (List ℕ)) (text : Vec ℕ) → index < length words
      → AllZip HoldsWord (take index words) texts → HoldsWord (get_or words index default) text → AllZip HoldsWord (take (index + 1) words) (texts ++ text ∷ [])
  more words texts index default text less all held =
      subst (λ (front : List (Bor (List ℕ))). AllZip HoldsWord front (texts ++ text ∷ [])) (sym (take_more words index default less))
      (push (take index words) texts (get_or words index default) text all held)

  mapped : (index : ℕ) (words : List (Bor (List ℕ))) (texts : List (Vec ℕ)) → AllZip HoldsWord (take index words) texts
      → AllZip (λ name (text : Vec ℕ). holds name text.items) (take index (map (λ word. word.now) words)) texts
  mapped zero words [] all = tt
  mapped zero words (t ∷ texts) all = absurd all
  mapped (suc index) [] [] all = tt
  mapped (suc index) [] (t ∷ texts) all = absurd all
  mapped (suc index) (w ∷ words) [] all = absurd all
  mapped (suc index) (w ∷ words) (t ∷ texts) all = (all.0, mapped index words texts all.1)

  -- the files of the first words were read
  pub first_held : (index : ℕ) (words : List (Bor (List ℕ))) (texts : List (Vec ℕ)) → AllZip HoldsWord (take index words) texts
      → AreHeld holds (map (λ word. word.now) words) texts
  first_held index words texts all = (index, mapped index words texts all)

  -- one file was
  pub one_held : (name : List ℕ) (text : Vec ℕ) → holds name text.items → AreHeld holds (name ∷ []) (text ∷ [])
  one_held name text held = (1, (held, tt))

  -- none was
  pub none_held : (names : List (List ℕ)) → AreHeld holds names []
  none_held names = (0, tt)
