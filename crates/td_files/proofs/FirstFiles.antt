-- The first of the files in memory that has a name.
use Rattle.std.proofs.Common.{◌≡◌, ◌<◌, ◌≤◌, ◌∙◌, ◌+◌, ℕ, Bool, true, false, cond, List, length, drop, find, get_or, option_map, bytes_eq, Some, None, sym, ap, drop_of_length-le}
use Rattle.std.proofs.lemmas.List.{drop_more}
use Rattle.std.specs.Borrow.{Bor}
use Rattle.td_files.specs.MemoryFiles.{bytes_of}

-- the first of all files is the first of those from this place on
abbrev pub IsFrom : List (Bor (List ℕ) × Bor (List ℕ)) → ℕ → List ℕ → Type 0
IsFrom files i name = bytes_of files name ≡ bytes_of (drop i files) name

module _ (files : List (Bor (List ℕ) × Bor (List ℕ))) (i : ℕ) (name : List ℕ) (so_far : IsFrom files i name) where
  -- by the next file, if there is one
  next : (d : Bor (List ℕ) × Bor (List ℕ)) (is : Bool) → i < length files → is ≡ bytes_eq (get_or files i d).0.now name
      → bytes_of files name ≡ option_map (λ (file : Bor (List ℕ) × Bor (List ℕ)). file.1.now)
      (cond is (Some (get_or files i d)) (find (λ (file : Bor (List ℕ) × Bor (List ℕ)). bytes_eq file.0.now name) (drop (i + 1) files)))
  next d is within same =
      so_far
      ∙ ap (λ (rest : List (Bor (List ℕ) × Bor (List ℕ))). bytes_of rest name) (drop_more files i d within)
      ∙ ap (λ (b : Bool). option_map (λ (file : Bor (List ℕ) × Bor (List ℕ)). file.1.now)
      (cond b (Some (get_or files i d)) (find (λ (file : Bor (List ℕ) × Bor (List ℕ)). bytes_eq file.0.now name) (drop (i + 1) files)))) (sym same)

  pub from_next : (d : Bor (List ℕ) × Bor (List ℕ)) → i < length files → false ≡ bytes_eq (get_or files i d).0.now name → IsFrom files (i + 1) name
  from_next d within other = next d false within other

  pub is_here : (d : Bor (List ℕ) × Bor (List ℕ)) → i < length files → true ≡ bytes_eq (get_or files i d).0.now name
      → Some (get_or files i d).1.now ≡ bytes_of files name
  is_here d within same = sym (next d true within same)

  pub is_nowhere : length files ≤ i → None ≡ bytes_of files name
  is_nowhere all = sym (so_far ∙ ap (λ (rest : List (Bor (List ℕ) × Bor (List ℕ))). bytes_of rest name) (drop_of_length-le files all))
