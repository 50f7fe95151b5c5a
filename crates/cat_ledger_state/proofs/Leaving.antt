-- Commits that stay, and the names of those that go.
use Rattle.std.proofs.Common.{◌≡◌, ℕ, suc, ◌+◌, ◌-◌, ◌<◌, Bool, List, [], ◌∷◌, ◌++◌, length, map, filter, take, get_or, Option, Some, None, refl, sym, ◌∙◌, ap, arith}
use Rattle.std.specs.Prelude.{slice_get, option_map}
use Rattle.std.specs.List.{last_or}
use Rattle.std.proofs.Math.Seq.{take-suc}
use Rattle.std.proofs.lemmas.Grind.{flat_map-append}
use Rattle.std.proofs.lemmas.List.Elements.{filter-append}
use Rattle.cat_model.specs.CommitFile.{CommitFile, commit_needs}
use Rattle.cat_ledger_laws.specs.shape.Shapes.{names_of_commits}
use Rattle.cat_ledger_laws.specs.shape.Steps.{newest_generation}

-- ---- the newest

last_is : {A : Type 0} (xs : List A) → slice_get xs (length xs - 1) ≡ last_or None xs
last_is [] = refl
last_is (x ∷ xs) = ap (slice_get (x ∷ xs)) (less (length xs)) ∙ from x xs
  where
    less : (n : ℕ) → suc n - 1 ≡ n
    less n = omega arith

    from : {A : Type 0} (x : A) (xs : List A) → slice_get (x ∷ xs) (length xs) ≡ last_or (Some x) xs
    from x [] = refl
    from x (y ∷ ys) = from y ys

last_map : {A B : Type 0} (f : A → B) (o : Option A) (xs : List A) → last_or (option_map f o) (map f xs) ≡ option_map f (last_or o xs)
last_map f o [] = refl
last_map f o (x ∷ xs) = last_map f (Some x) xs

pub last_generation : (cs : List CommitFile) (c : CommitFile) → Some c ≡ slice_get cs (length cs - 1) → Some c.generation ≡ newest_generation cs
last_generation cs c is =
    ap (option_map (λ (x : CommitFile). x.generation)) (is ∙ last_is cs) ∙ sym (last_map (λ (x : CommitFile). x.generation) None cs)

-- ---- those that go

-- the names of one commit more
pub leaving_more : (goes : CommitFile → Bool) (cs : List CommitFile) (i : ℕ) (c : CommitFile) → i < length cs → c ≡ get_or cs i c
    → names_of_commits (filter goes (take i cs)) ++ names_of_commits (filter goes (c ∷ [])) ≡ names_of_commits (filter goes (take (i + 1) cs))
leaving_more goes cs i c lt is =
    let one : i + 1 ≡ suc i = omega arith in
    let more : take (i + 1) cs ≡ take i cs ++ c ∷ [] = ap (λ n. take n cs) one ∙ take-suc cs i c lt ∙ ap (λ y. take i cs ++ y ∷ []) (sym is) in
    sym (ap (λ l. names_of_commits (filter goes l)) more ∙ ap names_of_commits (filter-append goes (take i cs) (c ∷ []))
    ∙ flat_map-append commit_needs (filter goes (take i cs)) (filter goes (c ∷ [])))
