-- Parts of a file that stand one after the other.
use Rattle.std.proofs.Common.{◌≡◌, ◌+◌, ◌<◌, ◌≤◌, ℕ, List, [], ◌∷◌, ◌++◌, length, get_or, take, sym, ap, ◌∙◌, append_assoc}
use Rattle.std.specs.List.{flat_map}
use Rattle.std.proofs.lemmas.List.{take_more, append-nil, take_all}
use Rattle.std.proofs.lemmas.List.Concat.{flat_map-append}

-- one more element is spelled
pub spelled_more : {X : Type 0} (spell : X → List ℕ) (xs : List X) (i : ℕ) (d : X) (front old new : List ℕ) → i < length xs → new ≡ old ++ spell (get_or xs i d) → old ≡ front ++ flat_map spell (take i xs)
    → new ≡ front ++ flat_map spell (take (i + 1) xs)
spelled_more spell xs i d front old new lt put before =
    put ∙ ap (λ l. l ++ spell (get_or xs i d)) before
    ∙ append_assoc front (flat_map spell (take i xs)) (spell (get_or xs i d))
    ∙ ap (λ l. front ++ l) (ap (λ l. flat_map spell (take i xs) ++ l) (sym (append-nil (spell (get_or xs i d)))) ∙ sym (flat_map-append spell (take i xs) (get_or xs i d ∷ [])) ∙ ap (flat_map spell) (sym (take_more xs i d lt)))

-- where the element is known by another name
pub spelled_next : {X : Type 0} (spell : X → List ℕ) (xs : List X) (i : ℕ) (y d : X) (front old new : List ℕ) → i < length xs → y ≡ get_or xs i d → new ≡ old ++ spell y → old ≡ front ++ flat_map spell (take i xs)
    → new ≡ front ++ flat_map spell (take (i + 1) xs)
spelled_next spell xs i y d front old new lt is put before = spelled_more spell xs i d front old new lt (put ∙ ap (λ z. old ++ spell z) is) before

-- all are spelled
pub spelled_all : {X : Type 0} (spell : X → List ℕ) (xs : List X) (i : ℕ) (front new : List ℕ) → length xs ≤ i → new ≡ front ++ flat_map spell (take i xs) → new ≡ front ++ flat_map spell xs
spelled_all spell xs i front new all done = done ∙ ap (λ l. front ++ flat_map spell l) (take_all i xs all)

-- four parts, put one behind another
pub put_whole : (none start one fields two heads three columns four : List ℕ) → none ≡ [] → one ≡ none ++ start → two ≡ one ++ fields → three ≡ two ++ heads → four ≡ three ++ columns
    → four ≡ start ++ (fields ++ (heads ++ columns))
put_whole none start one fields two heads three columns four empty a b c d =
    d ∙ ap (λ l. l ++ columns) (c ∙ ap (λ l. l ++ heads) (b ∙ ap (λ l. l ++ fields) (a ∙ ap (λ l. l ++ start) empty)))
    ∙ append_assoc (start ++ fields) heads columns ∙ append_assoc start fields (heads ++ columns)
