-- Bytes that are put, one part behind the other.
use Rattle.std.proofs.Common.{◌≡◌, ℕ, ◌+◌, ◌<◌, ◌≤◌, List, [], ◌∷◌, ◌++◌, length, get_or, take, sym, ap, ◌∙◌, append_assoc}
use Rattle.std.specs.List.{flat_map}
use Rattle.std.proofs.lemmas.List.{take_more, take_all, append-nil}
use Rattle.std.proofs.lemmas.List.Concat.{flat_map-append}

pub put_two : (old one new a b : List ℕ) → one ≡ old ++ a → new ≡ one ++ b → new ≡ old ++ (a ++ b)
put_two old one new a b p q = q ∙ ap (λ l. l ++ b) p ∙ append_assoc old a b

pub put_three : (old one two new a b c : List ℕ) → one ≡ old ++ a → two ≡ one ++ b → new ≡ two ++ c → new ≡ old ++ (a ++ (b ++ c))
put_three old one two new a b c p q r = put_two old one new a (b ++ c) p (put_two one two new b c q r)

pub put_four : (old one two three new a b c d : List ℕ) → one ≡ old ++ a → two ≡ one ++ b → three ≡ two ++ c → new ≡ three ++ d → new ≡ old ++ (a ++ (b ++ (c ++ d)))
put_four old one two three new a b c d p q r s = put_two old one new a (b ++ (c ++ d)) p (put_three one two three new b c d q r s)

-- one element more, behind those that a loop has put
pub put_more : {X : Type 0} (spell : X → List ℕ) (xs : List X) (i : ℕ) (d : X) (start before after : List ℕ) → i < length xs → after ≡ before ++ spell (get_or xs i d) → before ≡ start ++ flat_map spell (take i xs)
    → after ≡ start ++ flat_map spell (take (i + 1) xs)
put_more spell xs i d start before after lt put so_far =
    let front = flat_map spell (take i xs) in
    let last = spell (get_or xs i d) in
    put ∙ put_two start before (before ++ last) front last so_far (λ k. before ++ last)
    ∙ ap (λ l. start ++ l) (ap (λ l. front ++ l) (sym (append-nil last)) ∙ sym (flat_map-append spell (take i xs) (get_or xs i d ∷ [])) ∙ ap (flat_map spell) (sym (take_more xs i d lt)))

-- all of them
pub put_all : {X : Type 0} (spell : X → List ℕ) (xs : List X) (i : ℕ) (start new : List ℕ) → length xs ≤ i → new ≡ start ++ flat_map spell (take i xs) → new ≡ start ++ flat_map spell xs
put_all spell xs i start new all done = done ∙ ap (λ l. start ++ flat_map spell l) (take_all i xs all)
