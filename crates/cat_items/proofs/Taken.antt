-- Lists that a loop takes over, one element after the other.
use Rattle.std.proofs.Common.{◌≡◌, ℕ, ◌+◌, ◌<◌, List, [], ◌∷◌, ◌++◌, length, map, get_or, take, sym, ap, ◌∙◌}
use Rattle.std.proofs.lemmas.List.{take_more, map_push, map_more}

-- the elements themselves
pub taken_more : {X : Type 0} (xs : List X) (i : ℕ) (x y : X) (before after : List X) → i < length xs → x ≡ get_or xs i x → y ≡ x → after ≡ before ++ y ∷ [] → before ≡ take i xs → after ≡ take (i + 1) xs
taken_more xs i x y before after lt is same put so_far =
    put ∙ ap (λ l. l ++ y ∷ []) so_far ∙ ap (λ z. take i xs ++ z ∷ []) (same ∙ is) ∙ sym (take_more xs i x lt)

-- what is made of them, seen by `view`
pub made_more : {X Y Z : Type 0} (view : Y → Z) (make : X → Z) (xs : List X) (i : ℕ) (x : X) (y : Y) (before after : List Y) → i < length xs → x ≡ get_or xs i x → view y ≡ make x → after ≡ before ++ y ∷ []
    → map view before ≡ map make (take i xs) → map view after ≡ map make (take (i + 1) xs)
made_more view make xs i x y before after lt is same put so_far =
    ap (map view) put ∙ map_push view before y
    ∙ ap (λ l. l ++ view y ∷ []) so_far
    ∙ ap (λ z. map make (take i xs) ++ z ∷ []) (same ∙ ap make is)
    ∙ sym (map_more make xs i x lt)
