-- A loop that adds one element for each of a list.
use Rattle.std.proofs.Common.{◌≡◌, ℕ, ◌+◌, ◌<◌, List, [], ◌∷◌, ◌++◌, length, get_or, take, map, sym, ap, ◌∙◌}
use Rattle.std.proofs.lemmas.List.{append_assoc, map_push, take_more}
use Rattle.std.proofs.lemmas.List.Elements.{All-nil, All-push, All-same}
use Rattle.std.specs.Prelude.{All}

-- the front of a list with the next element, which is known
pub taken_more : {X : Type 0} (xs : List X) (i : ℕ) (x : X) → i < length xs → x ≡ get_or xs i x → take (i + 1) xs ≡ take i xs ++ x ∷ []
taken_more xs i x lt at = take_more xs i x lt ∙ ap (λ y. take i xs ++ y ∷ []) (sym at)

-- what f sees in a list that stands for the front of another, behind what stood there
pub pushed_behind : {X Y : Type 0} (f : X → Y) (front : List Y) (old new : List X) (x : X) (ys : List Y) (i : ℕ) (y : Y) → i < length ys → y ≡ get_or ys i y
    → map f old ≡ front ++ take i ys → new ≡ old ++ x ∷ [] → f x ≡ y → map f new ≡ front ++ take (i + 1) ys
pushed_behind f front old new x ys i y lt at so more is =
    ap (map f) more ∙ map_push f old x ∙ ap (λ l. l ++ f x ∷ []) so ∙ append_assoc front (take i ys) (f x ∷ []) ∙ ap (λ z. front ++ (take i ys ++ z ∷ [])) is
    ∙ sym (ap (λ l. front ++ l) (taken_more ys i y lt at))

-- what f sees in a list that stands for the front of another
pub pushed : {X Y : Type 0} (f : X → Y) (old new : List X) (x : X) (ys : List Y) (i : ℕ) (y : Y) → i < length ys → y ≡ get_or ys i y
    → map f old ≡ take i ys → new ≡ old ++ x ∷ [] → f x ≡ y → map f new ≡ take (i + 1) ys
pushed f old new x ys i y lt at so more is = pushed_behind f [] old new x ys i y lt at so more is

-- a list of what g sees in the front of another
pub pushed_seen : {X Y : Type 0} (g : X → Y) (old new : List Y) (y : Y) (xs : List X) (i : ℕ) (x : X) → i < length xs → x ≡ get_or xs i x
    → old ≡ map g (take i xs) → new ≡ old ++ y ∷ [] → y ≡ g x → new ≡ map g (take (i + 1) xs)
pushed_seen g old new y xs i x lt at so more is =
    more ∙ ap (λ l. l ++ y ∷ []) so ∙ ap (λ z. map g (take i xs) ++ z ∷ []) is ∙ sym (ap (map g) (taken_more xs i x lt at) ∙ map_push g (take i xs) x)

-- what f sees in a list is what g sees in the front of another
pub pushed_both : {X Y Z : Type 0} (f : X → Z) (g : Y → Z) (old new : List X) (x : X) (ys : List Y) (i : ℕ) (y : Y) → i < length ys → y ≡ get_or ys i y
    → map f old ≡ map g (take i ys) → new ≡ old ++ x ∷ [] → f x ≡ g y → map f new ≡ map g (take (i + 1) ys)
pushed_both f g old new x ys i y lt at so more is = pushed_seen g (map f old) (map f new) (f x) ys i y lt at so (ap (map f) more ∙ map_push f old x) is

-- what holds of each element, once one more has come
pub all_pushed : {X : Type 0} (P : X → Type 0) (old new : List X) (x : X) → All P old → P x → new ≡ old ++ x ∷ [] → All P new
all_pushed P old new x all here more = All-same P new (old ++ x ∷ []) more (All-push P old x all here)

-- what holds of each element of none
pub all_none : {X : Type 0} (P : X → Type 0) (xs : List X) → xs ≡ [] → All P xs
all_none P xs e = All-same P xs [] e (All-nil P)
