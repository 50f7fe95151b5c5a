-- Texts that are appended line by line.
use Rattle.std.proofs.Common.{◌≡◌, ℕ, ◌+◌, ◌<◌, List, [], ◌∷◌, ◌++◌, length, take, get_or, ap, ◌∙◌, subst, append-nil}
use Rattle.std.specs.Prelude.{Option, Result, Ok, Err, OnOk}
use Rattle.std.specs.List.{flat_map}
use Rattle.std.proofs.lemmas.List.{take_more}
use Rattle.std.proofs.lemmas.List.Concat.{flat_map-append}
use Rattle.std.specs.Io.KnownBytes.{Appends}
use Rattle.std.proofs.KnownBytes.{Appends-trans}

lines_before : {X : Type 0} (f : X → List ℕ) (xs : List X) (i : ℕ) (d : X) → i < length xs → flat_map f (take (i + 1) xs) ≡ flat_map f (take i xs) ++ f (get_or xs i d)
lines_before f xs i d h =
    ap (flat_map f) (take_more xs i d h) ∙ flat_map-append f (take i xs) (get_or xs i d ∷ [])
    ∙ ap (λ l. flat_map f (take i xs) ++ l) (append-nil (f (get_or xs i d)))

-- the lines of the elements before one went out, and then its own
pub line_more : {X : Type 0} (f : X → List ℕ) (xs : List X) (i : ℕ) (d : X) (a b c : Option (List ℕ)) → i < length xs
    → Appends a b (flat_map f (take i xs)) → Appends b c (f (get_or xs i d)) → Appends a c (flat_map f (take (i + 1) xs))
line_more f xs i d a b c h before now = rw (lines_before f xs i d h) (Appends-trans a b c _ _ before now)

-- the same, where the element has a name
pub item_more : {X : Type 0} (f : X → List ℕ) (xs : List X) (i : ℕ) (x : X) (a b c : Option (List ℕ)) → i < length xs → x ≡ get_or xs i x
    → Appends a b (flat_map f (take i xs)) → Appends b c (f x) → Appends a c (flat_map f (take (i + 1) xs))
item_more {X} f xs i x a b c h e before now = line_more f xs i x a b c h before (subst (λ (y : X). Appends b c (f y)) e now)

-- three texts behind one another, of which the last may not have gone out
pub told_in_three : {T E : Type 0} (a b c d : Option (List ℕ)) (r : Result T E) (x y z : List ℕ) → Appends a b x → Appends b c y → OnOk r (Appends c d z)
    → OnOk r (Appends a d (x ++ (y ++ z)))
told_in_three a b c d (Ok u) x y z first more last = Appends-trans a b d x (y ++ z) first (Appends-trans b c d y z more last)
told_in_three a b c d (Err e) x y z first more last = tt
