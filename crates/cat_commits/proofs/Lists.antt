-- Lists, one element more.
use Rattle.std.proofs.Common.{◌≡◌, ℕ, suc, ◌+◌, ◌-◌, ◌<◌, List, [], ◌∷◌, ◌++◌, length, take, drop, get_or, refl, ap, ◌∙◌, arith}
use Rattle.std.specs.List.{flat_map}
use Rattle.std.proofs.lemmas.List.{take_more, take_all, append-nil, length-drop}
use Rattle.std.proofs.lemmas.Grind.{flat_map-append}

pub flat_map_more : {X Y : Type 0} (f : X → List Y) (xs : List X) (i : ℕ) (d : X) → i < length xs → flat_map f (take (i + 1) xs) ≡ flat_map f (take i xs) ++ f (get_or xs i d)
flat_map_more f xs i d within =
    ap (flat_map f) (take_more xs i d within) ∙ flat_map-append f (take i xs) (get_or xs i d ∷ []) ∙ ap (λ l. flat_map f (take i xs) ++ l) (append-nil (f (get_or xs i d)))

pub drop_behind : {A : Type 0} (front rest : List A) (k m : ℕ) → length front ≡ k → drop (k + m) (front ++ rest) ≡ drop m rest
drop_behind [] rest k m long = let e : k + m ≡ m = omega arith in rw e refl
drop_behind (x ∷ front) rest k m long =
    let e : k + m ≡ suc (length front + m) = omega arith in rw e (drop_behind front rest (length front) m refl)

pub part_to_end : {A : Type 0} (xs : List A) (from : ℕ) → take (length xs - from) (drop from xs) ≡ drop from xs
part_to_end xs from = take_all (length xs - from) (drop from xs) (omega (arith, length-drop from xs))
