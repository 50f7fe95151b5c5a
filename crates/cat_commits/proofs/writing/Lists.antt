-- Lists that grow by one element a time.
use Rattle.std.proofs.Common.{◌≡◌, ℕ, zero, suc, ◌+◌, ◌<◌, ◌≤◌, min, List, [], ◌∷◌, ◌++◌, length, map, take, get_or, filter, Bool, true, false, ◌||◌, cond, Option, Some, None, option_map, is_some, unwrap_or, refl, sym, ap, ◌∙◌, subst, append-nil, arith}
use Rattle.std.specs.Prelude.{◌==◌}
use Rattle.std.specs.List.{flat_map}
use Rattle.std.proofs.Math.Seq.{take-suc}
use Rattle.std.proofs.lemmas.Grind.{flat_map-append}
use Rattle.std.proofs.lemmas.List.{map_push}
use Rattle.std.proofs.lemmas.List.Elements.{filter-append}
use Rattle.cat_model.specs.CommitFile.{ListedSegment}
use Rattle.cat_model.specs.View.{Leaf}
use Rattle.cat_ledger_laws.specs.shape.Shapes.{ListedLive}
use Rattle.cat_ledger_laws.specs.shape.OpeningLaws.{listed_with}
use Rattle.cat_commits.specs.writing.Entries.{index_of}
use Rattle.cat_commits.specs.writing.Unsynced.{is_listed}

pub some_none : {X : Type 0} (x : X) → Some x ≡ None → ⊥
some_none x e = let t : true ≡ false = ap is_some e in cc

pub some_same : {X : Type 0} (x y : X) → Some x ≡ Some y → x ≡ y
some_same x y e = ap (λ o. unwrap_or o x) e

pub take_more : {X : Type 0} (xs : List X) (i : ℕ) (x : X) → i < length xs → x ≡ get_or xs i x → take (i + 1) xs ≡ take i xs ++ x ∷ []
take_more xs i x lt is =
    let one : i + 1 ≡ suc i = omega arith in
    ap (λ n. take n xs) one ∙ take-suc xs i x lt ∙ ap (λ y. take i xs ++ y ∷ []) (sym is)

pub map_more : {X Y : Type 0} (f : X → Y) (xs : List X) (i : ℕ) (x : X) → i < length xs → x ≡ get_or xs i x → map f (take i xs) ++ f x ∷ [] ≡ map f (take (i + 1) xs)
map_more f xs i x lt is = sym (ap (map f) (take_more xs i x lt is) ∙ map_push f (take i xs) x)

pub flat_map_more : {X Y : Type 0} (f : X → List Y) (xs : List X) (i : ℕ) (x : X) → i < length xs → x ≡ get_or xs i x → flat_map f (take i xs) ++ f x ≡ flat_map f (take (i + 1) xs)
flat_map_more f xs i x lt is =
    sym (ap (flat_map f) (take_more xs i x lt is) ∙ flat_map-append f (take i xs) (x ∷ []) ∙ ap (λ l. flat_map f (take i xs) ++ l) (append-nil (f x)))

pub filter_more : {X : Type 0} (p : X → Bool) (xs : List X) (i : ℕ) (x : X) → i < length xs → x ≡ get_or xs i x → filter p (take (i + 1) xs) ≡ filter p (take i xs) ++ cond (p x) (x ∷ []) []
filter_more p xs i x lt is = ap (filter p) (take_more xs i x lt is) ∙ filter-append p (take i xs) (x ∷ [])

-- ---- segments and their leaves

abbrev listed_of : ListedSegment → Leaf → ListedLive
listed_of x y = record { number = x.number; live = y.live; file = x.file }

with_more : (xs : List ListedSegment) (ys : List Leaf) (i : ℕ) (x : ListedSegment) (y : Leaf) → i < length xs → i < length ys → get_or xs i x ≡ x → get_or ys i y ≡ y
    → listed_with (take i xs) (take i ys) ++ listed_of x y ∷ [] ≡ listed_with (take (suc i) xs) (take (suc i) ys)
with_more [] ys i x y a b e f = absurd (omega arith)
with_more (v ∷ xs) [] i x y a b e f = absurd (omega arith)
with_more (v ∷ xs) (w ∷ ys) zero x y a b e f =
    subst (λ (s : ListedSegment). listed_of x y ∷ [] ≡ listed_of s w ∷ []) (sym e) (subst (λ (l : Leaf). listed_of x y ∷ [] ≡ listed_of x l ∷ []) (sym f) refl)
with_more (v ∷ xs) (w ∷ ys) (suc i) x y a b e f = ap (λ l. listed_of v w ∷ l) (with_more xs ys i x y (omega arith) (omega arith) e f)

pub listed_with_more : (xs : List ListedSegment) (ys : List Leaf) (i : ℕ) (x : ListedSegment) (y : Leaf) → i < length xs → i < length ys → x ≡ get_or xs i x → y ≡ get_or ys i y
    → listed_with (take i xs) (take i ys) ++ listed_of x y ∷ [] ≡ listed_with (take (i + 1) xs) (take (i + 1) ys)
listed_with_more xs ys i x y a b e f =
    with_more xs ys i x y a b (sym e) (sym f) ∙ ap (λ n. listed_with (take n xs) (take n ys)) (let one : suc i ≡ i + 1 = omega arith in one)

with_all : (xs : List ListedSegment) (ys : List Leaf) (c : ℕ) → min (length xs) (length ys) ≤ c → listed_with (take c xs) (take c ys) ≡ listed_with xs ys
with_all [] ys zero h = refl
with_all [] ys (suc c) h = refl
with_all (x ∷ xs) [] zero h = refl
with_all (x ∷ xs) [] (suc c) h = refl
with_all (x ∷ xs) (y ∷ ys) zero h = absurd (omega arith)
with_all (x ∷ xs) (y ∷ ys) (suc c) h = ap (λ l. listed_of x y ∷ l) (with_all xs ys c (omega arith))

pub listed_with_all : (xs : List ListedSegment) (ys : List Leaf) (c : ℕ) → c ≡ min (length xs) (length ys) → listed_with (take c xs) (take c ys) ≡ listed_with xs ys
listed_with_all xs ys c e = with_all xs ys c (omega (arith, e))

-- ---- numbers that are listed

pub listed_is : (n : ℕ) (xs : List ListedLive) → is_some (index_of n xs) ≡ is_listed n xs
listed_is n [] = refl
listed_is n (x ∷ xs) = by (x.number == n) (index_of n xs) (listed_is n xs)
  where
    by : (b : Bool) (o : Option ℕ) → is_some o ≡ is_listed n xs → is_some (cond b (Some 0) (option_map suc o)) ≡ (b || is_listed n xs)
    by true o e = refl
    by false None e = e
    by false (Some m) e = e
