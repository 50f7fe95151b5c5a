-- What is found in lists under a map, and what holds of it.
use Rattle.std.proofs.Common.{◌≡◌, List, [], ◌∷◌, map, Bool, true, false, ◌||◌, cond, Option, Some, None, refl, sym, ◌∙◌, ap, subst}
use Rattle.std.specs.Prelude.{option_map, is_some}
use Rattle.std.specs.List.{find, list_any, AllByRecursion}

pub find_map : {X Y : Type 0} (f : X → Y) (p : Y → Bool) (xs : List X) → find p (map f xs) ≡ option_map f (find (λ x. p (f x)) xs)
find_map f p [] = refl
find_map f p (x ∷ xs) = elim (p (f x)) as (λ b. cond b (Some (f x)) (find p (map f xs)) ≡ option_map f (cond b (Some x) (find (λ x. p (f x)) xs))) [
  | true ↦ refl
  | false ↦ find_map f p xs
]

-- what is found under a map comes of one that is found
pub found_in : {X Y : Type 0} (f : X → Y) (p : Y → Bool) (xs : List X) (y : Y) → find p (map f xs) ≡ Some y → (x : X) × (f x ≡ y) × (find (λ x. p (f x)) xs ≡ Some x)
found_in {X = X} f p xs y e = by (find (λ x. p (f x)) xs) refl
  where
    by : (o : Option X) → find (λ x. p (f x)) xs ≡ o → (x : X) × (f x ≡ y) × (find (λ x. p (f x)) xs ≡ Some x)
    by None h = absurd (let no : None ≡ Some y = sym (find_map f p xs ∙ ap (option_map f) h) ∙ e in cc)
    by (Some x) h = (x, (let is : Some (f x) ≡ Some y = sym (find_map f p xs ∙ ap (option_map f) h) ∙ e in cc), h)

-- something is found where a test that tells the same passes
pub any_found : {X : Type 0} (p q : X → Bool) → ((x : X) → p x ≡ q x) → (xs : List X) → list_any q xs ≡ is_some (find p xs)
any_found p q same [] = refl
any_found p q same (x ∷ xs) = ap (λ b. b || list_any q xs) (sym (same x)) ∙ elim (p x) as (λ b. (b || list_any q xs) ≡ is_some (cond b (Some x) (find p xs))) [
  | true ↦ refl
  | false ↦ any_found p q same xs
]

some_same : {X : Type 0} (x y : X) → Some x ≡ Some y → x ≡ y
some_same x y e = cc

-- what holds of each holds of the one that is found
pub holds_found : {X : Type 0} (P : X → Type 0) (p : X → Bool) (xs : List X) (x : X) → AllByRecursion P xs → find p xs ≡ Some x → P x
holds_found P p [] x a e = absurd (cc e)
holds_found {X = X} P p (y ∷ ys) x a e = by (p y) (λ f. holds_found P p ys x a.1 f) e
  where
    by : (b : Bool) → (find p ys ≡ Some x → P x) → cond b (Some y) (find p ys) ≡ Some x → P x
    by true more e = subst P (some_same y x e) a.0
    by false more e = more e

-- where a test passes some, one of them passes it, with what holds of each
pub some_that : {X : Type 0} (P : X → Type 0) (p : X → Bool) (xs : List X) → AllByRecursion P xs → list_any p xs ≡ true → (x : X) × P x × (p x ≡ true)
some_that P p [] a e = absurd (let no : false ≡ true = e in cc)
some_that {X = X} P p (x ∷ xs) a e = by (p x) refl (λ f. some_that P p xs a.1 f) e
  where
    by : (b : Bool) → p x ≡ b → (list_any p xs ≡ true → (y : X) × P y × (p y ≡ true)) → (b || list_any p xs) ≡ true → (y : X) × P y × (p y ≡ true)
    by true h more e = (x, a.0, h)
    by false h more e = more e

or_later : (a b : Bool) → b ≡ true → (a || b) ≡ true
or_later true b e = refl
or_later false b e = e

-- a test that passes where another does passes some where that one does
pub any_weaker : {X : Type 0} (p q : X → Bool) → ((x : X) → p x ≡ true → q x ≡ true) → (xs : List X) → list_any p xs ≡ true → list_any q xs ≡ true
any_weaker p q weaker [] e = e
any_weaker p q weaker (x ∷ xs) e = by (p x) (weaker x) (λ f. any_weaker p q weaker xs f) e
  where
    by : (b : Bool) → (b ≡ true → q x ≡ true) → (list_any p xs ≡ true → list_any q xs ≡ true) → (b || list_any p xs) ≡ true → (q x || list_any q xs) ≡ true
    by true one more e = ap (λ b. b || list_any q xs) (one refl)
    by false one more e = or_later (q x) (list_any q xs) (more e)

-- what holds of each of a map's results
pub All-unmap : {X Y : Type 0} (P : Y → Type 0) (f : X → Y) (xs : List X) → AllByRecursion P (map f xs) → AllByRecursion (λ x. P (f x)) xs
All-unmap P f [] a = tt
All-unmap P f (x ∷ xs) a = (a.0, All-unmap P f xs a.1)

pub All-and : {X : Type 0} (P Q : X → Type 0) (xs : List X) → AllByRecursion P xs → AllByRecursion Q xs → AllByRecursion (λ x. P x × Q x) xs
All-and P Q [] a b = tt
All-and P Q (x ∷ xs) a b = ((a.0, b.0), All-and P Q xs a.1 b.1)
