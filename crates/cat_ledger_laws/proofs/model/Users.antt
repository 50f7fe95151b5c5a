-- Counts of users, and what holds of each element of lists that were put together.
use Rattle.std.proofs.Common.{◌≡◌, ◌+◌, List, [], ◌∷◌, ◌++◌, cond, ◌∙◌, ap, arith}
use Rattle.std.specs.List.{flat_map, AllByRecursion}
use Rattle.std.proofs.lemmas.List.Sums.{sum_by-append}
use Rattle.std.proofs.lemmas.Grind.{flat_map-append}
use Rattle.cat_model.specs.Files.{Name}
use Rattle.cat_model.proofs.Lists.{All-both}
use Rattle.cat_ledger_laws.specs.model.Portions.{Apart}
use Rattle.cat_ledger_laws.specs.model.Users.{Used, same_file_name, times, Changes, AreUsed}

pub All-split : {X : Type 0} (P : X → Type 0) (xs ys : List X) → AllByRecursion P (xs ++ ys) → AllByRecursion P xs × AllByRecursion P ys
All-split P [] ys a = (tt, a)
All-split P (x ∷ xs) ys a = let r : AllByRecursion P xs × AllByRecursion P ys = All-split P xs ys a.1 in ((a.0, r.0), r.1)

pub Apart-split : {X : Type 0} (R : X → X → Type 0) (xs ys : List X) → Apart R (xs ++ ys) → Apart R xs × Apart R ys × AllByRecursion (λ x. AllByRecursion (R x) ys) xs
Apart-split R [] ys a = (tt, a, tt)
Apart-split R (x ∷ xs) ys a =
    let r : Apart R xs × Apart R ys × AllByRecursion (λ x. AllByRecursion (R x) ys) xs = Apart-split R xs ys a.1 in
    let s : AllByRecursion (R x) xs × AllByRecursion (R x) ys = All-split (R x) xs ys a.0 in
    ((s.0, r.0), r.1, (s.1, r.2))

pub Apart-join : {X : Type 0} (R : X → X → Type 0) (xs ys : List X) → Apart R xs → Apart R ys → AllByRecursion (λ x. AllByRecursion (R x) ys) xs → Apart R (xs ++ ys)
Apart-join R [] ys a b c = b
Apart-join R (x ∷ xs) ys a b c = (All-both (R x) xs ys a.0 c.0, Apart-join R xs ys a.1 b c.1)

pub All-flat : {X Y : Type 0} (P : Y → Type 0) (f : X → List Y) (xs : List X) → AllByRecursion (λ x. AllByRecursion P (f x)) xs → AllByRecursion P (flat_map f xs)
All-flat P f [] a = tt
All-flat P f (x ∷ xs) a = All-both P (f x) (flat_map f xs) a.0 (All-flat P f xs a.1)

pub times-append : (q : Name) (xs ys : List Name) → times q (xs ++ ys) ≡ times q xs + times q ys
times-append q xs ys = sum_by-append (λ n. cond (same_file_name q n) 1 0) xs ys

pub times-flat : {X : Type 0} (q : Name) (f : X → List Name) (xs ys : List X) → times q (flat_map f (xs ++ ys)) ≡ times q (flat_map f xs) + times q (flat_map f ys)
times-flat q f xs ys = ap (times q) (flat_map-append f xs ys) ∙ times-append q (flat_map f xs) (flat_map f ys)

-- counts that are exact stay so, where what is taken and given is the difference of what is used
pub recounted : (old new taken given : List Name) (us vs : List Used) → AreUsed us old → Changes taken given us vs → ((q : Name) → times q new + times q given ≡ times q old + times q taken) → AreUsed vs new
recounted old new taken given us vs a c e q = omega (arith, a q, c.users q, e q)

-- ---- the four kinds of user

pub times-four : (q : Name) (a b c d : List Name) → times q (a ++ (b ++ (c ++ d))) ≡ times q a + (times q b + (times q c + times q d))
times-four q a b c d = omega (arith, times-append q a (b ++ (c ++ d)), times-append q b (c ++ d), times-append q c d)

-- what holds of each name, by kind of user
pub record Four (P : Name → Type 0) (a b c d : List Name) : Type 0 where
  pub portions : AllByRecursion P a
  pub views : AllByRecursion P b
  pub commits : AllByRecursion P c
  pub merging : AllByRecursion P d

pub All-four : (P : Name → Type 0) (a b c d : List Name) → AllByRecursion P (a ++ (b ++ (c ++ d))) → Four P a b c d
All-four P a b c d h =
    let one : AllByRecursion P a × AllByRecursion P (b ++ (c ++ d)) = All-split P a (b ++ (c ++ d)) h in
    let two : AllByRecursion P b × AllByRecursion P (c ++ d) = All-split P b (c ++ d) one.1 in
    let three : AllByRecursion P c × AllByRecursion P d = All-split P c d two.1 in
    record { portions = one.0; views = two.0; commits = three.0; merging = three.1 }

pub All-of_four : (P : Name → Type 0) (a b c d : List Name) → Four P a b c d → AllByRecursion P (a ++ (b ++ (c ++ d)))
All-of_four P a b c d f = All-both P a (b ++ (c ++ d)) f.portions (All-both P b (c ++ d) f.views (All-both P c d f.commits f.merging))
