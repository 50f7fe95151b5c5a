-- Live sets, and what is marked by them.
use Rattle.std.proofs.Common.{◌≡◌, ℕ, zero, suc, List, [], ◌∷◌, ◌++◌, length, map, take, drop, Bool, true, false, cond, not, ◌&&◌, refl, sym, ◌∙◌, ap, ap₂, subst, arith}
use Rattle.std.specs.List.{filter, AllByRecursion}
use Rattle.std.proofs.lemmas.List.{length-append}
use Rattle.std.proofs.lemmas.List.Elements.{filter-append}
use Rattle.cat_model.specs.Item.{Record}
use Rattle.cat_model.specs.Write.{Write, removes}
use Rattle.cat_model.specs.Table.{without}
use Rattle.cat_model.specs.View.{selected}
use Rattle.cat_model.specs.Merged.{LessLive}
use Rattle.cat_model.proofs.Lists.{All-kept}
use Rattle.cat_model.proofs.Merged.{marked-append, LessLive-append}
use Rattle.cat_ledger_laws.specs.model.Portions.{Portion, live_records, records_of, all_records, lives_of, Apart, live_after, portions_after, Reduced}

-- ---- marked

pub marked-all : {A : Type 0} (xs : List A) → selected (map (λ x. true) xs) xs ≡ xs
marked-all [] = refl
marked-all (x ∷ xs) = ap (λ l. x ∷ l) (marked-all xs)

pub All-marked : {X : Type 0} (P : X → Type 0) (bs : List Bool) (xs : List X) → AllByRecursion P xs → AllByRecursion P (selected bs xs)
All-marked P [] xs a = tt
All-marked P (b ∷ bs) [] a = tt
All-marked P (true ∷ bs) (x ∷ xs) a = (a.0, All-marked P bs xs a.1)
All-marked P (false ∷ bs) (x ∷ xs) a = All-marked P bs xs a.1

pub Apart-marked : {X : Type 0} (R : X → X → Type 0) (bs : List Bool) (xs : List X) → Apart R xs → Apart R (selected bs xs)
Apart-marked R [] xs a = tt
Apart-marked R (b ∷ bs) [] a = tt
Apart-marked R (true ∷ bs) (x ∷ xs) a = (All-marked (R x) bs xs a.0, Apart-marked R bs xs a.1)
Apart-marked R (false ∷ bs) (x ∷ xs) a = Apart-marked R bs xs a.1

pub marked-length : {A B : Type 0} (bs : List Bool) (xs : List A) (ys : List B) → length xs ≡ length ys → length (selected bs xs) ≡ length (selected bs ys)
marked-length [] xs ys e = refl
marked-length (b ∷ bs) [] [] e = refl
marked-length (b ∷ bs) [] (y ∷ ys) e = absurd (omega (arith, e))
marked-length (b ∷ bs) (x ∷ xs) [] e = absurd (omega (arith, e))
marked-length (true ∷ bs) (x ∷ xs) (y ∷ ys) e = ap suc (marked-length bs xs ys (omega (arith, e)))
marked-length (false ∷ bs) (x ∷ xs) (y ∷ ys) e = marked-length bs xs ys (omega (arith, e))

-- what stands in the middle of a list may be thinned out
thinned : {X : Type 0} (xs ys zs : List X) (bs : List Bool) → length bs ≡ length ys → selected (map (λ x. true) xs ++ (bs ++ map (λ x. true) zs)) (xs ++ (ys ++ zs)) ≡ xs ++ (selected bs ys ++ zs)
thinned {X} xs ys zs bs e =
    marked-append (map (λ x. true) xs) (bs ++ map (λ x. true) zs) xs (ys ++ zs) (length-map xs)
    ∙ ap₂ (λ (a b : List X). a ++ b) (marked-all xs) (marked-append bs (map (λ x. true) zs) ys zs e ∙ ap (λ l. selected bs ys ++ l) (marked-all zs))
  where
    length-map : (l : List X) → length (map (λ x. true) l) ≡ length l
    length-map [] = refl
    length-map (y ∷ l) = ap suc (length-map l)

pub Apart-kept : {X : Type 0} (R : X → X → Type 0) (p : X → Bool) (xs : List X) → Apart R xs → Apart R (filter p xs)
Apart-kept R p [] a = tt
Apart-kept R p (x ∷ xs) a = by (p x) (All-kept (R x) p xs a.0) (Apart-kept R p xs a.1)
  where
    by : (b : Bool) → AllByRecursion (R x) (filter p xs) → Apart R (filter p xs) → Apart R (cond b (x ∷ filter p xs) (filter p xs))
    by true h k = (h, k)
    by false h k = k

pub Apart-thinned : {X : Type 0} (R : X → X → Type 0) (xs ys zs : List X) (bs : List Bool) → length bs ≡ length ys → Apart R (xs ++ (ys ++ zs)) → Apart R (xs ++ (selected bs ys ++ zs))
Apart-thinned R xs ys zs bs e a = subst (Apart R) (thinned xs ys zs bs e) (Apart-marked R _ (xs ++ (ys ++ zs)) a)

pub All-thinned : {X : Type 0} (P : X → Type 0) (xs ys zs : List X) (bs : List Bool) → length bs ≡ length ys → AllByRecursion P (xs ++ (ys ++ zs)) → AllByRecursion P (xs ++ (selected bs ys ++ zs))
All-thinned P xs ys zs bs e a = subst (AllByRecursion P) (thinned xs ys zs bs e) (All-marked P _ (xs ++ (ys ++ zs)) a)

-- ---- lists of portions as one

abbrev pub Full : List Portion → Type 0
Full ps = AllByRecursion (λ p. length p.live ≡ length p.records) ps

pub lives-length : (ps : List Portion) → Full ps → length (lives_of ps) ≡ length (all_records ps)
lives-length [] f = refl
lives-length (p ∷ ps) f = omega (arith, f.0, lives-length ps f.1, length-append p.live (lives_of ps), length-append p.records (all_records ps))

pub records-marked : (ps : List Portion) → Full ps → selected (lives_of ps) (all_records ps) ≡ records_of ps
records-marked [] f = refl
records-marked (p ∷ ps) f = marked-append p.live (lives_of ps) p.records (all_records ps) f.0 ∙ ap (λ l. live_records p ++ l) (records-marked ps f.1)

-- ---- live sets that lost rows

pub LessLive-then : (a b c : List Bool) → LessLive a b → LessLive b c → LessLive a c
LessLive-then [] [] [] h k = tt
LessLive-then [] [] (z ∷ c) h k = absurd k
LessLive-then [] (y ∷ b) c h k = absurd h
LessLive-then (x ∷ a) [] c h k = absurd h
LessLive-then (x ∷ a) (y ∷ b) [] h k = absurd k
LessLive-then (x ∷ a) (y ∷ b) (z ∷ c) h k = (λ e. h.0 (k.0 e), LessLive-then a b c h.1 k.1)

pub Reduced-lives : (ps qs : List Portion) → Reduced ps qs → LessLive (lives_of ps) (lives_of qs)
Reduced-lives [] [] h = tt
Reduced-lives [] (q ∷ qs) h = absurd h
Reduced-lives (p ∷ ps) [] h = absurd h
Reduced-lives (p ∷ ps) (q ∷ qs) h = LessLive-append p.live q.live (lives_of ps) (lives_of qs) h.2 (Reduced-lives ps qs h.3)

pub Reduced-rows : (ps qs : List Portion) → Reduced ps qs → all_records qs ≡ all_records ps
Reduced-rows [] [] h = refl
Reduced-rows [] (q ∷ qs) h = absurd h
Reduced-rows (p ∷ ps) [] h = absurd h
Reduced-rows (p ∷ ps) (q ∷ qs) h = ap₂ (λ (a b : List Record). a ++ b) h.1 (Reduced-rows ps qs h.3)

pub Reduced-length : (ps qs : List Portion) → Reduced ps qs → length qs ≡ length ps
Reduced-length [] [] h = refl
Reduced-length [] (q ∷ qs) h = absurd h
Reduced-length (p ∷ ps) [] h = absurd h
Reduced-length (p ∷ ps) (q ∷ qs) h = ap suc (Reduced-length ps qs h.3)

pub LessLive-same : (a : List Bool) → LessLive a a
LessLive-same [] = tt
LessLive-same (b ∷ a) = (λ e. e, LessLive-same a)

pub Reduced-same : (ps : List Portion) → Reduced ps ps
Reduced-same [] = tt
Reduced-same (p ∷ ps) = (refl, refl, LessLive-same p.live, Reduced-same ps)

pub Reduced-then : (a b c : List Portion) → Reduced a b → Reduced b c → Reduced a c
Reduced-then [] [] [] h k = tt
Reduced-then [] [] (z ∷ c) h k = absurd k
Reduced-then [] (y ∷ b) c h k = absurd h
Reduced-then (x ∷ a) [] c h k = absurd h
Reduced-then (x ∷ a) (y ∷ b) [] h k = absurd k
Reduced-then (x ∷ a) (y ∷ b) (z ∷ c) h k = (k.0 ∙ h.0, k.1 ∙ h.1, LessLive-then x.live y.live z.live h.2 k.2, Reduced-then a b c h.3 k.3)

pub Reduced-take : (i : ℕ) (a b : List Portion) → Reduced a b → Reduced (take i a) (take i b)
Reduced-take zero a b h = tt
Reduced-take (suc i) [] [] h = tt
Reduced-take (suc i) [] (y ∷ b) h = absurd h
Reduced-take (suc i) (x ∷ a) [] h = absurd h
Reduced-take (suc i) (x ∷ a) (y ∷ b) h = (h.0, h.1, h.2, Reduced-take i a b h.3)

pub Reduced-drop : (i : ℕ) (a b : List Portion) → Reduced a b → Reduced (drop i a) (drop i b)
Reduced-drop zero a b h = h
Reduced-drop (suc i) [] [] h = tt
Reduced-drop (suc i) [] (y ∷ b) h = absurd h
Reduced-drop (suc i) (x ∷ a) [] h = absurd h
Reduced-drop (suc i) (x ∷ a) (y ∷ b) h = Reduced-drop i a b h.3

-- ---- the records that a write takes out

pub live_after-less : (w : Write) (bs : List Bool) (rs : List Record) → LessLive bs (live_after w bs rs)
live_after-less w [] rs = tt
live_after-less w (b ∷ bs) [] = LessLive-same (b ∷ bs)
live_after-less w (b ∷ bs) (r ∷ rs) = (and_left b (not (removes w r.item)), live_after-less w bs rs)
  where
    and_left : (x y : Bool) → (x && y) ≡ true → x ≡ true
    and_left true y e = refl
    and_left false y e = e

pub Reduced-after : (w : Write) (ps : List Portion) → Reduced ps (portions_after w ps)
Reduced-after w [] = tt
Reduced-after w (p ∷ ps) = (refl, refl, live_after-less w p.live p.records, Reduced-after w ps)

marked_after : (w : Write) (bs : List Bool) (rs : List Record) → selected (live_after w bs rs) rs ≡ without (selected bs rs) w
marked_after w [] rs = refl
marked_after w (b ∷ bs) [] = refl
marked_after w (true ∷ bs) (r ∷ rs) = elim (not (removes w r.item)) as (λ x. selected (x ∷ live_after w bs rs) (r ∷ rs) ≡ cond x (r ∷ without (selected bs rs) w) (without (selected bs rs) w)) [
  | true ↦ ap (λ l. r ∷ l) (marked_after w bs rs)
  | false ↦ marked_after w bs rs
]
marked_after w (false ∷ bs) (r ∷ rs) = marked_after w bs rs

pub records-after : (w : Write) (ps : List Portion) → records_of (portions_after w ps) ≡ without (records_of ps) w
records-after w [] = refl
records-after w (p ∷ ps) =
    ap₂ (λ (a b : List Record). a ++ b) (marked_after w p.live p.records) (records-after w ps)
    ∙ sym (filter-append (λ r. not (removes w r.item)) (live_records p) (records_of ps))

pub rows-after : (w : Write) (ps : List Portion) → all_records (portions_after w ps) ≡ all_records ps
rows-after w ps = Reduced-rows ps (portions_after w ps) (Reduced-after w ps)
