-- Texts that a set has met, and whether they differ.
use Rattle.std.proofs.Common.{◌≡◌, ◌≢◌, ℕ, zero, suc, ◌+◌, ◌<◌, List, [], ◌∷◌, ◌++◌, length, get_or, take, drop, map, Bool, true, false, cond, ◌||◌, refl, sym, ◌∙◌, ap, arith, append-nil, append_assoc, add-one}
use Rattle.std.specs.Borrow.{Bor}
use Rattle.std.specs.List.{AllByRecursion, HoldsAt, list_any, flat_map}
use Rattle.std.proofs.lemmas.List.{take_more, take-append-drop, map-append}
use Rattle.std.proofs.lemmas.Slice.Eq.{bytes_eq-Decides}
use Rattle.std.proofs.lemmas.Grind.{flat_map-append}
use Rattle.std.proofs.Math.Seq.{drop-cons}
use Rattle.cat_model.specs.Text.{Text, same_text}
use Rattle.cat_model.specs.RowSets.{has_row}
use Rattle.cat_model.specs.View.{Row, Leaf, live_rows, selected}
use Rattle.cat_model.proofs.Lists.{All-weaken, list_any-append}
use Rattle.cat_ledger_laws.specs.model.Portions.{Apart}
use Rattle.cat_ledger_laws.proofs.model.Users.{Apart-split, Apart-join}
use Rattle.cat_ledger_laws.proofs.model.Commits.{AllPairs-from_Apart}
use Rattle.cat_commits.specs.reading.Judged.{Differ, live_ids}
use Rattle.cat_commits.proofs.reading.Ordered.{Apart-from_AllPairs}

-- the set has just these texts, which differ
pub record Known (has : Text → Bool) (texts : List Text) : Type 0 where
  pub all : (q : Text) → has q ≡ list_any (same_text q) texts
  pub apart : Apart (λ a b. a ≢ b) texts

or_false : (b : Bool) → (b || false) ≡ b
or_false true = refl
or_false false = refl

one_more : (p : Text → Bool) (xs : List Text) (x : Text) → list_any p (xs ++ x ∷ []) ≡ (list_any p xs || p x)
one_more p xs x = list_any-append p xs (x ∷ []) ∙ ap (λ b. list_any p xs || b) (or_false (p x))

-- no text is the one that isn't among them
none_same : (x : Text) (xs : List Text) → list_any (same_text x) xs ≡ false → AllByRecursion (λ a. AllByRecursion (λ b. a ≢ b) (x ∷ [])) xs
none_same x [] h = tt
none_same x (a ∷ xs) h =
    let parts = or_none (same_text x a) (list_any (same_text x) xs) h in
    ((λ e. absurd (let yes : same_text x a ≡ true = (bytes_eq-Decides x a).1 (sym e) in let no : same_text x a ≡ false = parts.0 in cc), tt), none_same x xs parts.1)
  where
    or_none : (b c : Bool) → (b || c) ≡ false → (b ≡ false) × (c ≡ false)
    or_none true c e = absurd (let never : true ≡ false = e in cc)
    or_none false c e = (refl, e)

-- one that is
some_same : (x : Text) (xs : List Text) → list_any (same_text x) xs ≡ true → AllByRecursion (λ a. AllByRecursion (λ b. a ≢ b) (x ∷ [])) xs → ⊥
some_same x [] h apart = absurd (let never : false ≡ true = h in cc)
some_same x (a ∷ xs) h apart = by (λ k. some_same x xs k apart.1) (same_text x a) refl h
  where
    by : (list_any (same_text x) xs ≡ true → ⊥) → (b : Bool) → same_text x a ≡ b → (b || list_any (same_text x) xs) ≡ true → ⊥
    by rest true e k = apart.0.0 (sym ((bytes_eq-Decides x a).0 e))
    by rest false e k = rest k

pub none_known : (has : Text → Bool) → ((q : Text) → has q ≡ false) → Known has []
none_known has none = record { all = none; apart = tt }

-- a new text is noted
pub known_more : (has more : Text → Bool) (texts : List Text) (t : Text) → Known has texts → has t ≡ false → ((q : Text) → more q ≡ (has q || same_text q t)) → Known more (texts ++ t ∷ [])
known_more has more texts t known fresh is = record {
  all = λ q. is q ∙ ap (λ b. b || same_text q t) (known.all q) ∙ sym (one_more (same_text q) texts t);
  apart = Apart-join (λ a b. a ≢ b) texts (t ∷ []) known.apart (tt, tt) (none_same t texts (sym (known.all t) ∙ fresh));
}

-- one that is there is met twice
pub met_twice : (has : Text → Bool) (texts rest : List Text) (t : Text) → Known has texts → has t ≡ true → Differ (texts ++ (t ∷ rest)) → ⊥
met_twice has texts rest t known met differ =
    let all = Apart-split (λ (a b : Text). a ≢ b) texts (t ∷ rest) (Apart-from_AllPairs (λ (a b : Text). a ≢ b) (texts ++ (t ∷ rest)) differ) in
    some_same t texts (sym (known.all t) ∙ met)
    (All-weaken (λ (a : Text). AllByRecursion (λ b. a ≢ b) (t ∷ rest)) (λ a. AllByRecursion (λ b. a ≢ b) (t ∷ [])) (λ a h. (h.0, tt)) texts all.2)

pub all_differ : (has : Text → Bool) (texts : List Text) → Known has texts → Differ texts
all_differ has texts known = AllPairs-from_Apart (λ a b. a ≢ b) texts known.apart

-- ---- texts behind references

pub texts_more : (ts : List (Bor Text)) (i : ℕ) (d : Bor Text) → i < length ts → map (λ x. x.now) (take (i + 1) ts) ≡ map (λ x. x.now) (take i ts) ++ (get_or ts i d).now ∷ []
texts_more ts i d lt = ap (map (λ (x : Bor Text). x.now)) (take_more ts i d lt) ∙ map-append (λ (x : Bor Text). x.now) (take i ts) (get_or ts i d ∷ [])

pub texts_all : (ts : List (Bor Text)) (i : ℕ) (d : Bor Text) → i < length ts
    → map (λ x. x.now) ts ≡ map (λ x. x.now) (take i ts) ++ ((get_or ts i d).now ∷ map (λ x. x.now) (drop (suc i) ts))
texts_all ts i d lt =
    ap (map (λ (x : Bor Text). x.now)) (sym (take-append-drop i ts)) ∙ map-append (λ (x : Bor Text). x.now) (take i ts) (drop i ts)
    ∙ ap (λ (l : List (Bor Text)). map (λ (y : Bor Text). y.now) (take i ts) ++ map (λ (y : Bor Text). y.now) l) (drop-cons ts i d lt)

-- ---- what live rows have, row by row

selected_suc : {A : Type 0} (bs : List Bool) (xs : List A) (i : ℕ) (d : A) → length bs ≡ length xs → i < length xs
    → selected (take (suc i) bs) (take (suc i) xs) ≡ selected (take i bs) (take i xs) ++ cond (has_row bs i) (get_or xs i d ∷ []) []
selected_suc bs [] i d long within = absurd (omega (arith, within))
selected_suc [] (x ∷ xs) i d long within = absurd (omega (arith, long))
selected_suc (true ∷ bs) (x ∷ xs) zero d long within = refl
selected_suc (false ∷ bs) (x ∷ xs) zero d long within = refl
selected_suc (true ∷ bs) (x ∷ xs) (suc i) d long within = ap (λ l. x ∷ l) (selected_suc bs xs i d (omega (arith, long)) (omega (arith, within)))
selected_suc (false ∷ bs) (x ∷ xs) (suc i) d long within = selected_suc bs xs i d (omega (arith, long)) (omega (arith, within))

selected_more : {A : Type 0} (bs : List Bool) (xs : List A) (i : ℕ) (d : A) → length bs ≡ length xs → i < length xs
    → selected (take (i + 1) bs) (take (i + 1) xs) ≡ selected (take i bs) (take i xs) ++ cond (has_row bs i) (get_or xs i d ∷ []) []
selected_more bs xs i d long within = rw add-one (selected_suc bs xs i d long within)

module _ {X : Type 0} (key : Row → X) (live : List Bool) (rows : List Row) (base so_far more : List X) (row : ℕ) (long : length live ≡ length rows) (within : row < length rows)
    (is : so_far ≡ base ++ map key (selected (take row live) (take row rows))) where
  pub row_kept : (x : X) → HoldsAt (λ r. key r ≡ x) rows row → has_row live row ≡ true → more ≡ so_far ++ x ∷ []
      → more ≡ base ++ map key (selected (take (row + 1) live) (take (row + 1) rows))
  row_kept x at kept e = by rows refl
    where
      by : (rs : List Row) → rs ≡ rows → more ≡ base ++ map key (selected (take (row + 1) live) (take (row + 1) rows))
      by [] same = absurd (omega (arith, within, ap length same))
      by (d ∷ rs) same =
          e ∙ ap (λ l. l ++ x ∷ []) is ∙ append_assoc base (map key (selected (take row live) (take row rows))) (x ∷ [])
          ∙ ap (λ l. base ++ l)
          (ap (λ (i : X). map key (selected (take row live) (take row rows)) ++ i ∷ []) (sym (at d))
          ∙ sym (map-append key (selected (take row live) (take row rows)) (get_or rows row d ∷ []))
          ∙ ap (map key) (ap (λ b. selected (take row live) (take row rows) ++ cond b (get_or rows row d ∷ []) []) (sym kept) ∙ sym (selected_more live rows row d long within)))

  pub row_left : has_row live row ≡ false → more ≡ so_far → more ≡ base ++ map key (selected (take (row + 1) live) (take (row + 1) rows))
  row_left left e = by rows refl
    where
      by : (rs : List Row) → rs ≡ rows → more ≡ base ++ map key (selected (take (row + 1) live) (take (row + 1) rows))
      by [] same = absurd (omega (arith, within, ap length same))
      by (d ∷ rs) same =
          e ∙ is
          ∙ ap (λ l. base ++ map key l)
          (sym (append-nil (selected (take row live) (take row rows)))
          ∙ ap (λ b. selected (take row live) (take row rows) ++ cond b (get_or rows row d ∷ []) []) (sym left) ∙ sym (selected_more live rows row d long within))

-- a leaf more
pub ids_more : (leaves : List Leaf) (i : ℕ) (leaf : Leaf) → i < length leaves → leaf ≡ get_or leaves i leaf
    → live_ids (take (i + 1) leaves) ≡ live_ids (take i leaves) ++ map (λ r. r.id) (live_rows leaf)
ids_more leaves i leaf lt is =
    ap (map (λ (r : Row). r.id))
    (ap (flat_map live_rows) (take_more leaves i leaf lt) ∙ flat_map-append live_rows (take i leaves) (get_or leaves i leaf ∷ [])
    ∙ ap (λ (l : Leaf). flat_map live_rows (take i leaves) ++ (live_rows l ++ [])) (sym is) ∙ ap (λ rs. flat_map live_rows (take i leaves) ++ rs) (append-nil (live_rows leaf)))
    ∙ map-append (λ (r : Row). r.id) (flat_map live_rows (take i leaves)) (live_rows leaf)
