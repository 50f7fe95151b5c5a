-- Each file that a commit needs is synced with it, or is needed by what was listed before.
use Rattle.std.proofs.Common.{◌≡◌, ℕ, List, [], ◌∷◌, Bool, true, false, ◌&&◌, ◌||◌, cond, refl, sym, ◌∙◌, subst, inl, inr}
use Rattle.std.specs.Prelude.{◌⊎◌, ◌==◌}
use Rattle.std.proofs.lemmas.Bool.{eqb-true}
use Rattle.cat_model.specs.Files.{Name}
use Rattle.cat_model.specs.CommitFile.{listed_names, live_names}
use Rattle.cat_model.specs.View.{Leaf}
use Rattle.cat_model.proofs.Lists.{list_any-append}
use Rattle.cat_ledger_laws.specs.model.Calls.{same_live, all_alive}
use Rattle.cat_ledger_laws.specs.model.Users.{has_name, same_file_name}
use Rattle.cat_ledger_laws.specs.shape.Shapes.{ListedLive}
use Rattle.cat_ledger_laws.specs.shape.Steps.{file_in, file_for}
use Rattle.cat_ledger_laws.proofs.shape.Told.{same_number}
use Rattle.cat_commits.specs.writing.Entries.{listed_after, listing_after}
use Rattle.cat_commits.specs.writing.Unsynced.{new_live_of, is_listed, unsynced_segment, unsynced_of, unsynced_in, needed_by}
use Rattle.cat_commits.specs.writing.Laws.{NeededAreSynced}
use Rattle.cat_commits.proofs.writing.Drafting.{segment_of}

or_first : (a b : Bool) → a ≡ true → (a || b) ≡ true
or_first a b e = rw e refl

or_second : (a b : Bool) → b ≡ true → (a || b) ≡ true
or_second true b e = refl
or_second false b e = e

or_split : {P : Type 0} (a b : Bool) → (a ≡ true → P) → (b ≡ true → P) → (a || b) ≡ true → P
or_split true b f g e = f refl
or_split false b f g e = g e

both : (a b : Bool) → (a && b) ≡ true → (a ≡ true) × (b ≡ true)
both true b e = (refl, e)
both false b e = absurd (let clash : false ≡ true = e in cc)

-- ---- what was listed

in_first : (y : ListedLive) (ys : List ListedLive) (q : Name) → has_name q (listed_names (segment_of y)) ≡ true → has_name q (needed_by (y ∷ ys)) ≡ true
in_first y ys q e = list_any-append (same_file_name q) (listed_names (segment_of y)) (needed_by ys) ∙ or_first (has_name q (listed_names (segment_of y))) (has_name q (needed_by ys)) e

in_rest : (y : ListedLive) (ys : List ListedLive) (q : Name) → has_name q (needed_by ys) ≡ true → has_name q (needed_by (y ∷ ys)) ≡ true
in_rest y ys q e = list_any-append (same_file_name q) (listed_names (segment_of y)) (needed_by ys) ∙ or_second (has_name q (listed_names (segment_of y))) (has_name q (needed_by ys)) e

-- the two files of a segment
abbrev own_files : ℕ → List Name
own_files n = Name.segment n ∷ Name.source n ∷ []

own_needed : (n f : ℕ) (q : Name) → has_name q (own_files n) ≡ true → has_name q (Name.segment n ∷ Name.source n ∷ live_names n f) ≡ true
own_needed n f q e =
    or_split (same_file_name q (Name.segment n)) (same_file_name q (Name.source n) || false)
    (λ h. or_first (same_file_name q (Name.segment n)) (same_file_name q (Name.source n) || has_name q (live_names n f)) h)
    (λ k. or_second (same_file_name q (Name.segment n)) (same_file_name q (Name.source n) || has_name q (live_names n f))
    (or_split (same_file_name q (Name.source n)) false
    (λ h. or_first (same_file_name q (Name.source n)) (has_name q (live_names n f)) h)
    (λ h. absurd (let clash : false ≡ true = h in cc)) k)) e

listed_own : (n : ℕ) (old : List ListedLive) (q : Name) → is_listed n old ≡ true → has_name q (own_files n) ≡ true → has_name q (needed_by old) ≡ true
listed_own n [] q l e = absurd (let clash : false ≡ true = l in cc)
listed_own n (y ∷ ys) q l e =
    let rest = listed_own n ys q in
    or_split (y.number == n) (is_listed n ys)
    (λ h. in_first y ys q (own_needed y.number y.file q (subst (λ m. has_name q (own_files m) ≡ true) (sym (eqb-true y.number n h)) e)))
    (λ h. in_rest y ys q (rest h e)) l

live_needed : (n f : ℕ) (q : Name) → (f == 0) ≡ false → has_name q (Name.live n f ∷ []) ≡ true → has_name q (Name.segment n ∷ Name.source n ∷ live_names n f) ≡ true
live_needed n f q some e =
    or_second (same_file_name q (Name.segment n)) (same_file_name q (Name.source n) || has_name q (live_names n f))
    (or_second (same_file_name q (Name.source n)) (has_name q (live_names n f))
    (subst (λ b. has_name q (cond b [] (Name.live n f ∷ [])) ≡ true) (sym some) e))

listed_live : (old : List ListedLive) (leaf : Leaf) (q : Name) → (file_in old leaf == 0) ≡ false → has_name q (Name.live leaf.segment.number (file_in old leaf) ∷ []) ≡ true
    → has_name q (needed_by old) ≡ true
listed_live [] leaf q some e = absurd (let clash : true ≡ false = some in cc)
listed_live (y ∷ ys) leaf q some e = by ((y.number == leaf.segment.number) && same_live y.live leaf.live) refl (listed_live ys leaf q) some e
  where
    by : (b : Bool) → ((y.number == leaf.segment.number) && same_live y.live leaf.live) ≡ b
        → ((file_in ys leaf == 0) ≡ false → has_name q (Name.live leaf.segment.number (file_in ys leaf) ∷ []) ≡ true → has_name q (needed_by ys) ≡ true)
        → (cond b y.file (file_in ys leaf) == 0) ≡ false → has_name q (Name.live leaf.segment.number (cond b y.file (file_in ys leaf)) ∷ []) ≡ true → has_name q (needed_by (y ∷ ys)) ≡ true
    by true h rest s k =
        let number : y.number ≡ leaf.segment.number = eqb-true y.number leaf.segment.number (both (y.number == leaf.segment.number) (same_live y.live leaf.live) h).0 in
        in_first y ys q (live_needed y.number y.file q s (subst (λ m. has_name q (Name.live m y.file ∷ []) ≡ true) (sym number) k))
    by false h rest s k = in_rest y ys q (rest s k)

-- ---- one leaf

some_live : (b : Bool) (q n : Name) → has_name q (cond b [] (n ∷ [])) ≡ true → (b ≡ false) × (has_name q (n ∷ []) ≡ true)
some_live true q n e = absurd (let clash : false ≡ true = e in cc)
some_live false q n e = (refl, e)

-- a live file that is neither none nor new is the one that was listed
kept : (a c : Bool) (k g : ℕ) → (cond a 0 (cond c g k) == 0) ≡ false → (cond a 0 (cond c g k) == g) ≡ false → cond a 0 (cond c g k) ≡ k
kept true c k g some old = absurd (let clash : true ≡ false = some in cc)
kept false true k g some old = absurd (let clash : true ≡ false = sym (same_number g) ∙ old in cc)
kept false false k g some old = refl

module _ (old : List ListedLive) (g : ℕ) (leaf : Leaf) (q : Name) where
  abbrev n : ℕ
  n = leaf.segment.number

  abbrev f : ℕ
  f = file_for old g leaf

  abbrev Found : Type 0
  Found = (has_name q (unsynced_of old g (listed_after old g leaf)) ≡ true) ⊎ (has_name q (needed_by old) ≡ true)

  own : (b : Bool) → is_listed n old ≡ b → has_name q (own_files n) ≡ true → Found
  own true l k = inr (listed_own n old q l k)
  own false l k = inl (list_any-append (same_file_name q) (unsynced_segment (is_listed n old) (listed_after old g leaf)) (new_live_of g (listed_after old g leaf))
      ∙ or_first (has_name q (unsynced_segment (is_listed n old) (listed_after old g leaf))) (has_name q (new_live_of g (listed_after old g leaf)))
      (subst (λ b. has_name q (unsynced_segment b (listed_after old g leaf)) ≡ true) (sym l) k))

  live : (b : Bool) → (f == g) ≡ b → (f == 0) ≡ false → has_name q (Name.live n f ∷ []) ≡ true → Found
  live true l some k = inl (list_any-append (same_file_name q) (unsynced_segment (is_listed n old) (listed_after old g leaf)) (new_live_of g (listed_after old g leaf))
      ∙ or_second (has_name q (unsynced_segment (is_listed n old) (listed_after old g leaf))) (has_name q (new_live_of g (listed_after old g leaf)))
      (subst (λ b. has_name q (cond b (Name.live n f ∷ []) []) ≡ true) (sym l) k))
  live false l some k =
      let is : f ≡ file_in old leaf = kept (all_alive leaf.live) (file_in old leaf == 0) (file_in old leaf) g some l in
      inr (listed_live old leaf q (subst (λ m. (m == 0) ≡ false) is some) (subst (λ m. has_name q (Name.live n m ∷ []) ≡ true) is k))

  one : has_name q (listed_names (segment_of (listed_after old g leaf))) ≡ true → Found
  one e =
      or_split (same_file_name q (Name.segment n)) (same_file_name q (Name.source n) || has_name q (live_names n f))
      (λ h. own (is_listed n old) refl (or_first (same_file_name q (Name.segment n)) (same_file_name q (Name.source n) || false) h))
      (λ k. or_split (same_file_name q (Name.source n)) (has_name q (live_names n f))
      (λ h. own (is_listed n old) refl (or_second (same_file_name q (Name.segment n)) (same_file_name q (Name.source n) || false) (or_first (same_file_name q (Name.source n)) false h)))
      (λ h. let l = some_live (f == 0) q (Name.live n f) h in live (f == g) refl l.0 l.1) k) e

-- ---- all of them

each : (old : List ListedLive) (g : ℕ) (leaves : List Leaf) (q : Name) → has_name q (needed_by (listing_after old g leaves)) ≡ true
    → (has_name q (unsynced_in old g (listing_after old g leaves)) ≡ true) ⊎ (has_name q (needed_by old) ≡ true)
each old g [] q e = absurd (let clash : false ≡ true = e in cc)
each old g (l ∷ ls) q e =
    let rest = each old g ls q in
    or_split (has_name q (listed_names (segment_of (listed_after old g l)))) (has_name q (needed_by (listing_after old g ls)))
    (λ h. elim (one old g l q h) [
      | inl a ↦ inl (list_any-append (same_file_name q) (unsynced_of old g (listed_after old g l)) (unsynced_in old g (listing_after old g ls))
          ∙ or_first (has_name q (unsynced_of old g (listed_after old g l))) (has_name q (unsynced_in old g (listing_after old g ls))) a)
      | inr b ↦ inr b
    ])
    (λ h. elim (rest h) [
      | inl a ↦ inl (list_any-append (same_file_name q) (unsynced_of old g (listed_after old g l)) (unsynced_in old g (listing_after old g ls))
          ∙ or_second (has_name q (unsynced_of old g (listed_after old g l))) (has_name q (unsynced_in old g (listing_after old g ls))) a)
      | inr b ↦ inr b
    ])
    (sym (list_any-append (same_file_name q) (listed_names (segment_of (listed_after old g l))) (needed_by (listing_after old g ls))) ∙ e)

pub needed_synced : NeededAreSynced
needed_synced old leaves h q e =
    or_split (same_file_name q (Name.commit h.generation)) (has_name q (needed_by (listing_after old h.generation leaves)))
    (λ k. inl (or_first (same_file_name q (Name.commit h.generation)) (has_name q (unsynced_in old h.generation (listing_after old h.generation leaves))) k))
    (λ k. elim (each old h.generation leaves q k) [
      | inl a ↦ inl (or_second (same_file_name q (Name.commit h.generation)) (has_name q (unsynced_in old h.generation (listing_after old h.generation leaves))) a)
      | inr b ↦ inr b
    ]) e
