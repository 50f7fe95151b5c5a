-- The parts of a text between its cuts are its longest runs of word bytes.
use Rattle.std.proofs.Common.{◌≡◌, ℕ, zero, suc, ◌<◌, List, [], ◌∷◌, ◌++◌, length, Bool, true, false, not, cond, refl, sym, ap, ◌∙◌, subst, arith, inl, inr, append_assoc, append-nil}
use Rattle.std.specs.Prelude.{◌↔◌, filter, Contains, map}
use Rattle.std.specs.List.{slice_split, onto_first, AllByRecursion}
use Rattle.std.proofs.lemmas.Bool.{lt-ltb}
use Rattle.std.proofs.lemmas.List.Splits.{slice_split-cons_yes, slice_split-cons_no}
use Rattle.std.proofs.lemmas.List.Elements.{filter-append, Contains-append_right, All-contains, All-from_recursion}
use Rattle.cat_base.specs.Texts.{sorted_set}
use Rattle.cat_base.proofs.TextSets.{has-sorted_set, has-Decides}
use Rattle.cat_model.specs.Text.{Text}
use Rattle.cat_model.specs.Words.{is_word_byte, is_some_text, lowered, runs, IsCutBefore, IsCutAfter, IsRunOf}
use Rattle.cat_model.specs.Laws.{WordsAreLongestRuns, WordsAreLoweredRuns}

abbrev cuts : ℕ → Bool
cuts b = not (is_word_byte b)

abbrev AllOfWords : Text → Type 0
AllOfWords run = AllByRecursion (λ b. is_word_byte b ≡ true) run

word_byte : (b : Bool) → not b ≡ false → b ≡ true
word_byte true e = refl
word_byte false e = cc

no_word_byte : (b : Bool) → not b ≡ true → b ≡ false
no_word_byte true e = cc
no_word_byte false e = refl

-- ---- each part is a longest run, or empty

-- the part, maybe an empty one, stands right behind `before`, up to a cut
record IsPart (text part before : Text) : Type 0 where
  after : Text
  whole : text ≡ before ++ (part ++ after)
  of_words : AllOfWords part
  ends : IsCutAfter after

-- the part stands right behind some cut
record IsLater (text part : Text) : Type 0 where
  before : Text
  cut : ℕ
  no_word : is_word_byte cut ≡ false
  part_is : IsPart text part (before ++ cut ∷ [])

record AreParts (text : Text) (parts : List Text) : Type 0 where
  first : Text
  others : List Text
  is : parts ≡ first ∷ others
  is_first : IsPart text first []
  are_later : AllByRecursion (IsLater text) others

-- what stands in a text stands in one that has a byte more at its front
later_cons : (x : ℕ) (text part : Text) → IsLater text part → IsLater (x ∷ text) part
later_cons x text part l =
    let p = l.part_is in
    record { before = x ∷ l.before; cut = l.cut; no_word = l.no_word; part_is = record { after = p.after; whole = ap (λ t. x ∷ t) p.whole; of_words = p.of_words; ends = p.ends } }

all_later_cons : (x : ℕ) (text : Text) (parts : List Text) → AllByRecursion (IsLater text) parts → AllByRecursion (IsLater (x ∷ text)) parts
all_later_cons x text [] all = tt
all_later_cons x text (p ∷ ps) all = (later_cons x text p all.0, all_later_cons x text ps all.1)

are_parts : (text : Text) → AreParts text (slice_split cuts text)
are_parts [] = record { first = []; others = []; is = refl; is_first = record { after = []; whole = refl; of_words = tt; ends = inl refl }; are_later = tt }
are_parts (x ∷ text) = by (are_parts text) (cuts x) refl
  where
    by : AreParts text (slice_split cuts text) → (b : Bool) → cuts x ≡ b → AreParts (x ∷ text) (cond b ([] ∷ slice_split cuts text) (onto_first x (slice_split cuts text)))
    by p true e =
        let none = no_word_byte (is_word_byte x) e in
        let first : IsLater (x ∷ text) p.first = record { before = []; cut = x; no_word = none; part_is = record { after = p.is_first.after; whole = ap (λ t. x ∷ t) p.is_first.whole; of_words = p.is_first.of_words; ends = p.is_first.ends } } in
        record {
          first = [];
          others = slice_split cuts text;
          is = refl;
          is_first = record { after = x ∷ text; whole = refl; of_words = tt; ends = inr (x, text, refl, none) };
          are_later = subst (AllByRecursion (IsLater (x ∷ text))) (sym p.is) (first, all_later_cons x text p.others p.are_later);
        }
    by p false e = record {
      first = x ∷ p.first;
      others = p.others;
      is = ap (onto_first x) p.is;
      is_first = record { after = p.is_first.after; whole = ap (λ t. x ∷ t) p.is_first.whole; of_words = (word_byte (is_word_byte x) e, p.is_first.of_words); ends = p.is_first.ends };
      are_later = all_later_cons x text p.others p.are_later;
    }

part_run : (text part before : Text) → IsPart text part before → IsCutBefore before → 0 < length part → IsRunOf text part
part_run text part before p starts some = record { before = before; after = p.after; whole = p.whole; some = some; of_words = p.of_words; starts = starts; ends = p.ends }

-- a part is a longest run if it isn't empty
abbrev IsRunIfSome : Text → Text → Type 0
IsRunIfSome text part = 0 < length part → IsRunOf text part

later_runs : (text : Text) (parts : List Text) → AllByRecursion (IsLater text) parts → AllByRecursion (IsRunIfSome text) parts
later_runs text [] all = tt
later_runs text (q ∷ qs) all =
    let l : IsLater text q = all.0 in
    (λ some. part_run text q (l.before ++ l.cut ∷ []) l.part_is (inr (l.before, l.cut, refl, l.no_word)) some, later_runs text qs all.1)

kept_runs : (text : Text) (parts : List Text) → AllByRecursion (IsRunIfSome text) parts → AllByRecursion (IsRunOf text) (filter is_some_text parts)
kept_runs text [] all = tt
kept_runs text ([] ∷ qs) all = kept_runs text qs all.1
kept_runs text ((x ∷ q) ∷ qs) all = by (is_some_text (x ∷ q)) (kept_runs text qs all.1)
  where
    by : (b : Bool) → AllByRecursion (IsRunOf text) (filter is_some_text qs) → AllByRecursion (IsRunOf text) (cond b ((x ∷ q) ∷ filter is_some_text qs) (filter is_some_text qs))
    by true rest = (all.0 (omega arith), rest)
    by false rest = rest

all_runs : (text : Text) → AllByRecursion (IsRunOf text) (runs text)
all_runs text =
    let p = are_parts text in
    kept_runs text (slice_split cuts text) (subst (AllByRecursion (IsRunIfSome text)) (sym p.is) (part_run text p.first [] p.is_first (inl refl), later_runs text p.others p.are_later))

at_contained : (P : Text → Type 0) (xs : List Text) (x : Text) → AllByRecursion P xs → Contains xs x → P x
at_contained P xs x all c = All-contains P xs x (All-from_recursion P xs all) c

-- ---- each longest run is one of the parts

split_append : (a : Text) (c : ℕ) (rest : Text) → is_word_byte c ≡ false → slice_split cuts (a ++ c ∷ rest) ≡ slice_split cuts a ++ slice_split cuts rest
split_append [] c rest ends = slice_split-cons_yes cuts c rest (ap not ends)
split_append (x ∷ a) c rest ends = by (split_append a c rest ends) (are_parts a) (cuts x)
  where
    by : slice_split cuts (a ++ c ∷ rest) ≡ slice_split cuts a ++ slice_split cuts rest → AreParts a (slice_split cuts a) → (b : Bool)
        → cond b ([] ∷ slice_split cuts (a ++ c ∷ rest)) (onto_first x (slice_split cuts (a ++ c ∷ rest))) ≡ cond b ([] ∷ slice_split cuts a) (onto_first x (slice_split cuts a)) ++ slice_split cuts rest
    by ih p true = ap (λ l. [] ∷ l) ih
    by ih p false = ap (onto_first x) ih ∙ ap (λ l. onto_first x (l ++ slice_split cuts rest)) p.is ∙ sym (ap (λ l. onto_first x l ++ slice_split cuts rest) p.is)

split_word : (r : Text) → AllOfWords r → slice_split cuts r ≡ r ∷ []
split_word [] all = refl
split_word (x ∷ r) all = slice_split-cons_no cuts x r (ap not all.0) ∙ ap (onto_first x) (split_word r all.1)

first_kept : (r : Text) (more : List Text) → 0 < length r → Contains (filter is_some_text (r ∷ more)) r
first_kept r more some = subst (λ b. Contains (cond b (r ∷ filter is_some_text more) (filter is_some_text more)) r) (sym (lt-ltb 0 (length r) some)) (0, omega arith, refl)

-- a run that the text begins with is the first of its runs
at_front : (r after : Text) → AllOfWords r → 0 < length r → IsCutAfter after → Contains (runs (r ++ after)) r
at_front r after all some (inl none) =
    let parts : slice_split cuts (r ++ after) ≡ r ∷ [] = ap (λ t. slice_split cuts (r ++ t)) none ∙ ap (slice_split cuts) (append-nil r) ∙ split_word r all in
    subst (λ ps. Contains (filter is_some_text ps) r) (sym parts) (first_kept r [] some)
at_front r after all some (inr (b, rest, is, no_word)) =
    let parts : slice_split cuts (r ++ after) ≡ r ∷ slice_split cuts rest =
    ap (λ t. slice_split cuts (r ++ t)) is ∙ split_append r b rest no_word ∙ ap (λ ps. ps ++ slice_split cuts rest) (split_word r all) in
    subst (λ ps. Contains (filter is_some_text ps) r) (sym parts) (first_kept r (slice_split cuts rest) some)

-- the runs behind a cut are runs of the whole
behind_cut : (before rest run : Text) → IsCutBefore before → Contains (runs rest) run → Contains (runs (before ++ rest)) run
behind_cut before rest run (inl none) c = subst (λ t. Contains (runs (t ++ rest)) run) (sym none) c
behind_cut before rest run (inr (front, b, is, no_word)) c =
    let parts : slice_split cuts (before ++ rest) ≡ slice_split cuts front ++ slice_split cuts rest =
    ap (λ t. slice_split cuts (t ++ rest)) is ∙ ap (slice_split cuts) (append_assoc front (b ∷ []) rest) ∙ split_append front b rest no_word in
    let all_runs : runs (before ++ rest) ≡ runs front ++ runs rest = ap (filter is_some_text) parts ∙ filter-append is_some_text (slice_split cuts front) (slice_split cuts rest) in
    subst (λ rs. Contains rs run) (sym all_runs) (Contains-append_right (runs front) (runs rest) run c)

run_contained : (text run : Text) → IsRunOf text run → Contains (runs text) run
run_contained text run r = subst (λ t. Contains (runs t) run) (sym r.whole) (behind_cut r.before (run ++ r.after) run r.starts (at_front run r.after r.of_words r.some r.ends))

pub longest_runs : WordsAreLongestRuns
longest_runs text run = (at_contained (IsRunOf text) (runs text) run (all_runs text), run_contained text run)

-- ---- the words of a text

-- what stands in a mapped list is what the function gives of an element
Contains-map : (f : Text → Text) (xs : List Text) (y : Text) → Contains (map f xs) y ↔ ((x : Text) × Contains xs x × (y ≡ f x))
Contains-map f xs y = (there xs, λ from. subst (Contains (map f xs)) (sym from.2) (back xs from.0 from.1))
  where
    there : (xs : List Text) → Contains (map f xs) y → (x : Text) × Contains xs x × (y ≡ f x)
    there [] c = absurd (omega (arith, c.1))
    there (x ∷ xs) (zero, low, is) = (x, (0, omega arith, refl), sym is)
    there (x ∷ xs) (suc k, low, is) =
        let below = there xs (k, omega (arith, low), is) in
        (below.0, (suc below.1.0, (let lower = below.1.1 in omega arith), below.1.2), below.2)

    back : (xs : List Text) (x : Text) → Contains xs x → Contains (map f xs) (f x)
    back [] x c = absurd (omega (arith, c.1))
    back (z ∷ xs) x (zero, low, is) = (0, omega arith, ap f is)
    back (z ∷ xs) x (suc k, low, is) = let below = back xs x (k, omega (arith, low), is) in (suc below.0, (let lower = below.1 in omega arith), below.2)

-- a set has what its list has
Contains-sorted_set : (xs : List Text) (x : Text) → Contains (sorted_set xs) x ↔ Contains xs x
Contains-sorted_set xs x = (
  λ c. (has-Decides x xs).0 (sym (has-sorted_set x xs) ∙ (has-Decides x (sorted_set xs)).1 c),
  λ c. (has-Decides x (sorted_set xs)).0 (has-sorted_set x xs ∙ (has-Decides x xs).1 c),
)

pub lowered_runs : WordsAreLoweredRuns
lowered_runs text word =
    let in_set = Contains-sorted_set (map lowered (runs text)) word in
    let mapped = Contains-map lowered (runs text) word in (
      λ c. let from = mapped.0 (in_set.0 c) in (from.0, (longest_runs text from.0).0 from.1, from.2),
      λ from. in_set.1 (mapped.1 (from.0, (longest_runs text from.0).1 from.1, from.2)),
    )
