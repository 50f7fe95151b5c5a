-- The lists of a merge, part by part, and the terms that they make.
use Rattle.std.proofs.Common.{◌≡◌, ℕ, zero, suc, ◌+◌, ◌^◌, ◌<◌, List, [], ◌∷◌, ◌++◌, length, get_or, take, set, map, nat_lt, Bool, true, false, cond, ◌&&◌, ◌||◌, if◌then◌else◌, inl, inr, refl, sym, ap, ◌∙◌, arith, subst, nat_cmp, eq-eqb, eqb-true}
use Rattle.std.proofs.Common.{get_or-set_same, get_or-set_other}
use Rattle.std.proofs.lemmas.Bool.{cases_Bool, true≢false}
use Rattle.std.proofs.lemmas.List.{append-nil, append_assoc, length-map, length-take, get_or-map, get_or_default, map-set, ext_get_or}
use Rattle.std.proofs.lemmas.List.Folds.{list_any_more, list_any_at}
use Rattle.std.proofs.lemmas.List.Elements.{All-from_recursion}
use Rattle.std.proofs.lemmas.List.Kept.{IsStrictlySortedBy-filter}
use Rattle.std.proofs.lemmas.Map.Views.{any-filter_same}
use Rattle.std.proofs.lemmas.Slice.Eq.{bytes_eq-Decides}
use Rattle.std.specs.Cmp.Lexicographic.{slice_cmp}
use Rattle.std.specs.List.{list_any, flat_map, filter, zip, AllByRecursion}
use Rattle.std.specs.Prelude.{All, Contains, ◌==◌}
use Rattle.cat_base.specs.Texts.{sorted_set, IsTextSet}
use Rattle.cat_base.proofs.TextSets.{has-Decides}
use Rattle.cat_model.specs.Text.{Text, same_text}
use Rattle.cat_model.specs.Ordinals.{dictionary_of, postings_of, text_at}
use Rattle.cat_model.proofs.Lists.{list_any-append, All-both}
use Rattle.cat_model.specs.Layout.{pieces}
use Rattle.cat_columns.specs.Merged.{kept_of, moved, AreNumbered}
use Rattle.cat_columns.specs.inverted.Gathered.{ends_from}
use Rattle.cat_columns.specs.inverted.Postings.{words_of_rows, IsTerms}
use Rattle.cat_columns.proofs.inverted.Parts.{joined}
use Rattle.cat_columns.proofs.inverted.Builds.{terms_built, rows_built, zip_kept, implied}
use Rattle.cat_columns.proofs.inverted.Rows.{same_has, any_mapped}
use Rattle.cat_columns.proofs.inverted.Told.{members, rising_set}
use Rattle.cat_columns.proofs.inverted.Gathering.{new_word}
use Rattle.cat_columns.proofs.inverted.ByOrdinal.{same_place}
use Rattle.cat_columns.proofs.inverted.Moved.{postings_both, kept_moved, no_posting, some_posting, numbered_part}

-- ---- of lists

pub flat_more : {X Y : Type 0} (f : X → List Y) (xs : List X) (i : ℕ) (d : X) → i < length xs → flat_map f (take (i + 1) xs) ≡ flat_map f (take i xs) ++ f (get_or xs i d)
flat_more f [] i d lt = absurd (omega arith)
flat_more f (x ∷ xs) zero d lt = append-nil (f x)
flat_more {X} {Y} f (x ∷ xs) (suc i) d lt =
    ap (λ n. flat_map f (take n (x ∷ xs))) (let e : suc i + 1 ≡ suc (i + 1) = omega arith in e)
    ∙ ap (λ (l : List Y). f x ++ l) (flat_more f xs i d (omega arith)) ∙ sym (append_assoc (f x) (flat_map f (take i xs)) (f (get_or xs i d)))

-- rows behind the list of one ordinal
list_appended : {V : Type 0} (f : V → List ℕ) (lists : List V) (o : ℕ) (more : List ℕ) (v old : V) → o < length lists → old ≡ get_or lists o old → f v ≡ f old ++ more
    → (q : ℕ) → get_or (map f (set lists o v)) q [] ≡ get_or (map f lists) q [] ++ (if o == q then more else [])
list_appended f lists o more v old lt at is q =
    ap (λ (l : List (List ℕ)). get_or l q []) (map-set f lists o v)
    ∙ elim (cases_Bool (o == q)) [
      | inl yes' ↦
          let same : o ≡ q = eqb-true o q yes' in
          ap (λ n. get_or (set (map f lists) o (f v)) n []) (sym same)
          ∙ get_or-set_same (map f lists) o (f v) [] (omega (arith, length-map lists f))
          ∙ is ∙ ap (λ (l : List ℕ). l ++ more) (ap f at ∙ sym (get_or-map f lists o old [] lt))
          ∙ ap (λ n. get_or (map f lists) n [] ++ more) same
          ∙ ap (λ b. get_or (map f lists) q [] ++ (if b then more else [])) (sym yes')
      | inr no' ↦
          get_or-set_other (map f lists) o q (f v) [] (λ e. absurd (let yes' : (o == q) ≡ true = eq-eqb o q (sym e) in let no'' : true ≡ false = sym yes' ∙ no' in cc))
          ∙ sym (append-nil (get_or (map f lists) q []))
          ∙ ap (λ b. get_or (map f lists) q [] ++ (if b then more else [])) (sym no')
    ]

joined_lists : (xs ys zs more : List ℕ) (a b : Bool) → (a ≡ true → b ≡ false) → zs ≡ ys ++ (if b then more else []) → ys ≡ xs ++ (if a then more else []) → zs ≡ xs ++ (if a || b then more else [])
joined_lists xs ys zs more true true apart z y = absurd (let no' : true ≡ false = apart refl in cc)
joined_lists xs ys zs more true false apart z y = z ∙ append-nil ys ∙ y
joined_lists xs ys zs more false b apart z y = z ∙ ap (λ (l : List ℕ). l ++ (if b then more else [])) (y ∙ append-nil xs)

-- ---- a word more of a part

module _ (words : List Text) (texts : List (List Text)) (codes ordinals : List ℕ) (sorted : IsTextSet words) (rising : IsTextSet (dictionary_of texts)) (same : map (text_at words) ordinals ≡ dictionary_of texts) where
  abbrev own : List Text
  own = dictionary_of texts

  abbrev adds : Text → List ℕ
  adds w = moved codes (postings_of w texts)

  long : length ordinals ≡ length own
  long = sym (length-map ordinals (text_at words)) ∙ ap length same

  word_at : (j : ℕ) → j < length ordinals → text_at words (get_or ordinals j 0) ≡ get_or own j []
  word_at j lt = sym (get_or-map (text_at words) ordinals j 0 [] lt) ∙ ap (λ (l : List Text). get_or l j []) same

  added : (w v : Text) (b : Bool) → b ≡ same_text w v → (if b then adds v else []) ≡ (if same_text w v then adds w else [])
  added w v b e =
      ap (λ t. if t then adds v else []) e
      ∙ elim (cases_Bool (same_text w v)) [
        | inl yes' ↦ ap (λ (u : Text). if same_text w v then adds u else []) (sym ((bytes_eq-Decides w v).0 yes'))
        | inr no' ↦ ap (λ t. if t then adds v else []) no' ∙ ap (λ t. if t then adds w else []) (sym no')
      ]

  pub part_more : {V : Type 0} (f : V → List ℕ) (lists : List V) (start : ℕ → List ℕ) (j : ℕ) (v old : V) → j < length ordinals → get_or ordinals j 0 < length words → length lists ≡ length words
      → old ≡ get_or lists (get_or ordinals j 0) old → f v ≡ f old ++ moved codes (postings_of (get_or own j []) texts)
      → (q : ℕ) → q < length words
      → get_or (map f lists) q [] ≡ start q ++ (if list_any (same_text (text_at words q)) (take j own) then adds (text_at words q) else [])
      → get_or (map f (set lists (get_or ordinals j 0) v)) q [] ≡ start q ++ (if list_any (same_text (text_at words q)) (take (j + 1) own) then adds (text_at words q) else [])
  part_more f lists start j v old lt within count at is q under before =
      let o = get_or ordinals j 0 in
      let w = text_at words q in
      let d = get_or own j [] in
      let inside : j < length own = omega (arith, lt, long) in
      let step = list_appended f lists o (adds d) v old (omega (arith, within, count)) at is q
      ∙ ap (λ (l : List ℕ). get_or (map f lists) q [] ++ l) (added w d (o == q) (same_place words sorted q o under within ∙ ap (same_text w) (word_at j lt))) in
      joined_lists (start q) (get_or (map f lists) q []) (get_or (map f (set lists o v)) q []) (adds w) (list_any (same_text w) (take j own)) (same_text w d) (new_word own j d inside (get_or_default own j [] d inside) rising w) step before
      ∙ ap (λ b. start q ++ (if b then adds w else [])) (sym (list_any_more (same_text w) own j [] inside))

  -- a word that no row of the part has adds nothing
  pub part_whole : (w : Text) → (if list_any (same_text w) own then adds w else []) ≡ adds w
  part_whole w =
      elim (cases_Bool (list_any (same_text w) own)) [
        | inl yes' ↦ ap (λ b. if b then adds w else []) yes'
        | inr no' ↦ ap (λ b. if b then adds w else []) no' ∙ sym (ap (moved codes) (no_posting w texts (sym (members texts w) ∙ no')))
      ]

-- ---- a part more

module _ {P : Type 0} (c : P → List ℕ) (t : P → List (List Text)) (parts : List P) where
  abbrev kept : P → List (List Text)
  kept p = kept_of (c p) (t p)

  pub gathered_more : (i : ℕ) (d : P) → i < length parts → All (λ p. length (c p) ≡ length (t p)) parts → AreNumbered 0 (flat_map c parts) → (w : Text) (xs ys : List ℕ)
      → xs ≡ postings_of w (flat_map kept (take i parts)) → ys ≡ xs ++ moved (c (get_or parts i d)) (postings_of w (t (get_or parts i d))) → ys ≡ postings_of w (flat_map kept (take (i + 1) parts))
  gathered_more i d lt fits numbered w xs ys x y =
      let p = get_or parts i d in
      let before = flat_map kept (take i parts) in
      let at = subst (λ n. AreNumbered n (c p)) (let s : 0 + length before ≡ length before = omega arith in s) (numbered_part c t 0 parts i d fits numbered lt) in
      y ∙ ap (λ (l : List ℕ). l ++ moved (c p) (postings_of w (t p))) x
      ∙ ap (λ (l : List ℕ). postings_of w before ++ l) (kept_moved w (length before) (c p) (t p) (fits i d lt) at)
      ∙ sym (postings_both w before (kept p))
      ∙ ap (postings_of w) (sym (flat_more kept parts i d lt))

  -- the words of all parts, of which some part has each word
  module _ (words : List Text) (whole : words ≡ dictionary_of (map (λ p. dictionary_of (t p)) parts)) where
    pub any_word : (w : Text) → list_any (same_text w) words ≡ list_any (λ p. list_any (same_text w) (dictionary_of (t p))) parts
    any_word w =
        ap (list_any (same_text w)) whole ∙ members (map (λ p. dictionary_of (t p)) parts) w
        ∙ any_mapped (list_any (same_text w)) (λ p. dictionary_of (t p)) parts

    pub words_there : All (λ p. All (Contains words) (dictionary_of (t p))) parts
    words_there k d lt j e under =
        let own = dictionary_of (t (get_or parts k d)) in
        let w = get_or own j e in
        let here : list_any (same_text w) own ≡ true = list_any_at (same_text w) own j e under ((bytes_eq-Decides w w).1 refl) in
        (has-Decides w words).0 (sym (same_has w words) ∙ any_word w ∙ list_any_at (λ p. list_any (same_text w) (dictionary_of (t p))) parts k d lt here)

-- ---- what is said of the parts' rows holds of those that are kept

kept_all : {X : Type 0} (Q : X → Type 0) (codes : List ℕ) (xs : List X) → All Q xs → AllByRecursion Q (kept_of codes xs)
kept_all Q [] xs h = tt
kept_all Q (c ∷ codes) [] h = tt
kept_all Q (zero ∷ codes) (x ∷ xs) h = kept_all Q codes xs (λ k d lt. h (suc k) d (omega arith))
kept_all Q (suc p ∷ codes) (x ∷ xs) h = (h 0 x (omega arith), kept_all Q codes xs (λ k d lt. h (suc k) d (omega arith)))

kept_any : {X : Type 0} (g : X → Bool) (codes : List ℕ) (xs : List X) → list_any g (kept_of codes xs) ≡ true → list_any g xs ≡ true
kept_any g [] xs e = absurd (true≢false (sym e))
kept_any g (c ∷ codes) [] e = e
kept_any g (zero ∷ codes) (x ∷ xs) e = or_later (g x) (list_any g xs) (kept_any g codes xs e)
  where
    or_later : (a b : Bool) → b ≡ true → (a || b) ≡ true
    or_later true b h = refl
    or_later false b h = h
kept_any g (suc p ∷ codes) (x ∷ xs) e =
    elim (cases_Bool (g x)) [
      | inl yes' ↦ ap (λ b. b || list_any g xs) yes'
      | inr no' ↦ ap (λ b. b || list_any g xs) no' ∙ kept_any g codes xs (ap (λ b. b || list_any g (kept_of codes xs)) (sym no') ∙ e)
    ]

module _ {P : Type 0} (c : P → List ℕ) (t : P → List (List Text)) where
  sets_of : (parts : List P) → All (λ p. All IsTextSet (t p)) parts → AllByRecursion IsTextSet (flat_map (λ p. kept_of (c p) (t p)) parts)
  sets_of [] h = tt
  sets_of (p ∷ parts) h =
      All-both IsTextSet (kept_of (c p) (t p)) (flat_map (λ q. kept_of (c q) (t q)) parts) (kept_all IsTextSet (c p) (t p) (h 0 p (omega arith))) (sets_of parts (λ k d lt. h (suc k) d (omega arith)))

  pub kept_sets : (parts : List P) → All (λ p. All IsTextSet (t p)) parts → All IsTextSet (flat_map (λ p. kept_of (c p) (t p)) parts)
  kept_sets parts h = All-from_recursion IsTextSet (flat_map (λ p. kept_of (c p) (t p)) parts) (sets_of parts h)

  part_any : (w : Text) (parts : List P) → list_any (list_any (same_text w)) (flat_map (λ p. kept_of (c p) (t p)) parts) ≡ true → list_any (λ p. list_any (same_text w) (dictionary_of (t p))) parts ≡ true
  part_any w [] e = e
  part_any w (p ∷ parts) e =
      let g = list_any (same_text w) in
      let split = sym (list_any-append g (kept_of (c p) (t p)) (flat_map (λ q. kept_of (c q) (t q)) parts)) ∙ e in
      elim (cases_Bool (list_any g (kept_of (c p) (t p)))) [
        | inl yes' ↦ ap (λ b. b || list_any (λ q. list_any (same_text w) (dictionary_of (t q))) parts) (members (t p) w ∙ kept_any g (c p) (t p) yes')
        | inr no' ↦
            let later = part_any w parts (ap (λ b. b || list_any g (flat_map (λ q. kept_of (c q) (t q)) parts)) (sym no') ∙ split) in
            or_later (list_any (same_text w) (dictionary_of (t p))) (list_any (λ q. list_any (same_text w) (dictionary_of (t q))) parts) later
      ]
    where
      or_later : (a b : Bool) → b ≡ true → (a || b) ≡ true
      or_later true b h = refl
      or_later false b h = h

  -- the words of the parts have the words of the rows that are kept
  pub words_enough : (parts : List P) (words : List Text) → words ≡ dictionary_of (map (λ p. dictionary_of (t p)) parts) → (w : Text) → list_any (list_any (same_text w)) (flat_map (λ p. kept_of (c p) (t p)) parts) ≡ true → list_any (same_text w) words ≡ true
  words_enough parts words whole w e = any_word c t parts words whole w ∙ part_any w parts e

-- ---- the words that stay, and their lists

pub kept_map : {X Y : Type 0} (p : Y → Bool) (f : X → Y) (xs : List X) → filter p (map f xs) ≡ map f (filter (λ x. p (f x)) xs)
kept_map p f [] = refl
kept_map {X} {Y} p f (x ∷ xs) =
    elim (p (f x)) as (λ b. cond b (f x ∷ filter p (map f xs)) (filter p (map f xs)) ≡ map f (cond b (x ∷ filter (λ y. p (f y)) xs) (filter (λ y. p (f y)) xs))) [
      | true ↦ ap (λ (l : List Y). f x ∷ l) (kept_map p f xs)
      | false ↦ kept_map p f xs
    ]

abbrev pub is_some_list : List ℕ → Bool
is_some_list list = nat_lt 0 (length list)

module _ (len : ℕ) (texts : List (List Text)) (words : List Text) (lists : List (List ℕ)) (long : length texts ≡ len) (sorted : IsTextSet words) (count : length lists ≡ length words)
    (are : (o : ℕ) → o < length words → get_or lists o [] ≡ postings_of (text_at words o) texts) (enough : (w : Text) → list_any (list_any (same_text w)) texts ≡ true → list_any (same_text w) words ≡ true) where
  abbrev f : Text → List ℕ
  f w = postings_of w texts

  abbrev used : List Text
  used = filter (λ w. is_some_list (f w)) words

  lists_are : lists ≡ map f words
  lists_are = ext_get_or [] lists (map f words) (count ∙ sym (length-map words f)) at
    where
      at : (o : ℕ) → o < length lists → get_or lists o [] ≡ get_or (map f words) o []
      at o lt = let inside : o < length words = omega (arith, lt, count) in are o inside ∙ sym (get_or-map f words o [] [] inside)

  used_sorted : IsTextSet used
  used_sorted = IsStrictlySortedBy-filter (slice_cmp nat_cmp) (λ w. is_some_list (f w)) words sorted

  used_members : (q : Text) → list_any (same_text q) used ≡ list_any (list_any (same_text q)) texts
  used_members q =
      any-filter_same (same_text q) (λ w. is_some_list (f w)) (is_some_list (f q)) (λ w h. ap (λ v. is_some_list (f v)) (sym ((bytes_eq-Decides q w).0 h))) words
      ∙ ap (λ b. b && list_any (same_text q) words) (some_posting q texts)
      ∙ implied (list_any (list_any (same_text q)) texts) (list_any (same_text q) words) (enough q)

  words_taken : map (λ e. e.0) (filter (λ e. is_some_list e.1) (zip words lists)) ≡ used
  words_taken = ap (λ (l : List (List ℕ)). map (λ e. e.0) (filter (λ e. is_some_list e.1) (zip words l))) lists_are ∙ zip_kept f is_some_list words

  pub taken_rise : (taken : List Text) → taken ≡ map (λ e. e.0) (filter (λ e. is_some_list e.1) (zip words lists)) → IsTextSet taken
  taken_rise taken take_is = subst IsTextSet (sym (take_is ∙ words_taken)) used_sorted

  module _ (taken set : List Text) (left : List (List ℕ)) (ends rows : List ℕ) (take_is : taken ≡ map (λ e. e.0) (filter (λ e. is_some_list e.1) (zip words lists))) (set_is : set ≡ taken)
      (left_is : left ≡ filter is_some_list lists) (e : ends ≡ ends_from 0 left) (r : rows ≡ joined left) where
    set_used : set ≡ used
    set_used = set_is ∙ take_is ∙ words_taken

    left_used : left ≡ map f used
    left_used = left_is ∙ ap (filter is_some_list) lists_are ∙ kept_map is_some_list f words

    set_sorted : IsTextSet set
    set_sorted = subst IsTextSet (sym set_used) used_sorted

    set_members : (q : Text) → list_any (same_text q) set ≡ list_any (list_any (same_text q)) texts
    set_members q = ap (list_any (same_text q)) set_used ∙ used_members q

    left_set : left ≡ map f set
    left_set = left_used ∙ ap (map f) (sym set_used)

    pub terms_merged : len < 2 ^ 32 → length rows < 2 ^ 32 → IsTerms len set ends rows
    terms_merged few fits = terms_built len texts set f long (λ q. refl) set_sorted set_members ends rows few fits (e ∙ ap (ends_from 0) left_set) (r ∙ ap joined left_set)

    pub rows_merged : All IsTextSet texts → words_of_rows len set (pieces 0 ends rows) ≡ texts
    rows_merged sets = rows_built len texts set f long (λ q. refl) set_sorted set_members sets ends rows (e ∙ ap (ends_from 0) left_set) (r ∙ ap joined left_set)

-- an element more
all_cons : {X : Type 0} (Q : X → Type 0) (x : X) (xs : List X) → Q x → All Q xs → All Q (x ∷ xs)
all_cons Q x xs q h zero d l = q
all_cons Q x xs q h (suc k) d l = h k d (omega arith)

pub all_more : {X : Type 0} (Q : X → Type 0) (xs : List X) (i : ℕ) (x : X) → i < length xs → x ≡ get_or xs i x → All Q (take i xs) → Q x → All Q (take (i + 1) xs)
all_more Q [] i x lt at h q k d l = absurd (omega arith)
all_more Q (y ∷ xs) zero x lt at h q zero d l = subst Q at q
all_more Q (y ∷ xs) zero x lt at h q (suc k) d l = absurd (omega (arith, length-take (0 + 1) (y ∷ xs)))
all_more Q (y ∷ xs) (suc i) x lt at h q k d l =
    let each : All Q (take (suc (i + 1)) (y ∷ xs)) = all_cons Q y (take (i + 1) xs) (h 0 y (omega arith)) (all_more Q xs i x (omega arith) at (λ j e m. h (suc j) e (omega arith)) q) in
    subst (λ n. All Q (take n (y ∷ xs))) (let e : suc (i + 1) ≡ suc i + 1 = omega arith in e) each k d l

-- a word more of those that stay
pick_first : (w : Text) (l : List ℕ) (es : List (Text × List ℕ)) → map (λ e. e.0) (filter (λ e. is_some_list e.1) ((w, l) ∷ es)) ≡ (if is_some_list l then w ∷ [] else []) ++ map (λ e. e.0) (filter (λ e. is_some_list e.1) es)
pick_first w l es =
    let rest : List (Text × List ℕ) = filter (λ e. is_some_list e.1) es in
    elim (is_some_list l) as (λ b. map (λ e. e.0) (cond b ((w, l) ∷ rest) rest) ≡ (if b then w ∷ [] else []) ++ map (λ e. e.0) rest) [ true ↦ refl | false ↦ refl ]

pub used_more : {V : Type 0} (g : V → List ℕ) (words : List Text) (lists : List V) (i : ℕ) (v : V) → i < length words → i < length lists → v ≡ get_or lists i v
    → map (λ e. e.0) (filter (λ e. is_some_list e.1) (zip (take (i + 1) words) (map g (take (i + 1) lists)))) ≡ map (λ e. e.0) (filter (λ e. is_some_list e.1) (zip (take i words) (map g (take i lists)))) ++ (if is_some_list (g v) then get_or words i [] ∷ [] else [])
used_more g [] lists i v lt l at = absurd (omega arith)
used_more g (w ∷ words) [] i v lt l at = absurd (omega arith)
used_more g (w ∷ words) (u ∷ lists) zero v lt l at =
    pick_first w (g u) [] ∙ append-nil (if is_some_list (g u) then w ∷ [] else []) ∙ ap (λ x. if is_some_list (g x) then w ∷ [] else []) (sym at)
used_more {V} g (w ∷ words) (u ∷ lists) (suc i) v lt l at =
    let first : List Text = if is_some_list (g u) then w ∷ [] else [] in
    let last : List Text = if is_some_list (g v) then get_or words i [] ∷ [] else [] in
    let before : List Text = map (λ e. e.0) (filter (λ e. is_some_list e.1) (zip (take i words) (map g (take i lists)))) in
    ap (λ n. map (λ e. e.0) (filter (λ e. is_some_list e.1) (zip (take n (w ∷ words)) (map g (take n (u ∷ lists)))))) (let e : suc i + 1 ≡ suc (i + 1) = omega arith in e)
    ∙ pick_first w (g u) (zip (take (i + 1) words) (map g (take (i + 1) lists)))
    ∙ ap (λ (r : List Text). first ++ r) (used_more g words lists i v (omega arith) (omega arith) at)
    ∙ sym (append_assoc first before last)
    ∙ ap (λ (r : List Text). r ++ last) (sym (pick_first w (g u) (zip (take i words) (map g (take i lists)))))
