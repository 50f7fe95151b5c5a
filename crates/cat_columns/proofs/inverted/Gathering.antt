-- The rows of each word, as they are gathered row by row.
use Rattle.std.proofs.Common.{◌≡◌, ℕ, zero, suc, ◌+◌, ◌<◌, List, [], ◌∷◌, ◌++◌, length, get_or, take, map, Bool, true, false, cond, ◌||◌, if◌then◌else◌, is_some, Option, Some, inl, inr, refl, sym, ap, ◌∙◌, arith}
use Rattle.std.proofs.lemmas.Bool.{cases_Bool, true≢false}
use Rattle.std.proofs.lemmas.List.{append-nil, append_assoc, length-append, length-map, length-take, length-take-le, get_or-take, get_or_default, get_or_append_left, get_or_push, map_more, map_push}
use Rattle.std.proofs.lemmas.List.Folds.{list_any_more, Any-from_list_any}
use Rattle.std.proofs.lemmas.Slice.Eq.{bytes_eq-Decides}
use Rattle.std.specs.Borrow.{Bor}
use Rattle.std.specs.List.{list_any, filter, range_with_len}
use Rattle.std.specs.Map.{lookup, keys_of}
use Rattle.std.specs.Option.{option_map_or}
use Rattle.std.specs.Prelude.{bytes_eq}
use Rattle.cat_base.specs.Texts.{sorted_set, IsTextSet}
use Rattle.cat_base.proofs.TextSets.{has-sorted_set}
use Rattle.cat_model.specs.Text.{Text, same_text}
use Rattle.cat_model.specs.RowSets.{has_row, indices}
use Rattle.cat_model.specs.Ordinals.{postings_of, rows_having}
use Rattle.cat_model.proofs.Lists.{filter_alike, list_any-append}
use Rattle.cat_columns.specs.inverted.Gathered.{ends_from}
use Rattle.cat_columns.proofs.inverted.Parts.{joined}
use Rattle.cat_columns.proofs.inverted.Rows.{same_has, any_mapped, each_row}
use Rattle.cat_columns.proofs.inverted.Searches.{one_place}

-- ---- a word more of a row

pub joined_if : (xs ys zs : List ℕ) (row : ℕ) (a b : Bool) → (a ≡ true → b ≡ false) → zs ≡ ys ++ (if b then row ∷ [] else []) → ys ≡ xs ++ (if a then row ∷ [] else []) → zs ≡ xs ++ (if a || b then row ∷ [] else [])
joined_if xs ys zs row true true apart z y = absurd (let no' : true ≡ false = apart refl in cc)
joined_if xs ys zs row true false apart z y = z ∙ append-nil ys ∙ y
joined_if xs ys zs row false b apart z y = z ∙ ap (λ (l : List ℕ). l ++ (if b then row ∷ [] else [])) (y ∙ append-nil xs)

module _ (words : List Text) (i : ℕ) (word : Text) (lt : i < length words) (at : word ≡ get_or words i word) where
  any_more : (q : Text) → list_any (same_text q) (take (i + 1) words) ≡ (list_any (same_text q) (take i words) || same_text q word)
  any_more q = list_any_more (same_text q) words i word lt ∙ ap (λ w. list_any (same_text q) (take i words) || same_text q w) (sym at)

  pub new_word : IsTextSet words → (q : Text) → list_any (same_text q) (take i words) ≡ true → same_text q word ≡ false
  new_word sorted q h =
      elim (cases_Bool (same_text q word)) [
        | inl yes' ↦
            let there = Any-from_list_any (same_text q) (take i words) h in
            let k = there.0 in
            let under : k < i = omega (arith, length-take i words, there.2) in
            let inside : k < length words = omega arith in
            let left : get_or words k [] ≡ q = get_or_default words k [] there.1 inside ∙ sym (get_or-take i words k there.1 under) ∙ there.3 ∙ sym ((bytes_eq-Decides q there.1).0 there.4) in
            let right : get_or words i [] ≡ q = get_or_default words i [] word lt ∙ sym at ∙ sym ((bytes_eq-Decides q word).0 yes') in
            let same : k ≡ i = one_place words k i sorted inside lt (left ∙ sym right) in
            absurd (omega arith)
        | inr no' ↦ no'
      ]

  pub word_more : IsTextSet words → (q : Text) (row : ℕ) (xs ys zs : List ℕ) → zs ≡ ys ++ (if same_text q word then row ∷ [] else []) → ys ≡ xs ++ (if list_any (same_text q) (take i words) then row ∷ [] else [])
      → zs ≡ xs ++ (if list_any (same_text q) (take (i + 1) words) then row ∷ [] else [])
  word_more sorted q row xs ys zs z y =
      joined_if xs ys zs row (list_any (same_text q) (take i words)) (same_text q word) (new_word sorted q) z y
      ∙ ap (λ b. xs ++ (if b then row ∷ [] else [])) (sym (any_more q))

  pub key_more : (q : Text) (a b c : Bool) → c ≡ (b || same_text q word) → b ≡ (a || list_any (same_text q) (take i words)) → c ≡ (a || list_any (same_text q) (take (i + 1) words))
  key_more q a b c e f = e ∙ ap (λ t. t || same_text q word) f ∙ regrouped a (list_any (same_text q) (take i words)) (same_text q word) ∙ ap (λ t. a || t) (sym (any_more q))
    where
      regrouped : (a b c : Bool) → ((a || b) || c) ≡ (a || (b || c))
      regrouped true b c = refl
      regrouped false b c = refl

-- ---- a row more

range_more : (a n : ℕ) → range_with_len a (n + 1) ≡ range_with_len a n ++ (a + n) ∷ []
range_more a zero = ap (λ k. k ∷ []) (let e : a ≡ a + 0 = omega arith in e)
range_more a (suc n) = ap (range_with_len a) (let one : suc n + 1 ≡ suc (n + 1) = omega arith in one) ∙ ap (λ (l : List ℕ). a ∷ l) (range_more (a + 1) n) ∙ ap (λ k. a ∷ (range_with_len (a + 1) n ++ k ∷ [])) (let e : a + 1 + n ≡ a + suc n = omega arith in e)

filter_more : (f : ℕ → Bool) (xs : List ℕ) (x : ℕ) → filter f (xs ++ x ∷ []) ≡ filter f xs ++ (if f x then x ∷ [] else [])
filter_more f [] x = elim (f x) as (λ b. cond b (x ∷ []) [] ≡ (if b then x ∷ [] else [])) [ true ↦ refl | false ↦ refl ]
filter_more f (y ∷ xs) x =
    elim (f y) as (λ b. cond b (y ∷ filter f (xs ++ x ∷ [])) (filter f (xs ++ x ∷ [])) ≡ cond b (y ∷ filter f xs) (filter f xs) ++ (if f x then x ∷ [] else [])) [
      | true ↦ ap (λ (l : List ℕ). y ∷ l) (filter_more f xs x)
      | false ↦ filter_more f xs x
    ]

pub places_more : (set : List Bool) (b : Bool) (n : ℕ) → length set ≡ n → indices (set ++ b ∷ []) ≡ indices set ++ (if b then n ∷ [] else [])
places_more set b n e =
    ap (λ k. filter (has_row (set ++ b ∷ [])) (range_with_len 0 k)) (let long : length (set ++ b ∷ []) ≡ n + 1 = omega (arith, length-append set (b ∷ [])) in long)
    ∙ ap (filter (has_row (set ++ b ∷ []))) (range_more 0 n)
    ∙ filter_more (has_row (set ++ b ∷ [])) (range_with_len 0 n) (0 + n)
    ∙ ap (λ (l : List ℕ). l ++ (if has_row (set ++ b ∷ []) (0 + n) then (0 + n) ∷ [] else [])) (filter_alike (has_row (set ++ b ∷ [])) (has_row set) (range_with_len 0 n) (each_row _ 0 n (λ k le lt. get_or_append_left set (b ∷ []) false k (omega arith))))
    ∙ ap (λ k. filter (has_row set) (range_with_len 0 n) ++ (if has_row (set ++ b ∷ []) k then k ∷ [] else [])) (let zero_less : 0 + n ≡ n = omega arith in zero_less)
    ∙ ap (λ t. filter (has_row set) (range_with_len 0 n) ++ (if t then n ∷ [] else [])) (get_or_push set b false n e)
    ∙ ap (λ k. filter (has_row set) (range_with_len 0 k) ++ (if b then n ∷ [] else [])) (sym e)

or_false : (b c : Bool) → (b || (c || false)) ≡ (b || c)
or_false true c = refl
or_false false true = refl
or_false false false = refl

module _ (rows : List (Bor (List Text))) (i : ℕ) (row : Bor (List Text)) (lt : i < length rows) (at : row ≡ get_or rows i row) where
  abbrev so_far : List (List Text)
  so_far = map (λ r. r.now) (take i rows)

  rows_more : map (λ r. r.now) (take (i + 1) rows) ≡ so_far ++ row.now ∷ []
  rows_more = map_more (λ r. r.now) rows i row lt ∙ ap (λ (r : Bor (List Text)). so_far ++ r.now ∷ []) (sym at)

  pub postings_more : (q : Text) → postings_of q (map (λ r. r.now) (take (i + 1) rows)) ≡ postings_of q so_far ++ (if list_any (same_text q) row.now then i ∷ [] else [])
  postings_more q =
      ap (postings_of q) rows_more ∙ ap indices (map_push (list_any (same_text q)) so_far row.now)
      ∙ places_more (rows_having q so_far) (list_any (same_text q) row.now) i (length-map so_far (list_any (same_text q)) ∙ length-map (take i rows) (λ r. r.now) ∙ length-take-le i rows (omega arith))

  pub keys_more : (q : Text) → list_any (list_any (same_text q)) (map (λ r. r.now) (take (i + 1) rows)) ≡ (list_any (list_any (same_text q)) so_far || list_any (same_text q) row.now)
  keys_more q = ap (list_any (list_any (same_text q))) rows_more ∙ list_any-append (list_any (same_text q)) so_far (row.now ∷ []) ∙ or_false (list_any (list_any (same_text q)) so_far) (list_any (same_text q) row.now)

-- ---- of one word in the map

module _ {X : Type 0} (old : Text → Option X) (word other : Text) (v : X) (new : Option X) (put : new ≡ cond (same_text word other) (Some v) (old other)) where
  at_word : same_text word other ≡ true → (other ≡ word) × (new ≡ Some v) × (same_text other word ≡ true)
  at_word t = let e = (bytes_eq-Decides word other).0 t in (sym e, put ∙ ap (λ b. cond b (Some v) (old other)) t, (bytes_eq-Decides other word).1 (sym e))

  elsewhere : same_text word other ≡ false → (new ≡ old other) × (same_text other word ≡ false)
  elsewhere f = (
    put ∙ ap (λ b. cond b (Some v) (old other)) f,
    elim (cases_Bool (same_text other word)) [
      | inl t ↦ absurd (true≢false (sym ((bytes_eq-Decides word other).1 (sym ((bytes_eq-Decides other word).0 t))) ∙ f))
      | inr no' ↦ no'
    ],
  )

  pub put_list : (f : X → List ℕ) (row : ℕ) → f v ≡ option_map_or f (old word) [] ++ row ∷ []
      → option_map_or f new [] ≡ option_map_or f (old other) [] ++ (if same_text other word then row ∷ [] else [])
  put_list f row is =
      elim (cases_Bool (same_text word other)) [
        | inl t ↦
            let h = at_word t in
            ap (λ (o : Option X). option_map_or f o []) h.1 ∙ is ∙ ap (λ (q : Text). option_map_or f (old q) [] ++ row ∷ []) (sym h.0)
            ∙ ap (λ b. option_map_or f (old other) [] ++ (if b then row ∷ [] else [])) (sym h.2)
        | inr n ↦
            let h = elsewhere n in
            ap (λ (o : Option X). option_map_or f o []) h.0 ∙ sym (append-nil (option_map_or f (old other) [])) ∙ ap (λ b. option_map_or f (old other) [] ++ (if b then row ∷ [] else [])) (sym h.1)
      ]

  pub put_key : is_some new ≡ (is_some (old other) || same_text other word)
  put_key =
      elim (cases_Bool (same_text word other)) [
        | inl t ↦ let h = at_word t in ap is_some h.1 ∙ sym (or_true (is_some (old other))) ∙ ap (λ b. is_some (old other) || b) (sym h.2)
        | inr n ↦ let h = elsewhere n in ap is_some h.0 ∙ sym (or_nothing (is_some (old other))) ∙ ap (λ b. is_some (old other) || b) (sym h.1)
      ]
    where
      or_true : (b : Bool) → (b || true) ≡ true
      or_true true = refl
      or_true false = refl

      or_nothing : (b : Bool) → (b || false) ≡ b
      or_nothing true = refl
      or_nothing false = refl

-- ---- of all words

key_of : {X : Type 0} (q : Text) (es : List (Bor (List ℕ) × X)) → list_any (λ k. same_text q k.now) (keys_of es) ≡ is_some (lookup (λ k. bytes_eq q k.now) es)
key_of q [] = refl
key_of {X} q (e ∷ es) =
    elim (bytes_eq q e.0.now) as (λ b. (b || list_any (λ k. same_text q k.now) (keys_of es)) ≡ is_some (cond b (Some e.1) (lookup (λ k. bytes_eq q k.now) es))) [
      | true ↦ refl
      | false ↦ key_of q es
    ]

-- the set of the keys has the words under which the map has something
pub words_found : {X : Type 0} (q : Text) (es : List (Bor (List ℕ) × X)) → list_any (same_text q) (sorted_set (map (λ k. k.now) (keys_of es))) ≡ is_some (lookup (λ k. bytes_eq q k.now) es)
words_found q es =
    same_has q (sorted_set (map (λ k. k.now) (keys_of es))) ∙ has-sorted_set q (map (λ k. k.now) (keys_of es)) ∙ sym (same_has q (map (λ k. k.now) (keys_of es)))
    ∙ any_mapped (same_text q) (λ k. k.now) (keys_of es) ∙ key_of q es

-- ---- of the lists that are laid one behind another

joined_push : (ls : List (List ℕ)) (l : List ℕ) → joined (ls ++ l ∷ []) ≡ joined ls ++ l
joined_push [] l = append-nil l
joined_push (k ∷ ls) l = ap (λ (r : List ℕ). k ++ r) (joined_push ls l) ∙ sym (append_assoc k (joined ls) l)

ends_push : (n : ℕ) (ls : List (List ℕ)) (l : List ℕ) → ends_from n (ls ++ l ∷ []) ≡ ends_from n ls ++ (n + length (joined ls) + length l) ∷ []
ends_push n [] l = ap (λ k. (k + length l) ∷ []) (let e : n ≡ n + 0 = omega arith in e)
ends_push n (k ∷ ls) l =
    ap (λ (r : List ℕ). (n + length k) ∷ r) (ends_push (n + length k) ls l)
    ∙ ap (λ j. (n + length k) ∷ (ends_from (n + length k) ls ++ j ∷ [])) (let both : length (k ++ joined ls) ≡ length k + length (joined ls) = length-append k (joined ls) in omega arith)

module _ {X : Type 0} (f : X → List ℕ) (words : List X) (i : ℕ) (word : X) (lt : i < length words) (at : word ≡ get_or words i word) where
  abbrev laid_so_far : List (List ℕ)
  laid_so_far = map f (take i words)

  lists_more : map f (take (i + 1) words) ≡ laid_so_far ++ f word ∷ []
  lists_more = map_more f words i word lt ∙ ap (λ (w : X). laid_so_far ++ f w ∷ []) (sym at)

  pub laid_more : (rows more part : List ℕ) → rows ≡ joined laid_so_far → part ≡ f word → more ≡ rows ++ part → more ≡ joined (map f (take (i + 1) words))
  laid_more rows more part r p m = m ∙ ap (λ (l : List ℕ). l ++ part) r ∙ ap (λ (l : List ℕ). joined laid_so_far ++ l) p ∙ sym (joined_push laid_so_far (f word)) ∙ ap joined (sym lists_more)

  pub ends_more : (ends more : List ℕ) (end : ℕ) → ends ≡ ends_from 0 laid_so_far → more ≡ ends ++ end ∷ [] → end ≡ length (joined (map f (take (i + 1) words))) → more ≡ ends_from 0 (map f (take (i + 1) words))
  ends_more ends more end e m long =
      let total : end ≡ 0 + length (joined laid_so_far) + length (f word) = omega (arith, ap (λ (l : List (List ℕ)). length (joined l)) lists_more, ap length (joined_push laid_so_far (f word)), length-append (joined laid_so_far) (f word)) in
      m ∙ ap (λ (l : List ℕ). l ++ end ∷ []) e ∙ ap (λ k. ends_from 0 laid_so_far ++ k ∷ []) total ∙ sym (ends_push 0 laid_so_far (f word)) ∙ ap (ends_from 0) (sym lists_more)
