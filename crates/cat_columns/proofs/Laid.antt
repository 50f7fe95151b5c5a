-- What a file has of a column: which lists a column is laid out as, and the column that they make.
use Rattle.std.proofs.Common.{◌≡◌, ℕ, zero, suc, ◌+◌, ◌-◌, ◌^◌, ◌<◌, ◌≤◌, List, [], ◌∷◌, ◌++◌, length, get_or, map, take, drop, Option, Some, None, refl, sym, ap, ◌∙◌, arith, subst, inl, inr, Ordering, Less, Equal, Greater, nat_cmp}
use Rattle.std.proofs.lemmas.Bool.{cases_order}
use Rattle.std.proofs.lemmas.List.{length-map, get_or-map, take-append-drop, take-map, drop-map, map-append, drop_all, drop-drop}
use Rattle.std.proofs.lemmas.List.Elements.{All-map, All-weaker, All-take, All-drop, All-contains, All-contains_itself, Contains-get_or, Contains-append_left, Contains-append_right}
use Rattle.std.proofs.lemmas.Map.Keys.{Less-from_sorted, sorted_from_all_adjacent}
use Rattle.std.specs.Cmp.{tied_itself}
use Rattle.std.specs.Cmp.Lexicographic.{slice_cmp, nat_list_cmp_total}
use Rattle.std.specs.List.{flat_map}
use Rattle.std.specs.List.Sorted.{IsStrictlyIncreasing}
use Rattle.std.specs.Ordering.{ordering_reverse}
use Rattle.std.specs.Prelude.{All, Contains}
use Rattle.cat_base.specs.Texts.{sorted_set, IsTextSet}
use Rattle.cat_base.proofs.TextSets.{sorted_set_members, sorted_set_only}
use Rattle.cat_model.specs.Text.{Text}
use Rattle.cat_model.specs.Layout.{ordinal_in, code_in, keywords_of, pieces, AreEnds}
use Rattle.cat_model.specs.Ordinals.{text_at, texts_of, dictionary_of}
use Rattle.cat_columns.specs.Columns.{text_of_code, DictionaryHas, IsKeywords, IsSets, AreCodes, AreOrdinals, HasNoKeywords, HasNoSets}
use Rattle.cat_columns.proofs.Codes.{length-dictionary_of}
use Rattle.cat_columns.proofs.Cuts.{joined_rows}
use Rattle.cat_columns.proofs.Members.{length-sorted_set}
use Rattle.cat_columns.proofs.Ordinals.{ordinal_back, ordinals_back, codes_laid, dictionary_rises, text_back, ordinal_within}

abbrev order : List ℕ → List ℕ → Ordering
order = slice_cmp nat_cmp

-- ---- what lists have

later : {X : Type 0} (x y : X) (xs : List X) → Contains xs y → Contains (x ∷ xs) y
later x y xs h = (suc h.0, (let lt = h.1 in omega arith), h.2)

pub mapped : {X Y : Type 0} (f : X → Y) (xs : List X) (x : X) → Contains xs x → Contains (map f xs) (f x)
mapped f [] x h = absurd (let lt = h.1 in omega arith)
mapped f (y ∷ ys) x (zero, lt, e) = (0, omega arith, ap f e)
mapped f (y ∷ ys) x (suc k, lt, e) = later (f y) (f x) (map f ys) (mapped f ys x (k, omega arith, e))

unmapped : {X Y : Type 0} (f : X → Y) (xs : List X) (y : Y) → Contains (map f xs) y → (x : X) × Contains xs x × (f x ≡ y)
unmapped f [] y h = absurd (let lt = h.1 in omega arith)
unmapped f (x ∷ xs) y (zero, lt, e) = (x, (0, omega arith, refl), e)
unmapped f (x ∷ xs) y (suc k, lt, e) = let g = unmapped f xs y (k, omega arith, e) in (g.0, later x g.0 xs g.1, g.2)

-- the texts of all rows are those of each
pub all_have : (rows : List (List Text)) (row : List Text) (t : Text) → Contains rows row → Contains row t → Contains (joined_rows rows) t
all_have [] row t h g = absurd (let lt = h.1 in omega arith)
all_have (r ∷ rows) row t (zero, lt, e) g = Contains-append_left r (joined_rows rows) t (subst (λ (l : List Text). Contains l t) (sym e) g)
all_have (r ∷ rows) row t (suc k, lt, e) g = Contains-append_right r (joined_rows rows) t (all_have rows row t (k, omega arith, e) g)

pub texts_have : (vs : List (Option Text)) (t : Text) → Contains vs (Some t) → Contains (joined_rows (map texts_of vs)) t
texts_have vs t h = all_have (map texts_of vs) (t ∷ []) t (mapped texts_of vs (Some t) h) (0, omega arith, refl)

had_texts : (vs : List (Option Text)) (t : Text) → Contains (joined_rows (map texts_of vs)) t → Contains vs (Some t)
had_texts [] t h = absurd (let lt = h.1 in omega arith)
had_texts (None ∷ vs) t h = later None (Some t) vs (had_texts vs t h)
had_texts (Some s ∷ vs) t (zero, lt, e) = (0, omega arith, ap Some e)
had_texts (Some s ∷ vs) t (suc k, lt, e) = later (Some s) (Some t) vs (had_texts vs t (k, omega arith, e))

-- a dictionary has each of its rows' texts, and no other
pub dictionary_has : (rows : List (List Text)) (t : Text) → Contains (joined_rows rows) t → Contains (dictionary_of rows) t
dictionary_has rows t h = (sorted_set_members (joined_rows rows) t).1 h

dictionary_had : (rows : List (List Text)) (t : Text) → Contains (dictionary_of rows) t → Contains (joined_rows rows) t
dictionary_had rows t h = (sorted_set_members (joined_rows rows) t).0 h

-- ---- keywords

keyword_there : (vs : List (Option Text)) (v : Option Text) → Contains vs v → DictionaryHas (keywords_of vs) v
keyword_there vs None h = tt
keyword_there vs (Some t) h = dictionary_has (map texts_of vs) t (texts_have vs t h)

pub keywords_there : (vs : List (Option Text)) → All (DictionaryHas (keywords_of vs)) vs
keywords_there vs k d lt = keyword_there vs (get_or vs k d) (Contains-get_or vs k d lt)

code_within : (ds : List Text) (v : Option Text) → DictionaryHas ds v → code_in ds v ≤ length ds
code_within ds None h = omega arith
code_within ds (Some t) h = omega (arith, ordinal_within ds t h)

code_used : (vs : List (Option Text)) (o : ℕ) → o < length (keywords_of vs) → Contains (map (code_in (keywords_of vs)) vs) (o + 1)
code_used vs o lt =
    let ds : List Text = keywords_of vs in
    let there : Contains vs (Some (text_at ds o)) = had_texts vs (text_at ds o) (dictionary_had (map texts_of vs) (text_at ds o) (Contains-get_or ds o [] lt)) in
    let code : suc (ordinal_in ds (text_at ds o)) ≡ o + 1 = omega (arith, ordinal_back ds o (dictionary_rises (map texts_of vs)) lt) in
    subst (λ k. Contains (map (code_in ds) vs) k) code (mapped (code_in ds) vs (Some (text_at ds o)) there)

codes_of : (vs : List (Option Text)) → AreCodes (length (keywords_of vs)) (map (code_in (keywords_of vs)) vs)
codes_of vs = record {
  few = omega (arith, length-dictionary_of vs, length-map vs (code_in (keywords_of vs)));
  within = All-map (λ k. k ≤ length (keywords_of vs)) (code_in (keywords_of vs)) vs
      (All-weaker (Contains vs) (λ v. code_in (keywords_of vs) v ≤ length (keywords_of vs)) (λ v h. code_within (keywords_of vs) v (keyword_there vs v h)) vs (All-contains_itself vs));
  used = code_used vs;
}

-- keywords are laid out as a rising dictionary and its codes
pub keywords_rise : (ds : List Text) (vs : List (Option Text)) → keywords_of vs ≡ ds → IsTextSet ds
keywords_rise ds vs e = subst (λ (l : List Text). IsTextSet l) e (dictionary_rises (map texts_of vs))

pub AreCodes-of : (ds : List Text) (codes : List ℕ) (vs : List (Option Text)) → keywords_of vs ≡ ds → map (code_in (keywords_of vs)) vs ≡ codes → AreCodes (length ds) codes
AreCodes-of ds codes vs e laid = subst (λ (l : List ℕ). AreCodes (length ds) l) laid (subst (λ (l : List Text). AreCodes (length l) (map (code_in (keywords_of vs)) vs)) e (codes_of vs))

label_had : (ds : List Text) (code : ℕ) (t : Text) → code ≤ length ds → text_of_code ds code ≡ Some t → Contains ds t
label_had ds zero t le e = absurd (cc)
label_had ds (suc o) t le e = let same : text_at ds o ≡ t = cc in subst (λ (s : Text). Contains ds s) same (Contains-get_or ds o [] (omega arith))

-- and each such pair makes a column
module _ (ds : List Text) (codes : List ℕ) (sorted : IsTextSet ds) (are : AreCodes (length ds) codes) where
  labels_have : (t : Text) → Contains ds t → Contains (joined_rows (map texts_of (map (text_of_code ds) codes))) t
  labels_have t h =
      let o : ℕ = ordinal_in ds t in
      let code : o + 1 ≡ suc o = omega arith in
      let there : Contains codes (suc o) = subst (λ k. Contains codes k) code (are.used o (ordinal_within ds t h)) in
      texts_have (map (text_of_code ds) codes) t (subst (λ (s : Text). Contains (map (text_of_code ds) codes) (Some s)) (text_back ds t h) (mapped (text_of_code ds) codes (suc o) there))

  labels_had : (t : Text) → Contains (joined_rows (map texts_of (map (text_of_code ds) codes))) t → Contains ds t
  labels_had t h =
      let g = unmapped (text_of_code ds) codes (Some t) (had_texts (map (text_of_code ds) codes) t h) in
      label_had ds g.0 t (All-contains (λ code. code ≤ length ds) codes g.0 are.within g.1) g.2

  pub IsKeywords-from : length codes < 2 ^ 32 → IsKeywords ds codes
  IsKeywords-from few = record {
    few = few;
    within = are.within;
    whole = sorted_set_only (joined_rows (map texts_of (map (text_of_code ds) codes))) ds sorted (λ t. (labels_have t, labels_had t));
  }

-- what is read is what was laid out
pub keywords_read : (ds ds' : List Text) (codes : List ℕ) → ds ≡ ds' → IsKeywords ds codes
    → (keywords_of (map (text_of_code ds) codes) ≡ ds') × (map (code_in (keywords_of (map (text_of_code ds) codes))) (map (text_of_code ds) codes) ≡ codes)
keywords_read ds ds' codes same is = (sym is.whole ∙ same, sym (codes_laid ds codes (map (text_of_code ds) codes) is refl))

-- codes that have each number from 1 on, which the ordinals are shifted to
pub codes_covered : (len : ℕ) (codes : List ℕ) → AreCodes len codes → (n : ℕ) → 1 ≤ n → n < len + 1 → Contains codes n
codes_covered len codes are zero low lt = absurd (omega arith)
codes_covered len codes are (suc o) low lt = subst (λ k. Contains codes k) (let at : o + 1 ≡ suc o = omega arith in at) (are.used o (omega arith))

pub covered_codes : (len : ℕ) (codes : List ℕ) → len ≤ length codes → All (λ code. code ≤ len) codes → ((n : ℕ) → 1 ≤ n → n < len + 1 → Contains codes n) → AreCodes len codes
covered_codes len codes few within there = record {
  few = few;
  within = within;
  used = λ o lt. there (o + 1) (omega arith) (omega arith);
}

-- codes that a column may have are of some column
pub some_keywords : (ds : List Text) (codes : List ℕ) → IsTextSet ds → AreCodes (length ds) codes → length codes < 2 ^ 32 → HasNoKeywords ds codes → ⊥
some_keywords ds codes sorted are few none =
    let h = keywords_read ds ds codes refl (IsKeywords-from ds codes sorted are few) in
    none (map (text_of_code ds) codes) h.0 h.1

-- ---- labels

-- a function of each element of the pieces
pub pieces-map : {A B : Type 0} (f : A → B) (n : ℕ) (ends : List ℕ) (xs : List A) → pieces n ends (map f xs) ≡ map (map f) (pieces n ends xs)
pieces-map f n [] xs = refl
pieces-map f n (e ∷ es) xs =
    ap (λ l. take (e - n) l ∷ pieces e es (map f xs)) (drop-map f n xs)
    ∙ ap (λ l. l ∷ pieces e es (map f xs)) (take-map f (e - n) (drop n xs))
    ∙ ap (λ l. map f (take (e - n) (drop n xs)) ∷ l) (pieces-map f e es xs)

-- the pieces, joined, are the list
pieces_whole : {A : Type 0} (n : ℕ) (ends : List ℕ) (xs : List A) → AreEnds n ends (length xs) → flat_map (λ l. l) (pieces n ends xs) ≡ drop n xs
pieces_whole n [] xs is = sym (drop_all n xs (omega (arith, is)))
pieces_whole n (e ∷ es) xs is =
    let le = is.0 in
    let to : n + (e - n) ≡ e = omega arith in
    ap (λ l. take (e - n) (drop n xs) ++ l) (pieces_whole e es xs is.1)
    ∙ ap (λ l. take (e - n) (drop n xs) ++ l) (sym (ap (λ k. drop k xs) to) ∙ sym (drop-drop (e - n) n xs))
    ∙ take-append-drop (e - n) (drop n xs)

pub pieces_joined : {A : Type 0} (ends : List ℕ) (xs : List A) → AreEnds 0 ends (length xs) → flat_map (λ l. l) (pieces 0 ends xs) ≡ xs
pieces_joined ends xs is = pieces_whole 0 ends xs is

flat_map-maps : {A B : Type 0} (f : A → B) (xss : List (List A)) → flat_map (λ l. l) (map (map f) xss) ≡ map f (flat_map (λ l. l) xss)
flat_map-maps f [] = refl
flat_map-maps f (xs ∷ xss) = ap (λ l. map f xs ++ l) (flat_map-maps f xss) ∙ sym (map-append f xs (flat_map (λ l. l) xss))

-- what holds of each element, holds of each of a piece
pub all_pieces : {A : Type 0} (P : A → Type 0) (n : ℕ) (ends : List ℕ) (xs : List A) → All P xs → All (All P) (pieces n ends xs)
all_pieces P n [] xs all k d lt = absurd (omega arith)
all_pieces P n (e ∷ es) xs all zero d lt = All-take P (e - n) (drop n xs) (All-drop P n xs all)
all_pieces P n (e ∷ es) xs all (suc k) d lt = all_pieces P e es xs all k d (omega arith)

-- rising ordinals are those of rising texts
text_before : (ds : List Text) (i j : ℕ) → IsTextSet ds → i < length ds → order (text_at ds i) (text_at ds j) ≡ Less → i < j
text_before ds i j sorted lt is = elim (cases_order i j) [
  | inl same ↦ absurd (
      let tie : order (text_at ds i) (text_at ds j) ≡ Equal = ap (λ k. order (text_at ds i) (text_at ds k)) (sym same) ∙ tied_itself nat_list_cmp_total (text_at ds i) in
      let no : Less ≡ Equal = sym is ∙ tie in cc
      )
  | inr other ↦ elim other [
    | inl under ↦ under
    | inr over ↦ absurd (
        let back : order (text_at ds i) (text_at ds j) ≡ Greater =
        nat_list_cmp_total.antisymm (text_at ds i) (text_at ds j) ∙ ap ordering_reverse (Less-from_sorted order ds j i [] sorted over lt) in
        let no : Less ≡ Greater = sym is ∙ back in cc
        )
  ]
]

ordinals_rise : (ds row : List Text) → IsTextSet ds → IsTextSet row → All (Contains ds) row → IsStrictlyIncreasing (map (ordinal_in ds) row)
ordinals_rise ds row sorted rises there k lt =
    let long : length (map (ordinal_in ds) row) ≡ length row = length-map row (ordinal_in ds) in
    let one : Contains ds (get_or row k []) = there k [] (omega arith) in
    let next : Contains ds (get_or row (k + 1) []) = there (k + 1) [] (omega arith) in
    let low : get_or (map (ordinal_in ds) row) k 0 ≡ ordinal_in ds (get_or row k []) = get_or-map (ordinal_in ds) row k [] 0 (omega arith) in
    let high : get_or (map (ordinal_in ds) row) (k + 1) 0 ≡ ordinal_in ds (get_or row (k + 1) []) = get_or-map (ordinal_in ds) row (k + 1) [] 0 (omega arith) in
    let less : ordinal_in ds (get_or row k []) < ordinal_in ds (get_or row (k + 1) []) =
    text_before ds (ordinal_in ds (get_or row k [])) (ordinal_in ds (get_or row (k + 1) [])) sorted (ordinal_within ds (get_or row k []) one)
    (ap (λ (t : Text). order t (text_at ds (ordinal_in ds (get_or row (k + 1) [])))) (text_back ds (get_or row k []) one)
    ∙ ap (order (get_or row k [])) (text_back ds (get_or row (k + 1) []) next) ∙ Less-from_sorted order row k (k + 1) [] rises (omega arith) (omega arith)) in
    omega arith

texts_rise : (ds : List Text) (os : List ℕ) → IsTextSet ds → All (λ o. o < length ds) os → IsStrictlyIncreasing os → IsTextSet (map (text_at ds) os)
texts_rise ds os sorted within rise =
    sorted_from_all_adjacent nat_list_cmp_total (map (text_at ds) os) []
    (λ k lt.
    let long : length (map (text_at ds) os) ≡ length os = length-map os (text_at ds) in
    let inside : k + 1 < length os = omega arith in
    let next : get_or os (k + 1) 0 < length ds = within (k + 1) 0 inside in
    ap (λ (t : Text). order t (get_or (map (text_at ds) os) (k + 1) [])) (get_or-map (text_at ds) os k 0 [] (omega arith))
    ∙ ap (order (text_at ds (get_or os k 0))) (get_or-map (text_at ds) os (k + 1) 0 [] inside)
    ∙ Less-from_sorted order ds (get_or os k 0) (get_or os (k + 1) 0) [] sorted (rise k inside) next)

-- labels are laid out as a rising dictionary, and each row's rising ordinals
ordinals_joined : (rows : List (List Text)) (ends ordinals : List ℕ) → AreEnds 0 ends (length ordinals)
    → map (map (ordinal_in (dictionary_of rows))) rows ≡ pieces 0 ends ordinals → map (ordinal_in (dictionary_of rows)) (joined_rows rows) ≡ ordinals
ordinals_joined rows ends ordinals parts laid =
    sym (flat_map-maps (ordinal_in (dictionary_of rows)) rows) ∙ ap (flat_map (λ l. l)) laid ∙ pieces_joined ends ordinals parts

label_used : (rows : List (List Text)) (o : ℕ) → o < length (dictionary_of rows) → Contains (map (ordinal_in (dictionary_of rows)) (joined_rows rows)) o
label_used rows o lt =
    let ds : List Text = dictionary_of rows in
    let there : Contains (joined_rows rows) (text_at ds o) = dictionary_had rows (text_at ds o) (Contains-get_or ds o [] lt) in
    subst (λ k. Contains (map (ordinal_in ds) (joined_rows rows)) k) (ordinal_back ds o (dictionary_rises rows) lt) (mapped (ordinal_in ds) (joined_rows rows) (text_at ds o) there)

pub rows_there : (rows : List (List Text)) → All (All (Contains (dictionary_of rows))) rows
rows_there rows k d lt j e l =
    let row : List Text = get_or rows k d in
    dictionary_has rows (get_or row j e) (all_have rows row (get_or row j e) (Contains-get_or rows k d lt) (Contains-get_or row j e l))

pub labels_rise : (ds : List Text) (rows : List (List Text)) → dictionary_of rows ≡ ds → IsTextSet ds
labels_rise ds rows e = subst (λ (l : List Text). IsTextSet l) e (dictionary_rises rows)

pub AreOrdinals-of : (ds : List Text) (ends ordinals : List ℕ) (rows : List (List Text)) → AreEnds 0 ends (length ordinals) → All IsTextSet rows → dictionary_of rows ≡ ds
    → map (map (ordinal_in (dictionary_of rows))) rows ≡ pieces 0 ends ordinals → AreOrdinals (length ds) ends ordinals
AreOrdinals-of ds ends ordinals rows parts sets e laid =
    let os : List ℕ = map (ordinal_in (dictionary_of rows)) (joined_rows rows) in
    let joined : os ≡ ordinals = ordinals_joined rows ends ordinals parts laid in
    let long : length ds ≡ length (dictionary_of rows) = sym (ap length e) in record {
      few = omega (arith, ap length joined, length-map (joined_rows rows) (ordinal_in (dictionary_of rows)), length-sorted_set (joined_rows rows));
      within = subst (λ (l : List ℕ). All (λ o. o < length ds) l) joined (subst (λ k. All (λ o. o < k) os) (sym long)
          (All-map (λ o. o < length (dictionary_of rows)) (ordinal_in (dictionary_of rows)) (joined_rows rows)
          (λ k d lt. ordinal_within (dictionary_of rows) (get_or (joined_rows rows) k d) (dictionary_has rows (get_or (joined_rows rows) k d) (Contains-get_or (joined_rows rows) k d lt)))));
      used = λ o lt. subst (λ (l : List ℕ). Contains l o) joined (label_used rows o (omega arith));
      rise = subst (λ (l : List (List ℕ)). All IsStrictlyIncreasing l) laid
          (All-map IsStrictlyIncreasing (map (ordinal_in (dictionary_of rows))) rows
          (λ k d lt. ordinals_rise (dictionary_of rows) (get_or rows k d) (dictionary_rises rows) (sets k d lt) (rows_there rows k d lt)));
    }

-- and each such pair makes a column
module _ (ds : List Text) (ends ordinals : List ℕ) (sorted : IsTextSet ds) (parts : AreEnds 0 ends (length ordinals)) (are : AreOrdinals (length ds) ends ordinals) where
  texts_had : (t : Text) → Contains (map (text_at ds) ordinals) t → Contains ds t
  texts_had t h =
      let g = unmapped (text_at ds) ordinals t h in
      subst (λ (s : Text). Contains ds s) g.2 (Contains-get_or ds g.0 [] (All-contains (λ o. o < length ds) ordinals g.0 are.within g.1))

  texts_have_all : (t : Text) → Contains ds t → Contains (map (text_at ds) ordinals) t
  texts_have_all t h =
      subst (λ (s : Text). Contains (map (text_at ds) ordinals) s) (text_back ds t h) (mapped (text_at ds) ordinals (ordinal_in ds t) (are.used (ordinal_in ds t) (ordinal_within ds t h)))

  texts_joined : joined_rows (pieces 0 ends (map (text_at ds) ordinals)) ≡ map (text_at ds) ordinals
  texts_joined = pieces_joined ends (map (text_at ds) ordinals) (subst (λ k. AreEnds 0 ends k) (sym (length-map ordinals (text_at ds))) parts)

  pub IsSets-from : length ends < 2 ^ 32 → IsSets ds ends ordinals
  IsSets-from few = record {
    few = few;
    parts = parts;
    within = are.within;
    whole = sorted_set_only (map (text_at ds) ordinals) ds sorted (λ t. (texts_have_all t, texts_had t)) ∙ sym (ap sorted_set texts_joined);
    sets = subst (λ (l : List (List Text)). All IsTextSet l) (sym (pieces-map (text_at ds) 0 ends ordinals))
        (All-map IsTextSet (map (text_at ds)) (pieces 0 ends ordinals)
        (λ k d lt. texts_rise ds (get_or (pieces 0 ends ordinals) k d) sorted (all_pieces (λ o. o < length ds) 0 ends ordinals are.within k d lt) (are.rise k d lt)));
  }

-- of lists that are the same
pub AreOrdinals-moved : {m n : ℕ} {ends ends' ordinals ordinals' : List ℕ} → m ≡ n → ends ≡ ends' → ordinals ≡ ordinals' → AreOrdinals m ends ordinals → AreOrdinals n ends' ordinals'
AreOrdinals-moved {m} {n} {ends} {ends'} {ordinals} {ordinals'} long same_ends same_ordinals are =
    subst (λ k. AreOrdinals k ends' ordinals') long (subst (λ (l : List ℕ). AreOrdinals m l ordinals') same_ends (subst (λ (l : List ℕ). AreOrdinals m ends l) same_ordinals are))

-- what is read is what was laid out
maps_back : (ds : List Text) (pss : List (List ℕ)) → IsTextSet ds → All (All (λ o. o < length ds)) pss → map (map (ordinal_in ds)) (map (map (text_at ds)) pss) ≡ pss
maps_back ds [] sorted within = refl
maps_back ds (ps ∷ pss) sorted within =
    ap (λ l. l ∷ map (map (ordinal_in ds)) (map (map (text_at ds)) pss)) (ordinals_back ds ps sorted (within 0 [] (omega arith)))
    ∙ ap (λ l. ps ∷ l) (maps_back ds pss sorted (λ k d lt. within (suc k) d (omega arith)))

pub labels_read : (ds ds' : List Text) (ends ordinals : List ℕ) (v : List (List Text)) → ds ≡ ds' → IsSets ds ends ordinals → pieces 0 ends (map (text_at ds) ordinals) ≡ v
    → (dictionary_of v ≡ ds') × (map (map (ordinal_in (dictionary_of v))) v ≡ pieces 0 ends ordinals)
labels_read ds ds' ends ordinals v same is view =
    let whole : ds ≡ dictionary_of v = is.whole ∙ ap dictionary_of view in
    let sorted : IsTextSet ds = subst (λ (l : List Text). IsTextSet l) (sym whole) (dictionary_rises v) in (
      sym whole ∙ same,
      ap (λ (l : List Text). map (map (ordinal_in l)) v) (sym whole) ∙ ap (map (map (ordinal_in ds))) (sym view ∙ pieces-map (text_at ds) 0 ends ordinals)
          ∙ maps_back ds (pieces 0 ends ordinals) sorted (all_pieces (λ o. o < length ds) 0 ends ordinals is.within),
    )

pub some_sets : (ds : List Text) (ends ordinals : List ℕ) → IsTextSet ds → AreEnds 0 ends (length ordinals) → AreOrdinals (length ds) ends ordinals → length ends < 2 ^ 32 → HasNoSets ds ends ordinals → ⊥
some_sets ds ends ordinals sorted parts are few none =
    let is : IsSets ds ends ordinals = IsSets-from ds ends ordinals sorted parts are few in
    let rows : List (List Text) = pieces 0 ends (map (text_at ds) ordinals) in
    let h = labels_read ds ds ends ordinals rows refl is refl in
    none rows is.sets h.0 h.1
