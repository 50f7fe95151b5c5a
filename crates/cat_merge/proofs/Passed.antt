-- What a merge has kept, with one row more.
use Rattle.std.proofs.Common.{◌≡◌, ℕ, zero, suc, ◌+◌, ◌<◌, ◌≤◌, Bool, true, false, cond, List, [], ◌∷◌, ◌++◌, length, map, take, drop, get_or, refl, sym, ap, ap₂, ◌∙◌, subst, arith, add-one, inl, inr}
use Rattle.std.specs.Prelude.{All, count_by, if◌then◌else◌}
use Rattle.std.specs.List.{flat_map, AllByRecursion}
use Rattle.std.proofs.lemmas.List.{take_more, append-nil, append_assoc, length-append, map-append, take-append-drop, drop-drop, length-take, take-take, take_all}
use Rattle.std.proofs.lemmas.List.Concat.{flat_map-append, get_or-flat_map}
use Rattle.std.proofs.lemmas.List.Elements.{recursion_from_All, All-take, All-more, All-tail}
use Rattle.std.proofs.lemmas.List.Sums.{sum_by-cons}
use Rattle.cat_model.specs.Item.{Record}
use Rattle.cat_model.specs.Layout.{Head, head_of}
use Rattle.cat_model.specs.Merged.{rows_of_all, live_of_all, rows_kept, records_of_all, records_kept}
use Rattle.cat_model.specs.RowSets.{has_row}
use Rattle.cat_model.specs.View.{Row, Leaf, Segment, IsSegment, live_rows, selected, sourced}
use Rattle.cat_model.proofs.Merged.{marked-append}
use Rattle.cat_views.specs.cat_segment.Sources.{source_offset}
use Rattle.cat_merge.specs.Copied.{no_row, segment_row_at, source_in}
use Rattle.cat_ledger_laws.specs.model.Stored.{joined_sources}
use Rattle.cat_merge.specs.Places.{no_leaf, input_at, passed_at, IsRowPlace, IsPlace}
use Rattle.cat_merge.specs.Walk.{AreInputs, heads_at, source_at}
use Rattle.cat_merge.specs.declared.place.Place.{Place}

-- ---- of all inputs, those up to one

pub flat_more : {X A : Type 0} (f : X → List A) (xs : List X) (i : ℕ) (d : X) → i < length xs → flat_map f (take (i + 1) xs) ≡ flat_map f (take i xs) ++ f (get_or xs i d)
flat_more f xs i d within =
    ap (flat_map f) (take_more xs i d within) ∙ flat_map-append f (take i xs) (get_or xs i d ∷ [])
    ∙ ap (λ l. flat_map f (take i xs) ++ l) (append-nil (f (get_or xs i d)))

pub length-flat_more : {X A : Type 0} (f : X → List A) (xs : List X) (i : ℕ) (d : X) → i < length xs
    → length (flat_map f (take (i + 1) xs)) ≡ length (flat_map f (take i xs)) + length (f (get_or xs i d))
length-flat_more f xs i d within = ap length (flat_more f xs i d within) ∙ length-append (flat_map f (take i xs)) (f (get_or xs i d))

pub front_long : {X A : Type 0} (f : X → List A) (xs : List X) (i : ℕ) → length (flat_map f (take i xs)) ≤ length (flat_map f xs)
front_long f xs i =
    let both : length (flat_map f (take i xs)) + length (flat_map f (drop i xs)) ≡ length (flat_map f xs) =
    sym (length-append (flat_map f (take i xs)) (flat_map f (drop i xs))) ∙ ap length (sym (flat_map-append f (take i xs) (drop i xs)))
    ∙ ap (λ l. length (flat_map f l)) (take-append-drop i xs) in
    omega (arith, both)

-- lists that are as long for each element are as long for all
alike_long : {X A B : Type 0} (f : X → List A) (g : X → List B) (xs : List X) → AllByRecursion (λ x. length (f x) ≡ length (g x)) xs
    → length (flat_map f xs) ≡ length (flat_map g xs)
alike_long f g [] all = refl
alike_long f g (x ∷ xs) all =
    length-append (f x) (flat_map f xs) ∙ ap₂ (λ (a b : ℕ). a + b) all.0 (alike_long f g xs all.1) ∙ sym (length-append (g x) (flat_map g xs))

length-sourced : (rows : List Row) (bytes : List ℕ) → length (sourced rows bytes) ≡ length rows
length-sourced [] bytes = refl
length-sourced (row ∷ rows) bytes = ap suc (length-sourced rows (drop row.length bytes))

sourced_all : (files : ℕ → List ℕ) (inputs : List Leaf) → AllByRecursion (λ leaf. length (sourced leaf.segment.rows (files leaf.segment.number)) ≡ length leaf.segment.rows) inputs
sourced_all files [] = tt
sourced_all files (x ∷ inputs) = (length-sourced x.segment.rows (files x.segment.number), sourced_all files inputs)

pub length-records_of_all : (files : ℕ → List ℕ) (inputs : List Leaf) → length (records_of_all files inputs) ≡ length (rows_of_all inputs)
length-records_of_all files inputs =
    alike_long (λ leaf. sourced leaf.segment.rows (files leaf.segment.number)) (λ leaf. leaf.segment.rows) inputs (sourced_all files inputs)

pub length-live_of_all : (inputs : List Leaf) → All (λ leaf. length leaf.live ≡ length leaf.segment.rows) inputs → length (live_of_all inputs) ≡ length (rows_of_all inputs)
length-live_of_all inputs full = alike_long (λ leaf. leaf.live) (λ leaf. leaf.segment.rows) inputs (recursion_from_All (λ leaf. length leaf.live ≡ length leaf.segment.rows) inputs full)

-- the live rows of all inputs are those that are live of all rows
pub rows-live : (leaves : List Leaf) → All (λ leaf. length leaf.live ≡ length leaf.segment.rows) leaves → selected (live_of_all leaves) (rows_of_all leaves) ≡ flat_map live_rows leaves
rows-live [] full = refl
rows-live (x ∷ leaves) full =
    marked-append x.live (live_of_all leaves) x.segment.rows (rows_of_all leaves) (full 0 x (omega arith))
    ∙ ap (λ l. live_rows x ++ l) (rows-live leaves (All-tail (λ leaf. length leaf.live ≡ length leaf.segment.rows) x leaves full))

-- ---- what is selected of one element more

selected_suc : {A : Type 0} (bs : List Bool) (xs : List A) (i : ℕ) (d : A) → length bs ≡ length xs → i < length xs
    → selected (take (suc i) bs) (take (suc i) xs) ≡ selected (take i bs) (take i xs) ++ (if has_row bs i then get_or xs i d ∷ [] else [])
selected_suc bs [] i d long within = absurd (omega (arith, within))
selected_suc [] (x ∷ xs) i d long within = absurd (omega (arith, long))
selected_suc (true ∷ bs) (x ∷ xs) zero d long within = refl
selected_suc (false ∷ bs) (x ∷ xs) zero d long within = refl
selected_suc (true ∷ bs) (x ∷ xs) (suc i) d long within = ap (λ l. x ∷ l) (selected_suc bs xs i d (omega (arith, long)) (omega (arith, within)))
selected_suc (false ∷ bs) (x ∷ xs) (suc i) d long within = selected_suc bs xs i d (omega (arith, long)) (omega (arith, within))

pub selected_more : {A : Type 0} (bs : List Bool) (xs : List A) (i : ℕ) (d : A) → length bs ≡ length xs → i < length xs
    → selected (take (i + 1) bs) (take (i + 1) xs) ≡ selected (take i bs) (take i xs) ++ (if has_row bs i then get_or xs i d ∷ [] else [])
selected_more bs xs i d long within = rw add-one (selected_suc bs xs i d long within)

-- ---- at a place

no_record : Record
no_record = record { number = 0; item = record { id = []; fields = []; source = [] } }

sourced_at : (rows : List Row) (bytes : List ℕ) (row : ℕ) (d : Record) → row < length rows
    → (get_or (sourced rows bytes) row d).item.source ≡ take (get_or rows row no_row).length (drop (source_offset rows row) bytes)
sourced_at [] bytes row d within = absurd (omega (arith, within))
sourced_at (r ∷ rows) bytes zero d within = refl
sourced_at (r ∷ rows) bytes (suc row) d within =
    sourced_at rows (drop r.length bytes) row d (omega (arith, within))
    ∙ ap (take (get_or rows row no_row).length) (drop-drop (source_offset rows row) r.length bytes
    ∙ ap (λ n. drop n bytes) (sym (sum_by-cons (λ x. x) r.length (map (λ (x : Row). x.length) (take row rows)))))

module _ (inputs : List Leaf) (are : AreInputs inputs) (place : Place) (is : IsRowPlace inputs place) where
  abbrev here : Leaf
  here = input_at inputs place.input

  full : length here.live ≡ length here.segment.rows
  full = are.live place.input no_leaf is.input

  front_live : length (live_of_all (take place.input inputs)) ≡ length (rows_of_all (take place.input inputs))
  front_live = length-live_of_all (take place.input inputs) (All-take (λ leaf. length leaf.live ≡ length leaf.segment.rows) place.input inputs are.live)

  pub place_within : passed_at inputs place < length (rows_of_all inputs)
  place_within = omega (arith, is.row, length-flat_more (λ leaf. leaf.segment.rows) inputs place.input no_leaf is.input, front_long (λ leaf. leaf.segment.rows) inputs (place.input + 1))

  row_there : get_or (rows_of_all inputs) (passed_at inputs place) no_row ≡ segment_row_at here.segment place.row
  row_there = get_or-flat_map (λ leaf. leaf.segment.rows) inputs place.input place.row no_leaf no_row is.input is.row

  live_there : has_row (live_of_all inputs) (passed_at inputs place) ≡ has_row here.live place.row
  live_there =
      ap (λ n. has_row (live_of_all inputs) (n + place.row)) (sym front_live)
      ∙ get_or-flat_map (λ leaf. leaf.live) inputs place.input place.row no_leaf false is.input (omega (arith, is.row, full))

  record_there : (files : ℕ → List ℕ) (d : Record) → (get_or (records_of_all files inputs) (passed_at inputs place) d).item.source ≡ source_in files here.segment place.row
  record_there files d =
      let bytes : List ℕ = files here.segment.number in
      let long : length (sourced here.segment.rows bytes) ≡ length here.segment.rows = length-sourced here.segment.rows bytes in
      let row : place.row < length here.segment.rows = is.row in
      ap (λ n. (get_or (records_of_all files inputs) (n + place.row) d).item.source) (sym (length-records_of_all files (take place.input inputs)))
      ∙ ap (λ (r : Record). r.item.source) (get_or-flat_map (λ leaf. sourced leaf.segment.rows (files leaf.segment.number)) inputs place.input place.row no_leaf d is.input
      (subst (λ n. place.row < n) (sym long) row))
      ∙ sourced_at here.segment.rows bytes place.row d row

  heads_of : (b : Bool) (r : Row) → map head_of (if b then r ∷ [] else []) ≡ (if b then head_of r ∷ [] else [])
  heads_of true r = refl
  heads_of false r = refl

  pub heads_more : (heads more : List Head) → heads ≡ map head_of (rows_kept inputs (passed_at inputs place)) → more ≡ heads ++ heads_at inputs place
      → more ≡ map head_of (rows_kept inputs (passed_at inputs place + 1))
  heads_more heads more before e =
      e ∙ ap₂ (λ (a b : List Head). a ++ b) before
      (ap₂ (λ b r. (if b then head_of r ∷ [] else [])) (sym live_there) (sym row_there)
      ∙ sym (heads_of (has_row (live_of_all inputs) (passed_at inputs place)) (get_or (rows_of_all inputs) (passed_at inputs place) no_row)))
      ∙ sym (map-append head_of (rows_kept inputs (passed_at inputs place)) _)
      ∙ ap (map head_of) (sym (selected_more (live_of_all inputs) (rows_of_all inputs) (passed_at inputs place) no_row (length-live_of_all inputs are.live) place_within))

  source_of : (b : Bool) (r : Record) → joined_sources (if b then r ∷ [] else []) ≡ (if b then r.item.source else [])
  source_of true r = append-nil r.item.source
  source_of false r = refl

  sources_there : (files : ℕ → List ℕ) → joined_sources (records_kept files inputs (passed_at inputs place + 1))
      ≡ joined_sources (records_kept files inputs (passed_at inputs place)) ++ source_at files inputs place
  sources_there files =
      let there : List Bool = live_of_all inputs in
      let all : List Record = records_of_all files inputs in
      let passed : ℕ = passed_at inputs place in
      let long : length all ≡ length (rows_of_all inputs) = length-records_of_all files inputs in
      ap joined_sources (selected_more there all passed no_record (length-live_of_all inputs are.live ∙ sym long) (subst (λ n. passed < n) (sym long) place_within))
      ∙ flat_map-append (λ (r : Record). r.item.source) (selected (take passed there) (take passed all)) (if has_row there passed then get_or all passed no_record ∷ [] else [])
      ∙ ap (λ l. joined_sources (records_kept files inputs passed) ++ l) (source_of (has_row there passed) (get_or all passed no_record)
      ∙ ap₂ (λ b (l : List ℕ). (if b then l else [])) live_there (record_there files no_record))

  pub sources_more : (files : ℕ → List ℕ) (start before after : List ℕ) → start ++ before ≡ joined_sources (records_kept files inputs (passed_at inputs place))
      → after ≡ before ++ source_at files inputs place
      → start ++ after ≡ joined_sources (records_kept files inputs (passed_at inputs place + 1))
  sources_more files start before after e f =
      ap (λ l. start ++ l) f ∙ sym (append_assoc start before (source_at files inputs place))
      ∙ ap (λ l. l ++ source_at files inputs place) e ∙ sym (sources_there files)

-- ---- how many rows there are

pub row_count_more : (inputs : List Leaf) (i n : ℕ) (x : Leaf) → i < length inputs → x ≡ get_or inputs i x → n ≡ length x.segment.rows
    → length (rows_of_all (take i inputs)) + n ≡ length (rows_of_all (take (i + 1) inputs))
row_count_more inputs i n x within is count =
    ap (λ k. length (rows_of_all (take i inputs)) + k) (count ∙ ap (λ (l : Leaf). length l.segment.rows) is)
    ∙ sym (length-flat_more (λ (leaf : Leaf). leaf.segment.rows) inputs i x within)

pub inputs_more : (inputs : List Leaf) (i : ℕ) (x : Leaf) (s : Segment) → i < length inputs → x ≡ get_or inputs i x → AreInputs (take i inputs) → s ≡ x.segment → IsSegment s
    → length x.live ≡ length x.segment.rows → AreInputs (take (i + 1) inputs)
inputs_more inputs i x s within is are e segment full = record {
  segments = All-more (λ leaf. IsSegment leaf.segment) inputs i x within are.segments (subst (λ (l : Leaf). IsSegment l.segment) is (subst IsSegment e segment));
  live = All-more (λ leaf. length leaf.live ≡ length leaf.segment.rows) inputs i x within are.live (subst (λ (l : Leaf). length l.live ≡ length l.segment.rows) is full);
}

pub length-selected : {A : Type 0} (bs : List Bool) (xs : List A) → length bs ≡ length xs → length (selected bs xs) ≡ count_by (λ b. b) bs
length-selected [] xs e = refl
length-selected (b ∷ bs) [] e = absurd (omega (arith, e))
length-selected (true ∷ bs) (x ∷ xs) e = ap suc (length-selected bs xs (omega (arith, e))) ∙ omega (arith, sum_by-cons (λ b. cond b 1 0) true bs)
length-selected (false ∷ bs) (x ∷ xs) e = length-selected bs xs (omega (arith, e)) ∙ omega (arith, sum_by-cons (λ b. cond b 1 0) false bs)

pub selected_few : {A : Type 0} (bs : List Bool) (xs : List A) → length (selected bs xs) ≤ length xs
selected_few [] xs = omega arith
selected_few (b ∷ bs) [] = omega arith
selected_few (true ∷ bs) (x ∷ xs) = omega (arith, selected_few bs xs)
selected_few (false ∷ bs) (x ∷ xs) = omega (arith, selected_few bs xs)

pub live_few : (inputs : List Leaf) → length (flat_map live_rows inputs) ≤ length (rows_of_all inputs)
live_few [] = omega arith
live_few (x ∷ inputs) = omega (arith, live_few inputs, selected_few x.live x.segment.rows, length-append (live_rows x) (flat_map live_rows inputs), length-append x.segment.rows (rows_of_all inputs))

pub live_count_more : (inputs : List Leaf) (i n : ℕ) (x : Leaf) (live : List Bool) → i < length inputs → x ≡ get_or inputs i x → live ≡ x.live
    → length x.live ≡ length x.segment.rows → n ≡ count_by (λ b. b) live
    → length (flat_map live_rows (take i inputs)) + n ≡ length (flat_map live_rows (take (i + 1) inputs))
live_count_more inputs i n x live within is e full count =
    ap (λ k. length (flat_map live_rows (take i inputs)) + k)
    (count ∙ ap (count_by (λ b. b)) e ∙ sym (length-selected x.live x.segment.rows full) ∙ ap (λ (l : Leaf). length (live_rows l)) is)
    ∙ sym (length-flat_more live_rows inputs i x within)

-- ---- places

-- a place before the last row's end is one of a row
pub row_place : (inputs : List Leaf) (place : Place) → IsPlace inputs place → passed_at inputs place < length (rows_of_all inputs) → IsRowPlace inputs place
row_place inputs place (inl is) short = is
row_place inputs place (inr end) short =
    absurd (omega (arith, short, end.1, ap (λ l. length (rows_of_all l)) (take_all place.input inputs (omega (arith, end.0)))))

-- what begins with what begins with a list begins with it too
pub fronts : {A : Type 0} (xs ys zs : List A) → take (length xs) ys ≡ xs → take (length ys) zs ≡ ys → take (length xs) zs ≡ xs
fronts xs ys zs one two =
    let short : length xs ≤ length ys = omega (arith, length-take (length xs) ys, ap length one) in
    sym (take-take (length xs) (length ys) zs short) ∙ ap (take (length xs)) two ∙ one
