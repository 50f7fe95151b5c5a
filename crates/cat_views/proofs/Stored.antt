-- The stored source of the row of an id.
use Rattle.std.proofs.Common.{◌≡◌, ◌≢◌, ℕ, zero, suc, ◌+◌, ◌-◌, ◌<◌, ◌≤◌, List, [], ◌∷◌, ◌++◌, length, map, take, drop, get_or, min, sum, AllPairs, Bool, true, false, cond, ◌||◌, Option, Some, None, option_map, is_some, find, refl, sym, ap, ◌∙◌, subst, inl, inr, arith}
use Rattle.std.specs.Prelude.{slice_index, Contains}
use Rattle.std.specs.Option.{option_or}
use Rattle.std.specs.List.{AllByRecursion, HoldsAt, All, flat_map, list_any}
use Rattle.std.proofs.lemmas.Bool.{cases_lt}
use Rattle.std.proofs.lemmas.List.{drop-drop, take_more, flat_map_more, length-drop, length-take}
use Rattle.std.proofs.lemmas.List.Elements.{Contains-from_at, recursion_from_All}
use Rattle.std.proofs.lemmas.List.Folds.{find-append}
use Rattle.std.proofs.lemmas.List.Sums.{sum_by-cons}
use Rattle.std.proofs.lemmas.Slice.Eq.{bytes_eq-Decides}
use Rattle.cat_model.specs.Answer.{HasNoLineFeed, stored}
use Rattle.cat_model.specs.Item.{Record}
use Rattle.cat_model.specs.RowSets.{has_row}
use Rattle.cat_model.specs.Text.{Text, IsOneLine, same_text}
use Rattle.cat_directory.specs.Devices.{Told}
use Rattle.cat_directory.specs.declared.name.FileName.{FileName}
use Rattle.cat_directory.specs.declared.name.FileName.TheVariants as file
use Rattle.cat_model.specs.View.{Row, Leaf, Segment, View, IsFormedRow, selected, live_rows, sourced}
use Rattle.cat_model.proofs.Insert.{which}
use Rattle.cat_model.proofs.Lists.{list_any-append, list_any_none, All-weaken}
use Rattle.cat_segment.specs.Sources.{source_offset}
use Rattle.cat_views.specs.Sources.{IsLiveIn, IsLiveRowOf, MayReachSource, has_id, length_at, length_in, source_of_row, stored_in}
use Rattle.cat_views.proofs.Selected.{All-selected}
use Rattle.cat_views.proofs.Found.{any-is_some, before_or_at}

-- ---- texts

same : (a b : Text) → a ≡ b → same_text a b ≡ true
same a b e = (bytes_eq-Decides a b).1 e

other : (a b : Text) → a ≢ b → same_text a b ≡ false
other a b h = elim (which (same_text a b)) [
  | inl y ↦ absurd (h ((bytes_eq-Decides a b).0 y))
  | inr n ↦ n
]

-- ---- the only element that passes, if it is marked

module _ {X : Type 0} (p : X → Bool) where
  none_selected : (set : List Bool) (xs : List X) (d : X) → ((k : ℕ) → k < length xs → p (get_or xs k d) ≡ false) → find p (selected set xs) ≡ None
  none_selected [] xs d h = refl
  none_selected (b ∷ bs) [] d h = refl
  none_selected (true ∷ bs) (x ∷ xs) d h = let e : p x ≡ false = h 0 (omega arith) in rw e (none_selected bs xs d (λ k l. h (suc k) (omega arith)))
  none_selected (false ∷ bs) (x ∷ xs) d h = none_selected bs xs d (λ k l. h (suc k) (omega arith))

  only_selected : (set : List Bool) (xs : List X) (i : ℕ) (d : X) → i < length xs → p (get_or xs i d) ≡ true → ((k : ℕ) → k < length xs → k ≢ i → p (get_or xs k d) ≡ false)
      → find p (selected set xs) ≡ cond (get_or set i false) (Some (get_or xs i d)) None
  only_selected [] xs i d h e o = refl
  only_selected (b ∷ bs) [] i d h e o = absurd (omega arith)
  only_selected (true ∷ bs) (x ∷ xs) zero d h e o = rw e refl
  only_selected (false ∷ bs) (x ∷ xs) zero d h e o = none_selected bs xs d (λ k l. o (suc k) (omega arith) (λ q. omega (arith, q)))
  only_selected (true ∷ bs) (x ∷ xs) (suc i) d h e o =
      let f : p x ≡ false = o 0 (omega arith) (λ q. omega (arith, q)) in
      rw f (only_selected bs xs i d (omega arith) e (λ k l n. o (suc k) (omega arith) (λ q. n (omega (arith, q)))))
  only_selected (false ∷ bs) (x ∷ xs) (suc i) d h e o = only_selected bs xs i d (omega arith) e (λ k l n. o (suc k) (omega arith) (λ q. n (omega (arith, q))))

-- ---- the row of an id in one segment

abbrev pub IdsDiffer : List Row → Type 0
IdsDiffer rows = AllPairs (λ a b. a.id ≢ b.id) rows

differ_at : (id : Text) (rows : List Row) (i k : ℕ) (d : Row) → IdsDiffer rows → i < length rows → (get_or rows i d).id ≡ id → k < length rows → k ≢ i → same_text (get_or rows k d).id id ≡ false
differ_at id rows i k d apart h e l n = elim (cases_lt k i) [
  | inl q ↦ other (get_or rows k d).id id (λ s. apart k i d q h (s ∙ sym e))
  | inr q ↦ elim (before_or_at i k q) [
    | inl r ↦ other (get_or rows k d).id id (λ s. apart i k d r l (e ∙ sym s))
    | inr r ↦ absurd (n (sym r))
  ]
]

pub none_in : (id : Text) (leaf : Leaf) (rows : List Row) → rows ≡ leaf.segment.rows → All (λ r. r.id ≢ id) rows → list_any (has_id id) (live_rows leaf) ≡ false
none_in id leaf rows is a =
    let each : AllByRecursion (λ r. has_id id r ≡ false) leaf.segment.rows =
    subst (AllByRecursion (λ r. has_id id r ≡ false)) is (All-weaken (λ r. r.id ≢ id) (λ r. has_id id r ≡ false) (λ r h. other r.id id h) rows (recursion_from_All (λ r. r.id ≢ id) rows a)) in
    list_any_none (has_id id) (live_rows leaf) (All-selected (λ r. has_id id r ≡ false) leaf.live leaf.segment.rows each)

-- some row, for the reads of a list past its end
abbrev no_row : Row
no_row = record { number = 0; id = []; fields = []; length = 0 }

found_row : (id : Text) (set : List Bool) (rows : List Row) (i : ℕ) → IdsDiffer rows → i < length rows → HoldsAt (λ r. r.id ≡ id) rows i
    → find (has_id id) (selected set rows) ≡ cond (get_or set i false) (Some (get_or rows i no_row)) None
found_row id set rows i apart h is =
    only_selected (has_id id) set rows i no_row h (same (get_or rows i no_row).id id (is no_row)) (λ k l n. differ_at id rows i k no_row apart h (is no_row) l n)

pub dead_in : (id : Text) (leaf : Leaf) (rows : List Row) (i : ℕ) → rows ≡ leaf.segment.rows → IdsDiffer leaf.segment.rows → i < length rows → HoldsAt (λ r. r.id ≡ id) rows i → has_row leaf.live i ≡ false
    → list_any (has_id id) (live_rows leaf) ≡ false
dead_in id leaf rows i same_rows apart h is dead =
    let here : i < length leaf.segment.rows = subst (λ rs. i < length rs) same_rows h in
    let at : HoldsAt (λ r. r.id ≡ id) leaf.segment.rows i = subst (λ rs. HoldsAt (λ r. r.id ≡ id) rs i) same_rows is in
    any-is_some (has_id id) (live_rows leaf)
    ∙ ap is_some (found_row id leaf.live leaf.segment.rows i apart here at ∙ ap (λ b. cond b (Some (get_or leaf.segment.rows i no_row)) None) dead)

live_in : (id : Text) (leaf : Leaf) (i : ℕ) → IdsDiffer leaf.segment.rows → i < length leaf.segment.rows → HoldsAt (λ r. r.id ≡ id) leaf.segment.rows i → has_row leaf.live i ≡ true
    → list_any (has_id id) (live_rows leaf) ≡ true
live_in id leaf i apart h is live =
    any-is_some (has_id id) (live_rows leaf)
    ∙ ap is_some (found_row id leaf.live leaf.segment.rows i apart h is ∙ ap (λ b. cond b (Some (get_or leaf.segment.rows i no_row)) None) live)

-- ---- the record of an id, with its source

abbrev no_record : Record
no_record = record { number = 0; item = record { id = []; fields = []; source = [] } }

sum-cons : (x : ℕ) (xs : List ℕ) → sum (x ∷ xs) ≡ x + sum xs
sum-cons x xs = sum_by-cons (λ n. n) x xs

length-sourced : (rows : List Row) (bytes : List ℕ) → length (sourced rows bytes) ≡ length rows
length-sourced [] bytes = refl
length-sourced (r ∷ rows) bytes = let h : length (sourced rows (drop r.length bytes)) ≡ length rows = length-sourced rows (drop r.length bytes) in omega (arith, h)

id-sourced : (rows : List Row) (bytes : List ℕ) (k : ℕ) → k < length rows → (get_or (sourced rows bytes) k no_record).item.id ≡ (get_or rows k no_row).id
id-sourced [] bytes k h = absurd (omega arith)
id-sourced (r ∷ rows) bytes zero h = refl
id-sourced (r ∷ rows) bytes (suc k) h = id-sourced rows (drop r.length bytes) k (omega arith)

source-sourced : (rows : List Row) (bytes : List ℕ) (k : ℕ) → k < length rows
    → (get_or (sourced rows bytes) k no_record).item.source ≡ take (slice_index (map (λ r. r.length) rows) k) (drop (source_offset rows k) bytes)
source-sourced [] bytes k h = absurd (omega arith)
source-sourced (r ∷ rows) bytes zero h = refl
source-sourced (r ∷ rows) bytes (suc k) h =
    let len : ℕ = slice_index (map (λ s. s.length) rows) k in
    let offset : r.length + source_offset rows k ≡ source_offset (r ∷ rows) (suc k) = sym (sum-cons r.length (map (λ s. s.length) (take k rows))) in
    source-sourced rows (drop r.length bytes) k (omega arith)
    ∙ ap (take len) (drop-drop (source_offset rows k) r.length bytes)
    ∙ ap (λ n. take len (drop n bytes)) offset

abbrev records : (ℕ → List ℕ) → Leaf → List Record
records files leaf = selected leaf.live (sourced leaf.segment.rows (files leaf.segment.number))

found_record : (files : ℕ → List ℕ) (id : Text) (leaf : Leaf) (i : ℕ) → IdsDiffer leaf.segment.rows → i < length leaf.segment.rows → HoldsAt (λ r. r.id ≡ id) leaf.segment.rows i → has_row leaf.live i ≡ true
    → stored (records files leaf) id ≡ Some (source_of_row files leaf i)
found_record files id leaf i apart h is live =
    let rows : List Row = leaf.segment.rows in
    let bytes : List ℕ = files leaf.segment.number in
    let all : List Record = sourced rows bytes in
    let long : length all ≡ length rows = length-sourced rows bytes in
    let yes : same_text (get_or all i no_record).item.id id ≡ true = ap (λ t. same_text t id) (id-sourced rows bytes i h) ∙ same (get_or rows i no_row).id id (is no_row) in
    let no = λ (k : ℕ) (l : k < length all) (n : k ≢ i).
    ap (λ t. same_text t id) (id-sourced rows bytes k (omega (arith, l, long))) ∙ differ_at id rows i k no_row apart h (is no_row) (omega (arith, l, long)) n in
    ap (option_map (λ r. r.item.source)) (only_selected (λ r. same_text r.item.id id) leaf.live all i no_record (omega (arith, h, long)) yes no ∙ ap (λ b. cond b (Some (get_or all i no_record)) None) live)
    ∙ ap Some (source-sourced rows bytes i h)

alike : (id : Text) (set : List Bool) (rows : List Row) (bytes : List ℕ) → list_any (λ r. same_text r.item.id id) (selected set (sourced rows bytes)) ≡ list_any (has_id id) (selected set rows)
alike id [] rows bytes = refl
alike id (b ∷ bs) [] bytes = refl
alike id (true ∷ bs) (r ∷ rows) bytes = ap (λ b. same_text r.id id || b) (alike id bs rows (drop r.length bytes))
alike id (false ∷ bs) (r ∷ rows) bytes = alike id bs rows (drop r.length bytes)

missing : {X : Type 0} (o : Option X) → is_some o ≡ false → o ≡ None
missing None e = refl
missing (Some x) e = absurd (cc)

none_recorded : (files : ℕ → List ℕ) (id : Text) (leaf : Leaf) → list_any (has_id id) (live_rows leaf) ≡ false → find (λ r. same_text r.item.id id) (records files leaf) ≡ None
none_recorded files id leaf e =
    missing (find (λ r. same_text r.item.id id) (records files leaf))
    (sym (any-is_some (λ r. same_text r.item.id id) (records files leaf)) ∙ alike id leaf.live leaf.segment.rows (files leaf.segment.number) ∙ e)

-- ---- in all segments

neither : (a b : Bool) → (a || b) ≡ false → (a ≡ false) × (b ≡ false)
neither true b e = absurd (cc)
neither false b e = (refl, e)

either_one : (a : Bool) → (a || true) ≡ true
either_one true = refl
either_one false = refl

abbrev stored_of : Option Record → Option Text
stored_of o = option_map (λ r. r.item.source) o

pub none_stored : (files : ℕ → List ℕ) (id : Text) (ls : List Leaf) → list_any (has_id id) (flat_map live_rows ls) ≡ false → stored_in files ls id ≡ None
none_stored files id [] e = refl
none_stored files id (l ∷ ls) e =
    let none = neither _ _ (sym (list_any-append (has_id id) (live_rows l) (flat_map live_rows ls)) ∙ e) in
    ap stored_of (find-append (λ r. same_text r.item.id id) (records files l) (flat_map (records files) ls) ∙ ap (λ o. option_or o (find (λ r. same_text r.item.id id) (flat_map (records files) ls))) (none_recorded files id l none.0))
    ∙ none_stored files id ls none.1

pub none_more : (id : Text) (ls : List Leaf) (i : ℕ) (leaf : Leaf) → leaf ≡ get_or ls i leaf → i < length ls → list_any (has_id id) (flat_map live_rows (take i ls)) ≡ false → list_any (has_id id) (live_rows leaf) ≡ false
    → list_any (has_id id) (flat_map live_rows (take (i + 1) ls)) ≡ false
none_more id ls i leaf at h a b =
    ap (list_any (has_id id)) (ap (flat_map live_rows) (take_more ls i leaf h ∙ ap (λ l. take i ls ++ l ∷ []) (sym at)) ∙ sym (flat_map_more live_rows [] (take i ls) leaf))
    ∙ list_any-append (has_id id) (flat_map live_rows (take i ls)) (live_rows leaf) ∙ ap (λ c. c || list_any (has_id id) (live_rows leaf)) a ∙ b

some_source : (o : Option Record) (rest : Option Record) (t : Text) → stored_of o ≡ Some t → stored_of (option_or o rest) ≡ Some t
some_source None rest t e = absurd (cc)
some_source (Some r) rest t e = e

first_stored : (files : ℕ → List ℕ) (id : Text) (ls : List Leaf) (i : ℕ) (leaf : Leaf) (t : Text) → leaf ≡ get_or ls i leaf → i < length ls → list_any (has_id id) (flat_map live_rows (take i ls)) ≡ false
    → stored (records files leaf) id ≡ Some t → stored_in files ls id ≡ Some t
first_stored files id [] i leaf t at h none e = absurd (omega arith)
first_stored files id (l ∷ ls) zero leaf t at h none e =
    ap stored_of (find-append (λ r. same_text r.item.id id) (records files l) (flat_map (records files) ls))
    ∙ some_source (find (λ r. same_text r.item.id id) (records files l)) (find (λ r. same_text r.item.id id) (flat_map (records files) ls)) t (ap (λ k. stored (records files k) id) (sym at) ∙ e)
first_stored files id (l ∷ ls) (suc i) leaf t at h none e =
    let before = neither _ _ (sym (list_any-append (has_id id) (live_rows l) (flat_map live_rows (take i ls))) ∙ none) in
    ap stored_of (find-append (λ r. same_text r.item.id id) (records files l) (flat_map (records files) ls) ∙ ap (λ o. option_or o (find (λ r. same_text r.item.id id) (flat_map (records files) ls))) (none_recorded files id l before.0))
    ∙ first_stored files id ls i leaf t at (omega arith) before.1 e

first_found : (id : Text) (ls : List Leaf) (i : ℕ) (leaf : Leaf) (r : Row) → leaf ≡ get_or ls i leaf → i < length ls → list_any (has_id id) (flat_map live_rows (take i ls)) ≡ false
    → find (has_id id) (live_rows leaf) ≡ Some r → find (has_id id) (flat_map live_rows ls) ≡ Some r
first_found id [] i leaf r at h none e = absurd (omega arith)
first_found id (l ∷ ls) zero leaf r at h none e =
    find-append (has_id id) (live_rows l) (flat_map live_rows ls)
    ∙ ap (λ o. option_or o (find (has_id id) (flat_map live_rows ls))) (ap (λ k. find (has_id id) (live_rows k)) (sym at) ∙ e)
first_found id (l ∷ ls) (suc i) leaf r at h none e =
    let before = neither _ _ (sym (list_any-append (has_id id) (live_rows l) (flat_map live_rows (take i ls))) ∙ none) in
    let lacks : find (has_id id) (live_rows l) ≡ None = missing (find (has_id id) (live_rows l)) (sym (any-is_some (has_id id) (live_rows l)) ∙ before.0) in
    find-append (has_id id) (live_rows l) (flat_map live_rows ls) ∙ ap (λ o. option_or o (find (has_id id) (flat_map live_rows ls))) lacks
    ∙ first_found id ls i leaf r at (omega arith) before.1 e

pub none_long : (id : Text) (ls : List Leaf) → list_any (has_id id) (flat_map live_rows ls) ≡ false → length_in ls id ≡ None
none_long id ls e =
    ap (option_map (λ row. row.length)) (missing (find (has_id id) (flat_map live_rows ls)) (sym (any-is_some (has_id id) (flat_map live_rows ls)) ∙ e))

length-got : (rows : List Row) (i : ℕ) → i < length rows → (get_or rows i no_row).length ≡ slice_index (map (λ r. r.length) rows) i
length-got [] i h = absurd (omega arith)
length-got (r ∷ rows) zero h = refl
length-got (r ∷ rows) (suc i) h = length-got rows i (omega arith)

some_length : (rows : List Row) (i : ℕ) → i < length rows → All IsFormedRow rows → 1 ≤ slice_index (map (λ r. r.length) rows) i
some_length rows i h a =
    let formed : IsFormedRow (get_or rows i no_row) = at_index rows i h (recursion_from_All IsFormedRow rows a) in
    omega (arith, formed.source.0, length-got rows i h)
  where
    at_index : (xs : List Row) (k : ℕ) → k < length xs → AllByRecursion IsFormedRow xs → IsFormedRow (get_or xs k no_row)
    at_index [] k q b = absurd (omega arith)
    at_index (x ∷ xs) zero q b = b.0
    at_index (x ∷ xs) (suc k) q b = at_index xs k (omega arith) b.1

-- the live row of the id
pub live_row : (id : Text) (ls : List Leaf) (i : ℕ) (leaf : Leaf) (row : ℕ) → leaf ≡ get_or ls i leaf → i < length ls → list_any (has_id id) (flat_map live_rows (take i ls)) ≡ false
    → IsLiveIn id leaf row → IsLiveRowOf id ls leaf row
live_row id ls i leaf row at h none is =
    let apart : IdsDiffer leaf.segment.rows = is.segment.rows.distinct in
    let found : find (has_id id) (live_rows leaf) ≡ Some (get_or leaf.segment.rows row no_row) =
    found_row id leaf.live leaf.segment.rows row apart is.within is.named ∙ ap (λ b. cond b (Some (get_or leaf.segment.rows row no_row)) None) is.live in
    record {
      among = Contains-from_at ls leaf (i, h, λ d. any_read ls i leaf d h ∙ sym at);
      has = live_in id leaf row apart is.within is.named is.live;
      within = is.within;
      some = some_length leaf.segment.rows row is.within is.segment.formed;
      long = ap (option_map (λ r. r.length)) (first_found id ls i leaf (get_or leaf.segment.rows row no_row) at h none found) ∙ ap Some (length-got leaf.segment.rows row is.within);
      source = λ files. first_stored files id ls i leaf (source_of_row files leaf row) at h none (found_record files id leaf row apart is.within is.named is.live);
    }
  where
    any_read : {X : Type 0} (xs : List X) (k : ℕ) (d e : X) → k < length xs → get_or xs k e ≡ get_or xs k d
    any_read [] k d e q = absurd (omega arith)
    any_read (x ∷ xs) zero d e q = refl
    any_read (x ∷ xs) (suc k) d e q = any_read xs k d e (omega arith)

-- ---- lengths

pub length-at : (rows : List Row) (i n : ℕ) → i < length rows → HoldsAt (λ r. r.length ≡ n) rows i → slice_index (map (λ r. r.length) rows) i ≡ n
length-at [] i n h is = absurd (omega arith)
length-at (r ∷ rows) zero n h is = is r
length-at (r ∷ rows) (suc i) n h is = length-at rows i n (omega arith) is

-- what a device gives of the file with the sources of a segment that the code has by another name
pub read_is : (files : ℕ → List ℕ) (leaf : Leaf) (s : Segment) (row offset len : ℕ) (items : List ℕ) → s ≡ leaf.segment → row < length leaf.segment.rows
    → offset ≡ source_offset s.rows row → HoldsAt (λ r. r.length ≡ len) s.rows row → items ≡ take len (drop offset (files leaf.segment.number)) → items ≡ source_of_row files leaf row
read_is files leaf s row offset len items is h p l e =
    let rows : List Row = leaf.segment.rows in
    let bytes : List ℕ = files leaf.segment.number in
    let long : slice_index (map (λ r. r.length) rows) row ≡ len = length-at rows row len h (subst (λ t. HoldsAt (λ r. r.length ≡ len) t.rows row) is l) in
    e ∙ ap (λ n. take n (drop offset bytes)) (sym long) ∙ ap (λ n. take (slice_index (map (λ r. r.length) rows) row) (drop n bytes)) (p ∙ ap (λ t. source_offset t.rows row) is)

-- a source that isn't cut off ends within its file
pub not_cut : (files : ℕ → List ℕ) (leaf : Leaf) (s : Segment) (row offset len : ℕ) → s ≡ leaf.segment → row < length leaf.segment.rows → 1 ≤ length_at leaf row
    → offset ≡ source_offset s.rows row → HoldsAt (λ r. r.length ≡ len) s.rows row → length (source_of_row files leaf row) ≡ length_at leaf row → length (files leaf.segment.number) < offset + len → ⊥
not_cut files leaf s row offset len is h some p l whole short =
    let rows : List Row = leaf.segment.rows in
    let bytes : List ℕ = files leaf.segment.number in
    let long : length_at leaf row ≡ len = length-at rows row len h (subst (λ t. HoldsAt (λ r. r.length ≡ len) t.rows row) is l) in
    let at : offset ≡ source_offset rows row = p ∙ ap (λ t. source_offset t.rows row) is in
    let rest : length (drop (source_offset rows row) bytes) ≡ length bytes - source_offset rows row = length-drop (source_offset rows row) bytes in
    let taken : length (source_of_row files leaf row) ≡ min (length_at leaf row) (length (drop (source_offset rows row) bytes)) = length-take (length_at leaf row) (drop (source_offset rows row) bytes) in
    omega (arith, some, long, at, rest, taken, whole, short)

-- a file that has so many bytes has the source
pub may_reach : (told : FileName → Told) (view : View) (id : Text) (leaf : Leaf) (s : Segment) (n row offset len : ℕ) → s ≡ leaf.segment → n ≡ leaf.segment.number
    → IsLiveRowOf id view.leaves leaf row → offset ≡ source_offset s.rows row → HoldsAt (λ r. r.length ≡ len) s.rows row
    → (told (file.Source n) ≢ Some None) × ((bytes : Text) → told (file.Source n) ≡ Some (Some bytes) → offset + len ≤ length bytes) → MayReachSource told view id
may_reach told view id leaf s n row offset len is number live p l due =
    let long : length_at leaf row ≡ len = length-at leaf.segment.rows row len live.within (subst (λ t. HoldsAt (λ r. r.length ≡ len) t.rows row) is l) in
    let at : offset ≡ source_offset leaf.segment.rows row = p ∙ ap (λ t. source_offset t.rows row) is in
    record {
      leaf = leaf;
      row = row;
      live = live;
      there = λ gone. due.0 (ap (λ k. told (file.Source k)) number ∙ gone);
      whole = λ bytes e. omega (arith, long, at, due.1 bytes (ap (λ k. told (file.Source k)) number ∙ e));
    }

-- the file that the device tells of holds the source, where it isn't cut off
pub is_whole : (files : ℕ → List ℕ) (id : Text) (ls : List Leaf) (leaf : Leaf) (row : ℕ) → IsLiveRowOf id ls leaf row
    → option_map (λ text. length text) (stored_in files ls id) ≡ length_in ls id → length (source_of_row files leaf row) ≡ length_at leaf row
is_whole files id ls leaf row is whole =
    let a : option_map (λ text. length text) (stored_in files ls id) ≡ Some (length (source_of_row files leaf row)) = ap (option_map (λ text. length text)) (is.source files) in
    let b : length_in ls id ≡ Some (length_at leaf row) = is.long in
    cc (a, b, whole)

-- what is read of it is one line, if its source is
pub one_line_read : (files : ℕ → List ℕ) (id : Text) (ls : List Leaf) (leaf : Leaf) (row : ℕ) (text : Text) → IsLiveRowOf id ls leaf row
    → text ≡ source_of_row files leaf row → HasNoLineFeed (stored_in files ls id) → IsOneLine text
one_line_read files id ls leaf row text is same h =
    let one : IsOneLine (source_of_row files leaf row) = subst HasNoLineFeed (is.source files) h in
    subst IsOneLine (sym same) one
