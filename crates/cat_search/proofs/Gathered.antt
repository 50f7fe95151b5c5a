-- The hits of a segment that are passed one after another.
use Rattle.std.proofs.Common.{◌≡◌, ℕ, ◌+◌, ◌<◌, ◌≤◌, min, List, [], ◌∷◌, ◌++◌, length, map, filter, take, get_or, AllPairs, ltb, Bor, Option, Some, None, option_map, IfSome, Result, Ok, Err, IfOk, Bool, false, true, cond, refl, sym, ◌∙◌, ap, subst, arith, append-nil, append_assoc, length-append}
use Rattle.std.specs.Prelude.{OnOk, count_by}
use Rattle.std.specs.List.{AllByRecursion, flat_map}
use Rattle.std.proofs.lemmas.Bool.Decides.{nat_tests}
use Rattle.std.proofs.lemmas.List.{map-append, length-take, take-append-le, take_all, take_more, flat_map_more}
use Rattle.std.proofs.lemmas.List.Elements.{filter-append}
use Rattle.cat_model.specs.RowSets.{indices}
use Rattle.cat_model.specs.Item.{Item}
use Rattle.cat_model.specs.Query.{Query, matches}
use Rattle.cat_model.specs.Ranks.{sorted, insert_all}
use Rattle.cat_model.specs.View.{Row, Leaf, Segment, item_in, selected, live_rows, row_matches}
use Rattle.cat_model.proofs.HitOrder.{is_lt-nat_cmp}
use Rattle.cat_model.proofs.Lists.{All-weaken}
use Rattle.cat_model.proofs.Places.{EachPair, each_pair}
use Rattle.cat_search.specs.declared.sort.Order.{Order}
use Rattle.cat_search.specs.declared.sort.Order.TheVariants as order
use Rattle.cat_search.specs.Standings.{Rank, HitStanding, standing_before}
use Rattle.cat_search.specs.Pages.{beyond}
use Rattle.cat_search.specs.Rows.{row_standing}
use Rattle.cat_search.proofs.Defined.{each_pair-filter, each_pair-map}
use Rattle.cat_search.proofs.InOrder.{insert_last}
use Rattle.cat_views.proofs.Selected.{All-right, at_indices, indices-within, count-selected, selected-map}

abbrev pub none : HitStanding
none = record { rank = Rank.missing; number = 0; id = [] }

-- the standings of these rows, as far as the mark comes before them
abbrev pub standings_at : Option HitStanding → List HitStanding → List ℕ → List HitStanding
standings_at mark ranks rows = filter (beyond mark) (map (λ i. get_or ranks i none) rows)

-- the one standing, if the mark comes before it
abbrev pub one : Option HitStanding → HitStanding → List HitStanding
one mark p = cond (beyond mark p) (p ∷ []) []

pub standings_at-more : (mark : Option HitStanding) (ranks : List HitStanding) (rows : List ℕ) (row : ℕ) (p : HitStanding) → p ≡ get_or ranks row none → standings_at mark ranks (rows ++ row ∷ []) ≡ standings_at mark ranks rows ++ one mark p
standings_at-more mark ranks rows row p e =
    ap (filter (beyond mark)) (map-append (λ i. get_or ranks i none) rows (row ∷ []))
    ∙ filter-append (beyond mark) (map (λ i. get_or ranks i none) rows) (get_or ranks row none ∷ [])
    ∙ ap (λ q. standings_at mark ranks rows ++ one mark q) (sym e)

pub standings_at-all : (mark : Option HitStanding) (ranks : List HitStanding) (set : List Bool) (rows : List ℕ) → length set ≡ length ranks → rows ≡ indices set → standings_at mark ranks rows ≡ filter (beyond mark) (selected set ranks)
standings_at-all mark ranks set rows e is = ap (standings_at mark ranks) is ∙ ap (filter (beyond mark)) (at_indices set ranks none e)

-- the row that comes next is one of the segment
pub next_within : (set : List Bool) (ranks : List HitStanding) (before after : List ℕ) (row : ℕ) → before ++ row ∷ after ≡ indices set → length set ≡ length ranks → row < length ranks
next_within set ranks before after row e long =
    let each : AllByRecursion (λ i. i < length set) (before ++ row ∷ after) = subst (AllByRecursion (λ i. i < length set)) (sym e) (indices-within set) in
    let here : row < length set = (All-right (λ i. i < length set) before (row ∷ after) each).0 in
    omega (arith, here, long)

-- what is full takes nothing more
pub full : {X : Type 0} (n : ℕ) (ts xs ys : List X) → ts ≡ take n xs → n ≤ length ts → ts ≡ take n (xs ++ ys)
full n ts xs ys e h =
    let long : length ts ≡ min n (length xs) = ap length e ∙ length-take n xs in
    e ∙ sym (take-append-le n xs ys (omega (arith, long)))

-- where there is room one more is taken
pub room : {X : Type 0} (n : ℕ) (ts xs : List X) (x : X) → ts ≡ take n xs → length ts < n → ts ++ x ∷ [] ≡ take n (xs ++ x ∷ [])
room n ts xs x e h =
    let long : length ts ≡ min n (length xs) = ap length e ∙ length-take n xs in
    let more : length (xs ++ x ∷ []) ≡ length xs + 1 = length-append xs (x ∷ []) in
    ap (λ zs. zs ++ x ∷ []) (e ∙ take_all n xs (omega (arith, long))) ∙ sym (take_all n (xs ++ x ∷ []) (omega (arith, long, more)))

pub standings_at-append : (mark : Option HitStanding) (ranks : List HitStanding) (xs ys : List ℕ) → standings_at mark ranks (xs ++ ys) ≡ standings_at mark ranks xs ++ standings_at mark ranks ys
standings_at-append mark ranks xs ys =
    ap (filter (beyond mark)) (map-append (λ i. get_or ranks i none) xs ys) ∙ filter-append (beyond mark) (map (λ i. get_or ranks i none) xs) (map (λ i. get_or ranks i none) ys)

-- ---- one segment more

module _ (q : Query) (ls : List Leaf) (i : ℕ) (leaf : Leaf) (at : leaf ≡ get_or ls i leaf) (h : i < length ls) (hits : List Bool) (is : selected hits leaf.segment.rows ≡ filter (row_matches q) (live_rows leaf)) where
  rows_more : flat_map live_rows (take (i + 1) ls) ≡ flat_map live_rows (take i ls) ++ live_rows leaf
  rows_more = ap (flat_map live_rows) (take_more ls i leaf h ∙ ap (λ l. take i ls ++ l ∷ []) (sym at)) ∙ sym (flat_map_more live_rows [] (take i ls) leaf)

  hits_more : filter (row_matches q) (flat_map live_rows (take (i + 1) ls)) ≡ filter (row_matches q) (flat_map live_rows (take i ls)) ++ selected hits leaf.segment.rows
  hits_more = ap (filter (row_matches q)) rows_more ∙ filter-append (row_matches q) (flat_map live_rows (take i ls)) (live_rows leaf) ∙ ap (λ xs. filter (row_matches q) (flat_map live_rows (take i ls)) ++ xs) (sym is)

  pub total_more : length hits ≡ length leaf.segment.rows → (old new : ℕ) → old ≡ length (filter (row_matches q) (flat_map live_rows (take i ls))) → new ≡ old + count_by (λ b. b) hits
      → new ≡ length (filter (row_matches q) (flat_map live_rows (take (i + 1) ls)))
  total_more long old new e s =
      let count = count-selected hits leaf.segment.rows long in
      let sum = length-append (filter (row_matches q) (flat_map live_rows (take i ls))) (selected hits leaf.segment.rows) in
      omega (arith, e, s, count, sum) ∙ sym (ap length hits_more)

  pub standings_more : (mark : Option HitStanding) (o : Order) (segment : Segment) (ranks : List HitStanding) → segment ≡ leaf.segment → ranks ≡ map (row_standing o) segment.rows
      → filter (beyond mark) (map (row_standing o) (filter (row_matches q) (flat_map live_rows (take i ls)))) ++ filter (beyond mark) (selected hits ranks)
      ≡ filter (beyond mark) (map (row_standing o) (filter (row_matches q) (flat_map live_rows (take (i + 1) ls))))
  standings_more mark o segment ranks same e =
      let old : List Row = filter (row_matches q) (flat_map live_rows (take i ls)) in
      let here : selected hits ranks ≡ map (row_standing o) (selected hits leaf.segment.rows) =
      ap (selected hits) (e ∙ ap (λ t. map (row_standing o) t.rows) same) ∙ selected-map (row_standing o) hits leaf.segment.rows in
      ap (λ ps. filter (beyond mark) (map (row_standing o) old) ++ filter (beyond mark) ps) here
      ∙ sym (filter-append (beyond mark) (map (row_standing o) old) (map (row_standing o) (selected hits leaf.segment.rows)))
      ∙ ap (filter (beyond mark)) (sym (map-append (row_standing o) old (selected hits leaf.segment.rows)))
      ∙ ap (λ rs. filter (beyond mark) (map (row_standing o) rs)) (sym hits_more)

-- ---- one leaf more

module _ (q : Query) (ls : List Leaf) (i : ℕ) (leaf : Leaf) (at : leaf ≡ get_or ls i leaf) (h : i < length ls) where
  abbrev hits_to : ℕ → List Row
  hits_to n = filter (row_matches q) (flat_map live_rows (take n ls))

  abbrev hits_here : List Row
  hits_here = filter (row_matches q) (live_rows leaf)

  hits_next : hits_to (i + 1) ≡ hits_to i ++ hits_here
  hits_next =
      ap (filter (row_matches q)) (ap (flat_map live_rows) (take_more ls i leaf h ∙ ap (λ l. take i ls ++ l ∷ []) (sym at)) ∙ sym (flat_map_more live_rows [] (take i ls) leaf))
      ∙ filter-append (row_matches q) (flat_map live_rows (take i ls)) (live_rows leaf)

  pub leaf_total : (old found new : ℕ) → old ≡ length (hits_to i) → found ≡ length hits_here → new ≡ old + found → new ≡ length (hits_to (i + 1))
  leaf_total old found new e f s =
      let sum = length-append (hits_to i) hits_here in
      omega (arith, e, f, s, sum) ∙ sym (ap length hits_next)

  pub leaf_standings : (mark : Option HitStanding) (o : Order) → filter (beyond mark) (map (row_standing o) (hits_to i)) ++ filter (beyond mark) (map (row_standing o) hits_here) ≡ filter (beyond mark) (map (row_standing o) (hits_to (i + 1)))
  leaf_standings mark o =
      sym (filter-append (beyond mark) (map (row_standing o) (hits_to i)) (map (row_standing o) hits_here))
      ∙ ap (filter (beyond mark)) (sym (map-append (row_standing o) (hits_to i) hits_here))
      ∙ ap (λ rs. filter (beyond mark) (map (row_standing o) rs)) (sym hits_next)

-- the standings of the hits of a leaf are those of its set
pub hits_standings : (q : Query) (leaf : Leaf) (o : Order) (segment : Segment) (ranks : List HitStanding) (hits : List Bool) → segment ≡ leaf.segment → ranks ≡ map (row_standing o) segment.rows
    → selected hits leaf.segment.rows ≡ filter (row_matches q) (live_rows leaf) → selected hits ranks ≡ map (row_standing o) (filter (row_matches q) (live_rows leaf))
hits_standings q leaf o segment ranks hits same e is =
    ap (selected hits) (e ∙ ap (λ t. map (row_standing o) t.rows) same) ∙ selected-map (row_standing o) hits leaf.segment.rows ∙ ap (map (row_standing o)) is

-- ---- in order of addition

cross : {X : Type 0} (R : X → X → Type 0) (ys : List X) (x : X) (xs : List X) → EachPair R (ys ++ x ∷ xs) → AllByRecursion (λ y. R y x) ys
cross R [] x xs a = tt
cross R (y ∷ ys) x xs a = ((All-right (R y) ys (x ∷ xs) a.0).0, cross R ys x xs a.1)

in_order : {X : Type 0} (lt : X → X → Bool) (ys xs : List X) → EachPair (λ a b. lt b a ≡ false) (ys ++ xs) → insert_all lt ys xs ≡ ys ++ xs
in_order lt ys [] a = sym (append-nil ys)
in_order lt ys (x ∷ xs) a =
    let last = insert_last lt x ys (cross (λ a b. lt b a ≡ false) ys x xs a) in
    let rest = append_assoc ys (x ∷ []) xs in
    ap (λ zs. insert_all lt zs xs) last ∙ in_order lt (ys ++ x ∷ []) xs (subst (EachPair (λ a b. lt b a ≡ false)) (sym rest) a) ∙ rest

abbrev added : Row → HitStanding
added row = row_standing order.Added row

added_after : (a b : Row) → a.number < b.number → standing_before (added b) (added a) ≡ false
added_after a b h = is_lt-nat_cmp b.number a.number ∙ not_below b.number a.number h
  where
    not_below : (m n : ℕ) → n < m → ltb m n ≡ false
    not_below m n k = grind (arith, nat_tests)

-- rows in order of addition stand in order
pub first_added : (mark : Option HitStanding) (o : Order) (p : Row → Bool) (rows : List Row) (n : ℕ) → o ≡ order.Added → AllPairs (λ a b. a.number < b.number) rows
    → take n (filter (beyond mark) (map (row_standing order.Added) (filter p rows))) ≡ take n (sorted standing_before (filter (beyond mark) (map (row_standing o) (filter p rows))))
first_added mark o p rows n is rises =
    let hits : List Row = filter p rows in
    let indices : List HitStanding = filter (beyond mark) (map added hits) in
    let pairs : EachPair (λ a b. a.number < b.number) hits = each_pair-filter (λ a b. a.number < b.number) p rows (each_pair (λ a b. a.number < b.number) rows rises) in
    let after : EachPair (λ a b. standing_before b a ≡ false) indices =
    each_pair-filter (λ a b. standing_before b a ≡ false) (beyond mark) (map added hits)
    (each_pair-map added (λ a b. standing_before b a ≡ false) hits (each_weaken hits pairs)) in
    let same : map added hits ≡ map (row_standing o) hits = ap (λ w. map (row_standing w) hits) (sym is) in
    ap (take n) (sym (in_order standing_before [] indices after)) ∙ ap (λ ps. take n (sorted standing_before (filter (beyond mark) ps))) same
  where
    each_weaken : (rs : List Row) → EachPair (λ a b. a.number < b.number) rs → EachPair (λ a b. standing_before (added b) (added a) ≡ false) rs
    each_weaken [] a = tt
    each_weaken (r ∷ rs) a = (All-weaken (λ t. r.number < t.number) (λ t. standing_before (added t) (added r) ≡ false) (λ t h. added_after r t h) rs a.0, each_weaken rs a.1)

pub if_ok : {A E : Type 0} (P Q : A → Type 0) → ((x : A) → P x → Q x) → (r : Result A E) → IfOk r P → IfOk r Q
if_ok P Q f (Ok x) h = f x h
if_ok P Q f (Err e) h = tt

pub on_ok : {A E : Type 0} (P Q : Type 0) → (P → Q) → (r : Result A E) → OnOk r P → OnOk r Q
on_ok P Q f (Ok x) h = f h
on_ok P Q f (Err e) h = tt

-- a query that matches every item matches every row
pub everything : (q : Query) → ((i : Item) → matches q i ≡ true) → (rows : List Row) → filter (row_matches q) rows ≡ rows
everything q all [] = refl
everything q all (row ∷ rows) = rw (all (item_in row)) (ap (λ rs. row ∷ rs) (everything q all rows))

-- ---- sets that are at hand

-- what holds of the set that stands there holds of the one that is looked at
pub looked_at : {X : Type 0} (P : X → Type 0) (set : Option (Bor X)) (o : Option X) → option_map (λ s. s.now) set ≡ o → IfSome o P → IfSome set (λ s. P s.now)
looked_at P None o e h = tt
looked_at P (Some s) o e h = subst (λ p. IfSome p P) (sym e) h
