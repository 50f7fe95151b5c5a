-- The rows of parts in the order of a page that come one after another, and those at their head that the mark doesn't come before.
use Rattle.std.proofs.Common.{◌≡◌, ℕ, ◌+◌, ◌<◌, ◌≤◌, List, [], ◌∷◌, ◌++◌, length, filter, take, drop, get_or, Option, Bool, true, false, cond, refl, sym, ◌∙◌, ap, subst, arith, append-nil, append_assoc}
use Rattle.std.specs.List.{All, AllByRecursion, flat_map}
use Rattle.std.proofs.lemmas.List.{drop_more, drop_all, take-append-drop}
use Rattle.std.proofs.lemmas.Grind.{flat_map-append}
use Rattle.std.proofs.lemmas.List.Elements.{All-append, All-from_recursion, filter-append, recursion_from_All}
use Rattle.cat_model.specs.RowSets.{has_row}
use Rattle.cat_model.specs.View.{selected}
use Rattle.cat_model.proofs.Lists.{All-kept}
use Rattle.cat_model.proofs.Places.{EachPair, each_pair, all_pairs}
use Rattle.cat_views.specs.cat_segment.RowParts.{EndsIn, parts_of, rows_of_parts, rows_of_parts_before}
use Rattle.cat_views.specs.cat_segment.declared.row_parts.RowParts.{RowParts}
use Rattle.cat_views.proofs.Selected.{All-right, Pairs-right}
use Rattle.cat_search.specs.Bars.{IsFullBy}
use Rattle.cat_search.specs.BestItems.{BestItems}
use Rattle.cat_search.specs.Candidates.{IsBestAt}
use Rattle.cat_search.specs.Pages.{beyond, behind}
use Rattle.cat_search.specs.Standings.{HitStanding, standing_before}
use Rattle.cat_search.specs.Steps.{rows_of_parts_from}
use Rattle.cat_search.specs.Walks.{IsOrderedRun, IsRestOfWalk, IsWalk, standing_at}
use Rattle.cat_search.specs.declared.standings.Candidate.{Candidate}
use Rattle.cat_search.proofs.Gathered.{none, standings_at, standings_at-append, standings_at-more}
use Rattle.cat_search.proofs.Walked.{Passed, none_before, none_offered, rest_left_out, stays_passed, walked_all}

-- ---- parts

-- the rows from a part on are its own, and those from the next on
pub rows_step : (parts : RowParts) (i : ℕ) → i < length (parts_of parts) → rows_of_parts_from parts i ≡ get_or (parts_of parts) i [] ++ rows_of_parts_from parts (i + 1)
rows_step parts i h = ap (flat_map (λ part. part)) (drop_more (parts_of parts) i [] h)

-- from the end on there are none
pub rows_end : (parts : RowParts) (i : ℕ) → length (parts_of parts) ≤ i → rows_of_parts_from parts i ≡ []
rows_end parts i h = ap (flat_map (λ part. part)) (drop_all i (parts_of parts) h)

-- the rows of all parts, cut at a part
pub rows_cut : (parts : RowParts) (i : ℕ) → rows_of_parts_before parts i ++ rows_of_parts_from parts i ≡ rows_of_parts parts
rows_cut parts i = sym (flat_map-append (λ part. part) (take i (parts_of parts)) (drop i (parts_of parts))) ∙ ap (flat_map (λ part. part)) (take-append-drop i (parts_of parts))

-- ---- rows in the order of a page, cut in three

module _ (mark : Option HitStanding) (ranks : List HitStanding) where
  abbrev Follows : ℕ → ℕ → Type 0
  Follows a b = standing_before (standing_at ranks a) (standing_at ranks b) ≡ true

  -- a part of them stands in that order
  run_within : (front part back : List ℕ) → IsOrderedRun ranks (front ++ (part ++ back)) → IsOrderedRun ranks part
  run_within front part back is =
      let behind = Pairs-right Follows front (part ++ back) (each_pair Follows (front ++ (part ++ back)) is.rising) in
      let all = recursion_from_All (λ r. r < length ranks) (front ++ (part ++ back)) is.within in
      let inside = All-right (λ r. r < length ranks) front (part ++ back) all in
      record { within = All-from_recursion (λ r. r < length ranks) part (all_left part inside); rising = all_pairs Follows part (pairs_left part behind) }
    where
      all_left : (xs : List ℕ) → AllByRecursion (λ r. r < length ranks) (xs ++ back) → AllByRecursion (λ r. r < length ranks) xs
      all_left [] a = tt
      all_left (x ∷ xs) a = (a.0, all_left xs a.1)

      follow_left : (x : ℕ) (xs : List ℕ) → AllByRecursion (Follows x) (xs ++ back) → AllByRecursion (Follows x) xs
      follow_left x [] a = tt
      follow_left x (y ∷ ys) a = (a.0, follow_left x ys a.1)

      pairs_left : (xs : List ℕ) → EachPair Follows (xs ++ back) → EachPair Follows xs
      pairs_left [] a = tt
      pairs_left (x ∷ xs) a = (follow_left x xs a.0, pairs_left xs a.1)

  -- what stands before a row that the mark doesn't come before
  all_passed : (front : List ℕ) (row : ℕ) (back : List ℕ) → EachPair Follows (front ++ row ∷ back) → Passed mark ranks row → AllByRecursion (Passed mark ranks) (front ++ row ∷ [])
  all_passed [] row back a e = (e, tt)
  all_passed (x ∷ xs) row back a e = (
    stays_passed mark (standing_at ranks x) (standing_at ranks row) (All-right (Follows x) xs (row ∷ back) a.0).0 e,
    all_passed xs row back a.1 e,
  )

  -- ---- parts in the order of a page

  -- all rows, cut before a part and behind it
  rows_around : (parts : RowParts) (i : ℕ) → i < length (parts_of parts)
      → rows_of_parts parts ≡ rows_of_parts_before parts i ++ (get_or (parts_of parts) i [] ++ rows_of_parts_from parts (i + 1))
  rows_around parts i h = sym (rows_cut parts i) ∙ ap (λ l. rows_of_parts_before parts i ++ l) (rows_step parts i h)

  -- each part stands in the order of all
  pub part_runs : (parts : RowParts) (i : ℕ) (part : List ℕ) → i < length (parts_of parts) → part ≡ get_or (parts_of parts) i []
      → IsOrderedRun ranks (rows_of_parts parts) → IsOrderedRun ranks part
  part_runs parts i part h e is =
      let front = rows_of_parts_before parts i in
      let back = rows_of_parts_from parts (i + 1) in
      let all = subst (IsOrderedRun ranks) (rows_around parts i h) is in
      subst (IsOrderedRun ranks) (sym e) (run_within front (get_or (parts_of parts) i []) back all)

  -- where the mark doesn't come before the last row of the first parts, it doesn't come before any of theirs
  pub through_passed : (parts : RowParts) (i row : ℕ) → IsOrderedRun ranks (rows_of_parts parts) → EndsIn (rows_of_parts_before parts i) row
      → Passed mark ranks row → All (Passed mark ranks) (rows_of_parts_before parts i)
  through_passed parts i row is ends out =
      let before = rows_of_parts_before parts i in
      let back = rows_of_parts_from parts i in
      let cut : rows_of_parts parts ≡ ends.front ++ row ∷ back =
      sym (rows_cut parts i) ∙ ap (λ l. l ++ back) ends.whole ∙ append_assoc ends.front (row ∷ []) back in
      let pairs = subst (EachPair Follows) cut (each_pair Follows (rows_of_parts parts) is.rising) in
      let all = all_passed ends.front row back pairs out in
      All-from_recursion (Passed mark ranks) before (subst (AllByRecursion (Passed mark ranks)) (sym ends.whole) all)

  -- what is left where nothing is passed
  pub left_all : (rows : List ℕ) → IsRestOfWalk mark ranks rows rows
  left_all rows = record { passed = []; out = λ i d h. absurd (omega (arith, h)); cut = refl }

  -- and where the first parts are
  pub left_from : (parts : RowParts) (i : ℕ) → All (Passed mark ranks) (rows_of_parts_before parts i)
      → IsRestOfWalk mark ranks (rows_of_parts parts) (rows_of_parts_from parts i)
  left_from parts i out = record { passed = rows_of_parts_before parts i; out = out; cut = sym (rows_cut parts i) }

  -- and the first rows of the next part
  pub left_part : (parts : RowParts) (i : ℕ) (part : List ℕ) (n : ℕ) → i < length (parts_of parts) → part ≡ get_or (parts_of parts) i []
      → All (Passed mark ranks) (rows_of_parts_before parts i) → All (Passed mark ranks) (take n part)
      → IsRestOfWalk mark ranks (rows_of_parts parts) (drop n part ++ rows_of_parts_from parts (i + 1))
  left_part parts i part n h e out more =
      let front = rows_of_parts_before parts i in
      let back = rows_of_parts_from parts (i + 1) in
      record {
        passed = front ++ take n part;
        out = All-append (Passed mark ranks) front (take n part) out more;
        cut = rows_around parts i h ∙ ap (λ l. front ++ (l ++ back)) (sym e ∙ sym (take-append-drop n part))
            ∙ ap (λ l. front ++ l) (append_assoc (take n part) (drop n part) back)
            ∙ sym (append_assoc front (take n part) (drop n part ++ back));
      }

  -- what is left stands in the order of all
  pub left_runs : (rows left : List ℕ) → IsRestOfWalk mark ranks rows left → IsOrderedRun ranks rows → IsOrderedRun ranks left
  left_runs rows left is run =
      run_within is.passed left [] (subst (IsOrderedRun ranks) (is.cut ∙ ap (λ l. is.passed ++ l) (sym (append-nil left))) run)

  -- and has rows of the segment alone
  pub left_rows : (rows left : List ℕ) (n : ℕ) → IsRestOfWalk mark ranks rows left → IsOrderedRun ranks rows → n ≡ length ranks
      → All (λ r. r < n) left
  left_rows rows left n is run long =
      subst (λ m. All (λ r. r < m) left) (sym long) (left_runs rows left is run).within

  -- ---- the steps

  module _ (hits : List Bool) where
    abbrev pub taken : List ℕ → List HitStanding
    taken rows = standings_at mark ranks (filter (has_row hits) rows)

    pub hit_taken : (done : List ℕ) (row : ℕ) → has_row hits row ≡ true → (p : HitStanding) → p ≡ get_or ranks row none → taken (done ++ row ∷ []) ≡ taken done ++ cond (beyond mark p) (p ∷ []) []
    hit_taken done row e p at =
        ap (standings_at mark ranks) (filter-append (has_row hits) done (row ∷ []) ∙ ap (λ b. filter (has_row hits) done ++ cond b (row ∷ []) []) e)
        ∙ standings_at-more mark ranks (filter (has_row hits) done) row p at

    pub other_taken : (done : List ℕ) (row : ℕ) → has_row hits row ≡ false → taken (done ++ row ∷ []) ≡ taken done
    other_taken done row e =
        ap (standings_at mark ranks)
        (filter-append (has_row hits) done (row ∷ []) ∙ ap (λ b. filter (has_row hits) done ++ cond b (row ∷ []) []) e ∙ append-nil (filter (has_row hits) done))

    pub taken_more : (done : List ℕ) (row : ℕ) → taken done ++ taken (row ∷ []) ≡ taken (done ++ row ∷ [])
    taken_more done row =
        sym (ap (standings_at mark ranks) (filter-append (has_row hits) done (row ∷ [])) ∙ standings_at-append mark ranks (filter (has_row hits) done) (filter (has_row hits) (row ∷ [])))

    module _ (rows : List ℕ) (is : IsOrderedRun ranks rows) (done : List ℕ) (row : ℕ) (rest : List ℕ) (cut : done ++ row ∷ rest ≡ rows) where
      pub row_within : row < length ranks
      row_within = (All-right (λ r. r < length ranks) done (row ∷ rest) (subst (AllByRecursion (λ r. r < length ranks)) (sym cut) (recursion_from_All (λ r. r < length ranks) rows is.within))).0

      -- where a full page leaves out the row, what is taken is as good as all
      pub taken_early : (kept : BestItems Candidate) → IsFullBy kept (get_or ranks row none) → (ss : List HitStanding) → IsBestAt kept (ss ++ taken done) → IsBestAt kept (ss ++ taken rows)
      taken_early kept full ss best =
          let tail = filter (has_row hits) (row ∷ rest) in
          let follow = (Pairs-right Follows done (row ∷ rest) (subst (EachPair Follows) (sym cut) (each_pair Follows rows is.rising))).0 in
          let late = All-kept (λ r. standing_before (get_or ranks r none) (get_or ranks row none) ≡ false) (has_row hits) (row ∷ rest) (none_before ranks row rest follow) in
          let more = rest_left_out mark ranks kept (get_or ranks row none) full tail late (ss ++ taken done) best in
          let all : taken rows ≡ taken done ++ standings_at mark ranks tail =
          ap taken (sym cut) ∙ ap (standings_at mark ranks) (filter-append (has_row hits) done (row ∷ rest)) ∙ standings_at-append mark ranks (filter (has_row hits) done) tail in
          subst (IsBestAt kept) (append_assoc ss (taken done) (standings_at mark ranks tail) ∙ ap (λ l. ss ++ l) (sym all)) more

    module _ (rows left : List ℕ) (is : IsRestOfWalk mark ranks rows left) where
      -- what the mark doesn't come before is nothing to a page
      pub taken_rest : taken left ≡ taken rows
      taken_rest =
          let met = filter (has_row hits) is.passed in
          let out = All-kept (Passed mark ranks) (has_row hits) is.passed (recursion_from_All (Passed mark ranks) is.passed is.out) in
          sym (
          ap taken is.cut ∙ ap (standings_at mark ranks) (filter-append (has_row hits) is.passed left)
          ∙ standings_at-append mark ranks met (filter (has_row hits) left) ∙ ap (λ l. l ++ taken left) (none_offered mark ranks met out)
          )

      -- where all are taken that are left of a walk
      pub taken_all : IsWalk ranks rows → length hits ≡ length ranks → (kept : BestItems Candidate) (ss : List HitStanding)
          → IsBestAt kept (ss ++ taken left) → IsBestAt kept (ss ++ behind mark (selected hits ranks))
      taken_all walk long kept ss best =
          walked_all ranks rows hits long walk mark kept ss (subst (λ l. IsBestAt kept (ss ++ l)) taken_rest best)
