-- What is found of the sources of rows, with one row more; and what a step may copy.
use Rattle.std.proofs.Common.{◌≡◌, ◌≢◌, ℕ, ◌+◌, ◌-◌, ◌<◌, List, [], ◌∷◌, ◌++◌, length, take, get_or, Bool, true, false, Result, Ok, Err, refl, sym, ◌∙◌, ap, subst, inl, inr}
use Rattle.std.specs.Prelude.{◌⊎◌, All, Any, HoldsAt, IfOk, min, if◌then◌else◌}
use Rattle.std.specs.List.{flat_map}
use Rattle.std.proofs.lemmas.Bool.{false≢true}
use Rattle.std.proofs.lemmas.List.{append-nil, get_or_default}
use Rattle.std.proofs.lemmas.List.Concat.{flat_map-append}
use Rattle.std.proofs.lemmas.List.Elements.{All-nil, All-push, All-append, All-more, Contains-append_left, Contains-append_right, at_read}
use Rattle.std.proofs.lemmas.List.Quantifiers.{Any-push}
use Rattle.cat_directory.specs.NameOrder.{same_name_is, same_name_equivalence}
use Rattle.cat_directory.specs.Names.{same_name}
use Rattle.cat_directory.specs.declared.name.FileName.{FileName}
use Rattle.cat_ledger_laws.specs.model.Stored.{joined_sources}
use Rattle.cat_ledger_laws.specs.shape.Shapes.{MergingShape}
use Rattle.cat_ledger_laws.specs.shape.Steps.{passed_on}
use Rattle.cat_ledger_laws.specs.shape.Ties.{ToldFiles}
use Rattle.cat_model.specs.Limits.{step_limit}
use Rattle.cat_model.specs.Merged.{rows_of_all, records_kept}
use Rattle.cat_model.specs.RowSets.{has_row}
use Rattle.cat_model.specs.Text.{Text}
use Rattle.cat_model.specs.View.{Row, Leaf, Segment}
use Rattle.cat_views.specs.cat_segment.Sources.{source_offset}
use Rattle.cat_merge.specs.Copied.{bytes_in, no_row, segment_row_at}
use Rattle.cat_merge.specs.Places.{no_leaf, input_at, passed_at, IsRowPlace}
use Rattle.cat_merge.specs.Ranges.{AreWithin, IsWithin}
use Rattle.cat_merge.specs.Walk.{AreInputs}
use Rattle.cat_merge.specs.declared.place.Place.{Place}
use Rattle.cat_merge.specs.declared.sources.SourceRange.{SourceRange}
use Rattle.cat_merge.specs.files.Sources.{AreJudged, IsCutOff, LacksBytes, LacksSources, MayReachRange, MayReachSources, ranges_at}
use Rattle.cat_merge.proofs.Passed.{sources_more}
use Rattle.cat_merge.proofs.Ranges.{source_within}
use Rattle.cat_merge.proofs.files.Ranges.{as_one, no_range, some_short}

-- ---- each file

-- a fact of one file and of each other one
pub each_file : (P : FileName → Type 0) (k : FileName) → P k → ((q : FileName) → q ≢ k → P q) → (q : FileName) → P q
each_file P k here other q = by (same_name q k) refl
  where
    by : (b : Bool) → same_name q k ≡ b → P q
    by true e = subst P (sym (same_name_is q k e)) here
    by false e = other q (λ same. let self : same_name q q ≡ false = subst (λ n. same_name q n ≡ false) (sym same) e in let no : true ≡ false = sym (same_name_equivalence.refl q) ∙ self in cc)

-- what holds of what is answered
pub if_ok : {X E : Type 0} (P Q : X → Type 0) (r : Result X E) → ((x : X) → P x → Q x) → IfOk r P → IfOk r Q
if_ok P Q (Ok x) f p = f x p
if_ok P Q (Err e) f p = tt

-- ---- one of two lists

any_left : {X : Type 0} (P : X → Type 0) (xs ys : List X) → Any P xs → Any P (xs ++ ys)
any_left P xs ys a = let c = Contains-append_left xs ys a.1 (a.0, a.2, a.3) in (c.0, a.1, c.1, c.2, a.4)

any_right : {X : Type 0} (P : X → Type 0) (xs ys : List X) → Any P ys → Any P (xs ++ ys)
any_right P xs ys a = let c = Contains-append_right xs ys a.1 (a.0, a.2, a.3) in (c.0, a.1, c.1, c.2, a.4)

-- ---- at a row

-- where the source of the row stands
abbrev pub range_at : List Leaf → Place → SourceRange
range_at inputs place = record {
  segment = (input_at inputs place.input).segment.number;
  offset = source_offset (input_at inputs place.input).segment.rows place.row;
  len = (segment_row_at (input_at inputs place.input).segment place.row).length;
}

named_if : (files : ℕ → Text) (b : Bool) (r : SourceRange) → flat_map (bytes_in files) (if b then r ∷ [] else []) ≡ (if b then bytes_in files r else [])
named_if files true r = append-nil (bytes_in files r)
named_if files false r = refl

within_if : (inputs : List Leaf) (b : Bool) (r : SourceRange) → Any (IsWithin r) inputs → AreWithin inputs (if b then r ∷ [] else [])
within_if inputs true r is = All-push (λ (x : SourceRange). Any (IsWithin x) inputs) [] r (All-nil (λ (x : SourceRange). Any (IsWithin x) inputs)) is
within_if inputs false r is = All-nil (λ (x : SourceRange). Any (IsWithin x) inputs)

within_at : (inputs : List Leaf) (place : Place) → IsRowPlace inputs place → AreWithin inputs (ranges_at inputs place)
within_at inputs place is =
    let here : Leaf = input_at inputs place.input in
    let row : place.row < length here.segment.rows = is.row in
    let long : HoldsAt (λ (r : Row). r.length ≡ (range_at inputs place).len) here.segment.rows place.row =
    at_read here.segment.rows (λ (r : Row). r.length ≡ (range_at inputs place).len) place.row (segment_row_at here.segment place.row) row (get_or_default here.segment.rows place.row no_row (segment_row_at here.segment place.row) row) refl in
    within_if inputs (has_row here.live place.row) (range_at inputs place)
    (source_within inputs here.segment place.row (range_at inputs place) row refl refl long
    (place.input, here, is.input, get_or_default inputs place.input here no_leaf is.input, refl))

abbrev range_of : Segment → ℕ → SourceRange
range_of s row = record { segment = s.number; offset = source_offset s.rows row; len = (segment_row_at s row).length }

range_same : (n m offset before len long : ℕ) → n ≡ m → offset ≡ before → len ≡ long
    → ◌≡◌ {A = SourceRange} (record { segment = n; offset = offset; len = len }) (record { segment = m; offset = before; len = long })
range_same n m offset before len long a b c =
    ap (λ (x : ℕ). record { segment = x; offset = offset; len = len }) a
    ∙ ap (λ (x : ℕ). record { segment = m; offset = x; len = len }) b
    ∙ ap (λ (x : ℕ). record { segment = m; offset = before; len = x }) c

pub range_is : (inputs : List Leaf) (place : Place) (x : Leaf) (s : Segment) (n offset len : ℕ) → place.input < length inputs → x ≡ get_or inputs place.input x → s ≡ x.segment
    → n ≡ s.number → offset ≡ source_offset s.rows place.row → HoldsAt (λ (r : Row). r.length ≡ len) s.rows place.row
    → ◌≡◌ {A = SourceRange} (record { segment = n; offset = offset; len = len }) (range_at inputs place)
range_is inputs place x s n offset len input at is number before long =
    range_same n s.number offset (source_offset s.rows place.row) len (segment_row_at s place.row).length number before (sym (long no_row))
    ∙ ap (λ (t : Segment). range_of t place.row) (is ∙ ap (λ (l : Leaf). l.segment) (at ∙ get_or_default inputs place.input x no_leaf input))

pub kept_is : (inputs : List Leaf) (place : Place) (x : Leaf) (live : List Bool) (b : Bool) → place.input < length inputs → x ≡ get_or inputs place.input x → live ≡ x.live → b ≡ has_row live place.row → b ≡ true
    → has_row (input_at inputs place.input).live place.row ≡ true
kept_is inputs place x live b input at e is live_now =
    sym (ap (λ (l : Leaf). has_row l.live place.row) (at ∙ get_or_default inputs place.input x no_leaf input))
    ∙ sym (ap (λ (l : List Bool). has_row l place.row) e) ∙ sym is ∙ live_now

-- what is found of it holds of the ranges at the place
pub unkept_reached : (told : ToldFiles) (inputs : List Leaf) (place : Place) → has_row (input_at inputs place.input).live place.row ≡ false → All (MayReachRange told) (ranges_at inputs place)
unkept_reached told inputs place dead = subst (λ (b : Bool). All (MayReachRange told) (if b then range_at inputs place ∷ [] else [])) (sym dead) (All-nil (MayReachRange told))

pub kept_reached : (told : ToldFiles) (inputs : List Leaf) (place : Place) (r : SourceRange) → has_row (input_at inputs place.input).live place.row ≡ true → r ≡ range_at inputs place → MayReachRange told r
    → All (MayReachRange told) (ranges_at inputs place)
kept_reached told inputs place r live is reach =
    subst (λ (b : Bool). All (MayReachRange told) (if b then range_at inputs place ∷ [] else [])) (sym live)
    (All-push (MayReachRange told) [] (range_at inputs place) (All-nil (MayReachRange told)) (subst (MayReachRange told) is reach))

pub kept_cut : (told : ToldFiles) (inputs : List Leaf) (place : Place) (r : SourceRange) → has_row (input_at inputs place.input).live place.row ≡ true → r ≡ range_at inputs place → IsCutOff told r
    → Any (IsCutOff told) (ranges_at inputs place)
kept_cut told inputs place r live is cut =
    subst (λ (b : Bool). Any (IsCutOff told) (if b then range_at inputs place ∷ [] else [])) (sym live)
    (Any-push (IsCutOff told) [] (range_at inputs place) (subst (IsCutOff told) is cut))

-- ---- one row more

-- nothing is found of no row
pub none_judged : (told : ToldFiles) (inputs : List Leaf) (from : ℕ) → AreJudged told inputs from from false
none_judged told inputs from = record {
  ranges = [];
  named = λ files. append-nil (joined_sources (records_kept files inputs from));
  within = All-nil (λ (x : SourceRange). Any (IsWithin x) inputs);
  cut = λ e. absurd (false≢true e);
  reached = λ e. All-nil (MayReachRange told);
}

pub judged_more : (told now : ToldFiles) (inputs : List Leaf) (from : ℕ) (place next : Place) (lacking new : Bool) → ((q : FileName) → now q ≡ told q) → AreInputs inputs → IsRowPlace inputs place
    → passed_at inputs next ≡ passed_at inputs place + 1 → AreJudged told inputs from (passed_at inputs place) lacking
    → (new ≡ true → (lacking ≡ true) ⊎ Any (IsCutOff now) (ranges_at inputs place))
    → (new ≡ false → (lacking ≡ false) × All (MayReachRange now) (ranges_at inputs place))
    → AreJudged told inputs from (passed_at inputs next) new
judged_more told now inputs from place next lacking new same are is e j cut reached =
    let here : List SourceRange = ranges_at inputs place in
    let start : (ℕ → Text) → Text = λ files. joined_sources (records_kept files inputs from) in
    let one : now ≡ told = as_one told now same in
    let more : AreJudged told inputs from (passed_at inputs place + 1) new = record {
      ranges = j.ranges ++ here;
      named = λ files. sources_more inputs are place is files (start files) (flat_map (bytes_in files) j.ranges) (flat_map (bytes_in files) (j.ranges ++ here)) (j.named files)
          (flat_map-append (bytes_in files) j.ranges here
          ∙ ap (λ l. flat_map (bytes_in files) j.ranges ++ l) (named_if files (has_row (input_at inputs place.input).live place.row) (range_at inputs place)));
      within = All-append (λ (x : SourceRange). Any (IsWithin x) inputs) j.ranges here j.within (within_at inputs place is);
      cut = λ found. elim (cut found) [
        | inl was ↦ any_left (IsCutOff told) j.ranges here (j.cut was)
        | inr lacks ↦ any_right (IsCutOff told) j.ranges here (subst (λ (t : ToldFiles). Any (IsCutOff t) here) one lacks)
      ];
      reached = λ none. All-append (MayReachRange told) j.ranges here (j.reached (reached none).0) (subst (λ (t : ToldFiles). All (MayReachRange t) here) one (reached none).1);
    } in
    subst (λ n. AreJudged told inputs from n new) (sym e) more

-- one range more
pub more_reached : (told now : ToldFiles) (rs : List SourceRange) (i : ℕ) → ((q : FileName) → now q ≡ told q) → i < length rs → All (MayReachRange told) (take i rs)
    → MayReachRange now (get_or rs i no_range) → All (MayReachRange told) (take (i + 1) rs)
more_reached told now rs i same within all one =
    All-more (MayReachRange told) rs i no_range within all (subst (λ (t : ToldFiles). MayReachRange t (get_or rs i no_range)) (as_one told now same) one)

-- ---- of a step

-- of so many rows from the place of the next one on
pub judged_step : (told : ToldFiles) (inputs lent : List Leaf) (place : Place) (passed count : ℕ) (found known : Bool) → lent ≡ inputs → passed_at inputs place ≡ passed
    → count ≡ min step_limit (length (rows_of_all inputs) - passed) → found ≡ known → AreJudged told lent (passed_at lent place) (passed_at lent place + count) found
    → AreJudged told inputs passed (passed + min step_limit (length (rows_of_all inputs) - passed)) known
judged_step told inputs lent place passed count found known same at many is j =
    subst (AreJudged told inputs passed (passed + min step_limit (length (rows_of_all inputs) - passed))) is
    (subst (λ n. AreJudged told inputs passed (passed + n) found) many
    (subst (λ n. AreJudged told inputs n (n + count) found) at
    (subst (λ (l : List Leaf). AreJudged told l (passed_at l place) (passed_at l place + count) found) same j)))

pub judged_lacks : (told : ToldFiles) (m : MergingShape) → AreJudged told m.inputs m.passed (passed_on m).passed true → LacksSources m told
judged_lacks told m j = record { ranges = j.ranges; named = j.named; cut = j.cut refl }

pub judged_short : (told : ToldFiles) (m : MergingShape) → AreJudged told m.inputs m.passed (passed_on m).passed true → Any (LacksBytes told) m.inputs
judged_short told m j = some_short told m.inputs j.ranges j.within (j.cut refl)

pub judged_reaches : (told : ToldFiles) (m : MergingShape) → AreJudged told m.inputs m.passed (passed_on m).passed false → MayReachSources m told
judged_reaches told m j = record { ranges = j.ranges; named = j.named; reached = j.reached refl }
