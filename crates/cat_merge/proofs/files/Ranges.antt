-- What was read of ranges, and what a merge has copied by them.
use Rattle.std.proofs.lemmas.Result.{IfErr-weaker}
use Rattle.cat_directory.specs.Frames.{FailsReading}
use Rattle.cat_base.specs.declared.refusal.Refusal.TheVariants.{Device, Memory}
use Rattle.std.proofs.Common.{◌≡◌, ◌≢◌, ℕ, zero, suc, ◌+◌, ◌-◌, ◌<◌, ◌≤◌, List, [], ◌∷◌, ◌++◌, length, get_or, take, drop, map, replicate, Some, None, Result, Ok, Err, IfErr, refl, sym, ◌∙◌, ap, ap₂, subst, arith, zero-add, inl, inr, true, false, Bool}
use Rattle.std.specs.Prelude.{IsErr, IsErrAnd, Any, min, sum, IfOk, OnOk}
use Rattle.std.specs.List.{flat_map}
use Rattle.std.proofs.lemmas.List.{take_more, length-append, length-replicate, map-append, length-take-le, length-drop}
use Rattle.std.proofs.lemmas.List.Sums.{sum_by-append, sum_by-cons}
use Rattle.std.proofs.Math.Seq.{take-nil}
use Rattle.cat_base.specs.declared.refusal.Refusal.{Refusal}
use Rattle.cat_directory.specs.declared.name.FileName.{FileName}
use Rattle.cat_directory.specs.declared.name.FileName.TheVariants as file
use Rattle.cat_directory.specs.Devices.{CountsReading, CountsWriting, ReadingCount, TellsAlike, Told, WritingCount, file_written, told_after}
use Rattle.cat_directory.specs.Names.{name_of}
use Rattle.cat_ledger_laws.specs.model.Users.{has_name}
use Rattle.cat_ledger_laws.specs.shape.MergeLaws.{TellsInputs, CopiesOn}
use Rattle.cat_ledger_laws.specs.shape.Shapes.{MergingShape}
use Rattle.cat_ledger_laws.specs.shape.Steps.{passed_on}
use Rattle.cat_ledger_laws.specs.shape.Ties.{IsTold, ToldFiles, TouchesOnly}
use Rattle.cat_ledger_laws.proofs.shape.MergeSteps.{alone}
use Rattle.cat_merge.specs.Copied.{bytes_in}
use Rattle.cat_ledger_laws.specs.model.Stored.{joined_sources}
use Rattle.cat_merge.specs.Merging.{MergeUnderWay}
use Rattle.cat_merge.specs.Ranges.{IsWithin, AreWithin}
use Rattle.cat_merge.specs.declared.sources.SourceRange.{SourceRange}
use Rattle.cat_merge.proofs.Passed.{flat_more}
use Rattle.cat_model.specs.Files.{Name}
use Rattle.cat_model.specs.Item.{Record}
use Rattle.cat_model.specs.Limits.{step_limit}
use Rattle.cat_model.specs.Merged.{rows_of_all, live_of_all, records_of_all, records_kept}
use Rattle.cat_model.specs.Text.{Text}
use Rattle.cat_model.specs.View.{Leaf, selected, sourced}
use Rattle.cat_merge.specs.files.Sources.{bytes_told, sources_told, TellsAll, IsCutOff, LacksBytes, AreAppended}

-- ---- refusals that are passed on

fault_is : {T E : Type 0} (r : Result T E) (e : E) → IsErr r × IsErrAnd r (λ x. x ≡ e) → r ≡ Err e
fault_is (Ok v) e so = absurd so.1
fault_is (Err x) e so = ap Err so.1

-- what holds of a refusal holds of it where a `?` passes it on
pub passed : {T : Type 0} (P : Refusal → Type 0) (r : Result T Refusal) (e : Refusal) → IsErr r × IsErrAnd r (λ x. x ≡ e) → P e → IfErr r P
passed P r e so p = subst (λ (r : Result _ Refusal). IfErr r P) (sym (fault_is r e so)) p

-- nothing is done, or answered
pub not_done : {T : Type 0} (P : Type 0) (r : Result T Refusal) (e : Refusal) → IsErr r × IsErrAnd r (λ x. x ≡ e) → OnOk r P
not_done P r e so = subst (λ (r : Result _ Refusal). OnOk r P) (sym (fault_is r e so)) tt

pub not_answered : {T : Type 0} (P : T → Type 0) (r : Result T Refusal) (e : Refusal) → IsErr r × IsErrAnd r (λ x. x ≡ e) → IfOk r P
not_answered P r e so = subst (λ (r : Result _ Refusal). IfOk r P) (sym (fault_is r e so)) tt

pub counts_passed : {T : Type 0} (old new : ℕ) (r : Result T Refusal) (e : Refusal) → IsErr r × IsErrAnd r (λ x. x ≡ e) → ReadingCount old new e → CountsReading old new r
counts_passed old new r e so counted = subst (λ (r : Result _ Refusal). CountsReading old new r) (sym (fault_is r e so)) counted

-- a call that reads, where a `?` passes its refusal on
pub fails_on : {S T X : Type 0} {can_fail : S → Type 0} {faults : S → ℕ} {a b : S} {r : Result X Refusal} {e : Refusal} → IsErr r × IsErrAnd r (λ x. x ≡ e) → FailsReading {X = T} can_fail faults a b (Err e)
    → FailsReading can_fail faults a b r
fails_on {S} {T} {X} {can_fail} {faults} {a} {b} {r} {e} so f = record {
  device = passed (λ (x : Refusal). x ≡ Device → can_fail a) r e so f.device;
  counted = counts_passed (faults a) (faults b) r e so f.counted;
}

-- behind calls that count nothing
pub fails_after : {S X : Type 0} {can_fail : S → Type 0} {faults : S → ℕ} {a b c : S} {r : Result X Refusal} → (can_fail b → can_fail a) → faults b ≡ faults a → FailsReading can_fail faults b c r
    → FailsReading can_fail faults a c r
fails_after {S} {X} {can_fail} {faults} {a} {b} {c} {r} can same f = record {
  device = IfErr-weaker r _ _ (λ e given is. can (given is)) f.device;
  counted = subst (λ (n : ℕ). CountsReading n (faults c) r) same f.counted;
}

pub writing_counted : {T : Type 0} (old new : ℕ) (r : Result T Refusal) (e : Refusal) → IsErr r × IsErrAnd r (λ x. x ≡ e) → WritingCount old new e → CountsWriting old new r
writing_counted old new r e so counted = subst (λ (r : Result _ Refusal). CountsWriting old new r) (sym (fault_is r e so)) counted

-- what a call that writes counts, one that reads may count too
pub reading_of : (old new : ℕ) (e : Refusal) → WritingCount old new e → ReadingCount old new e
reading_of old new Memory counted = counted
reading_of old new Device counted = counted
reading_of old new e counted = absurd counted

-- a file that was written is told with its bytes
pub written_told : (t t' : Told) (bytes : Text) → t' ≡ told_after (file_written bytes) t → IsTold t' (Some bytes)
written_told None t' bytes e = subst (λ (x : Told). IsTold x (Some bytes)) (sym e) tt
written_told (Some content) t' bytes e = subst (λ (x : Told). IsTold x (Some bytes)) (sym e) refl

-- ---- what was read

-- what was read of a file, where the file is told
pub read_told : (t : Told) (from len : ℕ) (v : Text) → t ≢ None → t ≢ Some None → ((bs : Text) → t ≡ Some (Some bs) → (from + len ≤ length bs) × (v ≡ take len (drop from bs)))
    → v ≡ take len (drop from (bytes_told t))
read_told None from len v all there read = absurd (all refl)
read_told (Some None) from len v all there read = absurd (there refl)
read_told (Some (Some bs)) from len v all there read = (read bs refl).1

-- a file that doesn't end before the bound reaches it
pub not_before : (ends : Bool) (size long bound : ℕ) → (size < bound → ends ≡ true) → ends ≡ false → size ≡ long → bound ≤ long
not_before ends size long bound h is e =
    let no : size < bound → ⊥ = λ lt. absurd (let never : true ≡ false = sym (h lt) ∙ is in cc) in
    omega (arith, e, no)

-- what is told of each file is what is told of all
pub as_one : (old new : ToldFiles) → ((q : FileName) → new q ≡ old q) → new ≡ old
as_one old new same = λ i q. same q i

-- those of one range more
pub ranges_more : (f : SourceRange → Text) (rs : List SourceRange) (i : ℕ) (r : SourceRange) (old more new : Text) → i < length rs → r ≡ get_or rs i r
    → old ≡ flat_map f (take i rs) → more ≡ f r → new ≡ old ++ more → new ≡ flat_map f (take (i + 1) rs)
ranges_more f rs i r old more new within at before here e = e ∙ ap₂ (λ (a b : Text). a ++ b) before (here ∙ ap f at) ∙ sym (flat_more f rs i r within)

-- read of files that are as they were
pub read_more : (told now : ToldFiles) (rs : List SourceRange) (i : ℕ) (r : SourceRange) (old more new : Text) → ((q : FileName) → now q ≡ told q) → i < length rs → r ≡ get_or rs i r
    → (TellsAll told → old ≡ flat_map (bytes_in (sources_told told)) (take i rs)) → (TellsAll now → more ≡ bytes_in (sources_told now) r) → new ≡ old ++ more
    → TellsAll told → new ≡ flat_map (bytes_in (sources_told told)) (take (i + 1) rs)
read_more told now rs i r old more new same within at before here e all =
    ranges_more (bytes_in (sources_told told)) rs i r old more new within at (before all)
    (here (λ q none. all q (sym (same q) ∙ none)) ∙ ap (λ (t : ToldFiles). bytes_in (sources_told t) r) (as_one told now same)) e

-- what stands for no range
abbrev pub no_range : SourceRange
no_range = record { segment = 0; offset = 0; len = 0 }

-- an element by its index, whatever stands for none
pub at_index : (rs : List SourceRange) (i : ℕ) (d : SourceRange) → i < length rs → get_or rs i d ≡ get_or rs i (get_or rs i d)
at_index [] i d within = absurd (omega (arith, within))
at_index (r ∷ rs) zero d within = refl
at_index (r ∷ rs) (suc i) d within = at_index rs i d (omega (arith, within))

-- a range that is cut off is one of them
pub some_cut_off : (told now : ToldFiles) (rs : List SourceRange) (i : ℕ) (r : SourceRange) → ((q : FileName) → now q ≡ told q) → i < length rs → r ≡ get_or rs i r → IsCutOff now r → Any (IsCutOff told) rs
some_cut_off told now rs i r same within at cut = (i, r, within, sym at, λ bytes there. cut bytes (same (file.Source r.segment) ∙ there))

-- so the file of a segment is too short within whose sources it lies
pub some_short : (told : ToldFiles) (inputs : List Leaf) (rs : List SourceRange) → AreWithin inputs rs → Any (IsCutOff told) rs → Any (LacksBytes told) inputs
some_short told inputs rs within cut =
    let r : SourceRange = cut.1 in
    let here : Any (IsWithin r) inputs = subst (λ (x : SourceRange). Any (IsWithin x) inputs) cut.3 (within cut.0 r cut.2) in (
      here.0,
      here.1,
      here.2,
      here.3,
      λ bytes there.
          let few : length bytes < r.offset + r.len = cut.4 bytes (ap (λ (n : ℕ). told (file.Source n)) here.4.segment ∙ there) in
          omega (arith, few, here.4.inside),
    )

-- as many as the ranges say
abbrev lens : List SourceRange → ℕ
lens rs = sum (map (λ (r : SourceRange). r.len) rs)

pub lens_more : (rs : List SourceRange) (i : ℕ) (r : SourceRange) (old more new : Text) → i < length rs → r ≡ get_or rs i r → length old ≡ lens (take i rs) → length more ≡ r.len → new ≡ old ++ more
    → length new ≡ lens (take (i + 1) rs)
lens_more rs i r old more new within at before here e =
    let grown : lens (take (i + 1) rs) ≡ lens (take i rs) + (get_or rs i r).len =
    ap lens (take_more rs i r within)
    ∙ ap sum (map-append (λ (x : SourceRange). x.len) (take i rs) (get_or rs i r ∷ []))
    ∙ sum_by-append (λ (k : ℕ). k) (map (λ (x : SourceRange). x.len) (take i rs)) ((get_or rs i r).len ∷ [])
    ∙ ap (λ (k : ℕ). lens (take i rs) + k) (zero-add (get_or rs i r).len) in
    let last : r.len ≡ (get_or rs i r).len = ap (λ (x : SourceRange). x.len) at in
    let long : length new ≡ length old + length more = ap length e ∙ length-append old more in
    omega (arith, grown, last, before, here, long)

-- ---- what is copied

-- ranges that have no byte of any file say none
no_lens : (rs : List SourceRange) → ((files : ℕ → Text) → flat_map (bytes_in files) rs ≡ []) → lens rs ≡ 0
no_lens [] none = refl
no_lens (r ∷ rs) none =
    let filled : ℕ → Text = λ n. replicate (r.offset + r.len) 0 in
    let all : length (bytes_in filled r) + length (flat_map (bytes_in filled) rs) ≡ 0 = sym (length-append (bytes_in filled r) (flat_map (bytes_in filled) rs)) ∙ ap length (none filled) in
    let rest : length (drop r.offset (filled r.segment)) ≡ length (filled r.segment) - r.offset = length-drop r.offset (filled r.segment) in
    let here : length (bytes_in filled r) ≡ r.len = length-take-le r.len (drop r.offset (filled r.segment)) (omega (arith, rest, length-replicate {A = ℕ} (r.offset + r.len) 0)) in
    let later : lens rs ≡ 0 = no_lens rs (λ files. no_later (bytes_in files r) (flat_map (bytes_in files) rs) (none files)) in
    sum_by-cons (λ (k : ℕ). k) r.len (map (λ (x : SourceRange). x.len) rs) ∙ omega (arith, all, here, later)
  where
    no_later : (a b : Text) → a ++ b ≡ [] → b ≡ []
    no_later [] b e = e
    no_later (x ∷ a) b e = absurd (omega (arith, ap length e))

no_bytes : (bytes : Text) → length bytes ≡ 0 → bytes ≡ []
no_bytes [] e = refl
no_bytes (x ∷ bytes) e = absurd (omega (arith, e))

-- records know only the sources of their own segments
records_told : (told : ToldFiles) (sources : ℕ → Text) (inputs : List Leaf) → TellsInputs told sources inputs → records_of_all (sources_told told) inputs ≡ records_of_all sources inputs
records_told told sources [] h = refl
records_told told sources (x ∷ inputs) h =
    ap₂ (λ (a b : List Record). a ++ b) (ap (λ t. sourced x.segment.rows (bytes_told t)) h.0) (records_told told sources inputs h.1)

kept_told : (told : ToldFiles) (sources : ℕ → Text) (inputs : List Leaf) (n : ℕ) → TellsInputs told sources inputs → records_kept (sources_told told) inputs n ≡ records_kept sources inputs n
kept_told told sources inputs n h = ap (λ (rs : List Record). selected (take n (live_of_all inputs)) (take n rs)) (records_told told sources inputs h)

-- what the ranges name are the sources of what is kept between two numbers of rows
abbrev pub Names : List Leaf → ℕ → ℕ → List SourceRange → Type 0
Names inputs from to rs = (files : ℕ → Text) → joined_sources (records_kept files inputs from) ++ flat_map (bytes_in files) rs ≡ joined_sources (records_kept files inputs to)

joined_told : (told : ToldFiles) (sources : ℕ → Text) (inputs : List Leaf) (from to : ℕ) (rs : List SourceRange) (bytes : Text) → Names inputs from to rs → TellsInputs told sources inputs
    → bytes ≡ flat_map (bytes_in (sources_told told)) rs → joined_sources (records_kept sources inputs from) ++ bytes ≡ joined_sources (records_kept sources inputs to)
joined_told told sources inputs from to rs bytes named h e =
    ap₂ (λ (a : List Record) (b : Text). joined_sources a ++ b) (sym (kept_told told sources inputs from h)) e
    ∙ named (sources_told told)
    ∙ ap joined_sources (kept_told told sources inputs to h)

-- so where nothing is told, since then there are no inputs
untold : (told : ToldFiles) (sources : ℕ → Text) (inputs : List Leaf) (from to : ℕ) (rs : List SourceRange) (bytes : Text) → ((q : FileName) → told q ≡ None) → Names inputs from to rs → TellsInputs told sources inputs
    → length bytes ≡ lens rs → joined_sources (records_kept sources inputs from) ++ bytes ≡ joined_sources (records_kept sources inputs to)
untold told sources [] from to rs bytes nothing named h long =
    let none : bytes ≡ [] = no_bytes bytes (long ∙ no_lens rs (λ files. ap (λ (b : Text). b ++ flat_map (bytes_in files) rs) (sym (no_source files from)) ∙ named files ∙ no_source files to)) in
    ap₂ (λ (a b : Text). a ++ b) (no_source sources from) none ∙ sym (no_source sources to)
  where
    no_source : (files : ℕ → Text) (n : ℕ) → joined_sources (records_kept files [] n) ≡ []
    no_source files n = ap (λ (bs : List Bool). joined_sources (selected bs (take n []))) (take-nil n)
untold told sources (x ∷ inputs) from to rs bytes nothing named h long = absurd (let never : Some (Some (sources x.segment.number)) ≡ None = sym h.0 ∙ nothing (file.Source x.segment.number) in cc)

-- no file but one has changed
pub touches_one : (told told' : ToldFiles) (own : FileName) → ((q : FileName) → q ≢ own → told' q ≡ told q) → TouchesOnly (name_of own ∷ []) told told'
touches_one told told' own same q other =
    same q (λ e. let never : true ≡ false = sym (alone (name_of own)) ∙ ap (λ (x : FileName). has_name (name_of x) (name_of own ∷ [])) (sym e) ∙ other in cc)

-- the ranges that a step names
pub names_on : (merge new : MergeUnderWay) (rs lent : List SourceRange) → lent ≡ rs
    → new ≡ record merge { passed = merge.passed + min step_limit (length (rows_of_all merge.inputs) - merge.passed) }
    → ((files : ℕ → Text) → joined_sources (records_kept files merge.inputs merge.passed) ++ flat_map (bytes_in files) rs ≡ joined_sources (records_kept files new.inputs new.passed))
    → Names merge.inputs merge.passed (merge.passed + min step_limit (length (rows_of_all merge.inputs) - merge.passed)) lent
names_on merge new rs lent value is named files =
    ap (λ (xs : List SourceRange). joined_sources (records_kept files merge.inputs merge.passed) ++ flat_map (bytes_in files) xs) value
    ∙ named files
    ∙ ap (λ (x : MergeUnderWay). joined_sources (records_kept files x.inputs x.passed)) is

-- what a step copies
pub copies_on : (m : MergingShape) (told told' : ToldFiles) (rs : List SourceRange) → TellsAlike told → TouchesOnly (Name.source m.number ∷ []) told told' → AreAppended rs (file.Source m.number) told told'
    → Names m.inputs m.passed (passed_on m).passed rs → CopiesOn m told told'
copies_on m told told' rs alike others appended named = record {
  bytes = appended.bytes;
  alike = alike;
  others = others;
  extends = appended.extends;
  copied = λ sources h. elim alike [
    | inl nothing ↦ untold told sources m.inputs m.passed (passed_on m).passed rs appended.bytes nothing named h appended.long
    | inr all ↦ joined_told told sources m.inputs m.passed (passed_on m).passed rs appended.bytes named h (appended.read all)
  ];
}
