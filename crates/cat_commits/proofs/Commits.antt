-- What is read of a commit's file is what is spelled there.
use Rattle.std.proofs.Common.{◌≡◌, ◌≢◌, ℕ, ◌+◌, ◌-◌, ◌*◌, ◌^◌, ◌<◌, ◌≤◌, cond, eqb, List, [], ◌++◌, length, drop, Option, Some, None, refl, sym, ap, subst, ◌∙◌, arith, length-append, append_assoc}
use Rattle.std.specs.Prelude.{AllPairs, All}
use Rattle.std.specs.List.{flat_map, AllByRecursion}
use Rattle.std.proofs.lemmas.Bool.{eqb-true}
use Rattle.std.proofs.lemmas.List.{append-nil, nil_from_length}
use Rattle.std.proofs.lemmas.List.Elements.{recursion_from_All}
use Rattle.cat_base.specs.Bytes.{spelled_u32}
use Rattle.cat_model.specs.Item.{Schema, IsSchema}
use Rattle.cat_model.specs.Files.{IsFileNumber}
use Rattle.cat_model.specs.Layout.{spelled_fields}
use Rattle.cat_model.specs.Limits.{last_number, segment_limit}
use Rattle.cat_model.specs.CommitFile.{ListedSegment, CommitFile, HasText, IsListed, IsCommitFile, SpellsCommit, spelled_listed, spelled_commit}
use Rattle.cat_model.proofs.Lists.{All-weaken}
use Rattle.cat_items.specs.file_parts.Reading.{◌>>=◌, u32_at, where_at, many_at, rest_of}
use Rattle.cat_items.specs.file_parts.Layouts.{fields_at}
use Rattle.cat_items.proofs.file_parts.Numbers.{bind_some, kept, not_kept, some_is}
use Rattle.cat_items.proofs.file_parts.Readers.{reads_many}
use Rattle.cat_items.proofs.file_parts.Layouts.{reads_fields}
use Rattle.cat_items.proofs.file_parts.Rests.{rest_is, rest_is_none}
use Rattle.cat_commits.specs.Layouts.{CommitStart, is_count, start_at, listed_at, commit_at}
use Rattle.cat_commits.specs.Judged.{commit_start_of}
use Rattle.cat_commits.proofs.Lists.{drop_behind}
use Rattle.cat_commits.proofs.Listings.{Fits, length-spelled, differ_told}
use Rattle.cat_commits.specs.Listings.{NumbersDiffer}
use Rattle.cat_commits.proofs.Starts.{spelled_start, reads_start, reads_count, reads_listed}

abbrev pub made : CommitStart → Schema → List ListedSegment → CommitFile
made s f segs = record { version = s.version; generation = s.generation; token = s.token; next = s.next; text = s.text; schema = f; segments = segs }

-- the parts of a file, each with the bytes behind it
pub record Pieces (bytes m1 m2 m3 m4 : List ℕ) (s : CommitStart) (f : Schema) (n : ℕ) (segs : List ListedSegment) : Type 0 where
  pub start : start_at bytes ≡ Some (s, m1)
  pub fields : fields_at m1 ≡ Some (f, m2)
  pub count : where_at is_count u32_at m2 ≡ Some (n, m3)
  pub segments : many_at (listed_at s.generation s.next) n m3 ≡ Some (segs, m4)

pub commit_is : (bytes m1 m2 m3 m4 : List ℕ) (s : CommitStart) (f : Schema) (n : ℕ) (segs : List ListedSegment) → Pieces bytes m1 m2 m3 m4 s f n segs
    → commit_at bytes ≡ cond (eqb (length m4) 0) (Some (made s f segs)) None
unfolding commit_at
commit_is bytes m1 m2 m3 m4 s f n segs p = rw (p.start, p.fields, p.count, p.segments) refl

-- ---- nothing is read

pub none_start : (bytes : List ℕ) → None ≡ start_at bytes → commit_at bytes ≡ None
unfolding commit_at
none_start bytes e = rw (← e) refl

none_fields_at : (bytes m1 : List ℕ) (s : CommitStart) → start_at bytes ≡ Some (s, m1) → fields_at m1 ≡ None → commit_at bytes ≡ None
unfolding commit_at
none_fields_at bytes m1 s e1 e2 = rw (e1, e2) refl

pub none_fields : (bytes m1 : List ℕ) (s : CommitStart) → Some (s, m1) ≡ start_at bytes → None ≡ rest_of (fields_at m1) → commit_at bytes ≡ None
none_fields bytes m1 s e1 e2 = none_fields_at bytes m1 s (sym e1) (rest_is_none (fields_at m1) (sym e2))

none_count_at : (bytes m1 m2 : List ℕ) (s : CommitStart) (f : Schema) → start_at bytes ≡ Some (s, m1) → fields_at m1 ≡ Some (f, m2) → where_at is_count u32_at m2 ≡ None → commit_at bytes ≡ None
unfolding commit_at
none_count_at bytes m1 m2 s f e1 e2 e3 = rw (e1, e2, e3) refl

pub none_count : (bytes m1 m2 : List ℕ) (s : CommitStart) → Some (s, m1) ≡ start_at bytes → Some m2 ≡ rest_of (fields_at m1) → None ≡ where_at is_count u32_at m2 → commit_at bytes ≡ None
none_count bytes m1 m2 s e1 e2 e3 = let f = rest_is (fields_at m1) m2 (sym e2) in none_count_at bytes m1 m2 s f.0 (sym e1) f.1 (sym e3)

none_segments_at : (bytes m1 m2 m3 : List ℕ) (s : CommitStart) (f : Schema) (n : ℕ) → start_at bytes ≡ Some (s, m1) → fields_at m1 ≡ Some (f, m2) → where_at is_count u32_at m2 ≡ Some (n, m3)
    → many_at (listed_at s.generation s.next) n m3 ≡ None → commit_at bytes ≡ None
unfolding commit_at
none_segments_at bytes m1 m2 m3 s f n e1 e2 e3 e4 = rw (e1, e2, e3, e4) refl

pub none_segments : (bytes m1 m2 m3 : List ℕ) (s : CommitStart) (n : ℕ) → Some (s, m1) ≡ start_at bytes → Some m2 ≡ rest_of (fields_at m1) → Some (n, m3) ≡ where_at is_count u32_at m2
    → None ≡ rest_of (many_at (listed_at s.generation s.next) n m3) → commit_at bytes ≡ None
none_segments bytes m1 m2 m3 s n e1 e2 e3 e4 =
    let f = rest_is (fields_at m1) m2 (sym e2) in none_segments_at bytes m1 m2 m3 s f.0 n (sym e1) f.1 (sym e3) (rest_is_none (many_at (listed_at s.generation s.next) n m3) (sym e4))

-- what the calls of the cursor told of a file
pub record Taken (bytes m1 m2 m3 m4 : List ℕ) (s : CommitStart) (n : ℕ) : Type 0 where
  pub start : Some (s, m1) ≡ start_at bytes
  pub fields : Some m2 ≡ rest_of (fields_at m1)
  pub count : Some (n, m3) ≡ where_at is_count u32_at m2
  pub segments : Some m4 ≡ rest_of (many_at (listed_at s.generation s.next) n m3)

pub record Piecewise (bytes m1 m2 m3 m4 : List ℕ) (s : CommitStart) (n : ℕ) : Type 0 where
  pub schema : Schema
  pub listed : List ListedSegment
  pub pieces : Pieces bytes m1 m2 m3 m4 s schema n listed

pub taken_pieces : (bytes m1 m2 m3 m4 : List ℕ) (s : CommitStart) (n : ℕ) → Taken bytes m1 m2 m3 m4 s n → Piecewise bytes m1 m2 m3 m4 s n
taken_pieces bytes m1 m2 m3 m4 s n t =
    let f = rest_is (fields_at m1) m2 (sym t.fields) in
    let l = rest_is (many_at (listed_at s.generation s.next) n m3) m4 (sym t.segments) in
    record { schema = f.0; listed = l.0; pieces = record { start = sym t.start; fields = f.1; count = sym t.count; segments = l.1 } }

pub none_ended : (bytes m1 m2 m3 m4 : List ℕ) (s : CommitStart) (n : ℕ) → Taken bytes m1 m2 m3 m4 s n → m4 ≢ [] → commit_at bytes ≡ None
none_ended bytes m1 m2 m3 m4 s n t more =
    let p = taken_pieces bytes m1 m2 m3 m4 s n t in
    commit_is bytes m1 m2 m3 m4 s p.schema n p.listed p.pieces ∙ not_kept (eqb (length m4) 0) (Some (made s p.schema p.listed)) (λ e. more (nil_from_length m4 (eqb-true _ _ e)))

pub some_ended : (bytes m1 m2 m3 m4 : List ℕ) (s : CommitStart) (f : Schema) (n : ℕ) (segs : List ListedSegment) → Pieces bytes m1 m2 m3 m4 s f n segs → m4 ≡ [] → commit_at bytes ≡ Some (made s f segs)
some_ended bytes m1 m2 m3 m4 s f n segs p nothing =
    commit_is bytes m1 m2 m3 m4 s f n segs p ∙ ap (λ (l : List ℕ). cond (eqb (length l) 0) (Some (made s f segs)) None) nothing

-- ---- what is read

-- all that a commit's file asks for but that the numbers of its segments differ
pub record IsShaped (c : CommitFile) : Type 0 where
  pub generation : IsFileNumber c.generation
  pub token : c.token ≤ last_number
  pub next_low : 1 ≤ c.next
  pub next_high : c.next ≤ last_number + 1
  pub text : HasText c.version c.text
  pub schema : IsSchema c.schema
  pub few : length c.segments ≤ segment_limit
  pub listed : All (IsListed c.generation c.next) c.segments

pub whole_form : (c : CommitFile) → IsShaped c → AllPairs (λ a b. a.number ≢ b.number) c.segments → IsCommitFile c
whole_form c is distinct = record {
  generation = is.generation;
  token = is.token;
  next_low = is.next_low;
  next_high = is.next_high;
  text = is.text;
  schema = is.schema;
  few = is.few;
  listed = is.listed;
  distinct = distinct;
}

pub listed_fit : (c : CommitFile) → IsFileNumber c.generation → c.next ≤ last_number + 1 → All (IsListed c.generation c.next) c.segments → AllByRecursion Fits c.segments
listed_fit c generation high listed =
    All-weaken (IsListed c.generation c.next) Fits (λ s h. record { number = omega (arith, h.past, high); file = omega (arith, h.file, generation.1) }) c.segments (recursion_from_All _ c.segments listed)

-- what the pieces are
pub record AreSpelled (bytes m3 : List ℕ) (n : ℕ) (c : CommitFile) : Type 0 where
  pub spelled : bytes ≡ spelled_commit c
  pub shaped : IsShaped c
  pub listing : m3 ≡ flat_map spelled_listed c.segments
  pub count : length c.segments ≡ n
  pub front : List ℕ
  pub behind : bytes ≡ front ++ m3

pub pieces_spelled : (bytes m1 m2 m3 m4 : List ℕ) (s : CommitStart) (f : Schema) (n : ℕ) (segs : List ListedSegment) → Pieces bytes m1 m2 m3 m4 s f n segs → m4 ≡ [] → AreSpelled bytes m3 n (made s f segs)
pieces_spelled bytes m1 m2 m3 m4 s f n segs p nothing =
    let t1 = reads_start.sound bytes (s, m1) p.start in
    let t2 = reads_fields.sound m1 (f, m2) p.fields in
    let t3 = reads_count.sound m2 (n, m3) p.count in
    let low : s.generation < 2 ^ 64 = let small = t1.1.generation.1 in omega arith in
    let high : s.next ≤ 2 ^ 64 = let small = t1.1.next.1 in omega arith in
    let t4 = (reads_many (listed_at s.generation s.next) spelled_listed (IsListed s.generation s.next) (reads_listed s.generation s.next low high) n).sound m3 (segs, m4) p.segments in
    let listing : m3 ≡ flat_map spelled_listed segs = t4.0 ∙ ap (λ (l : List ℕ). flat_map spelled_listed segs ++ l) nothing ∙ append-nil (flat_map spelled_listed segs) in
    let counted : m2 ≡ spelled_u32 (length segs) ++ flat_map spelled_listed segs = t3.0 ∙ ap (λ (k : ℕ). spelled_u32 k ++ m3) (sym t4.1.0) ∙ ap (λ (l : List ℕ). spelled_u32 (length segs) ++ l) listing in
    record {
      spelled = t1.0 ∙ ap (λ (l : List ℕ). spelled_start s ++ l) (t2.0 ∙ ap (λ (l : List ℕ). spelled_fields f ++ l) counted);
      shaped = record {
        generation = t1.1.generation;
        token = t1.1.token;
        next_low = t1.1.next.0;
        next_high = t1.1.next.1;
        text = t1.1.text;
        schema = t2.1;
        few = subst (λ (k : ℕ). k ≤ segment_limit) (sym t4.1.0) t3.1;
        listed = t4.1.1;
      };
      listing = listing;
      count = t4.1.0;
      front = spelled_start s ++ (spelled_fields f ++ spelled_u32 n);
      behind = t1.0 ∙ ap (λ (l : List ℕ). spelled_start s ++ l) (t2.0 ∙ ap (λ (l : List ℕ). spelled_fields f ++ l) t3.0)
          ∙ sym (append_assoc (spelled_start s) (spelled_fields f ++ spelled_u32 n) m3 ∙ ap (λ (l : List ℕ). spelled_start s ++ l) (append_assoc (spelled_fields f) (spelled_u32 n) m3));
    }

-- the last 16 bytes for each segment are those of the segments
pub long_enough : (bytes m3 : List ℕ) (n : ℕ) (c : CommitFile) → AreSpelled bytes m3 n c → 16 * n ≤ length bytes
long_enough bytes m3 n c a =
    omega (arith, ap length a.behind, length-append a.front m3, ap length a.listing, length-spelled c.segments, a.count)

pub tail_is : (bytes m3 : List ℕ) (n : ℕ) (c : CommitFile) → AreSpelled bytes m3 n c → drop (length bytes - 16 * n) bytes ≡ flat_map spelled_listed c.segments
tail_is bytes m3 n c a =
    let long : length bytes ≡ length a.front + length m3 = ap length a.behind ∙ length-append a.front m3 in
    let last : length m3 ≡ 16 * n = ap length a.listing ∙ length-spelled c.segments ∙ ap (λ (k : ℕ). 16 * k) a.count in
    let at : length bytes - 16 * n ≡ length a.front + 0 = omega arith in
    ap (λ (k : ℕ). drop k bytes) at ∙ ap (drop (length a.front + 0)) a.behind ∙ drop_behind a.front m3 (length a.front) 0 refl ∙ a.listing

-- what is read of a file is spelled there
pub told_spelled : (bytes : List ℕ) (c : CommitFile) → commit_at bytes ≡ Some c → (m3 : List ℕ) × (n : ℕ) × AreSpelled bytes m3 n c
unfolding commit_at
told_spelled bytes c e =
    let a = bind_some (start_at bytes) (λ start. fields_at start.1 >>= λ fields. where_at is_count u32_at fields.1 >>= λ count. many_at (listed_at start.0.generation start.0.next) count.0 count.1 >>= λ segments. ended start.0 fields.0 segments) c e in
    let b = bind_some (fields_at a.0.1) (λ fields. where_at is_count u32_at fields.1 >>= λ count. many_at (listed_at a.0.0.generation a.0.0.next) count.0 count.1 >>= λ segments. ended a.0.0 fields.0 segments) c a.2 in
    let d = bind_some (where_at is_count u32_at b.0.1) (λ count. many_at (listed_at a.0.0.generation a.0.0.next) count.0 count.1 >>= λ segments. ended a.0.0 b.0.0 segments) c b.2 in
    let f = bind_some (many_at (listed_at a.0.0.generation a.0.0.next) d.0.0 d.0.1) (λ segments. ended a.0.0 b.0.0 segments) c d.2 in
    let g = kept (eqb (length f.0.1) 0) (Some (made a.0.0 b.0.0 f.0.0)) c f.2 in
    let nothing : f.0.1 ≡ [] = nil_from_length f.0.1 (eqb-true _ _ g.0) in
    let is : made a.0.0 b.0.0 f.0.0 ≡ c = some_is (made a.0.0 b.0.0 f.0.0) c g.1 in
    let p : Pieces bytes a.0.1 b.0.1 d.0.1 f.0.1 a.0.0 b.0.0 d.0.0 f.0.0 = record { start = a.1; fields = b.1; count = d.1; segments = f.1 } in
    (d.0.1, d.0.0, subst (AreSpelled bytes d.0.1 d.0.0) is (pieces_spelled bytes a.0.1 b.0.1 d.0.1 f.0.1 a.0.0 b.0.0 d.0.0 f.0.0 p nothing))
  where
    ended : CommitStart → Schema → List ListedSegment × List ℕ → Option CommitFile
    ended s f segments = cond (eqb (length segments.1) 0) (Some (made s f segments.0)) None

-- and what is spelled is read
pub spelled_told : (bytes : List ℕ) (c : CommitFile) → SpellsCommit bytes c → commit_at bytes ≡ Some c
spelled_told bytes c spells =
    let ok : IsCommitFile c = spells.form in
    let low : c.generation < 2 ^ 64 = let small = ok.generation.1 in omega arith in
    let high : c.next ≤ 2 ^ 64 = let small = ok.next_high in omega arith in
    let third : List ℕ = flat_map spelled_listed c.segments in
    let second : List ℕ = spelled_u32 (length c.segments) ++ third in
    let first : List ℕ = spelled_fields c.schema ++ second in
    let p : Pieces bytes first second third [] (commit_start_of c) c.schema (length c.segments) c.segments = record {
      start = ap start_at spells.spelled ∙ reads_start.complete (commit_start_of c) first (record { generation = ok.generation; token = ok.token; next = (ok.next_low, ok.next_high); text = ok.text });
      fields = reads_fields.complete c.schema second ok.schema;
      count = reads_count.complete (length c.segments) third ok.few;
      segments = ap (many_at (listed_at c.generation c.next) (length c.segments)) (sym (append-nil third))
          ∙ (reads_many (listed_at c.generation c.next) spelled_listed (IsListed c.generation c.next) (reads_listed c.generation c.next low high) (length c.segments)).complete c.segments [] (refl, ok.listed);
    } in
    some_ended bytes first second third [] (commit_start_of c) c.schema (length c.segments) c.segments p refl

-- what was judged, and its numbers found to differ, is spelled
pub judged_spelled : (bytes : List ℕ) (c : CommitFile) (listing : List ℕ) → commit_at bytes ≡ Some c → listing ≡ flat_map spelled_listed c.segments → NumbersDiffer listing → SpellsCommit bytes c
judged_spelled bytes c listing e is differ =
    let t = told_spelled bytes c e in
    let shaped : IsShaped c = t.2.shaped in
    let fits : AllByRecursion Fits c.segments = listed_fit c shaped.generation shaped.next_high shaped.listed in
    record { form = whole_form c shaped (differ_told listing c.segments is fits differ); spelled = t.2.spelled }
