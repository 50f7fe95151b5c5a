-- How the parts of a commit's file are read, and what is spelled there.
use Rattle.std.proofs.Common.{◌≡◌, ℕ, ◌+◌, ◌^◌, ◌<◌, ◌≤◌, Bool, true, false, ◌&&◌, cond, eqb, ltb, leb, List, [], ◌∷◌, ◌++◌, length, Option, Some, None, codes, refl, sym, ap, subst, ◌∙◌, arith}
use Rattle.std.specs.List.{list_all}
use Rattle.std.specs.Str.{is_utf8}
use Rattle.std.proofs.lemmas.Bool.{leb-true, le-leb, ltb-true, lt-ltb, eqb-true}
use Rattle.std.proofs.lemmas.Str.{IsUtf8-from_is_utf8, is_utf8-from_IsUtf8}
use Rattle.cat_base.specs.Bytes.{spelled_u32, spelled_u64, spelled_bytes}
use Rattle.cat_model.specs.Text.{Text}
use Rattle.cat_model.specs.Files.{IsFileNumber}
use Rattle.cat_model.specs.Forms.{is_plain_byte, IsCommitText}
use Rattle.cat_model.specs.Limits.{last_number, segment_limit}
use Rattle.cat_model.specs.CommitFile.{Version, ListedSegment, HasText, IsListed, version_byte, spelled_text, spelled_listed}
use Rattle.cat_items.specs.file_parts.Reading.{◌>>=◌, byte_at, u32_at, u64_at, where_at, tested_text_at}
use Rattle.cat_items.proofs.file_parts.Numbers.{Reads, bind_some, bind_at, both_true, at_some, reads_u32, reads_u64, reads_byte}
use Rattle.cat_items.proofs.file_parts.Readers.{reads_where, reads_as, reads_text, both_sound, both_complete}
use Rattle.cat_items.proofs.file_parts.Forms.{both_hold}
use Rattle.cat_commits.specs.Layouts.{CommitStart, commit_magic, is_number, is_token, is_next, is_note, is_count, is_below_next, version_at, text_for, start_at, listed_at}

-- ---- the version

abbrev pub spelled_version : Version → List ℕ
spelled_version v = codes "CSGM" ++ version_byte v ∷ []

-- CSGM
the_magic : spelled_u32 commit_magic ≡ codes "CSGM"
the_magic = refl

abbrev versions : ℕ → ℕ × List ℕ → Option (Version × List ℕ)
versions word version = cond (eqb version.0 1 && eqb word commit_magic) (Some (Version.first, version.1)) (cond (eqb version.0 2 && eqb word commit_magic) (Some (Version.second, version.1)) None)

version_sound : (bytes : List ℕ) (x : Version × List ℕ) → version_at bytes ≡ Some x → (bytes ≡ spelled_version x.0 ++ x.1) × Unit {0}
unfolding version_at
version_sound bytes x e =
    let a = bind_some (u32_at bytes) (λ word. byte_at word.1 >>= λ version. versions word.0 version) x e in
    let b = bind_some (byte_at a.0.1) (λ version. versions a.0.0 version) x a.2 in
    let t0 = reads_u32.sound bytes a.0 a.1 in
    let t1 = reads_byte.sound a.0.1 b.0 b.1 in
    first (eqb b.0.0 1 && eqb a.0.0 commit_magic) a.0.0 b.0.0 b.0.1 refl b.2 (t0.0 ∙ ap (λ (l : List ℕ). spelled_u32 a.0.0 ++ l) t1.0)
  where
    made : (v : Version) (n word version : ℕ) (rest : List ℕ) → version_byte v ≡ n → (eqb version n && eqb word commit_magic) ≡ true → Some (v, rest) ≡ Some x → bytes ≡ spelled_u32 word ++ (version ∷ rest)
        → (bytes ≡ spelled_version x.0 ++ x.1) × Unit {0}
    made v n word version rest is passes same whole =
        let h = both_true (eqb version n) (eqb word commit_magic) passes in
        at_some (λ (y : Version × List ℕ). (bytes ≡ spelled_version y.0 ++ y.1) × Unit {0}) (v, rest) x same
        (whole ∙ ap (λ (k : ℕ). spelled_u32 k ++ (version ∷ rest)) (eqb-true _ _ h.1) ∙ ap (λ (k : ℕ). codes "CSGM" ++ (k ∷ rest)) (eqb-true _ _ h.0 ∙ sym is), tt)

    second : (t : Bool) (word version : ℕ) (rest : List ℕ) → (eqb version 2 && eqb word commit_magic) ≡ t → cond t (Some (Version.second, rest)) None ≡ Some x → bytes ≡ spelled_u32 word ++ (version ∷ rest)
        → (bytes ≡ spelled_version x.0 ++ x.1) × Unit {0}
    second true word version rest is s whole = made Version.second 2 word version rest refl is s whole
    second false word version rest is s whole = absurd cc

    first : (t : Bool) (word version : ℕ) (rest : List ℕ) → (eqb version 1 && eqb word commit_magic) ≡ t → cond t (Some (Version.first, rest)) (cond (eqb version 2 && eqb word commit_magic) (Some (Version.second, rest)) None) ≡ Some x
        → bytes ≡ spelled_u32 word ++ (version ∷ rest) → (bytes ≡ spelled_version x.0 ++ x.1) × Unit {0}
    first true word version rest is s whole = made Version.first 1 word version rest refl is s whole
    first false word version rest is s whole = second (eqb version 2 && eqb word commit_magic) word version rest refl s whole

version_complete : (v : Version) (rest : List ℕ) → Unit {0} → version_at (spelled_version v ++ rest) ≡ Some (v, rest)
unfolding version_at byte_at
version_complete Version.first rest h = bind_at (u32_at (spelled_u32 commit_magic ++ (1 ∷ rest))) (λ word. byte_at word.1 >>= λ version. versions word.0 version) (commit_magic, 1 ∷ rest) (reads_u32.complete commit_magic (1 ∷ rest) (omega arith))
version_complete Version.second rest h = bind_at (u32_at (spelled_u32 commit_magic ++ (2 ∷ rest))) (λ word. byte_at word.1 >>= λ version. versions word.0 version) (commit_magic, 2 ∷ rest) (reads_u32.complete commit_magic (2 ∷ rest) (omega arith))

reads_version : Reads version_at spelled_version (λ v. Unit {0})
reads_version = record { sound = version_sound; complete = version_complete }

-- ---- numbers

reads_generation : Reads (where_at is_number u64_at) spelled_u64 IsFileNumber
reads_generation = reads_as (where_at is_number u64_at) spelled_u64 (λ n. (n < 2 ^ 64) × (is_number n ≡ true)) IsFileNumber
    (λ n h. let k = both_true (ltb 0 n) (ltb n (2 ^ 63)) h.1 in (ltb-true _ _ k.0, ltb-true _ _ k.1))
    (λ n h. (let low : n < 2 ^ 63 = h.1 in omega arith, both_hold (ltb 0 n) (ltb n (2 ^ 63)) (lt-ltb _ _ h.0) (lt-ltb _ _ h.1)))
    (reads_where is_number u64_at spelled_u64 (λ n. n < 2 ^ 64) reads_u64)

reads_token : Reads (where_at is_token u64_at) spelled_u64 (λ n. n ≤ last_number)
reads_token = reads_as (where_at is_token u64_at) spelled_u64 (λ n. (n < 2 ^ 64) × (is_token n ≡ true)) (λ n. n ≤ last_number)
    (λ n h. leb-true _ _ h.1)
    (λ n h. (omega arith, le-leb _ _ h))
    (reads_where is_token u64_at spelled_u64 (λ n. n < 2 ^ 64) reads_u64)

abbrev pub IsNext : ℕ → Type 0
IsNext n = (1 ≤ n) × (n ≤ last_number + 1)

reads_next : Reads (where_at is_next u64_at) spelled_u64 IsNext
reads_next = reads_as (where_at is_next u64_at) spelled_u64 (λ n. (n < 2 ^ 64) × (is_next n ≡ true)) IsNext
    (λ n h. let k = both_true (leb 1 n) (leb n (last_number + 1)) h.1 in (leb-true _ _ k.0, leb-true _ _ k.1))
    (λ n h. (let low : n ≤ last_number + 1 = h.1 in omega arith, both_hold (leb 1 n) (leb n (last_number + 1)) (le-leb _ _ h.0) (le-leb _ _ h.1)))
    (reads_where is_next u64_at spelled_u64 (λ n. n < 2 ^ 64) reads_u64)

pub reads_count : Reads (where_at is_count u32_at) spelled_u32 (λ n. n ≤ segment_limit)
reads_count = reads_as (where_at is_count u32_at) spelled_u32 (λ n. (n < 2 ^ 32) × (is_count n ≡ true)) (λ n. n ≤ segment_limit)
    (λ n h. leb-true _ _ h.1)
    (λ n h. (omega arith, le-leb _ _ h))
    (reads_where is_count u32_at spelled_u32 (λ n. n < 2 ^ 32) reads_u32)

-- ---- the text

note_from : (t : Text) → is_utf8 t ≡ true → is_note t ≡ true → IsCommitText t
note_from t utf8 e =
    let h = both_true (leb (length t) 256) (list_all is_plain_byte t) e in
    record { utf8 = IsUtf8-from_is_utf8 t utf8; short = leb-true _ _ h.0; plain = h.1 }

note_to : (t : Text) → IsCommitText t → is_note t ≡ true
note_to t k = both_hold (leb (length t) 256) _ (le-leb _ _ k.short) k.plain

reads_note : Reads (tested_text_at is_note) spelled_bytes IsCommitText
reads_note = reads_as (tested_text_at is_note) spelled_bytes (λ t. ((length t < 2 ^ 32) × (is_utf8 t ≡ true)) × (is_note t ≡ true)) IsCommitText
    (λ t h. note_from t h.0.1 h.1)
    (λ t h. ((let short : length t ≤ 256 = h.short in omega arith, is_utf8-from_IsUtf8 t h.utf8), note_to t h))
    (reads_text is_note)

no_text_sound : (bytes : List ℕ) (x : Text × List ℕ) → text_for Version.first bytes ≡ Some x → (bytes ≡ [] ++ x.1) × (x.0 ≡ [])
unfolding text_for
no_text_sound bytes x e = at_some (λ (y : Text × List ℕ). (bytes ≡ [] ++ y.1) × (y.0 ≡ [])) ([], bytes) x e (refl, refl)

no_text_complete : (t : Text) (rest : List ℕ) → t ≡ [] → text_for Version.first ([] ++ rest) ≡ Some (t, rest)
unfolding text_for
no_text_complete t rest h = ap (λ (l : Text). Some (l, rest)) (sym h)

reads_text_for : (v : Version) → Reads (text_for v) (spelled_text v) (HasText v)
unfolding text_for
reads_text_for Version.first = record { sound = no_text_sound; complete = no_text_complete }
reads_text_for Version.second = record { sound = reads_note.sound; complete = reads_note.complete }

-- ---- all that stands before the fields

abbrev pub spelled_start : CommitStart → List ℕ
spelled_start s = codes "CSGM" ++ (version_byte s.version ∷ (spelled_u64 s.generation ++ (spelled_u64 s.token ++ (spelled_u64 s.next ++ spelled_text s.version s.text))))

pub record IsStart (s : CommitStart) : Type 0 where
  pub generation : IsFileNumber s.generation
  pub token : s.token ≤ last_number
  pub next : IsNext s.next
  pub text : HasText s.version s.text

abbrev told : Version → ℕ → ℕ → ℕ → Text × List ℕ → Option (CommitStart × List ℕ)
told v g t n text = Some (record { version = v; generation = g; token = t; next = n; text = text.0 }, text.1)

start_sound : (bytes : List ℕ) (x : CommitStart × List ℕ) → start_at bytes ≡ Some x → (bytes ≡ spelled_start x.0 ++ x.1) × IsStart x.0
unfolding start_at
start_sound bytes x e =
    let a = bind_some (version_at bytes) (λ v. where_at is_number u64_at v.1 >>= λ g. where_at is_token u64_at g.1 >>= λ t. where_at is_next u64_at t.1 >>= λ n. text_for v.0 n.1 >>= λ text. told v.0 g.0 t.0 n.0 text) x e in
    let b = bind_some (where_at is_number u64_at a.0.1) (λ g. where_at is_token u64_at g.1 >>= λ t. where_at is_next u64_at t.1 >>= λ n. text_for a.0.0 n.1 >>= λ text. told a.0.0 g.0 t.0 n.0 text) x a.2 in
    let c = bind_some (where_at is_token u64_at b.0.1) (λ t. where_at is_next u64_at t.1 >>= λ n. text_for a.0.0 n.1 >>= λ text. told a.0.0 b.0.0 t.0 n.0 text) x b.2 in
    let d = bind_some (where_at is_next u64_at c.0.1) (λ n. text_for a.0.0 n.1 >>= λ text. told a.0.0 b.0.0 c.0.0 n.0 text) x c.2 in
    let f = bind_some (text_for a.0.0 d.0.1) (λ text. told a.0.0 b.0.0 c.0.0 d.0.0 text) x d.2 in
    let ta = reads_version.sound bytes a.0 a.1 in
    let tb = reads_generation.sound a.0.1 b.0 b.1 in
    let tc = reads_token.sound b.0.1 c.0 c.1 in
    let td = reads_next.sound c.0.1 d.0 d.1 in
    let tf = (reads_text_for a.0.0).sound d.0.1 f.0 f.1 in
    let made : CommitStart × List ℕ = (record { version = a.0.0; generation = b.0.0; token = c.0.0; next = d.0.0; text = f.0.0 }, f.0.1) in
    let last : d.0.1 ≡ spelled_text a.0.0 f.0.0 ++ f.0.1 = tf.0 in
    let whole : bytes ≡ spelled_start made.0 ++ made.1 =
    ta.0 ∙ ap (λ (l : List ℕ). spelled_version a.0.0 ++ l) (tb.0 ∙ ap (λ (l : List ℕ). spelled_u64 b.0.0 ++ l) (tc.0 ∙ ap (λ (l : List ℕ). spelled_u64 c.0.0 ++ l) (td.0 ∙ ap (λ (l : List ℕ). spelled_u64 d.0.0 ++ l) last))) in
    at_some (λ (y : CommitStart × List ℕ). (bytes ≡ spelled_start y.0 ++ y.1) × IsStart y.0) made x f.2 (whole, record { generation = tb.1; token = tc.1; next = td.1; text = tf.1 })

start_complete : (s : CommitStart) (rest : List ℕ) → IsStart s → start_at (spelled_start s ++ rest) ≡ Some (s, rest)
unfolding start_at
start_complete s rest is =
    let fourth : List ℕ = spelled_text s.version s.text ++ rest in
    let third : List ℕ = spelled_u64 s.next ++ fourth in
    let second : List ℕ = spelled_u64 s.token ++ third in
    let first : List ℕ = spelled_u64 s.generation ++ second in
    bind_at (version_at (spelled_version s.version ++ first)) (λ v. where_at is_number u64_at v.1 >>= λ g. where_at is_token u64_at g.1 >>= λ t. where_at is_next u64_at t.1 >>= λ n. text_for v.0 n.1 >>= λ text. told v.0 g.0 t.0 n.0 text)
    (s.version, first) (reads_version.complete s.version first tt)
    ∙ bind_at (where_at is_number u64_at first) (λ g. where_at is_token u64_at g.1 >>= λ t. where_at is_next u64_at t.1 >>= λ n. text_for s.version n.1 >>= λ text. told s.version g.0 t.0 n.0 text)
    (s.generation, second) (reads_generation.complete s.generation second is.generation)
    ∙ bind_at (where_at is_token u64_at second) (λ t. where_at is_next u64_at t.1 >>= λ n. text_for s.version n.1 >>= λ text. told s.version s.generation t.0 n.0 text) (s.token, third) (reads_token.complete s.token third is.token)
    ∙ bind_at (where_at is_next u64_at third) (λ n. text_for s.version n.1 >>= λ text. told s.version s.generation s.token n.0 text) (s.next, fourth) (reads_next.complete s.next fourth is.next)
    ∙ bind_at (text_for s.version fourth) (λ text. told s.version s.generation s.token s.next text) (s.text, rest) ((reads_text_for s.version).complete s.text rest is.text)

pub reads_start : Reads start_at spelled_start IsStart
reads_start = record { sound = start_sound; complete = start_complete }

-- ---- a segment

abbrev IsBelow : ℕ → ℕ → Type 0
IsBelow next n = (1 ≤ n) × (n < next)

reads_below : (next : ℕ) → next ≤ 2 ^ 64 → Reads (where_at (is_below_next next) u64_at) spelled_u64 (IsBelow next)
reads_below next fits = reads_as (where_at (is_below_next next) u64_at) spelled_u64 (λ n. (n < 2 ^ 64) × (is_below_next next n ≡ true)) (IsBelow next)
    (λ n h. let k = both_true (leb 1 n) (ltb n next) h.1 in (leb-true _ _ k.0, ltb-true _ _ k.1))
    (λ n h. (let low : n < next = h.1 in omega arith, both_hold (leb 1 n) (ltb n next) (le-leb _ _ h.0) (lt-ltb _ _ h.1)))
    (reads_where (is_below_next next) u64_at spelled_u64 (λ n. n < 2 ^ 64) reads_u64)

reads_file : (generation : ℕ) → generation < 2 ^ 64 → Reads (where_at (λ file. leb file generation) u64_at) spelled_u64 (λ n. n ≤ generation)
reads_file generation fits = reads_as (where_at (λ file. leb file generation) u64_at) spelled_u64 (λ n. (n < 2 ^ 64) × (leb n generation ≡ true)) (λ n. n ≤ generation)
    (λ n h. leb-true _ _ h.1)
    (λ n h. (omega arith, le-leb _ _ h))
    (reads_where (λ file. leb file generation) u64_at spelled_u64 (λ n. n < 2 ^ 64) reads_u64)

abbrev listed : ℕ → ℕ → ListedSegment
listed number file = record { number = number; file = file }

pub reads_listed : (generation next : ℕ) → generation < 2 ^ 64 → next ≤ 2 ^ 64 → Reads (listed_at generation next) spelled_listed (IsListed generation next)
unfolding listed_at
reads_listed generation next low few = record {
  sound = λ bytes x e.
      let b = both_sound (where_at (is_below_next next) u64_at) (λ number. where_at (λ file. leb file generation) u64_at) listed spelled_u64 spelled_u64 (IsBelow next) (λ number file. file ≤ generation)
      (reads_below next few) (λ number. reads_file generation low) bytes x e in
      subst (λ (s : ListedSegment). (bytes ≡ spelled_listed s ++ x.1) × IsListed generation next s) b.made (b.spelled, record { positive = b.holds.0; past = b.holds.1; file = b.both });
  complete = λ s rest h. both_complete (where_at (is_below_next next) u64_at) (λ number. where_at (λ file. leb file generation) u64_at) listed spelled_u64 spelled_u64 (IsBelow next) (λ number file. file ≤ generation)
      (reads_below next few) (λ number. reads_file generation low) s.number s.file rest (h.positive, h.past) h.file;
}
