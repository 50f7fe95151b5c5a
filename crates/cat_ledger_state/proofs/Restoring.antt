-- What memory has of a commit that was read.
use Rattle.std.proofs.Common.{◌≡◌, ℕ, suc, ◌+◌, ◌*◌, ◌<◌, ◌≤◌, ◌^◌, Bool, true, false, cond, List, [], ◌∷◌, length, None, refl, sym, ◌∙◌, ap, subst, arith}
use Rattle.std.specs.Prelude.{◌==◌, All}
use Rattle.std.specs.List.{flat_map}
use Rattle.std.proofs.lemmas.List.{length-append}
use Rattle.std.proofs.lemmas.List.Sums.{count_by-le-length}
use Rattle.cat_model.specs.Text.{Text}
use Rattle.cat_model.specs.Item.{Schema, Record}
use Rattle.cat_model.specs.Files.{Name}
use Rattle.cat_model.specs.Limits.{last_number, segment_limit}
use Rattle.cat_model.specs.CommitFile.{ListedSegment, CommitFile, listed_names, live_names, commit_needs}
use Rattle.cat_model.specs.State.{Taken}
use Rattle.cat_model.specs.View.{Leaf, View, needs}
use Rattle.cat_ledger_laws.specs.model.Ledger.{IsPast}
use Rattle.cat_ledger_laws.specs.model.Opening.{Restored, AreLeavesOf, IsRestored}
use Rattle.cat_ledger_laws.specs.model.Users.{Used, users_of, same_file_name, times}
use Rattle.cat_ledger_laws.specs.shape.Shapes.{ListedLive, names_of_leaves}
use Rattle.cat_ledger_laws.specs.shape.OpeningLaws.{IsCountedAt, opened_at, listed_with, view_at}
use Rattle.cat_lifetimes.specs.records.Records.{Records}
use Rattle.cat_ledger_state.specs.Commits.{users_at}

-- ---- its segments are few

pub as_many : (holds : Name → Text → Type 0) (schema : Schema) (xs : List ListedSegment) (leaves : List Leaf) → AreLeavesOf holds schema xs leaves
    → length leaves ≡ length xs
as_many holds schema [] [] a = refl
as_many holds schema [] (l ∷ ls) a = absurd a
as_many holds schema (x ∷ xs) [] a = absurd a
as_many holds schema (x ∷ xs) (l ∷ ls) a = ap suc (as_many holds schema xs ls a.1)

-- ---- its names are few

leaves_named : (leaves : List Leaf) → length (names_of_leaves leaves) ≡ 2 * length leaves
leaves_named [] = refl
leaves_named (l ∷ ls) = omega (arith, leaves_named ls)

one_live : (n f : ℕ) (b : Bool) → length (cond b [] (Name.live n f ∷ [])) ≤ 1
one_live n f true = omega arith
one_live n f false = omega arith

listed_named : (xs : List ListedSegment) → length (flat_map listed_names xs) ≤ 3 * length xs
listed_named [] = omega arith
listed_named (x ∷ xs) = omega (
  arith,
  length-append (live_names x.number x.file) (flat_map listed_names xs),
  one_live x.number x.file (x.file == 0),
  listed_named xs,
)

pub users_few : (us : List Used) (v : View) (c : CommitFile) → ((q : Name) → users_of us q ≡ 0) → length v.leaves ≡ length c.segments → length c.segments ≤ segment_limit
    → (q : Name) → users_of us q + users_at v c q < 2 ^ 64
users_few us v c none many few q =
    let leaves : times q (needs v) ≤ length (names_of_leaves v.leaves) = count_by-le-length (same_file_name q) (names_of_leaves v.leaves) in
    let listed : times q (commit_needs c) ≤ length (commit_needs c) = count_by-le-length (same_file_name q) (commit_needs c) in
    let own : length (commit_needs c) ≡ suc (length (flat_map listed_names c.segments)) = refl in
    let small : length c.segments ≤ 65536 = few in
    omega (arith, none q, leaves, listed, own, leaves_named v.leaves, listed_named c.segments, many, small)

-- ---- its users are counted

pub restored_fits : (holds : Name → Text → Type 0) (schema : Schema) (g : ℕ) (r : Restored) (us : List Used) (v : View) → ((q : Name) → users_of us q ≡ 0)
    → IsRestored holds schema g r → v.leaves ≡ r.leaves → (q : Name) → users_of us q + users_at v r.commit q < 2 ^ 64
restored_fits holds schema g r us v none is same =
    users_few us v r.commit none (ap (λ (ls : List Leaf). length ls) same ∙ as_many holds schema r.commit.segments r.leaves is.leaves) is.commit.spelled.form.few

pub counted_is : (schema : Schema) (r : Restored) (old us : List Used) (v : View) (n g : ℕ) → v.leaves ≡ r.leaves → ((q : Name) → users_of old q ≡ 0)
    → ((q : Name) → users_of us q ≡ users_of old q + users_at v r.commit q) → All (IsPast n g) (commit_needs r.commit) → 0 < n
    → (n ≤ last_number + 1) × (g ≤ last_number + 1) → IsCountedAt schema r us n g
counted_is schema r old us v n g same none counts past some left = record {
  users = λ q.
      let standing : times q (needs v) ≡ times q (names_of_leaves r.leaves) = ap (λ (ls : List Leaf). times q (names_of_leaves ls)) same in
      let viewed : times q (needs v) ≡ times q (needs (view_at schema r)) = ap (λ (ls : List Leaf). times q (names_of_leaves ls)) same in
      let all : users_of us q ≡ users_of old q + (times q (needs v) + (times q (needs v) + times q (commit_needs r.commit))) = counts q in
      omega (arith, none q, standing, viewed, all);
  past = past;
  some = some;
  left = left;
}

-- ---- what memory has then

pub leaves_few : (holds : Name → Text → Type 0) (schema : Schema) (g : ℕ) (r : Restored) → IsRestored holds schema g r → length r.leaves ≤ segment_limit
leaves_few holds schema g r is = subst (λ k. k ≤ segment_limit) (sym (as_many holds schema r.commit.segments r.leaves is.leaves)) is.commit.spelled.form.few

pub opened_is : (schema : Schema) (r : Restored) (users : List Used) (n g count : ℕ) (leaves : List Leaf) (buffered : List Record) (v : View) (recorded : Records)
    (commits : List CommitFile) (listed : List ListedLive) (taken : List Taken) → leaves ≡ r.leaves → buffered ≡ [] → count ≡ r.commit.token
    → v ≡ record { schema = schema; leaves = leaves; token = count } → recorded ≡ record { views = v ∷ []; holds = [] } → commits ≡ r.commit ∷ []
    → listed ≡ listed_with r.commit.segments r.leaves → taken ≡ []
    → record {
      schema = schema;
      leaves = leaves;
      buffered = buffered;
      count = count;
      views = recorded.views;
      holds = recorded.holds;
      commits = commits;
      listed = listed;
      taken = taken;
      merging = None;
      users = users;
      next_segment = n;
      next_generation = g;
    }
    ≡ opened_at schema r users n g
opened_is schema r users n g count leaves buffered v recorded commits listed taken same none token now one alone listing no_snapshot =
    let seen : v ≡ view_at schema r = now ∙ (λ i. record { schema = schema; leaves = same i; token = token i }) in
    let only : recorded ≡ record { views = view_at schema r ∷ []; holds = [] } = one ∙ (λ i. record { views = seen i ∷ []; holds = [] }) in
    λ i. record {
      schema = schema;
      leaves = same i;
      buffered = none i;
      count = token i;
      views = (only i).views;
      holds = (only i).holds;
      commits = alone i;
      listed = listing i;
      taken = no_snapshot i;
      merging = None;
      users = users;
      next_segment = n;
      next_generation = g;
    }
