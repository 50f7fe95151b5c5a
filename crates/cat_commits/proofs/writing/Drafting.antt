-- What a draft holds, and what is told once it is written.
use Rattle.std.proofs.Common.{◌≡◌, ◌≢◌, ℕ, ◌+◌, ◌<◌, ◌≤◌, List, [], ◌∷◌, ◌++◌, length, map, take, get_or, Bool, true, false, ◌||◌, cond, Some, None, AllPairs, refl, sym, ap, ap₂, ◌∙◌, subst, arith}
use Rattle.std.specs.Prelude.{◌==◌, All}
use Rattle.std.specs.List.{AllByRecursion}
use Rattle.std.proofs.lemmas.Bool.{eqb-true, eq-eqb}
use Rattle.std.proofs.lemmas.List.Elements.{All-from_recursion, recursion_from_All}
use Rattle.std.proofs.lemmas.List.Kept.{AllPairs-filter}
use Rattle.cat_model.specs.Text.{Text}
use Rattle.cat_model.specs.Files.{Name, IsFileName, IsFileNumber}
use Rattle.cat_model.specs.Limits.{last_number, row_limit}
use Rattle.cat_model.specs.LiveFile.{AreLiveRows, SpellsLive}
use Rattle.cat_model.specs.CommitFile.{ListedSegment, CommitFile, IsListed, IsCommitFile, SpellsCommit, commit_needs}
use Rattle.cat_model.specs.View.{Leaf}
use Rattle.cat_model.proofs.Lists.{list_any-append}
use Rattle.cat_model.proofs.Places.{EachPair, each_pair, all_pairs}
use Rattle.cat_directory.specs.declared.name.FileName.{FileName}
use Rattle.cat_directory.specs.declared.name.FileName.TheVariants as file
use Rattle.cat_directory.specs.Devices.{Told, told_after, file_written}
use Rattle.cat_directory.specs.Names.{name_of}
use Rattle.cat_ledger_laws.specs.model.Users.{has_name, same_file_name}
use Rattle.cat_ledger_laws.specs.shape.Shapes.{ListedLive}
use Rattle.cat_ledger_laws.specs.shape.Ties.{ToldFiles, IsTold, TellsBytes}
use Rattle.cat_commits.specs.declared.writing.heading.Heading.{Heading}
use Rattle.cat_commits.specs.writing.Entries.{listing_after}
use Rattle.cat_commits.specs.writing.NewFiles.{NewBytes, names_of, IsWritten}
use Rattle.cat_commits.specs.writing.Unsynced.{new_live_of, new_live, is_listed, unsynced_segment, unsynced_of, unsynced_in}
use Rattle.cat_commits.specs.writing.Drafts.{commit_listing, Drafted, IsSpelled, AreSpelled, new_entries, AppendsSpelled, IsDrafted, HasNewFile}
use Rattle.cat_commits.proofs.writing.Looks.{Differ}
use Rattle.cat_commits.proofs.writing.Kept.{fewer_alive, gets_none}
use Rattle.cat_commits.proofs.writing.Lists.{filter_more}

-- ---- new live files

pub spelled-append : (g : ℕ) (xs : List ListedLive) (fs : List NewBytes) (ys : List ListedLive) (hs : List NewBytes) → AreSpelled g xs fs → AreSpelled g ys hs → AreSpelled g (xs ++ ys) (fs ++ hs)
spelled-append g [] [] ys hs a b = b
spelled-append g [] (f ∷ fs) ys hs a b = absurd a
spelled-append g (x ∷ xs) [] ys hs a b = absurd a
spelled-append g (x ∷ xs) (f ∷ fs) ys hs a b = (a.0, spelled-append g xs fs ys hs a.1 b)

abbrev pub IsFilled : Leaf → Type 0
IsFilled leaf = (1 ≤ length leaf.live) × (length leaf.live ≤ row_limit)

abbrev pub IsReady : ℕ → ListedLive → Type 0
IsReady g x = x.file ≡ g → AreLiveRows (record { number = x.number; generation = g; live = x.live })

abbrev pub segment_of : ListedLive → ListedSegment
segment_of x = record { number = x.number; file = x.file }

-- a new live file can say the rows of each leaf that gets one, where the commit can be said
ready : (old : List ListedLive) (g next : ℕ) (leaves : List Leaf) → IsFileNumber g → next ≤ last_number + 1 → AllByRecursion (IsListed g next) (map segment_of (listing_after old g leaves))
    → AllByRecursion IsFilled leaves → AllByRecursion (IsReady g) (listing_after old g leaves)
ready old g next [] known bound a b = tt
ready old g next (l ∷ ls) known bound a b = (
  (λ e. record {
    number = (omega (arith, a.0.positive), omega (arith, a.0.past, bound));
    generation = known;
    some = b.0.0;
    few = b.0.1;
    dead = fewer_alive l.live (λ all. gets_none old g l all e known.0);
  }),
  ready old g next ls known bound a.1 b.1,
)

pub all_ready : (old : List ListedLive) (h : Heading) (leaves : List Leaf) → IsCommitFile (commit_listing h (listing_after old h.generation leaves)) → All IsFilled leaves
    → All (IsReady h.generation) (listing_after old h.generation leaves)
all_ready old h leaves form b =
    All-from_recursion (IsReady h.generation) (listing_after old h.generation leaves)
    (ready old h.generation h.next_segment leaves form.generation form.next_high
    (recursion_from_All (IsListed h.generation h.next_segment) (map segment_of (listing_after old h.generation leaves)) form.listed) (recursion_from_All IsFilled leaves b))

-- ---- entries that are passed one after the other

pub spelled_more : (g : ℕ) (xs : List ListedLive) (i : ℕ) (x : ListedLive) (old new : List NewBytes) → i < length xs → x ≡ get_or xs i x → AreSpelled g (new_entries g (take i xs)) old
    → AppendsSpelled g x old new → AreSpelled g (new_entries g (take (i + 1) xs)) new
spelled_more g xs i x old new lt is before more =
    subst (λ ys. AreSpelled g ys new) (sym (filter_more (λ (y : ListedLive). y.file == g) xs i x lt is))
    (subst (AreSpelled g (new_entries g (take i xs) ++ cond (x.file == g) (x ∷ []) [])) (sym more.1) (spelled-append g (new_entries g (take i xs)) old (cond (x.file == g) (x ∷ []) []) more.0 before more.2))

-- ---- names

or_first : (a b : Bool) → a ≡ true → (a || b) ≡ true
or_first a b e = rw e refl

or_second : (a b : Bool) → b ≡ true → (a || b) ≡ true
or_second true b e = refl
or_second false b e = e

or_split : {P : Type 0} (a b : Bool) → (a ≡ true → P) → (b ≡ true → P) → (a || b) ≡ true → P
or_split true b f g e = f refl
or_split false b f g e = g e

or_none : (a b : Bool) → a ≡ false → b ≡ false → (a || b) ≡ false
or_none a b e f = rw (e, f) refl

-- a new live file is among those that may not last
pub all_synced : (old : List ListedLive) (g : ℕ) (xs : List ListedLive) (q : Name) → has_name q (new_live g xs) ≡ true → has_name q (unsynced_in old g xs) ≡ true
all_synced old g [] q e = e
all_synced old g (x ∷ xs) q e =
    let rest = all_synced old g xs q in
    list_any-append (same_file_name q) (unsynced_of old g x) (unsynced_in old g xs)
    ∙ or_split (has_name q (new_live_of g x)) (has_name q (new_live g xs))
    (λ h. or_first (has_name q (unsynced_of old g x)) (has_name q (unsynced_in old g xs))
    (list_any-append (same_file_name q) (unsynced_segment (is_listed x.number old) x) (new_live_of g x)
    ∙ or_second (has_name q (unsynced_segment (is_listed x.number old) x)) (has_name q (new_live_of g x)) h))
    (λ h. or_second (has_name q (unsynced_of old g x)) (has_name q (unsynced_in old g xs)) (rest h))
    (sym (list_any-append (same_file_name q) (new_live_of g x) (new_live g xs)) ∙ e)

no_live : (h g : ℕ) (x : ListedLive) → has_name (Name.commit h) (new_live_of g x) ≡ false
no_live h g x = by (x.file == g)
  where
    by : (b : Bool) → has_name (Name.commit h) (cond b (Name.live x.number x.file ∷ []) []) ≡ false
    by true = refl
    by false = refl

no_segment : (h : ℕ) (b : Bool) (x : ListedLive) → has_name (Name.commit h) (unsynced_segment b x) ≡ false
no_segment h true x = refl
no_segment h false x = refl

-- a commit's own file isn't
pub own_not_new : (h g : ℕ) (xs : List ListedLive) → has_name (Name.commit h) (new_live g xs) ≡ false
own_not_new h g [] = refl
own_not_new h g (x ∷ xs) = list_any-append (same_file_name (Name.commit h)) (new_live_of g x) (new_live g xs) ∙ or_none (has_name (Name.commit h) (new_live_of g x)) _ (no_live h g x) (own_not_new h g xs)

pub own_not_unsynced : (h : ℕ) (old : List ListedLive) (g : ℕ) (xs : List ListedLive) → has_name (Name.commit h) (unsynced_in old g xs) ≡ false
own_not_unsynced h old g [] = refl
own_not_unsynced h old g (x ∷ xs) =
    list_any-append (same_file_name (Name.commit h)) (unsynced_of old g x) (unsynced_in old g xs)
    ∙ or_none (has_name (Name.commit h) (unsynced_of old g x)) _
    (list_any-append (same_file_name (Name.commit h)) (unsynced_segment (is_listed x.number old) x) (new_live_of g x)
    ∙ or_none (has_name (Name.commit h) (unsynced_segment (is_listed x.number old) x)) _ (no_segment h (is_listed x.number old) x) (no_live h g x))
    (own_not_unsynced h old g xs)

-- ---- what a draft holds

pub is_drafted : (old : List ListedLive) (h : Heading) (listing : List ListedLive) (commit : CommitFile) (unsynced : List Name) (own : NewBytes) (files : List NewBytes) (names : List Name)
    → commit ≡ commit_listing h listing → unsynced ≡ unsynced_in old h.generation listing → own.name ≡ file.Commit commit.generation → SpellsCommit own.bytes commit
    → AreSpelled h.generation (new_entries h.generation listing) files → names ≡ commit_needs commit
    → IsDrafted (record { listing = listing; commit = commit; unsynced = unsynced }) own files names
is_drafted old h listing commit unsynced own files names is unsynced_is named spelled live needed =
    let g : commit.generation ≡ h.generation = ap (λ (c : CommitFile). c.generation) is in
    record {
      named = named;
      spelled = spelled;
      live = subst (λ n. AreSpelled n (new_entries n listing) files) (sym g) live;
      needed = needed;
      listed = ap (λ (c : CommitFile). c.segments) is;
      synced = λ q e. ap (has_name q) unsynced_is ∙ all_synced old h.generation listing q (subst (λ n. has_name q (new_live n listing) ≡ true) g e);
      own_last = ap (has_name (Name.commit commit.generation)) unsynced_is ∙ own_not_unsynced commit.generation old h.generation listing;
    }

-- ---- its files

pub files_named : (g : ℕ) (xs : List ListedLive) (fs : List NewBytes) → AreSpelled g (new_entries g xs) fs → names_of fs ≡ new_live g xs
files_named g [] [] a = refl
files_named g [] (f ∷ fs) a = absurd a
files_named g (x ∷ xs) fs a = by (x.file == g) refl fs a (files_named g xs)
  where
    by : (b : Bool) → (x.file == g) ≡ b → (hs : List NewBytes) → AreSpelled g (cond b (x ∷ new_entries g xs) (new_entries g xs)) hs
        → ((ks : List NewBytes) → AreSpelled g (new_entries g xs) ks → names_of ks ≡ new_live g xs)
        → names_of hs ≡ cond b (Name.live x.number x.file ∷ []) [] ++ new_live g xs
    by true e [] s rest = absurd s
    by true e (h ∷ hs) s rest =
        ap₂ (λ (n : Name) (ns : List Name). n ∷ ns) (ap name_of s.0.named ∙ ap (Name.live x.number) (sym (eqb-true x.file g e))) (rest hs s.1)
    by false e hs s rest = rest hs s

pub files_formed : (g : ℕ) (xs : List ListedLive) (fs : List NewBytes) → AreSpelled g xs fs → All (λ (f : NewBytes). IsFileName (name_of f.name)) fs
files_formed g xs fs a = All-from_recursion (λ (f : NewBytes). IsFileName (name_of f.name)) fs (formed xs fs a)
  where
    formed : (ys : List ListedLive) (hs : List NewBytes) → AreSpelled g ys hs → AllByRecursion (λ (f : NewBytes). IsFileName (name_of f.name)) hs
    formed [] [] a = tt
    formed [] (h ∷ hs) a = absurd a
    formed (y ∷ ys) [] a = absurd a
    formed (y ∷ ys) (h ∷ hs) a = (subst (λ n. IsFileName (name_of n)) (sym a.0.named) (a.0.spelled.form.number, a.0.spelled.form.generation), formed ys hs a.1)

number_of : FileName → ℕ
number_of (file.Segment n) = n
number_of (file.Source n) = n
number_of (file.Live n d) = n
number_of (file.Commit g) = g

abbrev Other : NewBytes → NewBytes → Type 0
Other a b = a.name ≢ b.name

others_apart : (g : ℕ) (x : ListedLive) (f : NewBytes) (xs : List ListedLive) (fs : List NewBytes) → f.name ≡ file.Live x.number g → AllByRecursion (Differ x) xs → AreSpelled g xs fs → AllByRecursion (Other f) fs
unfolding number_of
others_apart g x f [] [] e d a = tt
others_apart g x f [] (h ∷ hs) e d a = absurd a
others_apart g x f (y ∷ ys) [] e d a = absurd a
others_apart g x f (y ∷ ys) (h ∷ hs) e d a = ((λ same. d.0 (ap number_of (sym e ∙ same ∙ a.0.named))), others_apart g x f ys hs e d.1 a.1)

files_apart : (g : ℕ) (xs : List ListedLive) (fs : List NewBytes) → EachPair Differ xs → AreSpelled g xs fs → EachPair Other fs
files_apart g [] [] d a = tt
files_apart g [] (h ∷ hs) d a = absurd a
files_apart g (y ∷ ys) [] d a = absurd a
files_apart g (y ∷ ys) (h ∷ hs) d a = (others_apart g y h ys hs a.0.named d.0 a.1, files_apart g ys hs d.1 a.1)

abbrev Numbered : ListedSegment → ListedSegment → Type 0
Numbered a b = a.number ≢ b.number

unmapped : (xs : List ListedLive) → EachPair Numbered (map segment_of xs) → EachPair Differ xs
unmapped [] a = tt
unmapped (x ∷ xs) a = (one xs a.0, unmapped xs a.1)
  where
    one : (ys : List ListedLive) → AllByRecursion (Numbered (segment_of x)) (map segment_of ys) → AllByRecursion (Differ x) ys
    one [] a = tt
    one (y ∷ ys) a = (a.0, one ys a.1)

module _ (d : Drafted) (own : NewBytes) (files : List NewBytes) (names : List Name) (is : IsDrafted d own files names) where
  abbrev generation : ℕ
  generation = d.commit.generation

  pub names_new : names_of files ≡ new_live generation d.listing
  names_new = files_named generation d.listing files is.live

  pub own_named : name_of own.name ≡ Name.commit generation
  own_named = ap name_of is.named

  pub names_begun : names_of (own ∷ files) ≡ Name.commit generation ∷ new_live generation d.listing
  names_begun = ap₂ (λ (n : Name) (ns : List Name). n ∷ ns) own_named names_new

  pub all_formed : All (λ (f : NewBytes). IsFileName (name_of f.name)) files
  all_formed = files_formed generation (new_entries generation d.listing) files is.live

  pub listing_apart : AllPairs Differ d.listing
  listing_apart =
      let listed : AllPairs Numbered (map segment_of d.listing) = subst (AllPairs Numbered) is.listed is.spelled.form.distinct in
      all_pairs Differ d.listing (unmapped d.listing (each_pair Numbered (map segment_of d.listing) listed))

  pub all_apart : AllPairs (λ (a b : NewBytes). a.name ≢ b.name) files
  all_apart =
      all_pairs Other files (files_apart generation (new_entries generation d.listing) files
      (each_pair Differ (new_entries generation d.listing) (AllPairs-filter Differ (λ (x : ListedLive). x.file == generation) d.listing listing_apart)) is.live)

  pub own_formed : IsFileName (name_of own.name)
  own_formed = subst IsFileName (sym own_named) is.spelled.form.generation

  pub own_apart : has_name (name_of own.name) (names_of files) ≡ false
  own_apart = ap₂ has_name own_named names_new ∙ own_not_new generation generation d.listing

  pub own_unsynced : has_name (name_of own.name) d.unsynced ≡ false
  own_unsynced = ap (λ n. has_name n d.unsynced) own_named ∙ is.own_last

-- ---- what is told of them

told_written : (bytes : Text) (t t' : Told) → t' ≡ told_after (file_written bytes) t → IsTold t' (Some bytes)
told_written bytes None t' e = subst (λ u. IsTold u (Some bytes)) (sym e) tt
told_written bytes (Some content) t' e = subst (λ u. IsTold u (Some bytes)) (sym e) refl

pub own_told : (d : Drafted) (own : NewBytes) (files : List NewBytes) (names : List Name) (told told' : ToldFiles) → IsDrafted d own files names → IsWritten told told' own
    → TellsBytes told' (file.Commit d.commit.generation) (λ bytes. SpellsCommit bytes d.commit)
own_told d own files names told told' is here =
    (own.bytes, subst (λ q. IsTold (told' q) (Some own.bytes)) is.named (told_written own.bytes (told own.name) (told' own.name) here), is.spelled)

spelled_told : (g : ℕ) (told told' : ToldFiles) (x : ListedLive) (f : NewBytes) → IsSpelled g x f → IsWritten told told' f
    → TellsBytes told' (file.Live x.number g) (λ bytes. SpellsLive bytes (record { number = x.number; generation = g; live = x.live }))
spelled_told g told told' x f s here = (f.bytes, subst (λ q. IsTold (told' q) (Some f.bytes)) s.named (told_written f.bytes (told f.name) (told' f.name) here), s.spelled)

live_told : (g : ℕ) (told told' : ToldFiles) (xs : List ListedLive) (fs : List NewBytes) → AreSpelled g (new_entries g xs) fs → AllByRecursion (IsWritten told told') fs → AllByRecursion (HasNewFile told' g) xs
live_told g told told' [] fs a w = tt
live_told g told told' (x ∷ xs) fs a w = by (x.file == g) refl fs a w (live_told g told told' xs)
  where
    by : (b : Bool) → (x.file == g) ≡ b → (hs : List NewBytes) → AreSpelled g (cond b (x ∷ new_entries g xs) (new_entries g xs)) hs → AllByRecursion (IsWritten told told') hs
        → ((ks : List NewBytes) → AreSpelled g (new_entries g xs) ks → AllByRecursion (IsWritten told told') ks → AllByRecursion (HasNewFile told' g) xs)
        → HasNewFile told' g x × AllByRecursion (HasNewFile told' g) xs
    by true e [] s v rest = absurd s
    by true e (h ∷ hs) s v rest = ((λ same. spelled_told g told told' x h s.0 v.0), rest hs s.1 v.1)
    by false e hs s v rest = ((λ same. absurd (let clash : true ≡ false = sym (eq-eqb x.file g same) ∙ e in cc)), rest hs s v)

pub all_told : (d : Drafted) (own : NewBytes) (files : List NewBytes) (names : List Name) (told told' : ToldFiles) → IsDrafted d own files names → All (IsWritten told told') files
    → AllByRecursion (HasNewFile told' d.commit.generation) d.listing
all_told d own files names told told' is all = live_told d.commit.generation told told' d.listing files is.live (recursion_from_All (IsWritten told told') files all)
