-- Files that agree with what a device tells, and ledgers that are carried over them.
use Rattle.std.proofs.Common.{◌≡◌, List, true, false, cond, Option, Some, None, refl, sym, ◌∙◌, ap, subst, inl, inr}
use Rattle.std.proofs.lemmas.Bool.Decides.{eqb_tells}
use Rattle.std.specs.Prelude.{◌==◌, ℕ}
use Rattle.cat_model.specs.Text.{Text}
use Rattle.cat_model.specs.Files.{Name}
use Rattle.cat_directory.specs.declared.name.FileName.{FileName}
use Rattle.cat_directory.specs.declared.name.FileName.TheVariants as file
use Rattle.cat_directory.specs.Devices.{Told}
use Rattle.cat_directory.specs.Names.{name_of}
use Rattle.cat_ledger_laws.specs.model.Users.{same_file_name, has_name}
use Rattle.cat_ledger_laws.specs.model.Ledger.{Ledger, IsLedger}
use Rattle.cat_ledger_laws.specs.model.Stored.{FileBytes, AreStored, ChangesOnly}
use Rattle.cat_ledger_laws.specs.shape.Shapes.{Shape, shape_of, IsShape}
use Rattle.cat_ledger_laws.specs.shape.Ties.{file_of, ToldFiles, IsTold, FilesAgree, Carries, Makes, TouchesOnly, TouchesNothing}

-- ---- names

pub name_of_file : (q : Name) → name_of (file_of q) ≡ q
name_of_file (Name.segment n) = refl
name_of_file (Name.source n) = refl
name_of_file (Name.live n d) = refl
name_of_file (Name.commit g) = refl

pub file_of_name : (q : FileName) → file_of (name_of q) ≡ q
file_of_name (file.Segment n) = refl
file_of_name (file.Source n) = refl
file_of_name (file.Live n d) = refl
file_of_name (file.Commit g) = refl

pub same_number : (n : ℕ) → (n == n) ≡ true
same_number n = elim (eqb_tells n n) [ inl e ↦ e.0 | inr e ↦ absurd (e.1 refl) ]

pub same_again : (q : Name) → same_file_name q q ≡ true
same_again (Name.segment n) = same_number n
same_again (Name.source n) = same_number n
same_again (Name.live n d) = rw (same_number n) (same_number d)
same_again (Name.commit g) = same_number g

-- ---- files as they are told

-- the file as it is told, or else as it is thought to be
abbrev pub or_told : Told → Option Text → Option Text
or_told None content = content
or_told (Some told) content = told

abbrev pub as_told : ToldFiles → FileBytes → FileBytes
as_told told files q = or_told (told (file_of q)) (files q)

-- the files, but those of these names as they are thought to be
abbrev pub with_files : List Name → FileBytes → FileBytes → FileBytes
with_files names thought files q = cond (has_name q names) (thought q) (files q)

told_is : (t : Told) (content : Option Text) → IsTold t (or_told t content)
told_is None content = tt
told_is (Some told) content = refl

pub told_same : (t : Told) (content : Option Text) → IsTold t content → or_told t content ≡ content
told_same None content h = refl
told_same (Some told) content h = h

pub agrees_as_told : (told : ToldFiles) (files : FileBytes) → FilesAgree told (as_told told files)
agrees_as_told told files q = told_is (told (file_of q)) (files q)

-- a file that is told, or thought, to hold the bytes holds them
pub there_as_told : (told : ToldFiles) (files : FileBytes) (q : Name) (content : Option Text) → IsTold (told (file_of q)) content → files q ≡ content → as_told told files q ≡ content
there_as_told told files q content h e = ap (or_told (told (file_of q))) e ∙ told_same (told (file_of q)) content h

pub with_files_in : (names : List Name) (thought files : FileBytes) (q : Name) → has_name q names ≡ true → with_files names thought files q ≡ thought q
with_files_in names thought files q h = ap (λ b. cond b (thought q) (files q)) h

pub with_files_out : (names : List Name) (thought files : FileBytes) (q : Name) → has_name q names ≡ false → with_files names thought files q ≡ files q
with_files_out names thought files q h = ap (λ b. cond b (thought q) (files q)) h

-- where a call touches the files of some names alone, so does what its device tells of what is thought of them
pub changes_as_told : (names : List Name) (told told' : ToldFiles) (files thought : FileBytes) → FilesAgree told files → TouchesOnly names told told' → ChangesOnly names files thought → ChangesOnly names files (as_told told' thought)
changes_as_told names told told' files thought a touches changes q h =
    let same : told' (file_of q) ≡ told (file_of q) = touches (file_of q) (subst (λ n. has_name n names ≡ false) (sym (name_of_file q)) h) in
    ap (λ t. or_told t (thought q)) same ∙ ap (or_told (told (file_of q))) (changes q h) ∙ told_same (told (file_of q)) (files q) (a q)

-- so with the bytes that are thought of for these names
pub changes_with_files : (names : List Name) (told told' : ToldFiles) (files thought : FileBytes) → FilesAgree told files → TouchesOnly names told told' → ChangesOnly names files (as_told told' (with_files names thought files))
changes_with_files names told told' files thought a touches = changes_as_told names told told' files (with_files names thought files) a touches (λ q h. with_files_out names thought files q h)

-- and with none thought of
pub changes_untold : (names : List Name) (told told' : ToldFiles) (files : FileBytes) → FilesAgree told files → TouchesOnly names told told' → ChangesOnly names files (as_told told' files)
changes_untold names told told' files a touches = changes_as_told names told told' files files a touches (λ q h. refl)

-- one of the files that are thought of
pub there_with_files : (names : List Name) (told' : ToldFiles) (files thought : FileBytes) (q : Name) (content : Option Text) → has_name q names ≡ true → IsTold (told' (file_of q)) content → thought q ≡ content
    → as_told told' (with_files names thought files) q ≡ content
there_with_files names told' files thought q content h told e = there_as_told told' (with_files names thought files) q content told (with_files_in names thought files q h ∙ e)

-- ---- ledgers that are carried

-- each sound ledger of the shape has one that the call makes of it, of the other shape
abbrev pub Lifts : (Ledger → Ledger → Type 0) → Shape → Shape → Type 0
Lifts call s new = (l : Ledger) → IsLedger l → shape_of l ≡ s → (l' : Ledger) × (shape_of l' ≡ new) × call l l'

-- the call keeps ledgers sound
abbrev pub KeepsSound : (Ledger → Ledger → Type 0) → Ledger → Type 0
KeepsSound call l = (l' : Ledger) → IsLedger l → call l l' → IsLedger l'

-- where each ledger of the shape is lifted, and soundness is kept, the shape is kept one
pub keeps : (call : Ledger → Ledger → Type 0) (s new : Shape) → Lifts call s new → ((l : Ledger) → shape_of l ≡ s → KeepsSound call l) → IsShape s → IsShape new
keeps call s new lifts sound its =
    let m = lifts its.0 its.2 its.1 in
    (m.0, m.1, sound its.0 its.1 m.0 its.2 m.2)

-- Where, further, what the call needs stands in some files that agree with what is told, the call makes of each ledger that is carried
-- what is carried afterwards.
pub makes : (call : Ledger → Ledger → Type 0) (told told' : ToldFiles) (s new : Shape) → Lifts call s new → ((l : Ledger) → shape_of l ≡ s → KeepsSound call l)
    → ((l l' : Ledger) (files : FileBytes) → Carries told s l files → call l l' → (thought : FileBytes) × AreStored (as_told told' thought) l') → Makes call told s told' new
makes call told told' s new lifts sound stores l files c =
    let m = lifts l c.sound c.shape in
    let f = stores l m.0 files c m.2 in
    (m.0, as_told told' f.0, m.2, record { shape = m.1; sound = sound l c.shape m.0 c.sound m.2; stored = f.1; agrees = agrees_as_told told' f.0 })

-- what agrees with what is told still does where nothing is touched
pub agrees_still : (told told' : ToldFiles) (files : FileBytes) → TouchesNothing told told' → FilesAgree told files → FilesAgree told' files
agrees_still told told' files same a q = subst (λ t. IsTold t (files q)) (sym (same (file_of q))) (a q)

-- a ledger is carried still where nothing is touched
pub carries_still : (told told' : ToldFiles) (s : Shape) (l : Ledger) (files : FileBytes) → TouchesNothing told told' → Carries told s l files → Carries told' s l files
carries_still told told' s l files same c = record { shape = c.shape; sound = c.sound; stored = c.stored; agrees = agrees_still told told' files same c.agrees }

-- a call that touches no file, and needs none that wasn't needed
pub makes_untouched : (call : Ledger → Ledger → Type 0) (told told' : ToldFiles) (s new : Shape) → TouchesNothing told told' → Lifts call s new → ((l : Ledger) → shape_of l ≡ s → KeepsSound call l)
    → ((l l' : Ledger) (files : FileBytes) → Carries told s l files → call l l' → AreStored files l') → Makes call told s told' new
makes_untouched call told told' s new same lifts sound stores l files c =
    let m = lifts l c.sound c.shape in
    (m.0, files, m.2, record { shape = m.1; sound = sound l c.shape m.0 c.sound m.2; stored = stores l m.0 files c m.2; agrees = agrees_still told told' files same c.agrees })

-- a call that leaves the ledger as it is
pub makes_still : (call : Ledger → Ledger → Type 0) (told told' : ToldFiles) (s new : Shape) → new ≡ s → TouchesNothing told told' → ((l : Ledger) → shape_of l ≡ s → call l l) → Makes call told s told' new
makes_still call told told' s new same untouched stays l files c =
    let on : Carries told' s l files = carries_still told told' s l files untouched c in
    (l, files, stays l c.shape, record { shape = c.shape ∙ sym same; sound = on.sound; stored = on.stored; agrees = on.agrees })

-- ---- calls after one another, and in other words

pub makes_then : (first second : Ledger → Ledger → Type 0) (told told' told'' : ToldFiles) (s mid new : Shape) → Makes first told s told' mid → Makes second told' mid told'' new
    → Makes (λ l l'. (m : Ledger) × first l m × second m l') told s told'' new
makes_then first second told told' told'' s mid new a b l files c =
    let x = a l files c in
    let y = b x.0 x.1 x.3 in
    (y.0, y.1, (x.0, x.2, y.2), y.3)

pub makes_of : (call other : Ledger → Ledger → Type 0) (told told' : ToldFiles) (s new : Shape) → ((l l' : Ledger) → shape_of l ≡ s → call l l' → other l l') → Makes call told s told' new → Makes other told s told' new
makes_of call other told told' s new f a l files c =
    let x = a l files c in
    (x.0, x.1, f l x.0 c.shape x.2, x.3)
