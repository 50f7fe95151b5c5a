-- What is told of files that are written one after the other.
use Rattle.std.proofs.Common.{◌≡◌, ◌≢◌, ℕ, zero, suc, ◌+◌, ◌<◌, ◌≤◌, List, [], ◌∷◌, length, map, get_or, Bool, true, false, ◌||◌, Some, None, Result, Ok, Err, IfErr, AllPairs, refl, sym, ap, ◌∙◌, subst, inl, inr, arith, below_more}
use Rattle.std.specs.Prelude.{◌⊎◌, All, Contains, IsErr, IsErrAnd}
use Rattle.cat_base.specs.declared.refusal.Refusal.{Refusal}
use Rattle.std.proofs.lemmas.Bool.{both_ways}
use Rattle.std.proofs.lemmas.List.{get_or_default}
use Rattle.cat_model.specs.Files.{Name}
use Rattle.cat_directory.specs.declared.name.FileName.{FileName}
use Rattle.cat_directory.specs.Devices.{CountsWriting, Told, WritingCount, told_after, file_written, NoMore, IsSettled}
use Rattle.cat_directory.specs.Names.{name_of}
use Rattle.cat_ledger_laws.specs.model.Users.{has_name, same_file_name}
use Rattle.cat_ledger_laws.proofs.model.Counted.{same_name_is}
use Rattle.cat_ledger_laws.specs.shape.Ties.{ToldFiles, TouchesOnly}
use Rattle.cat_ledger_laws.proofs.shape.Told.{same_again, file_of_name}
use Rattle.cat_ledger_laws.specs.shape.Ties.{file_of}
use Rattle.cat_commits.specs.writing.NewFiles.{NewBytes, names_of, IsWritten, CrashLeaves, NoMoreBut, AreSettled, ComesLast, OnlyTorn}

-- ---- refusals

fault_is : {T E : Type 0} (r : Result T E) (e : E) → IsErr r × IsErrAnd r (λ x. x ≡ e) → r ≡ Err e
fault_is (Ok v) e so = absurd so.1
fault_is (Err x) e so = ap Err so.1

-- what holds of a refusal holds of it where a `?` passes it on
pub passed : {T : Type 0} (P : Refusal → Type 0) (r : Result T Refusal) (e : Refusal) → IsErr r × IsErrAnd r (λ x. x ≡ e) → P e → IfErr r P
passed P r e so p = subst (λ (r : Result _ Refusal). IfErr r P) (sym (fault_is r e so)) p

-- a refusal that a `?` passes on was counted
pub counts_passed : {T : Type 0} (old new : ℕ) (r : Result T Refusal) (e : Refusal) → IsErr r × IsErrAnd r (λ x. x ≡ e) → WritingCount old new e → CountsWriting old new r
counts_passed old new r e so counted = subst (λ (r : Result _ Refusal). CountsWriting old new r) (sym (fault_is r e so)) counted

-- behind calls that count nothing
pub counts_after : {T : Type 0} (old mid new : ℕ) (r : Result T Refusal) (e : Refusal) → IsErr r × IsErrAnd r (λ x. x ≡ e) → mid ≡ old → WritingCount mid new e → CountsWriting old new r
counts_after old mid new r e so same counted = counts_passed old new r e so (subst (λ (n : ℕ). WritingCount n new e) same counted)

-- ---- names

pub same_file : (a b : FileName) → same_file_name (name_of a) (name_of b) ≡ true → a ≡ b
same_file a b e = sym (file_of_name a) ∙ ap file_of (same_name_is (name_of a) (name_of b) e) ∙ file_of_name b

or_true : (a b : Bool) → a ≡ true → (a || b) ≡ true
or_true a b e = rw e refl

or_second : (a b : Bool) → b ≡ true → (a || b) ≡ true
or_second true b e = refl
or_second false b e = e

or_either : (a b : Bool) → (a || b) ≡ true → (a ≡ true) ⊎ (b ≡ true)
or_either true b e = inl refl
or_either false b e = inr e

pub neither : (a b : Bool) → (a || b) ≡ false → (a ≡ false) × (b ≡ false)
neither true b e = absurd (let no : true ≡ false = e in cc)
neither false b e = (refl, e)

-- a file's name is among the names
pub named_there : (files : List NewBytes) (k : ℕ) (d : NewBytes) → k < length files → has_name (name_of (get_or files k d).name) (names_of files) ≡ true
named_there [] k d lt = absurd (omega arith)
named_there (f ∷ fs) zero d lt = or_true (same_file_name (name_of f.name) (name_of f.name)) (has_name (name_of f.name) (names_of fs)) (same_again (name_of f.name))
named_there (f ∷ fs) (suc k) d lt =
    or_second (same_file_name (name_of (get_or fs k d).name) (name_of f.name)) (has_name (name_of (get_or fs k d).name) (names_of fs)) (named_there fs k d (omega arith))

-- a name that isn't among them is none of theirs
pub other_name : (files : List NewBytes) (k : ℕ) (f : NewBytes) (q : FileName) → k < length files → f ≡ get_or files k f → has_name (name_of q) (names_of files) ≡ false → q ≢ f.name
other_name files k f q lt is not e =
    both_ways (has_name (name_of q) (names_of files)) not
    (subst (λ n. has_name (name_of n) (names_of files) ≡ true) (sym e) (subst (λ (x : NewBytes). has_name (name_of x.name) (names_of files) ≡ true) (sym is) (named_there files k f lt)))

-- a name among them is that of one of them
pub record NamedAt (files : List NewBytes) (q : FileName) (d : NewBytes) : Type 0 where
  pub index : ℕ
  pub within : index < length files
  pub is : q ≡ (get_or files index d).name

pub named_at : (files : List NewBytes) (q : FileName) (d : NewBytes) → has_name (name_of q) (names_of files) ≡ true → NamedAt files q d
named_at [] q d e = absurd (let no : false ≡ true = e in cc)
named_at (f ∷ fs) q d e = elim (or_either (same_file_name (name_of q) (name_of f.name)) (has_name (name_of q) (names_of fs)) e) [
  | inl h ↦ record { index = 0; within = omega arith; is = same_file q f.name h }
  | inr h ↦ let rest = named_at fs q d h in record { index = suc rest.index; within = omega (arith, rest.within); is = rest.is }
]

-- names in code are those that contain them
pub contained : (names : List FileName) (q : FileName) → has_name (name_of q) (map name_of names) ≡ true → Contains names q
contained [] q e = absurd (let no : false ≡ true = e in cc)
contained (n ∷ ns) q e = elim (or_either (same_file_name (name_of q) (name_of n)) (has_name (name_of q) (map name_of ns)) e) [
  | inl h ↦ (0, omega arith, sym (same_file q n h))
  | inr h ↦ let rest = contained ns q h in (suc rest.0, omega (arith, rest.1), rest.2)
]

pub named : (names : List FileName) (q : FileName) → Contains names q → has_name (name_of q) (map name_of names) ≡ true
named names q h = at names h.0 h.1 h.2
  where
    at : (ns : List FileName) (k : ℕ) → k < length ns → get_or ns k q ≡ q → has_name (name_of q) (map name_of ns) ≡ true
    at [] k lt e = absurd (omega arith)
    at (n ∷ ns) zero lt e =
        or_true (same_file_name (name_of q) (name_of n)) (has_name (name_of q) (map name_of ns)) (subst (λ m. same_file_name (name_of q) (name_of m) ≡ true) (sym e) (same_again (name_of q)))
    at (n ∷ ns) (suc k) lt e = or_second (same_file_name (name_of q) (name_of n)) (has_name (name_of q) (map name_of ns)) (at ns k (omega arith) e)

-- ---- one after the other

-- the files before the index are written, those from it on are as they were, and so is every other
pub record Progress (files : List NewBytes) (i : ℕ) (told told' : ToldFiles) : Type 0 where
  pub done : (k : ℕ) (d : NewBytes) → k < i → IsWritten told told' (get_or files k d)
  pub left : (k : ℕ) (d : NewBytes) → i ≤ k → k < length files → told' (get_or files k d).name ≡ told (get_or files k d).name
  pub others : TouchesOnly (names_of files) told told'

pub progress_none : (files : List NewBytes) (told : ToldFiles) → Progress files 0 told told
progress_none files told = record {
  done = λ k d lt. absurd (omega arith);
  left = λ k d le lt. refl;
  others = λ q not. refl;
}

pub progress_more : (files : List NewBytes) (i : ℕ) (f : NewBytes) (a b c : ToldFiles) → AllPairs (λ (x y : NewBytes). x.name ≢ y.name) files → i < length files → f ≡ get_or files i f
    → Progress files i a b → IsWritten b c f → ((q : FileName) → q ≢ f.name → c q ≡ b q) → Progress files (i + 1) a c
progress_more files i f a b c apart lt is p here others = record {
  done = λ k d below. below_more (λ j. IsWritten a c (get_or files j d)) i (λ j before. earlier j d before) (last d) k below;
  left = λ k d le within. others (get_or files k d).name (λ e. apart i k d (omega arith) within (ap (λ (x : NewBytes). x.name) (same_at d) ∙ sym e)) ∙ p.left k d (omega arith) within;
  others = λ q not. others q (other_name files i f q lt is not) ∙ p.others q not;
}
  where
    same_at : (d : NewBytes) → get_or files i d ≡ f
    same_at d = get_or_default files i d f lt ∙ sym is

    earlier : (j : ℕ) (d : NewBytes) → j < i → IsWritten a c (get_or files j d)
    earlier j d before = others (get_or files j d).name (λ e. apart j i d before lt (e ∙ sym (ap (λ (x : NewBytes). x.name) (same_at d)))) ∙ p.done j d before

    own : IsWritten a c f
    own = here ∙ ap (told_after (file_written f.bytes)) (subst (λ (x : NewBytes). b x.name ≡ a x.name) (sym is) (p.left i f (omega arith) lt))

    last : (d : NewBytes) → IsWritten a c (get_or files i d)
    last d = subst (IsWritten a c) (sym (same_at d)) own

-- a refused file may have changed
pub others_more : (files : List NewBytes) (i : ℕ) (f : NewBytes) (a b c : ToldFiles) → i < length files → f ≡ get_or files i f → TouchesOnly (names_of files) a b
    → ((q : FileName) → q ≢ f.name → c q ≡ b q) → TouchesOnly (names_of files) a c
others_more files i f a b c lt is before others q not = others q (other_name files i f q lt is not) ∙ before q not

pub crash_more : (files : List NewBytes) (i : ℕ) (f : NewBytes) (a b c : CrashLeaves) → i < length files → f ≡ get_or files i f → NoMoreBut (names_of files) a b
    → ((q : FileName) → q ≢ f.name → NoMore (b q) (c q)) → NoMoreBut (names_of files) a c
crash_more files i f a b c lt is before others q not e left = before q not e (others q (other_name files i f q lt is not) e left)

-- ---- the sync

pub same_written : (files : List NewBytes) (a b c : ToldFiles) → ((q : FileName) → c q ≡ b q) → All (IsWritten a b) files → All (IsWritten a c) files
same_written files a b c same all k d lt = same (get_or files k d).name ∙ all k d lt

pub settled : (names : List FileName) (b c : ToldFiles) (left : CrashLeaves) → ((q : FileName) → c q ≡ b q) → ((q : FileName) → Contains names q → IsSettled (b q) (left q))
    → AreSettled (map name_of names) c left
settled names b c left same durable q has now e told leaves = durable q (contained names q has) now e (sym (same q) ∙ told) leaves

not_absent : (bytes : List ℕ) (t : Told) → told_after (file_written bytes) t ≡ Some None → ⊥
not_absent bytes None e = let no : None ≡ Some None = e in cc
not_absent bytes (Some content) e = let no : Some (Some bytes) ≡ Some None = e in cc

-- a file that is absent once these are written is none of them, and was absent before
pub absent_before : (files : List NewBytes) (a b : ToldFiles) (q : FileName) → TouchesOnly (names_of files) a b → All (IsWritten a b) files → b q ≡ Some None
    → (has_name (name_of q) (names_of files) ≡ false) × (a q ≡ Some None)
absent_before files a b q others all e = by (has_name (name_of q) (names_of files)) refl
  where
    any_file : NewBytes
    any_file = record { name = q; bytes = [] }

    by : (h : Bool) → has_name (name_of q) (names_of files) ≡ h → (has_name (name_of q) (names_of files) ≡ false) × (a q ≡ Some None)
    by true h =
        let at = named_at files q any_file h in
        absurd (not_absent (get_or files at.index any_file).bytes (a (get_or files at.index any_file).name) (sym (all at.index any_file at.within) ∙ ap b (sym at.is) ∙ e))
    by false h = (h, sym (others q h) ∙ e)

-- a name that is among these isn't one that is not
pub none_of_both : (names : List Name) (q last : Name) → has_name last names ≡ false → has_name q names ≡ true → same_file_name q last ≡ false
none_of_both names q last not has = by (same_file_name q last) refl
  where
    by : (b : Bool) → same_file_name q last ≡ b → same_file_name q last ≡ false
    by true h = absurd (both_ways (has_name last names) not (subst (λ n. has_name n names ≡ true) (same_name_is q last h) has))
    by false h = h

pub or_none : (a b : Bool) → a ≡ false → b ≡ false → (a || b) ≡ false
or_none a b e f = rw (e, f) refl

-- ---- the last file

apart_from : (last : FileName) (names : List Name) (q : FileName) → has_name (name_of last) names ≡ false → has_name (name_of q) names ≡ true → q ≢ last
apart_from last names q not has e = both_ways (has_name (name_of last) names) not (subst (λ n. has_name (name_of n) names ≡ true) e has)

other_than : (q last : FileName) → same_file_name (name_of q) (name_of last) ≡ false → q ≢ last
other_than q last not e = both_ways (same_file_name (name_of q) (name_of last)) not (subst (λ n. same_file_name (name_of q) (name_of n) ≡ true) e (same_again (name_of q)))

pub others_with : (files : List NewBytes) (f : NewBytes) (a b c : ToldFiles) → TouchesOnly (names_of files) a b → ((q : FileName) → q ≢ f.name → c q ≡ b q) → TouchesOnly (names_of (f ∷ files)) a c
others_with files f a b c before others q not =
    let k = neither (same_file_name (name_of q) (name_of f.name)) (has_name (name_of q) (names_of files)) not in
    others q (other_than q f.name k.0) ∙ before q k.1

pub crash_with : (files : List NewBytes) (f : NewBytes) (a b c : CrashLeaves) → NoMoreBut (names_of files) a b → ((q : FileName) → q ≢ f.name → NoMore (b q) (c q)) → NoMoreBut (names_of (f ∷ files)) a c
crash_with files f a b c before others q not e left =
    let k = neither (same_file_name (name_of q) (name_of f.name)) (has_name (name_of q) (names_of files)) not in
    before q k.1 e (others q (other_than q f.name k.0) e left)

pub others_wider : (files : List NewBytes) (f : NewBytes) (a b : ToldFiles) → TouchesOnly (names_of files) a b → TouchesOnly (names_of (f ∷ files)) a b
others_wider files f a b before = others_with files f a b b before (λ q not. refl)

pub crash_wider : (files : List NewBytes) (f : NewBytes) (a b : CrashLeaves) → NoMoreBut (names_of files) a b → NoMoreBut (names_of (f ∷ files)) a b
crash_wider files f a b before = crash_with files f a b b before (λ q not e left. left)

pub still_written : (files : List NewBytes) (last : FileName) (a b c : ToldFiles) → has_name (name_of last) (names_of files) ≡ false → ((q : FileName) → q ≢ last → c q ≡ b q)
    → All (IsWritten a b) files → All (IsWritten a c) files
still_written files last a b c not others all k d lt = others (get_or files k d).name (apart_from last (names_of files) (get_or files k d).name not (named_there files k d lt)) ∙ all k d lt

pub last_written : (files : List NewBytes) (f : NewBytes) (a b c : ToldFiles) → has_name (name_of f.name) (names_of files) ≡ false → TouchesOnly (names_of files) a b → IsWritten b c f → IsWritten a c f
last_written files f a b c not before here = here ∙ ap (told_after (file_written f.bytes)) (before f.name not)

-- what was settled stays so
pub still_settled : (names : List Name) (last : FileName) (b c : ToldFiles) (l m : CrashLeaves) → has_name (name_of last) names ≡ false → ((q : FileName) → q ≢ last → c q ≡ b q)
    → ((q : FileName) → q ≢ last → NoMore (l q) (m q)) → AreSettled names b l → AreSettled names c m
still_settled names last b c l m not others crash all q has now e told left =
    let other : q ≢ last = apart_from last names q not has in
    all q has now e (sym (others q other) ∙ told) (crash q other e left)

pub last_settled : (names : List Name) (last : FileName) (c : ToldFiles) (m : CrashLeaves) → AreSettled names c m → IsSettled (c last) (m last) → AreSettled (name_of last ∷ names) c m
last_settled names last c m all own q has = elim (or_either (same_file_name (name_of q) (name_of last)) (has_name (name_of q) names) has) [
  | inl h ↦ subst (λ n. IsSettled (c n) (m n)) (sym (same_file q last h)) own
  | inr h ↦ all q h
]

pub untouched : (files : List NewBytes) (last : FileName) (names : List Name) (a b : ToldFiles) (l m : CrashLeaves) → has_name (name_of last) (names_of files) ≡ false → TouchesOnly (names_of files) a b
    → NoMoreBut (names_of files) l m → ComesLast last names a b l m
untouched files last names a b l m not others crash = inl (record { told_same = others last not; left_same = crash last not })

-- ---- a file that comes last

-- a file that wasn't touched, and then is torn at most, is torn at most
pub torn_last : (names : List Name) (q : FileName) (bytes : List ℕ) (told told' : ToldFiles) (left left' left'' : CrashLeaves) → has_name (name_of q) names ≡ false
    → TouchesOnly names told told' → NoMoreBut names left left' → OnlyTorn q bytes told' left' left'' → OnlyTorn q bytes told left left''
torn_last names q bytes told told' left left' left'' apart touches spared torn now is e after =
    elim (torn now (touches q apart ∙ is) e after) [ inl before ↦ inl (spared q apart e before) | inr t ↦ inr t ]
