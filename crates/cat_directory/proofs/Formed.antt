-- The two ways of saying that a file can have a name.
use Rattle.std.proofs.Common.{◌≡◌, ◌^◌, ℕ, Bool, true, false, true≢false, refl, sym, subst, List}
use Rattle.std.specs.Prelude.{◌&&◌, nat_lt, Contains}
use Rattle.std.specs.BTreeSet.{insert_key}
use Rattle.std.proofs.lemmas.List.Elements.{All-contains}
use Rattle.std.proofs.lemmas.Map.Views.{All-insert_key}
use Rattle.std.proofs.lemmas.Bool.{ltb-true, lt-ltb}
use Rattle.cat_model.specs.Files.{IsFileNumber, IsFileName}
use Rattle.cat_directory.specs.declared.name.FileName.{FileName}
use Rattle.cat_directory.specs.declared.name.FileName.TheVariants as file
use Rattle.cat_directory.specs.Names.{name_of, name_cmp, is_file_number, is_formed}
use Rattle.cat_directory.specs.Folders.{AllFormed}

both : (a b : Bool) → (a && b) ≡ true → (a ≡ true) × (b ≡ true)
both true true e = (refl, refl)
both true false e = absurd (true≢false (sym e))
both false b e = absurd (true≢false (sym e))

joined : (a b : Bool) → a ≡ true → b ≡ true → (a && b) ≡ true
joined true true e f = refl
joined true false e f = absurd (true≢false (sym f))
joined false b e f = absurd (true≢false (sym e))

number_of : (n : ℕ) → is_file_number n ≡ true → IsFileNumber n
number_of n e = let parts = both (nat_lt 0 n) (nat_lt n (2 ^ 63)) e in (ltb-true 0 n parts.0, ltb-true n (2 ^ 63) parts.1)

is_number : (n : ℕ) → IsFileNumber n → is_file_number n ≡ true
is_number n h = joined (nat_lt 0 n) (nat_lt n (2 ^ 63)) (lt-ltb 0 n h.0) (lt-ltb n (2 ^ 63) h.1)

pub form_of : (x : FileName) → is_formed x ≡ true → IsFileName (name_of x)
form_of (file.Segment n) e = number_of n e
form_of (file.Source n) e = number_of n e
form_of (file.Live n d) e = let parts = both (is_file_number n) (is_file_number d) e in (number_of n parts.0, number_of d parts.1)
form_of (file.Commit g) e = number_of g e

pub formed_of : (x : FileName) → IsFileName (name_of x) → is_formed x ≡ true
formed_of (file.Segment n) h = is_number n h
formed_of (file.Source n) h = is_number n h
formed_of (file.Live n d) h = joined (is_file_number n) (is_file_number d) (is_number n h.0) (is_number d h.1)
formed_of (file.Commit g) h = is_number g h

-- ---- names among others

pub all_with : (ks new : List FileName) (k : FileName) → new ≡ insert_key name_cmp ks k → IsFileName (name_of k) → AllFormed ks → AllFormed new
all_with ks new k e form all = subst AllFormed (sym e) (All-insert_key name_cmp k (λ x. IsFileName (name_of x)) ks all form)

pub listed_form : (names : List FileName) → AllFormed names → (name : FileName) → Contains names name → IsFileName (name_of name)
listed_form names all name has = All-contains (λ x. IsFileName (name_of x)) names name all has
