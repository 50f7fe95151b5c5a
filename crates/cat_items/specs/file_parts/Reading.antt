-- Reading from left to right: a value and the bytes after it, or nothing. These are what the private functions are held to;
-- the public contracts speak of what is spelled alone.
use Rattle.std.specs.Prelude.{◌≡◌, ℕ, zero, suc, ◌^◌, List, [], ◌∷◌, ◌++◌, length, take, drop, Option, Some, None, Result, Ok, Err, Bool, nat_lt, ◌&&◌, if◌then◌else◌, bytes_eq}
use Rattle.std.specs.Str.{is_utf8}
use Rattle.std.specs.Int.{w32, w64, from_be_bytes}
use Rattle.cat_base.specs.Bytes.{spelled_u32, spelled_u64}
use Rattle.cat_base.specs.declared.refusal.Refusal.{Refusal}
use Rattle.cat_base.specs.declared.refusal.Refusal.TheVariants.{Damaged, Memory}
use Rattle.cat_items.specs.declared.file_parts.cursor.Unreadable.{Unreadable}

abbrev pub Reader : Type 0 → Type 0
Reader A = List ℕ → Option (A × List ℕ)

infixl 10 ◌>>=◌
abbrev pub ◌>>=◌ : {A B : Type 0} → Option A → (A → Option B) → Option B
(Some x) >>= f = f x
None >>= f = None

-- what a function that takes no memory returned, seen by `view`, is what reading gives
abbrev pub Finds : {X Y : Type 0} → (X → Y) → Result X Unreadable → Option Y → Type 0
Finds view (Ok x) read = read ≡ Some (view x)
Finds view (Err e) read = read ≡ None

-- the bytes after what is read
abbrev pub rest_of : {A : Type 0} → Option (A × List ℕ) → Option (List ℕ)
rest_of (Some x) = Some x.1
rest_of None = None

-- a function passed over what can be read, up to the bytes `after`, or nothing can be read
abbrev pub Passes : {X A : Type 0} → List ℕ → Result X Unreadable → Option (A × List ℕ) → Type 0
Passes after (Ok done) read = rest_of read ≡ Some after
Passes after (Err e) read = rest_of read ≡ None

-- a refusal stands where nothing is read, or memory ran out
abbrev pub Fails : {Y : Type 0} → Refusal → Option Y → Type 0
Fails Memory read = Unit {0}
Fails Damaged read = read ≡ None
Fails e read = ⊥

-- what a function returned, seen by `view`, is what reading gives, unless memory ran out
abbrev pub Gives : {X Y : Type 0} → (X → Y) → Result X Refusal → Option Y → Type 0
Gives view (Ok x) read = read ≡ Some (view x)
Gives view (Err e) read = Fails e read

unfoldable pub byte_at : Reader ℕ
byte_at [] = None
byte_at (b ∷ rest) = Some (b, rest)

-- the number of the first bytes, and whether they are just its bytes
abbrev pub first_u32 : List ℕ → ℕ
first_u32 bytes = from_be_bytes w32 (take 4 bytes)

abbrev pub is_first_u32 : List ℕ → Bool
is_first_u32 bytes = nat_lt (first_u32 bytes) (2 ^ 32) && bytes_eq (spelled_u32 (first_u32 bytes)) (take 4 bytes)

abbrev pub first_u64 : List ℕ → ℕ
first_u64 bytes = from_be_bytes w64 (take 8 bytes)

abbrev pub is_first_u64 : List ℕ → Bool
is_first_u64 bytes = nat_lt (first_u64 bytes) (2 ^ 64) && bytes_eq (spelled_u64 (first_u64 bytes)) (take 8 bytes)

-- the number that the first bytes spell
unfoldable pub u32_at : Reader ℕ
u32_at bytes = if is_first_u32 bytes then Some (first_u32 bytes, drop 4 bytes) else None

unfoldable pub u64_at : Reader ℕ
u64_at bytes = if is_first_u64 bytes then Some (first_u64 bytes, drop 8 bytes) else None

-- a length of four bytes, and that many bytes
unfoldable pub string_at : Reader (List ℕ)
string_at bytes = do
  n ← u32_at bytes
  if nat_lt (length n.1) n.0 then None else Some (take n.0 n.1, drop n.0 n.1)

-- what is read passes the test
unfoldable pub where_at : {A : Type 0} → (A → Bool) → Reader A → Reader A
where_at passes one bytes = do
  x ← one bytes
  if passes x.0 then Some x else None

-- one after the other, made into one value; how the second is read may hang on the first
unfoldable pub both_at : {A B C : Type 0} → Reader A → (A → Reader B) → (A → B → C) → Reader C
both_at one two make bytes = do
  first ← one bytes
  second ← two first.0 first.1
  Some (make first.0 second.0, second.1)

-- so many, each read alike
unfoldable pub many_at : {A : Type 0} → Reader A → ℕ → Reader (List A)
many_at one zero bytes = Some ([], bytes)
many_at one (suc n) bytes = do
  first ← one bytes
  others ← many_at one n first.1
  Some (first.0 ∷ others.0, others.1)

-- how many, and so many of them
abbrev pub counted_at : {A : Type 0} → Reader A → Reader (List A)
counted_at one = both_at u32_at (λ n. many_at one n) (λ n xs. xs)

-- what was read before, and what is still read
abbrev pub with_front : {A : Type 0} → List A → Option (List A × List ℕ) → Option (List A × List ℕ)
with_front front read = read >>= λ x. Some (front ++ x.0, x.1)

-- a text, which passes the test
abbrev pub tested_text_at : (List ℕ → Bool) → Reader (List ℕ)
tested_text_at passes = where_at passes (where_at is_utf8 string_at)
