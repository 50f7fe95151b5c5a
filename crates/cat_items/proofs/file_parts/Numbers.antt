-- A part that is spelled, and how it is read.
use Rattle.std.proofs.Common.{◌≡◌, ℕ, ◌^◌, ◌<◌, ◌≤◌, Bool, true, false, ◌&&◌, cond, ltb, List, [], ◌∷◌, ◌++◌, length, take, drop, Option, Some, None, refl, sym, ap, subst, ◌∙◌, append_assoc, arith, ◌≢◌}
use Rattle.std.specs.Str.{is_utf8, IsUtf8, bytes_eq}
use Rattle.std.proofs.lemmas.Slice.Eq.{bytes_eq-Decides}
use Rattle.std.specs.Int.{w32, w64, from_be_bytes, to_be_bytes}
use Rattle.std.proofs.lemmas.Bool.{ltb-false, le-ltb, ltb-true, lt-ltb}
use Rattle.std.proofs.lemmas.List.{take_at, drop_at, take-append-drop, length-append, length-take}
use Rattle.std.proofs.lemmas.Nat.{from_be_bytes-to_be_bytes_4, from_be_bytes-to_be_bytes_8}
use Rattle.std.proofs.lemmas.Str.{IsUtf8-from_is_utf8, is_utf8-from_IsUtf8}
use Rattle.cat_base.specs.Bytes.{spelled_u32, spelled_u64, spelled_bytes}
use Rattle.cat_items.specs.file_parts.Reading.{Reader, ◌>>=◌, byte_at, u32_at, u64_at, string_at, where_at}

-- what one reader reads is what is spelled so and passes P
pub record Reads {A : Type 0} (one : Reader A) (spell : A → List ℕ) (P : A → Type 0) : Type 0 where
  pub sound : (bytes : List ℕ) (x : A × List ℕ) → one bytes ≡ Some x → (bytes ≡ spell x.0 ++ x.1) × P x.0
  pub complete : (x : A) (rest : List ℕ) → P x → one (spell x ++ rest) ≡ Some (x, rest)

pub bind_some : {A B : Type 0} (r : Option A) (f : A → Option B) (y : B) → (r >>= f) ≡ Some y → (x : A) × (r ≡ Some x) × (f x ≡ Some y)
bind_some (Some x) f y e = (x, refl, e)
bind_some None f y e = absurd cc

pub bind_at : {A B : Type 0} (r : Option A) (f : A → Option B) (x : A) → r ≡ Some x → (r >>= f) ≡ f x
bind_at r f x e = ap (λ o. o >>= f) e

-- a test that let the value through, and one that kept it out
pub kept : {A : Type 0} (b : Bool) (x : Option A) (y : A) → cond b x None ≡ Some y → (b ≡ true) × (x ≡ Some y)
kept true x y e = (refl, e)
kept false x y e = absurd cc

pub passed : {A : Type 0} (b : Bool) (x : Option A) (y : A) → cond b None x ≡ Some y → (b ≡ false) × (x ≡ Some y)
passed true x y e = absurd cc
passed false x y e = (refl, e)

abbrev done : {A : Type 0} → A → Option A
done x = Some x

pub some_is : {A : Type 0} (x y : A) → done x ≡ done y → x ≡ y
some_is x y e = cc

pub at_some : {A : Type 0} (P : A → Type 0) (x y : A) → done x ≡ done y → P x → P y
at_some P x y e p = subst P (some_is x y e) p

-- one part and then another
pub then : (a x b y c : List ℕ) → a ≡ x ++ b → b ≡ y ++ c → a ≡ (x ++ y) ++ c
then a x b y c p q = p ∙ ap (λ (t : List ℕ). x ++ t) q ∙ sym (append_assoc x y c)

-- ---- numbers

-- two lists that the test finds equal are one
same_bytes : (xs ys : List ℕ) → bytes_eq xs ys ≡ true → xs ≡ ys
same_bytes xs ys = (bytes_eq-Decides xs ys).0

is_same : (xs : List ℕ) → bytes_eq xs xs ≡ true
is_same xs = (bytes_eq-Decides xs xs).1 refl

pub both_true : (a b : Bool) → (a && b) ≡ true → (a ≡ true) × (b ≡ true)
both_true true b e = (refl, e)
both_true false b e = absurd cc

pub not_kept : {A : Type 0} (b : Bool) (x : Option A) → (b ≡ true → ⊥) → cond b x None ≡ None
not_kept true x no_way = absurd (no_way refl)
not_kept false x no_way = refl

pub reads_u32 : Reads u32_at spelled_u32 (λ n. n < 2 ^ 32)
unfolding u32_at
reads_u32 = record {
  sound = λ bytes x e.
      let made : ℕ × List ℕ = (from_be_bytes w32 (take 4 bytes), drop 4 bytes) in
      let g = kept (ltb made.0 (2 ^ 32) && bytes_eq (spelled_u32 made.0) (take 4 bytes)) (Some made) x e in
      let h = both_true (ltb made.0 (2 ^ 32)) (bytes_eq (spelled_u32 made.0) (take 4 bytes)) g.0 in
      let front : spelled_u32 made.0 ≡ take 4 bytes = same_bytes (spelled_u32 made.0) (take 4 bytes) h.1 in
      at_some (λ (y : ℕ × List ℕ). (bytes ≡ spelled_u32 y.0 ++ y.1) × (y.0 < 2 ^ 32)) made x g.1
      (subst (λ (t : List ℕ). bytes ≡ t ++ drop 4 bytes) (sym front) (sym (take-append-drop 4 bytes)), ltb-true _ _ h.0);
  complete = λ n rest lt.
      let back : from_be_bytes w32 (to_be_bytes w32 n) ≡ n = from_be_bytes-to_be_bytes_4 n lt in
      rw (back, lt-ltb n (2 ^ 32) lt, is_same (spelled_u32 n)) refl;
}

pub u32_here : (old new : List ℕ) (n : ℕ) → n < 2 ^ 32 → old ≡ spelled_u32 n ++ new → u32_at old ≡ Some (n, new)
u32_here old new n small is = ap u32_at is ∙ reads_u32.complete n new small

pub u32_not : (old : List ℕ) → length old < 4 → u32_at old ≡ None
unfolding u32_at
u32_not old short =
    let read : ℕ = from_be_bytes w32 (take 4 old) in
    not_kept (ltb read (2 ^ 32) && bytes_eq (spelled_u32 read) (take 4 old)) (Some (read, drop 4 old))
    (λ e. let same : spelled_u32 read ≡ take 4 old = same_bytes (spelled_u32 read) (take 4 old) (both_true (ltb read (2 ^ 32)) _ e).1 in
    let long : length (take 4 old) ≡ 4 = sym (ap length same) in
    omega (arith, long, length-take 4 old))

pub reads_u64 : Reads u64_at spelled_u64 (λ n. n < 2 ^ 64)
unfolding u64_at
reads_u64 = record {
  sound = λ bytes x e.
      let made : ℕ × List ℕ = (from_be_bytes w64 (take 8 bytes), drop 8 bytes) in
      let g = kept (ltb made.0 (2 ^ 64) && bytes_eq (spelled_u64 made.0) (take 8 bytes)) (Some made) x e in
      let h = both_true (ltb made.0 (2 ^ 64)) (bytes_eq (spelled_u64 made.0) (take 8 bytes)) g.0 in
      let front : spelled_u64 made.0 ≡ take 8 bytes = same_bytes (spelled_u64 made.0) (take 8 bytes) h.1 in
      at_some (λ (y : ℕ × List ℕ). (bytes ≡ spelled_u64 y.0 ++ y.1) × (y.0 < 2 ^ 64)) made x g.1
      (subst (λ (t : List ℕ). bytes ≡ t ++ drop 8 bytes) (sym front) (sym (take-append-drop 8 bytes)), ltb-true _ _ h.0);
  complete = λ n rest lt.
      let back : from_be_bytes w64 (to_be_bytes w64 n) ≡ n = from_be_bytes-to_be_bytes_8 n lt in
      rw (back, lt-ltb n (2 ^ 64) lt, is_same (spelled_u64 n)) refl;
}

pub u64_here : (old new : List ℕ) (n : ℕ) → n < 2 ^ 64 → old ≡ spelled_u64 n ++ new → u64_at old ≡ Some (n, new)
u64_here old new n small is = ap u64_at is ∙ reads_u64.complete n new small

pub u64_not : (old : List ℕ) → length old < 8 → u64_at old ≡ None
unfolding u64_at
u64_not old short =
    let read : ℕ = from_be_bytes w64 (take 8 old) in
    not_kept (ltb read (2 ^ 64) && bytes_eq (spelled_u64 read) (take 8 old)) (Some (read, drop 8 old))
    (λ e. let same : spelled_u64 read ≡ take 8 old = same_bytes (spelled_u64 read) (take 8 old) (both_true (ltb read (2 ^ 64)) _ e).1 in
    let long : length (take 8 old) ≡ 8 = sym (ap length same) in
    omega (arith, long, length-take 8 old))

-- ---- bytes

pub reads_byte : Reads byte_at (λ b. b ∷ []) (λ b. Unit {0})
unfolding byte_at
reads_byte = record {
  sound = byte_sound;
  complete = λ b rest h. refl;
}
  where
    byte_sound : (bytes : List ℕ) (x : ℕ × List ℕ) → byte_at bytes ≡ Some x → (bytes ≡ x.0 ∷ x.1) × Unit {0}
    byte_sound [] x e = absurd cc
    byte_sound (b ∷ rest) x e = at_some (λ (y : ℕ × List ℕ). (b ∷ rest ≡ y.0 ∷ y.1) × Unit {0}) (b, rest) x e (refl, tt)

pub byte_here : (old new : List ℕ) (b : ℕ) → old ≡ b ∷ new → byte_at old ≡ Some (b, new)
unfolding byte_at
byte_here old new b is = ap byte_at is

pub byte_not : (old : List ℕ) → old ≡ [] → byte_at old ≡ None
unfolding byte_at
byte_not old is = ap byte_at is

-- ---- byte strings

pub reads_string : Reads string_at spelled_bytes (λ t. length t < 2 ^ 32)
unfolding string_at
reads_string = record {
  sound = λ bytes x e.
      let b = bind_some (u32_at bytes) (λ n. cond (ltb (length n.1) n.0) None (Some (take n.0 n.1, drop n.0 n.1))) x e in
      let n = b.0 in
      let t = reads_u32.sound bytes n b.1 in
      let made : List ℕ × List ℕ = (take n.0 n.1, drop n.0 n.1) in
      let g = passed (ltb (length n.1) n.0) (Some made) x b.2 in
      let long : n.0 ≤ length n.1 = ltb-false _ _ g.0 in
      let len : length (take n.0 n.1) ≡ n.0 = omega (arith, length-take n.0 n.1) in
      let both = then bytes (spelled_u32 n.0) n.1 (take n.0 n.1) (drop n.0 n.1) t.0 (sym (take-append-drop n.0 n.1)) in
      let whole : bytes ≡ spelled_bytes (take n.0 n.1) ++ drop n.0 n.1 = subst (λ (k : ℕ). bytes ≡ (spelled_u32 k ++ take n.0 n.1) ++ drop n.0 n.1) (sym len) both in
      at_some (λ (y : List ℕ × List ℕ). (bytes ≡ spelled_bytes y.0 ++ y.1) × (length y.0 < 2 ^ 32)) made x g.1 (whole, omega (arith, t.1, len));
  complete = λ text rest lt.
      let long : ltb (length (text ++ rest)) (length text) ≡ false = le-ltb _ _ (omega (arith, length-append text rest)) in
      rw (reads_u32.complete (length text) (text ++ rest) lt, long, take_at text rest (length text) refl, drop_at text rest (length text) refl) refl;
}

pub string_here : (old new bytes : List ℕ) → length bytes < 2 ^ 32 → old ≡ spelled_bytes bytes ++ new → string_at old ≡ Some (bytes, new)
string_here old new bytes small is = ap string_at is ∙ reads_string.complete bytes new small

pub string_not : (old : List ℕ) → ((bytes rest : List ℕ) → length bytes < 2 ^ 32 → old ≢ spelled_bytes bytes ++ rest) → string_at old ≡ None
string_not old none = by (string_at old) refl
  where
    by : (r : Option (List ℕ × List ℕ)) → string_at old ≡ r → r ≡ None
    by (Some x) is = let s = reads_string.sound old x is in absurd (none x.0 x.1 s.1 s.0)
    by None is = refl

-- ---- texts

pub text_here : (bytes text rest : List ℕ) → string_at bytes ≡ Some (text, rest) → IsUtf8 text → where_at is_utf8 string_at bytes ≡ Some (text, rest)
unfolding where_at
text_here bytes text rest e u = rw (e, is_utf8-from_IsUtf8 text u) refl

pub text_not : (bytes text rest : List ℕ) → string_at bytes ≡ Some (text, rest) → ¬ (IsUtf8 text) → where_at is_utf8 string_at bytes ≡ None
unfolding where_at
text_not bytes text rest e u = by (is_utf8 text) refl
  where
    by : (b : Bool) → is_utf8 text ≡ b → where_at is_utf8 string_at bytes ≡ None
    by true is = absurd (u (IsUtf8-from_is_utf8 text is))
    by false is = rw (e, is) refl
