-- Texts split at their first space, and the numbers, sorts and marks before it.
use Rattle.std.proofs.Common.{◌≡◌, ◌≢◌, ℕ, zero, suc, ◌<◌, ◌^◌, List, [], ◌∷◌, ◌++◌, length, codes, get_or, leb, refl, sym, ap, ◌∙◌, true≢false, arith}
use Rattle.std.proofs.lemmas.Bool.{and_parts}
use Rattle.std.proofs.lemmas.Bool.Decides.{nat_tests}
use Rattle.std.specs.List.{list_all}
use Rattle.std.specs.Bool.{then_some}
use Rattle.std.specs.Char.{is_ascii_lowercase}
use Rattle.std.specs.Prelude.{Option, Some, None, IfSome, IfNone, Bool, true, false, nat_lt, ◌&&◌}
use denote.Ref.{Bor}
use Rattle.std.specs.Fmt.{decimal}
use Rattle.std.proofs.lemmas.Fmt.{decimal_is_IsNumeral, decimal_injective}
use Rattle.std.proofs.lemmas.Str.Parse.{digit_at}
use Rattle.std.proofs.lemmas.Str.Pattern.{IsSplitOnceResult, split_parts}
use Rattle.cat_model.specs.Text.{Text}
use Rattle.cat_model.specs.Item.{is_name_byte, has_name_form}
use Rattle.cat_model.specs.Page.{Sort}
use Rattle.cat_model.specs.Lines.{IsNumber, IsSort, sort_text, mark_text}
use Rattle.cat_protocol.specs.lines.Words.{HasNoSpace}

-- ---- where a text is split

abbrev pub Split : Type 0
Split = Option (Bor (List ℕ) × Bor (List ℕ))

pub split_first : (text : Text) (r : Split) → IsSplitOnceResult 32 text r → IfSome r (λ parts. HasNoSpace parts.0.now)
split_first text None h = tt
split_first text (Some parts) h = (split_parts 32 text (Some parts) h (omega arith)).1

pub split_none : (text : Text) (r : Split) → IsSplitOnceResult 32 text r → IfNone r (HasNoSpace text)
split_none text None h = split_parts 32 text None h (omega arith)
split_none text (Some parts) h = tt

-- a text with a space in it has a space
pub space_within : (word rest : Text) → HasNoSpace (word ++ 32 ∷ rest) → ⊥
space_within [] rest none = none 0 (omega arith) refl
space_within (b ∷ word) rest none = space_within word rest (λ i h. none (suc i) (omega arith))

behind : (b : ℕ) (word : Text) → HasNoSpace (b ∷ word) → HasNoSpace word
behind b word none i h = none (suc i) (omega arith)

-- a text has one first space
pub one_split : (word other rest left : Text) → HasNoSpace word → HasNoSpace other
    → word ++ 32 ∷ rest ≡ other ++ 32 ∷ left → (word ≡ other) × (rest ≡ left)
one_split [] [] rest left h k e = (refl, cc)
one_split [] (b ∷ other) rest left h k e = let first : 32 ≡ b = cc in absurd (k 0 (omega arith) (sym first))
one_split (b ∷ word) [] rest left h k e = let first : b ≡ 32 = cc in absurd (h 0 (omega arith) first)
one_split (b ∷ word) (d ∷ other) rest left h k e =
    let first : b ≡ d = cc in
    let more = one_split word other rest left (behind b word h) (behind d other k) cc in
    let front = more.0 in
    (cc, more.1)

abbrev pub all_behind_space : Text → Bool
all_behind_space [] = true
all_behind_space (b ∷ text) = nat_lt 32 b && all_behind_space text

-- no space is in a text of letters
pub letters_no_space : (text : Text) → all_behind_space text ≡ true → HasNoSpace text
letters_no_space [] h i k e = absurd (omega arith)
letters_no_space (b ∷ text) h zero k e = let above : 32 < b = grind (arith, nat_tests) in omega (arith, above, e)
letters_no_space (b ∷ text) h (suc i) k e = letters_no_space text (grind (arith, nat_tests)) i (omega arith) e

-- ---- numbers

pub decimal_no_space : (n : ℕ) → n < 2 ^ 64 → HasNoSpace (decimal n)
decimal_no_space n h i k e = let range = digit_at (decimal n) i (decimal_is_IsNumeral n h).0.1 k in omega (arith, range.0, e)

pub one_number : (n m : ℕ) (rest left : Text) → IsNumber n → IsNumber m → decimal n ++ 32 ∷ rest ≡ decimal m ++ 32 ∷ left → (n ≡ m) × (rest ≡ left)
one_number n m rest left h k e =
    let split = one_split (decimal n) (decimal m) rest left (decimal_no_space n (omega arith)) (decimal_no_space m (omega arith)) e in
    (decimal_injective n m (omega arith) (omega arith) split.0, split.1)

-- ---- sorts and marks

first_behind : (b : ℕ) (text : Text) → b ≢ 32 → HasNoSpace text → HasNoSpace (b ∷ text)
first_behind b text other none zero k e = other e
first_behind b text other none (suc i) k e = none i (omega arith) e

name_byte_behind_space : (b : ℕ) → is_name_byte b ≡ true → 32 < b
name_byte_behind_space b h = grind (arith, nat_tests)

name_bytes_no_space : (name : Text) → list_all is_name_byte name ≡ true → HasNoSpace name
name_bytes_no_space [] h = λ i k e. absurd (omega arith)
name_bytes_no_space (b ∷ name) h =
    let parts = and_parts (is_name_byte b) (list_all is_name_byte name) h in
    let above = name_byte_behind_space b parts.0 in
    first_behind b name (λ e. omega (arith, above, e)) (name_bytes_no_space name parts.1)

lower_behind_space : (b : ℕ) → is_ascii_lowercase b ≡ true → 32 < b
lower_behind_space b h = grind (arith, nat_tests)

pub name_no_space : (name : Text) → has_name_form name ≡ true → HasNoSpace name
name_no_space [] h = λ i k e. absurd (omega arith)
name_no_space (b ∷ name) h =
    let parts = and_parts (is_ascii_lowercase b && list_all is_name_byte name) (leb (length name) 31) h in
    let bytes = and_parts (is_ascii_lowercase b) (list_all is_name_byte name) parts.0 in
    let above = lower_behind_space b bytes.0 in
    first_behind b name (λ e. omega (arith, above, e)) (name_bytes_no_space name bytes.1)

pub sort_no_space : (sort : Sort) → IsSort sort → HasNoSpace (sort_text sort)
sort_no_space Sort.added h = letters_no_space (codes ".") refl
sort_no_space (Sort.rising name) h = first_behind 43 name (λ e. omega (arith, e)) (name_no_space name h)
sort_no_space (Sort.falling name) h = first_behind 45 name (λ e. omega (arith, e)) (name_no_space name h)

pub mark_no_space : (mark : Option ℕ) → IfSome mark IsNumber → HasNoSpace (mark_text mark)
mark_no_space None h = letters_no_space (codes ".") refl
mark_no_space (Some n) h = decimal_no_space n (omega (arith, h))

-- a text begins with one sort
pub one_sort : (found sort : Sort) (rest left : Text) → IsSort found → IsSort sort → sort_text found ++ 32 ∷ rest ≡ sort_text sort ++ 32 ∷ left → rest ≡ left
one_sort found sort rest left h k e = (one_split (sort_text found) (sort_text sort) rest left (sort_no_space found h) (sort_no_space sort k) e).1

-- a word that is no dot and has no sign spells no sort
pub no_sort : (word : Text) → word ≢ codes "." → ((name : Text) → word ≢ 43 ∷ name) → ((name : Text) → word ≢ 45 ∷ name) → (sort : Sort) → IsSort sort → word ≡ sort_text sort → ⊥
no_sort word dot plus minus Sort.added form e = dot e
no_sort word dot plus minus (Sort.rising name) form e = plus name e
no_sort word dot plus minus (Sort.falling name) form e = minus name e

-- a text begins with one name
pub one_name : (found name rest left : Text) → has_name_form found ≡ true → has_name_form name ≡ true → found ++ 32 ∷ rest ≡ name ++ 32 ∷ left → (found ≡ name) × (rest ≡ left)
one_name found name rest left h k e = one_split found name rest left (name_no_space found h) (name_no_space name k) e

-- what is answered where a test holds, and else none
pub formed_some : {A : Type 0} (P : A → Type 0) (r : Option A) (formed : Bool) (x : A) → r ≡ then_some formed x → (formed ≡ true → P x) → IfSome r P
formed_some P r true x is so = rw is (so refl)
formed_some P r false x is so = rw is tt

pub formed_or_none : {A : Type 0} (Q : Type 0) (r : Option A) (formed : Bool) (x : A) → r ≡ then_some formed x → (formed ≡ false → Q) → IfNone r Q
formed_or_none Q r true x is so = rw is tt
formed_or_none Q r false x is so = rw is (so refl)

-- a sign and a name without the form of one spell no sort
pub unformed_rising : (word name : Text) → word ≡ 43 ∷ name → has_name_form name ≡ false → (sort : Sort) → IsSort sort → word ≡ sort_text sort → ⊥
unformed_rising word name is unlike Sort.added form e = absurd (omega (arith, ap (λ t. get_or t 0 0) (sym is ∙ e)))
unformed_rising word name is unlike (Sort.rising n) form e =
    let both : 43 ∷ name ≡ 43 ∷ n = sym is ∙ e in
    let same : name ≡ n = cc in
    true≢false (sym form ∙ ap has_name_form (sym same) ∙ unlike)
unformed_rising word name is unlike (Sort.falling n) form e = absurd (omega (arith, ap (λ t. get_or t 0 0) (sym is ∙ e)))

pub unformed_falling : (word name : Text) → word ≡ 45 ∷ name → has_name_form name ≡ false → (sort : Sort) → IsSort sort → word ≡ sort_text sort → ⊥
unformed_falling word name is unlike Sort.added form e = absurd (omega (arith, ap (λ t. get_or t 0 0) (sym is ∙ e)))
unformed_falling word name is unlike (Sort.rising n) form e = absurd (omega (arith, ap (λ t. get_or t 0 0) (sym is ∙ e)))
unformed_falling word name is unlike (Sort.falling n) form e =
    let both : 45 ∷ name ≡ 45 ∷ n = sym is ∙ e in
    let same : name ≡ n = cc in
    true≢false (sym form ∙ ap has_name_form (sym same) ∙ unlike)
