-- Each step from left to right is determined, so where a text stops being read is the farthest place that it is read to.
use Rattle.std.proofs.Common.{◌≡◌, ◌≢◌, ℕ, ◌-◌, ◌+◌, ◌<◌, ◌≤◌, List, [], ◌∷◌, ◌++◌, length, drop, Result, Ok, Err, Option, Some, None, Bool, true, false, true≢false, nat_eq, eqb, ltb, leb, cond, codes, ◌||◌, ◌&&◌, ◌⊎◌, inl, inr, refl, sym, ap, subst, ◌∙◌, append_assoc, arith, length-append}
use Rattle.std.specs.Prelude.{IsTrue, not, find, ◌==◌}
use Rattle.std.proofs.lemmas.Bool.{ne_eqb, eqb-true, or_cases, or_parts, and_parts, lt-ltb, not-true, false_from_ne_true}
use Rattle.std.proofs.lemmas.Slice.Eq.{bytes_eq-Decides}
use Rattle.std.specs.List.{AllByRecursion, starts_with, list_all}
use Rattle.std.specs.Char.{is_ascii_lowercase}
use Rattle.cat_model.specs.Text.{Text, same_text}
use Rattle.cat_model.specs.Item.{Schema, Field, IsSchema, Kind, kind_of, is_field_name, has_name_form, is_name_byte}
use Rattle.cat_model.specs.Query.{Primary}
use Rattle.cat_model.specs.Grammar.{Asks, Means}
use Rattle.cat_model.specs.Faults.{Next, IsWhole, PassesOver, ReadsTo}
use Rattle.cat_model.specs.Reader.{term_at, value_at, name_at, behind_name}
use Rattle.cat_model.proofs.QueryValues.{map_some, chosen, differs}
use Rattle.cat_model.proofs.QueryTerms.{NoValue, option_cases, name_is, name_parts, behind_is, term_no_field, value_of, value_of_complete, value_of_none}

-- ---- names begin with a lower letter

record LowerFirst (name : Text) : Type 0 where
  first : ℕ
  others : Text
  parts : name ≡ first ∷ others
  lower : is_ascii_lowercase first ≡ true

name_lower : (name : Text) → is_field_name name ≡ true → LowerFirst name
name_lower [] e = absurd cc
name_lower (b ∷ bs) e =
    let form = (and_parts (has_name_form (b ∷ bs)) (not (same_text (b ∷ bs) (codes "id"))) e).0 in
    let bytes = (and_parts (is_ascii_lowercase b && list_all is_name_byte bs) (leb (length bs) 31) form).0 in
    record { first = b; others = bs; parts = refl; lower = (and_parts (is_ascii_lowercase b) (list_all is_name_byte bs) bytes).0 }

found_lower : (fields : List Field) → AllByRecursion (λ f. IsTrue (is_field_name f.name)) fields → (name : Text) (f : Field) → find (λ f. same_text f.name name) fields ≡ Some f → LowerFirst name
found_lower [] all name f e = absurd cc
found_lower (x ∷ fields) all name f e = elim (chosen (same_text x.name name) (Some x) (find (λ f. same_text f.name name) fields) (Some f) e) [
  | inl h ↦ subst LowerFirst ((bytes_eq-Decides x.name name).0 h.0) (name_lower x.name all.0)
  | inr h ↦ found_lower fields all.1 name f h.1
]

-- the name of a field begins with a lower letter
field_lower : (schema : Schema) → IsSchema schema → (name : Text) (k : Kind) → kind_of schema name ≡ Some k → LowerFirst name
field_lower schema ok name k e =
    let m = map_some (λ (f : Field). f.kind) (find (λ f. same_text f.name name) schema) k e in
    found_lower schema ok.named name m.0 m.1

-- no name of a field begins with another byte
no_name : (schema : Schema) → IsSchema schema → (b : ℕ) (bs : Text) → is_ascii_lowercase b ≡ false → kind_of schema (name_at (b ∷ bs)) ≡ None
no_name schema ok b bs e = elim (option_cases (kind_of schema (name_at (b ∷ bs)))) [
  | inl f ↦ f
  | inr f ↦
      let l = field_lower schema ok (name_at (b ∷ bs)) f.0 f.1 in
      let same : b ∷ bs ≡ l.first ∷ (l.others ++ behind_name (b ∷ bs)) = name_parts (b ∷ bs) ∙ ap (λ (x : Text). x ++ behind_name (b ∷ bs)) l.parts in
      absurd (true≢false (sym l.lower ∙ ap is_ascii_lowercase (first_same b l.first bs (l.others ++ behind_name (b ∷ bs)) same) ∙ e))
]
  where
    first_same : (b c : ℕ) (bs cs : Text) → b ∷ bs ≡ c ∷ cs → c ≡ b
    first_same b c bs cs e = cc

-- no term begins with another byte
pub no_term : (schema : Schema) → IsSchema schema → (b : ℕ) (bs : Text) → is_ascii_lowercase b ≡ false → term_at schema (b ∷ bs) ≡ Err (length (b ∷ bs))
no_term schema ok b bs e = term_no_field schema (b ∷ bs) (no_name schema ok b bs e)

-- ---- steps as a function

-- `+` or `-`
abbrev pub is_sign : ℕ → Bool
is_sign b = b == 43 || b == 45

-- `(`, `*` or a lower letter
abbrev pub begins_primary : ℕ → Bool
begins_primary b = b == 40 || b == 42 || is_ascii_lowercase b

-- what comes next in the rest of a text, if it goes on
pub data Move : Type 0 where
  stops : Move
  goes : Next → Text → Move

-- behind a name
abbrev name_move : ℕ → ℕ → Text → Option Kind → Text → Move
name_move c g name None behind = stops
name_move c g name (Some k) [] = stops
name_move c g name (Some k) (b ∷ bs) = cond (eqb b 58) (goes (Next.a_value name k c g) bs) stops

abbrev value_move : ℕ → ℕ → Result (Primary × Text) ℕ → Move
value_move c g (Ok x) = goes (Next.an_end c g) x.1
value_move c g (Err left) = stops

-- a `)`
abbrev shut_move : ℕ → ℕ → Text → Move
shut_move c g behind = cond (eqb g 0) stops (goes (Next.an_end c (g - 1)) behind)

abbrev begin_move : ℕ → ℕ → ℕ → Text → Move
begin_move c g b bs =
    cond (is_sign b || begins_primary b) (cond (ltb c 64) (cond (is_sign b) (goes (Next.a_primary (c + 1) g) bs) (goes (Next.a_primary (c + 1) g) (b ∷ bs))) stops) stops

abbrev star_move : ℕ → ℕ → Text → Move
star_move c g rest = cond (starts_with nat_eq rest (42 ∷ 58 ∷ 42 ∷ [])) (goes (Next.an_end c g) (drop 3 rest)) stops

unfoldable pub move : Schema → Next → Text → Move
move schema (Next.a_clause c g new) [] = stops
move schema (Next.a_clause c g new) (b ∷ bs) = cond (eqb b 32) (goes (Next.a_clause c g new) bs) (cond (eqb b 41) (cond new stops (shut_move c g bs)) (begin_move c g b bs))
move schema (Next.a_primary c g) [] = stops
move schema (Next.a_primary c g) (b ∷ bs) =
    cond (eqb b 40) (cond (ltb g 8) (goes (Next.a_clause c (g + 1) true) bs) stops)
    (cond (eqb b 42) (star_move c g (b ∷ bs)) (name_move c g (name_at (b ∷ bs)) (kind_of schema (name_at (b ∷ bs))) (behind_name (b ∷ bs))))
move schema (Next.a_value name k c g) rest = value_move c g (value_of name k rest)
move schema (Next.an_end c g) [] = stops
move schema (Next.an_end c g) (b ∷ bs) = cond (eqb b 32) (goes (Next.a_clause c g false) bs) (cond (eqb b 41) (shut_move c g bs) stops)

-- ---- each step

begin_with : (schema : Schema) (c g b : ℕ) (bs : Text) (new : Bool) → eqb b 32 ≡ false → eqb b 41 ≡ false → move schema (Next.a_clause c g new) (b ∷ bs) ≡ begin_move c g b bs
unfolding move
begin_with schema c g b bs new x y = rw (x, y) refl

sign_move : (schema : Schema) (c g b : ℕ) (bs : Text) (new : Bool) → is_sign b ≡ true → c < 64 → move schema (Next.a_clause c g new) (b ∷ bs) ≡ goes (Next.a_primary (c + 1) g) bs
sign_move schema c g b bs new s l =
    let few : ltb c 64 ≡ true = lt-ltb c 64 l in
    begin_with schema c g b bs new (differs is_sign b 32 s refl) (differs is_sign b 41 s refl) ∙ tests (is_sign b) (begins_primary b) (ltb c 64) s few
  where
    tests : (x y z : Bool) → x ≡ true → z ≡ true → cond (x || y) (cond z (cond x (goes (Next.a_primary (c + 1) g) bs) (goes (Next.a_primary (c + 1) g) (b ∷ bs))) stops) stops ≡ goes (Next.a_primary (c + 1) g) bs
    tests x y z e f = rw (e, f) refl

primary_no_sign : (b : ℕ) → begins_primary b ≡ true → is_sign b ≡ false
primary_no_sign b e = false_from_ne_true (is_sign b) (λ h. elim (or_cases (eqb b 43) (eqb b 45) h) [
  | inl k ↦ true≢false (sym e ∙ ap begins_primary (eqb-true b 43 k))
  | inr k ↦ true≢false (sym e ∙ ap begins_primary (eqb-true b 45 k))
])

no_sign_move : (schema : Schema) (c g b : ℕ) (bs : Text) (new : Bool) → begins_primary b ≡ true → c < 64 → move schema (Next.a_clause c g new) (b ∷ bs) ≡ goes (Next.a_primary (c + 1) g) (b ∷ bs)
no_sign_move schema c g b bs new p l =
    begin_with schema c g b bs new (differs begins_primary b 32 p refl) (differs begins_primary b 41 p refl) ∙ tests (is_sign b) (begins_primary b) (ltb c 64) (primary_no_sign b p) p (lt-ltb c 64 l)
  where
    tests : (x y z : Bool) → x ≡ false → y ≡ true → z ≡ true → cond (x || y) (cond z (cond x (goes (Next.a_primary (c + 1) g) bs) (goes (Next.a_primary (c + 1) g) (b ∷ bs))) stops) stops ≡ goes (Next.a_primary (c + 1) g) (b ∷ bs)
    tests x y z e f h = rw (e, f, h) refl

open_move : (schema : Schema) (c g : ℕ) (bs : Text) → g < 8 → move schema (Next.a_primary c g) (40 ∷ bs) ≡ goes (Next.a_clause c (g + 1) true) bs
unfolding move
open_move schema c g bs l = let h : ltb g 8 ≡ true = lt-ltb g 8 l in rw h refl

all_move : (schema : Schema) (c g : ℕ) (bs : Text) → move schema (Next.a_primary c g) (42 ∷ 58 ∷ 42 ∷ bs) ≡ goes (Next.an_end c g) bs
unfolding move
all_move schema c g bs = refl

-- a primary that begins with a lower letter
lower_move : (schema : Schema) (c g b : ℕ) (bs : Text) → is_ascii_lowercase b ≡ true → move schema (Next.a_primary c g) (b ∷ bs) ≡ name_move c g (name_at (b ∷ bs)) (kind_of schema (name_at (b ∷ bs))) (behind_name (b ∷ bs))
unfolding move
lower_move schema c g b bs e =
    let no_open : eqb b 40 ≡ false = differs is_ascii_lowercase b 40 e refl in
    let no_star : eqb b 42 ≡ false = differs is_ascii_lowercase b 42 e refl in
    rw (no_open, no_star) refl

-- the name of a field, and its colon
field_move : (schema : Schema) (c g : ℕ) (name rest : Text) (k : Kind) → IsSchema schema → AllByRecursion (λ b. IsTrue (is_name_byte b)) name → kind_of schema name ≡ Some k → move schema (Next.a_primary c g) (name ++ (58 ∷ rest)) ≡ goes (Next.a_value name k c g) rest
field_move schema c g name rest k ok named e =
    let l = field_lower schema ok name k e in
    let parts : name ++ (58 ∷ rest) ≡ l.first ∷ (l.others ++ (58 ∷ rest)) = ap (λ (x : Text). x ++ (58 ∷ rest)) l.parts in
    let lower = subst moves-by-name (sym parts) (lower_move schema c g l.first (l.others ++ (58 ∷ rest)) l.lower) in
    let is : name_at (name ++ (58 ∷ rest)) ≡ name = name_is name (58 ∷ rest) named refl in
    let behind : behind_name (name ++ (58 ∷ rest)) ≡ 58 ∷ rest = behind_is name (58 ∷ rest) named refl in
    lower
    ∙ ap (λ (n : Text). name_move c g n (kind_of schema n) (behind_name (name ++ (58 ∷ rest)))) is
    ∙ ap (λ (r : Text). name_move c g name (kind_of schema name) r) behind
    ∙ ap (λ (o : Option Kind). name_move c g name o (58 ∷ rest)) e
  where
    moves-by-name : Text → Type 0
    moves-by-name x = move schema (Next.a_primary c g) x ≡ name_move c g (name_at x) (kind_of schema (name_at x)) (behind_name x)

value_moves : (schema : Schema) (c g : ℕ) (name t rest : Text) (k : Kind) (a : Asks) (p : Primary) → IsWhole t rest a → Means name k a p → move schema (Next.a_value name k c g) (t ++ rest) ≡ goes (Next.an_end c g) rest
unfolding move
value_moves schema c g name t rest k a p whole means = ap (value_move c g) (value_of_complete name k t rest a p whole means)

end_shuts : (schema : Schema) (c g : ℕ) (bs : Text) → move schema (Next.an_end c (g + 1)) (41 ∷ bs) ≡ goes (Next.an_end c g) bs
unfolding move
end_shuts schema c g bs =
    let some : eqb (g + 1) 0 ≡ false = ne_eqb (g + 1) 0 (λ h. absurd (omega arith)) in
    let k : g + 1 - 1 ≡ g = omega arith in
    rw (some, k) refl

space_shuts : (schema : Schema) (c g : ℕ) (bs : Text) → move schema (Next.a_clause c (g + 1) false) (41 ∷ bs) ≡ goes (Next.an_end c g) bs
unfolding move
space_shuts schema c g bs =
    let some : eqb (g + 1) 0 ≡ false = ne_eqb (g + 1) 0 (λ h. absurd (omega arith)) in
    let k : g + 1 - 1 ≡ g = omega arith in
    rw (some, k) refl

-- what is passed is a step
passes_move : {schema : Schema} {taken behind : Text} {next new : Next} → IsSchema schema → PassesOver schema next taken behind new → move schema next (taken ++ behind) ≡ goes new behind
unfolding move
passes_move {schema} ok (PassesOver.space behind c g new) = refl
passes_move {schema} ok (PassesOver.sign b behind c g new s l) = sign_move schema c g b behind new s l
passes_move {schema} ok (PassesOver.no_sign b behind c g new p l) = no_sign_move schema c g b behind new p l
passes_move {schema} ok (PassesOver.opened behind c g l) = open_move schema c g behind l
passes_move {schema} ok (PassesOver.everything behind c g) = all_move schema c g behind
passes_move {schema} ok (PassesOver.field name behind c g k named field) =
    ap (move schema (Next.a_primary c g)) (append_assoc name (58 ∷ []) behind) ∙ field_move schema c g name behind k ok named field
passes_move {schema} ok (PassesOver.value name t behind c g k a p whole means) = value_moves schema c g name t behind k a p whole means
passes_move {schema} ok (PassesOver.gap behind c g) = refl
passes_move {schema} ok (PassesOver.shut behind c g) = end_shuts schema c g behind
passes_move {schema} ok (PassesOver.shut_behind_space behind c g) = space_shuts schema c g behind

-- ---- the farthest place

pub reads_parts : {schema : Schema} {text f r : Text} {next : Next} → ReadsTo schema text f r next → text ≡ f ++ r
reads_parts ReadsTo.start = refl
reads_parts (ReadsTo.step front taken behind next new x p) = reads_parts x ∙ sym (append_assoc front taken behind)

pub reads_length : {schema : Schema} {text f r : Text} {next : Next} → ReadsTo schema text f r next → length f + length r ≡ length text
reads_length {schema} {text} {f} {r} {next} x = sym (ap length (reads_parts x) ∙ length-append f r)

-- it stops with so many bytes left
data Comes (schema : Schema) : Next → Text → ℕ → Type 0 where
  now : {next : Next} {rest : Text} {left : ℕ} → move schema next rest ≡ stops → left ≡ length rest → Comes schema next rest left
  later : {next : Next} {rest : Text} {left : ℕ} (after : Next) (behind : Text) → move schema next rest ≡ goes after behind → length behind ≤ length rest → Comes schema after behind left → Comes schema next rest left

comes_within : {schema : Schema} {next : Next} {rest : Text} {left : ℕ} → Comes schema next rest left → left ≤ length rest
comes_within (now e l) = omega (arith, l)
comes_within (later after behind e few x) = omega (arith, few, comes_within x)

stop_or_go : (m : Move) (next : Next) (rest : Text) → m ≡ stops → m ≡ goes next rest → ⊥
stop_or_go m next rest e f = cc

go_same : (m : Move) (a b : Next) (r t : Text) → m ≡ goes a r → m ≡ goes b t → (a ≡ b) × (r ≡ t)
go_same m a b r t e f = (cc, cc)

comes_behind : {schema : Schema} {next new : Next} {rest behind : Text} {left : ℕ} → move schema next rest ≡ goes new behind → Comes schema next rest left → Comes schema new behind left
comes_behind {schema} {next} {new} {rest} {behind} e (now f l) = absurd (stop_or_go (move schema next rest) new behind f e)
comes_behind {schema} {next} {new} {rest} {behind} {left} e (later after others f few x) =
    let same = go_same (move schema next rest) after new others behind f e in
    subst (λ (n : Next). Comes schema n behind left) same.0 (subst (λ (r : Text). Comes schema after r left) same.1 x)

abbrev start : Next
start = Next.a_clause 0 0 true

-- where the rest stops, the text does
reads_back : {schema : Schema} {text f r : Text} {next : Next} {left : ℕ} → IsSchema schema → ReadsTo schema text f r next → Comes schema next r left → Comes schema start text left
reads_back ok ReadsTo.start x = x
reads_back ok (ReadsTo.step front taken behind next new y p) x = reads_back ok y (later new behind (passes_move ok p) (omega (arith, length-append taken behind)) x)

-- where the text stops, the rest does
reads_on : {schema : Schema} {text f r : Text} {next : Next} {left : ℕ} → IsSchema schema → ReadsTo schema text f r next → Comes schema start text left → Comes schema next r left
reads_on ok ReadsTo.start x = x
reads_on ok (ReadsTo.step front taken behind next new y p) x = comes_behind (passes_move ok p) (reads_on ok y x)

pub stops_farthest : {schema : Schema} {text f r : Text} {next : Next} → IsSchema schema → ReadsTo schema text f r next → move schema next r ≡ stops → (front rest : Text) (n : Next) → ReadsTo schema text front rest n → length front ≤ length f
stops_farthest {schema} {text} {f} {r} ok x e front rest n y =
    let total : length f + length r ≡ length text = reads_length x in
    let other : length front + length rest ≡ length text = reads_length y in
    let comes : Comes schema start text (length r) = reads_back ok x (now e refl) in
    let least : length r ≤ length rest = comes_within (reads_on ok y comes) in
    omega (arith, total, other, least)

-- ---- where no step fits

begins_clause : ℕ → Bool
begins_clause b = is_sign b || begins_primary b

pub too_many_stops : (schema : Schema) (g b : ℕ) (bs : Text) (new : Bool) → IsTrue (is_sign b || begins_primary b) → move schema (Next.a_clause 64 g new) (b ∷ bs) ≡ stops
unfolding begins_clause
too_many_stops schema g b bs new h = begin_with schema 64 g b bs new (differs begins_clause b 32 h refl) (differs begins_clause b 41 h refl) ∙ rw h refl

pub no_clause_stops : (schema : Schema) (c g b : ℕ) (bs : Text) (new : Bool) → IsTrue (not (is_sign b || begins_primary b || eqb b 32 || eqb b 41)) → move schema (Next.a_clause c g new) (b ∷ bs) ≡ stops
no_clause_stops schema c g b bs new h =
    let x = or_parts (is_sign b || begins_primary b || eqb b 32) (eqb b 41) (not-true (is_sign b || begins_primary b || eqb b 32 || eqb b 41) h) in
    let y = or_parts (is_sign b || begins_primary b) (eqb b 32) x.0 in
    begin_with schema c g b bs new y.1 x.1 ∙ tests (is_sign b || begins_primary b) y.0
  where
    tests : (v : Bool) → v ≡ false → cond v (cond (ltb c 64) (cond (is_sign b) (goes (Next.a_primary (c + 1) g) bs) (goes (Next.a_primary (c + 1) g) (b ∷ bs))) stops) stops ≡ stops
    tests v e = rw e refl

pub empty_stops : (schema : Schema) (c g : ℕ) (bs : Text) → move schema (Next.a_clause c g true) (41 ∷ bs) ≡ stops
unfolding move
empty_stops schema c g bs = refl

pub unopened_stops : (schema : Schema) (c : ℕ) (bs : Text) (new : Bool) → move schema (Next.a_clause c 0 new) (41 ∷ bs) ≡ stops
unfolding move
unopened_stops schema c bs true = refl
unopened_stops schema c bs false = refl

pub unopened_end_stops : (schema : Schema) (c : ℕ) (bs : Text) → move schema (Next.an_end c 0) (41 ∷ bs) ≡ stops
unfolding move
unopened_end_stops schema c bs = refl

pub no_primary_stops : (schema : Schema) (c g b : ℕ) (bs : Text) → IsSchema schema → begins_primary b ≡ false → move schema (Next.a_primary c g) (b ∷ bs) ≡ stops
unfolding move
no_primary_stops schema c g b bs ok e =
    let x = or_parts (eqb b 40 || eqb b 42) (is_ascii_lowercase b) e in
    let y = or_parts (eqb b 40) (eqb b 42) x.0 in
    let no_open : eqb b 40 ≡ false = y.0 in
    let no_star : eqb b 42 ≡ false = y.1 in
    let none : kind_of schema (name_at (b ∷ bs)) ≡ None = no_name schema ok b bs x.1 in
    rw (no_open, no_star, none) refl

pub too_deep_stops : (schema : Schema) (c : ℕ) (bs : Text) → move schema (Next.a_primary c 8) (40 ∷ bs) ≡ stops
unfolding move
too_deep_stops schema c bs = refl

pub star_stops : (schema : Schema) (c g : ℕ) (bs : Text) → starts_with nat_eq (42 ∷ bs) (42 ∷ 58 ∷ 42 ∷ []) ≡ false → move schema (Next.a_primary c g) (42 ∷ bs) ≡ stops
unfolding move
star_stops schema c g bs e = rw e refl

pub no_field_stops : (schema : Schema) (c g b : ℕ) (bs : Text) → is_ascii_lowercase b ≡ true → (kind_of schema (name_at (b ∷ bs)) ≡ None) ⊎ ((r : Text) → behind_name (b ∷ bs) ≢ 58 ∷ r) → move schema (Next.a_primary c g) (b ∷ bs) ≡ stops
no_field_stops schema c g b bs lower wrong = lower_move schema c g b bs lower ∙ elim wrong [
  | inl h ↦ ap (λ (o : Option Kind). name_move c g (name_at (b ∷ bs)) o (behind_name (b ∷ bs))) h
  | inr h ↦ no_colon (kind_of schema (name_at (b ∷ bs))) (behind_name (b ∷ bs)) h
]
  where
    no_colon : (o : Option Kind) (behind : Text) → ((r : Text) → behind ≢ 58 ∷ r) → name_move c g (name_at (b ∷ bs)) o behind ≡ stops
    no_colon None behind h = refl
    no_colon (Some k) [] h = refl
    no_colon (Some k) (d ∷ ds) h = let other : eqb d 58 ≡ false = ne_eqb d 58 (λ e. h ds (ap (λ (x : ℕ). x ∷ ds) e)) in rw other refl

pub no_value_stops : (schema : Schema) (c g : ℕ) (name rest : Text) (k : Kind) → NoValue name k rest → move schema (Next.a_value name k c g) rest ≡ stops
unfolding move
no_value_stops schema c g name rest k none = ap (value_move c g) (value_of_none name k rest none)

pub no_end_stops : (schema : Schema) (c g b : ℕ) (bs : Text) → IsTrue (not (eqb b 32 || eqb b 41)) → move schema (Next.an_end c g) (b ∷ bs) ≡ stops
unfolding move
no_end_stops schema c g b bs h =
    let x = or_parts (eqb b 32) (eqb b 41) (not-true (eqb b 32 || eqb b 41) h) in
    let no_space : eqb b 32 ≡ false = x.0 in
    let no_close : eqb b 41 ≡ false = x.1 in
    rw (no_space, no_close) refl

pub text_end_stops : (schema : Schema) (next : Next) → move schema next [] ≡ stops
unfolding move value_of value_at
text_end_stops schema (Next.a_clause c g new) = refl
text_end_stops schema (Next.a_primary c g) = refl
text_end_stops schema (Next.a_value name k c g) = refl
text_end_stops schema (Next.an_end c g) = refl
