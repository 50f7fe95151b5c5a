-- What a flush makes of a shape, and of what a device tells.
use Rattle.std.proofs.Common.{◌≡◌, ◌≢◌, ◌↔◌, IsTrue, ℕ, ◌+◌, ◌-◌, ◌<◌, ◌≤◌, ◌^◌, Bool, true, false, ◌||◌, cond, List, [], ◌∷◌, ◌++◌, length, map, take, replicate, Some, refl, sym, ◌∙◌, ap, ap₂, subst, arith, inl, inr}
use Rattle.std.proofs.lemmas.Bool.{true≢false}
use Rattle.std.proofs.Math.Seq.{take-append_seam}
use Rattle.std.proofs.lemmas.List.{length-map, length-append}
use Rattle.cat_model.specs.Text.{Text}
use Rattle.cat_model.specs.Item.{Schema, Record}
use Rattle.cat_model.specs.Files.{Name}
use Rattle.cat_model.specs.Layout.{SpellsSegment}
use Rattle.cat_model.specs.Limits.{last_number, view_limit}
use Rattle.cat_model.specs.View.{Segment, Leaf, row_of}
use Rattle.cat_directory.specs.declared.name.FileName.{FileName}
use Rattle.cat_directory.specs.declared.name.FileName.TheVariants as file
use Rattle.cat_directory.specs.Names.{name_of}
use Rattle.cat_ledger_laws.specs.model.Portions.{all_live, leaf_of}
use Rattle.cat_ledger_laws.specs.model.Stored.{joined_sources}
use Rattle.cat_ledger_laws.specs.model.Users.{Used, users_of, has_name, same_file_name, times, Changes}
use Rattle.cat_ledger_laws.specs.shape.Shapes.{Shape, IsShape, flushed_leaf, names_of_leaves}
use Rattle.cat_ledger_laws.specs.shape.Steps.{IsFlushed, Leaves}
use Rattle.cat_ledger_laws.specs.shape.Ties.{ToldFiles, IsTold}
use Rattle.cat_ledger_laws.specs.shape.WriteLaws.{WritesFlush}
use Rattle.cat_ledger_laws.proofs.shape.Committed.{users_fit}
use Rattle.cat_ledger_laws.proofs.shape.Told.{same_again}
use Rattle.cat_ledger_state.specs.Cores.{flush_begins}
use Rattle.cat_ledger_state.proofs.Counting.{users_undone, known_undone}

-- ---- the new segment

all_alive : (n : ℕ) (rs : List Record) → n ≡ length rs → replicate n true ≡ map (λ r. true) rs
all_alive n [] e = ap (λ k. replicate k true) e
all_alive n (r ∷ rs) e = ap (λ k. replicate k true) e ∙ ap (λ bs. true ∷ bs) (all_alive (length rs) rs refl)

-- a segment of the records, all of it live, is the leaf of a portion
pub leaf_made : (number n : ℕ) (schema : Schema) (rs : List Record) (segment : Segment) (live : List Bool)
    → segment ≡ record { number = number; schema = schema; rows = map row_of rs } → live ≡ replicate n true → n ≡ length segment.rows
    → record { segment = segment; live = live } ≡ leaf_of schema (all_live number rs)
leaf_made number n schema rs segment live is all long =
    ap₂ (λ s l. record { segment = s; live = l }) is (all ∙ all_alive n rs (long ∙ ap (λ s. length s.rows) is ∙ length-map rs row_of))

-- ---- its names

pub at_most_one : (b : Bool) → cond b 1 0 ≤ 1
at_most_one true = omega arith
at_most_one false = omega arith

-- two more users fit
pub pair_fits : (s : Shape) (n : ℕ) (a b q : Name) → IsShape s → n ≡ length s.views → n ≤ view_limit → users_of s.users q + times q (a ∷ b ∷ []) < 2 ^ 64
pair_fits s n a b q is views few =
    let fit : users_of s.users q + 2 < 2 ^ 64 = users_fit s q is (subst (λ k. k ≤ view_limit) views few) in
    let one : cond (same_file_name q a) 1 0 ≤ 1 = at_most_one (same_file_name q a) in
    let other : cond (same_file_name q b) 1 0 ≤ 1 = at_most_one (same_file_name q b) in
    omega arith

has_first : (n : ℕ) → has_name (Name.segment n) (Name.segment n ∷ Name.source n ∷ []) ≡ true
has_first n = ap (λ b. b || has_name (Name.segment n) (Name.source n ∷ [])) (same_again (Name.segment n))

has_second : (n : ℕ) → has_name (Name.source n) (Name.segment n ∷ Name.source n ∷ []) ≡ true
has_second n = ap (λ b. b || false) (same_again (Name.source n))

-- a name of another file than these two
other_segment : (n : ℕ) (q : FileName) → has_name (name_of q) (Name.segment n ∷ Name.source n ∷ []) ≡ false → q ≢ file.Segment n
other_segment n q out is = true≢false (sym (has_first n) ∙ ap (λ f. has_name (name_of f) (Name.segment n ∷ Name.source n ∷ [])) (sym is) ∙ out)

other_source : (n : ℕ) (q : FileName) → has_name (name_of q) (Name.segment n ∷ Name.source n ∷ []) ≡ false → q ≢ file.Source n
other_source n q out is = true≢false (sym (has_second n) ∙ ap (λ f. has_name (name_of f) (Name.segment n ∷ Name.source n ∷ [])) (sym is) ∙ out)

-- what holds of all files but these two
pub other_files : (n : ℕ) (P : FileName → Type 0) → ((q : FileName) → q ≢ file.Segment n → q ≢ file.Source n → P q)
    → (q : FileName) → has_name (name_of q) (Name.segment n ∷ Name.source n ∷ []) ≡ false → P q
other_files n P others q out = others q (other_segment n q out) (other_source n q out)

-- ---- done

-- something waits where it isn't so that nothing does
pub some_waits : (b : Bool) (rs : List Record) → b ≡ false → (IsTrue b ↔ (rs ≡ [])) → 0 < length rs
some_waits b [] waits is = absurd (true≢false (sym (is.1 refl) ∙ waits))
some_waits b (r ∷ rs) waits is = omega arith

pub flush_is : (s : Shape) (leaf : Leaf) (leaves' : List Leaf) (buffered' : List Record) (users' : List Used) → leaf ≡ flushed_leaf s
    → 0 < length s.buffered → s.next_segment ≤ last_number → leaves' ≡ s.leaves ++ leaf ∷ [] → buffered' ≡ [] → Changes (names_of_leaves (leaf ∷ [])) [] s.users users'
    → IsFlushed s (record s { leaves = leaves'; buffered = buffered'; users = users'; next_segment = s.next_segment + 1 })
flush_is s leaf leaves' buffered' users' is some left leaves buffered users = record {
  some = some;
  left = left;
  users = subst (λ l. Changes (names_of_leaves (l ∷ [])) [] s.users users') is users;
  rest = ap₂ (λ ls bs. record s { leaves = ls; buffered = bs; users = users'; next_segment = s.next_segment + 1 })
      (leaves ∙ ap (λ l. s.leaves ++ l ∷ []) is) buffered;
}

pub flush_writes : (s : Shape) (told told' : ToldFiles) (bytes sources : Text) (leaf : Leaf) → leaf ≡ flushed_leaf s
    → ((q : FileName) → q ≢ file.Segment s.next_segment → q ≢ file.Source s.next_segment → told' q ≡ told q)
    → IsTold (told' (file.Segment s.next_segment)) (Some bytes) → IsTold (told' (file.Source s.next_segment)) (Some sources)
    → SpellsSegment bytes leaf.segment → sources ≡ joined_sources s.buffered → WritesFlush s told told'
flush_writes s told told' bytes sources leaf is others segment source spells joined = record {
  others = other_files s.next_segment (λ q. told' q ≡ told q) others;
  segment = (bytes, segment, subst (λ l. SpellsSegment bytes l.segment) is spells);
  source = subst (λ t. IsTold (told' (file.Source s.next_segment)) (Some t)) joined source;
}

-- a list that is one longer than some number allows
pub one_more : {X : Type 0} (xs : List X) (x : X) (n : ℕ) → length xs < n → length (xs ++ x ∷ []) ≤ n
one_more xs x n lt = omega (arith, length-append xs (x ∷ []))

-- ---- given up

-- without the last one a list is as it was before it came
pub without_last : {X : Type 0} (xs : List X) (x : X) → take (length (xs ++ x ∷ []) - 1) (xs ++ x ∷ []) ≡ xs
without_last xs x =
    let place : length (xs ++ x ∷ []) - 1 ≡ length xs = omega (arith, length-append xs (x ∷ [])) in
    ap (λ n. take n (xs ++ x ∷ [])) place ∙ take-append_seam xs (x ∷ [])

-- the number of the next commit can be one past the last
pub generations_fit : (s : Shape) → IsShape s → s.next_generation ≤ last_number + 1
generations_fit s its = subst (λ x. x.next_generation ≤ last_number + 1) its.1 its.2.fits.2

-- a segment came and went again, and its names are known
pub flush_left : (s : Shape) (leaf : Leaf) (leaves' : List Leaf) (mid users' : List Used) → IsShape s → leaf ≡ flushed_leaf s
    → s.next_segment ≤ last_number → leaves' ≡ s.leaves → Changes (names_of_leaves (leaf ∷ [])) [] s.users mid → Changes [] (flush_begins s) mid users'
    → Leaves (flush_begins s) s (record s { leaves = leaves'; users = users'; next_segment = s.next_segment + 1 })
flush_left s leaf leaves' mid users' its is left leaves taken second =
    let first : Changes (flush_begins s) [] s.users mid = subst (λ l. Changes (names_of_leaves (l ∷ [])) [] s.users mid) is taken in
    record {
      known = known_undone (flush_begins s) s.users mid users' first second;
      users = users_undone (flush_begins s) s.users mid users' first second;
      segments = omega arith;
      generations = omega arith;
      one_segment = inr (refl, has_second s.next_segment);
      one_generation = inl refl;
      left = (omega arith, generations_fit s its);
      rest = ap (λ ls. record s { leaves = ls; users = users'; next_segment = s.next_segment + 1 }) leaves;
    }
