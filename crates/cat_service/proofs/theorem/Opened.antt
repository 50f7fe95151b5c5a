-- What a page shows of the items of an opened commit has no line feed, since the files of its segments are judged.
use Rattle.std.proofs.Common.{◌≡◌, ℕ, ◌≤◌, List, [], ◌∷◌, drop, Bool, true, false, refl, sym, ◌∙◌, ap, true≢false}
use Rattle.std.specs.Prelude.{None, Some, ◌&&◌, ltb, leb, length}
use Rattle.std.specs.List.{flat_map, list_all, AllByRecursion}
use Rattle.std.specs.Char.{is_ascii_graphic}
use Rattle.std.proofs.lemmas.Bool.{and_parts}
use Rattle.std.proofs.lemmas.List.Elements.{recursion_from_All}
use Rattle.cat_model.specs.Text.{Text, IsOneLine}
use Rattle.cat_model.specs.Item.{Content, FieldContent, Record, Schema, is_id}
use Rattle.cat_model.specs.Files.{Name}
use Rattle.cat_model.specs.Forms.{IsFormed, IsLabel, is_plain_byte}
use Rattle.cat_model.specs.CommitFile.{ListedSegment}
use Rattle.cat_model.specs.View.{IsFormedRow, Leaf, Row, selected, sourced}
use Rattle.cat_model.specs.Talk.{HasOneLines}
use Rattle.cat_model.proofs.Lists.{All-both, All-weaken}
use Rattle.cat_model.specs.Restored.{AreLeavesOf, IsRestored, Restored}
use Rattle.cat_ledger_laws.proofs.model.Views.{All-unflat}
use Rattle.cat_model.specs.Merged.{rows_of_all}
use Rattle.cat_service.proofs.theorem.Told.{PartRecord}

tested_line : (p : ℕ → Bool) (t : Text) → p 10 ≡ false → list_all p t ≡ true → IsOneLine t
tested_line p [] none h = tt
tested_line p (b ∷ t) none h =
    let parts = and_parts (p b) (list_all p t) h in
    (λ e. true≢false (sym parts.0 ∙ ap p e ∙ none), tested_line p t none parts.1)

id_line : (t : Text) → is_id t ≡ true → IsOneLine t
id_line t h = tested_line is_ascii_graphic t refl (and_parts (ltb 0 (length t) && leb (length t) 64) (list_all is_ascii_graphic t) h).1

label_line : (t : Text) → IsLabel t → IsOneLine t
label_line t l = tested_line is_plain_byte t refl l.keyword.plain

content_lines : (c : Content) → IsFormed c → HasOneLines c
content_lines (Content.words ws) f = tt
content_lines (Content.keyword None) f = tt
content_lines (Content.keyword (Some k)) f = tested_line is_plain_byte k refl f.plain
content_lines (Content.number z) f = tt
content_lines (Content.labels ls) f = All-weaken IsLabel IsOneLine label_line ls (recursion_from_All IsLabel ls f.1)

field_lines : (p : FieldContent) → IsFormed p.content → HasOneLines p.content
field_lines p f = content_lines p.content f

-- records that are read of rows with their forms
sourced_part : (rows : List Row) (bytes : Text) → AllByRecursion IsFormedRow rows → AllByRecursion PartRecord (sourced rows bytes)
sourced_part [] bytes a = tt
sourced_part (row ∷ rows) bytes a = (
  record {
    id = id_line row.id a.0.id;
    fields = All-weaken {X = FieldContent} (λ p. IsFormed p.content) (λ p. HasOneLines p.content) field_lines row.fields (recursion_from_All {X = FieldContent} (λ p. IsFormed p.content) row.fields a.0.fields);
  },
  sourced_part rows (drop row.length bytes) a.1,
)

selected_part : (live : List Bool) (rs : List Record) → AllByRecursion PartRecord rs → AllByRecursion PartRecord (selected live rs)
selected_part [] rs a = tt
selected_part (b ∷ live) [] a = tt
selected_part (true ∷ live) (r ∷ rs) a = (a.0, selected_part live rs a.1)
selected_part (false ∷ live) (r ∷ rs) a = selected_part live rs a.1

-- the rows of the leaves have their forms
Formed : List Leaf → Type 0
Formed leaves = AllByRecursion (λ l. AllByRecursion IsFormedRow l.segment.rows) leaves

leaves_formed : (holds : Name → Text → Type 0) (schema : Schema) (xs : List ListedSegment) (leaves : List Leaf) → AreLeavesOf holds schema xs leaves → Formed leaves
unfolding Formed
leaves_formed holds schema [] [] a = tt
leaves_formed holds schema [] (l ∷ leaves) a = absurd a
leaves_formed holds schema (x ∷ xs) [] a = absurd a
leaves_formed holds schema (x ∷ xs) (l ∷ leaves) a = (recursion_from_All IsFormedRow l.segment.rows a.0.segment.spelled.form.formed, leaves_formed holds schema xs leaves a.1)

leaves_part : (sources : ℕ → Text) (leaves : List Leaf) → Formed leaves
    → AllByRecursion PartRecord (flat_map (λ leaf. selected leaf.live (sourced leaf.segment.rows (sources leaf.segment.number))) leaves)
unfolding Formed
leaves_part sources [] a = tt
leaves_part sources (l ∷ leaves) a =
    All-both PartRecord (selected l.live (sourced l.segment.rows (sources l.segment.number)))
    (flat_map (λ leaf. selected leaf.live (sourced leaf.segment.rows (sources leaf.segment.number))) leaves)
    (selected_part l.live (sourced l.segment.rows (sources l.segment.number)) (sourced_part l.segment.rows (sources l.segment.number) a.0))
    (leaves_part sources leaves a.1)

pub opened_part : (holds : Name → Text → Type 0) (schema : Schema) (generation : ℕ) (r : Restored) (sources : ℕ → Text) → IsRestored holds schema generation r
    → AllByRecursion PartRecord (flat_map (λ leaf. selected leaf.live (sourced leaf.segment.rows (sources leaf.segment.number))) r.leaves)
opened_part holds schema generation r sources a = leaves_part sources r.leaves (leaves_formed holds schema r.commit.segments r.leaves a.leaves)

-- ---- numbers

Seen : ℕ → List Leaf → Type 0
Seen n leaves = AllByRecursion (λ (l : Leaf). AllByRecursion (λ (row : Row). row.number ≤ n) l.segment.rows) leaves

sourced_seen : (n : ℕ) (rows : List Row) (bytes : Text) → AllByRecursion (λ (row : Row). row.number ≤ n) rows → AllByRecursion (λ (r : Record). r.number ≤ n) (sourced rows bytes)
sourced_seen n [] bytes a = tt
sourced_seen n (row ∷ rows) bytes a = (a.0, sourced_seen n rows (drop row.length bytes) a.1)

selected_seen : (n : ℕ) (live : List Bool) (rs : List Record) → AllByRecursion (λ (r : Record). r.number ≤ n) rs → AllByRecursion (λ (r : Record). r.number ≤ n) (selected live rs)
selected_seen n [] rs a = tt
selected_seen n (b ∷ live) [] a = tt
selected_seen n (true ∷ live) (r ∷ rs) a = (a.0, selected_seen n live rs a.1)
selected_seen n (false ∷ live) (r ∷ rs) a = selected_seen n live rs a.1

leaves_seen : (n : ℕ) (sources : ℕ → Text) (leaves : List Leaf) → Seen n leaves
    → AllByRecursion (λ (r : Record). r.number ≤ n) (flat_map (λ leaf. selected leaf.live (sourced leaf.segment.rows (sources leaf.segment.number))) leaves)
unfolding Seen
leaves_seen n sources [] a = tt
leaves_seen n sources (l ∷ leaves) a =
    All-both (λ (r : Record). r.number ≤ n) (selected l.live (sourced l.segment.rows (sources l.segment.number)))
    (flat_map (λ leaf. selected leaf.live (sourced leaf.segment.rows (sources leaf.segment.number))) leaves)
    (selected_seen n l.live (sourced l.segment.rows (sources l.segment.number)) (sourced_seen n l.segment.rows (sources l.segment.number) a.0))
    (leaves_seen n sources leaves a.1)

pub opened_seen : (holds : Name → Text → Type 0) (schema : Schema) (generation : ℕ) (r : Restored) (sources : ℕ → Text) → IsRestored holds schema generation r
    → AllByRecursion (λ (x : Record). x.number ≤ r.commit.token) (flat_map (λ leaf. selected leaf.live (sourced leaf.segment.rows (sources leaf.segment.number))) r.leaves)
unfolding Seen
opened_seen holds schema generation r sources a =
    leaves_seen r.commit.token sources r.leaves
    (All-unflat (λ (row : Row). row.number ≤ r.commit.token) (λ (l : Leaf). l.segment.rows) r.leaves (recursion_from_All (λ (row : Row). row.number ≤ r.commit.token) (rows_of_all r.leaves) a.seen))
