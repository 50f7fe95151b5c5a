-- Portions as views, and kept commits as they are opened.
use Rattle.std.proofs.Common.{◌≡◌, ◌≢◌, suc, ◌<◌, List, [], ◌∷◌, ◌++◌, length, map, Bool, true, false, refl, sym, ◌∙◌, ap, ap₂, subst}
use Rattle.std.specs.List.{flat_map, AllByRecursion}
use Rattle.std.proofs.lemmas.List.{map-append}
use Rattle.std.proofs.lemmas.List.Elements.{All-from_recursion}
use Rattle.cat_model.specs.Item.{Schema, Record}
use Rattle.cat_model.specs.View.{Row, row_of, Leaf, selected, live_rows}
use Rattle.cat_model.proofs.Lists.{All-weaken, All-each}
use Rattle.cat_ledger_laws.specs.model.Portions.{Portion, live_records, records_of, all_records, Apart, leaf_of}
use Rattle.cat_ledger_laws.specs.model.Ledger.{AreWhole, IsWholeCommit, portions_in}
use Rattle.cat_ledger_laws.specs.model.Laws.{WholeAreViews, KeptCommitsOpen}
use Rattle.cat_ledger_laws.proofs.model.Commits.{AllPairs-from_Apart, opened_are_fresh}

marked-map : {A B : Type 0} (f : A → B) (bs : List Bool) (xs : List A) → map f (selected bs xs) ≡ selected bs (map f xs)
marked-map f [] xs = refl
marked-map f (b ∷ bs) [] = refl
marked-map f (true ∷ bs) (x ∷ xs) = ap (λ l. f x ∷ l) (marked-map f bs xs)
marked-map f (false ∷ bs) (x ∷ xs) = marked-map f bs xs

pub rows-shown : (schema : Schema) (ps : List Portion) → map row_of (records_of ps) ≡ flat_map live_rows (map (leaf_of schema) ps)
rows-shown schema [] = refl
rows-shown schema (p ∷ ps) = map-append row_of (live_records p) (records_of ps) ∙ ap₂ (λ (a b : List Row). a ++ b) (marked-map row_of p.live p.records) (rows-shown schema ps)

pub all-shown : (schema : Schema) (ps : List Portion) → map row_of (all_records ps) ≡ flat_map (λ (leaf : Leaf). leaf.segment.rows) (map (leaf_of schema) ps)
all-shown schema [] = refl
all-shown schema (p ∷ ps) = map-append row_of p.records (all_records ps) ∙ ap (λ l. map row_of p.records ++ l) (all-shown schema ps)

pub All-map : {X Y : Type 0} (P : Y → Type 0) (f : X → Y) (xs : List X) → AllByRecursion (λ x. P (f x)) xs → AllByRecursion P (map f xs)
All-map P f [] a = tt
All-map P f (x ∷ xs) a = (a.0, All-map P f xs a.1)

pub Apart-map : {X Y : Type 0} (R : Y → Y → Type 0) (f : X → Y) (xs : List X) → Apart (λ a b. R (f a) (f b)) xs → Apart R (map f xs)
Apart-map R f [] a = tt
Apart-map R f (x ∷ xs) a = (All-map (R (f x)) f xs a.0, Apart-map R f xs a.1)

length-rows : (xs : List Record) → length (map row_of xs) ≡ length xs
length-rows [] = refl
length-rows (x ∷ xs) = ap suc (length-rows xs)

pub whole_are_views : WholeAreViews
whole_are_views schema token ps ok = (
  record {
    numbers = AllPairs-from_Apart (λ (a b : Leaf). a.segment.number ≢ b.segment.number) _ (Apart-map (λ (a b : Leaf). a.segment.number ≢ b.segment.number) (leaf_of schema) ps ok.portions.numbers);
    schemas = All-from_recursion (λ (leaf : Leaf). leaf.segment.schema ≡ schema) (map (leaf_of schema) ps) (All-map (λ (leaf : Leaf). leaf.segment.schema ≡ schema) (leaf_of schema) ps (All-each (λ p. schema ≡ schema) (λ p. refl) ps));
    live = All-from_recursion (λ (leaf : Leaf). length leaf.live ≡ length leaf.segment.rows) (map (leaf_of schema) ps)
        (All-map (λ (leaf : Leaf). length leaf.live ≡ length leaf.segment.rows) (leaf_of schema) ps (All-weaken (λ p. length p.live ≡ length p.records) (λ p. length p.live ≡ length (map row_of p.records)) (λ p e. e ∙ sym (length-rows p.records)) ps ok.portions.lengths));
    rising = AllPairs-from_Apart (λ (a b : Row). a.number < b.number) _ (subst (Apart (λ (a b : Row). a.number < b.number)) (all-shown schema ps) (Apart-map (λ (a b : Row). a.number < b.number) row_of (all_records ps) ok.rising));
    distinct = AllPairs-from_Apart (λ (a b : Row). a.id ≢ b.id) _ (subst (Apart (λ (a b : Row). a.id ≢ b.id)) (rows-shown schema ps) (Apart-map (λ (a b : Row). a.id ≢ b.id) row_of (records_of ps) ok.ids));
  },
  rows-shown schema ps,
)

pub kept_commits_open : KeptCommitsOpen
kept_commits_open l ok = All-weaken (IsWholeCommit l.schema l.count) _ (λ c h opened same its told.
    let k = opened_are_fresh c opened its (subst (λ schema. AreWhole schema c.token (portions_in c)) (sym same) h.1) told in
    (k.0, k.1, k.2, its.count)) l.commits ok.commits
