-- Leaves of portions: what a write makes of them, and the names of their files.
use Rattle.std.proofs.Common.{◌≡◌, suc, List, [], ◌∷◌, ◌++◌, map, filter, length, Bool, true, false, ◌&&◌, ◌||◌, not, cond, refl, sym, ◌∙◌, ap, ap₂}
use Rattle.std.specs.List.{flat_map, list_any}
use Rattle.cat_model.specs.Item.{Schema, Item, Record}
use Rattle.cat_model.specs.Query.{Query, Primary, obeys, supports, obeyed, supported, primary_matches}
use Rattle.cat_model.specs.Write.{Write, removes}
use Rattle.cat_model.specs.Files.{Name}
use Rattle.cat_model.specs.View.{Leaf, row_of, item_in}
use Rattle.cat_ledger_laws.specs.model.Portions.{Portion, leaf_of, live_after, portions_after}
use Rattle.cat_ledger_laws.specs.model.Leaves.{live_rows_after, leaves_after}
use Rattle.cat_ledger_laws.specs.model.Ledger.{RecordedView, names_of_portion, names_of_view}
use Rattle.cat_ledger_laws.specs.shape.Shapes.{names_of_leaves, names_of_views, recorded_view}

-- ---- no query asks for the source

abbrev stripped : Item → Item
stripped i = record { id = i.id; fields = i.fields; source = [] }

mutual
  obeyed_alike : (q : Query) (i : Item) → obeyed q (stripped i) ≡ obeyed q i
  obeyed_alike Query.no_clause i = refl
  obeyed_alike (Query.clause s p q) i = ap (λ b. obeys s b && obeyed q (stripped i)) (primary_alike p i) ∙ ap (λ b. obeys s (primary_matches p i) && b) (obeyed_alike q i)

  supported_alike : (q : Query) (i : Item) → supported q (stripped i) ≡ supported q i
  supported_alike Query.no_clause i = refl
  supported_alike (Query.clause s p q) i = ap (λ b. supports s b || supported q (stripped i)) (primary_alike p i) ∙ ap (λ b. supports s (primary_matches p i) || b) (supported_alike q i)

  primary_alike : (p : Primary) (i : Item) → primary_matches p (stripped i) ≡ primary_matches p i
  primary_alike Primary.everything i = refl
  primary_alike (Primary.word f w) i = refl
  primary_alike (Primary.word_prefix f p) i = refl
  primary_alike (Primary.keyword f k) i = refl
  primary_alike (Primary.keyword_prefix f p) i = refl
  primary_alike (Primary.keyword_range f low high) i = refl
  primary_alike (Primary.number f n) i = refl
  primary_alike (Primary.number_range f low high) i = refl
  primary_alike (Primary.label f l) i = refl
  primary_alike (Primary.label_prefix f p) i = refl
  primary_alike (Primary.group q) i = ap (λ b. b && supported q (stripped i)) (obeyed_alike q i) ∙ ap (λ b. obeyed q i && b) (supported_alike q i)

pub removes_alike : (w : Write) (r : Record) → removes w (item_in (row_of r)) ≡ removes w r.item
removes_alike (Write.put j) r = refl
removes_alike (Write.delete id) r = refl
removes_alike (Write.delete_where q) r = ap (λ b. b && supported q (stripped r.item)) (obeyed_alike q r.item) ∙ ap (λ b. obeyed q r.item && b) (supported_alike q r.item)

-- ---- what a write makes of leaves

live_alike : (w : Write) (bs : List Bool) (rs : List Record) → live_rows_after w bs (map row_of rs) ≡ live_after w bs rs
live_alike w [] rs = refl
live_alike w (b ∷ bs) [] = refl
live_alike w (b ∷ bs) (r ∷ rs) = ap₂ (λ (x : Bool) (xs : List Bool). (b && not x) ∷ xs) (removes_alike w r) (live_alike w bs rs)

-- the leaves of the portions that a write leaves
pub leaves_written : (schema : Schema) (w : Write) (ps : List Portion) → map (leaf_of schema) (portions_after w ps) ≡ leaves_after w (map (leaf_of schema) ps)
leaves_written schema w [] = refl
leaves_written schema w (p ∷ ps) =
    ap₂ (λ (live : List Bool) (rest : List Leaf). record (leaf_of schema p) { live = live } ∷ rest) (sym (live_alike w p.live p.records)) (leaves_written schema w ps)

-- ---- names

pub leaves_named : (schema : Schema) (ps : List Portion) → names_of_leaves (map (leaf_of schema) ps) ≡ flat_map names_of_portion ps
leaves_named schema [] = refl
leaves_named schema (p ∷ ps) = ap (λ ns. names_of_portion p ++ ns) (leaves_named schema ps)

pub views_named : (schema : Schema) (vs : List RecordedView) → names_of_views (map (recorded_view schema) vs) ≡ flat_map names_of_view vs
views_named schema [] = refl
views_named schema (v ∷ vs) = ap₂ (λ (a b : List Name). a ++ b) (leaves_named schema v.portions) (views_named schema vs)

-- ---- lists under a map

pub map_filter : {X Y : Type 0} (f : X → Y) (p : Y → Bool) (xs : List X) → map f (filter (λ x. p (f x)) xs) ≡ filter p (map f xs)
map_filter f p [] = refl
map_filter f p (x ∷ xs) = elim (p (f x)) as (λ b. map f (cond b (x ∷ filter (λ x. p (f x)) xs) (filter (λ x. p (f x)) xs)) ≡ cond b (f x ∷ filter p (map f xs)) (filter p (map f xs))) [
  | true ↦ ap (λ l. f x ∷ l) (map_filter f p xs)
  | false ↦ map_filter f p xs
]

pub any_map : {X Y : Type 0} (f : X → Y) (p : Y → Bool) (xs : List X) → list_any p (map f xs) ≡ list_any (λ x. p (f x)) xs
any_map f p [] = refl
any_map f p (x ∷ xs) = ap (λ b. p (f x) || b) (any_map f p xs)

pub map_twice : {X Y Z : Type 0} (f : X → Y) (g : Y → Z) (xs : List X) → map g (map f xs) ≡ map (λ x. g (f x)) xs
map_twice f g [] = refl
map_twice f g (x ∷ xs) = ap (λ l. g (f x) ∷ l) (map_twice f g xs)

pub length_map : {X Y : Type 0} (f : X → Y) (xs : List X) → length (map f xs) ≡ length xs
length_map f [] = refl
length_map f (x ∷ xs) = ap suc (length_map f xs)
