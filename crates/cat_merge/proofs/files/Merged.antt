-- The segment that a merge makes, beside what stands in the place of its inputs.
use Rattle.std.proofs.Common.{◌≡◌, ◌≢◌, ℕ, List, [], ◌∷◌, ◌+◌, ◌++◌, length, get_or, take, map, ◌<◌, Bool, false, cond, not, Option, Some, MatchOption, refl, sym, ◌∙◌, ap, ap₂, subst, arith, inl, inr}
use Rattle.std.specs.Prelude.{◌==◌, All}
use Rattle.std.specs.List.{flat_map, AllByRecursion}
use Rattle.std.proofs.lemmas.Bool.Decides.{eqb_tells}
use Rattle.std.proofs.lemmas.List.{length-append, map-append, take_more}
use Rattle.std.proofs.lemmas.List.Elements.{All-from_recursion, recursion_from_All}
use Rattle.cat_merge.specs.Merging.{with_live}
use Rattle.cat_merge.proofs.Passed.{length-selected}
use Rattle.cat_merge.proofs.Settled.{length-live_rows}
use Rattle.cat_model.specs.Item.{Schema}
use Rattle.cat_model.specs.Merged.{live_of_all, merged_leaf, AreDeletedFrom}
use Rattle.cat_model.specs.View.{Row, Leaf, Segment, live_rows}
use Rattle.cat_model.proofs.Merged.{LessLive-length}
use Rattle.cat_merge.specs.files.Making.{merged_leaves}

-- one element more, of which the same is seen
pub mapped_more : {X Y Z : Type 0} (f : X → Z) (g : Y → Z) (ys : List Y) (i : ℕ) (d : Y) (old new : List X) (x : X) → i < length ys → map f old ≡ map g (take i ys) → f x ≡ g (get_or ys i d)
    → new ≡ old ++ x ∷ [] → map f new ≡ map g (take (i + 1) ys)
mapped_more f g ys i d old new x within before here e =
    ap (map f) e ∙ map-append f old (x ∷ []) ∙ ap₂ (λ a b. a ++ b ∷ []) before here ∙ sym (map-append g (take i ys) (get_or ys i d ∷ [])) ∙ ap (map g) (sym (take_more ys i d within))

-- the same segments with the live sets of the window are the window
pub window_is : (inputs window : List Leaf) → AreDeletedFrom inputs window → with_live inputs (map (λ (leaf : Leaf). leaf.live) window) ≡ window
window_is [] [] h = refl
window_is [] (y ∷ window) h = absurd h
window_is (x ∷ inputs) [] h = absurd h
window_is (x ∷ inputs) (y ∷ window) h = λ i. record { segment = sym h.0 i; live = y.live } ∷ window_is inputs window h.2 i

-- with the live sets as they were lent
pub deleted_with : (inputs window : List Leaf) (lives : List (List Bool)) → lives ≡ map (λ (leaf : Leaf). leaf.live) window → AreDeletedFrom inputs window → AreDeletedFrom inputs (with_live inputs lives)
deleted_with inputs window lives e h = subst (AreDeletedFrom inputs) (sym (ap (with_live inputs) e ∙ window_is inputs window h)) h

-- the live sets of both are as long
lives_long : (inputs window : List Leaf) → AreDeletedFrom inputs window → length (live_of_all window) ≡ length (live_of_all inputs)
lives_long [] [] h = refl
lives_long [] (y ∷ window) h = absurd h
lives_long (x ∷ inputs) [] h = absurd h
lives_long (x ∷ inputs) (y ∷ window) h =
    length-append y.live (live_of_all window)
    ∙ ap₂ (λ (a b : ℕ). a + b) (sym (LessLive-length x.live y.live h.1)) (lives_long inputs window h.2)
    ∙ sym (length-append x.live (live_of_all inputs))

-- there is a truth value for each row
abbrev FullLeaf : Leaf → Type 0
FullLeaf leaf = length leaf.live ≡ length leaf.segment.rows

-- the inputs' live sets are as long as they have rows
inputs_full : (inputs window : List Leaf) → AreDeletedFrom inputs window → AllByRecursion FullLeaf window → AllByRecursion FullLeaf inputs
inputs_full [] [] h a = tt
inputs_full [] (y ∷ window) h a = absurd h
inputs_full (x ∷ inputs) [] h a = absurd h
inputs_full (x ∷ inputs) (y ∷ window) h a = (LessLive-length x.live y.live h.1 ∙ a.0 ∙ ap (λ (s : Segment). length s.rows) h.0, inputs_full inputs window h.2 a.1)

-- the new segment has a truth value for each row
pub merged_long : (number : ℕ) (schema : Schema) (inputs window : List Leaf) → AreDeletedFrom inputs window → All (λ (leaf : Leaf). length leaf.live ≡ length leaf.segment.rows) window
    → length (merged_leaf number schema inputs window).live ≡ length (merged_leaf number schema inputs window).segment.rows
merged_long number schema inputs window h full =
    let all = All-from_recursion FullLeaf inputs (inputs_full inputs window h (recursion_from_All FullLeaf window full)) in
    length-selected (live_of_all inputs) (live_of_all window) (sym (lives_long inputs window h)) ∙ sym (length-live_rows inputs all)

-- ---- whether there is one

some_is : (n : ℕ) → (n ≡ 0 → ⊥) → (n == 0) ≡ false
some_is n e = elim (eqb_tells n 0) [ inl t ↦ absurd (e t.1) | inr f ↦ f.0 ]

no_rows : (rows : List Row) → length rows ≡ 0 → rows ≡ []
no_rows [] e = refl
no_rows (r ∷ rows) e = absurd (omega (arith, e))

-- some row was kept
some_merged : (number : ℕ) (schema : Schema) (inputs window : List Leaf) → flat_map live_rows inputs ≢ [] → merged_leaf number schema inputs window ∷ [] ≡ merged_leaves number schema inputs window
some_merged number schema inputs window some =
    sym (ap (λ (b : Bool). cond (not b) (merged_leaf number schema inputs window ∷ []) []) (some_is (length (flat_map live_rows inputs)) (λ e. some (no_rows (flat_map live_rows inputs) e))))

pub leaf_merged : (number : ℕ) (schema : Schema) (inputs window : List Leaf) (lives : List (List Bool)) (segment : Segment) (live : List Bool) → AreDeletedFrom inputs window → lives ≡ map (λ (leaf : Leaf). leaf.live) window
    → flat_map live_rows inputs ≢ [] → segment ≡ (merged_leaf number schema inputs inputs).segment → live ≡ (merged_leaf number schema inputs (with_live inputs lives)).live
    → record { segment = segment; live = live } ∷ [] ≡ merged_leaves number schema inputs window
leaf_merged number schema inputs window lives segment live h e some is settled =
    let last : live ≡ (merged_leaf number schema inputs window).live = settled ∙ ap (λ (w : List Leaf). (merged_leaf number schema inputs w).live) (ap (with_live inputs) e ∙ window_is inputs window h) in
    let same : record { segment = segment; live = live } ≡ merged_leaf number schema inputs window = λ i. record { segment = is i; live = last i } in
    ap (λ (leaf : Leaf). leaf ∷ []) same ∙ some_merged number schema inputs window some

-- the segment with this live set
abbrev pub leaf_with : Segment → List Bool → Leaf
leaf_with segment live = record { segment = segment; live = live }

-- a truth value for each row
pub leaf_long : (number : ℕ) (schema : Schema) (inputs window : List Leaf) (lives : List (List Bool)) (segment : Segment) (live : List Bool) → AreDeletedFrom inputs window → lives ≡ map (λ (leaf : Leaf). leaf.live) window
    → All (λ (leaf : Leaf). length leaf.live ≡ length leaf.segment.rows) window → segment ≡ (merged_leaf number schema inputs inputs).segment
    → live ≡ (merged_leaf number schema inputs (with_live inputs lives)).live → length live ≡ length segment.rows
leaf_long number schema inputs window lives segment live h e full is settled =
    let last : live ≡ (merged_leaf number schema inputs window).live = settled ∙ ap (λ (w : List Leaf). (merged_leaf number schema inputs w).live) (ap (with_live inputs) e ∙ window_is inputs window h) in
    ap length last ∙ merged_long number schema inputs window h full ∙ ap (λ (s : Segment). length s.rows) (sym is)

-- what was sealed where some row was kept
pub sealed_some : (number : ℕ) (schema : Schema) (inputs : List Leaf) (o : Option Segment) (segment : Segment) → o ≡ Some segment
    → MatchOption o (flat_map live_rows inputs ≡ []) (λ (s : Segment). (flat_map live_rows inputs ≢ []) × (s ≡ (merged_leaf number schema inputs inputs).segment))
    → (flat_map live_rows inputs ≢ []) × (segment ≡ (merged_leaf number schema inputs inputs).segment)
sealed_some number schema inputs o segment e h =
    subst (λ (x : Option Segment). MatchOption x (flat_map live_rows inputs ≡ []) (λ (s : Segment). (flat_map live_rows inputs ≢ []) × (s ≡ (merged_leaf number schema inputs inputs).segment))) e h
