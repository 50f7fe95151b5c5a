-- When segments are merged, from the sizes and live sets that memory has.
use Rattle.std.proofs.Common.{◌≡◌, ℕ, List, [], ◌∷◌, length, map, take, drop, sum, Bool, Option, Some, None, refl, sym, ◌∙◌, ap, ap₂, subst, arith, ◌<◌, true, false, inl, inr}
use Rattle.std.proofs.lemmas.List.{take-map, drop-map}
use Rattle.std.proofs.lemmas.List.Concat.{length-flat_map}
use Rattle.std.proofs.lemmas.List.Sums.{sum-map}
use Rattle.std.proofs.Math.Seq.{take-length}
use Rattle.cat_model.specs.Item.{Schema}
use Rattle.cat_model.specs.Merged.{rows_of_all}
use Rattle.cat_model.specs.Run.{Chore, News, Answer, Command, Reply}
use Rattle.cat_model.specs.View.{Leaf, row_of}
use Rattle.cat_model.specs.Window.{IsMergeable, IsWindow}
use Rattle.cat_ledger_laws.specs.model.Portions.{Portion, leaf_of, Merging, all_records}
use Rattle.cat_ledger_laws.specs.model.Ledger.{Ledger}
use Rattle.cat_ledger_laws.specs.model.Calls.{MergeBegun, Copied, Installed}
use Rattle.cat_ledger_laws.specs.model.Plans.{MergePolicy, MayBeForced, sizes_of, live_sets_of}
use Rattle.cat_ledger_laws.specs.model.Replies.{Maintains, Calls}
use Rattle.cat_ledger_laws.specs.shape.Shapes.{MergingShape, Shape, shape_of, merging_shape, merging_of}
use Rattle.cat_ledger_laws.specs.shape.Steps.{passed_on}
use Rattle.cat_ledger_laws.specs.shape.MergeLaws.{OfMerge}
use Rattle.cat_ledger_laws.specs.lines.PlanLaws.{sizes_in, live_sets_in, MergesBegin, MergesRest, MergesCopy, MergesAreDone, ForcesBegin, ForcesRest, ForcesWait, WindowsFit, ForcedFit, TellsMerge, TellsForce, MergesTell}
use Rattle.cat_ledger_laws.proofs.shape.Told.{makes_of, makes_still}
use Rattle.cat_ledger_laws.proofs.shape.Leaves.{length_map}
use Rattle.cat_ledger_laws.proofs.shape.MergeShapes.{no_merge, passed_shown, many_shown}
use Rattle.std.specs.Prelude.{Ok, Err}
use Rattle.cat_model.specs.cat_base.declared.refusal.Refusal.{Refusal}
use Rattle.cat_model.specs.cat_base.declared.refusal.Refusal.TheVariants.{Memory}
use Rattle.cat_ledger_laws.specs.lines.LineLaws.{line_of}

-- ---- sizes and live sets

sizes_shown : (schema : Schema) (ps : List Portion) → sizes_in (map (leaf_of schema) ps) ≡ sizes_of ps
sizes_shown schema [] = refl
sizes_shown schema (p ∷ ps) = ap₂ (λ (n : ℕ) (ns : List ℕ). n ∷ ns) (length_map row_of p.records) (sizes_shown schema ps)

live_shown : (schema : Schema) (ps : List Portion) → live_sets_in (map (leaf_of schema) ps) ≡ live_sets_of ps
live_shown schema [] = refl
live_shown schema (p ∷ ps) = ap (λ (bs : List (List Bool)). p.live ∷ bs) (live_shown schema ps)

window_of : (policy : MergePolicy) (o : Option ℕ) (s : Shape) (l : Ledger) → shape_of l ≡ s → IsWindow policy.factor policy.least (sizes_in s.leaves) o → IsWindow policy.factor policy.least (sizes_of l.portions) o
window_of policy o s l is w =
    subst (λ sizes. IsWindow policy.factor policy.least sizes o) (sizes_shown l.schema l.portions) (subst (λ (s : Shape). IsWindow policy.factor policy.least (sizes_in s.leaves) o) (sym is) w)

forced_of : (l : Ledger) → MayBeForced (sizes_in (map (leaf_of l.schema) l.portions)) (live_sets_in (map (leaf_of l.schema) l.portions)) ≡ MayBeForced (sizes_of l.portions) (live_sets_of l.portions)
forced_of l = ap₂ MayBeForced (sizes_shown l.schema l.portions) (live_shown l.schema l.portions)

idle_of : (s : Shape) (l : Ledger) → shape_of l ≡ s → s.merging ≡ None → l.merging ≡ None
idle_of s l is e = no_merge l.schema l.merging (ap (λ (s : Shape). s.merging) is ∙ e)

-- ---- MERGE

pub merges_begin : MergesBegin
merges_begin policy index s new told told' w =
    makes_of (MergeBegun index policy.factor) (Maintains policy Chore.merge (News.begun_merge policy.factor)) told told' s new (λ l l' is call. (refl, index, window_of policy (Some index) s l is w, call))

pub merges_rest : MergesRest
merges_rest policy s told told' idle w touches =
    makes_still (Maintains policy Chore.merge News.idle) told told' s s refl touches (λ l is. (idle_of s l is idle, window_of policy None s l is w, refl))

pub merges_copy : MergesCopy
merges_copy policy m s new told told' =
    makes_of (OfMerge m Copied) (Maintains policy Chore.merge (News.copied (passed_on m).passed)) told told' s new (λ l l' is call.
    (call.0, call.2, ap (λ m. (passed_on m).passed) (sym call.1) ∙ ap (λ (m : MergingShape). m.passed) (sym (passed_shown l.schema call.0))))

pub merges_are_done : MergesAreDone
merges_are_done policy m s new told told' = makes_of (OfMerge m Installed) (Maintains policy Chore.merge News.done) told told' s new (λ l l' is call. (call.0, call.2))

-- ---- FORCE

pub forces_begin : ForcesBegin
forces_begin policy s new told told' may =
    makes_of (MergeBegun 0 (length s.leaves)) (Maintains policy Chore.force (News.begun_merge (length s.leaves))) told told' s new (λ l l' is call. (
      ap (λ (s : Shape). length s.leaves) (sym is) ∙ length_map (leaf_of l.schema) l.portions,
      subst (λ A. A) (forced_of l) (subst (λ (s : Shape). MayBeForced (sizes_in s.leaves) (live_sets_in s.leaves)) (sym is) may),
      call,
    ))

pub forces_rest : ForcesRest
forces_rest policy s told told' idle may touches =
    makes_still (Maintains policy Chore.force News.idle) told told' s s refl touches (λ l is.
    (idle_of s l is idle, (λ forced. may (subst (λ (s : Shape). MayBeForced (sizes_in s.leaves) (live_sets_in s.leaves)) is (subst (λ A. A) (sym (forced_of l)) forced))), refl))

pub forces_wait : ForcesWait
forces_wait policy s told told' making touches =
    makes_still (Maintains policy Chore.force News.busy) told told' s s refl touches (λ l is.
    ((λ e. making (ap (λ (s : Shape). s.merging) (sym is) ∙ ap (merging_shape l.schema) e)), refl))

-- ---- what one segment can hold

rows_counted : (leaves : List Leaf) → length (rows_of_all leaves) ≡ sum (sizes_in leaves)
rows_counted leaves = length-flat_map (λ (leaf : Leaf). leaf.segment.rows) leaves ∙ sym (sum-map (λ (leaf : Leaf). length leaf.segment.rows) leaves)

mergeable : (factor least : ℕ) (sizes : List ℕ) (o : Option ℕ) → IsWindow factor least sizes o → (index : ℕ) → o ≡ Some index → (level : ℕ) × IsMergeable factor least sizes level index
mergeable factor least sizes o (IsWindow.no_window f) index e = absurd cc
mergeable factor least sizes o (IsWindow.window level i m f) index e = (level, subst (IsMergeable factor least sizes level) (the e) m)
  where
    the : Some i ≡ Some index → i ≡ index
    the e = cc

pub windows_fit : WindowsFit
windows_fit policy index leaves w =
    let f : Leaf → ℕ = λ leaf. length leaf.segment.rows in
    let x = mergeable policy.factor policy.least (sizes_in leaves) (Some index) w index refl in
    let cut : take policy.factor (drop index (sizes_in leaves)) ≡ sizes_in (take policy.factor (drop index leaves)) =
    ap (take policy.factor) (drop-map f index leaves) ∙ take-map f policy.factor (drop index leaves) in
    (omega (arith, x.1.within, length_map f leaves), omega (arith, x.1.few, ap sum cut, rows_counted (take policy.factor (drop index leaves))))

pub forced_fit : ForcedFit
forced_fit leaves may = omega (arith, may.few, rows_counted leaves, ap (λ (xs : List Leaf). length (rows_of_all xs)) (take-length leaves))

-- ---- what is told is so

shown_window : (policy : MergePolicy) (o : Option ℕ) (s : Shape) (l : Ledger) → shape_of l ≡ s
    → IsWindow policy.factor policy.least (sizes_of l.portions) o → IsWindow policy.factor policy.least (sizes_in s.leaves) o
shown_window policy o s l is w =
    subst (λ (s : Shape). IsWindow policy.factor policy.least (sizes_in s.leaves) o) is
    (subst (λ sizes. IsWindow policy.factor policy.least sizes o) (sym (sizes_shown l.schema l.portions)) w)

shown_idle : (s : Shape) (l : Ledger) → shape_of l ≡ s → l.merging ≡ None → s.merging ≡ None
shown_idle s l is e = ap (λ (s : Shape). s.merging) (sym is) ∙ ap (merging_shape l.schema) e

shown_merge : (s : Shape) (l : Ledger) (m : Merging) → shape_of l ≡ s → l.merging ≡ Some m → s.merging ≡ Some (merging_of l.schema m)
shown_merge s l m is e = ap (λ (s : Shape). s.merging) (sym is) ∙ ap (merging_shape l.schema) e

shown_forced : (s : Shape) (l : Ledger) → shape_of l ≡ s → MayBeForced (sizes_of l.portions) (live_sets_of l.portions)
    → MayBeForced (sizes_in s.leaves) (live_sets_in s.leaves)
shown_forced s l is may =
    subst (λ (s : Shape). MayBeForced (sizes_in s.leaves) (live_sets_in s.leaves)) is (subst (λ A. A) (sym (forced_of l)) may)

maintained_merge : (policy : MergePolicy) (s : Shape) (l new : Ledger) (n : News) → shape_of l ≡ s → Maintains policy Chore.merge n l new → TellsMerge policy s n
maintained_merge policy s l new News.idle is m = (shown_idle s l is m.0, shown_window policy None s l is m.1)
maintained_merge policy s l new News.busy is m = absurd (let no : false ≡ true = m.0 in cc)
maintained_merge policy s l new (News.begun_merge k) is m = (shown_idle s l is m.3.idle, m.0, m.1, shown_window policy (Some m.1) s l is m.2)
maintained_merge policy s l new (News.copied n) is m =
    let many : length (rows_of_all (map (leaf_of l.schema) m.0.inputs)) ≡ length (all_records m.0.inputs) = many_shown l.schema m.0.inputs in
    let less : m.0.passed < length (all_records m.0.inputs) = m.1.left in (
      merging_of l.schema m.0,
      shown_merge s l m.0 is m.1.making,
      omega (arith, many, less),
      m.2 ∙ ap (λ (x : MergingShape). x.passed) (passed_shown l.schema m.0),
    )
maintained_merge policy s l new News.done is m =
    let many : length (rows_of_all (map (leaf_of l.schema) m.0.inputs)) ≡ length (all_records m.0.inputs) = many_shown l.schema m.0.inputs in
    let all : m.0.passed ≡ length (all_records m.0.inputs) = m.1.all in
    (merging_of l.schema m.0, shown_merge s l m.0 is m.1.making, all ∙ sym many)
maintained_merge policy s l new News.begun_warming is m = absurd (let no : false ≡ true = m.0 in cc)
maintained_merge policy s l new (News.warmed r) is m = absurd (let no : false ≡ true = m.0 in cc)
maintained_merge policy s l new News.stored is m = absurd (let no : false ≡ true = m.0 in cc)
maintained_merge policy s l new (News.swept n) is m = absurd (let no : false ≡ true = m.0 in cc)
maintained_merge policy s l new (News.state st) is m = absurd (let no : false ≡ true = m.0 in cc)

maintained_force : (policy : MergePolicy) (s : Shape) (l new : Ledger) (n : News) → shape_of l ≡ s → Maintains policy Chore.force n l new → TellsForce s n
maintained_force policy s l new News.idle is m =
    (shown_idle s l is m.0, λ may. m.1 (subst (λ A. A) (forced_of l) (subst (λ (s : Shape). MayBeForced (sizes_in s.leaves) (live_sets_in s.leaves)) (sym is) may)))
maintained_force policy s l new News.busy is m = λ idle. m.0 (idle_of s l is idle)
maintained_force policy s l new (News.begun_merge k) is m = (
  shown_idle s l is m.2.idle,
  m.0 ∙ sym (length_map (leaf_of l.schema) l.portions) ∙ ap (λ (s : Shape). length s.leaves) is,
  shown_forced s l is m.1,
)
maintained_force policy s l new (News.copied n) is m = absurd (let no : false ≡ true = m.0 in cc)
maintained_force policy s l new News.done is m = absurd (let no : false ≡ true = m.0 in cc)
maintained_force policy s l new News.begun_warming is m = absurd (let no : false ≡ true = m.0 in cc)
maintained_force policy s l new (News.warmed r) is m = absurd (let no : false ≡ true = m.0 in cc)
maintained_force policy s l new News.stored is m = absurd (let no : false ≡ true = m.0 in cc)
maintained_force policy s l new (News.swept n) is m = absurd (let no : false ≡ true = m.0 in cc)
maintained_force policy s l new (News.state st) is m = absurd (let no : false ≡ true = m.0 in cc)

one_news : (n k : News) → ◌≡◌ {A = Reply} (Ok (Answer.news n)) (Ok (Answer.news k)) → k ≡ n
one_news n k e = cc

no_refusal : {A : Type 0} (n : News) (e : Refusal) → ◌≡◌ {A = Reply} (Ok (Answer.news n)) (Err e) → A
no_refusal n e is = absurd (let no : ◌≡◌ {A = Reply} (Ok (Answer.news n)) (Err e) = is in cc)

-- what is called for session 0 with news is what they maintain
maintains_news : (policy : MergePolicy) (c : Chore) (l new : Ledger) (n : News) (fitting : Reply) → Ok (Answer.news n) ≡ fitting
    → Calls policy l (line_of 0 (Command.chore c)) fitting new → Maintains policy c n l new
maintains_news policy c l new n fitting is (inl m) = subst (λ k. Maintains policy c k l new) (one_news n m.0 (is ∙ m.1)) m.2
maintains_news policy c l new n fitting is (inr (inl m)) =
    elim m.0 [ inl k ↦ no_refusal n Memory (is ∙ k.0) | inr k ↦ no_refusal n k.0.0 (is ∙ k.0.1) ]
maintains_news policy c l new n fitting is (inr (inr m)) = absurd m

pub merges_tell : MergesTell
merges_tell policy told told' s new n l files c = (
  λ answers.
      let x = answers l files c in
      maintained_merge policy s l x.0 n c.shape (maintains_news policy Chore.merge l x.0 n x.2 x.3.alike x.4),
  λ answers.
      let x = answers l files c in
      maintained_force policy s l x.0 n c.shape (maintains_news policy Chore.force l x.0 n x.2 x.3.alike x.4),
)
