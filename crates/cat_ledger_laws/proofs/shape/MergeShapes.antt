-- What memory has of a merge in the making, and of the portions of which it is made.
use Rattle.std.proofs.Common.{◌≡◌, ℕ, ◌+◌, ◌-◌, List, [], ◌∷◌, ◌++◌, length, map, take, drop, Option, Some, None, refl, sym, ◌∙◌, ap}
use Rattle.std.specs.Prelude.{min}
use Rattle.std.proofs.lemmas.List.{map-append, take-map, drop-map}
use Rattle.cat_model.specs.Item.{Schema}
use Rattle.cat_model.specs.Limits.{step_limit}
use Rattle.cat_model.specs.View.{row_of}
use Rattle.cat_model.specs.Merged.{AreDeletedFrom, rows_of_all, live_of_all}
use Rattle.cat_ledger_laws.specs.model.Portions.{Portion, all_records, lives_of, leaf_of, Reduced, Merging}
use Rattle.cat_ledger_laws.specs.model.Calls as model
use Rattle.cat_ledger_laws.specs.shape.Shapes.{MergingShape, merging_of, merging_shape}
use Rattle.cat_ledger_laws.specs.shape.Steps.{passed_on}
use Rattle.cat_ledger_laws.proofs.shape.Leaves.{length_map}

-- ---- if there is a merge

pub no_merge : (schema : Schema) (o : Option Merging) → merging_shape schema o ≡ None → o ≡ None
no_merge schema None e = refl
no_merge schema (Some m) e = absurd cc

-- the one that memory has so
pub record MergeOf (schema : Schema) (o : Option Merging) (m : MergingShape) : Type 0 where
  pub merge : Merging
  pub is : o ≡ Some merge
  pub shape : merging_of schema merge ≡ m

pub the_merge : (schema : Schema) (o : Option Merging) (m : MergingShape) → merging_shape schema o ≡ Some m → MergeOf schema o m
the_merge schema None m e = absurd cc
the_merge schema (Some x) m e = record { merge = x; is = refl; shape = cc }

-- ---- leaves of portions

pub cut : (schema : Schema) (index k : ℕ) (ps : List Portion) → map (leaf_of schema) (take k (drop index ps)) ≡ take k (drop index (map (leaf_of schema) ps))
cut schema index k ps = sym (take-map (leaf_of schema) k (drop index ps)) ∙ ap (take k) (sym (drop-map (leaf_of schema) index ps))

pub rows_shown : (schema : Schema) (ps : List Portion) → rows_of_all (map (leaf_of schema) ps) ≡ map row_of (all_records ps)
rows_shown schema [] = refl
rows_shown schema (p ∷ ps) = ap (λ l. map row_of p.records ++ l) (rows_shown schema ps) ∙ sym (map-append row_of p.records (all_records ps))

pub many_shown : (schema : Schema) (ps : List Portion) → length (rows_of_all (map (leaf_of schema) ps)) ≡ length (all_records ps)
many_shown schema ps = ap length (rows_shown schema ps) ∙ length_map row_of (all_records ps)

pub lives_shown : (schema : Schema) (ps : List Portion) → live_of_all (map (leaf_of schema) ps) ≡ lives_of ps
lives_shown schema [] = refl
lives_shown schema (p ∷ ps) = ap (λ l. p.live ++ l) (lives_shown schema ps)

pub deleted_shown : (schema : Schema) (ps qs : List Portion) → Reduced ps qs → AreDeletedFrom (map (leaf_of schema) ps) (map (leaf_of schema) qs)
deleted_shown schema [] [] h = tt
deleted_shown schema [] (q ∷ qs) h = absurd h
deleted_shown schema (p ∷ ps) [] h = absurd h
deleted_shown schema (p ∷ ps) (q ∷ qs) h = (λ i. record { number = h.0 i; schema = schema; rows = map row_of (h.1 i) }, h.2, deleted_shown schema ps qs h.3)

-- ---- one step more

pub passed_shown : (schema : Schema) (m : Merging) → merging_of schema (model.records_passed_on m) ≡ passed_on (merging_of schema m)
passed_shown schema m = λ i. record (merging_of schema m) { passed = m.passed + min step_limit (sym (many_shown schema m.inputs) i - m.passed) }
