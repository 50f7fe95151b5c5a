-- The beginning, the steps and the refusals of a merge, lifted to the ledgers that have the shape.
use Rattle.std.proofs.Common.{◌≡◌, ℕ, ◌+◌, ◌<◌, [], ◌∷◌, length, map, take, drop, true, Some, None, refl, sym, ◌∙◌, ap, subst, arith}
use Rattle.cat_model.specs.Files.{Name}
use Rattle.cat_model.specs.Merged.{rows_of_all}
use Rattle.cat_directory.specs.declared.name.FileName.TheVariants as file
use Rattle.cat_ledger_laws.specs.model.Portions.{leaf_of}
use Rattle.cat_ledger_laws.specs.model.Users.{has_name, Changes}
use Rattle.cat_ledger_laws.specs.model.Ledger.{Ledger}
use Rattle.cat_ledger_laws.specs.model.Stored.{FileBytes, AreStored}
use Rattle.cat_ledger_laws.specs.model.Calls as model
use Rattle.cat_ledger_laws.specs.model.Calls.{MergeBegun, Copied, Ended}
use Rattle.cat_ledger_laws.proofs.model.Begins.{begun_change_no_state, copies_change_no_state, ends_change_no_state}
use Rattle.cat_ledger_laws.proofs.model.Stored.{begun_store, ends_store}
use Rattle.cat_ledger_laws.specs.shape.Shapes.{MergingShape, Shape, shape_of}
use Rattle.cat_ledger_laws.specs.shape.Steps.{IsBegun, IsCopied, IsEnded, passed_on}
use Rattle.cat_ledger_laws.specs.shape.Ties.{IsTold, Carries, TouchesOnly}
use Rattle.cat_ledger_laws.specs.shape.MergeLaws.{OfMerge, BegunMake, BegunKeep, CopiesKeep, EndsMake, EndsKeep}
use Rattle.cat_ledger_laws.proofs.shape.Told.{same_again, as_told, with_files, changes_with_files, changes_untold, there_with_files, Lifts, KeepsSound, keeps, makes}
use Rattle.cat_ledger_laws.proofs.shape.Leaves.{length_map}
use Rattle.cat_ledger_laws.proofs.shape.MergeShapes.{no_merge, MergeOf, the_merge, cut, many_shown, passed_shown}

-- a name stands in a list of it alone
pub alone : (q : Name) → has_name q (q ∷ []) ≡ true
alone q = rw (same_again q) refl

-- ---- the beginning

begun_over : (index k : ℕ) (l : Ledger) (new : Shape) → IsBegun index k (shape_of l) new → (l' : Ledger) × (shape_of l' ≡ new) × MergeBegun index k l l'
begun_over index k l new c = (
  record l {
    merging = Some (record { number = l.next_segment; index = index; inputs = take k (drop index l.portions); passed = 0; kept = [] });
    users = new.users;
    next_segment = l.next_segment + 1;
  },
  (λ i. record (shape_of l) {
    merging = Some (record { number = l.next_segment; index = index; inputs = cut l.schema index k l.portions i; passed = 0 });
    users = new.users;
    next_segment = l.next_segment + 1;
  }) ∙ sym c.rest,
  record {
    idle = no_merge l.schema l.merging c.idle;
    left = c.left;
    some = c.some;
    within = omega (arith, c.within, length_map (leaf_of l.schema) l.portions);
    users = c.users;
    rest = refl;
  },
)

begun_lifts : (index k : ℕ) (s new : Shape) → IsBegun index k s new → Lifts (MergeBegun index k) s new
begun_lifts index k s new c l ok is = begun_over index k l new (subst (λ s. IsBegun index k s new) (sym is) c)

begun_sound : (index k : ℕ) (l : Ledger) → KeepsSound (MergeBegun index k) l
begun_sound index k l new ok call = (begun_change_no_state index k l new ok call).0

pub begun_keep : BegunKeep
begun_keep index k s new c = keeps (MergeBegun index k) s new (begun_lifts index k s new c) (λ l is. begun_sound index k l)

pub begun_make : BegunMake
begun_make index k s new told told' c touches empty =
    makes (MergeBegun index k) told told' s new (begun_lifts index k s new c) (λ l is. begun_sound index k l) stores
  where
    stores : (l l' : Ledger) (files : FileBytes) → Carries told s l files → MergeBegun index k l l' → (thought : FileBytes) × AreStored (as_told told' thought) l'
    stores l l' files h call =
        let its : Name = Name.source l.next_segment in
        let next : s.next_segment ≡ l.next_segment = ap (λ (s : Shape). s.next_segment) (sym h.shape) in
        let thought : FileBytes = with_files (its ∷ []) (λ q. Some []) files in (
          thought,
          begun_store index k l l' files (as_told told' thought) h.sound h.stored call
              (changes_with_files (its ∷ []) told told' files (λ q. Some []) h.agrees (subst (λ n. TouchesOnly (Name.source n ∷ []) told told') next touches))
              (there_with_files (its ∷ []) told' files (λ q. Some []) its (Some []) (alone its) (subst (λ n. IsTold (told' (file.Source n)) (Some [])) next empty) refl),
        )

-- ---- a step

copied_over : (m : MergingShape) (l : Ledger) (new : Shape) → IsCopied m (shape_of l) new → (l' : Ledger) × (shape_of l' ≡ new) × OfMerge m Copied l l'
copied_over m l new c =
    let x : MergeOf l.schema l.merging m = the_merge l.schema l.merging m c.making in
    let left : x.merge.passed < length (rows_of_all (map (leaf_of l.schema) x.merge.inputs)) = subst (λ (m : MergingShape). m.passed < length (rows_of_all m.inputs)) (sym x.shape) c.left in (
      record l { merging = Some (model.records_passed_on x.merge) },
      ap (λ m. record (shape_of l) { merging = Some m }) (passed_shown l.schema x.merge ∙ ap passed_on x.shape) ∙ sym c.rest,
      (x.merge, x.shape, record { making = x.is; left = omega (arith, left, many_shown l.schema x.merge.inputs); rest = refl }),
    )

pub copied_lifts : (m : MergingShape) (s new : Shape) → IsCopied m s new → Lifts (OfMerge m Copied) s new
copied_lifts m s new c l ok is = copied_over m l new (subst (λ s. IsCopied m s new) (sym is) c)

pub copied_sound : (m : MergingShape) (l : Ledger) → KeepsSound (OfMerge m Copied) l
copied_sound m l new ok call = (copies_change_no_state call.0 l new ok call.2).0

pub copies_keep : CopiesKeep
copies_keep m s new c = keeps (OfMerge m Copied) s new (copied_lifts m s new c) (λ l is. copied_sound m l)

-- ---- the end

ended_over : (m : MergingShape) (l : Ledger) (new : Shape) → IsEnded m (shape_of l) new → (l' : Ledger) × (shape_of l' ≡ new) × OfMerge m Ended l l'
ended_over m l new c =
    let x : MergeOf l.schema l.merging m = the_merge l.schema l.merging m c.making in
    let number : m.number ≡ x.merge.number = ap (λ (m : MergingShape). m.number) (sym x.shape) in (
      record l { merging = None; users = new.users },
      sym c.rest,
      (x.merge, x.shape, record { making = x.is; users = subst (λ n. Changes [] (Name.source n ∷ []) l.users new.users) number c.users; rest = refl }),
    )

ended_lifts : (m : MergingShape) (s new : Shape) → IsEnded m s new → Lifts (OfMerge m Ended) s new
ended_lifts m s new c l ok is = ended_over m l new (subst (λ s. IsEnded m s new) (sym is) c)

ended_sound : (m : MergingShape) (l : Ledger) → KeepsSound (OfMerge m Ended) l
ended_sound m l new ok call = (ends_change_no_state call.0 l new ok call.2).0

pub ends_keep : EndsKeep
ends_keep m s new c = keeps (OfMerge m Ended) s new (ended_lifts m s new c) (λ l is. ended_sound m l)

pub ends_make : EndsMake
ends_make m s new told told' c touches =
    makes (OfMerge m Ended) told told' s new (ended_lifts m s new c) (λ l is. ended_sound m l) stores
  where
    stores : (l l' : Ledger) (files : FileBytes) → Carries told s l files → OfMerge m Ended l l' → (thought : FileBytes) × AreStored (as_told told' thought) l'
    stores l l' files h call =
        let n : ℕ = call.0.number in
        let number : m.number ≡ n = ap (λ (m : MergingShape). m.number) (sym call.1) in (
          files,
          ends_store call.0 l l' files (as_told told' files) h.sound h.stored call.2
              (changes_untold (Name.source n ∷ Name.segment n ∷ []) told told' files h.agrees
              (subst (λ n. TouchesOnly (Name.source n ∷ Name.segment n ∷ []) told told') number touches)),
        )
