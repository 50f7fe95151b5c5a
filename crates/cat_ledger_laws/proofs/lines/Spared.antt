-- What a call makes of a ledger that is carried spares what was tried.
use Rattle.std.proofs.Common.{◌≡◌, ◌⊎◌, ℕ, ◌≤◌, ◌++◌, Option, Some, None, refl, sym, ◌∙◌, ap, subst, arith, inl, inr}
use Rattle.std.proofs.lemmas.List.Elements.{filter_map-append}
use Rattle.cat_model.specs.Run.{Run, accepted, now, writes}
use Rattle.cat_model.specs.Table.{Opened, table}
use Rattle.cat_model.proofs.UpTo.{table-more}
use Rattle.cat_directory.specs.Devices.{FileContent, OrGone}
use Rattle.cat_directory.specs.Names.{name_of}
use Rattle.cat_directory.specs.declared.name.FileName.{FileName}
use Rattle.cat_ledger_laws.specs.model.Ledger.{IsNew, Ledger}
use Rattle.cat_ledger_laws.specs.model.Stored.{FileBytes}
use Rattle.cat_ledger_laws.specs.model.Taking.{TakesOn}
use Rattle.cat_ledger_laws.proofs.model.Taking.{calls_take_on}
use Rattle.cat_ledger_laws.specs.shape.Shapes.{MergingShape, Shape, merging_of, merging_shape, shape_of}
use Rattle.cat_ledger_laws.specs.shape.Ties.{Carries, Makes, ToldFiles}
use Rattle.cat_ledger_laws.specs.shape.Tried.{IsOfMaking, SparesTaken}
use Rattle.cat_ledger_laws.proofs.shape.Tried.{merge_of}
use Rattle.cat_ledger_laws.specs.lines.TriedLaws.{LinesSpareTaken, StandsAreOfRuns}
use Rattle.cat_ledger_laws.specs.lines.RunLaws.{Stands}
use Rattle.cat_ledger_laws.specs.model.Ledger.{table_of}

module _ (left left' : FileName → FileContent → Type 0) where
  abbrev pub SparesFilesTaken : Shape → Type 0
  SparesFilesTaken s = (q : FileName) → (IsNew s.next_segment s.next_generation (name_of q) → ⊥)
      → ((m : MergingShape) → s.merging ≡ Some m → IsOfMaking m q → ⊥) → OrGone (left q) (left' q)

  -- of a ledger
  pub shape_spares : (l new : Ledger) → TakesOn l new → SparesFilesTaken (shape_of l) → SparesTaken left left' (shape_of l) (shape_of new)
  shape_spares l new takes files = record {
    files = files;
    segments = takes.segments;
    generations = takes.generations;
    merging = λ m making.
        let own = merge_of new.schema new.merging m making in
        elim (takes.merging own.0 own.1) [
          | inl old ↦ inl (merging_of l.schema old.0, ap (merging_shape l.schema) old.1, own.2 ∙ old.2)
          | inr fresh ↦ inr (omega (arith, fresh, own.2))
        ];
  }

  -- of what memory has, where a call makes it
  pub made_spares : (call : Ledger → Ledger → Type 0) → ((l new : Ledger) → call l new → TakesOn l new) → (told told' : ToldFiles) (s new : Shape)
      → Makes call told s told' new → (l : Ledger) (files : FileBytes) → Carries told s l files → SparesFilesTaken s → SparesTaken left left' s new
  made_spares call takes told told' s new makes l files carries spared =
      let made = makes l files carries in
      subst (λ (x : Shape). SparesTaken left left' x new) carries.shape
      (subst (λ (x : Shape). SparesTaken left left' (shape_of l) x) made.3.shape
      (shape_spares l made.0 (takes l made.0 made.2) (subst SparesFilesTaken (sym carries.shape) spared)))

pub lines_spare_taken : {D : Type 0} (left : D → FileName → FileContent → Type 0) → LinesSpareTaken left
lines_spare_taken left d d' policy told told' s new line reply l files answers carries spared =
    let made = answers l files carries in
    subst (λ (x : Shape). SparesTaken (left d) (left d') x new) carries.shape
    (subst (λ (x : Shape). SparesTaken (left d) (left d') (shape_of l) x) made.5.shape
    (shape_spares (left d) (left d') l made.0 (calls_take_on policy l made.0 line made.2 made.4) (subst (SparesFilesTaken (left d) (left d')) (sym carries.shape) spared)))

-- ---- the run

pub stands_are_of_runs : StandsAreOfRuns
stands_are_of_runs told s from past later st =
    let counts : s.count ≡ now from.start past = ap (λ (x : Shape). x.count) (sym st.carries.shape) ∙ st.stands.shows.count_now in (
      counts,
      st.stands.shows.table_now
          ∙ sym (table-more from.start (writes past) (writes later) (now from.start past) (omega arith))
          ∙ ap (λ ws. table from.start ws (now from.start past)) (sym (filter_map-append accepted past later))
          ∙ ap (table from.start (writes (past ++ later))) (sym counts),
    )
