-- A commit that was refused is found with the run's table.
use Rattle.std.proofs.Common.{◌≡◌, ◌++◌, List, [], refl, sym, ◌∙◌, ap, subst}
use Rattle.cat_model.specs.CommitFile.{CommitFile, IsCommitFile}
use Rattle.cat_model.specs.Item.{Record, Schema}
use Rattle.cat_model.specs.Opens.{HoldsCommit}
use Rattle.cat_model.specs.Run.{Run, now, writes}
use Rattle.cat_model.specs.State.{State}
use Rattle.cat_model.specs.Table.{Opened, table}
use Rattle.cat_model.specs.Text.{Text}
use Rattle.cat_model.specs.Told.{FileContent}
use Rattle.cat_directory.specs.declared.name.FileName.{FileName}
use Rattle.cat_ledger_laws.specs.model.Ledger.{Ledger, state_of, table_of}
use Rattle.cat_ledger_laws.specs.model.Stored.{FileBytes}
use Rattle.cat_ledger_laws.proofs.model.Flushes.{flushes_change_no_state}
use Rattle.cat_ledger_laws.specs.shape.Shapes.{Shape}
use Rattle.cat_ledger_laws.specs.shape.Steps.{commit_file_now}
use Rattle.cat_ledger_laws.specs.shape.Ties.{Carries, ToldFiles}
use Rattle.cat_ledger_laws.specs.shape.Tried.{LeavesTried, TriedCommit, tells_image}
use Rattle.cat_ledger_laws.specs.lines.RunLaws.{Stands}
use Rattle.cat_ledger_laws.specs.lines.TriedLaws.{FlushedArePromised, IsPromisedBy, LiveAreTold, RefusedAreFound, SegmentsAreTold, whole_files}
use Rattle.cat_ledger_laws.proofs.lines.Spared.{stands_are_of_runs}
use Rattle.cat_ledger_laws.proofs.lines.TriedFound as tried
use Rattle.cat_ledger_laws.proofs.lines.TriedHeld.{tried_hold}

pub flushed_are_promised : FlushedArePromised
flushed_are_promised text told told' told'' s mid t flushes same empty form left only live is tells = record {
  token = ap (λ (c : CommitFile). c.token) is ∙ sym same.0;
  held = λ l files carries.
      let made = flushes l files carries in
      let state : state_of made.0 ≡ state_of l = (flushes_change_no_state l made.0 carries.sound made.2).1 in
      let held = tried_hold text told' told'' mid made.0 made.1 t made.3 empty form left only live is tells in
      subst (λ (schema : Schema). HoldsCommit (tells_image (whole_files t)) schema t.commit.generation t.commit (table_of l)) (sym same.1)
      (subst (λ g. HoldsCommit (tells_image (whole_files t)) mid.schema g t.commit (table_of l)) (ap (λ (c : CommitFile). c.generation) (sym is))
      (subst (λ rs. HoldsCommit (tells_image (whole_files t)) mid.schema mid.next_generation t.commit rs) (ap (λ (x : State). x.table) state) held));
}

module _ (segments : SegmentsAreTold) (lives : LiveAreTold) (left : FileName → FileContent → Type 0) (told : ToldFiles) (s : Shape) (from : Opened) (past later : Run)
    (t : TriedCommit) (st : Stands told s from past) (promised : IsPromisedBy told s t) (leaves : LeavesTried left t) (image : FileName → FileContent)
    (crashed : (q : FileName) → left q (image q)) (schema : Schema) (c : CommitFile) (found : List Record)
    (holds : HoldsCommit (tells_image image) schema t.commit.generation c found) where
  held : HoldsCommit (tells_image (whole_files t)) s.schema t.commit.generation t.commit (table_of st.ledger)
  held = promised.held st.ledger st.files st.carries

  is : c ≡ t.commit
  is = (tried.there segments lives left t s.schema (table_of st.ledger) leaves held image crashed schema c found holds).0

  counts : c.token ≡ s.count
  counts = ap (λ (d : CommitFile). d.token) is ∙ promised.token

  run : (s.count ≡ now from.start past) × (table_of st.ledger ≡ table from.start (writes (past ++ later)) s.count)
  run = stands_are_of_runs told s from past later st

  shown : found ≡ table from.start (writes (past ++ later)) c.token
  shown =
      tried.table segments lives left t s.schema (table_of st.ledger) leaves held image crashed schema c found holds
      ∙ run.1
      ∙ ap (table from.start (writes (past ++ later))) (sym counts)

pub refused_are_found : {D : Type 0} (left : D → FileName → FileContent → Type 0) → RefusedAreFound left
refused_are_found left segments lives told s from past later t st promised last leaves image crashed schema c found holds = (
  is segments lives (left last) told s from past later t st promised leaves image crashed schema c found holds,
  counts segments lives (left last) told s from past later t st promised leaves image crashed schema c found holds
      ∙ (run segments lives (left last) told s from past later t st promised leaves image crashed schema c found holds).0,
  shown segments lives (left last) told s from past later t st promised leaves image crashed schema c found holds,
)
