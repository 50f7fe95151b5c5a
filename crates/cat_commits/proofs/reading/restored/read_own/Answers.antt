use Rattle.std.proofs.Common.{◌≡◌, ◌≢◌, Some, None, sym, ap, ◌∙◌, subst}
use Rattle.cat_base.specs.declared.refusal.Refusal.{Refusal}
use Rattle.cat_base.specs.declared.refusal.Refusal.TheVariants.{Damaged, Device, Memory}
use Rattle.cat_directory.specs.declared.name.FileName.TheVariants as file
use Rattle.cat_model.specs.CommitFile.{CommitFile, SpellsCommit}
use Rattle.cat_model.specs.Text.{Text}
use Rattle.cat_ledger_laws.specs.model.Opening.{HasCommit}
use Rattle.cat_ledger_laws.specs.shape.OpeningLaws.{MayHold}
use Rattle.cat_ledger_laws.specs.shape.Ties.{ToldFiles}
use Rattle.cat_commits.specs.reading.Told.{Tells}
use Rattle.cat_commits.proofs.reading.Reading.{not_ok, passed}
use Rattle.cat_commits.proofs.Frames.{fails_judged, fails_on}
use Rattle.cat_commits.proofs.reading.Parts.{commit_spells, not_absent}
use Rattle.cat_commits.proofs.reading.restored.read_own.Goals as goal

pub returns-in_err-bytes : goal.returns-in_err-bytes
returns-in_err-bytes g c =
    let told : ToldFiles = g.S.Holder.bytes c.args.shelf.now in
    record {
      ok = not_ok (HasCommit (MayHold told) c.args.generation) _ _ c.from_residual.ensures;
      damaged = passed (λ (e : Refusal). e ≡ Damaged → (d : CommitFile) → HasCommit (Tells told) c.args.generation d → ⊥) _ _ c.from_residual.ensures
          (λ is d h. c.in_err-bytes.ensures.damaged is h.bytes h.there);
      due = passed (λ (e : Refusal). e ≡ Memory → told (file.Commit c.args.generation) ≢ Some None) _ _ c.from_residual.ensures c.in_err-bytes.ensures.due;
      fails = fails_on c.from_residual.ensures c.in_err-bytes.ensures.fails;
      frame = c.in_err-bytes.ensures.frame;
    }

pub returns-in_err-commit : goal.returns-in_err-commit
returns-in_err-commit g c =
    let told : ToldFiles = g.S.Holder.bytes c.args.shelf.now in
    record {
      ok = not_ok (HasCommit (MayHold told) c.args.generation) _ _ c.from_residual-in_err-commit.ensures;
      damaged = passed (λ (e : Refusal). e ≡ Damaged → (d : CommitFile) → HasCommit (Tells told) c.args.generation d → ⊥) _ _ c.from_residual-in_err-commit.ensures
          (λ is d h.
          c.in_err-commit.ensures.damaged is d (subst (λ (b : Text). SpellsCommit b d) (sym c.deref.ensures.value)
          (commit_spells told c.args.generation c.in_ok-bytes.bytes.items d c.in_ok-bytes.ensures.ok h)));
      due = passed (λ (e : Refusal). e ≡ Memory → told (file.Commit c.args.generation) ≢ Some None) _ _ c.from_residual-in_err-commit.ensures
          (λ is. not_absent (told (file.Commit c.args.generation)) c.in_ok-bytes.bytes.items c.in_ok-bytes.ensures.ok);
      fails = fails_judged c.from_residual-in_err-commit.ensures c.in_ok-bytes.ensures.fails.counted c.in_err-commit.ensures.refusal;
      frame = c.in_ok-bytes.ensures.frame;
    }

pub returns-then-commit-generation : goal.returns-then-commit-generation
returns-then-commit-generation g c =
    let told : ToldFiles = g.S.Holder.bytes c.args.shelf.now in
    record {
      ok = tt;
      damaged = λ is d h.
          let spelled : SpellsCommit c.deref.result.now d = subst (λ (b : Text). SpellsCommit b d) (sym c.deref.ensures.value) (commit_spells told c.args.generation c.in_ok-bytes.bytes.items d c.in_ok-bytes.ensures.ok h) in
          let same : c.in_ok-commit.commit ≡ d = c.commits_are_told_by_their_bytes.ensures c.deref.result.now c.in_ok-commit.commit d c.in_ok-commit.ensures.ok spelled in
          absurd (c.if-commit-generation.true (ap (λ (x : CommitFile). x.generation) (c.commit.view_is ∙ same) ∙ h.number));
      due = λ is. absurd (let no : Damaged ≡ Memory = is in cc);
      fails = record { device = λ is. absurd (let no : Damaged ≡ Device = is in cc); counted = c.in_ok-bytes.ensures.fails.counted };
      frame = c.in_ok-bytes.ensures.frame;
    }

pub returns : goal.returns
returns g c = record {
  ok = record {
    bytes = c.in_ok-bytes.bytes.items;
    there = c.in_ok-bytes.ensures.ok;
    spelled = subst (λ (b : Text). SpellsCommit b c.in_ok-commit.commit) c.deref.ensures.value c.in_ok-commit.ensures.ok;
    number = sym (ap (λ (x : CommitFile). x.generation) c.commit.view_is) ∙ c.if-commit-generation.false;
  };
  damaged = tt;
  due = tt;
  fails = record { device = tt; counted = c.in_ok-bytes.ensures.fails.counted };
  frame = c.in_ok-bytes.ensures.frame;
}
