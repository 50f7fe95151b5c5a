use Rattle.std.proofs.Common.{◌≡◌, ◌≢◌, List, Bool, Some, None, length, true, false, ap, sym, subst, rules}
use Rattle.cat_base.specs.declared.refusal.Refusal.{Refusal}
use Rattle.cat_base.specs.declared.refusal.Refusal.TheVariants.{Damaged, Device, Memory}
use Rattle.cat_directory.specs.declared.name.FileName.TheVariants as file
use Rattle.cat_model.specs.Text.{Text}
use Rattle.cat_model.specs.LiveFile.{LiveRows, SpellsLive}
use Rattle.cat_ledger_laws.specs.model.Opening.{HasLiveFile}
use Rattle.cat_ledger_laws.specs.shape.OpeningLaws.{MayHold}
use Rattle.cat_commits.specs.reading.Told.{Tells}
use Rattle.cat_commits.proofs.reading.Reading.{not_ok, passed}
use Rattle.cat_commits.proofs.Frames.{fails_judged, fails_on}
use Rattle.cat_commits.proofs.reading.Parts.{live_as, live_spells, live_other, not_absent}
use Rattle.cat_commits.proofs.reading.leaf.read_live_file.Goals as goal

pub returns-in_err-bytes : goal.returns-in_err-bytes
returns-in_err-bytes g c = record {
  ok = not_ok (λ (live : List Bool). HasLiveFile (MayHold (g.S.Holder.bytes c.args.shelf.now)) (record { number = c.args.number; file = c.args.generation }) live × (length live ≡ c.args.rows)) _ _ c.from_residual.ensures;
  damaged = passed (λ (e : Refusal). e ≡ Damaged → (live : List Bool) → HasLiveFile (Tells (g.S.Holder.bytes c.args.shelf.now)) (record { number = c.args.number; file = c.args.generation }) live
      → length live ≡ c.args.rows → ⊥) _ _ c.from_residual.ensures (λ is live h long. c.in_err-bytes.ensures.damaged is h.bytes h.there);
  due = passed (λ (e : Refusal). e ≡ Memory → g.S.Holder.bytes c.args.shelf.now (file.Live c.args.number c.args.generation) ≢ Some None) _ _ c.from_residual.ensures c.in_err-bytes.ensures.due;
  fails = fails_on c.from_residual.ensures c.in_err-bytes.ensures.fails;
  frame = c.in_err-bytes.ensures.frame;
}

pub returns-in_err-file : goal.returns-in_err-file
returns-in_err-file g c = record {
  ok = not_ok (λ (live : List Bool). HasLiveFile (MayHold (g.S.Holder.bytes c.args.shelf.now)) (record { number = c.args.number; file = c.args.generation }) live × (length live ≡ c.args.rows)) _ _ c.from_residual-in_err-file.ensures;
  damaged = passed (λ (e : Refusal). e ≡ Damaged → (live : List Bool) → HasLiveFile (Tells (g.S.Holder.bytes c.args.shelf.now)) (record { number = c.args.number; file = c.args.generation }) live
      → length live ≡ c.args.rows → ⊥) _ _ c.from_residual-in_err-file.ensures
      (λ is live h long.
      let rows : LiveRows = record { number = c.args.number; generation = c.args.generation; live = live } in
      c.in_err-file.ensures.damaged is rows (subst (λ (b : Text). SpellsLive b rows) (sym c.deref.ensures.value)
      (live_spells (g.S.Holder.bytes c.args.shelf.now) c.args.number c.args.generation c.in_ok-bytes.bytes.items c.in_ok-bytes.ensures.ok live h)));
  due = passed (λ (e : Refusal). e ≡ Memory → g.S.Holder.bytes c.args.shelf.now (file.Live c.args.number c.args.generation) ≢ Some None) _ _ c.from_residual-in_err-file.ensures
      (λ is. not_absent (g.S.Holder.bytes c.args.shelf.now (file.Live c.args.number c.args.generation)) c.in_ok-bytes.bytes.items c.in_ok-bytes.ensures.ok);
  fails = fails_judged c.from_residual-in_err-file.ensures c.in_ok-bytes.ensures.fails.counted c.in_err-file.ensures.refusal;
  frame = c.in_ok-bytes.ensures.frame;
}

pub returns-then-not-is_for : goal.returns-then-not-is_for
returns-then-not-is_for g c = record {
  ok = tt;
  damaged = λ is live h long.
      live_other (g.S.Holder.bytes c.args.shelf.now) c.args.number c.args.generation c.in_ok-bytes.bytes.items c.in_ok-bytes.ensures.ok c.live_rows_are_told_by_their_bytes.ensures.rows c.in_ok-file.file
      c.args.rows live (subst (λ (b : Text). SpellsLive b c.in_ok-file.file) c.deref.ensures.value c.in_ok-file.ensures.ok)
      (λ all. absurd (let yes : c.is_for.result ≡ true = c.is_for.ensures.1 all in let no : c.is_for.result ≡ false = search rules in cc)) h long;
  due = λ is. absurd (let no : Damaged ≡ Memory = is in cc);
  fails = record { device = λ is. absurd (let no : Damaged ≡ Device = is in cc); counted = c.in_ok-bytes.ensures.fails.counted };
  frame = c.in_ok-bytes.ensures.frame;
}

pub returns-clause-ok : goal.returns-clause-ok
returns-clause-ok g c =
    let all = c.is_for.ensures.0 (search rules) in
    subst (λ (live : List Bool). HasLiveFile (MayHold (g.S.Holder.bytes c.args.shelf.now)) (record { number = c.args.number; file = c.args.generation }) live × (length live ≡ c.args.rows))
    (sym (ap (λ (rows : LiveRows). rows.live) c.file.view_is)) (
      live_as (g.S.Holder.bytes c.args.shelf.now) c.args.number c.args.generation c.in_ok-bytes.bytes.items c.in_ok-bytes.ensures.ok c.in_ok-file.file
          (subst (λ (b : Text). SpellsLive b c.in_ok-file.file) c.deref.ensures.value c.in_ok-file.ensures.ok) all.0 all.1,
      all.2,
    )

pub returns-clause-frame : goal.returns-clause-frame
returns-clause-frame g c = c.in_ok-bytes.ensures.frame

pub returns-clause-fails : goal.returns-clause-fails
returns-clause-fails g c = record { device = tt; counted = c.in_ok-bytes.ensures.fails.counted }
