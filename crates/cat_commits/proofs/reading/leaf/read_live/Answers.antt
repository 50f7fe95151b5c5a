use Rattle.std.proofs.Common.{◌≡◌, ◌≢◌, ℕ, List, Bool, true, Some, None, length, refl, sym, subst, inr}
use Rattle.std.proofs.lemmas.List.{length-replicate}
use Rattle.cat_base.specs.declared.refusal.Refusal.{Refusal}
use Rattle.cat_base.specs.declared.refusal.Refusal.TheVariants.{Damaged, Memory}
use Rattle.cat_directory.specs.declared.name.FileName.TheVariants as file
use Rattle.cat_ledger_laws.specs.shape.OpeningLaws.{MayHold}
use Rattle.cat_ledger_laws.specs.shape.Ties.{ToldFiles}
use Rattle.cat_commits.specs.reading.Leaf.{HasLiveRows}
use Rattle.cat_commits.specs.reading.Told.{Tells}
use Rattle.cat_commits.proofs.reading.Reading.{not_ok, passed}
use Rattle.cat_commits.proofs.Frames.{fails_judged, fails_on}
use Rattle.cat_commits.proofs.reading.Parts.{live_all, live_of, of_live}
use Rattle.cat_commits.proofs.reading.leaf.read_live.Goals as goal

pub returns-in_err-all : goal.returns-in_err-all
returns-in_err-all g c =
    let told : ToldFiles = g.S.Holder.bytes c.args.shelf.now in
    record {
      ok = not_ok _ _ _ c.from_residual.ensures;
      damaged = passed (λ (e : Refusal). e ≡ Damaged → (live : List Bool) → HasLiveRows (Tells told) c.args.listed c.args.rows live → length live ≡ c.args.rows → ⊥) _ Memory c.from_residual.ensures
          (λ is. absurd (let no : Memory ≡ Damaged = is in cc));
      due = passed (λ (e : Refusal). e ≡ Memory → c.args.listed.file ≢ 0 → told (file.Live c.args.listed.number c.args.listed.file) ≢ Some None) _ Memory c.from_residual.ensures
          (λ is some. absurd (some (sym c.in_default.ensures.file)));
      fails = fails_judged c.from_residual.ensures refl (inr refl);
      frame = record { same = λ q. refl; crash = λ q e left. left; can = λ fails. fails };
    }

pub returns-in_default : goal.returns-in_default
returns-in_default g c = record {
  ok = subst (λ (live : List Bool). HasLiveRows (MayHold (g.S.Holder.bytes c.args.shelf.now)) c.args.listed c.args.rows live × (length live ≡ c.args.rows)) (sym c.in_ok-all.ensures.ok)
      (live_all (MayHold (g.S.Holder.bytes c.args.shelf.now)) c.args.listed c.args.rows c.in_default.ensures.file, length-replicate c.args.rows true);
  damaged = tt;
  due = tt;
  fails = record { device = tt; counted = refl };
  frame = record { same = λ q. refl; crash = λ q e left. left; can = λ fails. fails };
}

pub returns-in_err-live : goal.returns-in_err-live
returns-in_err-live g c =
    let told : ToldFiles = g.S.Holder.bytes c.args.shelf.now in
    record {
      ok = not_ok _ _ _ c.from_residual-in_err-live.ensures;
      damaged = passed (λ (e : Refusal). e ≡ Damaged → (live : List Bool) → HasLiveRows (Tells told) c.args.listed c.args.rows live → length live ≡ c.args.rows → ⊥) _ _ c.from_residual-in_err-live.ensures
          (λ is live h long.
          c.in_err-live.ensures.damaged is live
          (of_live (Tells told) c.args.listed c.args.rows c.number.result c.in-Some.generation live c.number.ensures c.in-Some.ensures.file c.in-Some.ensures.some h) long);
      due = passed (λ (e : Refusal). e ≡ Memory → c.args.listed.file ≢ 0 → told (file.Live c.args.listed.number c.args.listed.file) ≢ Some None) _ _ c.from_residual-in_err-live.ensures
          (λ is some.
          subst (λ (n : ℕ). told (file.Live n c.args.listed.file) ≢ Some None) c.number.ensures
          (subst (λ (d : ℕ). told (file.Live c.number.result d) ≢ Some None) c.in-Some.ensures.file (c.in_err-live.ensures.due is)));
      fails = fails_on c.from_residual-in_err-live.ensures c.in_err-live.ensures.fails;
      frame = c.in_err-live.ensures.frame;
    }

pub returns : goal.returns
returns g c = record {
  ok = (
    live_of (MayHold (g.S.Holder.bytes c.args.shelf.now)) c.args.listed c.args.rows c.number.result c.in-Some.generation c.in_ok-live.live c.number.ensures c.in-Some.ensures.file
        c.in-Some.ensures.some c.in_ok-live.ensures.ok.0,
    c.in_ok-live.ensures.ok.1,
  );
  damaged = tt;
  due = tt;
  fails = record { device = tt; counted = c.in_ok-live.ensures.fails.counted };
  frame = c.in_ok-live.ensures.frame;
}
