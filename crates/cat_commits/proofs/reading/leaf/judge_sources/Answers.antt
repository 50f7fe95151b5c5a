use Rattle.std.proofs.Common.{◌≡◌, ◌∙◌, ℕ, Some, true, false, inl, refl, rules, subst, sym}
use Rattle.cat_base.specs.declared.refusal.Refusal.{Refusal}
use Rattle.cat_base.specs.declared.refusal.Refusal.TheVariants.{Damaged, Device}
use Rattle.cat_directory.specs.declared.name.FileName.TheVariants as file
use Rattle.cat_ledger_laws.specs.model.Opening.{HasSources}
use Rattle.cat_ledger_laws.specs.shape.Ties.{IsTold}
use Rattle.cat_commits.specs.reading.Told.{Tells}
use Rattle.cat_commits.proofs.reading.Reading.{counts_on, passed, some_bytes}
use Rattle.cat_commits.proofs.reading.leaf.judge_sources.Goals as goal

pub returns-clause-ok : goal.returns-clause-ok
returns-clause-ok g c =
    let found = some_bytes (g.S.Holder.bytes c.args.shelf.now (file.Source c.number.result)) c.in_ok-size.size c.in_ok-size.ensures.absent c.in_ok-size.ensures.ok in
    record {
      bytes = found.0;
      there = subst (λ (n : ℕ). IsTold (g.S.Holder.bytes c.args.shelf.now (file.Source n)) (Some found.0)) c.number.ensures found.1;
      size = found.2 ∙ search rules;
    }

pub returns-in_err-size-clause-damaged : goal.returns-in_err-size-clause-damaged
returns-in_err-size-clause-damaged g c =
    passed (λ (e : Refusal). e ≡ Damaged → HasSources (Tells (g.S.Holder.bytes c.args.shelf.now)) c.args.segment.now → ⊥) _ _ c.from_residual.ensures
    (λ is h. c.in_err-size.ensures.damaged is h.bytes (subst (λ (n : ℕ). g.S.Holder.bytes c.args.shelf.now (file.Source n) ≡ Some (Some h.bytes)) (sym c.number.ensures) h.there))

pub returns-in_err-size-clause-fails : goal.returns-in_err-size-clause-fails
returns-in_err-size-clause-fails g c = record {
  device = passed (λ (e : Refusal). e ≡ Device → g.S.Holder.can_fail c.args.shelf.now) _ _ c.from_residual.ensures
      (λ is. (c.in_err-size.ensures.device (λ other. absurd (let no : Damaged ≡ Device = sym other ∙ is in cc))).1);
  counted = counts_on (g.S.Holder.fault_count c.args.shelf.now) (g.S.Holder.fault_count c.size.new.self) _ _ c.from_residual.ensures c.in_err-size.ensures.counted;
}

pub returns-in_err-size-clause-frame : goal.returns-in_err-size-clause-frame
returns-in_err-size-clause-frame g c = record { same = c.in_err-size.ensures.same; crash = c.in_err-size.ensures.crash; can = c.in_err-size.ensures.can }

pub returns-then-not-are_sources : goal.returns-then-not-are_sources
returns-then-not-are_sources g c = record {
  ok = tt;
  damaged = λ is h.
      let there = subst (λ (n : ℕ). g.S.Holder.bytes c.args.shelf.now (file.Source n) ≡ Some (Some h.bytes)) (sym c.number.ensures) h.there in
      absurd (let yes : c.are_sources.result ≡ true = c.are_sources.ensures.1 (c.in_ok-size.ensures.ok h.bytes there ∙ h.size) in let no : c.are_sources.result ≡ false = search rules in cc);
  refusal = inl refl;
  fails = record { device = λ is. absurd (let no : Damaged ≡ Device = is in cc); counted = c.in_ok-size.ensures.counted };
  frame = record { same = c.in_ok-size.ensures.same; crash = c.in_ok-size.ensures.crash; can = c.in_ok-size.ensures.can };
}

pub returns-clause-fails : goal.returns-clause-fails
returns-clause-fails g c = record { device = tt; counted = c.in_ok-size.ensures.counted }

pub returns-clause-frame : goal.returns-clause-frame
returns-clause-frame g c = record { same = c.in_ok-size.ensures.same; crash = c.in_ok-size.ensures.crash; can = c.in_ok-size.ensures.can }
