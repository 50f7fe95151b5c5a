use Rattle.std.proofs.Common.{ℕ, inl, inr, arith, subst, ◌∙◌}
use Rattle.std.specs.Prelude.{Contains, MatchOption}
use Rattle.std.proofs.lemmas.Result.{IfOk-weaker, IfErr-weaker}
use Rattle.cat_directory.specs.declared.name.FileName.TheVariants as file
use Rattle.cat_commits.specs.reading.Numbers.{IsNewest}
use Rattle.cat_ledger_state.proofs.startup.Listing.{names_past, newest_taken}
use Rattle.cat_ledger_state.proofs.startup.Made.{at_commit, where_none, ok_of_both, err_of_both, told_settled, restored_as_told, is_damaged, is_foreign}
use Rattle.cat_ledger_state.proofs.startup.opening.open.Goals as goal

pub open_at-requires : goal.open_at-requires
open_at-requires g c =
    let newest = subst (λ o. MatchOption o ((h : ℕ) → Contains c.in_ok-refs.ensures.ok.names (file.Commit h) → ⊥) (IsNewest c.in_ok-refs.ensures.ok.names)) c.in-Some.is c.in_ok-refs.ensures.ok.among in
    record {
      unused = c.in_ok-refs.ensures.ok.unused;
      known = names_past c.in_ok-refs.ensures.ok.names c.in_ok-refs.field-0.refs _ _ c.in_ok-refs.ensures.ok.known c.in_ok-refs.ensures.ok.next;
      numbers = (omega (arith, c.in_ok-refs.ensures.ok.next.some.0), newest_taken c.in_ok-refs.ensures.ok.names _ _ c.in-Some.generation c.in_ok-refs.ensures.ok.next newest);
      left = c.in_ok-refs.ensures.ok.left;
    }

pub open_empty-requires : goal.open_empty-requires
open_empty-requires g c = record {
  counted = record {
    users = c.in_ok-refs.ensures.ok.unused;
    some = (omega (arith, c.in_ok-refs.ensures.ok.next.some.0), omega (arith, c.in_ok-refs.ensures.ok.next.some.1));
    left = c.in_ok-refs.ensures.ok.left;
  };
  known = names_past c.in_ok-refs.ensures.ok.names c.in_ok-refs.field-0.refs _ _ c.in_ok-refs.ensures.ok.known c.in_ok-refs.ensures.ok.next;
}

pub returns-in-Some-clause-ok : goal.returns-in-Some-clause-ok
returns-in-Some-clause-ok g c =
    let told = g.D.Holder.bytes c.args.device.now in
    let mid = g.D.Holder.bytes c.find.new.device in
    let told' = g.D.Holder.bytes c.open_at.new.device in
    let next = c.in_ok-refs.field-0.next in
    let newest = subst (λ o. MatchOption o ((h : ℕ) → Contains c.in_ok-refs.ensures.ok.names (file.Commit h) → ⊥) (IsNewest c.in_ok-refs.ensures.ok.names)) c.in-Some.is c.in_ok-refs.ensures.ok.among in
    ok_of_both c.open_at.result _ _ _
    (λ s at more.
    inl
    (at_commit told told' c.args.schema c.in_ok-refs.ensures.ok.names c.in-Some.generation next.0 next.1 c.in_ok-refs.field-0.refs s (λ q. c.open_at.ensures.frame.same q ∙ c.in_ok-refs.ensures.frame.same q)
    c.in_ok-refs.ensures.ok.listed c.in_ok-refs.ensures.ok.next newest c.in_ok-refs.ensures.ok.known more (restored_as_told told mid c.in_ok-refs.ensures.frame.same c.args.schema c.in-Some.generation next.0 next.1 s at)))
    c.open_at.ensures.ok c.open_at.ensures.known

pub returns-in-Some-clause-lasts : goal.returns-in-Some-clause-lasts
returns-in-Some-clause-lasts g c =
    IfOk-weaker c.open_at.result _ _
    (λ s lasts q some. told_settled (g.D.Holder.bytes c.args.device.now) (g.D.Holder.bytes c.find.new.device) c.in_ok-refs.ensures.frame.same (g.D.Holder.may_leave c.open_at.new.device) q (lasts q some))
    c.open_at.ensures.lasts

pub returns-in-Some-clause-gone : goal.returns-in-Some-clause-gone
returns-in-Some-clause-gone g c =
    IfOk-weaker c.open_at.result _ _
    (λ s gone q none. told_settled (g.D.Holder.bytes c.args.device.now) (g.D.Holder.bytes c.find.new.device) c.in_ok-refs.ensures.frame.same (g.D.Holder.may_leave c.open_at.new.device) q (gone q (c.in_ok-refs.ensures.frame.same q ∙ none)))
    c.open_at.ensures.gone

pub returns-in-Some-clause-damaged : goal.returns-in-Some-clause-damaged
returns-in-Some-clause-damaged g c =
    let newest = subst (λ o. MatchOption o ((h : ℕ) → Contains c.in_ok-refs.ensures.ok.names (file.Commit h) → ⊥) (IsNewest c.in_ok-refs.ensures.ok.names)) c.in-Some.is c.in_ok-refs.ensures.ok.among in
    err_of_both c.open_at.result _ _ _
    (λ e lost own is. is_damaged (g.D.Holder.bytes c.args.device.now) (g.D.Holder.bytes c.find.new.device) c.in_ok-refs.ensures.frame.same c.args.schema c.in_ok-refs.ensures.ok.names c.in-Some.generation c.in_ok-refs.ensures.ok.listed newest (lost is) (own is))
    c.open_at.ensures.damaged c.open_at.ensures.own

pub returns-in-Some-clause-foreign : goal.returns-in-Some-clause-foreign
returns-in-Some-clause-foreign g c =
    let newest = subst (λ o. MatchOption o ((h : ℕ) → Contains c.in_ok-refs.ensures.ok.names (file.Commit h) → ⊥) (IsNewest c.in_ok-refs.ensures.ok.names)) c.in-Some.is c.in_ok-refs.ensures.ok.among in
    IfErr-weaker c.open_at.result _ _
    (λ e foreign is. is_foreign (g.D.Holder.bytes c.args.device.now) (g.D.Holder.bytes c.find.new.device) c.in_ok-refs.ensures.frame.same c.args.schema c.in_ok-refs.ensures.ok.names c.in-Some.generation c.in_ok-refs.ensures.ok.listed newest (foreign is))
    c.open_at.ensures.foreign

pub returns-in-None-clause-ok : goal.returns-in-None-clause-ok
returns-in-None-clause-ok g c =
    let told = g.D.Holder.bytes c.args.device.now in
    let told' = g.D.Holder.bytes c.open_empty.new.device in
    let next = c.in_ok-refs.field-0.next in
    let none = subst (λ o. MatchOption o ((h : ℕ) → Contains c.in_ok-refs.ensures.ok.names (file.Commit h) → ⊥) (IsNewest c.in_ok-refs.ensures.ok.names)) c.in-None.is c.in_ok-refs.ensures.ok.among in
    IfOk-weaker c.open_empty.result _ _
    (λ s is.
    inr
    (where_none told told' c.args.schema c.in_ok-refs.ensures.ok.names next.0 next.1 c.in_ok-refs.field-0.refs s c.in_ok-refs.ensures.ok.listed c.in_ok-refs.ensures.ok.next none c.in_ok-refs.ensures.ok.known
    (record {
      users = c.in_ok-refs.ensures.ok.unused;
      some = (omega (arith, c.in_ok-refs.ensures.ok.next.some.0), omega (arith, c.in_ok-refs.ensures.ok.next.some.1));
      left = c.in_ok-refs.ensures.ok.left;
    })
    is))
    c.open_empty.ensures.ok

pub returns-in-None-clause-gone : goal.returns-in-None-clause-gone
returns-in-None-clause-gone g c =
    IfOk-weaker c.open_empty.result _ _
    (λ s gone q none. told_settled (g.D.Holder.bytes c.args.device.now) (g.D.Holder.bytes c.find.new.device) c.in_ok-refs.ensures.frame.same (g.D.Holder.may_leave c.open_empty.new.device) q (gone q (c.in_ok-refs.ensures.frame.same q ∙ none)))
    c.open_empty.ensures.gone
