use Rattle.std.proofs.Common.{◌≡◌, ◌∙◌, sym, subst, rules}
use Rattle.std.specs.Prelude.{Result, Ok, Err, OnOk}
use Rattle.std.proofs.lemmas.Result.{on_ok_weaker}
use Rattle.cat_directory.specs.Devices.{IsSettled}
use Rattle.cat_directory.proofs.writing.write_lasting.Goals as goal

anyway : {T E P : Type 0} (r : Result T E) → P → OnOk r P
anyway (Ok x) p = p
anyway (Err e) p = tt

pub returns-clause-others : goal.returns-clause-others
returns-clause-others g c = λ q other. c.sync.ensures.same q ∙ c.in_ok-write_file.ensures.others q other

pub returns-clause-crash : goal.returns-clause-crash
returns-clause-crash g c = λ q other e after. c.in_ok-write_file.ensures.crash q other e (c.sync.ensures.crash q e after)

pub returns-clause-torn : goal.returns-clause-torn
returns-clause-torn g c = λ now is e after. c.in_ok-write_file.ensures.torn now is e (c.sync.ensures.crash c.args.name e after)

pub returns-clause-ok : goal.returns-clause-ok
returns-clause-ok g c = anyway c.sync.result (c.sync.ensures.same c.args.name ∙ c.in_ok-write_file.ensures.ok)

pub returns-clause-gone : goal.returns-clause-gone
returns-clause-gone g c =
    on_ok_weaker c.sync.result (λ gone q other none.
    let same = c.in_ok-write_file.ensures.others q other in
    subst (λ told. IsSettled told (g.D.Holder.may_leave c.sync.new.self q)) same (gone q (same ∙ none))) c.sync.ensures.gone

pub returns-clause-can : goal.returns-clause-can
returns-clause-can g c = λ can. c.in_ok-write_file.ensures.can (c.sync.ensures.can can)

pub returns-clause-lasts : goal.returns-clause-lasts
returns-clause-lasts g c = search rules depth 1
