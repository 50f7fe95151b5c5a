use Rattle.std.proofs.Common.{subst}
use Rattle.cat_model.specs.Item.{Schema}
use Rattle.cat_ledger_laws.specs.model.Opening.{IsForeign}
use Rattle.cat_ledger_laws.specs.shape.OpeningLaws.{MayHold}
use Rattle.cat_check.proofs.Agreeing.{lost_to_another}
use Rattle.cat_check.proofs.verdict.open_said.Goals as goal

pub returns-in-Err-Kind-clause-damaged : goal.returns-in-Err-Kind-clause-damaged
returns-in-Err-Kind-clause-damaged g c = λ is.
    lost_to_another c.commits_are_told_by_their_bytes.ensures (g.S.Holder.bytes c.args.shelf.now) c.args.generation c.args.commit.now c.requires
    (subst (λ (s : Schema). IsForeign (MayHold (g.S.Holder.bytes c.args.shelf.now)) s c.args.generation) c.fields.ensures (c.in-Err-Kind.ensures.foreign c.in-Err-Kind.field-0-is))
