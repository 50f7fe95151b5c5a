use Rattle.std.proofs.Common.{◌≡◌, Option, Some, Result, Err, cond, length, refl, sym, ap, subst}
use Rattle.std.specs.Prelude.{IfSome}
use Rattle.std.proofs.lemmas.Bool.{lt-ltb}
use Rattle.std.proofs.lemmas.Result.{IfOk-from_err}
use Rattle.cat_base.specs.declared.refusal.Refusal.{Refusal}
use Rattle.cat_base.specs.declared.refusal.Refusal.TheVariants.{Large}
use Rattle.cat_model.specs.Item.{Item}
use Rattle.cat_items.specs.Reading.{text_fault}
use Rattle.cat_items.proofs.JsonTexts.{no_source_fault}
use Rattle.cat_items.proofs.schema.Schema.item.Goals as goal

pub returns-clause-ok : goal.returns-clause-ok
returns-clause-ok c = c.in_ok-assembled.ensures.ok

pub returns-clause-typed : goal.returns-clause-typed
returns-clause-typed c = c.in_ok-assembled.ensures.typed

pub returns-clause-due : goal.returns-clause-due
returns-clause-due c = no_source_fault c.in_ok-root.root c.args.bytes.now _ c.if-bytes-gt-MAX_ITEM_BYTES.false c.in_ok-root.ensures.due

pub returns-in_err-root-clause-ok : goal.returns-in_err-root-clause-ok
returns-in_err-root-clause-ok c = IfOk-from_err _ _ c.from_residual.ensures.0

pub returns-in_err-root-clause-typed : goal.returns-in_err-root-clause-typed
returns-in_err-root-clause-typed c = IfOk-from_err _ _ c.from_residual.ensures.0

pub returns-in_err-id-clause-ok : goal.returns-in_err-id-clause-ok
returns-in_err-id-clause-ok c = IfOk-from_err _ _ c.from_residual-in_err-id.ensures.0

pub returns-in_err-id-clause-typed : goal.returns-in_err-id-clause-typed
returns-in_err-id-clause-typed c = IfOk-from_err _ _ c.from_residual-in_err-id.ensures.0

pub returns-in_err-id-clause-due : goal.returns-in_err-id-clause-due
returns-in_err-id-clause-due c = no_source_fault c.in_ok-root.root c.args.bytes.now _ c.if-bytes-gt-MAX_ITEM_BYTES.false c.in_ok-root.ensures.due

pub returns-in_err-assembled-clause-ok : goal.returns-in_err-assembled-clause-ok
returns-in_err-assembled-clause-ok c = IfOk-from_err _ _ c.from_residual-in_err-assembled.ensures.0

pub returns-in_err-assembled-clause-typed : goal.returns-in_err-assembled-clause-typed
returns-in_err-assembled-clause-typed c = IfOk-from_err _ _ c.from_residual-in_err-assembled.ensures.0

pub returns-in_err-assembled-clause-due : goal.returns-in_err-assembled-clause-due
returns-in_err-assembled-clause-due c = no_source_fault c.in_ok-root.root c.args.bytes.now _ c.if-bytes-gt-MAX_ITEM_BYTES.false c.in_ok-root.ensures.due

pub returns-then-bytes-gt-MAX_ITEM_BYTES-clause-due : goal.returns-then-bytes-gt-MAX_ITEM_BYTES-clause-due
returns-then-bytes-gt-MAX_ITEM_BYTES-clause-due c =
    subst (λ (o : Option Refusal). IfSome o (λ e. ◌≡◌ {A = Result Item Refusal} (Err Large) (Err e)))
    (sym (ap (λ b. cond b (Some Large) (text_fault c.args.bytes.now)) (lt-ltb 8192 (length c.args.bytes.now) c.if-bytes-gt-MAX_ITEM_BYTES.true))) refl
