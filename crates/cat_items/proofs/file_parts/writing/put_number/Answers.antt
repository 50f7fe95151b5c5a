use Rattle.std.proofs.Common.{◌≡◌, ℕ, List, [], ◌∷◌, ◌++◌, ap, sym, ◌∙◌, subst, append_assoc, of_z, w64, rules}
use mir.Val.{SFits}
use Rattle.std.proofs.Math.Facts.{to_z-of_z}
use Rattle.std.specs.Prelude.{OnOk}
use Rattle.cat_base.specs.Bytes.{spelled_u64}
use Rattle.cat_model.specs.Layout.{spelled_number}
use Rattle.cat_items.proofs.file_parts.writing.put_number.Goals as goal

pub returns-in_ok-push-in-None : goal.returns-in_ok-push-in-None
returns-in_ok-push-in-None c = c.in_ok-push-in-None.ensures.items ∙ ap (λ n. c.args.out.now.items ++ spelled_number n) (sym c.in-None.is)

pub returns-in_ok-push-in-Some : goal.returns-in_ok-push-in-Some
returns-in_ok-push-in-Some c =
    let old = c.args.out.now.items in
    let fits : SFits w64 c.in-Some.value = search rules in
    let bits = c.cast_unsigned.ensures ∙ ap (of_z w64) (to_z-of_z fits) in
    subst (λ (l : List ℕ). OnOk c.put_u64.result (c.put_u64.new.out.items ≡ l))
    (ap (λ l. l ++ spelled_u64 c.cast_unsigned.result) c.in_ok-push-in-Some.ensures.items ∙ append_assoc old (1 ∷ []) (spelled_u64 c.cast_unsigned.result) ∙ ap (λ n. old ++ 1 ∷ spelled_u64 n) bits
    ∙ ap (λ n. old ++ spelled_number n) (sym c.in-Some.is)) c.put_u64.ensures.ok
