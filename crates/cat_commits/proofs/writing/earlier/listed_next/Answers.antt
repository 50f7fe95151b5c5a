use Rattle.std.proofs.Common.{◌≡◌, ℕ, IfOk, unwrap_or, ap, ap₂, ◌∙◌, subst}
use Rattle.cat_model.specs.CommitFile.{ListedSegment}
use Rattle.cat_ledger_laws.specs.shape.Shapes.{ListedLive}
use Rattle.cat_ledger_laws.specs.shape.Steps.{file_for}
use Rattle.cat_commits.specs.writing.Entries.{entry_of, file_beside, listed_after}
use Rattle.cat_commits.proofs.writing.Kept.{file_is}
use Rattle.cat_commits.proofs.writing.earlier.listed_next.Goals as goal

pub returns-clause-ok : goal.returns-clause-ok
returns-clause-ok c =
    let number : c.number-number.result ≡ c.args.leaf.now.segment.number = c.number-number.ensures ∙ ap (λ s. s.number) c.segment.ensures in
    let file : unwrap_or c.live_file_of-live_file.result 0 ≡ file_for c.args.entries.now c.args.generation c.args.leaf.now =
    c.live_file_of-live_file.ensures.file
    ∙ ap (λ o. file_beside o c.args.generation c.args.leaf.now) (c.find-earlier.ensures ∙ ap (λ n. entry_of n c.args.entries.now) number)
    ∙ file_is c.args.entries.now c.args.generation c.args.leaf.now c.requires.apart in
    let made : ℕ → ℕ → ListedLive = λ n f. record { number = n; live = c.args.leaf.now.live; file = f } in
    let is : made c.new.result.number c.new.result.file ≡ listed_after c.args.entries.now c.args.generation c.args.leaf.now =
    ap (λ (s : ListedSegment). made s.number s.file) c.new.ensures ∙ ap₂ made number file in
    subst (λ (y : ListedLive). IfOk c.of.result (λ x. x ≡ y)) is c.of.ensures
