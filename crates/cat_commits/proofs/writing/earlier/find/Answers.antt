use Rattle.std.proofs.Common.{◌≡◌, ◌<◌, [], length, Some, None, sym, ap, ◌∙◌, rules}
use Rattle.cat_ledger_laws.specs.shape.Shapes.{ListedLive}
use Rattle.cat_commits.specs.writing.Entries.{index_of}
use Rattle.cat_commits.proofs.writing.Looks.{no_entry, some_entry}
use Rattle.cat_commits.proofs.writing.earlier.find.Goals as goal

any_entry : ListedLive
any_entry = record { number = 0; live = []; file = 0 }

pub returns-in_err-index : goal.returns-in_err-index
returns-in_err-index c =
    let none : index_of c.args.number c.args.entries.now ≡ None = sym (c.requires c.args.number) ∙ sym (c.in_err-index.ensures ∙ c.get.ensures.value) in
    rw c.from_residual.ensures (sym (no_entry c.args.number c.args.entries.now none))

pub offset_bounds-entries-index : goal.offset_bounds-entries-index
offset_bounds-entries-index c =
    let some : index_of c.args.number c.args.entries.now ≡ Some c.in_ok-index.index = sym (c.requires c.args.number) ∙ sym (c.in_ok-index.ensures ∙ c.get.ensures.value) in
    let within : c.in_ok-index.index < length c.args.entries.now = (some_entry c.args.number c.args.entries.now any_entry c.in_ok-index.index some).within in
    search rules

pub bounds-entries-index : goal.bounds-entries-index
bounds-entries-index c =
    let some : index_of c.args.number c.args.entries.now ≡ Some c.in_ok-index.index = sym (c.requires c.args.number) ∙ sym (c.in_ok-index.ensures ∙ c.get.ensures.value) in
    (some_entry c.args.number c.args.entries.now any_entry c.in_ok-index.index some).within

pub returns : goal.returns
returns c =
    let some : index_of c.args.number c.args.entries.now ≡ Some c.in_ok-index.index = sym (c.requires c.args.number) ∙ sym (c.in_ok-index.ensures ∙ c.get.ensures.value) in
    let there = some_entry c.args.number c.args.entries.now c.index-entries-index.result c.in_ok-index.index some in
    ap Some c.index-entries-index.is ∙ sym there.entry
