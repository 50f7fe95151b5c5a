use Rattle.std.proofs.Common.{◌≡◌, ◌∙◌, Some, false, true, sym, ap, subst, rules}
use Rattle.std.proofs.lemmas.List.Elements.{All-contains}
use Rattle.std.proofs.lemmas.Result.{err_from_is_err_and}
use Rattle.std.specs.List.{HoldsAt, list_any, flat_map}
use Rattle.cat_model.specs.Text.{IsOneLine}
use Rattle.cat_model.specs.View.{live_rows}
use Rattle.cat_directory.specs.declared.name.FileName.TheVariants as file
use Rattle.cat_views.specs.Sources.{IsLiveRowOf, has_id, has_live}
use Rattle.cat_views.proofs.Stored.{none_stored, none_long, read_is, length-at, is_whole, may_reach, not_cut, one_line_read}
use Rattle.cat_views.proofs.view.View.get.Goals as goal

pub returns-in_default-clause-ok : goal.returns-in_default-clause-ok
returns-in_default-clause-ok g c = λ files tells.
    let leaves = c.deref-2.ensures.value ∙ ap (λ v. v.items) c.deref.ensures ∙ ap (λ v. v.leaves) c.self.view_is in
    sym (none_stored files c.args.id.now c.args.self.now.leaves (subst (λ ls. list_any (has_id c.args.id.now) (flat_map live_rows ls) ≡ false) leaves c.in_default.ensures))

pub returns-in_default-clause-whole : goal.returns-in_default-clause-whole
returns-in_default-clause-whole g c =
    let leaves = c.deref-2.ensures.value ∙ ap (λ v. v.items) c.deref.ensures ∙ ap (λ v. v.leaves) c.self.view_is in
    sym (none_long c.args.id.now c.args.self.now.leaves (subst (λ ls. list_any (has_id c.args.id.now) (flat_map live_rows ls) ≡ false) leaves c.in_default.ensures))

pub returns-clause-ok : goal.returns-clause-ok
returns-clause-ok g c = λ files tells.
    let told = g.S.Holder.bytes c.args.shelf.now in
    let leaf = c.in-Some.leaf.now in
    let leaves = c.deref-2.ensures.value ∙ ap (λ v. v.items) c.deref.ensures ∙ ap (λ v. v.leaves) c.self.view_is in
    let is = subst (λ ls. IsLiveRowOf c.args.id.now ls leaf c.in-Some.row) leaves c.in-Some.ensures in
    let tell = All-contains (λ l. has_live c.args.id.now l ≡ true → told (file.Source l.segment.number) ≡ Some (Some (files l.segment.number))) c.args.self.now.leaves leaf tells is.among is.has in
    let number = c.number.ensures ∙ ap (λ s. s.number) c.segment-segment.ensures in
    let read = c.in_ok-text.ensures.ok (files leaf.segment.number) (ap (λ n. told (file.Source n)) number ∙ tell) in
    ap Some (read_is files leaf c.segment-segment.result.now c.in-Some.row c.source_offset-offset.result c.source_length.result c.in_ok-text.text.items c.segment-segment.ensures is.within c.source_offset-offset.ensures c.source_length.ensures read.1)
    ∙ sym (is.source files)

pub returns-clause-whole : goal.returns-clause-whole
returns-clause-whole g c =
    let leaf = c.in-Some.leaf.now in
    let leaves = c.deref-2.ensures.value ∙ ap (λ v. v.items) c.deref.ensures ∙ ap (λ v. v.leaves) c.self.view_is in
    let is = subst (λ ls. IsLiveRowOf c.args.id.now ls leaf c.in-Some.row) leaves c.in-Some.ensures in
    let long = length-at leaf.segment.rows c.in-Some.row c.source_length.result is.within (subst (λ s. HoldsAt (λ r. r.length ≡ c.source_length.result) s.rows c.in-Some.row) c.segment-segment.ensures c.source_length.ensures) in
    ap Some (c.in_ok-text.ensures.len ∙ sym long) ∙ sym is.long

pub returns-in_err-text-clause-damaged : goal.returns-in_err-text-clause-damaged
returns-in_err-text-clause-damaged g c =
    let p = err_from_is_err_and c.from_residual.result c.from_residual.ensures.1 in
    rw (p.1, p.2) (λ e files tells holds.
    let told = g.S.Holder.bytes c.args.shelf.now in
    let leaf = c.in-Some.leaf.now in
    let leaves = c.deref-2.ensures.value ∙ ap (λ v. v.items) c.deref.ensures ∙ ap (λ v. v.leaves) c.self.view_is in
    let is = subst (λ ls. IsLiveRowOf c.args.id.now ls leaf c.in-Some.row) leaves c.in-Some.ensures in
    let tell = All-contains (λ l. has_live c.args.id.now l ≡ true → told (file.Source l.segment.number) ≡ Some (Some (files l.segment.number))) c.args.self.now.leaves leaf tells is.among is.has in
    let number = c.number.ensures ∙ ap (λ s. s.number) c.segment-segment.ensures in
    let short = c.in_err-text.ensures.damaged e (files leaf.segment.number) (ap (λ n. told (file.Source n)) number ∙ tell) in
    not_cut files leaf c.segment-segment.result.now c.in-Some.row c.source_offset-offset.result c.source_length.result c.segment-segment.ensures is.within is.some c.source_offset-offset.ensures c.source_length.ensures
    (is_whole files c.args.id.now c.args.self.now.leaves leaf c.in-Some.row is holds.whole) short)

pub returns-in_err-text-clause-due : goal.returns-in_err-text-clause-due
returns-in_err-text-clause-due g c =
    let p = err_from_is_err_and c.from_residual.result c.from_residual.ensures.1 in
    rw (p.1, p.2) (λ e.
    let told = g.S.Holder.bytes c.args.shelf.now in
    let leaf = c.in-Some.leaf.now in
    let leaves = c.deref-2.ensures.value ∙ ap (λ v. v.items) c.deref.ensures ∙ ap (λ v. v.leaves) c.self.view_is in
    let is = subst (λ ls. IsLiveRowOf c.args.id.now ls leaf c.in-Some.row) leaves c.in-Some.ensures in
    let number = c.number.ensures ∙ ap (λ s. s.number) c.segment-segment.ensures in
    may_reach told c.args.self.now c.args.id.now leaf c.segment-segment.result.now c.number.result c.in-Some.row c.source_offset-offset.result c.source_length.result
    c.segment-segment.ensures number is c.source_offset-offset.ensures c.source_length.ensures (c.in_err-text.ensures.due e))

pub returns-clause-one_line : goal.returns-clause-one_line
returns-clause-one_line g c = subst IsOneLine c.deref-3.ensures.value (c.is_one_line.ensures.0 (search rules))

pub returns-then-not-is_one_line-clause-damaged : goal.returns-then-not-is_one_line-clause-damaged
returns-then-not-is_one_line-clause-damaged g c = λ e files tells holds.
    let told = g.S.Holder.bytes c.args.shelf.now in
    let leaf = c.in-Some.leaf.now in
    let leaves = c.deref-2.ensures.value ∙ ap (λ v. v.items) c.deref.ensures ∙ ap (λ v. v.leaves) c.self.view_is in
    let is = subst (λ ls. IsLiveRowOf c.args.id.now ls leaf c.in-Some.row) leaves c.in-Some.ensures in
    let tell = All-contains (λ l. has_live c.args.id.now l ≡ true → told (file.Source l.segment.number) ≡ Some (Some (files l.segment.number))) c.args.self.now.leaves leaf tells is.among is.has in
    let number = c.number.ensures ∙ ap (λ s. s.number) c.segment-segment.ensures in
    let read = c.in_ok-text.ensures.ok (files leaf.segment.number) (ap (λ n. told (file.Source n)) number ∙ tell) in
    let same = read_is files leaf c.segment-segment.result.now c.in-Some.row c.source_offset-offset.result c.source_length.result c.in_ok-text.text.items c.segment-segment.ensures is.within c.source_offset-offset.ensures c.source_length.ensures read.1 in
    let one = one_line_read files c.args.id.now c.args.self.now.leaves leaf c.in-Some.row c.in_ok-text.text.items is same holds.one_line in
    absurd (let no : true ≡ false = sym (c.is_one_line.ensures.1 (subst IsOneLine (sym c.deref-3.ensures.value) one)) ∙ c.if-not-is_one_line.true in cc)
