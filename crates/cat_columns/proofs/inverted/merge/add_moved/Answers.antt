use Rattle.std.proofs.Common.{◌≡◌, ℕ, ◌+◌, ◌<◌, List, [], ◌∷◌, ◌++◌, length, get_or, take, ap, sym, ◌∙◌, append_assoc, append-nil}
use Rattle.std.proofs.lemmas.Grind.{flat_map-append}
use Rattle.std.proofs.lemmas.List.{take_all, take_more}
use Rattle.cat_columns.specs.Merged.{moved, row_in}
use Rattle.cat_columns.proofs.inverted.merge.add_moved.Goals as goal

moved_more : (codes rows : List ℕ) (i : ℕ) → i < length rows → moved codes (take (i + 1) rows) ≡ moved codes (take i rows) ++ row_in (get_or codes (get_or rows i 0) 0)
moved_more codes rows i lt =
    ap (moved codes) (take_more rows i 0 lt) ∙ flat_map-append (λ p. row_in (get_or codes p 0)) (take i rows) (get_or rows i 0 ∷ [])
    ∙ ap (λ l. moved codes (take i rows) ++ l) (append-nil (row_in (get_or codes (get_or rows i 0) 0)))

pub loop-row-preserved : goal.loop-row-preserved
loop-row-preserved c =
    let codes = c.args.row_map.now in
    let rows = c.args.rows.now in
    let i = c.loop-row.row-index in
    let one = row_in (get_or codes (get_or rows i 0) 0) in
    c.in_ok-add_row.ensures.ok ∙ ap (λ (l : List ℕ). l ++ one) c.loop-row.invariant ∙ append_assoc c.args.list.now.items (moved codes (take i rows)) one
    ∙ ap (λ (l : List ℕ). c.args.list.now.items ++ l) (sym (moved_more codes rows i c.loop-row-test.true))

pub returns : goal.returns
returns c = record { ok = c.loop-row.invariant ∙ ap (λ (l : List ℕ). c.args.list.now.items ++ moved c.args.row_map.now l) (take_all c.loop-row.row-index c.args.rows.now c.loop-row-test.false) }
