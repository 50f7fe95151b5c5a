use Rattle.std.proofs.Common.{◌≡◌, ◌≢◌, ◌≤◌, ℕ, List, inl, inr, length, map, refl, ap, sym, ◌∙◌, subst, arith}
use Rattle.std.specs.Prelude.{All, Any}
use Rattle.std.specs.List.{AllPairs}
use Rattle.std.proofs.lemmas.Bool.{true≢false}
use Rattle.std.proofs.lemmas.Result.{err_from_is_err_and, IfErr-at_err, IfOk-at_ok}
use Rattle.cat_base.specs.declared.refusal.Refusal.{Refusal}
use Rattle.cat_base.specs.declared.refusal.Refusal.TheVariants.{Damaged, Memory}
use Rattle.cat_items.specs.file_parts.Parts.{heads_in, column_in}
use Rattle.cat_model.specs.Layout.{layout_of}
use Rattle.cat_model.specs.View.{IsSegment}
use Rattle.cat_segment.proofs.Assembled.{IsBody-read, IsSegment-read, layout_read}
use Rattle.cat_segment.proofs.Judged.{ids_differ, columns_stand, columns_told, fit, few, lengths_short, columns_laid, parts_read, ids_settled, columns_settled, segment_made}
use Rattle.cat_segment.specs.Index.{AreAllRows}
use Rattle.cat_segment.specs.Parts.{HasNoColumn, AreColumnsOf}
use Rattle.cat_segment.proofs.assembly.assembled.Goals as goal

memory_apart : {e : Refusal} → e ≡ Memory → e ≡ Damaged → ⊥
memory_apart is damage = cc

pub returns-then-not-are_fit-clause-damaged : goal.returns-then-not-are_fit-clause-damaged
returns-then-not-are_fit-clause-damaged c = λ is s segment same.
    true≢false (sym (c.if-not-are_fit.ensures.1 (fit c.args.parts c.requires.parts s segment same c.requires.layout)))

pub columns_from-columns-requires-clause-few : goal.columns_from-columns-requires-clause-few
columns_from-columns-requires-clause-few c = omega (arith, few c.args.parts c.requires.parts c.requires.layout, c.len.ensures, c.args.parts.numbers.ok.0)

pub columns_from-columns-requires-clause-laid : goal.columns_from-columns-requires-clause-laid
columns_from-columns-requires-clause-laid c = columns_laid c.args.parts c.requires.parts c.requires.layout c.len.result (omega (arith, c.len.ensures, c.args.parts.numbers.ok.0))

pub columns_from-columns-requires-clause-labels : goal.columns_from-columns-requires-clause-labels
columns_from-columns-requires-clause-labels c = (c.if-not-are_fit.ensures.0 refl).labels

pub columns_from-columns-requires-clause-orders : goal.columns_from-columns-requires-clause-orders
columns_from-columns-requires-clause-orders c =
    let rows : length c.args.parts.ids.items ≡ c.len.result = omega (arith, c.len.ensures, c.args.parts.numbers.ok.0, c.requires.parts.ids) in
    subst (λ (n : ℕ). All (λ order. AreAllRows n order.items) c.args.orders.items) rows c.requires.orders

pub distinct_of-requires-clause-few : goal.distinct_of-requires-clause-few
distinct_of-requires-clause-few c = omega (arith, few c.args.parts c.requires.parts c.requires.layout, c.requires.parts.ids)

pub sources_from-requires-clause-few : goal.sources_from-requires-clause-few
sources_from-requires-clause-few c = omega (arith, few c.args.parts c.requires.parts c.requires.layout, c.requires.parts.lengths, ap length c.deref.ensures.value)

pub sources_from-requires-clause-short : goal.sources_from-requires-clause-short
sources_from-requires-clause-short c = subst (λ (ns : List ℕ). All (λ n. n ≤ 8192) ns) (sym c.deref.ensures.value) (lengths_short c.args.parts c.requires.parts c.requires.layout)

pub returns-in_err-ids-clause-damaged : goal.returns-in_err-ids-clause-damaged
returns-in_err-ids-clause-damaged c =
    let p = err_from_is_err_and c.from_residual.result c.from_residual.ensures.1 in
    let parts = c.args.parts in
    let rows : c.len.result ≡ length parts.numbers.items = omega (arith, c.len.ensures, parts.numbers.ok.0) in
    rw (p.1, p.2) (λ is s segment same.
    elim c.in_err-ids.ensures.refusal [
      | inl ids ↦ IfErr-at_err (λ e. e ≡ Damaged → AllPairs (λ a b. a ≢ b) parts.ids.items → ⊥) ids c.distinct_of.ensures.damaged is (ids_differ parts c.requires.parts s segment same)
      | inr columns ↦ columns_stand parts c.requires.parts s segment same c.requires.layout
          (subst (λ n. Any (HasNoColumn n) parts.columns.items) rows (IfErr-at_err (λ e. e ≡ Damaged → Any (HasNoColumn c.len.result) parts.columns.items) columns c.columns_from-columns.ensures.damaged is))
    ])

pub returns-in_err-ids-clause-due : goal.returns-in_err-ids-clause-due
returns-in_err-ids-clause-due c =
    let p = err_from_is_err_and c.from_residual.result c.from_residual.ensures.1 in
    let parts = c.args.parts in
    let rows : c.len.result ≡ length parts.numbers.items = omega (arith, c.len.ensures, parts.numbers.ok.0) in
    rw (p.1, p.2) (λ is none.
    let fine = c.in_err-ids.ensures.due (λ damage. memory_apart is damage) in
    segment_made parts c.requires.parts c.requires.layout (c.if-not-are_fit.ensures.0 refl)
    (ids_settled parts.ids.items c.distinct_of.result c.distinct_of.ensures.ok c.distinct_of.ensures.due c.distinct_of.ensures.refusal fine.0)
    (subst (λ n. All (λ q. HasNoColumn n q → ⊥) parts.columns.items) rows
    (columns_settled c.len.result parts.columns.items c.columns_from-columns.result c.columns_from-columns.ensures.ok c.columns_from-columns.ensures.due c.columns_from-columns.ensures.refusal fine.1))
    none)

pub returns-in_err-sources-clause-due : goal.returns-in_err-sources-clause-due
returns-in_err-sources-clause-due c =
    let p = err_from_is_err_and c.from_residual-in_err-sources.result c.from_residual-in_err-sources.ensures.1 in
    let parts = c.args.parts in
    let rows : c.len.result ≡ length parts.numbers.items = omega (arith, c.len.ensures, parts.numbers.ok.0) in
    let told = IfOk-at_ok (λ i. (i ≡ parts.ids.items) × AllPairs (λ a b. a ≢ b) i) c.in_ok-ids.ensures.ok.0 c.distinct_of.ensures.ok in
    let stand = IfOk-at_ok (λ cs. AreColumnsOf c.len.result parts.columns.items cs.items) c.in_ok-ids.ensures.ok.1 c.columns_from-columns.ensures.ok in
    rw (p.1, p.2) (λ is none.
    segment_made parts c.requires.parts c.requires.layout (c.if-not-are_fit.ensures.0 refl)
    (subst (AllPairs (λ a b. a ≢ b)) told.0 told.1)
    (columns_told (length parts.numbers.items) parts.columns.items c.in_ok-ids.columns.items (subst (λ n. AreColumnsOf n parts.columns.items c.in_ok-ids.columns.items) rows stand))
    none)

pub joined-requires : goal.joined-requires
joined-requires c =
    let p = c.args.parts in
    let rows : c.len.result ≡ length p.numbers.items = omega (arith, c.len.ensures, p.numbers.ok.0) in
    let told = IfOk-at_ok (λ i. (i ≡ p.ids.items) × AllPairs (λ a b. a ≢ b) i) c.in_ok-ids.ensures.ok.0 c.distinct_of.ensures.ok in
    let stand = IfOk-at_ok (λ cs. AreColumnsOf c.len.result p.columns.items cs.items) c.in_ok-ids.ensures.ok.1 c.columns_from-columns.ensures.ok in
    let read = parts_read p c.requires.parts c.requires.layout c.in_ok-ids.ids c.in_ok-sources.sources c.in_ok-ids.columns.items told.0 (c.in_ok-sources.ensures.ok ∙ c.deref.ensures.value)
    (c.if-not-are_fit.ensures.0 refl).rising told.1 (subst (λ n. AreColumnsOf n p.columns.items c.in_ok-ids.columns.items) rows stand) in
    let heads = heads_in p.numbers.items p.ids.items p.lengths.items in
    let laid = map column_in p.columns.items in
    IsBody-read p.number p.schema p.numbers.items c.in_ok-ids.ids c.in_ok-sources.sources c.in_ok-ids.columns.items heads laid read

pub returns-clause-ok : goal.returns-clause-ok
returns-clause-ok c =
    let p = c.args.parts in
    let rows : c.len.result ≡ length p.numbers.items = omega (arith, c.len.ensures, p.numbers.ok.0) in
    let told = IfOk-at_ok (λ i. (i ≡ p.ids.items) × AllPairs (λ a b. a ≢ b) i) c.in_ok-ids.ensures.ok.0 c.distinct_of.ensures.ok in
    let stand = IfOk-at_ok (λ cs. AreColumnsOf c.len.result p.columns.items cs.items) c.in_ok-ids.ensures.ok.1 c.columns_from-columns.ensures.ok in
    let read = parts_read p c.requires.parts c.requires.layout c.in_ok-ids.ids c.in_ok-sources.sources c.in_ok-ids.columns.items told.0 (c.in_ok-sources.ensures.ok ∙ c.deref.ensures.value)
    (c.if-not-are_fit.ensures.0 refl).rising told.1 (subst (λ n. AreColumnsOf n p.columns.items c.in_ok-ids.columns.items) rows stand) in
    let heads = heads_in p.numbers.items p.ids.items p.lengths.items in
    let laid = map column_in p.columns.items in (
      subst IsSegment (sym c.joined.ensures) (IsSegment-read p.number p.schema p.numbers.items c.in_ok-ids.ids c.in_ok-sources.sources c.in_ok-ids.columns.items heads laid read),
      ap layout_of c.joined.ensures ∙ layout_read p.number p.schema p.numbers.items c.in_ok-ids.ids c.in_ok-sources.sources c.in_ok-ids.columns.items heads laid read,
    )
