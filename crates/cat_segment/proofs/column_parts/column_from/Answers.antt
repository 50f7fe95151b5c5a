use Rattle.std.proofs.Common.{ℕ, Vec, Global}
use Rattle.std.specs.Vec.Iter.{into_iter_items}
use Rattle.cat_segment.specs.Index.{AreAllRows}
use Rattle.cat_segment.proofs.Taken.{next_is, left_are}
use Rattle.cat_segment.proofs.column_parts.column_from.Goals as goal

pub numbers_from-requires-clause-runs : goal.numbers_from-requires-clause-runs
numbers_from-requires-clause-runs c =
    next_is (λ (order : Vec ℕ Global). AreAllRows c.args.rows order.items) c.next.result (into_iter_items c.args.orders.now) (into_iter_items c.next.new.self) c.requires.orders c.next.ensures.items

pub returns-in_err-numbers_from-in-Number-clause-orders : goal.returns-in_err-numbers_from-in-Number-clause-orders
returns-in_err-numbers_from-in-Number-clause-orders c =
    left_are (λ (order : Vec ℕ Global). AreAllRows c.args.rows order.items) c.next.result (into_iter_items c.args.orders.now) (into_iter_items c.next.new.self) c.requires.orders c.next.ensures.items

pub returns-in_ok-numbers_from-in-Number-clause-orders : goal.returns-in_ok-numbers_from-in-Number-clause-orders
returns-in_ok-numbers_from-in-Number-clause-orders c =
    left_are (λ (order : Vec ℕ Global). AreAllRows c.args.rows order.items) c.next.result (into_iter_items c.args.orders.now) (into_iter_items c.next.new.self) c.requires.orders c.next.ensures.items

pub words_from-requires-clause-cut : goal.words_from-requires-clause-cut
words_from-requires-clause-cut c = rw c.in-Text.is at c.requires.cut

pub words_from-requires-clause-laid : goal.words_from-requires-clause-laid
words_from-requires-clause-laid c = rw c.in-Text.is at c.requires.laid

pub returns-in-Text-clause-ok : goal.returns-in-Text-clause-ok
returns-in-Text-clause-ok c = rw c.in-Text.is c.words_from.ensures.ok

pub returns-in-Text-clause-damaged : goal.returns-in-Text-clause-damaged
returns-in-Text-clause-damaged c = rw c.in-Text.is c.words_from.ensures.damaged

pub returns-in-Text-clause-due : goal.returns-in-Text-clause-due
returns-in-Text-clause-due c = rw c.in-Text.is c.words_from.ensures.due

pub returns-in-Text-clause-refusal : goal.returns-in-Text-clause-refusal
returns-in-Text-clause-refusal c = c.words_from.ensures.refusal

pub keywords_from-requires-clause-laid : goal.keywords_from-requires-clause-laid
keywords_from-requires-clause-laid c = rw c.in-Keyword.is at c.requires.laid

pub returns-in-Keyword-clause-ok : goal.returns-in-Keyword-clause-ok
returns-in-Keyword-clause-ok c = rw c.in-Keyword.is c.keywords_from.ensures.ok

pub returns-in-Keyword-clause-damaged : goal.returns-in-Keyword-clause-damaged
returns-in-Keyword-clause-damaged c = rw c.in-Keyword.is c.keywords_from.ensures.damaged

pub returns-in-Keyword-clause-due : goal.returns-in-Keyword-clause-due
returns-in-Keyword-clause-due c = rw c.in-Keyword.is c.keywords_from.ensures.due

pub returns-in-Keyword-clause-refusal : goal.returns-in-Keyword-clause-refusal
returns-in-Keyword-clause-refusal c = c.keywords_from.ensures.refusal

pub labels_from-requires-clause-cut : goal.labels_from-requires-clause-cut
labels_from-requires-clause-cut c = rw c.in-Facet.is at c.requires.cut

pub labels_from-requires-clause-labels : goal.labels_from-requires-clause-labels
labels_from-requires-clause-labels c = rw c.in-Facet.is at c.requires.labels

pub labels_from-requires-clause-laid : goal.labels_from-requires-clause-laid
labels_from-requires-clause-laid c = rw c.in-Facet.is at c.requires.laid

pub returns-in-Facet-clause-ok : goal.returns-in-Facet-clause-ok
returns-in-Facet-clause-ok c = rw c.in-Facet.is c.labels_from.ensures.ok

pub returns-in-Facet-clause-damaged : goal.returns-in-Facet-clause-damaged
returns-in-Facet-clause-damaged c = rw c.in-Facet.is c.labels_from.ensures.damaged

pub returns-in-Facet-clause-due : goal.returns-in-Facet-clause-due
returns-in-Facet-clause-due c = rw c.in-Facet.is c.labels_from.ensures.due

pub returns-in-Facet-clause-refusal : goal.returns-in-Facet-clause-refusal
returns-in-Facet-clause-refusal c = c.labels_from.ensures.refusal

pub numbers_from-requires-clause-laid : goal.numbers_from-requires-clause-laid
numbers_from-requires-clause-laid c = rw c.in-Number.is at c.requires.laid

pub returns-in_ok-numbers_from-in-Number-clause-ok : goal.returns-in_ok-numbers_from-in-Number-clause-ok
returns-in_ok-numbers_from-in-Number-clause-ok c = rw c.in-Number.is c.in_ok-numbers_from-in-Number.ensures.ok
