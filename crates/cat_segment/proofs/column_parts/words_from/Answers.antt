use Rattle.std.proofs.Common.{map}
use Rattle.std.proofs.lemmas.Result.{err_from_is_err_and}
use Rattle.cat_model.specs.Item.{Content}
use Rattle.cat_model.specs.Layout.{paired_postings, pieces}
use Rattle.cat_segment.proofs.Columned.{words_read, no_words}
use Rattle.cat_segment.proofs.column_parts.words_from.Goals as goal

pub returns-in_err-terms-clause-damaged : goal.returns-in_err-terms-clause-damaged
returns-in_err-terms-clause-damaged c =
    let p = err_from_is_err_and c.from_residual.result c.from_residual.ensures.1 in
    rw (p.1, p.2) (λ is contents are. no_words c.args.rows (paired_postings c.args.words.items (pieces 0 c.args.ends.items c.args.postings.items)) (c.in_err-terms.ensures.damaged is) contents are)

pub returns-clause-ok : goal.returns-clause-ok
returns-clause-ok c =
    let read = words_read c.args.rows c.in_ok-terms.terms (paired_postings c.args.words.items (pieces 0 c.args.ends.items c.args.postings.items)) c.in_ok-terms.ensures.ok.0 c.len-rows.ensures.sets c.in_ok-terms.ensures.ok.1 c.requires.laid in
    record { contents = read.0; spelled = read.1 }

pub returns-in_err-terms-clause-due : goal.returns-in_err-terms-clause-due
returns-in_err-terms-clause-due c =
    let p = err_from_is_err_and c.from_residual.result c.from_residual.ensures.1 in
    let postings = paired_postings c.args.words.items (pieces 0 c.args.ends.items c.args.postings.items) in
    rw (p.1, p.2) (λ is none.
    let damage = c.in_err-terms.ensures.due (λ texts long sets same. let read = words_read c.args.rows texts postings long sets same c.requires.laid in none (map Content.words texts) read.0 read.1) in
    absurd (cc (damage, is)))
