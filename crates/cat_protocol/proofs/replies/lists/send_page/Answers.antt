use Rattle.std.proofs.Common.{refl}
use Rattle.cat_protocol.proofs.replies.Listed.{page_cut, page_cut_behind, page_sent}
use Rattle.cat_protocol.proofs.replies.lists.send_page.Goals as goal

pub returns-in_err-put_line : goal.returns-in_err-put_line
returns-in_err-put_line g c =
    page_cut c.args.session c.page_words.result c.args.page.now c.args.page.now.entries _ _ _ c.from_residual.result c.new-lines.ensures c.in_err-put_line.ensures c.from_residual.ensures.0 c.page_words.ensures refl

pub returns-in_err-put_entries : goal.returns-in_err-put_entries
returns-in_err-put_entries g c =
    page_cut_behind c.args.session c.page_words.result c.args.page.now c.entries.result.now _ _ _ _ _ c.from_residual-in_err-put_entries.result c.new-lines.ensures c.in_ok-put_line.ensures c.in_err-put_entries.ensures
    c.from_residual-in_err-put_entries.ensures.0 c.page_words.ensures c.entries.ensures

pub returns : goal.returns
returns g c =
    page_sent c.args.session c.page_words.result c.args.page.now c.entries.result.now _ _ _ _ _ _ _ c.finish.result c.new-lines.ensures c.in_ok-put_line.ensures c.in_ok-put_entries.ensures c.finish.ensures
    c.page_words.ensures c.entries.ensures
