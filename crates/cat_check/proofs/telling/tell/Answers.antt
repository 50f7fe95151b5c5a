use Rattle.std.proofs.Common.{sym}
use Rattle.std.specs.List.{flat_map}
use Rattle.cat_check.specs.Telling.{newest_text, report_text, unnamed_line}
use Rattle.cat_check.proofs.Pieces.{told_in_three}
use Rattle.cat_check.proofs.telling.tell.Goals as goal

pub returns : goal.returns
returns g c =
    let checked = c.args.checked.now in
    let went = g.W.Write.contents in
    record {
      text = told_in_three (went c.args.out.now) (went c.tell_newest.new.out) (went c.tell_reports.new.out) (went c.tell_unnamed.new.out) c.tell_unnamed.result
          (newest_text checked.newest) (flat_map report_text checked.older.items) (flat_map unnamed_line checked.unnamed.items)
          c.in_ok-tell_newest.ensures.text
          (rw (sym c.deref.ensures.value) c.in_ok-tell_reports.ensures.text)
          (rw (sym c.deref-2.ensures.value) c.tell_unnamed.ensures.text);
    }
