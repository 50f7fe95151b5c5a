use Rattle.std.proofs.Common.{sym, ap}
use Rattle.cat_items.specs.file_parts.Reading.{many_at, rest_of}
use Rattle.cat_items.proofs.file_parts.Rests.{passes_on, stops_here, passed_all}
use Rattle.cat_commits.specs.Layouts.{listed_at}
use Rattle.cat_commits.proofs.listing.pass_segments.Goals as goal

pub returns-in_err-take_segment : goal.returns-in_err-take_segment
returns-in_err-take_segment c =
    rw c.from_residual.ensures (sym (stops_here (listed_at c.args.generation c.args.next) c.args.count c.loop.counter c.loop.cursor (rest_of (many_at (listed_at c.args.generation c.args.next) c.args.count c.args.cursor.now)) c.loop-test.true (ap rest_of (sym c.in_err-take_segment.ensures)) c.loop.invariant))

pub loop-preserved : goal.loop-preserved
loop-preserved c = passes_on (listed_at c.args.generation c.args.next) c.args.count c.loop.counter c.loop.cursor _ (rest_of (many_at (listed_at c.args.generation c.args.next) c.args.count c.args.cursor.now)) c.loop-test.true (ap rest_of (sym c.in_ok-take_segment.ensures)) c.loop.invariant

pub returns : goal.returns
returns c = sym (passed_all (listed_at c.args.generation c.args.next) c.args.count c.loop.counter c.loop.cursor (rest_of (many_at (listed_at c.args.generation c.args.next) c.args.count c.args.cursor.now)) c.loop-test.false c.loop.invariant)
