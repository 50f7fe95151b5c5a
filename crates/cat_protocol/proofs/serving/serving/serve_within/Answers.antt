use Rattle.std.proofs.Common.{[], ◌++◌, length, take, ap, refl, ◌∙◌, arith}
use Rattle.std.proofs.KnownBytes.{Appends-nil, Consumes-nil, Consumes-trans, Consumes-kept}
use Rattle.cat_model.specs.Input.{ended_lines, HaveCome}
use Rattle.cat_protocol.specs.serving.Serving.{Says}
use Rattle.cat_protocol.proofs.serving.Cuts.{ended_on, rest_on}
use Rattle.cat_protocol.proofs.serving.Steps.{last_lines_behind, serves_kept, serves_then, serves_with, where_ok}
use Rattle.cat_protocol.proofs.serving.Endings.{ends_at, ends_behind, ends_handed_on, ends_unread}
use Rattle.cat_protocol.proofs.serving.serving.serve_within.Goals as goal

pub returns-then-is_err : goal.returns-then-is_err
returns-then-is_err g c =
    let m = g.M.Machine in
    let input = g.R.Read.remaining c.args.reader.now in
    let left = g.R.Read.remaining c.reads.reader in
    let so = c.reads.invariant in
    ends_behind m.opens m.step m.token c.args.seed input left so.bytes so.read (ended_lines so.bytes) HaveCome.ended (serves_kept so.served c.flush.ensures)

pub returns-in-Err : goal.returns-in-Err
returns-in-Err g c =
    let m = g.M.Machine in
    let input = g.R.Read.remaining c.args.reader.now in
    let left = g.R.Read.remaining c.read_some.new.reader in
    let so = c.reads.invariant in
    let piece = take c.in-Bytes.n c.read_some.new.chunk in
    let bytes = so.bytes ++ piece in
    let read = Consumes-trans _ _ _ so.bytes piece so.read c.in-Bytes.ensures.0 in
    let fed = serves_then (serves_kept so.served c.flush.ensures) c.feed-served.ensures.served (ended_on so.bytes piece c.reads.gathered.items so.gathered) in
    ends_at m.opens m.step m.token c.args.seed input left bytes read (ended_lines bytes) HaveCome.ended c.feed-served.result.stage _ _ c.in-Err.field-0 c.feed-served.result.ended c.in-Err.is fed

pub returns-in-Fault : goal.returns-in-Fault
returns-in-Fault g c =
    let m = g.M.Machine in
    let input = g.R.Read.remaining c.args.reader.now in
    let left = g.R.Read.remaining c.read_some.new.reader in
    let so = c.reads.invariant in
    let read = Consumes-kept _ _ _ so.bytes so.read c.in-Fault.ensures in
    ends_unread m.opens m.step m.token c.args.seed input left so.bytes read (serves_kept so.served c.flush.ensures)

pub returns-in-End : goal.returns-in-End
returns-in-End g c =
    let m = g.M.Machine in
    let input = g.R.Read.remaining c.args.reader.now in
    let left = g.R.Read.remaining c.read_some.new.reader in
    let so = c.reads.invariant in
    let end = c.in-End.ensures in
    let read = Consumes-kept _ _ _ so.bytes so.read end.0 in
    let went = serves_kept so.served c.flush.ensures in
    let gathered = ap (take 10002) c.as_slice.ensures.value ∙ so.gathered in
    let whole = last_lines_behind (Says m.opens m.step m.token) so.bytes c.as_slice.result.now c.args.seed c.reads.stage _ _ went gathered in
    let last = c.serve_end.ensures in
    ends_handed_on m.opens m.step m.token c.args.seed input left so.bytes read end.1 c.reads.stage c.serve_end.result.stage _ _ _ _ last.went _ last.ended c.serve_end.result.ended went last.serves last.flushed whole

pub reads-preserved : goal.reads-preserved
reads-preserved g c =
    let so = c.reads.invariant in
    let piece = take c.in-Bytes.n c.read_some.new.chunk in
    let fed = c.feed-served.ensures in
    record {
      ready = where_ok _ _ c.in-Ok.is fed.ready;
      room = fed.room;
      short = fed.short;
      bytes = so.bytes ++ piece;
      read = Consumes-trans _ _ _ so.bytes piece so.read c.in-Bytes.ensures.0;
      served = serves_then (serves_kept so.served c.flush.ensures) (serves_with c.in-Ok.is fed.served) (ended_on so.bytes piece c.reads.gathered.items so.gathered);
      gathered = where_ok _ _ c.in-Ok.is fed.gathered ∙ rest_on so.bytes piece c.reads.gathered.items so.gathered;
    }

pub returns : goal.returns
returns g c =
    let m = g.M.Machine in
    let input = g.R.Read.remaining c.args.reader.now in
    let left = g.R.Read.remaining c.reads.reader in
    let so = c.reads.invariant in
    ends_unread m.opens m.step m.token c.args.seed input left so.bytes so.read so.served

pub reads-init : goal.reads-init
reads-init g c = record {
  ready = tt;
  room = c.requires.room;
  short = omega (arith, ap length c.requires.empty);
  bytes = [];
  read = Consumes-nil _;
  served = record { ends = ([], (refl, refl), Appends-nil _) };
  gathered = ap (take 10002) c.requires.empty;
}

pub read_some-requires : goal.read_some-requires
read_some-requires g c = omega (arith, c.reads.auto.chunk, c.requires.some)

pub slice_bounds-feed-end : goal.slice_bounds-feed-end
slice_bounds-feed-end g c = c.in-Bytes.ensures.1
