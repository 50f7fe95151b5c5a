use Rattle.std.proofs.Common.{◌≡◌, ◌≢◌, ℕ, List, [], ◌-◌, ◌*◌, length, refl, ap, ◌∙◌}
use Rattle.cat_model.specs.CommitFile.{CommitFile}
use Rattle.cat_commits.specs.Layouts.{CommitStart, start_in, start_at}
use Rattle.cat_commits.proofs.Fields.{same_fields, no_end, an_end}
use Rattle.cat_commits.proofs.Lists.{part_to_end}
use Rattle.cat_commits.proofs.Commits.{made, Taken, AreSpelled, none_start, none_fields, none_count, none_segments, none_ended, some_ended, taken_pieces, pieces_spelled, long_enough, tail_is}
use Rattle.cat_commits.proofs.decoding.judge.Goals as goal

pub returns-in_err-start-clause-none : goal.returns-in_err-start-clause-none
returns-in_err-start-clause-none c = rw c.from_residual.ensures (none_start c.args.bytes.now (c.in_err-start.ensures ∙ ap start_at c.new-cursor.ensures))

pub returns-in_err-schema-clause-none : goal.returns-in_err-schema-clause-none
returns-in_err-schema-clause-none c =
    rw c.from_residual-in_err-schema.ensures (none_fields c.args.bytes.now c.take_start.new.cursor (start_in c.in_ok-start.start) (c.in_ok-start.ensures ∙ ap start_at c.new-cursor.ensures) c.in_err-schema.ensures.rest)

pub returns-in_err-count-clause-none : goal.returns-in_err-count-clause-none
returns-in_err-count-clause-none c =
    rw c.from_residual-in_err-count.ensures (none_count c.args.bytes.now c.take_start.new.cursor c.take_fields.new.cursor (start_in c.in_ok-start.start) (c.in_ok-start.ensures ∙ ap start_at c.new-cursor.ensures) c.in_ok-schema.ensures.rest c.in_err-count.ensures)

pub returns-in_err-pass_segments-clause-none : goal.returns-in_err-pass_segments-clause-none
returns-in_err-pass_segments-clause-none c =
    rw c.from_residual-in_err-pass_segments.ensures (none_segments c.args.bytes.now c.take_start.new.cursor c.take_fields.new.cursor c.take_count.new.cursor (start_in c.in_ok-start.start) c.in_ok-count.count (c.in_ok-start.ensures ∙ ap start_at c.new-cursor.ensures) c.in_ok-schema.ensures.rest c.in_ok-count.ensures c.in_err-pass_segments.ensures)

pub returns-in_err-ok-clause-none : goal.returns-in_err-ok-clause-none
returns-in_err-ok-clause-none c =
    let m1 : List ℕ = c.take_start.new.cursor in
    let m2 : List ℕ = c.take_fields.new.cursor in
    let m3 : List ℕ = c.take_count.new.cursor in
    let m4 : List ℕ = c.pass_segments.new.cursor in
    let s : CommitStart = start_in c.in_ok-start.start in
    let n : ℕ = c.in_ok-count.count in
    let taken : Taken c.args.bytes.now m1 m2 m3 m4 s n = record {
      start = c.in_ok-start.ensures ∙ ap start_at c.new-cursor.ensures;
      fields = c.in_ok-schema.ensures.rest;
      count = c.in_ok-count.ensures;
      segments = c.in_ok-pass_segments.ensures;
    } in
    let more : m4 ≢ [] = no_end _ c.ended.result c.in_err-ok.ensures.value c.ended.ensures.err in
    rw c.from_residual-in_err-ok.ensures (none_ended c.args.bytes.now m1 m2 m3 m4 s n taken more)

pub overflow_sub-listing : goal.overflow_sub-listing
overflow_sub-listing c =
    let m1 : List ℕ = c.take_start.new.cursor in
    let m2 : List ℕ = c.take_fields.new.cursor in
    let m3 : List ℕ = c.take_count.new.cursor in
    let m4 : List ℕ = c.pass_segments.new.cursor in
    let s : CommitStart = start_in c.in_ok-start.start in
    let n : ℕ = c.in_ok-count.count in
    let taken : Taken c.args.bytes.now m1 m2 m3 m4 s n = record {
      start = c.in_ok-start.ensures ∙ ap start_at c.new-cursor.ensures;
      fields = c.in_ok-schema.ensures.rest;
      count = c.in_ok-count.ensures;
      segments = c.in_ok-pass_segments.ensures;
    } in
    let nothing : m4 ≡ [] = an_end c.ended.result c.in_ok-ok.field-0 c.in_ok-ok.ensures.value c.ended.ensures.ok in
    let p = taken_pieces c.args.bytes.now m1 m2 m3 m4 s n taken in
    long_enough c.args.bytes.now m3 n (made s p.schema p.listed) (pieces_spelled c.args.bytes.now m1 m2 m3 m4 s p.schema n p.listed p.pieces nothing)

pub returns-clause-some : goal.returns-clause-some
returns-clause-some c =
    let m1 : List ℕ = c.take_start.new.cursor in
    let m2 : List ℕ = c.take_fields.new.cursor in
    let m3 : List ℕ = c.take_count.new.cursor in
    let m4 : List ℕ = c.pass_segments.new.cursor in
    let s : CommitStart = start_in c.in_ok-start.start in
    let n : ℕ = c.in_ok-count.count in
    let taken : Taken c.args.bytes.now m1 m2 m3 m4 s n = record {
      start = c.in_ok-start.ensures ∙ ap start_at c.new-cursor.ensures;
      fields = c.in_ok-schema.ensures.rest;
      count = c.in_ok-count.ensures;
      segments = c.in_ok-pass_segments.ensures;
    } in
    let nothing : m4 ≡ [] = an_end c.ended.result c.in_ok-ok.field-0 c.in_ok-ok.ensures.value c.ended.ensures.ok in
    let p = taken_pieces c.args.bytes.now m1 m2 m3 m4 s n taken in
    let told : CommitFile = made s p.schema p.listed in
    let spelled : AreSpelled c.args.bytes.now m3 n told = pieces_spelled c.args.bytes.now m1 m2 m3 m4 s p.schema n p.listed p.pieces nothing in (
      told,
      some_ended c.args.bytes.now m1 m2 m3 m4 s p.schema n p.listed p.pieces nothing,
      record {
        start = refl;
        schema = same_fields m1 m2 p.schema c.in_ok-schema.schema p.pieces.fields c.in_ok-schema.ensures.fields;
        listing = part_to_end c.args.bytes.now (length c.args.bytes.now - 16 * n) ∙ tail_is c.args.bytes.now m3 n told spelled;
      },
    )
