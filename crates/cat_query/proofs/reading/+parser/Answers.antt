use Rattle.std.proofs.Common.{◌≡◌, ◌-◌, ap, sym, ◌∙◌, arith, rules, refl}
use Rattle.std.proofs.lemmas.Result.{err_from_is_err_and}
use Rattle.cat_model.specs.Item.{Schema}
use Rattle.cat_model.specs.Query as model
use Rattle.cat_model.specs.Reader.{after_spaces, ends, clauses_at, content_at}
use Rattle.cat_query.specs.View.{sign_of}
use Rattle.cat_query.specs.Reading.{then_clause}
use Rattle.cat_query.proofs.Series.{none_left, clause_fails, gap_fails, is_last, goes_on, content_is, content_empty, with_front-nothing}
use Rattle.cat_query.proofs.Groups.{leaf_fails, leaf_read, group_fails, group_read, group_open, clause_zero, clause_stops, clause_read, content_zero}
use Rattle.cat_query.proofs.reading.+parser.Goals as goal

pub clause-returns-then-left-eq0 : goal.clause-returns-then-left-eq0
clause-returns-then-left-eq0 t c = clause_zero c.args.fields.now (content_at c.args.fields.now c.args.levels) c.args.left c.args.text.now c.if-left-eq0.true

pub clause-returns-in_err-primary : goal.clause-returns-in_err-primary
clause-returns-in_err-primary t c =
    let p = err_from_is_err_and c.from_residual.result c.from_residual.ensures.1 in
    rw (p.1, p.2) (clause_stops c.args.fields.now (content_at c.args.fields.now c.args.levels) c.args.text.now (sign_of c.sign-sign.result.0) c.sign-sign.result.1.now c.sign-sign.ensures
    c.args.left c.in_err-primary.field-0.0 c.if-left-eq0.false c.in_err-primary.ensures)

pub clause-returns : goal.clause-returns
clause-returns t c =
    let read = c.in_ok-primary.ensures in (
      read.0,
      clause_read c.args.fields.now (content_at c.args.fields.now c.args.levels) c.args.text.now (sign_of c.sign-sign.result.0) c.sign-sign.result.1.now c.sign-sign.ensures
          c.args.left c.in_ok-primary.left read.0 c.in_ok-primary.rest.now c.if-left-eq0.false read.1,
      read.2,
    )

pub content-returns-then-levels-eq0-clause-gives : goal.content-returns-then-levels-eq0-clause-gives
content-returns-then-levels-eq0-clause-gives t c = content_zero c.args.fields.now c.args.levels c.args.left c.args.text.now c.if-levels-eq0.true

pub content-returns-then-is_end-clause-gives : goal.content-returns-then-is_end-clause-gives
content-returns-then-is_end-clause-gives t c =
    let empty = content_empty c.args.fields.now c.args.levels c.args.left c.args.text.now c.if-levels-eq0.false (ap ends (sym c.without_spaces-rest.ensures) ∙ sym c.if-is_end.ensures) in
    rw c.without_spaces-rest.ensures empty

pub content-loop-turn-init : goal.content-loop-turn-init
content-loop-turn-init t c =
    let schema : Schema = c.args.fields.now in
    let begun = content_is schema c.args.levels c.args.left c.args.text.now c.if-levels-eq0.false (ap ends (sym c.without_spaces-rest.ensures) ∙ sym c.if-is_end.ensures) in
    let all : c.args.left - 0 ≡ c.args.left = omega arith in
    record {
      text = c.without_spaces-rest.utf8;
      so = (
        model.Query.no_clause,
        rw c.new.ensures.items refl,
        rw (all, c.without_spaces-rest.ensures) (with_front-nothing (clauses_at schema (content_at schema (c.args.levels - 1)) c.args.left c.args.left (after_spaces c.args.text.now)) ∙ sym begun),
      );
    }

pub content-returns-in_err-sign-clause-gives : goal.content-returns-in_err-sign-clause-gives
content-returns-in_err-sign-clause-gives t c =
    let schema : Schema = c.args.fields.now in
    let so = c.loop-turn.invariant.so in
    let p = err_from_is_err_and c.from_residual.result c.from_residual.ensures.1 in
    rw (p.1, p.2) (clause_fails schema (content_at schema (c.args.levels - 1)) so.0 c.args.left c.loop-turn._turn c.loop-turn.still c.loop-turn.rest.now
    (content_at schema c.args.levels c.args.left c.args.text.now) c.in_err-sign.field-0.0 c.loop-turn-test.true c.in_err-sign.ensures so.2)

pub content-returns-in_err-rest-clause-gives : goal.content-returns-in_err-rest-clause-gives
content-returns-in_err-rest-clause-gives t c =
    let schema : Schema = c.args.fields.now in
    let so = c.loop-turn.invariant.so in
    let read = c.in_ok-sign.ensures in
    let p = err_from_is_err_and c.from_residual-in_err-rest.result c.from_residual-in_err-rest.ensures.1 in
    rw (p.1, p.2) (gap_fails schema (content_at schema (c.args.levels - 1)) so.0 c.args.left c.loop-turn._turn c.loop-turn.still c.loop-turn.rest.now
    (content_at schema c.args.levels c.args.left c.args.text.now) (sign_of c.in_ok-sign.sign) read.0 c.in_ok-sign.after c.in_ok-sign.more.now c.loop-turn-test.true read.1 c.in_err-rest.field-0.0 c.in_err-rest.ensures so.2)

pub content-returns-then-is_end-2-clause-gives : goal.content-returns-then-is_end-2-clause-gives
content-returns-then-is_end-2-clause-gives t c =
    let schema : Schema = c.args.fields.now in
    let so = c.loop-turn.invariant.so in
    let read = c.in_ok-sign.ensures in (
      then_clause so.0 (sign_of c.in_ok-sign.sign) read.0,
      is_last schema (content_at schema (c.args.levels - 1)) so.0 c.args.left c.loop-turn._turn c.loop-turn.still c.loop-turn.rest.now
          (content_at schema c.args.levels c.args.left c.args.text.now) (sign_of c.in_ok-sign.sign) read.0 c.in_ok-sign.after c.in_ok-sign.more.now c.loop-turn-test.true read.1 c.in_ok-rest.rest.now c.in_ok-rest.ensures (sym c.if-is_end-2.ensures) so.2,
      c.with_clause-clauses.ensures so.0 read.0 so.1 read.2,
    )

pub content-loop-turn-preserved : goal.content-loop-turn-preserved
content-loop-turn-preserved t c =
    let schema : Schema = c.args.fields.now in
    let so = c.loop-turn.invariant.so in
    let read = c.in_ok-sign.ensures in
    record {
      text = search rules;
      so = (
        then_clause so.0 (sign_of c.in_ok-sign.sign) read.0,
        c.with_clause-clauses.ensures so.0 read.0 so.1 read.2,
        goes_on schema (content_at schema (c.args.levels - 1)) so.0 c.args.left c.loop-turn._turn c.loop-turn.still c.loop-turn.rest.now
            (content_at schema c.args.levels c.args.left c.args.text.now) (sign_of c.in_ok-sign.sign) read.0 c.in_ok-sign.after c.in_ok-sign.more.now c.loop-turn-test.true read.1 c.in_ok-rest.rest.now c.in_ok-rest.ensures (sym c.if-is_end-2.ensures) so.2,
      );
    }

pub content-returns-clause-gives : goal.content-returns-clause-gives
content-returns-clause-gives t c =
    let schema : Schema = c.args.fields.now in
    let so = c.loop-turn.invariant.so in
    none_left schema (content_at schema (c.args.levels - 1)) so.0 c.args.left c.loop-turn._turn c.loop-turn.still c.loop-turn.rest.now
    (content_at schema c.args.levels c.args.left c.args.text.now) c.loop-turn-test.false so.2

pub primary-returns-in_err-primary : goal.primary-returns-in_err-primary
primary-returns-in_err-primary t c =
    let p = err_from_is_err_and c.from_residual.result c.from_residual.ensures.1 in
    rw (p.1, p.2) (leaf_fails c.args.fields.now (content_at c.args.fields.now c.args.levels) c.args.left c.args.text.now c.in_err-primary.field-0.0 c.in_default.ensures c.in_err-primary.ensures)

pub primary-returns-in_default : goal.primary-returns-in_default
primary-returns-in_default t c =
    let read = c.in_ok-primary.ensures in
    (read.0, leaf_read c.args.fields.now (content_at c.args.fields.now c.args.levels) c.args.left c.args.text.now read.0 c.in_ok-primary.rest.now c.in_default.ensures read.1, read.2)

pub primary-returns-in_err-clauses : goal.primary-returns-in_err-clauses
primary-returns-in_err-clauses t c =
    let p = err_from_is_err_and c.from_residual-in_err-clauses.result c.from_residual-in_err-clauses.ensures.1 in
    rw (p.1, p.2) (group_fails c.args.fields.now (content_at c.args.fields.now c.args.levels) c.args.left c.args.text.now c.in-Some.inner.now c.in-Some.ensures c.in_err-clauses.field-0.0 c.in_err-clauses.ensures.gives)

pub primary-returns-in-Some-behind : goal.primary-returns-in-Some-behind
primary-returns-in-Some-behind t c =
    let read = c.in_ok-clauses.ensures.gives in (
      model.Primary.group read.0,
      group_read c.args.fields.now (content_at c.args.fields.now c.args.levels) c.args.left c.args.text.now c.in-Some.inner.now c.in-Some.ensures read.0 c.in_ok-clauses.left c.in_ok-clauses.rest.now c.in-Some-behind.rest.now read.1 c.in-Some-behind.ensures,
      c.group.ensures read.0 read.2,
    )

pub primary-returns-in-None : goal.primary-returns-in-None
primary-returns-in-None t c =
    let read = c.in_ok-clauses.ensures.gives in
    group_open c.args.fields.now (content_at c.args.fields.now c.args.levels) c.args.left c.args.text.now c.in-Some.inner.now c.in-Some.ensures read.0 c.in_ok-clauses.left c.in_ok-clauses.rest.now read.1 c.in_ok-clauses.ensures.ended c.in-None.ensures
