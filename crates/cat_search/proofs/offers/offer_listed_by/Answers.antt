use Rattle.std.proofs.Common.{◌≡◌, ◌<◌, ◌∙◌, ◌++◌, [], length, get_or, sym, ap, subst, refl, arith, append-nil, append_assoc}
use Rattle.cat_search.specs.Candidates.{IsBestAt, mark_standing, standing_of}
use Rattle.cat_search.proofs.Bars.{rank_of_key, length-keyed, renewed_ranks, renewed_left_out}
use Rattle.cat_search.proofs.Gathered.{none, one}
use Rattle.cat_search.proofs.ListedRows.{dead_listed, hit_listed, listed_end, listed_to}
use Rattle.cat_search.proofs.offers.offer_listed_by.Goals as goal
use Rattle.cat_search.proofs.offers.offer_listed_by.Goals.{then-is_live+then-lets_in+in_ok-offer_hit, else-is_live, else-is_live-via-then-is_live+else-lets_in, else-is_live-via-else-is_live}

pub lets_in-requires : goal.lets_in-requires
lets_in-requires g c =
    let within : get_or c.args.rows.now c.loop-listed.listed-index 0 < length c.args.ranks.now = c.requires.within c.loop-listed.listed-index 0 c.loop-listed-test.true in
    let long = length-keyed (g.B.Bar.order c.loop-listed.bar) (g.B.Bar.keys c.loop-listed.bar) c.args.ranks.now c.loop-listed.invariant.ranked in
    λ k. ((refl, tt), (c.loop-listed.invariant.sound, omega (arith, within, long)))

pub loop-listed-init : goal.loop-listed-init
loop-listed-init g c =
    let order = g.B.Bar.order in
    let keys = g.B.Bar.keys in
    record {
      limit = refl;
      sound = c.renew.ensures.sound;
      ranked = renewed_ranks (order c.renew.new.self) (order c.args.bar.now) (keys c.renew.new.self) (keys c.args.bar.now) c.renew.ensures.order c.renew.ensures.keys c.args.ranks.now c.requires.ranked;
      out = λ row h. renewed_left_out (order c.renew.new.self) (order c.args.bar.now) (keys c.renew.new.self) (keys c.args.bar.now) c.renew.ensures.order c.renew.ensures.keys (mark_standing c.args.mark.now) c.args.best.now row
          (c.renew.ensures.bar row h);
      best = λ ps h. subst (IsBestAt c.args.best.now) (sym (append-nil ps)) h;
    }

pub loop-listed-preserved : goal.loop-listed-preserved
loop-listed-preserved g c =
    let order = g.B.Bar.order in
    let keys = g.B.Bar.keys in
    let mark = mark_standing c.args.mark.now in
    let ranks = c.args.ranks.now in
    let live = c.args.live.now in
    let rows = c.args.rows.now in
    let i = c.loop-listed.listed-index in
    let row = get_or rows i 0 in
    let more = c.loop-listed-test.true in
    let held = c.loop-listed.invariant in
    let done = listed_to mark ranks live rows i in
    elim c.if-is_live.branch [
      | then-is_live+then-lets_in+in_ok-offer_hit w ↦
          let renewed = w.renew-then-lets_in in
          let p = standing_of w.at.result in
          let hit = hit_listed mark ranks live rows i row more refl (sym c.is_live.ensures ∙ w.if-is_live.true) p (w.at.ensures none) in
          rw (w.best-is, w.bar-is) (record {
            limit = w.in_ok-offer_hit.ensures.limit ∙ held.limit;
            sound = renewed.ensures.sound;
            ranked = renewed_ranks (order renewed.new.self) (order c.loop-listed.bar) (keys renewed.new.self) (keys c.loop-listed.bar) renewed.ensures.order renewed.ensures.keys ranks held.ranked;
            out = λ r h. renewed_left_out (order renewed.new.self) (order c.loop-listed.bar) (keys renewed.new.self) (keys c.loop-listed.bar) renewed.ensures.order renewed.ensures.keys mark w.offer_hit.new.best r (renewed.ensures.bar r h);
            best = λ ps h. subst (IsBestAt w.offer_hit.new.best) (append_assoc ps done (one mark p) ∙ ap (λ qs. ps ++ qs) (sym hit)) (w.in_ok-offer_hit.ensures.best (ps ++ done) (held.best ps h));
          })
      | else-is_live w ↦
          rw (w.best-is, w.bar-is) (record {
            limit = held.limit;
            sound = held.sound;
            ranked = held.ranked;
            out = held.out;
            best = λ ps h. elim w.else-is_live.branch [
              | else-is_live-via-then-is_live+else-lets_in v ↦
                  let standing = get_or ranks row none in
                  let rank = rank_of_key (order c.loop-listed.bar) (keys c.loop-listed.bar) ranks held.ranked row in
                  let hit = hit_listed mark ranks live rows i row more refl (sym c.is_live.ensures ∙ v.if-is_live.true) standing refl in
                  subst (IsBestAt c.loop-listed.best) (append_assoc ps done (one mark standing) ∙ ap (λ qs. ps ++ qs) (sym hit))
                  (held.out row (v.lets_in.ensures v.if-lets_in.false) standing rank (ps ++ done) (held.best ps h))
              | else-is_live-via-else-is_live v ↦
                  let same = dead_listed mark ranks live rows i row more refl (sym c.is_live.ensures ∙ v.if-is_live.false) in
                  subst (λ l. IsBestAt c.loop-listed.best (ps ++ l)) (sym same) (held.best ps h)
            ];
          })
    ]

pub returns-clause-best : goal.returns-clause-best
returns-clause-best g c = λ ps h.
    subst (IsBestAt c.loop-listed.best) (ap (λ qs. ps ++ qs) (listed_end (mark_standing c.args.mark.now) c.args.ranks.now c.args.live.now c.args.rows.now c.loop-listed.listed-index c.loop-listed-test.false)) (c.loop-listed.invariant.best ps h)

pub is_live-requires : goal.is_live-requires
is_live-requires c = omega arith

pub at-requires : goal.at-requires
at-requires c = omega arith
