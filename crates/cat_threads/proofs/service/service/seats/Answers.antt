use Rattle.std.proofs.Common.{◌≡◌, ◌+◌, [], ◌∷◌, ◌++◌, map, take, List, sym, ap, ◌∙◌, arith, rules, refl}
use Rattle.std.specs.Prelude.{slice_index_or}
use Rattle.std.proofs.lemmas.List.{take_more}
use Rattle.std.proofs.lemmas.Grind.{elements}
use Rattle.cat_threads.specs.history.Rules.{Sight}
use Rattle.cat_threads.specs.history.Entries.{has_session}
use Rattle.cat_threads.specs.history.Rules.{scribe, seat_for, seating}
use Rattle.cat_threads.specs.service.Passes.{Seen, newcomer, seated_by}
use Rattle.cat_threads.proofs.service.Passed.{is_free, seated_by-snoc, map-snoc}
use Rattle.cat_threads.proofs.service.service.seats.Goals as goal

pub seat-seat-requires-clause-free : goal.seat-seat-requires-clause-free
seat-seat-requires-clause-free g c =
    let i = c.loop-session.invariant in
    ap (λ (v : Sight). has_session (slice_index_or c.args.sessions.now c.loop-session.session-index 0) v.seated) i.1
    ∙ is_free [] c.args.sessions.now c.loop-session.session-index 0 c.requires.different (λ s there. refl) (omega arith)

pub new-requires : goal.new-requires
new-requires g c =
    let i = c.loop-session.invariant in
    let mine = c.seat-seat.ensures.mine in
    let x = slice_index_or c.args.sessions.now c.loop-session.session-index 0 in
    (mine.0 ∙ i.0, mine.1 ∙ ap (λ (v : Sight). seat_for x v) i.1)

pub loop-session-preserved : goal.loop-session-preserved
loop-session-preserved g c =
    let i = c.loop-session.invariant in
    let s = c.seat-seat.ensures in
    let n = c.loop-session.session-index in
    let xs = c.args.sessions.now in
    let x = slice_index_or xs n 0 in
    let f = newcomer g.J.Naming.from.start.token in
    let more : take n xs ++ x ∷ [] ≡ take (n + 1) xs = sym (take_more xs n 0 (omega arith)) in (
      s.desk.0 ∙ i.0,
      s.desk.1 ∙ (ap (λ (v : Sight). seating x v) i.1 ∙ ap (λ l. scribe [] 0 l []) (sym (seated_by-snoc [] (take n xs) x) ∙ ap (seated_by []) more)),
      c.in_ok-push.ensures.items ∙ (ap (λ (l : List Seen). l ++ c.new.result ∷ []) i.2 ∙ (ap (λ (p : Seen). map f (take n xs) ++ p ∷ []) c.new.ensures ∙ (sym (map-snoc f (take n xs) x) ∙ ap (map f) more))),
    )

pub returns-clause-passes : goal.returns-clause-passes
returns-clause-passes c = grind (arith, elements)

pub returns-clause-scribe : goal.returns-clause-scribe
returns-clause-scribe c = grind (arith, elements)
