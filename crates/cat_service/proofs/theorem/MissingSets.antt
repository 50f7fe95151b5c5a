-- Where a query was found in a view of an item that was put, a set is missing, and none is cached.
use Rattle.std.proofs.Common.{◌≡◌, ℕ, ◌+◌, ◌<◌, ◌≤◌, List, [], ◌∷◌, ◌++◌, length, map, sum, take, true, false, refl, sym, ◌∙◌, ap, subst, arith, inl, inr, append-nil, append_assoc}
use Rattle.std.specs.Prelude.{Contains, None, Some, Ok, filter, filter_map}
use Rattle.std.proofs.lemmas.Bool.Decides.{nat_tests}
use Rattle.std.proofs.lemmas.List.{length-append}
use Rattle.std.proofs.lemmas.List.Elements.{Contains-append_right, filter-append}
use Rattle.std.proofs.lemmas.List.Sums.{sum-map, sum_by-cons}
use Rattle.cat_model.specs.Heard.{Json}
use Rattle.cat_model.specs.Item.{Item, Record}
use Rattle.cat_service.proofs.theorem.Growing.{AllBelow, AllFrom, Steps, apart, below_found, below_step, falls_on, from_added, from_fall, in_one, steps}
use Rattle.cat_service.specs.theorem.MissingSets.{MissingSetsAreTold, PutAndFound, put_and_found, set_and_put, warmed, was_numbered, was_told}
use Rattle.cat_model.specs.Query.{Query}
use Rattle.cat_model.specs.Reasons.{IsCausedIn}
use Rattle.cat_model.specs.Run.{Answer, Chore, Command, Exchange, News, Reply, Run, SegmentStat, Stat}
use Rattle.cat_model.specs.Served.{exchange}
use Rattle.cat_model.specs.Standings.{Cache, HasReason, HaveReasons, LiveRowsFall, NotesQuery, SearchMoves, Standing, UsesSetsOf}
use Rattle.cat_model.specs.Table.{Numbered, Opened, Start, stands, table}
use Rattle.cat_model.specs.Text.{Text, same_text}
use Rattle.cat_model.specs.Told.{DirectoryKind, TellsAlways}
use Rattle.cat_model.specs.Write.{Write}

-- ---- the table

-- an item that was put last is in the table
put_stands : (start : Start) (i : Item) → 0 < length (table start (Write.put i ∷ []) (start.token + 1))
put_stands start i =
    let n = start.token + 1 in
    let ws : List Numbered = record { number = n; write = Write.put i } ∷ [] in
    let r : Record = record { number = n; item = i } in
    let here : stands n ws r ≡ true = grind (arith, nat_tests) in
    let parts = ap length (filter-append (stands n ws) start.records (r ∷ [])) ∙ length-append (filter (stands n ws) start.records) (filter (stands n ws) (r ∷ [])) in
    let one : length (filter (stands n ws) (r ∷ [])) ≡ 1 = rw here refl in
    omega (arith, parts, one)

-- from nothing, one item makes one
one_stands : (start : Start) (i : Item) → start.records ≡ [] → length (table start (Write.put i ∷ []) (start.token + 1)) ≡ 1
one_stands start i none =
    let n = start.token + 1 in
    let ws : List Numbered = record { number = n; write = Write.put i } ∷ [] in
    let r : Record = record { number = n; item = i } in
    let here : stands n ws r ≡ true = grind (arith, nat_tests) in
    let one : length (filter (stands n ws) (r ∷ [])) ≡ 1 = rw here refl in
    ap (λ rs. length (filter (stands n ws) (rs ++ r ∷ []))) none ∙ one

-- and two of different ids make two
two_stand : (start : Start) (i j : Item) → start.records ≡ [] → same_text j.id i.id ≡ false
    → length (table start (Write.put i ∷ Write.put j ∷ []) (start.token + 2)) ≡ 2
two_stand start i j none differ =
    let t = start.token + 2 in
    let n = start.token + 1 in
    let ws : List Numbered = record { number = n; write = Write.put i } ∷ record { number = n + 1; write = Write.put j } ∷ [] in
    let a : Record = record { number = n; item = i } in
    let b : Record = record { number = n + 1; item = j } in
    let first : stands t ws a ≡ true = grind (arith, nat_tests, differ) in
    let second : stands t ws b ≡ true = grind (arith, nat_tests) in
    let both : length (filter (stands t ws) (a ∷ b ∷ [])) ≡ 2 = rw (first, second) refl in
    ap (λ rs. length (filter (stands t ws) (rs ++ a ∷ b ∷ []))) none ∙ both

-- ---- segments

-- where rows are live, a segment stands
some_stands : (segments : List SegmentStat) → 0 < sum (map (λ x. x.live) segments) → (x : SegmentStat) × Contains segments x
some_stands [] some = absurd (omega (arith, some))
some_stands (x ∷ segments) some = (x, (0, omega arith, refl))

live_more : (x : SegmentStat) (xs : List SegmentStat) → sum (map (λ x. x.live) (x ∷ xs)) ≡ x.live + sum (map (λ x. x.live) xs)
live_more x xs = sum-map (λ (x : SegmentStat). x.live) (x ∷ xs) ∙ sum_by-cons (λ (x : SegmentStat). x.live) x xs ∙ ap (λ n. x.live + n) (sym (sum-map (λ (x : SegmentStat). x.live) xs))

falls_less : (a b : List SegmentStat) → LiveRowsFall a b → sum (map (λ x. x.live) b) ≤ sum (map (λ x. x.live) a)
falls_less [] [] f = omega arith
falls_less [] (y ∷ b) f = absurd f
falls_less (x ∷ a) [] f = absurd f
falls_less (x ∷ a) (y ∷ b) f = (let k = f.2 in let m = falls_less a b f.3 in omega (arith, k, m, live_more x a, live_more y b))

-- in the row stand those that stood, with no more live rows, and behind them others with numbers from n on
record Grows (n : ℕ) (old new : List SegmentStat) : Type 0 where
  front : List SegmentStat
  back : List SegmentStat
  is : new ≡ front ++ back
  falls : LiveRowsFall old front
  above : AllFrom n back

falls_same : (a : List SegmentStat) → LiveRowsFall a a
falls_same [] = tt
falls_same (x ∷ a) = (refl, refl, omega arith, falls_same a)

grows_by : (n : ℕ) (old front back new : List SegmentStat) → LiveRowsFall old front → AllFrom n back → LiveRowsFall (front ++ back) new → Grows n old new
grows_by n old front back new falls above further =
    let parts = apart front back new further in record {
      front = parts.0;
      back = parts.1;
      is = parts.2;
      falls = falls_on old front parts.0 falls parts.3;
      above = from_fall n back parts.1 parts.4 above;
    }

grows_step : (n : ℕ) (old : List SegmentStat) (s new : Standing) → Steps s new → n ≤ s.next_segment → Grows n old s.stat.segments
    → Grows n old new.stat.segments
grows_step n old s new step low g = elim step.is [
  | inl same ↦
      grows_by n old g.front g.back new.stat.segments g.falls g.above (subst (λ m. LiveRowsFall m new.stat.segments) (same ∙ g.is) step.falls)
  | inr one ↦
      grows_by n old g.front (g.back ++ one.0 ∷ []) new.stat.segments g.falls
      (from_added n g.back one.0 (let e = one.1 in omega (arith, e, low)) g.above)
      (subst (λ m. LiveRowsFall m new.stat.segments) (one.2 ∙ ap (λ xs. xs ++ one.0 ∷ []) g.is ∙ append_assoc g.front g.back (one.0 ∷ [])) step.falls)
]

-- where more rows are live than were, one of those others stands
other_stands : (n : ℕ) (old new : List SegmentStat) → Grows n old new → sum (map (λ x. x.live) old) < sum (map (λ x. x.live) new)
    → (x : SegmentStat) × Contains new x × (n ≤ x.number)
other_stands n old new g more = by g.back g.is g.above
  where
    by : (back : List SegmentStat) → new ≡ g.front ++ back → AllFrom n back → (x : SegmentStat) × Contains new x × (n ≤ x.number)
    by [] is above =
        absurd (let k = falls_less old g.front g.falls in
        let m : sum (map (λ x. x.live) new) ≡ sum (map (λ x. x.live) g.front) = ap (λ xs. sum (map (λ x. x.live) xs)) (is ∙ append-nil g.front) in
        omega (arith, k, m, more))
    by (x ∷ back) is above =
        (x, subst (λ xs. Contains xs x) (sym is) (Contains-append_right g.front (x ∷ back) x (0, omega arith, refl)), above.0)

-- ---- cached sets

abbrev none_cached : Cache
none_cached = record { sets = []; noted = []; making = None }

no_pair : {X : Type 0} (front back : List X) (x : X) → front ++ (x ∷ back) ≡ [] → ⊥
no_pair [] back x e = cc
no_pair (y ∷ front) back x e = cc

none_used : (q : Query) (old new : List (Query × ℕ)) → UsesSetsOf q old new → old ≡ [] → new ≡ []
none_used q _ _ (UsesSetsOf.none sets) e = e
none_used q _ _ (UsesSetsOf.one n front back new rest) e = absurd (no_pair front back (q, n) e)

first_noted : (q : Query) (new : List Query) → NotesQuery q [] new → new ≡ q ∷ []
first_noted q new (inl (within, same)) = absurd (let k : within.0 < 0 = within.1 in omega arith)
first_noted q new (inr (none, same)) = same

in_none : {X : Type 0} (xs : List X) (x : X) → xs ≡ [] → Contains xs x → ⊥
in_none xs x e (k, within, is) = let n = ap length e in omega (arith, within, n)

-- the query alone is noted, these sets are cached, and none is in the making
abbrev noting : Query → List (Query × ℕ) → Cache
noting q sets = record { sets = sets; noted = q ∷ []; making = None }

-- what a search with OK makes of no cached set
first_found : (q : Query) (a : Answer) (old new : Cache) → old ≡ none_cached → SearchMoves q (Ok a) old new → new ≡ noting q []
first_found q a old new none moves =
    let so : SearchMoves q (Ok a) none_cached new = subst (λ c. SearchMoves q (Ok a) c new) none moves in
    let sets = none_used q [] new.sets so.0 refl in
    let noted = first_noted q new.noted so.1 in
    ap (λ ps. record new { sets = ps }) sets ∙ ap (λ qs. record new { sets = []; noted = qs }) noted ∙ ap (λ m. record { sets = []; noted = q ∷ []; making = m }) so.2

-- ---- how the service stands behind the lines

module _ (always : Type 0) (factor least : ℕ) (from : Opened) where
  abbrev Goes : Run → Standing → Exchange → Standing → Type 0
  Goes past s e mid = HasReason always factor least from past s e mid

  steps_so : (past : Run) (s : Standing) (e : Exchange) (new : Standing) → (e.reply ≡ Ok (Answer.news News.done) → ⊥) → Goes past s e new → Steps s new
  steps_so past s e new undone h = steps always factor least from past s e new undone h

  numbered_on : (n : ℕ) (r : Reply) → r ≡ Ok (Answer.number n) → r ≡ Ok (Answer.news News.done) → ⊥
  numbered_on n r is k = absurd (let no : ◌≡◌ {A = Reply} (Ok (Answer.number n)) (Ok (Answer.news News.done)) = sym is ∙ k in cc)

  -- behind the four lines the query is noted, no set is cached, and nothing waits
  record HasFound (t : PutAndFound) (opened s : Standing) : Type 0 where
    cache : s.cache ≡ noting t.query []
    waits : s.stat.buffered ≡ 0
    below : AllBelow opened.next_segment opened.stat.segments → AllBelow s.next_segment s.stat.segments

  behind : (t : PutAndFound) (e : Exchange) (opened last : Standing) (rest : Run) → opened.cache ≡ none_cached
      → HaveReasons always factor least from [] opened (put_and_found t (e ∷ rest)) last
      → (s mid : Standing) × HasFound t opened s × Goes (put_and_found t []) s e mid × HaveReasons always factor least from (put_and_found t (e ∷ [])) mid rest last
  behind t e opened last rest none (a, put, (b, refreshed, (c, opens, (d, found, (f, here, more))))) =
      let empty : b.stat.buffered ≡ 0 = refreshed.moves.flushed (Ok []) (Answer.number t.refreshed.1) (inl refl) refl in (
        d,
        f,
        record {
          cache = first_found t.query (Answer.found t.found.1) c.cache d.cache (opens.moves.cache ∙ refreshed.moves.cache ∙ put.moves.cache ∙ none) found.moves.cache;
          waits = (let k = opens.moves.waits in let m = found.moves.waits in omega (arith, empty, k, m));
          below = λ all.
              below_step c d (steps_so _ c _ d (λ k. absurd (cc k)) found)
              (below_step b c (steps_so _ b _ c (numbered_on t.opened.1 _ refl) opens)
              (below_step a b (steps_so _ a _ b (numbered_on t.refreshed.1 _ refl) refreshed)
              (below_step opened a (steps_so _ opened _ a (numbered_on t.put.1 _ refl) put) all)));
        },
        here,
        more,
      )

  -- a segment stands, and a set is missing
  no_idle : (t : PutAndFound) (opened s mid : Standing) → HasFound t opened s → (session : ℕ) → Goes (put_and_found t []) s (warmed session News.idle) mid → ⊥
  no_idle t opened s mid has session h =
      let k = h.items in
      let waits = has.waits in
      let some = put_stands from.start t.item in
      let one = some_stands s.stat.segments (omega (arith, k, waits, some)) in
      h.moves.cache.1 (t.query, one.0) (
        subst (λ (c : Cache). Contains c.noted t.query) (sym has.cache) (0, omega arith, refl),
        one.1,
        in_none s.cache.sets (t.query, one.0.number) (ap (λ (c : Cache). c.sets) has.cache),
      )

  none_counted : (t : PutAndFound) (opened s mid : Standing) → HasFound t opened s → (session : ℕ) (told : Stat)
      → Goes (put_and_found t []) s (was_told session (Command.chore Chore.stat) (Answer.news (News.state told))) mid → told.cached ≡ 0
  none_counted t opened s mid has session told h =
      let same : told ≡ record s.stat { cached = length s.cache.sets } = (let k = h.told in cc) in
      ap (λ (x : Stat). x.cached) same ∙ ap (λ (c : Cache). length c.sets) has.cache

  -- ---- once a set was stored, and another item was put

  -- a set stands for one segment of before, and one for another is missing
  no_idle_again : (t : PutAndFound) (sessions : ℕ × ℕ) (other : Item) (put refreshed : ℕ × ℕ) (session : ℕ) (opened s last : Standing) (rest : Run)
      → from.start.records ≡ [] → same_text other.id t.item.id ≡ false → HasFound t opened s → AllBelow s.next_segment s.stat.segments
      → HaveReasons always factor least from (put_and_found t []) s (set_and_put sessions other put refreshed (warmed session News.idle ∷ rest)) last → ⊥
  no_idle_again t sessions other put refreshed session opened s last rest none differ has below (a, begun, (b, stored, (c, puts, (d, writes, (e, idle, more))))) =
      -- the set that was made
      let made = begun.moves.cache in
      let p = made.0 in
      let its : t.query ≡ p.0 = in_one t.query p.0 (subst (λ (k : Cache). Contains k.noted p.0) has.cache made.2.0) in
      let in_making : a.cache.making ≡ Some ((p.0, p.1.number), record { passed = 0; rows = p.1.rows }) = ap (λ (k : Cache). k.making) made.3 in
      let w = stored.moves.cache in
      let pair : w.0.0 ≡ (p.0, p.1.number) = (let k = sym w.1 ∙ in_making in cc) in
      let before : a.cache.sets ≡ [] = ap (λ (k : Cache). k.sets) (made.3) ∙ ap (λ (k : Cache). k.sets) has.cache in
      let sets : d.cache.sets ≡ (p.0, p.1.number) ∷ [] =
      ap (λ (k : Cache). k.sets) (writes.moves.cache ∙ puts.moves.cache ∙ w.3) ∙ ap (λ ps. take 64 (w.0.0 ∷ ps)) before ∙ ap (λ x. x ∷ []) pair in
      let noted : d.cache.noted ≡ t.query ∷ [] =
      ap (λ (k : Cache). k.noted) (writes.moves.cache ∙ puts.moves.cache ∙ w.3) ∙ ap (λ (k : Cache). k.noted) made.3 ∙ ap (λ (k : Cache). k.noted) has.cache in
      -- the segments
      let n = s.next_segment in
      let start : Grows n s.stat.segments s.stat.segments = record { front = s.stat.segments; back = []; is = sym (append-nil s.stat.segments); falls = falls_same s.stat.segments; above = tt } in
      let one = steps_so _ s _ a (λ k. absurd (cc k)) begun in
      let two = steps_so _ a _ b (λ k. absurd (cc k)) stored in
      let three = steps_so _ b _ c (numbered_on put.1 _ refl) puts in
      let four = steps_so _ c _ d (numbered_on refreshed.1 _ refl) writes in
      let grown : Grows n s.stat.segments d.stat.segments =
      grows_step n s.stat.segments c d four (let x = one.next in let y = two.next in let z = three.next in omega (arith, x, y, z))
      (grows_step n s.stat.segments b c three (let x = one.next in let y = two.next in omega (arith, x, y))
      (grows_step n s.stat.segments a b two one.next (grows_step n s.stat.segments s a one (omega arith) start))) in
      -- one more is live
      let empty : d.stat.buffered ≡ 0 = writes.moves.flushed (Ok []) (Answer.number refreshed.1) (inl refl) refl in
      let then_one = begun.items in
      let now_two = idle.items in
      let a_table = one_stands from.start t.item none in
      let two_table = two_stand from.start t.item other none differ in
      let waits = has.waits in
      let further = other_stands n s.stat.segments d.stat.segments grown (omega (arith, then_one, now_two, a_table, two_table, waits, empty)) in
      let low : p.1.number < n = below_found n s.stat.segments p.1 below made.2.1 in
      idle.moves.cache.1 (t.query, further.0) (
        subst (λ qs. Contains qs t.query) (sym noted) (0, omega arith, refl),
        further.1,
        λ there.
            let same = in_one (p.0, p.1.number) (t.query, further.0.number) (subst (λ ps. Contains ps (t.query, further.0.number)) sets there) in
            (let k = ap (λ (x : Query × ℕ). x.1) same in let m = further.2 in omega (arith, k, m, low)),
      )

-- ---- of a call

module _ (json : Json) {D : Type 0} (kind : DirectoryKind D) where
  reasons_so : (device left : D) (first : Text) (lines : List Text) (text : Text) (c : IsCausedIn json kind device left first lines text) (run : Run)
      → filter_map exchange c.served.fitting ≡ run
      → HaveReasons (TellsAlways kind) c.factor c.least c.served.from [] c.opened run c.last
  reasons_so device left first lines text c run is =
      subst (λ r. HaveReasons (TellsAlways kind) c.factor c.least c.served.from [] c.opened r c.last) is c.reasons

  pub missing_sets : MissingSetsAreTold json kind
  missing_sets = record {
    warm = λ device left first lines text c t session rest is.
        let so = behind (TellsAlways kind) c.factor c.least c.served.from t (warmed session News.idle) c.opened c.last rest
        c.begins.cache (reasons_so device left first lines text c _ is) in
        no_idle (TellsAlways kind) c.factor c.least c.served.from t c.opened so.0 so.1 so.2 session so.3;
    stat = λ device left first lines text c t session told rest is.
        let so = behind (TellsAlways kind) c.factor c.least c.served.from t (was_told session (Command.chore Chore.stat) (Answer.news (News.state told))) c.opened c.last rest
        c.begins.cache (reasons_so device left first lines text c _ is) in
        none_counted (TellsAlways kind) c.factor c.least c.served.from t c.opened so.0 so.1 so.2 session told so.3;
    again = λ device left first lines text c empty none t sessions other put refreshed session rest differ is.
        let so = behind (TellsAlways kind) c.factor c.least c.served.from t (warmed sessions.0 News.begun_warming) c.opened c.last
        (warmed sessions.1 News.stored ∷ was_numbered put (Command.put (Ok other)) ∷ was_numbered refreshed Command.refresh ∷ warmed session News.idle ∷ rest)
        c.begins.cache (reasons_so device left first lines text c _ is) in
        no_idle_again (TellsAlways kind) c.factor c.least c.served.from t sessions other put refreshed session c.opened so.0 c.last rest empty differ so.2
        (so.2.below (subst (AllBelow c.opened.next_segment) (sym none) tt)) (so.1, so.3, so.4);
  }
