-- What merges are told, by the causes of replies.
use Rattle.std.proofs.Common.{zero, suc, ◌≡◌, ℕ, ◌+◌, ◌<◌, ◌≤◌, List, [], ◌∷◌, ◌++◌, Bool, true, false, true≢false, length, map, take, drop, sum, refl, sym, ◌∙◌, ap, subst, arith, inl, inr}
use Rattle.std.specs.Prelude.{◌⊎◌, None, Option, Some, IfSome, Ok, Err, filter_map, count_by}
use Rattle.std.specs.List.{AllByRecursion}
use Rattle.std.proofs.lemmas.List.{length-append, length-map, map-append}
use Rattle.std.proofs.lemmas.List.Elements.{recursion_from_All}
use Rattle.std.proofs.lemmas.List.Sums.{sum_by-cons}
use Rattle.cat_model.specs.CommitFile.{IsListed, ListedSegment}
use Rattle.cat_model.specs.Files.{Name}
use Rattle.cat_model.specs.Heard.{Json}
use Rattle.cat_model.specs.Item.{Schema}
use Rattle.cat_model.specs.Reasons.{IsCausedIn}
use Rattle.cat_model.specs.Restored.{AreLeavesOf}
use Rattle.cat_model.specs.Run.{Answer, Chore, Command, Exchange, News, Reply, Run, SegmentStat, Stat}
use Rattle.cat_model.specs.Served.{exchange}
use Rattle.cat_model.specs.Standings.{HasReason, HaveReasons, LiveRowsFall, MergeMoves, Progress, Standing, segment_rows}
use Rattle.cat_model.specs.Table.{Opened}
use Rattle.cat_model.specs.Text.{Text}
use Rattle.cat_model.specs.Told.{DirectoryKind, MayHave, TellsAlways}
use Rattle.cat_model.specs.View.{Leaf}
use Rattle.cat_model.specs.Window.{IsWindow}
use Rattle.cat_service.proofs.theorem.Growing.{AllBelow, AllFrom, NumbersAreLow, Steps, below_parts, low_behind, steps}
use Rattle.cat_service.specs.theorem.Merges.{HasRows, Is, MergesGoOn, NoneIs, TellsMerges, begins_merge, ends_merge, merge_was_told, numbers_in, passes_rows, stat_was_told}

-- ---- rows and numbers

sum_more : (r : ℕ) (rs : List ℕ) → sum (r ∷ rs) ≡ r + sum rs
sum_more r rs = sum_by-cons (λ (n : ℕ). n) r rs

-- some that stand side by side, but the last of all alone, have rows, where each of the others has
some_rows : (rs b : List ℕ) (k i : ℕ) → AllByRecursion (λ (r : ℕ). 0 < r) rs → length b ≤ 1 → 2 ≤ k → i + k ≤ length (rs ++ b)
    → 0 < sum (take k (drop i (rs ++ b)))
some_rows [] b k i all one two within = absurd (omega (arith, one, two, within))
some_rows (r ∷ rs) b zero i all one two within = absurd (omega (arith, two))
some_rows (r ∷ rs) b (suc k) zero all one two within = let h = all.0 in let m = sum_more r (take k (rs ++ b)) in omega (arith, h, m)
some_rows (r ∷ rs) b (suc k) (suc i) all one two within = some_rows rs b (suc k) i all.1 one two (omega (arith, within))

-- and so have all together
all_rows : (rs b : List ℕ) → AllByRecursion (λ (r : ℕ). 0 < r) rs → 0 < length rs → 0 < sum (rs ++ b)
all_rows [] b all some = absurd (omega (arith, some))
all_rows (r ∷ rs) b all some = let h = all.0 in let m = sum_more r (rs ++ b) in omega (arith, h, m)

rows_each : (segments : List SegmentStat) → AllByRecursion (λ (x : SegmentStat). 0 < x.rows) segments
    → AllByRecursion (λ (r : ℕ). 0 < r) (map (λ (x : SegmentStat). x.rows) segments)
rows_each [] all = tt
rows_each (x ∷ segments) all = (all.0, rows_each segments all.1)

rows_fall : (a b : List SegmentStat) → LiveRowsFall a b → map (λ (x : SegmentStat). x.rows) b ≡ map (λ (x : SegmentStat). x.rows) a
rows_fall [] [] f = refl
rows_fall [] (y ∷ b) f = absurd f
rows_fall (x ∷ a) [] f = absurd f
rows_fall (x ∷ a) (y ∷ b) f = ap (λ n. n ∷ map (λ (z : SegmentStat). z.rows) b) f.1 ∙ ap (λ ns. x.rows ∷ ns) (rows_fall a b f.3)

numbers_fall : (a b : List SegmentStat) → LiveRowsFall a b → map (λ (x : SegmentStat). x.number) b ≡ map (λ (x : SegmentStat). x.number) a
numbers_fall [] [] f = refl
numbers_fall [] (y ∷ b) f = absurd f
numbers_fall (x ∷ a) [] f = absurd f
numbers_fall (x ∷ a) (y ∷ b) f = ap (λ n. n ∷ map (λ (z : SegmentStat). z.number) b) f.0 ∙ ap (λ ns. x.number ∷ ns) (numbers_fall a b f.3)

lengths_fall : (a b : List SegmentStat) → LiveRowsFall a b → length b ≡ length a
lengths_fall [] [] f = refl
lengths_fall [] (y ∷ b) f = absurd f
lengths_fall (x ∷ a) [] f = absurd f
lengths_fall (x ∷ a) (y ∷ b) f = ap (λ n. suc n) (lengths_fall a b f.3)

numbers_below : (n : ℕ) (xs ys : List SegmentStat) → map (λ (x : SegmentStat). x.number) ys ≡ map (λ (x : SegmentStat). x.number) xs → AllBelow n xs → AllBelow n ys
numbers_below n xs [] same all = tt
numbers_below n [] (y ∷ ys) same all = absurd cc
numbers_below n (x ∷ xs) (y ∷ ys) same all =
    let one : y.number ≡ x.number = cc in
    let rest : map (λ (z : SegmentStat). z.number) ys ≡ map (λ (z : SegmentStat). z.number) xs = cc in (
      (let h = all.0 in omega (arith, h, one)),
      numbers_below n xs ys rest all.1,
    )

none_made : (n : ℕ) (made : List SegmentStat) → AllBelow n made → AllFrom n made → length made ≡ 0
none_made n [] low high = refl
none_made n (x ∷ made) low high = absurd (let a = low.0 in let b = high.0 in omega (arith, a, b))

-- ---- what is made of segments

-- Where some with rows are taken, others stand behind it.
module _ (n : ℕ) (ys mid now front taken made back behind : List SegmentStat) (low : AllBelow n ys) (falls : LiveRowsFall mid now)
    (is : now ≡ front ++ (taken ++ back)) (some : 0 < length taken) (rows : 0 < sum (map (λ (x : SegmentStat). x.rows) taken))
    (high : AllFrom n made) (left : LiveRowsFall (front ++ (made ++ back)) behind)
    (same : map (λ (x : SegmentStat). x.number) behind ≡ map (λ (x : SegmentStat). x.number) ys) where
  parts : AllBelow n front × AllBelow n made × AllBelow n back
  parts =
      let all : AllBelow n (front ++ (made ++ back)) = numbers_below n ys (front ++ (made ++ back)) (sym (numbers_fall (front ++ (made ++ back)) behind left) ∙ same) low in
      let one = below_parts n front (made ++ back) all in let two = below_parts n made back one.1 in (one.0, two.0, two.1)

  lengths : length ys ≡ length front + length back
  lengths =
      let a = lengths_fall (front ++ (made ++ back)) behind left in
      let b = ap length same in
      let c = length-map behind (λ (x : SegmentStat). x.number) in
      let d = length-map ys (λ (x : SegmentStat). x.number) in
      let e = length-append front (made ++ back) in
      let f = length-append made back in
      let g = none_made n made parts.1 high in omega (arith, a, b, c, d, e, f, g)

  now_long : length mid ≡ length front + length taken + length back
  now_long =
      let a = lengths_fall mid now falls in
      let b = ap length is in
      let c = length-append front (taken ++ back) in
      let d = length-append taken back in omega (arith, a, b, c, d)

  others_stand : mid ≡ ys → ⊥
  others_stand k = let a = ap length k in let b = lengths in let c = now_long in omega (arith, a, b, c, some)

-- ---- the merge in the making

-- rows that a merge is begun of: those of a window, or of all
abbrev Takes : ℕ → Standing → ℕ → Type 0
Takes factor s rows =
    ((i : ℕ) × (i + factor ≤ length (segment_rows s)) × (rows ≡ sum (take factor (drop i (segment_rows s)))))
    ⊎ (rows ≡ sum (segment_rows s))

-- what a line makes of it, by its kind
data Goes (factor : ℕ) (s : Standing) (c : Command) (r : Reply) (new : Option (ℕ × Progress)) : Type 0 where
  it_stays : begins_merge c r ≡ false → new ≡ s.merging → Goes factor s c r new
  it_begins : s.merging ≡ None → (rows : ℕ) → Takes factor s rows → begins_merge c r ≡ true
      → new ≡ Some (s.next_segment, record { passed = 0; rows = rows }) → Goes factor s c r new
  it_passes : begins_merge c r ≡ false → passes_rows c r ≡ true → (m : ℕ × Progress) (n : ℕ) → s.merging ≡ Some m → m.1.passed < n
      → new ≡ Some (m.0, record m.1 { passed = n }) → Goes factor s c r new
  it_ends : begins_merge c r ≡ false → ends_merge c r ≡ true → new ≡ None → Goes factor s c r new

within : (factor least : ℕ) (sizes : List ℕ) (o : Option ℕ) → IsWindow factor least sizes o → (index : ℕ) → o ≡ Some index → index + factor ≤ length sizes
within factor least sizes o (IsWindow.no_window f) index e = absurd cc
within factor least sizes o (IsWindow.window level i m f) index e = let k : i ≡ index = the e in let h = m.within in omega (arith, k, h)
  where
    the : Some i ≡ Some index → i ≡ index
    the e = cc

goes : (factor least : ℕ) (s : Standing) (c : Command) (r : Reply) (new : Option (ℕ × Progress)) → MergeMoves factor least s c r new → Goes factor s c r new
goes factor least s (Command.chore Chore.merge) (Ok (Answer.news News.idle)) new h = Goes.it_stays refl (h.2 ∙ sym h.0)
goes factor least s (Command.chore Chore.merge) (Ok (Answer.news (News.begun_merge k))) new h =
    Goes.it_begins h.0.0 (sum (take k (drop h.0.1 (segment_rows s))))
    (inl (h.0.1, within factor least (segment_rows s) (Some h.0.1) h.0.2 h.0.1 refl, ap (λ j. sum (take j (drop h.0.1 (segment_rows s)))) h.1)) refl h.2
goes factor least s (Command.chore Chore.merge) (Ok (Answer.news (News.copied n))) new h =
    Goes.it_passes refl refl h.0 n h.1 (let a = h.2 in let b = h.3 in omega (arith, a, b)) h.4
goes factor least s (Command.chore Chore.merge) (Ok (Answer.news News.done)) new h = Goes.it_ends refl refl h.3
goes factor least s (Command.chore Chore.merge) (Ok (Answer.news News.busy)) new h = absurd h
goes factor least s (Command.chore Chore.merge) (Ok (Answer.news News.begun_warming)) new h = absurd h
goes factor least s (Command.chore Chore.merge) (Ok (Answer.news (News.warmed n))) new h = absurd h
goes factor least s (Command.chore Chore.merge) (Ok (Answer.news News.stored)) new h = absurd h
goes factor least s (Command.chore Chore.merge) (Ok (Answer.news (News.swept n))) new h = absurd h
goes factor least s (Command.chore Chore.merge) (Ok (Answer.news (News.state x))) new h = absurd h
goes factor least s (Command.chore Chore.merge) (Err e) new (inl k) = Goes.it_stays refl k
goes factor least s (Command.chore Chore.merge) (Err e) new (inr k) = Goes.it_ends refl refl k
goes factor least s (Command.chore Chore.force) (Ok (Answer.news News.idle)) new h = Goes.it_stays refl (h.2 ∙ sym h.0)
goes factor least s (Command.chore Chore.force) (Ok (Answer.news News.busy)) new h = Goes.it_stays refl (h.2 ∙ sym h.1)
goes factor least s (Command.chore Chore.force) (Ok (Answer.news (News.begun_merge k))) new h =
    Goes.it_begins h.0.0 (sum (segment_rows s)) (inr refl) refl h.2
goes factor least s (Command.chore Chore.force) (Ok (Answer.news (News.copied n))) new h = absurd h
goes factor least s (Command.chore Chore.force) (Ok (Answer.news News.done)) new h = absurd h
goes factor least s (Command.chore Chore.force) (Ok (Answer.news News.begun_warming)) new h = absurd h
goes factor least s (Command.chore Chore.force) (Ok (Answer.news (News.warmed n))) new h = absurd h
goes factor least s (Command.chore Chore.force) (Ok (Answer.news News.stored)) new h = absurd h
goes factor least s (Command.chore Chore.force) (Ok (Answer.news (News.swept n))) new h = absurd h
goes factor least s (Command.chore Chore.force) (Ok (Answer.news (News.state x))) new h = absurd h
goes factor least s _ _ new h = Goes.it_stays refl h

one_merge : (a b : ℕ × Progress) → Some a ≡ Some b → a ≡ b
one_merge a b e = cc

no_merge : {M : Type 0} (m : ℕ × Progress) (o : Option (ℕ × Progress)) → o ≡ None → o ≡ Some m → M
no_merge m o none some = absurd (let no : ◌≡◌ {A = Option (ℕ × Progress)} None (Some m) = sym none ∙ some in cc)

same_progress : (a b : ℕ × Progress) → a ≡ b → (a.0 ≡ b.0) × (a.1.rows ≡ b.1.rows) × (a.1.passed ≡ b.1.passed)
same_progress a b e = (
  ap (λ (x : ℕ × Progress). x.0) e,
  ap (λ (x : ℕ × Progress). x.1.rows) e,
  ap (λ (x : ℕ × Progress). x.1.passed) e,
)

not_both : {M : Type 0} (b : Bool) → b ≡ true → b ≡ false → M
not_both b so other = absurd (true≢false (sym so ∙ other))

-- the merge in the making is this one, and no less of it is passed
abbrev Follows : ℕ × Progress → Standing → Type 0
Follows m s = (k : ℕ × Progress) → s.merging ≡ Some k → (k.0 ≡ m.0) × (k.1.rows ≡ m.1.rows) × (m.1.passed ≤ k.1.passed)

-- it is this one, with just this passed
abbrev Still : ℕ × Progress → Standing → Type 0
Still m s = (k : ℕ × Progress) → s.merging ≡ Some k → k ≡ m

-- one is in the making
abbrev IsMaking : Standing → Type 0
IsMaking s = (m : ℕ × Progress) × (s.merging ≡ Some m)

begun_follows : (m : ℕ × Progress) (s : Standing) → s.merging ≡ Some m → Follows m s
begun_follows m s is k at =
    let e = same_progress k m (one_merge k m (sym at ∙ is)) in let p = e.2 in (e.0, e.1, omega (arith, p))

follows_on : (factor : ℕ) (m : ℕ × Progress) (s new : Standing) (c : Command) (r : Reply) → begins_merge c r ≡ false → Goes factor s c r new.merging → Follows m s → Follows m new
follows_on factor m s new c r none (Goes.it_stays b same) has k is = has k (sym same ∙ is)
follows_on factor m s new c r none (Goes.it_begins idle rows takes b at) has k is = not_both (begins_merge c r) b none
follows_on factor m s new c r none (Goes.it_passes b p w n was more at) has k is =
    let h = has w was in
    let next : ℕ × Progress = (w.0, record w.1 { passed = n }) in
    let e = same_progress k next (one_merge k next (sym is ∙ at)) in
    (e.0 ∙ h.0, e.1 ∙ h.1, (let x = e.2 in let y = h.2 in omega (arith, x, y, more)))
follows_on factor m s new c r none (Goes.it_ends b e at) has k is = no_merge k new.merging at is

still_so : (factor : ℕ) (m : ℕ × Progress) (s new : Standing) (c : Command) (r : Reply) → begins_merge c r ≡ false → passes_rows c r ≡ false
    → Goes factor s c r new.merging → Still m s → Still m new
still_so factor m s new c r none few (Goes.it_stays b same) has k is = has k (sym same ∙ is)
still_so factor m s new c r none few (Goes.it_begins idle rows takes b at) has k is = not_both (begins_merge c r) b none
still_so factor m s new c r none few (Goes.it_passes b p w n was more at) has k is = not_both (passes_rows c r) p few
still_so factor m s new c r none few (Goes.it_ends b e at) has k is = no_merge k new.merging at is

making_on : (factor : ℕ) (s new : Standing) (c : Command) (r : Reply) → ends_merge c r ≡ false → Goes factor s c r new.merging → IsMaking s → IsMaking new
making_on factor s new c r none (Goes.it_stays b same) has = (has.0, same ∙ has.1)
making_on factor s new c r none (Goes.it_begins idle rows takes b at) has = no_merge has.0 s.merging idle has.1
making_on factor s new c r none (Goes.it_passes b p w n was more at) has = ((w.0, record w.1 { passed = n }), at)
making_on factor s new c r none (Goes.it_ends b e at) has = not_both (ends_merge c r) e none

-- what begins a merge
begins_so : (factor : ℕ) (s : Standing) (c : Command) (r : Reply) (new : Option (ℕ × Progress)) → begins_merge c r ≡ true → Goes factor s c r new
    → (s.merging ≡ None) × (rows : ℕ) × Takes factor s rows × (new ≡ Some (s.next_segment, record { passed = 0; rows = rows }))
begins_so factor s c r new so (Goes.it_stays b same) = not_both (begins_merge c r) so b
begins_so factor s c r new so (Goes.it_begins idle rows takes b at) = (idle, rows, takes, at)
begins_so factor s c r new so (Goes.it_passes b p w n was more at) = not_both (begins_merge c r) so b
begins_so factor s c r new so (Goes.it_ends b e at) = not_both (begins_merge c r) so b

-- where segments stand that have rows, and one more at most, a merge that is begun has rows
takes_rows : (factor : ℕ) (s : Standing) (rs b : List ℕ) (rows : ℕ) → 2 ≤ factor → segment_rows s ≡ rs ++ b → length b ≤ 1
    → AllByRecursion (λ (r : ℕ). 0 < r) rs → 0 < length rs → Takes factor s rows → 0 < rows
takes_rows factor s rs b rows two is one all some (inl t) =
    let within : t.0 + factor ≤ length (rs ++ b) = subst (λ xs. t.0 + factor ≤ length xs) is t.1 in
    let more = some_rows rs b factor t.0 all one two within in
    let e : rows ≡ sum (take factor (drop t.0 (rs ++ b))) = t.2 ∙ ap (λ xs. sum (take factor (drop t.0 xs))) is in omega (arith, more, e)
takes_rows factor s rs b rows two is one all some (inr t) =
    let more = all_rows rs b all some in let e : rows ≡ sum (rs ++ b) = t ∙ ap sum is in omega (arith, more, e)

-- the rows behind a line that isn't told `done`
rows_behind : (s new : Standing) → Steps s new → (b : List ℕ) × (length b ≤ 1) × (segment_rows new ≡ segment_rows s ++ b)
rows_behind s new step =
    let fall = rows_fall step.mid new.stat.segments step.falls in elim step.is [
      | inl same ↦ ([], omega arith, fall ∙ ap (map (λ (x : SegmentStat). x.rows)) same ∙ sym (no_more (segment_rows s)))
      | inr k ↦ (k.0.rows ∷ [], omega arith, fall ∙ ap (map (λ (x : SegmentStat). x.rows)) k.2 ∙ map-append (λ (x : SegmentStat). x.rows) s.stat.segments (k.0 ∷ []))
    ]
  where
    no_more : (ns : List ℕ) → ns ++ [] ≡ ns
    no_more [] = refl
    no_more (n ∷ ns) = ap (λ ms. n ∷ ms) (no_more ns)

-- ---- of lines in a row

module _ (always : Type 0) (factor least : ℕ) (from : Opened) where
  abbrev Leads : Run → Standing → Run → Standing → Type 0
  Leads past s run last = HaveReasons always factor least from past s run last

  -- what is kept along some lines is so behind them
  along : (P : Standing → Type 0) (kind : Exchange → Type 0)
      → ((past : Run) (s : Standing) (e : Exchange) (new : Standing) → kind e → HasReason always factor least from past s e new → P s → P new)
      → (between rest past : Run) (s last : Standing) → AllByRecursion kind between → P s → Leads past s (between ++ rest) last
      → (p : Run) × (mid : Standing) × P mid × Leads p mid rest last
  along P kind step [] rest past s last all has h = (past, s, has, h)
  along P kind step (e ∷ between) rest past s last all has (mid, here, more) =
      along P kind step between rest (past ++ e ∷ []) mid last all.1 (step past s e mid all.0 here has) more

  skip : (before rest past : Run) (s last : Standing) → Leads past s (before ++ rest) last → (p : Run) × (mid : Standing) × Leads p mid rest last
  skip [] rest past s last h = (past, s, h)
  skip (e ∷ before) rest past s last (mid, here, more) = skip before rest (past ++ e ∷ []) mid last more

  moves : (past : Run) (s : Standing) (e : Exchange) (new : Standing) → HasReason always factor least from past s e new → Goes factor s e.line.command e.reply new.merging
  moves past s e new h = goes factor least s e.line.command e.reply new.merging h.merges

  -- what a STAT is told
  stat_told : (past : Run) (s new : Standing) (session : ℕ) (stat : Stat) → HasReason always factor least from past s (stat_was_told session stat) new
      → stat ≡ record s.stat { cached = length s.cache.sets }
  stat_told past s new session stat h = let k = h.told in cc

  not_done : (session : ℕ) (stat : Stat) → (stat_was_told session stat).reply ≡ Ok (Answer.news News.done) → ⊥
  not_done session stat is = absurd (cc is)

  copies : (before between rest : Run) (one two n m : ℕ) (opened last : Standing) → NoneIs begins_merge between
      → Leads [] opened (before ++ merge_was_told one (News.copied n) ∷ (between ++ merge_was_told two (News.copied m) ∷ rest)) last → n < m
  copies before between rest one two n m opened last none h =
      let x = skip before (merge_was_told one (News.copied n) ∷ (between ++ merge_was_told two (News.copied m) ∷ rest)) [] opened last h in
      let s = x.1 in
      let a = x.2.0 in
      let t = x.2.1.merges in
      let w : ℕ × Progress = (t.0.0, record t.0.1 { passed = n }) in
      let y = along (Follows w) (λ e. begins_merge e.line.command e.reply ≡ false)
      (λ past q e new other k. follows_on factor w q new e.line.command e.reply other (moves past q e new k))
      between (merge_was_told two (News.copied m) ∷ rest) (x.0 ++ merge_was_told one (News.copied n) ∷ []) a last none (begun_follows w a t.4) x.2.2 in
      let z = y.3.1.merges in
      let low = (y.2 z.0 z.1).2 in
      let left = z.2 in
      let is = z.3 in omega (arith, low, left, is)

  twice : (before between rest : Run) (e f : Exchange) (opened last : Standing) → Is begins_merge e → Is begins_merge f → NoneIs ends_merge between
      → Leads [] opened (before ++ e ∷ (between ++ f ∷ rest)) last → ⊥
  twice before between rest e f opened last starts again none h =
      let x = skip before (e ∷ (between ++ f ∷ rest)) [] opened last h in
      let one = begins_so factor x.1 e.line.command e.reply x.2.0.merging starts (moves x.0 x.1 e x.2.0 x.2.1) in
      let y = along IsMaking (λ k. ends_merge k.line.command k.reply ≡ false)
      (λ past q k new other r. making_on factor q new k.line.command k.reply other (moves past q k new r))
      between (f ∷ rest) (x.0 ++ e ∷ []) x.2.0 last none ((x.1.next_segment, record { passed = 0; rows = one.1 }), one.3) x.2.2 in
      let two = begins_so factor y.1 f.line.command f.reply y.3.0.merging again (moves y.0 y.1 f y.3.0 y.3.1) in
      no_merge y.2.0 y.1.merging two.0 y.2.1

  -- a merge that is begun behind a STAT which tells rows has rows
  begun_rows : (past later : Run) (s a b : Standing) (session : ℕ) (stat : Stat) (e : Exchange) → 2 ≤ factor → HasRows stat → Is begins_merge e
      → HasReason always factor least from past s (stat_was_told session stat) a → HasReason always factor least from later a e b
      → (rows : ℕ) × (0 < rows) × (b.merging ≡ Some (a.next_segment, record { passed = 0; rows = rows }))
  begun_rows past later s a b session stat e two has starts told h =
      let segments : stat.segments ≡ s.stat.segments = ap (λ (x : Stat). x.segments) (stat_told past s a session stat told) in
      let each = rows_each s.stat.segments (subst (AllByRecursion (λ (x : SegmentStat). 0 < x.rows)) segments has.1) in
      let some : 0 < length (segment_rows s) = (let k = has.0 in let m = ap length segments in let l = length-map s.stat.segments (λ (x : SegmentStat). x.rows) in omega (arith, k, m, l)) in
      let one = begins_so factor a e.line.command e.reply b.merging starts (moves later a e b h) in
      let r = rows_behind s a (steps always factor least from past s (stat_was_told session stat) a (not_done session stat) told) in
      (one.1, takes_rows factor a (segment_rows s) r.0 one.1 two r.2 r.1 each some one.2, one.3)

  unpassed : (before between rest : Run) (one two : ℕ) (e : Exchange) (stat : Stat) (opened last : Standing) → 2 ≤ factor → HasRows stat → Is begins_merge e
      → NoneIs begins_merge between → NoneIs passes_rows between
      → Leads [] opened (before ++ stat_was_told one stat ∷ e ∷ (between ++ merge_was_told two News.done ∷ rest)) last → ⊥
  unpassed before between rest one two e stat opened last factors has starts none few h =
      let x = skip before (stat_was_told one stat ∷ e ∷ (between ++ merge_was_told two News.done ∷ rest)) [] opened last h in
      let s = x.1 in
      let a = x.2.0 in
      let b = x.2.2.0 in
      let past = x.0 ++ stat_was_told one stat ∷ [] in
      let r = begun_rows x.0 past s a b one stat e factors has starts x.2.1 x.2.2.1 in
      let m : ℕ × Progress = (a.next_segment, record { passed = 0; rows = r.0 }) in
      let y = along (Still m) (λ k. (begins_merge k.line.command k.reply ≡ false) × (passes_rows k.line.command k.reply ≡ false))
      (λ p q k new other t. still_so factor m q new k.line.command k.reply other.0 other.1 (moves p q k new t))
      between (merge_was_told two News.done ∷ rest) (past ++ e ∷ []) b last (both between none few) (λ k is. one_merge k m (sym is ∙ r.2)) x.2.2.2 in
      let z = y.3.1.merges in
      let is = same_progress z.0 m (y.2 z.0 z.1) in
      let p = is.2 in
      let q = is.1 in
      let all = z.2 in
      let some = r.1 in omega (arith, p, q, all, some)
    where
      both : (run : Run) → NoneIs begins_merge run → NoneIs passes_rows run
          → AllByRecursion (λ (k : Exchange). (begins_merge k.line.command k.reply ≡ false) × (passes_rows k.line.command k.reply ≡ false)) run
      both [] none few = tt
      both (k ∷ run) none few = ((none.0, few.0), both run none.1 few.1)

  any_line : (run : Run) → AllByRecursion (λ (k : Exchange). Unit {0}) run
  any_line [] = tt
  any_line (k ∷ run) = (tt, any_line run)

  -- the merge goes on, and the next number is no lower
  abbrev Behind : ℕ × Progress → ℕ → Standing → Type 0
  Behind m n s = Follows m s × (n ≤ s.next_segment)

  behind_on : (m : ℕ × Progress) (n : ℕ) (past : Run) (s : Standing) (e : Exchange) (new : Standing) → begins_merge e.line.command e.reply ≡ false
      → HasReason always factor least from past s e new → Behind m n s → Behind m n new
  behind_on m n past s e new none h has = (
    follows_on factor m s new e.line.command e.reply none (moves past s e new h) has.0,
    (let a = h.moves.segment.0 in let b = has.1 in omega (arith, a, b)),
  )

  -- no segment comes by a STAT, which takes no number
  none_comes : (s new : Standing) (step : Steps s new) → new.next_segment ≡ s.next_segment → step.mid ≡ s.stat.segments
  none_comes s new step still = elim step.is [
    | inl same ↦ same
    | inr k ↦ absurd (let e = k.3 in omega (arith, e, still))
  ]

  from_number : (n : ℕ) (m : ℕ × Progress) (made : List SegmentStat) → n ≤ m.0
      → AllByRecursion (λ (x : SegmentStat). (x.number ≡ m.0) × (x.rows ≤ m.1.rows)) made → AllFrom n made
  from_number n m [] low all = tt
  from_number n m (x ∷ made) low all = ((let e = all.0.0 in omega (arith, e, low)), from_number n m made low all.1)

  -- of a `done` behind a STAT
  others : (n : ℕ) (m : ℕ × Progress) (p q r : Run) (s t u v : Standing) (two three four : ℕ) (then behind : Stat) → n ≤ m.0 → 0 < m.1.rows → Behind m n s
      → AllBelow n then.segments
      → HasReason always factor least from p s (stat_was_told two then) t → HasReason always factor least from q t (merge_was_told three News.done) u
      → HasReason always factor least from r u (stat_was_told four behind) v → numbers_in behind ≡ numbers_in then → ⊥
  others n m p q r s t u v two three four then behind low rows has below told done stated_last same =
      let ys = stat_told p s t two then told in
      let zs = stat_told r u v four behind stated_last in
      let segments : then.segments ≡ s.stat.segments = ap (λ (x : Stat). x.segments) ys in
      let after : behind.segments ≡ u.stat.segments = ap (λ (x : Stat). x.segments) zs in
      let step = steps always factor least from p s (stat_was_told two then) t (not_done two then) told in
      let k = done.moves.segments in
      let d = k.2 in
      let goes_so = follows_on factor m s t (stat_was_told two then).line.command (stat_was_told two then).reply refl (moves p s (stat_was_told two then) t told) has.0 in
      let its = goes_so d.0 d.5 in
      let taken_rows : 0 < sum (map (λ (x : SegmentStat). x.rows) d.2) = (let a = d.9 in let b = its.1 in omega (arith, a, b, rows)) in
      let high = from_number n d.0 d.3 (let b = its.0 in omega (arith, b, low))
      (recursion_from_All (λ (x : SegmentStat). (x.number ≡ d.0.0) × (x.rows ≤ d.0.1.rows)) d.3 d.11) in
      others_stand n s.stat.segments step.mid t.stat.segments d.1 d.2 d.3 d.4 u.stat.segments
      (subst (AllBelow n) segments below) step.falls d.6 d.8 taken_rows high (subst (λ xs. LiveRowsFall xs u.stat.segments) d.7 k.1)
      (ap (map (λ (x : SegmentStat). x.number)) (sym after) ∙ same ∙ ap (map (λ (x : SegmentStat). x.number)) segments)
      (none_comes s t step (told.moves.still refl).0)

  makes : (before between rest : Run) (one two three four : ℕ) (e : Exchange) (stat then behind : Stat) (opened last : Standing) → 2 ≤ factor
      → NumbersAreLow opened → HasRows stat → Is begins_merge e → NoneIs begins_merge between
      → numbers_in then ≡ numbers_in stat
      → Leads [] opened (before ++ stat_was_told one stat ∷ e ∷ (between ++ stat_was_told two then ∷ merge_was_told three News.done ∷ stat_was_told four behind ∷ rest)) last
      → numbers_in behind ≡ numbers_in then → ⊥
  makes before between rest one two three four e stat then behind opened last factors low has starts none stood h same =
      let x = along NumbersAreLow (λ k. Unit {0}) (λ past s k new any t l. low_behind always factor least from past s k new t l) before
      (stat_was_told one stat ∷ e ∷ (between ++ stat_was_told two then ∷ merge_was_told three News.done ∷ stat_was_told four behind ∷ rest)) [] opened last (any_line before) low h in
      let s = x.1 in
      let a = x.3.0 in
      let b = x.3.2.0 in
      let past = x.0 ++ stat_was_told one stat ∷ [] in
      let n = s.next_segment in
      let r = begun_rows x.0 past s a b one stat e factors has starts x.3.1 x.3.2.1 in
      let m : ℕ × Progress = (a.next_segment, record { passed = 0; rows = r.0 }) in
      let up : n ≤ a.next_segment = x.3.1.moves.segment.0 in
      let further : n ≤ b.next_segment = (let i = x.3.2.1.moves.segment.0 in omega (arith, i, up)) in
      let y = along (Behind m n) (λ k. begins_merge k.line.command k.reply ≡ false) (behind_on m n) between
      (stat_was_told two then ∷ merge_was_told three News.done ∷ stat_was_told four behind ∷ rest) (past ++ e ∷ []) b last none (begun_follows m b r.2, further) x.3.2.2 in
      let below : AllBelow n stat.segments = subst (AllBelow n) (sym (ap (λ (k : Stat). k.segments) (stat_told x.0 s a one stat x.3.1))) x.2.0 in
      let then_told = y.0 ++ stat_was_told two then ∷ [] in
      others n m y.0 then_told (then_told ++ merge_was_told three News.done ∷ []) y.1 y.3.0 y.3.2.0 y.3.2.2.0 two three four then behind up r.1 y.2 (numbers_below n stat.segments then.segments stood below)
      y.3.1 y.3.2.1 y.3.2.2.1 same

  pub tells_merges : (opened last : Standing) (run : Run) → 2 ≤ factor → NumbersAreLow opened → Leads [] opened run last
      → TellsMerges run
  tells_merges opened last run two low h = record {
    copied = λ before between rest one three n m none is. copies before between rest one three n m opened last none (so is);
    begun = λ before between rest e f starts again none is. twice before between rest e f opened last starts again none (so is);
    passed = λ before between rest one three e stat has starts none few is.
        unpassed before between rest one three e stat opened last two has starts none few (so is);
    made = λ before between rest one three four five e stat then behind has starts none stood is same.
        makes before between rest one three four five e stat then behind opened last two low has starts none stood (so is) same;
  }
    where
      so : {told : Run} → run ≡ told → Leads [] opened told last
      so is = subst (λ k. Leads [] opened k last) is h

-- ---- of a call

-- the numbers of segments of a commit are below the next one's
leaves_below : (holds : Name → Text → Type 0) (schema : Schema) (generation next n : ℕ) (xs : List ListedSegment) (leaves : List Leaf)
    → AllByRecursion (IsListed generation next) xs → next ≤ n → AreLeavesOf holds schema xs leaves
    → AllBelow n (map (λ (leaf : Leaf). record { number = leaf.segment.number; rows = length leaf.segment.rows; live = count_by (λ b. b) leaf.live }) leaves)
leaves_below holds schema generation next n [] [] all more are = tt
leaves_below holds schema generation next n [] (leaf ∷ leaves) all more are = absurd are
leaves_below holds schema generation next n (x ∷ xs) [] all more are = absurd are
leaves_below holds schema generation next n (x ∷ xs) (leaf ∷ leaves) all more are = (
  (let e = are.0.number in let p = all.0.past in omega (arith, e, p, more)),
  leaves_below holds schema generation next n xs leaves all.1 more are.1,
)

module _ (json : Json) {D : Type 0} (kind : DirectoryKind D) where
  opened_below : (device left : D) (first : Text) (lines : List Text) (text : Text) (c : IsCausedIn json kind device left first lines text)
      → AllBelow c.opened.next_segment c.opened.stat.segments
  opened_below device left first lines text c = elim c.begins.commit [
    | inl b ↦
        subst (AllBelow c.opened.next_segment) (sym b.segments) (
        leaves_below (MayHave (kind.bytes device)) c.served.from.start.schema b.restored.commit.generation b.restored.commit.next c.opened.next_segment
        b.restored.commit.segments b.restored.leaves
        (recursion_from_All (IsListed b.restored.commit.generation b.restored.commit.next) b.restored.commit.segments b.held.commit.spelled.form.listed)
        (let e = b.next in omega (arith, e)) b.held.leaves
        )
    | inr k ↦ subst (AllBelow c.opened.next_segment) (sym k.1) tt
  ]

  pub merges_go_on : MergesGoOn json kind
  merges_go_on device left first lines text c =
      tells_merges (TellsAlways kind) c.factor c.least c.served.from c.opened c.last (filter_map exchange c.served.fitting)
      (let f = c.policy.factor_low in omega (arith, f)) (opened_below device left first lines text c, subst (λ o. IfSome o (λ m. m.0 < c.opened.next_segment)) (sym c.begins.idle) tt) c.reasons
