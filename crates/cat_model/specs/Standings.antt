-- How a service stands between two lines: what a STAT would tell, how far a merge is, which sets of rows are cached, which numbers come next,
-- how many failures its directory has counted, and which generations were tried. By it each refusal that stands in place of an OK has its
-- cause, and what maintenance tells is so.
use Rattle.std.specs.Prelude.{◌≡◌, ◌⊎◌, ℕ, ◌+◌, ◌-◌, ◌*◌, ◌<◌, ◌≤◌, min, Bool, true, false, List, [], ◌∷◌, ◌++◌, length, map, take, drop, sum, All, Contains, option_to_list, Option, Some, None, IfSome, Result, Ok, Err, IsOk}
use Rattle.cat_base.specs.declared.refusal.Refusal.{Refusal}
use Rattle.cat_base.specs.declared.refusal.Refusal.TheVariants.{Damaged, Device, Memory, Spent}
use Rattle.cat_model.specs.Text.{IsOneLine, Text}
use Rattle.cat_model.specs.Answer.{Read, stored}
use Rattle.cat_model.specs.Limits.{buffer_limit, last_number, noted_limit, row_limit, segment_limit, set_limit, step_limit}
use Rattle.cat_model.specs.Query.{Query}
use Rattle.cat_model.specs.Run.{Answer, Chore, Command, Exchange, News, Reply, Run, SegmentStat, Stat, accepted_by, may_refuse, now, view_tokens, writes}
use Rattle.cat_model.specs.Promised.{refuses_commit}
use Rattle.cat_model.specs.Table.{Opened, table}
use Rattle.cat_model.specs.Window.{IsWindow}
use Rattle.cat_model.specs.Told.{CountsOne}

-- how many rows a merge in the making, or a set, has passed, and of how many
pub record Progress : Type 0 where
  pub passed : ℕ
  pub rows : ℕ

-- The sets of rows that are cached, each by its query and the number of its segment, the last used first; the queries that sets are made for,
-- the oldest first; and the set in the making.
pub record Cache : Type 0 where
  pub sets : List (Query × ℕ)
  pub noted : List Query
  pub making : Option ((Query × ℕ) × Progress)

-- What a STAT would tell, with no cached set; the merge in the making, by the number that its segment takes; the cached sets; the numbers of the
-- next segment and of the next commit; the failures that the directory has counted; and the generations that COMMITs tried which were refused.
pub record Standing : Type 0 where
  pub stat : Stat
  pub merging : Option (ℕ × Progress)
  pub cache : Cache
  pub next_segment : ℕ
  pub next_generation : ℕ
  pub failures : ℕ
  pub tried : List ℕ

-- how many rows each of its segments has, deleted ones counted
abbrev pub segment_rows : Standing → List ℕ
segment_rows s = map (λ x. x.rows) s.stat.segments

-- ---- refusals

-- something waits, and no number is left for its segment, or as many segments stand as may
abbrev pub HasNoRoom : Standing → Type 0
HasNoRoom s = (0 < s.stat.buffered) × ((last_number < s.next_segment) ⊎ (segment_limit ≤ length s.stat.segments))

-- a MERGE is to begin a merge: none is in the making, and the policy of this factor and minimum picks segments
abbrev pub IsToMerge : (factor least : ℕ) → Standing → Type 0
IsToMerge factor least s = (s.merging ≡ None) × (index : ℕ) × IsWindow factor least (segment_rows s) (Some index)

-- so is a FORCE: none is in the making, and one segment can hold the rows of all
abbrev pub IsToForce : Standing → Type 0
IsToForce s = (s.merging ≡ None) × (0 < length s.stat.segments) × (sum (segment_rows s) ≤ row_limit)

-- A number or a limit is spent that the command asks for. A PUT asks for the number of the write, and where as many items wait as may, for
-- room, as a REFRESH and a COMMIT do; a COMMIT asks for a generation too; a MERGE and a FORCE that are to begin a merge ask for the number of
-- its segment. Of another command the run says when it is told that a number is spent.
abbrev pub IsSpentFor : (factor least : ℕ) → Standing → Command → Type 0
IsSpentFor factor least s (Command.put item) = (last_number ≤ s.stat.writes) ⊎ ((buffer_limit ≤ s.stat.buffered) × HasNoRoom s)
IsSpentFor factor least s Command.refresh = HasNoRoom s
IsSpentFor factor least s (Command.commit text) = (last_number < s.next_generation) ⊎ HasNoRoom s
IsSpentFor factor least s (Command.chore Chore.merge) = IsToMerge factor least s × (last_number < s.next_segment)
IsSpentFor factor least s (Command.chore Chore.force) = IsToForce s × (last_number < s.next_segment)
IsSpentFor factor least s c = Unit {0}

-- A file is damaged. On directories that always tell of their files none is, so that a GET finds what was stored: but text that has a line
-- feed isn't told. A MERGE has rows left to pass, and isn't told so there. The first argument says whether directories always tell of their
-- files.
abbrev pub IsDamagedFor : Type 0 → Opened → Run → Standing → Command → Type 0
IsDamagedFor always from past s (Command.read t (Read.get (Ok id))) = always → IfSome (stored (table from.start (writes past) t) id) IsOneLine → ⊥
IsDamagedFor always from past s (Command.chore Chore.merge) = (always → ⊥) × (m : ℕ × Progress) × (s.merging ≡ Some m) × (m.1.passed < m.1.rows)
IsDamagedFor always from past s c = Unit {0}

-- ---- news

-- A MERGE had nothing to do; it began the merge of the segments that the policy picks, with none of their rows passed; it passed more rows of
-- the one in the making; or it ended that. The last argument is the merge in the making that it leaves.
abbrev pub MergeTells : (factor least : ℕ) → Standing → News → Option (ℕ × Progress) → Type 0
MergeTells factor least s News.idle new = (s.merging ≡ None) × IsWindow factor least (segment_rows s) None × (new ≡ None)
MergeTells factor least s (News.begun_merge k) new = (to : IsToMerge factor least s) × (k ≡ factor)
    × (new ≡ Some (s.next_segment, record { passed = 0; rows = sum (take k (drop to.1 (segment_rows s))) }))
MergeTells factor least s (News.copied n) new = (m : ℕ × Progress) × (s.merging ≡ Some m) × (m.1.passed < m.1.rows)
    × (n ≡ m.1.passed + min step_limit (m.1.rows - m.1.passed)) × (new ≡ Some (m.0, record m.1 { passed = n }))
MergeTells factor least s News.done new = (m : ℕ × Progress) × (s.merging ≡ Some m) × (m.1.passed ≡ m.1.rows) × (new ≡ None)
MergeTells factor least s n new = ⊥

-- a FORCE had nothing to do, a merge is in the making, or it began that of all segments
abbrev pub ForceTells : Standing → News → Option (ℕ × Progress) → Type 0
ForceTells s News.idle new = (s.merging ≡ None) × (2 ≤ length s.stat.segments → sum (segment_rows s) ≤ row_limit → ⊥) × (new ≡ None)
ForceTells s News.busy new = (m : ℕ × Progress) × (s.merging ≡ Some m) × (new ≡ Some m)
ForceTells s (News.begun_merge k) new = IsToForce s × (k ≡ length s.stat.segments)
    × (new ≡ Some (s.next_segment, record { passed = 0; rows = sum (segment_rows s) }))
ForceTells s n new = ⊥

-- What a line makes of the merge in the making: a MERGE and a FORCE tell what they did, and a refused MERGE may give it up; no other line
-- begins, moves or ends it, whatever it is told.
abbrev pub MergeMoves : (factor least : ℕ) → Standing → Command → Reply → Option (ℕ × Progress) → Type 0
MergeMoves factor least s (Command.chore Chore.merge) (Ok (Answer.news n)) new = MergeTells factor least s n new
MergeMoves factor least s (Command.chore Chore.merge) (Err e) new = (new ≡ s.merging) ⊎ (new ≡ None)
MergeMoves factor least s (Command.chore Chore.force) (Ok (Answer.news n)) new = ForceTells s n new
MergeMoves factor least s c reply new = new ≡ s.merging

-- What is told is so: a COMMIT tells the generation that comes next, a SWEEP how many files nobody needs, and a STAT how the service stands,
-- with how many sets are cached. What a MERGE and a FORCE tell is said by what they make of the merge, and what a WARM tells by what it makes
-- of the sets.
abbrev pub IsToldOf : Standing → Command → Reply → Type 0
IsToldOf s (Command.commit text) (Ok (Answer.number g)) = g ≡ s.next_generation
IsToldOf s (Command.chore Chore.sweep) (Ok (Answer.news n)) = n ≡ News.swept s.stat.pending
IsToldOf s (Command.chore Chore.stat) (Ok (Answer.news n)) = n ≡ News.state (record s.stat { cached = length s.cache.sets })
IsToldOf s c reply = Unit {0}

-- ---- cached sets

-- a set is missing: its query is noted, its segment stands, and no set is cached for both
abbrev pub IsMissing : Standing → Query × SegmentStat → Type 0
IsMissing s p = Contains s.cache.noted p.0 × Contains s.stat.segments p.1 × (Contains s.cache.sets (p.0, p.1.number) → ⊥)

-- A WARM had nothing to do; it began a set that is missing; it passed more rows of the one in the making, and some are left; or it passed
-- all that were left: then that set comes first, and the last goes where there are too many.
abbrev pub WarmTells : Standing → News → Cache → Type 0
WarmTells s News.idle new = (s.cache.making ≡ None) × ((p : Query × SegmentStat) → IsMissing s p → ⊥) × (new ≡ s.cache)
WarmTells s News.begun_warming new = (p : Query × SegmentStat) × (s.cache.making ≡ None) × IsMissing s p
    × (new ≡ record s.cache { making = Some ((p.0, p.1.number), record { passed = 0; rows = p.1.rows }) })
WarmTells s (News.warmed n) new = (w : (Query × ℕ) × Progress) × (s.cache.making ≡ Some w) × (n ≡ w.1.passed + step_limit) × (n < w.1.rows)
    × (new ≡ record s.cache { making = Some (w.0, record w.1 { passed = n }) })
WarmTells s News.stored new = (w : (Query × ℕ) × Progress) × (s.cache.making ≡ Some w) × (w.1.rows ≤ w.1.passed + step_limit)
    × (new ≡ record s.cache { sets = take set_limit (w.0 ∷ s.cache.sets); making = None })
WarmTells s n new = ⊥

-- sets of the query were used, one after another: each comes first from then on
pub data UsesSetsOf (q : Query) : (old new : List (Query × ℕ)) → Type 0 where
  none : (sets : List (Query × ℕ)) → UsesSetsOf q sets sets
  one : (n : ℕ) (front back new : List (Query × ℕ)) → UsesSetsOf q ((q, n) ∷ (front ++ back)) new → UsesSetsOf q (front ++ (q, n) ∷ back) new

-- the query was noted: one that is noted already keeps its place, another comes last, and the first goes where there are too many
abbrev pub NotesQuery : Query → (old new : List Query) → Type 0
NotesQuery q old new = (Contains old q × (new ≡ old)) ⊎ ((Contains old q → ⊥) × (new ≡ drop (length old + 1 - noted_limit) (old ++ q ∷ [])))

-- a FIND or a FACETS of the query used sets of it, and where it was answered, the query was noted
abbrev pub SearchMoves : Query → Reply → (old new : Cache) → Type 0
SearchMoves q (Ok a) old new = UsesSetsOf q old.sets new.sets × NotesQuery q old.noted new.noted × (new.making ≡ old.making)
SearchMoves q (Err e) old new = UsesSetsOf q old.sets new.sets × (new.noted ≡ old.noted) × (new.making ≡ old.making)

-- the segment of the set in the making stands, if one is in the making
abbrev pub HasSegmentMade : Standing → Cache → Type 0
HasSegmentMade s cache = IfSome cache.making (λ w. Contains (map (λ x. x.number) s.stat.segments) w.0.1)

-- What a line makes of the cached sets. A MERGE gives up the set in the making where its segment stands no more; and no line but a FIND, a
-- FACETS, a WARM and a MERGE changes anything.
abbrev pub CacheMoves : Standing → Command → Reply → Standing → Type 0
CacheMoves s (Command.read t (Read.find n sort mark (Ok q))) reply new = SearchMoves q reply s.cache new.cache
CacheMoves s (Command.read t (Read.facets dim n (Ok q))) reply new = SearchMoves q reply s.cache new.cache
CacheMoves s (Command.chore Chore.warm) (Ok (Answer.news n)) new = WarmTells s n new.cache
CacheMoves s (Command.chore Chore.merge) reply new = ((new.cache ≡ s.cache) × (IsOk reply → HasSegmentMade new s.cache))
    ⊎ ((new.cache ≡ record s.cache { making = None }) × (HasSegmentMade new s.cache → ⊥))
CacheMoves s c reply new = new.cache ≡ s.cache

-- ---- from one line to the next

-- the same segments, in which no more rows are live than were
abbrev pub LiveRowsFall : (old new : List SegmentStat) → Type 0
LiveRowsFall [] [] = Unit {0}
LiveRowsFall (x ∷ xs) (y ∷ ys) = (y.number ≡ x.number) × (y.rows ≡ x.rows) × (y.live ≤ x.live) × LiveRowsFall xs ys
LiveRowsFall xs ys = ⊥

-- Why the segments change, but for rows that are live no more: told `done`, some that stand side by side, with the rows of the merge, become
-- one at most, under its number and with no more rows; told anything else they stay, or one more comes last, of all that waited where some did,
-- under a number of its own.
abbrev pub SegmentsMove : Standing → Reply → List SegmentStat → (next : ℕ) → Type 0
SegmentsMove s (Ok (Answer.news News.done)) mid next = (m : ℕ × Progress) × (front taken made back : List SegmentStat)
    × (s.merging ≡ Some m) × (s.stat.segments ≡ front ++ (taken ++ back)) × (mid ≡ front ++ (made ++ back)) × (0 < length taken)
    × (sum (map (λ x. x.rows) taken) ≡ m.1.rows) × (length made ≤ 1) × All (λ x. (x.number ≡ m.0) × (x.rows ≤ m.1.rows)) made
SegmentsMove s reply mid next = (mid ≡ s.stat.segments)
    ⊎ ((0 < s.stat.buffered) × (mid ≡ s.stat.segments ++ record { number = s.next_segment; rows = s.stat.buffered; live = s.stat.buffered } ∷ []) × (next ≡ s.next_segment + 1))

-- a line of the command may begin a file, or let one go
abbrev pub moves_files : Command → Bool
moves_files (Command.read t asked) = false
moves_files (Command.release_snapshot g) = true
moves_files (Command.prune n) = true
moves_files c = may_refuse c Device

-- What a line makes of it, whatever it is told: it takes one number of each kind at most; segments change for a reason, and no row is live
-- that wasn't; behind a REFRESH and a COMMIT with OK nothing waits; nothing waits more than before but an item that was accepted; behind a
-- SWEEP with OK no file waits to be deleted; a line that moves no file takes no number, and as many wait to be deleted as did; at no time do
-- more wait than the numbers name that were given out, two a segment, one a generation and one for each pair; the number of a merge in the
-- making was given out; no failure is forgotten; and a COMMIT that was refused, but not for its text, takes the generation that it tried.
pub record MovesOn (s : Standing) (c : Command) (reply : Reply) (new : Standing) : Type 0 where
  pub segment : (s.next_segment ≤ new.next_segment) × (new.next_segment ≤ s.next_segment + 1)
  pub generation : (s.next_generation ≤ new.next_generation) × (new.next_generation ≤ s.next_generation + 1)
  pub taken : (text : Result Text Refusal) (a : Answer) → c ≡ Command.commit text → reply ≡ Ok a → new.next_generation ≡ s.next_generation + 1
  pub segments : (mid : List SegmentStat) × LiveRowsFall mid new.stat.segments × SegmentsMove s reply mid new.next_segment
  pub flushed : (text : Result Text Refusal) (a : Answer) → (c ≡ Command.refresh) ⊎ (c ≡ Command.commit text) → reply ≡ Ok a → new.stat.buffered ≡ 0
  pub waits : new.stat.buffered ≤ s.stat.buffered + length (option_to_list (accepted_by c reply))
  pub cache : CacheMoves s c reply new
  pub swept : (a : Answer) → c ≡ Command.chore Chore.sweep → reply ≡ Ok a → new.stat.pending ≡ 0
  pub still : moves_files c ≡ false → (new.next_segment ≡ s.next_segment) × (new.next_generation ≡ s.next_generation) × (new.stat.pending ≡ s.stat.pending)
  pub few : s.stat.pending + 2 ≤ s.next_segment * (s.next_generation + 1)
  pub making : IfSome new.merging (λ m. m.0 < new.next_segment)
  pub failures : s.failures ≤ new.failures
  pub tried : (new.tried ≡ s.tried) ⊎ ((refuses_commit c reply ≡ true)
      × (new.tried ≡ s.next_generation ∷ s.tried) × (s.next_generation < new.next_generation))

-- Behind its past, the exchange leads from one standing to the next: its reply has its cause and tells what is so, the merge goes as it tells,
-- and the numbers of writes, of recorded views and of items are those of the run. Want of memory is told only where no failure was counted.
pub record HasReason (always : Type 0) (factor least : ℕ) (from : Opened) (past : Run) (s : Standing) (e : Exchange) (new : Standing) : Type 0 where
  pub spent : e.reply ≡ Err Spent → IsSpentFor factor least s e.line.command
  pub counted : e.reply ≡ Err Device → CountsOne s.failures new.failures
  pub quiet : e.reply ≡ Err Memory → new.failures ≡ s.failures
  pub damaged : e.reply ≡ Err Damaged → IsDamagedFor always from past s e.line.command
  pub told : IsToldOf s e.line.command e.reply
  pub merges : MergeMoves factor least s e.line.command e.reply new.merging
  pub items : s.stat.buffered + sum (map (λ x. x.live) s.stat.segments) ≡ length (table from.start (writes past) (now from.start past))
  pub writes : s.stat.writes ≡ now from.start past
  pub views : s.stat.views ≡ length (view_tokens from.start past)
  pub moves : MovesOn s e.line.command e.reply new

-- so with each exchange of the rest of a run, one after another
abbrev pub HaveReasons : Type 0 → (factor least : ℕ) → Opened → Run → Standing → Run → Standing → Type 0
HaveReasons always factor least from past s [] last = last ≡ s
HaveReasons always factor least from past s (e ∷ rest) last =
    (mid : Standing) × HasReason always factor least from past s e mid × HaveReasons always factor least from (past ++ e ∷ []) mid rest last
