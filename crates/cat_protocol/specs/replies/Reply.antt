-- What a reply means.
use Rattle.std.specs.Prelude.{map, option_map, Result, Ok, Err}
use Rattle.cat_base.specs.declared.refusal.Refusal.{Refusal}
use Rattle.cat_model.specs.Answer as model
use Rattle.cat_model.specs.Run as run
use Rattle.cat_directory.specs.Names.{file_text}
use Rattle.cat_protocol.specs.declared.replies.answer.Answer.{Answer}
use Rattle.cat_protocol.specs.declared.replies.answer.Answer.TheVariants.{Number, Found, Counts, Source, Names, CommitText, News as Tells}
use Rattle.cat_protocol.specs.declared.replies.news.News.{News}
use Rattle.cat_protocol.specs.declared.replies.news.News.TheVariants.{Idle, Busy, BegunMerge, Copied, Done, BegunWarming, Warmed, Stored, Swept, State}
use Rattle.cat_protocol.specs.declared.replies.news.Stat.{Stat}
use Rattle.cat_protocol.specs.declared.replies.news.SegmentStat.{SegmentStat}

-- how a segment stands
abbrev pub segment_stat_of : SegmentStat → run.SegmentStat
segment_stat_of s = record { number = s.number; rows = s.rows; live = s.live }

-- how the service stands
abbrev pub stat_of : Stat → run.Stat
stat_of s = record {
  writes = s.writes;
  buffered = s.buffered;
  views = s.views;
  cached = s.cached;
  pending = s.pending;
  segments = map segment_stat_of s.segments.items;
}

-- what maintenance tells
abbrev pub news_in_reply : News → run.News
news_in_reply Idle = run.News.idle
news_in_reply Busy = run.News.busy
news_in_reply (BegunMerge k) = run.News.begun_merge k
news_in_reply (Copied r) = run.News.copied r
news_in_reply Done = run.News.done
news_in_reply BegunWarming = run.News.begun_warming
news_in_reply (Warmed r) = run.News.warmed r
news_in_reply Stored = run.News.stored
news_in_reply (Swept n) = run.News.swept n
news_in_reply (State stat) = run.News.state (stat_of stat)

-- what stands behind OK
abbrev pub answer_of : Answer → run.Answer
answer_of (Number n) = run.Answer.number n
answer_of (Found page) = run.Answer.found (model.Found.page page)
answer_of (Counts facets) = run.Answer.found (model.Found.facets facets)
answer_of (Source bytes) = run.Answer.found (model.Found.source (option_map (λ b. b.items) bytes))
answer_of (Names names) = run.Answer.names (map file_text names.items)
answer_of (CommitText text) = run.Answer.commit_text text
answer_of (Tells news) = run.Answer.news (news_in_reply news)

-- an answer, or a refusal
abbrev pub reply_of : Result Answer Refusal → run.Reply
reply_of (Ok a) = Ok (answer_of a)
reply_of (Err e) = Err e
