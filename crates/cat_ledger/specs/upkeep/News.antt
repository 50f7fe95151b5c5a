-- What steps of maintenance tell.
use Rattle.cat_model.specs.Run as model
use Rattle.cat_ledger.specs.declared.upkeep.news.MergeNews.{MergeNews}
use Rattle.cat_ledger.specs.declared.upkeep.news.MergeNews.TheVariants.{Idle, Busy, Begun, Copied, Done}

-- what a step of a merge tells, in the words of replies
abbrev pub news_of : MergeNews → model.News
news_of Idle = model.News.idle
news_of Busy = model.News.busy
news_of (Begun k) = model.News.begun_merge k
news_of (Copied n) = model.News.copied n
news_of Done = model.News.done
