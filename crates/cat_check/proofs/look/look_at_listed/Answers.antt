use Rattle.cat_commits.proofs.Frames.{reads_on}
use Rattle.cat_check.proofs.look.look_at_listed.Goals as goal

pub returns-in_err-_sources : goal.returns-in_err-_sources
returns-in_err-_sources g c = record { frame = reads_on c.look_at_segment-looked.ensures.frame c.look_at_sources-looked.ensures.frame }

pub returns-in_err-live : goal.returns-in_err-live
returns-in_err-live g c = record { frame = reads_on (reads_on c.look_at_segment-looked.ensures.frame c.look_at_sources-looked.ensures.frame) c.look_at_live.ensures.frame }

pub returns-in_default-2 : goal.returns-in_default-2
returns-in_default-2 g c = record { frame = reads_on (reads_on c.look_at_segment-looked.ensures.frame c.look_at_sources-looked.ensures.frame) c.look_at_live.ensures.frame }

pub returns-in_err-segment-2 : goal.returns-in_err-segment-2
returns-in_err-segment-2 g c = record { frame = reads_on (reads_on c.look_at_segment-looked.ensures.frame c.look_at_sources-looked.ensures.frame) c.look_at_live.ensures.frame }

pub returns-in_err-live-2 : goal.returns-in_err-live-2
returns-in_err-live-2 g c = record { frame = reads_on (reads_on c.look_at_segment-looked.ensures.frame c.look_at_sources-looked.ensures.frame) c.look_at_live.ensures.frame }

pub returns : goal.returns
returns g c = record { frame = reads_on (reads_on c.look_at_segment-looked.ensures.frame c.look_at_sources-looked.ensures.frame) c.look_at_live.ensures.frame }
