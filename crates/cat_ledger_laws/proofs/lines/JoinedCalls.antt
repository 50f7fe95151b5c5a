-- Parts of commands, one after another.
use Rattle.std.proofs.Common.{◌≡◌, ◌<◌, ◌≤◌, length, ltb, refl, sym, ◌∙◌, ap, subst, inl, inr}
use Rattle.std.specs.Prelude.{◌==◌}
use Rattle.std.specs.List.{list_any}
use Rattle.cat_model.specs.Limits.{buffer_limit}
use Rattle.cat_model.specs.Write.{Write}
use Rattle.cat_model.specs.View.{View}
use Rattle.cat_ledger_laws.specs.model.Calls.{wrote, Flushes, Flushed, RecordsNow, RecordsView, Committed, has_recorded}
use Rattle.cat_ledger_laws.specs.model.Replies.{MakesRoom}
use Rattle.cat_ledger_laws.specs.shape.Shapes.{Shape}
use Rattle.cat_ledger_laws.proofs.shape.Told.{makes_still, makes_of, makes_then}
use Rattle.cat_ledger_laws.specs.lines.JoinLaws.{FlushesRest, FlushesFlush, RoomIsThere, RoomIsMade, PutsMake, ViewsStand, RefreshesMake, FlushedCommitsMake}
use Rattle.cat_ledger_laws.proofs.lines.LineAnswers.{given, denied, below}
use Rattle.cat_ledger_laws.proofs.lines.HoldAnswers.{recorded_as}
use Rattle.cat_ledger_laws.proofs.lines.RefusalAnswers.{not_below}

pub flushes_rest : FlushesRest
flushes_rest told told' s new none still = makes_still Flushes told told' s new still.0 still.1 (λ l e. inl (ap (λ (s : Shape). s.buffered) e ∙ none, refl))

pub flushes_flush : FlushesFlush
flushes_flush told told' s new = makes_of Flushed Flushes told told' s new (λ l l' e k. inr k)

pub room_is_there : RoomIsThere
room_is_there told told' s new few still = makes_still MakesRoom told told' s new still.0 still.1 (λ l e.
    given (Flushed l l) (ltb (length l.buffered) buffer_limit) (below (length l.buffered) buffer_limit (subst (λ (s : Shape). length s.buffered < buffer_limit) (sym e) few)) refl)

pub room_is_made : RoomIsMade
room_is_made told told' s new full = makes_of Flushed MakesRoom told told' s new (λ l l' e k.
    denied (l' ≡ l) (ltb (length l.buffered) buffer_limit) (not_below (length l.buffered) buffer_limit (subst (λ (s : Shape). buffer_limit ≤ length s.buffered) (sym e) full)) k)

pub puts_make : PutsMake
puts_make told told' told'' s mid new i room wrote_it = makes_then MakesRoom (λ l l'. l' ≡ wrote l (Write.put i)) told told' told'' s mid new room wrote_it

pub views_stand : ViewsStand
views_stand told told' s new there still = makes_still RecordsView told told' s new still.0 still.1 (λ l e.
    given (RecordsNow l l) (has_recorded l.views l.count) (recorded_as s l e l.count ∙ ap (λ n. list_any (λ (v : View). v.token == n) s.views) (ap (λ (s : Shape). s.count) e) ∙ there) refl)

pub refreshes_make : RefreshesMake
refreshes_make told told' told'' s mid new = makes_then Flushes RecordsView told told' told'' s mid new

pub flushed_commits_make : FlushedCommitsMake
flushed_commits_make told told' told'' s mid new text = makes_then Flushes (Committed text) told told' told'' s mid new
