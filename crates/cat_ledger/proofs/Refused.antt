-- What refused calls keep of what memory has: the words of a ledger's contracts from those of the core's.
use Rattle.std.proofs.Common.{◌≡◌, ◌⊎◌, Bool, true, false, List, length, Ok, Err, inl, inr, refl, sym, ◌∙◌, ap, subst}
use Rattle.std.specs.Prelude.{cond, ltb}
use Rattle.std.specs.List.{list_all}
use Rattle.cat_base.specs.declared.refusal.Refusal.{Refusal}
use Rattle.cat_base.specs.declared.refusal.Refusal.TheVariants.{Device, Large, Memory, Kind as WrongKind}
use Rattle.cat_model.specs.Forms.{is_plain_byte}
use Rattle.cat_model.specs.Heard.{commit_text_of}
use Rattle.cat_model.specs.Limits.{commit_text_limit}
use Rattle.cat_model.specs.Text.{Text}
use Rattle.cat_model.specs.Files.{Name}
use Rattle.cat_ledger_laws.specs.model.Users.{Used}
use Rattle.cat_ledger_laws.specs.shape.Shapes.{Shape}
use Rattle.cat_ledger_laws.specs.shape.Ties.{ToldFiles}
use Rattle.cat_ledger_state.specs.Cores.{HasEnded, HasFlushed, HasGivenUp, StayKnown}
use Rattle.cat_ledger_state.specs.Installs.{HasFailed}
use Rattle.cat_ledger_state.proofs.Counting.{known_after}
use Rattle.cat_ledger.specs.Refusals.{KeepsMerge, KeepsSegments}

-- ---- names

pub known_same : (us vs : List Used) → vs ≡ us → StayKnown us vs
known_same us vs same = subst (StayKnown us) (sym same) (λ q there. there)

pub known_on : (us vs ws : List Used) → StayKnown us vs → StayKnown vs ws → StayKnown us ws
known_on us vs ws first second q there = second q (first q there)

-- ---- a flush, and a call that gave up

pub given_up_merging : (begun : List Name) (told told' : ToldFiles) (s new : Shape) → HasGivenUp begun told s told' new → new.merging ≡ s.merging
given_up_merging begun told told' s new (inl k) = ap (λ x. x.merging) k.0
given_up_merging begun told told' s new (inr k) = ap (λ x. x.merging) k.0.rest

pub given_up_leaves : (begun : List Name) (told told' : ToldFiles) (s new : Shape) → HasGivenUp begun told s told' new → new.leaves ≡ s.leaves
given_up_leaves begun told told' s new (inl k) = ap (λ x. x.leaves) k.0
given_up_leaves begun told told' s new (inr k) = ap (λ x. x.leaves) k.0.rest

pub given_up_buffered : (begun : List Name) (told told' : ToldFiles) (s new : Shape) → HasGivenUp begun told s told' new
    → new.buffered ≡ s.buffered
given_up_buffered begun told told' s new (inl k) = ap (λ x. x.buffered) k.0
given_up_buffered begun told told' s new (inr k) = ap (λ x. x.buffered) k.0.rest

pub flushed_merging : (told told' : ToldFiles) (s new : Shape) → HasFlushed told s told' new → new.merging ≡ s.merging
flushed_merging told told' s new (inl k) = ap (λ x. x.merging) k.1
flushed_merging told told' s new (inr k) = ap (λ x. x.merging) k.0.rest

pub flushed_known : (told told' : ToldFiles) (s new : Shape) → HasFlushed told s told' new → StayKnown s.users new.users
flushed_known told told' s new (inl k) = known_same s.users new.users (ap (λ x. x.users) k.1)
flushed_known told told' s new (inr k) = known_after _ _ s.users new.users k.0.users

-- ---- the merge in the making goes on

pub nothing_ends : (s : Shape) → KeepsMerge s s
nothing_ends s = record { merging = refl; known = λ q there. there }

-- also behind a call that refused and changed nothing
pub goes_on : (s mid new : Shape) → mid.merging ≡ s.merging → StayKnown s.users mid.users → new ≡ mid → KeepsMerge s new
goes_on s mid new merging known same = subst (KeepsMerge s) (sym same) (record { merging = merging; known = known })

-- or gave up
pub goes_on_behind : (begun : List Name) (told told' : ToldFiles) (s mid new : Shape) → mid.merging ≡ s.merging → StayKnown s.users mid.users
    → HasGivenUp begun told mid told' new → StayKnown mid.users new.users → KeepsMerge s new
goes_on_behind begun told told' s mid new merging known left still = record {
  merging = given_up_merging begun told told' mid new left ∙ merging;
  known = known_on s.users mid.users new.users known still;
}

-- ---- nothing is flushed

pub nothing_flushed : (s : Shape) → KeepsSegments s s
nothing_flushed s = record { leaves = refl; buffered = refl; known = λ q there. there }

pub given_up_segments : (begun : List Name) (told told' : ToldFiles) (s new : Shape) → HasGivenUp begun told s told' new
    → StayKnown s.users new.users → KeepsSegments s new
given_up_segments begun told told' s new left known = record {
  leaves = given_up_leaves begun told told' s new left;
  buffered = given_up_buffered begun told told' s new left;
  known = known;
}

pub ended_segments : (told told' : ToldFiles) (s new : Shape) → HasEnded told s told' new → KeepsSegments s new
ended_segments told told' s new k = record {
  leaves = ap (λ x. x.leaves) k.ended.rest;
  buffered = ap (λ x. x.buffered) k.ended.rest;
  known = known_after _ _ s.users new.users k.ended.users;
}

pub failed_segments : (told told' : ToldFiles) (s new : Shape) → HasFailed told s told' new → StayKnown s.users new.users → KeepsSegments s new
failed_segments told told' s new k known = record {
  leaves = ap (λ x. x.leaves) k.left.rest ∙ ap (λ x. x.leaves) k.ended.rest;
  buffered = ap (λ x. x.buffered) k.left.rest ∙ ap (λ x. x.buffered) k.ended.rest;
  known = known;
}

-- ---- a commit's text

-- what is wrong with one is no want of memory, and no failure
pub no_want : (t : Text) (e : Refusal) → commit_text_of t ≡ Err e → (e ≡ Memory) ⊎ (e ≡ Device) → ⊥
no_want t e is want = by (ltb commit_text_limit (length t)) (list_all is_plain_byte t) is want
  where
    by : (long plain : Bool) → cond long (Err Large) (cond plain (Ok t) (Err WrongKind)) ≡ Err e → (e ≡ Memory) ⊎ (e ≡ Device) → ⊥
    by true plain is (inl so) = absurd (let no : Large ≡ Memory = cc in cc)
    by true plain is (inr so) = absurd (let no : Large ≡ Device = cc in cc)
    by false true is want = absurd (let no : Ok t ≡ Err e = is in cc)
    by false false is (inl so) = absurd (let no : WrongKind ≡ Memory = cc in cc)
    by false false is (inr so) = absurd (let no : WrongKind ≡ Device = cc in cc)
