-- No call writes to a file whose number was taken, but to those of the merge in the making; nor does one give a number out again.
use Rattle.std.proofs.Common.{◌≡◌, Bool, true, false, Option, Some, None, Ok, refl, sym, ◌∙◌, arith, inl}
use Rattle.std.specs.Prelude.{cond, length, ltb}
use Rattle.cat_model.specs.Item.{Item}
use Rattle.cat_model.specs.Limits.{buffer_limit}
use Rattle.cat_model.specs.Run.{Answer, Chore, Command, News}
use Rattle.cat_model.specs.Text.{Text}
use Rattle.cat_model.specs.Write.{Write}
use Rattle.cat_directory.specs.Devices.{FileContent, NoMore}
use Rattle.cat_directory.specs.Names.{name_of}
use Rattle.cat_directory.specs.declared.name.FileName.{FileName}
use Rattle.cat_ledger_laws.specs.model.Calls.{Flushed}
use Rattle.cat_ledger_laws.specs.model.Ledger.{IsNew, Ledger}
use Rattle.cat_ledger_laws.specs.model.Plans.{MergePolicy}
use Rattle.cat_ledger_laws.specs.model.Replies.{Maintains}
use Rattle.cat_ledger_laws.specs.model.Taking.{TakesOn}
use Rattle.cat_ledger_laws.proofs.model.Taking.{calls_take_on, takes_committed, takes_flush, takes_flushed, takes_none, takes_then, takes_view, takes_write}
use Rattle.cat_ledger_laws.specs.shape.Shapes.{MergingShape, Shape}
use Rattle.cat_ledger_laws.specs.shape.Ties.{Makes, ToldFiles}
use Rattle.cat_ledger_laws.specs.shape.Tried.{IsOfMaking, SparesTaken}
use Rattle.cat_ledger_laws.specs.lines.LineLaws.{Commits, Puts, Refreshes, line_of}
use Rattle.cat_ledger_laws.proofs.lines.Spared.{SparesFilesTaken, made_spares}
use Rattle.cat_ledger_state.specs.Installs.{IsOfMerge}
use Rattle.cat_ledger.specs.Lasting.{IsCarried}

-- ---- numbers

takes_room : (l mid : Ledger) (b : Bool) → cond b (mid ≡ l) (Flushed l mid) → TakesOn l mid
takes_room l mid true k = takes_none l mid k
takes_room l mid false k = takes_flushed l mid k

pub takes_put : (i : Item) (l new : Ledger) → Puts i l new → TakesOn l new
takes_put i l new k = takes_then l k.0 new (takes_room l k.0 (ltb (length l.buffered) buffer_limit) k.1) (takes_write (Write.put i) k.0 new k.2)

pub takes_refresh : (l new : Ledger) → Refreshes l new → TakesOn l new
takes_refresh l new k = takes_then l k.0 new (takes_flush l k.0 k.1) (takes_view k.0 new k.2)

pub takes_commit : (text : Text) (l new : Ledger) → Commits text l new → TakesOn l new
takes_commit text l new k = takes_then l k.0 new (takes_flush l k.0 k.1) (takes_committed text k.0 new k.2)

pub takes_maintain : (policy : MergePolicy) (c : Chore) (n : News) (l new : Ledger) → Maintains policy c n l new → TakesOn l new
takes_maintain policy c n l new k = calls_take_on policy l new (line_of 0 (Command.chore c)) (Ok (Answer.news n)) (inl (n, refl, k))

-- ---- files

-- a file that is none of the merge's in the making
apart_of : (o : Option MergingShape) (q : FileName) → ((m : MergingShape) → o ≡ Some m → IsOfMaking m q → ⊥) → IsOfMerge o q → ⊥
apart_of None q apart of = of
apart_of (Some m) q apart of = apart m refl of

module _ (left left' : FileName → FileContent → Type 0) where
  -- what a crash may leave no more of is spared
  pub files_spared : (s : Shape) → ((q : FileName) → (IsNew s.next_segment s.next_generation (name_of q) → ⊥) → (IsOfMerge s.merging q → ⊥) → NoMore (left q) (left' q))
      → SparesFilesTaken left left' s
  files_spared s crash q old apart e after = inl (crash q old (apart_of s.merging q apart) e after)

  -- so it is behind a call that leaves the numbers and the merge in the making
  pub still_spared : (s new : Shape) → new.next_segment ≡ s.next_segment → new.next_generation ≡ s.next_generation → new.merging ≡ s.merging
      → ((q : FileName) → NoMore (left q) (left' q)) → SparesTaken left left' s new
  still_spared s new segments generations same crash = record {
    files = λ q old apart e after. inl (crash q e after);
    segments = omega (arith, segments);
    generations = omega (arith, generations);
    merging = λ m making. inl (m, sym same ∙ making, refl);
  }

  -- and behind any that the model has
  pub call_spared : (call : Ledger → Ledger → Type 0) → ((l new : Ledger) → call l new → TakesOn l new) → (told told' : ToldFiles) (s new : Shape)
      → Makes call told s told' new → IsCarried told s → SparesFilesTaken left left' s → SparesTaken left left' s new
  call_spared call takes told told' s new makes carried files =
      made_spares left left' call takes told told' s new makes carried.0 carried.1 carried.2 files
