-- What a read for items may be told, and what it is owed.
use Rattle.std.specs.Prelude.{◌≡◌, ◌⊎◌, List, Option, Some, None, Result, Err, IfErr}
use Rattle.cat_base.specs.declared.refusal.Refusal.{Refusal}
use Rattle.cat_base.specs.declared.refusal.Refusal.TheVariants.{Memory}
use Rattle.cat_model.specs.Answer.{Found, Read, answer, query_refusal}
use Rattle.cat_model.specs.Item.{Record}
use Rattle.cat_model.specs.Run.{Reply, found_reply, or_not_held}
use Rattle.cat_model.specs.View.{Shows, View}
use Rattle.cat_ledger_laws.specs.lines.ReadLaws.{ReadFinds}

-- what a read may be told, over the view that is held, or where none is
abbrev pub MayTell : Option View → Read → Reply → Type 0
MayTell None asked r = (r ≡ or_not_held (query_refusal asked)) ⊎ (r ≡ Err Memory)
MayTell (Some view) asked r = ((found : Result Found Refusal) × ReadFinds view asked found × (r ≡ found_reply found)) ⊎ (r ≡ Err Memory)

-- whatever records the view shows, the refusal that the read is due over them is given
abbrev pub GivesDue : {X : Type 0} → View → Read → Result X Refusal → Type 0
GivesDue view asked given = (rs : List Record) → Shows view rs → IfErr (answer view.schema rs asked) (λ e. given ≡ Err e)
