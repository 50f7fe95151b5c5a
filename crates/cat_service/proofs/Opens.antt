-- What a directory opens with, in the model's words.
use Rattle.std.proofs.Common.{ℕ, List, sym, subst, inl, inr}
use Rattle.std.specs.Prelude.{Result, Ok, Err}
use Rattle.cat_base.specs.declared.refusal.Refusal.{Refusal}
use Rattle.cat_model.specs.Item.{Record, Schema}
use Rattle.cat_model.specs.Opens.{BeginsAtNewest, BeginsFrom, HoldsRecords, OpensFrom}
use Rattle.cat_model.specs.Restored.{Restored}
use Rattle.cat_model.specs.Served.{Begins}
use Rattle.cat_model.specs.Table.{Opened}
use Rattle.cat_model.specs.Text.{Text}
use Rattle.cat_model.specs.Told.{IsNewestTold, ToldByName}
use Rattle.cat_model.specs.View.{Leaf}
use Rattle.cat_items.specs.Reading.{json}
use Rattle.cat_directory.specs.Names.{file_of}
use Rattle.cat_commands.specs.cat_ledger_state.startup.Newest.{IsNewestCommit}
use Rattle.cat_ledger_laws.specs.model.Ledger.{portions_in}
use Rattle.cat_ledger_laws.specs.shape.Ties.{ToldFiles}
use Rattle.cat_ledger_laws.proofs.lines.Held.{held_records, stored_portions}
use Rattle.cat_service.specs.Opening.{BeginsAtCommit, BeginsIn, HoldsTable, OpensIn}

-- what a device tells, by the model's names
abbrev pub named : ToldFiles → ToldByName
named told q = told (file_of q)

pub newest_named : (told : ToldFiles) (g : ℕ) → IsNewestCommit told g → IsNewestTold (named told) g
newest_named told g n = record { there = n.there; greatest = n.greatest }

-- the table that the files of a commit hold
held_table : (told : ToldFiles) (schema : Schema) (r : Restored) (records : List Record) → HoldsTable told schema r records
    → HoldsRecords (named told) (record { schema = schema; leaves = r.leaves; token = r.commit.token }) records
held_table told schema r records t =
    let stored = stored_portions told t.files t.agrees schema t.commit.listed t.stored.portions in
    let held = held_records told t.files t.agrees schema r.commit.token (portions_in t.commit) stored in
    subst (λ (leaves : List Leaf). HoldsRecords (named told) (record { schema = schema; leaves = leaves; token = r.commit.token }) records) t.leaves
    (subst (HoldsRecords (named told) _) (sym t.table) held)

begins_at_newest : (told : ToldFiles) (schema : Schema) (from : Opened) → BeginsAtCommit told schema from → BeginsAtNewest (named told) schema from
begins_at_newest told schema from b = record {
  generation = b.generation;
  newest = newest_named told b.generation b.newest;
  commit = b.restored.commit;
  held = record { leaves = b.restored.leaves; held = b.held; table = held_table told schema b.restored from.start.records b.table };
  fields = b.fields;
  token = b.token;
  text = b.commit;
}

opens_from : (told : ToldFiles) (schema : Schema) (r : Result Opened Refusal) → OpensIn told schema r → OpensFrom (named told) schema r
opens_from told schema (Ok from) (inl b) = inl (begins_at_newest told schema from b)
opens_from told schema (Ok from) (inr e) = inr e
opens_from told schema (Err e) (inl memory) = inl memory
opens_from told schema (Err e) (inr (inl device)) = inr (inl device)
opens_from told schema (Err e) (inr (inr (inl d))) =
    inr (inr (inl (d.0, record { generation = d.1.generation; newest = newest_named told d.1.generation d.1.newest; lost = d.1.lost; own = d.1.own })))
opens_from told schema (Err e) (inr (inr (inr f))) =
    inr (inr (inr (f.0, record { generation = f.1.generation; newest = newest_named told f.1.generation f.1.newest; foreign = f.1.foreign })))

-- How a line opens a directory, in the model's words.
pub begins_from : (told : ToldFiles) (line : Text) (r : Result Opened Refusal) → BeginsIn told line r → BeginsFrom json (named told) line r
begins_from told line r (Begins.opened f l text schema r' readable a is opens) = Begins.opened f l text schema r readable a is (opens_from told schema r opens)
begins_from told line _ (Begins.no_schema f l text e readable a is) = Begins.no_schema f l text e readable a is
begins_from told line _ (Begins.formless none) = Begins.formless none
