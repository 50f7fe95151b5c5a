use Rattle.std.proofs.Common.{◌≢◌, List, sym, ap, ap₂, ◌∙◌, subst}
use Rattle.std.specs.Prelude.{AllPairs}
use Rattle.std.proofs.lemmas.Result.{IfOk-from_err}
use Rattle.cat_ledger_laws.specs.shape.Shapes.{ListedLive}
use Rattle.cat_commits.specs.writing.Entries.{index_of, listing_after}
use Rattle.cat_commits.specs.writing.Unsynced.{unsynced_in}
use Rattle.cat_commits.proofs.writing.listing.Listing.next_with_unsynced.Goals as goal

-- the numbers of entries differ
abbrev Apart : List ListedLive → Type 0
Apart xs = AllPairs (λ (a b : ListedLive). a.number ≢ b.number) xs

pub indices_of-requires : goal.indices_of-requires
indices_of-requires c = subst Apart (sym (c.deref.ensures.value ∙ c.self.view_is)) c.requires.apart

pub entries_next-requires : goal.entries_next-requires
entries_next-requires c = record {
  apart = subst Apart (sym (c.deref-2.ensures.value ∙ c.self.view_is)) c.requires.apart;
  indexed = λ n. c.in_ok-indices.ensures n ∙ ap (index_of n) (c.deref.ensures.value ∙ sym c.deref-2.ensures.value);
  some = c.requires.some;
}

pub unsynced_names-requires : goal.unsynced_names-requires
unsynced_names-requires c = record {
  indexed = λ n. c.in_ok-indices.ensures n ∙ ap (index_of n) (c.deref.ensures.value ∙ sym c.deref-3.ensures.value);
  some = c.requires.some;
}

pub returns-in_err-indices : goal.returns-in_err-indices
returns-in_err-indices c = record {
  ok = IfOk-from_err _ _ c.from_residual.ensures.0;
  rows = IfOk-from_err _ _ c.from_residual.ensures.0;
  unsynced = IfOk-from_err _ _ c.from_residual.ensures.0;
}

pub returns-in_err-entries : goal.returns-in_err-entries
returns-in_err-entries c = record {
  ok = IfOk-from_err _ _ c.from_residual-in_err-entries.ensures.0;
  rows = IfOk-from_err _ _ c.from_residual-in_err-entries.ensures.0;
  unsynced = IfOk-from_err _ _ c.from_residual-in_err-entries.ensures.0;
}

pub returns-in_err-unsynced : goal.returns-in_err-unsynced
returns-in_err-unsynced c = record {
  ok = IfOk-from_err _ _ c.from_residual-in_err-unsynced.ensures.0;
  rows = IfOk-from_err _ _ c.from_residual-in_err-unsynced.ensures.0;
  unsynced = IfOk-from_err _ _ c.from_residual-in_err-unsynced.ensures.0;
}

pub returns : goal.returns
returns c = record {
  ok = c.in_ok-entries.ensures.ok ∙ ap (λ (xs : List ListedLive). listing_after xs c.args.generation c.args.leaves.now) (c.deref-2.ensures.value ∙ c.self.view_is);
  rows = c.in_ok-entries.ensures.rows;
  unsynced = c.in_ok-unsynced.ensures
      ∙ ap₂ (λ (xs ys : List ListedLive). unsynced_in xs c.args.generation ys) (c.deref-3.ensures.value ∙ c.self.view_is) c.deref-4.ensures.value;
}
