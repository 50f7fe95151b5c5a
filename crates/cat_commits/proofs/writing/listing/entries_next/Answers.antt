use Rattle.std.proofs.lemmas.Result.{IfOk-from_err}
use borrow.Author.Count.{below_more}
use Rattle.std.proofs.Common.{◌≡◌, ℕ, ◌+◌, ◌<◌, ◌≤◌, List, [], ◌∷◌, ◌++◌, length, map, get_or, sym, ap, ap₂, ◌∙◌, subst, arith}
use Rattle.std.proofs.lemmas.List.{get_or_read, map_more, take_all}
use Rattle.cat_model.specs.Limits.{row_limit}
use Rattle.cat_model.specs.View.{Leaf}
use Rattle.cat_ledger_laws.specs.shape.Shapes.{ListedLive}
use Rattle.cat_commits.specs.writing.Entries.{listed_after}
use Rattle.cat_commits.proofs.writing.listing.entries_next.Goals as goal

-- the number of rows of a leaf is one that a segment can have
abbrev HasRows : Leaf → Type 0
HasRows leaf = (1 ≤ length leaf.live) × (length leaf.live ≤ row_limit)

-- of one leaf more
rows_more : (leaves : List Leaf) (i : ℕ) (leaf : Leaf) → i < length leaves → leaf ≡ get_or leaves i leaf → HasRows leaf
    → ((k : ℕ) (d : Leaf) → k < i → HasRows (get_or leaves k d)) → (k : ℕ) (d : Leaf) → k < i + 1 → HasRows (get_or leaves k d)
rows_more leaves i leaf within is here below k d lt =
    below_more (λ (j : ℕ). HasRows (get_or leaves j d)) i (λ j less. below j d less) (subst HasRows (get_or_read leaves i leaf within is d) here) k lt

pub loop-leaf-preserved : goal.loop-leaf-preserved
loop-leaf-preserved c = record {
  made = c.in_ok-push.ensures.items
      ∙ ap₂ (λ (l : List ListedLive) (x : ListedLive). l ++ x ∷ []) c.loop-leaf.invariant.made
      (c.in_ok-listed_next.ensures.ok ∙ ap (listed_after c.args.earlier.now c.args.generation) c.leaf-item.is)
      ∙ sym (map_more (listed_after c.args.earlier.now c.args.generation) c.args.leaves.now c.loop-leaf.leaf-index c.leaf-item.result c.loop-leaf-test.true);
  rows = rows_more c.args.leaves.now c.loop-leaf.leaf-index c.leaf-item.result c.loop-leaf-test.true c.leaf-item.is c.listed_next.ensures.rows c.loop-leaf.invariant.rows;
}

pub returns : goal.returns
returns c = record {
  ok = c.loop-leaf.invariant.made ∙ ap (map (listed_after c.args.earlier.now c.args.generation)) (take_all c.loop-leaf.leaf-index c.args.leaves.now c.loop-leaf-test.false);
  rows = λ k d lt. c.loop-leaf.invariant.rows k d (omega (arith, lt, c.loop-leaf-test.false));
}

pub returns-in_err-entries : goal.returns-in_err-entries
returns-in_err-entries c = record { ok = IfOk-from_err _ _ c.from_residual.ensures.0; rows = IfOk-from_err _ _ c.from_residual.ensures.0 }

pub returns-in_err-listed_next : goal.returns-in_err-listed_next
returns-in_err-listed_next c = record { ok = IfOk-from_err _ _ c.from_residual-in_err-listed_next.ensures.0; rows = IfOk-from_err _ _ c.from_residual-in_err-listed_next.ensures.0 }

pub returns-in_err-push : goal.returns-in_err-push
returns-in_err-push c = record { ok = IfOk-from_err _ _ c.from_residual-in_err-push.ensures.0; rows = IfOk-from_err _ _ c.from_residual-in_err-push.ensures.0 }
