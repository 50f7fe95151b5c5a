-- A ledger that is opened on no commit, and the files of one that is opened on a commit.
use Rattle.std.proofs.Common.{◌≡◌, ◌≢◌, ◌<◌, List, [], ◌∷◌, ◌++◌, length, map, true, false, sym, ◌∙◌, ap, ap₂, subst, arith}
use Rattle.std.specs.Prelude.{option_to_list}
use Rattle.std.specs.List.{AllByRecursion}
use Rattle.cat_model.specs.Item.{Record}
use Rattle.cat_model.specs.State.{newest_told, commit_now, IsSound}
use Rattle.cat_ledger_laws.specs.model.Portions.{Portion, records_of, all_records, Apart, IsMerging}
use Rattle.cat_ledger_laws.specs.model.Ledger.{Listed, IsPutRecord, AreWhole, IsWholeView, IsWholeCommit, IsAlone, state_of, table_of, view_shown, commit_shown}
use Rattle.cat_ledger_laws.specs.model.Stored.{IsStored, IsCommitStored, IsMergeStored}
use Rattle.cat_ledger_laws.specs.model.Laws.{EmptyAreFresh, OpenedStore}
use Rattle.cat_ledger_laws.proofs.model.Alone.{nobody_alone}

pub empty_are_fresh : EmptyAreFresh
empty_are_fresh l its told =
    let rows : all_records l.portions ++ l.buffered ≡ [] = ap₂ (λ (a : List Portion) (b : List Record). all_records a ++ b) its.portions its.buffered in
    let table : table_of l ≡ [] = ap₂ (λ (a : List Portion) (b : List Record). records_of a ++ b) its.portions its.buffered in
    let whole : AreWhole l.schema l.count l.portions = subst (AreWhole l.schema l.count) (sym its.portions) (record { portions = record { lengths = tt; numbers = tt }; rows = tt; rising = tt; ids = tt }) in
    let one_view : map view_shown l.views ≡ record { token = l.count; table = table_of l } ∷ [] =
    ap (map view_shown) its.views ∙ (λ i. record { token = l.count; table = (ap records_of its.portions ∙ sym table) i } ∷ []) in (
      record {
        portions = whole.portions;
        views = subst (AllByRecursion (IsWholeView l.schema l.count)) (sym its.views) ((omega arith, whole), tt);
        commits = subst (AllByRecursion (IsWholeCommit l.schema l.count)) (sym its.commits) tt;
        generations = subst (Apart (λ c d. c.generation < d.generation)) (sym its.commits) tt;
        rows = subst (AllByRecursion (IsPutRecord l.schema l.count)) (sym rows) tt;
        rising = subst (Apart (λ r s. r.number < s.number)) (sym rows) tt;
        ids = subst (Apart (λ r s. r.item.id ≢ s.item.id)) (sym table) tt;
        sound = subst (λ vs. IsSound vs l.holds) (sym one_view) (subst (IsSound (record { token = l.count; table = table_of l } ∷ [])) (sym its.holds) (record { some_view = omega arith; held = λ t h. absurd (let no : false ≡ true = h in cc) }));
        merging = subst (IsMerging l.portions) (sym its.merging) tt;
        alone = subst (λ o. IsAlone o l.portions l.views l.commits) (sym its.merging) (nobody_alone l.portions l.views l.commits);
        users = told.users;
        fresh = told.fresh;
        numbers = told.numbers;
        fits = told.fits;
      },
      record {
        is_start = λ schema. record {
          rising = λ i j d less within. absurd (let k : j < 0 = subst (λ rs. j < length rs) table within in omega arith);
          positive = λ k d within. absurd (let n : k < 0 = subst (λ rs. k < length rs) table within in omega arith);
          seen = λ k d within. absurd (let n : k < 0 = subst (λ rs. k < length rs) table within in omega arith);
          distinct = λ i j d less within. absurd (let k : j < 0 = subst (λ rs. j < length rs) table within in omega arith);
        };
        one_view = one_view;
        no_hold = its.holds;
        commits = ap (map commit_shown) its.commits ∙ sym (ap (λ cs. map (commit_now (state_of l)) (option_to_list (newest_told (map commit_shown cs)))) its.commits);
        no_snapshot = its.taken;
      },
      table,
    )

pub opened_store : OpenedStore
opened_store c l fs its ok =
    let portions : AllByRecursion (IsStored fs l.schema) l.portions = subst (AllByRecursion (IsStored fs l.schema)) (sym its.portions) (of_listed c.listed ok.portions) in
    record {
      portions = portions;
      views = subst (AllByRecursion (λ v. AllByRecursion (IsStored fs l.schema) v.portions)) (sym its.views) (portions, tt);
      commits = subst (AllByRecursion (IsCommitStored fs l.schema)) (sym its.commits) (ok, tt);
      merging = subst (IsMergeStored fs) (sym its.merging) tt;
    }
  where
    of_listed : (xs : List Listed) → AllByRecursion (λ x. IsStored fs l.schema x.portion) xs → AllByRecursion (IsStored fs l.schema) (map (λ (x : Listed). x.portion) xs)
    of_listed [] a = tt
    of_listed (x ∷ xs) a = (a.0, of_listed xs a.1)
