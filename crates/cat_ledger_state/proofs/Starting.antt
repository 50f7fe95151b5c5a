-- What memory has where no commit is.
use Rattle.std.proofs.Common.{◌≡◌, ℕ, List, [], ◌∷◌, None, ◌∙◌}
use Rattle.cat_model.specs.Item.{Schema, Record}
use Rattle.cat_model.specs.CommitFile.{CommitFile}
use Rattle.cat_model.specs.State.{Taken}
use Rattle.cat_model.specs.View.{Leaf, View}
use Rattle.cat_ledger_laws.specs.model.Users.{Used}
use Rattle.cat_ledger_laws.specs.shape.Shapes.{ListedLive}
use Rattle.cat_ledger_laws.specs.shape.OpeningLaws.{empty_at}
use Rattle.cat_lifetimes.specs.records.Records.{Records}

-- a view of nothing alone
pub nothing_recorded : (schema schema' : Schema) (leaves : List Leaf) (v : View) (r : Records) → schema' ≡ schema → leaves ≡ []
    → v ≡ record { schema = schema'; leaves = leaves; token = 0 } → r ≡ record { views = v ∷ []; holds = [] }
    → r ≡ record { views = record { schema = schema; leaves = []; token = 0 } ∷ []; holds = [] }
nothing_recorded schema schema' leaves v r same none is one =
    let seen : v ≡ record { schema = schema; leaves = []; token = 0 } = is ∙ (λ i. record { schema = same i; leaves = none i; token = 0 }) in
    one ∙ (λ i. record { views = seen i ∷ []; holds = [] })

pub nothing_is : (schema : Schema) (users : List Used) (n g : ℕ) (leaves : List Leaf) (buffered : List Record) (r : Records) (commits : List CommitFile)
    (listed : List ListedLive) (taken : List Taken) → leaves ≡ [] → buffered ≡ []
    → r ≡ record { views = record { schema = schema; leaves = []; token = 0 } ∷ []; holds = [] } → commits ≡ [] → listed ≡ [] → taken ≡ []
    → record {
      schema = schema;
      leaves = leaves;
      buffered = buffered;
      count = 0;
      views = r.views;
      holds = r.holds;
      commits = commits;
      listed = listed;
      taken = taken;
      merging = None;
      users = users;
      next_segment = n;
      next_generation = g;
    }
    ≡ empty_at schema users n g
nothing_is schema users n g leaves buffered r commits listed taken no_leaf none one no_commit no_list no_snapshot = λ i. record {
  schema = schema;
  leaves = no_leaf i;
  buffered = none i;
  count = 0;
  views = (one i).views;
  holds = (one i).holds;
  commits = no_commit i;
  listed = no_list i;
  taken = no_snapshot i;
  merging = None;
  users = users;
  next_segment = n;
  next_generation = g;
}
