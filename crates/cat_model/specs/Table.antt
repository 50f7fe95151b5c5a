-- The table at a moment, from the list of accepted writes: what Lucene's DirectoryReader.open(IndexWriter) shows, every
-- write before and none after. IndexWriter.updateDocument deletes and then adds, so an item that is put again goes last.
-- That writes are numbered one after another, without gaps, is our own.
use Rattle.std.specs.Prelude.{ℕ, ◌+◌, ◌-◌, ◌≤◌, ◌<◌, Bool, not, ◌&&◌, ltb, leb, List, [], ◌∷◌, ◌++◌, length, take, filter, filter_map, Option, Some, None, All, AllPairs, ◌≢◌}
use Rattle.std.specs.List.{list_any}
use Rattle.cat_model.specs.Text.{Text}
use Rattle.cat_model.specs.Item.{Schema, Record}
use Rattle.cat_model.specs.Write.{Write, removes}

-- what a run begins with: the fields, and the table of the opened commit with its token, which is how many writes came
-- before it; where no commit was opened, no record and 0
pub record Start : Type 0 where
  pub schema : Schema
  pub records : List Record
  pub token : ℕ

-- what a commit is told by: its generation, and the text that it was given (IndexCommit.getGeneration, getUserData)
pub record CommitText : Type 0 where
  pub generation : ℕ
  pub text : Text

-- how a service is opened: the start, and the opened commit, if there is one. No read depends on it.
pub record Opened : Type 0 where
  pub start : Start
  pub commit : Option CommitText

-- the numbers rise, are at least 1 and at most the token, and the ids differ
pub record IsStart (start : Start) : Type 0 where
  pub rising : AllPairs (λ a b. a.number < b.number) start.records
  pub positive : All (λ r. 1 ≤ r.number) start.records
  pub seen : All (λ r. r.number ≤ start.token) start.records
  pub distinct : AllPairs (λ a b. a.item.id ≢ b.item.id) start.records

-- a write with its number
pub record Numbered : Type 0 where
  pub number : ℕ
  pub write : Write

-- the writes with their numbers: the k-th of them, from 1, has the token's number plus k
abbrev pub numbered : ℕ → List Write → List Numbered
numbered token [] = []
numbered token (w ∷ ws) = record { number = token + 1; write = w } ∷ numbered (token + 1) ws

-- the record that a write makes
abbrev pub record_of : ℕ → Write → Option Record
record_of n (Write.put i) = Some (record { number = n; item = i })
record_of n _ = None

-- the record that a numbered write makes
abbrev pub put_by : Numbered → Option Record
put_by w = record_of w.number w.write

-- the write is one after the record, up to the token t, that takes it out
abbrev pub replaces : ℕ → Record → Numbered → Bool
replaces t r w = ltb r.number w.number && leb w.number t && removes w.write r.item

-- the record was put up to the token t, and no later write up to t takes it out
abbrev pub stands : ℕ → List Numbered → Record → Bool
stands t ws r = leb r.number t && not (list_any (replaces t r) ws)

-- the table at the token t
abbrev pub table : Start → List Write → ℕ → List Record
table start writes t =
    filter (stands t (numbered start.token writes)) (start.records ++ filter_map (λ w. record_of w.number w.write) (numbered start.token writes))

-- the records that the write leaves
abbrev pub without : List Record → Write → List Record
without rs w = filter (λ r. not (removes w r.item)) rs

-- the record that the write makes, if any, comes last
abbrev pub put_last : List Record → ℕ → Write → List Record
put_last rs n (Write.put i) = rs ++ record { number = n; item = i } ∷ []
put_last rs n (Write.delete id) = rs
put_last rs n (Write.delete_where q) = rs

-- the table after the write of number n
abbrev pub after : List Record → ℕ → Write → List Record
after rs n w = put_last (without rs w) n w

-- how many writes there were, those before the start counted
abbrev pub count : Start → List Write → ℕ
count start writes = start.token + length writes

-- the writes that are numbered up to t
abbrev pub writes_up_to : Start → List Write → ℕ → List Write
writes_up_to start writes t = take (t - start.token) writes
