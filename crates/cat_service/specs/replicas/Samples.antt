-- Two services that were made by hand: a replica that goes on from a commit of the other; and what parts two services.
use Rattle.std.specs.Prelude.{◌≡◌, ℕ, ◌≤◌, [], ◌∷◌, ◌++◌, Some, None, Ok, Err}
use Rattle.cat_base.specs.declared.refusal.Refusal.TheVariants.{Id, Spent, Device, Memory}
use Rattle.cat_model.specs.Text.{Text}
use Rattle.cat_model.specs.Item.{Item, Schema}
use Rattle.cat_model.specs.Write.{Write}
use Rattle.cat_model.specs.Table.{Opened, table}
use Rattle.cat_model.specs.Answer.{Read, Found, stored}
use Rattle.cat_model.specs.Run.{Command, Answer, Reply, Exchange, Run, IsRun, now}
use Rattle.cat_model.specs.Laws.{HeldRead}
use Rattle.cat_service.specs.replicas.Laws.{commands, log, IsSeen, start_behind}

-- what a session says, and the reply
abbrev pub said : ℕ → Command → Reply → Exchange
said s c r = record { line = record { session = s; command = c }; reply = r }

-- a reply with a number
abbrev pub told : ℕ → Reply
told n = Ok (Answer.number n)

-- the first service, which opens nothing
abbrev pub first : Schema → Opened
first schema = record { start = record { schema = schema; records = []; token = 0 }; commit = None }

-- it puts an item, and commits
abbrev pub first_past : Item → Run
first_past a = said 1 (Command.put (Ok a)) (told 1) ∷ said 0 (Command.commit (Ok [])) (told 1) ∷ []

-- the second, which opens that commit
abbrev pub second : Schema → Item → Opened
second schema a = record {
  start = record { schema = schema; records = record { number = 1; item = a } ∷ []; token = 1 };
  commit = Some (record { generation = 1; text = [] });
}

-- the reply of both to a GET under 2
abbrev pub source_at_two : Schema → Item → Item → Text → Reply
source_at_two schema a b id =
    Ok (Answer.found (Found.source (stored (table (first schema).start (Write.put a ∷ Write.put b ∷ []) 2) id)))

-- the first then puts another item, for which it lacks the memory at first, and is told an id that is none
abbrev pub first_run : Item → Run
first_run b =
    said 1 (Command.put (Ok b)) (Err Memory)
    ∷ said 1 (Command.put (Ok b)) (told 2)
    ∷ said 2 (Command.delete (Err Id)) (Err Id)
    ∷ []

-- and its session 7 reads at 2
abbrev pub first_read : Schema → Item → Item → Text → Run
first_read schema a b id =
    said 1 Command.refresh (told 2)
    ∷ said 7 Command.open_newest (told 2)
    ∷ said 7 (Command.read 2 (Read.get (Ok id))) (source_at_two schema a b id)
    ∷ []

-- the second is asked the same by one session; it records a view before, and its device stops a write that the first wasn't asked
abbrev pub second_run : Item → Item → Run
second_run a b =
    said 3 Command.refresh (told 1)
    ∷ said 3 (Command.put (Ok b)) (told 2)
    ∷ said 3 (Command.put (Ok a)) (Err Device)
    ∷ said 3 (Command.delete (Err Id)) (Err Id)
    ∷ []

-- and its session 9 reads at 2, with a third write behind that
abbrev pub second_read : Schema → Item → Item → Text → Run
second_read schema a b id =
    said 4 Command.refresh (told 2)
    ∷ said 9 (Command.open_at 2) (told 2)
    ∷ said 3 (Command.delete (Ok id)) (told 3)
    ∷ said 9 (Command.read 2 (Read.get (Ok id))) (source_at_two schema a b id)
    ∷ []

-- all that the law of replicas asks of two services
pub record AreReplicas (schema : Schema) (a b : Item) (id : Text) : Type 0 where
  pub seen : IsSeen (first schema).start
  pub begun : (second schema a).start ≡ start_behind (first schema).start (first_past a)
  pub said_alike : commands (log (first_run b)) ≡ commands (log (second_run a b))
  pub reached : 2 ≤ now (first schema).start (first_past a ++ first_run b)
  pub one : HeldRead (first schema) ((first_past a ++ first_run b) ++ first_read schema a b id) 2 (Read.get (Ok id)) (source_at_two schema a b id)
  pub two : HeldRead (second schema a) (second_run a b ++ second_read schema a b id) 2 (Read.get (Ok id)) (source_at_two schema a b id)

-- one and the same PUT, with a reply
abbrev pub one_put : Item → Reply → Run
one_put a r = said 1 (Command.put (Ok a)) r ∷ []

-- A service that opens nothing may accept its first PUT, or stop it by each of the three refusals. So a log that had the stopped lines would
-- not tell their replies.
pub record StopsPart (schema : Schema) (a : Item) : Type 0 where
  pub goes : IsRun (first schema) (one_put a (told 1))
  pub spent : IsRun (first schema) (one_put a (Err Spent))
  pub device : IsRun (first schema) (one_put a (Err Device))
  pub memory : IsRun (first schema) (one_put a (Err Memory))

-- whatever the items are
abbrev pub SamplesAreReplicas : Type 0
SamplesAreReplicas = (schema : Schema) (a b : Item) (id : Text) → AreReplicas schema a b id × StopsPart schema a
