-- The rule of the two words, and what each step tells.
use Rattle.std.specs.Prelude.{◌≡◌, ℕ, ◌≤◌, if◌then◌else◌, nat_le, Bool, true, false, List, [], ◌∷◌, ◌++◌, length, slice_index}
use mathlib.Core.Option.{some}
use mathlib.Core.List.{IsPrefix}
use lib.ListN.{get_elem?}
use Rattle.atomic_table.specs.Seated.{TableId}
use Rattle.cat_threads.specs.history.Entries.{LogEntry, writes_of, has_session}

-- what a pass had seen when it was joined
pub record Old : Type 0 where
  pub list : List LogEntry
  pub token : ℕ
  pub own : List ℕ

-- what a pass has seen: a list, a token and its own sessions; whether it is the scribe's, and then the sessions that have passes; and,
-- between a join and the load behind it, what the joined passes had seen
pub record Sight : Type 0 where
  pub list : List LogEntry
  pub token : ℕ
  pub own : List ℕ
  pub scribe : Bool
  pub seated : List ℕ
  pub olds : List Old

-- the name of no cell
abbrev pub no_table : TableId
no_table = record { words = 0; slots = 0; views_name = 0; atom = 0; block = 0; offset = 0; slot_names = [] }

-- the pass that stands beside the ledger: it knows the whole list
abbrev pub scribe : List LogEntry → ℕ → List ℕ → List ℕ → Sight
scribe list token seated own = record { list = list; token = token; own = own; scribe = true; seated = seated; olds = [] }

-- a caller's pass
abbrev pub caller : List LogEntry → ℕ → List ℕ → Sight
caller list token own = record { list = list; token = token; own = own; scribe = false; seated = []; olds = [] }

-- a pass that was spent in a join
abbrev pub nobody : Sight
nobody = caller [] 0 []

abbrev pub old_of : Sight → Old
old_of v = record { list = v.list; token = v.token; own = v.own }

-- with the olds dropped
abbrev pub forget : Sight → Sight
forget v = record { list = v.list; token = v.token; own = v.own; scribe = v.scribe; seated = v.seated; olds = [] }

-- the scribe's pass with a caller's taken in
abbrev pub under : Sight → Sight → Sight
under v w = record { list = v.list; token = v.token; own = w.own; scribe = v.scribe; seated = v.seated; olds = old_of v ∷ old_of w ∷ [] }

-- the list with one more entry
abbrev pub noted : LogEntry → Sight → Sight
noted e v = record { list = v.list ++ e ∷ []; token = v.token; own = v.own; scribe = v.scribe; seated = v.seated; olds = v.olds }

abbrev pub recorded : ℕ → Sight → Sight
recorded t v = record { list = v.list; token = t; own = v.own; scribe = v.scribe; seated = v.seated; olds = v.olds }

-- the scribe's part of a joined pass, and the caller's
abbrev pub left_part : Sight → Sight
left_part v = record { list = v.list; token = v.token; own = []; scribe = v.scribe; seated = v.seated; olds = [] }

abbrev pub right_part : Sight → Sight
right_part v = caller v.list v.token v.own

abbrev pub Each : {A : Type 0} → (A → Type 0) → List A → Type 0
Each P [] = Unit {0}
Each P (x ∷ xs) = P x × Each P xs

-- what the rule says of what was joined
pub record OldFits (log : List LogEntry) (v : Sight) (o : Old) : Type 0 where
  pub begins : IsPrefix o.list v.list
  pub below : o.token ≤ v.token
  pub mine : (s : ℕ) → has_session s o.own ≡ true → (has_session s v.own ≡ true) × (writes_of s log ≡ writes_of s o.list)

-- what the rule says of one pass
pub record PassFits (seat : ℕ) (log : List LogEntry) (token : ℕ) (seated : List ℕ) (owner : ℕ → ℕ) (by : ℕ) (v : Sight) : Type 0 where
  pub begins : IsPrefix v.list log
  pub below : v.token ≤ token
  pub whole : v.scribe ≡ true → (by ≡ seat) × (v.list ≡ log) × (v.token ≡ token) × (v.seated ≡ seated)
  pub mine : (s : ℕ) → has_session s v.own ≡ true → (owner s ≡ by) × (has_session s seated ≡ true) × (writes_of s log ≡ writes_of s v.list)
  pub before : Each (OldFits log v) v.olds

-- there is one list, whose length is the first word. Each pass has seen a beginning of it
pub record Kept (words : List ℕ) (views : List Sight) : Type 0 where
  pub seat : ℕ
  pub log : List LogEntry
  pub seated : List ℕ
  pub owner : ℕ → ℕ
  pub counted : slice_index words 0 ≡ length log
  pub strangers : (s : ℕ) → has_session s seated ≡ false → writes_of s log ≡ []
  pub each : (by : ℕ) (v : Sight) → get_elem? views by ≡ some v → PassFits seat log (slice_index words 1) seated owner by v

-- what the load after a join tells of one of the two
pub record Compared (v : Sight) (o : Old) : Type 0 where
  pub begins : IsPrefix o.list v.list
  pub below : o.token ≤ v.token
  pub mine : (s : ℕ) → has_session s o.own ≡ true → writes_of s v.list ≡ writes_of s o.list

-- no other session has made a write
abbrev pub NoStrangers : List ℕ → List LogEntry → Type 0
NoStrangers seated list = (s : ℕ) → has_session s seated ≡ false → writes_of s list ≡ []

abbrev pub Checked : Sight → List ℕ → List ℕ → Sight → Type 0
Checked v before after w = (w ≡ forget v) × Each (Compared v) v.olds × (v.scribe ≡ true → NoStrangers v.seated v.list)

abbrev pub Noted : LogEntry → Sight → List ℕ → List ℕ → Sight → Type 0
Noted e v before after w = w ≡ noted e v

abbrev pub Recorded : Sight → List ℕ → List ℕ → Sight → Type 0
Recorded v before after w = w ≡ recorded (slice_index after 1) v

-- the longer of two lists, of which one begins the other
abbrev pub longer : List LogEntry → List LogEntry → List LogEntry
longer xs ys = if nat_le (length xs) (length ys) then ys else xs

abbrev pub greater : ℕ → ℕ → ℕ
greater m n = if nat_le m n then n else m

-- what a pass has seen, without its session
abbrev pub note_of : Sight → Sight
note_of v = caller v.list v.token []

-- a caller's pass with another's note
abbrev pub level : Sight → Sight → Sight
level v w = record { list = longer v.list w.list; token = greater v.token w.token; own = v.own; scribe = v.scribe; seated = v.seated; olds = old_of v ∷ old_of w ∷ [] }

-- the scribe's pass once the session has a pass, and that pass
abbrev pub seating : ℕ → Sight → Sight
seating s v = scribe v.list v.token (s ∷ v.seated) v.own

abbrev pub seat_for : ℕ → Sight → Sight
seat_for s v = caller v.list v.token (s ∷ [])
