-- What the steps of reading say: the queries of the definitions, seen through what the code makes of them.
use Rattle.std.specs.Prelude.{◌≡◌, ℕ, [], ◌∷◌, Option, Some, None, IsSome, Result, Ok, Err, IfOk, IfErr, ◌==◌, true, if◌then◌else◌, drop, length, nat_eq}
use Rattle.std.specs.List.{starts_with}
use Rattle.std.specs.declared.alloc.AllocError.{AllocError}
use Rattle.std.specs.Borrow.{Bor}
use Rattle.std.specs.Global.{Vec}
use Rattle.cat_base.specs.declared.refusal.Refusal.{Refusal}
use Rattle.cat_base.specs.declared.refusal.Refusal.TheVariants.{Memory, Query as Unreadable}
use Rattle.cat_model.specs.Text.{Text}
use Rattle.cat_model.specs.Grammar.{Asks}
use Rattle.cat_model.specs.Query as model
use Rattle.cat_model.specs.Reader.{◌>>=◌, whole}
use Rattle.cat_query.specs.Escapes.{unescaped, is_escaped}
use Rattle.cat_query.specs.View.{sign_of, primary_of, clauses_of, query_of}
use Rattle.cat_query.specs.declared.query.Query.{Query}
use Rattle.cat_query.specs.declared.query.Primary.{Primary}
use Rattle.cat_query.specs.declared.query.Clause.{Clause}
use Rattle.cat_query.specs.declared.query.Sign.{Sign}
use Rattle.cat_query.specs.declared.values.Value.{Value}
use Rattle.cat_query.specs.declared.values.Value.TheVariants as value

-- A value is judged as the definitions judge it, whatever memory does; what was built stands for what they give.
abbrev pub JudgesAs : {X Y E : Type 0} → (X → Y) → Option (Result X E) → Option Y → Type 0
JudgesAs view None read = read ≡ None
JudgesAs view (Some built) read = IsSome read × IfOk built (λ x. read ≡ Some (view x))

-- what is built from a text, unless memory was refused
abbrev pub Built : Type 0 → Type 0
Built X = Result X AllocError

-- A text is read as the reader reads it, whatever memory does; what was built stands for what it gives. So of a primary
-- that is no group,
abbrev pub ReadsLeaf : Result (Built Primary × Bor Text) ℕ → Result (model.Primary × Text) ℕ → Type 0
ReadsLeaf (Err left) read = read ≡ Err left
ReadsLeaf (Ok (built, rest)) read = (p : model.Primary) × (read ≡ Ok (p, rest.now)) × IfOk built (λ x. primary_of x ≡ p)

-- of any primary,
abbrev pub ReadsPrimary : Result (Built Primary × ℕ × Bor Text) ℕ → Result (model.Primary × ℕ × Text) ℕ → Type 0
ReadsPrimary (Err left) read = read ≡ Err left
ReadsPrimary (Ok (built, after, rest)) read = (p : model.Primary) × (read ≡ Ok (p, after, rest.now)) × IfOk built (λ x. primary_of x ≡ p)

-- of a clause, whose sign comes first,
abbrev pub ReadsClause : Result (Sign × Built Primary × ℕ × Bor Text) ℕ → Result (model.Sign × model.Primary × ℕ × Text) ℕ → Type 0
ReadsClause (Err left) read = read ≡ Err left
ReadsClause (Ok (s, built, after, rest)) read = (p : model.Primary) × (read ≡ Ok (sign_of s, p, after, rest.now)) × IfOk built (λ x. primary_of x ≡ p)

-- of clauses one after another,
abbrev pub ReadsClauses : Result (Built (Vec Clause) × ℕ × Bor Text) ℕ → Result (model.Query × ℕ × Text) ℕ → Type 0
ReadsClauses (Err left) read = read ≡ Err left
ReadsClauses (Ok (built, after, rest)) read = (q : model.Query) × (read ≡ Ok (q, after, rest.now)) × IfOk built (λ v. clauses_of v.items ≡ q)

-- and of the whole text.
abbrev pub ReadsAll : Result (Built (Vec Clause)) ℕ → Result model.Query ℕ → Type 0
ReadsAll (Err left) read = read ≡ Err left
ReadsAll (Ok built) read = (q : model.Query) × (read ≡ Ok q) × IfOk built (λ v. clauses_of v.items ≡ q)

-- the query with one more clause at its end
abbrev pub then_clause : model.Query → model.Sign → model.Primary → model.Query
then_clause model.Query.no_clause s p = model.Query.clause s p model.Query.no_clause
then_clause (model.Query.clause t x q) s p = model.Query.clause t x (then_clause q s p)

-- The query that the reader gives, unless memory was refused; or the place that it gives.
abbrev pub IsReadAs : Result Query Refusal → Result model.Query ℕ → Type 0
IsReadAs result (Ok q) = IfOk result (λ x. query_of x ≡ q) × IfErr result (λ e. e ≡ Memory)
IsReadAs result (Err place) = result ≡ Err (Unreadable place)

-- what stands behind the byte, where the text begins with it
abbrev pub behind_byte : ℕ → Text → Option Text
behind_byte c [] = None
behind_byte c (b ∷ bs) = if b == c then Some bs else None

-- what stands behind the mark, where the text begins with it
abbrev pub behind_mark : Text → Text → Option Text
behind_mark mark text = if starts_with nat_eq text mark then Some (drop (length mark) text) else None

-- the end of a range, without its backslashes
abbrev pub end_of : Option (Bor Text) → Option Text
end_of None = None
end_of (Some t) = Some (unescaped t.now)

abbrev pub IsEscapedEnd : Option (Bor Text) → Type 0
IsEscapedEnd None = Unit {0}
IsEscapedEnd (Some t) = is_escaped t.now ≡ true

-- the texts of the value have their backslashes where they belong
abbrev pub IsEscaped : Value → Type 0
IsEscaped (value.Is t) = is_escaped t.now ≡ true
IsEscaped (value.Begins t) = Unit {0}
IsEscaped (value.Between low high) = IsEscapedEnd low × IsEscapedEnd high

-- what a value asks
abbrev pub asks_of : Value → Asks
asks_of (value.Is t) = Asks.is (unescaped t.now)
asks_of (value.Begins t) = Asks.begins t.now
asks_of (value.Between low high) = Asks.between (end_of low) (end_of high)

-- the query, where nothing is left behind it
abbrev pub all_of : Result (model.Query × ℕ × Text) ℕ → Result model.Query ℕ
all_of read = read >>= whole
