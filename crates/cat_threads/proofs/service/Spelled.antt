-- A pass that is a scribe's or a caller's, spelled by its own parts: so steps ask for it, and so what lies under the lock and passes
-- keep it.
use Rattle.std.proofs.Common.{◌≡◌, ℕ, List, [], ◌∷◌, sym, ap, ◌∙◌}
use Rattle.cat_threads.specs.history.Entries.{LogEntry}
use Rattle.cat_threads.specs.history.Rules.{Sight, caller, scribe}

pub scribe_own : (v : Sight) (list : List LogEntry) (token : ℕ) (seated own : List ℕ) → v ≡ scribe list token seated own → v ≡ scribe v.list v.token v.seated v.own
scribe_own v list token seated own is = is ∙ sym (ap (λ (x : Sight). scribe x.list x.token x.seated x.own) is)

-- the scribe's as it lies under the lock
pub scribe_alone : (v : Sight) (sessions : List ℕ) → v ≡ scribe v.list v.token sessions [] → v ≡ scribe v.list v.token v.seated []
scribe_alone v sessions is = is ∙ ap (λ (s : List ℕ). scribe v.list v.token s []) (sym (ap (λ (x : Sight). x.seated) is))

pub caller_own : (session : ℕ) (v : Sight) → v ≡ caller v.list v.token (session ∷ []) → v ≡ caller v.list v.token v.own
caller_own session v is = is ∙ ap (λ (s : List ℕ). caller v.list v.token s) (sym (ap (λ (x : Sight). x.own) is))

-- a caller's with another list and token, of the same session
pub caller_next : (session : ℕ) (list : List LogEntry) (token : ℕ) (own : List ℕ) (v : Sight) → own ≡ session ∷ [] → v ≡ caller list token own
    → v ≡ caller v.list v.token (session ∷ [])
caller_next session list token own v mine is =
    let its : v ≡ caller list token (session ∷ []) = is ∙ ap (λ (s : List ℕ). caller list token s) mine in
    its ∙ sym (ap (λ (x : Sight). caller x.list x.token (session ∷ [])) its)

-- the caller's that comes out of the joined pass
pub caller_apart : (session : ℕ) (v joined old mine : Sight) → old ≡ caller old.list old.token (session ∷ []) → joined ≡ scribe v.list v.token v.seated old.own
    → mine ≡ caller joined.list joined.token joined.own → mine ≡ caller mine.list mine.token (session ∷ [])
caller_apart session v joined old mine is j m =
    caller_next session joined.list joined.token joined.own mine (ap (λ (x : Sight). x.own) j ∙ ap (λ (x : Sight). x.own) is) m

-- the same where a step in between left its sessions
pub caller_behind : (session : ℕ) (v joined more old mine : Sight) → old ≡ caller old.list old.token (session ∷ []) → joined ≡ scribe v.list v.token v.seated old.own
    → more.own ≡ joined.own → mine ≡ caller more.list more.token more.own → mine ≡ caller mine.list mine.token (session ∷ [])
caller_behind session v joined more old mine is j same m =
    caller_next session more.list more.token more.own mine (same ∙ ap (λ (x : Sight). x.own) j ∙ ap (λ (x : Sight). x.own) is) m
