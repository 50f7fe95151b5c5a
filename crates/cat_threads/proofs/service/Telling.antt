-- What a caller is told by a step of what lies under the lock, from what the passes are before it and behind it.
use Rattle.std.proofs.Common.{◌≡◌, ℕ, suc, ◌+◌, ◌-◌, ◌≤◌, List, [], ◌∷◌, ◌++◌, length, sym, ap, ◌∙◌, subst, arith, length-append}
use mathlib.Core.List.{IsPrefix}
use Rattle.cat_threads.specs.history.Entries.{LogEntry, has_session, writes_of}
use Rattle.cat_threads.specs.history.Rules.{Sight, caller, noted, old_of, recorded, scribe, Compared}
use Rattle.cat_threads.specs.service.Passes.{Ends, Follows, Idle, Refreshed, Seen, Shared}
use Rattle.cat_threads.proofs.history.Lists.{prefix_length}
use Rattle.cat_threads.proofs.service.Passed.{follows_told, has_self, seen}

-- how the scribe's pass is seen
abbrev pub shared : ℕ → Sight → Shared
shared start v = record { list = v.list; token = start + v.token }

-- The pass that comes apart tells the caller the whole list.
pub told_apart : (start : ℕ) (joined desk mine : Sight) → desk ≡ scribe joined.list joined.token joined.seated [] → mine ≡ caller joined.list joined.token joined.own
    → (mine.list ≡ desk.list) × (start + mine.token ≡ start + desk.token)
told_apart start joined desk mine d m = (
  ap (λ (x : Sight). x.list) m ∙ sym (ap (λ (x : Sight). x.list) d),
  ap (λ (x : Sight). start + x.token) m ∙ sym (ap (λ (x : Sight). start + x.token) d),
)

-- A step between the two leaves what lies under the lock as it is seen.
pub same_apart : (start : ℕ) (v joined desk : Sight) (own : List ℕ) (before : Shared) → shared start v ≡ before → joined ≡ scribe v.list v.token v.seated own
    → desk ≡ scribe joined.list joined.token joined.seated [] → (desk.list ≡ before.list) × (start + desk.token ≡ before.token)
same_apart start v joined desk own before is j d = (
  ap (λ (x : Sight). x.list) d ∙ (ap (λ (x : Sight). x.list) j ∙ ap (λ (x : Shared). x.list) is),
  ap (λ (x : Sight). start + x.token) d ∙ (ap (λ (x : Sight). start + x.token) j ∙ ap (λ (x : Shared). x.token) is),
)

-- A write that is noted is one more of the list, whose length is the write's number.
pub noted_apart : (start n count : ℕ) (v joined more desk : Sight) (own : List ℕ) (e : LogEntry) (before : Shared) → shared start v ≡ before → joined ≡ scribe v.list v.token v.seated own
    → more ≡ noted e joined → desk ≡ scribe more.list more.token more.seated [] → n ≡ count + 1 → count ≡ start + length v.list
    → (desk.list ≡ before.list ++ e ∷ []) × (n ≡ start + length desk.list)
noted_apart start n count v joined more desk own e before is j m d one counted =
    let whole : desk.list ≡ v.list ++ e ∷ [] = ap (λ (x : Sight). x.list) d ∙ (ap (λ (x : Sight). x.list) m ∙ ap (λ (x : Sight). x.list ++ e ∷ []) j) in
    let long : length desk.list ≡ length (v.list ++ e ∷ []) = ap length whole in
    let parts : length (v.list ++ e ∷ []) ≡ length v.list + length (e ∷ []) = length-append v.list (e ∷ []) in
    (whole ∙ ap (λ (x : Shared). x.list ++ e ∷ []) is, omega arith)

pub noted_token : (start : ℕ) (v joined more desk : Sight) (own : List ℕ) (e : LogEntry) (before : Shared) → shared start v ≡ before → joined ≡ scribe v.list v.token v.seated own
    → more ≡ noted e joined → desk ≡ scribe more.list more.token more.seated [] → start + desk.token ≡ before.token
noted_token start v joined more desk own e before is j m d =
    ap (λ (x : Sight). start + x.token) d ∙ (ap (λ (x : Sight). start + x.token) m ∙ (ap (λ (x : Sight). start + x.token) j ∙ ap (λ (x : Shared). x.token) is))

-- A view that is recorded leaves the list.
pub recorded_list : (start t : ℕ) (v joined more desk : Sight) (own : List ℕ) (before : Shared) → shared start v ≡ before → joined ≡ scribe v.list v.token v.seated own
    → more ≡ recorded t joined → desk ≡ scribe more.list more.token more.seated [] → desk.list ≡ before.list
recorded_list start t v joined more desk own before is j m d =
    ap (λ (x : Sight). x.list) d ∙ (ap (λ (x : Sight). x.list) m ∙ (ap (λ (x : Sight). x.list) j ∙ ap (λ (x : Shared). x.list) is))

-- A caller that is told of the joined pass has seen no less, and its session has made no write.
pub follows_joined : (start session : ℕ) (old joined now : Sight) (before : Seen) → seen start session old ≡ before → Compared joined (old_of old) → now.list ≡ joined.list
    → now.token ≡ joined.token → Follows before (seen start session now)
follows_joined start session old joined now before is k list token = follows_told start session old joined now before is k list (omega arith)

pub idle_told : (start session : ℕ) (old joined now : Sight) (before : Seen) → seen start session old ≡ before → Compared joined (old_of old)
    → old ≡ caller old.list old.token (session ∷ []) → now.list ≡ joined.list → Idle before (seen start session now)
idle_told start session old joined now before is k own list =
    subst (λ (u : Seen). writes_of u.session now.list ≡ writes_of u.session u.list) is
    (ap (writes_of session) list ∙ k.mine session (ap (λ (x : Sight). has_session session x.own) own ∙ has_self session))

-- A refresh answers the number of all writes, which the caller's token is from then on.
pub refreshed_told : (start session t : ℕ) (old joined now : Sight) (before : Seen) → seen start session old ≡ before → Compared joined (old_of old)
    → t ≡ start + length joined.list → now.list ≡ joined.list → now.token ≡ t - start → Refreshed start t before (seen start session now)
refreshed_told start session t old joined now before is k count list token =
    let shorter = prefix_length old.list joined.list k.begins in
    let long : length now.list ≡ length joined.list = ap length list in
    subst (λ (u : Seen). Refreshed start t u (seen start session now)) is record { from = omega arith; upto = omega arith; seen = omega arith }

-- Once all writes are in the list, it begins with what a pass has seen, and has just its session's writes.
pub ends_told : (start session : ℕ) (old joined now : Sight) (before : Seen) → seen start session old ≡ before → Compared joined (old_of old)
    → old ≡ caller old.list old.token (session ∷ []) → now.list ≡ joined.list → Ends now.list before
ends_told start session old joined now before is k own list =
    subst (λ (u : Seen). Ends now.list u) is record {
      begins = subst (λ l. IsPrefix old.list l) (sym list) k.begins;
      mine = ap (writes_of session) list ∙ k.mine session (ap (λ (x : Sight). has_session session x.own) own ∙ has_self session);
    }
