-- Replies to lines, from what the calls answer.
use Rattle.std.proofs.Common.{◌≡◌, ◌∙◌, ◌⊎◌, ◌≢◌, ◌+◌, ◌<◌, inl, inr, ℕ, List, [], length, append-nil, false, true, arith, Option, None, Some, option_map, ap, sym, subst, refl}
use Rattle.std.specs.Prelude.{Result, Ok, Err, IfOk, IfErr, OnErr, OnOk, is_some, if◌then◌else◌}
use Rattle.cat_base.specs.declared.refusal.Refusal.{Refusal}
use Rattle.cat_base.specs.declared.refusal.Refusal.TheVariants.{Damaged, Device, Gone, Kind, Memory, NotHeld, Query as NoQuery}
use Rattle.cat_directory.specs.Devices.{ReadingCount}
use Rattle.cat_model.specs.Answer.{Found, Read, answer}
use Rattle.cat_model.specs.Faults.{Fault}
use Rattle.cat_model.specs.Grammar.{Spells}
use Rattle.cat_model.specs.Heard.{IsQueryOf}
use Rattle.cat_model.specs.Item.{Schema}
use Rattle.cat_model.specs.Page.{Sort}
use Rattle.cat_model.specs.Query.{Query}
use Rattle.cat_model.specs.Run.{Reply, found_reply}
use Rattle.cat_model.specs.Table.{Start, table}
use Rattle.cat_model.specs.Text.{Text}
use Rattle.cat_model.specs.View.{View}
use Rattle.cat_model.specs.Write.{Write}
use Rattle.cat_threads.specs.cat_commands.searches.Reads.{MayTell}
use Rattle.cat_threads.specs.cat_commands.cat_protocol.declared.replies.answer.Answer.{Answer}
use Rattle.cat_threads.specs.cat_commands.cat_protocol.replies.Reply.{reply_of}
use Rattle.cat_threads.specs.service.Writes.{PutsForeign}
use Rattle.cat_threads.specs.cat_commands.cat_cached_sets.cat_views.Holds.{HeldView}
use Rattle.cat_threads.specs.cat_commands.cat_ledger.cat_lifetimes.rights.Rights.{PutsIn, right_of}
use Rattle.cat_ledger_laws.specs.lines.LineLaws.{tells}
use Rattle.cat_ledger_laws.specs.lines.ReadLaws.{ReadFinds}
use Rattle.cat_ledger_laws.specs.shape.Ties.{ToldFiles}
use Rattle.cat_model.specs.Lines.{Said}
use Rattle.cat_threads.specs.history.Entries.{writes_in}
use Rattle.cat_threads.specs.service.Passes.{Follows, Granted, Idle, IsLater, Seen, Wrote}
use Rattle.cat_threads.specs.sharing.Grounds.{Ground, IsOn}
use Rattle.cat_callers.specs.Sessions.{AreRightsTo, IsRightTo, Kept, ShowsSeen}
use Rattle.cat_callers.specs.Told.{Holds, IsAskedFor, StopsWrite, Tells, deleting_where, ToldClose, ToldOpen, ToldQuery, ToldRead, ToldWrite}
use Rattle.cat_callers.proofs.Held.{granted_is, rights_put, rights_stay, rights_taken}

-- a read over the view that the session has a right to, or over none
pub read_told : (from : Ground) (v : Seen) (rights : List HeldView) (t : ℕ) (asked : Read) (r : Reply) (right : Option HeldView)
    → right_of rights v.session t ≡ right → AreRightsTo from v rights → MayTell (option_map (λ h. h.view) right) asked r → ToldRead from v rights t asked r
read_told from v rights t asked r None is a (inl e) = subst (λ (x : Reply). ToldRead from v rights t asked x) (sym e) (ToldRead.unheld is)
read_told from v rights t asked r None is a (inr e) = subst (λ (x : Reply). ToldRead from v rights t asked x) (sym e) ToldRead.stopped
read_told from v rights t asked r (Some h) is a (inl (found, finds, e)) =
    ToldRead.found h r is (λ start on. e ∙ ap found_reply (sym (finds (table start (writes_in v.list) t) ((a t h is).table_is start on))))
read_told from v rights t asked r (Some h) is a (inr e) = subst (λ (x : Reply). ToldRead from v rights t asked x) (sym e) ToldRead.stopped

pub option_map_twice : {A B C : Type 0} (f : A → B) (g : B → C) (o : Option A) → option_map g (option_map f o) ≡ option_map (λ x. g (f x)) o
option_map_twice f g None = refl
option_map_twice f g (Some x) = refl

-- what was seen is seen
pub follows_itself : (v : Seen) → Follows v v
follows_itself v = record { same = refl; longer = ([], append-nil v.list); later = omega arith }

-- what a session's rights are to after its line
pub rights_after : (told : ToldFiles) (from : Ground) (serves : Said → Reply → Type 0) (said : Option Said) (v : Seen) (k : Kept) (w : Seen) (l : Kept) (r : Reply)
    → k.session ≡ v.session → AreRightsTo from v k.rights → Follows v w → Tells told from serves said v k w l r → AreRightsTo from w l.rights
rights_after told from serves said v k w l r own a f t = go said t
  where
    kept_so : l.rights ≡ k.rights → AreRightsTo from w l.rights
    kept_so same = subst (λ (hs : List HeldView). AreRightsTo from w hs) (sym same) (rights_stay from v w k.rights f a)

    opened : (asked : Option ℕ) (x : Reply) → ToldOpen from asked v w k.rights l.rights x → AreRightsTo from w l.rights
    opened asked x (ToldOpen.given h g p) = rights_put from w h k.rights l.rights (rights_stay from v w k.rights f a) p (granted_is from asked v w h g)
    opened asked x (ToldOpen.had t h is held same) = kept_so same
    opened asked x (ToldOpen.refused e why none same) = kept_so same

    closed : (t : ℕ) (x : Reply) → ToldClose v.session t k.rights l.rights x → AreRightsTo from w l.rights
    closed t x (ToldClose.ended h is takes) = rights_taken from w v.session t k.rights l.rights (rights_stay from v w k.rights f a) takes
    closed t x (ToldClose.uncounted h is takes) = rights_taken from w v.session t k.rights l.rights (rights_stay from v w k.rights f a) takes
    closed t x (ToldClose.unheld is same) = kept_so same

    go : (said : Option Said) → Tells told from serves said v k w l r → AreRightsTo from w l.rights
    go None x = kept_so x.0.1
    go (Some (Said.put text)) x = kept_so x.0
    go (Some (Said.delete text)) x = kept_so x.0
    go (Some (Said.delete_where text)) x = kept_so x.0
    go (Some Said.refresh) x = kept_so x.0.1
    go (Some Said.open_newest) x = opened None r x.1
    go (Some (Said.open_at t)) x = opened (Some t) r x.1
    go (Some (Said.close t)) x = closed t r x.1
    go (Some (Said.find t n sort mark text)) x = kept_so x.0.1
    go (Some (Said.facets t dim n text)) x = kept_so x.0.1
    go (Some (Said.get t text)) x = kept_so x.0.1
    go (Some (Said.files_of_token t)) x = kept_so x.0.1
    go (Some (Said.files_of_commit g)) x = kept_so x.0.1
    go (Some (Said.commit text)) x = kept_so x.0.1
    go (Some (Said.text_of_commit g)) x = kept_so x.0.1
    go (Some Said.snapshot) x = kept_so x.0.1
    go (Some (Said.release_snapshot g)) x = kept_so x.0.1
    go (Some (Said.prune n)) x = kept_so x.0.1
    go (Some (Said.chore c)) x = kept_so x.0.1

-- ---- writes

pub write_told : (from : Ground) (asked : Result Write Refusal → Type 0) (v w : Seen) (n : ℕ) (write : Write) (r : Reply)
    → asked (Ok write) → r ≡ tells n → Wrote from.start.token n write v w → ToldWrite from asked v w r
write_told from asked v w n write r is e wrote = subst (λ (x : Reply). ToldWrite from asked v w x) (sym e) (ToldWrite.wrote n write is wrote)

pub is_memory : (e : Refusal) → (e ≡ Memory) ⊎ (e ≢ Memory)
is_memory Memory = inl refl
is_memory _ = inr (λ h. cc h)

-- a text that can't be read is no write
pub unread : (from : Ground) (asked : Result Write Refusal → Type 0) (v : Seen) (e : Refusal) → (e ≢ Memory → asked (Err e)) → ToldWrite from asked v v (Err e)
unread from asked v e wrong = elim (is_memory e) [
  | inl is ↦ ToldWrite.refused e (inr (inl is)) refl
  | inr other ↦ ToldWrite.refused e (inl (wrong other)) refl
]

-- what a write is answered
pub written : (from : Ground) (asked : Result Write Refusal → Type 0) (v w : Seen) (write : Write) (given : Result Answer Refusal)
    → asked (Ok write) → (PutsForeign from.start.schema write → ⊥)
    → IfOk given (λ a. (n : ℕ) × (reply_of (Ok a) ≡ tells n) × Wrote from.start.token n write v w)
    → OnErr given (Idle v w)
    → IfErr given (λ e. ((e ≡ Kind) × PutsForeign from.start.schema write) ⊎ StopsWrite e)
    → ToldWrite from asked v w (reply_of given)
written from asked v w write (Ok a) is own wrote idle stops = write_told from asked v w wrote.0 write (reply_of (Ok a)) is wrote.1 wrote.2
written from asked v w write (Err e) is own wrote idle (inl k) = absurd (own k.1)
written from asked v w write (Err e) is own wrote idle (inr s) = ToldWrite.refused e (inr s) idle

-- ---- reads

-- a query's read, from what the search tells of the session's right
pub query_told : (from : Ground) (v : Seen) (rights : List HeldView) (t : ℕ) (text : Text) (asked : Result Query Refusal → Read) (r : Reply) (session : ℕ) (view : Option View)
    → view ≡ option_map (λ h. h.view) (right_of rights session t) → v.session ≡ session → AreRightsTo from v rights
    → (q : Result Query Refusal) × IsQueryOf from.start.schema text q × MayTell view (asked q) r
    → ToldQuery from v rights t text asked r
query_told from v rights t text asked r session view is own a (q, read, may) =
    ToldQuery.answered q r read
    (read_told from v rights t (asked q) r (right_of rights v.session t) refl a
    (subst (λ (x : Option View). MayTell x (asked q) r) (is ∙ ap (λ (s : ℕ). option_map (λ h. h.view) (right_of rights s t)) (sym own)) may))

-- a FIND whose text has a fault
pub faulty_told : (from : Ground) (schema : Schema) (v : Seen) (rights : List HeldView) (t : ℕ) (text : Text) (n : ℕ) (sort : Sort) (mark : Option ℕ) (e : Refusal)
    → schema ≡ from.start.schema → AreRightsTo from v rights → (place : ℕ) × (e ≡ NoQuery place) × Fault schema text place
    → ToldQuery from v rights t text (Read.find n sort mark) (Err e)
faulty_told from schema v rights t text n sort mark e same a (place, is, fault) =
    subst (λ (x : Refusal). ToldQuery from v rights t text (Read.find n sort mark) (Err x)) (sym is)
    (ToldQuery.answered (Err (NoQuery place)) (Err (NoQuery place)) (IsQueryOf.faulty place (subst (λ (x : Schema). Fault x text place) same fault))
    (read_told from v rights t (Read.find n sort mark (Err (NoQuery place))) (Err (NoQuery place)) (right_of rights v.session t) refl a
    (may (right_of rights v.session t))))
  where
    may : (right : Option HeldView) → MayTell (option_map (λ h. h.view) right) (Read.find n sort mark (Err (NoQuery place))) (Err (NoQuery place))
    may None = inl refl
    may (Some h) = inl (Err (NoQuery place), (λ rs shows. refl), refl)

-- a FIND without a right
pub unheld_told : (from : Ground) (schema : Schema) (v : Seen) (rights : List HeldView) (t : ℕ) (text : Text) (n : ℕ) (sort : Sort) (mark : Option ℕ) (q : Query)
    → schema ≡ from.start.schema → Spells schema text q → right_of rights v.session t ≡ None → ToldQuery from v rights t text (Read.find n sort mark) (Err NotHeld)
unheld_told from schema v rights t text n sort mark q same spelled none =
    ToldQuery.answered (Ok q) (Err NotHeld) (IsQueryOf.spelled q (subst (λ (x : Schema). Spells x text q) same spelled)) (ToldRead.unheld none)

-- a FIND that was answered over a view that shows what the session has seen
pub page_told : (from : Ground) (schema : Schema) (v : Seen) (rights : List HeldView) (t : ℕ) (text : Text) (n : ℕ) (sort : Sort) (mark : Option ℕ) (q : Query)
    (h : HeldView) (view : View) (asked : Read) (found : Result Found Refusal)
    → schema ≡ from.start.schema → AreRightsTo from v rights → Spells schema text q → right_of rights v.session t ≡ Some h → ShowsSeen from v h.view.token view
    → asked ≡ Read.find n sort mark (Ok q) → ReadFinds view asked found → ToldQuery from v rights t text (Read.find n sort mark) (found_reply found)
page_told from schema v rights t text n sort mark q h view asked found same a spelled is shown what finds =
    ToldQuery.answered (Ok q) (found_reply found) (IsQueryOf.spelled q (subst (λ (x : Schema). Spells x text q) same spelled))
    (ToldRead.found h (found_reply found) is (λ start on. ap found_reply (sym (over start on))))
  where
    right : IsRightTo from v t h
    right = a t h is

    seen : ShowsSeen from v t view
    seen = subst (λ (u : ℕ). ShowsSeen from v u view) right.token shown

    over : (start : Start) → IsOn from start → answer h.view.schema (table start (writes_in v.list) t) (Read.find n sort mark (Ok q)) ≡ found
    over start on =
        subst (λ (s : Schema). answer s (table start (writes_in v.list) t) (Read.find n sort mark (Ok q)) ≡ found) (seen.fields ∙ sym right.fields)
        (subst (λ (r : Read). answer view.schema (table start (writes_in v.list) t) r ≡ found) what
        (finds (table start (writes_in v.list) t) (seen.table_is start on)))

-- what is asked for, by its parts
pub same_find : (m n : ℕ) (s sort : Sort) (a mark : Option ℕ) (p q : Query) → m ≡ n → s ≡ sort → a ≡ mark → p ≡ q
    → Read.find m s a (Ok p) ≡ Read.find n sort mark (Ok q)
same_find m n s sort a mark p q count by behind query =
    ap (λ x. Read.find x s a (Ok p)) count ∙ ap (λ x. Read.find n x a (Ok p)) by ∙ ap (λ x. Read.find n sort x (Ok p)) behind
    ∙ ap (λ (x : Query). Read.find n sort mark (Ok x)) query

-- ---- rights

asked_for : (asked : Option ℕ) (least t : ℕ) → IsLater asked least t → IsAskedFor asked t
asked_for None least t later = tt
asked_for (Some n) least t later = later

-- a right that was granted, and kept
pub opened_told : (from : Ground) (asked : Option ℕ) (v w : Seen) (old new : List HeldView) (h : HeldView) (t : ℕ)
    → t ≡ h.view.token → Granted from asked v w h → PutsIn h old new ⊎ ((new ≡ old) × Holds old v.session h.view.token) → ToldOpen from asked v w old new (tells t)
opened_told from asked v w old new h t is granted (inl puts) =
    subst (λ (n : ℕ). ToldOpen from asked v w old new (tells n)) (sym is) (ToldOpen.given h granted puts)
opened_told from asked v w old new h t is granted (inr (same, (g, held))) =
    subst (λ (n : ℕ). ToldOpen from asked v w old new (tells n)) (sym is) (ToldOpen.had h.view.token g (asked_for asked v.token h.view.token granted.later) held same)

pub granted_own : (from : Ground) (asked : Option ℕ) (v w : Seen) (h : HeldView) (session : ℕ) → session ≡ v.session → Granted from asked v w h → h.session ≡ session
granted_own from asked v w h session is g = g.own ∙ sym is

-- there is no right where none is found
pub none_found : {X : Type 0} (f : X → HeldView) (o : Option X) (r : Option HeldView) → is_some o ≡ false → option_map f o ≡ r → r ≡ None
none_found f None r wrong e = sym e
none_found f (Some x) r wrong e = absurd (cc wrong)

pub some_found : {X : Type 0} (f : X → HeldView) (x : X) (o : Option X) (r : Option HeldView) → o ≡ Some x → option_map f o ≡ r → r ≡ Some (f x)
some_found f x o r is e = sym e ∙ ap (option_map f) is

-- where one was taken out, fewer are left
pub popped : {X : Type 0} (new rights : List X) (r : Option X) (x : X) → r ≡ Some x → length new + (if is_some r then 1 else 0) ≡ length rights
    → length new < length rights
popped new rights r x is len =
    let one : length new + 1 ≡ length rights = subst (λ r. length new + (if is_some r then 1 else 0) ≡ length rights) is len in omega arith

-- a text with a fault is no query, under the fields that are the same
pub unread_query : (s schema : Schema) (text : Text) (e : Refusal) → s ≡ schema → (place : ℕ) × (e ≡ NoQuery place) × Fault s text place
    → (q : Result Query Refusal) × IsQueryOf schema text q × (Err e ≡ deleting_where q)
unread_query s schema text e same (place, is, fault) =
    (Err (NoQuery place), IsQueryOf.faulty place (subst (λ (x : Schema). Fault x text place) same fault), ap (λ (x : Refusal). deleting_where (Err x)) is)

-- there is a right where one is found
pub is_found : {X : Type 0} (f : X → HeldView) (o : Option X) (r : Option HeldView) → is_some o ≡ true → option_map f o ≡ r → (h : HeldView) × (r ≡ Some h)
is_found f None r right e = absurd (cc right)
is_found f (Some x) r right e = (f x, sym e)

-- why a stored text may be refused
pub reading_refusal : (old new : ℕ) (e : Refusal) → ReadingCount old new e → (e ≡ Memory) ⊎ (e ≡ Device) ⊎ (e ≡ Damaged)
reading_refusal old new Memory counted = inl refl
reading_refusal old new Device counted = inr (inl refl)
reading_refusal old new Damaged counted = inr (inr refl)
reading_refusal old new _ counted = absurd counted

pub memory_is_not_gone : {e : Refusal} → e ≡ Memory → e ≢ Gone
memory_is_not_gone is gone = cc (is, gone)

-- a right that the session has is told, or memory was wanting
pub held_told : (from : Ground) (asked : Option ℕ) (v w : Seen) (old : List HeldView) (session t : ℕ) (given : Result Answer Refusal)
    → session ≡ v.session → IsAskedFor asked t → OnOk given (Holds old session t) → IfOk given (λ a. reply_of (Ok a) ≡ tells t) → IfErr given (λ e. e ≡ Memory)
    → ToldOpen from asked v w old old (reply_of given)
held_told from asked v w old session t (Ok a) own is held told wrong =
    let mine = subst (λ (s : ℕ). Holds old s t) own held in
    subst (λ (r : Reply). ToldOpen from asked v w old old r) (sym told) (ToldOpen.had t mine.0 is mine.1 refl)
held_told from asked v w old session t (Err e) own is held told wrong = ToldOpen.refused e (inr wrong) (λ none. memory_is_not_gone wrong) refl
