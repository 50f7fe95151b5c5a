-- A hold that the bytes show is a hold of the run.
use Rattle.std.proofs.Common.{inl, inr, ◌≡◌, ◌≢◌, ◌⊎◌, ℕ, ◌+◌, ◌≤◌, ◌<◌, ◌^◌, List, [], ◌∷◌, ◌++◌, map, length, ltb, refl, sym, ◌∙◌, ap, subst, append_assoc, append-nil, arith, codes, eq-eqb}
use Rattle.std.specs.Prelude.{Contains, Option, None, Some, Ok, Err, true, false, Bool, cond, ◌==◌}
use Rattle.std.specs.Option.{unwrap_or}
use Rattle.std.specs.List.{filter_map, cons_option, last_or, AllByRecursion}
use Rattle.std.specs.Fmt.{decimal}
use Rattle.std.proofs.lemmas.Fmt.{decimal_injective}
use Rattle.std.proofs.lemmas.List.{length-append}
use Rattle.std.proofs.lemmas.List.Elements.{filter_map-append, Contains-append_right}
use Rattle.std.proofs.lemmas.Bool.Decides.{nat_tests}
use Rattle.cat_base.specs.declared.refusal.Refusal.{Refusal}
use Rattle.cat_base.specs.declared.refusal.Refusal.TheVariants.{Gone, Spent, NotHeld}
use Rattle.cat_model.specs.Text.{Text}
use Rattle.cat_model.specs.Item.{Schema}
use Rattle.cat_model.specs.Write.{Write}
use Rattle.cat_model.specs.Table.{Opened}
use Rattle.cat_model.specs.Lines.{Said, spaced, spelling, line_text, reply_text, HasForm}
use Rattle.cat_model.specs.Run.{Command, Answer, Reply, Exchange, Run, accepted, accepted_by, writes, now, hold_by, holds, has, view_tokens, greatest, Answers, Stops, Fits, FitsFrom, IsRun}
use Rattle.cat_model.specs.State.{hold_change}
use Rattle.cat_model.specs.Limits.{last_number}
use Rattle.cat_model.specs.Heard.{Json, Hears, IsCommand}
use Rattle.cat_model.specs.Served.{Outcome, heard, exchange, outcome_text}
use Rattle.cat_model.specs.Laws.{IsBounded}
use Rattle.cat_model.specs.Talk.{granted, ShowsHold}
use Rattle.cat_model.proofs.Runs.{answered, greatest_up_to, writes-push, bounded, FitsFrom-split}
use Rattle.cat_model.proofs.TalkCuts.{same_line}
use Rattle.cat_model.proofs.TalkDigits.{decimal_one_line}
use Rattle.cat_model.proofs.TalkHeard.{IsPlace, place_of, Entry, pair, exchanged, run_of, Heeded, heard_line, Understood, understood, no_ok, session_readable, told_decimal}

-- ---- numbers of writes

given_number : (b : Bool) (m : ℕ) (a : Answer) (e : Refusal) → ◌≡◌ {A = Reply} (Ok a) (cond b (Ok (Answer.number m)) (Err e)) → (b ≡ true) × (a ≡ Answer.number m)
given_number true m a e h = (refl, cc h)
given_number false m a e h = absurd (cc h)

-- an accepted write is told the next number
pub record IsNext (from : Opened) (past : Run) (r : Reply) : Type 0 where
  pub low : now from.start past < last_number
  pub told : r ≡ Ok (Answer.number (now from.start past + 1))

next_number : (from : Opened) (past : Run) (a : Answer) → ◌≡◌ {A = Reply} (Ok a) (cond (ltb (now from.start past) last_number) (Ok (Answer.number (now from.start past + 1))) (Err Spent)) → IsNext from past (Ok a)
next_number from past a h =
    let g = given_number (ltb (now from.start past) last_number) (now from.start past + 1) a Spent h in
    record { low = grind (arith, nat_tests, g.0); told = ap (λ x. Ok x) g.1 }

pub accepted_fits : (from : Opened) (past : Run) (s : ℕ) (c : Command) (r : Reply) (w : Write) → Answers from past s c r ⊎ Stops from past s c r → accepted_by c r ≡ Some w → IsNext from past r
accepted_fits from past s (Command.put (Ok i)) (Ok a) w f e = next_number from past a (answered from past s (Command.put (Ok i)) a f)
accepted_fits from past s (Command.delete (Ok id)) (Ok a) w f e = next_number from past a (answered from past s (Command.delete (Ok id)) a f)
accepted_fits from past s (Command.delete_where (Ok q)) (Ok a) w f e = next_number from past a (answered from past s (Command.delete_where (Ok q)) a f)
accepted_fits from past s _ _ w f e = absurd (cc e)

-- there are no more writes than numbers
now_step : (from : Opened) (past : Run) (x : Exchange) → now from.start past ≤ last_number → Fits from past x → now from.start (past ++ x ∷ []) ≤ last_number
now_step from past x h f = by (accepted x) refl
  where
    by : (o : Option Write) → accepted x ≡ o → now from.start (past ++ x ∷ []) ≤ last_number
    by None e =
        let ws : writes (past ++ x ∷ []) ≡ writes past = writes-push past x ∙ ap (λ o. writes past ++ cons_option o []) e ∙ append-nil (writes past) in
        omega (arith, h, ap (λ v. length v) ws)
    by (Some w) e =
        let ws : writes (past ++ x ∷ []) ≡ writes past ++ w ∷ [] = writes-push past x ∙ ap (λ o. writes past ++ cons_option o []) e in
        let next : IsNext from past x.reply = accepted_fits from past x.line.session x.line.command x.reply w f e in
        omega (arith, next.low, ap (λ v. length v) ws, length-append (writes past) (w ∷ []))

pub now_low : (from : Opened) (past run : Run) → now from.start past ≤ last_number → FitsFrom from past run → now from.start (past ++ run) ≤ last_number
now_low from past [] h f = subst (λ p. now from.start p ≤ last_number) (sym (append-nil past)) h
now_low from past (x ∷ run) h f = subst (λ p. now from.start p ≤ last_number) (append_assoc past (x ∷ []) run) (now_low from (past ++ x ∷ []) run (now_step from past x h f.0) f.1)

-- ---- the OPEN

opens_newest : (from : Opened) (past : Run) (v s t : ℕ) (r : Reply) → s ≤ 9999 → t < 2 ^ 63 → greatest (view_tokens from.start past) ≤ last_number
    → Answers from past v Command.open_newest r ⊎ Stops from past v Command.open_newest r
    → reply_text s r ≡ line_text (decimal s ∷ codes "OK" ∷ decimal t ∷ []) → hold_by t Command.open_newest r ≡ Some true
opens_newest from past v s t (Err e) hs ht low f k = absurd (no_ok s e (decimal t ∷ []) hs k)
opens_newest from past v s t (Ok (Answer.number u)) hs ht low f k =
    let is : ◌≡◌ {A = Reply} (Ok (Answer.number u)) (Ok (Answer.number (greatest (view_tokens from.start past)))) = answered from past v Command.open_newest (Answer.number u) f in
    let newest : u ≡ greatest (view_tokens from.start past) = cc is in
    let same : u ≡ t = decimal_injective u t (omega (arith, newest, low)) (omega (arith, ht)) (same_text (told_decimal s u (decimal t) hs k)) in
    let yes : (u == t) ≡ true = eq-eqb u t same in
    ap (λ b. cond b (Some true) None) yes
  where
    same_text : decimal u ++ 10 ∷ [] ≡ decimal t ++ 10 ∷ [] → decimal u ≡ decimal t
    same_text e = (same_line (decimal u) (decimal t) [] [] (decimal_one_line u) (decimal_one_line t) e).0
opens_newest from past v s t (Ok a) hs ht low f k =
    let is : ◌≡◌ {A = Reply} (Ok a) (Ok (Answer.number (greatest (view_tokens from.start past)))) = answered from past v Command.open_newest a f in absurd (cc is)

opens_at : (from : Opened) (past : Run) (v s t : ℕ) (r : Reply) → s ≤ 9999
    → Answers from past v (Command.open_at t) r ⊎ Stops from past v (Command.open_at t) r
    → reply_text s r ≡ line_text (decimal s ∷ codes "OK" ∷ decimal t ∷ []) → hold_by t (Command.open_at t) r ≡ Some true
opens_at from past v s t (Err e) hs f k = absurd (no_ok s e (decimal t ∷ []) hs k)
opens_at from past v s t (Ok a) hs f k =
    let is : (has (view_tokens from.start past) t ≡ true) × (a ≡ Answer.number t) = given_number (has (view_tokens from.start past) t) t a Gone (answered from past v (Command.open_at t) a f) in
    ap (λ x. hold_by t (Command.open_at t) (Ok x)) is.1 ∙ ap (λ b. cond b (Some true) None) (eq-eqb t t refl)

-- ---- the CLOSE

closes : (b : Bool) (o : Option Bool) → cond b o None ≡ Some false → (b ≡ true) × (o ≡ Some false)
closes true o e = (refl, e)
closes false o e = absurd (cc e)

record IsClosed (t : ℕ) (c : Command) (r : Reply) : Type 0 where
  answer : Answer
  command : c ≡ Command.close t
  reply : r ≡ Ok answer

never_false : (b : Bool) → cond b (Some true) None ≡ Some false → ⊥
never_false true e = absurd (cc e)
never_false false e = absurd (cc e)

closed_by : (t : ℕ) (c : Command) (r : Reply) → hold_by t c r ≡ Some false → IsClosed t c r
closed_by t Command.open_newest (Ok (Answer.number u)) e = absurd (never_false (u == t) e)
closed_by t (Command.open_at v) (Ok (Answer.number u)) e = absurd (never_false (u == t) e)
closed_by t (Command.close u) (Ok a) e =
    let same : u ≡ t = grind (arith, nat_tests, (closes (u == t) (Some false) e).0) in
    record { answer = a; command = ap Command.close same; reply = refl }
closed_by t _ _ e = absurd (cc e)

-- what says a CLOSE
says_close : (json : Json) (schema : Schema) (said : Said) (t : ℕ) → IsCommand json schema said (Command.close t) → said ≡ Said.close t
says_close json schema (Said.put text) t is = absurd (cc is)
says_close json schema (Said.delete text) t is = absurd (cc is)
says_close json schema (Said.delete_where text) t is = let e = is.2 in absurd (cc e)
says_close json schema Said.refresh t is = absurd (cc is)
says_close json schema Said.open_newest t is = absurd (cc is)
says_close json schema (Said.open_at u) t is = absurd (cc is)
says_close json schema (Said.close u) t is = ap Said.close (cc is)
says_close json schema (Said.find u n sort mark text) t is = let e = is.2 in absurd (cc e)
says_close json schema (Said.facets u dim n text) t is = let e = is.2 in absurd (cc e)
says_close json schema (Said.get u text) t is = absurd (cc is)
says_close json schema (Said.files_of_token u) t is = absurd (cc is)
says_close json schema (Said.files_of_commit g) t is = absurd (cc is)
says_close json schema (Said.commit text) t is = absurd (cc is)
says_close json schema (Said.text_of_commit g) t is = absurd (cc is)
says_close json schema Said.snapshot t is = absurd (cc is)
says_close json schema (Said.release_snapshot g) t is = absurd (cc is)
says_close json schema (Said.prune n) t is = absurd (cc is)
says_close json schema (Said.chore c) t is = absurd (cc is)

module _ (json : Json) (from : Opened) where
  -- the pair of an exchange that ends a hold
  closing : (past : Run) (e : Entry) (x : Exchange) (s t : ℕ) → Hears json from.start.schema e.line (heard e.told) → Fits from past x → e.told ≡ Outcome.replied x → hold_change s t x ≡ Some false → pair e ≡ granted s (codes "CLOSE " ++ decimal t) t
  closing past e x s t h f is changes =
      let ends : ((x.line.session == s) ≡ true) × (hold_by t x.line.command x.reply ≡ Some false) = closes (x.line.session == s) (hold_by t x.line.command x.reply) changes in
      let same : x.line.session ≡ s = grind (arith, nat_tests, ends.0) in
      let c : IsClosed t x.line.command x.reply = closed_by t x.line.command x.reply ends.1 in
      let told : c.answer ≡ Answer.number t = number_told c in
      elim (heard_line json from.start.schema e.line (heard e.told) x.line h (ap heard is)) [
        | inl so ↦
            let said : so.said ≡ Said.close t = says_close json from.start.schema so.said t (subst (IsCommand json from.start.schema so.said) c.command so.is) in
            let line : e.line ≡ decimal s ++ 32 ∷ spaced (spelling (Said.close t)) =
            so.spells.session_first ∙ (λ i. decimal (same i) ++ 32 ∷ so.spells.rest) ∙ ap (λ r. decimal s ++ 32 ∷ r) (so.spells.says.spelled ∙ ap (λ d. spaced (spelling d)) said) in
            let reply : outcome_text e.told ≡ line_text (decimal s ∷ codes "OK" ∷ decimal t ∷ []) =
            ap outcome_text is ∙ (λ i. reply_text (same i) (c.reply i)) ∙ ap (λ a. reply_text s (Ok a)) told ∙ append-nil (line_text (decimal s ∷ codes "OK" ∷ decimal t ∷ [])) in
            λ i. record { line = line i; reply = reply i }
        | inr nothing ↦ absurd (let k : Command.close t ≡ Command.formless = sym c.command ∙ nothing.is in cc k)
      ]
    where
      number_told : (c : IsClosed t x.line.command x.reply) → c.answer ≡ Answer.number t
      number_told c =
          let fits : Answers from past x.line.session (Command.close t) (Ok c.answer) ⊎ Stops from past x.line.session (Command.close t) (Ok c.answer) =
          subst (λ r. Answers from past x.line.session (Command.close t) r ⊎ Stops from past x.line.session (Command.close t) r) c.reply (subst (λ d. Answers from past x.line.session d x.reply ⊎ Stops from past x.line.session d x.reply) c.command f) in
          (given_number (holds x.line.session t past) t c.answer NotHeld (answered from past x.line.session (Command.close t) c.answer fits)).1

  -- where no pair ends the hold, no exchange does
  kept_on : (past : Run) (es : List Entry) (s t : ℕ) → Heeded json from.start.schema es → FitsFrom from past (run_of es) → (Contains (map pair es) (granted s (codes "CLOSE " ++ decimal t) t) → ⊥) → AllByRecursion (λ x. hold_change s t x ≢ Some false) (run_of es)
  kept_on past [] s t h f never = tt
  kept_on past (e ∷ es) s t h f never = by (λ p g. kept_on p es s t h.1 g later) e.told refl f
    where
      later : Contains (map pair es) (granted s (codes "CLOSE " ++ decimal t) t) → ⊥
      later c = never (Contains-append_right (pair e ∷ []) (map pair es) _ c)

      by : ((p : Run) → FitsFrom from p (run_of es) → AllByRecursion (λ x. hold_change s t x ≢ Some false) (run_of es)) → (told : Outcome) → e.told ≡ told → FitsFrom from past (cons_option (exchange told) (run_of es)) → AllByRecursion (λ x. hold_change s t x ≢ Some false) (cons_option (exchange told) (run_of es))
      by rest Outcome.unreadable is g = rest past g
      by rest (Outcome.replied x) is g = (λ ends. never (here (closing past e x s t h.0 g.0 is ends)), rest (past ++ x ∷ []) g.1)
        where
          here : pair e ≡ granted s (codes "CLOSE " ++ decimal t) t → Contains (map pair (e ∷ es)) (granted s (codes "CLOSE " ++ decimal t) t)
          here k = (0, omega arith, k)

  -- the exchange of the OPEN
  record IsOpened (e : Entry) (s t : ℕ) : Type 0 where
    x : Exchange
    told : e.told ≡ Outcome.replied x
    begins : hold_change s t x ≡ Some true

  -- the run up to an entry, where its exchange fits
  FitsAt : Run → Entry → Type 0
  FitsAt past e = (x : Exchange) → e.told ≡ Outcome.replied x → Fits from past x

  -- an exchange that says an OPEN, and is told its token
  opening_as : (past : Run) (e : Entry) (s t : ℕ) (said : Said) → s ≤ 9999 → HasForm said → Hears json from.start.schema e.line (heard e.told) → FitsAt past e
      → e.line ≡ decimal s ++ 32 ∷ spaced (spelling said) → outcome_text e.told ≡ line_text (decimal s ∷ codes "OK" ∷ decimal t ∷ [])
      → ((v : ℕ) (c : Command) (r : Reply) → IsCommand json from.start.schema said c → Answers from past v c r ⊎ Stops from past v c r → reply_text s r ≡ line_text (decimal s ∷ codes "OK" ∷ decimal t ∷ []) → hold_by t c r ≡ Some true)
      → IsOpened e s t
  unfolding FitsAt
  opening_as past e s t said hs form h f line reply begins =
      let u : Understood json from.start.schema e s said =
      understood json from.start.schema e s said h (record { small = hs; rest = spaced (spelling said); session_first = line; says = record { form = form; spelled = refl } }) (λ k. session_readable s (codes "OK") (decimal t ∷ []) hs (sym reply ∙ k)) in
      let yes : (u.x.line.session == s) ≡ true = eq-eqb u.x.line.session s u.session in
      let said_reply : reply_text s u.x.reply ≡ line_text (decimal s ∷ codes "OK" ∷ decimal t ∷ []) = ap (λ v. reply_text v u.x.reply) (sym u.session) ∙ ap outcome_text (sym u.told) ∙ reply in
      record {
        x = u.x;
        told = u.told;
        begins = ap (λ b. cond b (hold_by t u.x.line.command u.x.reply) None) yes ∙ begins u.x.line.session u.x.line.command u.x.reply u.is (f u.x u.told) said_reply;
      }

  opening : (past : Run) (e : Entry) (s t : ℕ) (text : Text) → s ≤ 9999 → t < 2 ^ 63 → greatest (view_tokens from.start past) ≤ last_number
      → Hears json from.start.schema e.line (heard e.told) → FitsAt past e → pair e ≡ granted s text t → (text ≡ codes "OPEN") ⊎ (text ≡ codes "OPEN " ++ decimal t) → IsOpened e s t
  opening past e s t text hs ht low h f is (inl o) =
      opening_as past e s t Said.open_newest hs tt h f (ap (λ p. p.line) is ∙ ap (λ v. decimal s ++ 32 ∷ v) o) (ap (λ p. p.reply) is)
      (λ v c r said fits k. ap (λ d. hold_by t d r) said ∙ opens_newest from past v s t r hs ht low (subst (λ d. Answers from past v d r ⊎ Stops from past v d r) said fits) k)
  opening past e s t text hs ht low h f is (inr o) =
      opening_as past e s t (Said.open_at t) hs (omega (arith, ht)) h f (ap (λ p. p.line) is ∙ ap (λ v. decimal s ++ 32 ∷ v) o) (ap (λ p. p.reply) is)
      (λ v c r said fits k. ap (λ d. hold_by t d r) said ∙ opens_at from past v s t r hs (subst (λ d. Answers from past v d r ⊎ Stops from past v d r) said fits) k)

  -- the run of a list of entries around one of them
  pub run_place : (past later : List Entry) (e : Entry) (x : Exchange) → e.told ≡ Outcome.replied x → run_of (past ++ e ∷ later) ≡ run_of past ++ x ∷ run_of later
  run_place past later e x is = filter_map-append exchanged past (e ∷ later) ∙ ap (λ told. run_of past ++ cons_option (exchange told) (run_of later)) is

-- the last change of a hold begins it
last_or-last : {A : Type 0} (o : Option A) (xs ys : List A) (x : A) → last_or o (xs ++ x ∷ ys) ≡ last_or (Some x) ys
last_or-last o [] ys x = refl
last_or-last o (y ∷ xs) ys x = last_or-last (Some y) xs ys x

stays : (s t : ℕ) (run : Run) → AllByRecursion (λ x. hold_change s t x ≢ Some false) run → unwrap_or (last_or (Some true) (filter_map (hold_change s t) run)) false ≡ true
stays s t [] a = refl
stays s t (x ∷ run) a = by (stays s t run a.1) (hold_change s t x) a.0
  where
    by : unwrap_or (last_or (Some true) (filter_map (hold_change s t) run)) false ≡ true → (o : Option Bool) → o ≢ Some false → unwrap_or (last_or (Some true) (cons_option o (filter_map (hold_change s t) run))) false ≡ true
    by rest None h = rest
    by rest (Some true) h = rest
    by rest (Some false) h = absurd (h refl)

held_on : (s t : ℕ) (past : Run) (x : Exchange) (since : Run) → hold_change s t x ≡ Some true → AllByRecursion (λ y. hold_change s t y ≢ Some false) since → holds s t (past ++ x ∷ since) ≡ true
held_on s t past x since e a =
    ap (λ l. unwrap_or (last_or None l) false) (filter_map-append (hold_change s t) past (x ∷ since) ∙ ap (λ o. filter_map (hold_change s t) past ++ cons_option o (filter_map (hold_change s t) since)) e)
    ∙ ap (λ o. unwrap_or o false) (last_or-last None (filter_map (hold_change s t) past) (filter_map (hold_change s t) since) true)
    ∙ stays s t since a

pub all_split : {X : Type 0} (P : X → Type 0) (xs ys : List X) → AllByRecursion P (xs ++ ys) → AllByRecursion P xs × AllByRecursion P ys
all_split P [] ys a = (tt, a)
all_split P (x ∷ xs) ys a = let rest = all_split P xs ys a.1 in ((a.0, rest.0), rest.1)

module _ (json : Json) (from : Opened) where
  -- the run before an entry and from it on
  pub around : (past later : List Entry) (e : Entry) → IsRun from (run_of (past ++ e ∷ later)) → IsRun from (run_of past) × FitsFrom from (run_of past) (run_of (e ∷ later))
  around past later e f = FitsFrom-split from [] (run_of past) (run_of (e ∷ later)) (subst (IsRun from) (filter_map-append exchanged past (e ∷ later)) f)

  pub fits_from : (past later : List Entry) (e : Entry) (x : Exchange) → e.told ≡ Outcome.replied x → FitsFrom from (run_of past) (run_of (e ∷ later)) → Fits from (run_of past) x × FitsFrom from (run_of past ++ x ∷ []) (run_of later)
  fits_from past later e x is f = subst (λ told. FitsFrom from (run_of past) (cons_option (exchange told) (run_of later))) is f

  -- a hold that the bytes show
  pub held_in : (es : List Entry) (s t : ℕ) → s ≤ 9999 → t < 2 ^ 63 → from.start.token ≤ last_number → Heeded json from.start.schema es → IsRun from (run_of es) → ShowsHold (map pair es) s t → holds s t (run_of es) ≡ true
  unfolding FitsAt
  held_in es s t hs ht small h f hold =
      let p : IsPlace es hold.before (granted s hold.text t) hold.since = place_of es hold.before (granted s hold.text t) hold.since hold.split in
      let heed = all_split _ p.past (p.here ∷ p.later) (subst (Heeded json from.start.schema) p.whole h) in
      let runs = around p.past p.later p.here (subst (λ v. IsRun from (run_of v)) p.whole f) in
      let bound : IsBounded from.start (run_of p.past) = bounded from (run_of p.past) runs.0 in
      let most : now from.start (run_of p.past) ≤ last_number = now_low from [] (run_of p.past) (omega (arith, small)) runs.0 in
      let low : greatest (view_tokens from.start (run_of p.past)) ≤ last_number = omega (arith, most, greatest_up_to (now from.start (run_of p.past)) (view_tokens from.start (run_of p.past)) bound.recorded) in
      let o = opening json from (run_of p.past) p.here s t hold.text hs ht low heed.1.0 (λ x told. (fits_from p.past p.later p.here x told runs.1).0) p.here_is hold.command in
      let kept = kept_on json from (run_of p.past ++ o.x ∷ []) p.later s t heed.1.1 (fits_from p.past p.later p.here o.x o.told runs.1).1 (λ c. hold.kept (subst (λ ps. Contains ps (granted s (codes "CLOSE " ++ decimal t) t)) p.later_is c)) in
      ap (holds s t) (ap run_of p.whole ∙ run_place json from p.past p.later p.here o.x o.told) ∙ held_on s t (run_of p.past) o.x (run_of p.later) o.begins kept
