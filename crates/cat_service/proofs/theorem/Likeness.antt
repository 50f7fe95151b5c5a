-- What was told shows the writes and the holds of the run that fits.
use Rattle.std.proofs.Common.{inl, inr, suc, ◌≡◌, ◌≢◌, ◌⊎◌, ℕ, ◌<◌, List, [], ◌∷◌, ◌++◌, map, length, get_or, slice_index_or, refl, sym, ◌∙◌, ap, subst, append_assoc, append-nil, arith, codes}
use Rattle.std.specs.Prelude.{zero, Contains, Option, Some, Ok}
use Rattle.std.specs.List.{flat_map, filter_map, cons_option, AllByRecursion}
use Rattle.std.specs.Fmt.{decimal}
use Rattle.std.proofs.lemmas.List.Elements.{Contains-append_right, Contains-append_cases}
use Rattle.cat_model.specs.Text.{Text}
use Rattle.cat_model.specs.Item.{Schema}
use Rattle.cat_model.specs.Table.{Opened}
use Rattle.cat_model.specs.Answer.{Found}
use Rattle.cat_model.specs.Lines.{Said, spaced, spelling, line_text, reply_text, source_text, unreadable_text}
use Rattle.cat_model.specs.Run.{Command, Answer, Reply, Exchange, Run, Fits, FitsFrom}
use Rattle.cat_model.specs.Heard.{Json, Heard, Hears, IsCommand}
use Rattle.cat_model.specs.Served.{Outcome, heard, exchange, outcome_text, HeardAll}
use Rattle.cat_model.specs.Talk.{Pair, granted, AsksToWrite, IsWrite, ShowsHold, refusal_text, excepted_replies}
use Rattle.cat_model.proofs.TalkHeard.{Entry, pair, run_of, Heeded, heard_line}
use Rattle.cat_model.proofs.TalkDigits.{decimal_one_word}
use Rattle.cat_ledger_laws.specs.lines.RunLaws.{ReplyLike}
use Rattle.cat_model.specs.Serving.{IsLike, AreLike}
use Rattle.cat_service.proofs.theorem.Cuts.{Begun, told_begun}
use Rattle.cat_service.proofs.theorem.Sources.{NoSource, source_told, SaysGet, says_get}

-- ---- lines with what was told and what fits

pub record Both : Type 0 where
  pub line : Text
  pub told : Outcome
  pub fits : Outcome

abbrev pub as_fits : Both → Entry
as_fits b = record { line = b.line; told = b.fits }

-- what was shown
abbrev pub shown : Both → Pair
shown b = record { line = b.line; reply = outcome_text b.told }

-- what would have been shown
abbrev pub due : Both → Pair
due b = record { line = b.line; reply = outcome_text b.fits }

pub record Zipped (json : Json) (schema : Schema) (lines : List Text) (tolds fitting : List Outcome) : Type 0 where
  pub bs : List Both
  pub read : map (λ p. p.line) (map shown bs) ≡ lines
  pub replies : flat_map (λ p. p.reply) (map shown bs) ≡ flat_map outcome_text tolds
  pub run : run_of (map as_fits bs) ≡ filter_map exchange fitting
  pub heed : Heeded json schema (map as_fits bs)
  pub like : AllByRecursion (λ b. IsLike b.told b.fits) bs
  pub same : tolds ≡ fitting → AllByRecursion (λ b. b.told ≡ b.fits) bs

like_heard : (t f : Outcome) → IsLike t f → heard t ≡ heard f
like_heard Outcome.unreadable Outcome.unreadable a = refl
like_heard Outcome.unreadable (Outcome.replied y) a = absurd a
like_heard (Outcome.replied x) Outcome.unreadable a = absurd a
like_heard (Outcome.replied x) (Outcome.replied y) a = ap Heard.a_line a.0

pub zipped : (json : Json) (schema : Schema) (ls : List Text) (ts fs : List Outcome) → HeardAll json schema ls ts → AreLike ts fs → Zipped json schema ls ts fs
zipped json schema [] [] [] h a = record { bs = []; read = refl; replies = refl; run = refl; heed = tt; like = tt; same = λ e. tt }
zipped json schema [] [] (f ∷ fs) h a = absurd a
zipped json schema [] (t ∷ ts) fs h a = absurd h
zipped json schema (l ∷ ls) [] fs h a = absurd h
zipped json schema (l ∷ ls) (t ∷ ts) [] h a = absurd a
zipped json schema (l ∷ ls) (t ∷ ts) (f ∷ fs) h a =
    let z = zipped json schema ls ts fs h.1 a.1 in
    record {
      bs = record { line = l; told = t; fits = f } ∷ z.bs;
      read = ap (λ xs. l ∷ xs) z.read;
      replies = ap (λ xs. outcome_text t ++ xs) z.replies;
      run = ap (λ xs. cons_option (exchange f) xs) z.run;
      heed = (subst (Hears json schema l) (like_heard t f a.0) h.0, z.heed);
      like = (a.0, z.like);
      same = λ e. (cc e, z.same (cc e));
    }

pub each_begun : (bs : List Both) → AllByRecursion (λ p. Begun p.reply) (map shown bs)
each_begun [] = tt
each_begun (b ∷ bs) = (told_begun b.told, each_begun bs)

pub due_pairs : (bs : List Both) → map pair (map as_fits bs) ≡ map due bs
due_pairs [] = refl
due_pairs (b ∷ bs) = ap (λ ps. due b ∷ ps) (due_pairs bs)

-- ---- where the two differ

-- a text of an item, and another one of its length
pub record Longs (r o : Reply) : Type 0 where
  pub one : Text
  pub other : Text
  pub size : length one ≡ length other
  pub is : r ≡ Ok (Answer.found (Found.source (Some one)))
  pub fits : o ≡ Ok (Answer.found (Found.source (Some other)))

pub alike_cases : (r o : Reply) → ReplyLike r o → (r ≡ o) ⊎ Longs r o
alike_cases (Ok (Answer.found (Found.source (Some a)))) (Ok (Answer.found (Found.source (Some b)))) h = inr (record { one = a; other = b; size = h; is = refl; fits = refl })
alike_cases r o h = inl h

-- each reply of the run fits some run before it
abbrev pub FitsSome : Opened → Both → Type 0
FitsSome from b = (x : Exchange) → b.fits ≡ Outcome.replied x → (past : Run) × Fits from past x

pub fit_some : (from : Opened) (past : Run) (bs : List Both) → FitsFrom from past (run_of (map as_fits bs)) → AllByRecursion (FitsSome from) bs
fit_some from past [] f = tt
fit_some from past (b ∷ bs) f = by (λ p g. fit_some from p bs g) b.fits refl f
  where
    same : (x y : Exchange) → Outcome.replied x ≡ Outcome.replied y → x ≡ y
    same x y e = cc e

    by : ((p : Run) → FitsFrom from p (run_of (map as_fits bs)) → AllByRecursion (FitsSome from) bs)
        → (o : Outcome) → b.fits ≡ o → FitsFrom from past (cons_option (exchange o) (run_of (map as_fits bs))) → FitsSome from b × AllByRecursion (FitsSome from) bs
    by rest Outcome.unreadable is g = ((λ x e. absurd (let k : Outcome.unreadable ≡ Outcome.replied x = sym is ∙ e in cc k)), rest past g)
    by rest (Outcome.replied y) is g = ((λ x e. (past, subst (Fits from past) (same y x (sym is ∙ e)) g.0)), rest (past ++ y ∷ []) g.1)

-- what stands behind two words
pub behind_word : (a b r q : Text) → AllByRecursion (λ c. c ≢ 32) a → AllByRecursion (λ c. c ≢ 32) b → a ++ 32 ∷ r ≡ b ++ 32 ∷ q → r ≡ q
behind_word [] [] r q na nb e = cc e
behind_word [] (y ∷ b) r q na nb e = absurd (nb.0 (cc e))
behind_word (x ∷ a) [] r q na nb e = absurd (na.0 (cc e))
behind_word (x ∷ a) (y ∷ b) r q na nb e = behind_word a b r q na.1 nb.1 (cc e)

-- no line but a GET is told something else than fits
abbrev pub Calm : Both → Type 0
Calm b = (s : ℕ) (text : Text) → b.line ≡ decimal s ++ 32 ∷ text → get_or text 0 0 ≢ 71 → b.told ≡ b.fits

get_begins : (said : Said) → SaysGet said → get_or (spaced (spelling said)) 0 0 ≡ 71
get_begins said g = ap (λ d. get_or (spaced (spelling d)) 0 0) g.is

module _ (json : Json) (from : Opened) where
  calm : (b : Both) → Hears json from.start.schema b.line (heard b.fits) → FitsSome from b → IsLike b.told b.fits → Calm b
  calm b h f like s text line letter = by b.told b.fits refl refl like
    where
      hushed : (x y : Exchange) → b.fits ≡ Outcome.replied y → Longs x.reply y.reply → ⊥
      hushed x y is l =
          let p = f y is in
          elim (source_told from p.0 y.line.session y.line.command y.reply p.1) [
            | inl none ↦ subst NoSource l.fits none
            | inr get ↦ elim (heard_line json from.start.schema b.line (heard b.fits) y.line h (ap heard is)) [
              | inl so ↦
                  let g : SaysGet so.said = says_get json from.start.schema so.said get.token get.id (subst (IsCommand json from.start.schema so.said) get.is so.is) in
                  let rest : so.spells.rest ≡ text = behind_word (decimal y.line.session) (decimal s) so.spells.rest text (decimal_one_word y.line.session) (decimal_one_word s) (sym so.spells.session_first ∙ line) in
                  letter (ap (λ t. get_or t 0 0) (sym rest ∙ so.spells.says.spelled) ∙ get_begins so.said g)
              | inr nothing ↦ let k : Command.read get.token (Rattle.cat_model.specs.Answer.Read.get get.id) ≡ Command.formless = sym get.is ∙ nothing.is in absurd (cc k)
            ]
          ]

      by : (t o : Outcome) → b.told ≡ t → b.fits ≡ o → IsLike t o → t ≡ o
      by Outcome.unreadable Outcome.unreadable p q a = refl
      by Outcome.unreadable (Outcome.replied y) p q a = absurd a
      by (Outcome.replied x) Outcome.unreadable p q a = absurd a
      by (Outcome.replied x) (Outcome.replied y) p q a = elim (alike_cases x.reply y.reply a.1) [
        | inl e ↦ let l : x.line ≡ y.line = a.0 in λ i. Outcome.replied (record { line = l i; reply = e i })
        | inr l ↦ absurd (hushed x y q l)
      ]

  pub all_calm : (bs : List Both) → Heeded json from.start.schema (map as_fits bs) → AllByRecursion (FitsSome from) bs → AllByRecursion (λ b. IsLike b.told b.fits) bs → AllByRecursion Calm bs
  all_calm [] h f a = tt
  all_calm (b ∷ bs) h f a = (calm b h.0 f.0 a.0, all_calm bs h.1 f.1 a.1)

-- ---- places

pub record IsPlaced {X : Type 0} (f : X → Pair) (xs : List X) (a : List Pair) (p : Pair) (b : List Pair) : Type 0 where
  pub past : List X
  pub here : X
  pub later : List X
  pub whole : xs ≡ past ++ here ∷ later
  pub past_is : map f past ≡ a
  pub here_is : f here ≡ p
  pub later_is : map f later ≡ b

pub placed : {X : Type 0} (f : X → Pair) (xs : List X) (a : List Pair) (p : Pair) (b : List Pair) → map f xs ≡ a ++ p ∷ b → IsPlaced f xs a p b
placed f [] [] p b e = absurd (cc e)
placed f [] (q ∷ a) p b e = absurd (cc e)
placed f (x ∷ xs) [] p b e = record { past = []; here = x; later = xs; whole = refl; past_is = refl; here_is = cc e; later_is = cc e }
placed f (x ∷ xs) (q ∷ a) p b e =
    let rest : IsPlaced f xs a p b = placed f xs a p b (cc e) in
    let head : f x ≡ q = cc e in
    record { past = x ∷ rest.past; here = rest.here; later = rest.later; whole = ap (λ ys. x ∷ ys) {y = rest.past ++ rest.here ∷ rest.later} rest.whole; past_is = (λ i. head i ∷ rest.past_is i); here_is = rest.here_is; later_is = rest.later_is }

pub map_place : {X Y : Type 0} (f : X → Y) (past : List X) (x : X) (later : List X) → map f (past ++ x ∷ later) ≡ map f past ++ f x ∷ map f later
map_place f [] x later = refl
map_place f (y ∷ past) x later = ap (λ ys. f y ∷ ys) (map_place f past x later)

pub split_all : {X : Type 0} (P : X → Type 0) (xs ys : List X) → AllByRecursion P (xs ++ ys) → AllByRecursion P xs × AllByRecursion P ys
split_all P [] ys a = (tt, a)
split_all P (x ∷ xs) ys a = let rest = split_all P xs ys a.1 in ((a.0, rest.0), rest.1)

-- ---- a pair that both show

alone : (q p : Pair) (i : ℕ) → i < length (q ∷ []) → slice_index_or (q ∷ []) i p ≡ p → q ≡ p
alone q p zero h e = e
alone q p (suc i) h e = absurd (omega (arith, h))

moved : (bs : List Both) (p : Pair) → AllByRecursion (λ b. due b ≡ p → shown b ≡ p) bs → Contains (map due bs) p → Contains (map shown bs) p
moved [] p a c = absurd (omega (arith, c.1))
moved (b ∷ bs) p a c = elim (Contains-append_cases (due b ∷ []) (map due bs) p c) [
  | inl one ↦ (0, omega arith, a.0 (alone (due b) p one.0 one.1 one.2))
  | inr more ↦ Contains-append_right (shown b ∷ []) (map shown bs) p (moved bs p a.1 more)
]

shown_due : (b : Both) → b.told ≡ b.fits → shown b ≡ due b
shown_due b e = λ i. record { line = b.line; reply = outcome_text (e i) }

kept_granted : (bs : List Both) (s n : ℕ) (text : Text) → get_or text 0 0 ≢ 71 → AllByRecursion Calm bs → AllByRecursion (λ b. due b ≡ granted s text n → shown b ≡ granted s text n) bs
kept_granted [] s n text letter a = tt
kept_granted (b ∷ bs) s n text letter a = ((λ e. shown_due b (a.0 s text (ap (λ p. p.line) e) letter) ∙ e), kept_granted bs s n text letter a.1)

pub granted_shown : (bs : List Both) (s n : ℕ) (text : Text) → get_or text 0 0 ≢ 71 → AllByRecursion Calm bs → Contains (map due bs) (granted s text n) → Contains (map shown bs) (granted s text n)
granted_shown bs s n text letter a c = moved bs (granted s text n) (kept_granted bs s n text letter a) c

write_letter : (text argument : Text) → AsksToWrite text argument → get_or text 0 0 ≢ 71
write_letter text argument (AsksToWrite.put e) k = omega (arith, k, ap (λ t. get_or t 0 0) e)
write_letter text argument (AsksToWrite.delete e) k = omega (arith, k, ap (λ t. get_or t 0 0) e)
write_letter text argument (AsksToWrite.delete_where e) k = omega (arith, k, ap (λ t. get_or t 0 0) e)

pub write_shown : (bs : List Both) (n : ℕ) (text : Text) → AllByRecursion Calm bs → IsWrite (map due bs) n text → IsWrite (map shown bs) n text
write_shown bs n text a w = record {
  session = w.session;
  argument = w.argument;
  command = w.command;
  stands = granted_shown bs w.session n text (write_letter text w.argument w.command) a w.stands;
}

-- ---- a hold that both show

open_letter : (t : ℕ) (text : Text) → (text ≡ codes "OPEN") ⊎ (text ≡ codes "OPEN " ++ decimal t) → get_or text 0 0 ≢ 71
open_letter t text (inl e) k = omega (arith, k, ap (λ t. get_or t 0 0) e)
open_letter t text (inr e) k = omega (arith, k, ap (λ t. get_or t 0 0) e)

pub hold_due : (bs : List Both) (s t : ℕ) → AllByRecursion Calm bs → ShowsHold (map shown bs) s t → ShowsHold (map due bs) s t
hold_due bs s t a h =
    let p : IsPlaced shown bs h.before (granted s h.text t) h.since = placed shown bs h.before (granted s h.text t) h.since h.split in
    let calms = split_all Calm p.past (p.here ∷ p.later) (subst (AllByRecursion Calm) p.whole a) in
    let same : p.here.told ≡ p.here.fits = calms.1.0 s h.text (ap (λ q. q.line) p.here_is) (open_letter t h.text h.command) in
    let here : due p.here ≡ granted s h.text t = sym (shown_due p.here same) ∙ p.here_is in
    record {
      before = map due p.past;
      since = map due p.later;
      text = h.text;
      command = h.command;
      split = ap (map due) p.whole ∙ map_place due p.past p.here p.later ∙ ap (λ q. map due p.past ++ q ∷ map due p.later) here;
      kept = λ c. h.kept (subst (λ ps. Contains ps (granted s (codes "CLOSE " ++ decimal t) t)) p.later_is (granted_shown p.later s t (codes "CLOSE " ++ decimal t) (λ e. omega (arith, e)) calms.1.1 c));
    }

-- ---- a stop that neither is

ok_head : (v : ℕ) (o : Option Text) → reply_text v (Ok (Answer.found (Found.source o))) ≡ decimal v ++ 32 ∷ (codes "OK" ++ 32 ∷ (source_text o ++ 10 ∷ []))
ok_head v o = append-nil (line_text (decimal v ∷ codes "OK" ∷ source_text o ∷ [])) ∙ append_assoc (decimal v) (32 ∷ (codes "OK" ++ 32 ∷ source_text o)) (10 ∷ [])

no_stop : (v s n : ℕ) (o : Option Text) → reply_text v (Ok (Answer.found (Found.source o))) ≢ refusal_text s n
no_stop v s n o e =
    let no : refusal_text s n ≡ decimal s ++ 32 ∷ (codes "NO" ++ 32 ∷ (decimal n ++ 10 ∷ [])) = append_assoc (decimal s) (32 ∷ (codes "NO" ++ 32 ∷ decimal n)) (10 ∷ []) in
    let same : codes "OK" ++ 32 ∷ (source_text o ++ 10 ∷ []) ≡ codes "NO" ++ 32 ∷ (decimal n ++ 10 ∷ []) = behind_word (decimal v) (decimal s) _ _ (decimal_one_word v) (decimal_one_word s) (sym (ok_head v o) ∙ e ∙ no) in
    omega (arith, ap (λ t. get_or t 0 0) same)

no_question : (v : ℕ) (o : Option Text) → reply_text v (Ok (Answer.found (Found.source o))) ≢ unreadable_text
no_question v o e =
    let same : codes "OK" ++ 32 ∷ (source_text o ++ 10 ∷ []) ≡ codes "NO 10\n" = behind_word (decimal v) (codes "?") _ (codes "NO 10\n") (decimal_one_word v) ((λ k. omega (arith, k)), tt) (sym (ok_head v o) ∙ e) in
    omega (arith, ap (λ t. get_or t 0 0) same)

pub source_no_stop : (v s : ℕ) (o : Option Text) → AllByRecursion (λ stop. reply_text v (Ok (Answer.found (Found.source o))) ≢ stop) (excepted_replies s)
source_no_stop v s o = (no_question v o, (no_stop v s 30 o, (no_stop v s 31 o, (no_stop v s 40 o, tt))))
