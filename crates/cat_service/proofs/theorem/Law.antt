-- Two calls that begin alike, and whose writes agree up to t, answer alike under t.
use Rattle.std.proofs.Common.{inl, inr, ◌≡◌, ◌≢◌, ◌⊎◌, ℕ, ◌+◌, ◌-◌, ◌≤◌, ◌<◌, ◌^◌, List, [], ◌∷◌, ◌++◌, map, length, true, refl, sym, ◌∙◌, ap, subst, append_assoc, append-nil, arith, codes, take}
use Rattle.std.specs.Prelude.{IsTrue, Result, Some, Ok, Err}
use Rattle.std.specs.List.{flat_map, AllByRecursion}
use Rattle.std.specs.Fmt.{decimal}
use Rattle.std.proofs.lemmas.List.{length-append}
use Rattle.cat_base.specs.declared.refusal.Refusal.{Refusal}
use Rattle.cat_base.specs.declared.refusal.Refusal.TheVariants.{Memory, Device, Damaged}
use Rattle.cat_model.specs.Text.{Text, IsOneLine}
use Rattle.cat_model.specs.Item.{Schema, Record}
use Rattle.cat_model.specs.Write.{Write}
use Rattle.cat_model.specs.Table.{Opened, count, table, writes_up_to}
use Rattle.cat_model.specs.Answer.{Found, Read, answer}
use Rattle.cat_model.specs.Lines.{Said, SpellsSaid, spaced, answer_words, source_text, refusal_words, line_text, reply_text, unreadable_text}
use Rattle.cat_model.specs.Run.{Answer, Command, Reply, Exchange, Run, writes, now, holds, may_refuse, found_reply, IsRun, Fits}
use Rattle.cat_model.specs.Limits.{last_number}
use Rattle.cat_model.specs.Heard.{Json, IsCommand, id_of}
use Rattle.cat_model.specs.Served.{Outcome, outcome_text}
use Rattle.cat_model.specs.Laws.{HeldRead}
use Rattle.cat_model.specs.Talk.{AreAlike, Pair, IsTalk, IsWrite, WritesAgree, ReadsUnder, HeldAsk, ShowsHold, excepted_replies}
use Rattle.cat_model.proofs.Runs.{held_read_is_of_its_table, held_reads_agree, held_low, held_writes}
use Rattle.cat_model.proofs.Sayings.{one_command}
use Rattle.cat_model.proofs.TalkCuts.{same_line}
use Rattle.cat_model.proofs.TalkDigits.{decimal_one_line, decimal_starts, not_letter}
use Rattle.cat_model.proofs.TalkHeard.{Entry, pair, run_of, Heeded, Understood, understood}
use Rattle.cat_model.proofs.TalkHolds.{around, run_place, held_in}
use Rattle.cat_model.proofs.TalkWrites.{Makes, Stands, writes_stand, makes_one, take_same}
use Rattle.cat_model.proofs.TalkLines.{Shown, lines_said, said_lines, reply_lines}
use Rattle.cat_ledger_laws.specs.lines.RunLaws.{ReplyLike}
use Rattle.cat_model.specs.Serving.{IsLike}
use Rattle.cat_model.specs.Calls.{SayTheSame, SayAsLong, Agree}
use Rattle.cat_service.proofs.theorem.Told.{IsSaid, PartRecord, ReadsAgreeSo, ReadsAgreeWhere}
use Rattle.cat_service.proofs.theorem.Cuts.{cut_one_way}
use Rattle.cat_service.proofs.theorem.Shown.{page_told, facets_told, tables_part}
use Rattle.cat_service.proofs.theorem.Sources.{NoSource, source_told, SaysGet, says_get}
use Rattle.cat_service.proofs.theorem.Likeness.{Both, as_fits, shown, Zipped, zipped, each_begun, due_pairs, Longs, alike_cases, Calm, FitsSome, fit_some, all_calm, IsPlaced, placed, map_place, split_all, write_shown, hold_due, source_no_stop}

-- what is said is a FIND or a FACETS
abbrev Searches : Said → Type 0
Searches (Said.find u n sort mark query) = Unit {0}
Searches (Said.facets u dim n query) = Unit {0}
Searches _ = ⊥

-- ---- a read

record ReadsSo (c : Command) (t : ℕ) : Type 0 where
  asked : Read
  command : c ≡ Command.read t asked

reads_as : (json : Json) (schema : Schema) (t : ℕ) (said : Said) (c : Command) → ReadsUnder t said → IsCommand json schema said c → ReadsSo c t
reads_as json schema t (Said.find u n sort mark text) c h is = record { asked = Read.find n sort mark is.0; command = is.2 ∙ ap (λ v. Command.read v (Read.find n sort mark is.0)) h }
reads_as json schema t (Said.facets u dim n text) c h is = record { asked = Read.facets dim n is.0; command = is.2 ∙ ap (λ v. Command.read v (Read.facets dim n is.0)) h }
reads_as json schema t (Said.get u text) c h is = record { asked = Read.get (id_of text); command = is ∙ ap (λ v. Command.read v (Read.get (id_of text))) h }
reads_as json schema t _ c h is = absurd h

token_small : (t : ℕ) (said : Said) (text : Text) → ReadsUnder t said → SpellsSaid text said → t < 2 ^ 63
token_small t (Said.find u n sort mark query) text h a = omega (arith, h, a.form.0)
token_small t (Said.facets u dim n query) text h a = omega (arith, h, a.form.0)
token_small t (Said.get u id) text h a = omega (arith, h, a.form)
token_small t _ text h a = absurd h

stopped : (s t : ℕ) (asked : Read) (e : Refusal) → IsTrue (may_refuse (Command.read t asked) e) → AllByRecursion (λ stop. reply_text s (Err e) ≢ stop) (excepted_replies s) → ⊥
stopped s t asked Memory h a = a.1.1.1.0 refl
stopped s t (Read.get id) Device h a = a.1.0 refl
stopped s t (Read.get id) Damaged h a = a.1.1.0 refl
stopped s t (Read.get id) e h a = absurd (cc h)
stopped s t (Read.find n sort mark query) e h a = absurd (cc h)
stopped s t (Read.facets dim n query) e h a = absurd (cc h)

-- ---- the read of a talk, in the run that fits

record IsAsked (json : Json) (from : Opened) (bs : List Both) (tells : Type 0) (t s : ℕ) (reply : Text) (said : Said) : Type 0 where
  x : Exchange
  told : Reply
  past : List Entry
  later : List Entry
  is : IsCommand json from.start.schema said x.line.command
  split : run_of (map as_fits bs) ≡ run_of past ++ x ∷ run_of later
  held : holds x.line.session t (run_of past) ≡ true
  text : reply ≡ reply_text s told
  like : ReplyLike told x.reply
  same : tells → told ≡ x.reply
  fits : (some : Run) × Fits from some x
  undisturbed : AllByRecursion (λ stop. reply_text s x.reply ≢ stop) (excepted_replies s)

-- what was told where this fits
record Heeds (o : Outcome) (x : Exchange) : Type 0 where
  w : Exchange
  told : o ≡ Outcome.replied w
  line : w.line ≡ x.line
  like : ReplyLike w.reply x.reply

heeds : (o f : Outcome) (x : Exchange) → f ≡ Outcome.replied x → IsLike o f → Heeds o x
heeds Outcome.unreadable Outcome.unreadable x e a = absurd (cc e)
heeds Outcome.unreadable (Outcome.replied y) x e a = absurd a
heeds (Outcome.replied w) Outcome.unreadable x e a = absurd a
heeds (Outcome.replied w) (Outcome.replied y) x e a =
    let same : y ≡ x = same_exchange y x e in
    record { w = w; told = refl; line = a.0 ∙ ap (λ (z : Exchange). z.line) same; like = subst (λ (z : Exchange). ReplyLike w.reply z.reply) same a.1 }
  where
    same_exchange : (a b : Exchange) → Outcome.replied a ≡ Outcome.replied b → a ≡ b
    same_exchange a b e = cc e

-- no stop fits where none was told
undisturbed_fits : (s : ℕ) (told fits : Reply) → ReplyLike told fits → AllByRecursion (λ stop. reply_text s told ≢ stop) (excepted_replies s) → AllByRecursion (λ stop. reply_text s fits ≢ stop) (excepted_replies s)
undisturbed_fits s told fits like a = elim (alike_cases told fits like) [
  | inl e ↦ subst (λ r. AllByRecursion (λ stop. reply_text s r ≢ stop) (excepted_replies s)) e a
  | inr l ↦ subst (λ r. AllByRecursion (λ stop. reply_text s r ≢ stop) (excepted_replies s)) (sym l.fits) (source_no_stop s s (Some l.other))
]

replied_readable : (o f : Outcome) → IsLike o f → outcome_text o ≢ unreadable_text → (x : Exchange) × (f ≡ Outcome.replied x)
replied_readable Outcome.unreadable f a h = absurd (h refl)
replied_readable (Outcome.replied w) Outcome.unreadable a h = absurd a
replied_readable (Outcome.replied w) (Outcome.replied y) a h = (y, refl)

-- a reply to a session isn't that to a line that can't be read
question : (v : ℕ) (w : Text) (ws : List Text) (r : Text) → line_text (decimal v ∷ w ∷ ws) ++ r ≢ unreadable_text
question v w ws r e = not_letter (decimal v) ((32 ∷ spaced (w ∷ ws)) ++ (10 ∷ r)) (codes " NO 10\n") 63 (decimal_starts v) (omega arith) (sym (append_assoc (decimal v) (32 ∷ spaced (w ∷ ws)) (10 ∷ r)) ∙ sym (append_assoc (decimal v ++ 32 ∷ spaced (w ∷ ws)) (10 ∷ []) r) ∙ e)

readable : (x : Exchange) → outcome_text (Outcome.replied x) ≢ unreadable_text
readable x e = by x.reply e
  where
    by : (r : Reply) → reply_text x.line.session r ≢ unreadable_text
    by (Ok a) k = question x.line.session (codes "OK") (answer_words a) _ k
    by (Err b) k = question x.line.session (codes "NO") (refusal_words b) [] (append-nil (line_text (decimal x.line.session ∷ codes "NO" ∷ refusal_words b)) ∙ k)

module _ (json : Json) (from : Opened) (tells : Type 0) where
  asked_in : (bs : List Both) (t s : ℕ) (text reply : Text) (said : Said)
      → from.start.token ≤ last_number → Heeded json from.start.schema (map as_fits bs) → IsRun from (run_of (map as_fits bs))
      → AllByRecursion (λ b. IsLike b.told b.fits) bs → (tells → AllByRecursion (λ b. b.told ≡ b.fits) bs)
      → SpellsSaid text said → ReadsUnder t said → HeldAsk (map shown bs) t s text reply → IsAsked json from bs tells t s reply said
  asked_in bs t s text reply said low heed is_run like same spells under a =
      let ask : Pair = record { line = decimal s ++ 32 ∷ text; reply = reply } in
      let p : IsPlaced shown bs a.past ask a.later = placed shown bs a.past ask a.later a.split in
      let es : List Entry = map as_fits bs in
      let past : List Entry = map as_fits p.past in
      let later : List Entry = map as_fits p.later in
      let here : Entry = as_fits p.here in
      let whole : es ≡ past ++ here ∷ later = ap (map as_fits) p.whole ∙ map_place as_fits p.past p.here p.later in
      let some : AllByRecursion (FitsSome from) bs = fit_some from [] bs is_run in
      let calms = split_all Calm p.past (p.here ∷ p.later) (subst (AllByRecursion Calm) p.whole (all_calm json from bs heed some like)) in
      let somes = split_all (FitsSome from) p.past (p.here ∷ p.later) (subst (AllByRecursion (FitsSome from)) p.whole some) in
      let likes = split_all (λ b. IsLike b.told b.fits) p.past (p.here ∷ p.later) (subst (AllByRecursion (λ b. IsLike b.told b.fits)) p.whole like) in
      let heeds_all = split_all _ past (here ∷ later) (subst (Heeded json from.start.schema) whole heed) in
      let runs = around json from past later here (subst (λ v. IsRun from (run_of v)) whole is_run) in
      let line : here.line ≡ decimal s ++ 32 ∷ text = ap (λ q. q.line) p.here_is in
      let told : outcome_text p.here.told ≡ reply = ap (λ q. q.reply) p.here_is in
      let answered = replied_readable p.here.told p.here.fits likes.1.0 (λ k. a.undisturbed.0 (sym told ∙ k)) in
      let u : Understood json from.start.schema here s said =
      understood json from.start.schema here s said heeds_all.1.0 (record { small = a.small; rest = text; session_first = line; says = spells }) (λ k. readable answered.0 (ap outcome_text (sym answered.1) ∙ k)) in
      let w : Heeds p.here.told u.x = heeds p.here.told p.here.fits u.x u.told likes.1.0 in
      let session : w.w.line.session ≡ s = ap (λ (l : Rattle.cat_model.specs.Run.Line). l.session) w.line ∙ u.session in
      let said_reply : reply ≡ reply_text s w.w.reply = sym told ∙ ap outcome_text w.told ∙ ap (λ v. reply_text v w.w.reply) session in
      let held : holds s t (run_of past) ≡ true =
      held_in json from past s t a.small (token_small t said text under spells) low heeds_all.0 runs.0
      (subst (λ ps. ShowsHold ps s t) (sym (due_pairs p.past)) (hold_due p.past s t calms.0 (subst (λ ps. ShowsHold ps s t) (sym p.past_is) a.held))) in
      record {
        x = u.x;
        told = w.w.reply;
        past = past;
        later = later;
        is = u.is;
        split = ap run_of whole ∙ run_place json from past later here u.x u.told;
        held = ap (λ v. holds v t (run_of past)) u.session ∙ held;
        text = said_reply;
        like = w.like;
        same = λ y.
            let sames = split_all (λ b. b.told ≡ b.fits) p.past (p.here ∷ p.later) (subst (AllByRecursion (λ b. b.told ≡ b.fits)) p.whole (same y)) in
            same_reply w.w u.x (sym w.told ∙ sames.1.0 ∙ u.told);
        fits = somes.1.0 u.x u.told;
        undisturbed = undisturbed_fits s w.w.reply u.x.reply w.like (subst (λ r. AllByRecursion (λ stop. r ≢ stop) (excepted_replies s)) said_reply a.undisturbed);
      }
    where
      same_reply : (a b : Exchange) → Outcome.replied a ≡ Outcome.replied b → a.reply ≡ b.reply
      same_reply a b e = cc e

  held_read : (bs : List Both) (t s : ℕ) (reply : Text) (said : Said) (asked : Read) → IsRun from (run_of (map as_fits bs)) → (a : IsAsked json from bs tells t s reply said) → a.x.line.command ≡ Command.read t asked → HeldRead from (run_of (map as_fits bs)) t asked a.x.reply
  held_read bs t s reply said asked is_run a c = record {
    is_run = is_run;
    session = a.x.line.session;
    past = run_of a.past;
    later = run_of a.later;
    split = a.split ∙ (λ i. run_of a.past ++ record { line = record { session = a.x.line.session; command = c i }; reply = a.x.reply } ∷ run_of a.later);
    held = a.held;
    undisturbed = λ r. stopped s t asked r.0 r.2 (subst (λ x. AllByRecursion (λ stop. reply_text s x ≢ stop) (excepted_replies s)) r.1 a.undisturbed);
  }

-- ---- the writes

enough : (from : Opened) (run : Run) (t : ℕ) (asked : Read) (reply : Reply) (h : HeldRead from run t asked reply) → t ≤ count from.start (writes run)
enough from run t asked reply h =
    let rest : Run = record { line = record { session = h.session; command = Command.read t asked }; reply = reply } ∷ h.later in
    let ws : writes run ≡ writes h.past ++ writes rest = held_writes from run t asked reply h in
    omega (arith, held_low from run t asked reply h, ap (λ l. length l) ws, length-append (writes h.past) (writes rest))

same_writes : (json : Json) (one two : Opened) (es₁ es₂ : List Entry) (t : ℕ) → one.start ≡ two.start
    → Heeded json one.start.schema es₁ → Heeded json two.start.schema es₂ → IsRun one (run_of es₁) → IsRun two (run_of es₂)
    → t ≤ count one.start (writes (run_of es₁)) → t ≤ count two.start (writes (run_of es₂)) → WritesAgree t (map pair es₁) (map pair es₂)
    → writes_up_to one.start (writes (run_of es₁)) t ≡ writes_up_to two.start (writes (run_of es₂)) t
same_writes json one two es₁ es₂ t same heed₁ heed₂ run₁ run₂ most₁ most₂ agree =
    let tokens : one.start.token ≡ two.start.token = ap (λ s. s.token) same in
    take_same (t - one.start.token) (writes (run_of es₁)) (writes (run_of es₂)) (omega (arith, most₁)) (omega (arith, most₂, tokens)) each
    ∙ ap (λ n. take (t - n) (writes (run_of es₂))) tokens
  where
    each : (a b c d : List Write) (x y : Write) → writes (run_of es₁) ≡ a ++ x ∷ b → writes (run_of es₂) ≡ c ++ y ∷ d → length a ≡ length c → length a < t - one.start.token → x ≡ y
    each a b c d x y p q sizes small =
        let first : Stands json one.start.schema es₁ (now one.start [] + 1 + length a) x = writes_stand json one [] es₁ heed₁ run₁ a b x p in
        let second : Stands json two.start.schema es₂ (now two.start [] + 1 + length c) y = writes_stand json two [] es₂ heed₂ run₂ c d y q in
        let numbers : now two.start [] + 1 + length c ≡ now one.start [] + 1 + length a = omega (arith, sizes, ap (λ s. s.token) same) in
        let texts : first.text ≡ second.text = agree (now one.start [] + 1 + length a) first.text second.text (omega (arith, small)) first.written (subst (λ n. IsWrite (map pair es₂) n second.text) numbers second.written) in
        makes_one json two.start.schema second.text x y (subst (λ v. Makes json two.start.schema v x) texts (subst (λ s. Makes json s.schema first.text x) same first.makes)) second.makes

-- ---- the talk

greeting : (t : ℕ) → IsOneLine (codes "OK" ++ 32 ∷ decimal t)
greeting t = (λ e. omega (arith, e), (λ e. omega (arith, e), (λ e. omega (arith, e), decimal_one_line t)))

greeted : (t : ℕ) (rest : Text) → line_text (codes "OK" ∷ decimal t ∷ []) ++ rest ≡ (codes "OK" ++ 32 ∷ decimal t) ++ 10 ∷ rest
greeted t rest = append_assoc (codes "OK" ++ 32 ∷ decimal t) (10 ∷ []) rest

pub talk_is : (json : Json) (tells : Type 0) (from : Opened) (first : Text) (lines : List Text) (text : Text) (one : IsSaid json tells from lines text)
    (z : Zipped json from.start.schema lines one.tolds one.fitting) (talk : List Pair) → IsTalk (first ∷ lines) text talk → talk ≡ map shown z.bs
talk_is json tells from first lines text one z talk t =
    let token : Text = codes "OK" ++ 32 ∷ decimal from.start.token in
    let here : Text = flat_map (λ p. p.reply) talk in
    let there : Text = flat_map (λ p. p.reply) (map shown z.bs) in
    let written : text ≡ token ++ 10 ∷ there = one.whole ∙ greeted from.start.token (flat_map outcome_text one.tolds) ∙ ap (λ r. token ++ 10 ∷ r) (sym z.replies) in
    let texts : here ≡ there = (same_line t.opening token here there t.one_line (greeting from.start.token) (sym t.written ∙ written)).1 in
    let read : lines ≡ map (λ p. p.line) talk = cc (t.read) in
    cut_one_way talk (map shown z.bs) t.replies (each_begun z.bs) (sym read ∙ sym z.read) texts

-- ---- what the replies have in common

alike_said : (s₁ s₂ : ℕ) (reply₁ reply₂ : Text) (r₁ r₂ : Reply) → reply₁ ≡ reply_text s₁ r₁ → reply₂ ≡ reply_text s₂ r₂ → r₁ ≡ r₂ → Shown r₁ → AreAlike s₁ s₂ reply₁ reply₂
alike_said s₁ s₂ reply₁ reply₂ r₁ r₂ one two same shown =
    record { lines = lines_said r₁; cut = said_lines r₁ shown; one = one ∙ reply_lines s₁ r₁; two = two ∙ ap (reply_text s₂) (sym same) ∙ reply_lines s₂ r₁ }

source_is : (a b : Text) → ◌≡◌ {A = Reply} (Ok (Answer.found (Found.source (Some a)))) (Ok (Answer.found (Found.source (Some b)))) → a ≡ b
source_is a b e = cc e

source_line : (s : ℕ) (a : Text) → reply_text s (Ok (Answer.found (Found.source (Some a)))) ≡ line_text (decimal s ∷ codes "OK" ∷ a ∷ [])
source_line s a = append-nil (line_text (decimal s ∷ codes "OK" ∷ a ∷ []))

-- a reply of one line
abbrev HasOneLine : Reply → Type 0
HasOneLine (Ok (Answer.found (Found.source o))) = Unit {0}
HasOneLine (Ok a) = ⊥
HasOneLine (Err e) = Unit {0}

one_line_of : (s : ℕ) (r : Reply) → HasOneLine r → (rest : Text) × ((v : ℕ) → reply_text v r ≡ decimal v ++ rest)
one_line_of s (Ok (Answer.found (Found.source o))) h =
    (32 ∷ (codes "OK" ++ 32 ∷ (source_text o ++ 10 ∷ [])), λ v. append-nil (line_text (decimal v ∷ codes "OK" ∷ source_text o ∷ [])) ∙ append_assoc (decimal v) (32 ∷ (codes "OK" ++ 32 ∷ source_text o)) (10 ∷ []))
one_line_of s (Ok a) h = absurd h
one_line_of s (Err e) h = (32 ∷ (spaced (codes "NO" ∷ refusal_words e) ++ 10 ∷ []), λ v. append_assoc (decimal v) (32 ∷ spaced (codes "NO" ∷ refusal_words e)) (10 ∷ []))

same_said : (s₁ s₂ : ℕ) (reply₁ reply₂ : Text) (r₁ r₂ : Reply) → reply₁ ≡ reply_text s₁ r₁ → reply₂ ≡ reply_text s₂ r₂ → r₁ ≡ r₂ → HasOneLine r₁ → SayTheSame s₁ s₂ reply₁ reply₂
same_said s₁ s₂ reply₁ reply₂ r₁ r₂ one two same h =
    let l = one_line_of s₁ r₁ h in
    record { rest = l.0; one = one ∙ l.1 s₁; two = two ∙ ap (reply_text s₂) (sym same) ∙ l.1 s₂ }

long_said : (s₁ s₂ : ℕ) (reply₁ reply₂ : Text) (r₁ r₂ f : Reply) → reply₁ ≡ reply_text s₁ r₁ → reply₂ ≡ reply_text s₂ r₂ → ReplyLike r₁ f → ReplyLike r₂ f → HasOneLine f → SayTheSame s₁ s₂ reply₁ reply₂ ⊎ SayAsLong s₁ s₂ reply₁ reply₂
long_said s₁ s₂ reply₁ reply₂ r₁ r₂ f one two a b h = by (alike_cases r₁ f a) (alike_cases r₂ f b)
  where
    as_long : (x y : Text) → length x ≡ length y → r₁ ≡ Ok (Answer.found (Found.source (Some x))) → r₂ ≡ Ok (Answer.found (Found.source (Some y))) → SayTheSame s₁ s₂ reply₁ reply₂ ⊎ SayAsLong s₁ s₂ reply₁ reply₂
    as_long x y size p q = inr (record { text₁ = x; text₂ = y; size = size; one = one ∙ ap (reply_text s₁) p ∙ source_line s₁ x; two = two ∙ ap (reply_text s₂) q ∙ source_line s₂ y })

    by : (r₁ ≡ f) ⊎ Longs r₁ f → (r₂ ≡ f) ⊎ Longs r₂ f → SayTheSame s₁ s₂ reply₁ reply₂ ⊎ SayAsLong s₁ s₂ reply₁ reply₂
    by (inl p) (inl q) = inl (same_said s₁ s₂ reply₁ reply₂ r₁ r₂ one two (p ∙ sym q) (subst HasOneLine (sym p) h))
    by (inl p) (inr l) = as_long l.other l.one (sym l.size) (p ∙ l.fits) l.is
    by (inr k) (inl q) = as_long k.one k.other k.size k.is (q ∙ k.fits)
    by (inr k) (inr l) = let same : k.other ≡ l.other = source_is k.other l.other (sym k.fits ∙ l.fits) in as_long k.one l.one (k.size ∙ ap length same ∙ sym l.size) k.is l.is

no_search : (said : Said) → Searches said → SaysGet said → ⊥
no_search said a g = subst Searches g.is a

-- what is told to a FIND or a FACETS is what fits
search_same : (json : Json) (from : Opened) (said : Said) (x : Exchange) (told : Reply) → Searches said → IsCommand json from.start.schema said x.line.command → (some : Run) × Fits from some x → ReplyLike told x.reply → told ≡ x.reply
search_same json from said x told searches is fits like = elim (alike_cases told x.reply like) [
  | inl e ↦ e
  | inr l ↦ elim (source_told from fits.0 x.line.session x.line.command x.reply fits.1) [
    | inl none ↦ absurd (subst NoSource l.fits none)
    | inr get ↦ absurd (no_search said searches (says_get json from.start.schema said get.token get.id (subst (IsCommand json from.start.schema said) get.is is)))
  ]
]

get_one_line : (schema : Schema) (rs : List Record) (r : Result Text Refusal) → HasOneLine (found_reply (answer schema rs (Read.get r)))
get_one_line schema rs (Ok id) = tt
get_one_line schema rs (Err e) = tt

each_line : (bs : List Both) (lines : List Text) → map (λ p. p.line) (map shown bs) ≡ lines → AllByRecursion IsOneLine lines → AllByRecursion (λ e. IsOneLine e.line) (map as_fits bs)
each_line [] lines e a = tt
each_line (b ∷ bs) [] e a = absurd (cc e)
each_line (b ∷ bs) (l ∷ lines) e a = let same : l ≡ b.line = cc (sym e) in (subst IsOneLine same a.0, each_line bs lines (cc e) a.1)

-- what two reads of one kind have in common, where one reply fits both
module _ (json : Json) (tells₁ tells₂ : Type 0) (from₁ from₂ : Opened) (bs₁ bs₂ : List Both) (t s₁ s₂ : ℕ) (reply₁ reply₂ : Text) where
  Common : Said → Type 0
  Common said = (rs : List Record) → AllByRecursion PartRecord rs
      → (a₁ : IsAsked json from₁ bs₁ tells₁ t s₁ reply₁ said) (a₂ : IsAsked json from₂ bs₂ tells₂ t s₂ reply₂ said)
      → a₁.x.reply ≡ a₂.x.reply → ((asked : Read) → a₁.x.line.command ≡ Command.read t asked → a₁.x.reply ≡ found_reply (answer from₁.start.schema rs asked))
      → Agree tells₁ tells₂ said s₁ s₂ reply₁ reply₂

  search : (said : Said) (asked : Read) (rs : List Record) → Searches said → Shown (found_reply (answer from₁.start.schema rs asked))
      → (a₁ : IsAsked json from₁ bs₁ tells₁ t s₁ reply₁ said) (a₂ : IsAsked json from₂ bs₂ tells₂ t s₂ reply₂ said)
      → a₁.x.reply ≡ a₂.x.reply → a₁.x.reply ≡ found_reply (answer from₁.start.schema rs asked) → AreAlike s₁ s₂ reply₁ reply₂
  search said asked rs searches shown a₁ a₂ replies is =
      let one : a₁.told ≡ a₁.x.reply = search_same json from₁ said a₁.x a₁.told searches a₁.is a₁.fits a₁.like in
      let two : a₂.told ≡ a₂.x.reply = search_same json from₂ said a₂.x a₂.told searches a₂.is a₂.fits a₂.like in
      alike_said s₁ s₂ reply₁ reply₂ a₁.told a₂.told a₁.text a₂.text (one ∙ replies ∙ sym two) (subst Shown (sym (one ∙ is)) shown)

  common : (said : Said) → ReadsUnder t said → Common said
  unfolding Common
  common (Said.find u n sort mark text) under rs part a₁ a₂ replies is =
      let asked : Read = Read.find n sort mark a₁.is.0 in
      search (Said.find u n sort mark text) asked rs tt (page_told from₁.start.schema rs n sort mark a₁.is.0 part) a₁ a₂ replies (is asked (a₁.is.2 ∙ ap (λ v. Command.read v asked) under))
  common (Said.facets u dim n text) under rs part a₁ a₂ replies is =
      let asked : Read = Read.facets dim n a₁.is.0 in
      search (Said.facets u dim n text) asked rs tt (facets_told from₁.start.schema rs dim n a₁.is.0 part) a₁ a₂ replies (is asked (a₁.is.2 ∙ ap (λ v. Command.read v asked) under))
  common (Said.get u text) under rs part a₁ a₂ replies is =
      let asked : Read = Read.get (id_of text) in
      let whole : HasOneLine a₁.x.reply = subst HasOneLine (sym (is asked (a₁.is ∙ ap (λ v. Command.read v asked) under))) (get_one_line from₁.start.schema rs (id_of text)) in (
        (λ y₁ y₂. same_said s₁ s₂ reply₁ reply₂ a₁.told a₂.told a₁.text a₂.text (a₁.same y₁ ∙ replies ∙ sym (a₂.same y₂)) (subst HasOneLine (sym (a₁.same y₁)) whole)),
        long_said s₁ s₂ reply₁ reply₂ a₁.told a₂.told a₁.x.reply a₁.text a₂.text a₁.like (subst (ReplyLike a₂.told) (sym replies) a₂.like) whole,
      )
  common _ under rs part a₁ a₂ replies is = absurd under

-- ---- the law

pub reads_agree : (tells₁ tells₂ : Type 0) → ReadsAgreeSo tells₁ tells₂
unfolding Common
reads_agree tells₁ tells₂ json from₁ from₂ first₁ first₂ lines₁ lines₂ text₁ text₂ reads one two same talk₁ talk₂ cut₁ cut₂ t s₁ s₂ text reply₁ reply₂ agree r ask₁ ask₂ =
    let said = r.said in
    let z₁ : Zipped json from₁.start.schema lines₁ one.tolds one.fitting = zipped json from₁.start.schema lines₁ one.tolds one.fitting one.heard_all one.alike in
    let z₂ : Zipped json from₂.start.schema lines₂ two.tolds two.fitting = zipped json from₂.start.schema lines₂ two.tolds two.fitting two.heard_all two.alike in
    let is₁ : talk₁ ≡ map shown z₁.bs = talk_is json tells₁ from₁ first₁ lines₁ text₁ one z₁ talk₁ cut₁ in
    let is₂ : talk₂ ≡ map shown z₂.bs = talk_is json tells₂ from₂ first₂ lines₂ text₂ two z₂ talk₂ cut₂ in
    let es₁ : List Entry = map as_fits z₁.bs in
    let es₂ : List Entry = map as_fits z₂.bs in
    let run₁ : IsRun from₁ (run_of es₁) = subst (IsRun from₁) (sym z₁.run) one.is_run in
    let run₂ : IsRun from₂ (run_of es₂) = subst (IsRun from₂) (sym z₂.run) two.is_run in
    let calm₁ = all_calm json from₁ z₁.bs z₁.heed (fit_some from₁ [] z₁.bs run₁) z₁.like in
    let calm₂ = all_calm json from₂ z₂.bs z₂.heed (fit_some from₂ [] z₂.bs run₂) z₂.like in
    let a₁ : IsAsked json from₁ z₁.bs tells₁ t s₁ reply₁ said =
    asked_in json from₁ tells₁ z₁.bs t s₁ text reply₁ said one.token z₁.heed run₁ z₁.like (λ y. z₁.same (one.same y)) r.spells r.under (subst (λ ps. HeldAsk ps t s₁ text reply₁) is₁ ask₁) in
    let a₂ : IsAsked json from₂ z₂.bs tells₂ t s₂ reply₂ said =
    asked_in json from₂ tells₂ z₂.bs t s₂ text reply₂ said two.token z₂.heed run₂ z₂.like (λ y. z₂.same (two.same y)) r.spells r.under (subst (λ ps. HeldAsk ps t s₂ text reply₂) is₂ ask₂) in
    let read : ReadsSo a₂.x.line.command t = reads_as json from₂.start.schema t said a₂.x.line.command r.under a₂.is in
    let commands : a₁.x.line.command ≡ a₂.x.line.command =
    one_command json from₂.start.schema said a₁.x.line.command a₂.x.line.command two.schema (subst (λ s. IsCommand json s.schema said a₁.x.line.command) same a₁.is) a₂.is in
    let held₁ = held_read json from₁ tells₁ z₁.bs t s₁ reply₁ said read.asked run₁ a₁ (commands ∙ read.command) in
    let held₂ = held_read json from₂ tells₂ z₂.bs t s₂ reply₂ said read.asked run₂ a₂ read.command in
    let writes_due : WritesAgree t (map pair es₁) (map pair es₂) =
    λ n v₁ v₂ low w₁ w₂. agree n v₁ v₂ low
    (subst (λ ps. IsWrite ps n v₁) (sym is₁) (write_shown z₁.bs n v₁ calm₁ (subst (λ ps. IsWrite ps n v₁) (due_pairs z₁.bs) w₁)))
    (subst (λ ps. IsWrite ps n v₂) (sym is₂) (write_shown z₂.bs n v₂ calm₂ (subst (λ ps. IsWrite ps n v₂) (due_pairs z₂.bs) w₂))) in
    let up : writes_up_to from₁.start (writes (run_of es₁)) t ≡ writes_up_to from₂.start (writes (run_of es₂)) t =
    same_writes json from₁ from₂ es₁ es₂ t same z₁.heed z₂.heed run₁ run₂
    (enough from₁ (run_of es₁) t read.asked a₁.x.reply held₁) (enough from₂ (run_of es₂) t read.asked a₂.x.reply held₂) writes_due in
    let replies : a₁.x.reply ≡ a₂.x.reply = held_reads_agree from₁ from₂ (run_of es₁) (run_of es₂) t read.asked a₁.x.reply a₂.x.reply same up held₁ held₂ in
    let own : (asked : Read) → a₁.x.line.command ≡ Command.read t asked → a₁.x.reply ≡ found_reply (answer from₁.start.schema (table from₁.start (writes (run_of es₁)) t) asked) =
    λ asked c. held_read_is_of_its_table from₁ (run_of es₁) t asked a₁.x.reply (held_read json from₁ tells₁ z₁.bs t s₁ reply₁ said asked run₁ a₁ c) in
    common json tells₁ tells₂ from₁ from₂ z₁.bs z₂.bs t s₁ s₂ reply₁ reply₂ said r.under (table from₁.start (writes (run_of es₁)) t)
    (tables_part json from₁ reads one.schema es₁ t one.records z₁.heed (each_line z₁.bs lines₁ z₁.read one.one_lines)) a₁ a₂ replies own

-- the same where the tables at t are known to be equal
pub reads_agree_where : (tells₁ tells₂ : Type 0) → ReadsAgreeWhere tells₁ tells₂
unfolding Common
reads_agree_where tells₁ tells₂ json from₁ from₂ first₁ first₂ lines₁ lines₂ text₁ text₂ reads one two schemas talk₁ talk₂ cut₁ cut₂ t s₁ s₂ text reply₁ reply₂ tables r ask₁ ask₂ =
    let said = r.said in
    let z₁ : Zipped json from₁.start.schema lines₁ one.tolds one.fitting = zipped json from₁.start.schema lines₁ one.tolds one.fitting one.heard_all one.alike in
    let z₂ : Zipped json from₂.start.schema lines₂ two.tolds two.fitting = zipped json from₂.start.schema lines₂ two.tolds two.fitting two.heard_all two.alike in
    let is₁ : talk₁ ≡ map shown z₁.bs = talk_is json tells₁ from₁ first₁ lines₁ text₁ one z₁ talk₁ cut₁ in
    let is₂ : talk₂ ≡ map shown z₂.bs = talk_is json tells₂ from₂ first₂ lines₂ text₂ two z₂ talk₂ cut₂ in
    let es₁ : List Entry = map as_fits z₁.bs in
    let es₂ : List Entry = map as_fits z₂.bs in
    let run₁ : IsRun from₁ (run_of es₁) = subst (IsRun from₁) (sym z₁.run) one.is_run in
    let run₂ : IsRun from₂ (run_of es₂) = subst (IsRun from₂) (sym z₂.run) two.is_run in
    let a₁ : IsAsked json from₁ z₁.bs tells₁ t s₁ reply₁ said =
    asked_in json from₁ tells₁ z₁.bs t s₁ text reply₁ said one.token z₁.heed run₁ z₁.like (λ y. z₁.same (one.same y)) r.spells r.under (subst (λ ps. HeldAsk ps t s₁ text reply₁) is₁ ask₁) in
    let a₂ : IsAsked json from₂ z₂.bs tells₂ t s₂ reply₂ said =
    asked_in json from₂ tells₂ z₂.bs t s₂ text reply₂ said two.token z₂.heed run₂ z₂.like (λ y. z₂.same (two.same y)) r.spells r.under (subst (λ ps. HeldAsk ps t s₂ text reply₂) is₂ ask₂) in
    let read : ReadsSo a₂.x.line.command t = reads_as json from₂.start.schema t said a₂.x.line.command r.under a₂.is in
    let commands : a₁.x.line.command ≡ a₂.x.line.command =
    one_command json from₂.start.schema said a₁.x.line.command a₂.x.line.command two.schema (subst (λ s. IsCommand json s said a₁.x.line.command) schemas a₁.is) a₂.is in
    let held₁ = held_read json from₁ tells₁ z₁.bs t s₁ reply₁ said read.asked run₁ a₁ (commands ∙ read.command) in
    let held₂ = held_read json from₂ tells₂ z₂.bs t s₂ reply₂ said read.asked run₂ a₂ read.command in
    let tables_at : table from₁.start (writes (run_of es₁)) t ≡ table from₂.start (writes (run_of es₂)) t =
    ap (λ run. table from₁.start (writes run) t) z₁.run ∙ tables ∙ ap (λ run. table from₂.start (writes run) t) (sym z₂.run) in
    let replies : a₁.x.reply ≡ a₂.x.reply =
    held_read_is_of_its_table from₁ (run_of es₁) t read.asked a₁.x.reply held₁
    ∙ (λ i. found_reply (answer (schemas i) (tables_at i) read.asked))
    ∙ sym (held_read_is_of_its_table from₂ (run_of es₂) t read.asked a₂.x.reply held₂) in
    let own : (asked : Read) → a₁.x.line.command ≡ Command.read t asked → a₁.x.reply ≡ found_reply (answer from₁.start.schema (table from₁.start (writes (run_of es₁)) t) asked) =
    λ asked c. held_read_is_of_its_table from₁ (run_of es₁) t asked a₁.x.reply (held_read json from₁ tells₁ z₁.bs t s₁ reply₁ said asked run₁ a₁ c) in
    common json tells₁ tells₂ from₁ from₂ z₁.bs z₂.bs t s₁ s₂ reply₁ reply₂ said r.under (table from₁.start (writes (run_of es₁)) t)
    (tables_part json from₁ reads one.schema es₁ t one.records z₁.heed (each_line z₁.bs lines₁ z₁.read one.one_lines)) a₁ a₂ replies own
