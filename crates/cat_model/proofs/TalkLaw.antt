-- Two services that open alike, and whose writes agree up to t, answer alike under t.
use Rattle.std.proofs.Common.{◌≡◌, ◌≢◌, ℕ, ◌+◌, ◌-◌, ◌≤◌, ◌<◌, ◌^◌, List, [], ◌∷◌, ◌++◌, map, length, true, refl, sym, ◌∙◌, ap, subst, arith}
use Rattle.std.specs.Prelude.{IsTrue, Err}
use Rattle.std.specs.List.{AllByRecursion}
use Rattle.std.specs.Fmt.{decimal}
use Rattle.std.proofs.lemmas.List.{length-append}
use Rattle.cat_base.specs.declared.refusal.Refusal.{Refusal}
use Rattle.cat_base.specs.declared.refusal.Refusal.TheVariants.{Memory, Device, Damaged}
use Rattle.cat_model.specs.Text.{Text}
use Rattle.cat_model.specs.Item.{Schema}
use Rattle.cat_model.specs.Write.{Write}
use Rattle.cat_model.specs.Table.{Opened, count, writes_up_to}
use Rattle.cat_model.specs.Answer.{Read}
use Rattle.cat_model.specs.Lines.{Said, SpellsSaid, reply_text}
use Rattle.cat_model.specs.Run.{Command, Reply, Exchange, Run, writes, now, holds, may_refuse, IsRun}
use Rattle.cat_model.specs.Limits.{last_number}
use Rattle.cat_model.specs.Heard.{Json, IsCommand, id_of}
use Rattle.cat_model.specs.Served.{outcome_text}
use Rattle.cat_model.specs.Laws.{HeldRead}
use Rattle.cat_model.specs.Talk.{Pair, IsWrite, WritesAgree, ReadsUnder, HeldAsk, excepted_replies, TalksOfOneStartAgree}
use Rattle.cat_model.proofs.Runs.{held_reads_agree, held_low, held_writes}
use Rattle.cat_model.proofs.Sayings.{one_command}
use Rattle.cat_model.proofs.TalkHeard.{Entry, pair, run_of, Heeded, IsPlace, place_of, Understood, understood}
use Rattle.cat_model.proofs.TalkHolds.{all_split, around, run_place, held_in}
use Rattle.cat_model.proofs.TalkWrites.{Stands, writes_stand, makes_one, take_same}
use Rattle.cat_model.proofs.TalkLines.{Shown, lines_said, reply_lines, said_lines}
use Rattle.cat_model.proofs.TalkWhole.{ShownTold, Whole, whole_of}

-- ---- a read

-- what is read under t
record ReadsSo (c : Command) (t : ℕ) : Type 0 where
  asked : Read
  command : c ≡ Command.read t asked

reads_as : (json : Json) (schema : Schema) (t : ℕ) (said : Said) (c : Command) → ReadsUnder t said → IsCommand json schema said c → ReadsSo c t
reads_as json schema t (Said.find u n sort mark text) c h is = record { asked = Read.find n sort mark is.0; command = is.2 ∙ ap (λ v. Command.read v (Read.find n sort mark is.0)) h }
reads_as json schema t (Said.facets u dim n text) c h is = record { asked = Read.facets dim n is.0; command = is.2 ∙ ap (λ v. Command.read v (Read.facets dim n is.0)) h }
reads_as json schema t (Said.get u text) c h is = record { asked = Read.get (id_of text); command = is ∙ ap (λ v. Command.read v (Read.get (id_of text))) h }
reads_as json schema t _ c h is = absurd h

token_small : (t : ℕ) (said : Said) (text : Text) → ReadsUnder t said → SpellsSaid text said → t < 2 ^ 63
token_small t (Said.find u n sort mark query) text h a = omega (arith, h, a.form.0)
token_small t (Said.facets u dim n query) text h a = omega (arith, h, a.form.0)
token_small t (Said.get u id) text h a = omega (arith, h, a.form)
token_small t _ text h a = absurd h

-- a read is stopped by three refusals alone
stopped : (s t : ℕ) (asked : Read) (e : Refusal) → IsTrue (may_refuse (Command.read t asked) e) → AllByRecursion (λ stop. reply_text s (Err e) ≢ stop) (excepted_replies s) → ⊥
stopped s t asked Memory h a = a.1.1.1.0 refl
stopped s t (Read.get id) Device h a = a.1.0 refl
stopped s t (Read.get id) Damaged h a = a.1.1.0 refl
stopped s t (Read.get id) e h a = absurd (cc h)
stopped s t (Read.find n sort mark query) e h a = absurd (cc h)
stopped s t (Read.facets dim n query) e h a = absurd (cc h)

-- ---- the read of a talk, in its run

record IsAsked (json : Json) (from : Opened) (es : List Entry) (t s : ℕ) (reply : Text) (said : Said) : Type 0 where
  x : Exchange
  past : List Entry
  later : List Entry
  is : IsCommand json from.start.schema said x.line.command
  split : run_of es ≡ run_of past ++ x ∷ run_of later
  held : holds x.line.session t (run_of past) ≡ true
  text : reply ≡ reply_text s x.reply
  undisturbed : AllByRecursion (λ stop. reply_text s x.reply ≢ stop) (excepted_replies s)
  shown : Shown x.reply

asked_in : (json : Json) (from : Opened) (es : List Entry) (talk : List Pair) (t s : ℕ) (text reply : Text) (said : Said)
    → from.start.token ≤ last_number → Heeded json from.start.schema es → IsRun from (run_of es) → AllByRecursion (λ e. ShownTold e.told) es → talk ≡ map pair es
    → SpellsSaid text said → ReadsUnder t said → HeldAsk talk t s text reply → IsAsked json from es t s reply said
asked_in json from es talk t s text reply said low heed is_run shown is spells under a =
    let here : Pair = record { line = decimal s ++ 32 ∷ text; reply = reply } in
    let p : IsPlace es a.past here a.later = place_of es a.past here a.later (sym is ∙ a.split) in
    let heeds = all_split _ p.past (p.here ∷ p.later) (subst (Heeded json from.start.schema) p.whole heed) in
    let shows = all_split _ p.past (p.here ∷ p.later) (subst (AllByRecursion (λ e. ShownTold e.told)) p.whole shown) in
    let runs = around json from p.past p.later p.here (subst (λ v. IsRun from (run_of v)) p.whole is_run) in
    let line : p.here.line ≡ decimal s ++ 32 ∷ text = ap (λ q. q.line) p.here_is in
    let told : outcome_text p.here.told ≡ reply = ap (λ q. q.reply) p.here_is in
    let u : Understood json from.start.schema p.here s said =
    understood json from.start.schema p.here s said heeds.1.0 (record { small = a.small; rest = text; session_first = line; says = spells }) (λ k. a.undisturbed.0 (sym told ∙ k)) in
    let held : holds s t (run_of p.past) ≡ true = held_in json from p.past s t a.small (token_small t said text under spells) low heeds.0 runs.0 (subst (λ ps. Rattle.cat_model.specs.Talk.ShowsHold ps s t) (sym p.past_is) a.held) in
    let said_reply : reply ≡ reply_text s u.x.reply = sym told ∙ ap outcome_text u.told ∙ ap (λ v. reply_text v u.x.reply) u.session in
    record {
      x = u.x;
      past = p.past;
      later = p.later;
      is = u.is;
      split = ap run_of p.whole ∙ run_place json from p.past p.later p.here u.x u.told;
      held = ap (λ v. holds v t (run_of p.past)) u.session ∙ held;
      text = said_reply;
      undisturbed = subst (λ r. AllByRecursion (λ stop. r ≢ stop) (excepted_replies s)) said_reply a.undisturbed;
      shown = subst ShownTold u.told shows.1.0;
    }

held_read : (json : Json) (from : Opened) (es : List Entry) (t s : ℕ) (reply : Text) (said : Said) (asked : Read) → IsRun from (run_of es) → (a : IsAsked json from es t s reply said) → a.x.line.command ≡ Command.read t asked → HeldRead from (run_of es) t asked a.x.reply
held_read json from es t s reply said asked is_run a c = record {
  is_run = is_run;
  session = a.x.line.session;
  past = run_of a.past;
  later = run_of a.later;
  split = a.split ∙ (λ i. run_of a.past ++ record { line = record { session = a.x.line.session; command = c i }; reply = a.x.reply } ∷ run_of a.later);
  held = a.held;
  undisturbed = λ r. stopped s t asked r.0 r.2 (subst (λ x. AllByRecursion (λ stop. reply_text s x ≢ stop) (excepted_replies s)) r.1 a.undisturbed);
}

-- ---- the writes

enough : (from : Opened) (run : Run) (t : ℕ) (asked : Read) (reply : Reply) (h : HeldRead from run t asked reply) → t ≤ count from.start (writes run)
enough from run t asked reply h =
    let rest : Run = record { line = record { session = h.session; command = Command.read t asked }; reply = reply } ∷ h.later in
    let ws : writes run ≡ writes h.past ++ writes rest = held_writes from run t asked reply h in
    omega (arith, held_low from run t asked reply h, ap (λ l. length l) ws, length-append (writes h.past) (writes rest))

same_writes : (json : Json) (one two : Opened) (es₁ es₂ : List Entry) (t : ℕ) → one.start ≡ two.start
    → Heeded json one.start.schema es₁ → Heeded json two.start.schema es₂ → IsRun one (run_of es₁) → IsRun two (run_of es₂)
    → t ≤ count one.start (writes (run_of es₁)) → t ≤ count two.start (writes (run_of es₂)) → WritesAgree t (map pair es₁) (map pair es₂)
    → writes_up_to one.start (writes (run_of es₁)) t ≡ writes_up_to two.start (writes (run_of es₂)) t
same_writes json one two es₁ es₂ t same heed₁ heed₂ run₁ run₂ most₁ most₂ agree =
    let tokens : one.start.token ≡ two.start.token = ap (λ s. s.token) same in
    take_same (t - one.start.token) (writes (run_of es₁)) (writes (run_of es₂)) (omega (arith, most₁)) (omega (arith, most₂, tokens)) each
    ∙ ap (λ n. Rattle.std.proofs.Common.take (t - n) (writes (run_of es₂))) tokens
  where
    each : (a b c d : List Write) (x y : Write) → writes (run_of es₁) ≡ a ++ x ∷ b → writes (run_of es₂) ≡ c ++ y ∷ d → length a ≡ length c → length a < t - one.start.token → x ≡ y
    each a b c d x y p q sizes small =
        let first : Stands json one.start.schema es₁ (now one.start [] + 1 + length a) x = writes_stand json one [] es₁ heed₁ run₁ a b x p in
        let second : Stands json two.start.schema es₂ (now two.start [] + 1 + length c) y = writes_stand json two [] es₂ heed₂ run₂ c d y q in
        let numbers : now two.start [] + 1 + length c ≡ now one.start [] + 1 + length a = omega (arith, sizes, ap (λ s. s.token) same) in
        let texts : first.text ≡ second.text = agree (now one.start [] + 1 + length a) first.text second.text (omega (arith, small)) first.written (subst (λ n. IsWrite (map pair es₂) n second.text) numbers second.written) in
        makes_one json two.start.schema second.text x y (subst (λ v. Rattle.cat_model.proofs.TalkWrites.Makes json two.start.schema v x) texts (subst (λ s. Rattle.cat_model.proofs.TalkWrites.Makes json s.schema first.text x) same first.makes)) second.makes

-- ---- the law

pub talks_of_one_start : TalksOfOneStartAgree
talks_of_one_start json reads from₁ from₂ first₁ first₂ output₁ output₂ lines₁ lines₂ ok₁ ok₂ same cut₁ served₁ cut₂ served₂ talk₁ talk₂ is₁ is₂ t s₁ s₂ text reply₁ reply₂ agree r ask₁ ask₂ =
    let said = r.said in
    let w₁ : Whole json from₁ talk₁ = whole_of json reads from₁ ok₁ first₁ lines₁ output₁ cut₁ served₁ talk₁ is₁ in
    let w₂ : Whole json from₂ talk₂ = whole_of json reads from₂ ok₂ first₂ lines₂ output₂ cut₂ served₂ talk₂ is₂ in
    let a₁ = asked_in json from₁ w₁.es talk₁ t s₁ text reply₁ said ok₁.start.token w₁.heed w₁.is_run w₁.shown w₁.is r.spells r.under ask₁ in
    let a₂ = asked_in json from₂ w₂.es talk₂ t s₂ text reply₂ said ok₂.start.token w₂.heed w₂.is_run w₂.shown w₂.is r.spells r.under ask₂ in
    let read : ReadsSo a₂.x.line.command t = reads_as json from₂.start.schema t said a₂.x.line.command r.under a₂.is in
    let commands : a₁.x.line.command ≡ a₂.x.line.command =
    one_command json from₂.start.schema said a₁.x.line.command a₂.x.line.command ok₂.start.schema (subst (λ s. IsCommand json s.schema said a₁.x.line.command) same a₁.is) a₂.is in
    let held₁ = held_read json from₁ w₁.es t s₁ reply₁ said read.asked w₁.is_run a₁ (commands ∙ read.command) in
    let held₂ = held_read json from₂ w₂.es t s₂ reply₂ said read.asked w₂.is_run a₂ read.command in
    let up : writes_up_to from₁.start (writes (run_of w₁.es)) t ≡ writes_up_to from₂.start (writes (run_of w₂.es)) t =
    same_writes json from₁ from₂ w₁.es w₂.es t same w₁.heed w₂.heed w₁.is_run w₂.is_run
    (enough from₁ (run_of w₁.es) t read.asked a₁.x.reply held₁) (enough from₂ (run_of w₂.es) t read.asked a₂.x.reply held₂)
    (subst (λ ps. WritesAgree t ps (map pair w₂.es)) w₁.is (subst (WritesAgree t talk₁) w₂.is agree)) in
    let replies : a₁.x.reply ≡ a₂.x.reply = held_reads_agree from₁ from₂ (run_of w₁.es) (run_of w₂.es) t read.asked a₁.x.reply a₂.x.reply same up held₁ held₂ in
    record {
      lines = lines_said a₁.x.reply;
      cut = said_lines a₁.x.reply a₁.shown;
      one = a₁.text ∙ reply_lines s₁ a₁.x.reply;
      two = a₂.text ∙ ap (reply_text s₂) (sym replies) ∙ reply_lines s₂ a₁.x.reply;
    }
