-- What was heard and told, line by line, and what a reply of these bytes tells of it.
use Rattle.std.proofs.Common.{inl, inr, suc, ◌≡◌, ◌≢◌, ◌⊎◌, ℕ, ◌≤◌, List, [], ◌∷◌, ◌++◌, map, length, get_or, refl, sym, ◌∙◌, ap, subst, append_assoc, append-nil, arith, codes}
use Rattle.std.specs.Prelude.{zero, Option, Ok, Err}
use Rattle.std.specs.List.{flat_map, filter_map, AllByRecursion}
use Rattle.std.specs.Fmt.{decimal}
use Rattle.std.proofs.lemmas.Fmt.{decimal_is_IsNumeral}
use Rattle.std.proofs.lemmas.Str.Parse.{digit_at}
use Rattle.cat_base.specs.declared.refusal.Refusal.{Refusal}
use Rattle.cat_model.specs.Text.{Text}
use Rattle.cat_model.specs.Item.{Schema}
use Rattle.cat_model.specs.Lines.{Said, spaced, line_text, reply_text, refusal_words, unreadable_text, SpellsLine, ShowsSession}
use Rattle.cat_model.specs.Run.{Command, Line, Answer, Exchange, Run}
use Rattle.cat_model.specs.Heard.{Json, Heard, Hears, IsCommand}
use Rattle.cat_model.specs.Served.{Outcome, heard, exchange, outcome_text, HeardAll}
use Rattle.cat_model.specs.Talk.{Pair}
use Rattle.cat_model.proofs.Sayings.{NoSpace, decimal_no_space, same_word, one_thing, no_form}

-- a line, and what was told to it
pub record Entry : Type 0 where
  pub line : Text
  pub told : Outcome

abbrev pub pair : Entry → Pair
pair e = record { line = e.line; reply = outcome_text e.told }

-- the exchange of the run, if it is one
abbrev pub exchanged : Entry → Option Exchange
exchanged e = exchange e.told

abbrev pub run_of : List Entry → Run
run_of es = filter_map exchanged es

abbrev pub entries : List Text → List Outcome → List Entry
entries [] tolds = []
entries (l ∷ ls) [] = []
entries (l ∷ ls) (t ∷ ts) = record { line = l; told = t } ∷ entries ls ts

-- each was heard so
abbrev pub Heeded : Json → Schema → List Entry → Type 0
Heeded json schema es = AllByRecursion (λ e. Hears json schema e.line (heard e.told)) es

module _ (json : Json) (schema : Schema) where
  pub heeded : (ls : List Text) (ts : List Outcome) → HeardAll json schema ls ts → Heeded json schema (entries ls ts)
  heeded [] [] h = tt
  heeded [] (t ∷ ts) h = tt
  heeded (l ∷ ls) [] h = tt
  heeded (l ∷ ls) (t ∷ ts) h = (h.0, heeded ls ts h.1)

  pub entries_lines : (ls : List Text) (ts : List Outcome) → HeardAll json schema ls ts → map (λ p. p.line) (map pair (entries ls ts)) ≡ ls
  entries_lines [] [] h = refl
  entries_lines [] (t ∷ ts) h = refl
  entries_lines (l ∷ ls) [] h = absurd h
  entries_lines (l ∷ ls) (t ∷ ts) h = ap (λ xs. l ∷ xs) (entries_lines ls ts h.1)

  pub entries_replies : (ls : List Text) (ts : List Outcome) → HeardAll json schema ls ts → flat_map (λ p. p.reply) (map pair (entries ls ts)) ≡ flat_map outcome_text ts
  entries_replies [] [] h = refl
  entries_replies [] (t ∷ ts) h = absurd h
  entries_replies (l ∷ ls) [] h = absurd h
  entries_replies (l ∷ ls) (t ∷ ts) h = ap (λ xs. outcome_text t ++ xs) (entries_replies ls ts h.1)

  pub entries_run : (ls : List Text) (ts : List Outcome) → HeardAll json schema ls ts → run_of (entries ls ts) ≡ filter_map exchange ts
  entries_run [] [] h = refl
  entries_run [] (t ∷ ts) h = absurd h
  entries_run (l ∷ ls) [] h = absurd h
  entries_run (l ∷ ls) (Outcome.unreadable ∷ ts) h = entries_run ls ts h.1
  entries_run (l ∷ ls) (Outcome.replied x ∷ ts) h = ap (λ xs. x ∷ xs) (entries_run ls ts h.1)

-- the parts of a list whose pairs have a place
pub record IsPlace (es : List Entry) (a : List Pair) (p : Pair) (b : List Pair) : Type 0 where
  pub past : List Entry
  pub here : Entry
  pub later : List Entry
  pub whole : es ≡ past ++ here ∷ later
  pub past_is : map pair past ≡ a
  pub here_is : pair here ≡ p
  pub later_is : map pair later ≡ b

pub place_of : (es : List Entry) (a : List Pair) (p : Pair) (b : List Pair) → map pair es ≡ a ++ p ∷ b → IsPlace es a p b
place_of [] [] p b e = absurd (cc e)
place_of [] (q ∷ a) p b e = absurd (cc e)
place_of (x ∷ es) [] p b e = record { past = []; here = x; later = es; whole = refl; past_is = refl; here_is = cc e; later_is = cc e }
place_of (x ∷ es) (q ∷ a) p b e =
    let rest : IsPlace es a p b = place_of es a p b (cc e) in
    let head : pair x ≡ q = cc e in
    record { past = x ∷ rest.past; here = rest.here; later = rest.later; whole = ap (λ ys. x ∷ ys) {y = rest.past ++ rest.here ∷ rest.later} rest.whole; past_is = (λ i. head i ∷ rest.past_is i); here_is = rest.here_is; later_is = rest.later_is }

-- ---- what was heard

-- a line that was heard as the command that it says
pub record SaidSo (json : Json) (schema : Schema) (bytes : Text) (x : Line) : Type 0 where
  pub said : Said
  pub spells : SpellsLine bytes x.session said
  pub is : IsCommand json schema said x.command

-- or as one without a form
pub record SaidNothing (bytes : Text) (x : Line) : Type 0 where
  pub shows : ShowsSession bytes x.session
  pub none : (said : Said) → SpellsLine bytes x.session said → ⊥
  pub is : x.command ≡ Command.formless

line_in : Line → Heard → Line
line_in d Heard.unreadable = d
line_in d (Heard.a_line x) = x

pub heard_line : (json : Json) (schema : Schema) (bytes : Text) (h : Heard) (x : Line) → Hears json schema bytes h → h ≡ Heard.a_line x → SaidSo json schema bytes x ⊎ SaidNothing bytes x
unfolding line_in
heard_line json schema bytes h x (Hears.spelled s said c readable a is) e =
    let same : record { session = s; command = c } ≡ x = ap (line_in x) e in
    inl (subst (SaidSo json schema bytes) same (record { said = said; spells = a; is = is }))
heard_line json schema bytes h x (Hears.formless s readable a none) e =
    let same : record { session = s; command = Command.formless } ≡ x = ap (line_in x) e in
    inr (subst (SaidNothing bytes) same (record { shows = a; none = none; is = refl }))
heard_line json schema bytes h x (Hears.unreadable none) e = absurd (cc e)

-- an entry that was replied to as what it says
pub record Understood (json : Json) (schema : Schema) (e : Entry) (s : ℕ) (said : Said) : Type 0 where
  pub x : Exchange
  pub told : e.told ≡ Outcome.replied x
  pub session : x.line.session ≡ s
  pub is : IsCommand json schema said x.line.command

pub understood : (json : Json) (schema : Schema) (e : Entry) (s : ℕ) (said : Said) → Hears json schema e.line (heard e.told) → SpellsLine e.line s said → outcome_text e.told ≢ unreadable_text → Understood json schema e s said
understood json schema e s said h a readable = by e.told refl
  where
    so : (x : Exchange) → e.told ≡ Outcome.replied x → SaidSo json schema e.line x.line ⊎ SaidNothing e.line x.line → Understood json schema e s said
    so x is (inl b) =
        let same = one_thing e.line x.line.session s b.said said b.spells a in
        record { x = x; told = is; session = same.0; is = subst (λ said. IsCommand json schema said x.line.command) same.1 b.is }
    so x is (inr b) = absurd (no_form e.line s x.line.session said a b.shows b.none)

    by : (t : Outcome) → e.told ≡ t → Understood json schema e s said
    by Outcome.unreadable is = absurd (readable (ap outcome_text is))
    by (Outcome.replied x) is = so x is (heard_line json schema e.line (heard e.told) x.line h (ap heard is))

-- ---- what a reply tells

number_no_space : (s : ℕ) → s ≤ 9999 → NoSpace (decimal s)
number_no_space s h = decimal_no_space s (omega (arith, h))

question_no_space : NoSpace (codes "?")
question_no_space zero k e = absurd (omega (arith, e))
question_no_space (suc i) k e = absurd (omega (arith, k))

pub line_cons : (s : ℕ) (w : Text) (ws : List Text) → line_text (decimal s ∷ w ∷ ws) ≡ decimal s ++ 32 ∷ (spaced (w ∷ ws) ++ 10 ∷ [])
line_cons s w ws = append_assoc (decimal s) (32 ∷ spaced (w ∷ ws)) (10 ∷ [])

-- words begin with the first of them
pub spaced_head : (w : Text) (ws : List Text) → (rest : Text) × (spaced (w ∷ ws) ≡ w ++ rest)
spaced_head w [] = ([], sym (append-nil w))
spaced_head w (v ∷ ws) = (32 ∷ spaced (v ∷ ws), refl)

-- what stands behind one session in two lines
pub behind_session : (s : ℕ) (w v : Text) (ws vs : List Text) → s ≤ 9999 → line_text (decimal s ∷ w ∷ ws) ≡ line_text (decimal s ∷ v ∷ vs) → spaced (w ∷ ws) ++ 10 ∷ [] ≡ spaced (v ∷ vs) ++ 10 ∷ []
behind_session s w v ws vs h e =
    (same_word (decimal s) (decimal s) (spaced (w ∷ ws) ++ 10 ∷ []) (spaced (v ∷ vs) ++ 10 ∷ []) (number_no_space s h) (number_no_space s h) (sym (line_cons s w ws) ∙ e ∙ line_cons s v vs)).1

-- a refusal isn't OK
pub no_ok : (s : ℕ) (e : Refusal) (vs : List Text) → s ≤ 9999 → reply_text s (Err e) ≡ line_text (decimal s ∷ codes "OK" ∷ vs) → ⊥
no_ok s e vs h k =
    let a : (rest : Text) × (spaced (codes "NO" ∷ refusal_words e) ≡ codes "NO" ++ rest) = spaced_head (codes "NO") (refusal_words e) in
    let b : (rest : Text) × (spaced (codes "OK" ∷ vs) ≡ codes "OK" ++ rest) = spaced_head (codes "OK") vs in
    let same : (codes "NO" ++ a.0) ++ 10 ∷ [] ≡ (codes "OK" ++ b.0) ++ 10 ∷ [] =
    ap (λ t. t ++ 10 ∷ []) (sym a.1) ∙ behind_session s (codes "NO") (codes "OK") (refusal_words e) vs h k ∙ ap (λ t. t ++ 10 ∷ []) b.1 in
    omega (arith, ap (λ t. get_or t 0 0) same)

-- a reply to a session isn't that to a line that can't be read
pub session_readable : (s : ℕ) (w : Text) (ws : List Text) → s ≤ 9999 → line_text (decimal s ∷ w ∷ ws) ≢ unreadable_text
session_readable s w ws h e =
    let same : codes "?" ≡ decimal s = (same_word (codes "?") (decimal s) (codes "NO 10\n") (spaced (w ∷ ws) ++ 10 ∷ []) question_no_space (number_no_space s h) (sym e ∙ line_cons s w ws)).0 in
    let size : length (decimal s) ≡ 1 = ap length (sym same) in
    let range = digit_at (decimal s) 0 (decimal_is_IsNumeral s (omega (arith, h))).0.1 (omega (arith, size)) in
    omega (arith, range.1, ap (λ t. get_or t 0 0) same)

-- a number that is told under OK
pub told_decimal : (s u : ℕ) (v : Text) → s ≤ 9999 → reply_text s (Ok (Answer.number u)) ≡ line_text (decimal s ∷ codes "OK" ∷ v ∷ []) → decimal u ++ 10 ∷ [] ≡ v ++ 10 ∷ []
told_decimal s u v h e = cc (behind_session s (codes "OK") (codes "OK") (decimal u ∷ []) (v ∷ []) h (sym (append-nil (line_text (decimal s ∷ codes "OK" ∷ decimal u ∷ []))) ∙ e))
