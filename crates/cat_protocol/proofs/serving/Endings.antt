-- What is said to lines one after another, as the answer to an input, with the stage that it leaves.
use Rattle.std.proofs.Common.{◌≡◌, ℕ, List, [], ◌∷◌, ◌++◌, map, refl, sym, ap, subst, inl, inr, ◌∙◌, append-nil, append_assoc}
use Rattle.std.specs.Prelude.{Option, Result, Ok, Err, ◌⊎◌}
use Rattle.std.specs.List.{flat_map}
use Rattle.std.specs.Io.KnownBytes.{Appends, Keeps, Consumes, IsAtEnd}
use Rattle.cat_base.specs.declared.refusal.Refusal.{Refusal}
use Rattle.cat_base.specs.declared.refusal.Refusal.TheVariants.{Memory}
use Rattle.cat_model.specs.Text.{Text}
use Rattle.cat_model.specs.Served.{Outcome, Ending, outcome_text, refused_text, ServesBy}
use Rattle.cat_model.specs.Input.{HaveCome, ended_lines, lines_of}
use Rattle.cat_protocol.specs.declared.sending.pieces.WriteFault.{WriteFault}
use Rattle.cat_protocol.proofs.sending.Written.{front_whole}
use Rattle.cat_protocol.specs.serving.Machine.{short_line, opened_text, Steps}
use Rattle.cat_protocol.specs.serving.Serving.{Says, SaysAll, SaysUpTo, LinesEnd, ServesLines, IsRefusedAs, IsFlushed, LeadsTo, RefusedAt, StandsFrom, ended_as, ended_of}
use Rattle.cat_protocol.specs.declared.serving.machine.Stage.{Stage}
use Rattle.cat_protocol.specs.declared.serving.machine.Stage.TheVariants.{Waiting, Refused, Open}
use Rattle.cat_protocol.specs.declared.serving.machine.Unopened.{Unopened}
use Rattle.cat_protocol.specs.declared.serving.serving.ServeFault.{ServeFault}
use Rattle.cat_protocol.specs.declared.serving.serving.ServeFault.TheVariants as fault
use Rattle.cat_protocol.proofs.serving.Steps.{Lines, all_append, all_of_one, none_before, serves_kept, serves_then, serves_with}

-- a front of the images of a list is the images of a front
record SplitAs {A B : Type 0} (f : A → B) (xs : List A) (front : List B) : Type 0 where
  taken : List A
  others : List A
  whole : taken ++ others ≡ xs
  taken_is : map f taken ≡ front

split_map : {A B : Type 0} (f : A → B) (xs : List A) (front behind : List B) → front ++ behind ≡ map f xs → SplitAs f xs front
split_map f xs [] behind e = record { taken = []; others = xs; whole = refl; taken_is = refl }
split_map f [] (y ∷ front) behind e = absurd (cc)
split_map f (x ∷ xs) (y ∷ front) behind e =
    let here : y ≡ f x = cc in
    let there : front ++ behind ≡ map f xs = cc in
    let more = split_map f xs front behind there in
    record {
      taken = x ∷ more.taken;
      others = more.others;
      whole = ap (λ l. x ∷ l) more.whole;
      taken_is = ap (λ l. f x ∷ l) more.taken_is ∙ ap (λ z. z ∷ front) (sym here);
    }

module _ {M S : Type 0} (opens : S → Option Text → Result M (Unopened S) → Type 0) (step : M → Option Text → Outcome → M → Type 0) (token : M → ℕ) where
  abbrev says : Stage M S → Option Text → Text → Stage M S → Type 0
  says = Says opens step token

  abbrev leads_to : S → Stage M S → List Text → Text → Type 0
  leads_to = LeadsTo opens step token

  -- the replies to the lines behind the first
  record Replies (a : M) (ls : Lines) (t : Text) (b : Stage M S) : Type 0 where
    left : M
    stands : b ≡ Open left
    outcomes : List Outcome
    steps : Steps step a ls outcomes left
    text : t ≡ flat_map outcome_text outcomes

  -- what is said behind the first line is replies
  replies : (a : M) (ls : Lines) (t : Text) (b : Stage M S) → SaysAll says (Open a) ls t b → Replies a ls t b
  replies a [] t b so = record { left = a; stands = so.0; outcomes = []; steps = refl; text = so.1 }
  replies a (l ∷ ls) t b so =
      let more = replies so.2 ls so.1 b so.4 in
      record {
        left = more.left;
        stands = more.stands;
        outcomes = so.3.0 ∷ more.outcomes;
        steps = (so.2, so.3.1, more.steps);
        text = so.5 ∙ ap (λ x. x ++ so.1) so.3.2 ∙ ap (λ x. outcome_text so.3.0 ++ x) more.text;
      }

  -- what is said to all lines answers them, and leads to the stage behind them
  answered : (s : S) (lines : List Text) (t : Text) (b : Stage M S) → SaysAll says (Waiting s) (map short_line lines) t b → leads_to s b lines t
  answered s [] t b so = so
  answered s (first ∷ lines) t b so =
      let more = replies so.2 (map short_line lines) so.1 b so.4 in (
        record {
          opened = so.2;
          begins = so.3.0;
          left = more.left;
          outcomes = more.outcomes;
          steps = more.steps;
          whole = so.5 ∙ ap (λ x. x ++ so.1) so.3.1 ∙ ap (λ x. opened_text (token so.2) ++ x) more.text;
        },
        more.stands,
      )

  -- a line that is refused is the first, and waited for nothing but the seed
  record IsRefusal (s : S) (lines : List Text) (t : Text) (b : Stage M S) : Type 0 where
    why : Refusal
    refused : RefusedAt opens s b lines why
    text : t ≡ refused_text why

  refusal_first : (s : S) (lines : List Text) (line : Option Text) (behind : Lines) (t here : Text) (back : S) → line ∷ behind ≡ map short_line lines
      → says (Waiting s) line here (Refused back) → t ≡ here → IsRefusal s lines t (Refused back)
  refusal_first s [] line behind t here back e refused same = absurd (cc)
  refusal_first s (first ∷ lines) line behind t here back e refused same =
      let is_first : line ≡ short_line first = cc in
      record {
        why = refused.0;
        refused = (back, subst (λ l. opens s l (Err (record { refusal = refused.0; seed = back }))) is_first refused.1, refl);
        text = same ∙ refused.2;
      }

  -- only a seed is refused a line
  record IsWaiting (mid : Stage M S) : Type 0 where
    seed : S
    waits : mid ≡ Waiting seed

  refused_mid : (mid : Stage M S) (line : Option Text) (here : Text) (back : S) → says mid line here (Refused back) → IsWaiting mid
  refused_mid (Waiting s) line here back refused = record { seed = s; waits = refl }
  refused_mid (Refused s) line here back refused = absurd refused
  refused_mid (Open m) line here back refused = absurd refused

  refusal : (s : S) (lines : List Text) (t : Text) (back : S) → SaysUpTo says (Waiting s) (map short_line lines) t (Refused back) → IsRefusal s lines t (Refused back)
  refusal s lines t back so =
      let mid = refused_mid so.mid so.line so.here back so.last in
      let none_said = none_before says so.before so.said (Waiting s) mid.seed (subst (SaysAll says (Waiting s) so.before so.said) mid.waits so.all) in
      let whole = ap (λ l. l ++ so.line ∷ so.behind) (sym none_said.0) ∙ so.whole in
      let text = so.text_is ∙ ap (λ x. x ++ so.here) none_said.2 in
      let waits = mid.waits ∙ sym none_said.1 in
      refusal_first s lines so.line so.behind t so.here back whole (subst (λ m. says m so.line so.here (Refused back)) waits so.last) text

  -- no line is waited for again
  unsaid : (mid : Stage M S) (line : Option Text) (here : Text) (now : S) → says mid line here (Waiting now) → ⊥
  unsaid (Waiting s) line here now so = so
  unsaid (Refused s) line here now so = so
  unsaid (Open m) line here now so = so

  abbrev is_due : S → Stage M S → List Text → Text → Type 0
  is_due s b lines t =
      ((first others : List Text) × (first ++ others ≡ lines) × leads_to s b first t)
      ⊎ ((e : Refusal) × RefusedAt opens s b lines e × (t ≡ refused_text e))

  -- what is said to the first of the lines, up to one, is due
  due : (s : S) (lines : List Text) (t : Text) (c : Stage M S) → SaysUpTo says (Waiting s) (map short_line lines) t c → is_due s c lines t
  due s lines t (Waiting now) so = absurd (unsaid so.mid so.line so.here now so.last)
  due s lines t (Refused back) so = let found = refusal s lines t back so in inr (found.why, found.refused, found.text)
  due s lines t (Open c) so =
      let up_to = all_append says so.before (so.line ∷ []) so.said so.here (Waiting s) so.mid (Open c) so.all (all_of_one says so.mid so.line so.here c so.last) in
      let parts = split_map short_line lines (so.before ++ so.line ∷ []) so.behind (append_assoc so.before (so.line ∷ []) so.behind ∙ so.whole) in
      let same = subst (λ l. SaysAll says (Waiting s) l (so.said ++ so.here) (Open c)) (sym parts.taken_is) up_to in
      let text = subst (λ x. SaysAll says (Waiting s) (map short_line parts.taken) x (Open c)) (sym so.text_is) same in
      inl (parts.taken, parts.others, parts.whole, answered s parts.taken t (Open c) text)

  module _ (s : S) (input left : Option Text) (bytes : Text) (read : Consumes input left bytes) where
    abbrev ends : Stage M S → (before after : Option Text) → Result (Unit {0}) ServeFault → Type 0
    ends b before after r = ServesBy (leads_to s b) (RefusedAt opens s b) input left before after (ended_as r)

    no_lines : bytes ≡ [] → HaveCome bytes left []
    no_lines none = subst (HaveCome bytes left) (ap ended_lines none) HaveCome.ended

    ends_in : (lines : List Text) → HaveCome bytes left lines → (b : Stage M S) (o p : Option Text) (f : ServeFault) → LinesEnd says (Waiting s) (map short_line lines) b o p (Err f) → ends b o p (Err f)
    ends_in lines come b o p fault.Schema so =
        let found = refusal s lines so.0 so.1 (subst (SaysUpTo says (Waiting s) (map short_line lines) so.0) so.2 so.3) in
        (bytes, read, lines, come, found.why, subst (λ c. RefusedAt opens s c lines found.why) (sym so.2) found.refused, subst (Appends o p) found.text so.4)
    ends_in lines come b o p fault.Read so = absurd so
    ends_in lines come b o p fault.Write so = (bytes, read, lines, come, so.0, due s lines so.0 b so.1, so.2)

    -- a fault at lines that had come
    pub ends_at : (lines : List Text) → HaveCome bytes left lines → (b : Stage M S) (o p : Option Text) (f : ServeFault) (r : Result (Unit {0}) ServeFault) → r ≡ Err f
        → ServesLines says (Waiting s) (map short_line lines) b o p r → ends b o p r
    ends_at lines come b o p f r same so =
        subst (ends b o p) (sym same) (ends_in lines come b o p f (subst (LinesEnd says (Waiting s) (map short_line lines) b o p) same so.ends))

    -- a fault of the writer behind all lines that had come
    pub ends_behind : (lines : List Text) → HaveCome bytes left lines → {b : Stage M S} {o p : Option Text} → ServesLines says (Waiting s) (map short_line lines) b o p (Ok tt) → ends b o p (Err fault.Write)
    ends_behind lines come {b} {o} {p} so =
        let all = so.ends in
        (bytes, read, lines, come, all.0, inl (lines, [], append-nil lines, answered s lines all.0 b all.1), front_whole o p all.0 all.2)

    -- a fault of the reader behind the lines that had ended
    pub ends_unread : {b : Stage M S} {o p : Option Text} → ServesLines says (Waiting s) (map short_line (ended_lines bytes)) b o p (Ok tt) → ends b o p (Err fault.Read)
    ends_unread {b} so = let all = so.ends in (bytes, read, all.0, answered s (ended_lines bytes) all.0 b all.1, all.2)

    -- the end of the input
    pub ends_well : IsAtEnd left → {b : Stage M S} {o p : Option Text} → ServesLines says (Waiting s) (map short_line (lines_of bytes)) b o p (Ok tt) → ends b o p (Ok tt)
    ends_well at_end {b} so = let all = so.ends in (bytes, read, at_end, all.0, answered s (lines_of bytes) all.0 b all.1, all.2)

    ends_last_by : IsAtEnd left → (b : Stage M S) (o p : Option Text) (r : Result (Unit {0}) WriteFault) → ServesLines says (Waiting s) (map short_line (lines_of bytes)) b o p (Ok tt) → ends b o p (ended_of r)
    ends_last_by at_end b o p (Ok u) so = ends_well at_end so
    ends_last_by at_end b o p (Err e) so = ends_behind (lines_of bytes) (HaveCome.at_end at_end) so

    -- the end of the input, and what was written was handed on, or wasn't
    pub ends_flushed : IsAtEnd left → (b : Stage M S) (o p q : Option Text) (f : Result (Unit {0}) WriteFault) (r : Result (Unit {0}) ServeFault) → r ≡ ended_of f
        → ServesLines says (Waiting s) (map short_line (lines_of bytes)) b o p (Ok tt) → Keeps p q → ends b o q r
    ends_flushed at_end b o p q f r same so kept = subst (ends b o q) (sym same) (ends_last_by at_end b o q f (serves_kept so kept))

    -- the end of the input, behind the lines that had ended, and what was written was handed on so
    pub ends_handed_on : IsAtEnd left → (a b : Stage M S) (ls ms : Lines) (n o p q : Option Text) (e r : Result (Unit {0}) ServeFault)
        → ServesLines says (Waiting s) ls a n o (Ok tt) → ServesLines says a ms b o p e → IsFlushed e p q r → ls ++ ms ≡ map short_line (lines_of bytes) → ends b n q r
    ends_handed_on at_end a b ls ms n o p q (Ok u) r so last flushed whole =
        ends_flushed at_end b n p q flushed.0 r flushed.2 (serves_then so last whole) flushed.1
    ends_handed_on at_end a b ls ms n o p q (Err f) r so last flushed whole =
        subst (λ x. ends b n x r) flushed.0 (ends_at (lines_of bytes) (HaveCome.at_end at_end) b n p f r flushed.1 (serves_with (sym flushed.1) (serves_then so last whole)))

    -- a buffer is refused before any line has come
    pub ends_unbuffered : bytes ≡ [] → (o p : Option Text) (f : ServeFault) → IsRefusedAs o p (refused_text Memory) f → ends (Waiting s) o p (Err f)
    ends_unbuffered none o p fault.Schema so = (bytes, read, [], no_lines none, Memory, (refl, refl), so)
    ends_unbuffered none o p fault.Read so = absurd so
    ends_unbuffered none o p fault.Write so = (bytes, read, [], no_lines none, refused_text Memory, inr (Memory, (refl, refl), refl), so)

  -- ---- the stage alone

  abbrev stands : S → Stage M S → Type 0
  stands = StandsFrom opens step

  led : (s : S) (b : Stage M S) (lines : List Text) (t : Text) → leads_to s b lines t → stands s b
  led s b [] t so = subst (stands s) (sym so.0) refl
  led s b (first ∷ lines) t so = subst (stands s) (sym so.1) (short_line first, so.0.opened, so.0.begins, map short_line lines, so.0.outcomes, so.0.steps)

  given_back : (s : S) (b : Stage M S) (lines : List Text) (e : Refusal) → RefusedAt opens s b lines e → stands s b
  given_back s b [] e so = subst (stands s) (sym so.0) refl
  given_back s b (first ∷ lines) e so = subst (stands s) (sym so.2) (short_line first, e, so.1)

  stands_due : (s : S) (b : Stage M S) (lines : List Text) (t : Text) → is_due s b lines t → stands s b
  stands_due s b lines t (inl so) = led s b so.0 t so.3
  stands_due s b lines t (inr so) = given_back s b lines so.0 so.1

  -- what ends at a stage stands there
  pub stands_at : (s : S) (b : Stage M S) (input left o p : Option Text) (r : Result (Unit {0}) Ending) → ServesBy (leads_to s b) (RefusedAt opens s b) input left o p r → stands s b
  stands_at s b input left o p (Ok u) so = led s b (lines_of so.0) so.3 so.4
  stands_at s b input left o p (Err Ending.schema) so = given_back s b so.2 so.4 so.5
  stands_at s b input left o p (Err Ending.read) so = led s b (ended_lines so.0) so.2 so.3
  stands_at s b input left o p (Err Ending.write) so = stands_due s b so.2 so.4 so.5
