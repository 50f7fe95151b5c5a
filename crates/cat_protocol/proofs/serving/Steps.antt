-- What is said to lines one after another, put together.
use Rattle.std.proofs.Common.{◌≡◌, false, List, [], ◌∷◌, ◌++◌, length, map, refl, sym, ap, subst, ◌∙◌, append-nil, append_assoc}
use Rattle.std.specs.Prelude.{◌==◌, Option, Result, Ok, Err, OnOk, take}
use Rattle.std.specs.Io.KnownBytes.{Keeps}
use Rattle.std.proofs.KnownBytes.{Appends-trans, Appends-kept}
use Rattle.cat_model.specs.Text.{Text}
use Rattle.cat_model.specs.Input.{ended_lines, rest_after, lines_of}
use Rattle.cat_protocol.specs.sending.Out.{Sent}
use Rattle.cat_protocol.specs.declared.sending.pieces.WriteFault.{WriteFault}
use Rattle.cat_protocol.proofs.sending.Written.{front_behind}
use Rattle.cat_protocol.specs.serving.Machine.{short_line, stands_open}
use Rattle.cat_protocol.specs.serving.Serving.{SaysAll, SaysUpTo, LinesEnd, ServesLines, IsReady, IsRefusedAs, ended_of, last_lines}
use Rattle.cat_protocol.specs.declared.serving.machine.Stage.{Stage}
use Rattle.cat_protocol.specs.declared.serving.machine.Stage.TheVariants.{Waiting, Refused, Open}
use Rattle.cat_protocol.specs.declared.serving.serving.ServeFault.{ServeFault}
use Rattle.cat_protocol.specs.declared.serving.serving.ServeFault.TheVariants as fault
use Rattle.cat_protocol.proofs.serving.Cuts.{short_same, no_feed, one_line, lines_end}

-- lines, each of which may be too long
abbrev pub Lines : Type 0
Lines = List (Option Text)

open_is_waiting : {M S : Type 0} (m : M) (s : S) (old : Stage M S) → old ≡ Open m → old ≡ Waiting s → ⊥
open_is_waiting m s old e f = cc

-- what holds where serving didn't end
pub where_ok : (P : Type 0) (r : Result (Unit {0}) ServeFault) → r ≡ Ok tt → OnOk r P → P
where_ok P r e so = subst (λ q. OnOk q P) e so

map_nil : {A B : Type 0} (f : A → B) (xs : List A) → map f xs ≡ [] → xs ≡ []
map_nil f [] e = refl
map_nil f (x ∷ xs) e = absurd (cc)

module _ {M S : Type 0} (says : Stage M S → Option Text → Text → Stage M S → Type 0) where
  -- what is said to lines, and then to more
  pub all_append : (ls ms : Lines) (t u : Text) (a b c : Stage M S) → SaysAll says a ls t b → SaysAll says b ms u c → SaysAll says a (ls ++ ms) (t ++ u) c
  all_append [] ms t u a b c one two =
      let at_start = subst (λ s. SaysAll says s ms u c) one.0 two in
      subst (λ x. SaysAll says a ms x c) (sym (ap (λ x. x ++ u) one.1)) at_start
  all_append (l ∷ ls) ms t u a b c one two = (
    one.0,
    one.1 ++ u,
    one.2,
    one.3,
    all_append ls ms one.1 u (Open one.2) b c one.4 two,
    ap (λ x. x ++ u) one.5 ∙ append_assoc one.0 one.1 u,
  )

  -- what is said to one line
  pub all_of_one : (a : Stage M S) (l : Option Text) (t : Text) (b : M) → says a l t (Open b) → SaysAll says a (l ∷ []) t (Open b)
  all_of_one a l t b one = (t, [], b, one, (refl, refl), sym (append-nil t))

  -- the same, where nothing more is said behind one of the second
  up_to_append : (ls ms all : Lines) (t u : Text) (a b c : Stage M S) → SaysAll says a ls t b → SaysUpTo says b ms u c → ls ++ ms ≡ all → SaysUpTo says a all (t ++ u) c
  up_to_append ls ms all t u a b c one two whole = record {
    before = ls ++ two.before;
    line = two.line;
    behind = two.behind;
    whole = append_assoc ls two.before (two.line ∷ two.behind) ∙ ap (λ l. ls ++ l) two.whole ∙ whole;
    said = t ++ two.said;
    mid = two.mid;
    all = all_append ls two.before t two.said a b two.mid one two.all;
    here = two.here;
    last = two.last;
    text_is = ap (λ x. t ++ x) two.text_is ∙ sym (append_assoc t two.said two.here);
  }

  -- the lines behind those don't matter then
  up_to_more : (ls more all : Lines) (t : Text) (a c : Stage M S) → SaysUpTo says a ls t c → ls ++ more ≡ all → SaysUpTo says a all t c
  up_to_more ls more all t a c so whole = record {
    before = so.before;
    line = so.line;
    behind = so.behind ++ more;
    whole = sym (append_assoc so.before (so.line ∷ so.behind) more) ∙ ap (λ l. l ++ more) so.whole ∙ whole;
    said = so.said;
    mid = so.mid;
    all = so.all;
    here = so.here;
    last = so.last;
    text_is = so.text_is;
  }

  up_to_one : (a : Stage M S) (l : Option Text) (t : Text) (c : Stage M S) → says a l t c → SaysUpTo says a (l ∷ []) t c
  up_to_one a l t c one = record { before = []; line = l; behind = []; whole = refl; said = []; mid = a; all = (refl, refl); here = t; last = one; text_is = refl }

  -- a machine stands open behind each line that is answered
  opens_behind : (m : M) (ls : Lines) (t : Text) (s : S) → SaysAll says (Open m) ls t (Waiting s) → ⊥
  opens_behind m [] t s so = open_is_waiting m s (Open m) refl (sym so.0)
  opens_behind m (l ∷ ls) t s so = opens_behind so.2 ls so.1 s so.4

  -- so where a seed waits, no line came
  pub none_before : (ls : Lines) (t : Text) (a : Stage M S) (s : S) → SaysAll says a ls t (Waiting s) → (ls ≡ []) × (a ≡ Waiting s) × (t ≡ [])
  none_before [] t a s so = (refl, sym so.0, so.1)
  none_before (l ∷ ls) t a s so = absurd (opens_behind so.2 ls so.1 s so.4)

  ready_all : (ls : Lines) (t : Text) (a b : Stage M S) → IsReady a → SaysAll says a ls t b → IsReady b
  ready_all [] t a b ready so = subst IsReady (sym so.0) ready
  ready_all (l ∷ ls) t a b ready so = ready_all ls so.1 (Open so.2) b tt so.4

  -- ---- how serving goes on

  -- serving lines, and then more
  ends_then : (ls ms all : Lines) (a b c : Stage M S) (o p q : Option Text) (r : Result (Unit {0}) ServeFault)
      → LinesEnd says a ls b o p (Ok tt) → LinesEnd says b ms c p q r → ls ++ ms ≡ all → LinesEnd says a all c o q r
  ends_then ls ms all a b c o p q (Ok u) one two whole =
      (one.0 ++ two.0, subst (λ l. SaysAll says a l (one.0 ++ two.0) c) whole (all_append ls ms one.0 two.0 a b c one.1 two.1), Appends-trans o p q one.0 two.0 one.2 two.2)
  ends_then ls ms all a b c o p q (Err fault.Schema) one two whole =
      (one.0 ++ two.0, two.1, two.2, up_to_append ls ms all one.0 two.0 a b c one.1 two.3 whole, Appends-trans o p q one.0 two.0 one.2 two.4)
  ends_then ls ms all a b c o p q (Err fault.Read) one two whole = absurd two
  ends_then ls ms all a b c o p q (Err fault.Write) one two whole =
      (one.0 ++ two.0, up_to_append ls ms all one.0 two.0 a b c one.1 two.1 whole, front_behind o p q one.0 two.0 one.2 two.2)

  ends_more : (ls more all : Lines) (a c : Stage M S) (o p : Option Text) (f : ServeFault) → LinesEnd says a ls c o p (Err f) → ls ++ more ≡ all → LinesEnd says a all c o p (Err f)
  ends_more ls more all a c o p fault.Schema so whole = (so.0, so.1, so.2, up_to_more ls more all so.0 a c so.3 whole, so.4)
  ends_more ls more all a c o p fault.Read so whole = absurd so
  ends_more ls more all a c o p fault.Write so whole = (so.0, up_to_more ls more all so.0 a c so.1 whole, so.2)

module _ {M S : Type 0} {says : Stage M S → Option Text → Text → Stage M S → Type 0} where
  -- a flush behind the lines
  pub serves_kept : {ls : Lines} {a b : Stage M S} {o p q : Option Text} → ServesLines says a ls b o p (Ok tt) → Keeps p q → ServesLines says a ls b o q (Ok tt)
  serves_kept {ls} {a} {b} {o} {p} {q} so kept = record { ends = (so.ends.0, so.ends.1, Appends-kept o p q so.ends.0 so.ends.2 kept) }

  -- more lines behind those that are answered
  pub serves_then : {ls ms all : Lines} {a b c : Stage M S} {o p q : Option Text} {r : Result (Unit {0}) ServeFault}
      → ServesLines says a ls b o p (Ok tt) → ServesLines says b ms c p q r → ls ++ ms ≡ all → ServesLines says a all c o q r
  serves_then {ls} {ms} {all} {a} {b} {c} {o} {p} {q} {r} one two whole = record { ends = ends_then says ls ms all a b c o p q r one.ends two.ends whole }

  -- a fault at some lines is one at more lines
  pub serves_more : {ls : Lines} (more : Lines) {all : Lines} {a c : Stage M S} {o p : Option Text} {f : ServeFault} → ServesLines says a ls c o p (Err f) → ls ++ more ≡ all → ServesLines says a all c o p (Err f)
  serves_more {ls} more {all} {a} {c} {o} {p} {f} so whole = record { ends = ends_more says ls more all a c o p f so.ends whole }

  pub serves_as : {ls ms : Lines} {a b : Stage M S} {o p : Option Text} {r : Result (Unit {0}) ServeFault} → ls ≡ ms → ServesLines says a ls b o p r → ServesLines says a ms b o p r
  serves_as {a = a} {b = b} {o = o} {p = p} {r = r} e = subst (λ l. ServesLines says a l b o p r) e

  -- how it ended, by another name
  pub serves_with : {ls : Lines} {a b : Stage M S} {o p : Option Text} {q r : Result (Unit {0}) ServeFault} → q ≡ r → ServesLines says a ls b o p q → ServesLines says a ls b o p r
  serves_with {ls = ls} {a = a} {b = b} {o = o} {p = p} e = subst (ServesLines says a ls b o p) e

  -- lines can be served behind those that are answered
  pub ready_behind : {ls : Lines} {a b : Stage M S} {o p : Option Text} → IsReady a → ServesLines says a ls b o p (Ok tt) → IsReady b
  ready_behind {ls} {a} {b} ready so = ready_all says ls so.ends.0 a b ready so.ends.1

module _ {M S : Type 0} (says : Stage M S → Option Text → Text → Stage M S → Type 0) where
  one_sent : (a : Stage M S) (l : Option Text) (t : Text) (b : M) (o p : Option Text) (r : Result (Unit {0}) WriteFault) → says a l t (Open b) → Sent o p r t → LinesEnd says a (l ∷ []) (Open b) o p (ended_of r)
  one_sent a l t b o p (Ok u) one went = (t, all_of_one says a l t b one, went)
  one_sent a l t b o p (Err e) one went = (t, up_to_one says a l t (Open b) one, went)

  -- one line that leaves a machine, and what is said to it was sent
  pub serves_sent : (a : Stage M S) (l : Option Text) (t : Text) (b : M) (o p : Option Text) (r : Result (Unit {0}) WriteFault) → says a l t (Open b) → Sent o p r t → ServesLines says a (l ∷ []) (Open b) o p (ended_of r)
  serves_sent a l t b o p r one went = record { ends = one_sent a l t b o p r one went }

  one_refused : (a : Stage M S) (l : Option Text) (t : Text) (back : S) (o p : Option Text) (f : ServeFault) → says a l t (Refused back) → IsRefusedAs o p t f → LinesEnd says a (l ∷ []) (Refused back) o p (Err f)
  one_refused a l t back o p fault.Schema one went = (t, back, refl, up_to_one says a l t (Refused back) one, went)
  one_refused a l t back o p fault.Read one went = absurd went
  one_refused a l t back o p fault.Write one went = (t, up_to_one says a l t (Refused back) one, went)

  -- one line that is refused
  pub serves_refused : (a : Stage M S) (l : Option Text) (t : Text) (back : S) (o p : Option Text) (f : ServeFault) → says a l t (Refused back) → IsRefusedAs o p t f → ServesLines says a (l ∷ []) (Refused back) o p (Err f)
  serves_refused a l t back o p f one went = record { ends = one_refused a l t back o p f one went }

  -- what is left at the end of the input, behind the lines that had ended
  last_behind : (bytes gathered text : Text) (s : S) (m : Stage M S) → SaysAll says (Waiting s) (map short_line (ended_lines bytes)) text m → take 10002 gathered ≡ take 10002 (rest_after [] bytes)
      → map short_line (ended_lines bytes) ++ map short_line (last_lines m gathered) ≡ map short_line (lines_of bytes)
  last_behind bytes gathered text s (Waiting now) so e =
      let none = none_before says (map short_line (ended_lines bytes)) text (Waiting s) now so in
      let ended = map_nil short_line (ended_lines bytes) none.0 in
      ap (λ l. l ++ short_line gathered ∷ []) none.0 ∙ ap (λ x. x ∷ []) (short_same gathered bytes (e ∙ ap (take 10002) (no_feed bytes [] ended))) ∙ ap (map short_line) (sym (one_line bytes ended))
  last_behind bytes gathered text s (Refused back) so e = absurd (ready_all says (map short_line (ended_lines bytes)) text (Waiting s) (Refused back) tt so)
  last_behind [] gathered text s (Open m) so e = absurd (open_is_waiting m s (Open m) refl so.0)
  last_behind (b ∷ bytes) gathered text s (Open m) so e = lines_end b bytes gathered e

  pub last_lines_behind : (bytes gathered : Text) (s : S) (m : Stage M S) (o p : Option Text) → ServesLines says (Waiting s) (map short_line (ended_lines bytes)) m o p (Ok tt) → take 10002 gathered ≡ take 10002 (rest_after [] bytes)
      → map short_line (ended_lines bytes) ++ map short_line (last_lines m gathered) ≡ map short_line (lines_of bytes)
  last_lines_behind bytes gathered s m o p so e = last_behind bytes gathered so.ends.0 s m so.ends.1 e

-- where something is left at the end of the input, it is one line
pub left_some : {M S : Type 0} (stage : Stage M S) (gathered : Text) → IsReady stage → (length gathered == 0) ≡ false → last_lines stage gathered ≡ gathered ∷ []
left_some (Waiting s) gathered ready some = refl
left_some (Refused back) gathered ready some = absurd ready
left_some (Open m) [] ready some = cc
left_some (Open m) (b ∷ gathered) ready some = refl

-- and so it is for the first line, also if it is empty
pub left_unopened : {M S : Type 0} (stage : Stage M S) (gathered : Text) → IsReady stage → stands_open stage ≡ false → last_lines stage gathered ≡ gathered ∷ []
left_unopened (Waiting s) gathered ready unopened = refl
left_unopened (Refused back) gathered ready unopened = absurd ready
left_unopened (Open m) gathered ready unopened = cc
