-- The sample of a talk is judged as it was by hand.
use Rattle.std.proofs.Common.{inl, inr, suc, ◌≡◌, ◌⊎◌, ℕ, List, [], ◌∷◌, ◌++◌, get_or, refl, ap, subst, arith, codes}
use Rattle.std.specs.Prelude.{zero, Contains, None, Ok}
use Rattle.std.specs.Fmt.{decimal, digits}
use Rattle.cat_model.specs.Text.{Text}
use Rattle.cat_model.specs.Page.{Sort}
use Rattle.cat_model.specs.Lines.{Said, reply_text}
use Rattle.cat_model.specs.Answer.{Found}
use Rattle.cat_model.specs.Run.{Answer, Reply}
use Rattle.cat_model.specs.Talk.{Pair, IsReply, granted, AsksToWrite, ShowsHold}
use Rattle.cat_model.specs.TalkSample.{said_before, SampleIsJudged}
use Rattle.cat_model.proofs.TalkLines.{literal, is_reply}

head_of : (p q : Pair) (ps qs : List Pair) → p ∷ ps ≡ q ∷ qs → p ≡ q
head_of p q ps qs e = cc e

tail_of : (p q : Pair) (ps qs : List Pair) → p ∷ ps ≡ q ∷ qs → ps ≡ qs
tail_of p q ps qs e = cc e

open_first : (text : Text) → (text ≡ codes "OPEN") ⊎ (text ≡ codes "OPEN " ++ decimal 1) → get_or text 0 0 ≡ 79
open_first text (inl e) = ap (λ t. get_or t 0 0) e
open_first text (inr e) = ap (λ t. get_or t 0 0) e

-- the pairs before the last that session 8 doesn't say
others : (before since : List Pair) (text : Text) → (text ≡ codes "OPEN") ⊎ (text ≡ codes "OPEN " ++ decimal 1) → said_before ≡ before ++ granted 8 text 1 ∷ since → (Contains since (granted 8 (codes "CLOSE 1") 1) → ⊥) → ⊥
unfolding digits
others [] since text o e kept = omega (arith, ap (λ p. get_or p.line 0 0) (head_of _ _ _ _ e))
others (a ∷ []) since text o e kept = omega (arith, ap (λ p. get_or p.line 0 0) (head_of _ _ _ _ (tail_of _ _ _ _ e)))
others (a ∷ b ∷ []) since text o e kept = omega (arith, ap (λ p. get_or p.line 0 0) (head_of _ _ _ _ (tail_of _ _ _ _ (tail_of _ _ _ _ e))))
others (a ∷ b ∷ c ∷ []) since text o e kept =
    let rest = tail_of _ _ _ _ (tail_of _ _ _ _ (tail_of _ _ _ _ (tail_of _ _ _ _ e))) in
    kept (subst (λ ps. Contains ps (granted 8 (codes "CLOSE 1") 1)) rest (1, omega arith, refl))
others (a ∷ b ∷ c ∷ d ∷ []) since text o e kept = omega (arith, ap (λ p. get_or p.line 0 0) (head_of _ _ _ _ (tail_of _ _ _ _ (tail_of _ _ _ _ (tail_of _ _ _ _ (tail_of _ _ _ _ e))))))
others (a ∷ b ∷ c ∷ d ∷ f ∷ []) since text o e kept =
    omega (arith, open_first text o, ap (λ p. get_or p.line 2 0) (head_of _ _ _ _ (tail_of _ _ _ _ (tail_of _ _ _ _ (tail_of _ _ _ _ (tail_of _ _ _ _ (tail_of _ _ _ _ e)))))))
others (a ∷ b ∷ c ∷ d ∷ f ∷ g ∷ rest) since text o e kept = more rest (tail_of _ _ _ _ (tail_of _ _ _ _ (tail_of _ _ _ _ (tail_of _ _ _ _ (tail_of _ _ _ _ (tail_of _ _ _ _ e))))))
  where
    more : (ps : List Pair) → [] ≡ ps ++ granted 8 text 1 ∷ since → ⊥
    more [] k = cc k
    more (p ∷ ps) k = cc k

closed : ShowsHold said_before 8 1 → ⊥
unfolding digits
closed h = others h.before h.since h.text h.command h.split h.kept

no_close : Contains (record { line = codes "8 OPEN 1"; reply = codes "8 OK 1\n" } ∷ record { line = codes "1 DEL a"; reply = codes "1 OK 2\n" } ∷ record { line = codes "8 CLOSE 1"; reply = codes "8 OK 1\n" } ∷ []) (granted 7 (codes "CLOSE " ++ decimal 1) 1) → ⊥
unfolding digits
no_close (zero, k, e) = omega (arith, ap (λ p. get_or p.line 0 0) e)
no_close (suc zero, k, e) = omega (arith, ap (λ p. get_or p.line 0 0) e)
no_close (suc (suc zero), k, e) = omega (arith, ap (λ p. get_or p.line 0 0) e)
no_close (suc (suc (suc i)), k, e) = omega (arith, k)

shown : Text → Reply
shown id = Ok (Answer.found (Found.page (record { total = 1; entries = record { number = 1; id = id; key = None } ∷ [] })))

numbered : (s n : ℕ) → IsReply (reply_text s (Ok (Answer.number n)))
numbered s n = is_reply s (Ok (Answer.number n)) tt

pub sample : SampleIsJudged
unfolding digits shown
sample = record {
  replies = (numbered 1 1, (numbered 1 1, (numbered 7 1, (numbered 8 1, (numbered 1 2, (numbered 8 1, (is_reply 7 (shown (codes "a")) ((literal (codes "a") refl, tt), tt), tt)))))));
  put = record { session = 1; argument = codes "{\"id\":\"a\"}"; command = AsksToWrite.put refl; stands = (0, omega arith, refl) };
  deleted = record { session = 1; argument = codes "a"; command = AsksToWrite.delete refl; stands = (4, omega arith, refl) };
  read = record { said = Said.find 1 10 Sort.added None (codes "*:*"); spells = record { form = (omega arith, omega arith, tt, tt); spelled = refl }; under = refl };
  asked = record {
    small = omega arith;
    past = said_before;
    later = [];
    split = refl;
    held = record {
      before = record { line = codes "1 PUT {\"id\":\"a\"}"; reply = codes "1 OK 1\n" } ∷ record { line = codes "1 REFRESH"; reply = codes "1 OK 1\n" } ∷ [];
      since = record { line = codes "8 OPEN 1"; reply = codes "8 OK 1\n" } ∷ record { line = codes "1 DEL a"; reply = codes "1 OK 2\n" } ∷ record { line = codes "8 CLOSE 1"; reply = codes "8 OK 1\n" } ∷ [];
      text = codes "OPEN";
      command = inl refl;
      split = refl;
      kept = no_close;
    };
    undisturbed = (
      λ e. omega (arith, ap (λ t. get_or t 0 0) e),
      (λ e. omega (arith, ap (λ t. get_or t 2 0) e), (λ e. omega (arith, ap (λ t. get_or t 2 0) e), (λ e. omega (arith, ap (λ t. get_or t 2 0) e), tt))),
    );
  };
  closed = closed;
}
