-- The reply to a line that was refused, in pieces.
use Rattle.std.proofs.Common.{◌≡◌, ℕ, ◌∷◌, ◌++◌, codes, append_assoc}
use Rattle.std.specs.Prelude.{Result, Err}
use Rattle.std.specs.Fmt.{decimal}
use Rattle.cat_base.specs.declared.refusal.Refusal.{Refusal}
use Rattle.cat_base.specs.declared.refusal.Refusal.TheVariants.{Query}
use Rattle.cat_model.specs.Text.{Text}
use Rattle.cat_model.specs.Lines.{line_text, refusal_words, reply_text}
use Rattle.cat_protocol.specs.replies.Reply.{reply_of}
use Rattle.cat_protocol.specs.declared.replies.answer.Answer.{Answer}

refusal_behind : (session : Text) (e : Refusal) → line_text (session ∷ codes "NO" ∷ refusal_words e) ≡ (session ++ codes " NO ") ++ line_text (refusal_words e)
refusal_behind session (Query place) = simp append_assoc
refusal_behind session e = simp append_assoc

pub refused_in_pieces : (session : ℕ) (answer : Result Answer Refusal) (e : Refusal) → answer ≡ Err e
    → reply_text session (reply_of answer) ≡ (decimal session ++ codes " NO ") ++ line_text (refusal_words e)
refused_in_pieces session answer e is = rw is (refusal_behind (decimal session) e)
