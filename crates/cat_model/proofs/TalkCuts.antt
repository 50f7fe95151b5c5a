-- A text is cut into replies in one way.
use Rattle.std.proofs.Common.{◌≡◌, List, [], ◌∷◌, ◌++◌, map, refl, sym, ◌∙◌, ap, subst, append_assoc}
use Rattle.std.specs.List.{flat_map, AllByRecursion}
use Rattle.cat_model.specs.Text.{Text, IsOneLine}
use Rattle.cat_model.specs.Talk.{Pair, BeginsReply, IsReply}

-- two lines that stand before a line feed
pub same_line : (a b r q : Text) → IsOneLine a → IsOneLine b → a ++ 10 ∷ r ≡ b ++ 10 ∷ q → (a ≡ b) × (r ≡ q)
same_line [] [] r q na nb e = (refl, cc e)
same_line [] (y ∷ b) r q na nb e = absurd (nb.0 (cc e))
same_line (x ∷ a) [] r q na nb e = absurd (na.0 (cc e))
same_line (x ∷ a) (y ∷ b) r q na nb e =
    let tails : (a ≡ b) × (r ≡ q) = same_line a b r q na.1 nb.1 (cc e)
    in (cc (e, tails.0), tails.1)

-- the lines, each with its line feed
abbrev pub ended : List Text → Text
ended lines = flat_map (λ line. line ++ 10 ∷ []) lines

pub ended-cons : (line : Text) (lines : List Text) (r : Text) → ended (line ∷ lines) ++ r ≡ line ++ 10 ∷ (ended lines ++ r)
ended-cons line lines r = append_assoc (line ++ 10 ∷ []) (ended lines) r ∙ append_assoc line (10 ∷ []) (ended lines ++ r)

-- a text that is empty, or whose first line begins a reply
pub data Starts : Text → Type 0 where
  none : Starts []
  some : (line rest : Text) → BeginsReply line → IsOneLine line → Starts (line ++ 10 ∷ rest)

-- further lines go no further than the next reply
not_more : (line rest r : Text) → Starts r → IsOneLine line → (BeginsReply line → ⊥) → r ≡ line ++ 10 ∷ rest → ⊥
not_more [] rest [] Starts.none one never e = cc e
not_more (b ∷ line) rest [] Starts.none one never e = cc e
not_more line rest _ (Starts.some f more begins cut) one never e = never (subst BeginsReply (same_line f line more rest cut one e).0 begins)

same_more : (m n : List Text) (r q : Text) → AllByRecursion IsOneLine m → AllByRecursion IsOneLine n
    → AllByRecursion (λ l. BeginsReply l → ⊥) m → AllByRecursion (λ l. BeginsReply l → ⊥) n → Starts r → Starts q
    → ended m ++ r ≡ ended n ++ q → (m ≡ n) × (r ≡ q)
same_more [] [] r q cm cn nm nn sr sq e = (refl, e)
same_more [] (l ∷ n) r q cm cn nm nn sr sq e = absurd (not_more l (ended n ++ q) r sr cn.0 nn.0 (e ∙ ended-cons l n q))
same_more (l ∷ m) [] r q cm cn nm nn sr sq e = absurd (not_more l (ended m ++ r) q sq cm.0 nm.0 (sym e ∙ ended-cons l m r))
same_more (l ∷ m) (k ∷ n) r q cm cn nm nn sr sq e =
    let heads : (l ≡ k) × (ended m ++ r ≡ ended n ++ q) = same_line l k (ended m ++ r) (ended n ++ q) cm.0 cn.0 (sym (ended-cons l m r) ∙ e ∙ ended-cons k n q) in
    let tails : (m ≡ n) × (r ≡ q) = same_more m n r q cm.1 cn.1 nm.1 nn.1 sr sq heads.1
    in (cc (heads.0, tails.0), tails.1)

same_reply : (x y r q : Text) → IsReply x → IsReply y → Starts r → Starts q → x ++ r ≡ y ++ q → (x ≡ y) × (r ≡ q)
same_reply x y r q a b sr sq e =
    let whole : ended (a.first ∷ a.more) ++ r ≡ ended (b.first ∷ b.more) ++ q = ap (λ t. t ++ r) (sym a.whole) ∙ e ∙ ap (λ t. t ++ q) b.whole in
    let heads : (a.first ≡ b.first) × (ended a.more ++ r ≡ ended b.more ++ q) =
    same_line a.first b.first (ended a.more ++ r) (ended b.more ++ q) a.cut.0 b.cut.0 (sym (ended-cons a.first a.more r) ∙ whole ∙ ended-cons b.first b.more q) in
    let tails : (a.more ≡ b.more) × (r ≡ q) = same_more a.more b.more r q a.cut.1 b.cut.1 a.goes_on b.goes_on sr sq heads.1 in
    (a.whole ∙ (λ i. ended (heads.0 i ∷ tails.0 i)) ∙ sym b.whole, tails.1)

starts : (ps : List Pair) → AllByRecursion (λ p. IsReply p.reply) ps → Starts (flat_map (λ p. p.reply) ps)
starts [] a = Starts.none
starts (p ∷ ps) a =
    let rest : Text = flat_map (λ p. p.reply) ps in
    subst Starts (sym (ap (λ t. t ++ rest) a.0.whole ∙ ended-cons a.0.first a.0.more rest)) (Starts.some a.0.first (ended a.0.more ++ rest) a.0.begins a.0.cut.0)

-- two talks with the same lines and the same replies one behind another
pub talks_same : (xs ys : List Pair) → AllByRecursion (λ p. IsReply p.reply) xs → AllByRecursion (λ p. IsReply p.reply) ys
    → map (λ p. p.line) xs ≡ map (λ p. p.line) ys → flat_map (λ p. p.reply) xs ≡ flat_map (λ p. p.reply) ys → xs ≡ ys
talks_same [] [] a b e f = refl
talks_same [] (y ∷ ys) a b e f = absurd (cc e)
talks_same (x ∷ xs) [] a b e f = absurd (cc e)
talks_same (x ∷ xs) (y ∷ ys) a b e f =
    let replies : (x.reply ≡ y.reply) × (flat_map (λ p. p.reply) xs ≡ flat_map (λ p. p.reply) ys) =
    same_reply x.reply y.reply (flat_map (λ p. p.reply) xs) (flat_map (λ p. p.reply) ys) a.0 b.0 (starts xs a.1) (starts ys b.1) f in
    let lines : x.line ≡ y.line = cc e in
    let rest : xs ≡ ys = talks_same xs ys a.1 b.1 (cc e) replies.1 in
    λ i. record { line = lines i; reply = replies.0 i } ∷ rest i
