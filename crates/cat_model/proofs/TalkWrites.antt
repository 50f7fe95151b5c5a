-- The accepted writes of a run, by the bytes that show them.
use Rattle.std.proofs.Common.{inl, inr, suc, ◌≡◌, ℕ, ◌+◌, ◌≤◌, ◌<◌, List, [], ◌∷◌, ◌++◌, map, length, take, get_or, refl, sym, ◌∙◌, ap, subst, append-nil, arith, codes}
use Rattle.std.specs.Prelude.{zero, Contains, Option, None, Some, Result, Ok, Err, true, false, Bool, cond}
use Rattle.std.specs.List.{cons_option}
use Rattle.std.specs.Fmt.{decimal}
use Rattle.std.proofs.lemmas.List.{length-append}
use Rattle.std.proofs.lemmas.List.Elements.{Contains-append_right}
use Rattle.cat_base.specs.declared.refusal.Refusal.{Refusal}
use Rattle.cat_base.specs.declared.refusal.Refusal.TheVariants.{Id}
use Rattle.cat_model.specs.Text.{Text}
use Rattle.cat_model.specs.Item.{Item, Schema, is_id}
use Rattle.cat_model.specs.Write.{Write}
use Rattle.cat_model.specs.Table.{Opened}
use Rattle.cat_model.specs.Lines.{Said, spaced, spelling, line_text, reply_text}
use Rattle.cat_model.specs.Run.{Command, Reply, Exchange, Run, accepted, accepted_by, writes, now, Fits, FitsFrom}
use Rattle.cat_model.specs.Query.{Query}
use Rattle.cat_model.specs.Grammar.{Spells}
use Rattle.cat_model.specs.Heard.{Json, Hears, IsCommand, IsQueryOf}
use Rattle.cat_model.specs.Served.{Outcome, heard, exchange, outcome_text}
use Rattle.cat_model.specs.Talk.{granted, AsksToWrite, IsWrite}
use Rattle.cat_model.proofs.Runs.{writes-push}
use Rattle.cat_model.proofs.QueryLaws.{one_query}
use Rattle.cat_model.proofs.TalkHeard.{Entry, pair, run_of, Heeded, heard_line}
use Rattle.cat_model.proofs.TalkHolds.{IsNext, accepted_fits}

-- the write that a text of a line asks for
pub data Makes (json : Json) (schema : Schema) (text : Text) (w : Write) : Type 0 where
  put_it : (argument : Text) (i : Item) → text ≡ codes "PUT " ++ argument → json.item_of schema argument ≡ Ok i → w ≡ Write.put i → Makes json schema text w
  delete_it : (argument : Text) → text ≡ codes "DEL " ++ argument → w ≡ Write.delete argument → Makes json schema text w
  delete_where_it : (argument : Text) (q : Query) → text ≡ codes "DELW " ++ argument → Spells schema argument q → w ≡ Write.delete_where q → Makes json schema text w

pub makes_one : (json : Json) (schema : Schema) (text : Text) (w v : Write) → Makes json schema text w → Makes json schema text v → w ≡ v
makes_one json schema text w v (Makes.put_it a i e k is) (Makes.put_it b j f l it) =
    let same : a ≡ b = cc (sym e ∙ f) in
    let items : i ≡ j = ok_value (sym k ∙ ap (json.item_of schema) same ∙ l) in
    is ∙ ap Write.put items ∙ sym it
  where
    ok_value : ◌≡◌ {A = Result Item Refusal} (Ok i) (Ok j) → i ≡ j
    ok_value q = cc q
makes_one json schema text w v (Makes.delete_it a e is) (Makes.delete_it b f it) = let same : a ≡ b = cc (sym e ∙ f) in is ∙ ap Write.delete same ∙ sym it
makes_one json schema text w v (Makes.delete_where_it a q e k is) (Makes.delete_where_it b r f l it) =
    let same : b ≡ a = cc (sym f ∙ e) in
    is ∙ ap Write.delete_where (one_query schema a q r k (subst (λ t. Spells schema t r) same l)) ∙ sym it
makes_one json schema text w v (Makes.put_it a i e k is) (Makes.delete_where_it b r f l it) = absurd (omega (arith, ap (λ t. get_or t 0 0) (sym e ∙ f)))
makes_one json schema text w v (Makes.delete_where_it a q e k is) (Makes.put_it b j f l it) = absurd (omega (arith, ap (λ t. get_or t 0 0) (sym e ∙ f)))
makes_one json schema text w v (Makes.delete_it a e is) (Makes.delete_where_it b r f l it) = absurd (omega (arith, ap (λ t. get_or t 3 0) (sym e ∙ f)))
makes_one json schema text w v (Makes.delete_where_it a q e k is) (Makes.delete_it b f it) = absurd (omega (arith, ap (λ t. get_or t 3 0) (sym e ∙ f)))
makes_one json schema text w v (Makes.put_it a i e k is) (Makes.delete_it b f it) = absurd (omega (arith, ap (λ t. get_or t 0 0) (sym e ∙ f)))
makes_one json schema text w v (Makes.delete_it a e is) (Makes.put_it b j f l it) = absurd (omega (arith, ap (λ t. get_or t 0 0) (sym e ∙ f)))

-- a text that asks for a write
pub record Asks (json : Json) (schema : Schema) (text : Text) (w : Write) : Type 0 where
  pub argument : Text
  pub command : AsksToWrite text argument
  pub makes : Makes json schema text w

put_made : (json : Json) (schema : Schema) (text : Text) (r : Result Item Refusal) (reply : Reply) (w : Write) → json.item_of schema text ≡ r → accepted_by (Command.put r) reply ≡ Some w → Asks json schema (codes "PUT " ++ text) w
put_made json schema text (Ok i) (Ok a) w is e = record { argument = text; command = AsksToWrite.put refl; makes = Makes.put_it text i refl is (cc e) }
put_made json schema text (Ok i) (Err b) w is e = absurd (cc e)
put_made json schema text (Err b) r w is e = absurd (cc e)

delete_made : (json : Json) (schema : Schema) (text : Text) (b : Bool) (reply : Reply) (w : Write) → accepted_by (Command.delete (cond b (Ok text) (Err Id))) reply ≡ Some w → Asks json schema (codes "DEL " ++ text) w
delete_made json schema text true (Ok a) w e = record { argument = text; command = AsksToWrite.delete refl; makes = Makes.delete_it text refl (cc e) }
delete_made json schema text true (Err b) w e = absurd (cc e)
delete_made json schema text false r w e = absurd (cc e)

query_made : (json : Json) (schema : Schema) (text : Text) (r : Result Query Refusal) (reply : Reply) (w : Write) → IsQueryOf schema text r → accepted_by (Command.delete_where r) reply ≡ Some w → Asks json schema (codes "DELW " ++ text) w
query_made json schema text _ (Ok a) w (IsQueryOf.spelled q k) e = record { argument = text; command = AsksToWrite.delete_where refl; makes = Makes.delete_where_it text q refl k (cc e) }
query_made json schema text _ (Err b) w (IsQueryOf.spelled q k) e = absurd (cc e)
query_made json schema text _ r w (IsQueryOf.faulty place k) e = absurd (cc e)

nothing_made : (c d : Command) (r : Reply) (w : Write) → c ≡ d → accepted_by d r ≡ None → accepted_by c r ≡ Some w → ⊥
nothing_made c d r w e none some = absurd (let k : ◌≡◌ {A = Option Write} None (Some w) = sym none ∙ ap (λ x. accepted_by x r) (sym e) ∙ some in cc k)

pub asks : (json : Json) (schema : Schema) (said : Said) (c : Command) (r : Reply) (w : Write) → IsCommand json schema said c → accepted_by c r ≡ Some w → Asks json schema (spaced (spelling said)) w
asks json schema (Said.put text) c r w is e = put_made json schema text (json.item_of schema text) r w refl (ap (λ x. accepted_by x r) (sym is) ∙ e)
asks json schema (Said.delete text) c r w is e = delete_made json schema text (is_id text) r w (ap (λ x. accepted_by x r) (sym is) ∙ e)
asks json schema (Said.delete_where text) c r w is e = query_made json schema text is.0 r w is.1 (ap (λ x. accepted_by x r) (sym is.2) ∙ e)
asks json schema Said.refresh c r w is e = absurd (nothing_made c Command.refresh r w is refl e)
asks json schema Said.open_newest c r w is e = absurd (nothing_made c Command.open_newest r w is refl e)
asks json schema (Said.open_at t) c r w is e = absurd (nothing_made c (Command.open_at t) r w is refl e)
asks json schema (Said.close t) c r w is e = absurd (nothing_made c (Command.close t) r w is refl e)
asks json schema (Said.find t n sort mark text) c r w is e = absurd (nothing_made c _ r w is.2 refl e)
asks json schema (Said.facets t dim n text) c r w is e = absurd (nothing_made c _ r w is.2 refl e)
asks json schema (Said.get t text) c r w is e = absurd (nothing_made c _ r w is refl e)
asks json schema (Said.files_of_token t) c r w is e = absurd (nothing_made c (Command.files_of_token t) r w is refl e)
asks json schema (Said.files_of_commit g) c r w is e = absurd (nothing_made c (Command.files_of_commit g) r w is refl e)
asks json schema (Said.commit text) c r w is e = absurd (nothing_made c _ r w is refl e)
asks json schema (Said.text_of_commit g) c r w is e = absurd (nothing_made c (Command.text_of_commit g) r w is refl e)
asks json schema Said.snapshot c r w is e = absurd (nothing_made c Command.snapshot r w is refl e)
asks json schema (Said.release_snapshot g) c r w is e = absurd (nothing_made c (Command.release_snapshot g) r w is refl e)
asks json schema (Said.prune n) c r w is e = absurd (nothing_made c (Command.prune n) r w is refl e)
asks json schema (Said.chore what) c r w is e = absurd (nothing_made c (Command.chore what) r w is refl e)

-- a write of the run stands in the talk
pub record Stands (json : Json) (schema : Schema) (es : List Entry) (n : ℕ) (w : Write) : Type 0 where
  pub text : Text
  pub written : IsWrite (map pair es) n text
  pub makes : Makes json schema text w

stands_later : (json : Json) (schema : Schema) (e : Entry) (es : List Entry) (n m : ℕ) (w : Write) → m ≡ n → Stands json schema es m w → Stands json schema (e ∷ es) n w
stands_later json schema e es n m w same a = record {
  text = a.text;
  written = record { session = a.written.session; argument = a.written.argument; command = a.written.command; stands = subst (λ k. Contains (map pair (e ∷ es)) (granted a.written.session a.text k)) same (Contains-append_right (pair e ∷ []) (map pair es) _ a.written.stands) };
  makes = a.makes;
}

module _ (json : Json) (from : Opened) where
  -- the write of an exchange
  stands_here : (past : Run) (e : Entry) (es : List Entry) (x : Exchange) (w : Write) → Hears json from.start.schema e.line (heard e.told) → Fits from past x → e.told ≡ Outcome.replied x → accepted x ≡ Some w → Stands json from.start.schema (e ∷ es) (now from.start past + 1) w
  stands_here past e es x w h f is some =
      elim (heard_line json from.start.schema e.line (heard e.told) x.line h (ap heard is)) [
        | inl so ↦
            let a = asks json from.start.schema so.said x.line.command x.reply w so.is some in
            let next : IsNext from past x.reply = accepted_fits from past x.line.session x.line.command x.reply w f some in
            let n : ℕ = now from.start past + 1 in
            let line : e.line ≡ decimal x.line.session ++ 32 ∷ spaced (spelling so.said) = so.spells.session_first ∙ ap (λ r. decimal x.line.session ++ 32 ∷ r) so.spells.says.spelled in
            let reply : outcome_text e.told ≡ line_text (decimal x.line.session ∷ codes "OK" ∷ decimal n ∷ []) =
            ap outcome_text is ∙ ap (reply_text x.line.session) next.told ∙ append-nil (line_text (decimal x.line.session ∷ codes "OK" ∷ decimal n ∷ [])) in
            record {
              text = spaced (spelling so.said);
              written = record { session = x.line.session; argument = a.argument; command = a.command; stands = (0, omega arith, λ i. record { line = line i; reply = reply i }) };
              makes = a.makes;
            }
        | inr nothing ↦ absurd (nothing_made x.line.command Command.formless x.reply w nothing.is refl some)
      ]

  pub writes_stand : (past : Run) (es : List Entry) → Heeded json from.start.schema es → FitsFrom from past (run_of es) → (a b : List Write) (w : Write) → writes (run_of es) ≡ a ++ w ∷ b → Stands json from.start.schema es (now from.start past + 1 + length a) w
  writes_stand past [] h f [] b w e = absurd (cc e)
  writes_stand past [] h f (v ∷ a) b w e = absurd (cc e)
  writes_stand past (e ∷ es) h f a b w ws = by (λ p g c d v k. writes_stand p es h.1 g c d v k) e.told refl f ws
    where
      Rest : Type 0
      Rest = (p : Run) → FitsFrom from p (run_of es) → (c d : List Write) (v : Write) → writes (run_of es) ≡ c ++ v ∷ d → Stands json from.start.schema es (now from.start p + 1 + length c) v

      more : (x : Exchange) (v : Write) → e.told ≡ Outcome.replied x → accepted x ≡ Some v → Fits from past x → FitsFrom from (past ++ x ∷ []) (run_of es) → now from.start (past ++ x ∷ []) ≡ now from.start past + 1
          → ((p : Run) → FitsFrom from p (run_of es) → (c d : List Write) (v : Write) → writes (run_of es) ≡ c ++ v ∷ d → Stands json from.start.schema es (now from.start p + 1 + length c) v)
          → (c d : List Write) (u : Write) → v ∷ writes (run_of es) ≡ c ++ u ∷ d → Stands json from.start.schema (e ∷ es) (now from.start past + 1 + length c) u
      more x v is some g later n rest [] d u k =
          let same : v ≡ u = cc k in
          let num : now from.start past + 1 ≡ now from.start past + 1 + length {A = Write} [] = omega arith in
          subst (λ m. Stands json from.start.schema (e ∷ es) m u) num (stands_here past e es x u h.0 g is (some ∙ ap Some same))
      more x v is some g later n rest (y ∷ c) d u k =
          stands_later json from.start.schema e es (now from.start past + 1 + length (y ∷ c)) (now from.start (past ++ x ∷ []) + 1 + length c) u (omega (arith, n)) (rest (past ++ x ∷ []) later c d u (cc k))

      by : ((p : Run) → FitsFrom from p (run_of es) → (c d : List Write) (v : Write) → writes (run_of es) ≡ c ++ v ∷ d → Stands json from.start.schema es (now from.start p + 1 + length c) v)
          → (told : Outcome) → e.told ≡ told → FitsFrom from past (cons_option (exchange told) (run_of es)) → writes (cons_option (exchange told) (run_of es)) ≡ a ++ w ∷ b → Stands json from.start.schema (e ∷ es) (now from.start past + 1 + length a) w
      by rest Outcome.unreadable is g k = stands_later json from.start.schema e es _ _ w refl (rest past g a b w k)
      by rest (Outcome.replied x) is g k = choose (accepted x) refl k
        where
          choose : (o : Option Write) → accepted x ≡ o → cons_option o (writes (run_of es)) ≡ a ++ w ∷ b → Stands json from.start.schema (e ∷ es) (now from.start past + 1 + length a) w
          choose None none k' =
              let ws' : writes (past ++ x ∷ []) ≡ writes past = writes-push past x ∙ ap (λ o. writes past ++ cons_option o []) none ∙ append-nil (writes past) in
              stands_later json from.start.schema e es _ _ w (omega (arith, ap (λ l. length l) ws')) (rest (past ++ x ∷ []) g.1 a b w k')
          choose (Some v) some k' =
              let ws' : writes (past ++ x ∷ []) ≡ writes past ++ v ∷ [] = writes-push past x ∙ ap (λ o. writes past ++ cons_option o []) some in
              more x v is some g.0 g.1 (omega (arith, ap (λ l. length l) ws', length-append (writes past) (v ∷ []))) rest a b w k'

-- lists that agree at each of their first places
pub take_same : {X : Type 0} (k : ℕ) (xs ys : List X) → k ≤ length xs → k ≤ length ys
    → ((a b c d : List X) (x y : X) → xs ≡ a ++ x ∷ b → ys ≡ c ++ y ∷ d → length a ≡ length c → length a < k → x ≡ y) → take k xs ≡ take k ys
take_same zero xs ys h l same = refl
take_same (suc k) [] ys h l same = absurd (omega (arith, h))
take_same (suc k) (x ∷ xs) [] h l same = absurd (omega (arith, l))
take_same (suc k) (x ∷ xs) (y ∷ ys) h l same =
    let head : x ≡ y = same [] xs [] ys x y refl refl refl (omega arith) in
    let tail : take k xs ≡ take k ys = take_same k xs ys (omega (arith, h)) (omega (arith, l)) (λ a b c d u v p q r m. same (x ∷ a) b (y ∷ c) d u v (ap (λ zs. x ∷ zs) p) (ap (λ zs. y ∷ zs) q) (omega (arith, r)) (omega (arith, m))) in
    λ i. head i ∷ tail i
