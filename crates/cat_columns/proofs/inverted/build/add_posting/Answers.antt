use Rattle.std.proofs.Common.{[], ◌∷◌, ◌++◌, ◌||◌, if◌then◌else◌, is_some, ap, sym, ◌∙◌, rules, Some}
use Rattle.std.proofs.lemmas.Map.Text.{hash_map_updates_str}
use Rattle.std.specs.Option.{option_map_or}
use Rattle.cat_model.specs.Text.{same_text}
use Rattle.cat_columns.specs.inverted.Gathered.{found, listed}
use Rattle.cat_columns.proofs.inverted.Gathering.{put_list, put_key}
use Rattle.cat_columns.proofs.inverted.build.add_posting.Goals as goal

pub returns-in_ok-push-in-Some-clause-lists : goal.returns-in_ok-push-in-Some-clause-lists
returns-in_ok-push-in-Some-clause-lists c = λ other.
    let old = c.args.postings.now in
    let word = c.args.word.now in
    let v = c.push.new.self in
    let put = hash_map_updates_str word old (c.get_mut.follows.lender v) (Some v) ((c.get_mut.follows.holds v).3 (search rules)) other in
    put_list (λ q. found q old) word other v (found other (c.get_mut.follows.lender v)) put (λ rows. rows.items) c.args.row
    (c.in_ok-push-in-Some.ensures.items ∙ ap (λ o. option_map_or (λ rows. rows.items) o [] ++ c.args.row ∷ []) c.in-Some.ensures.value)

pub returns-in_ok-push-in-Some-clause-keys : goal.returns-in_ok-push-in-Some-clause-keys
returns-in_ok-push-in-Some-clause-keys c = λ other.
    let old = c.args.postings.now in
    let word = c.args.word.now in
    let v = c.push.new.self in
    let put = hash_map_updates_str word old (c.get_mut.follows.lender v) (Some v) ((c.get_mut.follows.holds v).3 (search rules)) other in
    put_key (λ q. found q old) word other v (found other (c.get_mut.follows.lender v)) put

pub returns-in_ok-insert-in-None-clause-lists : goal.returns-in_ok-insert-in-None-clause-lists
returns-in_ok-insert-in-None-clause-lists c = λ other.
    let old = c.get_mut.follows.lender-at-none in
    let word = c.args.word.now in
    let v = c.push-in-None.new.self in
    let put = hash_map_updates_str word old c.insert.new.self (Some v) c.in_ok-insert-in-None.ensures.updates other in
    let nothing = ap (found word) c.get_mut.follows.holds-at-none ∙ sym c.in-None.ensures.value in
    put_list (λ q. found q old) word other v (found other c.insert.new.self) put (λ rows. rows.items) c.args.row
    (c.in_ok-push-in-None.ensures.items ∙ ap (λ l. l ++ c.args.row ∷ []) c.new-rows.ensures.items ∙ ap (λ o. option_map_or (λ rows. rows.items) o [] ++ c.args.row ∷ []) (sym nothing))
    ∙ ap (λ m. listed other m ++ (if same_text other word then c.args.row ∷ [] else [])) c.get_mut.follows.holds-at-none

pub returns-in_ok-insert-in-None-clause-keys : goal.returns-in_ok-insert-in-None-clause-keys
returns-in_ok-insert-in-None-clause-keys c = λ other.
    let old = c.get_mut.follows.lender-at-none in
    let word = c.args.word.now in
    let v = c.push-in-None.new.self in
    let put = hash_map_updates_str word old c.insert.new.self (Some v) c.in_ok-insert-in-None.ensures.updates other in
    put_key (λ q. found q old) word other v (found other c.insert.new.self) put
    ∙ ap (λ m. is_some (found other m) || same_text other word) c.get_mut.follows.holds-at-none
