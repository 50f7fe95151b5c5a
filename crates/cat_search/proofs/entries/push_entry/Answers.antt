use Rattle.std.proofs.Common.{◌≡◌, ◌++◌, ◌∷◌, [], length, ap, ◌∙◌, arith}
use Rattle.std.proofs.lemmas.Result.{on_ok_weaker}
use Rattle.std.specs.Vec.{vec_len}
use Rattle.cat_model.specs.Page.{Entry}
use Rattle.cat_search.proofs.Pushed.{last_at, last_set}
use Rattle.cat_search.proofs.entries.push_entry.Goals as goal

pub returns : goal.returns
returns c =
    let entries = c.args.entries.now.items in
    let long : vec_len c.push.new.self ≡ length c.push.new.self.items = omega (arith, c.push.new.self.ok.0) in
    let same = c.entry.view_is ∙ c.in-Some.ensures.value ∙ last_at entries c.push.new.self.items _ _ _ c.in_ok-push.ensures.items long in
    record {
      ok = on_ok_weaker c.fill.result (λ filled.
          last_set entries c.push.new.self.items _ _ _ c.in_ok-push.ensures.items long
          ∙ ap (λ (e : Entry). entries ++ e ∷ []) (λ j. record {
            number = ap (λ (e : Entry). e.number) same j;
            id = (filled ∙ c.as_str.ensures) j;
            key = (ap (λ (e : Entry). e.key) same ∙ c.in_ok-shown_key.ensures.ok) j;
          })) c.fill.ensures.ok;
    }
