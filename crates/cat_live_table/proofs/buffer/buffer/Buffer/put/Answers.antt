use Rattle.std.proofs.Common.{◌≡◌, ◌++◌, ◌∷◌, [], List, ap, sym, ◌∙◌, subst, string_bytes, not, filter}
use Rattle.std.specs.Map.{values_of}
use Rattle.std.proofs.lemmas.List.{map_push}
use Rattle.cat_model.specs.Item.{Record}
use Rattle.cat_model.specs.Write.{Write}
use Rattle.cat_model.specs.Table.{without}
use Rattle.cat_live_table.specs.buffer.Buffered.{IsBuffered, AreKeyed}
use Rattle.cat_live_table.proofs.buffer.Entries.{is_key, values_without, keyed-filter, keyed-push}
use Rattle.cat_live_table.proofs.buffer.Kept.{IsBuffered-put}
use Rattle.cat_live_table.proofs.buffer.buffer.Buffer.put.Goals as goal

same_id : (c : goal.In_ok-put_last) → string_bytes c.in_ok-id.id ≡ c.args.item.id
same_id c = c.in_ok-id.ensures.ok ∙ c.id.ensures.value

-- the record goes last
more : (c : goal.In_ok-put_last) → c.put_last.new.entries.entries
    ≡ filter (λ e. not (is_key (string_bytes c.in_ok-id.id) e.0)) c.self.inside.entries.entries ++ (c.in_ok-id.id, record { number = c.args.number; item = c.args.item }) ∷ []
more c =
    c.in_ok-put_last.ensures.ok
    ∙ ap (λ (r : Record). filter (λ e. not (is_key (string_bytes c.in_ok-id.id) e.0)) c.self.inside.entries.entries ++ (c.in_ok-id.id, r) ∷ []) c.new.ensures

pub returns-clause-ok : goal.returns-clause-ok
returns-clause-ok c =
    let last : Record = record { number = c.args.number; item = c.args.item } in
    let less =
    values_without (string_bytes c.in_ok-id.id) c.self.inside.entries.entries c.self.invariant.1
    ∙ ap (λ id. without (values_of c.self.inside.entries.entries) (Write.delete id)) (same_id c)
    ∙ ap (λ b. without b.records (Write.delete c.args.item.id)) c.self.view_is in
    let records = ap values_of (more c) ∙ map_push (λ e. e.1) _ (c.in_ok-id.id, last) ∙ ap (λ (l : List Record). l ++ last ∷ []) less in
    λ i. record { schema = (c.self.view_is i).schema; records = records i }

pub invariant_of-self : goal.invariant_of-self
invariant_of-self c = subst (λ es. IsBuffered (record { schema = c.self.inside.schema; records = values_of es }) × AreKeyed es) (sym c.in_err-put_last.ensures.err) c.self.invariant

pub invariant_of-self-2 : goal.invariant_of-self-2
invariant_of-self-2 c = (
  subst IsBuffered (sym (returns-clause-ok c)) (IsBuffered-put c.args.self.now c.args.number c.args.item (subst IsBuffered c.self.view_is c.self.invariant.0)
      c.requires.space c.requires.positive c.requires.newest c.requires.item),
  rw (more c) (keyed-push _ (c.in_ok-id.id, record { number = c.args.number; item = c.args.item })
      (keyed-filter (λ e. not (is_key (string_bytes c.in_ok-id.id) e.0)) c.self.inside.entries.entries c.self.invariant.1) (same_id c)),
)
