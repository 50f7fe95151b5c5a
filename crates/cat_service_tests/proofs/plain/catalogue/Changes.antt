-- What commands make of a state, from the lists that they leave.
use Rattle.std.proofs.Common.{◌≡◌, ◌∙◌, ℕ, ◌+◌, List, [], ◌∷◌, ◌++◌, Bool, true, false, cond, not, ◌&&◌, ap, refl, sym}
use Rattle.std.specs.List.{filter}
use Rattle.cat_model.specs.Item.{Item, Record}
use Rattle.cat_model.specs.Run.{is_full}
use Rattle.cat_model.specs.State.{Hold, RecordedTable, State, has_hold, has_view, held_in, refreshed, refuses_refresh, tokens, with_hold, written}
use Rattle.cat_model.specs.Table.{after}
use Rattle.cat_model.specs.Text.{Text, same_text}
use Rattle.cat_model.specs.Write.{Write}
use Rattle.cat_service_tests.specs.plain.Tables.{views_with_room}

none_full : (b : Bool) → (b && false) ≡ false
none_full true = refl
none_full false = refl

module _ (st : State) where
  -- the item is put behind the records that have another id
  pub written_so : (i : Item) (n : ℕ) (id : Text) (r : Record) (kept more : List Record) → n ≡ st.count + 1 → id ≡ i.id → r ≡ record { number = n; item = i }
      → kept ≡ filter (λ q. not (same_text id q.item.id)) st.table → more ≡ kept ++ r ∷ [] → record st { table = more; count = n } ≡ written st (Write.put i)
  written_so i n id r kept more next named is kept_is more_is =
      let others : List Record = filter (λ q. not (same_text i.id q.item.id)) st.table in
      let behind : more ≡ others ++ r ∷ [] = more_is ∙ ap (λ l. l ++ r ∷ []) (kept_is ∙ ap (λ t. filter (λ q. not (same_text t q.item.id)) st.table) named) in
      let last : others ++ r ∷ [] ≡ others ++ record { number = n; item = i } ∷ [] = ap (λ q. others ++ q ∷ []) is in
      let counted : others ++ record { number = n; item = i } ∷ [] ≡ after st.table (st.count + 1) (Write.put i) = λ j. others ++ record { number = next j; item = i } ∷ [] in
      λ j. record st { table = (behind ∙ last ∙ counted) j; count = next j }

  -- the view of now is recorded behind those that stay
  pub refreshed_so : (v : RecordedTable) (left more : List RecordedTable) → has_view st.views st.count ≡ false → v ≡ record { token = st.count; table = st.table }
      → left ≡ views_with_room (held_in st.holds) st.views → more ≡ left ++ v ∷ [] → record st { views = more } ≡ refreshed st
  refreshed_so v left more none is left_is more_is =
      let one : RecordedTable = record { token = st.count; table = st.table } in
      let room : List RecordedTable = views_with_room (held_in st.holds) st.views in
      let views : more ≡ cond (has_view st.views st.count) st.views (room ++ one ∷ []) =
      more_is ∙ ap (λ l. l ++ v ∷ []) left_is ∙ ap (λ u. room ++ u ∷ []) is ∙ sym (ap (λ b. cond b st.views (room ++ one ∷ [])) none) in
      λ j. record st { views = views j }

  pub takes_refresh : is_full (held_in st.holds) (tokens st.views) ≡ false → refuses_refresh st ≡ false
  takes_refresh room = ap (λ b. not (has_view st.views st.count) && b) room ∙ none_full (not (has_view st.views st.count))

  -- there is a view of now
  module _ (has : has_view st.views st.count ≡ true) where
    pub takes_no_view : refuses_refresh st ≡ false
    takes_no_view = ap (λ b. not b && is_full (held_in st.holds) (tokens st.views)) has

    pub refreshed_already : st ≡ refreshed st
    refreshed_already =
        let one : RecordedTable = record { token = st.count; table = st.table } in
        let views : st.views ≡ cond (has_view st.views st.count) st.views (views_with_room (held_in st.holds) st.views ++ one ∷ []) =
        sym (ap (λ b. cond b st.views (views_with_room (held_in st.holds) st.views ++ one ∷ [])) has) in
        λ j. record st { views = views j }

  -- the holds are those with one more
  pub held_so : (s t : ℕ) (hs : List Hold) → has_hold st.holds s t ≡ false → hs ≡ st.holds ++ record { session = s; token = t } ∷ [] → record st { holds = hs } ≡ with_hold st s t
  held_so s t hs free is =
      let one : Hold = record { session = s; token = t } in
      let holds : hs ≡ cond (has_hold st.holds s t) st.holds (st.holds ++ one ∷ []) = is ∙ sym (ap (λ b. cond b st.holds (st.holds ++ one ∷ [])) free) in
      λ j. record st { holds = holds j }

  pub held_already : (s t : ℕ) → has_hold st.holds s t ≡ true → st ≡ with_hold st s t
  held_already s t held =
      let one : Hold = record { session = s; token = t } in
      let holds : st.holds ≡ cond (has_hold st.holds s t) st.holds (st.holds ++ one ∷ []) = sym (ap (λ b. cond b st.holds (st.holds ++ one ∷ [])) held) in
      λ j. record st { holds = holds j }
