use Rattle.std.proofs.Common.{◌≡◌, ◌∙◌, List, [], ◌∷◌, ◌++◌, Some, None, ap, sym, subst}
use Rattle.std.specs.Map.{values_of}
use Rattle.cat_model.specs.State as state
use Rattle.cat_views.specs.Holds.{HeldView}
use Rattle.cat_lifetimes.specs.rights.Rights.{AreRightsKeyed, hold_of_right, right_of}
use Rattle.cat_lifetimes.proofs.rights.Entries.{absent, found_last, keyed-push, same_as, values-push}
use Rattle.indexmap.proofs.CallerLemmas.{insert_entry-new}
use Rattle.cat_lifetimes.proofs.rights.rights.Rights.insert.Goals as goal
use Rattle.cat_lifetimes.proofs.rights.rights.Rights.insert.Goals.{in-Ok-None, in-Err}

pub unreachable-requires : goal.unreachable-requires
unreachable-requires c =
    let h = c.args.hold in
    let k = c.new-key.result in
    let is : k ≡ hold_of_right h = c.new-key.ensures ∙ (λ i. record { session = c.session.ensures i; token = c.token.ensures i }) in
    let none : right_of (values_of c.self.inside.holds.entries) h.session h.view.token ≡ None = ap (λ (rs : List HeldView). right_of rs h.session h.view.token) c.self.view_is ∙ c.requires in
    let both = c.in-Ok-Some.ensures.old ∙ absent c.self.inside.holds.entries k h c.self.invariant is none in
    absurd (let no : Some c.in-Ok-Some._other ≡ None = sym c.in-Ok-Some.field-0-is ∙ both in cc)

pub invariant_of-self : goal.invariant_of-self
invariant_of-self c =
    let es : List (state.Hold × HeldView) = c.self.inside.holds.entries in
    let h = c.args.hold in
    let k = c.new-key.result in
    let is : k ≡ hold_of_right h = c.new-key.ensures ∙ (λ i. record { session = c.session.ensures i; token = c.token.ensures i }) in
    let none : right_of (values_of es) h.session h.view.token ≡ None = ap (λ (rs : List HeldView). right_of rs h.session h.view.token) c.self.view_is ∙ c.requires in
    elim c.match-insert.branch [
      | in-Ok-None w ↦
          let entries : c.insert.new.self.entries ≡ es ++ (k, h) ∷ [] = w.in-Ok-None.ensures.entries ∙ insert_entry-new same_as c.self.inside.holds k h (absent es k h c.self.invariant is none) in
          subst (λ (fs : List (state.Hold × HeldView)). AreRightsKeyed fs) (sym entries) (keyed-push es k h c.self.invariant is)
      | in-Err w ↦ subst (λ (fs : List (state.Hold × HeldView)). AreRightsKeyed fs) (sym w.in-Err.ensures.err) c.self.invariant
    ]

pub returns-clause-added : goal.returns-clause-added
returns-clause-added c =
    let es : List (state.Hold × HeldView) = c.self.inside.holds.entries in
    let h = c.args.hold in
    let k = c.new-key.result in
    let is : k ≡ hold_of_right h = c.new-key.ensures ∙ (λ i. record { session = c.session.ensures i; token = c.token.ensures i }) in
    let none : right_of (values_of es) h.session h.view.token ≡ None = ap (λ (rs : List HeldView). right_of rs h.session h.view.token) c.self.view_is ∙ c.requires in
    elim c.match-insert.branch [
      | in-Ok-None w ↦
          let entries : c.insert.new.self.entries ≡ es ++ (k, h) ∷ [] = w.in-Ok-None.ensures.entries ∙ insert_entry-new same_as c.self.inside.holds k h (absent es k h c.self.invariant is none) in
          rw w.result-is (ap (λ (fs : List (state.Hold × HeldView)). values_of fs) entries ∙ values-push es k h ∙ ap (λ (rs : List HeldView). rs ++ h ∷ []) c.self.view_is)
      | in-Err w ↦ rw w.result-is tt
    ]

pub returns-clause-found : goal.returns-clause-found
returns-clause-found c =
    let es : List (state.Hold × HeldView) = c.self.inside.holds.entries in
    let h = c.args.hold in
    let k = c.new-key.result in
    let is : k ≡ hold_of_right h = c.new-key.ensures ∙ (λ i. record { session = c.session.ensures i; token = c.token.ensures i }) in
    let none : right_of (values_of es) h.session h.view.token ≡ None = ap (λ (rs : List HeldView). right_of rs h.session h.view.token) c.self.view_is ∙ c.requires in
    elim c.match-insert.branch [
      | in-Ok-None w ↦
          let entries : c.insert.new.self.entries ≡ es ++ (k, h) ∷ [] = w.in-Ok-None.ensures.entries ∙ insert_entry-new same_as c.self.inside.holds k h (absent es k h c.self.invariant is none) in
          let added : values_of c.insert.new.self.entries ≡ c.args.self.now ++ h ∷ [] = ap (λ (fs : List (state.Hold × HeldView)). values_of fs) entries ∙ values-push es k h ∙ ap (λ (rs : List HeldView). rs ++ h ∷ []) c.self.view_is in
          rw w.result-is (λ s t. ap (λ (rs : List HeldView). right_of rs s t) added ∙ found_last c.args.self.now h c.requires s t)
      | in-Err w ↦ rw w.result-is tt
    ]
