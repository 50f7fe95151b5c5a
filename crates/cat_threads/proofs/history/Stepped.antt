-- What the steps of a call make of the passes.
use Rattle.std.proofs.Common.{◌≡◌, ℕ, Bool, List, [], ◌∷◌, sym, ap, ◌∙◌, subst}
use Rattle.cat_threads.specs.history.Rules.{Sight, Old, Each, caller, scribe, old_of, forget, under, level, note_of, longer, greater, Checked, Compared, NoStrangers}

-- a pass with this own, whether it is the scribe's
abbrev owning : Sight → List ℕ → Bool → Sight
owning v own b = record { list = v.list; token = v.token; own = own; scribe = b; seated = v.seated; olds = [] }

-- a caller's pass with another's note, of whom the third says whose it is
abbrev level_as : Sight → Sight → Sight → Sight
level_as v w x = record { list = longer v.list w.list; token = greater v.token w.token; own = v.own; scribe = x.scribe; seated = x.seated; olds = [] }

-- what is compared with a pass is compared with it once its olds are forgotten
seen_still : (v w : Sight) (o : Old) → w ≡ forget v → Compared v o → Compared w o
seen_still v w o is k = subst (λ (x : Sight). Compared x o) (sym is) (record { begins = k.begins; below = k.below; mine = k.mine })

strangers_still : (v w : Sight) → w ≡ forget v → NoStrangers v.seated v.list → NoStrangers w.seated w.list
strangers_still v w is none = subst (λ (x : Sight). NoStrangers x.seated x.list) (sym is) none

-- A caller's pass is in the scribe's, and both are compared.
module _ (d mine t v w : Sight) (before after : List ℕ) (is : d ≡ scribe d.list d.token d.seated []) (given : t ≡ mine) (both : v ≡ under d t) (told : Checked v before after w) where
  pub joined_is : w ≡ scribe d.list d.token d.seated mine.own
  joined_is =
      told.0 ∙ (ap forget both ∙ (ap (λ (x : Sight). forget (under d x)) given
      ∙ ap (owning d mine.own) (ap (λ (x : Sight). x.scribe) is)))

  pub joined_seen : Compared w (old_of mine)
  joined_seen =
      let each : Each (Compared v) (old_of d ∷ old_of t ∷ []) = subst (λ (os : List Old). Each (Compared v) os) (ap (λ (x : Sight). x.olds) both) told.1 in
      seen_still v w (old_of mine) told.0 (subst (λ (x : Sight). Compared v (old_of x)) given each.1.0)

  pub joined_sessions : NoStrangers w.seated w.list
  joined_sessions = strangers_still v w told.0 (told.2 (ap (λ (x : Sight). x.scribe) both ∙ ap (λ (x : Sight). x.scribe) is))

-- The scribe's part of a joined pass.
pub parted_is : (v w : Sight) → v ≡ scribe v.list v.token v.seated v.own → w ≡ owning v [] v.scribe
    → w ≡ scribe v.list v.token v.seated []
parted_is v w is left = left ∙ ap (owning v []) (ap (λ (x : Sight). x.scribe) is)

-- A look with the scribe's pass.
module _ (v w : Sight) (before after : List ℕ) (is : v ≡ scribe v.list v.token v.seated []) (told : Checked v before after w) where
  pub looked_is : w ≡ v
  looked_is = told.0 ∙ (ap forget is ∙ sym is)

  pub looked_sessions : NoStrangers w.seated w.list
  looked_sessions = strangers_still v w told.0 (told.2 (ap (λ (x : Sight). x.scribe) is))

-- A caller's pass has taken another's note.
module _ (one two t v w : Sight) (before after : List ℕ) (is : one ≡ caller one.list one.token one.own) (given : t ≡ note_of two) (both : v ≡ level one t) (told : Checked v before after w) where
  pub levelled_is : w ≡ caller (longer one.list two.list) (greater one.token two.token) one.own
  levelled_is =
      told.0 ∙ (ap forget both ∙ (ap (λ (x : Sight). forget (level one x)) given
      ∙ ap (level_as one two) is))

  pub levelled_seen : Compared w (old_of one) × Compared w (old_of (note_of two))
  levelled_seen =
      let each : Each (Compared v) (old_of one ∷ old_of t ∷ []) = subst (λ (os : List Old). Each (Compared v) os) (ap (λ (x : Sight). x.olds) both) told.1 in
      (seen_still v w (old_of one) told.0 each.0, seen_still v w (old_of (note_of two)) told.0 (subst (λ (x : Sight). Compared v (old_of x)) given each.1.0))
