-- Sessions' rights to views.
use Rattle.std.specs.Prelude.{ℕ}
use Rattle.cat_model.specs.View.{View}

-- a session, and the view that it holds
pub record HeldView : Type 0 where
  pub session : ℕ
  pub view : View
