pub use Rattle.cat_views.proofs as views_laws
