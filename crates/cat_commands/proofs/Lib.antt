pub use Rattle.cat_ledger.proofs.commits_laws as commits_laws
pub use Rattle.cat_ledger.proofs as ledger_laws
