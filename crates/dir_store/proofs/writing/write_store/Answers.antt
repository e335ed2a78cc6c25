use Rattle.std.proofs.Common.{inl, refl, sym}
use Rattle.dir_store.specs.Spelling.{store_text}
use Rattle.dir_store.proofs.WholeLemmas.{store-again, store-once}
use Rattle.dir_store.proofs.writing.write_store.Goals as goal

pub returns-clause-again : goal.returns-clause-again
returns-clause-again c = store-again (store_text c.args.dir.now) c.args.dir.now c.parts.ensures.directory (inl refl)

pub returns-clause-once : goal.returns-clause-once
returns-clause-once c = λ other is few same. store-once (store_text c.args.dir.now) c.args.dir.now other c.parts.ensures.directory is few (inl refl) (inl (sym same))
