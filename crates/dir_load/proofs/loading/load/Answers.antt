use Rattle.std.proofs.Common.{◌≡◌, List, ℕ, true, false, sym, ap, ◌∙◌}
use Rattle.dir_compile.specs.declared.parts.Parts.{Parts}
use Rattle.dir_store.specs.Spelling.{begins_as_store}
use Rattle.dir_load.proofs.LoadLemmas.{Answers-unread, load_of-lines, load_of-spelled, load_of-store}
use Rattle.dir_load.proofs.loading.load.Goals as goal

pub returns-in-Err-clause-loads : goal.returns-in-Err-clause-loads
returns-in-Err-clause-loads g c files told =
    Answers-unread (λ (d : Parts). d) files c.args.name.now (λ (octets : List ℕ). octets) c.in-Err.stop c.at_file.result (rw c.from.ensures at c.at_file.ensures) (c.in-Err.ensures.reads files told)

pub returns-in-Err-clause-again : goal.returns-in-Err-clause-again
returns-in-Err-clause-again g c = λ files octets directory. load_of-spelled files c.args.name.now octets directory

pub returns-then-is_store-clause-loads : goal.returns-then-is_store-clause-loads
returns-then-is_store-clause-loads g c files told =
    let is : begins_as_store c.in-Ok.octets.items ≡ true = sym (c.is_store.ensures ∙ ap begins_as_store c.deref.ensures.value) ∙ c.if-is_store.true in
    rw (load_of-store (λ (d : Parts). d) files c.args.name.now c.in-Ok.octets.items (c.in-Ok.ensures.reads files told) is) (rw c.deref-then-is_store.ensures.value at c.load_store.ensures.loads)

pub returns-then-is_store-clause-again : goal.returns-then-is_store-clause-again
returns-then-is_store-clause-again g c = λ files octets directory. load_of-spelled files c.args.name.now octets directory

pub returns-clause-loads : goal.returns-clause-loads
returns-clause-loads g c files told =
    let is : begins_as_store c.in-Ok.octets.items ≡ false = sym (c.is_store.ensures ∙ ap begins_as_store c.deref.ensures.value) ∙ c.if-is_store.false in
    rw (load_of-lines (λ (d : Parts). d) files c.args.name.now c.in-Ok.octets.items (c.in-Ok.ensures.reads files told) is) (rw c.deref-else-is_store.ensures.value at c.load_lines.ensures.loads files (c.in-Ok.ensures.files ∙ told))

pub returns-clause-again : goal.returns-clause-again
returns-clause-again g c = λ files octets directory. load_of-spelled files c.args.name.now octets directory
