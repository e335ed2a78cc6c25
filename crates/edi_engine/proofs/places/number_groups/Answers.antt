use Rattle.std.proofs.Common.{◌≡◌, ℕ, ◌+◌, ◌++◌, ◌∙◌, List, [], ◌∷◌, Some, map, take, sym, ap}
use Rattle.std.specs.List.{slice_get}
use Rattle.std.proofs.lemmas.List.{map-append, take_more}
use Rattle.std.proofs.lemmas.Option.{get_or_from_slice_get, slice_get_within}
use Rattle.edi_tables.specs.declared.table.Node.{Node}
use Rattle.dir_compile.specs.Directory.{tables_of}
use Rattle.segment_records.specs.Groups.{numbers_in}
use Rattle.edi_engine.proofs.places.number_groups.Goals as goal

-- one more table
one_more : (tables : List (List Node)) (i : ℕ) (table : List Node) (before after : List (List ℕ)) (numbers : List ℕ)
    → slice_get tables i ≡ Some table → before ≡ map numbers_in (take i tables) → numbers ≡ numbers_in table → after ≡ before ++ numbers ∷ []
    → after ≡ map numbers_in (take (i + 1) tables)
one_more tables i table before after numbers at before_is numbers_is after_is =
    after_is ∙ ap (λ (xs : List (List ℕ)). xs ++ numbers ∷ []) before_is
    ∙ ap (λ (ns : List ℕ). map numbers_in (take i tables) ++ ns ∷ []) numbers_is
    ∙ sym (map-append numbers_in (take i tables) (table ∷ []))
    ∙ ap (map numbers_in) (ap (λ (t : List Node). take i tables ++ t ∷ []) (sym (get_or_from_slice_get tables i table table at))
    ∙ sym (take_more tables i table (slice_get_within tables i table at)))

pub loop-i-preserved : goal.loop-i-preserved
loop-i-preserved c =
    one_more (tables_of c.args.directory.now) c.loop-i.i c.table.result.now c.loop-i.numbers.items c.push.new.self.items _
    c.table.ensures c.loop-i.invariant (c.of.ensures ∙ c.in_ok-groups_until.ensures) c.in_ok-push.ensures.items
