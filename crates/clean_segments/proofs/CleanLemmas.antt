-- Segments that are remembered.
use Rattle.std.proofs.Common.{◌≡◌, ◌≤◌, ◌∙◌, ℕ, List, [], Option, Some, length, set, sym, ap, subst}
use Rattle.std.specs.Option.{ForSome}
use Rattle.std.proofs.lemmas.List.Elements.{All-set}
use Rattle.edi_tables.specs.declared.tag.Tag.{Tag}
use Rattle.dir_compile.specs.declared.parts.Parts.{Parts}
use Rattle.std.specs.Prelude.{slice_range}
use Rattle.seg_lexer.specs.Fields.{components_of, separators_of}
use Rattle.seg_lexer.specs.Tag.{tag_of}
use Rattle.seg_lexer.specs.declared.context.Context.{Context}
use Rattle.element_check.specs.Local.{local_errors_of}
use Rattle.clean_segments.specs.declared.clean.Clean.{Clean}
use Rattle.clean_segments.specs.Clean.{AreClean, IsClean}

module _ (directory : Parts) (context : Context) (text : List ℕ) where
  -- a segment in which a first look shows nothing wrong is one of them
  pub clean_here : (start end : ℕ) (octets : List ℕ) (tag : Tag) → start ≤ end → end ≤ length text → octets ≡ slice_range text start end
      → tag_of (components_of (separators_of context.service) octets) ≡ Some tag.octets
      → local_errors_of directory context (components_of (separators_of context.service) octets) ≡ []
      → IsClean directory context text (record { start = start; end = end; tag = tag })
  clean_here start end octets tag ordered within is tag_is none =
      record {
        ordered = ordered;
        within = within;
        tag = ap (λ (xs : List ℕ). tag_of (components_of (separators_of context.service) xs)) (sym is) ∙ tag_is;
        errors = ap (λ (xs : List ℕ). local_errors_of directory context (components_of (separators_of context.service) xs)) (sym is) ∙ none;
      }

  -- what is remembered stays so where such a segment is put
  pub clean_put : (places : List (Option Clean)) (place : ℕ) (clean : Clean)
      → AreClean directory context text places → IsClean directory context text clean
      → AreClean directory context text (set places place (Some clean))
  clean_put places place clean are is =
      All-set (λ (c : Option Clean). ForSome c (IsClean directory context text)) places place (Some clean)
      (λ other same. subst (IsClean directory context text) (same_clean clean other same) is) are
    where
      same_clean : (one other : Clean) → Some one ≡ Some other → one ≡ other
      same_clean one other e = cc
