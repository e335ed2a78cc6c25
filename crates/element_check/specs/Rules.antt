-- What a segment is checked by: its items, the parts of composites, and code lists.
use Rattle.std.specs.Prelude.{ℕ, List, [], Option, Some, None, unwrap_or}
use Rattle.std.specs.Option.{option_map}
use Rattle.dir_compile.specs.Directory.{Directory}
use Rattle.edi_tables.specs.Octets.{Octets}
use Rattle.edi_tables.specs.declared.element.CodeList.{CodeList}
use Rattle.edi_tables.specs.declared.element.PartDef.{PartDef}
use Rattle.edi_tables.specs.declared.segment.ItemDef.{ItemDef}
use Rattle.edi_tables.specs.declared.segment.SegmentDef.{SegmentDef}
use Rattle.dir_compile.specs.Compile.{composite_name, list_name, named_in, segment_name}
use Rattle.seg_lexer.specs.declared.context.Context.{Context}
use Rattle.service_tables.specs.ServiceTables.{service_items_of, service_parts_of}

-- the context of the text, the items of the segment, and the directory that defines their composites and code lists,
-- which a service segment doesn't have
pub record SegmentRules : Type 0 where
  pub context : Context
  pub items : List ItemDef
  pub directory : Option Directory

-- the rules of a segment that a directory defines
abbrev pub defined_rules : Directory → Context → Option SegmentDef → Option SegmentRules
defined_rules parts context None = None
defined_rules parts context (Some segment) =
    Some (record { context = context; items = segment.items; directory = Some parts })

-- the rules of a service segment, or else of one that the directory defines
abbrev pub service_rules : Directory → Context → Octets → Option (List ItemDef) → Option SegmentRules
service_rules parts context tag None = defined_rules parts context (named_in segment_name parts.segments tag)
service_rules parts context tag (Some items) = Some (record { context = context; items = items; directory = None })

-- the rules of the segments of a tag, if it is a service segment's or in the directory
unfoldable pub rules_of : Directory → Context → Octets → Option SegmentRules
rules_of parts context tag = service_rules parts context tag (service_items_of tag)

-- the parts of a composite in a version of the syntax, by its code; one that isn't defined has none
abbrev pub parts_by : ℕ → Option Directory → Octets → List PartDef
parts_by version None code = unwrap_or (service_parts_of version code) []
parts_by version (Some parts) code =
    unwrap_or (option_map (λ composite. composite.parts) (named_in composite_name parts.composites code)) []

-- the parts of a composite, by its code, in a segment with these rules
unfoldable pub parts_of : SegmentRules → Octets → List PartDef
parts_of rules code = parts_by rules.context.version rules.directory code

-- the code list of a data element, if one is loaded; service segments have no code lists
abbrev pub list_by : Option Directory → Octets → Option CodeList
list_by None element = None
list_by (Some parts) element = named_in list_name parts.lists element

-- the code list of a data element, if one is loaded, in a segment with these rules
unfoldable pub list_of : SegmentRules → Octets → Option CodeList
list_of rules element = list_by rules.directory element
