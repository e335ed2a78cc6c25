-- What the names of parts are found by.
use Rattle.std.specs.Prelude.{◌≡◌, map}
use Rattle.dir_compile.specs.declared.parts.Parts.{Parts}
use Rattle.dir_compile.specs.declared.names.Names.{Names}
use Rattle.dir_compile.specs.Compile.{element_name, list_name, composite_name, segment_name, message_name}

-- each name is at the place of its definition
pub record IsNamesOf (names : Names) (parts : Parts) : Type 0 where
  pub elements : names.elements.keys ≡ map element_name parts.elements
  pub lists : names.lists ≡ map list_name parts.lists
  pub composites : names.composites ≡ map composite_name parts.composites
  pub segments : names.segments ≡ map segment_name parts.segments
  pub messages : names.messages.keys ≡ map message_name parts.messages
