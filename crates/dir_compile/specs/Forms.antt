-- The forms of the names and values of a directory's parts.
use Rattle.std.specs.Prelude.{◌≡◌, true}
use Rattle.std.specs.List.{list_all}
use Rattle.edi_tables.specs.Forms.{is_label, is_element_formed, is_list_formed, is_composite_formed, is_segment_formed, is_message_formed}
use Rattle.dir_compile.specs.declared.parts.Parts.{Parts}

-- the labels, and each element, code list, composite, segment and message, have their forms
pub record HasForms (parts : Parts) : Type 0 where
  pub version : is_label 3 parts.version ≡ true
  pub release : is_label 3 parts.release ≡ true
  pub agency : is_label 2 parts.agency ≡ true
  pub elements : list_all is_element_formed parts.elements ≡ true
  pub lists : list_all is_list_formed parts.lists ≡ true
  pub composites : list_all is_composite_formed parts.composites ≡ true
  pub segments : list_all is_segment_formed parts.segments ≡ true
  pub messages : list_all is_message_formed parts.messages ≡ true
