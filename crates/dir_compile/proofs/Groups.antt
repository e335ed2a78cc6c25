-- The groups of faults of parts, one by one.
use Rattle.std.proofs.Common.{◌≡◌, [], ◌++◌, ◌∙◌, ap, sym}
use Rattle.std.proofs.lemmas.List.{append_assoc}
use Rattle.std.specs.List.{flat_map}
use Rattle.dir_compile.specs.declared.parts.Parts.{Parts}
use Rattle.dir_compile.specs.Compile.{twice_in, twice_faults, list_faults, composite_faults, segment_faults, message_faults, compile_faults, value_name, element_name, list_name, composite_name, segment_name, message_name}
use Rattle.dir_compile.specs.Judges.{reference_faults}
use Rattle.dir_compile.proofs.Faults.{nil-left, nil-right, nil-both}

-- nothing occurs twice
pub record IsTwiceFree (parts : Parts) : Type 0 where
  pub elements : twice_in element_name parts.elements ≡ []
  pub lists : twice_in list_name parts.lists ≡ []
  pub listed : flat_map (λ list. twice_in value_name list.values) parts.lists ≡ []
  pub composites : twice_in composite_name parts.composites ≡ []
  pub segments : twice_in segment_name parts.segments ≡ []
  pub messages : twice_in message_name parts.messages ≡ []

pub twice-free : (parts : Parts) → twice_faults parts ≡ [] → IsTwiceFree parts
twice-free parts none =
    let a = nil-left _ (twice_in message_name parts.messages) none in
    let b = nil-left _ (twice_in segment_name parts.segments) a in
    let c = nil-left _ (twice_in composite_name parts.composites) b in
    let d = nil-left _ (flat_map (λ list. twice_in value_name list.values) parts.lists) c in
    record {
      elements = nil-left (twice_in element_name parts.elements) _ d;
      lists = nil-right (twice_in element_name parts.elements) _ d;
      listed = nil-right _ (flat_map (λ list. twice_in value_name list.values) parts.lists) c;
      composites = nil-right _ (twice_in composite_name parts.composites) b;
      segments = nil-right _ (twice_in segment_name parts.segments) a;
      messages = nil-right _ (twice_in message_name parts.messages) none;
    }

pub free-twice : (parts : Parts) → IsTwiceFree parts → twice_faults parts ≡ []
free-twice parts f =
    nil-both _ _ (nil-both _ _ (nil-both _ _ (nil-both _ _ (nil-both _ _ f.elements f.lists) f.listed) f.composites) f.segments) f.messages

-- no group has a fault
pub record IsFaultFree (parts : Parts) : Type 0 where
  pub twice : IsTwiceFree parts
  pub lists : list_faults parts ≡ []
  pub composites : composite_faults parts ≡ []
  pub segments : segment_faults parts ≡ []
  pub messages : message_faults parts ≡ []

pub fault-free : (parts : Parts) → compile_faults parts ≡ [] → IsFaultFree parts
unfolding compile_faults
fault-free parts none =
    let a = nil-left _ (message_faults parts) none in
    let b = nil-left _ (segment_faults parts) a in
    let c = nil-left _ (composite_faults parts) b in
    record {
      twice = twice-free parts (nil-left (twice_faults parts) _ c);
      lists = nil-right (twice_faults parts) _ c;
      composites = nil-right _ (composite_faults parts) b;
      segments = nil-right _ (segment_faults parts) a;
      messages = nil-right _ (message_faults parts) none;
    }

pub free-compile : (parts : Parts) → IsFaultFree parts → compile_faults parts ≡ []
unfolding compile_faults
free-compile parts f =
    nil-both _ _ (nil-both _ _ (nil-both _ _ (nil-both _ _ (free-twice parts f.twice) f.lists) f.composites) f.segments) f.messages

-- names that come twice, and then references
pub faults-apart : (parts : Parts) → twice_faults parts ++ reference_faults parts ≡ compile_faults parts
unfolding compile_faults
faults-apart parts =
    let t = twice_faults parts in
    let l = list_faults parts in
    let k = composite_faults parts in
    let s = segment_faults parts in
    sym (append_assoc t (l ++ k ++ s) (message_faults parts))
    ∙ ap (λ x. x ++ message_faults parts) (sym (append_assoc t (l ++ k) s) ∙ ap (λ x. x ++ s) (sym (append_assoc t l k)))
