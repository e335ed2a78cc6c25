-- The sections that are read are in order, so that their names are found by halving.
use Rattle.std.proofs.Common.{◌≡◌, ℕ, true, List, [], Option, None, Ok, arith}
use Rattle.std.specs.Prelude.{codes}
use Rattle.std.specs.List.{list_all}
use Rattle.edi_tables.specs.Ascending.{IsAscendingBy}
use Rattle.edi_tables.specs.declared.element.ElementDef.{ElementDef}
use Rattle.edi_tables.specs.declared.element.CompositeDef.{CompositeDef}
use Rattle.edi_tables.specs.declared.segment.SegmentDef.{SegmentDef}
use Rattle.edi_tables.specs.Forms.{is_element_formed}
use Rattle.dir_compile.specs.declared.parts.Parts.{Parts}
use Rattle.dir_compile.specs.Compile.{element_name, composite_name, segment_name}
use Rattle.dir_compile.proofs.AscendingLemmas.{pairs-from-ascending}
use Rattle.dir_store.specs.declared.version.StoreVersion.{StoreVersion}
use Rattle.dir_store.specs.Spelling.{element_text, composite_text, segment_text}
use Rattle.dir_store.specs.Store.{section_at, element_at, composite_at, segment_at}
use Rattle.dir_store.proofs.SeveralLemmas.{Each}
use Rattle.dir_store.proofs.KindLemmas.{IsElement, element-spelled}
use Rattle.dir_store.proofs.EntryLemmas.{all-good, each-weaker, Rises, ascending-each}
use Rattle.dir_store.proofs.HeadLemmas.{IsComposite, composite-spelled, IsSegment, segment-spelled}
use Rattle.dir_store.proofs.StoreLemmas.{IsSection, section-takes}

pub none-order : {A : Type 0} (name : A → List ℕ) → IsAscendingBy name []
none-order name i j d less within = absurd (omega arith)

-- members that each come after the one before are in order
pub order-of : {A : Type 0} (name : A → List ℕ) (Good : Option A → A → Type 0) → ((before : Option A) (x : A) → Good before x → Rises name before x) → (xs : List A) → Each Good None xs → IsAscendingBy name xs
order-of name Good rises xs good =
    pairs-from-ascending name xs (ascending-each name None xs (each-weaker Good (Rises name) rises None xs good))

read-elements : (octets : List ℕ) (elements : List ElementDef) (rest : List ℕ) → section_at (codes "E") element_at octets ≡ Ok (elements, rest) → IsSection IsElement elements
read-elements octets elements rest is = (section-takes (codes "E") element_at element_text IsElement element-spelled octets elements rest is).0

-- the elements that are read are in order
pub elements-order : (octets : List ℕ) (elements : List ElementDef) (rest : List ℕ) → section_at (codes "E") element_at octets ≡ Ok (elements, rest) → IsAscendingBy element_name elements
elements-order octets elements rest is =
    order-of element_name IsElement (λ b x good. good.after) elements (read-elements octets elements rest is).good

-- parts of these elements and composites
abbrev known : List ElementDef → List CompositeDef → Parts
known elements composites = record { version = []; release = []; agency = []; elements = elements; lists = []; composites = composites; segments = []; messages = [] }

formed-elements : (octets : List ℕ) (elements : List ElementDef) (rest : List ℕ) → section_at (codes "E") element_at octets ≡ Ok (elements, rest) → list_all is_element_formed elements ≡ true
formed-elements octets elements rest is =
    all-good IsElement is_element_formed (λ b x good. good.formed) None elements (read-elements octets elements rest is).good

-- and so are the composites
pub composites-order : (first octets : List ℕ) (elements : List ElementDef) (after : List ℕ) (composites : List CompositeDef) (rest : List ℕ) → section_at (codes "E") element_at first ≡ Ok (elements, after)
    → section_at (codes "C") (composite_at elements) octets ≡ Ok (composites, rest) → IsAscendingBy composite_name composites
composites-order first octets elements after composites rest read is =
    let formed = formed-elements first elements after read in
    let good = (section-takes (codes "C") (composite_at elements) composite_text (IsComposite (known elements []) formed) (composite-spelled (known elements []) formed) octets composites rest is).0 in
    order-of composite_name (IsComposite (known elements []) formed) (λ b x good. good.after) composites good.good

-- and the segments
pub segments-order : (version : StoreVersion) (first octets : List ℕ) (elements : List ElementDef) (after : List ℕ) (composites : List CompositeDef) (segments : List SegmentDef) (rest : List ℕ) → section_at (codes "E") element_at first ≡ Ok (elements, after)
    → section_at (codes "S") (segment_at version elements composites) octets ≡ Ok (segments, rest) → IsAscendingBy segment_name segments
segments-order version first octets elements after composites segments rest read is =
    let formed = formed-elements first elements after read in
    let good = (section-takes (codes "S") (segment_at version elements composites) (segment_text version) (IsSegment (known elements composites) formed version) (segment-spelled (known elements composites) formed version) octets segments rest is).0 in
    order-of segment_name (IsSegment (known elements composites) formed version) (λ b x good. good.after) segments good.good
