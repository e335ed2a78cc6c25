use Rattle.std.proofs.Common.{◌≡◌, ◌∙◌, All, length, subst, sym, ap, arith}
use Rattle.dir_compile.specs.Compile.{twice_in, element_name, list_name, composite_name, segment_name, message_name}
use Rattle.dir_compile.proofs.Formed.{four-elements, four-lists, four-composites, three-segments, six-messages}
use Rattle.dir_compile.proofs.Groups.{twice-free}
use Rattle.dir_compile.proofs.names.Names.of.Goals as goal

pub index-requires : goal.index-requires
index-requires c = (
  omega arith,
  (
    subst (λ l. All (λ x. length (element_name x) ≡ 4) l) (sym c.items.ensures) (four-elements c.args.parts.now c.requires.forms),
    ap (twice_in element_name) c.items.ensures ∙ (twice-free c.args.parts.now c.requires.apart).elements,
  ),
)

pub index_known-requires : goal.index_known-requires
index_known-requires c = (
  omega arith,
  (
    omega arith,
    (
      subst (λ l. All (λ x. length (list_name x) ≡ 4) l) (sym c.items-2.ensures) (four-lists c.args.parts.now c.requires.forms),
      (
        ap (twice_in list_name) c.items-2.ensures ∙ (twice-free c.args.parts.now c.requires.apart).lists,
        subst (λ l. All (λ x. length (element_name x) ≡ 4) l) (sym c.items-3.ensures) (four-elements c.args.parts.now c.requires.forms),
      ),
    ),
  ),
)

pub index_known-requires-2 : goal.index_known-requires-2
index_known-requires-2 c = (
  omega arith,
  (
    omega arith,
    (
      subst (λ l. All (λ x. length (composite_name x) ≡ 4) l) (sym c.items-4.ensures) (four-composites c.args.parts.now c.requires.forms),
      (
        ap (twice_in composite_name) c.items-4.ensures ∙ (twice-free c.args.parts.now c.requires.apart).composites,
        subst (λ l. All (λ x. length (composite_name x) ≡ 4) l) (sym c.items-5.ensures) (four-composites c.args.parts.now c.requires.forms),
      ),
    ),
  ),
)

pub index_known-requires-3 : goal.index_known-requires-3
index_known-requires-3 c = (
  omega arith,
  (
    omega arith,
    (
      subst (λ l. All (λ x. length (segment_name x) ≡ 3) l) (sym c.items-6.ensures) (three-segments c.args.parts.now c.requires.forms),
      (
        ap (twice_in segment_name) c.items-6.ensures ∙ (twice-free c.args.parts.now c.requires.apart).segments,
        subst (λ l. All (λ x. length (segment_name x) ≡ 3) l) (sym c.items-7.ensures) (three-segments c.args.parts.now c.requires.forms),
      ),
    ),
  ),
)

pub index-requires-2 : goal.index-requires-2
index-requires-2 c = (
  omega arith,
  (
    subst (λ l. All (λ x. length (message_name x) ≡ 6) l) (sym c.items-8.ensures) (six-messages c.args.parts.now c.requires.forms),
    ap (twice_in message_name) c.items-8.ensures ∙ (twice-free c.args.parts.now c.requires.apart).messages,
  ),
)
