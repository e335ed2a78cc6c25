use Rattle.std.proofs.Common.{arith}
use Rattle.segment_records.proofs.Rests.{none_found}
use Rattle.edi_engine.proofs.TextMarked.{few_marks, mark_found, marks_found, text_usable}
use Rattle.edi_engine.proofs.marks.TextMarks.next_mark.Goals as goal

pub next_segment-found-requires-clause-usable : goal.next_segment-found-requires-clause-usable
next_segment-found-requires-clause-usable g c =
    let marks = c.args.self.now in
    text_usable marks.octets.now marks.service marks.read_by

pub unreachable-requires : goal.unreachable-requires
unreachable-requires g c =
    let marks = c.args.self.now in
    let text = marks.octets.now in
    let found = c.next_segment-found in
    let last = none_found marks.service text marks.place marks.from found.result c.in_default.not-Ended (found.ensures.lexed marks.place marks.bound) in
    let within = c.requires.within in
    omega (arith, marks_found text marks.service marks.read_by)

pub read_tag-tag-requires-clause-usable : goal.read_tag-tag-requires-clause-usable
read_tag-tag-requires-clause-usable g c =
    let marks = c.args.self.now in
    text_usable marks.octets.now marks.service marks.read_by

pub overflow_add-self-2 : goal.overflow_add-self-2
overflow_add-self-2 g c =
    let marks = c.args.self.now in
    let short = marks.short in
    let within = c.requires.within in
    omega (arith, few_marks marks.octets.now)

pub returns-clause-is : goal.returns-clause-is
returns-clause-is g c =
    let marks = c.args.self.now in
    let text = marks.octets.now in
    mark_found text marks.service marks.read_by marks.place marks.from c.in-Ended.start c.in-Ended.end marks.bound
    (c.in-Ended.ensures.lexed marks.place marks.bound) c.read_tag-tag.result c.read_tag-tag.ensures
