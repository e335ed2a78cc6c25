use Rattle.std.proofs.lemmas.List.{take_rest}
use Rattle.dir_store.proofs.UsualLemmas.{dash-word, known-word, tag-word}
use Rattle.dir_store.proofs.usual_row.name_at.Goals as goal

pub returns-then-octets-eq32 : goal.returns-then-octets-eq32
returns-then-octets-eq32 c =
    rw (take_rest c.args.octets.now 2) (dash-word c.args.known.now.segments.now c.args.octets.now c.if-octets-lt4.false c.if-octets-eq45.true c.if-octets-eq32.true)

pub returns-then-hints_at_segment : goal.returns-then-hints_at_segment
returns-then-hints_at_segment c =
    rw (take_rest c.args.octets.now 4)
    (known-word c.args.known.now.segments.now c.in_ok-tag.tag c.args.octets.now c.if-octets-lt4.false c.if-octets-ne32.false c.in_ok-tag.ensures (c.hints_at_segment.ensures c.if-hints_at_segment.true))

pub returns : goal.returns
returns c =
    rw (take_rest c.args.octets.now 4) (tag-word c.args.known.now.segments.now c.in_ok-tag-2.tag c.args.octets.now c.if-octets-lt4.false c.if-octets-ne32.false c.in_ok-tag-2.ensures)
