use Rattle.std.proofs.Common.{◌∙◌, ◌≤◌, length, sym, ap, subst, arith}
use Rattle.std.specs.Prelude.{All, filter}
use Rattle.std.proofs.lemmas.List.Elements.{All-filter}
use Rattle.std.proofs.lemmas.List.Sums.{count_by-le-length, length-filter}
use Rattle.dir_compile.specs.Directory.{IsDirectory}
use Rattle.kept_text.specs.Reading.{Reading}
use Rattle.segment_records.specs.Notable.{is_notable, notable_in}
use Rattle.segment_records.specs.WalkedSegments.{Follows, LiesIn, seen_in}
use Rattle.segment_records.proofs.Following.{few_seen, follows_all, lies_all}
use Rattle.segment_records.specs.Told.{KeepsValues}
use Rattle.segment_records.proofs.Headed.{values_kept}
use Rattle.seg_lexer.specs.Context.{context_of}
use Rattle.kept_text.proofs.Readings.{body_within, segments_are, stretches}
use Rattle.kept_text.proofs.kept.KeptText.notable_segments.Goals as goal

pub overflow_cast-self-inside : goal.overflow_cast-self-inside
overflow_cast-self-inside c =
    let body = body_within c.self.inside c.self.invariant in
    let short = c.self.invariant.short in
    omega arith

pub of-requires : goal.of-requires
of-requires c = stretches c.self.inside c.self.invariant

pub returns : goal.returns
unfolding notable_in
returns c =
    let text = c.self.inside.text in
    let dir = c.self.inside.directory.now in
    let it = c.self.invariant in
    let is = c.of.ensures.notable ∙ ap (filter is_notable) (segments_are c.self.inside it) in
    record {
      notable = is ∙ ap (λ (r : Reading). notable_in r.directory r.text) c.self.view_is;
      follow = subst (λ (r : Reading). All (Follows r.directory) c.of.result.0) c.self.view_is
          (subst (All (Follows dir)) (sym is) (All-filter is_notable (Follows dir) (seen_in dir text) (follows_all dir it.directory text it.short)));
      inside = subst (λ (r : Reading). All (LiesIn r.text) c.of.result.0) c.self.view_is
          (subst (All (LiesIn text)) (sym is) (All-filter is_notable (LiesIn text) (seen_in dir text) (lies_all dir it.directory text)));
      values = subst (λ (r : Reading). All (KeepsValues (context_of r.text).service r.text) c.of.result.0) c.self.view_is
          (subst (All (KeepsValues (context_of text).service text)) (sym is)
          (All-filter is_notable (KeepsValues (context_of text).service text) (seen_in dir text) (values_kept dir it.directory text)));
      lawful = subst (λ (r : Reading). IsDirectory r.directory) c.self.view_is it.directory;
      short = subst (λ (r : Reading). length r.text ≤ 4194304) c.self.view_is it.short;
      few = let count = ap length is in omega (arith, few_seen dir it.directory text it.short, length-filter is_notable (seen_in dir text), count_by-le-length is_notable (seen_in dir text));
    }
