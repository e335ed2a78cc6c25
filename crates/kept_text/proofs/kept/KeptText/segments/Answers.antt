use Rattle.std.proofs.Common.{◌∙◌, length, sym, ap, subst, arith}
use Rattle.std.specs.Prelude.{All}
use Rattle.dir_compile.specs.Directory.{IsDirectory}
use Rattle.kept_text.specs.Reading.{Reading}
use Rattle.segment_records.specs.WalkedSegments.{Follows, LiesIn, seen_in}
use Rattle.segment_records.proofs.Following.{few_seen, follows_all, lies_all}
use Rattle.kept_text.proofs.Readings.{body_within, segments_are, stretches}
use Rattle.kept_text.proofs.kept.KeptText.segments.Goals as goal

pub overflow_cast-self-inside : goal.overflow_cast-self-inside
overflow_cast-self-inside c =
    let body = body_within c.self.inside c.self.invariant in
    let short = c.self.invariant.short in
    omega arith

pub of-requires : goal.of-requires
of-requires c = stretches c.self.inside c.self.invariant

pub returns : goal.returns
returns c =
    let r : Reading = c.args.self.now in
    let text = c.self.inside.text in
    let dir = c.self.inside.directory.now in
    let is = c.of.ensures ∙ segments_are c.self.inside c.self.invariant in
    record {
      segments = is ∙ ap (λ (r : Reading). seen_in r.directory r.text) c.self.view_is;
      follow = subst (λ (r : Reading). All (Follows r.directory) c.of.result) c.self.view_is
          (subst (All (Follows dir)) (sym is) (follows_all dir c.self.invariant.directory text c.self.invariant.short));
      inside = subst (λ (r : Reading). All (LiesIn r.text) c.of.result) c.self.view_is
          (subst (All (LiesIn text)) (sym is) (lies_all dir c.self.invariant.directory text));
      lawful = subst (λ (r : Reading). IsDirectory r.directory) c.self.view_is c.self.invariant.directory;
      few = let count = ap length is in omega (arith, few_seen dir c.self.invariant.directory text c.self.invariant.short);
    }
