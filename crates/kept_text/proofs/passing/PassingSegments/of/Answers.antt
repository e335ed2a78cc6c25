use Rattle.std.proofs.Common.{◌≡◌, ◌∙◌, ap, refl, take, arith}
use Rattle.kept_text.proofs.Begun.{boundary_by, kept_by, usable_by}
use Rattle.kept_text.proofs.passing.PassingSegments.of.Goals as goal

pub read_batch_uncounted-requires-clause-usable : goal.read_batch_uncounted-requires-clause-usable
read_batch_uncounted-requires-clause-usable c = usable_by c.args.text.now c.read_context_of-context.result c.read_context_of-context.ensures

pub read_batch_uncounted-requires-clause-boundary : goal.read_batch_uncounted-requires-clause-boundary
read_batch_uncounted-requires-clause-boundary c = boundary_by c.args.text.now c.read_context_of-context.result c.read_context_of-context.ensures

pub invariant_of-result : goal.invariant_of-result
invariant_of-result c =
    record {
      lawful = c.parts-parts.ensures.directory;
      short = c.requires;
      context = c.read_context_of-context.ensures;
      clean = c.read_batch_uncounted.ensures.clean;
      known = c.read_batch_uncounted.ensures.known;
      outside = refl;
      inside = omega arith;
      within = omega arith;
      from = omega arith;
      last = refl;
      batch = c.in_ok-batch.ensures.records ∙ ap (take 129) (kept_by c.args.text.now c.read_context_of-context.result c.read_context_of-context.ensures c.args.directory.now);
    }
