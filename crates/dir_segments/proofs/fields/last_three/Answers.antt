use Rattle.std.proofs.Common.{◌≡◌, [], ◌∷◌, ◌++◌, refl, sym, ap, ◌∙◌, rules}
use Rattle.edi_octets.specs.Left.{cells_left}
use Rattle.dir_segments.specs.Parts.{field_from_end}
use Rattle.dir_segments.proofs.FieldLemmas.{field_from_end-push, field_from_end-push_before, field_from_end-push_third}
use Rattle.dir_segments.proofs.FrontLemmas.{goes_on, goes_all}
use Rattle.dir_segments.proofs.fields.last_three.Goals as goal

pub loop-field-init : goal.loop-field-init
loop-field-init c =
    let same : cells_left c.args.fields ≡ cells_left c.into_iter-field-iterator.result = search rules in
    record { front = []; splits = same; third = refl; before = refl; last = refl }

pub loop-field-preserved : goal.loop-field-preserved
loop-field-preserved c =
    let so_far = c.loop-field.invariant in
    let field = c.in-Some.field.now in
    record {
      front = so_far.front ++ field ∷ [];
      splits = goes_on _ so_far.front field _ _ so_far.splits c.in-Some.ensures.steps;
      third = so_far.before ∙ sym (field_from_end-push_third so_far.front field);
      before = so_far.last ∙ sym (field_from_end-push_before so_far.front field);
      last = sym (field_from_end-push so_far.front field);
    }

pub returns-clause-third : goal.returns-clause-third
returns-clause-third c =
    let so_far = c.loop-field.invariant in
    so_far.third ∙ ap (field_from_end 3) (sym (goes_all _ so_far.front _ so_far.splits c.in-None.ensures.steps.0))

pub returns-clause-before : goal.returns-clause-before
returns-clause-before c =
    let so_far = c.loop-field.invariant in
    so_far.before ∙ ap (field_from_end 2) (sym (goes_all _ so_far.front _ so_far.splits c.in-None.ensures.steps.0))

pub returns-clause-last : goal.returns-clause-last
returns-clause-last c =
    let so_far = c.loop-field.invariant in
    so_far.last ∙ ap (field_from_end 1) (sym (goes_all _ so_far.front _ so_far.splits c.in-None.ensures.steps.0))
