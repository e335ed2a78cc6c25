use Rattle.std.proofs.Common.{◌≡◌, [], ◌∷◌, ◌++◌, map, Some, Ok, sym, ap, ◌∙◌, rules}
use Rattle.std.specs.List.{filter_map}
use Rattle.std.proofs.lemmas.Result.{err_from_is_err_and}
use Rattle.edi_octets.specs.Head.{head_field}
use Rattle.edi_octets.specs.Left.{entry_shown, entries_left}
use Rattle.edi_octets.specs.Lines.{lines_of}
use Rattle.edi_octets.specs.Profile.{entries_of}
use Rattle.edi_octets.proofs.TurnLemmas.{judged-turn, rest-end}
use Rattle.dir_lists.specs.Elements.{elements_in, element_faults, element_of}
use Rattle.edi_octets.proofs.AnswerLemmas.{none_from_ok, Answers-handed_on}
use Rattle.dir_lists.proofs.FormLemmas.{elements_in-formed}
use Rattle.dir_lists.proofs.LoopLemmas.{map-turn, filter_map-turn, stopped-turn}
use Rattle.dir_lists.proofs.elements.read_elements.Goals as goal

pub loop-entry-preserved : goal.loop-entry-preserved
loop-entry-preserved c =
    let seen = c.loop-entry.yielded in
    let entry = c.in-Some.entry in
    let earlier = map entry_shown seen in
    let judged = none_from_ok (element_faults earlier (entry_shown entry)) (element_of (entry_shown entry)) (Some c.in_ok-element.element) (c.in_ok-element.ensures.judged earlier c.loop-entry.invariant.seen) in
    let pushed : c.push.new.self.items ≡ c.loop-entry.elements.items ++ c.in_ok-element.element ∷ [] = search rules in
    record {
      seen = c.in_ok-element.ensures.joins ∙ ap (λ codes. codes ++ head_field (entry_shown entry) ∷ []) c.loop-entry.invariant.seen ∙ sym (map-turn entry_shown head_field seen entry);
      none = judged-turn entry_shown entries_left (λ p. element_faults p.0 p.1) seen entry c.loop-entry.invariant.none judged.0;
      elements = pushed ∙ rw c.loop-entry.invariant.elements (sym (filter_map-turn entry_shown element_of seen entry c.in_ok-element.element (sym judged.1)));
    }

pub returns-in_err-element-clause-answers : goal.returns-in_err-element-clause-answers
unfolding elements_in
returns-in_err-element-clause-answers c =
    let seen = c.loop-entry.yielded in
    let entry = c.in-Some.entry in
    let earlier = map entry_shown seen in
    let entries = entries_of (lines_of c.args.file.now) in
    let stop = c.in_err-element.field-0.0 in
    let given = c.in_err-element.ensures.judged earlier c.loop-entry.invariant.seen in
    let all = sym (ap entries_left c.into_iter-entry-iterator.ensures.into_iter_gives ∙ c.of-entry-items.ensures.entries) in
    let stopped = stopped-turn entry_shown entries_left (λ p. element_faults p.0 p.1) c.into_iter-entry-iterator.result seen c.loop-entry.entry-iterator c.loop-entry.yielded_by entry c.next.new.self c.in-Some.ensures.steps c.loop-entry.invariant.none (λ element. element) (element_of (entry_shown entry)) stop given entries all (filter_map element_of entries) in
    Answers-handed_on _ c.from_residual.result stop _ (err_from_is_err_and c.from_residual.result c.from_residual.ensures.1) stopped

pub returns : goal.returns
unfolding elements_in
returns c =
    let all = sym (ap entries_left c.into_iter-entry-iterator.ensures.into_iter_gives ∙ c.of-entry-items.ensures.entries) ∙ rest-end entry_shown entries_left c.into_iter-entry-iterator.result c.loop-entry.yielded c.loop-entry.entry-iterator c.loop-entry.yielded_by c.in-None.ensures.steps.0 in
    let answers : elements_in c.args.file.now ≡ Ok c.loop-entry.elements.items = rw (all, c.loop-entry.invariant.none) (ap Ok (sym c.loop-entry.invariant.elements)) in
    record { answers = answers; forms = elements_in-formed c.args.file.now c.loop-entry.elements.items answers }
