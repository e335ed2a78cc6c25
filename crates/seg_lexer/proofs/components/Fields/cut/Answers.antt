use Rattle.std.proofs.Common.{◌≡◌, ◌+◌, ℕ, sym, ap, ◌∙◌, arith}
use Rattle.seg_lexer.specs.Fields.{is_repeating}
use Rattle.seg_lexer.specs.Scan.{is_sought, sought_for}
use Rattle.seg_lexer.proofs.CutLemmas.{is_ending, place-after, rest-component, rest-element, rest-last, rest-repetition, sought-ending, stop-at}
use Rattle.seg_lexer.proofs.PartsLemmas.{reads}
use Rattle.seg_lexer.proofs.components.Fields.cut.Goals as goal
use Rattle.seg_lexer.proofs.components.Fields.cut.Goals.{After-find_end}

-- what the search looks for is what may end the component
ending : (g : _) (c : After-find_end g) (x : ℕ) → is_sought (sought_for c.args.self.now.separators.element c.args.self.now.separators.component c.repetition_of-repetition.result) x ≡ is_ending c.args.self.now.separators c.args.place.element x
ending g c x = sought-ending c.args.self.now.separators c.args.place.element c.repetition_of-repetition.result c.repetition_of-repetition.ensures x

pub overflow_add-from : goal.overflow_add-from
overflow_add-from g c =
    let r = reads c.args.self.now c.args.place c.requires in
    let inside = r.inside in
    let short = r.short in
    omega arith

pub find_end-requires : goal.find_end-requires
find_end-requires g c = (reads c.args.self.now c.args.place c.requires).inside

pub next_element-requires : goal.next_element-requires
next_element-requires g c =
    let r = reads c.args.self.now c.args.place c.requires in
    let inside = r.inside in
    let short = r.short in
    let few = r.element in
    omega arith

pub next_repetition-requires : goal.next_repetition-requires
next_repetition-requires g c =
    let r = reads c.args.self.now c.args.place c.requires in
    let inside = r.inside in
    let short = r.short in
    let few = r.repetition in
    omega arith

pub next_component-requires : goal.next_component-requires
next_component-requires g c =
    let r = reads c.args.self.now c.args.place c.requires in
    let inside = r.inside in
    let short = r.short in
    let few = r.component in
    omega arith

pub returns-in-None-clause-stop : goal.returns-in-None-clause-stop
returns-in-None-clause-stop g c =
    let r = reads c.args.self.now c.args.place c.requires in
    let inside = r.inside in
    (omega arith, omega arith)

pub returns-in-None-clause-rest : goal.returns-in-None-clause-rest
returns-in-None-clause-rest g c =
    let r = reads c.args.self.now c.args.place c.requires in
    rest-last c.args.self.now.separators _ _ _ _ r.stands c.args.place.element _ (ending g (goal.at.returns-in-None-clause-rest g c).After-find_end) _ _ c.in-None.ensures.first

pub returns-in-Some-clause-next : goal.returns-in-Some-clause-next
returns-in-Some-clause-next g c =
    let r = reads c.args.self.now c.args.place c.requires in
    let few_elements = r.element in
    let few_repetitions = r.repetition in
    let few_components = r.component in
    let low = (stop-at c.args.self.now.separators _ _ _ _ r.stands c.args.place.element _ (ending g (goal.at.returns-in-Some-clause-next g c).After-find_end) 0 0 c.in-Some.found.place c.in-Some.ensures.first.0 c.in-Some.ensures.first.1).0 in
    place-after c.args.self.now.separators _ _ _ _ r.stands c.args.place.element _ (ending g (goal.at.returns-in-Some-clause-next g c).After-find_end) 0 0 c.in-Some.found.place c.in-Some.ensures.first.0 c.in-Some.ensures.first.1 c.args.self.now.apart (c.args.place.element + 1) 1 1 _ c.next_element.ensures (omega arith) (omega arith) (omega arith)

pub returns-in-Some-clause-rest : goal.returns-in-Some-clause-rest
returns-in-Some-clause-rest g c =
    let r = reads c.args.self.now c.args.place c.requires in
    rest-element c.args.self.now.separators _ _ _ _ r.stands c.args.place.element _ (ending g (goal.at.returns-in-Some-clause-rest g c).After-find_end) _ _ c.in-Some.found.place c.in-Some.ensures.first.0 c.in-Some.ensures.first.1 c.next_element.result c.next_element.ensures
    (sym c.in-Some.ensures.octet ∙ c.if-found-element.true)

pub returns-in-Some-2-clause-next : goal.returns-in-Some-2-clause-next
returns-in-Some-2-clause-next g c =
    let r = reads c.args.self.now c.args.place c.requires in
    let few_elements = r.element in
    let few_repetitions = r.repetition in
    let few_components = r.component in
    let low = (stop-at c.args.self.now.separators _ _ _ _ r.stands c.args.place.element _ (ending g (goal.at.returns-in-Some-2-clause-next g c).After-find_end) 0 0 c.in-Some.found.place c.in-Some.ensures.first.0 c.in-Some.ensures.first.1).0 in
    place-after c.args.self.now.separators _ _ _ _ r.stands c.args.place.element _ (ending g (goal.at.returns-in-Some-2-clause-next g c).After-find_end) 0 0 c.in-Some.found.place c.in-Some.ensures.first.0 c.in-Some.ensures.first.1 c.args.self.now.apart c.args.place.element (c.args.place.repetition + 1) 1 _ c.next_repetition.ensures (omega arith) (omega arith) (omega arith)

pub returns-in-Some-2-clause-rest : goal.returns-in-Some-2-clause-rest
returns-in-Some-2-clause-rest g c =
    let r = reads c.args.self.now c.args.place c.requires in
    rest-repetition c.args.self.now.separators _ _ _ _ r.stands c.args.place.element _ (ending g (goal.at.returns-in-Some-2-clause-rest g c).After-find_end) _ _ c.in-Some.found.place c.in-Some.ensures.first.0 c.in-Some.ensures.first.1 c.next_repetition.result c.next_repetition.ensures
    (λ same. c.if-found-element.false (c.in-Some.ensures.octet ∙ same))
    (sym (ap (is_repeating c.args.self.now.separators c.args.place.element) c.in-Some.ensures.octet) ∙ (sym (c.repetition_of-repetition.ensures c.in-Some.found.octet) ∙ (sym c.is_separator.ensures ∙ c.if-is_separator.true)))

pub returns-in-Some-3-clause-next : goal.returns-in-Some-3-clause-next
returns-in-Some-3-clause-next g c =
    let r = reads c.args.self.now c.args.place c.requires in
    let few_elements = r.element in
    let few_repetitions = r.repetition in
    let few_components = r.component in
    let low = (stop-at c.args.self.now.separators _ _ _ _ r.stands c.args.place.element _ (ending g (goal.at.returns-in-Some-3-clause-next g c).After-find_end) 0 0 c.in-Some.found.place c.in-Some.ensures.first.0 c.in-Some.ensures.first.1).0 in
    place-after c.args.self.now.separators _ _ _ _ r.stands c.args.place.element _ (ending g (goal.at.returns-in-Some-3-clause-next g c).After-find_end) 0 0 c.in-Some.found.place c.in-Some.ensures.first.0 c.in-Some.ensures.first.1 c.args.self.now.apart c.args.place.element c.args.place.repetition (c.args.place.component + 1) _ c.next_component.ensures (omega arith) (omega arith) (omega arith)

pub returns-in-Some-3-clause-rest : goal.returns-in-Some-3-clause-rest
returns-in-Some-3-clause-rest g c =
    let r = reads c.args.self.now c.args.place c.requires in
    rest-component c.args.self.now.separators _ _ _ _ r.stands c.args.place.element _ (ending g (goal.at.returns-in-Some-3-clause-rest g c).After-find_end) _ _ c.in-Some.found.place c.in-Some.ensures.first.0 c.in-Some.ensures.first.1 c.next_component.result c.next_component.ensures
    (λ same. c.if-found-element.false (c.in-Some.ensures.octet ∙ same))
    (sym (ap (is_repeating c.args.self.now.separators c.args.place.element) c.in-Some.ensures.octet) ∙ (sym (c.repetition_of-repetition.ensures c.in-Some.found.octet) ∙ (sym c.is_separator.ensures ∙ c.if-is_separator.false)))
