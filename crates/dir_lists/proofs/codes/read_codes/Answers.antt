use Rattle.std.proofs.Common.{◌≡◌, [], ◌∷◌, ◌++◌, map, Ok, sym, ap, ◌∙◌, rules}
use Rattle.std.proofs.lemmas.Result.{err_from_is_err_and}
use Rattle.edi_octets.specs.Head.{head_field}
use Rattle.edi_octets.specs.Left.{entry_shown, entries_left}
use Rattle.edi_octets.specs.Lines.{lines_of}
use Rattle.edi_octets.specs.Profile.{entries_of}
use Rattle.edi_octets.proofs.TurnLemmas.{judged-turn, rest-end}
use Rattle.dir_lists.specs.Codes.{codes_in, list_faults, list_of}
use Rattle.edi_octets.proofs.AnswerLemmas.{none_from_ok, Answers-handed_on}
use Rattle.dir_lists.proofs.FormLemmas.{codes_in-formed}
use Rattle.dir_lists.proofs.LoopLemmas.{map-turn, stopped-turn}
use Rattle.dir_lists.proofs.codes.read_codes.Goals as goal

pub loop-entry-preserved : goal.loop-entry-preserved
loop-entry-preserved c =
    let seen = c.loop-entry.yielded in
    let entry = c.in-Some.entry in
    let earlier = map entry_shown seen in
    let judged = none_from_ok (list_faults earlier (entry_shown entry)) (list_of (entry_shown entry)) c.in_ok-list.list (c.in_ok-list.ensures.judged earlier c.loop-entry.invariant.seen) in
    let pushed : c.push.new.self.items ≡ c.loop-entry.lists.items ++ c.in_ok-list.list ∷ [] = search rules in
    record {
      seen = c.in_ok-list.ensures.joins ∙ ap (λ codes. codes ++ head_field (entry_shown entry) ∷ []) c.loop-entry.invariant.seen ∙ sym (map-turn entry_shown head_field seen entry);
      none = judged-turn entry_shown entries_left (λ p. list_faults p.0 p.1) seen entry c.loop-entry.invariant.none judged.0;
      lists = pushed ∙ rw (c.loop-entry.invariant.lists, judged.1) (sym (map-turn entry_shown list_of seen entry));
    }

pub returns-in_err-list-clause-answers : goal.returns-in_err-list-clause-answers
unfolding codes_in
returns-in_err-list-clause-answers c =
    let seen = c.loop-entry.yielded in
    let entry = c.in-Some.entry in
    let earlier = map entry_shown seen in
    let entries = entries_of (lines_of c.args.file.now) in
    let stop = c.in_err-list.field-0.0 in
    let given = c.in_err-list.ensures.judged earlier c.loop-entry.invariant.seen in
    let all = sym (ap entries_left c.into_iter-entry-iterator.ensures.into_iter_gives ∙ c.of-entry-items.ensures.entries) in
    let stopped = stopped-turn entry_shown entries_left (λ p. list_faults p.0 p.1) c.into_iter-entry-iterator.result seen c.loop-entry.entry-iterator c.loop-entry.yielded_by entry c.next.new.self c.in-Some.ensures.steps c.loop-entry.invariant.none (λ list. list) (list_of (entry_shown entry)) stop given entries all (map list_of entries) in
    Answers-handed_on _ c.from_residual.result stop _ (err_from_is_err_and c.from_residual.result c.from_residual.ensures.1) stopped

pub returns : goal.returns
unfolding codes_in
returns c =
    let all = sym (ap entries_left c.into_iter-entry-iterator.ensures.into_iter_gives ∙ c.of-entry-items.ensures.entries) ∙ rest-end entry_shown entries_left c.into_iter-entry-iterator.result c.loop-entry.yielded c.loop-entry.entry-iterator c.loop-entry.yielded_by c.in-None.ensures.steps.0 in
    let answers : codes_in c.args.file.now ≡ Ok c.loop-entry.lists.items = rw (all, c.loop-entry.invariant.none) (ap Ok (sym c.loop-entry.invariant.lists)) in
    record { answers = answers; forms = codes_in-formed c.args.file.now c.loop-entry.lists.items answers }
