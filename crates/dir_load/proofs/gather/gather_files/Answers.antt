use Rattle.std.proofs.Common.{◌≡◌, ◌+◌, ◌<◌, ◌++◌, ◌∷◌, [], take, length, Ok, sym, ap, ◌∙◌, arith}
use Rattle.std.proofs.lemmas.List.{take_all, take_more}
use Rattle.edi_tables.specs.First.{unless_faulty}
use Rattle.edi_octets.proofs.EarlierLemmas.{judged-none}
use Rattle.dir_load.specs.Gathered.{found_of, joined}
use Rattle.dir_load.specs.Load.{Found, file_after, found_in_file, found_on, refusals_in, refusals_of}
use Rattle.dir_load.specs.Stop.{file_fault_in}
use Rattle.dir_load.proofs.AnswerLemmas.{Answers-at_file, Answers-unmapped}
use Rattle.dir_load.proofs.GatherLemmas.{Answers-turn, added-turn}
use Rattle.dir_load.proofs.gather.gather_files.Goals as goal

pub loop-line-preserved : goal.loop-line-preserved
loop-line-preserved g c =
    let lines = c.args.lines.now in
    let i = c.loop-line.line-index in
    let held = c.loop-line.invariant in
    let line = c.line-item.result in
    let lt : i < length lines = omega arith in
    let more : take (i + 1) lines ≡ take i lines ++ line ∷ [] = take_more lines i line lt ∙ ap (λ x. take i lines ++ x ∷ []) (sym c.line-item.is) in
    record {
      none = λ files told. ap (refusals_of files) more ∙ judged-none (λ p. refusals_in p.1.name (file_after files p.0 p.1)) (take i lines) line (held.none files told) (added-turn files (take i lines) line (found_of c.loop-line.gathered) (found_of c.add_file.new.self) (held.found files told) (c.in_default.ensures.adds files (held.files ∙ told))).0;
      found = λ files told. (added-turn files (take i lines) line (found_of c.loop-line.gathered) (found_of c.add_file.new.self) (held.found files told) (c.in_default.ensures.adds files (held.files ∙ told))).1 ∙ ap (found_on files) (sym more);
      formed = c.in_default.ensures.formed i held.formed;
      files = c.in_default.ensures.files ∙ held.files;
      counted = omega (arith, held.counted, c.in_default.ensures.fair.counted);
      steady = λ was. (c.in_default.ensures.fair.steady (held.steady was)).1;
    }

pub returns-in-Err-clause-gathers : goal.returns-in-Err-clause-gathers
returns-in-Err-clause-gathers g c files told =
    let lines = c.args.lines.now in
    let i = c.loop-line.line-index in
    let held = c.loop-line.invariant in
    let line = c.line-item.result in
    let old : Found = found_of c.loop-line.gathered in
    let lt : i < length lines = omega arith in
    let file = found_in_file files c.loop-line.gathered.composites.items line in
    let at_line = rw c.octets.ensures at c.at_file.ensures in
    let unread = Answers-unmapped (λ (done : Unit {0}). found_of c.add_file.new.self) (λ (f : Found). f) file_fault_in c.in-Err.stop file (joined old) (c.in-Err.ensures.adds files (held.files ∙ told)) in
    Answers-turn files lines i line lt c.line-item.is old (held.none files told) (held.found files told) (λ (f : Found). f) found_of (found_on files lines) c.at_file.result (Answers-at_file (λ (f : Found). f) (λ (f : Found). f) line.name c.in-Err.stop c.at_file.result file at_line unread)

pub returns-clause-gathers : goal.returns-clause-gathers
returns-clause-gathers g c files told =
    let lines = c.args.lines.now in
    let i = c.loop-line.line-index in
    let held = c.loop-line.invariant in
    let all : take i lines ≡ lines = take_all i lines (omega arith) in
    ap (λ l. unless_faulty (refusals_of files l) (found_on files l)) (sym all) ∙ ap (λ refusals. unless_faulty refusals (found_on files (take i lines))) (held.none files told) ∙ ap (λ f. Ok f) (sym (held.found files told))
