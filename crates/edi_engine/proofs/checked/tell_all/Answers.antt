use Rattle.std.proofs.Common.{◌≡◌, ◌≤◌, ◌+◌, ◌++◌, ◌∙◌, Bool, ℕ, List, None, Some, ap, arith, length, subst, sym}
use Rattle.std.proofs.lemmas.Bool.{OnTrue_at, OnTrue_from}
use Rattle.std.specs.Bool.{OnTrue}
use Rattle.std.specs.List.{enumerate_from, flat_map, slice_get}
use Rattle.std.specs.Option.{option_map}
use Rattle.std.specs.Prelude.{codes}
use Rattle.dir_compile.specs.Directory.{IsDirectory}
use Rattle.dir_compile.specs.declared.parts.Parts.{Parts}
use Rattle.edi_octets.specs.Decimal.{count_line}
use Rattle.error_ledger.specs.Printing.{tree_text}
use Rattle.kept_text.specs.Passing.{Passing}
use Rattle.seg_lexer.specs.Context.{context_of}
use Rattle.segment_records.specs.Count.{segment_count_of}
use Rattle.segment_records.specs.Errors.{segment_lines}
use Rattle.segment_records.specs.Heads.{heads_of}
use Rattle.segment_records.specs.Look.{seen_of}
use Rattle.segment_records.specs.Segments.{segments_of_text}
use Rattle.segment_records.specs.WalkedSegments.{seen_in}
use Rattle.text_reading.specs.Tree.{tree_of}
use Rattle.edi_engine.proofs.Telling.{IsTold, few_told, follows_at, heads_told, keeps_at, lines_told, none_comes, printed_told, some_comes, told_next}
use Rattle.edi_engine.proofs.checked.tell_all.Goals as goal

pub tell-requires-clause-follows : goal.tell-requires-clause-follows
tell-requires-clause-follows c =
    let d = c.directory-directory.result.now in
    let t = c.loop-seen.segments.text in
    let k = c.loop-seen.segments.passed in
    let seen = seen_of c.in-Some.seen in
    let lawful = subst IsDirectory (sym c.directory-directory.ensures.directory) c.directory-directory.ensures.lawful in
    let short = subst (λ (t : List ℕ). length t ≤ 4194304) (sym c.loop-seen.invariant.text) c.text-octets.ensures.short in
    let at : slice_get (seen_in d t) k ≡ Some seen =
    ap (λ (dir : Parts). slice_get (seen_in dir t) k) (sym c.loop-seen.invariant.directory)
    ∙ sym c.at_hand.ensures ∙ ap (option_map seen_of) c.in-Some.is in
    follows_at d t lawful short k seen at

pub tell-requires-clause-few : goal.tell-requires-clause-few
tell-requires-clause-few c =
    let d = c.directory-directory.result.now in
    let t = c.loop-seen.segments.text in
    let k = c.loop-seen.segments.passed in
    let seen = seen_of c.in-Some.seen in
    let lawful = subst IsDirectory (sym c.directory-directory.ensures.directory) c.directory-directory.ensures.lawful in
    let short = subst (λ (t : List ℕ). length t ≤ 4194304) (sym c.loop-seen.invariant.text) c.text-octets.ensures.short in
    let at : slice_get (seen_in d t) k ≡ Some seen =
    ap (λ (dir : Parts). slice_get (seen_in dir t) k) (sym c.loop-seen.invariant.directory)
    ∙ sym c.at_hand.ensures ∙ ap (option_map seen_of) c.in-Some.is in
    few_told d t lawful short k seen at _ _ _ _ _ c.loop-seen.invariant.told

pub tell-requires-in-Some : goal.tell-requires-in-Some
tell-requires-in-Some c =
    let d = c.directory-directory.result.now in
    let t = c.loop-seen.segments.text in
    let k = c.loop-seen.segments.passed in
    let seen = seen_of c.in-Some.seen in
    let lawful = subst IsDirectory (sym c.directory-directory.ensures.directory) c.directory-directory.ensures.lawful in
    let short = subst (λ (t : List ℕ). length t ≤ 4194304) (sym c.loop-seen.invariant.text) c.text-octets.ensures.short in
    let at : slice_get (seen_in d t) k ≡ Some seen =
    ap (λ (dir : Parts). slice_get (seen_in dir t) k) (sym c.loop-seen.invariant.directory)
    ∙ sym c.at_hand.ensures ∙ ap (option_map seen_of) c.in-Some.is in
    follows_at d t lawful short k seen at

pub pass-requires : goal.pass-requires
pass-requires c =
    let d = c.directory-directory.result.now in
    let t = c.loop-seen.segments.text in
    let k = c.loop-seen.segments.passed in
    let seen = seen_of c.in-Some.seen in
    let lawful = subst IsDirectory (sym c.directory-directory.ensures.directory) c.directory-directory.ensures.lawful in
    let short = subst (λ (t : List ℕ). length t ≤ 4194304) (sym c.loop-seen.invariant.text) c.text-octets.ensures.short in
    let at : slice_get (seen_in d t) k ≡ Some seen =
    ap (λ (dir : Parts). slice_get (seen_in dir t) k) (sym c.loop-seen.invariant.directory)
    ∙ sym c.at_hand.ensures ∙ ap (option_map seen_of) c.in-Some.is in
    some_comes d t lawful k seen at

pub loop-seen-smaller : goal.loop-seen-smaller
loop-seen-smaller c =
    let d = c.directory-directory.result.now in
    let t = c.loop-seen.segments.text in
    let k = c.loop-seen.segments.passed in
    let seen = seen_of c.in-Some.seen in
    let lawful = subst IsDirectory (sym c.directory-directory.ensures.directory) c.directory-directory.ensures.lawful in
    let short = subst (λ (t : List ℕ). length t ≤ 4194304) (sym c.loop-seen.invariant.text) c.text-octets.ensures.short in
    let at : slice_get (seen_in d t) k ≡ Some seen =
    ap (λ (dir : Parts). slice_get (seen_in dir t) k) (sym c.loop-seen.invariant.directory)
    ∙ sym c.at_hand.ensures ∙ ap (option_map seen_of) c.in-Some.is in
    let less = some_comes d t lawful k seen at in
    let next = c.in_ok-pass.ensures.passed in
    let passed = ap (λ (p : Passing). p.passed) next in
    let count = ap (λ (p : Passing). segment_count_of p.text) next in
    omega arith

pub loop-seen-preserved : goal.loop-seen-preserved
loop-seen-preserved c =
    let d = c.directory-directory.result.now in
    let t = c.loop-seen.segments.text in
    let k = c.loop-seen.segments.passed in
    let seen = seen_of c.in-Some.seen in
    let lawful = subst IsDirectory (sym c.directory-directory.ensures.directory) c.directory-directory.ensures.lawful in
    let short = subst (λ (t : List ℕ). length t ≤ 4194304) (sym c.loop-seen.invariant.text) c.text-octets.ensures.short in
    let at : slice_get (seen_in d t) k ≡ Some seen =
    ap (λ (dir : Parts). slice_get (seen_in dir t) k) (sym c.loop-seen.invariant.directory)
    ∙ sym c.at_hand.ensures ∙ ap (option_map seen_of) c.in-Some.is in
    let less = some_comes d t lawful k seen at in
    let next = c.in_ok-pass.ensures.passed in
    record {
      directory = ap (λ (p : Passing). p.directory) next ∙ c.loop-seen.invariant.directory;
      text = ap (λ (p : Passing). p.text) next ∙ c.loop-seen.invariant.text;
      within = subst (λ (p : Passing). p.passed ≤ segment_count_of p.text) (sym next) (omega arith);
      wanted = c.tell.ensures.wanted ∙ c.loop-seen.invariant.wanted;
      told = subst (λ (p : Passing). IsTold d p.text p.passed c.tell-in-Some.new.self.lines.items c.tell-in-Some.new.self.heads.items c.tell.new.self.wanted c.tell.new.self.text c.tell.new.self.lines) (sym next)
          (subst (λ (wanted : Bool). IsTold d t (k + 1) c.tell-in-Some.new.self.lines.items c.tell-in-Some.new.self.heads.items wanted c.tell.new.self.text c.tell.new.self.lines) (sym c.tell.ensures.wanted)
          (told_next d t lawful short k seen at _ _ _ _ _ c.loop-seen.invariant.told _ _ _ _
          c.in_ok-tell-2.ensures.lines
          (c.in_ok-tell-2.ensures.heads (context_of t).service t (keeps_at d t lawful short k seen at))
          c.in_ok-tell.ensures.text c.in_ok-tell.ensures.lines));
    }

pub returns-clause-passed : goal.returns-clause-passed
returns-clause-passed c =
    let d = c.directory-directory.result.now in
    let t = c.loop-seen.segments.text in
    let k = c.loop-seen.segments.passed in
    let lawful = subst IsDirectory (sym c.directory-directory.ensures.directory) c.directory-directory.ensures.lawful in
    let none : slice_get (seen_in d t) k ≡ None =
    ap (λ (dir : Parts). slice_get (seen_in dir t) k) (sym c.loop-seen.invariant.directory)
    ∙ sym c.at_hand.ensures ∙ ap (option_map seen_of) c.in_default.is in
    let all = none_comes d t lawful k none c.loop-seen.invariant.within in
    all ∙ ap segment_count_of c.loop-seen.invariant.text

pub returns-clause-heads : goal.returns-clause-heads
returns-clause-heads c =
    let d = c.directory-directory.result.now in
    let t = c.loop-seen.segments.text in
    let k = c.loop-seen.segments.passed in
    let lawful = subst IsDirectory (sym c.directory-directory.ensures.directory) c.directory-directory.ensures.lawful in
    let none : slice_get (seen_in d t) k ≡ None =
    ap (λ (dir : Parts). slice_get (seen_in dir t) k) (sym c.loop-seen.invariant.directory)
    ∙ sym c.at_hand.ensures ∙ ap (option_map seen_of) c.in_default.is in
    let all = none_comes d t lawful k none c.loop-seen.invariant.within in
    heads_told d t lawful k all _ _ _ _ _ c.loop-seen.invariant.told
    ∙ ap (λ (dir : Parts). heads_of dir (segments_of_text t)) c.directory-directory.ensures.directory
    ∙ ap (λ (text : List ℕ). heads_of c.args.segments.now.directory (segments_of_text text)) c.loop-seen.invariant.text

pub returns-clause-lines : goal.returns-clause-lines
returns-clause-lines c =
    let d = c.directory-directory.result.now in
    let t = c.loop-seen.segments.text in
    let k = c.loop-seen.segments.passed in
    let lawful = subst IsDirectory (sym c.directory-directory.ensures.directory) c.directory-directory.ensures.lawful in
    let none : slice_get (seen_in d t) k ≡ None =
    ap (λ (dir : Parts). slice_get (seen_in dir t) k) (sym c.loop-seen.invariant.directory)
    ∙ sym c.at_hand.ensures ∙ ap (option_map seen_of) c.in_default.is in
    let all = none_comes d t lawful k none c.loop-seen.invariant.within in
    lines_told d t lawful k all _ _ _ _ _ c.loop-seen.invariant.told
    ∙ ap (λ (dir : Parts). flat_map (segment_lines dir (context_of t) (segments_of_text t)) (enumerate_from 0 (segments_of_text t))) c.directory-directory.ensures.directory
    ∙ ap (λ (text : List ℕ). flat_map (segment_lines c.args.segments.now.directory (context_of text) (segments_of_text text)) (enumerate_from 0 (segments_of_text text))) c.loop-seen.invariant.text

pub returns-clause-printed : goal.returns-clause-printed
returns-clause-printed c =
    let d = c.directory-directory.result.now in
    let t = c.loop-seen.segments.text in
    let k = c.loop-seen.segments.passed in
    let lawful = subst IsDirectory (sym c.directory-directory.ensures.directory) c.directory-directory.ensures.lawful in
    let none : slice_get (seen_in d t) k ≡ None =
    ap (λ (dir : Parts). slice_get (seen_in dir t) k) (sym c.loop-seen.invariant.directory)
    ∙ sym c.at_hand.ensures ∙ ap (option_map seen_of) c.in_default.is in
    let all = none_comes d t lawful k none c.loop-seen.invariant.within in
    let printed = subst (λ (wanted : Bool). OnTrue wanted (count_line (codes "tree") c.loop-seen.tree.lines ++ c.loop-seen.tree.text ≡ tree_text (tree_of d t))) c.loop-seen.invariant.wanted
    (printed_told d t lawful k all _ _ _ _ _ c.loop-seen.invariant.told) in
    let by = ap (λ (dir : Parts). tree_text (tree_of dir t)) c.directory-directory.ensures.directory
    ∙ ap (λ (text : List ℕ). tree_text (tree_of c.args.segments.now.directory text)) c.loop-seen.invariant.text in
    OnTrue_from c.args.with_tree _ (λ on. OnTrue_at on printed ∙ by)
