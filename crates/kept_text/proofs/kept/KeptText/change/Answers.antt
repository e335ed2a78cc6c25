use Rattle.std.proofs.Common.{◌≡◌, ℕ, ◌≤◌, List, Option, Some, None, length, sym, ap, ◌∙◌, subst, arith}
use Rattle.seg_lexer.specs.Segments.{IsBoundary}
use Rattle.seg_lexer.specs.Service.{IsUsable}
use Rattle.segment_records.specs.declared.mode.Mode.{Mode}
use Rattle.segment_records.specs.Count.{segment_count_of}
use Rattle.segment_records.proofs.Rests.{rest_count}
use Rattle.kept_text.specs.Again.{StaysAfter, last_mode, one_where_some}
use Rattle.kept_text.specs.declared.stretch.Span.{Span}
use Rattle.kept_text.proofs.Begins.{IsLastBefore}
use Rattle.kept_text.proofs.Changing.{IsPlacedAgain, IsStretchRead}
use Rattle.kept_text.proofs.ChangingReading.{before_mode, end_reach, end_records, end_rerun, few_left, next_after, next_count, next_reach, next_records, next_rerun, next_short, next_within, start_boundary, usable_kept}
use Rattle.kept_text.proofs.LastMode.{last_mode_same}
use Rattle.kept_text.proofs.Readings.{boundary_within}
use Rattle.kept_text.proofs.kept.KeptText.change.Goals as goal

pub stretch_start-first-requires : goal.stretch_start-first-requires
stretch_start-first-requires g c =
    record { short = boundary_within c.self.inside c.self.invariant }

pub read_stretch-requires-clause-usable : goal.read_stretch-requires-clause-usable
read_stretch-requires-clause-usable g c =
    let text = c.args.text.now in
    subst (IsUsable c.self.inside.context.service) (sym c.whole_of-whole.ensures)
    (usable_kept c.self.inside c.self.invariant c.args.self.now c.self.view_is c.args.at c.args.cut c.args.put.now text c.requires.text c.requires.inside c.requires.context c.requires.short)

pub read_stretch-requires-clause-boundary : goal.read_stretch-requires-clause-boundary
read_stretch-requires-clause-boundary g c =
    let text = c.args.text.now in
    let whole = c.whole_of-whole.ensures in
    let begins : IsLastBefore c.self.inside.records c.self.inside.context.service.body c.args.at c.stretch_start-first.result.0 = record {
      within = c.stretch_start-first.ensures.within;
      early = c.stretch_start-first.ensures.early;
      not_past = λ late. subst (λ (n : ℕ). n ≤ c.args.at) c.stretch_start-first.ensures.from (c.stretch_start-first.ensures.not_past late);
      last = c.stretch_start-first.ensures.last;
    } in
    subst (λ (t : List ℕ). IsBoundary c.self.inside.context.service t c.stretch_start-first.result.1) (sym whole)
    (start_boundary c.self.inside c.self.invariant c.args.self.now c.self.view_is c.args.at c.args.cut c.args.put.now text c.requires.text c.requires.inside c.requires.context c.requires.short c.stretch_start-first.result.0 c.stretch_start-first.result.1 begins c.stretch_start-first.ensures.from)

pub read_stretch-requires-clause-mode : goal.read_stretch-requires-clause-mode
read_stretch-requires-clause-mode g c =
    let text = c.args.text.now in
    let whole = c.whole_of-whole.ensures in
    let begins : IsLastBefore c.self.inside.records c.self.inside.context.service.body c.args.at c.stretch_start-first.result.0 = record {
      within = c.stretch_start-first.ensures.within;
      early = c.stretch_start-first.ensures.early;
      not_past = λ late. subst (λ (n : ℕ). n ≤ c.args.at) c.stretch_start-first.ensures.from (c.stretch_start-first.ensures.not_past late);
      last = c.stretch_start-first.ensures.last;
    } in
    before_mode c.self.inside c.self.invariant c.args.self.now c.self.view_is c.args.at c.args.cut c.args.put.now text c.requires.text c.requires.inside c.requires.context c.requires.short c.stretch_start-first.result.0 c.stretch_start-first.result.1 begins c.stretch_start-first.ensures.from c.mode_after_first-before.result.now c.mode_after_first-before.ensures

pub read_stretch-requires-clause-old : goal.read_stretch-requires-clause-old
read_stretch-requires-clause-old g c =
    boundary_within c.self.inside c.self.invariant

pub returns-in_err-read-clause-lexed : goal.returns-in_err-read-clause-lexed
returns-in_err-read-clause-lexed g c =
    let text = c.args.text.now in
    let whole = c.whole_of-whole.ensures in
    let begins : IsLastBefore c.self.inside.records c.self.inside.context.service.body c.args.at c.stretch_start-first.result.0 = record {
      within = c.stretch_start-first.ensures.within;
      early = c.stretch_start-first.ensures.early;
      not_past = λ late. subst (λ (n : ℕ). n ≤ c.args.at) c.stretch_start-first.ensures.from (c.stretch_start-first.ensures.not_past late);
      last = c.stretch_start-first.ensures.last;
    } in
    let few : rest_count c.self.inside.context.service c.whole_of-whole.result c.stretch_start-first.result.1 ≤ segment_count_of text =
    subst (λ (t : List ℕ). rest_count c.self.inside.context.service t c.stretch_start-first.result.1 ≤ segment_count_of text) (sym whole)
    (few_left c.self.inside c.self.invariant c.args.self.now c.self.view_is c.args.at c.args.cut c.args.put.now text c.requires.text c.requires.inside c.requires.context c.requires.short c.stretch_start-first.result.0 c.stretch_start-first.result.1 begins c.stretch_start-first.ensures.from) in
    omega (arith, c.read_stretch.ensures.lexed_most)

pub returns-in_err-read-clause-placed : goal.returns-in_err-read-clause-placed
returns-in_err-read-clause-placed g c =
    let text = c.args.text.now in
    let whole = c.whole_of-whole.ensures in
    let begins : IsLastBefore c.self.inside.records c.self.inside.context.service.body c.args.at c.stretch_start-first.result.0 = record {
      within = c.stretch_start-first.ensures.within;
      early = c.stretch_start-first.ensures.early;
      not_past = λ late. subst (λ (n : ℕ). n ≤ c.args.at) c.stretch_start-first.ensures.from (c.stretch_start-first.ensures.not_past late);
      last = c.stretch_start-first.ensures.last;
    } in
    let few : rest_count c.self.inside.context.service c.whole_of-whole.result c.stretch_start-first.result.1 ≤ segment_count_of text =
    subst (λ (t : List ℕ). rest_count c.self.inside.context.service t c.stretch_start-first.result.1 ≤ segment_count_of text) (sym whole)
    (few_left c.self.inside c.self.invariant c.args.self.now c.self.view_is c.args.at c.args.cut c.args.put.now text c.requires.text c.requires.inside c.requires.context c.requires.short c.stretch_start-first.result.0 c.stretch_start-first.result.1 begins c.stretch_start-first.ensures.from) in
    omega (arith, c.read_stretch.ensures.placed_most)

pub returns-in_default-clause-records : goal.returns-in_default-clause-records
returns-in_default-clause-records g c =
    let text = c.args.text.now in
    let whole = c.whole_of-whole.ensures in
    let begins : IsLastBefore c.self.inside.records c.self.inside.context.service.body c.args.at c.stretch_start-first.result.0 = record {
      within = c.stretch_start-first.ensures.within;
      early = c.stretch_start-first.ensures.early;
      not_past = λ late. subst (λ (n : ℕ). n ≤ c.args.at) c.stretch_start-first.ensures.from (c.stretch_start-first.ensures.not_past late);
      last = c.stretch_start-first.ensures.last;
    } in
    let span : Span = record { at = c.args.at; cut = c.args.cut; put = length c.args.put.now } in
    let read = c.in_ok-read.field-0.records.items in
    let to = c.in_ok-read.field-0.to in
    let before = c.mode_after_first-before.result.now in
    let of_view : IsStretchRead c.self.inside.directory.now c.self.inside.context.service c.self.inside.context c.self.inside.records c.whole_of-whole.result span before c.stretch_start-first.result.1 read to c.in_ok-read.field-0.next = record {
      number = c.in_ok-read.ensures.number;
      records = c.in_ok-read.ensures.records;
      kept = c.in_ok-read.ensures.kept;
      some = c.in_ok-read.ensures.some;
      all = c.in_ok-read.ensures.all;
      apart = c.in_ok-read.ensures.apart;
    } in
    let of_text = subst (λ (t : List ℕ). IsStretchRead c.self.inside.directory.now c.self.inside.context.service c.self.inside.context c.self.inside.records t span before c.stretch_start-first.result.1 read to c.in_ok-read.field-0.next) whole of_view in
    let none : c.in_ok-read.field-0.next ≡ None = let was = c.in_ok-read.next-is in let not = c.in_default.is in cc in
    let reads = subst (λ (next : Option ℕ). IsStretchRead c.self.inside.directory.now c.self.inside.context.service c.self.inside.context c.self.inside.records text span before c.stretch_start-first.result.1 read to next) none of_text in
    end_records c.self.inside c.self.invariant c.args.self.now c.self.view_is c.args.at c.args.cut c.args.put.now text c.requires.text c.requires.inside c.requires.context c.requires.short c.stretch_start-first.result.0 c.stretch_start-first.result.1 begins c.stretch_start-first.ensures.from c.mode_after_first-before.result.now c.mode_after_first-before.ensures read to reads c.len.result c.new.result.items c.len.ensures c.new.ensures.items

pub returns-in_default-clause-lexed : goal.returns-in_default-clause-lexed
returns-in_default-clause-lexed g c =
    let text = c.args.text.now in
    let whole = c.whole_of-whole.ensures in
    let begins : IsLastBefore c.self.inside.records c.self.inside.context.service.body c.args.at c.stretch_start-first.result.0 = record {
      within = c.stretch_start-first.ensures.within;
      early = c.stretch_start-first.ensures.early;
      not_past = λ late. subst (λ (n : ℕ). n ≤ c.args.at) c.stretch_start-first.ensures.from (c.stretch_start-first.ensures.not_past late);
      last = c.stretch_start-first.ensures.last;
    } in
    let few : rest_count c.self.inside.context.service c.whole_of-whole.result c.stretch_start-first.result.1 ≤ segment_count_of text =
    subst (λ (t : List ℕ). rest_count c.self.inside.context.service t c.stretch_start-first.result.1 ≤ segment_count_of text) (sym whole)
    (few_left c.self.inside c.self.invariant c.args.self.now c.self.view_is c.args.at c.args.cut c.args.put.now text c.requires.text c.requires.inside c.requires.context c.requires.short c.stretch_start-first.result.0 c.stretch_start-first.result.1 begins c.stretch_start-first.ensures.from) in
    omega (arith, c.in_ok-read.ensures.lexed_most)

pub returns-in_default-clause-placed : goal.returns-in_default-clause-placed
returns-in_default-clause-placed g c =
    let text = c.args.text.now in
    let whole = c.whole_of-whole.ensures in
    let begins : IsLastBefore c.self.inside.records c.self.inside.context.service.body c.args.at c.stretch_start-first.result.0 = record {
      within = c.stretch_start-first.ensures.within;
      early = c.stretch_start-first.ensures.early;
      not_past = λ late. subst (λ (n : ℕ). n ≤ c.args.at) c.stretch_start-first.ensures.from (c.stretch_start-first.ensures.not_past late);
      last = c.stretch_start-first.ensures.last;
    } in
    let few : rest_count c.self.inside.context.service c.whole_of-whole.result c.stretch_start-first.result.1 ≤ segment_count_of text =
    subst (λ (t : List ℕ). rest_count c.self.inside.context.service t c.stretch_start-first.result.1 ≤ segment_count_of text) (sym whole)
    (few_left c.self.inside c.self.invariant c.args.self.now c.self.view_is c.args.at c.args.cut c.args.put.now text c.requires.text c.requires.inside c.requires.context c.requires.short c.stretch_start-first.result.0 c.stretch_start-first.result.1 begins c.stretch_start-first.ensures.from) in
    omega (arith, c.in_ok-read.ensures.placed_most)

pub returns-in_default-clause-reach : goal.returns-in_default-clause-reach
returns-in_default-clause-reach g c =
    let text = c.args.text.now in
    let whole = c.whole_of-whole.ensures in
    let begins : IsLastBefore c.self.inside.records c.self.inside.context.service.body c.args.at c.stretch_start-first.result.0 = record {
      within = c.stretch_start-first.ensures.within;
      early = c.stretch_start-first.ensures.early;
      not_past = λ late. subst (λ (n : ℕ). n ≤ c.args.at) c.stretch_start-first.ensures.from (c.stretch_start-first.ensures.not_past late);
      last = c.stretch_start-first.ensures.last;
    } in
    let span : Span = record { at = c.args.at; cut = c.args.cut; put = length c.args.put.now } in
    let read = c.in_ok-read.field-0.records.items in
    let to = c.in_ok-read.field-0.to in
    let before = c.mode_after_first-before.result.now in
    let of_view : IsStretchRead c.self.inside.directory.now c.self.inside.context.service c.self.inside.context c.self.inside.records c.whole_of-whole.result span before c.stretch_start-first.result.1 read to c.in_ok-read.field-0.next = record {
      number = c.in_ok-read.ensures.number;
      records = c.in_ok-read.ensures.records;
      kept = c.in_ok-read.ensures.kept;
      some = c.in_ok-read.ensures.some;
      all = c.in_ok-read.ensures.all;
      apart = c.in_ok-read.ensures.apart;
    } in
    let of_text = subst (λ (t : List ℕ). IsStretchRead c.self.inside.directory.now c.self.inside.context.service c.self.inside.context c.self.inside.records t span before c.stretch_start-first.result.1 read to c.in_ok-read.field-0.next) whole of_view in
    let none : c.in_ok-read.field-0.next ≡ None = let was = c.in_ok-read.next-is in let not = c.in_default.is in cc in
    let reads = subst (λ (next : Option ℕ). IsStretchRead c.self.inside.directory.now c.self.inside.context.service c.self.inside.context c.self.inside.records text span before c.stretch_start-first.result.1 read to next) none of_text in
    let reach = end_reach c.self.inside c.self.invariant c.args.self.now c.self.view_is c.args.at c.args.cut c.args.put.now text c.requires.text c.requires.inside c.requires.context c.requires.short c.stretch_start-first.result.0 c.stretch_start-first.result.1 begins c.stretch_start-first.ensures.from c.mode_after_first-before.result.now c.mode_after_first-before.ensures read to reads in
    let one : one_where_some c.in_ok-read.field-0.next ≡ 0 = ap one_where_some none in
    omega (arith, c.in_ok-read.ensures.lexed)

pub returns-in_default-clause-rerun : goal.returns-in_default-clause-rerun
returns-in_default-clause-rerun g c =
    let text = c.args.text.now in
    let whole = c.whole_of-whole.ensures in
    let begins : IsLastBefore c.self.inside.records c.self.inside.context.service.body c.args.at c.stretch_start-first.result.0 = record {
      within = c.stretch_start-first.ensures.within;
      early = c.stretch_start-first.ensures.early;
      not_past = λ late. subst (λ (n : ℕ). n ≤ c.args.at) c.stretch_start-first.ensures.from (c.stretch_start-first.ensures.not_past late);
      last = c.stretch_start-first.ensures.last;
    } in
    let span : Span = record { at = c.args.at; cut = c.args.cut; put = length c.args.put.now } in
    let read = c.in_ok-read.field-0.records.items in
    let to = c.in_ok-read.field-0.to in
    let before = c.mode_after_first-before.result.now in
    let of_view : IsStretchRead c.self.inside.directory.now c.self.inside.context.service c.self.inside.context c.self.inside.records c.whole_of-whole.result span before c.stretch_start-first.result.1 read to c.in_ok-read.field-0.next = record {
      number = c.in_ok-read.ensures.number;
      records = c.in_ok-read.ensures.records;
      kept = c.in_ok-read.ensures.kept;
      some = c.in_ok-read.ensures.some;
      all = c.in_ok-read.ensures.all;
      apart = c.in_ok-read.ensures.apart;
    } in
    let of_text = subst (λ (t : List ℕ). IsStretchRead c.self.inside.directory.now c.self.inside.context.service c.self.inside.context c.self.inside.records t span before c.stretch_start-first.result.1 read to c.in_ok-read.field-0.next) whole of_view in
    let none : c.in_ok-read.field-0.next ≡ None = let was = c.in_ok-read.next-is in let not = c.in_default.is in cc in
    let reads = subst (λ (next : Option ℕ). IsStretchRead c.self.inside.directory.now c.self.inside.context.service c.self.inside.context c.self.inside.records text span before c.stretch_start-first.result.1 read to next) none of_text in
    let rerun = end_rerun c.self.inside c.self.invariant c.args.self.now c.self.view_is c.args.at c.args.cut c.args.put.now text c.requires.text c.requires.inside c.requires.context c.requires.short c.stretch_start-first.result.0 c.stretch_start-first.result.1 begins c.stretch_start-first.ensures.from c.mode_after_first-before.result.now c.mode_after_first-before.ensures read to reads in
    omega (arith, c.in_ok-read.ensures.placed)

pub place_again-requires-clause-within : goal.place_again-requires-clause-within
place_again-requires-clause-within g c =
    let text = c.args.text.now in
    let whole = c.whole_of-whole.ensures in
    let begins : IsLastBefore c.self.inside.records c.self.inside.context.service.body c.args.at c.stretch_start-first.result.0 = record {
      within = c.stretch_start-first.ensures.within;
      early = c.stretch_start-first.ensures.early;
      not_past = λ late. subst (λ (n : ℕ). n ≤ c.args.at) c.stretch_start-first.ensures.from (c.stretch_start-first.ensures.not_past late);
      last = c.stretch_start-first.ensures.last;
    } in
    let span : Span = record { at = c.args.at; cut = c.args.cut; put = length c.args.put.now } in
    let read = c.in_ok-read.field-0.records.items in
    let to = c.in_ok-read.field-0.to in
    let before = c.mode_after_first-before.result.now in
    let of_view : IsStretchRead c.self.inside.directory.now c.self.inside.context.service c.self.inside.context c.self.inside.records c.whole_of-whole.result span before c.stretch_start-first.result.1 read to c.in_ok-read.field-0.next = record {
      number = c.in_ok-read.ensures.number;
      records = c.in_ok-read.ensures.records;
      kept = c.in_ok-read.ensures.kept;
      some = c.in_ok-read.ensures.some;
      all = c.in_ok-read.ensures.all;
      apart = c.in_ok-read.ensures.apart;
    } in
    let of_text = subst (λ (t : List ℕ). IsStretchRead c.self.inside.directory.now c.self.inside.context.service c.self.inside.context c.self.inside.records t span before c.stretch_start-first.result.1 read to c.in_ok-read.field-0.next) whole of_view in
    let j = c.in-Some.next in
    let next_is : c.in_ok-read.field-0.next ≡ Some j = let was = c.in_ok-read.next-is in let found = c.in-Some.is in cc in
    let reads = subst (λ (next : Option ℕ). IsStretchRead c.self.inside.directory.now c.self.inside.context.service c.self.inside.context c.self.inside.records text span before c.stretch_start-first.result.1 read to next) next_is of_text in
    next_within c.self.inside c.self.invariant c.args.self.now c.self.view_is c.args.at c.args.cut c.args.put.now text c.requires.text c.requires.inside c.requires.context c.requires.short c.stretch_start-first.result.0 c.stretch_start-first.result.1 begins c.stretch_start-first.ensures.from c.mode_after_first-before.result.now c.mode_after_first-before.ensures read to j reads

pub place_again-requires-clause-short : goal.place_again-requires-clause-short
place_again-requires-clause-short g c =
    let text = c.args.text.now in
    let whole = c.whole_of-whole.ensures in
    let begins : IsLastBefore c.self.inside.records c.self.inside.context.service.body c.args.at c.stretch_start-first.result.0 = record {
      within = c.stretch_start-first.ensures.within;
      early = c.stretch_start-first.ensures.early;
      not_past = λ late. subst (λ (n : ℕ). n ≤ c.args.at) c.stretch_start-first.ensures.from (c.stretch_start-first.ensures.not_past late);
      last = c.stretch_start-first.ensures.last;
    } in
    let span : Span = record { at = c.args.at; cut = c.args.cut; put = length c.args.put.now } in
    let read = c.in_ok-read.field-0.records.items in
    let to = c.in_ok-read.field-0.to in
    let before = c.mode_after_first-before.result.now in
    let of_view : IsStretchRead c.self.inside.directory.now c.self.inside.context.service c.self.inside.context c.self.inside.records c.whole_of-whole.result span before c.stretch_start-first.result.1 read to c.in_ok-read.field-0.next = record {
      number = c.in_ok-read.ensures.number;
      records = c.in_ok-read.ensures.records;
      kept = c.in_ok-read.ensures.kept;
      some = c.in_ok-read.ensures.some;
      all = c.in_ok-read.ensures.all;
      apart = c.in_ok-read.ensures.apart;
    } in
    let of_text = subst (λ (t : List ℕ). IsStretchRead c.self.inside.directory.now c.self.inside.context.service c.self.inside.context c.self.inside.records t span before c.stretch_start-first.result.1 read to c.in_ok-read.field-0.next) whole of_view in
    let j = c.in-Some.next in
    let next_is : c.in_ok-read.field-0.next ≡ Some j = let was = c.in_ok-read.next-is in let found = c.in-Some.is in cc in
    let reads = subst (λ (next : Option ℕ). IsStretchRead c.self.inside.directory.now c.self.inside.context.service c.self.inside.context c.self.inside.records text span before c.stretch_start-first.result.1 read to next) next_is of_text in
    let short = next_short c.self.inside c.self.invariant c.args.self.now c.self.view_is c.args.at c.args.cut c.args.put.now text c.requires.text c.requires.inside c.requires.context c.requires.short c.stretch_start-first.result.0 c.stretch_start-first.result.1 begins c.stretch_start-first.ensures.from c.mode_after_first-before.result.now c.mode_after_first-before.ensures read to j reads in
    let place = c.in_ok-read.to-is in
    omega arith

pub returns-in_err-again-clause-lexed : goal.returns-in_err-again-clause-lexed
returns-in_err-again-clause-lexed g c =
    let text = c.args.text.now in
    let whole = c.whole_of-whole.ensures in
    let begins : IsLastBefore c.self.inside.records c.self.inside.context.service.body c.args.at c.stretch_start-first.result.0 = record {
      within = c.stretch_start-first.ensures.within;
      early = c.stretch_start-first.ensures.early;
      not_past = λ late. subst (λ (n : ℕ). n ≤ c.args.at) c.stretch_start-first.ensures.from (c.stretch_start-first.ensures.not_past late);
      last = c.stretch_start-first.ensures.last;
    } in
    let few : rest_count c.self.inside.context.service c.whole_of-whole.result c.stretch_start-first.result.1 ≤ segment_count_of text =
    subst (λ (t : List ℕ). rest_count c.self.inside.context.service t c.stretch_start-first.result.1 ≤ segment_count_of text) (sym whole)
    (few_left c.self.inside c.self.invariant c.args.self.now c.self.view_is c.args.at c.args.cut c.args.put.now text c.requires.text c.requires.inside c.requires.context c.requires.short c.stretch_start-first.result.0 c.stretch_start-first.result.1 begins c.stretch_start-first.ensures.from) in
    omega (arith, c.in_ok-read.ensures.lexed_most)

pub returns-in_err-again-clause-placed : goal.returns-in_err-again-clause-placed
returns-in_err-again-clause-placed g c =
    let text = c.args.text.now in
    let whole = c.whole_of-whole.ensures in
    let begins : IsLastBefore c.self.inside.records c.self.inside.context.service.body c.args.at c.stretch_start-first.result.0 = record {
      within = c.stretch_start-first.ensures.within;
      early = c.stretch_start-first.ensures.early;
      not_past = λ late. subst (λ (n : ℕ). n ≤ c.args.at) c.stretch_start-first.ensures.from (c.stretch_start-first.ensures.not_past late);
      last = c.stretch_start-first.ensures.last;
    } in
    let span : Span = record { at = c.args.at; cut = c.args.cut; put = length c.args.put.now } in
    let read = c.in_ok-read.field-0.records.items in
    let to = c.in_ok-read.field-0.to in
    let before = c.mode_after_first-before.result.now in
    let of_view : IsStretchRead c.self.inside.directory.now c.self.inside.context.service c.self.inside.context c.self.inside.records c.whole_of-whole.result span before c.stretch_start-first.result.1 read to c.in_ok-read.field-0.next = record {
      number = c.in_ok-read.ensures.number;
      records = c.in_ok-read.ensures.records;
      kept = c.in_ok-read.ensures.kept;
      some = c.in_ok-read.ensures.some;
      all = c.in_ok-read.ensures.all;
      apart = c.in_ok-read.ensures.apart;
    } in
    let of_text = subst (λ (t : List ℕ). IsStretchRead c.self.inside.directory.now c.self.inside.context.service c.self.inside.context c.self.inside.records t span before c.stretch_start-first.result.1 read to c.in_ok-read.field-0.next) whole of_view in
    let j = c.in-Some.next in
    let next_is : c.in_ok-read.field-0.next ≡ Some j = let was = c.in_ok-read.next-is in let found = c.in-Some.is in cc in
    let reads = subst (λ (next : Option ℕ). IsStretchRead c.self.inside.directory.now c.self.inside.context.service c.self.inside.context c.self.inside.records text span before c.stretch_start-first.result.1 read to next) next_is of_text in
    let count = next_count c.self.inside c.self.invariant c.args.self.now c.self.view_is c.args.at c.args.cut c.args.put.now text c.requires.text c.requires.inside c.requires.context c.requires.short c.stretch_start-first.result.0 c.stretch_start-first.result.1 begins c.stretch_start-first.ensures.from c.mode_after_first-before.result.now c.mode_after_first-before.ensures read to j reads in
    omega (arith, c.in_ok-read.ensures.placed, c.place_again.ensures.placed_most)

pub returns-clause-in_order : goal.returns-clause-in_order
returns-clause-in_order g c =
    let text = c.args.text.now in
    let whole = c.whole_of-whole.ensures in
    let begins : IsLastBefore c.self.inside.records c.self.inside.context.service.body c.args.at c.stretch_start-first.result.0 = record {
      within = c.stretch_start-first.ensures.within;
      early = c.stretch_start-first.ensures.early;
      not_past = λ late. subst (λ (n : ℕ). n ≤ c.args.at) c.stretch_start-first.ensures.from (c.stretch_start-first.ensures.not_past late);
      last = c.stretch_start-first.ensures.last;
    } in
    let span : Span = record { at = c.args.at; cut = c.args.cut; put = length c.args.put.now } in
    let read = c.in_ok-read.field-0.records.items in
    let to = c.in_ok-read.field-0.to in
    let before = c.mode_after_first-before.result.now in
    let of_view : IsStretchRead c.self.inside.directory.now c.self.inside.context.service c.self.inside.context c.self.inside.records c.whole_of-whole.result span before c.stretch_start-first.result.1 read to c.in_ok-read.field-0.next = record {
      number = c.in_ok-read.ensures.number;
      records = c.in_ok-read.ensures.records;
      kept = c.in_ok-read.ensures.kept;
      some = c.in_ok-read.ensures.some;
      all = c.in_ok-read.ensures.all;
      apart = c.in_ok-read.ensures.apart;
    } in
    let of_text = subst (λ (t : List ℕ). IsStretchRead c.self.inside.directory.now c.self.inside.context.service c.self.inside.context c.self.inside.records t span before c.stretch_start-first.result.1 read to c.in_ok-read.field-0.next) whole of_view in
    let j = c.in-Some.next in
    let next_is : c.in_ok-read.field-0.next ≡ Some j = let was = c.in_ok-read.next-is in let found = c.in-Some.is in cc in
    let reads = subst (λ (next : Option ℕ). IsStretchRead c.self.inside.directory.now c.self.inside.context.service c.self.inside.context c.self.inside.records text span before c.stretch_start-first.result.1 read to next) next_is of_text in
    let after = next_after c.self.inside c.self.invariant c.args.self.now c.self.view_is c.args.at c.args.cut c.args.put.now text c.requires.text c.requires.inside c.requires.context c.requires.short c.stretch_start-first.result.0 c.stretch_start-first.result.1 begins c.stretch_start-first.ensures.from c.mode_after_first-before.result.now c.mode_after_first-before.ensures read to j reads in
    omega (arith, c.in_ok-again.ensures.next)

pub returns-clause-records : goal.returns-clause-records
returns-clause-records g c =
    let text = c.args.text.now in
    let whole = c.whole_of-whole.ensures in
    let begins : IsLastBefore c.self.inside.records c.self.inside.context.service.body c.args.at c.stretch_start-first.result.0 = record {
      within = c.stretch_start-first.ensures.within;
      early = c.stretch_start-first.ensures.early;
      not_past = λ late. subst (λ (n : ℕ). n ≤ c.args.at) c.stretch_start-first.ensures.from (c.stretch_start-first.ensures.not_past late);
      last = c.stretch_start-first.ensures.last;
    } in
    let span : Span = record { at = c.args.at; cut = c.args.cut; put = length c.args.put.now } in
    let read = c.in_ok-read.field-0.records.items in
    let to = c.in_ok-read.field-0.to in
    let before = c.mode_after_first-before.result.now in
    let of_view : IsStretchRead c.self.inside.directory.now c.self.inside.context.service c.self.inside.context c.self.inside.records c.whole_of-whole.result span before c.stretch_start-first.result.1 read to c.in_ok-read.field-0.next = record {
      number = c.in_ok-read.ensures.number;
      records = c.in_ok-read.ensures.records;
      kept = c.in_ok-read.ensures.kept;
      some = c.in_ok-read.ensures.some;
      all = c.in_ok-read.ensures.all;
      apart = c.in_ok-read.ensures.apart;
    } in
    let of_text = subst (λ (t : List ℕ). IsStretchRead c.self.inside.directory.now c.self.inside.context.service c.self.inside.context c.self.inside.records t span before c.stretch_start-first.result.1 read to c.in_ok-read.field-0.next) whole of_view in
    let j = c.in-Some.next in
    let next_is : c.in_ok-read.field-0.next ≡ Some j = let was = c.in_ok-read.next-is in let found = c.in-Some.is in cc in
    let reads = subst (λ (next : Option ℕ). IsStretchRead c.self.inside.directory.now c.self.inside.context.service c.self.inside.context c.self.inside.records text span before c.stretch_start-first.result.1 read to next) next_is of_text in
    let last_is : c.mode_after-last.result.now ≡ last_mode before read =
    last_mode_same before c.mode_after-last.result.now c.deref.result.now read c.mode_after-last.ensures (c.deref.ensures.value ∙ (let same = c.in_ok-read.read-is in cc)) in
    let again = c.in_ok-again.field-0.records.items in
    let placed_after : IsPlacedAgain c.self.inside.directory.now c.self.inside.records c.mode_after-last.result.now j again = record {
      within = subst (λ (n : ℕ). n ≤ length c.self.inside.records) c.in_ok-again.ensures.next c.in_ok-again.ensures.within;
      again = c.in_ok-again.ensures.again;
      stays = subst (λ (n : ℕ). StaysAfter (last_mode c.mode_after-last.result.now again) c.self.inside.records n) c.in_ok-again.ensures.next c.in_ok-again.ensures.stays;
      inner = c.in_ok-again.ensures.inner;
      others = c.in_ok-again.ensures.others;
    } in
    let placed = subst (λ (mode : Mode). IsPlacedAgain c.self.inside.directory.now c.self.inside.records mode j again) last_is placed_after in
    next_records c.self.inside c.self.invariant c.args.self.now c.self.view_is c.args.at c.args.cut c.args.put.now text c.requires.text c.requires.inside c.requires.context c.requires.short c.stretch_start-first.result.0 c.stretch_start-first.result.1 begins c.stretch_start-first.ensures.from c.mode_after_first-before.result.now c.mode_after_first-before.ensures read to j reads again placed c.in_ok-again.field-0.next c.in_ok-again.ensures.next

pub returns-clause-lexed : goal.returns-clause-lexed
returns-clause-lexed g c =
    let text = c.args.text.now in
    let whole = c.whole_of-whole.ensures in
    let begins : IsLastBefore c.self.inside.records c.self.inside.context.service.body c.args.at c.stretch_start-first.result.0 = record {
      within = c.stretch_start-first.ensures.within;
      early = c.stretch_start-first.ensures.early;
      not_past = λ late. subst (λ (n : ℕ). n ≤ c.args.at) c.stretch_start-first.ensures.from (c.stretch_start-first.ensures.not_past late);
      last = c.stretch_start-first.ensures.last;
    } in
    let few : rest_count c.self.inside.context.service c.whole_of-whole.result c.stretch_start-first.result.1 ≤ segment_count_of text =
    subst (λ (t : List ℕ). rest_count c.self.inside.context.service t c.stretch_start-first.result.1 ≤ segment_count_of text) (sym whole)
    (few_left c.self.inside c.self.invariant c.args.self.now c.self.view_is c.args.at c.args.cut c.args.put.now text c.requires.text c.requires.inside c.requires.context c.requires.short c.stretch_start-first.result.0 c.stretch_start-first.result.1 begins c.stretch_start-first.ensures.from) in
    omega (arith, c.in_ok-read.ensures.lexed_most)

pub returns-clause-placed : goal.returns-clause-placed
returns-clause-placed g c =
    let text = c.args.text.now in
    let whole = c.whole_of-whole.ensures in
    let begins : IsLastBefore c.self.inside.records c.self.inside.context.service.body c.args.at c.stretch_start-first.result.0 = record {
      within = c.stretch_start-first.ensures.within;
      early = c.stretch_start-first.ensures.early;
      not_past = λ late. subst (λ (n : ℕ). n ≤ c.args.at) c.stretch_start-first.ensures.from (c.stretch_start-first.ensures.not_past late);
      last = c.stretch_start-first.ensures.last;
    } in
    let span : Span = record { at = c.args.at; cut = c.args.cut; put = length c.args.put.now } in
    let read = c.in_ok-read.field-0.records.items in
    let to = c.in_ok-read.field-0.to in
    let before = c.mode_after_first-before.result.now in
    let of_view : IsStretchRead c.self.inside.directory.now c.self.inside.context.service c.self.inside.context c.self.inside.records c.whole_of-whole.result span before c.stretch_start-first.result.1 read to c.in_ok-read.field-0.next = record {
      number = c.in_ok-read.ensures.number;
      records = c.in_ok-read.ensures.records;
      kept = c.in_ok-read.ensures.kept;
      some = c.in_ok-read.ensures.some;
      all = c.in_ok-read.ensures.all;
      apart = c.in_ok-read.ensures.apart;
    } in
    let of_text = subst (λ (t : List ℕ). IsStretchRead c.self.inside.directory.now c.self.inside.context.service c.self.inside.context c.self.inside.records t span before c.stretch_start-first.result.1 read to c.in_ok-read.field-0.next) whole of_view in
    let j = c.in-Some.next in
    let next_is : c.in_ok-read.field-0.next ≡ Some j = let was = c.in_ok-read.next-is in let found = c.in-Some.is in cc in
    let reads = subst (λ (next : Option ℕ). IsStretchRead c.self.inside.directory.now c.self.inside.context.service c.self.inside.context c.self.inside.records text span before c.stretch_start-first.result.1 read to next) next_is of_text in
    let count = next_count c.self.inside c.self.invariant c.args.self.now c.self.view_is c.args.at c.args.cut c.args.put.now text c.requires.text c.requires.inside c.requires.context c.requires.short c.stretch_start-first.result.0 c.stretch_start-first.result.1 begins c.stretch_start-first.ensures.from c.mode_after_first-before.result.now c.mode_after_first-before.ensures read to j reads in
    omega (arith, c.in_ok-read.ensures.placed, c.in_ok-again.ensures.placed_most)

pub returns-clause-reach : goal.returns-clause-reach
returns-clause-reach g c =
    let text = c.args.text.now in
    let whole = c.whole_of-whole.ensures in
    let begins : IsLastBefore c.self.inside.records c.self.inside.context.service.body c.args.at c.stretch_start-first.result.0 = record {
      within = c.stretch_start-first.ensures.within;
      early = c.stretch_start-first.ensures.early;
      not_past = λ late. subst (λ (n : ℕ). n ≤ c.args.at) c.stretch_start-first.ensures.from (c.stretch_start-first.ensures.not_past late);
      last = c.stretch_start-first.ensures.last;
    } in
    let span : Span = record { at = c.args.at; cut = c.args.cut; put = length c.args.put.now } in
    let read = c.in_ok-read.field-0.records.items in
    let to = c.in_ok-read.field-0.to in
    let before = c.mode_after_first-before.result.now in
    let of_view : IsStretchRead c.self.inside.directory.now c.self.inside.context.service c.self.inside.context c.self.inside.records c.whole_of-whole.result span before c.stretch_start-first.result.1 read to c.in_ok-read.field-0.next = record {
      number = c.in_ok-read.ensures.number;
      records = c.in_ok-read.ensures.records;
      kept = c.in_ok-read.ensures.kept;
      some = c.in_ok-read.ensures.some;
      all = c.in_ok-read.ensures.all;
      apart = c.in_ok-read.ensures.apart;
    } in
    let of_text = subst (λ (t : List ℕ). IsStretchRead c.self.inside.directory.now c.self.inside.context.service c.self.inside.context c.self.inside.records t span before c.stretch_start-first.result.1 read to c.in_ok-read.field-0.next) whole of_view in
    let j = c.in-Some.next in
    let next_is : c.in_ok-read.field-0.next ≡ Some j = let was = c.in_ok-read.next-is in let found = c.in-Some.is in cc in
    let reads = subst (λ (next : Option ℕ). IsStretchRead c.self.inside.directory.now c.self.inside.context.service c.self.inside.context c.self.inside.records text span before c.stretch_start-first.result.1 read to next) next_is of_text in
    let reach = next_reach c.self.inside c.self.invariant c.args.self.now c.self.view_is c.args.at c.args.cut c.args.put.now text c.requires.text c.requires.inside c.requires.context c.requires.short c.stretch_start-first.result.0 c.stretch_start-first.result.1 begins c.stretch_start-first.ensures.from c.mode_after_first-before.result.now c.mode_after_first-before.ensures read to j reads in
    let one : one_where_some c.in_ok-read.field-0.next ≡ 1 = ap one_where_some next_is in
    omega (arith, c.in_ok-read.ensures.lexed)

pub returns-clause-rerun : goal.returns-clause-rerun
returns-clause-rerun g c =
    let text = c.args.text.now in
    let whole = c.whole_of-whole.ensures in
    let begins : IsLastBefore c.self.inside.records c.self.inside.context.service.body c.args.at c.stretch_start-first.result.0 = record {
      within = c.stretch_start-first.ensures.within;
      early = c.stretch_start-first.ensures.early;
      not_past = λ late. subst (λ (n : ℕ). n ≤ c.args.at) c.stretch_start-first.ensures.from (c.stretch_start-first.ensures.not_past late);
      last = c.stretch_start-first.ensures.last;
    } in
    let span : Span = record { at = c.args.at; cut = c.args.cut; put = length c.args.put.now } in
    let read = c.in_ok-read.field-0.records.items in
    let to = c.in_ok-read.field-0.to in
    let before = c.mode_after_first-before.result.now in
    let of_view : IsStretchRead c.self.inside.directory.now c.self.inside.context.service c.self.inside.context c.self.inside.records c.whole_of-whole.result span before c.stretch_start-first.result.1 read to c.in_ok-read.field-0.next = record {
      number = c.in_ok-read.ensures.number;
      records = c.in_ok-read.ensures.records;
      kept = c.in_ok-read.ensures.kept;
      some = c.in_ok-read.ensures.some;
      all = c.in_ok-read.ensures.all;
      apart = c.in_ok-read.ensures.apart;
    } in
    let of_text = subst (λ (t : List ℕ). IsStretchRead c.self.inside.directory.now c.self.inside.context.service c.self.inside.context c.self.inside.records t span before c.stretch_start-first.result.1 read to c.in_ok-read.field-0.next) whole of_view in
    let j = c.in-Some.next in
    let next_is : c.in_ok-read.field-0.next ≡ Some j = let was = c.in_ok-read.next-is in let found = c.in-Some.is in cc in
    let reads = subst (λ (next : Option ℕ). IsStretchRead c.self.inside.directory.now c.self.inside.context.service c.self.inside.context c.self.inside.records text span before c.stretch_start-first.result.1 read to next) next_is of_text in
    let last_is : c.mode_after-last.result.now ≡ last_mode before read =
    last_mode_same before c.mode_after-last.result.now c.deref.result.now read c.mode_after-last.ensures (c.deref.ensures.value ∙ (let same = c.in_ok-read.read-is in cc)) in
    let again = c.in_ok-again.field-0.records.items in
    let placed_after : IsPlacedAgain c.self.inside.directory.now c.self.inside.records c.mode_after-last.result.now j again = record {
      within = subst (λ (n : ℕ). n ≤ length c.self.inside.records) c.in_ok-again.ensures.next c.in_ok-again.ensures.within;
      again = c.in_ok-again.ensures.again;
      stays = subst (λ (n : ℕ). StaysAfter (last_mode c.mode_after-last.result.now again) c.self.inside.records n) c.in_ok-again.ensures.next c.in_ok-again.ensures.stays;
      inner = c.in_ok-again.ensures.inner;
      others = c.in_ok-again.ensures.others;
    } in
    let placed = subst (λ (mode : Mode). IsPlacedAgain c.self.inside.directory.now c.self.inside.records mode j again) last_is placed_after in
    let rerun = next_rerun c.self.inside c.self.invariant c.args.self.now c.self.view_is c.args.at c.args.cut c.args.put.now text c.requires.text c.requires.inside c.requires.context c.requires.short c.stretch_start-first.result.0 c.stretch_start-first.result.1 begins c.stretch_start-first.ensures.from c.mode_after_first-before.result.now c.mode_after_first-before.ensures read to j reads again placed in
    omega (arith, c.in_ok-read.ensures.placed, c.in_ok-again.ensures.placed)
