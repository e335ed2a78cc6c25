use Rattle.std.proofs.Common.{◌≡◌, ℕ, List, map, length, ◌+◌, Option, None, refl, sym, ap, ◌∙◌, zero, suc, arith}
use Rattle.std.specs.List.{flat_map, list_all, enumerate_from, range_with_len}
use Rattle.std.proofs.lemmas.Bool.{false≢true}
use Rattle.std.proofs.lemmas.List.{length-map}
use Rattle.std.proofs.lemmas.List.FromFn.{length-range_with_len}
use Rattle.std.proofs.lemmas.List.Elements.{All-same}
use Rattle.edi_tables.specs.Collisions.{collisions_of}
use Rattle.collision_check.specs.declared.marks.Mark.{Mark}
use Rattle.collision_check.specs.Listed.{IsAmbiguous, collision_seen, collisions_at}
use Rattle.collision_check.specs.Marks.{is_own, numbers_of, met_in, mark_at}
use Rattle.collision_check.proofs.AllDiffer.{no_collisions}
use Rattle.collision_check.proofs.Made.{made_step}
use Rattle.collision_check.proofs.Ambiguous.{All-unmap, collisions_ambiguous}
use Rattle.collision_check.proofs.Single.{at_most_one}
use Rattle.collision_check.proofs.list.list_collisions.Goals as goal

-- a mark that says nothing
no_mark : (count from n : ℕ) → mark_at (map (λ _. None) (range_with_len from count)) n ≡ None
no_mark zero from n = refl
no_mark (suc count) from zero = refl
no_mark (suc count) from (suc n) = no_mark count (from + 1) n

pub loop-entry-init : goal.loop-entry-init
loop-entry-init c =
    let count : ℕ = c.len-count.result in
    let none : c.as_mut_slice-marks.result.now ≡ map (λ _. None) (range_with_len 0 count) = c.as_mut_slice-marks.ensures.value ∙ c.in_ok-marks.ensures in
    record {
      made = ap (map collision_seen) c.new-collisions.ensures.items;
      fresh = λ entry n from. ap (λ (marks : List (Option Mark)). met_in entry (mark_at marks n)) none ∙ ap (met_in entry) (no_mark count 0 n);
      long = ap length none ∙ length-map (range_with_len 0 count) (λ _. None) ∙ length-range_with_len 0 count ∙ c.len-count.ensures.value;
      clear = λ is. absurd (false≢true is);
    }

pub loop-entry-preserved : goal.loop-entry-preserved
loop-entry-preserved c = record {
  made = c.in_ok-is_clear.ensures.listed ∙ made_step c.args.table.now c.loop-entry.entry (map collision_seen c.loop-entry.collisions.items) c.loop-entry.invariant.made;
  fresh = c.in_ok-is_clear.ensures.fresh;
  long = omega (arith, c.push_collisions.auto.marks, c.loop-entry.invariant.long);
  clear = c.in_ok-is_clear.ensures.clear;
}

pub returns-then-has_none : goal.returns-then-has_none
returns-then-has_none c =
    let nodes = c.args.table.now in
    let listed : map collision_seen c.new-collisions.result.items ≡ collisions_of nodes =
    ap (map collision_seen) c.new-collisions.ensures.items ∙ sym (c.has_none.ensures c.if-has_none.true) in
    record {
      listed = listed;
      ambiguous = All-unmap (IsAmbiguous nodes) collision_seen c.new-collisions.result.items
          (All-same (IsAmbiguous nodes) (map collision_seen c.new-collisions.result.items) (collisions_of nodes) listed (collisions_ambiguous nodes c.nodes.ensures.lawful));
      only = at_most_one nodes c.nodes.ensures.lawful;
    }

pub returns-then-all_differ : goal.returns-then-all_differ
returns-then-all_differ c =
    let nodes = c.args.table.now in
    let numbered = c.in_ok-numbers.ensures ∙ ap numbers_of c.nodes-2.ensures.value in
    let all = ap (λ (numbers : List (Option ℕ)). list_all (λ p. is_own p.0 p.1) (enumerate_from 0 numbers)) (sym c.deref.ensures.value) ∙ sym c.all_differ.ensures ∙ c.if-all_differ.true in
    let listed : map collision_seen c.new-collisions.result.items ≡ collisions_of nodes =
    ap (map collision_seen) c.new-collisions.ensures.items ∙ sym (no_collisions nodes c.nodes.ensures.lawful c.in_ok-numbers.numbers.items numbered all) in
    record {
      listed = listed;
      ambiguous = All-unmap (IsAmbiguous nodes) collision_seen c.new-collisions.result.items
          (All-same (IsAmbiguous nodes) (map collision_seen c.new-collisions.result.items) (collisions_of nodes) listed (collisions_ambiguous nodes c.nodes.ensures.lawful));
      only = at_most_one nodes c.nodes.ensures.lawful;
    }

pub returns : goal.returns
unfolding collisions_of
returns c =
    let all : c.loop-entry.entry ≡ length c.args.table.now = omega (arith, c.loop-entry-test.false, c.loop-entry.auto.entry-end, c.len-count.ensures.value) in
    let listed : map collision_seen c.loop-entry.collisions.items ≡ collisions_of c.args.table.now =
    c.loop-entry.invariant.made ∙ ap (λ (n : ℕ). flat_map (collisions_at c.args.table.now) (range_with_len 0 n)) all in
    record {
      listed = listed;
      ambiguous = All-unmap (IsAmbiguous c.args.table.now) collision_seen c.loop-entry.collisions.items
          (All-same (IsAmbiguous c.args.table.now) (map collision_seen c.loop-entry.collisions.items) (collisions_of c.args.table.now) listed (collisions_ambiguous c.args.table.now c.nodes.ensures.lawful));
      only = at_most_one c.args.table.now c.nodes.ensures.lawful;
    }
