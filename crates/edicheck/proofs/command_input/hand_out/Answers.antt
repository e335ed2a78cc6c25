use Rattle.std.proofs.Common.{◌≡◌, ◌-◌, ◌≤◌, ℕ, List, take, length, sym, ap, ◌∙◌, arith, rules}
use Rattle.std.proofs.lemmas.List.{length-take-le}
use Rattle.edicheck.specs.declared.place.Place.TheVariants.{Put}
use Rattle.edicheck.specs.Kept.{kept_octets}
use Rattle.edicheck.specs.Place.{due_at, place_after_put, next_place}
use Rattle.edicheck.proofs.PlaceLemmas.{after_one, after_puts}
use Rattle.edicheck.proofs.KeptLemmas.{length-kept}
use Rattle.edicheck.proofs.command_input.hand_out.Goals as goal
use Rattle.edicheck.proofs.command_input.hand_out.Goals.{in-Put, in_default}

pub returns-clause-place : goal.returns-clause-place
returns-clause-place c =
    let kept = c.args.kept.now in
    let all : length (kept_octets kept) ≡ kept.to - kept.from = length-kept kept c.requires.kept (search rules) in
    elim c.match-place.branch [
      | in-Put w ↦
          let n = w.min-n.result in
          let xs : List ℕ = take n (kept_octets kept) in
          let long : length xs ≡ n = length-take-le n (kept_octets kept) (omega arith) in
          let small : length xs ≤ due_at c.args.place = omega arith in
          let few : length xs ≤ due_at (Put w.in-Put.field-0) = rw w.in-Put.is at small in
          rw w.n-is (w.after_put.ensures.next ∙ rw w.in-Put.is (ap (place_after_put (Put w.in-Put.field-0)) (sym long) ∙ sym (after_puts w.in-Put.field-0 xs (omega arith) few)))
      | in_default w ↦
          rw w.n-is (w.after.ensures.next ∙ ap (next_place c.args.place) w.first.ensures ∙ sym (after_one c.args.place (kept_octets kept) (omega arith)))
    ]
