use Rattle.std.proofs.Common.{◌≡◌, ◌+◌, length, sym, ap, ◌∙◌, arith}
use Rattle.std.specs.List.{between}
use Rattle.seg_lexer.specs.Released.{value_of}
use Rattle.seg_lexer.specs.Value.{octets_of}
use Rattle.seg_lexer.proofs.ForwardLemmas.{value_of-all}
use Rattle.seg_lexer.proofs.value.Value.slice.Goals as goal

pub returns : goal.returns
unfolding octets_of
returns g c =
    let v = c.args.self.now in
    let part = c.lend-part.result.now in
    let inside = c.lend-part.ensures.inside in
    let all : v.from + length part ≡ v.to = omega arith in
    sym (value_of-all v.release part (sym c.has_release.ensures ∙ c.if-has_release.false))
    ∙ ap (value_of v.release) (c.lend-part.ensures.part ∙ ap (λ n. between v.from n (g.O.Octets.octets v.text.now)) all)
