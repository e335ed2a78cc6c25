use Rattle.std.proofs.Common.{◌≡◌, ◌-◌, ◌≤◌, length, ℕ, List, ap, ◌∙◌, arith}
use Rattle.std.proofs.lemmas.List.Edits.{length-between}
use Rattle.seg_lexer.specs.Released.{value_of}
use Rattle.seg_lexer.proofs.ForwardLemmas.{length-value_of}
use Rattle.seg_lexer.proofs.value.Value.octets.Goals as goal

pub returns-clause-few : goal.returns-clause-few
returns-clause-few g c =
    let part : List ℕ = c.new.result in
    let few : length (value_of c.args.self.now.release part) ≤ length part = length-value_of c.args.self.now.release part in
    let all : length part ≡ c.args.self.now.to - c.args.self.now.from =
    ap length c.new.ensures ∙ length-between (g.O.Octets.octets c.args.self.now.text.now) c.args.self.now.from c.args.self.now.to c.args.self.now.within in
    let fits = c.args.self.now.fits in
    omega (arith, few)
