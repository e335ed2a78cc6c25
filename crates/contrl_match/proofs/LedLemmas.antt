-- What a reply is answered, where it is the acknowledgement of the text.
use Rattle.std.proofs.Common.{◌≡◌, ◌⊎◌, Result, Ok, Err, List, subst, inl, inr}
use Rattle.std.specs.Prelude.{IfErr, IfOk}
use Rattle.std.proofs.lemmas.Result.{IfOk-weaker, MatchResult-weaker}
use Rattle.dir_compile.specs.Directory.{Directory, IsDirectory}
use Rattle.edi_tables.specs.Octets.{Octets}
use Rattle.contrl_match.specs.LedBack.{IsLedBack}
use Rattle.contrl_match.specs.Match.{match_of}
use Rattle.contrl_match.specs.declared.finding.Finding.{Finding}
use Rattle.contrl_match.specs.declared.stop.MatchStop.{MatchStop}
use Rattle.contrl_match.specs.declared.stop.MatchStop.TheVariants.{Memory}
use Rattle.contrl_match.proofs.Leading.{led_back}

module _ (dir : Directory) (lawful : IsDirectory dir) (text octets : Octets) where
  -- any answer that is the definition's is led back
  led-by : (answer : Result (List Finding) MatchStop) → match_of dir text octets ≡ answer → IsLedBack dir text octets answer
  led-by answer is = subst (IsLedBack dir text octets) is (led_back dir lawful text octets)

  pub found-led : {X : Type 0} (items : X → List Finding) (r : Result X MatchStop)
      → IfOk r (λ x. match_of dir text octets ≡ Ok (items x)) → IfOk r (λ x. IsLedBack dir text octets (Ok (items x)))
  found-led items r found =
      IfOk-weaker r (λ x. match_of dir text octets ≡ Ok (items x)) (λ x. IsLedBack dir text octets (Ok (items x)))
      (λ x is. led-by (Ok (items x)) is) found

  pub stop-led : {X : Type 0} (r : Result X MatchStop)
      → IfErr r (λ e. (e ≡ Memory) ⊎ (match_of dir text octets ≡ Err e))
      → IfErr r (λ e. (e ≡ Memory) ⊎ IsLedBack dir text octets (Err e))
  stop-led r stop =
      MatchResult-weaker r stop (λ x is. is)
      (λ e cases. elim cases [ inl memory ↦ inl memory | inr is ↦ inr (led-by (Err e) is) ])
