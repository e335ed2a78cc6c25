-- The machine value of a struct whose one field is a pointer, and the two cases of what it owns. Assumes `Logic`.
--     word p               the machine value at the pointer p
--     word_out, word_in    what the field owns is one fact on the machine value
--     either_held          what is held is nothing, at null, or a box, whose pointer may be compared with null
use Rattle.std.proofs.Common.{◌≡◌, ℕ, List, [], ◌∷◌, ◌++◌, refl, subst, lit<}
use lib.Dec.{T}
use seplogic.Ra.Ura.{Ura}
use mir.Syntax.{ty_ptr, ty_struct, tcons, tnil}
use mir.Raw.{raw as bare}
use mir.Val.{Val, vstruct, vcons, vnil, of_list, has_ty, WT}
use base.Logic.{id⊢, via, never, never_e, guard_i}
use base.Fml.{ftrue, ffalse}
use types.Logic.{Logic, sem}
use types.Kit.{Item, Goal, Seq, Step, step, ‵, given, ◌$◌, move, drop, use1, learn, fsplit, fjoin, fpick, fpack, feq_i, feq_l}
use contract.Monad.{fact_use}
use denote.RattleType.{RattleType, Valss}
use denote.Builtin.{RawPtr}
use denote.Memory.{lone}
use denote.RawPtr.{Ptr, block_ptr, null_ptr, ptr_val, Testable}
use denote.Steps.{nothing}
use denote.Struct.Struct.{Struct, Shape, within}
use Rattle.std.specs.declared.option.Option.{Option}
use Rattle.std.specs.declared.option.Option.TheVariants.{None, Some}
use Rattle.std.specs.Box.Ownership.{box_owns}
use Rattle.std.proofs.GlobalToken.{dealloc_token-Testable}
use Rattle.edicheck_c.specs.Held.{held, may_free, the_heap}

abbrev pub word : Ptr → Val
word p = vstruct (vcons (ptr_val p) vnil)

pub pointer_good : (p : Ptr) → T (has_ty ty_ptr (ptr_val p)) × WT (ptr_val p)
pointer_good (block_ptr b o) = (tt, tt)
pointer_good null_ptr = (tt, record { fits = lit< tt })

pub word_good : (p : Ptr) → T (has_ty (ty_struct [] (tcons ty_ptr tnil)) (word p)) × WT (word p)
word_good (block_ptr b o) = (tt, (tt, tt))
word_good null_ptr = (tt, (record { fits = lit< tt }, tt))

abbrev form : Shape
form = record { name = []; args = []; types = []; fields = RawPtr ∷ [] }

abbrev pub Field : RattleType
Field = Struct form

module _ {M : Type 1} {𝓤 : Ura M} {𝓛 : Logic 𝓤} {K : Type 0} {Γ : List (Item 𝓤)} {G : Goal 𝓤 𝓛.H} where
  pub word_out : K → (p : Ptr) (vs : List Val) → (vs ≡ word p ∷ [] → Seq K 𝓛 Γ G) → Seq K 𝓛 (‵ (Field.own_val (p, tt) vs) ∷ Γ) G
  word_out t p vs k =
      fpick t (λ vss. fsplit t $ feq_l t (λ ev. fsplit t $ feq_l t (λ ep. drop t $
      k (subst (λ (ps : List Val). vs ≡ vstruct (of_list (ps ++ [])) ∷ []) ep ev))))

  pub word_in : K → (p : Ptr) → Step K 𝓛 (‵ (Field.own_val (p, tt) (word p ∷ [])) ∷ Γ) G Γ G
  word_in t p = step (λ s.
      nothing t $ feq_i t (List Val) (ptr_val p ∷ []) (ptr_val p ∷ []) refl $ fjoin t $ feq_i t (List Val) (word p ∷ []) (word p ∷ []) refl $ fjoin t $
      fpack t (Valss (RawPtr ∷ [])) (within form (p, tt) (word p ∷ [])) (ptr_val p ∷ [], tt) $ s)

  pub never_held : K → Seq K 𝓛 (‵ ffalse ∷ Γ) G
  never_held t = use1 𝓛 (given ⊥ (‵ ftrue)) (via 𝓤 (never 𝓤) (id⊢ 𝓤 _) (never_e 𝓤 _)) $ learn t (λ z. absurd z)

module _ (R : RattleType) {M : Type 1} {𝓤 : Ura M} {𝓛 : Logic 𝓤} {K : Type 0} {Γ : List (Item 𝓤)} {G : Goal 𝓤 𝓛.H} where
  pub either_held : K → (p : Ptr) (k : Option R.Denot) → (p ≡ null_ptr → k ≡ None → Seq K 𝓛 Γ G)
      → ((b o : ℕ) (x : R.Denot) → p ≡ block_ptr b o → k ≡ Some x → Testable (block_ptr b o) → Seq K 𝓛 (‵ (box_owns may_free R (block_ptr b o) x) ∷ Γ) G)
      → Seq K 𝓛 (‵ (held R p k) ∷ Γ) G
  either_held t null_ptr None none one = drop t $ none refl refl
  either_held t null_ptr (Some x) none one = never_held t
  either_held t (block_ptr b o) None none one = never_held t
  either_held t (block_ptr b o) (Some x) none one =
      let τ = bare (lone R.mir) in let p = block_ptr b o in
      fsplit t $ move t (1 ∷ []) $
      use1 𝓛 (given (Testable p) (‵ (may_free τ p)))
      (fact_use 𝓤 (Testable p) (dealloc_token-Testable 𝓛 the_heap τ p) (λ u. guard_i 𝓤 (Testable p) (sem 𝓛 (may_free τ p)) u)) $ learn t (λ u.
      move t (1 ∷ 0 ∷ []) $ fjoin t $ one b o x refl refl u)
