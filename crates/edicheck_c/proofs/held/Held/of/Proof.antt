-- `of` takes the box apart, and keeps its pointer.
use Rattle.std.proofs.Common.{◌≡◌, List, [], ◌∷◌, ◌++◌, refl, sym, ap, ◌∙◌, subst}
use mir.Syntax.{Dict, a_type, impl, tnil, tcons, dnil, dcons}
use mir.Raw.{raw as bare}
use mir.Val.{Val}
use mir.MapTy.{inst_fn}
use base.Fraction.{left, right}
use base.Logic.{SProp, ent, emp, never, id⊢, fst∗}
use base.Fml.{ftrue, flft}
use prog.Wp.{WpFn}
use types.Logic.{sem}
use types.Kit.{‵, raw, ◌⊛◌, some, later, ◌$◌, ◌∵◌, !, qed, by, move, keep, drop, split, split3, join, fsplit, fjoin, pick, suffices, use0, use1, use2, await, feq_l}
use types.Run.{of_opd, no_more, and_then, returns, enter}
use types.ByLocal.{alloc_all, pass_all, free_all, look_at, get, sets, lands_as}
use types.Part.{agg}
use contract.Monad.{fact, fact_i}
use contract.Lifetimes.{Lfts}
use contract.BorrowLft.{◌⊑◌, ⊑_static}
use contract.Running.{tables}
use denote.Exit.{no}
use denote.RattleType.{RattleType, owns}
use denote.Signature.{types_at, type_at, plain}
use denote.Builtin.{RawPtr}
use denote.RawPtr.{Ptr, block_ptr, null_ptr, ptr_val, in_a_block}
use denote.Steps.{nothing, only}
use denote.Param.{param, arg, layout, bounded}
use denote.Param.Laws as laws
use denote.Param.Laws.{Laws}
use denote.Param.NoDrop as none
use denote.Triple.Clauses.{Lasts, lasts}
use denote.Triple.Spec.{triple_of}
use denote.Triple.Call.{calls_at}
use denote.Triple.Table.{framed}
use denote.Triple.Walked.{Stays, stay_dropped, walk_of}
use Rattle.std.specs.Box.Ownership.{box_owns}
use Rattle.std.specs.declared.option.Option.TheVariants.{Some}
use Rattle.std.specs.contracts.alloc.Global as heap
use Rattle.std.proofs.alloc.Global.TheLaws as heap_laws
use Rattle.std.specs.contracts.impls.GlobalAllocator.TheImpl as heap_impl
use Rattle.std.proofs.impls.GlobalAllocator.TheImpl.Met as heap_met
use Rattle.std.proofs.alloc.Calls.{Al, Goes-blank}
use Rattle.std.proofs.BoxSteps.Form as box
use Rattle.std.proofs.BoxSteps.Steps.{box_out, box_in}
use Rattle.std.proofs.raw_atomic.Walks.{proved_at, leaves}
use Rattle.std.specs.contracts.boxed.Box as boxed
use Rattle.std.specs.contracts.boxed.Box.into_raw as callee
use Rattle.std.proofs.boxed.Box.into_raw.Met.{met}
use Rattle.edicheck_c.specs.Held.{may_free}
use Rattle.edicheck_c.proofs.Places.{word, word_good, word_in}
use Rattle.edicheck_c.specs.contracts.held.Held.of.{ended, clauses}
use Rattle.edicheck_c.specs.contracts.held.Held.of.Key.{name as #self}
use Rattle.edicheck_c.proofs.Destruct++none.drop.Code as no_drop
use Rattle.edicheck_c.proofs.held.Held.of.Statement.{statement}
use Rattle.edicheck_c.proofs.held.Held.of.Code as code

abbrev Heap : RattleType
Heap = heap.the_row

-- the same, as an argument of a call
abbrev Arg : RattleType
Arg = arg (bare (layout Heap)) no Heap

abbrev arg_laws : Laws Arg
arg_laws = laws.arg_laws (bare (layout Heap)) no Heap heap_laws.the_row_laws refl

abbrev heap_drop : Dict
heap_drop = impl ("edicheck_c::Destruct++none::drop" ∷ []) (tcons (layout Arg) tnil) dnil

pub of_spec : {M : Type 1} → statement M
unfolding no_drop.code
of_spec {M} 𝓤 𝓛 𝓜 𝓡 wired T L dx glue =
    let H = 𝓛.H in let 𝓣 = tables 𝓤 H 𝓜 𝓡 𝓡.env in let R : RattleType = param 0 T in let En = ended T dx in let c = clauses T dx 𝓛 𝓜.mem 𝓡.returns in
    let inst = bounded (a_type ∷ []) (T, tt) (dcons dx dnil) in let fn = inst_fn inst code.function in
    let heaps : Al = record { row = Arg; laws = arg_laws; g = heap_impl.ghosts; d = heap_impl.dict; drops = heap_drop } in let E : box.Bx = record { row = T; laws = L; al = heaps } in
    let Boxed : RattleType = boxed.the_row R Heap heap_impl.ghosts in let B : RattleType = box.B E in
    let hs : Stays En.signature.params En.kept = (stay_dropped (plain (λ _. Boxed)) no, tt) in
    proved_at 𝓛 En hs c 𝓜 𝓡 (Goes-blank 𝓛 1 (plain (λ _. Boxed)) no (λ κs x f. tt), tt) (#self inst) fn (code.unfolded 𝓤 H 𝓜 𝓡 wired (T, tt) dx) (λ z are.
    let κs = z.0.0 in let qs = z.0.1 in let κ = κs.0 in let q = qs.0 in let v = z.0.3.0 in let a = v.alloc in
    let Post : Val → SProp 𝓤 = (walk_of 𝓛 En hs c).post z in let Run : List Val → SProp 𝓤 = λ ws. WpFn 𝓤 H 𝓣.C 𝓣.Λ fn ws Post in
    let κs' : Lfts 2 = (κ, (κ, tt)) in let toks = ‵ (flft κ (left q)) ⊛ ‵ (flft κ (right q)) ⊛ ‵ ftrue in
    qed 𝓛 (((‵ (flft κ q) ⊛ ‵ ftrue) ⊛ ‵ (owns (types_at En.signature.params κs) z.0.3 z.0.4)) ∷ (raw (fact 𝓤 (κ ⊑ T.lives)) ⊛ ‵ ftrue) ∷ []) ∵
    split ! $ move ! (1 ∷ []) $ fsplit ! $ use1 𝓛 (‵ (B.own_val v z.0.4.0)) (id⊢ 𝓤 _) $ box_out E ! v z.0.4.0 (λ b o h e ws fits. box_in E ! v b o v.value e refl $
    -- [the box; nothing; the token; that it is within the type's life]
    let w : Val = box.word E h b o in let typed = box.box_typed E h b o fits in
    let k = triple_of 𝓛 (callee.signature T Arg heap_impl.ghosts heap_impl.dict heap_drop dx) (callee.spec T Arg heap_impl.ghosts heap_impl.dict heap_drop dx 𝓛 𝓜.mem 𝓡.returns) in
    let y : k.Ghost = ((κs', (left q, (right q, tt)), tt, (v, tt), (w ∷ [], tt)), tt) in
    fjoin ! $ move ! (2 ∷ []) $ split ! $ move ! (1 ∷ []) $ drop ! $ use0 𝓛 (raw (fact 𝓤 (κ ⊑ Arg.lives))) (fact_i 𝓤 (κ ⊑ Arg.lives) (emp 𝓤) (⊑_static κ)) $ nothing ! $ move ! (1 ∷ 0 ∷ []) $ join ! $ move ! (1 ∷ 0 ∷ []) $ join ! $
    -- [the `requires`; the box; the token]
    move ! (2 ∷ []) $ split ! $ use1 𝓛 (‵ (flft κ (left q)) ⊛ ‵ (flft κ (right q))) (𝓛.lfts.lft_split κ q) $ split ! $ move ! (1 ∷ 2 ∷ []) $ join ! $ move ! (1 ∷ 0 ∷ []) $ join ! $
    move ! (0 ∷ 2 ∷ []) $ join ! $ join ! $ use1 𝓛 (raw (k.pre y)) (id⊢ 𝓤 _) $
    suffices ! (Run (w ∷ [])) (subst (λ (us : List Val). ent 𝓤 (Run (w ∷ [])) (Run us)) (sym (λ i. ws i ++ [])) (id⊢ 𝓤 (Run (w ∷ [])))) $
    enter ! 𝓣.C 𝓣.Λ fn (w ∷ []) Post $ alloc_all ! (λ l. pass_all ! refl (typed, tt) $ sets ! (of_opd ! (get ! refl)) refl typed $
    calls_at ! (framed 𝓤 H 𝓜 𝓣) k (met 𝓤 𝓛 𝓜 𝓡 (code.calls-std_alloc::boxed::Box::into_raw 𝓡.env wired) T Arg L arg_laws heap_impl.ghosts heap_impl.dict heap_drop dx
    (heap_met.passed 𝓡.env (code.calls-std_heap::GlobalAllocator::allocate 𝓡.env wired) (code.calls-std_heap::GlobalAllocator::deallocate 𝓡.env wired) (code.calls-std_heap::GlobalAllocator::grow 𝓡.env wired) (code.calls-std_heap::GlobalAllocator::shrink 𝓡.env wired) M 𝓤 𝓛 𝓜 𝓡)
    (none.glues "edicheck_c::Destruct++none::drop" 𝓡.env (code.calls-edicheck_c::Destruct++none::drop 𝓡.env wired) Arg arg_laws M 𝓤 𝓛 𝓜 𝓡) glue) y (and_then ! (get ! refl) (no_more !)) (λ u.
    use1 𝓛 (later (some (λ (r : Ptr). (toks ⊛ ‵ (RawPtr.own_val r (u ∷ []))) ⊛ some (λ (ls : Lasts (callee.ended T Arg heap_impl.ghosts heap_impl.dict heap_drop dx) κs' y.0.3).
    ‵ (lasts (callee.ended T Arg heap_impl.ghosts heap_impl.dict heap_drop dx) κs' y.0.3 ls) ⊛ ‵ (box_owns may_free R r v.value))))) (id⊢ 𝓤 (k.post y u)) $
    await ! tt $ pick ! (λ r. split ! $ move ! (1 ∷ []) $ pick ! (λ _. split ! $ drop ! $
    in_a_block ! r (λ p. box_owns may_free R p v.value) (fst∗ 𝓤 (never 𝓤) (sem 𝓛 (may_free (bare (layout T)) null_ptr))) (λ b' o' e'.
    move ! (1 ∷ []) $ split ! $ split3 ! $ use2 𝓛 (‵ (flft κ q)) (𝓛.lfts.lft_join κ q) $ join ! $ move ! (1 ∷ []) $ feq_l ! (λ eu.
    -- [the token; what is held]
    lands_as ! (ap only (eu ∙ ap (λ (p : Ptr). ptr_val p ∷ []) e')) refl (tt, tt) $ sets ! (agg ! (and_then ! (get ! refl) (no_more !))) refl (word_good (block_ptr b' o')) $
    move ! (1 ∷ []) $ word_in ! (block_ptr b' o') $ fjoin ! $
    let made : (type_at En.signature.result κs).Denot = record { at = block_ptr b' o'; kept = Some v.value } in
    use0 𝓛 (raw (fact 𝓤 (made.kept ≡ Some v.value))) (fact_i 𝓤 (made.kept ≡ Some v.value) (emp 𝓤) refl) $ nothing ! $ nothing ! $ fjoin ! $
    returns ! (look_at ! 0 refl) $ free_all ! refl $ keep ! (3 ∷ 0 ∷ 2 ∷ 1 ∷ []) $ by ! (leaves 𝓛 En hs c z (word (block_ptr b' o')) made (tt, tt) (tt, tt))))))))))
