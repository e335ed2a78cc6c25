-- `into_box` tests the pointer, and makes the box again.
use Rattle.std.proofs.Common.{◌≡◌, List, [], ◌∷◌, ◌++◌, refl, sym, ap, ◌∙◌, subst, lit<}
use mir.Syntax.{Body, Dict, a_type, impl, tnil, tcons, dnil, seq, assign, place, rv_opd, copy, aggregate, int, w8}
use lib.Dec.{T as Yes}
use mir.Raw.{raw as bare}
use mir.Val.{Val, vptr, vcons, vnil, has_ty, WT}
use mir.MapTy.{inst_fn}
use base.Fraction.{left, right}
use base.Logic.{SProp, ent, emp, id⊢}
use base.Fml.{ftrue, flft}
use prog.Wp.{WpFn, Wp, after_seq, at_return}
use types.Kit.{‵, raw, ◌⊛◌, some, later, at_ret, any_q, ◌$◌, ◌∵◌, !, qed, by, move, keep, drop, split, split3, join, fsplit, fsplit3, fjoin, pick, suffices, use0, use1, use2, await, rewrite, feq_i}
use types.Run.{stop, fld, lit, of_opd, bin, no_more, and_then, first, blocks, branches, exec, returns, enter}
use types.ByLocal.{alloc_all, pass_all, free_all, look_at, get, get_in, sets, sets_last, lands_last, env}
use types.Part.{agg, sub, whole}
use types.Match.{live}
use contract.Monad.{fact, fact_i}
use contract.Lifetimes.{Lfts}
use contract.BorrowLft.{◌⊑◌, ⊑_static}
use contract.Running.{tables}
use denote.Exit.{yes, no}
use denote.RattleType.{RattleType, owns}
use denote.Signature.{types_at, type_at, plain}
use denote.RawPtr.{Ptr, block_ptr, null_ptr, tests_null}
use denote.Steps.{nothing, only, heard}
use denote.Param.{param, arg, layout, layouts}
use denote.Param.Laws as laws
use denote.Param.Laws.{Laws}
use denote.Param.NoDrop as none
use denote.Triple.Clauses.{Lasts, lasts}
use denote.Triple.Spec.{triple_of}
use denote.Triple.Call.{calls_at_last}
use denote.Triple.Table.{framed}
use denote.Triple.Walked.{Stays, stay_dropped, walk_of}
use Rattle.std.specs.declared.option.Option.TheVariants.{None, Some}
use Rattle.std.specs.contracts.alloc.Global as heap
use Rattle.std.proofs.alloc.Global.TheLaws as heap_laws
use Rattle.std.specs.contracts.impls.GlobalAllocator.TheImpl as heap_impl
use Rattle.std.proofs.impls.GlobalAllocator.TheImpl.Met as heap_met
use Rattle.std.proofs.alloc.Calls.{Al, Goes-blank, handle_tells}
use Rattle.std.proofs.alloc.Shapes.{after}
use Rattle.std.proofs.option.Made.{Some-of, none_of}
use Rattle.std.proofs.BoxSteps.Form as box
use Rattle.std.proofs.BoxSteps.Steps.{box_out, box_in}
use Rattle.std.proofs.ResultValues.{and_tt}
use Rattle.std.proofs.raw_atomic.Walks.{proved_at, leaves}
use Rattle.std.specs.contracts.boxed.Box as boxed
use Rattle.std.specs.contracts.boxed.Box.from_raw as callee
use Rattle.std.proofs.boxed.Box.from_raw.Met.{met}
use Rattle.edicheck_c.proofs.Places.{pointer_good, word, word_good, word_out, either_held}
use Rattle.edicheck_c.specs.contracts.held.Held as held
use Rattle.edicheck_c.specs.contracts.held.Held.into_box.{ended, clauses}
use Rattle.edicheck_c.specs.contracts.held.Held.into_box.Key.{name as #self}
use Rattle.edicheck_c.proofs.Destruct++none.drop.Code as no_drop
use Rattle.edicheck_c.proofs.held.Held.into_box.Statement.{statement}
use Rattle.edicheck_c.proofs.held.Held.into_box.Code as code

-- what the branch that found a pointer does after the call
abbrev wraps : Body
wraps = seq (assign (place 7 []) (rv_opd (copy (place 8 [])))) (assign (place 6 []) (aggregate (int w8 1 ∷ copy (place 7 []) ∷ [])))

abbrev Heap : RattleType
Heap = heap.the_row

-- the same, as an argument of a call
abbrev Arg : RattleType
Arg = arg (bare (layout Heap)) no Heap

abbrev arg_laws : Laws Arg
arg_laws = laws.arg_laws (bare (layout Heap)) no Heap heap_laws.the_row_laws refl

abbrev heap_drop : Dict
heap_drop = impl ("edicheck_c::Destruct++none::drop" ∷ []) (tcons (layout Arg) tnil) dnil

pub into_box_spec : {M : Type 1} → statement M
unfolding no_drop.code
into_box_spec {M} 𝓤 𝓛 𝓜 𝓡 wired T L =
    let H = 𝓛.H in let 𝓣 = tables 𝓤 H 𝓜 𝓡 𝓡.env in let R : RattleType = param 0 T in let En = ended T in let c = clauses T 𝓛 𝓜.mem 𝓡.returns in
    let inst = layouts (a_type ∷ []) (T, tt) in let fn = inst_fn inst code.function in
    let heaps : Al = record { row = Arg; laws = arg_laws; g = heap_impl.ghosts; d = heap_impl.dict; drops = heap_drop } in let E : box.Bx = record { row = T; laws = L; al = heaps } in
    let hs : Stays En.signature.params En.kept = (stay_dropped (plain (λ _. held.the_row R)) no, (stay_dropped (plain (λ _. Heap)) yes, tt)) in
    proved_at 𝓛 En hs c 𝓜 𝓡 (Goes-blank 𝓛 1 (plain (λ _. held.the_row R)) no (λ κs x f. tt), (Goes-blank 𝓛 1 (plain (λ _. Heap)) yes (λ κs x f. tt), tt)) (#self inst) fn (code.unfolded 𝓤 H 𝓜 𝓡 wired (T, tt)) (λ z are.
    let κs = z.0.0 in let qs = z.0.1 in let κ = κs.0 in let q = qs.0 in let v = z.0.3.0 in let a = z.0.3.1.0 in let Boxed : RattleType = boxed.the_row R Heap heap_impl.ghosts in
    let Post : Val → SProp 𝓤 = (walk_of 𝓛 En hs c).post z in let Run : List Val → SProp 𝓤 = λ ws. WpFn 𝓤 H 𝓣.C 𝓣.Λ fn ws Post in let Out : RattleType = type_at En.signature.result κs in
    qed 𝓛 (((‵ (flft κ q) ⊛ ‵ ftrue) ⊛ ‵ (owns (types_at En.signature.params κs) z.0.3 z.0.4)) ∷ (raw (fact 𝓤 (κ ⊑ T.lives)) ⊛ ‵ ftrue) ∷ []) ∵
    split ! $ move ! (1 ∷ []) $ fsplit3 ! $ fsplit ! $ word_out ! v.at z.0.4.0 (λ ws. move ! (1 ∷ []) $ handle_tells heaps ! a z.0.4.1.0 (λ h eh fits.
    -- [the heap; what is held; nothing; the token; that it is within the type's life]
    move ! (1 ∷ []) $ either_held R ! v.at v.kept
    (λ is none_kept. let at : z.0.4.0 ≡ word null_ptr ∷ [] = ws ∙ ap (λ (p : Ptr). word p ∷ []) is in
    suffices ! (Run (word null_ptr ∷ h ∷ [])) (subst (λ (us : List Val). ent 𝓤 (Run (word null_ptr ∷ h ∷ [])) (Run us)) (sym (λ i. at i ++ (eh i ++ []))) (id⊢ 𝓤 (Run (word null_ptr ∷ h ∷ [])))) $
    enter ! 𝓣.C 𝓣.Λ fn (word null_ptr ∷ h ∷ []) Post $ alloc_all ! (λ l. pass_all ! refl (word_good null_ptr, (fits, tt)) $ let Ev = env fn.locals l in
    sets ! (of_opd ! (get_in ! (fld ! refl (stop !)) (sub ! 0 refl (whole !)))) refl (pointer_good null_ptr) $ sets ! (of_opd ! (get ! refl)) refl (pointer_good null_ptr) $
    sets ! (bin ! (get ! refl) (lit ! tt) tt) refl (tt, tt) $ first ! $ branches ! (get ! refl)
    (λ _. sets_last ! (agg ! (and_then ! (lit ! tt) (no_more !))) refl (tt, (record { fits = lit< tt }, tt)) $ exec ! 𝓣.C 𝓣.Λ Ev (after 4 fn.body) (at_ret Ev Post) $
    sets ! (of_opd ! (get ! refl)) refl (tt, (record { fits = lit< tt }, tt)) $
    use0 𝓛 (‵ (Out.own_val None (live 0 vnil ∷ []))) (none_of 𝓛 Boxed) $ use0 𝓛 (raw (fact 𝓤 (None ≡ v.kept))) (fact_i 𝓤 (None ≡ v.kept) (emp 𝓤) (sym none_kept)) $
    nothing ! $ nothing ! $ fjoin ! $ nothing ! $ fjoin ! $
    returns ! (look_at ! 0 refl) $ free_all ! refl $ keep ! (5 ∷ 0 ∷ 2 ∷ 1 ∷ []) $ by ! (leaves 𝓛 En hs c z (live 0 vnil) None (tt, (tt, tt)) (tt, (tt, tt))))
    (λ wrong. absurd wrong)))
    (λ b o x is a_box t. let at : z.0.4.0 ≡ word (block_ptr b o) ∷ [] = ws ∙ ap (λ (p : Ptr). word p ∷ []) is in
    let κs' : Lfts 2 = (κ, (κ, tt)) in let toks = ‵ (flft κ (left q)) ⊛ ‵ (flft κ (right q)) ⊛ ‵ ftrue in let B : RattleType = box.B E in
    let k = triple_of 𝓛 (callee.signature T Arg heap_impl.ghosts heap_impl.dict heap_drop) (callee.spec T Arg heap_impl.ghosts heap_impl.dict heap_drop 𝓛 𝓜.mem 𝓡.returns) in
    let y : k.Ghost = ((κs', (left q, (right q, tt)), tt, (a, (block_ptr b o, tt)), (h ∷ [], (vptr b o ∷ [], tt))), x) in
    move ! (4 ∷ []) $ split ! $ move ! (1 ∷ []) $ drop ! $ use0 𝓛 (raw (fact 𝓤 (κ ⊑ Arg.lives))) (fact_i 𝓤 (κ ⊑ Arg.lives) (emp 𝓤) (⊑_static κ)) $ move ! (0 ∷ 2 ∷ []) $ join ! $ move ! (1 ∷ 0 ∷ []) $ join ! $
    move ! (3 ∷ []) $ split ! $ use1 𝓛 (‵ (flft κ (left q)) ⊛ ‵ (flft κ (right q))) (𝓛.lfts.lft_split κ q) $ split ! $ move ! (1 ∷ 2 ∷ []) $ join ! $ move ! (1 ∷ 0 ∷ []) $ join ! $
    -- [the tokens; the `requires`; the heap; nothing]
    move ! (3 ∷ []) $ feq_i ! (List Val) (vptr b o ∷ []) (vptr b o ∷ []) refl $ fjoin ! $ move ! (3 ∷ 0 ∷ []) $ fjoin ! $ move ! (1 ∷ 0 ∷ []) $ join ! $ join ! $ use1 𝓛 (raw (k.pre y)) (id⊢ 𝓤 _) $
    suffices ! (Run (word (block_ptr b o) ∷ h ∷ [])) (subst (λ (us : List Val). ent 𝓤 (Run (word (block_ptr b o) ∷ h ∷ [])) (Run us)) (sym (λ i. at i ++ (eh i ++ []))) (id⊢ 𝓤 (Run (word (block_ptr b o) ∷ h ∷ [])))) $
    enter ! 𝓣.C 𝓣.Λ fn (word (block_ptr b o) ∷ h ∷ []) Post $ alloc_all ! (λ l. pass_all ! refl (word_good (block_ptr b o), (fits, tt)) $ let Ev = env fn.locals l in
    let Then = any_q (after_seq 𝓤 H (Wp 𝓤 H 𝓣.C 𝓣.Λ Ev (after 4 fn.body) (at_return 𝓤 H Ev Post)) (at_return 𝓤 H Ev Post)) in
    sets ! (of_opd ! (get_in ! (fld ! refl (stop !)) (sub ! 0 refl (whole !)))) refl (tt, tt) $ sets ! (of_opd ! (get ! refl)) refl (tt, tt) $
    sets ! (bin ! (get ! refl) (lit ! tt) (tests_null (block_ptr b o) t)) refl (tt, tt) $ first ! $ branches ! (get ! refl) (λ wrong. absurd wrong) (λ _.
    first ! $ blocks ! $ sets ! (of_opd ! (get ! refl)) refl fits $ sets ! (of_opd ! (get ! refl)) refl (tt, tt) $
    calls_at_last ! (framed 𝓤 H 𝓜 𝓣) k (met 𝓤 𝓛 𝓜 𝓡 (code.calls-std_alloc::boxed::Box::from_raw 𝓡.env wired) T Arg L arg_laws heap_impl.ghosts heap_impl.dict heap_drop
    (heap_met.passed 𝓡.env (code.calls-std_heap::GlobalAllocator::allocate 𝓡.env wired) (code.calls-std_heap::GlobalAllocator::deallocate 𝓡.env wired) (code.calls-std_heap::GlobalAllocator::grow 𝓡.env wired) (code.calls-std_heap::GlobalAllocator::shrink 𝓡.env wired) M 𝓤 𝓛 𝓜 𝓡)
    (none.glues "edicheck_c::Destruct++none::drop" 𝓡.env (code.calls-edicheck_c::Destruct++none::drop 𝓡.env wired) Arg arg_laws M 𝓤 𝓛 𝓜 𝓡)) y (and_then ! (get ! refl) (and_then ! (get ! refl) (no_more !))) (λ u.
    use1 𝓛 (later (some (λ (r : B.Denot). (toks ⊛ ‵ (B.own_val r (u ∷ []))) ⊛ some (λ (ls : Lasts (callee.ended T Arg heap_impl.ghosts heap_impl.dict heap_drop) κs' y.0.3).
    ‵ (lasts (callee.ended T Arg heap_impl.ghosts heap_impl.dict heap_drop) κs' y.0.3 ls) ⊛ (raw (fact 𝓤 (r.value ≡ x)) ⊛ raw (fact 𝓤 (r.alloc ≡ a))))))) (id⊢ 𝓤 (k.post y u)) $
    await ! tt $ pick ! (λ r. split ! $ move ! (1 ∷ []) $ pick ! (λ _. split3 ! $ drop ! $ heard ! (r.value ≡ x) (λ same. drop ! $ split ! $ split3 ! $
    use2 𝓛 (‵ (flft κ q)) (𝓛.lfts.lft_join κ q) $ join ! $ move ! (1 ∷ []) $
    box_out E ! r (u ∷ []) (λ b' o' h' e' us fits'. box_in E ! r b' o' r.value e' refl $ rewrite ! 0 (λ (xs : List Val). ‵ (B.own_val r xs)) (sym us) refl $
    let good : Yes (has_ty (layout B) u) × WT u = subst (λ (s : Val). Yes (has_ty (layout B) s) × WT s) (sym (ap only us)) (box.box_typed E h' b' o' fits') in let v₁ : Val = live 1 (vcons u vnil) in
    let good₁ : Yes (has_ty (layout Out) v₁) × WT v₁ = (and_tt _ good.0, (record { fits = lit< tt }, (good.1, tt))) in
    lands_last ! refl good $ exec ! 𝓣.C 𝓣.Λ Ev wraps Then $ sets ! (of_opd ! (get ! refl)) refl good $ sets_last ! (agg ! (and_then ! (lit ! tt) (and_then ! (get ! refl) (no_more !)))) refl good₁ $
    exec ! 𝓣.C 𝓣.Λ Ev (after 4 fn.body) (at_ret Ev Post) $ sets ! (of_opd ! (get ! refl)) refl good₁ $
    use1 𝓛 (‵ (Out.own_val (Some r) (v₁ ∷ []))) (Some-of 𝓛 Boxed r u) $
    use0 𝓛 (raw (fact 𝓤 (Some r.value ≡ v.kept))) (fact_i 𝓤 (Some r.value ≡ v.kept) (emp 𝓤) (ap (λ (s : T.Denot). Some s) same ∙ sym a_box)) $ nothing ! $ nothing ! $ fjoin ! $ nothing ! $ fjoin ! $
    returns ! (look_at ! 0 refl) $ free_all ! refl $ keep ! (3 ∷ 0 ∷ 2 ∷ 1 ∷ []) $ by ! (leaves 𝓛 En hs c z v₁ (Some r) (tt, (tt, tt)) (tt, (tt, tt))))))))))))))
