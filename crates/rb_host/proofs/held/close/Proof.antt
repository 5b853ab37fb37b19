-- `close` takes the box apart.
use Rattle.std.proofs.{Common.{◌≡◌, List, [], ◌∷◌, ◌++◌, refl, sym, ap, ◌∙◌, subst, Some}, alloc.Calls.{Goes-blank, handle_tells}, raw_atomic.Walks.{proved_at, leaves}}
use Rattle.std_alloc.specs.Box.Ownership.{box_owns}
use Rattle.std_alloc.proofs.{BoxSteps.Steps.{box_out, box_in}, boxed.Box.into_raw_with_allocator.Met.met}
use Rattle.std_heap.specs.contracts.GlobalAllocator.TheImpl.{ghosts, dict}
use Rattle.std_heap.proofs.GlobalAllocator.TheImpl.Met.{passed}
use Rattle.rb_host.specs.contracts.held.close.Key.{name as #self}
use Rattle.rb_host.proofs.{held.close.Statement.statement, Boxes.{T, LT, A, LA, drop_of, E, Whole, word, held_in}}
use mir.Raw.{raw as bare}
use mir.Val.{Val, vstruct, of_list}
use base.Fraction.{full_share}
use base.Logic.{SProp, ent, emp, never, id⊢, fst∗}
use base.Fml.{ftrue, flft}
use prog.Wp.{WpFn}
use types.Logic.{sem}
use types.Kit.{‵, raw, ◌⊛◌, some, later, ◌$◌, ◌∵◌, !, qed, by, move, keep, drop, split, split3, join, fsplit, fjoin, fpick, pick, suffices, use0, use1, await, rewrite, feq_l}
use types.Run.{stop, fld, of_opd, no_more, and_then, returns, enter}
use types.ByLocal.{alloc_all, pass_all, free_all, look_at, get, get_in, sets, lands_as}
use types.Part.{agg, sub, whole}
use contract.Monad.{fact, fact_i}
use contract.BorrowLft.{◌⊑◌, ⊑_refl}
use contract.Running.{tables}
use denote.Exit.{yes}
use denote.RattleType.{RattleType, owns}
use denote.Signature.{types_at, plain}
use denote.Builtin.{RawPtr}
use denote.RawPtr.{Ptr, block_ptr, null_ptr, ptr_val, in_a_block}
use denote.Steps.{nothing, only, heard}
use denote.Param.{param, layout}
use denote.Param.NoDrop.{glues}
use denote.Struct.Tuple.{Tuple}
use denote.Triple.Clauses.{Lasts, lasts}
use denote.Triple.Spec.{triple_of}
use denote.Triple.Call.{calls_at}
use denote.Triple.Walked.{Stays, stay_dropped, walk_of}
use denote.Triple.Table.{framed}
use Rattle.std_alloc.proofs.BoxSteps.Form as box
use Rattle.std_alloc.specs.contracts.boxed.Box.into_raw_with_allocator as callee
use Rattle.rb_host.specs.contracts.held.close as f
use Rattle.rb_host.proofs.held.close.Code as code

pub close_spec : {M : Type 1} → statement M
unfolding Rattle.rb_host.proofs.Destruct++none.drop.Code.code
close_spec {M} 𝓤 𝓛 𝓜 𝓡 wired =
    let H = 𝓛.H in let 𝓣 = tables 𝓤 H 𝓜 𝓡 𝓡.env in let R : RattleType = param 0 T in let Z : RattleType = param 1 A in let c = f.clauses 𝓛 𝓜.mem 𝓡.returns in
    let hs : Stays f.ended.signature.params f.ended.kept = (stay_dropped (plain (λ _. Whole)) yes, tt) in
    let dA = drop_of A in let dT = drop_of T in
    let known = met 𝓤 𝓛 𝓜 𝓡 (code.calls-std_alloc::boxed::Box::into_raw_with_allocator 𝓡.env wired) T A LT LA ghosts dict dA dT
    (passed 𝓡.env (code.calls-std_heap::GlobalAllocator::allocate 𝓡.env wired) (code.calls-std_heap::GlobalAllocator::deallocate 𝓡.env wired)
    (code.calls-std_heap::GlobalAllocator::grow 𝓡.env wired) (code.calls-std_heap::GlobalAllocator::shrink 𝓡.env wired) M 𝓤 𝓛 𝓜 𝓡)
    (glues "rb_host::Destruct++none::drop" 𝓡.env (code.calls-rb_host::Destruct++none::drop 𝓡.env wired) A LA M 𝓤 𝓛 𝓜 𝓡)
    (glues "rb_host::Destruct++none::drop" 𝓡.env (code.calls-rb_host::Destruct++none::drop 𝓡.env wired) T LT M 𝓤 𝓛 𝓜 𝓡) in
    proved_at 𝓛 f.ended hs c 𝓜 𝓡 (Goes-blank 𝓛 0 (plain (λ _. Whole)) yes (λ κs x g. tt), tt) #self code.function (code.unfolded 𝓤 H 𝓜 𝓡 wired) (λ z are.
    let v = z.0.3.0 in let a = v.alloc in let Post : Val → SProp 𝓤 = (walk_of 𝓛 f.ended hs c).post z in let Run : List Val → SProp 𝓤 = λ ws. WpFn 𝓤 H 𝓣.C 𝓣.Λ code.function ws Post in
    let toks = ‵ (flft [] full_share) ⊛ ‵ (flft [] full_share) ⊛ ‵ ftrue in let asked = raw ((c z.0.0 z.0.3).requires z.1) in
    qed 𝓛 ((‵ ftrue ⊛ ‵ (owns (types_at f.ended.signature.params z.0.0) z.0.3 z.0.4)) ∷ asked ∷ []) ∵ split ! $ move ! (1 ∷ []) $ fsplit ! $ box_out E ! v z.0.4.0 (λ b o h e ws fits. box_in E ! v b o v.value e refl $
    let w : Val = box.word E h b o in let typed = box.box_typed E h b o fits in let k = triple_of 𝓛 (callee.signature T A ghosts dict dA dT) (callee.spec T A ghosts dict dA dT 𝓛 𝓜.mem 𝓡.returns) in
    let y : k.Ghost = ((([], ([], tt)), (full_share, (full_share, tt)), tt, (v, tt), (w ∷ [], tt)), tt) in let Pair = Tuple (RawPtr ∷ Z ∷ []) in
    fjoin ! $ nothing ! $ use0 𝓛 (‵ (flft [] full_share)) (𝓛.lfts.lft-nil full_share) $ join ! $ use0 𝓛 (‵ (flft [] full_share)) (𝓛.lfts.lft-nil full_share) $ join ! $ join ! $
    nothing ! $ use0 𝓛 (raw (fact 𝓤 ([] ⊑ []))) (fact_i 𝓤 ([] ⊑ []) (emp 𝓤) (⊑_refl [])) $ join ! $ use0 𝓛 (raw (fact 𝓤 ([] ⊑ []))) (fact_i 𝓤 ([] ⊑ []) (emp 𝓤) (⊑_refl [])) $ join ! $
    move ! (1 ∷ 0 ∷ []) $ join ! $ use1 𝓛 (raw (k.pre y)) (id⊢ 𝓤 _) $
    suffices ! (Run (w ∷ [])) (subst (λ (us : List Val). ent 𝓤 (Run (w ∷ [])) (Run us)) (sym (λ i. ws i ++ [])) (id⊢ 𝓤 (Run (w ∷ [])))) $
    enter ! 𝓣.C 𝓣.Λ code.function (w ∷ []) Post $ alloc_all ! (λ l. pass_all ! refl (typed, tt) $ sets ! (of_opd ! (get ! refl)) refl typed $
    calls_at ! (framed 𝓤 H 𝓜 𝓣) k known y (and_then ! (get ! refl) (no_more !)) (λ u.
    use1 𝓛 (later (some (λ (r : Ptr × A.Denot). (toks ⊛ ‵ (Pair.own_val r (u ∷ []))) ⊛ some (λ (ls : Lasts (callee.ended T A ghosts dict dA dT) y.0.0 y.0.3). ‵ (lasts (callee.ended T A ghosts dict dA dT) y.0.0 y.0.3 ls) ⊛ (raw (fact 𝓤 (r.1 ≡ a)) ⊛ ‵ (box_owns (ghosts.dealloc_token a) R r.0 v.value)))))) (id⊢ 𝓤 _) $
    await ! tt $ pick ! (λ r. split ! $ move ! (1 ∷ []) $ pick ! (λ _. split3 ! $ drop ! $ heard ! (r.1 ≡ a) (λ ea.
    in_a_block ! r.0 (λ p. box_owns (ghosts.dealloc_token a) R p v.value) (fst∗ 𝓤 (never 𝓤) (sem 𝓛 (ghosts.dealloc_token a (bare (layout T)) null_ptr))) (λ b' o' e'.
    move ! (1 ∷ []) $ split ! $ drop ! $ fpick ! (λ vss. fsplit ! $ feq_l ! (λ eu. fsplit ! $ feq_l ! (λ ep. fsplit ! $ rewrite ! 0 (λ (s : A.Denot). ‵ (A.own_val s vss.1.0)) ea refl $ handle_tells E.al ! a vss.1.0 (λ h' eh fits'.
    let made = box.box_typed E h' b' o' fits' in
    lands_as ! (ap only (eu ∙ (λ j. vstruct (of_list ((ep ∙ ap (λ (p : Ptr). ptr_val p ∷ []) e') j ++ (eh j ++ []))) ∷ []))) refl made $ sets ! (of_opd ! (get_in ! (fld ! refl (stop !)) (sub ! 0 refl (whole !)))) refl (tt, tt) $
    sets ! (of_opd ! (get_in ! (fld ! refl (stop !)) (sub ! 1 refl (whole !)))) refl fits' $ sets ! (of_opd ! (get ! refl)) refl (tt, tt) $ sets ! (agg ! (and_then ! (get ! refl) (no_more !))) refl (tt, (tt, tt)) $
    -- [the handle of the allocator; nothing; the node; ..]
    move ! (2 ∷ []) $ held_in ! b' o' v.value $ use0 𝓛 (raw (fact 𝓤 (Some v.value ≡ Some v.value))) (fact_i 𝓤 (Some v.value ≡ Some v.value) (emp 𝓤) refl) $ nothing ! $ nothing ! $ fjoin ! $ nothing ! $
    returns ! (look_at ! 0 refl) $ free_all ! refl $ keep ! (0 ∷ 1 ∷ 3 ∷ 2 ∷ []) $
    by ! (leaves 𝓛 f.ended hs c z (word b' o') (record { at = block_ptr b' o'; node = Some v.value }) (tt, tt) (tt, tt))))))))))))))
