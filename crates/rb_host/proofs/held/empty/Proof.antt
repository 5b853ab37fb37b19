-- `empty` makes a handle of nothing.
use Rattle.std.proofs.{Common.{◌≡◌, List, [], ◌∷◌, refl, None, w64, lit<}, raw_atomic.Walks.{proved_at, leaves}}
use Rattle.rb_host.specs.{Owns.Kept, contracts.held.empty.Key.name as #self}
use Rattle.rb_host.proofs.held.empty.Statement.{statement}
use mir.Val.{Val, vint, vstruct, vcons, vnil}
use base.Logic.{SProp, emp}
use types.Kit.{raw, ◌$◌, ◌∵◌, !, qed, by, keep, fjoin, fpack, use0, feq_i}
use types.Run.{lit, no_more, and_then, returns, enter}
use types.ByLocal.{alloc_all, pass_all, free_all, look_at, sets}
use types.Part.{agg}
use contract.Monad.{fact, fact_i}
use contract.Running.{tables}
use denote.RattleType.{Valss}
use denote.RawPtr.{RawPtr, null_ptr, ptr_val}
use denote.Steps.{nothing}
use denote.Struct.Struct.{within}
use denote.Struct.Owning.{shape}
use denote.Triple.Walked.{walk_of}
use Rattle.rb_host.specs.contracts.held.Held as Held
use Rattle.rb_host.specs.contracts.held.empty as f
use Rattle.rb_host.proofs.held.empty.Code as code

pub empty_spec : {M : Type 1} → statement M
empty_spec {M} 𝓤 𝓛 𝓜 𝓡 wired =
    let H = 𝓛.H in let 𝓣 = tables 𝓤 H 𝓜 𝓡 𝓡.env in let c = f.clauses 𝓛 𝓜.mem 𝓡.returns in
    proved_at 𝓛 f.ended tt c 𝓜 𝓡 tt #self code.function (code.unfolded 𝓤 H 𝓜 𝓡 wired) (λ z are.
    let Post : Val → SProp 𝓤 = (walk_of 𝓛 f.ended tt c).post z in let v : Val = vstruct (vcons (vint w64 0) vnil) in let holds_none : Kept = None in
    qed 𝓛 (raw ((walk_of 𝓛 f.ended tt c).pre z) ∷ []) ∵ enter ! 𝓣.C 𝓣.Λ code.function [] Post $ alloc_all ! (λ l. pass_all ! refl tt $
    sets ! (agg ! (and_then ! (lit ! tt) (no_more !))) refl (tt, (record { fits = lit< tt }, tt)) $
    nothing ! $ nothing ! $ feq_i ! (List Val) (vint w64 0 ∷ []) (ptr_val null_ptr ∷ []) refl $ fjoin ! $ feq_i ! (List Val) (v ∷ []) (v ∷ []) refl $ fjoin ! $
    fpack ! (Valss (RawPtr ∷ [])) (within (shape Held.the_type) (null_ptr, tt) (v ∷ [])) (vint w64 0 ∷ [], tt) $ fjoin ! $
    use0 𝓛 (raw (fact 𝓤 (holds_none ≡ holds_none))) (fact_i 𝓤 (holds_none ≡ holds_none) (emp 𝓤) refl) $ nothing ! $ nothing ! $
    returns ! (look_at ! 0 refl) $ free_all ! refl $ keep ! (0 ∷ 1 ∷ 3 ∷ 2 ∷ []) $
    by ! (leaves 𝓛 f.ended tt c z v (record { at = null_ptr; node = None }) tt tt)))
