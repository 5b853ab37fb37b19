-- A boxed node at a call of a box's functions, and a handle's machine value.
use Rattle.std.proofs.Common.{ℕ, List, [], ◌∷◌, refl, Some}
use Rattle.rb_host.specs.Owns.{held_owns}
use Rattle.std_heap.specs.contracts.GlobalAllocator.TheImpl.{ghosts, dict}
use seplogic.Ra.Ura.{Ura}
use lib.Dec.{T as Holds}
use mir.Syntax.{Ty, Dict, impl, tnil, tcons, dnil}
use mir.Raw.{raw as bare}
use mir.Val.{has_ty, WT, Val, vptr, vstruct, vcons, vnil}
use types.Logic.{Logic}
use types.Kit.{Item, Goal, Step, step, ‵, ◌$◌, fjoin, fpack, feq_i}
use denote.Exit.{no}
use denote.RattleType.{RattleType, Valss}
use denote.RawPtr.{RawPtr, block_ptr}
use denote.Steps.{nothing}
use denote.Struct.Struct.{within}
use denote.Struct.Owning.{shape}
use denote.Param.{arg, layout}
use denote.Param.Laws.{Laws, arg_laws}
use Rattle.rb_host.specs.contracts.any_node.AnyNode as any
use Rattle.rb_host.proofs.any_node.AnyNode.TheLaws as any_laws
use Rattle.rb_host.specs.contracts.held.Held as Held
use Rattle.std_heap.specs.contracts.Global as heap
use Rattle.std_heap.proofs.Global.TheLaws as heap_laws
use Rattle.std_alloc.proofs.BoxSteps.Form as box
use Rattle.std_alloc.specs.contracts.boxed.Box as boxed

-- the two types as a call passes them
abbrev pub passed : RattleType → RattleType
passed R = arg (bare (layout R)) no R

abbrev pub T : RattleType
T = passed any.the_row

abbrev pub LT : Laws T
LT = arg_laws (bare (layout any.the_row)) no any.the_row any_laws.the_row_laws refl

abbrev pub A : RattleType
A = passed heap.the_row

abbrev pub LA : Laws A
LA = arg_laws (bare (layout heap.the_row)) no heap.the_row heap_laws.the_row_laws refl

-- a boxed type `R` without a drop of its own
abbrev pub drop_of : RattleType → Dict
drop_of R = impl ("rb_host::Destruct++none::drop" ∷ []) (tcons (layout R) tnil) dnil

abbrev pub E : box.Bx
E = record { row = T; laws = LT; al = record { row = A; laws = LA; g = ghosts; d = dict; drops = drop_of A } }

abbrev pub Whole : RattleType
Whole = boxed.the_row any.the_row heap.the_row ghosts

abbrev pub Good : Ty → Val → Type 0
Good τ v = Holds (has_ty τ v) × WT v

-- the machine value of a handle
abbrev pub word : ℕ → ℕ → Val
word b o = vstruct (vcons (vptr b o) vnil)

module _ {M : Type 1} {𝓤 : Ura M} {𝓛 : Logic 𝓤} {K : Type 0} {Γ : List (Item 𝓤)} {G : Goal 𝓤 𝓛.H} where
  pub held_in : K → (b o : ℕ) (x : any.the_row.Denot)
      → Step K 𝓛 (‵ (Held.the_row.own_val (record { at = block_ptr b o; node = Some x }) (word b o ∷ [])) ∷ Γ) G (‵ (held_owns (block_ptr b o) (Some x)) ∷ Γ) G
  held_in t b o x = step (λ s. let v : Val = word b o in
      nothing t $ feq_i t (List Val) (vptr b o ∷ []) (vptr b o ∷ []) refl $ fjoin t $ feq_i t (List Val) (v ∷ []) (v ∷ []) refl $ fjoin t $
      fpack t (Valss (RawPtr ∷ [])) (within (shape Held.the_type) (block_ptr b o, tt) (v ∷ [])) (vptr b o ∷ [], tt) $ fjoin t $ s)
