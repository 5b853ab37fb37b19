-- The drop of a bus, as a call passes it with the type, is the drop of that type.
use Rattle.std.proofs.Common.{[], ◌∷◌, refl}
use Rattle.rb_bus.proofs.Boxes.{T, LT}
use seplogic.Ra.Ura.{Ura}
use mir.Syntax.{Dict, impl, method, tnil, dnil}
use types.Logic.{Logic}
use prog.Model.{Model}
use prog.Wired.{Wired}
use contract.Running.{Running, tables_of}
use denote.Param.{layouts}
use denote.Param.Glue.{Met}
use denote.Triple.Carry.{AllWithin}
use denote.Triple.Clauses.{Lasts, lasts, at_exit}
use denote.Triple.Walked.{Fit}
use borrow.Fn.Glue.{glue_by, glue_ps}
use borrow.Fn.Impl.{via_longer, method_Known}
use borrow.Fn.Kinds.{ended_of, stays, r_unit}
use borrow.Fn.Run.{Over}
use Rattle.rb_bus.proofs.rb_bus++bus++Bus+Destruct.drop.Kinds as kinds
use Rattle.rb_bus.proofs.rb_bus++bus++Bus+Destruct.drop.Met as drops
use Rattle.rb_bus.proofs.rb_bus++bus++Bus+Destruct.drop.Reads as reads
use Rattle.rb_bus.proofs.rb_bus++bus++Bus+Destruct.drop.Symbol as symbol

abbrev pub d : Dict
d = impl ("rb_bus::rb_bus++bus++Bus+Destruct::drop" ∷ []) tnil dnil

pub glued : {M : Type 1} (𝓤 : Ura M) (𝓛 : Logic 𝓤) (𝓜 : Model 𝓤 𝓛.H) (𝓡 : Running 𝓤 𝓛.H 𝓜) → Wired 𝓡.env symbol.code → Met 𝓛 𝓜 𝓡 𝓡.env T d
unfolding tables_of
glued {M} 𝓤 𝓛 𝓜 𝓡 w =
    glue_by T LT (record { M = M; 𝓤 = 𝓤; 𝓛 = 𝓛; 𝓜 = 𝓜; 𝓡 = 𝓡 }) d 𝓡.env
    (λ κs a. Lasts (ended_of 0 kinds.ps kinds.r) tt a)
    (λ κs a. lasts (ended_of 0 kinds.ps kinds.r) tt a)
    (λ κs a x ws. Fit (ended_of 0 kinds.ps kinds.r) (stays kinds.ps) tt a ws × reads.Learnt tt a x (at_exit (ended_of 0 kinds.ps kinds.r) tt a ws))
    (λ κs a. AllWithin 1 (κs.0, tt) (T.lives, tt) × Unit {0})
    0 tt (λ κs a h. ((h, tt), tt))
    (via_longer 𝓛 (Over 𝓛 𝓜 𝓡 𝓡.env) 1 (glue_ps T LT) r_unit
    (λ κs a. Lasts (ended_of 0 kinds.ps kinds.r) tt a)
    (λ κs a. lasts (ended_of 0 kinds.ps kinds.r) tt a)
    (λ κs a x ws. Fit (ended_of 0 kinds.ps kinds.r) (stays kinds.ps) tt a ws × reads.Learnt tt a x (at_exit (ended_of 0 kinds.ps kinds.r) tt a ws))
    (λ κs a. AllWithin 1 (κs.0, tt) (T.lives, tt) × Unit {0})
    (method d 0 (layouts [] tt)) 0 tt (λ κs. tt) (λ κs a. reads.Asked tt a) (λ κs a p. (tt, tt))
    (λ κs bd within a vss qs.
    method_Known 0 kinds.ps kinds.r reads.requires reads.ensures reads.Asked reads.Learnt reads.known (record { M = M; 𝓤 = 𝓤; 𝓛 = 𝓛; 𝓜 = 𝓜; 𝓡 = 𝓡 }) symbol.name (method d 0 (layouts [] tt))
    (symbol.as_method 𝓡.env w (method d 0 (layouts [] tt)) refl) (drops.met 𝓤 𝓛 𝓜 𝓡 w) ((tt, qs, tt, a, vss), tt)))
