-- No command of the probe meets a fault.
use Rattle.std.proofs.Common.{◌≡◌, Bool, true, false, cond, ◌&&◌, refl}
use Rattle.target_machine.specs.Attempt.{Attempt, attempt, is_free}
use Rattle.target_machine.specs.Plain.{command_attempt, is_fault}
use Rattle.target_machine.specs.State.{TargetState}
use Rattle.target_machine.specs.declared.unit.ProbeCall.{ProbeCall}
use Rattle.target_machine.specs.declared.unit.ProbeCall.TheVariants as probe

free_either : (b : Bool) (x y : Attempt) → is_fault y.outcome ≡ false → is_fault (cond (b && false) x y).outcome ≡ false
free_either true x y h = h
free_either false x y h = h

pub command_passes : (t : TargetState) (c : ProbeCall) → is_fault (command_attempt t c).outcome ≡ false
unfolding attempt is_free
command_passes t (probe.Abort value) = free_either t.sticky _ _ refl
command_passes t other = refl
