-- Plans that were worked out by hand.
use Rattle.std.proofs.Common.{◌≡◌, true, false, [], ◌∷◌, Some, None, refl}
use Rattle.target_machine.specs.declared.unit.Unit.{Unit as AccessUnit}
use Rattle.target_machine.specs.declared.unit.Unit.TheVariants as unit
use Rattle.target_machine.specs.Plain.{ap_access_of}
use Rattle.access_regs.specs.Kept.{Kept}
use Rattle.access_regs.specs.Plan.{plan, kept_after_plan, settle}

abbrev port_read : Kept
port_read = record { select = Some 0; ports = record { csw = Some 0x40; tar = None; high = None; large = true } ∷ []; unsettled = None }

abbrev one : AccessUnit
one = unit.Memory 4 false 0 0x1_2000_0000 1

abbrev two : AccessUnit
two = unit.Memory 4 false 0 0x2000_0004 2

abbrev three : AccessUnit
three = unit.Memory 4 false 0 0x1_2000_0008 3

-- the upper word comes before TAR, and before DRW where TAR is not written
first_is : plan port_read one ≡ ap_access_of false 0 0x52 ∷ ap_access_of false 8 1 ∷ ap_access_of false 4 0x2000_0000 ∷ ap_access_of false 0xC 1 ∷ []
first_is = refl

second_is : plan (kept_after_plan port_read one) two ≡ ap_access_of false 8 0 ∷ ap_access_of false 0xC 2 ∷ []
second_is = refl

third_is : plan (kept_after_plan (kept_after_plan port_read one) two) three ≡ ap_access_of false 8 1 ∷ ap_access_of false 0xC 3 ∷ []
third_is = refl

settling_is : settle (kept_after_plan (kept_after_plan (kept_after_plan port_read one) two) three) ≡ ap_access_of false 0 0x42 ∷ ap_access_of false 4 0x2000_0008 ∷ []
settling_is = refl
