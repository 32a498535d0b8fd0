-- After a flight that came to its end another may follow.
use Rattle.std.proofs.Common.{◌≡◌, ℕ, true, false, eqb, List, Option, refl, ap, ◌∙◌}
use Rattle.std.specs.Prelude.{bit_and}
use Rattle.target_machine.specs.State.{TargetState}
use Rattle.target_machine.specs.declared.access.RegAccess.{RegAccess}
use Rattle.dap_transfer.specs.State.{Setting}
use Rattle.probe_core.specs.Bench.{BenchState}
use Rattle.flight_forms.proofs.Rows.{clear_end, dpidr_stays, good_whole}
use Rattle.flight_forms.specs.declared.form.Form.{Form}
use Rattle.flight_forms.specs.declared.form.Form.TheVariants.{Block, Transfer, Chain}
use Rattle.batch_packer.specs.FlightEnds.{whole_part}
use Rattle.batch_packer.specs.Flying.{CanFly, HasFlown, may_stay_shut, transfers_of}

opened : (form : Form) → may_stay_shut form true ≡ false
opened Block = refl
opened Transfer = refl
opened Chain = refl

pub flies_again : (form : Form) (accesses : List RegAccess) (values : List (Option ℕ)) (m n : BenchState) → CanFly m → HasFlown form accesses (whole_part accesses values) m n → CanFly n
flies_again form accesses values m n can has =
    let guard = can.guard in
    let does = has.does in
    let whole = good_whole does.made refl in
    let target = whole.2 in
    record {
      guard = record {
        mask = has.mask (opened form);
        matches = ap (λ (s : Setting). s.matches) does.setting ∙ guard.matches;
        dpidr = ap (λ (t : TargetState). eqb (bit_and t.dpidr 1) 0) target ∙ ap (λ (d : ℕ). eqb (bit_and d 1) 0) (dpidr_stays (transfers_of m).line.target accesses) ∙ guard.dpidr;
        clear = ap (λ (t : TargetState). t.sticky) target ∙ clear_end (transfers_of m).line.target accesses whole.3;
      };
      in_range = has.in_range;
    }
