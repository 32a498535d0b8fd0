use Rattle.std.proofs.Common.{sym, ◌∙◌}
use Rattle.flight_forms.proofs.FirstParts.{filling_begins, filling_ends, filling_goes_on, filling_stops}
use Rattle.flight_forms.proofs.size.first_part.Goals as goal

pub loop-index-init : goal.loop-index-init
loop-index-init c =
    filling_begins c.args.packet_size c.args.accesses.now _ c.with_access-tally.result c.writes_ap-after_write.result c.requires.some c.with_access-tally.ensures c.writes_ap-after_write.ensures

pub returns-then-not-fits_guarded-clause-part : goal.returns-then-not-fits_guarded-clause-part
returns-then-not-fits_guarded-clause-part c =
    filling_stops c.args.packet_size c.loop-index.index c.args.accesses.now _ c.loop-index.tally c.with_access-more.result c.loop-index.after_write c.is_checked.result c.requires.few
    c.loop-index-test.true c.loop-index.invariant c.is_checked.ensures c.with_access-more.ensures (sym c.fits_guarded.ensures ∙ c.if-not-fits_guarded.true)

pub loop-index-preserved : goal.loop-index-preserved
loop-index-preserved c =
    filling_goes_on c.args.packet_size c.loop-index.index c.args.accesses.now _ c.loop-index.tally c.with_access-more.result c.loop-index.after_write c.is_checked.result _ c.requires.few
    c.loop-index-test.true c.loop-index.invariant c.is_checked.ensures c.with_access-more.ensures (sym c.fits_guarded.ensures ∙ c.if-not-fits_guarded.false)
    c.writes_ap-after_write-in-loop-index.ensures

pub returns-clause-part : goal.returns-clause-part
returns-clause-part c = filling_ends c.args.packet_size c.loop-index.index c.args.accesses.now c.loop-index.tally c.loop-index.after_write c.loop-index.invariant c.loop-index-test.false
