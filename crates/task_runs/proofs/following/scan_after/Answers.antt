use Rattle.access_calls.specs.Reported.{world_from}
use Rattle.rom_scan.proofs.EndLemmas.{ends_at}
use Rattle.rom_scan.specs.Walk.{Listed, Full}
use Rattle.rom_scan.specs.declared.scan_end.ScanEnd.TheVariants as e
use Rattle.task_runs.proofs.ScanLemmas.{came, left_off, scans_at, stopped, whole_lines}
use Rattle.task_runs.proofs.following.scan_after.Goals as goal

pub returns-in-Ok-clause-gives : goal.returns-in-Ok-clause-gives
returns-in-Ok-clause-gives g c = λ m answered b l whole.
    let h = c.in-Ok.ensures.gives m answered b l whole in
    came (world_from m answered) c.args.ap (g.A.Access.reported c.args.access.now).asks.calls (Listed h.0) _ _ _ h.1

pub returns-in-Ok-clause-ends : goal.returns-in-Ok-clause-ends
returns-in-Ok-clause-ends g c =
    let e = c.in-Ok.ensures.ends.ends in
    record { end = e.end; lines = whole_lines _ _ e.lines; cause = e.cause; keeps = e.keeps }

pub returns-in-Err-Full-clause-gives : goal.returns-in-Err-Full-clause-gives
returns-in-Err-Full-clause-gives g c = λ m answered b l whole.
    let w = world_from m answered in
    let old = (g.A.Access.reported c.args.access.now).asks.calls in
    let k = c.in-Err-Full in
    came w c.args.ap old Full _ _ _ (scans_at w _ c.args.ap k.field-0 e.Full old _ _ _ k.field-0-is (k.ensures.gives m answered b l whole))

pub returns-in-Err-Full-clause-ends : goal.returns-in-Err-Full-clause-ends
returns-in-Err-Full-clause-ends g c =
    let ends = ends_at g.A.Access.begun g.A.Access.reported g.A.Access.identity g.K.Sink.written g.K.Sink.faults _ e.Full _ _ _ _ c.in-Err-Full.field-0-is c.in-Err-Full.ensures.ends.ends in
    record { end = ends.end; lines = whole_lines _ _ ends.lines; cause = ends.cause; keeps = ends.keeps }

pub returns-in-Err-WriteFault-clause-gives : goal.returns-in-Err-WriteFault-clause-gives
returns-in-Err-WriteFault-clause-gives g c = λ m answered b l whole.
    let w = world_from m answered in
    let old = (g.A.Access.reported c.args.access.now).asks.calls in
    let k = c.in-Err-WriteFault in
    left_off w c.args.ap old _ _ _ (scans_at w _ c.args.ap k.field-0 e.WriteFault old _ _ _ k.field-0-is (k.ensures.gives m answered b l whole))

pub returns-in-Err-Stop-clause-gives : goal.returns-in-Err-Stop-clause-gives
returns-in-Err-Stop-clause-gives g c = λ m answered b l whole.
    let w = world_from m answered in
    let old = (g.A.Access.reported c.args.access.now).asks.calls in
    let k = c.in-Err-Stop in
    stopped w c.args.ap old k.stop _ _ _ _ whole (scans_at w _ c.args.ap k.field-0 (e.Stop k.stop) old _ _ _ k.field-0-is (k.ensures.gives m answered b l whole))

pub returns-in-Err-Stop-clause-ends : goal.returns-in-Err-Stop-clause-ends
returns-in-Err-Stop-clause-ends g c =
    let ends = ends_at g.A.Access.begun g.A.Access.reported g.A.Access.identity g.K.Sink.written g.K.Sink.faults _ (e.Stop c.in-Err-Stop.stop) _ _ _ _ c.in-Err-Stop.field-0-is c.in-Err-Stop.ensures.ends.ends in
    record { end = ends.end; lines = whole_lines _ _ ends.lines; cause = ends.cause; keeps = ends.keeps }
