use Rattle.std.proofs.Common.{inr, Ok, Err}
use Rattle.access_calls.specs.Reported.{world_from}
use Rattle.image_load.specs.declared.ends.LoadEnd.TheVariants as e
use Rattle.image_load.proofs.MeetLemmas.{meets}
use Rattle.sequels.specs.declared.close.Close.TheVariants as close
use Rattle.image_load.specs.Pieces.{load_calls, pieces}
use Rattle.task_runs.proofs.LoadLemmas.{asks_as, came, left_off, load_as, load_units, stopped}
use Rattle.task_runs.proofs.following.load_after.Goals as goal

pub returns-in-Ok-clause-gives : goal.returns-in-Ok-clause-gives
returns-in-Ok-clause-gives g c = λ m answered written b l whole.
    let w = world_from m answered in
    let old = (g.A.Access.reported c.args.access.now).asks.calls in
    let a = g.A.Access.reported c.load.new.access in
    let l0 = c.in-Ok.loaded in
    came w c.args.ap c.args.image.now old (close.Loaded l0.bytes l0.writes) a.asks.calls written
    (meets w c.args.ap c.args.image.now old whole (Ok l0) a.asks.calls a.lines
    (record { asks = c.in-Ok.ensures.asks; loads = c.in-Ok.ensures.loads m answered b l; stops = c.in-Ok.ensures.stops m answered b l; counts = c.in-Ok.ensures.counts }))
    c.in-Ok.ensures.asks

pub returns-in-Ok-clause-asked : goal.returns-in-Ok-clause-asked
returns-in-Ok-clause-asked g c = load_units _ _ c.args.ap c.args.image.now c.in-Ok.loaded.writes c.in-Ok.ensures.asks c.in-Ok.ensures.counts.1

pub returns-in-Ok-clause-closes : goal.returns-in-Ok-clause-closes
returns-in-Ok-clause-closes g c = c.in-Ok.ensures.counts

pub returns-in-Ok-count_writes-clause-gives : goal.returns-in-Ok-count_writes-clause-gives
returns-in-Ok-count_writes-clause-gives g c = λ m answered written b l whole.
    let w = world_from m answered in
    let n = c.args.ap in
    let image = c.args.image.now in
    let old = (g.A.Access.reported c.args.access.now).asks.calls in
    let a = g.A.Access.reported c.load.new.access in
    let k = c.in-Err-Differs in
    let end = e.Differs k.address k.wanted k.found in
    came w n image old (close.Differs k.address k.wanted k.found) a.asks.calls written
    (meets w n image old whole (Err end) a.asks.calls a.lines (load_as w n image k.field-0 end old a.asks.calls a.lines k.field-0-is
    (record { asks = k.ensures.asks; loads = k.ensures.loads m answered b l; stops = k.ensures.stops m answered b l; counts = k.ensures.counts })))
    (asks_as k.field-0 end (load_calls n (pieces image)) old a.asks.calls k.field-0-is k.ensures.asks)

pub returns-in-Ok-count_writes-clause-asked : goal.returns-in-Ok-count_writes-clause-asked
returns-in-Ok-count_writes-clause-asked g c =
    let k = c.in-Err-Differs in
    load_units _ _ c.args.ap c.args.image.now c.in-Ok-count_writes.writes (asks_as k.field-0 (e.Differs k.address k.wanted k.found) (load_calls c.args.ap (pieces c.args.image.now)) _ _ k.field-0-is k.ensures.asks)
    c.in-Ok-count_writes.ensures.count

pub returns-in-Err-clause-gives : goal.returns-in-Err-clause-gives
returns-in-Err-clause-gives g c = λ m answered written b l whole.
    let old = (g.A.Access.reported c.args.access.now).asks.calls in
    let a = g.A.Access.reported c.load.new.access in
    let k = c.in-Err-Differs in
    left_off (world_from m answered) c.args.ap c.args.image.now old a.asks.calls written
    (inr (asks_as k.field-0 (e.Differs k.address k.wanted k.found) (load_calls c.args.ap (pieces c.args.image.now)) old a.asks.calls k.field-0-is k.ensures.asks))

pub returns-in-Err-Stop-clause-gives : goal.returns-in-Err-Stop-clause-gives
returns-in-Err-Stop-clause-gives g c = λ m answered written b l whole.
    let w = world_from m answered in
    let n = c.args.ap in
    let image = c.args.image.now in
    let old = (g.A.Access.reported c.args.access.now).asks.calls in
    let a = g.A.Access.reported c.load.new.access in
    let k = c.in-Err-Stop in
    stopped w n image old k.stop a.lines a.asks.calls written
    (meets w n image old whole (Err (e.Stop k.stop)) a.asks.calls a.lines (load_as w n image k.field-0 (e.Stop k.stop) old a.asks.calls a.lines k.field-0-is
    (record { asks = k.ensures.asks; loads = k.ensures.loads m answered b l; stops = k.ensures.stops m answered b l; counts = k.ensures.counts })))
    (asks_as k.field-0 (e.Stop k.stop) (load_calls n (pieces image)) old a.asks.calls k.field-0-is k.ensures.asks)
