use Rattle.std.proofs.Common.{◌≡◌, ◌∙◌, ◌++◌, List, None, Some, length, sym, ap}
use Rattle.access_calls.specs.Reported.{world_from}
use Rattle.target_calls.specs.Asks.{settled_last}
use Rattle.target_calls.specs.World.{stop}
use Rattle.target_calls.specs.declared.calls.Ask.{Ask}
use Rattle.image_load.specs.Pieces.{load_calls}
use Rattle.image_load.proofs.FoundLemmas.{compared, cut_asking, cut_settling, finish_calls, known_all, long_all, stop_none}
use Rattle.image_load.proofs.loading.load_pieces.Goals as goal

pub returns-in-Err-clause-stops : goal.returns-in-Err-clause-stops
returns-in-Err-clause-stops g c = λ m answered b l.
    cut_asking (world_from m answered) (load_calls c.args.ap c.args.pieces.now) (g.A.Access.reported c.args.access.now).asks.calls (g.A.Access.reported c.ask_both.new.access).asks.calls
    (g.A.Access.reported c.ask_both.new.access).lines c.in-Err.stop (c.in-Err.ensures.ends.stops m answered b l).so

pub returns-in-Err-finish-clause-stops : goal.returns-in-Err-finish-clause-stops
returns-in-Err-finish-clause-stops g c = λ m answered b l.
    cut_settling (world_from m answered) (load_calls c.args.ap c.args.pieces.now) (g.A.Access.reported c.args.access.now).asks.calls (g.A.Access.reported c.ask_both.new.access).asks.calls
    (g.A.Access.reported c.finish.new.self).asks.calls (g.A.Access.reported c.finish.new.self).lines c.in-Err-finish.stop c.in-Ok.ensures.asks
    (c.in-Err-finish.ensures.calls ∙ finish_calls (g.A.Access.reported c.ask_both.new.access) c.in-Ok.ensures.ends.ends.end)
    (c.in-Err-finish.ensures.stops m answered (c.in-Ok.ensures.ends.ends.keeps.on m b) l c.in-Ok.ensures.ends.ends.end).so

pub compare_all-requires-clause-known : goal.compare_all-requires-clause-known
compare_all-requires-clause-known g c =
    let now : (g.A.Access.reported c.finish.new.self).asks.calls ≡ settled_last ((g.A.Access.reported c.args.access.now).asks.calls ++ load_calls c.args.ap c.args.pieces.now) =
    c.in-Ok-finish.ensures.calls ∙ finish_calls (g.A.Access.reported c.ask_both.new.access) c.in-Ok.ensures.ends.ends.end ∙ ap settled_last c.in-Ok.ensures.asks in
    known_all c.in-Ok.first (length c.args.pieces.now) (length (g.A.Access.reported c.args.access.now).asks.calls) (g.A.Access.reported c.finish.new.self).known c.in-Ok.ensures.first c.in-Ok.ensures.none
    (c.in-Ok-finish.ensures.ends.known ∙ long_all c.args.ap c.args.pieces.now (g.A.Access.reported c.args.access.now).asks.calls (g.A.Access.reported c.finish.new.self).asks.calls now)

pub returns-in-None-clause-loads : goal.returns-in-None-clause-loads
returns-in-None-clause-loads g c = λ m answered b l.
    let w = world_from m answered in
    let left = c.compare_all.ensures.keeps.goes.left answered l in
    let whole = ap (λ (x : List Ask). stop w x) (sym c.in-Ok.ensures.asks) ∙ c.in-Ok-finish.ensures.whole m answered (c.in-Ok.ensures.ends.ends.keeps.on m b) left in
    compared w (g.A.Access.reported c.args.access.now).asks.calls (load_calls c.args.ap c.args.pieces.now) whole c.args.pieces.now (g.A.Access.reported c.finish.new.self).asks.calls c.in-Ok.first None c.in-Ok.ensures.first
    (c.in-Ok-finish.ensures.calls ∙ finish_calls (g.A.Access.reported c.ask_both.new.access) c.in-Ok.ensures.ends.ends.end ∙ ap settled_last c.in-Ok.ensures.asks)
    (sym c.in-None.is ∙ c.compare_all.ensures.differs m answered (c.in-Ok-finish.ensures.ends.keeps.on m (c.in-Ok.ensures.ends.ends.keeps.on m b)) l)

pub returns-in-None-clause-stops : goal.returns-in-None-clause-stops
returns-in-None-clause-stops g c = λ m answered b l.
    stop_none (world_from m answered) (g.A.Access.reported c.ask_both.new.access).asks.calls (g.A.Access.reported c.compare_all.new.access).asks.calls
    (c.compare_all.ensures.calls ∙ c.in-Ok-finish.ensures.calls ∙ finish_calls (g.A.Access.reported c.ask_both.new.access) c.in-Ok.ensures.ends.ends.end)
    (c.in-Ok-finish.ensures.whole m answered (c.in-Ok.ensures.ends.ends.keeps.on m b) (c.compare_all.ensures.keeps.goes.left answered l))

pub returns-in-Some-clause-loads : goal.returns-in-Some-clause-loads
returns-in-Some-clause-loads g c = λ m answered b l.
    let w = world_from m answered in
    let left = c.compare_all.ensures.keeps.goes.left answered l in
    let whole = ap (λ (x : List Ask). stop w x) (sym c.in-Ok.ensures.asks) ∙ c.in-Ok-finish.ensures.whole m answered (c.in-Ok.ensures.ends.ends.keeps.on m b) left in
    compared w (g.A.Access.reported c.args.access.now).asks.calls (load_calls c.args.ap c.args.pieces.now) whole c.args.pieces.now (g.A.Access.reported c.finish.new.self).asks.calls c.in-Ok.first (Some c.in-Some.differs) c.in-Ok.ensures.first
    (c.in-Ok-finish.ensures.calls ∙ finish_calls (g.A.Access.reported c.ask_both.new.access) c.in-Ok.ensures.ends.ends.end ∙ ap settled_last c.in-Ok.ensures.asks)
    (sym c.in-Some.is ∙ c.compare_all.ensures.differs m answered (c.in-Ok-finish.ensures.ends.keeps.on m (c.in-Ok.ensures.ends.ends.keeps.on m b)) l)

pub returns-in-Some-clause-stops : goal.returns-in-Some-clause-stops
returns-in-Some-clause-stops g c = λ m answered b l.
    stop_none (world_from m answered) (g.A.Access.reported c.ask_both.new.access).asks.calls (g.A.Access.reported c.compare_all.new.access).asks.calls
    (c.compare_all.ensures.calls ∙ c.in-Ok-finish.ensures.calls ∙ finish_calls (g.A.Access.reported c.ask_both.new.access) c.in-Ok.ensures.ends.ends.end)
    (c.in-Ok-finish.ensures.whole m answered (c.in-Ok.ensures.ends.ends.keeps.on m b) (c.compare_all.ensures.keeps.goes.left answered l))
