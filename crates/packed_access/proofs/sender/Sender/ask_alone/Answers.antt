use Rattle.std.proofs.Common.{rules, ◌≡◌, ◌∙◌, ◌+◌, ◌<◌, ◌++◌, ◌∷◌, [], List, length, None, arith, refl, sym, ap, subst, length-append}
use Rattle.target_machine.specs.Plain.{call_actions}
use Rattle.target_machine.specs.declared.unit.Call.TheVariants.{Access}
use Rattle.probe_core.specs.Probe.{target_of}
use Rattle.target_calls.specs.Asks.{unit_ask}
use Rattle.target_calls.specs.NeedPoints.{Asks, asks_with_call}
use Rattle.target_calls.specs.World.{small_now, start_world}
use Rattle.target_calls.specs.declared.calls.Ask.{Ask}
use Rattle.access_regs.specs.Costs.{cost_by}
use Rattle.access_regs.specs.Journal.{large_of}
use Rattle.access_regs.specs.Kept.{Kept, forget}
use Rattle.access_regs.specs.Plan.{kept_after_settling}
use Rattle.packed_access.specs.Begun.{StopsAfterLines}
use Rattle.packed_access.specs.Forgiving.{IsDoneBy, LogHasTried}
use Rattle.packed_access.specs.Logs.{LogState, asks_of}
use Rattle.packed_access.proofs.NeedLemmas.{begun_needs, needs_new}
use Rattle.packed_access.proofs.TryBeginLemmas.{begin_settling, begin_trying, is_before, settled_table, target_settled}
use Rattle.packed_access.proofs.TryCloseLemmas.{closed_asks, closed_end, closed_known, closed_whole, has_closed}
use Rattle.packed_access.proofs.TryDoneLemmas.{unit_begun, unit_kept, unit_needs, unit_outcome}
use Rattle.packed_access.proofs.SparingLemmas.{counted_spared, has_grown, has_paid, spared_closed}
use Rattle.access_calls.proofs.KeepLemmas.{goes_trans}
use Rattle.packed_access.proofs.GoesLemmas.{goes_later}
use Rattle.packed_access.proofs.sender.Sender.ask_alone.Goals as goal

pub returns-in-Err-clause-gives : goal.returns-in-Err-clause-gives
returns-in-Err-clause-gives g c =
    let old = c.args.self.now in
    record {
      on = λ m0 calls ask this h. tt;
      spare = λ m0 calls ask left this h s. tt;
      needs = λ m0 calls ask this h. tt;
      broke = λ m0 calls ask same h.
          let u_is : 0 < length calls → c.max.result ≡ length calls = λ some. (let a = c.max.ensures in let b = c.count-count.ensures in let l = ap length h.are ∙ length-append calls (ask ∷ []) in omega (arith, a, b, l, some)) in
          let there = begin_settling g.F.Flights.planner c.args.forgive _ old.log _ old.managed calls ask c.args.unit.now m0 c.max.result h same c.requires.alone.alone c.requires.alone.may u_is in
          c.in-Err.ensures.gives.broke m0 _ there;
      stops = λ m0 calls ask answered same h left.
          let u_is : 0 < length calls → c.max.result ≡ length calls = λ some. (let a = c.max.ensures in let b = c.count-count.ensures in let l = ap length h.are ∙ length-append calls (ask ∷ []) in omega (arith, a, b, l, some)) in
          let there = begin_settling g.F.Flights.planner c.args.forgive _ old.log _ old.managed calls ask c.args.unit.now m0 c.max.result h same c.requires.alone.alone c.requires.alone.may u_is in
          c.in-Err.ensures.gives.stops m0 _ answered there left;
    }

pub returns-in-Err-send-clause-gives : goal.returns-in-Err-send-clause-gives
returns-in-Err-send-clause-gives g c =
    let old = c.args.self.now in
    record {
      on = λ m0 calls ask this h. tt;
      spare = λ m0 calls ask left this h s. tt;
      needs = λ m0 calls ask this h. tt;
      broke = λ m0 calls ask same h.
          let u_is : 0 < length calls → c.max.result ≡ length calls = λ some. (let a = c.max.ensures in let b = c.count-count.ensures in let l = ap length h.are ∙ length-append calls (ask ∷ []) in omega (arith, a, b, l, some)) in
          let there = begin_settling g.F.Flights.planner c.args.forgive _ old.log _ old.managed calls ask c.args.unit.now m0 c.max.result h same c.requires.alone.alone c.requires.alone.may u_is in
          let there2 = c.in-Ok.ensures.gives.on m0 _ there in
          c.in-Err-send.ensures.gives.broke m0 _ there2;
      stops = λ m0 calls ask answered same h left.
          let u_is : 0 < length calls → c.max.result ≡ length calls = λ some. (let a = c.max.ensures in let b = c.count-count.ensures in let l = ap length h.are ∙ length-append calls (ask ∷ []) in omega (arith, a, b, l, some)) in
          let there = begin_settling g.F.Flights.planner c.args.forgive _ old.log _ old.managed calls ask c.args.unit.now m0 c.max.result h same c.requires.alone.alone c.requires.alone.may u_is in
          let there2 = c.in-Ok.ensures.gives.on m0 _ there in
          subst (λ (l : List Ask). StopsAfterLines m0 answered l c.send.new.self.log.lines c.in-Err-send.stop) c.in-Ok.ensures.further.so.calls (c.in-Err-send.ensures.gives.stops m0 _ answered there2 left);
    }

pub returns-in-Err-try_unit-clause-gives : goal.returns-in-Err-try_unit-clause-gives
returns-in-Err-try_unit-clause-gives g c =
    let old = c.args.self.now in
    let sent = c.send.new.self in
    let may = c.requires.alone.may in
    let managed3 : sent.managed ≡ kept_after_settling old.managed = c.send.ensures.exchanges.managed ∙ c.settle.ensures.further.managed in
    let calls_same : sent.log.calls ≡ old.log.calls = ap (λ (l : LogState). l.calls) c.in-Ok-send.ensures.log ∙ c.in-Ok.ensures.further.so.calls in
    record {
      on = λ m0 calls ask this h. tt;
      spare = λ m0 calls ask left this h s. tt;
      needs = λ m0 calls ask this h. tt;
      broke = λ m0 calls ask same h.
          let u_is : 0 < length calls → c.max.result ≡ length calls = λ some. (let a = c.max.ensures in let b = c.count-count.ensures in let l = ap length h.are ∙ length-append calls (ask ∷ []) in omega (arith, a, b, l, some)) in
          let there = begin_settling g.F.Flights.planner c.args.forgive _ old.log _ old.managed calls ask c.args.unit.now m0 c.max.result h same c.requires.alone.alone c.requires.alone.may u_is in
          let there2 = c.in-Ok.ensures.gives.on m0 _ there in
          let t0 = target_of m0.probe in
          let there3 = c.in-Ok-send.ensures.gives.on m0 _ there2 in
          let calls3 : sent.log.calls ≡ calls ++ unit_ask c.args.unit.now c.args.forgive ∷ [] = ap (λ (l : LogState). l.calls) c.in-Ok-send.ensures.log ∙ c.in-Ok.ensures.further.so.calls ∙ h.are ∙ ap (λ (a : Ask). calls ++ a ∷ []) same in
          let whole3 : sent.log.whole ≡ length calls = (let w = ap (λ (l : LogState). l.whole) c.in-Ok-send.ensures.log in let f = c.in-Ok.ensures.further.so.whole in let o = c.requires.ready.whole in let l = ap length h.are ∙ length-append calls (ask ∷ []) in omega (arith, w, f, o, l)) in
          let came3 : sent.log.came ≡ length calls = (let w = ap (λ (l : LogState). l.came) c.in-Ok-send.ensures.log in let f = c.in-Ok.ensures.further.so.whole in let o = c.requires.ready.whole in let l = ap length h.are ∙ length-append calls (ask ∷ []) in omega (arith, w, f, o, l)) in
          let b = is_before g.F.Flights.planner _ sent.log calls (unit_ask c.args.unit.now c.args.forgive) _ m0 there3 calls3 came3 in
          let tried = subst (λ (q : Kept). LogHasTried g.F.Flights.planner c.args.forgive (g.F.Flights.state sent.flights) sent.log c.args.unit.now q (target_settled g.F.Flights.planner (target_of m0.probe) calls old.managed) [] (call_actions (target_settled g.F.Flights.planner (target_of m0.probe) calls old.managed) (large_of (kept_after_settling old.managed) c.args.unit.now) (Access c.args.unit.now)) m0) (sym managed3)
          (begin_trying g.F.Flights.planner c.args.forgive _ sent.log old.managed calls c.args.unit.now m0 h.kept_is c.requires.alone.alone may calls3 there3) in
          let table : length sent.managed.ports ≡ 256 = subst (λ (q : Kept). length q.ports ≡ 256) (sym managed3) (settled_table g.F.Flights.planner (target_of m0.probe) old.managed calls (unit_ask c.args.unit.now c.args.forgive) h.kept_is b) in
          record { so = (c.in-Err-try_unit.ensures.broke m0 _ _ table tried).ended };
      stops = λ m0 calls ask answered same h left.
          let u_is : 0 < length calls → c.max.result ≡ length calls = λ some. (let a = c.max.ensures in let b = c.count-count.ensures in let l = ap length h.are ∙ length-append calls (ask ∷ []) in omega (arith, a, b, l, some)) in
          let there = begin_settling g.F.Flights.planner c.args.forgive _ old.log _ old.managed calls ask c.args.unit.now m0 c.max.result h same c.requires.alone.alone c.requires.alone.may u_is in
          let there2 = c.in-Ok.ensures.gives.on m0 _ there in
          let t0 = target_of m0.probe in
          let there3 = c.in-Ok-send.ensures.gives.on m0 _ there2 in
          let calls3 : sent.log.calls ≡ calls ++ unit_ask c.args.unit.now c.args.forgive ∷ [] = ap (λ (l : LogState). l.calls) c.in-Ok-send.ensures.log ∙ c.in-Ok.ensures.further.so.calls ∙ h.are ∙ ap (λ (a : Ask). calls ++ a ∷ []) same in
          let whole3 : sent.log.whole ≡ length calls = (let w = ap (λ (l : LogState). l.whole) c.in-Ok-send.ensures.log in let f = c.in-Ok.ensures.further.so.whole in let o = c.requires.ready.whole in let l = ap length h.are ∙ length-append calls (ask ∷ []) in omega (arith, w, f, o, l)) in
          let came3 : sent.log.came ≡ length calls = (let w = ap (λ (l : LogState). l.came) c.in-Ok-send.ensures.log in let f = c.in-Ok.ensures.further.so.whole in let o = c.requires.ready.whole in let l = ap length h.are ∙ length-append calls (ask ∷ []) in omega (arith, w, f, o, l)) in
          let b = is_before g.F.Flights.planner _ sent.log calls (unit_ask c.args.unit.now c.args.forgive) _ m0 there3 calls3 came3 in
          let tried = subst (λ (q : Kept). LogHasTried g.F.Flights.planner c.args.forgive (g.F.Flights.state sent.flights) sent.log c.args.unit.now q (target_settled g.F.Flights.planner (target_of m0.probe) calls old.managed) [] (call_actions (target_settled g.F.Flights.planner (target_of m0.probe) calls old.managed) (large_of (kept_after_settling old.managed) c.args.unit.now) (Access c.args.unit.now)) m0) (sym managed3)
          (begin_trying g.F.Flights.planner c.args.forgive _ sent.log old.managed calls c.args.unit.now m0 h.kept_is c.requires.alone.alone may calls3 there3) in
          let table : length sent.managed.ports ≡ 256 = subst (λ (q : Kept). length q.ports ≡ 256) (sym managed3) (settled_table g.F.Flights.planner (target_of m0.probe) old.managed calls (unit_ask c.args.unit.now c.args.forgive) h.kept_is b) in
          subst (λ (l : List Ask). StopsAfterLines m0 answered l c.try_unit.new.self.log.lines c.in-Err-try_unit.stop) calls_same ((c.in-Err-try_unit.ensures.broke m0 _ _ table tried).stops answered left);
    }

pub returns-in-Ok-try_unit-clause-gives : goal.returns-in-Ok-try_unit-clause-gives
returns-in-Ok-try_unit-clause-gives g c =
    let old = c.args.self.now in
    let sent = c.send.new.self in
    let may = c.requires.alone.may in
    let managed3 : sent.managed ≡ kept_after_settling old.managed = c.send.ensures.exchanges.managed ∙ c.settle.ensures.further.managed in
    let unit_done = c.try_unit.new.self in
    let word = c.in-Ok-try_unit.tried.word in
    let new_calls : c.close_call.new.log.calls ≡ unit_done.log.calls = ap (λ (l : LogState). l.calls) c.close_call.ensures.answer ∙ ap (λ (a : Asks). a.calls) (closed_asks c.in-Ok-try_unit.tried.word unit_done.log) in
    let kept : c.forget.new.self ≡ forget unit_done.managed _ = c.forget.ensures ∙ ap (forget unit_done.managed) c.port_of.ensures in
    let end : c.close_call.new.log.end ≡ None = ap (λ (l : LogState). l.end) c.close_call.ensures.answer ∙ closed_end c.in-Ok-try_unit.tried.word unit_done.log ∙ c.in-Ok-try_unit.ensures.tries.further.end in
    let whole : c.close_call.new.log.whole ≡ length c.close_call.new.log.calls = ap (λ (l : LogState). l.whole) c.close_call.ensures.answer ∙ (closed_whole c.in-Ok-try_unit.tried.word unit_done.log).0 ∙ ap length (sym new_calls) in
    let came : c.close_call.new.log.came ≡ length c.close_call.new.log.calls = ap (λ (l : LogState). l.came) c.close_call.ensures.answer ∙ (closed_whole c.in-Ok-try_unit.tried.word unit_done.log).1 ∙ ap length (sym new_calls) in
    let needs : c.close_call.new.log.needs ≡ old.log.needs = ap (λ (l : LogState). l.needs) c.close_call.ensures.answer ∙ ap (λ (a : Asks). a.needs) (closed_asks c.in-Ok-try_unit.tried.word unit_done.log) ∙ c.in-Ok-try_unit.ensures.tries.further.needs ∙ ap (λ (l : LogState). l.needs) c.in-Ok-send.ensures.log ∙ c.in-Ok.ensures.further.so.needs in
    record {
      on = λ m0 calls ask same h.
          let u_is : 0 < length calls → c.max.result ≡ length calls = λ some. (let a = c.max.ensures in let b = c.count-count.ensures in let l = ap length h.are ∙ length-append calls (ask ∷ []) in omega (arith, a, b, l, some)) in
          let there = begin_settling g.F.Flights.planner c.args.forgive _ old.log _ old.managed calls ask c.args.unit.now m0 c.max.result h same c.requires.alone.alone c.requires.alone.may u_is in
          let there2 = c.in-Ok.ensures.gives.on m0 _ there in
          let t0 = target_of m0.probe in
          let there3 = c.in-Ok-send.ensures.gives.on m0 _ there2 in
          let calls3 : sent.log.calls ≡ calls ++ unit_ask c.args.unit.now c.args.forgive ∷ [] = ap (λ (l : LogState). l.calls) c.in-Ok-send.ensures.log ∙ c.in-Ok.ensures.further.so.calls ∙ h.are ∙ ap (λ (a : Ask). calls ++ a ∷ []) same in
          let whole3 : sent.log.whole ≡ length calls = (let w = ap (λ (l : LogState). l.whole) c.in-Ok-send.ensures.log in let f = c.in-Ok.ensures.further.so.whole in let o = c.requires.ready.whole in let l = ap length h.are ∙ length-append calls (ask ∷ []) in omega (arith, w, f, o, l)) in
          let came3 : sent.log.came ≡ length calls = (let w = ap (λ (l : LogState). l.came) c.in-Ok-send.ensures.log in let f = c.in-Ok.ensures.further.so.whole in let o = c.requires.ready.whole in let l = ap length h.are ∙ length-append calls (ask ∷ []) in omega (arith, w, f, o, l)) in
          let b = is_before g.F.Flights.planner _ sent.log calls (unit_ask c.args.unit.now c.args.forgive) _ m0 there3 calls3 came3 in
          let tried = subst (λ (q : Kept). LogHasTried g.F.Flights.planner c.args.forgive (g.F.Flights.state sent.flights) sent.log c.args.unit.now q (target_settled g.F.Flights.planner (target_of m0.probe) calls old.managed) [] (call_actions (target_settled g.F.Flights.planner (target_of m0.probe) calls old.managed) (large_of (kept_after_settling old.managed) c.args.unit.now) (Access c.args.unit.now)) m0) (sym managed3)
          (begin_trying g.F.Flights.planner c.args.forgive _ sent.log old.managed calls c.args.unit.now m0 h.kept_is c.requires.alone.alone may calls3 there3) in
          let table : length sent.managed.ports ≡ 256 = subst (λ (q : Kept). length q.ports ≡ 256) (sym managed3) (settled_table g.F.Flights.planner (target_of m0.probe) old.managed calls (unit_ask c.args.unit.now c.args.forgive) h.kept_is b) in
          let done = subst (λ (q : Kept). IsDoneBy g.F.Flights.planner c.args.forgive c.in-Ok-try_unit.tried.small c.in-Ok-try_unit.tried.word c.in-Ok-try_unit.tried.reads unit_done.managed (g.F.Flights.state unit_done.flights) unit_done.log c.args.unit.now q (target_settled g.F.Flights.planner (target_of m0.probe) calls old.managed) m0) managed3
          (c.in-Ok-try_unit.ensures.on m0 _ _ may table tried) in
          let outcome = unit_outcome g.F.Flights.planner c.args.forgive _ unit_done.log old.managed calls c.args.unit.now c.in-Ok-try_unit.tried.small c.in-Ok-try_unit.tried.word c.in-Ok-try_unit.tried.reads unit_done.managed m0 h.kept_is c.requires.alone.alone may b done in
          let calls4 : unit_done.log.calls ≡ calls ++ unit_ask c.args.unit.now c.args.forgive ∷ [] = c.in-Ok-try_unit.ensures.tries.further.calls ∙ calls3 in
          let came4 : unit_done.log.came ≡ length calls = c.in-Ok-try_unit.ensures.tries.came ∙ c.in-Ok-try_unit.ensures.tries.further.whole ∙ whole3 in
          let issuing = has_closed g.F.Flights.planner c.in-Ok-try_unit.tried.word _ unit_done.log c.close_call.new.log calls (unit_ask c.args.unit.now c.args.forgive) m0 outcome.issuing calls4 refl came4 outcome.results_are outcome.skips_are unit_done.sound.results_long unit_done.sound.few c.close_call.ensures.answer in
          begun_needs g.F.Flights.planner _ _ c.close_call.new.log c.need.new.self _ _ _ _ _ _ m0
          (unit_begun g.F.Flights.planner c.args.forgive _ _ c.close_call.new.log _ _ _ _ calls c.args.unit.now m0 issuing end whole came (new_calls ∙ calls4) (unit_kept g.F.Flights.planner c.args.forgive (target_of m0.probe) old.managed calls c.args.unit.now unit_done.managed h.kept_is c.requires.alone.alone may done.kept_is ∙ sym kept) c.in-Ok-try_unit.ensures.tries.empty)
          refl refl (needs_new c.close_call.new.log c.need.new.self _ _ c.need.ensures.answer.so);
      spare = λ m0 calls ask left same h s.
          let u_is : 0 < length calls → c.max.result ≡ length calls = λ some. (let a = c.max.ensures in let b = c.count-count.ensures in let l = ap length h.are ∙ length-append calls (ask ∷ []) in omega (arith, a, b, l, some)) in
          let there = begin_settling g.F.Flights.planner c.args.forgive _ old.log _ old.managed calls ask c.args.unit.now m0 c.max.result h same c.requires.alone.alone c.requires.alone.may u_is in
          let there2 = c.in-Ok.ensures.gives.on m0 _ there in
          let there3 = c.in-Ok-send.ensures.gives.on m0 _ there2 in
          let spared = c.in-Ok-send.ensures.gives.spare m0 _ s.paid there2 (c.in-Ok.ensures.gives.spare m0 _ s.paid there s.spared) in
          let tried = has_grown g.F.Flights.planner _ _ _ _ _ _ sent.log unit_done.log _ _ (s.paid + 1) 4 m0 there3 spared c.in-Ok-try_unit.ensures.packets c.in-Ok-try_unit.ensures.tries.further.calls c.in-Ok-try_unit.ensures.tries.later c.try_unit.ensures.tries.step.keeps.same_limits c.try_unit.ensures.tries.step.keeps.goes.limits in
          let closed_all = spared_closed g.F.Flights.planner _ _ _ c.in-Ok-try_unit.tried.word unit_done.log c.close_call.new.log ((s.paid + 1) + 4) (s.paid + (5 + c.in-Ok-try_unit.tried.reads)) m0 tried c.close_call.ensures.answer unit_done.sound.confirmed_within (omega arith) in
          has_paid g.F.Flights.planner _ _ _ c.close_call.new.log c.need.new.self old.log.needs s.paid c.count_points.result _ left m0 (counted_spared g.F.Flights.planner _ _ _ c.close_call.new.log s.paid (5 + c.in-Ok-try_unit.tried.reads) c.count_points.result m0 closed_all c.count_points.ensures) s.covers needs c.need.ensures.answer.so;
      needs = λ m0 calls ask same h.
          let u_is : 0 < length calls → c.max.result ≡ length calls = λ some. (let a = c.max.ensures in let b = c.count-count.ensures in let l = ap length h.are ∙ length-append calls (ask ∷ []) in omega (arith, a, b, l, some)) in
          let there = begin_settling g.F.Flights.planner c.args.forgive _ old.log _ old.managed calls ask c.args.unit.now m0 c.max.result h same c.requires.alone.alone c.requires.alone.may u_is in
          let there2 = c.in-Ok.ensures.gives.on m0 _ there in
          let t0 = target_of m0.probe in
          let there3 = c.in-Ok-send.ensures.gives.on m0 _ there2 in
          let calls3 : sent.log.calls ≡ calls ++ unit_ask c.args.unit.now c.args.forgive ∷ [] = ap (λ (l : LogState). l.calls) c.in-Ok-send.ensures.log ∙ c.in-Ok.ensures.further.so.calls ∙ h.are ∙ ap (λ (a : Ask). calls ++ a ∷ []) same in
          let whole3 : sent.log.whole ≡ length calls = (let w = ap (λ (l : LogState). l.whole) c.in-Ok-send.ensures.log in let f = c.in-Ok.ensures.further.so.whole in let o = c.requires.ready.whole in let l = ap length h.are ∙ length-append calls (ask ∷ []) in omega (arith, w, f, o, l)) in
          let came3 : sent.log.came ≡ length calls = (let w = ap (λ (l : LogState). l.came) c.in-Ok-send.ensures.log in let f = c.in-Ok.ensures.further.so.whole in let o = c.requires.ready.whole in let l = ap length h.are ∙ length-append calls (ask ∷ []) in omega (arith, w, f, o, l)) in
          let b = is_before g.F.Flights.planner _ sent.log calls (unit_ask c.args.unit.now c.args.forgive) _ m0 there3 calls3 came3 in
          let tried = subst (λ (q : Kept). LogHasTried g.F.Flights.planner c.args.forgive (g.F.Flights.state sent.flights) sent.log c.args.unit.now q (target_settled g.F.Flights.planner (target_of m0.probe) calls old.managed) [] (call_actions (target_settled g.F.Flights.planner (target_of m0.probe) calls old.managed) (large_of (kept_after_settling old.managed) c.args.unit.now) (Access c.args.unit.now)) m0) (sym managed3)
          (begin_trying g.F.Flights.planner c.args.forgive _ sent.log old.managed calls c.args.unit.now m0 h.kept_is c.requires.alone.alone may calls3 there3) in
          let table : length sent.managed.ports ≡ 256 = subst (λ (q : Kept). length q.ports ≡ 256) (sym managed3) (settled_table g.F.Flights.planner (target_of m0.probe) old.managed calls (unit_ask c.args.unit.now c.args.forgive) h.kept_is b) in
          let done = subst (λ (q : Kept). IsDoneBy g.F.Flights.planner c.args.forgive c.in-Ok-try_unit.tried.small c.in-Ok-try_unit.tried.word c.in-Ok-try_unit.tried.reads unit_done.managed (g.F.Flights.state unit_done.flights) unit_done.log c.args.unit.now q (target_settled g.F.Flights.planner (target_of m0.probe) calls old.managed) m0) managed3
          (c.in-Ok-try_unit.ensures.on m0 _ _ may table tried) in
          let calls4 : unit_done.log.calls ≡ calls ++ unit_ask c.args.unit.now c.args.forgive ∷ [] = c.in-Ok-try_unit.ensures.tries.further.calls ∙ calls3 in
          let asks : asks_of c.close_call.new.log ≡ record { calls = calls ++ unit_ask c.args.unit.now c.args.forgive ∷ []; needs = old.log.needs; fence = old.log.fence } =
          ap asks_of c.close_call.ensures.answer ∙ closed_asks c.in-Ok-try_unit.tried.word unit_done.log ∙ c.try_unit.ensures.tries.asks ∙ ap asks_of c.in-Ok-send.ensures.log ∙ c.settle.ensures.further.asks
          ∙ (λ j. record { calls = (h.are ∙ ap (λ (a : Ask). calls ++ a ∷ []) same) j; needs = old.log.needs; fence = old.log.fence }) in
          let count : c.count-count.result ≡ length c.close_call.new.log.calls = c.count-count.ensures ∙ ap length (h.are ∙ ap (λ (a : Ask). calls ++ a ∷ []) same ∙ sym (new_calls ∙ calls4)) in
          subst (λ (a : Ask). asks_of c.need.new.self ≡ asks_with_call (cost_by g.F.Flights.planner (target_of m0.probe) calls a) a (record { calls = calls; needs = old.log.needs; fence = old.log.fence })) (sym same)
          (unit_needs g.F.Flights.planner c.args.forgive (target_of m0.probe) old.managed calls c.args.unit.now c.in-Ok-try_unit.tried.reads old.log.needs old.log.fence c.close_call.new.log c.need.new.self _ _ c.requires.alone.alone h.kept_is may done.reads_are c.need.ensures.answer.so c.count_points.ensures count asks);
      broke = λ m0 calls ask this h. tt;
      stops = λ m0 calls ask answered this h left. tt;
    }

pub returns-in-Ok-try_unit-clause-small : goal.returns-in-Ok-try_unit-clause-small
returns-in-Ok-try_unit-clause-small g c = λ m0 calls ask same h.
    let old = c.args.self.now in
    let u_is : 0 < length calls → c.max.result ≡ length calls = λ some. (let a = c.max.ensures in let b = c.count-count.ensures in let l = ap length h.are ∙ length-append calls (ask ∷ []) in omega (arith, a, b, l, some)) in
    let there = begin_settling g.F.Flights.planner c.args.forgive _ old.log _ old.managed calls ask c.args.unit.now m0 c.max.result h same c.requires.alone.alone c.requires.alone.may u_is in
    let there2 = c.in-Ok.ensures.gives.on m0 _ there in
    let sent = c.send.new.self in
    let t0 = target_of m0.probe in
    let may = c.requires.alone.may in
    let there3 = c.in-Ok-send.ensures.gives.on m0 _ there2 in
    let calls3 : sent.log.calls ≡ calls ++ unit_ask c.args.unit.now c.args.forgive ∷ [] = ap (λ (l : LogState). l.calls) c.in-Ok-send.ensures.log ∙ c.in-Ok.ensures.further.so.calls ∙ h.are ∙ ap (λ (a : Ask). calls ++ a ∷ []) same in
    let managed3 : sent.managed ≡ kept_after_settling old.managed = c.send.ensures.exchanges.managed ∙ c.settle.ensures.further.managed in
    let whole3 : sent.log.whole ≡ length calls = (let w = ap (λ (l : LogState). l.whole) c.in-Ok-send.ensures.log in let f = c.in-Ok.ensures.further.so.whole in let o = c.requires.ready.whole in let l = ap length h.are ∙ length-append calls (ask ∷ []) in omega (arith, w, f, o, l)) in
    let came3 : sent.log.came ≡ length calls = (let w = ap (λ (l : LogState). l.came) c.in-Ok-send.ensures.log in let f = c.in-Ok.ensures.further.so.whole in let o = c.requires.ready.whole in let l = ap length h.are ∙ length-append calls (ask ∷ []) in omega (arith, w, f, o, l)) in
    let b = is_before g.F.Flights.planner _ sent.log calls (unit_ask c.args.unit.now c.args.forgive) _ m0 there3 calls3 came3 in
    let tried = subst (λ (q : Kept). LogHasTried g.F.Flights.planner c.args.forgive (g.F.Flights.state sent.flights) sent.log c.args.unit.now q (target_settled g.F.Flights.planner (target_of m0.probe) calls old.managed) [] (call_actions (target_settled g.F.Flights.planner (target_of m0.probe) calls old.managed) (large_of (kept_after_settling old.managed) c.args.unit.now) (Access c.args.unit.now)) m0) (sym managed3)
    (begin_trying g.F.Flights.planner c.args.forgive _ sent.log old.managed calls c.args.unit.now m0 h.kept_is c.requires.alone.alone may calls3 there3) in
    let table : length sent.managed.ports ≡ 256 = subst (λ (q : Kept). length q.ports ≡ 256) (sym managed3) (settled_table g.F.Flights.planner (target_of m0.probe) old.managed calls (unit_ask c.args.unit.now c.args.forgive) h.kept_is b) in
    let unit_done = c.try_unit.new.self in
    let word = c.in-Ok-try_unit.tried.word in
    let done = subst (λ (q : Kept). IsDoneBy g.F.Flights.planner c.args.forgive c.in-Ok-try_unit.tried.small c.in-Ok-try_unit.tried.word c.in-Ok-try_unit.tried.reads unit_done.managed (g.F.Flights.state unit_done.flights) unit_done.log c.args.unit.now q (target_settled g.F.Flights.planner (target_of m0.probe) calls old.managed) m0) managed3
    (c.in-Ok-try_unit.ensures.on m0 _ _ may table tried) in
    let outcome = unit_outcome g.F.Flights.planner c.args.forgive _ unit_done.log old.managed calls c.args.unit.now c.in-Ok-try_unit.tried.small c.in-Ok-try_unit.tried.word c.in-Ok-try_unit.tried.reads unit_done.managed m0 h.kept_is c.requires.alone.alone may b done in
    outcome.small_is ∙ ap (small_now (start_world (target_of m0.probe) None) calls) (sym same)

pub returns-in-Ok-try_unit-clause-step : goal.returns-in-Ok-try_unit-clause-step
returns-in-Ok-try_unit-clause-step g c =
    let unit_done = c.try_unit.new.self in
    let word = c.in-Ok-try_unit.tried.word in
    let noted : c.need.new.self ≡ record c.close_call.new.log { needs = c.need.new.self.needs; fence = c.need.new.self.fence; room = c.need.new.self.room } = needs_new c.close_call.new.log c.need.new.self _ _ c.need.ensures.answer.so in
    let end : c.need.new.self.end ≡ None = ap (λ (l : LogState). l.end) noted ∙ ap (λ (l : LogState). l.end) c.close_call.ensures.answer ∙ closed_end c.in-Ok-try_unit.tried.word unit_done.log ∙ c.in-Ok-try_unit.ensures.tries.further.end in
    let came : c.need.new.self.came ≡ length unit_done.log.calls = ap (λ (l : LogState). l.came) noted ∙ ap (λ (l : LogState). l.came) c.close_call.ensures.answer ∙ (closed_whole c.in-Ok-try_unit.tried.word unit_done.log).1 in
    let known : c.need.new.self.known ≡ length unit_done.log.calls = ap (λ (l : LogState). l.known) noted ∙ ap (λ (l : LogState). l.known) c.close_call.ensures.answer ∙ closed_known c.in-Ok-try_unit.tried.word unit_done.log in
    let calls : c.need.new.self.calls ≡ unit_done.log.calls = ap (λ (l : LogState). l.calls) noted ∙ ap (λ (l : LogState). l.calls) c.close_call.ensures.answer ∙ ap (λ (a : Asks). a.calls) (closed_asks word unit_done.log) in
    record {
      keeps = record {
        same_bench = c.try_unit.ensures.tries.step.keeps.same_bench ∙ c.send.ensures.exchanges.step.keeps.same_bench ∙ c.settle.ensures.further.step.keeps.same_bench;
        same_limits = c.try_unit.ensures.tries.step.keeps.same_limits ∙ c.send.ensures.exchanges.step.keeps.same_limits ∙ c.settle.ensures.further.step.keeps.same_limits;
        calls = calls ∙ c.try_unit.ensures.tries.step.keeps.calls ∙ c.send.ensures.exchanges.step.keeps.calls ∙ c.settle.ensures.further.step.keeps.calls;
        goes = goes_trans _ _ _ c.settle.ensures.further.step.keeps.goes (goes_trans _ _ _ c.send.ensures.exchanges.step.keeps.goes (goes_trans _ _ _ c.try_unit.ensures.tries.step.keeps.goes
            (goes_later _ _ unit_done.log c.need.new.self _ _ _ _ c.in-Ok-try_unit.ensures.tries.further.end end
            (let w = unit_done.sound.came_within in omega (arith, w, came)) (let w = unit_done.sound.known_within in omega (arith, w, known)))));
      };
      ends = record { no_end = end; ended = tt; memory = tt };
    }

pub returns-in-Ok-try_unit-clause-asks : goal.returns-in-Ok-try_unit-clause-asks
returns-in-Ok-try_unit-clause-asks g c = record {
  whole = search rules;
  settles = search rules;
  fenced =
      let unit_done = c.try_unit.new.self in
      let noted : c.need.new.self ≡ record c.close_call.new.log { needs = c.need.new.self.needs; fence = c.need.new.self.fence; room = c.need.new.self.room } = needs_new c.close_call.new.log c.need.new.self _ _ c.need.ensures.answer.so in
      let known : c.need.new.self.known ≡ length unit_done.log.calls = ap (λ (l : LogState). l.known) noted ∙ ap (λ (l : LogState). l.known) c.close_call.ensures.answer ∙ closed_known c.in-Ok-try_unit.tried.word unit_done.log in
      let calls : length c.need.new.self.calls ≡ length unit_done.log.calls = ap (λ (l : LogState). length l.calls) noted ∙ ap (λ (l : LogState). length l.calls) c.close_call.ensures.answer ∙ ap (λ (a : Asks). length a.calls) (closed_asks c.in-Ok-try_unit.tried.word unit_done.log) in
      λ past. absurd (let w = c.need.ensures.answer.sound.fence_within in omega (arith, known, calls, w, past));
}
