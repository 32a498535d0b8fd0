-- There is room for more work.
use Rattle.std.proofs.Common.{◌≡◌, ◌∙◌, ℕ, ◌+◌, ◌*◌, ◌^◌, ◌≤◌, ◌<◌, List, [], ◌∷◌, ◌++◌, length, sym, ap, subst, arith, length-append}
use Rattle.target_machine.specs.State.{TargetState}
use Rattle.target_machine.specs.Plain.{action_attempt}
use Rattle.target_machine.specs.declared.access.RegAccess.{RegAccess}
use Rattle.dap_transfer.specs.State.{grown_work}
use Rattle.probe_core.specs.Bench.{BenchState}
use Rattle.probe_core.specs.Probe.{target_of, work_of}
use Rattle.target_calls.specs.Journal.{Entry, target_after}
use Rattle.target_calls.specs.Weights.{AreWeighty, weight_in}
use Rattle.target_calls.specs.declared.calls.Ask.{Ask}
use Rattle.target_calls.proofs.EntryLemmas.{weight_append, weight_some}
use Rattle.access_regs.specs.Journal.{issued_entries}
use Rattle.access_regs.specs.declared.planner.Planner.{Planner}
use Rattle.access_regs.proofs.LightLemmas.{journal_light}
use Rattle.access_regs.proofs.Lists.{actions_numbered}
use Rattle.target_calls.specs.Asks.{AreAskable, is_forgiving}
use Rattle.flight_laws.specs.Room.{ActionRoom, CallRoom, ForgivenRoom, HasRoom, PushRoom}
use Rattle.flight_laws.specs.UnderWay.{IsUnderWay}
use Rattle.flight_laws.specs.Sending.{entries_of_call}
use Rattle.flight_laws.proofs.FlightLemmas.{flight_length}
use Rattle.flight_laws.proofs.SendLemmas.{call_sends}
use Rattle.flight_laws.proofs.UnderWayLemmas.{weighty_tail}

-- entries that weigh something weigh at least as much as they are
at_least : (t : TargetState) (xs : List Entry) → AreWeighty xs → length xs ≤ weight_in t xs
at_least t [] h = omega arith
at_least t (x ∷ xs) h = let a = weight_some t x.action h.0 in let b = at_least (action_attempt t x.action).next xs h.1 in omega (arith, a, b)

weighty_front : (xs ys : List Entry) → AreWeighty (xs ++ ys) → AreWeighty xs
weighty_front [] ys h = tt
weighty_front (x ∷ xs) ys h = (h.0, weighty_front xs ys h.1)

-- all that is in the flight and still to be pushed has room
module _ (p : Planner) (calls : List Ask) (made flying rest : List Entry) (accesses : List RegAccess) (m0 m : BenchState) (askable : AreAskable calls)
    (on : IsUnderWay (issued_entries p (target_of m0.probe) calls) made flying rest accesses m0 m) (room : HasRoom calls m0) where
  abbrev t0 : TargetState
  t0 = target_of m0.probe

  -- the entries after those made
  after_made : weight_in t0 made + weight_in (target_after t0 made) (flying ++ rest) ≤ 60000012 * length calls
  after_made =
      let all = journal_light p t0 calls askable in
      let split : weight_in t0 (issued_entries p t0 calls) ≡ weight_in t0 made + weight_in (target_after t0 made) (flying ++ rest) = ap (weight_in t0) on.are ∙ weight_append t0 made (flying ++ rest) in
      omega (arith, all, split)

  pub rest_room : work_of m.probe + length flying + length rest < 2 ^ 64
  rest_room =
      let a = after_made in
      let b = at_least (target_after t0 made) (flying ++ rest) (weighty_tail made (flying ++ rest) (subst AreWeighty on.are on.weighty)) in
      let c = length-append flying rest in
      let w = on.work in
      omega (arith, a, b, c, w, room)

  -- of one that is made by itself all it weighs
  pub whole_room : work_of m.probe + weight_in (target_of m.probe) (flying ++ rest) < 2 ^ 64
  whole_room =
      let a : weight_in t0 made + weight_in (target_of m.probe) (flying ++ rest) ≤ 60000012 * length calls = subst (λ (s : TargetState). weight_in t0 made + weight_in s (flying ++ rest) ≤ 60000012 * length calls) (sym on.target) after_made in
      let w = on.work in
      omega (arith, a, w, room)

pub push_room : PushRoom
push_room p calls confirmed count flying e rest accesses came m0 m s room =
    let r = rest_room p calls s.made flying (e ∷ rest) accesses m0 m s.askable s.on room in
    omega (arith, r)

pub action_room : ActionRoom
action_room p calls confirmed count e rest came m0 m o s does room =
    let r = whole_room p calls s.made [] (e ∷ rest) [] m0 m s.askable s.on room in
    let w = does.work in
    omega (arith, r, w)

grown_few : (w n : ℕ) → grown_work w n ≤ w + n
grown_few w n = omega arith

pub forgiven_room : ForgivenRoom
forgiven_room p calls confirmed count flying abort rest accesses came m0 m o q part s flies does room =
    let r = rest_room p calls s.made flying (abort ∷ rest) accesses m0 m s.askable s.on room in
    let few = flies.does.made.most in
    let len = flight_length flying accesses s.on.flight in
    let work = flies.does.work in
    let most = grown_few (work_of m.probe) part.performed in
    let w = does.work in
    omega (arith, r, few, len, work, most, w)

pub call_room : CallRoom
call_room p a kept accesses came ask more m0 m f ok unmarked steps room =
    let s = call_sends p a kept accesses came ask m0 m f ok unmarked in
    let r = rest_room p (a.asks.calls ++ ask ∷ []) s.made f.flying (entries_of_call p m0 a kept ask) accesses m0 m s.askable s.on room in
    let len = flight_length (entries_of_call p m0 a kept ask) more (actions_numbered (length a.asks.calls) (is_forgiving ask) _ ∙ steps) in
    let i = f.issued_is in
    let c = f.confirmed in
    omega (arith, r, len, i, c)
