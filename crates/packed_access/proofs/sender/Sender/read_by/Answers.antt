use Rattle.std.proofs.Common.{◌≡◌, ◌∙◌, ℕ, ◌+◌, ◌-◌, ◌++◌, ◌∷◌, [], List, length, arith, sym, ap, subst}
use Rattle.std.specs.Option.{unwrap_or}
use Rattle.batch_packer.specs.SlotList.{slot_at}
use Rattle.target_machine.specs.declared.access.RegAccess.{RegAccess}
use Rattle.probe_core.specs.Probe.{target_of}
use Rattle.target_calls.specs.declared.journal.Part.TheVariants.{Leads}
use Rattle.access_regs.specs.Journal.{gives, issued_entries}
use Rattle.packed_access.specs.Begun.{HasIssued, strict_entries, target_issued}
use Rattle.packed_access.specs.Logs.{LogState}
use Rattle.packed_access.proofs.ReadLemmas.{IsReadAt, read_gives}
use Rattle.packed_access.proofs.sender.Sender.read_by.Goals as goal

pub returns-clause-value : goal.returns-clause-value
returns-clause-value g c = λ m0 lead a rest is h.
    let old = c.args.self.now in
    let mid = c.issue_all.new.self in
    let new = c.send.new.self in
    let plan = c.args.accesses.now in
    let h' = subst (λ (l : List RegAccess). HasIssued g.F.Flights.planner (g.F.Flights.state old.flights) old.log (g.F.Flights.accesses old.flights) (strict_entries c.args.unit Leads l ++ rest) m0) is h in
    let there = c.in_ok-issue_all.ensures.gives.on m0 rest h in
    let after = c.in_ok-send.ensures.gives.on m0 rest there in
    let mid_calls : mid.log.calls ≡ old.log.calls = c.in_ok-issue_all.ensures.further.so.calls in
    let calls : new.log.calls ≡ old.log.calls = ap (λ (l : LogState). l.calls) c.in_ok-send.ensures.log ∙ mid_calls in
    let entries : length new.log.entries ≡ length mid.log.entries = ap (λ (l : LogState). length l.entries) c.in_ok-send.ensures.log in
    let grown : length mid.log.entries ≡ length old.log.entries + length plan = c.in_ok-issue_all.ensures.entries in
    let plan_is : length plan ≡ length (lead ++ a ∷ []) = ap length is in
    let count : length new.log.entries ≡ length old.log.entries + length (lead ++ a ∷ []) = omega (arith, entries, grown, plan_is) in
    let confirmed : new.log.confirmed ≡ length mid.log.entries = ap (λ (l : LogState). l.confirmed) c.in_ok-send.ensures.log in
    let all : new.log.confirmed ≡ length new.log.entries = confirmed ∙ sym entries in
    let r : IsReadAt g.F.Flights.planner old.log m0 (lead ++ a ∷ []) = read_gives g.F.Flights.planner _ _ old.log new.log _ _ c.args.unit Leads lead a rest m0 h' after calls count all in
    let at : length r.front + 1 ≡ length mid.log.entries = (let x = r.at in omega (arith, x, grown, plan_is)) in
    let last = c.in_ok-send.ensures.last m0 rest r.front r.entry r.more there (ap (issued_entries g.F.Flights.planner (target_of m0.probe)) mid_calls ∙ r.is) at (c.in_ok-issue_all.ensures.pending c.requires.some) in
    c.value.ensures ∙ ap (λ (n : ℕ). unwrap_or (slot_at (g.F.Flights.values new.flights) (n - 1)) 0) c.count_pending-place.ensures ∙ last ∙ r.gives_it ∙ ap (gives (target_issued g.F.Flights.planner old.log m0)) (sym is)
