use Rattle.std.proofs.Common.{◌∙◌, ◌+◌, ◌++◌, ◌∷◌, [], false, List, length, length-append, drop, get_or, refl, ap, subst, arith}
use Rattle.std.proofs.lemmas.List.{at_drop_more}
use Rattle.std.proofs.lemmas.Result.{err_from_is_err_and}
use Rattle.target_machine.specs.Plain.{Makes}
use Rattle.target_machine.specs.declared.access.RegAccess.{RegAccess}
use Rattle.target_calls.specs.Journal.{Entry}
use Rattle.target_calls.specs.declared.calls.Ask.{Ask}
use Rattle.access_calls.proofs.KeepLemmas.{goes_trans}
use Rattle.packed_access.specs.Begun.{HasIssued, StopsAfterLines, strict_entries}
use Rattle.packed_access.proofs.FrameLemmas.{asks_further, further_then}
use Rattle.packed_access.proofs.sender.Sender.issue_all.Goals as goal

pub returns-in_err-issue-clause-gives : goal.returns-in_err-issue-clause-gives
returns-in_err-issue-clause-gives g c =
    let p = err_from_is_err_and c.from_residual.result c.from_residual.ensures.1 in
    rw (p.1, p.2) (record {
      on = λ m0 rest h. tt;
      spare = λ m0 rest points h s. tt;
      broke = λ m0 rest h. c.in_err-issue.ensures.broke m0 _ (c.loop-access.invariant.on m0 rest h);
      stops = λ m0 rest answered h left.
          subst (λ (calls : List Ask). StopsAfterLines m0 answered calls c.issue.new.self.log.lines c.in_err-issue.field-0.0) c.loop-access.invariant.further.calls
          (c.in_err-issue.ensures.stops m0 _ answered (c.loop-access.invariant.on m0 rest h) left);
    })

pub returns-in_err-issue-clause-further : goal.returns-in_err-issue-clause-further
returns-in_err-issue-clause-further g c =
    let before = c.loop-access.invariant in
    let now = c.issue.ensures.further in
    let keeps = now.step.keeps in
    let p = err_from_is_err_and c.from_residual.result c.from_residual.ensures.1 in
    rw (p.1, p.2) (record {
      step = record {
        keeps = record {
          same_bench = keeps.same_bench ∙ before.identity;
          same_limits = keeps.same_limits ∙ before.limits;
          calls = keeps.calls ∙ before.further.calls;
          goes = goes_trans _ _ _ before.goes keeps.goes;
        };
        ends = c.in_err-issue.ensures.further.step.ends;
      };
      asks = now.asks ∙ asks_further _ _ before.further;
      so = tt;
      managed = now.managed ∙ before.managed;
    })

pub loop-access-preserved : goal.loop-access-preserved
loop-access-preserved g c =
    let accesses : List RegAccess = c.args.accesses.now in
    let i = c.loop-access.access-index in
    let access : RegAccess = get_or accesses i (record { ap = false; read = false; addr = 0; value = 0 }) in
    let entry : Entry = record { unit = c.args.unit; part = c.args.part; forgiving = false; action = Makes access } in
    let mid = c.loop-access.self in
    let before = c.loop-access.invariant in
    let now = c.in_ok-issue.ensures in
    record {
      on = λ m0 rest h.
          let there = at_drop_more (λ (l : List RegAccess). strict_entries c.args.unit c.args.part l ++ rest) accesses i (record { ap = false; read = false; addr = 0; value = 0 }) c.loop-access-test.true in
          let due = subst (λ (l : List Entry). HasIssued g.F.Flights.planner (g.F.Flights.state mid.flights) mid.log (g.F.Flights.accesses mid.flights) l m0) there (before.on m0 rest h) in
          now.on m0 entry (strict_entries c.args.unit c.args.part (drop (i + 1) accesses) ++ rest) due refl refl refl;
      spare = λ m0 rest points h s.
          let there = at_drop_more (λ (l : List RegAccess). strict_entries c.args.unit c.args.part l ++ rest) accesses i (record { ap = false; read = false; addr = 0; value = 0 }) c.loop-access-test.true in
          let due = subst (λ (l : List Entry). HasIssued g.F.Flights.planner (g.F.Flights.state mid.flights) mid.log (g.F.Flights.accesses mid.flights) l m0) there (before.on m0 rest h) in
          now.spare m0 entry (strict_entries c.args.unit c.args.part (drop (i + 1) accesses) ++ rest) points due refl (before.spare m0 rest points h s);
      goes = goes_trans _ _ _ before.goes c.issue.ensures.further.step.keeps.goes;
      entries = (let a = before.entries in let n = ap length now.entries ∙ length-append mid.log.entries (record { unit = c.args.unit; part = c.args.part } ∷ []) in omega (arith, a, n));
      further = further_then _ _ _ before.further now.further.so;
      pending = λ some. now.pending;
      managed = c.issue.ensures.further.managed ∙ before.managed;
      limits = c.issue.ensures.further.step.keeps.same_limits ∙ before.limits;
      identity = c.issue.ensures.further.step.keeps.same_bench ∙ before.identity;
    }
