use Rattle.std.proofs.Common.{rules, arith, ◌≡◌, ◌∙◌, ◌-◌, ◌+◌, ℕ, List, length, take, None, Option, Some, option_map, slice_get, IfSome, refl, sym, ap, subst}
use Rattle.std.proofs.lemmas.Option.{slice_get-get_or}
use Rattle.target_calls.specs.Journal.{Entry}
use Rattle.target_calls.specs.declared.calls.Ask.{Ask}
use Rattle.access_calls.specs.Issued.{AreKeptOf}
use Rattle.access_calls.specs.Numbers.{HasNumbers}
use Rattle.access_calls.specs.declared.issued.Issued.{Issued}
use Rattle.access_calls.specs.declared.stop.Stop.TheVariants.{Cut}
use Rattle.packed_access.specs.contracts.log.CallLog.{the_view}
use Rattle.packed_access.specs.Logs.{IsCause, IsLogCut, LogState}
use Rattle.packed_access.proofs.CountedLemmas.{counted_few}
use Rattle.packed_access.proofs.LogLemmas.{all_kept, counted_confirmed, cut_later, cut_lines, sound_cut, sound_state, there_within, unit_there}
use Rattle.packed_access.proofs.log.CallLog.end_at_cut.Goals as goal
use Rattle.packed_access.proofs.log.CallLog.end_at_cut.Goals.{in-2, in_default}

pub stop_report-stop-requires-clause-counts : goal.stop_report-stop-requires-clause-counts
stop_report-stop-requires-clause-counts c = counted_few c.self.inside.confirmed (take c.self.inside.entries.gone c.self.inside.entries.all) c.self.invariant.counts

pub stop_report-stop-requires-clause-unit : goal.stop_report-stop-requires-clause-unit
stop_report-stop-requires-clause-unit c =
    unit_there (length c.self.inside.asks.all) c.self.inside.entries.all c.kept_items-entries.result.now c.self.inside.entries.gone c.args.cut.confirmed c.kept_items-entries.ensures c.self.invariant.units

pub invariant_of-self : goal.invariant_of-self
invariant_of-self c =
    let s = c.stop_report-stop in
    let less = ap (λ (x : LogState). length x.entries - x.confirmed) c.self.view_is in
    let short = c.requires.confirmed in
    let there = slice_get-get_or c.kept_items-entries.result.now c.args.cut.confirmed _ (there_within c.self.inside.entries.all c.kept_items-entries.result.now c.self.inside.entries.gone c.args.cut.confirmed c.kept_items-entries.ensures (omega (arith, less, short))) in
    let numbers : (all : List Entry) → AreKeptOf all c.self.inside.entries.all → HasNumbers all c.self.inside.asks.all s.result.skipped s.result.lines s.result.report =
    λ all kept. s.ensures.numbers (take c.self.inside.entries.gone c.self.inside.entries.all) all c.self.inside.asks.all c.self.invariant.counts
    (all_kept all c.self.inside.entries.all c.kept_items-entries.result.now c.self.inside.entries.gone c.kept_items-entries.ensures kept)
    (subst (λ (at : Option Issued). IfSome at (λ e. option_map (λ (ask : Ask). ask.call) (slice_get c.self.inside.asks.all (e.unit - 1)) ≡ Some c.get-what.result.call)) (sym there) (ap (option_map (λ (ask : Ask). ask.call)) c.get-what.ensures)) in
    let none : c.self.inside.end ≡ None = ap (λ (x : LogState). x.end) c.self.view_is ∙ c.requires.open in
    let many = counted_confirmed c.self.inside.entries.gone c.self.inside.entries.all c.self.inside.confirmed c.self.invariant.confirmed_within c.self.invariant.counts in
    sound_cut _ _ _ _ _ _ _ _ _ _ _ _ _ _ _ s.result.lines _ c.self.invariant
    (cut_lines c.self.inside.entries.all c.self.inside.asks.all s.result.skipped s.result.lines s.result.report numbers c.self.invariant.units)
    (cut_later c.self.inside.came c.self.inside.entries.gone c.self.inside.entries.all c.self.inside.asks.all s.result.skipped s.result.lines s.result.report numbers (c.self.invariant.later none)
    (let e = s.ensures.confirmed in omega (arith, e, many)))

pub returns-clause-sound : goal.returns-clause-sound
returns-clause-sound c = sound_state _ _ _ _ _ _ _ _ _ _ _ _ _ _ _ _ _ _ (invariant_of-self c)

pub returns-clause-answer : goal.returns-clause-answer
returns-clause-answer c =
    let s = c.stop_report-stop in
    let less = ap (λ (x : LogState). length x.entries - x.confirmed) c.self.view_is in
    let short = c.requires.confirmed in
    let there = slice_get-get_or c.kept_items-entries.result.now c.args.cut.confirmed _ (there_within c.self.inside.entries.all c.kept_items-entries.result.now c.self.inside.entries.gone c.args.cut.confirmed c.kept_items-entries.ensures (omega (arith, less, short))) in
    let numbers : (all : List Entry) → AreKeptOf all c.self.inside.entries.all → HasNumbers all c.self.inside.asks.all s.result.skipped s.result.lines s.result.report =
    λ all kept. s.ensures.numbers (take c.self.inside.entries.gone c.self.inside.entries.all) all c.self.inside.asks.all c.self.invariant.counts
    (all_kept all c.self.inside.entries.all c.kept_items-entries.result.now c.self.inside.entries.gone c.kept_items-entries.ensures kept)
    (subst (λ (at : Option Issued). IfSome at (λ e. option_map (λ (ask : Ask). ask.call) (slice_get c.self.inside.asks.all (e.unit - 1)) ≡ Some c.get-what.result.call)) (sym there) (ap (option_map (λ (ask : Ask). ask.call)) c.get-what.ensures)) in
    let cause : IsCause c.args.cut.response c.match-cut.cause = elim c.match-cut.branch [ in-2 w ↦ subst (IsCause c.args.cut.response) (sym w.cause-is) (search rules) | in_default w ↦ subst (IsCause c.args.cut.response) (sym w.cause-is) (search rules) ] in
    let none : c.self.inside.end ≡ None = ap (λ (x : LogState). x.end) c.self.view_is ∙ c.requires.open in
    let many = counted_confirmed c.self.inside.entries.gone c.self.inside.entries.all c.self.inside.confirmed c.self.invariant.confirmed_within c.self.invariant.counts in
    let new : LogState = the_view (record c.self.inside { came = s.result.lines; end = Some (Cut s.result.report); lines = s.result.lines; skipped = s.result.skipped }) in
    subst (λ (x : LogState). IsLogCut c.args.cut.performed c.args.cut.confirmed c.args.cut.response x new s.result.report) c.self.view_is
    (record {
      cause = subst (IsCause c.args.cut.response) (sym s.ensures.cause) cause;
      accesses = s.ensures.accesses ∙ ap (λ (n : ℕ). n + c.args.cut.performed) many;
      confirmed_is = s.ensures.confirmed ∙ ap (λ (n : ℕ). n + c.args.cut.confirmed) many;
      numbers = numbers;
      later = cut_later c.self.inside.came c.self.inside.entries.gone c.self.inside.entries.all c.self.inside.asks.all s.result.skipped s.result.lines s.result.report numbers (c.self.invariant.later none)
          (let e = s.ensures.confirmed in omega (arith, e, many));
      next = refl;
    })
