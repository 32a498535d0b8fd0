use Rattle.std.proofs.Common.{◌≡◌, ◌∙◌, ◌+◌, ◌-◌, ℕ, ap, subst, refl, Option, Some, option_map, slice_get, IfSome}
use Rattle.std.proofs.lemmas.Option.{slice_get-get_or}
use Rattle.target_calls.specs.declared.calls.Ask.{Ask}
use Rattle.access_calls.specs.Numbers.{attempted_by}
use Rattle.access_calls.specs.declared.issued.Issued.{Issued}
use Rattle.packed_access.proofs.CountedLemmas.{kept_after}
use Rattle.packed_access.proofs.confirmed.Confirmed.stop_report.Goals as goal

pub returns-clause-numbers : goal.returns-clause-numbers
returns-clause-numbers c = λ first all calls count are what.
    let there = slice_get-get_or c.args.entries.now c.args.cut.confirmed _ c.requires.named in
    kept_after c.args.self.now first all c.args.entries.now calls _ c.args.cut.performed c.args.cut.confirmed _ _ _ count are there refl refl refl
    (c.attempted_by.ensures ∙ ap (attempted_by c.args.cause _) (ap (λ (n : ℕ). c.args.self.now.attempted + n) c.count_attempted.ensures.answer))
    (ap (λ (n : ℕ). c.args.self.now.skipped + n) c.count_skipped.ensures.answer) c.lines_before.ensures
    (subst (λ (at : Option Issued). IfSome at (λ e. option_map (λ (ask : Ask). ask.call) (slice_get calls (e.unit - 1)) ≡ Some c.args.what)) there what)
