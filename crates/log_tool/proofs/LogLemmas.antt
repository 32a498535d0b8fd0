-- The lines after what was seen.
use Rattle.std.proofs.Common.{◌≡◌, ◌∙◌, ℕ, List, [], ◌++◌, ap, sym, append_assoc}
use Rattle.logged_runs.specs.Answers.{IsLoggedRun, IsSeenOfRun, LoggedRunEndsAs, end_place}
use Rattle.logged_runs.specs.declared.logged.Logged.{Logged}
use Rattle.logged_runs.specs.declared.logged.LoggedEnding.{LoggedEnding}
use Rattle.logged_runs.specs.declared.logged.LoggedEnding.TheVariants as l
use Rattle.run_coverage.specs.Covered.{IsOf}
use Rattle.run_coverage.specs.Text.{coverage_text}
use Rattle.run_events.specs.Events.{Event}
use Rattle.sequence_rules.specs.Runs.{Ending, Outcome, units_of}
use Rattle.sequence_rules.specs.Shared.{bindings_of}
use Rattle.sequence_rules.specs.declared.bindings.Binding.{Binding}
use Rattle.sequence_trees.specs.Trees.{SetTrees}
use Rattle.target_machine.specs.State.{TargetState}
use Rattle.log_tool.specs.Logs.{Subject, at_line, end_line, last_lines, stop_place, subject_events, subject_outcome}

-- the place where a run ended is where it stopped
stop_as : (o : Outcome) (e : LoggedEnding) (variables : List (Binding ℕ)) (seen : List Event) → LoggedRunEndsAs o e variables → end_place e seen ≡ stop_place o.ending seen
stop_as o l.Done variables seen is = sym (ap (λ (x : Ending). stop_place x seen) is.0)
stop_as o (l.Halted cause) variables seen is = sym (ap (λ (x : Ending). stop_place x seen) is.0)
stop_as o (l.Faulted unit what) variables seen is = sym (ap (λ (x : Ending). stop_place x seen) is.0)

-- three pieces, one after the other
pieces : (end at cov first second third : List ℕ) → first ≡ [] ++ end → second ≡ first ++ at → third ≡ second ++ cov → third ≡ end ++ (at ++ cov)
pieces end at cov first second third one two three = three ∙ (ap (λ (x : List ℕ). x ++ cov) (two ∙ ap (λ (x : List ℕ). x ++ at) one) ∙ simp append_assoc)

-- the last lines, by those of the ending, of the place and of the coverage
pub last_is : (s : Subject) (left : TargetState) (turns : ℕ) (run : Logged) (trees : SetTrees) (name end at cov first second third : List ℕ)
    → IsLoggedRun s.program s.target left run → IsSeenOfRun turns s.program s.target run → s.program.set ≡ trees → s.program.start ≡ name
    → ((o : Outcome) (variables : List (Binding ℕ)) → LoggedRunEndsAs o run.ending variables → end ≡ end_line o.ending (units_of o)) → at ≡ at_line run.at
    → ((events : List Event) → IsOf run.coverage events → cov ≡ coverage_text trees name events)
    → first ≡ [] ++ end → second ≡ first ++ at → third ≡ second ++ cov → third ≡ last_lines s
last_is s left turns run trees name end at cov first second third is seen set start ended placed covered one two three =
    let end_is : end ≡ end_line (subject_outcome s).ending (units_of (subject_outcome s)) = ended (subject_outcome s) (bindings_of run.variables) is.ending in
    let at_is : at ≡ at_line (stop_place (subject_outcome s).ending (subject_events s)) =
    placed ∙ ap at_line (seen.at ∙ stop_as (subject_outcome s) run.ending (bindings_of run.variables) (subject_events s) is.ending) in
    let cov_is : cov ≡ coverage_text s.program.set s.program.start (subject_events s) =
    covered (subject_events s) seen.coverage ∙ (ap (λ (t : SetTrees). coverage_text t name (subject_events s)) (sym set) ∙ ap (λ (n : List ℕ). coverage_text s.program.set n (subject_events s)) (sym start)) in
    pieces end at cov first second third one two three
    ∙ (ap (λ (x : List ℕ). x ++ (at ++ cov)) end_is
    ∙ (ap (λ (x : List ℕ). end_line (subject_outcome s).ending (units_of (subject_outcome s)) ++ (x ++ cov)) at_is
    ∙ ap (λ (x : List ℕ). end_line (subject_outcome s).ending (units_of (subject_outcome s)) ++ (at_line (stop_place (subject_outcome s).ending (subject_events s)) ++ x)) cov_is))
