-- The run of a checked set is never lost.
use Rattle.std.proofs.Common.{◌≡◌, ◌⊎◌, inl, inr, ℕ, Bool, true, false, cond, ◌||◌, List, [], ◌∷◌, map, Option, Some, is_some, Result, Ok, Err, refl, sym, ap, ◌∙◌, bytes_eq}
use Rattle.target_calls.specs.World.{World, is_over, done_now, next_world}
use Rattle.target_calls.specs.declared.calls.Ask.{Ask}
use Rattle.target_machine.specs.Plain.{CallEnd, Answered, Skipped, Faulted, Small}
use Rattle.code_check.specs.BlockFaults.{names_after_all}
use Rattle.expr_grammar.specs.Names.{has_name}
use Rattle.sequence_trees.specs.Trees.{CodeSteps, SequenceTrees, steps_named}
use Rattle.sequence_rules.specs.Complete.{names_in}
use Rattle.sequence_rules.specs.declared.bindings.Binding.{Binding}
use Rattle.sequence_rules.specs.Direct.{Now, with_call, answers, made_call, direct}
use Rattle.sequence_rules.specs.Machine as machine
use Rattle.sequence_rules.specs.Machine.{Over, State, Out}
use Rattle.sequence_rules.specs.Runs as ending
use Rattle.sequence_rules.specs.Runs.{Program, Ending, as_values, outcome_over, outcome_of, meaning, watched_run}
use Rattle.sequence_rules.proofs.Watching.{watched_same}
use Rattle.sequence_meaning.specs.Valid.{IsChecked}
use Rattle.sequence_rules.proofs.CompleteSteps.{values_names}
use Rattle.sequence_meaning.proofs.Fine.{IsMet, Fine}
use Rattle.sequence_meaning.proofs.FineCalls.{IsMetBy, LacksNothing}
use Rattle.sequence_meaning.proofs.FineRuns.{start_names, run_fine}

-- ---- the machine lacks nothing

answer_met : (ask : Ask) (e : CallEnd) (t : Now) → IsMetBy (answers ask e t)
answer_met ask (Answered n) t = tt
answer_met ask Skipped t = tt
answer_met ask Faulted t = tt
answer_met ask Small t = tt

either_met : (b : Bool) (x y : Result (ℕ × Now) (Over × Now)) → IsMetBy x → IsMetBy y → IsMetBy (cond b x y)
either_met true x y h k = h
either_met false x y h k = k

made_met : (ask : Ask) (t : Now) → IsMetBy (made_call ask t)
unfolding made_call
made_met ask t = either_met (is_over t.world.answered) _ _ tt (answer_met ask (done_now t.world ask).end (with_call ask (next_world t.world ask) t))

direct_safe : LacksNothing (direct true)
unfolding direct
direct_safe = record { asked = λ u forgive t. made_met _ t; commanded = λ c t. made_met _ t }

-- ---- the start

named_one : (b c : Bool) (s : CodeSteps) (o : Option CodeSteps) → is_some o ≡ c → is_some (cond b (Some s) o) ≡ cond b true c
named_one true c s o h = refl
named_one false c s o h = h

either_or : (b c : Bool) → cond b true c ≡ (b || c)
either_or true c = refl
either_or false c = refl

some_named : (ss : List SequenceTrees) (name : List ℕ) → is_some (steps_named name ss) ≡ has_name (map (λ s. s.name) ss) name
some_named [] name = refl
some_named (s ∷ ss) name = named_one (bytes_eq name s.name) _ s.steps (steps_named name ss) (some_named ss name) ∙ either_or (bytes_eq name s.name) _

-- ---- the law

not_lost_over : (over : Over) (s : State ℕ Now) → IsMet over → (outcome_over over s).ending ≡ ending.Lost → ⊥
not_lost_over (machine.Halted cause) s h e = cc
not_lost_over (machine.Faulted call) s h e = cc
not_lost_over machine.Unanswered s h e = cc
not_lost_over machine.Lost s h e = h

not_lost : (P : State ℕ Now → Type 0) (out : Out ℕ Now (Unit {0})) → Fine P out → (outcome_of out).ending ≡ ending.Lost → ⊥
not_lost P (Ok x) h e = cc
not_lost P (Err x) h e = not_lost_over x.0 x.1 h e

never_lost : (w : World) (p : Program) (written : Option (List ℕ)) → IsChecked p → (outcome_of (watched_run w p written)).ending ≡ ending.Lost → ⊥
never_lost w p written h =
    not_lost (λ r. Unit {0}) (watched_run w p written)
    (run_fine (direct true) direct_safe p.turn_us p.set h.sound p.start (sym (some_named p.set.sequences p.start) ∙ h.start) _
    (record { globals = start_names (as_values (direct true) p.predefined) p.set.debugvars _ ∙ ap (λ ns. names_after_all ns p.set.debugvars) (values_names p.predefined ∙ h.names); locals = refl }))

pub nothing_missing : (w : World) (p : Program) (written : Option (List ℕ)) → IsChecked p → (outcome_of (watched_run w p written) ≡ outcome_of (meaning w p written)) × ((outcome_of (watched_run w p written)).ending ≡ ending.Lost → ⊥)
nothing_missing w p written h = (by (watched_same w p written), never_lost w p written h)
  where
    by : (outcome_of (watched_run w p written) ≡ outcome_of (meaning w p written)) ⊎ ((outcome_of (watched_run w p written)).ending ≡ ending.Lost) → outcome_of (watched_run w p written) ≡ outcome_of (meaning w p written)
    by (inl same) = same
    by (inr lost) = absurd (never_lost w p written h lost)
