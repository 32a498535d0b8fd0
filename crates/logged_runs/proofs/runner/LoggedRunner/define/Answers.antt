use Rattle.std.proofs.Common.{◌∙◌, ℕ, List, [], ◌∷◌, OnOk, ap, subst}
use Rattle.expr_grammar.specs.Tree.{tree}
use Rattle.run_events.specs.Events as e
use Rattle.sequence_rules.specs.Variables.{set_visible}
use Rattle.logged_runs.specs.Seen.{NotesByTurns}
use Rattle.logged_runs.specs.Walk.{now, seen_so_far}
use Rattle.logged_runs.proofs.NoteLemmas.{or_refused, unless_from, value_then}
use Rattle.logged_runs.proofs.RunLemmas.{defined_on}
use Rattle.logged_runs.proofs.WalkLemmas.{left_gives}
use Rattle.logged_runs.proofs.runner.LoggedRunner.define.Goals as goal

pub returns-clause-gives : goal.returns-clause-gives
returns-clause-gives c =
    left_gives c.assign.new.self.held.end c.assign.result (now c.assign.new.self c.evaluate.new.target) (now c.store.new.self c.evaluate.new.target) _
    (defined_on c.args.self.now c.args.name.now (tree c.args.expr.now) (now c.args.walked.now c.args.target.now) _ (now c.store.new.self c.evaluate.new.target) c.in_ok-number.number c.in_ok-number.ensures.gives
    (c.store.ensures.state _ ∙ ap (λ (n : List ℕ). set_visible n c.in_ok-number.number (now c.evaluate.new.walked c.evaluate.new.target)) c.as_str.ensures))
    (c.assign.ensures.state _) c.assign.ensures.refused

pub returns-clause-noted : goal.returns-clause-noted
returns-clause-noted c =
    value_then {A = ℕ} {B = Unit {0}} c.args.self.now.turns _ _ _ _ _ c.assign.new.self.held.end c.assign.result _ c.in_ok-number.number _ c.in_ok-number.ensures.gives c.in_ok-number.ensures.noted
    (unless_from c.args.self.now.turns _ _ _ _ c.assign.new.self.held.end c.assign.result c.store.ensures.seen (or_refused _ c.assign.new.self.held.end c.assign.result
    (subst (λ (n : List ℕ). OnOk c.assign.result (NotesByTurns c.args.self.now.turns (seen_so_far c.store.new.self) (seen_so_far c.assign.new.self) (λ shows. e.Assigns n c.in_ok-number.number ∷ []))) c.as_str-2.ensures (c.assign.ensures.noted c.args.self.now.turns)) c.assign.ensures.refused))
