use Rattle.std.proofs.Common.{◌≡◌, false, drop}
use Rattle.expr_grammar.specs.Tree.{code_trees}
use Rattle.run_events.specs.OfRuns as r
use Rattle.seq_check.specs.Answers.{checked_trees}
use Rattle.sequence_rules.specs.Direct.{direct}
use Rattle.sequence_rules.specs.Steps as m
use Rattle.logged_runs.specs.Seen.{NotesByTurns, SeenSoFar}
use Rattle.logged_runs.specs.Walk.{now, seen_so_far}
use Rattle.logged_runs.proofs.runner.LoggedRunner.define_all.Given as goal

abbrev pub invariant-loop-one : goal.invariant-loop-one
invariant-loop-one l = record {
  same : m.debug_result (direct false) l.self.turn_us (checked_trees l.self.set.now) (code_trees l.code) (now l.fn.walked l.fn.target) ≡ m.debug_result (direct false) l.self.turn_us (checked_trees l.self.set.now) (code_trees (drop l.one-index l.code)) (now l.walked l.target);
  noted : (c : SeenSoFar) → NotesByTurns l.self.turns (seen_so_far l.walked) c (λ shows. r.debugged_events shows l.self.turn_us (checked_trees l.self.set.now) (code_trees (drop l.one-index l.code)) (now l.walked l.target))
      → NotesByTurns l.self.turns (seen_so_far l.fn.walked) c (λ shows. r.debugged_events shows l.self.turn_us (checked_trees l.self.set.now) (code_trees l.code) (now l.fn.walked l.fn.target));
}
