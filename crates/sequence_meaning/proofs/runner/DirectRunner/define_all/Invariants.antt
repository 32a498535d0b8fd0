use Rattle.std.proofs.Common.{◌≡◌, Bool, false, drop}
use Rattle.expr_grammar.specs.Tree.{code_trees}
use Rattle.seq_check.specs.Answers.{checked_trees}
use Rattle.sequence_rules.specs.Direct.{direct}
use Rattle.sequence_rules.specs.Steps as m
use Rattle.sequence_rules.specs.Known.{Knows}
use Rattle.sequence_meaning.specs.Frame.{KeepsMadeAndKnown}
use Rattle.sequence_meaning.specs.Held.{state_seen}
use Rattle.sequence_meaning.proofs.runner.DirectRunner.define_all.Given as goal

abbrev pub invariant-loop-one : goal.invariant-loop-one
invariant-loop-one g l = record {
  same : (known : Bool) → Knows known (g.K.Sink.written l.fn.sink) → m.debug_result (direct false) l.self.turn_us (checked_trees l.self.set.now) (code_trees l.code) (state_seen known l.fn.held l.fn.target (g.K.Sink.written l.fn.sink)) ≡ m.debug_result (direct false) l.self.turn_us (checked_trees l.self.set.now) (code_trees (drop l.one-index l.code)) (state_seen known l.held l.target (g.K.Sink.written l.sink));
  keeps : KeepsMadeAndKnown g.K.Sink.written l.fn.held l.fn.target l.fn.sink l.held l.target l.sink;
  faults : g.K.Sink.faults l.sink ≡ g.K.Sink.faults l.fn.sink;
}
