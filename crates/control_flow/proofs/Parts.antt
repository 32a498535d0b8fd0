-- Parts of expressions and steps with results that come later, once what comes before them is known.
use Rattle.std.proofs.Common.{◌≡◌, ℕ, List, Option, None, Some, unwrap_or, Result, Ok, refl, sym, ap, subst}
use Rattle.dap_base.specs.Outcome.{◌>>=◌}
use Rattle.expr_grammar.specs.declared.code.Name.{Name}
use Rattle.expr_grammar.specs.Tree as t
use Rattle.expr_grammar.specs.Tree.{Tree, ArgTrees}
use Rattle.function_table.specs.declared.function.Function.{Function}
use Rattle.function_table.specs.Lookup.{function_named}
use Rattle.sequence_trees.specs.Trees.{CodeSteps, SetTrees}
use Rattle.target_calls.specs.declared.calls.Value.{Value}
use Rattle.target_calls.specs.declared.calls.Value.TheVariants.{Number}
use Rattle.target_calls.specs.NeedPoints.{Costs}
use Rattle.target_calls.specs.World.{World}
use Rattle.access_calls.specs.Reported.{AccessView}
use Rattle.sequence_rules.specs.Calls.{missing, value_or_missing, guarded_rest}
use Rattle.sequence_rules.specs.Late.{Late, late}
use Rattle.sequence_rules.specs.Machine.{State, Out}
use Rattle.sequence_rules.specs.Polls.{poll_of}
use Rattle.sequence_rules.specs.Steps.{timeout_of, turn_count, loop_result, repeat_result, sequence_at}
use Rattle.sequence_rules.specs.Values.{named_value, stored_value, is_call, text_of, call_result, value}
use Rattle.sequence_rules.specs.Variables.{visible, set_visible}
use Rattle.function_calls.specs.declared.end.End.{End}
use Rattle.function_calls.specs.Ends.{MeansLate}

abbrev S : Type 0
S = State Value Late

abbrev O : Type 0 → Type 0
O A = Out Value Late A

module _ (cost : Costs) (w : World) where
  -- ---- values

  pub number_on : (seq : List ℕ → S → O (Unit {0})) (n : ℕ) (s : S) → value (late cost w) seq (t.Number n) s ≡ Ok (Number n, s)
  unfolding value late
  number_on seq n s = refl

  pub name_on : (seq : List ℕ → S → O (Unit {0})) (name : Name) (v : Value) (s : S) → v ≡ unwrap_or (visible name.text s) (Number 0) → value (late cost w) seq (t.Named name) s ≡ Ok (v, s)
  unfolding value named_value value_or_missing missing late
  name_on seq name v s is = by_value (visible name.text s) is
    where
      by_value : (o : Option Value) → v ≡ unwrap_or o (Number 0) → value_or_missing (late cost w) (Number 0) o s ≡ Ok (v, s)
      by_value None e = ap (λ x. Ok (x, s)) (sym e)
      by_value (Some x) e = ap (λ x. Ok (x, s)) (sym e)

  pub stored_on : (name : Name) (v : Value) (s now : S) → now ≡ set_visible name.text v s → stored_value (late cost w) name v s ≡ Ok (v, now)
  unfolding stored_value guarded_rest late
  stored_on name v s now at = rw at refl

  -- ---- calls

  module _ (seq : List ℕ → S → O (Unit {0})) where
    -- the function of a call, once its arguments are numbers
    pub called_as : (name : Name) (args : ArgTrees) (ns : List ℕ) (s : S) (function : Option Function) (text : List ℕ) → function ≡ function_named name.text → text ≡ text_of args
        → call_result (late cost w) seq function text ns s ≡ guarded_rest (late cost w) (is_call (function_named name.text) args) (λ r. call_result (late cost w) seq (function_named name.text) (text_of args) ns r) s
    unfolding guarded_rest late
    called_as name args ns s function text its words = rw its (rw words refl)

    pub called_none : (text ns : List ℕ) (s : S) → call_result (late cost w) seq None text ns s ≡ Ok (Number 0, s)
    unfolding call_result missing late
    called_none text ns s = refl

    pub repeated_on : (reached : AccessView) (turn_us : ℕ) (e : Tree) (timeout : Option ℕ) (n : ℕ) (steps : CodeSteps) (body : S → O (Unit {0})) (s now : S) (result : Result (Unit {0}) End) → n ≡ turn_count turn_us (unwrap_or (timeout_of timeout) 0)
        → MeansLate w reached result now (loop_result (late cost w) turn_us seq (poll_of e steps) e n body s) → MeansLate w reached result now (repeat_result (late cost w) turn_us seq (Some e) timeout steps body s)
    unfolding repeat_result value_or_missing missing late
    repeated_on reached turn_us e timeout n steps body s now result count h = by_timeout (timeout_of timeout) count
      where
        by_timeout : (o : Option ℕ) → n ≡ turn_count turn_us (unwrap_or o 0) → MeansLate w reached result now (value_or_missing (late cost w) 0 o s >>= λ x. loop_result (late cost w) turn_us seq (poll_of e steps) e (turn_count turn_us x.0) body x.1)
        by_timeout None is = subst (λ k. MeansLate w reached result now (loop_result (late cost w) turn_us seq (poll_of e steps) e k body s)) is h
        by_timeout (Some micros) is = subst (λ k. MeansLate w reached result now (loop_result (late cost w) turn_us seq (poll_of e steps) e k body s)) is h

  pub sequence_none : (turn_us : ℕ) (set : SetTrees) (depth : ℕ) (name : List ℕ) (s : S) → depth ≡ 0 → sequence_at (late cost w) turn_us set depth name s ≡ Ok (tt, s)
  unfolding sequence_at missing late
  sequence_none turn_us set depth name s none = rw none refl
