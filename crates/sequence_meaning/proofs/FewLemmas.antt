-- Calls with one number or two.
use Rattle.std.proofs.Common.{◌≡◌, ℕ, ◌<◌, ◌≤◌, false, List, [], ◌∷◌, get_or, length, Option, Result, Ok, arith, refl, sym, subst}
use Rattle.dap_base.specs.declared.text.Place.{Place}
use Rattle.expr_grammar.specs.declared.code.Arg.{Arg}
use Rattle.expr_grammar.specs.declared.code.Arg.TheVariants as arg
use Rattle.code_check.proofs.TreeLemmas.{arg_tree-Number}
use Rattle.expr_grammar.specs.declared.code.Expr.{Expr}
use Rattle.expr_grammar.specs.declared.code.Name.{Name}
use Rattle.expr_grammar.specs.Tree.{arg_trees, tree, Tree, ArgTrees, ExprArg, TextArg, NoArgs, MoreArgs, one_number, two_numbers}
use Rattle.function_table.specs.Lookup.{function_named}
use Rattle.function_table.specs.declared.function.Function.{Function}
use Rattle.sequence_rules.specs.Calls.{guarded_rest, use_now}
use Rattle.sequence_rules.specs.Direct.{Now, direct}
use Rattle.sequence_rules.specs.Laws.{Adds}
use Rattle.sequence_rules.specs.Machine.{State, Out}
use Rattle.sequence_rules.specs.Values.{all_used, appended_values, argument, arguments, call_of, call_result, chained_values, numbers_of, value}
use Rattle.sequence_rules.proofs.Adding.{adds_direct}
use Rattle.sequence_rules.proofs.Goes as g
use Rattle.sequence_meaning.specs.declared.end.DirectEnd.{DirectEnd}
use Rattle.sequence_meaning.specs.declared.end.Stopped.{Stopped}
use Rattle.sequence_meaning.specs.declared.runner.DirectRunner.{DirectRunner}
use Rattle.sequence_meaning.specs.Held.{EndsDirect, MeansDirect, calls_of}
use Rattle.sequence_meaning.proofs.FrameLemmas.{frames}
use Rattle.sequence_meaning.proofs.StopLemmas.{adds_ok, adds_sequence, ends_appended, ends_call, ends_on}

abbrev S : Type 0
S = State ℕ Now

-- the place of the first argument, where it is an expression
abbrev pub first_place : Place → ArgTrees → Place
first_place default NoArgs = default
first_place default (MoreArgs (ExprArg at a) more) = at
first_place default (MoreArgs (TextArg a) more) = default

-- the place of the second argument, where it is an expression
abbrev pub second_place : Place → ArgTrees → Place
second_place default NoArgs = default
second_place default (MoreArgs a more) = first_place default more

-- two expressions that are these
pub two_same : (P : Expr → Expr → Type 0) {a b e k : Expr} → a ≡ e → b ≡ k → P a b → P e k
two_same P {a = a} {k = k} first second h = subst (λ x. P x k) first (subst (λ y. P a y) second h)

-- a list of one argument, which is a number
pub one_listed : (args : List Arg) (d : Arg) (p at : Place) (e : Expr) → 1 ≤ length args → length args < 2 → get_or args 0 d ≡ arg.Number at e → arg_trees args ≡ one_number (first_place p (arg_trees args)) (tree e)
one_listed [] d p at e some few is = absurd (omega arith)
one_listed (x ∷ []) d p at e some few is = rw (is, arg_tree-Number at e) refl
one_listed (x ∷ y ∷ more) d p at e some few is = absurd (omega arith)

-- a list of two arguments, which are numbers
pub two_listed : (args : List Arg) (d f : Arg) (p at later : Place) (e k : Expr) → 2 ≤ length args → length args < 3 → get_or args 0 d ≡ arg.Number at e → get_or args 1 f ≡ arg.Number later k
    → arg_trees args ≡ two_numbers (first_place p (arg_trees args)) (tree e) (second_place p (arg_trees args)) (tree k)
two_listed [] d f p at later e k some few is next = absurd (omega arith)
two_listed (x ∷ []) d f p at later e k some few is next = absurd (omega arith)
two_listed (x ∷ y ∷ []) d f p at later e k some few is next = rw (is, next, arg_tree-Number at e, arg_tree-Number later k) refl
two_listed (x ∷ y ∷ z ∷ more) d f p at later e k some few is next = absurd (omega arith)

module _ (runner : DirectRunner) (depth : ℕ) (name : Name) where
  abbrev val : Tree → S → Out ℕ Now ℕ
  val a s = value (direct false) (calls_of runner depth) a s

  -- a call, with its arguments
  abbrev pub call_on : ArgTrees → S → Out ℕ Now ℕ
  call_on args s = call_of (direct false) (calls_of runner depth) name args (arguments (direct false) (calls_of runner depth) args [] s)

  pub one_is : (at : Place) (a : Tree) (s r : S) (n : ℕ) → val a s ≡ Ok (n, r) → call_on (one_number at a) s ≡ call_result (direct false) (calls_of runner depth) (function_named name.text) [] (n ∷ []) r
  unfolding call_of guarded_rest numbers_of arguments argument chained_values appended_values all_used use_now direct
  one_is at a s r n is = rw is refl

  pub ends_one : (e : DirectEnd) (now s : S) (at : Place) (a : Tree) → EndsDirect e now (val a s) → EndsDirect e now (call_on (one_number at a) s)
  unfolding arguments argument chained_values
  ends_one e now s at a h =
      ends_call runner depth e now name (one_number at a) _ (ends_on e now _ _ (λ x. adds_ok x.1 _) (ends_appended e now [] _ h))

  pub two_is : (at later : Place) (a b : Tree) (s r q : S) (n k : ℕ) → val a s ≡ Ok (n, r) → val b r ≡ Ok (k, q)
      → call_on (two_numbers at a later b) s ≡ call_result (direct false) (calls_of runner depth) (function_named name.text) [] (n ∷ k ∷ []) q
  unfolding call_of guarded_rest numbers_of arguments argument chained_values appended_values all_used use_now direct
  two_is at later a b s r q n k is next = rw (is, next) refl

  -- a call of the function that was found means the call of the name
  pub two_means : (at later : Place) (a b : Tree) (s r q now : S) (n k : ℕ) (f : Option Function) (e : DirectEnd) (result : Result ℕ Stopped) → f ≡ function_named name.text
      → val a s ≡ Ok (n, r) → val b r ≡ Ok (k, q) → MeansDirect e result now (call_result (direct false) (calls_of runner depth) f [] (n ∷ k ∷ []) q)
      → MeansDirect e result now (call_on (two_numbers at a later b) s)
  two_means at later a b s r q now n k f e result same is next h =
      subst (λ o. MeansDirect e result now o) (sym (two_is at later a b s r q n k is next))
      (subst (λ x. MeansDirect e result now (call_result (direct false) (calls_of runner depth) x [] (n ∷ k ∷ []) q)) same h)

  pub ends_first : (e : DirectEnd) (now s : S) (at later : Place) (a b : Tree) → EndsDirect e now (val a s) → EndsDirect e now (call_on (two_numbers at a later b) s)
  unfolding arguments argument chained_values
  ends_first e now s at later a b h =
      ends_call runner depth e now name (two_numbers at a later b) _
      (ends_on e now _ _ (λ x. g.goes_arguments (direct false) Adds (adds_direct false) (calls_of runner depth) (adds_sequence runner depth) (MoreArgs (ExprArg later b) NoArgs) x.0 x.1) (ends_appended e now [] _ h))

  pub ends_second : (e : DirectEnd) (now s r : S) (at later : Place) (a b : Tree) (n : ℕ) → val a s ≡ Ok (n, r) → EndsDirect e now (val b r) → EndsDirect e now (call_on (two_numbers at a later b) s)
  unfolding arguments argument chained_values appended_values
  ends_second e now s r at later a b n is h =
      rw is (ends_call runner depth e now name (two_numbers at a later b) _ (ends_on e now _ _ (λ x. adds_ok x.1 _) (ends_appended e now (n ∷ []) _ h)))

pub ruleset one_ends = (ends_one, one_is, frames)

pub ruleset two_ends = (ends_first, frames)
