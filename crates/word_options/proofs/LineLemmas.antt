-- A command line that is built argument by argument, and what clap's contract says of its words.
use Rattle.std.proofs.Common.{◌≡◌, ◌∙◌, ap, ap₂, subst, true, false, List, [], inl, inr}
use Rattle.clap.specs.Words.{AddsArg, App, HasKind, HasMatchesOf, Kinds, Rule, Text, app_of, fault_of, first_of, found_of, is_simple, is_simple_and_free, kind_of, new_rule, rule_of, with_rule}
use Rattle.clap.specs.Simple.{app_of_fields, built, on_top}
use Rattle.clap.specs.Faults.{is_free_app}
use Rattle.clap.specs.declared.builder.arg.Arg.{Arg}
use Rattle.clap.specs.declared.builder.command.Command.{Command}
use Rattle.clap.specs.declared.builder.command.Command.TheViews.{out-Command}
use Rattle.clap.specs.declared.error.Error.{Error}
use Rattle.clap.specs.declared.error.kind.ErrorKind.TheVariants as kind
use Rattle.clap.specs.declared.parser.matches.ArgMatches.{ArgMatches}
use Rattle.clap.proofs.WalkLemmas.{first_value-rows}
use Rattle.dap_base.proofs.Basics.{first_true}
use Rattle.word_options.specs.Line.{Finds, WordsAreTaken, given_value}

-- ---- building

abbrev pub unnamed : App → App
unnamed = on_top (λ s. record s { no_binary_name = true })

pub unnamed_app : (old new : Command) → out-Command new ≡ record (out-Command old) { no_binary_name = true } → app_of new ≡ unnamed (app_of old)
unnamed_app old new e = ap app_of_fields e

pub needed_rule : (old new : Arg) (name : Text) → new ≡ record old { required = true } → rule_of old ≡ new_rule name → rule_of new ≡ record (new_rule name) { required = true }
needed_rule old new name e is = ap rule_of e ∙ ap (λ (r : Rule). record r { required = true }) is

pub one_more : (old new : Command) (arg : Arg) (before : App) (rule : Rule) → AddsArg old arg new → arg.global ≡ false → app_of old ≡ before → rule_of arg ≡ rule → app_of new ≡ with_rule before rule
one_more old new arg before rule adds local is rule_is = adds.shape local ∙ ap₂ with_rule is rule_is

-- ---- parsing

pub taken : (line : App) (words : List Text) → is_simple_and_free line ≡ true → (is_simple_and_free line ≡ true → fault_of line words ≡ []) → WordsAreTaken line words
unfolding WordsAreTaken
taken line words free h = h free

pub finds : (line : App) (words : List Text) (m : ArgMatches) → is_simple_and_free line ≡ true → HasMatchesOf line words m → Finds line words (found_of m)
unfolding given_value
finds line words m free h = λ name. first_value-rows (found_of m) name ∙ ap (first_of name) (h (first_true (is_simple line) (is_free_app (built line)) free)).0

kind_left : (e : Error) (kinds : Kinds) → kinds ≡ [] → HasKind kinds e → kind_of e ≡ kind.OutOfMemory
kind_left e kinds none h = go (subst (λ (ks : Kinds). HasKind ks e) none h)
  where
    go : HasKind [] e → kind_of e ≡ kind.OutOfMemory
    go (inl is) = is
    go (inr among) = absurd among

-- clap refuses words that it takes only where memory is refused
pub refused : (line : App) (words : List Text) (e : Error) → is_simple_and_free line ≡ true → (is_simple_and_free line ≡ true → HasKind (fault_of line words) e) → WordsAreTaken line words → kind_of e ≡ kind.OutOfMemory
unfolding WordsAreTaken
refused line words e free h none = kind_left e (fault_of line words) none (h free)
