use Rattle.std.proofs.Common.{◌∙◌, ap, map, List, ℕ, Bor}
use Rattle.word_options.proofs.AskLemmas.{answered, no_usage, only_asked}
use Rattle.faults_words.specs.Asks.{IsFaultsRequest, WordsAskForFaults}
use Rattle.faults_words.specs.Line.{faults_command_line}
use Rattle.faults_words.proofs.AskLemmas.{one_asked}
use Rattle.faults_words.proofs.top.asked_of.Goals as goal

abbrev texts : List (Bor (List ℕ)) → List (List ℕ)
texts = map (λ t. t.now)

pub returns-clause-answer : goal.returns-clause-answer
returns-clause-answer c =
    answered faults_command_line IsFaultsRequest c.args.words.now (texts c.as_slice.result.now) c.in_ok-matches.matches c.asked_by.result
    (ap texts c.as_slice.ensures.value ∙ c.in_ok-texts.ensures) c.in_ok-matches.ensures c.asked_by.ensures.answer

pub returns-clause-usage : goal.returns-clause-usage
returns-clause-usage c =
    no_usage faults_command_line IsFaultsRequest c.args.words.now (texts c.as_slice.result.now) c.in_ok-matches.matches c.asked_by.result
    (ap texts c.as_slice.ensures.value ∙ c.in_ok-texts.ensures) c.in_ok-matches.ensures c.asked_by.ensures.usage

pub returns-clause-only : goal.returns-clause-only
returns-clause-only c =
    only_asked (WordsAskForFaults c.args.words.now) c.asked_by.result (one_asked c.args.words.now) (returns-clause-answer c) (returns-clause-usage c)
