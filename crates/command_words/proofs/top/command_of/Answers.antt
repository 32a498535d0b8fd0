use Rattle.std.proofs.Common.{◌∙◌, ap, map, List, ℕ, Bor}
use Rattle.word_options.proofs.AskLemmas.{answered, no_usage, only_asked}
use Rattle.command_words.specs.Line.{command_line}
use Rattle.command_words.specs.Table.{IsCommandBy, WordsAreCommand}
use Rattle.command_words.proofs.TableLemmas.{one_command}
use Rattle.command_words.proofs.top.command_of.Goals as goal

abbrev texts : List (Bor (List ℕ)) → List (List ℕ)
texts = map (λ t. t.now)

pub returns-clause-answer : goal.returns-clause-answer
returns-clause-answer c =
    answered command_line IsCommandBy c.args.words.now (texts c.as_slice.result.now) c.in_ok-matches.matches c.command_by.result
    (ap texts c.as_slice.ensures.value ∙ c.in_ok-texts.ensures) c.in_ok-matches.ensures c.command_by.ensures.answer

pub returns-clause-usage : goal.returns-clause-usage
returns-clause-usage c =
    no_usage command_line IsCommandBy c.args.words.now (texts c.as_slice.result.now) c.in_ok-matches.matches c.command_by.result
    (ap texts c.as_slice.ensures.value ∙ c.in_ok-texts.ensures) c.in_ok-matches.ensures c.command_by.ensures.usage

pub returns-clause-only : goal.returns-clause-only
returns-clause-only c =
    only_asked (WordsAreCommand c.args.words.now) c.command_by.result (one_command c.args.words.now) (returns-clause-answer c) (returns-clause-usage c)
