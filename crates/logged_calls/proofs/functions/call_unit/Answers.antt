use Rattle.std.proofs.Common.{◌∙◌, sym, ap}
use Rattle.run_events.specs.OfValues.{function_line}
use Rattle.logged_calls.proofs.NotedLemmas.{no_line}
use Rattle.logged_calls.proofs.functions.call_unit.Goals as goal

pub returns-in-Message-clause-gives : goal.returns-in-Message-clause-gives
returns-in-Message-clause-gives c = λ text none. no_line (ap (λ f. function_line f text c.args.numbers.now) (sym c.in-Message.is) ∙ none)

pub returns-in-Query-clause-gives : goal.returns-in-Query-clause-gives
returns-in-Query-clause-gives c = λ text none. no_line (ap (λ f. function_line f text c.args.numbers.now) (sym c.in-Query.is) ∙ none)

pub returns-in-QueryValue-clause-gives : goal.returns-in-QueryValue-clause-gives
returns-in-QueryValue-clause-gives c = λ text none. no_line (ap (λ f. function_line f text c.args.numbers.now) (sym c.in-QueryValue.is) ∙ none)

pub returns-in-LoadDebugInfo-clause-gives : goal.returns-in-LoadDebugInfo-clause-gives
returns-in-LoadDebugInfo-clause-gives c = λ text none. no_line (ap (λ f. function_line f text c.args.numbers.now) (sym c.in-LoadDebugInfo.is) ∙ none)
