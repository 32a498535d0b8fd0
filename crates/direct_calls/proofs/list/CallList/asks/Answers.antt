use Rattle.std.proofs.Common.{map, ap, ◌∙◌, ◌++◌, ◌∷◌, []}
use Rattle.direct_calls.specs.CallLists.{ask_of}
use Rattle.direct_calls.proofs.ListLemmas.{asked_more, asked_all}
use Rattle.direct_calls.proofs.list.CallList.asks.Goals as goal

pub loop-noted-preserved : goal.loop-noted-preserved
loop-noted-preserved c =
    asked_more c.deref-noted-items.result.now c.loop-noted.noted-index _ c.noted-item.result c.loop-noted.asks.items _ c.loop-noted-test.true c.noted-item.is c.loop-noted.invariant
    (c.in-Ok.ensures.items ∙ ap (λ a. c.loop-noted.asks.items ++ a ∷ []) c.ask_of.ensures)

pub returns : goal.returns
returns c = asked_all c.deref-noted-items.result.now c.loop-noted.noted-index _ c.loop-noted-test.false c.loop-noted.invariant ∙ ap (map ask_of) c.deref-noted-items.ensures.value ∙ c.self.view_is
