use Rattle.trace_compare.proofs.compare.compare_traces.Goals as goal

pub returns-clause-words : goal.returns-clause-words
returns-clause-words g c = λ bytes others is other. rw c.in-Ok.ensures at (c.put_comparison-done.ensures.words bytes others is other)

pub returns-clause-part : goal.returns-clause-part
returns-clause-part g c = λ bytes others is other. rw c.in-Ok.ensures at (c.put_comparison-done.ensures.part bytes others is other)
