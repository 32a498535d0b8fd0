use Rattle.trace_words.proofs.TraceLemmas.{at_error, going_cut, going_part}
use Rattle.trace_words.proofs.trace.trace_words.Goals as goal

pub returns-in-Err-ReadFault-clause-part : goal.returns-in-Err-ReadFault-clause-part
returns-in-Err-ReadFault-clause-part g c = λ bytes is. going_part _ _ _ _ _ _ bytes c.loop.invariant.going is

pub returns-in-Err-OutOfMemory-clause-part : goal.returns-in-Err-OutOfMemory-clause-part
returns-in-Err-OutOfMemory-clause-part g c = λ bytes is. going_part _ _ _ _ _ _ bytes c.loop.invariant.going is

pub returns-in_err-put_event-clause-part : goal.returns-in_err-put_event-clause-part
returns-in_err-put_event-clause-part g c = λ bytes is.
    at_error _ _ (going_cut _ _ _ _ _ _ _ _ _ _ c.in-Some.event bytes c.loop.invariant.going c.in-Ok.ensures.next c.in-Some.is c.in_err-put_event.ensures.text is)

pub returns-clause-part : goal.returns-clause-part
returns-clause-part g c = λ bytes is. going_part _ _ _ _ _ _ bytes c.loop.invariant.going is
