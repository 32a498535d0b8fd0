-- What an end is, for the exits of the code that closes a run.
use Rattle.std.proofs.Common.{◌≡◌, ℕ, List, Some, Option, ap, subst}
use Rattle.access_calls.proofs.KeepLemmas.{goes_same, goes_trans}
use Rattle.access_calls.specs.Answers.{IsEnd, NoMemory}
use Rattle.access_calls.specs.Left.{answered_at_end, answered_by}
use Rattle.access_calls.specs.Reported.{AccessView}
use Rattle.access_calls.specs.declared.stop.Stop.{Stop}
use Rattle.access_calls.specs.declared.stop.Stop.TheVariants.{Cut, BenchFault, ReplyBad, OutOfMemory}
use Rattle.control_flow.specs.Answers.{EndBy, HasLines, RunHasSinkCause}
use Rattle.access_calls.specs.Endings.{ending_of}
use Rattle.control_flow.specs.Closing.{ComesToEnd, RunHasNoWriteFault}
use Rattle.access_calls.specs.declared.ended.Ending.{Ending}
use Rattle.access_calls.specs.declared.ended.Ending.TheVariants as e
use Rattle.function_calls.proofs.Leaves.{left_on}
use Rattle.function_calls.specs.Lines.{AppendsLines}
use Rattle.function_calls.proofs.WholeLines.{lines_none}
use Rattle.access_calls.specs.Asking.{EndsByStop}

-- the end that an access answers, where it takes no memory
pub stopped_ended : (st : Stop) (end : Option Stop) → IsEnd end st → NoMemory st → EndsByStop st end
stopped_ended (Cut r) end is memory = is
stopped_ended (BenchFault issued confirmed) end is memory = is
stopped_ended ReplyBad end is memory = is
stopped_ended OutOfMemory end is memory = absurd memory

end_of : (st : Stop) (end : Option Stop) → EndsByStop st end → EndBy (ending_of st) end
end_of (Cut r) end h = h
end_of (BenchFault issued confirmed) end h = h
end_of ReplyBad end h = h
end_of OutOfMemory end h = h

-- the ending of a run that stopped
pub stop_end : (st : Stop) (end : Option Stop) (is : Ending) → is ≡ ending_of st → EndsByStop st end → EndBy is end
stop_end st end is same h = rw same (end_of st end h)

-- how many calls are answered, by a stop
pub answered_as : (st : Stop) (a : AccessView) → EndsByStop st a.end → answered_by a ≡ answered_at_end (Some st) a.lines
answered_as (Cut r) a h = ap (λ e. answered_at_end e a.lines) h
answered_as (BenchFault issued confirmed) a h = ap (λ e. answered_at_end e a.lines) h
answered_as ReplyBad a h = ap (λ e. answered_at_end e a.lines) h
answered_as OutOfMemory a h = ap (λ e. answered_at_end e a.lines) h

-- no stop is a failure of the sink
no_fault_of : (st : Stop) → RunHasNoWriteFault (ending_of st)
no_fault_of (Cut r) = tt
no_fault_of (BenchFault issued confirmed) = tt
no_fault_of ReplyBad = tt
no_fault_of OutOfMemory = tt

pub no_fault_stop : (st : Stop) (is : Ending) → is ≡ ending_of st → RunHasNoWriteFault is
no_fault_stop st is same = rw same (no_fault_of st)

-- a run that stopped is neither done nor halted
short_of : (st : Stop) → ComesToEnd (ending_of st) → ⊥
short_of (Cut r) comes = comes
short_of (BenchFault issued confirmed) comes = comes
short_of ReplyBad comes = comes
short_of OutOfMemory comes = comes

pub stopped_short : (st : Stop) (is : Ending) → is ≡ ending_of st → ComesToEnd is → ⊥
stopped_short st is same comes = short_of st (subst ComesToEnd same comes)

pub no_fault_end : (is : Ending) → ComesToEnd is → RunHasNoWriteFault is
no_fault_end e.Done h = tt
no_fault_end (e.Halted cause) h = tt
no_fault_end (e.Cut report) h = tt
no_fault_end (e.BenchFault issued confirmed) h = tt
no_fault_end e.ReplyBad h = tt
no_fault_end e.WriteFault h = absurd h
no_fault_end e.OutOfMemory h = tt

pub quiet_ending : (is : Ending) (before now : ℕ) → now ≡ before → RunHasNoWriteFault is → RunHasSinkCause is before now
quiet_ending e.Done before now same h = same
quiet_ending (e.Halted cause) before now same h = same
quiet_ending (e.Cut report) before now same h = same
quiet_ending (e.BenchFault issued confirmed) before now same h = same
quiet_ending e.ReplyBad before now same h = same
quiet_ending e.WriteFault before now same h = absurd h
quiet_ending e.OutOfMemory before now same h = same

-- whole lines were written, by how the run ended
pub lines_ending : (is : Ending) (old new : Option (List ℕ)) → AppendsLines old new → HasLines is old new
lines_ending e.Done old new h = h
lines_ending (e.Halted cause) old new h = h
lines_ending (e.Cut report) old new h = h
lines_ending (e.BenchFault issued confirmed) old new h = h
lines_ending e.ReplyBad old new h = h
lines_ending e.WriteFault old new h = tt
lines_ending e.OutOfMemory old new h = h

-- nothing was written
pub no_lines : (is : Ending) (a : Option (List ℕ)) → HasLines is a a
no_lines is a = lines_ending is a a (lines_none a)

pub ruleset ending = (goes_trans, goes_same, left_on, stopped_ended, stop_end, no_fault_stop, no_fault_end, quiet_ending, no_lines)
