-- Objects in memory: their counts of faults stay.
use Rattle.std.proofs.Common.{◌≡◌, ◌≢◌, ◌⊎◌, inl, inr, ◌∙◌, ℕ, ◌+◌, ◌-◌, ◌^◌, ◌<◌, ◌≤◌, List, Option, Some, ap, subst, refl, sym, arith}
use Rattle.dap_base.specs.Causes.{IsQuiet, Rose}
use Rattle.dapseq_tool.specs.Asked.{AsksForRequest}
use Rattle.dapseq_tool.specs.Headline.{BenchCall}
use Rattle.job_source.specs.Source.{AreBytesOf}
use Rattle.dapseq_tool.specs.InMemory.{IsCallInMemory}
use Rattle.dapseq_tool.specs.Success.{IsQuietCall, RequestIsDone, Success}
use Rattle.dapseq_tool.specs.declared.asking.Requested.{Requested}
use Rattle.dapseq_tool.specs.declared.memory.InMemory.{InMemory}
use Rattle.dapseq_tool.specs.declared.status.Status.{Status}
use Rattle.dapseq_tool.specs.declared.status.Status.TheVariants as status
use Rattle.job_runs.specs.Runs.{AccessKind}

pub quiet_zero : (before now : ℕ) → before ≡ 0 → now ≡ before → IsQuiet before now
quiet_zero before now zero same = record { same = same; below = omega (arith, zero, same) }

pub quiet_sink : (before now : ℕ) (end : Status) → before ≡ 0 → (now ≡ before) ⊎ (end ≡ status.WriteFault) → end ≢ status.WriteFault → IsQuiet before now
quiet_sink before now end zero (inl same) none = quiet_zero before now zero same
quiet_sink before now end zero (inr fault) none = absurd (none fault)

-- what was asked for of these bytes was done
pub done_in_memory : (access : AccessKind) (words : List (List ℕ)) (bytes : List ℕ) (end : InMemory) (call : BenchCall) → IsCallInMemory words bytes end call →
    (found : List ℕ) (asked : Requested) → AreBytesOf call.old.left found → AsksForRequest call.words found asked → RequestIsDone access call asked.number asked.what →
    (call : BenchCall) × IsCallInMemory words bytes end call × (asked : Requested) × AsksForRequest words bytes asked × RequestIsDone access call asked.number asked.what
done_in_memory access words bytes end call is found asked of asks done =
    let same : found ≡ bytes = subst (λ (left : Option (List ℕ)). AreBytesOf left found) is.bytes_are of in
    (call, is, asked, subst (λ (ws : List (List ℕ)). AsksForRequest ws bytes asked) is.words_are (subst (λ (bs : List ℕ). AsksForRequest call.words bs asked) same asks), done)
