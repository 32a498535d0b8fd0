use Rattle.std.proofs.Common.{◌≡◌, ℕ, ◌==◌, nat_cmp, take}
use Rattle.std.specs.List.{list_any}
use Rattle.std.specs.BTreeSet.{contains}
use Rattle.job_text.proofs.memory.addresses_of.Given as goal

abbrev pub invariant-loop-word : goal.invariant-loop-word
invariant-loop-word l = (key : ℕ) → contains nat_cmp l.seen key ≡ list_any (λ word. word.address == key) (take l.word-index l.words)
