-- How many accesses there are of each register.
use Rattle.std.specs.Prelude.{ℕ, List, [], ◌∷◌, replicate, slice_index, slice_set}
use Rattle.register_words.specs.declared.access.RegisterAccess.{RegisterAccess}
use Rattle.register_words.specs.Accesses.{place}
use Rattle.trace_words.specs.Telling.{next_exchange_number}

-- so many zeros
unfoldable pub zero_counts : ℕ → List ℕ
zero_counts count = replicate count 0

-- no access of any of the 32,800 places
abbrev pub no_counts : List ℕ
no_counts = zero_counts 32800

-- one access more, at its place; a count stops at 2^64 - 1
unfoldable pub counts_with_access : List ℕ → RegisterAccess → List ℕ
counts_with_access counts access = slice_set counts (place access) (next_exchange_number (slice_index counts (place access)))

-- these accesses more, each at its place
abbrev pub all_counted : List ℕ → List RegisterAccess → List ℕ
all_counted counts [] = counts
all_counted counts (access ∷ others) = all_counted (counts_with_access counts access) others
