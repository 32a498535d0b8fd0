-- The last line: how many faults there are, and what was checked.
use Rattle.std.specs.Prelude.{ℕ, ◌==◌, List, [], ◌++◌, codes, decimal, if◌then◌else◌}

-- so many, in the singular or the plural
abbrev pub count_words : ℕ → List ℕ → List ℕ → List ℕ
count_words n one many = decimal n ++ (if n == 1 then one else many)

-- so many sets of which this was not checked; nothing where there is none
abbrev pub unchecked_sets : List ℕ → ℕ → List ℕ → List ℕ
unchecked_sets what n how = if n == 0 then [] else what ++ count_words n (codes " set") (codes " sets") ++ how

-- the faults, the devices and the sets that were checked
abbrev pub checked_words : ℕ → ℕ → ℕ → List ℕ
checked_words faults devices sets =
    count_words faults (codes " fault; ") (codes " faults; ")
    ++ count_words devices (codes " device, ") (codes " devices, ") ++ count_words sets (codes " set checked") (codes " sets checked")

-- the sets whose names were not checked, and those whose calls were not all checked
abbrev pub unchecked_words : ℕ → ℕ → List ℕ
unchecked_words unread unreached =
    unchecked_sets (codes "; names of ") unread (codes " not checked") ++ unchecked_sets (codes "; calls of ") unreached (codes " not all checked")

-- the last line
abbrev pub counts_line : ℕ → ℕ → ℕ → ℕ → ℕ → List ℕ
counts_line faults devices sets unread unreached = checked_words faults devices sets ++ unchecked_words unread unreached ++ codes "\n"

-- the line of counts, with the number of warnings
abbrev pub warned_counts_line : ℕ → ℕ → ℕ → ℕ → ℕ → ℕ → List ℕ
warned_counts_line faults devices sets unread unreached warnings =
    checked_words faults devices sets ++ unchecked_words unread unreached ++ codes "; " ++ count_words warnings (codes " warning\n") (codes " warnings\n")
