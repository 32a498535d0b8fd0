-- What a call of the program writes, and how it ends.
use Rattle.std.specs.Prelude.{◌≡◌, ◌⊎◌, ℕ, true, false, List, [], ◌∷◌, ◌++◌, Option, Some, None, codes, if◌then◌else◌}
use Rattle.std.specs.Io.KnownBytes.{Appends}
use Rattle.std.specs.Str.{bytes_eq}
use Rattle.dap_base.specs.Streams.{AppendsPrefix}
use Rattle.text_lines.specs.Shown.{shown_text}
use Rattle.trace_words.specs.Words.{words_of_trace, are_good}
use Rattle.trace_compare.specs.Comparison.{are_alike, words_against}
use Rattle.trace_compare.specs.declared.call.CompareStatus.{CompareStatus}
use Rattle.trace_compare.specs.declared.call.CompareStatus.TheVariants as status

-- the status as the number with which the program ends
abbrev pub words_exit_code : CompareStatus → ℕ
words_exit_code status.Done = 0
words_exit_code status.Wrong = 1
words_exit_code status.Usage = 2
words_exit_code status.ReadFault = 5
words_exit_code status.FileFault = 5
words_exit_code status.NotOpened = 5
words_exit_code status.WriteFault = 6
words_exit_code status.OutOfMemory = 7

-- ---- words

-- the name after `--against`, where the words are these two
abbrev pub file_named : List (List ℕ) → Option (List ℕ)
file_named (option ∷ name ∷ []) = if bytes_eq option (codes "--against") then Some name else None
file_named other = None

-- ---- what is written

-- What is written for these bytes of a trace, by how the call ended. It is all words, and whether each packet and reply is one. At a fault it is
-- a part of the words, from the front.
abbrev pub WritesWords : List ℕ → CompareStatus → Option (List ℕ) → Option (List ℕ) → Type 0
WritesWords bytes status.Done old new = Appends old new (words_of_trace bytes) × (are_good bytes ≡ true)
WritesWords bytes status.Wrong old new = Appends old new (words_of_trace bytes) × (are_good bytes ≡ false)
WritesWords bytes status.ReadFault old new = AppendsPrefix old new (words_of_trace bytes)
WritesWords bytes status.WriteFault old new = AppendsPrefix old new (words_of_trace bytes)
WritesWords bytes status.OutOfMemory old new = AppendsPrefix old new (words_of_trace bytes)
WritesWords bytes other old new = ⊥

-- The same for these bytes of a trace and of the one that it is compared with. It is the whole comparison, and whether both are alike. At a
-- fault it is a part of it.
abbrev pub WritesAgainst : List ℕ → List ℕ → CompareStatus → Option (List ℕ) → Option (List ℕ) → Type 0
WritesAgainst bytes others status.Done old new = Appends old new (words_against bytes others) × (are_alike bytes others ≡ true)
WritesAgainst bytes others status.Wrong old new = Appends old new (words_against bytes others) × (are_alike bytes others ≡ false)
WritesAgainst bytes others status.Usage old new = ⊥
WritesAgainst bytes others status.NotOpened old new = ⊥
WritesAgainst bytes others other old new = AppendsPrefix old new (words_against bytes others)

-- the line of a file that cannot be opened
unfoldable pub not_opened_line : List ℕ → List ℕ
not_opened_line name = codes "file " ++ shown_text name ++ codes " cannot be opened\n"

-- what is written where it cannot be, by how the call ended
abbrev pub WritesRefusal : List ℕ → CompareStatus → Option (List ℕ) → Option (List ℕ) → Type 0
WritesRefusal name status.NotOpened old new = Appends old new (not_opened_line name)
WritesRefusal name status.WriteFault old new = AppendsPrefix old new (not_opened_line name)
WritesRefusal name status.OutOfMemory old new = new ≡ old
WritesRefusal name other old new = ⊥

-- a comparison with the file of this name, or its refusal
abbrev pub WritesFile : List ℕ → List ℕ → List ℕ → CompareStatus → Option (List ℕ) → Option (List ℕ) → Type 0
WritesFile name bytes others result old new = WritesAgainst bytes others result old new ⊎ WritesRefusal name result old new

-- the line of a wrong call
abbrev pub words_usage_line : List ℕ
words_usage_line = codes "usage dapseq_words [--against FILE] < TRACE\n"

-- what is written at a wrong call, by how it ended
abbrev pub WritesUsage : CompareStatus → Option (List ℕ) → Option (List ℕ) → Type 0
WritesUsage status.Usage old new = Appends old new words_usage_line
WritesUsage status.WriteFault old new = AppendsPrefix old new words_usage_line
WritesUsage other old new = ⊥
