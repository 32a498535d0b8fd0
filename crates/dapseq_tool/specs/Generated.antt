-- The job that the mode `gen` makes of a number.
use Rattle.std.specs.Prelude.{ℕ, zero, suc, ◌+◌, ◌*◌, ◌%◌, ◌^◌, List, [], ◌++◌, codes, decimal, None}
use Rattle.sequence_resolve.specs.declared.selection.Selection.{Selection}

-- an address in the 256 words of the region
abbrev pub word_address : ℕ → ℕ
word_address i = 536870912 + 4 * (i % 256)

-- the front of the block of a number: a word is written
abbrev pub write_text : ℕ → List ℕ
write_text i = codes "{\"block\":\"Write32(" ++ decimal (word_address i) ++ codes ", " ++ decimal (2654435761 * i % 2 ^ 32) ++ codes "); "

-- the block of a number: and another word is read
abbrev pub block_text : ℕ → List ℕ
block_text i = write_text i ++ codes "s = s + Read32(" ++ decimal (word_address (7 * i)) ++ codes ");\"},"

-- the first so many blocks, each with a comma after it
abbrev pub blocks_text : ℕ → List ℕ
blocks_text zero = []
blocks_text (suc n) = blocks_text n ++ block_text n

-- what stands before the blocks: one family with one device, whose debug variable is the sum
abbrev pub front_text : List ℕ
front_text =
    codes "{\"pack\":{\"families\":[{\"Dfamily\":\"F\",\"devices\":[{\"Dname\":\"G\",\"debugvars\":\"__var s = 0;\","
    ++ codes "\"sequences\":[{\"name\":\"Main\",\"steps\":["

-- what stands after the blocks: the line with the sum, and the bench
abbrev pub back_text : List ℕ
back_text =
    codes "{\"block\":\"Message(0, \\\"sum %u\\\", s);\"}]}]}]}]},\"bench\":{\"packet_size\":64,\"packet_count\":4,"
    ++ codes "\"target\":{\"powered\":true,\"aps\":[{\"ap\":0}],\"memory\":[{\"address\":536870912,\"length\":1024}]}}}"

-- The job of a number: the blocks from 0 to it, and the line.
abbrev pub job_text : ℕ → List ℕ
job_text n = front_text ++ blocks_text (n + 1) ++ back_text

-- what is selected of it: its device
abbrev pub its_device : Selection
its_device = record { device = codes "G"; variant = None; pname = None }

-- the sequence that runs
abbrev pub its_sequence : List ℕ
its_sequence = codes "Main"
