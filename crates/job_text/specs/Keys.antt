-- The keys that each object of a job may have, apart from those of its pack: the names of docs/JOB.md.
use Rattle.std.specs.Prelude.{ℕ, codes, List, [], ◌∷◌}

-- a job has its pack, how sequences are run, its bench, watched stretches, an image, starting values of debug variables, and a kept trace
abbrev pub job_keys : List (List ℕ)
job_keys = codes "pack" ∷ codes "run" ∷ codes "bench" ∷ codes "watch" ∷ codes "image" ∷ codes "dbgconf" ∷ codes "trace" ∷ []

-- `image` has the number of an access port, and Intel HEX records
abbrev pub image_keys : List (List ℕ)
image_keys = codes "ap" ∷ codes "hex" ∷ []

-- `run` has the microseconds of a turn, the retry number, the idle cycles, and starting values of predefined variables
abbrev pub run_keys : List (List ℕ)
run_keys = codes "turn_us" ∷ codes "retry" ∷ codes "idle" ∷ codes "variables" ∷ []

-- `bench` has the bytes of a packet, the number of packets, the WAIT answers of transfers, and the target
abbrev pub bench_keys : List (List ℕ)
bench_keys = codes "packet_size" ∷ codes "packet_count" ∷ codes "stalls" ∷ codes "target" ∷ []

-- `target` has its DPIDR, its power, its pins, how TAR increments, its access ports, and its memory with what that shows
abbrev pub target_keys : List (List ℕ)
target_keys =
    codes "dpidr" ∷ codes "powered" ∷ codes "power_reads" ∷ codes "pins" ∷ codes "edge"
    ∷ codes "aps" ∷ codes "memory" ∷ codes "words" ∷ codes "scripts" ∷ codes "reset" ∷ []

-- an item of `aps` has its number, its IDR, BASE and CSW, and whether it has large physical addresses
abbrev pub ap_keys : List (List ℕ)
ap_keys = codes "ap" ∷ codes "idr" ∷ codes "base" ∷ codes "csw" ∷ codes "la" ∷ []

-- an item of `memory` has its address, its length, and whether it can be written
abbrev pub region_keys : List (List ℕ)
region_keys = codes "address" ∷ codes "length" ∷ codes "kind" ∷ []

-- an item of `words` or `reset` has its address and its value
abbrev pub word_keys : List (List ℕ)
word_keys = codes "address" ∷ codes "value" ∷ []

-- an item of `scripts` has its address, and the values that are read there one after another
abbrev pub script_keys : List (List ℕ)
script_keys = codes "address" ∷ codes "values" ∷ []

-- an item of `watch` has its address and its number of words
abbrev pub watch_keys : List (List ℕ)
watch_keys = codes "address" ∷ codes "words" ∷ []
