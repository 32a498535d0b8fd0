-- Reading a simulated target and the probe in front of it: the member `bench` of a job.
use Rattle.std.specs.Prelude.{ℕ, ◌-◌, ◌^◌, codes, false, List, [], Some, Result, Ok, Err, if◌then◌else◌}
use Rattle.serde_json.specs.Data.{Data}
use Rattle.json_form.specs.declared.fault.JobFault.{JobFault}
use Rattle.json_form.specs.declared.fault.JobFault.TheVariants.{Missing}
use Rattle.dap_base.specs.Outcome.{◌>>=◌}
use Rattle.json_form.specs.Reading.{flag, one_of_two, number, such, only_keys, required_value, or_else, list_of, alone, never, repeats_by}
use Rattle.target_machine.specs.declared.job.ApJob.{ApJob}
use Rattle.target_machine.specs.declared.job.RegionJob.{RegionJob}
use Rattle.target_machine.specs.declared.job.WordJob.{WordJob}
use Rattle.target_machine.specs.declared.job.ScriptJob.{ScriptJob}
use Rattle.target_machine.specs.declared.job.TargetJob.{TargetJob}
use Rattle.job_text.specs.declared.target.DebugPort.{DebugPort}
use Rattle.probe_core.specs.declared.job.Limits.{Limits}
use Rattle.probe_core.specs.declared.job.BenchJob.{BenchJob}
use Rattle.job_text.specs.Keys.{ap_keys, region_keys, word_keys, script_keys, target_keys, bench_keys}
use Rattle.job_text.specs.Tests.{has_bit_0, lacks_bits_4_and_6, is_aligned, is_word_in, is_length_after, same_ap, overlap, same_word, repeats_script, is_filled}

-- a number of 32 bits
abbrev pub word_number : Data → Result ℕ JobFault
word_number = number 0 (2 ^ 32 - 1)

-- a number of 64 bits
abbrev pub address_number : Data → Result ℕ JobFault
address_number = number 0 (2 ^ 64 - 1)

-- an item of `aps`: an access port
unfoldable pub ap_in : Data → Result ApJob JobFault
ap_in d = do
  known ← only_keys ap_keys d
  ap ← required_value (codes "ap") (number 0 255) d
  idr ← or_else (codes "idr") word_number 0x24770011 d
  base ← or_else (codes "base") word_number 0xE00FF003 d
  csw ← or_else (codes "csw") word_number 0 d
  la ← or_else (codes "la") flag false d
  Ok (record { ap = ap; idr = idr; base = base; csw = csw; la = la })

-- an item of `memory`: a region, whose length depends on the earlier ones
unfoldable pub region_in : List RegionJob → Data → Result RegionJob JobFault
region_in earlier d = do
  known ← only_keys region_keys d
  address ← required_value (codes "address") (such is_aligned address_number) d
  length ← required_value (codes "length") (such (is_length_after earlier address) (number 4 4194304)) d
  read_only ← or_else (codes "kind") (one_of_two (codes "rw") (codes "ro")) false d
  Ok (record { address = address; length = length; read_only = read_only })

-- an item of `words` or `reset`: the value of a word in a region
unfoldable pub word_in : List RegionJob → Data → Result WordJob JobFault
word_in regions d = do
  known ← only_keys word_keys d
  address ← required_value (codes "address") (such (is_word_in regions) address_number) d
  value ← required_value (codes "value") word_number d
  Ok (record { address = address; value = value })

-- a list of values that is not empty
unfoldable pub values_in : Data → Result (List ℕ) JobFault
values_in d = do
  values ← list_of (Some 4096) (alone word_number) never d
  if is_filled values then Ok values else Err (Missing [])

-- an item of `scripts`: the values that a word in a region shows one after another
unfoldable pub script_in : List RegionJob → Data → Result ScriptJob JobFault
script_in regions d = do
  known ← only_keys script_keys d
  address ← required_value (codes "address") (such (is_word_in regions) address_number) d
  values ← required_value (codes "values") values_in d
  Ok (record { address = address; values = values })

-- the value of `power_reads`: how many reads of CTRL/STAT after a power request show no acknowledgement
unfoldable pub power_reads_in : Data → Result ℕ JobFault
power_reads_in d = or_else (codes "power_reads") (number 0 1000000) 0 d

-- the members that say how the debug port and the lines start
unfoldable pub port_in : Data → Result DebugPort JobFault
port_in d = do
  dpidr ← or_else (codes "dpidr") (such has_bit_0 word_number) 0x2BA01477 d
  powered ← or_else (codes "powered") flag false d
  power_reads ← power_reads_in d
  pins ← or_else (codes "pins") (such lacks_bits_4_and_6 (number 0 255)) 0xA0 d
  carry ← or_else (codes "edge") (one_of_two (codes "wrap") (codes "carry")) false d
  Ok (record { dpidr = dpidr; powered = powered; power_reads = power_reads; pins = pins; carry = carry })

-- the value of `aps`: at most 16 access ports of different numbers
unfoldable pub aps_in : Data → Result (List ApJob) JobFault
aps_in d = required_value (codes "aps") (list_of (Some 16) (alone ap_in) (repeats_by same_ap)) d

-- the value of `memory`: at most 64 regions, none of which overlap
unfoldable pub regions_in : Data → Result (List RegionJob) JobFault
regions_in d = required_value (codes "memory") (list_of (Some 64) region_in (repeats_by overlap)) d

-- the words of a member, `words` or `reset`
unfoldable pub words_in : List ℕ → ℕ → List RegionJob → Data → Result (List WordJob) JobFault
words_in key limit regions d = or_else key (list_of (Some limit) (alone (word_in regions)) (repeats_by same_word)) [] d

-- the value of `words`: at most 65,536 words that do not start at 0, at different addresses
unfoldable pub listed_in : List RegionJob → Data → Result (List WordJob) JobFault
listed_in regions d = words_in (codes "words") 65536 regions d

-- the value of `reset`: at most 1,024 words that a reset sets, at different addresses
unfoldable pub reset_in : List RegionJob → Data → Result (List WordJob) JobFault
reset_in regions d = words_in (codes "reset") 1024 regions d

-- the value of `scripts`: at most 1,024 scripts, at different addresses and at none of `words`
unfoldable pub scripts_in : List RegionJob → List WordJob → Data → Result (List ScriptJob) JobFault
scripts_in regions words d = or_else (codes "scripts") (list_of (Some 1024) (alone (script_in regions)) (repeats_script words)) [] d

-- the value of `target`: the debug port and the lines, then the access ports, and then the memory
unfoldable pub target_in : Data → Result TargetJob JobFault
target_in d = do
  known ← only_keys target_keys d
  port ← port_in d
  aps ← aps_in d
  memory ← regions_in d
  words ← listed_in memory d
  scripts ← scripts_in memory words d
  reset ← reset_in memory d
  Ok (record {
    dpidr = port.dpidr;
    powered = port.powered;
    power_reads = port.power_reads;
    pins = port.pins;
    carry = port.carry;
    aps = aps;
    memory = memory;
    words = words;
    scripts = scripts;
    reset = reset;
  })

-- the value of `packet_size`: the bytes of a packet
unfoldable pub packet_size_in : Data → Result ℕ JobFault
packet_size_in d = required_value (codes "packet_size") (number 64 1024) d

-- the value of `packet_count`: how many packets the probe takes before a reply is read
unfoldable pub packet_count_in : Data → Result ℕ JobFault
packet_count_in d = required_value (codes "packet_count") (number 1 64) d

-- the limits of the probe: the bytes of a packet, and the number of packets
unfoldable pub limits_in : Data → Result Limits JobFault
limits_in d = do
  packet_size ← packet_size_in d
  packet_count ← packet_count_in d
  Ok (record { packet_size = packet_size; packet_count = packet_count })

-- the value of `bench`: the limits of the probe, its WAIT answers, and its target
unfoldable pub bench_in : Data → Result BenchJob JobFault
bench_in d = do
  known ← only_keys bench_keys d
  limits ← limits_in d
  stalls ← or_else (codes "stalls") (list_of (Some 65536) (alone (number 0 100000)) never) [] d
  target ← required_value (codes "target") target_in d
  Ok (record { limits = limits; stalls = stalls; target = target })
