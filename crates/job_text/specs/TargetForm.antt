-- Which JSON value stands for which bench, said apart from any order of reading.
use Rattle.std.specs.Prelude.{◌≡◌, ℕ, ◌-◌, ◌^◌, codes, true, false, List, [], ◌∷◌, Some}
use Rattle.serde_json.specs.Data.{Data}
use Rattle.json_form.specs.Reading.{never, repeats_by}
use Rattle.json_form.specs.Form.{IsFlag, IsChoice, IsNumber, Such, HasOnly, Has, HasOr, IsListOf, Alone}
use Rattle.target_machine.specs.declared.job.ApJob.{ApJob}
use Rattle.target_machine.specs.declared.job.RegionJob.{RegionJob}
use Rattle.target_machine.specs.declared.job.WordJob.{WordJob}
use Rattle.target_machine.specs.declared.job.ScriptJob.{ScriptJob}
use Rattle.target_machine.specs.declared.job.TargetJob.{TargetJob}
use Rattle.probe_core.specs.declared.job.BenchJob.{BenchJob}
use Rattle.job_text.specs.Tests.{has_bit_0, lacks_bits_4_and_6, is_aligned, is_word_in, is_length_after, same_ap, overlap, same_word, repeats_script, is_filled}

-- the value is a number of 32 bits
abbrev pub IsWord : Data → ℕ → Type 0
IsWord = IsNumber 0 (2 ^ 32 - 1)

-- the value is a number of 64 bits
abbrev pub IsAddress : Data → ℕ → Type 0
IsAddress = IsNumber 0 (2 ^ 64 - 1)

-- the value is an item of `aps`: the number of an access port, its registers, and whether its addresses are large
pub record IsAp (d : Data) (x : ApJob) : Type 0 where
  pub known : HasOnly (codes "ap" ∷ codes "idr" ∷ codes "base" ∷ codes "csw" ∷ codes "la" ∷ []) d
  pub ap : Has (codes "ap") (IsNumber 0 255) d x.ap
  pub idr : HasOr (codes "idr") IsWord 0x24770011 d x.idr
  pub base : HasOr (codes "base") IsWord 0xE00FF003 d x.base
  pub csw : HasOr (codes "csw") IsWord 0 d x.csw
  pub la : HasOr (codes "la") IsFlag false d x.la

-- the value is an item of `memory`: a region which, with the earlier regions, has at most 4,194,304 bytes
pub record IsRegionAfter (earlier : List RegionJob) (d : Data) (x : RegionJob) : Type 0 where
  pub known : HasOnly (codes "address" ∷ codes "length" ∷ codes "kind" ∷ []) d
  pub address : Has (codes "address") (Such is_aligned IsAddress) d x.address
  pub length : Has (codes "length") (Such (is_length_after earlier x.address) (IsNumber 4 4194304)) d x.length
  pub read_only : HasOr (codes "kind") (IsChoice (codes "rw") (codes "ro")) false d x.read_only

-- the value is an item of `words` or `reset`: a value of 32 bits at a word of a region
pub record IsWordJob (regions : List RegionJob) (d : Data) (x : WordJob) : Type 0 where
  pub known : HasOnly (codes "address" ∷ codes "value" ∷ []) d
  pub address : Has (codes "address") (Such (is_word_in regions) IsAddress) d x.address
  pub value : Has (codes "value") IsWord d x.value

-- 1 to 4,096 words
abbrev pub AreValues : Data → List ℕ → Type 0
AreValues d values = IsListOf (Some 4096) (Alone IsWord) never d values × (is_filled values ≡ true)

-- the value is an item of `scripts`: 1 to 4,096 values that a word of a region shows one after another
pub record IsScriptJob (regions : List RegionJob) (d : Data) (x : ScriptJob) : Type 0 where
  pub known : HasOnly (codes "address" ∷ codes "values" ∷ []) d
  pub address : Has (codes "address") (Such (is_word_in regions) IsAddress) d x.address
  pub values : Has (codes "values") AreValues d x.values

-- the value of `target` stands for the target: each key has its value, or its default where it is absent
pub record IsTarget (d : Data) (x : TargetJob) : Type 0 where
  pub known : HasOnly (codes "dpidr" ∷ codes "powered" ∷ codes "power_reads" ∷ codes "pins" ∷ codes "edge"
      ∷ codes "aps" ∷ codes "memory" ∷ codes "words" ∷ codes "scripts" ∷ codes "reset" ∷ []) d
  pub dpidr : HasOr (codes "dpidr") (Such has_bit_0 IsWord) 0x2BA01477 d x.dpidr
  pub powered : HasOr (codes "powered") IsFlag false d x.powered
  pub power_reads : HasOr (codes "power_reads") (IsNumber 0 1000000) 0 d x.power_reads
  pub pins : HasOr (codes "pins") (Such lacks_bits_4_and_6 (IsNumber 0 255)) 0xA0 d x.pins
  pub carry : HasOr (codes "edge") (IsChoice (codes "wrap") (codes "carry")) false d x.carry
  pub aps : Has (codes "aps") (IsListOf (Some 16) (Alone IsAp) (repeats_by same_ap)) d x.aps
  pub memory : Has (codes "memory") (IsListOf (Some 64) IsRegionAfter (repeats_by overlap)) d x.memory
  pub words : HasOr (codes "words") (IsListOf (Some 65536) (Alone (IsWordJob x.memory)) (repeats_by same_word)) [] d x.words
  pub scripts : HasOr (codes "scripts") (IsListOf (Some 1024) (Alone (IsScriptJob x.memory)) (repeats_script x.words)) [] d x.scripts
  pub reset : HasOr (codes "reset") (IsListOf (Some 1024) (Alone (IsWordJob x.memory)) (repeats_by same_word)) [] d x.reset

-- the value of `bench` stands for the probe, by its packets and its WAIT answers, and for its target
pub record IsBench (d : Data) (x : BenchJob) : Type 0 where
  pub known : HasOnly (codes "packet_size" ∷ codes "packet_count" ∷ codes "stalls" ∷ codes "target" ∷ []) d
  pub packet_size : Has (codes "packet_size") (IsNumber 64 1024) d x.limits.packet_size
  pub packet_count : Has (codes "packet_count") (IsNumber 1 64) d x.limits.packet_count
  pub stalls : HasOr (codes "stalls") (IsListOf (Some 65536) (Alone (IsNumber 0 100000)) never) [] d x.stalls
  pub target : Has (codes "target") IsTarget d x.target
