-- Reading a bench gives exactly the bench that the value stands for.
use Rattle.std.proofs.Common.{◌≡◌, ℕ, ◌-◌, ◌^◌, codes, Bool, true, false, cond, List, [], Some, Ok, Err, refl, subst}
use Rattle.dap_base.proofs.Basics.{same_Ok}
use Rattle.serde_json.specs.Data.{Data}
use Rattle.json_form.specs.declared.fault.JobFault.TheVariants.{Missing}
use Rattle.json_form.specs.Reading.{such, list_of, alone, never, repeats_by}
use Rattle.json_form.specs.Form.{IsFlag, IsChoice, IsNumber, Such, Has, HasOr, IsListOf, Alone}
use Rattle.json_form.proofs.ReadingLaws.{Reads, done, bind_ok}
use Rattle.json_form.proofs.LeafLaws.{flag_reads, choice_reads, number_reads, such_reads}
use Rattle.json_form.proofs.ObjectLaws.{only_keys_sound, only_keys_complete, required_reads, or_else_reads}
use Rattle.json_form.proofs.ListLaws.{list_reads, alone_reads}
use Rattle.target_machine.specs.declared.job.RegionJob.{RegionJob}
use Rattle.target_machine.specs.declared.job.WordJob.{WordJob}
use Rattle.target_machine.specs.declared.job.TargetJob.{TargetJob}
use Rattle.probe_core.specs.declared.job.Limits.{Limits}
use Rattle.job_text.specs.declared.target.DebugPort.{DebugPort}
use Rattle.job_text.specs.Tests.{has_bit_0, lacks_bits_4_and_6, is_aligned, is_word_in, is_length_after, same_ap, overlap, same_word, repeats_script, is_filled}
use Rattle.job_text.specs.TargetReading.{word_number, address_number, ap_in, region_in, word_in, values_in, script_in, power_reads_in, port_in, aps_in, regions_in, words_in, listed_in, reset_in, scripts_in, target_in, packet_size_in, packet_count_in, limits_in, bench_in}
use Rattle.job_text.specs.TargetForm.{IsWord, IsAddress, IsAp, IsRegionAfter, IsWordJob, AreValues, IsScriptJob, IsTarget, IsBench}

word_reads : Reads word_number IsWord
word_reads = number_reads 0 (2 ^ 32 - 1)

pub aligned_reads : Reads (such is_aligned address_number) (Such is_aligned IsAddress)
aligned_reads = such_reads is_aligned _ _ (number_reads 0 (2 ^ 64 - 1))

place_reads : (regions : List RegionJob) → Reads (such (is_word_in regions) address_number) (Such (is_word_in regions) IsAddress)
place_reads regions = such_reads (is_word_in regions) _ _ (number_reads 0 (2 ^ 64 - 1))

ap_reads : Reads ap_in IsAp
unfolding ap_in
ap_reads =
    let ap_law = required_reads (codes "ap") _ _ (number_reads 0 255) in
    let idr = or_else_reads (codes "idr") _ _ 0x24770011 word_reads in
    let base = or_else_reads (codes "base") _ _ 0xE00FF003 word_reads in
    let csw = or_else_reads (codes "csw") _ _ 0 word_reads in
    let la = or_else_reads (codes "la") _ _ false flag_reads in
    record {
      sound = λ d x e. (
          let a = bind_ok _ _ x e in
          let n = bind_ok _ _ x a.2 in
          let i = bind_ok _ _ x n.2 in
          let b = bind_ok _ _ x i.2 in
          let c = bind_ok _ _ x b.2 in
          let l = bind_ok _ _ x c.2 in
          subst (IsAp d) (same_Ok _ x l.2) (record {
            known = only_keys_sound _ d a.0 a.1;
            ap = ap_law.sound d n.0 n.1;
            idr = idr.sound d i.0 i.1;
            base = base.sound d b.0 b.1;
            csw = csw.sound d c.0 c.1;
            la = la.sound d l.0 l.1;
          }));
      complete = λ d x p. rw (
        only_keys_complete _ d p.known,
        ap_law.complete d x.ap p.ap,
        idr.complete d x.idr p.idr,
        base.complete d x.base p.base,
        csw.complete d x.csw p.csw,
        la.complete d x.la p.la,
      ) refl;
    }

region_reads : (earlier : List RegionJob) → Reads (region_in earlier) (IsRegionAfter earlier)
unfolding region_in
region_reads earlier =
    let address = required_reads (codes "address") _ _ aligned_reads in
    let kind = or_else_reads (codes "kind") _ _ false (choice_reads (codes "rw") (codes "ro") refl) in
    record {
      sound = λ d x e. (
          let a = bind_ok _ _ x e in
          let b = bind_ok _ _ x a.2 in
          let c = bind_ok _ _ x b.2 in
          let k = bind_ok _ _ x c.2 in
          subst (IsRegionAfter earlier d) (same_Ok _ x k.2) (record {
            known = only_keys_sound _ d a.0 a.1;
            address = address.sound d b.0 b.1;
            length = (required_reads (codes "length") _ _ (such_reads (is_length_after earlier b.0) _ _ (number_reads 4 4194304))).sound d c.0 c.1;
            read_only = kind.sound d k.0 k.1;
          }));
      complete = λ d x p. rw (
        only_keys_complete _ d p.known,
        address.complete d x.address p.address,
        (required_reads (codes "length") _ _ (such_reads (is_length_after earlier x.address) _ _ (number_reads 4 4194304))).complete d x.length p.length,
        kind.complete d x.read_only p.read_only,
      ) refl;
    }

word_job_reads : (regions : List RegionJob) → Reads (word_in regions) (IsWordJob regions)
unfolding word_in
word_job_reads regions =
    let address = required_reads (codes "address") _ _ (place_reads regions) in
    let value = required_reads (codes "value") _ _ word_reads in
    record {
      sound = λ d x e. (
          let a = bind_ok _ _ x e in
          let b = bind_ok _ _ x a.2 in
          let c = bind_ok _ _ x b.2 in
          subst (IsWordJob regions d) (same_Ok _ x c.2) (record {
            known = only_keys_sound _ d a.0 a.1;
            address = address.sound d b.0 b.1;
            value = value.sound d c.0 c.1;
          }));
      complete = λ d x p. rw (only_keys_complete _ d p.known, address.complete d x.address p.address, value.complete d x.value p.value) refl;
    }

filled_ok : (b : Bool) (xs ys : List ℕ) → cond b (done xs) (Err (Missing [])) ≡ Ok ys → (b ≡ true) × (xs ≡ ys)
filled_ok true xs ys e = (refl, cc)
filled_ok false xs ys e = absurd cc

values_reads : Reads values_in AreValues
unfolding values_in
values_reads =
    let all = list_reads (Some 4096) _ _ never (alone_reads _ _ word_reads) in
    record {
      sound = λ d xs e. (
          let a = bind_ok (list_of (Some 4096) (alone word_number) never d) (λ values. cond (is_filled values) (Ok values) (Err (Missing []))) xs e in
          let b = filled_ok (is_filled a.0) a.0 xs a.2 in
          subst (AreValues d) b.1 (all.sound d a.0 a.1, b.0));
      complete = λ d xs p. rw (all.complete d xs p.0, p.1) refl;
    }

script_reads : (regions : List RegionJob) → Reads (script_in regions) (IsScriptJob regions)
unfolding script_in
script_reads regions =
    let address = required_reads (codes "address") _ _ (place_reads regions) in
    let values = required_reads (codes "values") _ _ values_reads in
    record {
      sound = λ d x e. (
          let a = bind_ok _ _ x e in
          let b = bind_ok _ _ x a.2 in
          let c = bind_ok _ _ x b.2 in
          subst (IsScriptJob regions d) (same_Ok _ x c.2) (record {
            known = only_keys_sound _ d a.0 a.1;
            address = address.sound d b.0 b.1;
            values = values.sound d c.0 c.1;
          }));
      complete = λ d x p. rw (only_keys_complete _ d p.known, address.complete d x.address p.address, values.complete d x.values p.values) refl;
    }

-- ---- the debug port and the lines

record HasPort (d : Data) (x : DebugPort) : Type 0 where
  dpidr : HasOr (codes "dpidr") (Such has_bit_0 IsWord) 0x2BA01477 d x.dpidr
  powered : HasOr (codes "powered") IsFlag false d x.powered
  power_reads : HasOr (codes "power_reads") (IsNumber 0 1000000) 0 d x.power_reads
  pins : HasOr (codes "pins") (Such lacks_bits_4_and_6 (IsNumber 0 255)) 0xA0 d x.pins
  carry : HasOr (codes "edge") (IsChoice (codes "wrap") (codes "carry")) false d x.carry

power_reads_reads : Reads power_reads_in (HasOr (codes "power_reads") (IsNumber 0 1000000) 0)
unfolding power_reads_in
power_reads_reads = or_else_reads (codes "power_reads") _ _ 0 (number_reads 0 1000000)

port_reads : Reads port_in HasPort
unfolding port_in
port_reads =
    let dpidr = or_else_reads (codes "dpidr") _ _ 0x2BA01477 (such_reads has_bit_0 _ _ word_reads) in
    let powered = or_else_reads (codes "powered") _ _ false flag_reads in
    let pins = or_else_reads (codes "pins") _ _ 0xA0 (such_reads lacks_bits_4_and_6 _ _ (number_reads 0 255)) in
    let carry = or_else_reads (codes "edge") _ _ false (choice_reads (codes "wrap") (codes "carry") refl) in
    record {
      sound = λ d x e. (
          let a = bind_ok _ _ x e in
          let b = bind_ok _ _ x a.2 in
          let c = bind_ok _ _ x b.2 in
          let p = bind_ok _ _ x c.2 in
          let k = bind_ok _ _ x p.2 in
          subst (HasPort d) (same_Ok _ x k.2) (record {
            dpidr = dpidr.sound d a.0 a.1;
            powered = powered.sound d b.0 b.1;
            power_reads = power_reads_reads.sound d c.0 c.1;
            pins = pins.sound d p.0 p.1;
            carry = carry.sound d k.0 k.1;
          }));
      complete = λ d x p. rw (
        dpidr.complete d x.dpidr p.dpidr,
        powered.complete d x.powered p.powered,
        power_reads_reads.complete d x.power_reads p.power_reads,
        pins.complete d x.pins p.pins,
        carry.complete d x.carry p.carry,
      ) refl;
    }

-- ---- the target

words_law : (key : List ℕ) (limit : ℕ) (regions : List RegionJob) → Reads (words_in key limit regions) (HasOr key (IsListOf (Some limit) (Alone (IsWordJob regions)) (repeats_by same_word)) [])
unfolding words_in
words_law key limit regions = or_else_reads key _ _ [] (list_reads (Some limit) _ _ (repeats_by same_word) (alone_reads _ _ (word_job_reads regions)))

listed_law : (regions : List RegionJob) → Reads (listed_in regions) (HasOr (codes "words") (IsListOf (Some 65536) (Alone (IsWordJob regions)) (repeats_by same_word)) [])
unfolding listed_in
listed_law regions = words_law (codes "words") 65536 regions

reset_law : (regions : List RegionJob) → Reads (reset_in regions) (HasOr (codes "reset") (IsListOf (Some 1024) (Alone (IsWordJob regions)) (repeats_by same_word)) [])
unfolding reset_in
reset_law regions = words_law (codes "reset") 1024 regions

scripts_law : (regions : List RegionJob) (words : List WordJob) → Reads (scripts_in regions words) (HasOr (codes "scripts") (IsListOf (Some 1024) (Alone (IsScriptJob regions)) (repeats_script words)) [])
unfolding scripts_in
scripts_law regions words = or_else_reads (codes "scripts") _ _ [] (list_reads (Some 1024) _ _ (repeats_script words) (alone_reads _ _ (script_reads regions)))

port_of : TargetJob → DebugPort
port_of x = record { dpidr = x.dpidr; powered = x.powered; power_reads = x.power_reads; pins = x.pins; carry = x.carry }

aps_reads : Reads aps_in (Has (codes "aps") (IsListOf (Some 16) (Alone IsAp) (repeats_by same_ap)))
unfolding aps_in
aps_reads = required_reads (codes "aps") _ _ (list_reads (Some 16) _ _ (repeats_by same_ap) (alone_reads _ _ ap_reads))

regions_reads : Reads regions_in (Has (codes "memory") (IsListOf (Some 64) IsRegionAfter (repeats_by overlap)))
unfolding regions_in
regions_reads = required_reads (codes "memory") _ _ (list_reads (Some 64) _ _ (repeats_by overlap) (record { after = region_reads }))

target_reads : Reads target_in IsTarget
unfolding target_in port_of
target_reads = record {
  sound = λ d x e. (
      let a = bind_ok _ _ x e in
      let o = bind_ok _ _ x a.2 in
      let p = bind_ok _ _ x o.2 in
      let m = bind_ok _ _ x p.2 in
      let w = bind_ok _ _ x m.2 in
      let s = bind_ok _ _ x w.2 in
      let r = bind_ok _ _ x s.2 in
      let port = port_reads.sound d o.0 o.1 in
      subst (IsTarget d) (same_Ok _ x r.2) (record {
        known = only_keys_sound _ d a.0 a.1;
        dpidr = port.dpidr;
        powered = port.powered;
        power_reads = port.power_reads;
        pins = port.pins;
        carry = port.carry;
        aps = aps_reads.sound d p.0 p.1;
        memory = regions_reads.sound d m.0 m.1;
        words = (listed_law m.0).sound d w.0 w.1;
        scripts = (scripts_law m.0 w.0).sound d s.0 s.1;
        reset = (reset_law m.0).sound d r.0 r.1;
      }));
  complete = λ d x p. rw (
    only_keys_complete _ d p.known,
    port_reads.complete d (port_of x) (record { dpidr = p.dpidr; powered = p.powered; power_reads = p.power_reads; pins = p.pins; carry = p.carry }),
    aps_reads.complete d x.aps p.aps,
    regions_reads.complete d x.memory p.memory,
    (listed_law x.memory).complete d x.words p.words,
    (scripts_law x.memory x.words).complete d x.scripts p.scripts,
    (reset_law x.memory).complete d x.reset p.reset,
  ) refl;
}

-- ---- the bench

record HasLimits (d : Data) (x : Limits) : Type 0 where
  packet_size : Has (codes "packet_size") (IsNumber 64 1024) d x.packet_size
  packet_count : Has (codes "packet_count") (IsNumber 1 64) d x.packet_count

packet_size_reads : Reads packet_size_in (Has (codes "packet_size") (IsNumber 64 1024))
unfolding packet_size_in
packet_size_reads = required_reads (codes "packet_size") _ _ (number_reads 64 1024)

packet_count_reads : Reads packet_count_in (Has (codes "packet_count") (IsNumber 1 64))
unfolding packet_count_in
packet_count_reads = required_reads (codes "packet_count") _ _ (number_reads 1 64)

limits_reads : Reads limits_in HasLimits
unfolding limits_in
limits_reads = record {
  sound = λ d x e. (
      let a = bind_ok _ _ x e in
      let b = bind_ok _ _ x a.2 in
      subst (HasLimits d) (same_Ok _ x b.2) (record { packet_size = packet_size_reads.sound d a.0 a.1; packet_count = packet_count_reads.sound d b.0 b.1 }));
  complete = λ d x p. rw (packet_size_reads.complete d x.packet_size p.packet_size, packet_count_reads.complete d x.packet_count p.packet_count) refl;
}

pub bench_reads : Reads bench_in IsBench
unfolding bench_in
bench_reads =
    let stalls = or_else_reads (codes "stalls") _ _ [] (list_reads (Some 65536) _ _ never (alone_reads _ _ (number_reads 0 100000))) in
    let target = required_reads (codes "target") _ _ target_reads in
    record {
      sound = λ d x e. (
          let a = bind_ok _ _ x e in
          let l = bind_ok _ _ x a.2 in
          let s = bind_ok _ _ x l.2 in
          let t = bind_ok _ _ x s.2 in
          let limits = limits_reads.sound d l.0 l.1 in
          subst (IsBench d) (same_Ok _ x t.2) (record {
            known = only_keys_sound _ d a.0 a.1;
            packet_size = limits.packet_size;
            packet_count = limits.packet_count;
            stalls = stalls.sound d s.0 s.1;
            target = target.sound d t.0 t.1;
          }));
      complete = λ d x p. rw (
        only_keys_complete _ d p.known,
        limits_reads.complete d x.limits (record { packet_size = p.packet_size; packet_count = p.packet_count }),
        stalls.complete d x.stalls p.stalls,
        target.complete d x.target p.target,
      ) refl;
    }
