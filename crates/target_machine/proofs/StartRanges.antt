-- The target at the start of a job is in range, and the calls on the lines leave it in range.
use Rattle.std.proofs.Common.{◌≡◌, ℕ, zero, suc, ◌+◌, ◌-◌, ◌*◌, ◌/◌, ◌%◌, ◌^◌, ◌<◌, ◌≤◌, Bool, true, false, cond, List, [], ◌∷◌, ◌++◌, map, replicate, fold, Option, Some, None, sym, subst, arith, bit_and}
use Rattle.std.specs.FinMap as finite
use Rattle.std.specs.Int.{w8, bit_not}
use Rattle.std.specs.List.{All, AllByRecursion, flat_map}
use Rattle.std.proofs.lemmas.List.Elements.{All-cons, All-nil}
use Rattle.std.proofs.lemmas.Nat.{and_le_l, and_le_r, or_lt}
use Rattle.target_machine.proofs.Shifts.{shifted_fits}
use Rattle.target_machine.proofs.Values.{each_inserted, each_entry}
use Rattle.target_machine.specs.InRange.{EachValue, IsWord, IsPortInRange, IsCellInRange, IsLinesInRange, IsInRange, IsJobInRange}
use Rattle.target_machine.specs.Lines.{driven, pins_after, resets, pins_set, grown_counter, line_shifted, clock_set, delayed_target}
use Rattle.target_machine.specs.Memory.{Memory, Cell, with_values, cell_with, with_values_at, with_word, with_script, cells, zero_cells, zeros}
use Rattle.target_machine.specs.Ranges.{IsTargetJob}
use Rattle.target_machine.specs.Registers.{csw_stored, driven_pins, power_requests}
use Rattle.target_machine.specs.Start.{ap_entry, start}
use Rattle.target_machine.specs.State.{TargetState}
use Rattle.target_machine.specs.declared.image.LinesImage.{LinesImage}
use Rattle.target_machine.specs.declared.job.ApJob.{ApJob}
use Rattle.target_machine.specs.declared.job.RegionJob.{RegionJob}
use Rattle.target_machine.specs.declared.job.ScriptJob.{ScriptJob}
use Rattle.target_machine.specs.declared.job.WordJob.{WordJob}
use Rattle.target_machine.specs.declared.job.TargetJob.{TargetJob}
use Rattle.target_machine.proofs.AccessRanges.{word_either, masked}

-- ---- memory

valued : (m : Memory) (address : ℕ) (values : List ℕ) → EachValue IsCellInRange m → All IsWord values → EachValue IsCellInRange (with_values_at m address values)
valued m address values h v = by_cell (finite.get m address)
  where
    by_cell : (o : Option Cell) → EachValue IsCellInRange (cell_with m address values o)
    by_cell None = h
    by_cell (Some c) = each_inserted IsCellInRange m address (with_values c values) h v

pub words_in_range : (words : List WordJob) (m : Memory) → EachValue IsCellInRange m → All (λ word. IsWord word.value) words → EachValue IsCellInRange (fold with_word m words)
words_in_range [] m h v = h
words_in_range (w ∷ words) m h v =
    words_in_range words (with_word m w) (valued m w.address (w.value ∷ []) h (All-cons IsWord w.value [] (v 0 w (omega arith)) (All-nil IsWord))) (λ k d lt. v (suc k) d (omega arith))

scripts_in_range : (scripts : List ScriptJob) (m : Memory) → EachValue IsCellInRange m → All (λ script. All IsWord script.values) scripts → EachValue IsCellInRange (fold with_script m scripts)
scripts_in_range [] m h v = h
scripts_in_range (s ∷ scripts) m h v =
    scripts_in_range scripts (with_script m s) (valued m s.address s.values h (v 0 s (omega arith))) (λ k d lt. v (suc k) d (omega arith))

abbrev AreEntries : List (ℕ × Cell) → Type 0
AreEntries es = AllByRecursion (λ e. IsCellInRange e.1) es

entries_append : (xs ys : List (ℕ × Cell)) → AreEntries xs → AreEntries ys → AreEntries (xs ++ ys)
entries_append [] ys h k = k
entries_append (x ∷ xs) ys h k = (h.0, entries_append xs ys h.1 k)

zeros_from : (n address : ℕ) (c : Cell) → IsCellInRange c → AreEntries (cells address (replicate n c))
zeros_from zero address c h = tt
zeros_from (suc n) address c h = (h, zeros_from n (address + 4) c h)

region_entries : (regions : List RegionJob) → AreEntries (flat_map zero_cells regions)
region_entries [] = tt
region_entries (r ∷ regions) =
    entries_append (zero_cells r) (flat_map zero_cells regions)
    (zeros_from (r.length / 4) r.address (record { values = 0 ∷ []; place = 0; read_only = r.read_only }) (All-cons IsWord 0 [] (omega arith) (All-nil IsWord)))
    (region_entries regions)

-- ---- the start of a job

port_entries : (aps : List ApJob) → All (λ a. IsWord a.idr × IsWord a.base) aps → AllByRecursion (λ e. IsPortInRange e.1) (map ap_entry aps)
port_entries [] h = tt
port_entries (a ∷ aps) h = (
  record { csw = masked a.csw csw_stored (omega arith); tar = omega arith; high = omega arith; idr = (h 0 a (omega arith)).0; base = (h 0 a (omega arith)).1 },
  port_entries aps (λ k d lt. h (suc k) d (omega arith)),
)

-- the target at the start of a job
pub start_in_range : (job : TargetJob) → IsTargetJob job → IsJobInRange job → IsInRange (start job)
unfolding start
start_in_range job sound h =
    let few : job.power_reads < 2 ^ 32 = (let le = sound.power_reads in omega arith) in
    record {
      select = omega arith;
      ctrl = word_either job.powered power_requests 0 (omega arith) (omega arith);
      rdbuff = omega arith;
      reads = word_either job.powered job.power_reads 0 few (omega arith);
      power_reads = few;
      dpidr = h.dpidr;
      aps = each_entry IsPortInRange (map ap_entry job.aps) (port_entries job.aps h.aps);
      words = scripts_in_range job.scripts (fold with_word (zeros job.memory) job.words)
          (words_in_range job.words (zeros job.memory) (each_entry IsCellInRange (flat_map zero_cells job.memory) (region_entries job.memory)) h.words) h.scripts;
      reset = h.reset;
      lines = record { pins = h.pins; bits = omega arith; last = omega arith; clock = omega arith; delay = omega arith };
    }

-- ---- the lines

memory_either : (b : Bool) (x y : Memory) → EachValue IsCellInRange x → EachValue IsCellInRange y → EachValue IsCellInRange (cond b x y)
memory_either true x y h k = h
memory_either false x y h k = k

module _ (t : TargetState) (h : IsInRange t) where
  changed : (lines : LinesImage) (words : Memory) → IsLinesInRange lines → EachValue IsCellInRange words → IsInRange (record t { lines = lines; words = words })
  changed lines words a b = record {
    select = h.select;
    ctrl = h.ctrl;
    rdbuff = h.rdbuff;
    reads = h.reads;
    power_reads = h.power_reads;
    dpidr = h.dpidr;
    aps = h.aps;
    words = b;
    reset = h.reset;
    lines = a;
  }

  pub pins_in_range : (output select : ℕ) → IsInRange (pins_set t output select)
  pins_in_range output select =
      let l = h.lines in
      let kept = and_le_l t.lines.pins (bit_not w8 (driven select)) in
      let drives = and_le_r select driven_pins in
      let put = and_le_r output (driven select) in
      let old : bit_and t.lines.pins (bit_not w8 (driven select)) < 2 ^ 8 = (let p = l.pins in omega arith) in
      let new : bit_and output (driven select) < 2 ^ 8 = omega arith in
      let after : ℕ = pins_after t.lines.pins output select in
      changed (record t.lines { pins = after }) (cond (resets t.lines.pins after) (fold with_word t.words t.reset) t.words)
      (record { pins = or_lt 8 _ _ old new; bits = l.bits; last = l.last; clock = l.clock; delay = l.delay })
      (memory_either (resets t.lines.pins after) (fold with_word t.words t.reset) t.words (words_in_range t.reset t.words h.words h.reset) h.words)

  grown_in_range : (n by : ℕ) → grown_counter n by < 2 ^ 64
  grown_in_range n by = omega arith

  shifted_in_range : (last count bits : ℕ) → count ≤ 64 → last < 2 ^ 64 → last / 2 ^ count + bits % 2 ^ count * 2 ^ (64 - count) < 2 ^ 64
  shifted_in_range last count bits few lt =
      let whole : count + (64 - count) ≡ 64 = omega arith in
      subst (λ (n : ℕ). last / 2 ^ count + bits % 2 ^ count * 2 ^ (64 - count) < 2 ^ n) whole
      (shifted_fits last bits count (64 - count) (subst (λ (n : ℕ). last < 2 ^ n) (sym whole) lt))

  pub line_in_range : (count bits : ℕ) → count ≤ 64 → IsInRange (line_shifted t count bits)
  line_in_range count bits few =
      let l = h.lines in
      changed (record t.lines { bits = grown_counter t.lines.bits count; last = t.lines.last / 2 ^ count + bits % 2 ^ count * 2 ^ (64 - count) }) t.words
      (record { pins = l.pins; bits = grown_in_range t.lines.bits count; last = shifted_in_range t.lines.last count bits few l.last; clock = l.clock; delay = l.delay })
      h.words

  pub clock_in_range : (hertz : ℕ) → IsWord hertz → IsInRange (clock_set t hertz)
  clock_in_range hertz lt =
      let l = h.lines in
      changed (record t.lines { clock = hertz }) t.words (record { pins = l.pins; bits = l.bits; last = l.last; clock = lt; delay = l.delay }) h.words

  pub delay_in_range : (micros : ℕ) → IsInRange (delayed_target t micros)
  delay_in_range micros =
      let l = h.lines in
      changed (record t.lines { delay = grown_counter t.lines.delay micros }) t.words (record { pins = l.pins; bits = l.bits; last = l.last; clock = l.clock; delay = grown_in_range t.lines.delay micros }) h.words
