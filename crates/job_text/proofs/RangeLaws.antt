-- A bench that a value stands for can be loaded.
use Rattle.std.proofs.Common.{◌≡◌, ◌≢◌, ℕ, suc, ◌+◌, ◌%◌, ◌^◌, ◌<◌, ◌≤◌, ◌==◌, ◌&&◌, ◌||◌, inl, inr, Bool, true, false, nat_le, nat_lt, List, [], ◌∷◌, ◌++◌, length, get_or, Some, refl, sym, subst, arith, bit_and, codes}
use Rattle.std.proofs.lemmas.Bool.{leb-true, and_parts, or_parts, ltb-true, ltb-false}
use Rattle.std.proofs.lemmas.Bool.Decides.{nat_tests}
use Rattle.std.proofs.lemmas.List.Sums.{sum_by_push}
use Rattle.std.specs.List.{All, AllPairs, Any, list_any, sum_by}
use Rattle.serde_json.specs.Data.{Data, Items, no_items, item}
use Rattle.json_form.specs.Reading.{never, repeats_by}
use Rattle.json_form.specs.Form.{IsNumber, Such, HasOr, EachItem, IsListOf, Alone}
use Rattle.json_form.proofs.ItemLaws.{none_at, list_holds, list_pairs, list_length}
use Rattle.target_machine.specs.declared.job.ApJob.{ApJob}
use Rattle.target_machine.specs.declared.job.RegionJob.{RegionJob}
use Rattle.target_machine.specs.declared.job.WordJob.{WordJob}
use Rattle.target_machine.specs.declared.job.ScriptJob.{ScriptJob}
use Rattle.target_machine.specs.declared.job.TargetJob.{TargetJob}
use Rattle.target_machine.specs.InRange.{IsJobInRange}
use Rattle.target_machine.specs.Ranges.{IsRegion, AreApart, IsWordIn, IsScriptIn, IsTargetJob}
use Rattle.probe_core.specs.declared.job.BenchJob.{BenchJob}
use Rattle.probe_core.specs.Ranges.{IsBenchJob}
use Rattle.job_text.specs.Tests.{has_bit_0, lacks_bits_4_and_6, is_aligned, holds, is_held, is_word_in, is_length_after, same_ap, overlap, same_word, same_script, repeats_script, is_filled}
use Rattle.job_text.specs.TargetForm.{IsWord, IsAp, IsRegionAfter, IsWordJob, IsScriptJob, IsTarget, IsBench}
use Rattle.trace_audit.proofs.TextLemmas.{is_equal}

-- ---- tests

is_other : (x y : ℕ) → (x == y) ≡ false → x ≢ y
is_other x y e same = grind (arith, nat_tests)

-- ---- members with defaults

pub or_default : {A : Type 0} (key : List ℕ) (R : Data → A → Type 0) (other : A) (d : Data) (x : A) (P : A → Type 0) → ((v : Data) (y : A) → R v y → P y) → P other → HasOr key R other d x → P x
or_default key R other d x P law base (inl h) = law h.0 x h.2
or_default key R other d x P law base (inr h) = subst P (sym h.1) base

-- ---- regions

end_of : (earlier : List RegionJob) (address n : ℕ) → is_length_after earlier address n ≡ true → (n % 4 ≡ 0) × (address + n ≤ 2 ^ 63) × (sum_by (λ r. r.length) earlier + n ≤ 4194304)
end_of earlier address n e =
    let a = and_parts (is_aligned n && nat_le (address + n) (2 ^ 63)) (nat_le (sum_by (λ r. r.length) earlier + n) 4194304) e in
    let b = and_parts (is_aligned n) (nat_le (address + n) (2 ^ 63)) a.0 in
    (is_equal (n % 4) 0 b.0, leb-true _ _ b.1, leb-true _ _ a.1)

region_in_range : (earlier : List RegionJob) (d : Data) (x : RegionJob) → IsRegionAfter earlier d x → repeats_by overlap earlier x ≡ false → IsRegion x
region_in_range earlier d x is fresh =
    let fits = end_of earlier x.address x.length is.length.2.1 in
    record { aligned = is_equal (x.address % 4) 0 is.address.2.1; whole = fits.0; some = is.length.2.0.1; fits = fits.1 }

apart_at : (a b : Bool) (x y : RegionJob) → nat_lt x.address (y.address + y.length) ≡ a → nat_lt y.address (x.address + x.length) ≡ b → a && b ≡ false → AreApart x y
apart_at true true x y first second e = absurd cc
apart_at true false x y first second e = inl (ltb-false _ _ second)
apart_at false b x y first second e = inr (ltb-false _ _ first)

are_apart : (before : List RegionJob) (x : RegionJob) → repeats_by overlap before x ≡ false → All (λ other. AreApart other x) before
are_apart before x e k d lt = apart_at _ _ (get_or before k d) x refl refl (none_at (λ other. overlap other x) before e k d lt)

each_sum : (repeats : List RegionJob → RegionJob → Bool) (earlier : List RegionJob) (ds : Items) (xs : List RegionJob)
    → sum_by (λ r. r.length) earlier ≤ 4194304 → EachItem IsRegionAfter repeats earlier ds xs → sum_by (λ r. r.length) xs ≤ 4194304
each_sum repeats earlier no_items xs small each = subst (λ rs. sum_by (λ r. r.length) rs ≤ 4194304) (sym each) small
each_sum repeats earlier (item d ds) xs small each =
    let fits = end_of earlier each.0.address each.0.length each.1.length.2.1 in
    let grown : sum_by (λ r. r.length) (earlier ++ each.0 ∷ []) ≤ 4194304 = omega (arith, sum_by_push (λ r. r.length) earlier each.0, fits.2) in
    each_sum repeats (earlier ++ each.0 ∷ []) ds xs grown each.3

-- ---- words

any_shifted : {A : Type 0} (P : A → Type 0) (x : A) (xs : List A) → Any P xs → Any P (x ∷ xs)
any_shifted P x xs h = (suc h.0, h.1, omega (arith, h.2), h.3, h.4)

any_case : {A : Type 0} (b : Bool) (P : A → Type 0) (x : A) (xs : List A) (rest : Bool) → (b ≡ true → P x) → (rest ≡ true → Any P xs) → b || rest ≡ true → Any P (x ∷ xs)
any_case true P x xs rest here later e = (0, x, omega arith, refl, here refl)
any_case false P x xs rest here later e = any_shifted P x xs (later e)

any_at : {A : Type 0} (p : A → Bool) (P : A → Type 0) (xs : List A) → ((x : A) → p x ≡ true → P x) → list_any p xs ≡ true → Any P xs
any_at p P [] law e = absurd cc
any_at p P (x ∷ xs) law e = any_case (p x) P x xs (list_any p xs) (law x) (any_at p P xs law) e

held_by : (address : ℕ) (r : RegionJob) → holds address r ≡ true → (r.address ≤ address) × (address < r.address + r.length)
held_by address r e = let a = and_parts (nat_le r.address address) (nat_lt address (r.address + r.length)) e in (leb-true _ _ a.0, ltb-true _ _ a.1)

word_in_range : (regions : List RegionJob) (address : ℕ) → is_word_in regions address ≡ true → IsWordIn regions address
word_in_range regions address e =
    let a = and_parts (is_aligned address) (is_held regions address) e in
    record { aligned = is_equal (address % 4) 0 a.0; inside = any_at (holds address) _ regions (held_by address) a.1 }

words_differ : (before : List WordJob) (x : WordJob) → repeats_by same_word before x ≡ false → All (λ other. other.address ≢ x.address) before
words_differ before x e k d lt = is_other _ _ (none_at (λ other. same_word other x) before e k d lt)

-- what holds of the words of a member, `words` or `reset`
record WordsHold (regions : List RegionJob) (limit : ℕ) (words : List WordJob) : Type 0 where
  few : length words ≤ limit
  inside : All (λ word. IsWordIn regions word.address) words
  differ : AllPairs (λ a b. a.address ≢ b.address) words

words_hold : (key : List ℕ) (limit : ℕ) (regions : List RegionJob) (d : Data) (words : List WordJob)
    → HasOr key (IsListOf (Some limit) (Alone (IsWordJob regions)) (repeats_by same_word)) [] d words → WordsHold regions limit words
words_hold key limit regions d words has =
    or_default key _ [] d words (WordsHold regions limit)
    (λ v ws is. record {
      few = list_length limit _ (repeats_by same_word) v ws is;
      inside = list_holds (Some limit) _ (repeats_by same_word) (λ word. IsWordIn regions word.address) v ws (λ before d' x h fresh. word_in_range regions x.address h.address.2.1) is;
      differ = list_pairs (Some limit) (Alone (IsWordJob regions)) (repeats_by same_word) (λ a b. a.address ≢ b.address) v ws words_differ is;
    })
    (record { few = omega arith; inside = λ k e lt. absurd (omega arith); differ = λ i j e lt below. absurd (omega arith) })
    has

-- ---- scripts

filled_length : (values : List ℕ) → is_filled values ≡ true → 1 ≤ length values
filled_length [] e = absurd cc
filled_length (v ∷ values) e = omega arith

script_in_range : (regions : List RegionJob) (d : Data) (x : ScriptJob) → IsScriptJob regions d x → IsScriptIn regions x
script_in_range regions d x is = record {
  word = word_in_range regions x.address is.address.2.1;
  some = filled_length x.values is.values.2.1;
  few = list_length 4096 _ never is.values.0 x.values is.values.2.0;
}

no_script : (words : List WordJob) (before : List ScriptJob) (x : ScriptJob) → repeats_script words before x ≡ false
    → (list_any (λ other. same_script other x) before ≡ false) × (list_any (λ word. word.address == x.address) words ≡ false)
no_script words before x e = or_parts (list_any (λ other. same_script other x) before) (list_any (λ word. word.address == x.address) words) e

scripts_differ : (words : List WordJob) (before : List ScriptJob) (x : ScriptJob) → repeats_script words before x ≡ false → All (λ other. other.address ≢ x.address) before
scripts_differ words before x e k d lt = is_other _ _ (none_at (λ other. same_script other x) before (no_script words before x e).0 k d lt)

script_is_no_word : (words : List WordJob) (before : List ScriptJob) (x : ScriptJob) → repeats_script words before x ≡ false → All (λ word. word.address ≢ x.address) words
script_is_no_word words before x e k d lt = is_other _ _ (none_at (λ word. word.address == x.address) words (no_script words before x e).1 k d lt)

record ScriptsHold (regions : List RegionJob) (words : List WordJob) (scripts : List ScriptJob) : Type 0 where
  few : length scripts ≤ 1024
  inside : All (IsScriptIn regions) scripts
  differ : AllPairs (λ a b. a.address ≢ b.address) scripts
  no_words : All (λ script. All (λ word. word.address ≢ script.address) words) scripts

scripts_hold : (regions : List RegionJob) (words : List WordJob) (d : Data) (scripts : List ScriptJob)
    → HasOr (codes "scripts") (IsListOf (Some 1024) (Alone (IsScriptJob regions)) (repeats_script words)) [] d scripts → ScriptsHold regions words scripts
scripts_hold regions words d scripts has =
    or_default (codes "scripts") _ [] d scripts (ScriptsHold regions words)
    (λ v ss is. record {
      few = list_length 1024 _ (repeats_script words) v ss is;
      inside = list_holds (Some 1024) _ (repeats_script words) (IsScriptIn regions) v ss (λ before d' x h fresh. script_in_range regions d' x h) is;
      differ = list_pairs (Some 1024) (Alone (IsScriptJob regions)) (repeats_script words) (λ a b. a.address ≢ b.address) v ss (scripts_differ words) is;
      no_words = list_holds (Some 1024) (Alone (IsScriptJob regions)) (repeats_script words) (λ script. All (λ word. word.address ≢ script.address) words) v ss (λ before d' x h fresh. script_is_no_word words before x fresh) is;
    })
    (record { few = omega arith; inside = λ k e lt. absurd (omega arith); differ = λ i j e lt below. absurd (omega arith); no_words = λ k e lt. absurd (omega arith) })
    has

-- ---- the target

aps_differ : (before : List ApJob) (x : ApJob) → repeats_by same_ap before x ≡ false → All (λ other. other.ap ≢ x.ap) before
aps_differ before x e k d lt = is_other _ _ (none_at (λ other. same_ap other x) before e k d lt)

target_ranges : (d : Data) (x : TargetJob) → IsTarget d x → IsTargetJob x
target_ranges d x is =
    let aps = is.aps.2 in
    let memory = is.memory.2 in
    let words = words_hold (codes "words") 65536 x.memory d x.words is.words in
    let scripts = scripts_hold x.memory x.words d x.scripts is.scripts in
    let reset = words_hold (codes "reset") 1024 x.memory d x.reset is.reset in
    record {
      dpidr = or_default (codes "dpidr") (Such has_bit_0 IsWord) 0x2BA01477 d x.dpidr (λ n. n % 2 ≡ 1) (λ v n h. is_equal (n % 2) 1 h.1) refl is.dpidr;
      power_reads = or_default (codes "power_reads") (IsNumber 0 1000000) 0 d x.power_reads (λ n. n ≤ 1000000) (λ v n h. h.2) (omega arith) is.power_reads;
      pins = or_default (codes "pins") (Such lacks_bits_4_and_6 (IsNumber 0 255)) 0xA0 d x.pins (λ n. bit_and n 0x50 ≡ 0) (λ v n h. is_equal (bit_and n 0x50) 0 h.1) refl is.pins;
      few_aps = list_length 16 _ (repeats_by same_ap) is.aps.0 x.aps aps;
      aps_differ = list_pairs (Some 16) (Alone IsAp) (repeats_by same_ap) (λ a b. a.ap ≢ b.ap) is.aps.0 x.aps aps_differ aps;
      few_regions = list_length 64 _ (repeats_by overlap) is.memory.0 x.memory memory;
      regions = list_holds (Some 64) IsRegionAfter (repeats_by overlap) IsRegion is.memory.0 x.memory region_in_range memory;
      small_memory = each_sum (repeats_by overlap) [] memory.0 x.memory (omega arith) memory.3;
      regions_apart = list_pairs (Some 64) IsRegionAfter (repeats_by overlap) AreApart is.memory.0 x.memory are_apart memory;
      few_words = words.few;
      words = words.inside;
      words_differ = words.differ;
      few_scripts = scripts.few;
      scripts = scripts.inside;
      scripts_differ = scripts.differ;
      scripts_are_no_words = scripts.no_words;
      few_resets = reset.few;
      resets = reset.inside;
      resets_differ = reset.differ;
    }

-- ---- the numbers of the target

word_fits : (v : Data) (n : ℕ) → IsWord v n → n < 2 ^ 32
word_fits v n is = omega (arith, is.2)

port_fits : (d : Data) (x : ApJob) → IsAp d x → (x.idr < 2 ^ 32) × (x.base < 2 ^ 32)
port_fits d x is = (
  or_default (codes "idr") IsWord 0x24770011 d x.idr (λ n. n < 2 ^ 32) word_fits (omega arith) is.idr,
  or_default (codes "base") IsWord 0xE00FF003 d x.base (λ n. n < 2 ^ 32) word_fits (omega arith) is.base,
)

words_fit : (key : List ℕ) (limit : ℕ) (regions : List RegionJob) (d : Data) (words : List WordJob)
    → HasOr key (IsListOf (Some limit) (Alone (IsWordJob regions)) (repeats_by same_word)) [] d words → All (λ word. word.value < 2 ^ 32) words
words_fit key limit regions d words has =
    or_default key _ [] d words (All (λ word. word.value < 2 ^ 32))
    (λ v ws is. list_holds (Some limit) (Alone (IsWordJob regions)) (repeats_by same_word) (λ word. word.value < 2 ^ 32) v ws (λ before d' x h fresh. word_fits h.value.0 x.value h.value.2) is)
    (λ k e lt. absurd (omega arith)) has

values_fit : (regions : List RegionJob) (d : Data) (x : ScriptJob) → IsScriptJob regions d x → All (λ n. n < 2 ^ 32) x.values
values_fit regions d x is = list_holds (Some 4096) (Alone IsWord) never (λ n. n < 2 ^ 32) is.values.0 x.values (λ before d' n h fresh. word_fits d' n h) is.values.2.0

scripts_fit : (regions : List RegionJob) (words : List WordJob) (d : Data) (scripts : List ScriptJob)
    → HasOr (codes "scripts") (IsListOf (Some 1024) (Alone (IsScriptJob regions)) (repeats_script words)) [] d scripts → All (λ script. All (λ n. n < 2 ^ 32) script.values) scripts
scripts_fit regions words d scripts has =
    or_default (codes "scripts") _ [] d scripts (All (λ script. All (λ n. n < 2 ^ 32) script.values))
    (λ v ss is. list_holds (Some 1024) (Alone (IsScriptJob regions)) (repeats_script words) (λ script. All (λ n. n < 2 ^ 32) script.values) v ss (λ before d' x h fresh. values_fit regions d' x h) is)
    (λ k e lt. absurd (omega arith)) has

pub target_in_range : (d : Data) (x : TargetJob) → IsTarget d x → IsJobInRange x
target_in_range d x is = record {
  dpidr = or_default (codes "dpidr") (Such has_bit_0 IsWord) 0x2BA01477 d x.dpidr (λ n. n < 2 ^ 32) (λ v n h. word_fits v n h.0) (omega arith) is.dpidr;
  pins = or_default (codes "pins") (Such lacks_bits_4_and_6 (IsNumber 0 255)) 0xA0 d x.pins (λ n. n < 2 ^ 8) (λ v n h. omega (arith, h.0.2)) (omega arith) is.pins;
  aps = list_holds (Some 16) (Alone IsAp) (repeats_by same_ap) (λ a. (a.idr < 2 ^ 32) × (a.base < 2 ^ 32)) is.aps.0 x.aps (λ before d' a h fresh. port_fits d' a h) is.aps.2;
  words = words_fit (codes "words") 65536 x.memory d x.words is.words;
  scripts = scripts_fit x.memory x.words d x.scripts is.scripts;
  reset = words_fit (codes "reset") 1024 x.memory d x.reset is.reset;
}

-- ---- the bench

record StallsHold (stalls : List ℕ) : Type 0 where
  few : length stalls ≤ 65536
  small : All (λ stall. stall ≤ 100000) stalls

pub bench_ranges : (d : Data) (x : BenchJob) → IsBench d x → IsBenchJob x
bench_ranges d x is =
    let stalls = or_default (codes "stalls") (IsListOf (Some 65536) (Alone (IsNumber 0 100000)) never) [] d x.stalls StallsHold
    (λ v ss h. record {
      few = list_length 65536 _ never v ss h;
      small = list_holds (Some 65536) _ never (λ stall. stall ≤ 100000) v ss (λ before d' n r fresh. r.2) h;
    })
    (record { few = omega arith; small = λ k e lt. absurd (omega arith) }) is.stalls in
    record {
      limits = record { size_low = is.packet_size.2.1; size_high = is.packet_size.2.2; count_low = is.packet_count.2.1; count_high = is.packet_count.2.2 };
      few_stalls = stalls.few;
      stalls = stalls.small;
      target = target_ranges is.target.0 x.target is.target.2;
    }
