-- The further conditions on numbers of a job, and when two items of a list are the same. Sums do not wrap.
use Rattle.std.specs.Prelude.{ℕ, zero, suc, ◌+◌, ◌%◌, ◌^◌, ◌==◌, ◌&&◌, ◌||◌, Bool, true, false, nat_le, nat_lt, List, [], ◌∷◌, sum_by, bit_and}
use Rattle.std.specs.List.{list_any}
use Rattle.target_machine.specs.declared.job.ApJob.{ApJob}
use Rattle.target_machine.specs.declared.job.RegionJob.{RegionJob}
use Rattle.target_machine.specs.declared.job.WordJob.{WordJob}
use Rattle.target_machine.specs.declared.job.ScriptJob.{ScriptJob}

-- ---- numbers

-- a DPIDR has its bit 0 set
abbrev pub has_bit_0 : ℕ → Bool
has_bit_0 n = n % 2 == 1

-- the levels of the pins without bits 4 and 6
abbrev pub lacks_bits_4_and_6 : ℕ → Bool
lacks_bits_4_and_6 n = bit_and n 0x50 == 0

-- a multiple of 4
abbrev pub is_aligned : ℕ → Bool
is_aligned n = n % 4 == 0

-- ---- memory

-- the region holds the byte at the address
abbrev pub holds : ℕ → RegionJob → Bool
holds address region = nat_le region.address address && nat_lt address (region.address + region.length)

-- one of the regions holds the byte at the address
abbrev pub is_held : List RegionJob → ℕ → Bool
is_held regions address = list_any (holds address) regions

-- a word's address: a multiple of 4 in a region
abbrev pub is_word_in : List RegionJob → ℕ → Bool
is_word_in regions address = is_aligned address && is_held regions address

-- each of so many words from the address on lies in a region
abbrev pub are_words_in : List RegionJob → ℕ → ℕ → Bool
are_words_in regions address zero = true
are_words_in regions address (suc n) = is_held regions address && are_words_in regions (address + 4) n

-- a length after the earlier regions: a multiple of 4, an end of at most 2^63, at most 4,194,304 bytes in all
abbrev pub is_length_after : List RegionJob → ℕ → ℕ → Bool
is_length_after earlier address n = is_aligned n && nat_le (address + n) (2 ^ 63) && nat_le (sum_by (λ r. r.length) earlier + n) 4194304

-- ---- the same

-- access ports of one number
abbrev pub same_ap : ApJob → ApJob → Bool
same_ap a b = a.ap == b.ap

-- the regions have a byte in common
abbrev pub overlap : RegionJob → RegionJob → Bool
overlap a b = nat_lt a.address (b.address + b.length) && nat_lt b.address (a.address + a.length)

-- words at one address
abbrev pub same_word : WordJob → WordJob → Bool
same_word a b = a.address == b.address

-- scripts at one address
abbrev pub same_script : ScriptJob → ScriptJob → Bool
same_script a b = a.address == b.address

-- a script at the address of an earlier one or of a word
abbrev pub repeats_script : List WordJob → List ScriptJob → ScriptJob → Bool
repeats_script words earlier x = list_any (λ other. same_script other x) earlier || list_any (λ word. word.address == x.address) words

-- the list has an item
abbrev pub is_filled : {A : Type 0} → List A → Bool
is_filled [] = false
is_filled (x ∷ xs) = true
