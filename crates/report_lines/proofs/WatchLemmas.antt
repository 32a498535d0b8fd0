-- The addresses of watched words.
use Rattle.std.proofs.Common.{◌≡◌, ◌+◌, ◌*◌, ◌^◌, ◌<◌, ◌≤◌, ℕ, zero, suc, true, List, [], ◌∷◌, slice_index_or, arith}
use Rattle.std.proofs.lemmas.Grind.{common_steps}
use Rattle.std.specs.List.{All}
use Rattle.target_machine.specs.Ranges.{IsRegion}
use Rattle.target_machine.specs.declared.job.RegionJob.{RegionJob}
use Rattle.job_text.specs.Ranges.{IsWatched}
use Rattle.job_text.specs.Tests.{are_words_in, is_held}
use Rattle.job_text.specs.declared.job.WatchItem.{WatchItem}
use Rattle.report_lines.specs.Target.{IsLow}

-- an address in a region is below 2^63
held_low : (regions : List RegionJob) (address : ℕ) → All IsRegion regions → is_held regions address ≡ true → address < 2 ^ 63
held_low [] address ranges held = cc
held_low (r ∷ rs) address ranges held =
    let here : IsRegion r = ranges 0 r (omega arith) in
    let fits = here.fits in
    let rest = held_low rs address (λ k d inside. ranges (suc k) d (omega (arith, inside))) in
    grind (arith, common_steps, rest, fits)

words_low : (regions : List RegionJob) (address n : ℕ) → All IsRegion regions → are_words_in regions address (suc n) ≡ true → address + 4 * n < 2 ^ 63
words_low regions address zero ranges inside = let low = held_low regions address ranges in grind (arith, common_steps, low)
words_low regions address (suc n) ranges inside = let rest = words_low regions (address + 4) n ranges in grind (arith, common_steps, rest)

row_low : (regions : List RegionJob) (address n : ℕ) → All IsRegion regions → 1 ≤ n → are_words_in regions address n ≡ true → address + 4 * n ≤ 2 ^ 64
row_low regions address zero ranges some inside = let no : ⊥ = omega arith in absurd no
row_low regions address (suc n) ranges some inside = let low = words_low regions address n ranges inside in omega arith

pub watch_low : (regions : List RegionJob) (watch : List WatchItem) → All IsRegion regions → All (IsWatched regions) watch → All IsLow watch
watch_low regions watch ranges watched = λ k d inside.
    let item = watched k d inside in row_low regions (slice_index_or watch k d).address (slice_index_or watch k d).words ranges item.some item.inside
