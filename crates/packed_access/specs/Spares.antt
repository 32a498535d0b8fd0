-- The proof of the law `spares`: an access sends few starting packets, as the contract of accesses says.
-- These are lemmas, which a reader of definitions may skip.
use Rattle.std.proofs.Common.{◌≡◌, inl, inr, ◌∙◌, ℕ, zero, suc, ◌+◌, ◌-◌, ◌*◌, ◌/◌, ◌^◌, ◌<◌, ◌≤◌, min, Bool, true, false, cond, not, ◌&&◌, ◌⊎◌, List, [], ◌∷◌, ◌++◌}
use Rattle.std.proofs.Common.{take, drop, length, Option, Some, None, refl, sym, ap, subst, arith}
use Rattle.std.proofs.Math.Nat.{le-div_iff_mul-le}
use Rattle.std.proofs.lemmas.Bool.{le-ltb}
use Rattle.std.proofs.lemmas.List.{take-append-drop}
use Rattle.std.proofs.lemmas.List.Sums.{sum_by-append, sum_by-cons}
use Rattle.std.specs.Prelude.{is_none, nat_lt}
use Rattle.dap_base.specs.Bits.{has_bit}
use Rattle.target_machine.specs.Plain.{may_forgive}
use Rattle.target_machine.specs.Sound.{IsSoundCall, IsSoundMemory}
use Rattle.target_machine.specs.State.{TargetState}
use Rattle.target_machine.specs.declared.access.RegAccess.{RegAccess}
use Rattle.target_machine.specs.declared.unit.Call.{Call}
use Rattle.target_machine.specs.declared.unit.Call.TheVariants.{Access}
use Rattle.target_machine.specs.declared.unit.Unit.{Unit as AccessUnit}
use Rattle.target_machine.specs.declared.unit.Unit.TheVariants as unit
use Rattle.probe_core.specs.Bench.{BenchState}
use Rattle.probe_core.specs.Bench.{Reported as BenchReported}
use Rattle.probe_core.specs.Probe.{target_of}
use Rattle.probe_core.specs.Ranges.{AreLimits}
use Rattle.probe_core.specs.declared.job.Limits.{Limits}
use Rattle.target_calls.specs.Asks.{AreAskable, IsCallInRange, is_forgiving}
use Rattle.target_machine.specs.Counts.{one_if}
use Rattle.target_calls.specs.Journal.{Entry}
use Rattle.target_calls.specs.Weights.{registers_in}
use Rattle.target_calls.specs.declared.calls.Ask.{Ask}
use Rattle.access_regs.specs.Costs.{cost_by, leading_reads}
use Rattle.access_regs.specs.Journal.{gives, issued_entries, issue_of_plan}
use Rattle.access_regs.specs.Kept.{Kept, known_at, nothing_kept}
use Rattle.access_regs.specs.Plan.{cfg_plan, learned_cfg, needs_csw}
use Rattle.access_regs.specs.declared.known.Known.{Known}
use Rattle.access_regs.specs.declared.planner.Planner.{Planner}
use Rattle.access_regs.specs.declared.planner.Planner.TheVariants.{Managed, Plain}
use Rattle.access_regs.proofs.AllCalls.{known_nothing}
use Rattle.access_regs.proofs.CostLemmas.{planned_reads}
use Rattle.access_calls.specs.Bounds.{AreNextWrites, KeepsBounds, KeepsBoundsIf, block_words, flight_capacity, starting_since}
use Rattle.access_calls.specs.Reported.{Beginning, began}
use Rattle.access_calls.specs.Standing.{WhereObservable}
use Rattle.access_calls.specs.declared.stop.Stop.{Stop}
use Rattle.flight_laws.proofs.ActionLemmas.{few_packets}
use Rattle.flight_laws.proofs.WriteLemmas.{writes_are_few}
use Rattle.flight_laws.specs.Packets.{drw_writes_in, is_drw_write}
use Rattle.packed_access.specs.Begun.{IsOpenAt, IsSince}
use Rattle.bench_flights.specs.Full.{transfer_accesses}
use Rattle.flight_laws.specs.Changes.{changes_after, changes_in, marks_in, others_in}
use Rattle.packed_access.specs.Blocks.{AreBlocks}
use Rattle.packed_access.specs.Logs.{LogState, asks_of, reported_by}
use Rattle.flight_laws.proofs.NextWrites.{journal_few, mild_write}
use Rattle.packed_access.specs.Sparing.{AreNeeded, HasBegunSparing, HasPaid, IsSpared, first_cost, keeps_bounds, points_left}

-- ---- the first bound

-- a flight that is full has accesses, seven at least
capacity_seven : (limits : Limits) → AreLimits limits → 7 ≤ flight_capacity limits
capacity_seven limits fits = by_count limits.packet_count ((limits.packet_size - 21) / 6) fits.count_low (let s = fits.size_low in omega (arith, s))
  where
    by_count : (count words : ℕ) → 1 ≤ count → 7 ≤ words → 7 ≤ count * words
    by_count zero words some many = absurd (omega (arith, some))
    by_count (suc n) words some many = (let e : suc n * words ≡ n * words + words = omega arith in omega (arith, e, many))

-- need points cover what they pay for; both counts stop at their last value
paid_few : (before after paid full left needs : ℕ) → after ≤ before + 3 + paid + full → after < 2 ^ 64 → min (paid + left) (2 ^ 64 - 1) ≤ needs →
    after - before ≤ 3 + needs + full
paid_few before after paid full left needs few counts covers = omega (arith, few, counts, covers)

-- at most three starting packets, one for each need point, and k / c for k register accesses, of which a flight holds c
spared_few : (limits given : Limits) (log : LogState) (paid left : ℕ) (m0 m : BenchState) (n : Option ℕ) → IsSpared Managed limits given log paid m0 m →
    min (paid + left) (2 ^ 64 - 1) ≤ log.needs →
    starting_since (began m0 n) m ≤ 3 + log.needs + registers_in (issued_entries Managed (target_of m0.probe) log.calls) / flight_capacity given
spared_few limits given log paid left m0 m n h covers =
    let j : List Entry = issued_entries Managed (target_of m0.probe) log.calls in
    let few = paid_few m0.starting m.starting paid h.full left log.needs h.few h.counts covers in
    let some : 0 < flight_capacity limits = (let c = capacity_seven limits h.fits in omega (arith, c)) in
    let most : starting_since (began m0 n) m ≤ 3 + log.needs + registers_in (take log.confirmed j ++ drop log.confirmed j) / flight_capacity limits =
    few_packets h.full (flight_capacity limits) log.needs (take log.confirmed j) (drop log.confirmed j) (began m0 n) m
    (record { some = some; few = omega (arith, few); filled = h.filled }) in
    subst (λ (l : Limits). starting_since (began m0 n) m ≤ 3 + log.needs + registers_in j / flight_capacity l) h.limits_are
    (subst (λ (l : List Entry). starting_since (began m0 n) m ≤ 3 + log.needs + registers_in l / flight_capacity limits) (take-append-drop log.confirmed j) most)

-- ---- the bound for neighbouring writes

-- the first entries have no more changes than all of them
changes_take : (b : Bool) (n : ℕ) (es : List Entry) → changes_after b (take n es) ≤ changes_after b es
changes_take b zero es = omega arith
changes_take b (suc n) [] = omega arith
changes_take b (suc n) (e ∷ es) = (let r = changes_take (is_drw_write e.action) n es in omega (arith, r))

-- the first entries have no more that are no writes of DRW
others_take : (n : ℕ) (es : List Entry) → others_in (take n es) ≤ others_in es
others_take n es =
    let a = sum_by-append (λ (e : Entry). one_if (not (is_drw_write e.action))) (take n es) (drop n es) in
    let b = ap others_in (take-append-drop n es) in
    omega (arith, a, b)

-- the first entries have no more writes of DRW
writes_take : (n : ℕ) (es : List Entry) → drw_writes_in (take n es) ≤ drw_writes_in es
writes_take n es =
    let a = sum_by-append (λ (e : Entry). one_if (is_drw_write e.action)) (take n es) (drop n es) in
    let b = ap drw_writes_in (take-append-drop n es) in
    omega (arith, a, b)

-- at most one flight has none of eight accesses
bare_one : (bare words : ℕ) → 7 ≤ words → bare * words ≤ 8 → bare ≤ 1
bare_one zero words many few = omega arith
bare_one (suc zero) words many few = omega arith
bare_one (suc (suc n)) words many few = absurd (let e : suc (suc n) * words ≡ n * words + (words + words) = omega arith in omega (arith, e, many, few))

-- so many blocks, and as many flights without one, fit the writes, of which these are enough
blocks_fit : (blocks more words writes : ℕ) → 0 < words → (blocks + more) * words + 1 ≤ writes + words → blocks + more ≤ (writes + words - 1) / words
blocks_fit blocks more words writes some few = (le-div_iff_mul-le {k = words} {x = blocks + more} {y = writes + words - 1} some).1 (omega (arith, few, some))

-- flights without a block are few, or have many accesses; eight of these are no writes of DRW
extra_fit : (size blocks extra writes : ℕ) → 64 ≤ size → 1 ≤ writes → extra ≤ 4 → blocks * ((size - 5) / 4) ≤ writes →
    blocks * ((size - 5) / 4) + extra * ((size - 3) / 6) ≤ writes + 8 → blocks + extra ≤ 1 + (writes + (size - 5) / 4 - 1) / ((size - 5) / 4)
extra_fit size blocks extra writes large any most filled sizes = by_extra extra most sizes
  where
    some : 0 < (size - 5) / 4
    some = omega (arith, large)

    by_extra : (n : ℕ) → n ≤ 4 → blocks * ((size - 5) / 4) + n * ((size - 3) / 6) ≤ writes + 8 → blocks + n ≤ 1 + (writes + (size - 5) / 4 - 1) / ((size - 5) / 4)
    by_extra zero le h = (let f = blocks_fit blocks 0 ((size - 5) / 4) writes some (let d : (blocks + 0) * ((size - 5) / 4) ≡ blocks * ((size - 5) / 4) =
        omega arith in omega (arith, d, filled, some)) in omega (arith, f))
    by_extra (suc zero) le h = (let f = blocks_fit blocks 0 ((size - 5) / 4) writes some (let d : (blocks + 0) * ((size - 5) / 4) ≡ blocks * ((size - 5) / 4) =
        omega arith in omega (arith, d, filled, some)) in omega (arith, f))
    by_extra (suc (suc zero)) le h = (let f = blocks_fit blocks 1 ((size - 5) / 4) writes some
        (let d : (blocks + 1) * ((size - 5) / 4) ≡ blocks * ((size - 5) / 4) + (size - 5) / 4 = omega arith in omega (arith, d, h, large)) in omega (arith, f))
    by_extra (suc (suc (suc zero))) le h = (let f = blocks_fit blocks 2 ((size - 5) / 4) writes some
        (let d : (blocks + 2) * ((size - 5) / 4) ≡ blocks * ((size - 5) / 4) + 2 * ((size - 5) / 4) = omega arith in omega (arith, d, h, large)) in
        omega (arith, f))
    by_extra (suc (suc (suc (suc zero)))) le h = (let f = blocks_fit blocks 3 ((size - 5) / 4) writes some
        (let d : (blocks + 3) * ((size - 5) / 4) ≡ blocks * ((size - 5) / 4) + 3 * ((size - 5) / 4) = omega arith in omega (arith, d, h, large)) in
        omega (arith, f))
    by_extra (suc (suc (suc (suc (suc n))))) le h = absurd (omega (arith, le))

-- one flight more than the blocks of the writes
blocks_few : (full confirmed : ℕ) (limits : Limits) (entries : List Entry) (writes : ℕ) → AreLimits limits → AreBlocks full limits entries confirmed →
    changes_in entries ≤ 3 → others_in entries ≤ 8 → drw_writes_in entries ≤ writes → 1 ≤ writes →
    full ≤ 1 + (writes + block_words limits - 1) / block_words limits
blocks_few full confirmed limits entries writes fits h few bare most any =
    let a = h.all in
    let c = h.changing in
    let d = changes_take false (confirmed + 1) entries in
    let k = others_take confirmed entries in
    let l = writes_take confirmed entries in
    let one = bare_one h.bare (flight_capacity limits) (capacity_seven limits fits) (let o = h.others in omega (arith, o, k, bare)) in
    let filled : h.blocks * block_words limits ≤ writes = (let w = h.written in omega (arith, w, l, most)) in
    let sizes : h.blocks * block_words limits + (h.mixed + h.bare) * transfer_accesses limits ≤ writes + 8 = (let z = h.sizes in omega (arith, z, k, l, bare, most)) in
    let fit = extra_fit limits.packet_size h.blocks (h.mixed + h.bare) writes fits.size_low any (omega (arith, c, d, few, one)) filled sizes in
    omega (arith, a, fit)

-- ---- the calls are such writes

-- the unit that writes the value at the address
abbrev write_at : ℕ → ℕ → ℕ → ℕ → AccessUnit
write_at size m address value = unit.Memory size false m address value

-- the first of all reads CSW
first_reads : (t : TargetState) (size m address value : ℕ) → address < 2 ^ 32 → leading_reads (issue_of_plan t nothing_kept (write_at size m address value)).steps ≡ 1
first_reads t size m address value low =
    planned_reads t nothing_kept (write_at size m address value)
    ∙ ap (λ (b : Bool). cond (b && not (known_at nothing_kept m).large)
    (1 + cond (has_bit (gives t (cfg_plan nothing_kept m)) 2) (one_if
    (needs_csw (learned_cfg nothing_kept m (gives t (cfg_plan nothing_kept m))) (write_at size m address value))) 0)
    (one_if (needs_csw nothing_kept (write_at size m address value))))
    (le-ltb 0xFFFF_FFFF address (omega (arith, low)))
    ∙ ap (λ (a : Known). one_if (is_none a.csw)) (known_nothing m)

-- so the first of the calls has one need point
first_needs : (t : TargetState) (c : Ask) (cs : List Ask) (size m address value : ℕ) → c.call ≡ Access (write_at size m address value) →
    is_forgiving c ≡ false → address < 2 ^ 32 → first_cost Managed t (c ∷ cs) ≡ 1
first_needs t c cs size m address value call mild low =
    let same : c ≡ record { call = Access (write_at size m address value); forgive = false; settled = c.settled } =
    (λ j. record { call = call j; forgive = mild_write c size m address value call mild j; settled = c.settled }) in
    ap (λ (a : Ask). (cost_by Managed t [] a).before) same ∙ first_reads t size m address value low

-- a write that was asked has a size, and an AP
asked_write : (c : Call) (size m address value : ℕ) → c ≡ Access (write_at size m address value) → IsSoundCall c → IsCallInRange c → (0 < size) × (m < 256)
asked_write c size m address value is sound range =
    let s : IsSoundMemory size false address value = subst IsSoundCall is sound in
    let r = subst IsCallInRange is range in
    (by_size s.sized, (let x = r.0 in omega (arith, x)))
  where
    by_size : (size ≡ 1) ⊎ ((size ≡ 2) ⊎ (size ≡ 4)) → 0 < size
    by_size (inl e) = omega (arith, e)
    by_size (inr (inl e)) = omega (arith, e)
    by_size (inr (inr e)) = omega (arith, e)

-- six starting packets, and as many as blocks hold the calls' writes of DRW
spared_blocks : (limits given : Limits) (log : LogState) (paid left : ℕ) (m0 m : BenchState) (n : Option ℕ) (size ap_ address : ℕ) →
    IsSpared Managed limits given log paid m0 m → min (paid + left) (2 ^ 64 - 1) ≤ log.needs → AreNeeded Managed (target_of m0.probe) (asks_of log) →
    AreAskable log.calls →
    0 < length log.calls → AreNextWrites (address / 1024) size ap_ address log.calls → address < 2 ^ 32 → log.needs ≤ 2 →
    starting_since (began m0 n) m ≤ 6 + (length log.calls + block_words given - 1) / block_words given
spared_blocks limits given log paid left m0 m n size ap_ address h covers needed askable some are low two =
    by_calls log.calls refl askable some are
  where
    few : m.starting - m0.starting ≤ 3 + log.needs + h.full
    few = paid_few m0.starting m.starting paid h.full left log.needs h.few h.counts covers

    by_calls : (calls : List Ask) → log.calls ≡ calls → AreAskable calls → 0 < length calls → AreNextWrites (address / 1024) size ap_ address calls →
        starting_since (began m0 n) m ≤ 6 + (length log.calls + block_words given - 1) / block_words given
    by_calls [] same ok some are = absurd (omega (arith, some))
    by_calls (c ∷ cs) same ok some are =
        let w = are.0 in
        let sized = asked_write c.call size ap_ address w.value w.is ok.0.sound ok.0.range in
        let j = journal_few (target_of m0.probe) size ap_ address (c ∷ cs) sized.0 sized.1 low are in
        let first = first_needs (target_of m0.probe) c cs size ap_ address w.value w.is w.strict low in
        let marks : marks_in (c ∷ cs) ≤ 1 = (let k = needed.so in let f = ap (first_cost Managed (target_of m0.probe)) same in let g = ap marks_in same in
        omega (arith, k, f, g, first, two)) in
        let blocks : AreBlocks h.full limits (issued_entries Managed (target_of m0.probe) (c ∷ cs)) log.confirmed =
        subst (λ (l : List Ask). AreBlocks h.full limits (issued_entries Managed (target_of m0.probe) l) log.confirmed) same h.blocks in
        let most = blocks_few h.full log.confirmed limits (issued_entries Managed (target_of m0.probe) (c ∷ cs)) (length (c ∷ cs)) h.fits blocks (let x = j.0 in
        omega (arith, x, marks)) (let y = j.1 in omega (arith, y, marks)) (writes_are_few Managed (target_of m0.probe) (c ∷ cs)) some in
        let all : starting_since (began m0 n) m ≤ 6 + (length (c ∷ cs) + block_words limits - 1) / block_words limits = (let f = few in omega (arith, f, most, two)) in
        subst (λ (l : Limits). starting_since (began m0 n) m ≤ 6 + (length log.calls + block_words l - 1) / block_words l) h.limits_are
        (subst (λ (k : ℕ). starting_since (began m0 n) m ≤ 6 + (k + block_words limits - 1) / block_words limits) (ap length (sym same)) all)

-- ---- the law of the contract

-- both bounds, where the bench is observable
keeps_where : (x : Option BenchState) (limits : Limits) (a : BenchReported) (state : Option BenchState) (log : LogState) (sent got : List ℕ) (kept : Kept)
    (accesses : List RegAccess) (paid left : ℕ) (m0 : BenchState) (n : Option ℕ) → WhereObservable x (λ m. IsOpenAt Managed log kept accesses m0 m) →
    WhereObservable x (λ m. IsSpared Managed limits a.limits log paid m0 m) → min (paid + left) (2 ^ 64 - 1) ≤ log.needs →
    AreNeeded Managed (target_of m0.probe) (asks_of log) →
    WhereObservable x (λ m. KeepsBounds (issued_entries Managed (target_of m0.probe) log.calls) (reported_by a state log sent got) (began m0 n) m)
keeps_where None limits a state log sent got kept accesses paid left m0 n h s covers needed = absurd h
keeps_where (Some m) limits a state log sent got kept accesses paid left m0 n h s covers needed = record {
  few = spared_few limits a.limits log paid left m0 m n s covers;
  blocks = λ size ap_ address some are low two. spared_blocks limits a.limits log paid left m0 m n size ap_ address s covers needed h.issuing.sending.askable
      some are low two;
}

-- The law `spares` by the managed planner.
pub spares_packed : (limits : Limits) (bench : BenchReported) (state : Option BenchState) (log : LogState) (sent got : List ℕ) (kept : Kept)
    (accesses : List RegAccess) (m0 : BenchState) (n : Option ℕ) → HasBegunSparing Managed limits bench state log sent got kept accesses m0 →
    KeepsBoundsIf true (issued_entries Managed (target_of m0.probe) log.calls) (reported_by bench state log sent got) (began m0 n)
spares_packed limits bench state log sent got kept accesses m0 n h = λ none.
    let p = h.paid none in
    keeps_where state limits bench state log sent got kept accesses p.paid (points_left log) m0 n
    (subst (λ (e : Option Stop). WhereObservable state (λ m. IsSince Managed e (reported_by bench state log sent got) log kept accesses m0 m)) none h.begun.so)
    (p.spared.so refl) (p.covers refl) (h.needed none)

-- by either planner
pub spares_by : (p : Planner) (limits : Limits) (bench : BenchReported) (state : Option BenchState) (log : LogState) (sent got : List ℕ) (kept : Kept)
    (accesses : List RegAccess) (m0 : BenchState) (n : Option ℕ) → HasBegunSparing p limits bench state log sent got kept accesses m0 →
    KeepsBoundsIf (keeps_bounds p) (issued_entries p (target_of m0.probe) log.calls) (reported_by bench state log sent got) (began m0 n)
spares_by Managed limits bench state log sent got kept accesses m0 n h = spares_packed limits bench state log sent got kept accesses m0 n h
spares_by Plain limits bench state log sent got kept accesses m0 n h = tt
