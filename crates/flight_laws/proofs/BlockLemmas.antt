-- Starting packets of writes.
use Rattle.std.proofs.Common.{◌≡◌, ℕ, ◌+◌, ◌-◌, ◌*◌, ◌/◌, ◌^◌, ◌<◌, ◌≤◌, min, Bool, true, false, List, [], ◌∷◌, ◌++◌, length, length-append, subst, sym, arith}
use Rattle.std.proofs.lemmas.List.Sums.{sum_by-append}
use Rattle.std.proofs.Math.Nat.{le-div_iff_mul-le}
use Rattle.target_calls.proofs.EntryLemmas.{registers_append}
use Rattle.target_machine.specs.Counts.{one_if}
use Rattle.target_machine.proofs.CountLemmas.{one_most}
use Rattle.target_calls.specs.Journal.{Entry}
use Rattle.access_calls.specs.Bounds.{starting_since}
use Rattle.access_calls.specs.Bounds as bounds
use Rattle.target_calls.specs.Weights.{registers_in}
use Rattle.flight_laws.proofs.ActionLemmas.{few_packets}
use Rattle.flight_laws.proofs.WriteLemmas.{writes_are_few}
use Rattle.flight_laws.specs.Packets.{FewBlocks, FirstBlock, NeedBlock, NeedPoint, NextBlock, SplitBlock, SparingKeeps, drw_writes_in, is_drw_write}

writes_both : (xs ys : List Entry) → drw_writes_in (xs ++ ys) ≡ drw_writes_in xs + drw_writes_in ys
writes_both xs ys = sum_by-append (λ (e : Entry). one_if (is_drw_write e.action)) xs ys

-- so many blocks, the first flight with them, fit the writes
blocks_fit : (full block writes : ℕ) (first : Bool) → 0 < block → 0 < writes → full * block + one_if first ≤ writes → full + one_if first ≤ (writes + block - 1) / block
blocks_fit full block writes first some any filled = (le-div_iff_mul-le {k = block} {x = full + one_if first} {y = writes + block - 1} some).1 (by_first first filled)
  where
    by_first : (b : Bool) → full * block + one_if b ≤ writes → (full + one_if b) * block ≤ writes + block - 1
    by_first true h = (let d : (full + 1) * block ≡ full * block + block = omega arith in omega (arith, h, d, some))
    by_first false h = (let d : (full + 0) * block ≡ full * block = omega arith in omega (arith, h, d, some))

pub few_blocks : FewBlocks
few_blocks full block needs writes first split made more b m h most any two =
    let w = writes_both made more in
    let filled : full * block + one_if first ≤ writes = (let f = h.filled in omega (arith, f, w, most)) in
    let fit = blocks_fit full block writes first h.some any filled in
    let one = one_most split in
    let f = h.few in
    omega (arith, fit, one, f, two)

pub first_block : FirstBlock
first_block full block needs split made flying b m o h some one = record {
  some = h.some;
  few = (let f = h.few in omega (arith, f, one));
  filled = (let f = h.filled in let w = writes_both made flying in omega (arith, f, w, some));
}

pub split_block : SplitBlock
split_block full block needs first made flying b m o h one = record {
  some = h.some;
  few = (let f = h.few in omega (arith, f, one));
  filled = (let f = h.filled in let w = writes_both made flying in omega (arith, f, w));
}

pub next_block : NextBlock
next_block full block needs first split made flying b m o h many one = record {
  some = h.some;
  few = (let f = h.few in omega (arith, f, one));
  filled = (let f = h.filled in let w = writes_both made flying in let d : (full + 1) * block ≡ full * block + block = omega arith in omega (arith, f, w, d, many));
}

-- ---- need points

-- a count that is capped covers what is capped too
capped_covers : (starting since before needs more rest : ℕ) → since ≤ starting → starting < 2 ^ 64 → since ≤ before + more → before ≤ 3 + needs + rest → since ≤ 3 + min (needs + more) (2 ^ 64 - 1) + rest
capped_covers starting since before needs more rest below room grown few = omega (arith, below, room, grown, few)

pub need_point : NeedPoint
need_point full capacity needs more made flying b m o h grown room = record {
  some = h.some;
  few = (let f = h.few in capped_covers o.starting (starting_since b o) (starting_since b m) needs more full (omega arith) room grown f);
  filled = (let f = h.filled in let r = registers_append made flying in omega (arith, f, r));
}

pub need_block : NeedBlock
need_block full block needs more first split made flying b m o h grown room = record {
  some = h.some;
  few = (let f = h.few in let c = capped_covers o.starting (starting_since b o) (starting_since b m) needs more (one_if first + one_if split + full) (omega arith) room grown (omega (arith, f)) in omega (arith, c));
  filled = (let f = h.filled in let w = writes_both made flying in omega (arith, f, w));
}

-- ---- the bounds of an access

pub sparing_keeps : SparingKeeps
sparing_keeps p t a made more b m is h = record {
  few = subst (λ (l : List Entry). starting_since b m ≤ 3 + a.asks.needs + registers_in l / bounds.flight_capacity a.bench.limits) (sym is)
      (few_packets h.sparing.full (bounds.flight_capacity a.bench.limits) a.asks.needs made more b m h.sparing.so);
  blocks = λ size ap_ address some next low needs. (let s = h.blocks size ap_ address next low needs in
      few_blocks s.full (bounds.block_words a.bench.limits) a.asks.needs (length a.asks.calls) s.first s.split made more b m s.so
      (subst (λ (l : List Entry). drw_writes_in l ≤ length a.asks.calls) is (writes_are_few p t a.asks.calls)) some needs);
}
