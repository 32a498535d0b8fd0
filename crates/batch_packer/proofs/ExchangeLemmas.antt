-- A packet that is executed at once, and its reply.
use Rattle.std.proofs.Common.{◌≡◌, inl, inr, ℕ, List, [], ◌∷◌, false, cond, Option, Some, refl, ap, sym, ◌∙◌, slice_get, drop, subst}
use Rattle.probe_core.specs.Bench.{BenchState, StepsTo, bench_after_packet, HandsOut, counted_up}
use Rattle.probe_core.specs.Packet.{packet_answer, probe_after_packet}
use Rattle.probe_core.specs.Probe.{ProbeState, is_queued}
use Rattle.probe_core.proofs.StateSteps.{runs_then, steps_map, steps_same, steps_then}
use Rattle.batch_packer.proofs.GoingOn.{goes_failed, goes_sent, goes_stays, stays_failed, stays_received}
use Rattle.batch_packer.specs.Exchanges.{IsIdle, HasAnswered, MayHaveRun}
use Rattle.batch_packer.proofs.ChainBench.{some_is}

-- an idle probe executes a packet that is not held at once
accepted_alone : (p : ProbeState) (packet : List ℕ) → p.held ≡ [] → p.waiting ≡ [] → is_queued packet ≡ false → probe_after_packet p packet ≡ record { executor = (packet_answer p.executor packet).next; held = []; waiting = (packet_answer p.executor packet).reply ∷ [] }
accepted_alone p packet held waiting plain = rw (plain, held, waiting) refl

abbrev Waits : List ℕ → ProbeState → Type 0
Waits reply p = slice_get p.waiting 0 ≡ Some reply

-- the reply to a packet that an idle bench took, handed out
pub answers_one : (packet reply : List ℕ) (m n o : BenchState) → is_queued packet ≡ false → IsIdle m → n ≡ bench_after_packet m packet → HandsOut reply n o → HasAnswered packet reply m o
answers_one packet reply m n o plain idle sent out =
    let ran : n.probe ≡ record { executor = (packet_answer m.probe.executor packet).next; held = []; waiting = (packet_answer m.probe.executor packet).reply ∷ [] } =
    ap (λ (b : BenchState). b.probe) sent ∙ accepted_alone m.probe packet idle.held idle.waiting plain in
    let next : o.probe ≡ record n.probe { waiting = drop 1 n.probe.waiting } = ap (λ (b : BenchState). b.probe) out.next in
    let all : o.probe ≡ record { executor = (packet_answer m.probe.executor packet).next; held = []; waiting = [] } =
    next ∙ ap (λ (p : ProbeState). record p { waiting = drop 1 p.waiting }) ran in
    record {
      answer = some_is _ reply (subst (Waits reply) ran out.oldest);
      executor = ap (λ (p : ProbeState). p.executor) all;
      idle = record { held = ap (λ (p : ProbeState). p.held) all; waiting = ap (λ (p : ProbeState). p.waiting) all };
      starting = ap (λ (b : BenchState). b.starting) out.next ∙ ap (λ (b : BenchState). b.starting) sent ∙ ap (λ q. cond q m.starting (counted_up m.starting)) plain;
    }

-- the same of an observable bench
pub answers : (packet reply : List ℕ) (a b c : Option BenchState) → is_queued packet ≡ false → StepsTo (λ m n. n ≡ bench_after_packet m packet) a b → StepsTo (HandsOut reply) b c →
    StepsTo (λ m o. IsIdle m → HasAnswered packet reply m o) a c
answers packet reply a b c plain first second = steps_then (λ m n o s t idle. answers_one packet reply m n o plain idle s t) a b c first second

taken_one : (packet : List ℕ) (m n : BenchState) → is_queued packet ≡ false → n ≡ bench_after_packet m packet → IsIdle m → MayHaveRun packet m n
taken_one packet m n plain s idle =
    inr (ap (λ (b : BenchState). b.probe.executor) s ∙ ap (λ (p : ProbeState). p.executor) (accepted_alone m.probe packet idle.held idle.waiting plain))

-- a packet that was taken and whose reply was not
pub taken : (packet : List ℕ) (a b c : Option BenchState) → is_queued packet ≡ false → StepsTo (λ m n. n ≡ bench_after_packet m packet) a b → c ≡ b →
    StepsTo (λ m o. IsIdle m → MayHaveRun packet m o) a c
taken packet a b c plain first same =
    subst (λ (x : Option BenchState). StepsTo (λ m o. IsIdle m → MayHaveRun packet m o) a x) (sym same) (steps_map (λ m n s idle. taken_one packet m n plain s idle) a b first)

-- a packet that was not taken
pub not_taken : (packet : List ℕ) (a b : Option BenchState) → b ≡ a → StepsTo (λ m o. IsIdle m → MayHaveRun packet m o) a b
not_taken packet a b same = steps_same (λ m o. IsIdle m → MayHaveRun packet m o) (λ m idle. inl refl) a b same

pub ruleset exchanging = (answers, taken, not_taken, runs_then, goes_failed, goes_sent, goes_stays, stays_received, stays_failed)
