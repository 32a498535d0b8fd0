-- The limits and the count of exchanges of a bench, from call to call.
use Rattle.std.proofs.Common.{◌≡◌, ◌⊎◌, inl, inr, ℕ, zero, suc, ◌+◌, ◌≤◌, eqb, Bool, true, false, cond, List, Option, refl, ap, sym, subst, ◌∙◌, arith}
use Rattle.std.proofs.lemmas.Bool.{ne_eqb, true≢false}
use Rattle.probe_core.specs.Bench.{BenchState, HasReceived, IsAsBefore, Reported, counted_up, reported_after_reply, reported_after_packet}
use Rattle.probe_core.specs.Runs.{KeepsRuns}
use Rattle.probe_core.proofs.StateSteps.{runs_then}
use Rattle.batch_packer.specs.Exchanges.{GoesOn, GoesOnOver, StaysAt}
use Rattle.batch_packer.specs.FlightEnds.{HasEndCause, got_replies}
use Rattle.batch_packer.specs.declared.ends.FlightEnd.{FlightEnd}

pub stays_self : (t : Reported) → StaysAt t t
stays_self t = record { limits = refl; exchanges = refl }

pub stays_then : (t u v : Reported) → StaysAt t u → StaysAt u v → StaysAt t v
stays_then t u v h k = record { limits = k.limits ∙ h.limits; exchanges = k.exchanges ∙ h.exchanges }

pub goes_stays : (t u v : Reported) → GoesOn t u → StaysAt u v → GoesOn t v
goes_stays t u v h k = record { limits = k.limits ∙ h.limits; exchanges = moved h.exchanges }
  where
    moved : (u.exchanges ≡ t.exchanges) ⊎ (u.exchanges ≡ counted_up t.exchanges) → (v.exchanges ≡ t.exchanges) ⊎ (v.exchanges ≡ counted_up t.exchanges)
    moved (inl e) = inl (k.exchanges ∙ e)
    moved (inr e) = inr (k.exchanges ∙ e)

pub stays_goes : (t u : Reported) → StaysAt t u → GoesOn t u
stays_goes t u h = record { limits = h.limits; exchanges = inl h.exchanges }

either_count : (b : Bool) (n : ℕ) → (cond b (counted_up n) n ≡ n) ⊎ (cond b (counted_up n) n ≡ counted_up n)
either_count true n = inr refl
either_count false n = inl refl

pub goes_sent : (packet : List ℕ) (t u : Reported) → u ≡ reported_after_packet t packet → GoesOn t u
goes_sent packet t u e = record {
  limits = ap (λ (x : Reported). x.limits) e;
  exchanges = subst (λ (n : ℕ). (n ≡ t.exchanges) ⊎ (n ≡ counted_up t.exchanges)) (sym (ap (λ (x : Reported). x.exchanges) e)) (either_count (eqb t.held 0) t.exchanges);
}

pub stays_received : (reply : List ℕ) (t u : Reported) → u ≡ reported_after_reply t reply → StaysAt t u
stays_received reply t u e = record { limits = ap (λ (x : Reported). x.limits) e; exchanges = ap (λ (x : Reported). x.exchanges) e }

pub stays_failed : (t u : Reported) (a b : Option BenchState) → IsAsBefore (record { reported = t; state = a }) (record { reported = u; state = b }) → StaysAt t u
stays_failed t u a b h = let e = h.reported in record { limits = ap (λ (x : Reported). x.limits) e; exchanges = ap (λ (x : Reported). x.exchanges) e }

same_goes : (packet : List ℕ) (t u : Reported) → u ≡ record (reported_after_packet t packet) { faults = u.faults } → GoesOn t u
same_goes packet t u e =
    goes_stays t (reported_after_packet t packet) u (goes_sent packet t (reported_after_packet t packet) refl) (record { limits = ap (λ (x : Reported). x.limits) e; exchanges = ap (λ (x : Reported). x.exchanges) e })

pub goes_failed : (packet : List ℕ) (t u : Reported) (a b : Option BenchState) →
    IsAsBefore (record { reported = t; state = a }) (record { reported = u; state = b }) ⊎ HasReceived packet (record { reported = t; state = a }) (record { reported = u; state = b }) → GoesOn t u
goes_failed packet t u a b (inl same) = stays_goes t u (stays_failed t u a b same)
goes_failed packet t u a b (inr received) = same_goes packet t u received.reported

-- after a call that counts no exchange
pub goes_on_after : {B : Type 0} (reported : B → Reported) (state : B → Option BenchState) (identity : B → ℕ) (a b c : B) → GoesOnOver reported state identity a b →
    StaysAt (reported b) (reported c) → KeepsRuns (state b) (state c) → identity c ≡ identity b → GoesOnOver reported state identity a c
goes_on_after reported state identity a b c on stays runs same = record {
  goes = goes_stays (reported a) (reported b) (reported c) on.goes stays;
  runs = runs_then (state a) (state b) (state c) on.runs runs;
  same_bench = same ∙ on.same_bench;
}

-- ---- an end that is no fault of the bench

pub cause_got : (before now : ℕ) (end : Option FlightEnd) → got_replies end ≡ true → before ≤ now → now ≡ before → HasEndCause before now end
cause_got before now end got later same = record {
  later = later;
  failed = λ e. absurd (true≢false (sym got ∙ ap got_replies e));
  others = λ _. same;
}

-- ---- packets of one exchange

-- the count after so many of its packets
abbrev pub count_after : ℕ → ℕ → ℕ
count_after zero n = n
count_after (suc i) n = counted_up n

pub count_next : (i n held count : ℕ) → held ≡ i → count ≡ count_after i n → cond (eqb held 0) (counted_up count) count ≡ count_after (i + 1) n
count_next zero n held count h e = ap (λ (k : ℕ). cond (eqb k 0) (counted_up count) count) h ∙ ap counted_up e
count_next (suc i) n held count h e =
    ap (λ (k : ℕ). cond (eqb k 0) (counted_up count) count) h ∙ ap (λ b. cond b (counted_up count) count) (ne_eqb (suc i) 0 (λ f. omega arith)) ∙ e ∙ (let same : suc i + 1 ≡ suc (i + 1) = omega arith in ap (λ (k : ℕ). count_after k n) (sym same))

pub sent_count : (i n : ℕ) (packet : List ℕ) (t u : Reported) → u ≡ reported_after_packet t packet → t.held ≡ i → t.exchanges ≡ count_after i n → u.exchanges ≡ count_after (i + 1) n
sent_count i n packet t u e held count = ap (λ (x : Reported). x.exchanges) e ∙ count_next i n t.held t.exchanges held count

counts_on : (i n m : ℕ) → m ≡ count_after i n → (m ≡ n) ⊎ (m ≡ counted_up n)
counts_on zero n m e = inl e
counts_on (suc i) n m e = inr e

pub goes_counted : (i : ℕ) (t u : Reported) → u.limits ≡ t.limits → u.exchanges ≡ count_after i t.exchanges → GoesOn t u
goes_counted i t u limits count = record { limits = limits; exchanges = counts_on i t.exchanges u.exchanges count }

-- a packet that was taken or not, after so many others
pub goes_broken : (i : ℕ) (packet : List ℕ) (t u v : Reported) (a b : Option BenchState) → u.limits ≡ t.limits → u.held ≡ i → u.exchanges ≡ count_after i t.exchanges →
    IsAsBefore (record { reported = u; state = a }) (record { reported = v; state = b }) ⊎ HasReceived packet (record { reported = u; state = a }) (record { reported = v; state = b }) → GoesOn t v
goes_broken i packet t u v a b limits held count (inl same) = goes_stays t u v (goes_counted i t u limits count) (stays_failed u v a b same)
goes_broken i packet t u v a b limits held count (inr received) =
    let e = received.reported in
    goes_counted (i + 1) t v (ap (λ (x : Reported). x.limits) e ∙ limits) (ap (λ (x : Reported). x.exchanges) e ∙ sent_count i t.exchanges packet u (reported_after_packet u packet) refl held count)
