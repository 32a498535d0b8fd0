-- How far a bench has come with entries.
use Rattle.std.proofs.Common.{◌≡◌, ◌∙◌, ◌-◌, List, [], ◌∷◌, ◌++◌, length, take, sym, ap, arith, length-append}
use Rattle.std.proofs.Math.Seq.{take-append_seam}
use Rattle.target_machine.specs.State.{Agree, TargetState}
use Rattle.probe_core.specs.Probe.{target_of, work_of}
use Rattle.target_calls.specs.Journal.{Entry, target_after}
use Rattle.target_calls.specs.Weights.{AreWeighty, entries_performed, weight_in}
use Rattle.target_calls.proofs.EntryLemmas.{performed_front, weight_append}
use Rattle.flight_laws.specs.UnderWay.{FrontPerformed}

pub agree_same : (t u : TargetState) → t ≡ u → Agree t u
agree_same t u e = record { same = ap (λ (s : TargetState). record s { rdbuff = 0 }) e }

pub weighty_tail : (xs ys : List Entry) → AreWeighty (xs ++ ys) → AreWeighty ys
weighty_tail [] ys h = h
weighty_tail (x ∷ xs) ys h = weighty_tail xs ys h.1

pub front_performed : FrontPerformed
front_performed n m0 m front rest weighty work target =
    let t0 : TargetState = target_of m0.probe in
    let grown : work_of m.probe - work_of m0.probe ≡ weight_in t0 front = omega (arith, work) in
    record {
      count_is = sym (ap (entries_performed t0 (front ++ rest)) grown ∙ performed_front t0 front rest (weighty_tail front rest weighty));
      no_more = (let w = weight_append t0 front rest in omega (arith, grown, w));
      within = (let f = length-append front rest in omega (arith, f));
      target = agree_same (target_of m.probe) (target_after t0 (take (length front) (front ++ rest)))
          (target ∙ ap (target_after t0) (sym (take-append_seam front rest)));
    }
