use Rattle.std.proofs.Common.{rules, ◌≡◌, ◌⊎◌, inl, inr, ◌∙◌, ◌^◌, ◌<◌, ◌++◌, ◌∷◌, [], true, false, List, length, refl, sym, ap, subst, arith}
use Rattle.std.proofs.lemmas.Bool.{both_ways}
use Rattle.target_machine.specs.declared.access.RegAccess.{RegAccess}
use Rattle.bench_flights.specs.Clearing.{IsOneTransfer, is_fault_end}
use Rattle.packed_access.specs.Forgiving.{last_part}
use Rattle.packed_access.proofs.TryWhereLemmas.{abort_broke, abort_log, flight_broke, flight_log, flight_skipped, flight_went, one_few}
use Rattle.packed_access.proofs.WentLemmas.{cleared_few, went_few}
use Rattle.packed_access.proofs.sender.Sender.try_together.Goals as goal
use Rattle.packed_access.proofs.sender.Sender.try_together.Goals.{then-ends, else-ends, then-forgive, else-forgive}

pub returns-in-Ok-clause-gives : goal.returns-in-Ok-clause-gives
returns-in-Ok-clause-gives g c = record {
  on = λ m0 asked k t made rest more h n.
      let old = c.args.self.now in
      let few : length old.log.entries < 2 ^ 32 = (let s = old.sound in let b = s.bounded in let f = s.few in omega (arith, b, f)) in
      let part : c.if-ends.issue ≡ last_part c.args.ends = elim c.if-ends.branch [ then-ends w ↦ w.issue-is ∙ sym (ap last_part w.if-ends.true) | else-ends w ↦ w.issue-is ∙ sym (ap last_part w.if-ends.false) ] in
      let log = flight_log c.args.forgive old.log _ c.issue.new.self asked c.args.leads.now c.args.last c.args.ends _ _ c.push_all.ensures.log c.issue.ensures.answer.so c.count-unit.ensures (let w = c.requires.ready.whole in omega (arith, w)) part n.parts in
      let are = c.push.ensures.accesses ∙ ap (λ (l : List RegAccess). l ++ c.args.last ∷ []) (c.push_all.ensures.accesses ∙ ap (λ (l : List RegAccess). l ++ c.args.leads.now) c.requires.ready.empty) in
      flight_went g.F.Flights.planner c.args.forgive _ _ _ old.log c.issue.new.self asked k t made c.args.leads.now c.args.last c.args.ends rest more _ m0 h n (c.push.ensures.keeps.same_state ∙ c.push_all.ensures.keeps.same_state) are (one_few _ c.requires.one) few log
      c.confirm.new.self _ c.value.result c.in-Ok.ensures.came c.requires.ready.came c.confirm.ensures.answer.so c.value.ensures;
  broke = λ m0 asked k t made rest more h n. tt;
}

pub returns-then-not-can_resume-clause-gives : goal.returns-then-not-can_resume-clause-gives
returns-then-not-can_resume-clause-gives g c = record {
  on = λ m0 asked k t made rest more h n. tt;
  broke = λ m0 asked k t made rest more h n.
      let old = c.args.self.now in
      let few : length old.log.entries < 2 ^ 32 = (let s = old.sound in let b = s.bounded in let f = s.few in omega (arith, b, f)) in
      let part : c.if-ends.issue ≡ last_part c.args.ends = elim c.if-ends.branch [ then-ends w ↦ w.issue-is ∙ sym (ap last_part w.if-ends.true) | else-ends w ↦ w.issue-is ∙ sym (ap last_part w.if-ends.false) ] in
      let log = flight_log c.args.forgive old.log _ c.issue.new.self asked c.args.leads.now c.args.last c.args.ends _ _ c.push_all.ensures.log c.issue.ensures.answer.so c.count-unit.ensures (let w = c.requires.ready.whole in omega (arith, w)) part n.parts in
      let are = c.push.ensures.accesses ∙ ap (λ (l : List RegAccess). l ++ c.args.last ∷ []) (c.push_all.ensures.accesses ∙ ap (λ (l : List RegAccess). l ++ c.args.leads.now) c.requires.ready.empty) in
      let one : IsOneTransfer _ = subst IsOneTransfer (sym are) c.requires.one in
      let free : (c.args.forgive ≡ false) ⊎ (is_fault_end c.in-Err.end ≡ false) = elim c.if-forgive.branch [
        | then-forgive w ↦ inr (sym (c.in-Err.ensures.resumable one) ∙ sym w.can_resume.ensures ∙ sym w.value-is ∙ (search rules))
        | else-forgive w ↦ inl w.if-forgive.false
      ] in
      flight_broke g.F.Flights.planner c.args.forgive _ _ _ old.log c.issue.new.self asked k t made c.args.leads.now c.args.last c.args.ends rest more _ m0 h n (c.push.ensures.keeps.same_state ∙ c.push_all.ensures.keeps.same_state) are (one_few _ c.requires.one) few log
      _ _ _ c.in-Err.end c.stop.result c.stop.new.self c.send.ensures.held c.in-Err.ensures.broke free c.in-Err.ensures.keeps.response c.stop.ensures.answer;
}

pub returns-in-Ok-command-clause-gives : goal.returns-in-Ok-command-clause-gives
returns-in-Ok-command-clause-gives g c = record {
  on = λ m0 asked k t made rest more h n.
      let old = c.args.self.now in
      let few : length old.log.entries < 2 ^ 32 = (let s = old.sound in let b = s.bounded in let f = s.few in omega (arith, b, f)) in
      let part : c.if-ends.issue ≡ last_part c.args.ends = elim c.if-ends.branch [ then-ends w ↦ w.issue-is ∙ sym (ap last_part w.if-ends.true) | else-ends w ↦ w.issue-is ∙ sym (ap last_part w.if-ends.false) ] in
      let some : 0 < length old.log.calls = (let w = c.requires.ready.whole in omega (arith, w)) in
      let log = flight_log c.args.forgive old.log _ c.issue.new.self asked c.args.leads.now c.args.last c.args.ends _ _ c.push_all.ensures.log c.issue.ensures.answer.so c.count-unit.ensures some part n.parts in
      let log2 = abort_log c.args.forgive old.log c.issue.new.self c.confirm_entries.new.self c.issue-2.new.self asked made (c.args.leads.now ++ c.args.last ∷ []) c.args.ends _ log c.confirm_entries.ensures.answer.so c.issue-2.ensures.answer.so c.count-unit.ensures some n.early in
      let are = c.push.ensures.accesses ∙ ap (λ (l : List RegAccess). l ++ c.args.last ∷ []) (c.push_all.ensures.accesses ∙ ap (λ (l : List RegAccess). l ++ c.args.leads.now) c.requires.ready.empty) in
      let one : IsOneTransfer _ = subst IsOneTransfer (sym are) c.requires.one in
      let both : (c.args.forgive ≡ true) × (is_fault_end c.in-Err.end ≡ true) = elim c.if-forgive.branch [
        | then-forgive w ↦ (w.if-forgive.true, sym (c.in-Err.ensures.resumable one) ∙ sym w.can_resume.ensures ∙ sym w.value-is ∙ (search rules))
        | else-forgive w ↦ absurd (both_ways c.if-forgive.value (w.value-is ∙ w.if-forgive.false) c.if-not-can_resume.false)
      ] in
      let yes = both.1 in
      flight_skipped g.F.Flights.planner c.args.forgive _ _ _ old.log c.issue.new.self asked k t made c.args.leads.now c.args.last c.args.ends rest more _ m0 h n (c.push.ensures.keeps.same_state ∙ c.push_all.ensures.keeps.same_state) are (one_few _ c.requires.one) few log
      _ _ c.issue-2.new.self c.confirm-in-Ok-command.new.self c.in-Err.end c.in-Ok-command.field-0 both.0 c.in-Err.ensures.broke yes (c.in-Err.ensures.clear one yes) c.resume.ensures.keeps.same_state (c.in-Ok-command.ensures.cleared refl) c.requires.ready.came log2 c.confirm-in-Ok-command.ensures.answer.so;
  broke = λ m0 asked k t made rest more h n. tt;
}

pub returns-in-Err-command-clause-gives : goal.returns-in-Err-command-clause-gives
returns-in-Err-command-clause-gives g c = record {
  on = λ m0 asked k t made rest more h n. tt;
  broke = λ m0 asked k t made rest more h n.
      let old = c.args.self.now in
      let few : length old.log.entries < 2 ^ 32 = (let s = old.sound in let b = s.bounded in let f = s.few in omega (arith, b, f)) in
      let part : c.if-ends.issue ≡ last_part c.args.ends = elim c.if-ends.branch [ then-ends w ↦ w.issue-is ∙ sym (ap last_part w.if-ends.true) | else-ends w ↦ w.issue-is ∙ sym (ap last_part w.if-ends.false) ] in
      let some : 0 < length old.log.calls = (let w = c.requires.ready.whole in omega (arith, w)) in
      let log = flight_log c.args.forgive old.log _ c.issue.new.self asked c.args.leads.now c.args.last c.args.ends _ _ c.push_all.ensures.log c.issue.ensures.answer.so c.count-unit.ensures some part n.parts in
      let log2 = abort_log c.args.forgive old.log c.issue.new.self c.confirm_entries.new.self c.issue-2.new.self asked made (c.args.leads.now ++ c.args.last ∷ []) c.args.ends _ log c.confirm_entries.ensures.answer.so c.issue-2.ensures.answer.so c.count-unit.ensures some n.early in
      let are = c.push.ensures.accesses ∙ ap (λ (l : List RegAccess). l ++ c.args.last ∷ []) (c.push_all.ensures.accesses ∙ ap (λ (l : List RegAccess). l ++ c.args.leads.now) c.requires.ready.empty) in
      let one : IsOneTransfer _ = subst IsOneTransfer (sym are) c.requires.one in
      let both : (c.args.forgive ≡ true) × (is_fault_end c.in-Err.end ≡ true) = elim c.if-forgive.branch [
        | then-forgive w ↦ (w.if-forgive.true, sym (c.in-Err.ensures.resumable one) ∙ sym w.can_resume.ensures ∙ sym w.value-is ∙ (search rules))
        | else-forgive w ↦ absurd (both_ways c.if-forgive.value (w.value-is ∙ w.if-forgive.false) c.if-not-can_resume.false)
      ] in
      let yes = both.1 in
      abort_broke g.F.Flights.planner c.args.forgive _ _ _ old.log c.issue.new.self asked k t made c.args.leads.now c.args.last c.args.ends rest more _ m0 h n (c.push.ensures.keeps.same_state ∙ c.push_all.ensures.keeps.same_state) are (one_few _ c.requires.one) few log
      _ _ _ _ _ c.issue-2.new.self c.in-Err.end c.in-Err-command.end c.stop-in-Err-command.result c.stop-in-Err-command.new.self both.0 c.in-Err.ensures.broke yes (c.in-Err.ensures.clear one yes) c.resume.ensures.keeps.same_state (c.in-Err-command.ensures.uncleared refl) log2 c.stop-in-Err-command.ensures.answer;
}

pub returns-in-Ok-clause-packets : goal.returns-in-Ok-clause-packets
returns-in-Ok-clause-packets g c = λ managed. went_few _ _ _ _ _ c.value.result (c.push.ensures.keeps.same_state ∙ c.push_all.ensures.keeps.same_state) c.in-Ok.ensures.came

pub returns-in-Ok-command-clause-packets : goal.returns-in-Ok-command-clause-packets
returns-in-Ok-command-clause-packets g c = λ managed.
    let are = c.push.ensures.accesses ∙ ap (λ (l : List RegAccess). l ++ c.args.last ∷ []) (c.push_all.ensures.accesses ∙ ap (λ (l : List RegAccess). l ++ c.args.leads.now) c.requires.ready.empty) in
    let one : IsOneTransfer _ = subst IsOneTransfer (sym are) c.requires.one in
    let both : (c.args.forgive ≡ true) × (is_fault_end c.in-Err.end ≡ true) = elim c.if-forgive.branch [
      | then-forgive w ↦ (w.if-forgive.true, sym (c.in-Err.ensures.resumable one) ∙ sym w.can_resume.ensures ∙ sym w.value-is ∙ (search rules))
      | else-forgive w ↦ absurd (both_ways c.if-forgive.value (w.value-is ∙ w.if-forgive.false) c.if-not-can_resume.false)
    ] in
    let yes = both.1 in
    cleared_few _ _ _ _ _ (c.push.ensures.keeps.same_state ∙ c.push_all.ensures.keeps.same_state) c.resume.ensures.keeps.same_state (c.in-Err.ensures.packets yes) (c.in-Err.ensures.clear one yes) c.in-Ok-command.ensures.packets
