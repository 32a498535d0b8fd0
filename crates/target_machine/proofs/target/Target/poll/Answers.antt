use Rattle.std.proofs.Common.{ap, sym, ◌∙◌, ◌≡◌, ◌+◌, ◌-◌, true, false}
use Rattle.std.specs.Prelude.{min}
use Rattle.target_machine.specs.Attempt.{bank}
use Rattle.target_machine.specs.PollCounts.{is_match}
use Rattle.target_machine.specs.State.{TargetState}
use Rattle.target_machine.specs.declared.access.Outcome.TheVariants.{Value}
use Rattle.target_machine.proofs.PollLemmas.{first_matches, later_matches, none_matches}
use Rattle.target_machine.proofs.target.Target.poll.Goals as goal

pub returns-then-is_match : goal.returns-then-is_match
returns-then-is_match c =
    let t : TargetState = c.args.self.now in
    let here : bank t ≡ 0 = sym c.bank.ensures ∙ c.if-bank-ne0.false in
    let is : c.min-before.result ≡ min c.args.turns (t.power_reads - t.reads) = c.min-before.ensures ∙ ap (min c.args.turns) c.reads_until_power.ensures.value in
    let hit : is_match t c.args.mask c.args.requested c.min-before.result ≡ true = sym c.is_match.ensures ∙ c.if-is_match.true in
    ap (λ (u : TargetState). record { outcome = Value 1; reads = 1; next = u }) c.count_reads.ensures
    ∙ sym (first_matches t c.args.mask c.args.requested c.args.turns c.min-before.result here c.reads_until_power.ensures.power_reads c.reads_until_power.ensures.reads is hit)

pub returns-then-is_match-2 : goal.returns-then-is_match-2
returns-then-is_match-2 c =
    let t : TargetState = c.args.self.now in
    let u : TargetState = c.count_reads-2.new.self in
    let here : bank t ≡ 0 = sym c.bank.ensures ∙ c.if-bank-ne0.false in
    let is : c.min-before.result ≡ min c.args.turns (t.power_reads - t.reads) = c.min-before.ensures ∙ ap (min c.args.turns) c.reads_until_power.ensures.value in
    let missed : is_match t c.args.mask c.args.requested c.min-before.result ≡ false = sym c.is_match.ensures ∙ c.if-is_match.false in
    let hit : is_match u c.args.mask c.args.requested (c.args.turns - c.min-before.result) ≡ true = sym c.is_match-2.ensures ∙ c.if-is_match-2.true in
    ap (λ (x : TargetState). record { outcome = Value 1; reads = c.min-before.result + 1; next = x }) c.count_reads-then-is_match-2.ensures
    ∙ sym (later_matches t c.args.mask c.args.requested c.args.turns c.min-before.result here c.reads_until_power.ensures.power_reads c.reads_until_power.ensures.reads is u c.count_reads-2.ensures missed hit)

pub returns : goal.returns
returns c =
    let t : TargetState = c.args.self.now in
    let u : TargetState = c.count_reads-2.new.self in
    let here : bank t ≡ 0 = sym c.bank.ensures ∙ c.if-bank-ne0.false in
    let is : c.min-before.result ≡ min c.args.turns (t.power_reads - t.reads) = c.min-before.ensures ∙ ap (min c.args.turns) c.reads_until_power.ensures.value in
    let missed : is_match t c.args.mask c.args.requested c.min-before.result ≡ false = sym c.is_match.ensures ∙ c.if-is_match.false in
    let none : is_match u c.args.mask c.args.requested (c.args.turns - c.min-before.result) ≡ false = sym c.is_match-2.ensures ∙ c.if-is_match-2.false in
    ap (λ (x : TargetState). record { outcome = Value 0; reads = c.args.turns; next = x }) c.count_reads-3.ensures
    ∙ sym (none_matches t c.args.mask c.args.requested c.args.turns c.min-before.result here c.reads_until_power.ensures.power_reads c.reads_until_power.ensures.reads is u c.count_reads-2.ensures missed none)
