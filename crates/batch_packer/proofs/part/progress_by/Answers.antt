use Rattle.std.proofs.Common.{◌≡◌, ◌-◌, not, ◌&&◌, ◌||◌, length, ap, ◌∙◌, ℕ, Bool}
use Rattle.std.specs.Prelude.{nat_lt}
use Rattle.target_machine.specs.Counts.{one_if}
use Rattle.dap_transfer.specs.Laws.{accesses_in}
use Rattle.flight_forms.specs.Flights.{doubts, seen_values}
use Rattle.batch_packer.specs.SlotList.{SlotList}
use Rattle.flight_forms.proofs.SeenValues.{counted, kept}
use Rattle.batch_packer.proofs.FewLemmas.{few_part}
use Rattle.dap_messages.specs.Responses.{is_good}
use Rattle.batch_packer.proofs.part.progress_by.Goals as goal

pub returns-clause-performed : goal.returns-clause-performed
returns-clause-performed c =
    counted c.args.executed.now c.args.view.now.words c.args.slots.now.values c.put_values-reads.new.slots.values c.len-before.result c.len.result
    c.requires.normal c.len-before.ensures (ap (λ (s : SlotList). s.values) c.put_values-reads.ensures.values) c.len.ensures

confirmed_is : (c : goal.After-cut) → c.saturating_sub-confirmed.result ≡ length (accesses_in c.args.executed.now) - one_if (doubts c.args.response c.args.executed.now (length c.args.view.now.words))
confirmed_is c =
    c.saturating_sub-confirmed.ensures
    ∙ (λ i. counted c.args.executed.now c.args.view.now.words c.args.slots.now.values c.put_values-reads.new.slots.values c.len-before.result c.len.result
    c.requires.normal c.len-before.ensures (ap (λ (s : SlotList). s.values) c.put_values-reads.ensures.values) c.len.ensures i - c.count_doubted.ensures i)
    ∙ ap (λ (y : Bool × ℕ). length (accesses_in c.args.executed.now) - one_if (not (is_good c.args.response) && (y.0 || nat_lt (length c.args.view.now.words) y.1)))
    (λ i. (c.put_values-reads.ensures.write i, c.put_values-reads.ensures.reads i))

pub returns-clause-confirmed : goal.returns-clause-confirmed
returns-clause-confirmed c = confirmed_is c

pub returns-clause-values : goal.returns-clause-values
returns-clause-values c =
    c.cut.ensures
    ∙ (λ i. record {
      values = kept c.args.slots.now.values c.put_values-reads.new.slots.values (seen_values c.args.executed.now c.args.view.now.words) c.len-before.result c.saturating_sub-confirmed.result _
          c.len-before.ensures (ap (λ (s : SlotList). s.values) c.put_values-reads.ensures.values) (confirmed_is c) i;
      room = ap (λ (s : SlotList). s.room) c.put_values-reads.ensures.values i;
    })

pub returns-clause-few : goal.returns-clause-few
returns-clause-few c =
    few_part c.args.executed.now c.args.response c.args.view.now.words c.args.slots.now.values c.cut.new.self.values _ c.requires.few (returns-clause-performed c) (returns-clause-confirmed c)
    (ap (λ (s : SlotList). s.values) (returns-clause-values c))
