use Rattle.std.proofs.Common.{◌≡◌, ℕ, ◌+◌, Bool, cond, take, sym, ap, ◌∙◌, arith}
use Rattle.dap_messages.specs.Requests.{kind, gives_word}
use Rattle.dap_replies.proofs.ProgressLemmas.{not_at_end, reads_next, posted_next, at_most_one}
use Rattle.dap_messages.proofs.Items.{drop_next}
use Rattle.packet_words.proofs.replies.first_requests.Goals as goal

pub loop-preserved : goal.loop-preserved
loop-preserved c =
    let before = c.loop.invariant in
    let first = c.in-Some.ensures.steps in
    let next = sym before.rest ∙ first in
    let r = c.in-Some.request in
    let all = c.args.requests.now in
    record {
      rest = drop_next all c.loop.left c.next.new.self r c.loop.counter before.rest first;
      reads = c.with-executed.ensures.reads ∙ ap (λ (n : ℕ). n + cond (gives_word (kind r)) 1 0) before.reads ∙ sym (reads_next all c.next.new.self r c.loop.counter next);
      few = omega (arith, c.with-executed.ensures.reads, at_most_one (gives_word (kind r)));
      posted = c.with-executed.ensures.posted ∙ sym (posted_next all c.next.new.self r c.loop.counter next);
    }

pub returns-in_default : goal.returns-in_default
returns-in_default c = absurd (not_at_end c.args.requests.now c.loop.left c.loop.counter c.args.count c.loop.invariant.rest c.in_default.ensures.steps.0 c.loop-test.true c.requires)
