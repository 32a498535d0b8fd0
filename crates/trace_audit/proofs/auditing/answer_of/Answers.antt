use Rattle.std.proofs.Common.{◌∙◌, arith}
use Rattle.std.proofs.lemmas.List.{length-map}
use Rattle.probe_core.specs.Log.{Entry}
use Rattle.trace_audit.specs.Audits.{entries_of, entry_of}
use Rattle.trace_audit.proofs.TextLemmas.{count-entries, count-others}
use Rattle.trace_audit.proofs.auditing.answer_of.Goals as goal

pub returns : goal.returns
returns c =
    let entries = c.args.entries.now in
    let replies = c.count_replies-replies.ensures ∙ count-entries (λ (e : Entry). e.is_reply) entry_of entries in
    let all = count-others (λ (e : Entry). e.is_reply) (entries_of entries) in
    record {
      run = c.in_ok-probe.ensures.ok;
      packets = omega (arith, replies, all, length-map entries entry_of);
      replies = replies;
    }
