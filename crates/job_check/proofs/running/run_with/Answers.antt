use Rattle.std.proofs.Common.{◌∙◌, sym}
use Rattle.job_check.proofs.OneRun.{same_names}
use Rattle.job_check.proofs.RunningLemmas.{no_sequence, no_set, no_valid, plain_of, set_of, unread, unreplaced}
use Rattle.job_check.proofs.running.run_with.Goals as goal

pub returns-in-Err-clause-refused : goal.returns-in-Err-clause-refused
returns-in-Err-clause-refused c = rw c.refuse_run.ensures (unread c.args.job c.args.selection.now c.args.name.now c.in-Err.refusal c.in-Err.ensures.refused)

pub returns-in-Err-resolve_set-clause-refused : goal.returns-in-Err-resolve_set-clause-refused
returns-in-Err-resolve_set-clause-refused c =
    rw c.refuse_run-in-Err-resolve_set.ensures
    (no_set c.args.job c.args.selection.now c.args.name.now c.in-Ok.conf c.in-Err-resolve_set.refusal c.in-Ok.ensures.found c.in-Err-resolve_set.ensures.refused)

pub returns-then-not-has_sequence-clause-refused : goal.returns-then-not-has_sequence-clause-refused
returns-then-not-has_sequence-clause-refused c =
    no_sequence c.args.job c.args.selection.now c.args.name.now c.in-Ok.conf c.in-Ok-resolve_set.plain
    (plain_of c.args.job c.args.selection.now c.args.name.now c.in-Ok.conf c.in-Ok-resolve_set.plain c.in-Ok.ensures.found c.in-Ok-resolve_set.ensures.set) (sym c.if-not-has_sequence.ensures)

pub returns-in-Err-put_values-clause-refused : goal.returns-in-Err-put_values-clause-refused
returns-in-Err-put_values-clause-refused c =
    rw c.refuse_run-in-Err-put_values.ensures
    (unreplaced c.args.job c.args.selection.now c.args.name.now c.in-Ok.conf c.in-Ok-resolve_set.plain c.in-Err-put_values.refusal
    (plain_of c.args.job c.args.selection.now c.args.name.now c.in-Ok.conf c.in-Ok-resolve_set.plain c.in-Ok.ensures.found c.in-Ok-resolve_set.ensures.set) (sym c.if-not-has_sequence.ensures)
    c.in-Err-put_values.ensures.refused)

pub returns-in-Err-check_set-clause-refused : goal.returns-in-Err-check_set-clause-refused
returns-in-Err-check_set-clause-refused c =
    let plain = plain_of c.args.job c.args.selection.now c.args.name.now c.in-Ok.conf c.in-Ok-resolve_set.plain c.in-Ok.ensures.found c.in-Ok-resolve_set.ensures.set in
    rw c.refuse_run-in-Err-check_set.ensures
    (no_valid c.args.job c.args.selection.now c.args.name.now c.in-Ok-put_values.set c.in-Err-check_set.refusal
    (set_of c.args.job c.args.selection.now c.args.name.now c.in-Ok.conf c.in-Ok-resolve_set.plain c.in-Ok-put_values.set plain c.in-Ok-put_values.ensures.values)
    (same_names c.args.job c.args.selection.now c.in-Ok.conf c.in-Ok-resolve_set.plain c.in-Ok-put_values.set c.args.name.now c.in-Ok-put_values.ensures.values ∙ sym c.if-not-has_sequence.ensures)
    c.in-Err-check_set.ensures.refused)
