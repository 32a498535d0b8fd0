use Rattle.std.proofs.Common.{◌∙◌, ◌-◌, None, Some, ap, sym, refl}
use Rattle.set_lines.specs.Lines.{text_along}
use Rattle.set_lines.specs.Rests.{rest_after}
use Rattle.set_lines.proofs.LineLemmas.{rest_in, tail_of}
use Rattle.set_lines.proofs.lines.start_in.Goals as goal

pub returns-in_err-sequences : goal.returns-in_err-sequences
returns-in_err-sequences c =
    rw c.from_residual.ensures (rest_in c.args.set.now c.args.spot.now c.args.name.now None None None c.requires.named c.in_err-sequences.ensures refl refl)

pub returns-in_err-first : goal.returns-in_err-first
returns-in_err-first c =
    rw c.from_residual-in_err-first.ensures
    (rest_in c.args.set.now c.args.spot.now c.args.name.now (Some c.in_ok-sequences.sequences.now) None None c.requires.named c.in_ok-sequences.ensures c.in_err-first.ensures.value refl)

pub returns-in_err-text : goal.returns-in_err-text
returns-in_err-text c =
    let spot = c.args.spot.now in
    rw c.from_residual-in_err-text.ensures
    (rest_in c.args.set.now spot c.args.name.now (Some c.in_ok-sequences.sequences.now) (Some c.in_ok-first.field-0.now) None c.requires.named c.in_ok-sequences.ensures
    c.in_ok-first.ensures.value
    (c.in_err-text.ensures ∙ ap (λ p. text_along spot.part p c.as_steps-steps.result.now) c.as_slice.ensures ∙ ap (text_along spot.part spot.path) c.as_steps-steps.ensures))

pub returns : goal.returns
returns c =
    let set = c.args.set.now in
    let spot = c.args.spot.now in
    let found = c.in_ok-sequences.sequences.now in
    record {
      place = refl;
      rest =
          rest_in set spot c.args.name.now (Some found) (Some c.in_ok-first.field-0.now) (Some c.in_ok-text.text.now) c.requires.named c.in_ok-sequences.ensures
          c.in_ok-first.ensures.value
          (c.in_ok-text.ensures ∙ ap (λ p. text_along spot.part p c.as_steps-steps.result.now) c.as_slice.ensures ∙ ap (text_along spot.part spot.path) c.as_steps-steps.ensures)
          ∙ ap (λ t. Some t) (sym (c.rest_after-rest.ensures ∙ ap (λ n. rest_after n c.as_str.result.now) c.feeds_before.ensures
          ∙ ap (rest_after (spot.place.line - 1)) c.as_str.ensures));
      sequences = tail_of set c.args.name.now found c.in_ok-sequences.ensures;
    }
