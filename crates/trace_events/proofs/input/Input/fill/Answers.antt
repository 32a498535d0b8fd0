use Rattle.std.proofs.Common.{◌≡◌, ◌∙◌, ℕ, ◌<◌, ◌≤◌, ◌⊎◌, Bool, true, List, inl, inr, length, drop, take, refl, sym, ap, arith}
use Rattle.trace_events.specs.Inputs.{Input}
use Rattle.trace_events.proofs.InputLemmas.{end_of_piece, filled, kept_piece}
use Rattle.trace_events.proofs.input.Input.fill.Goals as goal
use Rattle.trace_events.proofs.input.Input.fill.Goals.{then-self-via-then-self, then-self-via-else-self+then-self-2}

pub returns-then-self-clause-bytes : goal.returns-then-self-clause-bytes
returns-then-self-clause-bytes g c =
    let i = c.self.inside in
    let ready : c.args.self.now.ready ≡ drop i.at (take i.count i.chunk) = sym (ap (λ (x : Input). x.ready) c.self.view_is) in
    let over : c.args.self.now.over ≡ i.is_over = sym (ap (λ (x : Input). x.over) c.self.view_is) in
    let within : i.count ≤ length i.chunk = omega arith in
    let either : (i.at < i.count) ⊎ (i.is_over ≡ true) = elim c.then-self.branch [ then-self-via-then-self w ↦ inl w.if-self.true | then-self-via-else-self+then-self-2 w ↦ inr w.if-self-2.true ] in
    kept_piece c.args.self.now _ i.chunk i.at i.count i.is_over ready over within either

pub returns-clause-bytes : goal.returns-clause-bytes
returns-clause-bytes g c =
    let i = c.self.inside in
    let ready : c.args.self.now.ready ≡ drop i.at (take i.count i.chunk) = sym (ap (λ (x : Input). x.ready) c.self.view_is) in
    let over : c.args.self.now.over ≡ i.is_over = sym (ap (λ (x : Input). x.over) c.self.view_is) in
    let within : i.count ≤ length i.chunk = omega arith in
    let at_end : i.at ≡ i.count = omega arith in
    filled c.args.self.now _ _ _ c.in_ok-count.count c.take.new.buf (ready ∙ end_of_piece i.chunk i.at i.count at_end within) (over ∙ c.if-self-2.false) refl refl (omega arith)
    c.in_ok-count.ensures.bytes.0 c.in_ok-count.ensures.bytes.1
