use Rattle.std.proofs.Common.{◌≡◌, ◌-◌, ◌++◌, length, take, ap, ◌∙◌}
use Rattle.sequence_rules.specs.Shared.{bindings_of}
use Rattle.sequence_rules.proofs.LocalLemmas.{take_three}
use Rattle.sequence_rules.proofs.parts.Locals.truncate.Goals as goal

pub returns : goal.returns
returns g c =
    let l = c.args.self.now in
    let n = c.args.len in
    let first = l.first.items in
    let named = bindings_of l.named in
    let after : c.saturating_sub-after.result ≡ n - length first = c.saturating_sub-after.ensures ∙ ap (λ k. n - k) (c.len.ensures ∙ l.first.ok.0) in
    let beyond : c.saturating_sub.result ≡ n - length first - length named =
    c.saturating_sub.ensures ∙ ap (λ k. c.saturating_sub-after.result - k) c.len-2.ensures ∙ ap (λ k. k - length named) after in
    ap (λ zs. zs ++ bindings_of c.truncate-2.new.self ++ c.truncate.new.self.items) c.truncate-3.ensures.items
    ∙ ap (λ zs. take n first ++ zs ++ c.truncate.new.self.items) (c.truncate-2.ensures ∙ ap (λ k. take k named) after)
    ∙ ap (λ zs. take n first ++ take (n - length first) named ++ zs) (c.truncate.ensures.items ∙ ap (λ k. take k l.hiding.items) beyond)
    ∙ take_three n first named l.hiding.items
