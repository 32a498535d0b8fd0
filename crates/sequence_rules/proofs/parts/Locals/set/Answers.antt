use Rattle.std.proofs.Common.{◌≡◌, ◌++◌, false, length, sym, ap, subst, ◌≤◌, ◌^◌, ◌∙◌}
use Rattle.std.proofs.lemmas.List.{with_items_is}
use Rattle.sequence_rules.specs.Shared.{bindings_of}
use Rattle.sequence_rules.specs.Variables.{has_in, set_newest}
use Rattle.sequence_rules.proofs.VariableLemmas.{set_newest_none}
use Rattle.sequence_rules.proofs.LocalLemmas.{has_last, has_middle, has_first, set_last, set_middle_after, set_first_after, set_length}
use Rattle.sequence_rules.proofs.parts.Locals.set.Goals as goal

pub returns-then-set_newest-clause-found : goal.returns-then-set_newest-clause-found
returns-then-set_newest-clause-found g c =
    let l = c.args.self.now in
    let n = c.args.name.now in
    sym (has_last l.first.items (bindings_of l.named) l.hiding.items n (ap (λ bs. has_in bs n) (sym c.deref_mut.ensures.value) ∙ sym c.set_newest.ensures.found ∙ c.if-set_newest.true))

pub returns-then-set_newest-clause-set : goal.returns-then-set_newest-clause-set
returns-then-set_newest-clause-set g c =
    let l = c.args.self.now in
    let n = c.args.name.now in
    let now : c.set_newest.new.bindings ≡ set_newest l.hiding.items n c.args.value = c.set_newest.ensures.set ∙ ap (λ bs. set_newest bs n c.args.value) c.deref_mut.ensures.value in
    ap (λ zs. l.first.items ++ bindings_of l.named ++ zs) (with_items_is l.hiding c.set_newest.new.bindings (ap length now ∙ set_length l.hiding.items n c.args.value ∙ sym l.hiding.ok.0) ∙ now)
    ∙ set_last l.first.items (bindings_of l.named) l.hiding.items n c.args.value (ap (λ bs. has_in bs n) (sym c.deref_mut.ensures.value) ∙ sym c.set_newest.ensures.found ∙ c.if-set_newest.true)

pub invariant_of-self-then-set_newest-2 : goal.invariant_of-self-then-set_newest-2
invariant_of-self-then-set_newest-2 g c =
    let l = c.args.self.now in
    let n = c.args.name.now in
    let none : has_in l.hiding.items n ≡ false = ap (λ bs. has_in bs n) (sym c.deref_mut.ensures.value) ∙ sym c.set_newest.ensures.found ∙ c.if-set_newest.false in
    let now : c.set_newest.new.bindings ≡ set_newest l.hiding.items n c.args.value = c.set_newest.ensures.set ∙ ap (λ bs. set_newest bs n c.args.value) c.deref_mut.ensures.value in
    record {
      bounded = subst (λ k. k ≤ 2 ^ 32) (sym (ap length (set_middle_after l.first.items (bindings_of l.named) l.hiding.items _ _ n c.args.value none
          (with_items_is l.hiding c.set_newest.new.bindings (ap length now ∙ set_length l.hiding.items n c.args.value ∙ sym l.hiding.ok.0) ∙ now)
          (sym c.set_newest-2.ensures.found ∙ c.if-set_newest-2.true) c.set_newest-2.ensures.set)
          ∙ set_length (l.first.items ++ bindings_of l.named ++ l.hiding.items) n c.args.value)) l.bounded;
    }

pub returns-then-set_newest-2-clause-found : goal.returns-then-set_newest-2-clause-found
returns-then-set_newest-2-clause-found g c =
    let l = c.args.self.now in
    let n = c.args.name.now in
    sym (has_middle l.first.items (bindings_of l.named) l.hiding.items n (sym c.set_newest-2.ensures.found ∙ c.if-set_newest-2.true))

pub returns-then-set_newest-2-clause-set : goal.returns-then-set_newest-2-clause-set
returns-then-set_newest-2-clause-set g c =
    let l = c.args.self.now in
    let n = c.args.name.now in
    let none : has_in l.hiding.items n ≡ false = ap (λ bs. has_in bs n) (sym c.deref_mut.ensures.value) ∙ sym c.set_newest.ensures.found ∙ c.if-set_newest.false in
    let now : c.set_newest.new.bindings ≡ set_newest l.hiding.items n c.args.value = c.set_newest.ensures.set ∙ ap (λ bs. set_newest bs n c.args.value) c.deref_mut.ensures.value in
    set_middle_after l.first.items (bindings_of l.named) l.hiding.items _ _ n c.args.value none
    (with_items_is l.hiding c.set_newest.new.bindings (ap length now ∙ set_length l.hiding.items n c.args.value ∙ sym l.hiding.ok.0) ∙ now)
    (sym c.set_newest-2.ensures.found ∙ c.if-set_newest-2.true) c.set_newest-2.ensures.set

pub invariant_of-self-2 : goal.invariant_of-self-2
invariant_of-self-2 g c =
    let l = c.args.self.now in
    let n = c.args.name.now in
    let none : has_in l.hiding.items n ≡ false = ap (λ bs. has_in bs n) (sym c.deref_mut.ensures.value) ∙ sym c.set_newest.ensures.found ∙ c.if-set_newest.false in
    let none_before : has_in (bindings_of l.named) n ≡ false = sym c.set_newest-2.ensures.found ∙ c.if-set_newest-2.false in
    let now : c.set_newest.new.bindings ≡ set_newest l.hiding.items n c.args.value = c.set_newest.ensures.set ∙ ap (λ bs. set_newest bs n c.args.value) c.deref_mut.ensures.value in
    let first : c.set_newest-3.new.bindings ≡ set_newest l.first.items n c.args.value = c.set_newest-3.ensures.set ∙ ap (λ bs. set_newest bs n c.args.value) c.deref_mut-2.ensures.value in
    record {
      bounded = subst (λ k. k ≤ 2 ^ 32) (sym (ap length (set_first_after l.first.items (bindings_of l.named) l.hiding.items _ _ _ n c.args.value none
          (with_items_is l.hiding c.set_newest.new.bindings (ap length now ∙ set_length l.hiding.items n c.args.value ∙ sym l.hiding.ok.0) ∙ now)
          none_before c.set_newest-2.ensures.set
          (with_items_is l.first c.set_newest-3.new.bindings (ap length first ∙ set_length l.first.items n c.args.value ∙ sym l.first.ok.0) ∙ first))
          ∙ set_length (l.first.items ++ bindings_of l.named ++ l.hiding.items) n c.args.value)) l.bounded;
    }

pub returns-clause-found : goal.returns-clause-found
returns-clause-found g c =
    let l = c.args.self.now in
    let n = c.args.name.now in
    let none : has_in l.hiding.items n ≡ false = ap (λ bs. has_in bs n) (sym c.deref_mut.ensures.value) ∙ sym c.set_newest.ensures.found ∙ c.if-set_newest.false in
    let none_before : has_in (bindings_of l.named) n ≡ false = sym c.set_newest-2.ensures.found ∙ c.if-set_newest-2.false in
    sym (has_first l.first.items (bindings_of l.named) l.hiding.items n none none_before ∙ ap (λ bs. has_in bs n) (sym c.deref_mut-2.ensures.value) ∙ sym c.set_newest-3.ensures.found)

pub returns-clause-set : goal.returns-clause-set
returns-clause-set g c =
    let l = c.args.self.now in
    let n = c.args.name.now in
    let none : has_in l.hiding.items n ≡ false = ap (λ bs. has_in bs n) (sym c.deref_mut.ensures.value) ∙ sym c.set_newest.ensures.found ∙ c.if-set_newest.false in
    let none_before : has_in (bindings_of l.named) n ≡ false = sym c.set_newest-2.ensures.found ∙ c.if-set_newest-2.false in
    let now : c.set_newest.new.bindings ≡ set_newest l.hiding.items n c.args.value = c.set_newest.ensures.set ∙ ap (λ bs. set_newest bs n c.args.value) c.deref_mut.ensures.value in
    let first : c.set_newest-3.new.bindings ≡ set_newest l.first.items n c.args.value = c.set_newest-3.ensures.set ∙ ap (λ bs. set_newest bs n c.args.value) c.deref_mut-2.ensures.value in
    set_first_after l.first.items (bindings_of l.named) l.hiding.items _ _ _ n c.args.value none
    (with_items_is l.hiding c.set_newest.new.bindings (ap length now ∙ set_length l.hiding.items n c.args.value ∙ sym l.hiding.ok.0) ∙ now)
    none_before c.set_newest-2.ensures.set
    (with_items_is l.first c.set_newest-3.new.bindings (ap length first ∙ set_length l.first.items n c.args.value ∙ sym l.first.ok.0) ∙ first)

pub returns-clause-same : goal.returns-clause-same
returns-clause-same g c = λ no.
    let l = c.args.self.now in
    let n = c.args.name.now in
    let none : has_in l.hiding.items n ≡ false = ap (λ bs. has_in bs n) (sym c.deref_mut.ensures.value) ∙ sym c.set_newest.ensures.found ∙ c.if-set_newest.false in
    let none_before : has_in (bindings_of l.named) n ≡ false = sym c.set_newest-2.ensures.found ∙ c.if-set_newest-2.false in
    let now : c.set_newest.new.bindings ≡ set_newest l.hiding.items n c.args.value = c.set_newest.ensures.set ∙ ap (λ bs. set_newest bs n c.args.value) c.deref_mut.ensures.value in
    let first : c.set_newest-3.new.bindings ≡ set_newest l.first.items n c.args.value = c.set_newest-3.ensures.set ∙ ap (λ bs. set_newest bs n c.args.value) c.deref_mut-2.ensures.value in
    set_first_after l.first.items (bindings_of l.named) l.hiding.items _ _ _ n c.args.value none
    (with_items_is l.hiding c.set_newest.new.bindings (ap length now ∙ set_length l.hiding.items n c.args.value ∙ sym l.hiding.ok.0) ∙ now)
    none_before c.set_newest-2.ensures.set
    (with_items_is l.first c.set_newest-3.new.bindings (ap length first ∙ set_length l.first.items n c.args.value ∙ sym l.first.ok.0) ∙ first)
    ∙ set_newest_none (l.first.items ++ bindings_of l.named ++ l.hiding.items) n c.args.value (has_first l.first.items (bindings_of l.named) l.hiding.items n none none_before ∙ ap (λ bs. has_in bs n) (sym c.deref_mut-2.ensures.value) ∙ sym c.set_newest-3.ensures.found ∙ no)
