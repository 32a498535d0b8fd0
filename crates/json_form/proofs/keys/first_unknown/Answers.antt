use Rattle.std.proofs.Common.{rules, ◌≡◌, ◌∷◌, ◌∙◌, sym, ap, Some, map}
use Rattle.json_form.specs.Names.{is_among}
use Rattle.json_form.proofs.NameLemmas.{unknown_here, known_here}
use Rattle.json_form.proofs.keys.first_unknown.Goals as goal

pub returns-then-not-is_known : goal.returns-then-not-is_known
returns-then-not-is_known c =
    let opened : c.loop-name.name-iterator ≡ c.in-Some.name.now ∷ c.next.new.self = search rules in
    let known = map (λ k. k.now) c.args.known.now in
    let unknown = ap (is_among known) (sym c.as_str.ensures.value) ∙ sym c.is_known.ensures ∙ c.if-not-is_known.true in
    ap Some c.as_str-then-not-is_known.ensures.value ∙ unknown_here known _ _ _ _ opened c.loop-name.invariant unknown

pub loop-name-preserved : goal.loop-name-preserved
loop-name-preserved c =
    let opened : c.loop-name.name-iterator ≡ c.in-Some.name.now ∷ c.next.new.self = search rules in
    let known = map (λ k. k.now) c.args.known.now in
    let is_known = ap (is_among known) (sym c.as_str.ensures.value) ∙ sym c.is_known.ensures ∙ c.if-not-is_known.false in
    known_here known _ _ _ _ opened c.loop-name.invariant is_known
