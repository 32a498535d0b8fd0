use Rattle.std.proofs.Common.{◌∙◌, [], ◌∷◌, ◌++◌, List, map, take, ap, sym, subst}
use Rattle.std.specs.List.{All}
use Rattle.std.proofs.lemmas.List.{map-append}
use Rattle.std.proofs.lemmas.List.Elements.{All-push}
use Rattle.sequence_resolve.specs.declared.entry.SeqSet.{SeqSet}
use Rattle.pack_faults.specs.declared.known.KnownSet.{KnownSet}
use Rattle.pack_faults.proofs.SharedLemmas.{map_taken}
use Rattle.pack_warnings.specs.declared.lined.WarnedSet.{WarnedSet}
use Rattle.pack_warnings.specs.Lined.{IsWarned}
use Rattle.pack_warnings.proofs.lined.warned_sets.Goals as goal

pub loop-one-preserved : goal.loop-one-preserved
loop-one-preserved c =
    let set_of = λ (s : WarnedSet). s.set.now in
    let known_set = λ (k : KnownSet). k.set in
    let known = c.args.known.now in
    let i = c.loop-one.one-index in
    let old = c.loop-one.sets in
    let new = c.in_ok-warned_set.field-0 in
    record {
      sets =
          ap (map set_of) c.in_ok-push.ensures.ok ∙ map-append set_of old (new ∷ []) ∙ ap (λ (ss : List SeqSet). ss ++ new.set.now ∷ []) c.loop-one.invariant.sets
          ∙ ap (λ (s : SeqSet). map known_set (take i known) ++ s ∷ []) c.in_ok-warned_set.ensures.set
          ∙ sym (map_taken known_set known i c.one-item.result c.loop-one-test.true c.one-item.is);
      warned = subst (λ (ws : List WarnedSet). All IsWarned ws) (sym c.in_ok-push.ensures.ok) (All-push IsWarned old new c.loop-one.invariant.warned c.in_ok-warned_set.ensures.warned);
    }
