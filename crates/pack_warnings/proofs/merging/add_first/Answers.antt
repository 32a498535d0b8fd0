use Rattle.std.proofs.Common.{◌≡◌, ◌∙◌, ◌++◌, ◌∷◌, [], List, Some, None, cond, option_map, sym, ap, subst}
use Rattle.std.specs.Ordering.{is_eq}
use Rattle.std.specs.BTreeMap.{get}
use Rattle.pack_warnings.specs.declared.answer.FoundWarning.{FoundWarning}
use Rattle.pack_warnings.specs.declared.answer.PackWarning.{PackWarning}
use Rattle.pack_warnings.specs.Keys.{warning_key_cmp, KnowsWarningPlaces}
use Rattle.pack_warnings.proofs.KeyLemmas.{there_known, found_last, knows_more}
use Rattle.pack_warnings.proofs.merging.add_first.Goals as goal
use Rattle.pack_faults.proofs.AddedLemmas.{on_ok}

pub returns-clause-list : goal.returns-clause-list
returns-clause-list c =
    let x : FoundWarning = record { warning = c.args.warning.now; line = option_map (λ w. w.now) c.args.line } in
    let old = c.args.warnings.now.list.items in
    on_ok c.push_found.result (c.push_found.new.list.items ≡ old ++ record { found = x; sets = c.args.number ∷ [] } ∷ []) _ c.push_found.ensures
    (λ e. e ∙ sym (found_last c.args.number x old (there_known c.args.warnings.now.places old c.args.key x None c.requires.knows c.requires.key (sym c.requires.first))))

pub returns-clause-knows : goal.returns-clause-knows
returns-clause-knows c =
    let x : FoundWarning = record { warning = c.args.warning.now; line = option_map (λ w. w.now) c.args.line } in
    let old = c.args.warnings.now.list.items in
    let places = c.args.warnings.now.places in
    let new = c.note_place.new.places in
    on_ok c.push_found.result (c.push_found.new.list.items ≡ old ++ record { found = x; sets = c.args.number ∷ [] } ∷ []) _ c.push_found.ensures
    (λ e. subst (λ (list : List PackWarning). KnowsWarningPlaces new list) (sym e)
    (knows_more places new old c.args.key x (c.args.number ∷ []) c.requires.knows c.requires.key c.requires.first
    (λ other. c.in_ok-note_place.ensures other ∙ ap (λ n. cond (is_eq (warning_key_cmp c.args.key other)) (Some n) (get warning_key_cmp places other)) (c.len-place.ensures ∙ c.args.warnings.now.list.ok.0))))
