use Rattle.std.proofs.Common.{◌∙◌, List, map, ap, sym, subst}
use Rattle.std.specs.List.{All}
use Rattle.std.proofs.Common.{count_by}
use Rattle.pack_faults.specs.declared.known.KnownSet.{KnownSet}
use Rattle.pack_faults.specs.Known.{IsKnown}
use Rattle.pack_faults.specs.Sets.{SetAt, set_name}
use Rattle.pack_faults.specs.Views.{set_view}
use Rattle.pack_faults.specs.Answers.{AreChecked, is_unread, is_unfinished}
use Rattle.pack_faults.proofs.AnswerLemmas.{count-map, found_within, done_found, one_answer}
use Rattle.pack_faults.proofs.faults.pack_faults.Goals as goal

pub faults_of_sets-requires-clause-known : goal.faults_of_sets-requires-clause-known
faults_of_sets-requires-clause-known c = subst (λ (ks : List KnownSet). All IsKnown ks) (sym c.as_slice-2.ensures) c.in_ok-found.ensures.fine.known

pub faults_of_sets-requires-clause-within : goal.faults_of_sets-requires-clause-within
faults_of_sets-requires-clause-within c =
    found_within c.args.pack.now c.in_ok-found.found c.as_slice-2.result.now c.as_slice-3.result.now c.as_slice-2.ensures c.as_slice-3.ensures c.in_ok-found.ensures.fine

pub returns-clause-answer : goal.returns-clause-answer
returns-clause-answer c =
    let pack = c.args.pack.now in
    let f = c.in_ok-found.found in
    let done = done_found pack f c.as_slice-2.result.now c.as_slice-3.result.now c.in_ok-checking.checking c.as_slice-2.ensures c.as_slice-3.ensures c.in_ok-found.ensures.fine
    c.in_ok-checking.ensures in
    record {
      checked = done.checked;
      are = subst (λ (ss : List SetAt). AreChecked pack ss done.checked) c.in_ok-found.ensures.sets done.are;
      devices = c.in_ok-found.ensures.devices;
      sets = c.in_ok-sets.ensures ∙ ap (λ ss. map set_name (map set_view ss)) c.as_slice.ensures ∙ ap (map set_name) c.in_ok-found.ensures.sets;
      faults = c.in_ok-faults.ensures ∙ done.faults;
      unread = c.count_unread-unread.ensures ∙ ap (count_by is_unread) (c.as_slice-4.ensures ∙ done.phases) ∙ count-map is_unread (λ x. x.phase) done.checked;
      unreached = c.count_unfinished-unreached.ensures ∙ ap (count_by is_unfinished) (c.as_slice-5.ensures ∙ done.phases) ∙ count-map is_unfinished (λ x. x.phase) done.checked;
    }

pub returns-clause-only : goal.returns-clause-only
returns-clause-only c = λ other is. one_answer c.args.pack.now c.args.request.now _ other (returns-clause-answer c) is
