use Rattle.std.proofs.Common.{◌≡◌, ◌∙◌, sym, ap, cond, Some, None, length, bytes_eq}
use Rattle.sequence_resolve.specs.Winners.{place_in}
use Rattle.sequence_resolve.proofs.WinnerLemmas.{seen, name_of, place_in-below, put_there-with_candidate, last-with_candidate, place_in-put_there, place_in-append}
use Rattle.sequence_resolve.proofs.winners.put.Goals as goal

pub put_over-requires : goal.put_over-requires
put_over-requires c = place_in-below _ c.args.winners.now.list.items c.in-Some.place (sym (c.requires (name_of c.args.candidate)) ∙ sym c.in-Some.ensures)

pub returns-in-Some-clause-ok : goal.returns-in-Some-clause-ok
returns-in-Some-clause-ok c =
    let ws = c.args.winners.now.list.items in
    let at : place_in (name_of c.args.candidate) (seen ws) ≡ Some c.in-Some.place = sym (c.requires (name_of c.args.candidate)) ∙ sym c.in-Some.ensures in
    ap seen c.put_over.ensures ∙ put_there-with_candidate ws c.in-Some.place c.args.candidate c.args.candidate at

pub returns-in-Some-clause-knows : goal.returns-in-Some-clause-knows
returns-in-Some-clause-knows c = λ name. (
    let ws = c.args.winners.now.list.items in
    let at : place_in (name_of c.args.candidate) (seen ws) ≡ Some c.in-Some.place = sym (c.requires (name_of c.args.candidate)) ∙ sym c.in-Some.ensures in
    c.requires name ∙ sym (place_in-put_there ws c.in-Some.place c.args.candidate c.args.candidate name at) ∙ sym (ap (λ xs. place_in name (seen xs)) c.put_over.ensures))

pub returns-in_ok-put_last-in-None-clause-ok : goal.returns-in_ok-put_last-in-None-clause-ok
returns-in_ok-put_last-in-None-clause-ok c =
    let ws = c.args.winners.now.list.items in
    let absent : place_in (name_of c.args.candidate) (seen ws) ≡ None = sym (c.requires (name_of c.args.candidate)) ∙ sym c.in-None.ensures in
    ap seen c.in_ok-put_last-in-None.ensures.list ∙ last-with_candidate ws c.args.candidate absent

pub returns-in_ok-put_last-in-None-clause-knows : goal.returns-in_ok-put_last-in-None-clause-knows
returns-in_ok-put_last-in-None-clause-knows c = λ name. (
    let ws = c.args.winners.now.list.items in
    let absent : place_in (name_of c.args.candidate) (seen ws) ≡ None = sym (c.requires (name_of c.args.candidate)) ∙ sym c.in-None.ensures in
    c.in_ok-put_last-in-None.ensures.places name
    ∙ ap (λ o. cond (bytes_eq (name_of c.args.candidate) name) (Some (length ws)) o) (c.requires name)
    ∙ sym (place_in-append ws c.args.candidate name absent)
    ∙ sym (ap (λ xs. place_in name (seen xs)) c.in_ok-put_last-in-None.ensures.list))
