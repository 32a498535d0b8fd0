use Rattle.std.proofs.Common.{◌≡◌, ℕ, ◌+◌, ◌-◌, ◌≤◌, ◌++◌, [], List, length, take, drop, sym, ap, subst, ◌∙◌, arith, Some}
use Rattle.std.proofs.lemmas.List.{length-take, length-take-le, map_push}
use Rattle.dap_base.specs.declared.text.Place.{Place}
use Rattle.expr_grammar.specs.declared.front.Piece.{Piece}
use Rattle.expr_grammar.specs.Front.{FrontIs, IsGapPiece, IsCut, piece_len}
use Rattle.expr_grammar.specs.Lexeme.{lexeme, lexemes}
use Rattle.expr_grammar.specs.Lexing.{Divides, IsTokenFront, place_at, place_after, nothing}
use Rattle.expr_grammar.proofs.Fronts.{boundary}
use Rattle.expr_grammar.proofs.Division.{place_column}
use Rattle.expr_grammar.proofs.LexTurn.{front_cut, turned, gap_kept, token_kept}
use Rattle.expr_grammar.proofs.lexer.cut_tokens.Goals as goal

pub loop-rest-init : goal.loop-rest-init
loop-rest-init c =
    let text = c.args.text.now in
    let zero : 0 ≡ length text - length text = omega arith in
    record {
      utf8 = c.utf8.text;
      within = omega arith;
      back = ap (λ (k : ℕ). drop k text) zero;
      divides = rw c.in_ok-items.ensures (subst (λ (k : ℕ). Divides text 0 [] k) zero nothing);
      place = ap (place_at text) zero;
    }

pub split_at-requires : goal.split_at-requires
split_at-requires c =
    let f : FrontIs c.loop-rest.rest.now (Some c.in-Some.piece) = subst (FrontIs c.loop-rest.rest.now) c.in-Some.is c.front_piece.ensures in
    rw c.len.ensures (boundary c.loop-rest.rest.now (piece_len c.in-Some.piece) c.loop-rest.invariant.utf8 (front_cut c.loop-rest.rest.now c.in-Some.piece f))

pub place_after-next-requires-clause-column : goal.place_after-next-requires-clause-column
place_after-next-requires-clause-column c =
    let text = c.args.text.now in
    let rest = c.loop-rest.rest.now in
    let i = c.loop-rest.invariant in
    let column : c.loop-rest.at.column ≤ 1 + (length text - length rest) = omega (arith, ap (λ (p : Place). p.column) i.place, place_column text (length text - length rest) (omega arith)) in
    let front : length c.as_bytes.result.now ≤ length rest = omega (arith, ap length c.as_bytes.ensures.value, ap length c.split_at.ensures.front, length-take c.len.result rest) in
    omega (arith, column, front, i.within)

pub loop-rest-preserved-in_ok-push : goal.loop-rest-preserved-in_ok-push
loop-rest-preserved-in_ok-push c =
    let text = c.args.text.now in
    let rest = c.loop-rest.rest.now in
    let piece = c.in-Some.piece in
    let i = c.loop-rest.invariant in
    let f : FrontIs rest (Some piece) = subst (FrontIs rest) c.in-Some.is c.front_piece.ensures in
    let cut = front_cut rest piece f in
    let front : c.split_at.result.0.now ≡ take (piece_len piece) rest = c.split_at.ensures.front ∙ ap (λ (k : ℕ). take k rest) c.len.ensures in
    let after : c.split_at.result.1.now ≡ drop (piece_len piece) rest = c.split_at.ensures.back ∙ ap (λ (k : ℕ). drop k rest) c.len.ensures in
    let next = λ (before : List ℕ) (is : c.loop-rest.at ≡ place_after before). let e : c.place_after-next.result ≡ place_after (before ++ c.split_at.result.0.now) = c.place_after-next.ensures before is ∙ ap (λ (l : List ℕ). place_after (before ++ l)) c.as_bytes.ensures.value in e in
    let t = turned text rest c.split_at.result.1.now c.loop-rest.at c.place_after-next.result (piece_len piece) c.split_at.result.0.now i.utf8 i.within i.back i.place cut front after next in
    let token : IsTokenFront c.in-Token.kind c.in-Token.field-1 rest × IsCut c.in-Token.field-1 rest = subst (λ (p : Piece). FrontIs rest (Some p)) c.in-Token.is f in
    let n : piece_len piece ≡ c.in-Token.field-1 = ap piece_len c.in-Token.is in
    let size : length c.split_at.result.0.now ≡ piece_len piece = ap length front ∙ length-take-le (piece_len piece) rest cut.within in
    let d = token_kept text rest c.split_at.result.1.now c.place_after-next.result c.loop-rest.at c.in-Token.kind (piece_len piece) c.split_at.result.0.now (lexemes c.loop-rest.items) t i.back
    (subst (λ (k : ℕ). IsTokenFront c.in-Token.kind k rest) (sym n) token.0) front i.place size i.divides in
    let pushed = ap lexemes c.in_ok-push.ensures.ok ∙ map_push lexeme c.loop-rest.items _ in
    record { utf8 = t.utf8; within = t.within; back = t.back; divides = rw pushed d; place = t.place }

pub loop-rest-preserved : goal.loop-rest-preserved
loop-rest-preserved c =
    let text = c.args.text.now in
    let rest = c.loop-rest.rest.now in
    let piece = c.in-Some.piece in
    let i = c.loop-rest.invariant in
    let f : FrontIs rest (Some piece) = subst (FrontIs rest) c.in-Some.is c.front_piece.ensures in
    let cut = front_cut rest piece f in
    let front : c.split_at.result.0.now ≡ take (piece_len piece) rest = c.split_at.ensures.front ∙ ap (λ (k : ℕ). take k rest) c.len.ensures in
    let after : c.split_at.result.1.now ≡ drop (piece_len piece) rest = c.split_at.ensures.back ∙ ap (λ (k : ℕ). drop k rest) c.len.ensures in
    let next = λ (before : List ℕ) (is : c.loop-rest.at ≡ place_after before). let e : c.place_after-next.result ≡ place_after (before ++ c.split_at.result.0.now) = c.place_after-next.ensures before is ∙ ap (λ (l : List ℕ). place_after (before ++ l)) c.as_bytes.ensures.value in e in
    let t = turned text rest c.split_at.result.1.now c.loop-rest.at c.place_after-next.result (piece_len piece) c.split_at.result.0.now i.utf8 i.within i.back i.place cut front after next in
    let gap : IsGapPiece c.in_default-piece.field-0 rest × IsCut c.in_default-piece.field-0 rest = subst (λ (p : Piece). FrontIs rest (Some p)) c.in_default-piece.is f in
    let n : piece_len piece ≡ c.in_default-piece.field-0 = ap piece_len c.in_default-piece.is in
    let d = gap_kept text rest c.split_at.result.1.now c.place_after-next.result (piece_len piece) (lexemes c.loop-rest.items) t i.back (subst (λ (k : ℕ). IsGapPiece k rest) (sym n) gap.0) i.divides in
    record { utf8 = t.utf8; within = t.within; back = t.back; divides = d; place = t.place }
