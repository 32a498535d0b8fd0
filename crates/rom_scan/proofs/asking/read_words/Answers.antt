use Rattle.std.proofs.Common.{◌+◌, ◌-◌, ◌*◌, ◌∷◌, ℕ, List, [], length, sym, ap, subst, arith}
use Rattle.std.proofs.lemmas.List.{length-append}
use Rattle.std.proofs.lemmas.Result.{err_from_is_err_and}
use Rattle.access_calls.proofs.KeepLemmas.{keeps_on, keeps_same}
use Rattle.access_calls.specs.Reported.{world_from}
use Rattle.sequels.specs.Meeting.{Reaches}
use Rattle.sequels.proofs.MeetingLemmas.{whole_after}
use Rattle.rom_scan.specs.Components.{words_sequel}
use Rattle.rom_scan.proofs.ReadLemmas.{next_word, stops_word, words_end, words_start}
use Rattle.rom_scan.proofs.asking.read_words.Goals as goal

pub loop-i-init : goal.loop-i-init
loop-i-init g c = record {
  so_far = λ m answered written b l whole. words_start (world_from m answered) c.args.ap c.args.count c.args.address c.new-read.result.items (g.A.Access.reported c.args.access.now).asks.calls written c.new-read.ensures;
  items = ap (λ (x : List ℕ). length x) c.new-read.ensures;
  calls = omega arith;
  ended = c.requires.may.no_end;
  keeps = keeps_same _ _ _ _;
}

pub loop-i-preserved : goal.loop-i-preserved
loop-i-preserved g c =
    let inv = c.loop-i.invariant in
    let e = c.in_ok-word.ensures in
    let old = (g.A.Access.reported c.args.access.now).asks.calls in
    let mid = (g.A.Access.reported c.loop-i.access).asks.calls in
    let new = (g.A.Access.reported c.ask_now.new.access).asks.calls in
    record {
      so_far = λ m answered written b l whole.
          let w = world_from m answered in
          let r = inv.so_far m answered written b (e.ends.keeps.goes.left answered l) whole in
          subst (λ (x : List ℕ). Reaches w (words_sequel c.args.ap c.args.count c.args.address []) old new written written (words_sequel c.args.ap (c.args.count - (c.loop-i.i + 1)) (c.args.address + 4 * (c.loop-i.i + 1)) x)) (sym c.push.ensures.items)
          (next_word w c.args.ap c.args.count c.loop-i.i c.args.address c.loop-i.read.items _ old mid new written c.loop-i-test.true c.word_unit.ensures.asks whole r c.in_ok-word.word
          (e.gives m answered written (inv.keeps.on m b) l (whole_after w (words_sequel c.args.ap c.args.count c.args.address []) _ old mid written written whole r)));
      items =
          let a = ap (λ (x : List ℕ). length x) c.push.ensures.items in
          let b = length-append c.loop-i.read.items (c.in_ok-word.word ∷ []) in
          let d = inv.items in
          omega (arith, a, b, d);
      calls = (let a = e.count in let b = inv.calls in omega (arith, a, b));
      ended = e.ends.end;
      keeps = keeps_on _ _ _ _ _ _ inv.keeps e.ends.keeps;
    }

pub returns-in_err-word-clause-gives : goal.returns-in_err-word-clause-gives
returns-in_err-word-clause-gives g c =
    let passed = err_from_is_err_and c.from_residual.result c.from_residual.ensures.1 in
    rw (passed.1, passed.2) (λ m answered written b l whole.
    let inv = c.loop-i.invariant in
    let w = world_from m answered in
    let e = c.in_err-word.ensures in
    let r = inv.so_far m answered written b (e.ends.keeps.goes.left answered l) whole in
    stops_word w c.args.ap c.args.count c.loop-i.i c.args.address c.loop-i.read.items _ (g.A.Access.reported c.args.access.now).asks.calls (g.A.Access.reported c.loop-i.access).asks.calls (g.A.Access.reported c.ask_now.new.access).asks.calls written
    c.loop-i-test.true c.word_unit.ensures.asks whole r (g.A.Access.reported c.ask_now.new.access).lines c.in_err-word.field-0.0
    (e.gives m answered written (inv.keeps.on m b) l (whole_after w (words_sequel c.args.ap c.args.count c.args.address []) _ _ _ written written whole r)))

pub returns-clause-gives : goal.returns-clause-gives
returns-clause-gives g c = λ m answered written b l whole.
    words_end (world_from m answered) c.args.ap c.args.count c.loop-i.i c.args.address c.loop-i.read.items (g.A.Access.reported c.args.access.now).asks.calls (g.A.Access.reported c.loop-i.access).asks.calls written c.loop-i-test.false
    (c.loop-i.invariant.so_far m answered written b l whole)
