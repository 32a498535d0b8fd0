-- The frames of calls in a row, and what comes first of what they put.
use Rattle.std.proofs.Common.{◌≡◌, ◌∙◌, inr, ℕ, List, [], ◌++◌, Option, Result, Ok, Err, take, refl, ap, subst, append_assoc}
use Rattle.std.specs.Prelude.{IfErr, ◌≢◌}
use Rattle.std.proofs.KnownBytes.{Appends-trans, Appends-nil}
use Rattle.std.specs.Io.KnownBytes.{Appends}
use Rattle.dap_base.specs.Streams.{AppendsPrefix, PutAppends}
use Rattle.dap_base.proofs.Known.{whole_put}
use Rattle.probe_core.specs.Bench.{BenchState, Reported, seen_bench}
use Rattle.text_lines.specs.Causes.{NamesFault}
use Rattle.text_lines.proofs.PutLemmas.{prefix_first, put_after}
use Rattle.report_lines.specs.declared.put.TextEnd.{TextEnd}
use Rattle.report_lines.specs.declared.put.TextEnd.TheVariants as ends
use Rattle.report_lines.specs.Frame.{AppendsSome, EndsPutting, EndsShowing, KeepsBench, PutsFirst, PutsLines, ShowsView}
use Rattle.report_lines.specs.Views.{IsViewedAsBefore, View, bench_view}
use Rattle.report_lines.proofs.RowLemmas.{before-trans, viewed-trans}

-- ---- what a sink held stays in front

pub some_same : (a : Option (List ℕ)) → AppendsSome a a
some_same a = record { piece = []; appends = Appends-nil a }

pub some_on : (a b c : Option (List ℕ)) → AppendsSome a b → AppendsSome b c → AppendsSome a c
some_on a b c first second = record { piece = first.piece ++ second.piece; appends = Appends-trans a b c first.piece second.piece first.appends second.appends }

pub some_put : {E : Type 0} (a b : Option (List ℕ)) (r : Result (Unit {0}) E) (text : List ℕ) → PutAppends a b r text → AppendsSome a b
some_put a b (Ok u) text put = record { piece = text; appends = put }
some_put a b (Err e) text put = record { piece = take put.0 text; appends = put.1 }

-- ---- what comes first

-- the lines, and something after them
pub first_on : {E : Type 0} (a b c : Option (List ℕ)) (r : Result (Unit {0}) E) (lines : List ℕ) → Appends a b lines → AppendsSome b c → PutsFirst lines a c r
first_on a b c (Ok u) lines put more = record { rest = more.piece; puts = Appends-trans a b c lines more.piece put more.appends }
first_on a b c (Err e) lines put more = record { rest = more.piece; puts = whole_put a c (lines ++ more.piece) (Appends-trans a b c lines more.piece put more.appends) }

-- something more after them
pub first_rest : {E : Type 0} (a b c : Option (List ℕ)) (r : Result (Unit {0}) E) (lines rest : List ℕ) → Appends a b (lines ++ rest) → AppendsSome b c → PutsFirst lines a c r
first_rest a b c r lines rest put more =
    let all = first_on a b c r (lines ++ rest) put more in
    record { rest = rest ++ all.rest; puts = subst (λ (l : List ℕ). PutAppends a c r l) (append_assoc lines rest all.rest) all.puts }

-- a part of the lines
pub first_cut : {E : Type 0} (a b : Option (List ℕ)) (e : E) (lines : List ℕ) → AppendsPrefix a b lines → PutsFirst lines a b (Err e)
first_cut a b e lines part = record { rest = []; puts = prefix_first a b lines [] part }

-- ---- causes

pub names_on : {T U : Type 0} (fault : TextEnd) (x : T) (r : Result U TextEnd) (k m n : ℕ) → NamesFault fault k m (Ok x) → NamesFault fault m n r → NamesFault fault k n r
names_on fault x r k m n first second = subst (λ (i : ℕ). NamesFault fault i n r) first.else second

names_ok : {T U : Type 0} (fault : TextEnd) (x : T) (y : U) (m n : ℕ) → NamesFault fault m n (Ok x) → NamesFault fault m n (Ok y)
names_ok fault x y m n h = record { failed = λ is. absurd cc; else = h.else }

names_err : {T U : Type 0} (fault e : TextEnd) (m n : ℕ) → NamesFault {T = T} fault m n (Err e) → NamesFault {T = U} fault m n (Err e)
names_err fault e m n h = record { failed = λ is. h.failed (let same : e ≡ fault = cc in ap Err same); else = h.else }

-- no bench was asked
names_never : {T : Type 0} (fault : TextEnd) (r : Result T TextEnd) (m n : ℕ) → n ≡ m → IfErr r (λ e. e ≢ fault) → NamesFault fault m n r
names_never fault (Ok x) m n same never = record { failed = λ is. absurd cc; else = same }
names_never fault (Err e) m n same never = record { failed = λ is. absurd (never (let this : e ≡ fault = cc in this)); else = inr same }

-- ---- how calls end

module _ {K : Type 0} (written : K → Option (List ℕ)) (faults : K → ℕ) where
  -- no call
  pub puts_none : {T : Type 0} (x : T) (a : K) → EndsPutting written faults (Ok x) a a
  puts_none x a = record { some = some_same _; bench = tt; sink = record { failed = λ is. absurd cc; else = refl } }

  -- a call after one that answers
  pub puts_on : {T U : Type 0} (x : T) (r : Result U TextEnd) (a b c : K) → EndsPutting written faults (Ok x) a b → EndsPutting written faults r b c → EndsPutting written faults r a c
  puts_on x r a b c first second = record {
    some = some_on _ _ _ first.some second.some;
    bench = second.bench;
    sink = names_on ends.WriteFault x r _ _ _ first.sink second.sink;
  }

  -- another answer, and the same error of another call
  pub puts_ok : {T U : Type 0} (x : T) (y : U) (a b : K) → EndsPutting written faults (Ok x) a b → EndsPutting written faults (Ok y) a b
  puts_ok x y a b h = record { some = h.some; bench = tt; sink = names_ok ends.WriteFault x y _ _ h.sink }

  pub puts_err : {T U : Type 0} (e : TextEnd) (a b : K) → EndsPutting {T = T} written faults (Err e) a b → EndsPutting {T = U} written faults (Err e) a b
  puts_err e a b h = record { some = h.some; bench = h.bench; sink = names_err ends.WriteFault e _ _ h.sink }

  -- the first lines whole, and a put of the second
  pub lines_after : (a b c : K) (r : Result (Unit {0}) TextEnd) (xs ys : List ℕ) → PutsLines xs (Ok tt) written faults a b → PutsLines ys r written faults b c
      → PutsLines (xs ++ ys) r written faults a c
  lines_after a b c r xs ys first second = record {
    text = put_after (written a) (written b) (written c) r xs ys first.text second.text;
    ends = puts_on tt r a b c first.ends second.ends;
  }

  -- a prefix of the first lines is one of both
  pub lines_first : (a b : K) (e : TextEnd) (xs ys : List ℕ) → PutsLines xs (Err e) written faults a b → PutsLines (xs ++ ys) (Err e) written faults a b
  lines_first a b e xs ys first = record { text = prefix_first (written a) (written b) xs ys first.text; ends = first.ends }

  -- no call
  pub shows_none : {T : Type 0} (x : T) (m : Reported) (a : K) → EndsShowing written faults (Ok x) m m a a
  shows_none x m a = record { some = some_same _; bench = record { failed = λ is. absurd cc; else = refl }; sink = record { failed = λ is. absurd cc; else = refl } }

  -- the same of calls that ask a bench
  pub shows_on : {T U : Type 0} (x : T) (r : Result U TextEnd) (l m n : Reported) (a b c : K) → EndsShowing written faults (Ok x) l m a b → EndsShowing written faults r m n b c → EndsShowing written faults r l n a c
  shows_on x r l m n a b c first second = record {
    some = some_on _ _ _ first.some second.some;
    bench = names_on ends.BenchFault x r _ _ _ first.bench second.bench;
    sink = names_on ends.WriteFault x r _ _ _ first.sink second.sink;
  }

  pub shows_ok : {T U : Type 0} (x : T) (y : U) (m n : Reported) (a b : K) → EndsShowing written faults (Ok x) m n a b → EndsShowing written faults (Ok y) m n a b
  shows_ok x y m n a b h = record { some = h.some; bench = names_ok ends.BenchFault x y _ _ h.bench; sink = names_ok ends.WriteFault x y _ _ h.sink }

  pub shows_err : {T U : Type 0} (e : TextEnd) (m n : Reported) (a b : K) → EndsShowing {T = T} written faults (Err e) m n a b → EndsShowing {T = U} written faults (Err e) m n a b
  shows_err e m n a b h = record { some = h.some; bench = names_err ends.BenchFault e _ _ h.bench; sink = names_err ends.WriteFault e _ _ h.sink }

  -- a call that asks no bench, where the bench has as many faults as before
  pub shows_puts : {T : Type 0} (r : Result T TextEnd) (m n : Reported) (a b : K) → n.faults ≡ m.faults → EndsPutting written faults r a b → EndsShowing written faults r m n a b
  shows_puts r m n a b same h = record { some = h.some; bench = names_never ends.BenchFault r _ _ same h.bench; sink = h.sink }

-- ---- what calls keep

module _ {B : Type 0} (reported : B → Reported) (state : B → Option BenchState) (identity : B → ℕ) where
  pub bench_on : (a b c : B) → KeepsBench reported state identity a b → KeepsBench reported state identity b c → KeepsBench reported state identity a c
  bench_on a b c first second = record { same = before-trans _ _ _ first.same second.same; same_bench = second.same_bench ∙ first.same_bench }

  pub bench_none : (a : B) → KeepsBench reported state identity a a
  bench_none a = record { same = record { reported = refl; state = refl }; same_bench = refl }

  -- a bench as what shows its target
  pub bench_viewed : (a b : B) → IsViewedAsBefore (bench_view (seen_bench reported state a) (identity a)) (bench_view (seen_bench reported state b) (identity b)) → KeepsBench reported state identity a b
  bench_viewed a b h = record { same = h.bench; same_bench = h.identity }

pub viewed_none : (a : View) → IsViewedAsBefore a a
viewed_none a = record { target = refl; bench = record { reported = refl; state = refl }; identity = refl }

module _ {S K : Type 0} (known : S → View) (written : K → Option (List ℕ)) (faults : K → ℕ) where
  -- no call
  pub views_none : {T : Type 0} (x : T) (s : S) (a : K) → ShowsView known written faults (Ok x) s s a a
  views_none x s a = record { keeps = viewed_none _; ends = shows_none written faults x _ a }

  -- a call after one that answers
  pub views_on : {T U : Type 0} (x : T) (r : Result U TextEnd) (l m n : S) (a b c : K) → ShowsView known written faults (Ok x) l m a b → ShowsView known written faults r m n b c → ShowsView known written faults r l n a c
  views_on x r l m n a b c first second = record {
    keeps = viewed-trans _ _ _ first.keeps second.keeps;
    ends = shows_on written faults x r _ _ _ _ _ _ first.ends second.ends;
  }

pub ruleset frames = (
  some_same,
  some_put,
  puts_none,
  puts_on,
  shows_none,
  shows_on,
  shows_puts,
  viewed_none,
  viewed-trans,
  views_none,
  views_on,
  bench_none,
  bench_on,
  bench_viewed,
)
