-- Sequels in a row, and what they come to.
use Rattle.std.proofs.Common.{◌≡◌, ◌∙◌, ℕ, suc, Bool, true, false, List, [], ◌∷◌, ◌++◌, append_assoc, append-nil, length, Option, None, Some, refl, sym, ap, arith}
use Rattle.std.specs.Prelude.{MatchOption}
use Rattle.target_calls.specs.World.{World, done_now, end_result, later_by, next_world, stops_here, stop, world_after}
use Rattle.target_calls.specs.declared.calls.Ask.{Ask}
use Rattle.target_calls.proofs.CallLists.{append_after, append_stop}
use Rattle.sequels.specs.Sequel.{Sequel, Ends, Asks, Writes, Comes, followed_by, written_and_end, comes, call_first, line_first}
use Rattle.sequels.specs.Going.{GoesOn, EndsWith, joined_sequel}
use Rattle.sequels.specs.Laws.{AsAnswered, StopsByEnd, rest_by}
use Rattle.sequels.specs.Steady.{OnlyAsks, Steady}

pub stops_by_end : {X : Type 0} (w : World) (s : Sequel X) → StopsByEnd w s
stops_by_end w (Ends x) = record { so = refl }
stops_by_end {X = X} w (Asks ask on) = one (stops_here w ask) refl (stops_by_end u (on n))
  where
    u : World
    u = next_world w ask

    n : ℕ
    n = end_result (done_now w ask).end

    more : (end : Option X) → MatchOption end (stop u (comes u (on n)).calls ≡ Some (length (comes u (on n)).calls)) (λ x. stop u (comes u (on n)).calls ≡ None)
        → MatchOption end (later_by 1 (stop u (comes u (on n)).calls) ≡ Some (suc (length (comes u (on n)).calls))) (λ x. later_by 1 (stop u (comes u (on n)).calls) ≡ None)
    more None h = ap (later_by 1) h ∙ ap Some (omega arith)
    more (Some x) h = ap (later_by 1) h

    one : (b : Bool) → stops_here w ask ≡ b → StopsByEnd u (on n) → StopsByEnd w (Asks ask on)
    one true e h = record { so = rw e (rw e refl) }
    one false e h = record { so = rw e (rw e (more (comes u (on n)).end h.so)) }
stops_by_end w (Writes line on) = record { so = (stops_by_end w on).so }

-- ---- sequels as such

-- the same after each end
pub after_same : {X Y : Type 0} (s : Sequel X) (f g : X → Sequel Y) → ((x : X) → f x ≡ g x) → followed_by s f ≡ followed_by s g
after_same (Ends x) f g same = same x
after_same (Asks ask on) f g same = λ i. Asks ask (λ n. after_same (on n) f g same i)
after_same (Writes line on) f g same = ap (Writes line) (after_same on f g same)

pub after_after : {X Y Z : Type 0} (s : Sequel X) (f : X → Sequel Y) (g : Y → Sequel Z) → followed_by (followed_by s f) g ≡ followed_by s (λ x. followed_by (f x) g)
after_after (Ends x) f g = refl
after_after (Asks ask on) f g = λ i. Asks ask (λ n. after_after (on n) f g i)
after_after (Writes line on) f g = ap (Writes line) (after_after on f g)

pub after_ends : {X : Type 0} (s : Sequel X) → followed_by s (λ x. Ends x) ≡ s
after_ends (Ends x) = refl
after_ends (Asks ask on) = λ i. Asks ask (λ n. after_ends (on n) i)
after_ends (Writes line on) = ap (Writes line) (after_ends on)

-- ---- going on

pub joined_nothing : {X : Type 0} (c : Comes X) → joined_sequel [] [] c ≡ c
joined_nothing c = refl

pub joined_twice : {X : Type 0} (calls more : List Ask) (lines further : List ℕ) (c : Comes X) → joined_sequel calls lines (joined_sequel more further c) ≡ joined_sequel (calls ++ more) (lines ++ further) c
joined_twice calls more lines further c = rw (append_assoc calls more c.calls, append_assoc lines further c.written) refl

pub after_comes : {X Y : Type 0} (w : World) (s : Sequel X) (next : X → Sequel Y) → comes w (followed_by s next) ≡ rest_by w (comes w s).calls (comes w s).written (comes w s).end next
after_comes w (Ends x) next = refl
after_comes {X = X} {Y = Y} w (Asks ask on) next = one (stops_here w ask) refl (after_comes u (on n) next)
  where
    u : World
    u = next_world w ask

    n : ℕ
    n = end_result (done_now w ask).end

    more : (c : Comes X) → stops_here w ask ≡ false → call_first ask (rest_by u c.calls c.written c.end next) ≡ rest_by w (ask ∷ c.calls) c.written c.end next
    more c e = by_end c.end
      where
        by_end : (end : Option X) → call_first ask (rest_by u c.calls c.written end next) ≡ rest_by w (ask ∷ c.calls) c.written end next
        by_end None = refl
        by_end (Some x) = rw e refl

    one : (b : Bool) → stops_here w ask ≡ b → comes u (followed_by (on n) next) ≡ rest_by u (comes u (on n)).calls (comes u (on n)).written (comes u (on n)).end next
        → comes w (followed_by (Asks ask on) next) ≡ rest_by w (comes w (Asks ask on)).calls (comes w (Asks ask on)).written (comes w (Asks ask on)).end next
    one true e h = rw e refl
    one false e h = rw e (ap (call_first ask) h ∙ more (comes u (on n)) e)
after_comes {X = X} {Y = Y} w (Writes line on) next = ap (line_first line) (after_comes w on next) ∙ more (comes w on)
  where
    more : (c : Comes X) → line_first line (rest_by w c.calls c.written c.end next) ≡ rest_by w c.calls (line ++ c.written) c.end next
    more c = by_end c.end
      where
        by_end : (end : Option X) → line_first line (rest_by w c.calls c.written end next) ≡ rest_by w c.calls (line ++ c.written) end next
        by_end None = refl
        by_end (Some x) = rw (append_assoc line c.written (comes (world_after w c.calls) (next x)).written) refl

pub goes_nowhere : {X : Type 0} (w : World) (s : Sequel X) → GoesOn w s [] [] s
goes_nowhere w s = record { whole_is = refl; goes = refl }

pub goes_on : {X : Type 0} (w : World) (s : Sequel X) (calls : List Ask) (lines : List ℕ) (rest : Sequel X) (more : List Ask) (further : List ℕ) (last : Sequel X)
    → GoesOn w s calls lines rest → GoesOn (world_after w calls) rest more further last → GoesOn w s (calls ++ more) (lines ++ further) last
goes_on w s calls lines rest more further last g h = record {
  whole_is =
      let at = append_after w calls more g.goes in
      g.whole_is ∙ ap (joined_sequel calls lines) h.whole_is
      ∙ joined_twice calls more lines further (comes (world_after (world_after w calls) more) last)
      ∙ ap (λ (u : World). joined_sequel (calls ++ more) (lines ++ further) (comes u last)) (sym at);
  goes = append_stop w calls more g.goes ∙ ap (later_by (length calls)) h.goes;
}

-- a sequel that came to its end goes on with the next
pub goes_after : {X Y : Type 0} (w : World) (s : Sequel X) (next : X → Sequel Y) (calls : List Ask) (lines : List ℕ) (x : X) → EndsWith w s calls lines x → GoesOn w (followed_by s next) calls lines (next x)
goes_after w s next calls lines x h = record {
  whole_is = after_comes w s next ∙ ap (λ (c : Comes _). rest_by w c.calls c.written c.end next) h.is;
  goes = h.goes;
}

-- and where nothing is left it came to its end
pub goes_to_end : {X : Type 0} (w : World) (s : Sequel X) (calls : List Ask) (lines : List ℕ) (x : X) → GoesOn w s calls lines (Ends x) → EndsWith w s calls lines x
goes_to_end w s calls lines x h = record {
  is = h.whole_is ∙ rw (append-nil calls, append-nil lines) refl;
  goes = h.goes;
}

-- a line is written
pub goes_line : {X : Type 0} (w : World) (line : List ℕ) (on : Sequel X) → GoesOn w (Writes line on) [] line on
goes_line w line on = record { whole_is = refl; goes = refl }

-- a call that does not stop
pub goes_call : {X : Type 0} (w : World) (ask : Ask) (on : ℕ → Sequel X) → stops_here w ask ≡ false → GoesOn w (Asks ask on) (ask ∷ []) [] (on (end_result (done_now w ask).end))
goes_call w ask on e = record { whole_is = rw e refl; goes = rw e refl }

-- ---- where each call has the result that a function gives of it

pub answered_after : {X Y : Type 0} (f : Ask → ℕ) (s : Sequel X) (next : X → Sequel Y)
    → written_and_end f (followed_by s next) ≡ ((written_and_end f s).0 ++ (written_and_end f (next (written_and_end f s).1)).0, (written_and_end f (next (written_and_end f s).1)).1)
answered_after f (Ends x) next = refl
answered_after f (Asks ask on) next = answered_after f (on (f ask)) next
answered_after f (Writes line on) next =
    let h = answered_after f on next in
    rw h (rw (append_assoc line (written_and_end f on).0 (written_and_end f (next (written_and_end f on).1)).0) refl)

-- such a sequel comes to what these answers make of it
pub steady_comes : {X : Type 0} (P : World → Type 0) (Q : Ask → Type 0) (f : Ask → ℕ) (w : World) (s : Sequel X) → Steady P Q f → P w → OnlyAsks Q s → AsAnswered f w s
steady_comes P Q f w (Ends x) h p q = record { written = refl; end = refl }
steady_comes P Q f w (Asks ask on) h p q =
    let goes = h.goes w ask p q.0 in
    let result = h.result w ask p q.0 in
    let rest = steady_comes P Q f (next_world w ask) (on (f ask)) h (h.next w ask p q.0) (q.1 (f ask)) in
    record { written = rw goes (rw result rest.written); end = rw goes (rw result rest.end) }
steady_comes P Q f w (Writes line on) h p q =
    let rest = steady_comes P Q f w on h p q in
    record { written = ap (λ (l : List ℕ). line ++ l) rest.written; end = rest.end }
