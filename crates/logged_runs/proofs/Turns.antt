-- Turns of a loop: what is noted of them, where a turn that is not shown is taken back when another begins.
use Rattle.std.proofs.Common.{◌≡◌, ◌∙◌, ℕ, suc, ◌+◌, ◌-◌, ◌<◌, ◌≤◌, nat_le, nat_lt, nat_eq, Bool, true, false, cond, ◌||◌, List, [], ◌∷◌, ◌++◌, length, take, Result, Ok, Err, refl, sym, ap, subst, arith}
use Rattle.std.proofs.lemmas.Bool.{le-ltb, lt-ltb, leb-true, leb-false, ne_eqb}
use Rattle.std.proofs.lemmas.List.{append-nil}
use Rattle.sequence_trees.specs.declared.spot.Spot.{Spot}
use Rattle.sequence_rules.specs.Direct.{Now, direct}
use Rattle.sequence_rules.specs.Machine.{State, Out}
use Rattle.sequence_rules.specs.Steps.{turn}
use Rattle.run_events.specs.Events.{Event, Leaves, TimesOut, events_after}
use Rattle.run_events.specs.OfRuns.{each_turn}
use Rattle.run_events.specs.OfSteps.{is_last_turn, turn_events, turns_events}
use Rattle.log_lines.specs.LogLines.{LogLines, lines_after_events}
use Rattle.log_lines.specs.declared.log.LogMark.{LogMark}
use Rattle.log_lines.proofs.Cutting.{cuts_back}
use Rattle.logged_calls.specs.Held.{CodeEndsAs, Unless}
use Rattle.logged_calls.specs.declared.held.LoggedEnd.{LoggedEnd}
use Rattle.logged_calls.specs.declared.held.LoggedEnd.TheVariants as end
use Rattle.logged_calls.specs.declared.held.Stopped.{Stopped}
use Rattle.logged_calls.proofs.NotedLemmas.{all_on}
use Rattle.logged_runs.specs.Seen.{NotesByTurns, SeenSoFar, ShownEvents}
use Rattle.logged_runs.specs.Walk.{kept_log}
use Rattle.logged_runs.proofs.NoteLemmas.{all_then, notes_as, notes_then, unless_map}

abbrev S : Type 0
S = State ℕ Now

-- what was seen, with another log
abbrev pub with_log : SeenSoFar → LogLines → SeenSoFar
with_log a log = record { log = log; places = a.places; coverage = a.coverage; timed_out = a.timed_out; error_shown = a.error_shown }

-- from where a loop goes on, where so many turns are left and so many were made
abbrev pub going : ℕ → ℕ → ℕ → LogMark → SeenSoFar → SeenSoFar
going turns left made mark a = with_log a (cond (nat_eq left 0) a.log (kept_log turns made mark a.log))

cond_same : {A : Type 0} (b : Bool) (x : A) → cond b x x ≡ x
cond_same true x = refl
cond_same false x = refl

no_turns : (turns : ℕ) → nat_lt turns 0 ≡ false
no_turns turns = le-ltb turns 0 (omega arith)

pub going_first : (turns left : ℕ) (mark : LogMark) (a : SeenSoFar) → going turns left 0 mark a ≡ a
going_first turns left mark a = ap (with_log a) (ap (λ b. cond (nat_eq left 0) a.log (cond b (record { lines = take mark.len a.log.lines; depth = mark.depth }) a.log)) (no_turns turns) ∙ cond_same (nat_eq left 0) a.log)

some_left : (left : ℕ) → 0 < left → nat_eq left 0 ≡ false
some_left left h = ne_eqb left 0 (omega arith)

pub going_on : (turns left made : ℕ) (mark : LogMark) (a : SeenSoFar) → 0 < left → going turns left made mark a ≡ with_log a (kept_log turns made mark a.log)
going_on turns left made mark a h = ap (λ b. with_log a (cond b a.log (kept_log turns made mark a.log))) (some_left left h)

module _ (turns : ℕ) (spot : Spot) (test : S → Out ℕ Now ℕ) (test_seen : (ℕ → Bool) → S → List Event) (body : S → Out ℕ Now (Unit {0})) (body_seen : (ℕ → Bool) → S → List Event) where
  -- what is seen of the turn of a number, and of so many turns after so many
  abbrev pub one : ℕ → S → ShownEvents
  one number s = λ shows. turn_events shows spot test (test_seen shows) body (body_seen shows) number s

  abbrev pub rest : ℕ → ℕ → S → ShownEvents
  rest made left s = λ shows. turns_events shows spot test (test_seen shows) body (body_seen shows) made left s

  -- the turns from one on, by what it came to
  abbrev from : ℕ → ℕ → S → Out ℕ Now Bool → ShownEvents
  from made left s out = λ shows. cond (shows (suc made) || is_last_turn left out) (one (suc made) s shows) [] ++ events_after out (λ more r. cond more (rest (suc made) left r shows) (Leaves spot (suc made) ∷ []))

  rest_is : (made left : ℕ) (s : S) (out : Out ℕ Now Bool) → turn (direct false) test body s ≡ out → (shows : ℕ → Bool) → from made left s out shows ≡ rest made (suc left) s shows
  unfolding turns_events
  rest_is made left s out is shows = ap (λ o. from made left s o shows) (sym is)

  pub rest_none : (made : ℕ) (s : S) (shows : ℕ → Bool) → TimesOut spot made ∷ [] ≡ rest made 0 s shows
  unfolding turns_events
  rest_none made s shows = refl

  -- ---- a turn after which another may follow

  shown_log : (z y : Bool) (mark : LogMark) (old mid new : LogLines) (xs ys : List Event) → mark.len ≡ length old.lines → mark.depth ≡ old.depth → mid ≡ lines_after_events old xs
      → new ≡ lines_after_events (cond z mid (cond y mid (record { lines = take mark.len mid.lines; depth = mark.depth }))) ys → new ≡ lines_after_events old (cond (y || z) xs [] ++ ys)
  shown_log true true mark old mid new xs ys l d h k = k ∙ ap (λ m. lines_after_events m ys) h ∙ sym (all_on old xs ys)
  shown_log true false mark old mid new xs ys l d h k = k ∙ ap (λ m. lines_after_events m ys) h ∙ sym (all_on old xs ys)
  shown_log false true mark old mid new xs ys l d h k = k ∙ ap (λ m. lines_after_events m ys) h ∙ sym (all_on old xs ys)
  shown_log false false mark old mid new xs ys l d h k =
      let back : record { lines = take mark.len mid.lines; depth = mark.depth } ≡ old =
      ap (λ n. record { lines = take n mid.lines; depth = mark.depth }) l ∙ ap (λ n. record { lines = take (length old.lines) mid.lines; depth = n }) d
      ∙ ap (λ (m : LogLines). record { lines = take (length old.lines) m.lines; depth = old.depth }) h ∙ cuts_back old xs in
      k ∙ ap (λ m. lines_after_events m ys) back

  other_way : (made : ℕ) (x : LogLines) (y : LogLines) → cond (nat_lt turns (suc made)) x y ≡ cond (nat_le (suc made) turns) y x
  other_way made x y = by (nat_le (suc made) turns) refl
    where
      by : (b : Bool) → nat_le (suc made) turns ≡ b → cond (nat_lt turns (suc made)) x y ≡ cond (nat_le (suc made) turns) y x
      by true e = (let k : nat_lt turns (suc made) ≡ false = le-ltb turns (suc made) (leb-true (suc made) turns e) in rw (e, k) refl)
      by false e = (let k : nat_lt turns (suc made) ≡ true = lt-ltb turns (suc made) (leb-false (suc made) turns e) in rw (e, k) refl)

  pub turn_more : (made left : ℕ) (mark : LogMark) (a b : SeenSoFar) (s r : S) → turn (direct false) test body s ≡ Ok (true, r) → NotesByTurns turns a b (one (suc made) s) → mark.len ≡ length a.log.lines → mark.depth ≡ a.log.depth
      → (c : SeenSoFar) → NotesByTurns turns (going turns left (suc made) mark b) c (rest (suc made) left r) → NotesByTurns turns a c (rest made (suc left) s)
  turn_more made left mark a b s r is h len depth c k =
      notes_as turns a c (from made left s (Ok (true, r))) (rest made (suc left) s) (λ shows. rest_is made left s (Ok (true, r)) is shows) (record {
        log = shown_log (nat_eq left 0) (nat_le (suc made) turns) mark a.log b.log c.log (one (suc made) s (λ number. nat_le number turns)) (rest (suc made) left r (λ number. nat_le number turns)) len depth h.log
            (k.log ∙ ap (λ l. lines_after_events (cond (nat_eq left 0) b.log l) (rest (suc made) left r (λ number. nat_le number turns))) (other_way made (record { lines = take mark.len b.log.lines; depth = mark.depth }) b.log));
        all = all_then a b c (one (suc made) s each_turn) (rest (suc made) left r each_turn) h.all (record { places = k.all.places; covered = k.all.covered; timed_out = k.all.timed_out; error_shown = k.all.error_shown });
      })

  -- ---- the last turn

  or_true : (b : Bool) (xs : List Event) → xs ≡ cond (b || true) xs []
  or_true true xs = refl
  or_true false xs = refl

  pub turn_last : {B : Type 0} (made left : ℕ) (a b c : SeenSoFar) (e : LoggedEnd) (result : Result B Stopped) (s r : S) → turn (direct false) test body s ≡ Ok (false, r) → NotesByTurns turns a b (one (suc made) s)
      → Unless e result (NotesByTurns turns b c (λ shows. Leaves spot (suc made) ∷ [])) → Unless e result (NotesByTurns turns a c (rest made (suc left) s))
  turn_last made left a b c e result s r is h k =
      unless_map (NotesByTurns turns b c (λ shows. Leaves spot (suc made) ∷ [])) (NotesByTurns turns a c (rest made (suc left) s)) e result
      (λ n. notes_as turns a c (λ shows. one (suc made) s shows ++ Leaves spot (suc made) ∷ []) (rest made (suc left) s)
      (λ shows. ap (λ xs. xs ++ Leaves spot (suc made) ∷ []) (or_true (shows (suc made)) (one (suc made) s shows)) ∙ rest_is made left s (Ok (false, r)) is shows) (notes_then turns a b c (one (suc made) s) (λ shows. Leaves spot (suc made) ∷ []) h n)) k

  over : (made left : ℕ) (a b : SeenSoFar) (s : S) (x : Out ℕ Now Bool) → turn (direct false) test body s ≡ x → is_last_turn left x ≡ true → ((shows : ℕ → Bool) → events_after x (λ more r. cond more (rest (suc made) left r shows) (Leaves spot (suc made) ∷ [])) ≡ [])
      → NotesByTurns turns a b (one (suc made) s) → NotesByTurns turns a b (rest made (suc left) s)
  over made left a b s x is last none h = notes_as turns a b (one (suc made) s) (rest made (suc left) s)
      (λ shows. or_true (shows (suc made)) (one (suc made) s shows) ∙ ap (λ l. cond (shows (suc made) || l) (one (suc made) s shows) []) (sym last)
      ∙ sym (append-nil (cond (shows (suc made) || is_last_turn left x) (one (suc made) s shows) [])) ∙ ap (λ xs. cond (shows (suc made) || is_last_turn left x) (one (suc made) s shows) [] ++ xs) (sym (none shows)) ∙ rest_is made left s x is shows) h

  pub turn_stops : (B : Type 0) (made left : ℕ) (a b : SeenSoFar) (e : LoggedEnd) (stopped other : Stopped) (s r : S) → CodeEndsAs e r (turn (direct false) test body s) → Unless {A = Bool} e (Err stopped) (NotesByTurns turns a b (one (suc made) s))
      → Unless {A = B} e (Err other) (NotesByTurns turns a b (rest made (suc left) s))
  turn_stops B made left a b (end.Halted cause) stopped other s r is h = over made left a b s _ is refl (λ shows. refl) h
  turn_stops B made left a b (end.Faulted u) stopped other s r is h = over made left a b s _ is refl (λ shows. refl) h
  turn_stops B made left a b end.OutOfMemory stopped other s r is h = tt

  -- ---- the loop: at most so many turns in all, of which so many were made

  pub loop_first : (count : ℕ) (mark : LogMark) (a : SeenSoFar) (s : S) (c : SeenSoFar) → NotesByTurns turns (going turns (count - 0) 0 mark a) c (rest 0 (count - 0) s) → NotesByTurns turns a c (rest 0 count s)
  loop_first count mark a s c h =
      let same : count - 0 ≡ count = omega arith in
      notes_as turns a c (rest 0 (count - 0) s) (rest 0 count s) (λ shows. ap (λ n. rest 0 n s shows) same) (subst (λ (x : SeenSoFar). NotesByTurns turns x c (rest 0 (count - 0) s)) (going_first turns (count - 0) mark a) h)

  module _ (count made : ℕ) (mark : LogMark) (f l : SeenSoFar) (log : LogLines) (s : S) (all : ShownEvents) (kept_is : log ≡ kept_log turns made mark l.log)
      (so : (c : SeenSoFar) → NotesByTurns turns (going turns (count - made) made mark l) c (rest made (count - made) s) → NotesByTurns turns f c all) where
    -- from where the turn begins
    begun : made < count → with_log l log ≡ going turns (count - made) made mark l
    begun less = ap (with_log l) kept_is ∙ sym (going_on turns (count - made) made mark l (omega (arith, less)))

    left_is : made < count → suc (count - (made + 1)) ≡ count - made
    left_is less = omega (arith, less)

    onwards : made < count → (c : SeenSoFar) → NotesByTurns turns (with_log l log) c (rest made (suc (count - (made + 1))) s) → NotesByTurns turns f c all
    onwards less c h =
        so c (subst (λ (x : SeenSoFar). NotesByTurns turns x c (rest made (count - made) s)) (begun less)
        (notes_as turns (with_log l log) c (rest made (suc (count - (made + 1))) s) (rest made (count - made) s) (λ shows. ap (λ n. rest made n s shows) (left_is less)) h))

    number_is : made + 1 ≡ suc made
    number_is = omega arith

    pub loop_more : (mark2 : LogMark) (b : SeenSoFar) (r : S) → made < count → mark2.len ≡ length log.lines → mark2.depth ≡ log.depth → turn (direct false) test body s ≡ Ok (true, r) → NotesByTurns turns (with_log l log) b (one (made + 1) s)
        → (c : SeenSoFar) → NotesByTurns turns (going turns (count - (made + 1)) (made + 1) mark2 b) c (rest (made + 1) (count - (made + 1)) r) → NotesByTurns turns f c all
    loop_more mark2 b r less len depth is h c k =
        onwards less c (turn_more made (count - (made + 1)) mark2 (with_log l log) b s r is (notes_as turns (with_log l log) b (one (made + 1) s) (one (suc made) s) (λ shows. ap (λ n. one n s shows) number_is) h) len depth c
        (subst (λ n. NotesByTurns turns (going turns (count - (made + 1)) n mark2 b) c (rest n (count - (made + 1)) r)) number_is k))

    pub loop_last : {B : Type 0} (b c : SeenSoFar) (e : LoggedEnd) (result : Result B Stopped) (r : S) → made < count → turn (direct false) test body s ≡ Ok (false, r) → NotesByTurns turns (with_log l log) b (one (made + 1) s)
        → Unless e result (NotesByTurns turns b c (λ shows. Leaves spot (made + 1) ∷ [])) → Unless e result (NotesByTurns turns f c all)
    loop_last b c e result r less is h k =
        unless_map (NotesByTurns turns (with_log l log) c (rest made (suc (count - (made + 1))) s)) (NotesByTurns turns f c all) e result (λ n. onwards less c n)
        (turn_last made (count - (made + 1)) (with_log l log) b c e result s r is (notes_as turns (with_log l log) b (one (made + 1) s) (one (suc made) s) (λ shows. ap (λ n. one n s shows) number_is) h)
        (subst (λ n. Unless e result (NotesByTurns turns b c (λ shows. Leaves spot n ∷ []))) number_is k))

    pub loop_stops : (B : Type 0) (b : SeenSoFar) (e : LoggedEnd) (stopped : Stopped) (r : S) → made < count → CodeEndsAs e r (turn (direct false) test body s) → Unless {A = Bool} e (Err stopped) (NotesByTurns turns (with_log l log) b (one (made + 1) s))
        → Unless {A = B} e (Err stopped) (NotesByTurns turns f b all)
    loop_stops B b e stopped r less is h =
        unless_map {A = B} (NotesByTurns turns (with_log l log) b (rest made (suc (count - (made + 1))) s)) (NotesByTurns turns f b all) e (Err stopped) (λ n. onwards less b n)
        (turn_stops B made (count - (made + 1)) (with_log l log) b e stopped stopped s r is
        (unless_map {A = Bool} (NotesByTurns turns (with_log l log) b (one (made + 1) s)) (NotesByTurns turns (with_log l log) b (one (suc made) s)) e (Err stopped) (λ n. notes_as turns (with_log l log) b (one (made + 1) s) (one (suc made) s) (λ shows. ap (λ n. one n s shows) number_is) n) h))

  pub loop_over : {B : Type 0} (count made : ℕ) (mark : LogMark) (f l c : SeenSoFar) (s : S) (all : ShownEvents) (e : LoggedEnd) (result : Result B Stopped) → count ≤ made
      → ((x : SeenSoFar) → NotesByTurns turns (going turns (count - made) made mark l) x (rest made (count - made) s) → NotesByTurns turns f x all)
      → Unless e result (NotesByTurns turns l c (λ shows. TimesOut spot made ∷ [])) → Unless e result (NotesByTurns turns f c all)
  loop_over count made mark f l c s all e result done so h =
      let none : 0 ≡ count - made = omega (arith, done) in
      unless_map (NotesByTurns turns l c (λ shows. TimesOut spot made ∷ [])) (NotesByTurns turns f c all) e result
      (λ n. so c (subst (λ k. NotesByTurns turns (going turns k made mark l) c (rest made k s)) none (notes_as turns l c (λ shows. TimesOut spot made ∷ []) (rest made 0 s) (λ shows. rest_none made s shows) n))) h
