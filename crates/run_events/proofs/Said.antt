-- Events say what a run adds, and so do events in a row.
use Rattle.std.proofs.Common.{◌≡◌, ℕ, suc, ◌+◌, Bool, true, false, cond, List, [], ◌∷◌, ◌++◌, length, option_map, Ok, Err, refl, sym, ap, ◌∙◌, arith}
use Rattle.std.proofs.lemmas.List.{append_assoc, append-nil}
use Rattle.dap_base.specs.Outcome.{◌>>=◌}
use Rattle.target_calls.specs.declared.calls.Ask.{Ask}
use Rattle.target_calls.specs.World.{World, left_at}
use Rattle.sequence_rules.specs.Direct.{Now, line_after}
use Rattle.sequence_rules.specs.Machine.{State, Out, end_state}
use Rattle.sequence_rules.proofs.LateLemmas.{append_twice, append_none}
use Rattle.run_events.specs.Events.{Event, Begins, Tests, Chooses, Loops, Turns, Finds, Leaves, TimesOut, Matches, Assigns, Makes, Writes, Calls, Returns, events_after, call_end_in, units_from, units_in, left_by, lines_in}

-- from t to u these events were seen
pub record Said (t u : Now) (events : List Event) : Type 0 where
  pub more : List Ask
  pub calls : u.calls ≡ t.calls ++ more
  pub world : u.world ≡ left_by t.world more
  pub units : units_in events ≡ units_from t.world (suc (length t.calls)) more
  pub lines : u.written ≡ option_map (line_after (lines_in events)) t.written

-- ---- lists

pub left_on : (w : World) (xs ys : List Ask) → left_by w (xs ++ ys) ≡ left_by (left_by w xs) ys
left_on w [] ys = refl
left_on w (x ∷ xs) ys = left_on (left_at w x) xs ys

count_on : (n k : ℕ) → suc n + k ≡ n + suc k
count_on n k = omega arith

pub units_on : (w : World) (n : ℕ) (xs ys : List Ask) → units_from w n (xs ++ ys) ≡ units_from w n xs ++ units_from (left_by w xs) (n + length xs) ys
units_on w n [] ys = ap (λ k. units_from w k ys) (omega arith)
units_on w n (x ∷ xs) ys = ap (λ more. record { number = n; ask = x; end = call_end_in w x } ∷ more)
    (units_on (left_at w x) (suc n) xs ys ∙ ap (λ k. units_from (left_at w x) (suc n) xs ++ units_from (left_by (left_at w x) xs) k ys) (count_on n (length xs)))

pub length_on : (xs ys : List Ask) → suc (length (xs ++ ys)) ≡ suc (length xs) + length ys
length_on [] ys = omega arith
length_on (x ∷ xs) ys = (let rest = length_on xs ys in omega (arith, rest))

pub units_append : (xs ys : List Event) → units_in (xs ++ ys) ≡ units_in xs ++ units_in ys
units_append [] ys = refl
units_append (Makes u ∷ xs) ys = ap (λ more. u ∷ more) (units_append xs ys)
units_append (Begins spot st ∷ xs) ys = units_append xs ys
units_append (Tests spot e ∷ xs) ys = units_append xs ys
units_append (Chooses spot n ∷ xs) ys = units_append xs ys
units_append (Loops spot e n ∷ xs) ys = units_append xs ys
units_append (Turns spot n ∷ xs) ys = units_append xs ys
units_append (Finds spot n ∷ xs) ys = units_append xs ys
units_append (Leaves spot n ∷ xs) ys = units_append xs ys
units_append (TimesOut spot n ∷ xs) ys = units_append xs ys
units_append (Matches spot ∷ xs) ys = units_append xs ys
units_append (Assigns name n ∷ xs) ys = units_append xs ys
units_append (Writes line ∷ xs) ys = units_append xs ys
units_append (Calls name ∷ xs) ys = units_append xs ys
units_append (Returns ∷ xs) ys = units_append xs ys

pub lines_append : (xs ys : List Event) → lines_in (xs ++ ys) ≡ lines_in xs ++ lines_in ys
lines_append [] ys = refl
lines_append (Writes line ∷ xs) ys = ap (λ more. line ++ more) (lines_append xs ys) ∙ sym (append_assoc line (lines_in xs) (lines_in ys))
lines_append (Makes u ∷ xs) ys = lines_append xs ys
lines_append (Begins spot st ∷ xs) ys = lines_append xs ys
lines_append (Tests spot e ∷ xs) ys = lines_append xs ys
lines_append (Chooses spot n ∷ xs) ys = lines_append xs ys
lines_append (Loops spot e n ∷ xs) ys = lines_append xs ys
lines_append (Turns spot n ∷ xs) ys = lines_append xs ys
lines_append (Finds spot n ∷ xs) ys = lines_append xs ys
lines_append (Leaves spot n ∷ xs) ys = lines_append xs ys
lines_append (TimesOut spot n ∷ xs) ys = lines_append xs ys
lines_append (Matches spot ∷ xs) ys = lines_append xs ys
lines_append (Assigns name n ∷ xs) ys = lines_append xs ys
lines_append (Calls name ∷ xs) ys = lines_append xs ys
lines_append (Returns ∷ xs) ys = lines_append xs ys

-- ---- events in a row

pub said_none : (t : Now) → Said t t []
said_none t = record { more = []; calls = sym (append-nil t.calls); world = refl; units = refl; lines = append_none t.written }

said_on : (t u v : Now) (xs ys : List Event) → Said t u xs → Said u v ys → Said t v (xs ++ ys)
said_on t u v xs ys h k = record {
  more = h.more ++ k.more;
  calls = k.calls ∙ ap (λ c. c ++ k.more) h.calls ∙ append_assoc t.calls h.more k.more;
  world = k.world ∙ ap (λ w. left_by w k.more) h.world ∙ sym (left_on t.world h.more k.more);
  units = units_append xs ys ∙ ap (λ a. a ++ units_in ys) h.units
      ∙ ap (λ b. units_from t.world (suc (length t.calls)) h.more ++ b) (k.units ∙ ap (λ w. units_from w (suc (length u.calls)) k.more) h.world ∙ ap (λ c. units_from (left_by t.world h.more) (suc (length c)) k.more) h.calls ∙ ap (λ n. units_from (left_by t.world h.more) n k.more) (length_on t.calls h.more))
      ∙ sym (units_on t.world (suc (length t.calls)) h.more k.more);
  lines = k.lines ∙ ap (option_map (line_after (lines_in ys))) h.lines ∙ append_twice t.written (lines_in xs) (lines_in ys) ∙ ap (λ l. option_map (line_after l) t.written) (sym (lines_append xs ys));
}

-- what comes of something, from a state
abbrev pub Tells : {A : Type 0} → State ℕ Now → Out ℕ Now A → List Event → Type 0
Tells s out events = Said s.rest (end_state out).rest events

-- nothing is added to events that are all
said_all : (t u : Now) (events : List Event) → Said t u events → Said t u (events ++ [])
said_all t u events h = rw (append-nil events) h

pub tells_bind : {A B : Type 0} (s : State ℕ Now) (out : Out ℕ Now A) (f : A × State ℕ Now → Out ℕ Now B) (xs : List Event) (g : A → State ℕ Now → List Event)
    → Tells s out xs → ((x : A × State ℕ Now) → Tells x.1 (f x) (g x.0 x.1)) → Tells s (out >>= f) (xs ++ events_after out g)
tells_bind s (Ok x) f xs g h k = said_on s.rest x.1.rest (end_state (f x)).rest xs (g x.0 x.1) h (k x)
tells_bind s (Err e) f xs g h k = said_all s.rest e.1.rest xs h

-- the next thing is not seen
pub tells_map : {A B : Type 0} (s : State ℕ Now) (out : Out ℕ Now A) (f : A × State ℕ Now → Out ℕ Now B) (xs : List Event)
    → Tells s out xs → ((x : A × State ℕ Now) → (end_state (f x)).rest ≡ x.1.rest) → Tells s (out >>= f) xs
tells_map s (Ok x) f xs h k = rw (k x) h
tells_map s (Err e) f xs h k = h

-- the first thing is not seen
pub tells_next : {A B : Type 0} (s : State ℕ Now) (out : Out ℕ Now A) (f : A × State ℕ Now → Out ℕ Now B) (g : A → State ℕ Now → List Event)
    → Tells s out [] → ((x : A × State ℕ Now) → Tells x.1 (f x) (g x.0 x.1)) → Tells s (out >>= f) (events_after out g)
tells_next s out f g h k = tells_bind s out f [] g h k

-- what is done is not seen
pub tells_end : {A : Type 0} (s : State ℕ Now) (out : Out ℕ Now A) (xs : List Event) (g : A → State ℕ Now → List Event)
    → Tells s out xs → ((x : A × State ℕ Now) → Said x.1.rest x.1.rest (g x.0 x.1)) → Tells s out (xs ++ events_after out g)
tells_end s (Ok x) xs g h k = said_on s.rest x.1.rest x.1.rest xs (g x.0 x.1) h (k x)
tells_end s (Err e) xs g h k = said_all s.rest e.1.rest xs h

pub tells_if : {A : Type 0} (s : State ℕ Now) (b : Bool) (x y : Out ℕ Now A) (xs ys : List Event) → Tells s x xs → Tells s y ys → Tells s (cond b x y) (cond b xs ys)
tells_if s true x y xs ys h k = h
tells_if s false x y xs ys h k = k

-- ---- events that are neither a unit nor a line

pub also : (t u : Now) (e : Event) (xs : List Event) → units_in (e ∷ xs) ≡ units_in xs → lines_in (e ∷ xs) ≡ lines_in xs → Said t u xs → Said t u (e ∷ xs)
also t u e xs a b h = record { more = h.more; calls = h.calls; world = h.world; units = a ∙ h.units; lines = h.lines ∙ ap (λ l. option_map (line_after l) t.written) (sym b) }

pub said_one : (t : Now) (e : Event) → units_in (e ∷ []) ≡ [] → lines_in (e ∷ []) ≡ [] → Said t t (e ∷ [])
said_one t e a b = also t t e [] a b (said_none t)
