-- What is noted, one thing after the other.
use Rattle.std.proofs.Common.{◌≡◌, ◌∙◌, ℕ, nat_le, Bool, true, false, ◌||◌, List, [], ◌∷◌, ◌++◌, cond, nat_eq, fold, OnOk, OnErr, Result, Ok, Err, IsErr, refl, sym, ap, subst}
use Rattle.std.proofs.lemmas.Bool.{eq-eqb}
use Rattle.std.proofs.lemmas.List.{append_assoc, append-nil}
use Rattle.std.proofs.lemmas.List.Folds.{list_any-append}
use Rattle.sequence_trees.specs.declared.spot.Spot.{Spot}
use Rattle.sequence_rules.specs.Direct.{Now}
use Rattle.sequence_rules.specs.Machine.{State, Out}
use Rattle.run_events.specs.Events.{Event, events_after, places_after}
use Rattle.run_events.specs.OfRuns.{each_turn}
use Rattle.log_lines.specs.LogLines.{lines_after_events}
use Rattle.logged_calls.specs.Held.{CodeEndsAs, Means, Unless}
use Rattle.logged_calls.specs.declared.held.LoggedEnd.{LoggedEnd}
use Rattle.logged_calls.specs.declared.held.LoggedEnd.TheVariants as end
use Rattle.logged_calls.specs.declared.held.Stopped.{Stopped}
use Rattle.logged_calls.proofs.NotedLemmas.{all_on}
use Rattle.run_coverage.specs.Covered.{IsOf}
use Rattle.logged_runs.specs.Seen.{NotesAll, NotesByTurns, SeenSoFar, ShownEvents, has_error, has_timeout, is_error, is_timeout_event}
use Rattle.dap_base.proofs.Basics.{or_none}
use Rattle.code_check.proofs.Visible.{or_assoc}

abbrev S : Type 0
S = State ℕ Now

places_on : (places : List Spot) (xs ys : List Event) → fold places_after places (xs ++ ys) ≡ fold places_after (fold places_after places xs) ys
places_on places [] ys = refl
places_on places (x ∷ xs) ys = places_on (places_after places x) xs ys

-- ---- all events

all_none : (a : SeenSoFar) → NotesAll a a []
all_none a = record {
  places = refl;
  covered = λ earlier of. subst (IsOf a.coverage) (sym (append-nil earlier)) of;
  timed_out = or_none a.timed_out;
  error_shown = or_none a.error_shown;
}

pub all_then : (a b c : SeenSoFar) (xs ys : List Event) → NotesAll a b xs → NotesAll b c ys → NotesAll a c (xs ++ ys)
all_then a b c xs ys h k = record {
  places = k.places ∙ ap (λ p. fold places_after p ys) h.places ∙ sym (places_on a.places xs ys);
  covered = λ earlier of. subst (IsOf c.coverage) (append_assoc earlier xs ys) (k.covered (earlier ++ xs) (h.covered earlier of));
  timed_out = k.timed_out ∙ ap (λ b. b || has_timeout ys) h.timed_out ∙ or_assoc a.timed_out (has_timeout xs) (has_timeout ys) ∙ ap (λ b. a.timed_out || b) (sym (list_any-append is_timeout_event xs ys));
  error_shown = k.error_shown ∙ ap (λ b. b || has_error ys) h.error_shown ∙ or_assoc a.error_shown (has_error xs) (has_error ys) ∙ ap (λ b. a.error_shown || b) (sym (list_any-append is_error xs ys));
}

-- ---- events that are shown, and all

pub notes_none : (turns : ℕ) (a : SeenSoFar) → NotesByTurns turns a a (λ shows. [])
notes_none turns a = record { log = refl; all = all_none a }

pub notes_then : (turns : ℕ) (a b c : SeenSoFar) (F G : ShownEvents) → NotesByTurns turns a b F → NotesByTurns turns b c G → NotesByTurns turns a c (λ shows. F shows ++ G shows)
notes_then turns a b c F G h k = record {
  log = k.log ∙ ap (λ l. lines_after_events l (G (λ number. nat_le number turns))) h.log ∙ sym (all_on a.log (F (λ number. nat_le number turns)) (G (λ number. nat_le number turns)));
  all = all_then a b c (F each_turn) (G each_turn) h.all k.all;
}

pub notes_as : (turns : ℕ) (a b : SeenSoFar) (F G : ShownEvents) → ((shows : ℕ → Bool) → F shows ≡ G shows) → NotesByTurns turns a b F → NotesByTurns turns a b G
notes_as turns a b F G same h = record {
  log = h.log ∙ ap (lines_after_events a.log) (same (λ number. nat_le number turns));
  all = subst (NotesAll a b) (same each_turn) h.all;
}

-- ---- where memory may have been refused

pub unless_map : {A : Type 0} (P Q : Type 0) (e : LoggedEnd) (result : Result A Stopped) → (P → Q) → Unless e result P → Unless e result Q
unless_map P Q e (Ok x) f h = f h
unless_map P Q (end.Halted cause) (Err stopped) f h = f h
unless_map P Q (end.Faulted u) (Err stopped) f h = f h
unless_map P Q end.OutOfMemory (Err stopped) f h = tt

-- the same of another answer that stopped
pub unless_stopped : (A B : Type 0) (P Q : Type 0) (e : LoggedEnd) (stopped other : Stopped) → (P → Q) → Unless {A = A} e (Err stopped) P → Unless {A = B} e (Err other) Q
unless_stopped A B P Q (end.Halted cause) stopped other f h = f h
unless_stopped A B P Q (end.Faulted u) stopped other f h = f h
unless_stopped A B P Q end.OutOfMemory stopped other f h = tt

-- an answer that is no value: why the code ends is why the meaning ends
pub means_stopped : {A : Type 0} (e : LoggedEnd) (result : Result A Stopped) (now : S) (out : Out ℕ Now A) → IsErr result → CodeEndsAs e now out → Means e result now out
means_stopped e (Ok x) now out h k = absurd cc
means_stopped e (Err stopped) now out h k = k

-- an answer that is no value, and what is so unless memory was refused
pub unless_ended : {A : Type 0} (P : Type 0) (e : LoggedEnd) (stopped : Stopped) (result : Result A Stopped) → IsErr result → Unless {A = A} e (Err stopped) P → Unless e result P
unless_ended P e stopped (Ok x) h k = absurd cc
unless_ended {A} P e stopped (Err other) h k = unless_stopped A A P P e stopped other (λ p. p) k

pub refused : (B : Type 0) (P : Type 0) (e : LoggedEnd) (stopped : Stopped) → e ≡ end.OutOfMemory → Unless {A = B} e (Err stopped) P
refused B P e stopped is = subst (λ x. Unless {A = B} x (Err stopped) P) (sym is) tt

pub refused_ends : {B : Type 0} (e : LoggedEnd) (s : S) (out : Out ℕ Now B) → e ≡ end.OutOfMemory → CodeEndsAs e s out
refused_ends e s out is = subst (λ x. CodeEndsAs x s out) (sym is) tt

-- something was noted, and then the rest
pub first_then : {B : Type 0} (turns : ℕ) (a b c : SeenSoFar) (F G : ShownEvents) (e : LoggedEnd) (result : Result B Stopped) → NotesByTurns turns a b F → Unless e result (NotesByTurns turns b c G) → Unless e result (NotesByTurns turns a c (λ shows. F shows ++ G shows))
first_then turns a b c F G e result h k = unless_map (NotesByTurns turns b c G) (NotesByTurns turns a c (λ shows. F shows ++ G shows)) e result (λ n. notes_then turns a b c F G h n) k

-- a part came to a value, and then the rest
pub value_then : {A B : Type 0} (turns : ℕ) (a b c : SeenSoFar) (F : ShownEvents) (G : A → S → ShownEvents) (e : LoggedEnd) (result : Result B Stopped) (out : Out ℕ Now A) (x : A) (r : S) → out ≡ Ok (x, r)
    → NotesByTurns turns a b F → Unless e result (NotesByTurns turns b c (G x r)) → Unless e result (NotesByTurns turns a c (λ shows. F shows ++ events_after out (λ y q. G y q shows)))
value_then turns a b c F G e result out x r is h k =
    subst (λ o. Unless e result (NotesByTurns turns a c (λ shows. F shows ++ events_after o (λ y q. G y q shows)))) (sym is) (first_then turns a b c F (G x r) e result h k)

stops : {A : Type 0} (turns : ℕ) (a b : SeenSoFar) (F : ShownEvents) (G : A → S → ShownEvents) (out : Out ℕ Now A) → ((shows : ℕ → Bool) → events_after out (λ y q. G y q shows) ≡ []) → NotesByTurns turns a b F → NotesByTurns turns a b (λ shows. F shows ++ events_after out (λ y q. G y q shows))
stops turns a b F G out none h = notes_as turns a b F (λ shows. F shows ++ events_after out (λ y q. G y q shows)) (λ shows. sym (ap (λ xs. F shows ++ xs) (none shows) ∙ append-nil (F shows))) h

-- a part did not come to a value
pub part_stops : {A : Type 0} (B : Type 0) (turns : ℕ) (a b : SeenSoFar) (F : ShownEvents) (G : A → S → ShownEvents) (e : LoggedEnd) (stopped other : Stopped) (out : Out ℕ Now A) (r : S) → CodeEndsAs e r out
    → Unless {A = A} e (Err stopped) (NotesByTurns turns a b F) → Unless {A = B} e (Err other) (NotesByTurns turns a b (λ shows. F shows ++ events_after out (λ y q. G y q shows)))
part_stops B turns a b F G (end.Halted cause) stopped other out r is h = stops turns a b F G out (λ shows. ap (λ o. events_after o (λ y q. G y q shows)) is) h
part_stops B turns a b F G (end.Faulted u) stopped other out r is h = stops turns a b F G out (λ shows. ap (λ o. events_after o (λ y q. G y q shows)) is) h
part_stops B turns a b F G end.OutOfMemory stopped other out r is h = tt

-- ---- loops: what is noted of the rest is what is noted of all

-- one item more, which came to a value
pub more_noted : {A : Type 0} (turns : ℕ) (f a b : SeenSoFar) (F head all : ShownEvents) (G : A → S → ShownEvents) (out : Out ℕ Now A) (x : A) (r : S) → ((c : SeenSoFar) → NotesByTurns turns a c head → NotesByTurns turns f c all)
    → ((shows : ℕ → Bool) → F shows ++ events_after out (λ y q. G y q shows) ≡ head shows) → out ≡ Ok (x, r) → NotesByTurns turns a b F → (c : SeenSoFar) → NotesByTurns turns b c (G x r) → NotesByTurns turns f c all
more_noted turns f a b F head all G out x r so heads is h c k =
    so c (notes_as turns a c (λ shows. F shows ++ G x r shows) head (λ shows. ap (λ o. F shows ++ events_after o (λ y q. G y q shows)) (sym is) ∙ heads shows) (notes_then turns a b c F (G x r) h k))

-- no item more
pub over_noted : (turns : ℕ) (f a : SeenSoFar) (head all : ShownEvents) → ((c : SeenSoFar) → NotesByTurns turns a c head → NotesByTurns turns f c all) → ((shows : ℕ → Bool) → [] ≡ head shows) → NotesByTurns turns f a all
over_noted turns f a head all so none = so a (notes_as turns a a (λ shows. []) head none (notes_none turns a))

-- an item that did not come to a value
pub stop_noted : {A : Type 0} (B : Type 0) (turns : ℕ) (f a b : SeenSoFar) (F head all : ShownEvents) (G : A → S → ShownEvents) (e : LoggedEnd) (stopped other : Stopped) (out : Out ℕ Now A) (r : S) → ((c : SeenSoFar) → NotesByTurns turns a c head → NotesByTurns turns f c all)
    → ((shows : ℕ → Bool) → F shows ++ events_after out (λ y q. G y q shows) ≡ head shows) → CodeEndsAs e r out → Unless {A = A} e (Err stopped) (NotesByTurns turns a b F) → Unless {A = B} e (Err other) (NotesByTurns turns f b all)
stop_noted {A} B turns f a b F head all G e stopped other out r so heads is h =
    unless_map {A = B} (NotesByTurns turns a b (λ shows. F shows ++ events_after out (λ y q. G y q shows))) (NotesByTurns turns f b all) e (Err other) (λ n. so b (notes_as turns a b (λ shows. F shows ++ events_after out (λ y q. G y q shows)) head heads n))
    (part_stops {A = A} B turns a b F G e stopped other out r is h)

-- ---- what is noted of the parts of a walk

-- the same from a state in which as much was seen
pub notes_from : (turns : ℕ) (a b c : SeenSoFar) (F : ShownEvents) → b ≡ a → NotesByTurns turns b c F → NotesByTurns turns a c F
notes_from turns a b c F same h = subst (λ (x : SeenSoFar). NotesByTurns turns x c F) same h

pub notes_to : (turns : ℕ) (a b c : SeenSoFar) (F : ShownEvents) → c ≡ b → NotesByTurns turns a b F → NotesByTurns turns a c F
notes_to turns a b c F same h = subst (λ (x : SeenSoFar). NotesByTurns turns a x F) (sym same) h

pub unless_from : {A : Type 0} (turns : ℕ) (a b c : SeenSoFar) (F : ShownEvents) (e : LoggedEnd) (result : Result A Stopped) → b ≡ a → Unless e result (NotesByTurns turns b c F) → Unless e result (NotesByTurns turns a c F)
unless_from turns a b c F e result same h = subst (λ (x : SeenSoFar). Unless e result (NotesByTurns turns x c F)) same h

pub unless_to : {A : Type 0} (turns : ℕ) (a b c : SeenSoFar) (F : ShownEvents) (e : LoggedEnd) (result : Result A Stopped) → c ≡ b → Unless e result (NotesByTurns turns a b F) → Unless e result (NotesByTurns turns a c F)
unless_to turns a b c F e result same h = subst (λ (x : SeenSoFar). Unless e result (NotesByTurns turns a x F)) (sym same) h

pub unless_as : {A : Type 0} (turns : ℕ) (a b : SeenSoFar) (F G : ShownEvents) (e : LoggedEnd) (result : Result A Stopped) → ((shows : ℕ → Bool) → F shows ≡ G shows) → Unless e result (NotesByTurns turns a b F) → Unless e result (NotesByTurns turns a b G)
unless_as turns a b F G e result same h = unless_map (NotesByTurns turns a b F) (NotesByTurns turns a b G) e result (λ n. notes_as turns a b F G same n) h

pub always : {A : Type 0} (P : Type 0) (e : LoggedEnd) (result : Result A Stopped) → P → Unless e result P
always P e (Ok x) h = h
always P (end.Halted cause) (Err stopped) h = h
always P (end.Faulted u) (Err stopped) h = h
always P end.OutOfMemory (Err stopped) h = tt

-- what is so of an answer, and memory was refused where there is none
pub or_refused : {A : Type 0} (P : Type 0) (e : LoggedEnd) (result : Result A Stopped) → OnOk result P → OnErr result (e ≡ end.OutOfMemory) → Unless e result P
or_refused {A} P e (Ok x) h none = h
or_refused {A} P e (Err stopped) h none = refused A P e stopped none

pub means_refused : {A : Type 0} (e : LoggedEnd) (result : Result A Stopped) (s : S) (out : Out ℕ Now A) → OnOk result (Means e result s out) → OnErr result (e ≡ end.OutOfMemory) → Means e result s out
means_refused e (Ok x) s out h none = h
means_refused e (Err stopped) s out h none = refused_ends e s out none

-- an event is noted, in a state that stays, and then the rest
pub event_then : {A : Type 0} (turns : ℕ) (a b c : SeenSoFar) (ev : Event) (R : S → ShownEvents) (e : LoggedEnd) (result : Result A Stopped) (s q : S) → q ≡ s → NotesByTurns turns a b (λ shows. ev ∷ []) → Unless e result (NotesByTurns turns b c (R q))
    → Unless e result (NotesByTurns turns a c (λ shows. ev ∷ R s shows))
event_then turns a b c ev R e result s q same h k = subst (λ (x : S). Unless e result (NotesByTurns turns a c (λ shows. ev ∷ R x shows))) same (first_then turns a b c (λ shows. ev ∷ []) (R q) e result h k)

-- a part came to a value, and then the rest was noted
pub notes_value : {A : Type 0} (turns : ℕ) (a b c : SeenSoFar) (F : ShownEvents) (G : A → S → ShownEvents) (out : Out ℕ Now A) (x : A) (r : S) → out ≡ Ok (x, r) → NotesByTurns turns a b F → NotesByTurns turns b c (G x r)
    → NotesByTurns turns a c (λ shows. F shows ++ events_after out (λ y q. G y q shows))
notes_value turns a b c F G out x r is h k = subst (λ o. NotesByTurns turns a c (λ shows. F shows ++ events_after o (λ y q. G y q shows))) (sym is) (notes_then turns a b c F (G x r) h k)

-- a part of which nothing is seen came to a value, and then the rest
pub quiet_then : {A B : Type 0} (turns : ℕ) (a b c : SeenSoFar) (G : A → S → ShownEvents) (e : LoggedEnd) (result : Result B Stopped) (out : Out ℕ Now A) (x : A) (r : S) → out ≡ Ok (x, r) → b ≡ a
    → Unless e result (NotesByTurns turns b c (G x r)) → Unless e result (NotesByTurns turns a c (λ shows. events_after out (λ y q. G y q shows)))
quiet_then turns a b c G e result out x r is same k =
    subst (λ o. Unless e result (NotesByTurns turns a c (λ shows. events_after o (λ y q. G y q shows)))) (sym is) (unless_from turns a b c (G x r) e result same k)

-- a part of which nothing is seen did not
pub quiet_stops : {A : Type 0} (B : Type 0) (turns : ℕ) (a b : SeenSoFar) (G : A → S → ShownEvents) (e : LoggedEnd) (stopped : Stopped) (out : Out ℕ Now A) (r : S) → CodeEndsAs e r out → b ≡ a
    → Unless {A = B} e (Err stopped) (NotesByTurns turns a b (λ shows. events_after out (λ y q. G y q shows)))
quiet_stops {A} B turns a b G e stopped out r is same =
    part_stops {A = A} B turns a b (λ shows. []) G e stopped stopped out r is (always {A = A} (NotesByTurns turns a b (λ shows. [])) e (Err stopped) (notes_to turns a a b (λ shows. []) same (notes_none turns a)))

-- one of two, by a test
pub take_first : {A : Type 0} (turns : ℕ) (a b : SeenSoFar) (F G : ShownEvents) (e : LoggedEnd) (result : Result A Stopped) (test : Bool) → test ≡ true → Unless e result (NotesByTurns turns a b F) → Unless e result (NotesByTurns turns a b (λ shows. cond test (F shows) (G shows)))
take_first turns a b F G e result test is h = subst (λ t. Unless e result (NotesByTurns turns a b (λ shows. cond t (F shows) (G shows)))) (sym is) h

pub take_second : {A : Type 0} (turns : ℕ) (a b : SeenSoFar) (F G : ShownEvents) (e : LoggedEnd) (result : Result A Stopped) (test : Bool) → test ≡ false → Unless e result (NotesByTurns turns a b G) → Unless e result (NotesByTurns turns a b (λ shows. cond test (F shows) (G shows)))
take_second turns a b F G e result test is h = subst (λ t. Unless e result (NotesByTurns turns a b (λ shows. cond t (F shows) (G shows)))) (sym is) h

pub is_zero : (n : ℕ) → n ≡ 0 → nat_eq n 0 ≡ true
is_zero n is = eq-eqb n 0 is

-- the same where nothing was refused
pub notes_first : (turns : ℕ) (a b : SeenSoFar) (F G : ShownEvents) (test : Bool) → test ≡ true → NotesByTurns turns a b F → NotesByTurns turns a b (λ shows. cond test (F shows) (G shows))
notes_first turns a b F G test is h = subst (λ t. NotesByTurns turns a b (λ shows. cond t (F shows) (G shows))) (sym is) h

pub notes_second : (turns : ℕ) (a b : SeenSoFar) (F G : ShownEvents) (test : Bool) → test ≡ false → NotesByTurns turns a b G → NotesByTurns turns a b (λ shows. cond test (F shows) (G shows))
notes_second turns a b F G test is h = subst (λ t. NotesByTurns turns a b (λ shows. cond t (F shows) (G shows))) (sym is) h

pub notes_event : (turns : ℕ) (a b c : SeenSoFar) (ev : Event) (R : S → ShownEvents) (s q : S) → q ≡ s → NotesByTurns turns a b (λ shows. ev ∷ []) → NotesByTurns turns b c (R q) → NotesByTurns turns a c (λ shows. ev ∷ R s shows)
notes_event turns a b c ev R s q same h k = subst (λ (x : S). NotesByTurns turns a c (λ shows. ev ∷ R x shows)) same (notes_then turns a b c (λ shows. ev ∷ []) (R q) h k)
