-- When two machines do the same: how their states are related, and how what comes of them is.
use Rattle.std.specs.Prelude.{◌≡◌, ℕ, ◌+◌, Bool, true, false, List, [], ◌∷◌, Option, Some, None, Result, Ok, Err}
use Rattle.std.specs.Bool.{⊤}
use Rattle.target_machine.specs.declared.unit.ProbeCall.{ProbeCall}
use Rattle.target_machine.specs.declared.unit.Unit.{Unit as AccessUnit}
use Rattle.sequence_rules.specs.declared.bindings.Binding.{Binding}
use Rattle.sequence_rules.specs.Machine.{Over, Halted, Faulted, Unanswered, Lost, Machine, State, Out}
use Rattle.sequence_rules.specs.Steady.{Steady}

-- variables with the same names, whose values are related
abbrev pub Binds : {V W : Type 0} → (V → W → Type 0) → List (Binding V) → List (Binding W) → Type 0
Binds Val [] [] = ⊤
Binds Val [] (c ∷ cs) = ⊥
Binds Val (b ∷ bs) [] = ⊥
Binds Val (b ∷ bs) (c ∷ cs) = (b.name ≡ c.name) × Val b.value c.value × Binds Val bs cs

-- `Val t` relates values where the rest of the first machine is t, and `Rest k` relates rests after k units.
pub record Alike {V W T U : Type 0} (Val : T → V → W → Type 0) (Rest : ℕ → T → U → Type 0) (s : State V T) (r : State W U) : Type 0 where
  pub globals : Binds (Val s.rest) s.globals r.globals
  pub locals : Binds (Val s.rest) s.locals r.locals
  pub units : r.units ≡ s.units
  pub lines : r.lines ≡ s.lines
  pub steps : r.steps ≡ s.steps
  pub rest : Rest s.units s.rest r.rest

-- How the end of the second machine, otherwise than by a halt, is related to the first. Of the first, what it is over by (none where it goes on)
-- and its rest count. Of the second its units, what it is over by, and its rest count.
abbrev pub EndRelation : Type 0 → Type 0 → Type 1
EndRelation T U = Option Over → T → ℕ → Over → U → Type 0

-- the second machine has ended, otherwise than by a halt, and the first goes on
abbrev pub EndsAlone : {T U : Type 0} → EndRelation T U → T → ℕ → Over → U → Type 0
EndsAlone End t k (Halted cause) u = ⊥
EndsAlone End t k (Faulted call) u = End None t k (Faulted call) u
EndsAlone End t k Unanswered u = End None t k Unanswered u
EndsAlone End t k Lost u = End None t k Lost u

-- both machines have ended
abbrev pub EndsAlike : {V W T U : Type 0} → (T → V → W → Type 0) → (ℕ → T → U → Type 0) → EndRelation T U → Over → State V T → Over → State W U → Type 0
EndsAlike Val Rest End e s (Halted cause) r = (e ≡ Halted cause) × Alike Val Rest s r
EndsAlike Val Rest End e s (Faulted call) r = End (Some e) s.rest r.units (Faulted call) r.rest
EndsAlike Val Rest End e s Unanswered r = End (Some e) s.rest r.units Unanswered r.rest
EndsAlike Val Rest End e s Lost r = End (Some e) s.rest r.units Lost r.rest

-- what comes of both: `Same t` relates what they answer
abbrev pub Matches : {V W T U A B : Type 0} → (T → V → W → Type 0) → (ℕ → T → U → Type 0) → EndRelation T U → (T → A → B → Type 0) → Out V T A → Out W U B → Type 0
Matches Val Rest End Same (Ok x) (Ok y) = Alike Val Rest x.1 y.1 × Same x.1.rest x.0 y.0
Matches Val Rest End Same (Err e) (Ok y) = ⊥
Matches Val Rest End Same (Ok x) (Err y) = EndsAlone End x.1.rest y.1.units y.0 y.1.rest
Matches Val Rest End Same (Err e) (Err y) = EndsAlike Val Rest End e.0 e.1 y.0 y.1

-- both machines have ended at a unit, after which k units were made
abbrev pub CallEnds : {T U : Type 0} → (ℕ → T → U → Type 0) → EndRelation T U → ℕ → Over → T → Over → U → Type 0
CallEnds Rest End k e t (Halted cause) u = (e ≡ Halted cause) × Rest k t u
CallEnds Rest End k e t (Faulted call) u = End (Some e) t k (Faulted call) u
CallEnds Rest End k e t Unanswered u = End (Some e) t k Unanswered u
CallEnds Rest End k e t Lost u = End (Some e) t k Lost u

-- what comes of a unit on both
abbrev pub CallMatches : {T U X Y : Type 0} → (ℕ → T → U → Type 0) → EndRelation T U → (T → X → Y → Type 0) →
    ℕ → Result (X × T) (Over × T) → Result (Y × U) (Over × U) → Type 0
CallMatches Rest End Same k (Ok x) (Ok y) = Rest k x.1 y.1 × Same x.1 x.0 y.0
CallMatches Rest End Same k (Err e) (Ok y) = ⊥
CallMatches Rest End Same k (Ok x) (Err y) = EndsAlone End x.1 k y.0 y.1
CallMatches Rest End Same k (Err e) (Err y) = CallEnds Rest End k e.0 e.1 y.0 y.1

-- they answer the same
abbrev pub Equal : {T A : Type 0} → T → A → A → Type 0
Equal t x y = y ≡ x

-- The machine m does what the machine d does: each operation of theirs is related. `Step` is kept by each operation of m.
pub record Tracks {V W T U : Type 0} (m : Machine V T) (d : Machine W U) (Val : T → V → W → Type 0) (Rest : ℕ → T → U → Type 0)
    (Step : T → T → Type 0) (End : EndRelation T U) : Type 0 where
  pub steady : Steady m Step
  -- values stay related, and an end of d alone stays one, also where m ends later
  pub keeps : (k : ℕ) (t t2 : T) (u : U) (v : V) (w : W) → Step t t2 → Rest k t2 u → Val t v w → Val t2 v w
  pub ended : (here : Option Over) (t t2 : T) (k : ℕ) (over : Over) (u : U) → Step t t2 → End None t k over u → End here t2 k over u
  pub careless : m.is_watchful ≡ false
  pub lost : (k : ℕ) (t : T) (u : U) → d.is_watchful ≡ true → Rest k t u → End None t k Lost u
  pub number : (t : T) (n : ℕ) → Val t (m.number n) (d.number n)
  pub used : (k : ℕ) (t : T) (u : U) (v : V) (w : W) → Rest k t u → Val t v w → ((d.used w u).0 ≡ (m.used v t).0) × Rest k (m.used v t).1 (d.used w u).1
  pub asked : (k : ℕ) (t : T) (u : U) (unit : AccessUnit) (forgive : Bool) → Rest k t u →
      CallMatches Rest End Val (k + 1) (m.asked unit forgive t) (d.asked unit forgive u)
  pub commanded : (k : ℕ) (t : T) (u : U) (c : ProbeCall) → Rest k t u → CallMatches Rest End Equal (k + 1) (m.commanded c t) (d.commanded c u)
  pub confirmed : (k : ℕ) (t : T) (u : U) → Rest k t u → Rest k (m.confirmed t) (d.confirmed u)
  pub written : (k : ℕ) (t : T) (u : U) (line : List ℕ) → Rest k t u → Rest k (m.written line t) (d.written line u)
