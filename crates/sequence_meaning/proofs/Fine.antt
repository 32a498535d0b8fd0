-- A run that lacks nothing: what comes of a part of it, and the names that its states have.
use Rattle.std.proofs.Common.{◌≡◌, ℕ, Bool, true, false, cond, not, ◌&&◌, ◌||◌, List, [], ◌∷◌, map, Option, None, Some, Ok, Err, refl, ap, ◌∙◌, bytes_eq}
use Rattle.std.specs.Option.{option_or}
use Rattle.expr_grammar.specs.Names.{has_name}
use Rattle.dap_base.specs.Outcome.{◌>>=◌}
use Rattle.sequence_rules.specs.declared.bindings.Binding.{Binding}
use Rattle.sequence_rules.specs.Calls.{value_or_missing, guarded_rest}
use Rattle.sequence_rules.specs.Complete.{names_in}
use Rattle.sequence_rules.specs.Machine as machine
use Rattle.sequence_rules.specs.Machine.{Over, Machine, State, Out}
use Rattle.sequence_rules.specs.Variables.{has_in, value_named, set_in, newest_in, set_newest, is_visible, visible, set_visible}
use Rattle.sequence_rules.proofs.NameLemmas.{has_names, set_names, newest_names}

-- ---- outcomes

-- nothing is missing where a call ends so
abbrev pub IsMet : Over → Type 0
IsMet (machine.Halted cause) = Unit {0}
IsMet (machine.Faulted call) = Unit {0}
IsMet machine.Unanswered = Unit {0}
IsMet machine.Lost = ⊥

module _ {V T : Type 0} where
  -- nothing is missing, and the state after it is so
  abbrev pub Fine : {A : Type 0} → (State V T → Type 0) → Out V T A → Type 0
  Fine After (Ok x) = After x.1
  Fine After (Err e) = IsMet e.0

  pub fine_bind : {A B : Type 0} (P Q : State V T → Type 0) (out : Out V T A) (f : A × State V T → Out V T B) → Fine P out → ((x : A × State V T) → P x.1 → Fine Q (f x)) → Fine Q (out >>= f)
  fine_bind P Q (Ok x) f h k = k x h
  fine_bind P Q (Err e) f h k = h

  pub fine_cond : {A : Type 0} (P : State V T → Type 0) (c : Bool) (x y : Out V T A) → Fine P x → Fine P y → Fine P (cond c x y)
  fine_cond P true x y h k = h
  fine_cond P false x y h k = k

  pub fine_weak : {A : Type 0} (P Q : State V T → Type 0) (out : Out V T A) → Fine P out → ((s : State V T) → P s → Q s) → Fine Q out
  fine_weak P Q (Ok x) h k = k x.1 h
  fine_weak P Q (Err e) h k = h

-- ---- what is there

module _ {V T : Type 0} (m : Machine V T) where
  pub given_some : {A : Type 0} (x : A) (o : Option A) (y : A) (s : State V T) → o ≡ Some y → value_or_missing m x o s ≡ Ok (y, s)
  unfolding value_or_missing
  given_some x None y s h = absurd cc
  given_some x (Some z) y s h = ap (λ k. value_or_missing m x k s) h

  pub fine_given : {A : Type 0} (P : State V T → Type 0) (x : A) (o : Option A) (y : A) (s : State V T) → o ≡ Some y → P s → Fine P (value_or_missing m x o s)
  fine_given P x o y s h p = rw (given_some x o y s h) p

  guarded_ok : {A : Type 0} (w ok : Bool) (lost : Out V T A) (rest : Out V T A) → ok ≡ true → cond (w && not ok) lost rest ≡ rest
  guarded_ok true ok lost rest h = ap (λ b. cond (not b) lost rest) h
  guarded_ok false ok lost rest h = refl

  pub fine_guarded : {A : Type 0} (P : State V T → Type 0) (ok : Bool) (rest : State V T → Out V T A) (s : State V T) → ok ≡ true → Fine P (rest s) → Fine P (guarded_rest m ok rest s)
  unfolding guarded_rest
  fine_guarded P ok rest s h p = rw (guarded_ok m.is_watchful ok (Err (machine.Lost, s)) (rest s) h) p

-- ---- names

module _ {V : Type 0} where
  value_one : (c q : Bool) (v : V) (o : Option V) → (q ≡ true → (w : V) × (o ≡ Some w)) → cond c true q ≡ true → (w : V) × (cond c (Some v) o ≡ Some w)
  value_one true q v o k h = (v, refl)
  value_one false q v o k h = k h

  pub value_found : (bs : List (Binding V)) (n : List ℕ) → has_in bs n ≡ true → (v : V) × (value_named bs n ≡ Some v)
  value_found [] n h = absurd cc
  value_found (x ∷ bs) n h = value_one (bytes_eq n x.name) (has_in bs n) x.value (value_named bs n) (value_found bs n) h

  newest_one : (c q : Bool) (v : V) (o : Option V) → (q ≡ true → (w : V) × (o ≡ Some w)) → cond c true q ≡ true → (w : V) × (option_or o (cond c (Some v) None) ≡ Some w)
  newest_one c q v (Some w) k h = (w, refl)
  newest_one true q v None k h = (v, refl)
  newest_one false q v None k h = k h

  pub newest_found : (bs : List (Binding V)) (n : List ℕ) → has_in bs n ≡ true → (v : V) × (newest_in bs n ≡ Some v)
  newest_found [] n h = absurd cc
  newest_found (x ∷ bs) n h = newest_one (bytes_eq n x.name) (has_in bs n) x.value (newest_in bs n) (newest_found bs n) h

  not_some : (v : V) → None ≡ Some v → ⊥
  not_some v h = cc

  either_found : (p q : Bool) (o r : Option V) → (p ≡ true → (v : V) × (o ≡ Some v)) → (q ≡ true → (v : V) × (r ≡ Some v)) → (p || q) ≡ true → (v : V) × (option_or o r ≡ Some v)
  either_found p q (Some v) r k l h = (v, refl)
  either_found true q None r k l h = (let x = k refl in absurd (not_some x.0 x.1))
  either_found false q None r k l h = l h

-- ---- the names of a state

module _ {V T : Type 0} where
  -- the variables that all sequences share have these names, and those of the running sequence these
  pub record Has (shared own : List (List ℕ)) (s : State V T) : Type 0 where
    pub globals : names_in s.globals ≡ shared
    pub locals : names_in s.locals ≡ own

  pub is_visible_by : (gs ls : List (List ℕ)) (s : State V T) (n : List ℕ) → Has gs ls s → (has_name ls n || has_name gs n) ≡ true → is_visible n s ≡ true
  is_visible_by gs ls s n h there =
      let own : has_in s.locals n ≡ has_name ls n = has_names s.locals n ∙ ap (λ k. has_name k n) h.locals in
      let shared : has_in s.globals n ≡ has_name gs n = has_names s.globals n ∙ ap (λ k. has_name k n) h.globals in
      ap (λ b. b || has_in s.globals n) own ∙ ap (λ b. has_name ls n || b) shared ∙ there

  pub visible_by : (gs ls : List (List ℕ)) (s : State V T) (n : List ℕ) → Has gs ls s → (has_name ls n || has_name gs n) ≡ true → (v : V) × (visible n s ≡ Some v)
  visible_by gs ls s n h there =
      either_found (has_in s.locals n) (has_in s.globals n) (newest_in s.locals n) (value_named s.globals n) (newest_found s.locals n) (value_found s.globals n) (is_visible_by gs ls s n h there)

  store_one : (c : Bool) (gs ls : List (List ℕ)) (r q : State V T) → Has gs ls r → Has gs ls q → Has gs ls (cond c r q)
  store_one true gs ls r q h k = h
  store_one false gs ls r q h k = k

  pub store_keeps : (gs ls : List (List ℕ)) (s : State V T) (n : List ℕ) (v : V) → Has gs ls s → Has gs ls (set_visible n v s)
  store_keeps gs ls s n v h = store_one (has_in s.locals n) gs ls _ _
      (record { globals = h.globals; locals = newest_names s.locals n v ∙ h.locals })
      (record { globals = set_names s.globals n v ∙ h.globals; locals = h.locals })
