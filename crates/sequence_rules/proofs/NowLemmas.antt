-- What the parts of the meaning are where each call is made at once.
use Rattle.std.proofs.Common.{◌≡◌, ℕ, ◌%◌, false, List, [], ◌∷◌, Option, None, Some, unwrap_or, Ok, Err, nat_eq, codes, refl, sym, ap, ◌∙◌}
use Rattle.dap_base.specs.Outcome.{◌>>=◌}
use Rattle.sequence_trees.specs.Trees.{CodeSteps, NoSteps, SetTrees, steps_named}
use Rattle.sequence_rules.specs.declared.bindings.Binding.{Binding}
use Rattle.sequence_rules.specs.Direct.{Now, direct}
use Rattle.sequence_rules.specs.Machine.{State, Out}
use Rattle.sequence_rules.specs.Variables.{value_named}
use Rattle.sequence_rules.specs.Calls.{use_now, missing, value_or_missing, global, port_with, port_from, port}
use Rattle.sequence_rules.specs.Steps.{steps_at}
use Rattle.sequence_rules.specs.Values.{all_used, numbers_of}

pub given_is : (o : Option ℕ) (s : State ℕ Now) → (value_or_missing (direct false) 0 o s >>= λ v. use_now (direct false) v.0 v.1) ≡ Ok (unwrap_or o 0, s)
unfolding value_or_missing missing use_now direct
given_is None s = refl
given_is (Some n) s = refl

pub global_is : (name : List ℕ) (s : State ℕ Now) → global (direct false) name s ≡ Ok (unwrap_or (value_named s.globals name) 0, s)
unfolding global direct
global_is name s = given_is (value_named s.globals name) s

pub global_as : (name : List ℕ) (gs : List (Binding ℕ)) (n : ℕ) → n ≡ unwrap_or (value_named gs name) 0 → (s : State ℕ Now) → s.globals ≡ gs → global (direct false) name s ≡ Ok (n, s)
global_as name gs n is s same = global_is name s ∙ ap (λ k. Ok (k, s)) (ap (λ g. unwrap_or (value_named g name) 0) same ∙ sym is)

pub port_as : (gs : List (Binding ℕ)) (a e d : ℕ) → a ≡ unwrap_or (value_named gs (codes "__ap")) 0 → e ≡ unwrap_or (value_named gs (codes "__errorcontrol")) 0 → d ≡ unwrap_or (value_named gs (codes "__dp")) 0
    → (s : State ℕ Now) → s.globals ≡ gs → port (direct false) s ≡ Ok (record { ap = a; forgive = nat_eq (e % 2) 1; dp = d }, s)
unfolding port port_from port_with direct
port_as gs a e d ai ei di s same =
    rw (global_as (codes "__ap") gs a ai s same)
    (rw (global_as (codes "__errorcontrol") gs e ei s same)
    (rw (global_as (codes "__dp") gs d di s same) refl))

-- ---- values that are used

pub all_as : (vs : List ℕ) (s : State ℕ Now) → all_used (direct false) vs s ≡ Ok (vs, s)
unfolding all_used use_now direct
all_as [] s = refl
all_as (v ∷ vs) s = rw (all_as vs s) refl

pub numbers_as : (out : Out ℕ Now (List ℕ)) → numbers_of (direct false) out ≡ out
unfolding numbers_of direct
numbers_as (Ok x) = all_as x.0 x.1
numbers_as (Err e) = refl

given_steps : (o : Option CodeSteps) (s : State ℕ Now) → value_or_missing (direct false) NoSteps o s ≡ Ok (unwrap_or o NoSteps, s)
unfolding value_or_missing missing direct
given_steps None s = refl
given_steps (Some steps) s = refl

pub steps_found : (turn_us : ℕ) (set : SetTrees) (name : List ℕ) (s : State ℕ Now) → steps_at (direct false) turn_us set name s ≡ Ok (unwrap_or (steps_named name set.sequences) NoSteps, s)
unfolding steps_at
steps_found turn_us set name s = given_steps (steps_named name set.sequences) s
