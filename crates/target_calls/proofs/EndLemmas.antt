-- How calls end.
use Rattle.std.proofs.Common.{◌≡◌, ◌∙◌, ℕ, ◌+◌, Bool, true, false, cond, ◌&&◌, nat_lt, List, [], ◌∷◌, refl, sym, ap, arith}
use Rattle.std.specs.Prelude.{not}
use Rattle.target_machine.specs.Plain.{Action, CallEnd, Answered, Faulted, Skipped, Small, call_done, contains, ended_call, has_large, is_small}
use Rattle.target_machine.specs.State.{TargetState}
use Rattle.target_machine.specs.declared.unit.Call.{Call}
use Rattle.target_machine.specs.declared.unit.Call.TheVariants.{Access, Probe}
use Rattle.target_machine.specs.declared.unit.Unit.TheVariants as unit
use Rattle.target_calls.specs.Asks.{ForgiveNothing, is_forgiving, is_wide_call}
use Rattle.target_calls.specs.World.{World, done_now, next_world, one_if_skipped, skips, stops_here}
use Rattle.target_calls.specs.declared.calls.Ask.{Ask}
use Rattle.dap_base.proofs.Basics.{first_true}

pub end_skipped : (f g s : Bool) (n : ℕ) (t : TargetState) (large : List ℕ) (actions : List Action) → (ended_call f g s n t large actions).end ≡ Skipped → g ≡ true
end_skipped true true s n t large actions h = refl
end_skipped true false s n t large actions h = absurd cc
end_skipped false g true n t large actions h = absurd cc
end_skipped false g false n t large actions h = absurd cc

pub end_faulted : (f g s : Bool) (n : ℕ) (t : TargetState) (large : List ℕ) (actions : List Action) → (ended_call f g s n t large actions).end ≡ Faulted → g ≡ false
end_faulted true true s n t large actions h = absurd cc
end_faulted true false s n t large actions h = refl
end_faulted false g true n t large actions h = absurd cc
end_faulted false g false n t large actions h = absurd cc

end_small : (f g s : Bool) (n : ℕ) (t : TargetState) (large : List ℕ) (actions : List Action) → (ended_call f g s n t large actions).end ≡ Small → s ≡ true
end_small true true s n t large actions h = absurd cc
end_small true false s n t large actions h = absurd cc
end_small false g true n t large actions h = refl
end_small false g false n t large actions h = absurd cc

pub skipped_forgives : (w : World) (ask : Ask) → (done_now w ask).end ≡ Skipped → is_forgiving ask ≡ true
unfolding call_done
skipped_forgives w ask h = end_skipped _ (is_forgiving ask) _ _ _ _ _ h

pub faulted_forgives_not : (w : World) (ask : Ask) → (done_now w ask).end ≡ Faulted → is_forgiving ask ≡ false
unfolding call_done
faulted_forgives_not w ask h = end_faulted _ (is_forgiving ask) _ _ _ _ _ h

small_is_wide : (t : TargetState) (large : List ℕ) (call : Call) → is_small t large call ≡ true → is_wide_call call ≡ true
small_is_wide t large (Access (unit.Memory size read ap address value)) h =
    first_true (nat_lt 0xFFFF_FFFF address) (not (contains large ap)) (first_true (nat_lt 0xFFFF_FFFF address && not (contains large ap)) (not (has_large t ap)) h)
small_is_wide t large (Access (unit.Ap read ap addr value)) h = absurd cc
small_is_wide t large (Access (unit.Dp read addr value)) h = absurd cc
small_is_wide t large (Access (unit.Poll mask value turns)) h = absurd cc
small_is_wide t large (Probe command) h = absurd cc

pub small_wide : (w : World) (ask : Ask) → (done_now w ask).end ≡ Small → is_wide_call ask.call ≡ true
unfolding call_done
small_wide w ask h = small_is_wide w.target w.large ask.call (end_small _ _ (is_small w.target w.large ask.call) _ _ _ _ h)

-- a call that forgives nothing is not skipped
not_skipped : (w : World) (ask : Ask) → is_forgiving ask ≡ false → one_if_skipped (done_now w ask).end ≡ 0
not_skipped w ask mild = one (done_now w ask).end refl
  where
    one : (end : CallEnd) → (done_now w ask).end ≡ end → one_if_skipped end ≡ 0
    one (Answered n) is = refl
    one Faulted is = refl
    one Small is = refl
    one Skipped is = absurd (let no : ◌≡◌ {A = Bool} true false = sym (skipped_forgives w ask is) ∙ mild in cc)

pub none_skipped : (w : World) (calls : List Ask) → ForgiveNothing calls → skips w calls ≡ 0
none_skipped w [] h = refl
none_skipped w (ask ∷ calls) h = one (stops_here w ask) (not_skipped w ask h.0) (none_skipped (next_world w ask) calls h.1)
  where
    one : (b : Bool) → one_if_skipped (done_now w ask).end ≡ 0 → skips (next_world w ask) calls ≡ 0 → cond b 0 (one_if_skipped (done_now w ask).end + skips (next_world w ask) calls) ≡ 0
    one true first rest = refl
    one false first rest = omega (arith, first, rest)
