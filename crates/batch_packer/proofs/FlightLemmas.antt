-- What the parts of a flight keep.
use Rattle.std.proofs.Common.{◌≡◌, ℕ, ◌*◌, ◌<◌, ◌≤◌, true, List, [], ◌∷◌, ◌++◌, length, length-append, Option, Some, None, IfSome, refl, sym, ◌∙◌, subst, arith}
use Rattle.std.specs.Prelude.{is_some}
use Rattle.std.specs.List.{AllByRecursion}
use Rattle.target_machine.specs.declared.access.RegAccess.{RegAccess}
use Rattle.probe_core.specs.Bench.{BenchState, Reported, StepsTo}
use Rattle.probe_core.specs.Ranges.{AreLimits}
use Rattle.probe_core.specs.Reports.{AgreesWith}
use Rattle.probe_core.specs.declared.job.Limits.{Limits}
use Rattle.flight_forms.proofs.Capacity.{held_most}
use Rattle.flight_forms.specs.Forms.{form_of}
use Rattle.flight_forms.specs.declared.form.Form.{Form}
use Rattle.batch_packer.specs.Exchanges.{IsOpen}
use Rattle.batch_packer.specs.FlightEnds.{EndsBy, Flew, flight_reading}
use Rattle.batch_packer.specs.FlightStates.{ReadBy, SentBy, sent_form}
use Rattle.batch_packer.specs.Flying.{CanFly, IsReady}
use Rattle.batch_packer.specs.declared.ends.FlightEnd.{FlightEnd}

some_form : (o : Option Form) → is_some o ≡ true → (f : Form) × (o ≡ Some f)
some_form None e = absurd (cc)
some_form (Some f) e = (f, refl)

held_few : (limits : Limits) (xs : List RegAccess) → AreLimits limits → is_some (form_of limits.packet_size limits.packet_count xs) ≡ true → length xs ≤ 255 * limits.packet_count
held_few limits xs in_range held =
    let f = some_form (form_of limits.packet_size limits.packet_count xs) held in
    held_most limits.packet_size limits.packet_count xs f.0 in_range.size_low in_range.size_high in_range.count_low f.1

-- how many accesses a flight has
pub few_held : (limits : Limits) (xs : List RegAccess) → AreLimits limits → (0 < length xs → is_some (form_of limits.packet_size limits.packet_count xs) ≡ true) → length xs ≤ 255 * 64
few_held limits [] in_range held = omega arith
few_held limits (a ∷ rest) in_range held = let f = held_few limits (a ∷ rest) in_range (held (omega arith)) in let c = in_range.count_high in omega arith

-- with one access more there is room for it
pub room_held : (limits : Limits) (xs : List RegAccess) (a : RegAccess) (room : ℕ) → AreLimits limits → is_some (form_of limits.packet_size limits.packet_count (xs ++ a ∷ [])) ≡ true → 255 * limits.packet_count ≤ room →
    length xs < room
room_held limits xs a room in_range held most =
    let f = held_few limits (xs ++ a ∷ []) in_range held in let l = length-append xs (a ∷ []) in omega arith

pub all_pushed : (P : RegAccess → Type 0) (xs : List RegAccess) (a : RegAccess) → AllByRecursion P xs → P a → AllByRecursion P (xs ++ a ∷ [])
all_pushed P [] a all one = (one, tt)
all_pushed P (x ∷ xs) a all one = (all.0, all_pushed P xs a all.1 one)

-- ---- over a bench

none_of : (xs : List (List ℕ)) → length xs ≡ 0 → xs ≡ []
none_of [] e = refl
none_of (x ∷ xs) e = absurd (omega arith)

-- an open bench that agrees with its state is idle
pub when_ready : (Q : BenchState → BenchState → Type 0) (r : Reported) (a b : Option BenchState) → IsOpen r → IfSome a (AgreesWith r) → StepsTo (λ m n. IsReady r.limits m → Q m n) a b →
    StepsTo (λ m n. CanFly m → Q m n) a b
when_ready Q r None None opened agrees h = tt
when_ready Q r None (Some n) opened agrees h = absurd h
when_ready Q r (Some m) None opened agrees h = absurd h
when_ready Q r (Some m) (Some n) opened agrees h = λ flies. h (record {
  idle = record {
    held = none_of m.probe.held (sym agrees.held ∙ opened.held);
    waiting = none_of m.probe.waiting (sym agrees.waiting ∙ opened.waiting);
  };
  limits = sym agrees.limits;
  flies = flies;
})

-- ---- what was sent

pub sent_some : (limits : Limits) (accesses : List RegAccess) (form : Form) → sent_form limits accesses ≡ Some form → (0 < length accesses) × (form_of limits.packet_size limits.packet_count accesses ≡ Some form)
sent_some limits [] form e = absurd (cc)
sent_some limits (a ∷ rest) form e = (omega arith, e)

pub sent_by : (found : Option Form) (form : Form) (accesses : List RegAccess) (end : Option FlightEnd) (values : List (Option ℕ)) (r : Reported) (a b : Option BenchState) → found ≡ Some form → IsOpen r →
    IfSome a (AgreesWith r) → StepsTo (λ m n. IsReady r.limits m → Flew form accesses end values m n) a b → StepsTo (λ m n. CanFly m → SentBy found accesses end values m n) a b
sent_by found form accesses end values r a b is opened agrees h =
    subst (λ (o : Option Form). StepsTo (λ m n. CanFly m → SentBy o accesses end values m n) a b) (sym is) (when_ready (λ m n. Flew form accesses end values m n) r a b opened agrees h)

pub read_by : (found : Option Form) (form : Form) (size : ℕ) (accesses : List RegAccess) (replies : List (List ℕ)) (end : Option FlightEnd) (values : List (Option ℕ)) → found ≡ Some form →
    EndsBy (flight_reading form size accesses replies) end values → ReadBy found size accesses replies end values
read_by found form size accesses replies end values is h = subst (λ (o : Option Form). ReadBy o size accesses replies end values) (sym is) h

-- nothing was sent
sent_self : (accesses : List RegAccess) (values : List (Option ℕ)) (a : Option BenchState) → values ≡ [] → StepsTo (λ m n. CanFly m → SentBy None accesses None values m n) a a
sent_self accesses values None none = tt
sent_self accesses values (Some m) none = λ flies. (refl, refl, none)

pub sent_nothing : (found : Option Form) (accesses : List RegAccess) (values : List (Option ℕ)) (a b : Option BenchState) → found ≡ None → values ≡ [] → b ≡ a →
    StepsTo (λ m n. CanFly m → SentBy found accesses None values m n) a b
sent_nothing found accesses values a b is none same =
    subst (λ (x : Option BenchState). StepsTo (λ m n. CanFly m → SentBy found accesses None values m n) a x) (sym same)
    (subst (λ (o : Option Form). StepsTo (λ m n. CanFly m → SentBy o accesses None values m n) a a) (sym is) (sent_self accesses values a none))

pub read_nothing : (found : Option Form) (size : ℕ) (accesses : List RegAccess) (replies : List (List ℕ)) (values : List (Option ℕ)) → found ≡ None → values ≡ [] → ReadBy found size accesses replies None values
read_nothing found size accesses replies values is none = subst (λ (o : Option Form). ReadBy o size accesses replies None values) (sym is) (refl, none)
