-- Reading steps, opened by one level.
use Rattle.std.proofs.Common.{◌≡◌, ℕ, ◌<◌, ◌≤◌, max, codes, List, [], ◌∷◌, Option, Some, option_map, Result, Err, Ordering, Less, Equal, Greater, nat_cmp, refl, ap, arith}
use Rattle.std.specs.Ordering.{match_ordering}
use Rattle.std.specs.Cmp.Lexicographic.{slice_cmp}
use Rattle.serde_json.specs.Data.{Data, null, boolean, number, string, array, object, Items, Members, no_members, member, depth, items_depth, members_depth}
use Rattle.std.proofs.Common.{suc, zero, length, get_or}
use Rattle.std.specs.Option.{option_map_or}
use Rattle.serde_json.specs.Find.{get, get_member, as_array}
use Rattle.serde_json.specs.View.{view, items_view}
use Rattle.serde_json.specs.declared.value.Value.{Value}
use Rattle.json_form.specs.Reading.{only_keys}
use Rattle.json_form.specs.declared.fault.JobFault.{JobFault}
use Rattle.json_form.specs.declared.fault.JobFault.TheVariants.{WrongKind}
use Rattle.device_tree.specs.StepTree.{StepTree, no_steps}
use Rattle.device_tree.specs.StepsReading.{step_with, control_step, steps_in, items_in, step_in, control_in}

control_at : (o : Ordering) (found : Option (Result StepTree JobFault)) (d : Data) (rest : Option Data) → found ≡ option_map steps_in rest
    → match_ordering o found (Some (steps_in d)) found ≡ option_map steps_in (match_ordering o rest (Some d) rest)
control_at Less found d rest e = e
control_at Equal found d rest e = refl
control_at Greater found d rest e = e

control_in-get : (ms : Members) → control_in ms ≡ option_map steps_in (get_member (codes "control") ms)
unfolding control_in
control_in-get no_members = refl
control_in-get (member k d ms) = control_at (slice_cmp nat_cmp (codes "control") k) (control_in ms) d (get_member (codes "control") ms) (control_in-get ms)

-- a step is read by its members
pub step_in-open : (d : Data) → step_in d ≡ step_with (option_map steps_in (get (codes "control") d)) d
unfolding step_in step_with control_step only_keys
step_in-open null = refl
step_in-open (boolean b) = refl
step_in-open (number n) = refl
step_in-open (string s) = refl
step_in-open (array ds) = refl
step_in-open (object ms) = ap (λ inner. step_with inner (object ms)) (control_in-get ms)

pub steps_in-open : (d : Data) → steps_in d ≡ option_map_or (items_in no_steps) (as_array d) (Err (WrongKind []))
unfolding steps_in
steps_in-open null = refl
steps_in-open (boolean b) = refl
steps_in-open (number n) = refl
steps_in-open (string s) = refl
steps_in-open (array ds) = refl
steps_in-open (object ms) = refl

pub ruleset opening = (step_in-open, steps_in-open)

-- ---- what lies inside is less deep

below_member : (o : Ordering) (rest : Option Data) (d e : Data) (n : ℕ) → (rest ≡ Some e → depth e ≤ n) → match_ordering o rest (Some d) rest ≡ Some e → depth e ≤ max (depth d) n
below_member Less rest d e n h is = omega (arith, h is)
below_member Equal rest d e n h is = let same : d ≡ e = cc in omega (arith, ap depth same)
below_member Greater rest d e n h is = omega (arith, h is)

get_member_below : (k : List ℕ) (ms : Members) (e : Data) → get_member k ms ≡ Some e → depth e ≤ members_depth ms
get_member_below k no_members e is = absurd cc
get_member_below k (member l d ms) e is = below_member (slice_cmp nat_cmp k l) (get_member k ms) d e (members_depth ms) (get_member_below k ms e) is

pub get_below : (k : List ℕ) (d e : Data) → get k d ≡ Some e → depth e < depth d
get_below k null e is = absurd cc
get_below k (boolean b) e is = absurd cc
get_below k (number n) e is = absurd cc
get_below k (string s) e is = absurd cc
get_below k (array ds) e is = absurd cc
get_below k (object ms) e is = omega (arith, get_member_below k ms e is)

pub item_below : (vs : List Value) (i : ℕ) (v : Value) → i < length vs → depth (view (get_or vs i v)) ≤ items_depth (items_view vs)
item_below [] i v h = absurd (omega arith)
item_below (w ∷ vs) zero v h = omega arith
item_below (w ∷ vs) (suc i) v h = let lt : i < length vs = omega arith in omega (arith, item_below vs i v lt)

pub array_depth : (d : Data) (ds : Items) → as_array d ≡ Some ds → depth d ≡ suc (items_depth ds)
array_depth null ds is = absurd cc
array_depth (boolean b) ds is = absurd cc
array_depth (number n) ds is = absurd cc
array_depth (string s) ds is = absurd cc
array_depth (array es) ds is = let same : es ≡ ds = cc in ap (λ xs. suc (items_depth xs)) same
array_depth (object ms) ds is = absurd cc
