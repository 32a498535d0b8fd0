-- A load, by how far its sequel has come.
use Rattle.std.proofs.Common.{◌≡◌, ◌∙◌, ◌⊎◌, inl, inr, ℕ, ◌+◌, ◌≤◌, true, false, List, [], ◌++◌, append_assoc, append-nil, length, take, drop, Option, None, Some, Err, refl, sym, ap, subst, arith}
use Rattle.std.specs.Io.KnownBytes.{Appends}
use Rattle.std.proofs.KnownBytes.{Appends-nil}
use Rattle.std.proofs.lemmas.List.{length-append, length-map, length-take-le, take-append-drop}
use Rattle.hex_image.specs.Image.{Bytes}
use Rattle.target_calls.specs.Asks.{settled_last}
use Rattle.target_calls.specs.World.{World, stop, world_after}
use Rattle.target_calls.specs.declared.calls.Ask.{Ask}
use Rattle.target_calls.proofs.MarkLemmas.{length_marked}
use Rattle.access_calls.specs.declared.stop.Stop.{Stop}
use Rattle.access_calls.specs.declared.stop.Stop.TheVariants.{Cut, BenchFault, ReplyBad, OutOfMemory}
use Rattle.access_calls.specs.declared.stop.StopCause.{StopCause}
use Rattle.access_calls.specs.declared.stop.StopCause.TheVariants.{Faulted, NoAnswer}
use Rattle.sequels.specs.Sequel.{Comes, comes}
use Rattle.sequels.specs.declared.close.Close.{Close}
use Rattle.sequels.proofs.LimitLemmas.{from_on}
use Rattle.image_load.specs.Loading.{AskedPart, AsksLoad}
use Rattle.image_load.specs.LoadSequel.{load_close, load_sequel}
use Rattle.image_load.specs.Meets.{GivesAll, IsLoad, MeetsCut, MeetsSequel}
use Rattle.image_load.specs.Meets as meets
use Rattle.image_load.specs.Pieces.{asked_all, load_calls, piece_ask, pieces}
use Rattle.image_load.specs.declared.ends.LoadEnd.{LoadEnd}
use Rattle.image_load.specs.declared.ends.LoadEnd.TheVariants as e
use Rattle.image_load.specs.declared.ends.Loaded.{Loaded}
use Rattle.image_load.proofs.SequelLemmas.{comes_stopped, comes_whole}
use Rattle.task_runs.specs.Following.{CameToEnd, FollowsAs, LeftInMiddle, SequelStopsAt, Shares}
use Rattle.task_runs.specs.declared.following.Unclosed.TheVariants as unclosed

pub no_end : {A : Type 0} (x : A) (o : Option A) → o ≡ None → o ≡ Some x → ⊥
no_end x o none some = (let bad : None ≡ Some x = sym none ∙ some in cc)

module _ (w : World) (ap' : ℕ) (image : Bytes) (old : List Ask) where
  abbrev calls : List Ask
  calls = load_calls ap' (pieces image)

  abbrev c : Comes Close
  c = comes (world_after w old) (load_sequel ap' image)

  -- The calls of the sequel are the first of those of the load, all of them where it has an end. It writes nothing.
  record Front : Type 0 where
    rest : List Ask
    parts : load_calls ap' (pieces image) ≡ (comes (world_after w old) (load_sequel ap' image)).calls ++ rest
    written : (comes (world_after w old) (load_sequel ap' image)).written ≡ []
    all : (x : Close) → (comes (world_after w old) (load_sequel ap' image)).end ≡ Some x → rest ≡ []

  front : Front
  front = by_stop (stop (world_after w old) calls) refl
    where
      by_stop : (at : Option ℕ) → stop (world_after w old) calls ≡ at → Front
      by_stop None h =
          let is = comes_whole (world_after w old) calls (load_close image) h in
          record { rest = []; parts = rw is (sym (append-nil calls)); written = rw is refl; all = λ x e. refl }
      by_stop (Some k) h =
          let is = comes_stopped (world_after w old) calls (load_close image) k h in
          record { rest = drop k calls; parts = rw is (sym (take-append-drop k calls)); written = rw is refl; all = λ x e. absurd (no_end x c.end (ap (λ (z : Comes Close). z.end) is) e) }

  parts_of : old ++ calls ≡ (old ++ c.calls) ++ front.rest
  parts_of = ap (λ (l : List Ask). old ++ l) front.parts ∙ sym (append_assoc old c.calls front.rest)

  no_more : (x : Close) → c.end ≡ Some x → length (old ++ calls) ≤ length (old ++ c.calls)
  no_more x e =
      let long = ap length parts_of ∙ length-append (old ++ c.calls) front.rest in
      let none : length front.rest ≡ 0 = ap length (front.all x e) in
      omega (arith, long, none)

  -- what was asked has its place in all calls of the load
  shares : (new : List Ask) → AskedPart calls old new ⊎ (new ≡ settled_last (old ++ calls)) → Shares c old new
  shares new (inl p) = record {
    all = old ++ calls;
    ours = record { more = p.rest; so = inl (ap (λ (l : List Ask). old ++ l) p.whole ∙ sym (append_assoc old p.part p.rest) ∙ ap (λ (l : List Ask). l ++ p.rest) (sym p.asked)) };
    theirs = record { more = front.rest; so = inl parts_of };
    only = no_more;
  }
  shares new (inr is) = record {
    all = settled_last (old ++ calls);
    ours = record { more = []; so = inl (sym is ∙ sym (append-nil new)) };
    theirs = from_on (old ++ c.calls) (old ++ calls) (settled_last (old ++ calls)) (record { more = front.rest; so = inl parts_of }) (record { more = []; so = inr (sym (append-nil (settled_last (old ++ calls)))) });
    only = λ x e. (let few = no_more x e in let same = length_marked (old ++ calls) in omega (arith, few, same));
  }

  unwritten : (written : Option (List ℕ)) → Appends written written c.written
  unwritten written = subst (λ (l : List ℕ). Appends written written l) (sym front.written) (Appends-nil written)

  pub left_off : (new : List Ask) (written : Option (List ℕ)) → AskedPart calls old new ⊎ (new ≡ settled_last (old ++ calls)) → LeftInMiddle c old new written written
  left_off new written asked = record { part = []; rest = []; lines = front.written; written = Appends-nil written; calls = shares new asked }

  pub came : (x : Close) (new : List Ask) (written : Option (List ℕ)) → GivesAll w ap' image old x → new ≡ settled_last (old ++ calls) → CameToEnd c old new written written x
  came x new written gives is =
      let g = gives written in
      record {
        end = ap (λ (z : Comes Close). z.end) g.ends.is;
        calls = is ∙ ap settled_last (g.calls ∙ ap (λ (z : Comes Close). old ++ z.calls) (sym g.ends.is));
        written = unwritten written;
      }

  stops_there : (lines : ℕ) → meets.LoadStopsAt w ap' image old lines → (c.end ≡ None) × (length (old ++ c.calls) ≡ lines + 1)
  stops_there lines h =
      let k = h.cut None in
      let same : old ++ c.calls ≡ take (lines + 1) (old ++ calls) = ap (λ (z : Comes Close). old ++ z.calls) k.is ∙ sym k.calls in
      let few = h.within in
      (ap (λ (z : Comes Close). z.end) k.is, ap length same ∙ length-take-le (lines + 1) (old ++ calls) few)

  ends_there : (lines : ℕ) (h : meets.EndsAfter w ap' image old lines) → (x : Close) × (c.end ≡ Some x) × (length (old ++ c.calls) ≡ lines)
  ends_there lines h =
      let g = h.gives None in
      (h.end, ap (λ (z : Comes Close). z.end) g.ends.is, ap (λ (z : Comes Close). length (old ++ z.calls)) g.ends.is ∙ ap length (sym g.calls) ∙ sym h.count)

  stops_by : (cause : StopCause) (lines : ℕ) → MeetsCut cause w ap' image old lines → SequelStopsAt cause lines c old
  stops_by Faulted lines h = stops_there lines h
  stops_by NoAnswer lines (inl h) = inl (stops_there lines h)
  stops_by NoAnswer lines (inr h) = inr (ends_there lines h)

  -- where the access stopped
  pub stopped : (s : Stop) (lines : ℕ) (new : List Ask) (written : Option (List ℕ)) → MeetsSequel w ap' image (Err (e.Stop s)) old lines → AskedPart calls old new ⊎ (new ≡ settled_last (old ++ calls))
      → FollowsAs lines c (Err (unclosed.Stopped s)) old new written written
  stopped (Cut r) lines new written h asked = record { stops = stops_by r.cause lines h; written = unwritten written; calls = shares new asked }
  stopped (BenchFault issued confirmed) lines new written h asked = left_off new written asked
  stopped ReplyBad lines new written h asked = left_off new written asked
  stopped OutOfMemory lines new written h asked = left_off new written asked

-- how many calls a load has
pub load_count : (ap' : ℕ) (image : Bytes) → length (load_calls ap' (pieces image)) ≡ length (pieces image) + length (pieces image)
load_count ap' image = length-append (asked_all false ap' (pieces image)) (asked_all true ap' (pieces image))
    ∙ (let a = length-map (pieces image) (piece_ask false ap') in let b = length-map (pieces image) (piece_ask true ap') in omega (arith, a, b))

pub load_units : (old new : List Ask) (ap' : ℕ) (image : Bytes) (writes : ℕ) → new ≡ settled_last (old ++ load_calls ap' (pieces image)) → writes ≡ length (pieces image) → length new ≡ length old + (writes + writes)
load_units old new ap' image writes is count =
    let long = ap length is ∙ length_marked (old ++ load_calls ap' (pieces image)) ∙ length-append old (load_calls ap' (pieces image)) in
    let calls = load_count ap' image in
    omega (arith, long, calls, count)

-- ---- the same end under another name

pub load_as : (w : World) (ap' : ℕ) (image : Bytes) (x y : LoadEnd) (old new : List Ask) (lines : ℕ) → x ≡ y → IsLoad w ap' image (Err x) old new lines → IsLoad w ap' image (Err y) old new lines
load_as w ap' image x y old new lines is h = subst (λ (k : LoadEnd). IsLoad w ap' image (Err k) old new lines) is h

pub asks_as : (x y : LoadEnd) (calls old new : List Ask) → x ≡ y → AsksLoad {A = Loaded} (Err x) calls old new → AsksLoad {A = Loaded} (Err y) calls old new
asks_as x y calls old new is h = subst (λ (k : LoadEnd). AsksLoad {A = Loaded} (Err k) calls old new) is h
