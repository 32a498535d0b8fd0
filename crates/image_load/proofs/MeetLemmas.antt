-- What a load answered is what its sequel comes to.
use Rattle.std.proofs.Common.{◌≡◌, ◌∙◌, ◌⊎◌, inl, inr, ℕ, zero, suc, ◌+◌, List, [], ◌∷◌, ◌++◌, append_assoc, append-nil, length, take, drop, Option, None, Some, Result, Ok, Err, refl, sym, ap, subst, arith}
use Rattle.std.proofs.KnownBytes.{Appends-nil}
use Rattle.hex_image.specs.Image.{Bytes}
use Rattle.target_calls.specs.Asks.{settled_last}
use Rattle.target_calls.specs.World.{World, later_by, results, stop, world_after}
use Rattle.target_calls.specs.declared.calls.Ask.{Ask}
use Rattle.target_calls.proofs.CallLists.{append_stop, count_within, stop_stays}
use Rattle.target_calls.proofs.MarkLemmas.{length_marked, stop_marked}
use Rattle.access_calls.specs.declared.stop.Stop.TheVariants.{Cut, BenchFault, ReplyBad, OutOfMemory}
use Rattle.access_calls.specs.declared.stop.StopCause.{StopCause}
use Rattle.access_calls.specs.declared.stop.StopCause.TheVariants.{Faulted, NoAnswer}
use Rattle.sequels.specs.declared.close.Close.{Close}
use Rattle.sequels.specs.declared.close.Close.TheVariants as close
use Rattle.image_load.specs.Loading.{AskedPart, StopsAtCut}
use Rattle.image_load.specs.LoadSequel.{close_by, load_close}
use Rattle.image_load.specs.Meets.{GivesAll, IsFrontOf, IsLoad, LoadStopsAt, MeetsCut, MeetsSequel}
use Rattle.image_load.specs.Pieces.{load_calls, pieces}
use Rattle.image_load.specs.declared.ends.LoadEnd.{LoadEnd}
use Rattle.image_load.specs.declared.ends.LoadEnd.TheVariants as e
use Rattle.image_load.specs.declared.ends.Loaded.{Loaded}
use Rattle.image_load.specs.declared.piece.Difference.{Difference}
use Rattle.image_load.proofs.SequelLemmas.{comes_stopped, comes_whole}

none_later : (n : ℕ) (at : Option ℕ) → later_by n at ≡ None → at ≡ None
none_later n None h = refl
none_later n (Some k) h = absurd cc

some_later : (n k : ℕ) (at : Option ℕ) → later_by n at ≡ Some k → (j : ℕ) × ((at ≡ Some j) × (n + j ≡ k))
some_later n k None h = absurd cc
some_later n k (Some j) h = (j, (refl, cc))

take_past : {A : Type 0} (xs ys : List A) (k : ℕ) → take (length xs + k) (xs ++ ys) ≡ xs ++ take k ys
take_past [] ys k = (let same : 0 + k ≡ k = omega arith in ap (λ (n : ℕ). take n ys) same)
take_past (x ∷ xs) ys k =
    (let same : suc (length xs) + k ≡ suc (length xs + k) = omega arith in ap (λ (n : ℕ). take n (x ∷ xs ++ ys)) same)
    ∙ ap (λ (l : List _). x ∷ l) (take_past xs ys k)

take_drop : {A : Type 0} (k : ℕ) (xs : List A) → xs ≡ take k xs ++ drop k xs
take_drop zero xs = refl
take_drop (suc k) [] = refl
take_drop (suc k) (x ∷ xs) = ap (λ (l : List _). x ∷ l) (take_drop k xs)

module _ (w : World) (ap' : ℕ) (image : Bytes) (old : List Ask) (whole : stop w old ≡ None) where
  abbrev calls : List Ask
  calls = load_calls ap' (pieces image)

  abbrev u : World
  u = world_after w old

  -- where none of the calls stops
  goes : stop w (old ++ calls) ≡ None → stop u calls ≡ None
  goes h = none_later (length old) (stop u calls) (sym (append_stop w old calls whole) ∙ h)

  gives : stop w (old ++ calls) ≡ None → GivesAll w ap' image old (load_close image (results u calls))
  gives h = λ written.
      record {
        more = calls;
        lines = [];
        calls = refl;
        written = Appends-nil written;
        ends = record { is = comes_whole u calls (load_close image) (goes h); goes = goes h };
      }

  gives_as : (x : Close) → stop w (old ++ calls) ≡ None → load_close image (results u calls) ≡ x → GivesAll w ap' image old x
  gives_as x h same = subst (λ (c : Close). GivesAll w ap' image old c) same (gives h)

  marked_goes : (new : List Ask) → new ≡ settled_last (old ++ calls) → stop w new ≡ None → stop w (old ++ calls) ≡ None
  marked_goes new is none = sym (stop_marked w (old ++ calls)) ∙ ap (stop w) (sym is) ∙ none

  -- where one of them stops
  stops : (lines : ℕ) → stop w (old ++ calls) ≡ Some (lines + 1) → LoadStopsAt w ap' image old lines
  stops lines h =
      let at = some_later (length old) (lines + 1) (stop u calls) (sym (append_stop w old calls whole) ∙ h) in
      record {
        cut = λ written. record {
          more = take at.0 calls;
          lines = [];
          calls = ap (λ (n : ℕ). take n (old ++ calls)) (sym at.1.1) ∙ take_past old calls at.0;
          written = Appends-nil written;
          is = comes_stopped u calls (load_close image) at.0 at.1.0;
        };
        within = count_within w (old ++ calls) (lines + 1) h;
      }

  stops_all : (new : List Ask) (k : ℕ) → AskedPart calls old new ⊎ (new ≡ settled_last (old ++ calls)) → stop w new ≡ Some k → stop w (old ++ calls) ≡ Some k
  stops_all new k (inl p) h =
      ap (λ (l : List Ask). stop w (old ++ l)) p.whole
      ∙ ap (stop w) (sym (append_assoc old p.part p.rest))
      ∙ stop_stays w (old ++ p.part) p.rest k (ap (stop w) (sym p.asked) ∙ h)
  stops_all new k (inr is) h = sym (stop_marked w (old ++ calls)) ∙ ap (stop w) (sym is) ∙ h

  cut : (cause : StopCause) (new : List Ask) (lines : ℕ) → AskedPart calls old new ⊎ (new ≡ settled_last (old ++ calls)) → StopsAtCut cause w calls old new lines → MeetsCut cause w ap' image old lines
  cut Faulted new lines asked h = stops lines (stops_all new (lines + 1) asked h)
  cut NoAnswer new lines asked (inl h) = inl (stops lines (stops_all new (lines + 1) asked h))
  cut NoAnswer new lines asked (inr h) = inr (record {
    end = load_close image (results u calls);
    gives = gives (marked_goes new h.asked h.goes);
    count = h.count ∙ ap length h.asked ∙ length_marked (old ++ calls);
  })

  front : IsFrontOf w ap' image old
  front = by_stop (stop u calls) refl
    where
      by_stop : (at : Option ℕ) → stop u calls ≡ at → IsFrontOf w ap' image old
      by_stop None h = (let is = comes_whole u calls (load_close image) h in record { rest = []; calls = rw is (sym (append-nil calls)); written = rw is refl })
      by_stop (Some k) h = (let is = comes_stopped u calls (load_close image) k h in record { rest = drop k calls; calls = rw is (take_drop k calls); written = rw is refl })

  counted : (l : Loaded) → (l.bytes ≡ length image) × (l.writes ≡ length (pieces image)) → close.Loaded (length image) (length (pieces image)) ≡ close.Loaded l.bytes l.writes
  counted l h = rw (h.0, h.1) refl

  pub meets : (result : Result Loaded LoadEnd) (new : List Ask) (lines : ℕ) → IsLoad w ap' image result old new lines → MeetsSequel w ap' image result old lines
  meets (Ok l) new lines h =
      gives_as (close.Loaded l.bytes l.writes) (marked_goes new h.asks h.stops) (ap (λ (d : Option Difference). close_by (length image) (length (pieces image)) d) h.loads ∙ counted l h.counts)
  meets (Err (e.Differs address wanted found)) new lines h =
      gives_as (close.Differs address wanted found) (marked_goes new h.asks h.stops) (ap (λ (d : Option Difference). close_by (length image) (length (pieces image)) d) h.loads)
  meets (Err (e.Stop (Cut r))) new lines h = cut r.cause new lines h.asks h.stops
  meets (Err (e.Stop (BenchFault issued confirmed))) new lines h = front
  meets (Err (e.Stop ReplyBad)) new lines h = front
  meets (Err (e.Stop OutOfMemory)) new lines h = front
