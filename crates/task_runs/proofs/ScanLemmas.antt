-- A scan, by how far its sequel has come.
use Rattle.std.proofs.Common.{◌≡◌, ◌∙◌, ◌⊎◌, inl, inr, ℕ, ◌+◌, List, [], ◌∷◌, ◌++◌, append_assoc, append-nil, codes, decimal, length, Option, None, Some, Err, refl, sym, ap, subst, arith}
use Rattle.std.specs.Io.KnownBytes.{Appends}
use Rattle.std.proofs.KnownBytes.{Appends-nil}
use Rattle.std.specs.Prelude.{MatchOption, option_map}
use Rattle.std.proofs.lemmas.List.{length-append}
use Rattle.std.proofs.lemmas.Option.{same_Some}
use Rattle.hex.specs.Hex.{encode_lower}
use Rattle.text_lines.specs.Hex.{hex8}
use Rattle.target_calls.specs.Asks.{settled_last}
use Rattle.target_calls.specs.World.{World, later_by, stop, world_after}
use Rattle.target_calls.specs.declared.calls.Ask.{Ask}
use Rattle.target_calls.proofs.CallLists.{append_stop}
use Rattle.target_calls.proofs.MarkLemmas.{length_marked}
use Rattle.access_calls.specs.declared.stop.Stop.{Stop}
use Rattle.access_calls.specs.declared.stop.Stop.TheVariants.{Cut, BenchFault, ReplyBad, OutOfMemory}
use Rattle.access_calls.specs.declared.stop.StopCause.{StopCause}
use Rattle.access_calls.specs.declared.stop.StopCause.TheVariants.{Faulted, NoAnswer}
use Rattle.function_calls.specs.Lines.{AppendsLines, AreWholeLines, empty, ended}
use Rattle.sequels.specs.Meeting as meeting
use Rattle.sequels.specs.Sequel.{Comes, Sequel, Ends, followed_by, comes}
use Rattle.sequels.specs.Laws.{rest_by}
use Rattle.sequels.specs.declared.close.Close.{Close}
use Rattle.sequels.proofs.LimitLemmas.{from_same}
use Rattle.sequels.proofs.SequelLemmas.{after_comes, stops_by_end}
use Rattle.rom_scan.specs.Components.{component_details, component_line}
use Rattle.rom_scan.specs.Listing.{component_lines}
use Rattle.rom_scan.specs.Meets.{Finished, StopsIn, StopsInFinish}
use Rattle.rom_scan.specs.Scans.{Scans}
use Rattle.rom_scan.specs.Walk.{Walked, scanned_port}
use Rattle.rom_scan.specs.Written.{AppendsComponents}
use Rattle.rom_scan.specs.declared.component.Component.{Component}
use Rattle.rom_scan.specs.declared.component.ComponentId.{ComponentId}
use Rattle.rom_scan.specs.declared.scan_end.ScanEnd.{ScanEnd}
use Rattle.task_runs.specs.Following.{CameToEnd, FollowsAs, LeftInMiddle, SequelStopsAt, Shares}
use Rattle.task_runs.specs.Tasks.{scan_close, scanning}
use Rattle.task_runs.specs.declared.following.Unclosed.TheVariants as unclosed

-- ---- lines

known_ended : (known : Option ComponentId) (depth : ℕ) → (front : List ℕ) × (component_details known depth ≡ front ++ codes "\n")
known_ended None depth = (codes " unknown depth " ++ decimal depth, refl)
known_ended (Some k) depth = (codes " class " ++ decimal k.class ++ codes " depth " ++ decimal depth ++ codes " id 0x" ++ encode_lower k.id, refl)

line_ended : (c : Component) → (front : List ℕ) × (component_line c ≡ front ++ codes "\n")
line_ended c =
    let k = known_ended c.known c.depth in
    let front = codes "component " ++ hex8 c.address in
    (front ++ k.0, ap (λ (l : List ℕ). front ++ l) k.1 ∙ sym (append_assoc front k.0 (codes "\n")))

are_lines : (cs : List Component) → AreWholeLines (component_lines cs)
are_lines [] = empty refl
are_lines (c ∷ cs) = one (are_lines cs)
  where
    one : AreWholeLines (component_lines cs) → AreWholeLines (component_line c ++ component_lines cs)
    one (empty none) = (let k = line_ended c in ended k.0 (ap (λ (l : List ℕ). component_line c ++ l) none ∙ append-nil (component_line c) ∙ k.1))
    one (ended front is) = ended (component_line c ++ front) (ap (λ (l : List ℕ). component_line c ++ l) is ∙ sym (append_assoc (component_line c) front (codes "\n")))

-- the lines of components are whole lines
pub whole_lines : (old new : Option (List ℕ)) → AppendsComponents old new → AppendsLines old new
whole_lines old new h = record { text = component_lines h.components; whole = are_lines h.components; appends = h.appends }

-- ---- a scan, and how it closes

-- what comes of a sequel whose end stands for another
pub closed_comes : {X : Type 0} (u : World) (s : Sequel X) (f : X → Close) → comes u (followed_by s (λ x. Ends (f x))) ≡ record { calls = (comes u s).calls; written = (comes u s).written; end = option_map f (comes u s).end }
closed_comes {X = X} u s f = after_comes u s (λ x. Ends (f x)) ∙ by_end (comes u s).end
  where
    by_end : (end : Option X) → rest_by u (comes u s).calls (comes u s).written end (λ x. Ends (f x)) ≡ record { calls = (comes u s).calls; written = (comes u s).written; end = option_map f end }
    by_end None = refl
    by_end (Some x) = rw (append-nil (comes u s).calls, append-nil (comes u s).written) refl

module _ (w : World) (n : ℕ) (old : List Ask) where
  abbrev s : Sequel Walked
  s = scanned_port 1024 n

  abbrev c : Comes Close
  c = comes (world_after w old) (scanning n)

  is : c ≡ record { calls = (comes (world_after w old) s).calls; written = (comes (world_after w old) s).written; end = option_map scan_close (comes (world_after w old) s).end }
  is = closed_comes (world_after w old) s scan_close

  calls_are : c.calls ≡ (comes (world_after w old) s).calls
  calls_are = ap (λ (z : Comes Close). z.calls) is

  written_is : c.written ≡ (comes (world_after w old) s).written
  written_is = ap (λ (z : Comes Close). z.written) is

  end_is : c.end ≡ option_map scan_close (comes (world_after w old) s).end
  end_is = ap (λ (z : Comes Close). z.end) is

  pub came : (x : Walked) (new : List Ask) (before now : Option (List ℕ)) → Finished w s old new before now x → CameToEnd c old new before now (scan_close x)
  came x new before now h = record {
    end = end_is ∙ ap (λ (z : Comes Walked). option_map scan_close z.end) h.gave.ends.is;
    calls = h.marked ∙ ap settled_last (h.gave.calls ∙ ap (λ (l : List Ask). old ++ l) (sym (calls_are ∙ ap (λ (z : Comes Walked). z.calls) h.gave.ends.is)));
    written = subst (λ (l : List ℕ). Appends before now l) (sym (written_is ∙ ap (λ (z : Comes Walked). z.written) h.gave.ends.is)) h.gave.written;
  }

  left_shares : (new : List Ask) (before now : Option (List ℕ)) → meeting.LeftOff w s old new before now → Shares c old new
  left_shares new before now h = record {
    all = old ++ c.calls;
    ours = record { more = h.later; so = inl (ap (λ (l : List Ask). old ++ l) (calls_are ∙ h.calls_are) ∙ sym (append_assoc old h.more h.later) ∙ ap (λ (l : List Ask). l ++ h.later) (sym h.calls)) };
    theirs = from_same (old ++ c.calls);
    only = λ x e. omega arith;
  }

  pub left_off : (new : List Ask) (before now : Option (List ℕ)) → meeting.LeftOff w s old new before now → LeftInMiddle c old new before now
  left_off new before now h = record { part = h.lines; rest = h.further; lines = written_is ∙ h.lines_are; written = h.written; calls = left_shares new before now h }

  -- the settling after it
  end_shares : (x : Walked) (new : List Ask) (before now : Option (List ℕ)) → Finished w s old new before now x → Shares c old new
  end_shares x new before now h =
      let k = came x new before now h in
      record {
        all = new;
        ours = from_same new;
        theirs = record { more = []; so = inr (k.calls ∙ sym (append-nil (settled_last (old ++ c.calls)))) };
        only = λ y e. (let long = ap length k.calls ∙ length_marked (old ++ c.calls) in omega (arith, long));
      }

  left_settling : (x : Walked) (new : List Ask) (before now : Option (List ℕ)) → Finished w s old new before now x → LeftInMiddle c old new before now
  left_settling x new before now h = record { part = c.written; rest = []; lines = sym (append-nil c.written); written = (came x new before now h).written; calls = end_shares x new before now h }

  -- where its calls stop
  cut_count : (lines : ℕ) (new : List Ask) (before now : Option (List ℕ)) → stop w old ≡ None → meeting.CutOff w s old new before now → stop w new ≡ Some (lines + 1) → (c.end ≡ None) × (length (old ++ c.calls) ≡ lines + 1)
  cut_count lines new before now whole h stops =
      let none : (comes (world_after w old) s).end ≡ None = ap (λ (z : Comes Walked). z.end) h.is in
      let there : stop (world_after w old) (comes (world_after w old) s).calls ≡ Some (length (comes (world_after w old) s).calls) =
      subst (λ (e : Option Walked). MatchOption e (stop (world_after w old) (comes (world_after w old) s).calls ≡ Some (length (comes (world_after w old) s).calls)) (λ x. stop (world_after w old) (comes (world_after w old) s).calls ≡ None)) none
      (stops_by_end (world_after w old) s).so in
      let same : new ≡ old ++ (comes (world_after w old) s).calls = h.calls ∙ ap (λ (z : Comes Walked). old ++ z.calls) (sym h.is) in
      let at : Some (length old + length (comes (world_after w old) s).calls) ≡ Some (lines + 1) =
      sym (ap (stop w) same ∙ append_stop w old (comes (world_after w old) s).calls whole ∙ ap (later_by (length old)) there) ∙ stops in (
        end_is ∙ ap (option_map scan_close) none,
        ap (λ (l : List Ask). length (old ++ l)) calls_are ∙ length-append old (comes (world_after w old) s).calls ∙ same_Some (length old + length (comes (world_after w old) s).calls) (lines + 1) at,
      )

  stops_by : (cause : StopCause) (lines : ℕ) → (c.end ≡ None) × (length (old ++ c.calls) ≡ lines + 1) → SequelStopsAt cause lines c old
  stops_by Faulted lines h = h
  stops_by NoAnswer lines h = inl h

  stops_after : (cause : StopCause) (lines : ℕ) (x : Walked) (new : List Ask) (before now : Option (List ℕ)) → cause ≡ NoAnswer → lines ≡ length new → Finished w s old new before now x → SequelStopsAt cause lines c old
  stops_after cause lines x new before now why count h =
      let k = came x new before now h in
      subst (λ (y : StopCause). SequelStopsAt y lines c old) (sym why)
      (inr (scan_close x, k.end, (let long = ap length k.calls ∙ length_marked (old ++ c.calls) in sym long ∙ sym count)))

  cut_lines : (new : List Ask) (before now : Option (List ℕ)) → meeting.CutOff w s old new before now → Appends before now c.written
  cut_lines new before now h = subst (λ (l : List ℕ). Appends before now l) (sym (written_is ∙ ap (λ (z : Comes Walked). z.written) h.is)) h.written

  -- the access stopped
  pub stopped : (st : Stop) (lines : ℕ) (new : List Ask) (before now : Option (List ℕ)) → stop w old ≡ None → StopsIn w lines s old new before now st ⊎ StopsInFinish w lines s old new before now st
      → FollowsAs lines c (Err (unclosed.Stopped st)) old new before now
  stopped (Cut r) lines new before now whole (inl h) =
      record { stops = stops_by r.cause lines (cut_count lines new before now whole h.cut.0 h.cut.1); written = cut_lines new before now h.cut.0; calls = left_shares new before now h.left }
  stopped (Cut r) lines new before now whole (inr h) =
      record { stops = stops_after r.cause lines h.x new before now h.cut.0 h.cut.1 h.finished; written = (came h.x new before now h.finished).written; calls = end_shares h.x new before now h.finished }
  stopped (BenchFault issued confirmed) lines new before now whole (inl h) = left_off new before now h.left
  stopped (BenchFault issued confirmed) lines new before now whole (inr h) = left_settling h.x new before now h.finished
  stopped ReplyBad lines new before now whole (inl h) = left_off new before now h.left
  stopped ReplyBad lines new before now whole (inr h) = left_settling h.x new before now h.finished
  stopped OutOfMemory lines new before now whole (inl h) = left_off new before now h.left
  stopped OutOfMemory lines new before now whole (inr h) = left_settling h.x new before now h.finished

-- nothing was asked
pub left_here : (c : Comes Close) (old : List Ask) (written : Option (List ℕ)) → LeftInMiddle c old old written written
left_here c old written = record {
  part = [];
  rest = c.written;
  lines = refl;
  written = Appends-nil written;
  calls = record { all = old ++ c.calls; ours = record { more = c.calls; so = inl refl }; theirs = from_same (old ++ c.calls); only = λ x e. omega arith };
}

-- the same end under another name
pub scans_at : (w : World) (lines n : ℕ) (x y : ScanEnd) (old new : List Ask) (before now : Option (List ℕ)) → x ≡ y → Scans w lines n (Err x) old new before now → Scans w lines n (Err y) old new before now
scans_at w lines n x y old new before now is h = subst (λ (k : ScanEnd). Scans w lines n (Err k) old new before now) is h
