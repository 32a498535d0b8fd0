-- How what was asked and written meets a sequel.
use Rattle.std.proofs.Common.{◌≡◌, ◌∙◌, ℕ, Bool, true, false, List, [], ◌∷◌, ◌++◌, append_assoc, append-nil, length, Option, None, Some, refl, sym, ap, subst}
use Rattle.std.specs.Io.KnownBytes.{Appends}
use Rattle.std.proofs.KnownBytes.{Appends-nil, Appends-trans}
use Rattle.target_calls.specs.World.{World, done_now, end_result, later_by, next_world, stops_here, stop, world_after}
use Rattle.target_calls.specs.declared.calls.Ask.{Ask}
use Rattle.target_calls.proofs.CallLists.{append_after, append_stop}
use Rattle.target_calls.proofs.OneCall.{one_goes}
use Rattle.sequels.specs.Sequel.{Sequel, Ends, Asks, Writes, Comes, followed_by, comes}
use Rattle.sequels.specs.Going.{GoesOn, joined_sequel}
use Rattle.sequels.specs.Laws.{rest_by}
use Rattle.sequels.specs.Meeting.{CutOff, Gave, LeftOff, Reaches}
use Rattle.sequels.proofs.SequelLemmas.{after_comes, goes_after, goes_call, goes_line, goes_nowhere, goes_on, goes_to_end}

-- ---- on

pub reaches_same : {X : Type 0} (w : World) (s : Sequel X) (calls : List Ask) (written : Option (List ℕ)) → Reaches w s calls calls written written s
reaches_same w s calls written = record { more = []; lines = []; calls = sym (append-nil calls); written = Appends-nil written; goes = goes_nowhere (world_after w calls) s }

pub whole_after : {X : Type 0} (w : World) (s rest : Sequel X) (old new : List Ask) (b n : Option (List ℕ)) → stop w old ≡ None → Reaches w s old new b n rest → stop w new ≡ None
whole_after w s rest old new b n whole r = ap (stop w) r.calls ∙ append_stop w old r.more whole ∙ ap (later_by (length old)) r.goes.goes

pub reaches_on : {X : Type 0} (w : World) (s rest last : Sequel X) (old mid new : List Ask) (b m n : Option (List ℕ)) → stop w old ≡ None
    → Reaches w s old mid b m rest → Reaches w rest mid new m n last → Reaches w s old new b n last
reaches_on w s rest last old mid new b m n whole r q = record {
  more = r.more ++ q.more;
  lines = r.lines ++ q.lines;
  calls = q.calls ∙ ap (λ (l : List Ask). l ++ q.more) r.calls ∙ append_assoc old r.more q.more;
  written = Appends-trans b m n r.lines q.lines r.written q.written;
  goes = goes_on (world_after w old) s r.more r.lines rest q.more q.lines last r.goes
      (subst (λ (u : World). GoesOn u rest q.more q.lines last) (ap (world_after w) r.calls ∙ append_after w old r.more whole) q.goes);
}

pub reaches_by : {X Y : Type 0} (w : World) (s : Sequel X) (f : X → Sequel Y) (x : X) (old new : List Ask) (b n : Option (List ℕ)) → Gave w s old new b n x → Reaches w (followed_by s f) old new b n (f x)
reaches_by w s f x old new b n g = record { more = g.more; lines = g.lines; calls = g.calls; written = g.written; goes = goes_after (world_after w old) s f g.more g.lines x g.ends }

pub gave_by : {X : Type 0} (w : World) (s : Sequel X) (x : X) (old new : List Ask) (b n : Option (List ℕ)) → Reaches w s old new b n (Ends x) → Gave w s old new b n x
gave_by w s x old new b n r = record { more = r.more; lines = r.lines; calls = r.calls; written = r.written; ends = goes_to_end (world_after w old) s r.more r.lines x r.goes }

pub reaches_line : {X : Type 0} (w : World) (line : List ℕ) (on : Sequel X) (calls : List Ask) (b n : Option (List ℕ)) → Appends b n line → Reaches w (Writes line on) calls calls b n on
reaches_line w line on calls b n put = record { more = []; lines = line; calls = sym (append-nil calls); written = put; goes = goes_line (world_after w calls) line on }

pub reaches_call : {X : Type 0} (w : World) (ask : Ask) (on : ℕ → Sequel X) (old : List Ask) (written : Option (List ℕ)) → stops_here (world_after w old) ask ≡ false
    → Reaches w (Asks ask on) old (old ++ ask ∷ []) written written (on (end_result (done_now (world_after w old) ask).end))
reaches_call w ask on old written goes = record { more = ask ∷ []; lines = []; calls = refl; written = Appends-nil written; goes = goes_call (world_after w old) ask on goes }

-- the same sequel under another name
pub reaches_as : {X : Type 0} (w : World) (s q rest : Sequel X) (old new : List Ask) (b n : Option (List ℕ)) → s ≡ q → Reaches w s old new b n rest → Reaches w q old new b n rest
reaches_as w s q rest old new b n same r = subst (λ (x : Sequel _). Reaches w x old new b n rest) same r

pub reaches_to : {X : Type 0} (w : World) (s rest last : Sequel X) (old new : List Ask) (b n : Option (List ℕ)) → rest ≡ last → Reaches w s old new b n rest → Reaches w s old new b n last
reaches_to w s rest last old new b n same r = subst (λ (x : Sequel _). Reaches w s old new b n x) same r

-- ---- left off

world_mid : {X : Type 0} (w : World) (s rest : Sequel X) (old mid : List Ask) (b m : Option (List ℕ)) → stop w old ≡ None → (r : Reaches w s old mid b m rest) → world_after w mid ≡ world_after (world_after w old) r.more
world_mid w s rest old mid b m whole r = ap (world_after w) r.calls ∙ append_after w old r.more whole

pub left_on : {X : Type 0} (w : World) (s rest : Sequel X) (old mid new : List Ask) (b m n : Option (List ℕ)) → stop w old ≡ None → Reaches w s old mid b m rest → LeftOff w rest mid new m n → LeftOff w s old new b n
left_on w s rest old mid new b m n whole r q =
    let at = world_mid w s rest old mid b m whole r in
    record {
      more = r.more ++ q.more;
      lines = r.lines ++ q.lines;
      later = q.later;
      further = q.further;
      calls = q.calls ∙ ap (λ (l : List Ask). l ++ q.more) r.calls ∙ append_assoc old r.more q.more;
      written = Appends-trans b m n r.lines q.lines r.written q.written;
      calls_are = ap (λ (c : Comes _). c.calls) r.goes.whole_is
          ∙ ap (λ (u : World). r.more ++ (comes u rest).calls) (sym at) ∙ ap (λ (l : List Ask). r.more ++ l) q.calls_are ∙ sym (append_assoc r.more q.more q.later);
      lines_are = ap (λ (c : Comes _). c.written) r.goes.whole_is
          ∙ ap (λ (u : World). r.lines ++ (comes u rest).written) (sym at) ∙ ap (λ (l : List ℕ). r.lines ++ l) q.lines_are ∙ sym (append_assoc r.lines q.lines q.further);
    }

pub cut_on : {X : Type 0} (w : World) (s rest : Sequel X) (old mid new : List Ask) (b m n : Option (List ℕ)) → stop w old ≡ None → Reaches w s old mid b m rest → CutOff w rest mid new m n → CutOff w s old new b n
cut_on w s rest old mid new b m n whole r q =
    let at = world_mid w s rest old mid b m whole r in
    record {
      more = r.more ++ q.more;
      lines = r.lines ++ q.lines;
      calls = q.calls ∙ ap (λ (l : List Ask). l ++ q.more) r.calls ∙ append_assoc old r.more q.more;
      written = Appends-trans b m n r.lines q.lines r.written q.written;
      is = r.goes.whole_is ∙ ap (λ (u : World). joined_sequel r.more r.lines (comes u rest)) (sym at) ∙ ap (joined_sequel r.more r.lines) q.is;
    }

-- the calls of the first of two sequels come first, and so do its lines
front_by : {X Y : Type 0} (u : World) (calls : List Ask) (lines : List ℕ) (end : Option X) (f : X → Sequel Y)
    → ((rest : List Ask) × ((rest_by u calls lines end f).calls ≡ calls ++ rest)) × ((rest : List ℕ) × ((rest_by u calls lines end f).written ≡ lines ++ rest))
front_by u calls lines None f = (([], sym (append-nil calls)), ([], sym (append-nil lines)))
front_by u calls lines (Some x) f = (((comes (world_after u calls) (f x)).calls, refl), ((comes (world_after u calls) (f x)).written, refl))

pub left_by : {X Y : Type 0} (w : World) (s : Sequel X) (f : X → Sequel Y) (old new : List Ask) (b n : Option (List ℕ)) → LeftOff w s old new b n → LeftOff w (followed_by s f) old new b n
left_by w s f old new b n q =
    let u : World = world_after w old in
    let front = front_by u (comes u s).calls (comes u s).written (comes u s).end f in
    record {
      more = q.more;
      lines = q.lines;
      later = q.later ++ front.0.0;
      further = q.further ++ front.1.0;
      calls = q.calls;
      written = q.written;
      calls_are = ap (λ (c : Comes _). c.calls) (after_comes u s f) ∙ front.0.1 ∙ ap (λ (l : List Ask). l ++ front.0.0) q.calls_are ∙ append_assoc q.more q.later front.0.0;
      lines_are = ap (λ (c : Comes _). c.written) (after_comes u s f) ∙ front.1.1 ∙ ap (λ (l : List ℕ). l ++ front.1.0) q.lines_are ∙ append_assoc q.lines q.further front.1.0;
    }

pub cut_by : {X Y : Type 0} (w : World) (s : Sequel X) (f : X → Sequel Y) (old new : List Ask) (b n : Option (List ℕ)) → CutOff w s old new b n → CutOff w (followed_by s f) old new b n
cut_by w s f old new b n q =
    let u : World = world_after w old in
    record {
      more = q.more;
      lines = q.lines;
      calls = q.calls;
      written = q.written;
      is = after_comes u s f ∙ ap (λ (c : Comes _). rest_by u c.calls c.written c.end f) q.is;
    }

-- nothing more was asked or written
pub left_here : {X : Type 0} (w : World) (s : Sequel X) (calls : List Ask) (written : Option (List ℕ)) → LeftOff w s calls calls written written
left_here w s calls written = record {
  more = [];
  lines = [];
  later = (comes (world_after w calls) s).calls;
  further = (comes (world_after w calls) s).written;
  calls = sym (append-nil calls);
  written = Appends-nil written;
  calls_are = refl;
  lines_are = refl;
}

-- a part of a line was written
pub left_line : {X : Type 0} (w : World) (line part rest : List ℕ) (on : Sequel X) (calls : List Ask) (b n : Option (List ℕ)) → line ≡ part ++ rest → Appends b n part → LeftOff w (Writes line on) calls calls b n
left_line w line part rest on calls b n parts put = record {
  more = [];
  lines = part;
  later = (comes (world_after w calls) on).calls;
  further = rest ++ (comes (world_after w calls) on).written;
  calls = sym (append-nil calls);
  written = put;
  calls_are = refl;
  lines_are = ap (λ (l : List ℕ). l ++ (comes (world_after w calls) on).written) parts ∙ append_assoc part rest (comes (world_after w calls) on).written;
}

-- a call was asked
pub left_call : {X : Type 0} (w : World) (ask : Ask) (on : ℕ → Sequel X) (calls : List Ask) (written : Option (List ℕ)) → LeftOff w (Asks ask on) calls (calls ++ ask ∷ []) written written
left_call {X = X} w ask on calls written = one (stops_here (world_after w calls) ask) refl
  where
    u : World
    u = world_after w calls

    one : (b : Bool) → stops_here u ask ≡ b → LeftOff w (Asks ask on) calls (calls ++ ask ∷ []) written written
    one true e = record { more = ask ∷ []; lines = []; later = []; further = []; calls = refl; written = Appends-nil written; calls_are = rw e refl; lines_are = rw e refl }
    one false e = record {
      more = ask ∷ [];
      lines = [];
      later = (comes (next_world u ask) (on (end_result (done_now u ask).end))).calls;
      further = (comes (next_world u ask) (on (end_result (done_now u ask).end))).written;
      calls = refl;
      written = Appends-nil written;
      calls_are = rw e refl;
      lines_are = rw e refl;
    }

-- and the calls stop at it
pub cut_call : {X : Type 0} (w : World) (ask : Ask) (on : ℕ → Sequel X) (calls : List Ask) (written : Option (List ℕ)) (k : ℕ) → stop w calls ≡ None → stop w (calls ++ ask ∷ []) ≡ Some k
    → CutOff w (Asks ask on) calls (calls ++ ask ∷ []) written written
cut_call {X = X} w ask on calls written k whole stops = one (stops_here (world_after w calls) ask) refl
  where
    one : (b : Bool) → stops_here (world_after w calls) ask ≡ b → CutOff w (Asks ask on) calls (calls ++ ask ∷ []) written written
    one true e = record { more = ask ∷ []; lines = []; calls = refl; written = Appends-nil written; is = rw e refl }
    one false e = absurd (let no_stop = one_goes w calls ask whole e in let bad : Some k ≡ None = sym stops ∙ no_stop in cc)
