-- A value match: reads until the value under the mask is the one that is requested.
use Rattle.std.specs.Prelude.{ℕ, zero, suc, ◌+◌, Bool, true, false, not, ◌&&◌, ◌==◌, bit_and}
use Rattle.target_machine.specs.Plain.{Polled, given_number}
use Rattle.target_machine.specs.declared.access.RegAccess.{RegAccess}
use Rattle.dap_messages.specs.declared.request.Response.{Response}
use Rattle.dap_messages.specs.declared.request.Response.TheVariants.{Good, Mismatch}
use Rattle.dap_transfer.specs.State.{Setting, WireState}
use Rattle.dap_transfer.specs.WireTransfer.{Ending, ends, access_made, reads_dpidr, reads_rdbuff_itself, refused_state, value}

-- one read more was made before
abbrev pub one_more : Ending → Ending
one_more d = record d { count = d.count + 1 }

-- the match whose first read ended so, and hit or not; where it missed the rest follows
abbrev pub match_ending_as : Response → Bool → WireState → RegAccess → Ending → Ending
match_ending_as Good true l a rest = record { response = Good; line = access_made l a; count = 1 }
match_ending_as Good false l a rest = one_more rest
match_ending_as r hit l a rest = record { response = r; line = refused_state l a; count = 0 }

-- a match of so many reads at most; it ends as a mismatch where none of them hits
abbrev pub match_ending : Setting → ℕ → ℕ → RegAccess → ℕ → WireState → Ending
match_ending s mask requested a zero l = record { response = Mismatch; line = l; count = 0 }
match_ending s mask requested a (suc n) l =
    match_ending_as (ends s l a) (bit_and (value l a) mask == requested) l a (match_ending s mask requested a n (access_made l a))

-- whether a read of a value match is work: those of RDBUFF and DPIDR are not
abbrev pub is_match_work : RegAccess → Bool
is_match_work a = not (reads_rdbuff_itself a) && not (reads_dpidr a)

-- whether a poll matched
abbrev pub has_matched : Polled → Bool
has_matched x = given_number x.outcome == 1
