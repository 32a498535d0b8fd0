-- The replies to the commands of a packet, one after the other.
use Rattle.std.specs.Prelude.{ℕ, ◌+◌, ◌-◌, ◌*◌, ◌==◌, nat_lt, Bool, not, ◌&&◌, List, [], ◌∷◌, length, take, min, if◌then◌else◌}
use Rattle.dap_messages.specs.declared.command_value.CommandValue.{CommandValue}
use Rattle.dap_messages.specs.declared.command_value.CommandValue.TheVariants.{Info, Transfer, WriteBlock}
use Rattle.dap_messages.specs.declared.request.Request.{Request}
use Rattle.dap_messages.specs.Commands.{longest_reply}
use Rattle.dap_messages.specs.Replies.{last_is_posted}
use Rattle.dap_messages.specs.Requests.{reads_in}

-- How many words a reply has: those of the normal reads that were executed. It has one fewer where the last request executed is a posted read,
-- the response is not 01, and the bytes are too few.
unfoldable pub words_in_reply : ℕ → Bool → ℕ → ℕ → ℕ
words_in_reply reads posted response size = if posted && not (response == 0x01) && nat_lt size (4 * reads) then reads - 1 else reads

-- The length of the reply to DAP_Transfer that these bytes begin with. It is all of them where they are too few for its head, or the executed
-- number is greater than the number of requests.
unfoldable pub transfer_size : List Request → List ℕ → ℕ
transfer_size rs (id ∷ count ∷ response ∷ words) =
    if nat_lt (length rs) count then 3 + length words else
    3 + 4 * words_in_reply (reads_in (take count rs)) (last_is_posted rs count) response (length words)
transfer_size rs bytes = length bytes

-- the length of the reply to a command that these bytes begin with
unfoldable pub reply_size : CommandValue → List ℕ → ℕ
reply_size (Transfer requests) bytes = transfer_size requests bytes
reply_size (Info id) bytes = longest_reply (Info id)
reply_size (WriteBlock request words) bytes = 4
reply_size other bytes = 2

-- how many of the bytes are the reply to a command: all where no command follows
abbrev pub own_bytes : List CommandValue → CommandValue → List ℕ → ℕ
own_bytes [] c bytes = length bytes
own_bytes (next ∷ later) c bytes = min (reply_size c bytes) (length bytes)
