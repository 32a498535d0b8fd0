-- What a view of a reply shows.
use Rattle.std.specs.Prelude.{◌≡◌, ℕ, List, [], ◌∷◌, length}
use Rattle.dap_messages.specs.declared.command_value.CommandValue.{CommandValue}
use Rattle.dap_messages.specs.Words.{word_bytes, words_in}
use Rattle.dap_messages.specs.Replies.{ReplyValue, Info, Status, Pins, Transfer, Block, Answers, IsReply, reply_bytes}

-- What a view of a reply shows.
pub record Shown : Type 0 where
  -- the executed number and the response of a transfer or a block; else 0
  pub count : ℕ
  pub response : ℕ
  -- the bytes of the words of a transfer, none of a block; else all bytes after the id
  pub bytes : List ℕ
  -- the words that these bytes make
  pub words : List ℕ

-- the view of a reply other than to a transfer or a block
abbrev pub shown_plain : List ℕ → Shown
shown_plain bytes = record { count = 0; response = 0; bytes = bytes; words = words_in bytes }

-- the view of a reply
abbrev pub reply_shown : ReplyValue → Shown
reply_shown (Info bytes) = shown_plain (length bytes ∷ bytes)
reply_shown (Status id status) = shown_plain (status ∷ [])
reply_shown (Pins pins) = shown_plain (pins ∷ [])
reply_shown (Transfer count response words) = record { count = count; response = response; bytes = word_bytes words; words = words }
reply_shown (Block count response) = record { count = count; response = response; bytes = []; words = [] }

-- The bytes are those of a reply that the command may get, it is in the ranges of a reply, and the view shows it.
pub record IsReplyTo (command : CommandValue) (bytes : List ℕ) (view : Shown) : Type 0 where
  pub answer : ReplyValue
  pub may : Answers command answer
  pub in_range : IsReply answer
  pub bytes_are : bytes ≡ reply_bytes answer
  pub shows : view ≡ reply_shown answer
