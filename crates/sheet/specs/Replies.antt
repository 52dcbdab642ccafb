-- What the functions of the program promise. What is read and written are no values of the program, so that this is the most that can be said:
-- of the buffer that was read into, and the one that is written from.
use Rattle.std.specs.Prelude.{List, ℕ, take, Result, Ok, Err}
use Rattle.io.specs.Counts.{IsPrefixLen}
use Rattle.answering.specs.Sheets.{Output}

-- How many bytes were read: none where reading failed.
abbrev pub got_count : {E : Type 0} → Result ℕ E → ℕ
got_count (Ok n) = n
got_count (Err why) = 0

-- Where reading failed there is no answer, but the error of that. Else the front of `text` is what document 02 has written for the bytes read,
-- the front of `sheet`.
pub data Replied {E : Type 0} (sheet text : List ℕ) : Result ℕ E → Result ℕ E → Type 0 where
  unread : {why : E} → Replied sheet text (Err why) (Err why)
  made : {read size : ℕ} → IsPrefixLen size text → Output (take read sheet) (take size text) → Replied sheet text (Ok read) (Ok size)
