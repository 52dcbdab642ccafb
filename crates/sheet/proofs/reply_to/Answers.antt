-- `sheet::reply_to` meets its contract: the text is the answer to what was read. Assumes nothing.
use Rattle.std.proofs.Common.{rules}
use Rattle.io.proofs.Counting.{prefix_len_of_le}
use Rattle.sheet.specs.Replies.{made, unread}
use Rattle.sheet.proofs.reply_to.Goals as goal

pub returns-in_err-size : goal.returns-in_err-size
returns-in_err-size c = search (rules, unread)

pub returns : goal.returns
returns c = search (rules, made, prefix_len_of_le)
