-- Paths in a reply, each as its own text.
use Rattle.std.specs.Prelude.{ℕ, ◌==◌, List, [], length, Result, Ok, Err, if◌then◌else◌}
use Rattle.std.specs.Str.{bytes_eq}
use Rattle.rx_base.specs.Paths.{read_of}
use Rattle.rx_base.specs.declared.path_fault.PathFault.{PathFault}
use Rattle.rx_session.specs.declared.reply_fault.ReplyFault.{ReplyFault}
use Rattle.rx_session.specs.ReplyFaults.{bad_reply}

-- what was read of a text, where that is its path's own
abbrev pub if_own : List ℕ → Result (List ℕ) PathFault → Result (List ℕ) ReplyFault
if_own text (Ok path) = if bytes_eq path text then Ok path else bad_reply
if_own text (Err fault) = bad_reply

-- the path whose own text this is; the root's is empty
unfoldable pub own_path : List ℕ → Result (List ℕ) ReplyFault
own_path text = if length text == 0 then Ok [] else if_own text (read_of text)
