-- Whether a journal is that of these sessions.
use Rattle.std.specs.Prelude.{◌≡◌, ◌<◌, ℕ, ◌+◌, ◌-◌, List, Option, None, Some, length, slice_get, slice_index_or}
use Rattle.std.specs.List.{sum_by}
use Rattle.rx_board.specs.declared.journal.Entry.{Entry}
use Rattle.rx_board.specs.declared.journal.Receipt.{Receipt}
use Rattle.rx_engine.specs.declared.transcripts.Transcript.{Transcript}
use Rattle.rx_engine.specs.Journal.{files_of}
use Rattle.rx_session.specs.declared.replies.Reply.{Reply}
use Rattle.rx_session.specs.declared.replies.Reply.TheVariants as reply

-- how many receipts a session has
abbrev pub receipts_in : Option Receipt → ℕ
receipts_in None = 0
receipts_in (Some receipt) = 1

abbrev pub receipts_of : Transcript → ℕ
receipts_of t = receipts_in t.receipt

-- how many files were placed, where the reply tells that
abbrev pub placed_in : Option Reply → Option ℕ
placed_in None = None
placed_in (Some (reply.Done exit stdout stderr from number placed)) = Some placed
placed_in (Some (reply.PlaceFault number placed)) = Some placed
placed_in (Some (reply.BadRequest bad)) = None
placed_in (Some (reply.NotRemotable cause)) = None
placed_in (Some (reply.InputMissing path)) = None
placed_in (Some (reply.InputChanged input)) = None
placed_in (Some (reply.SourceFault path)) = None
placed_in (Some (reply.TooLarge limit n path)) = None
placed_in (Some (reply.AllFailed failures)) = None
placed_in (Some (reply.Cancelled reason)) = None
placed_in (Some reply.JournalFull) = None
placed_in (Some reply.NoMemory) = None
placed_in (Some (reply.Blocked path)) = None
placed_in (Some (reply.InPlace cause)) = None

-- A session tells of an entry: by its number, its receipt, the files of its outcome, and how many of them were placed.
pub record TellsOf (entry : Entry) (t : Transcript) : Type 0 where
  pub session : t.number ≡ entry.session
  pub receipt : t.receipt ≡ Some (record { number = entry.number })
  pub files : files_of t.ends ≡ entry.files
  pub placed : placed_in t.reply ≡ Some entry.placed

-- the session of the entry's number, at its place, tells of it
pub record IsToldIn (ts : List Transcript) (entry : Entry) : Type 0 where
  pub by : Transcript
  pub at : slice_get ts (entry.session - 1) ≡ Some by
  pub tells : TellsOf entry by

-- There are as many entries as receipts. Each entry has the next number, and the session that it names tells of it.
pub record Agrees (journal : List Entry) (ts : List Transcript) : Type 0 where
  pub count : sum_by receipts_of ts ≡ length journal
  pub numbers : (k : ℕ) (e : Entry) → k < length journal → (slice_index_or journal k e).number ≡ k + 1
  pub told : (k : ℕ) (e : Entry) → k < length journal → IsToldIn ts (slice_index_or journal k e)
