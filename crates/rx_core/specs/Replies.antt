-- What the client of an action is answered.
use Rattle.std.specs.Prelude.{ℕ}
use Rattle.rx_world.specs.declared.attempts.Origin.{Origin}
use Rattle.rx_world.specs.declared.outcomes.Exit.{Exit}

pub data Reply : Type 0 where
  -- the command ended so, and its files are in place
  Done : Exit → Origin → Reply
  -- only so many of its files were placed
  PlaceFault : ℕ → Reply
  -- the client gave its request up
  Cancelled : Reply
  -- no attempt has an end that may be published
  AllFailed : Reply
  -- the journal has as many entries as it may
  JournalFull : Reply
  -- memory ran out
  NoMemory : Reply
