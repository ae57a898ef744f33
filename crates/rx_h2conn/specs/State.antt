-- The parts of a connection as one value, and what a step answers.
use Rattle.std.specs.Prelude.{◌≡◌, List, ◌++◌, None, Some, Result, Ok, Err}
use Rattle.rx_h2conn.specs.declared.machine.Machine.{Machine}
use Rattle.rx_h2conn.specs.declared.fault.ConnFault.{ConnFault}
use Rattle.rx_h2conn.specs.declared.fault.ConnFault.TheVariants.{NoMemory}
use Rattle.rx_h2conn.specs.Session.{Session}

abbrev pub state_of : Machine → Session
state_of m = record {
  fault = m.fault;
  streams = m.streams;
  send = m.send;
  initial = m.initial;
  receive = m.receive;
  owed = m.owed;
  acks = m.acks;
  gone = m.gone;
  size_update = m.size_update;
  decoder = m.decoder;
  sequence = m.sequence;
  events = m.events.items;
  queued = m.queued.items;
}

-- the one is a front of the other
abbrev pub Extends : {A : Type 0} → List A → List A → Type 0
Extends {A} old new = (more : List A) × (new ≡ old ++ more)

-- what was told and what was queued are still there
pub record Keeps (old new : Session) : Type 0 where
  pub events : Extends old.events new.events
  pub queued : Extends old.queued new.queued

-- A step leaves what it is to leave and tells a broken rule; for want of memory what was there is there.
abbrev pub Does : Session → Session → Session → Result (Unit {0}) ConnFault → Type 0
Does old new want (Ok _) = (new ≡ want) × (want.fault ≡ None)
Does old new want (Err NoMemory) = Keeps old new
Does old new want (Err e) = (new ≡ want) × (want.fault ≡ Some e)

-- A machine does this step: it leaves and tells what the step makes of the state that it had.
abbrev pub DoesBy : (Session → Session) → Machine → Machine → Result (Unit {0}) ConnFault → Type 0
DoesBy step old new r = Does (state_of old) (state_of new) (step (state_of old)) r

-- what holds of a call unless memory ran out in it
abbrev pub UnlessStarved : {A : Type 0} → Result A ConnFault → Type 0 → Type 0
UnlessStarved (Err NoMemory) P = Unit {0}
UnlessStarved _ P = P
