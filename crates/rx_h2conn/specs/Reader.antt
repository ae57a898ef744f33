-- The machine of a connection with its bytes.
use Rattle.std.specs.Prelude.{◌≡◌, ℕ, None, Some, Result, Ok, Err}
use Rattle.rx_h2frame.specs.Frame.{Lacks, next}
use Rattle.rx_h2conn.specs.declared.reader.Reader.{Reader}
use Rattle.rx_h2conn.specs.declared.fault.ConnFault.{ConnFault}
use Rattle.rx_h2conn.specs.declared.fault.ConnFault.TheVariants.{NoMemory}
use Rattle.rx_h2conn.specs.Session.{Reading}
use Rattle.rx_h2conn.specs.State.{state_of, Keeps}
use Rattle.rx_h2conn.specs.Sound.{IsSound, IsWithin}

abbrev pub reading_of : Reader → Reading
reading_of r = record { state = state_of r.machine; rest = r.rest.items }

-- the step of a machine, with the bytes
abbrev pub Reads : Reading → Reading → Reading → Result (Unit {0}) ConnFault → Type 0
Reads old new want (Ok _) = (new ≡ want) × (want.state.fault ≡ None)
Reads old new want (Err NoMemory) = Keeps old.state new.state
Reads old new want (Err e) = (new ≡ want) × (want.state.fault ≡ Some e)

-- A reader does this step: it leaves and tells what the step makes of what it had read.
abbrev pub ReadsBy : (Reading → Reading) → Reader → Reader → Result (Unit {0}) ConnFault → Type 0
ReadsBy step old new r = Reads (reading_of old) (reading_of new) (step (reading_of old)) r

-- so many bytes are lacking to the next frame
pub record IsReady (r : Reading) (lacking : ℕ) : Type 0 where
  pub fault : r.state.fault ≡ None
  pub lacks : next 16384 r.rest ≡ Ok (Lacks lacking)
  pub sound : IsSound r.state

-- what holds of every connection
pub record IsConn (r : Reading) (lacking : ℕ) : Type 0 where
  pub ready : r.state.fault ≡ None → IsReady r lacking
  pub within : IsWithin r.state
