-- Pieces that keep to the windows that the client told (RFC 9113 5.2), and ask for few acknowledgements.
use Rattle.std.specs.Prelude.{◌≡◌, ◌<◌, ◌≤◌, ℕ, false, List, [], ◌∷◌, ◌++◌, length, slice_index_or, None, Ok}
use Rattle.rx_h2frame.specs.Frame.{Whole, Complete, next}
use Rattle.rx_h2conn.specs.Session.{Session, Reading}
use Rattle.rx_h2conn.specs.Streams.{fresh, is_dropped}
use Rattle.rx_h2conn.specs.Data.{passes_window}
use Rattle.rx_h2conn.specs.Ping.{is_flooded}
use Rattle.rx_h2conn.specs.Steps.{byte}
use Rattle.rx_h2conn.specs.History.{Call, Takes, run}

-- no rule was broken, and every event was handed out
pub record IsCalm (r : Reading) : Type 0 where
  pub fault : r.state.fault ≡ None
  pub events : r.state.events ≡ []

-- All credit was told but less than a quarter of a window: the server may send more than 12,582,912 bytes on the connection
-- and on each stream that isn't dropped, and 65,535 on the connection where no stream was opened. No acknowledgement waits,
-- and the front of a frame is shorter than the longest frame.
pub record IsRestored (r : Reading) : Type 0 where
  pub first : 65535 ≤ r.state.receive
  pub receive : 0 < length r.state.streams → 12582912 < r.state.receive
  pub streams : (k : ℕ) → k < length r.state.streams → is_dropped (slice_index_or r.state.streams k fresh) ≡ false → 12582912 < (slice_index_or r.state.streams k fresh).receive
  pub acks : r.state.acks ≡ 0
  pub rest : length r.rest ≤ 16392

-- a frame passes no window that the client told, and one more acknowledgement may wait
pub record Fits (s : Session) (f : Whole) : Type 0 where
  pub window : passes_window s f ≡ false
  pub acks : is_flooded s ≡ false

-- so does each frame that ends in a piece
abbrev pub AllFit : Reading → List ℕ → Type 0
AllFit r [] = Unit {0}
AllFit r (b ∷ piece) = ((f : Whole) → r.state.fault ≡ None → next 16384 (r.rest ++ b ∷ []) ≡ Ok (Complete f) → Fits r.state f) × AllFit (byte r b) piece

-- once the events were handed out, the output tells what credit is due
abbrev pub Restores : Reading → List Call → Type 0
Restores conn calls = IsCalm (run conn calls) → IsRestored (run conn (calls ++ Takes ∷ []))

-- and then a piece of at most 8,192 bytes fits
abbrev pub FitsNext : Reading → List Call → Type 0
FitsNext conn calls = (piece : List ℕ) → length piece ≤ 8192 → IsCalm (run conn calls) → AllFit (run conn (calls ++ Takes ∷ [])) piece
