-- How a client cancels: what comes behind a request that watches.
use Rattle.std.specs.Prelude.{◌≡◌, ◌≢◌, ◌-◌, ℕ, List, [], Option, length, take}
use Rattle.std.specs.Io.{StartsWith}
use Rattle.std.specs.Io.KnownBytes.{IsAtEnd}
use Rattle.rx_world.specs.Causes.{Rose}
use Rattle.rx_session.specs.declared.cancels.CancelReason.{CancelReason}
use Rattle.rx_session.specs.declared.cancels.CancelReason.TheVariants.{Asked, Ended, OtherBytes, Lost}
use Rattle.rx_session.specs.Frames.{frame}

-- the frame by which a client cancels
abbrev pub cancel_frame : List ℕ
cancel_frame = frame 3 []

-- how many bytes it has
abbrev pub cancel_length : ℕ
cancel_length = 5

-- the frame begins with what was read
abbrev pub IsFront : List ℕ → Type 0
IsFront read = StartsWith cancel_frame read

-- no byte was read behind one that the frame doesn't have there: without the last byte they are a front of it
abbrev pub IsReadOn : List ℕ → Type 0
IsReadOn read = IsFront (take (length read - 1) read)

-- What was read behind a request is such a cancel: a Cancel frame, nothing before the end of the input, other bytes, or what a fault cut
-- short. Other bytes are no front of such a frame, or a front of it at the end of the input.
abbrev pub IsCancelBy : CancelReason → List ℕ → Option (List ℕ) → ℕ → ℕ → Type 0
IsCancelBy Asked read left before now = read ≡ cancel_frame
IsCancelBy Ended read left before now = (read ≡ []) × IsAtEnd left
IsCancelBy OtherBytes read left before now = (read ≢ []) × (read ≢ cancel_frame) × (IsFront read → IsAtEnd left)
IsCancelBy Lost read left before now = Rose before now

-- by the bytes alone, where the input didn't fail
abbrev pub IsCancelOf : CancelReason → List ℕ → Type 0
IsCancelOf Asked read = read ≡ cancel_frame
IsCancelOf Ended read = read ≡ []
IsCancelOf OtherBytes read = (read ≢ []) × (read ≢ cancel_frame)
IsCancelOf Lost read = ⊥
