-- What came over a link at one time.
use Rattle.std.specs.Prelude.{◌≡◌, Bool, true, false, Option, None, Some, Result, Ok, Err}
use Rattle.rx_h2conn.specs.declared.fault.ConnFault.TheVariants.{Protocol}
use Rattle.rx_h2conn.specs.Session.{Reading}
use Rattle.rx_grpc.specs.declared.transfer_fault.TransferFault.{TransferFault}
use Rattle.rx_grpc.specs.declared.transfer_fault.TransferFault.TheVariants as Faults
use Rattle.rx_grpc.specs.declared.came.Came.{Came}
use Rattle.rx_grpc.specs.declared.came.Came.TheVariants.{End, Piece, Broken}

abbrev pub is_end : Came → Bool
is_end End = true
is_end Piece = false
is_end (Broken code) = false

abbrev pub is_piece : Came → Bool
is_piece End = false
is_piece Piece = true
is_piece (Broken code) = false

-- how the link and the connection stand after it: whether the link had ended before, and has ended now
abbrev pub CameBy : Came → Bool → Bool → Reading → Type 0
CameBy End before now conn = (now ≡ true) × (conn.state.fault ≡ None)
CameBy Piece before now conn = (now ≡ before) × (conn.state.fault ≡ None)
CameBy (Broken code) before now conn = conn.state.fault ≡ Some (Protocol code)

-- what is shown is the answer, and else a broken rule is the fault
abbrev pub judged : {A : Type 0} → Option A → Came → Option (Result A TransferFault)
judged (Some answer) came = Some (Ok answer)
judged None End = None
judged None Piece = None
judged None (Broken code) = Some (Err (Faults.Protocol code))
