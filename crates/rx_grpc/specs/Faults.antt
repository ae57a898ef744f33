-- What a fault stands for.
use Rattle.std.specs.Prelude.{◌≡◌, ◌⊎◌, ℕ, Bool, List, Option}
use Rattle.rx_h2conn.specs.Session.{Reading}
use Rattle.rx_world.specs.Links.{Wire}
use Rattle.rx_grpc.specs.declared.transfer_fault.TransferFault.{TransferFault}
use Rattle.rx_grpc.specs.declared.transfer_fault.TransferFault.TheVariants.{Link, Protocol, NoMemory}
use Rattle.rx_grpc.specs.Heard.{Heard}
use Rattle.rx_grpc.specs.Shown.{Breaks, Fills}

-- a fault that the received bytes don't show
abbrev pub IsOther : TransferFault → Type 0
IsOther (Protocol code) = ⊥
IsOther Link = Unit {0}
IsOther NoMemory = Unit {0}

-- The server broke a rule with this code before its bytes showed an answer. Or it is code 11, and as many bytes as there was
-- room for, since the link had carried what it had before, show none.
abbrev pub FaultIs : {A : Type 0} → (Bool → Heard → Option A) → ℕ → TransferFault → Option Wire → Option Wire → (List ℕ → List ℕ → Type 0) → Reading → ℕ → Type 0
FaultIs look room (Protocol code) before now rule conn id = Breaks look now rule conn id code ⊎ ((code ≡ 11) × Fills look room before now rule conn id)
FaultIs look room Link before now rule conn id = Unit {0}
FaultIs look room NoMemory before now rule conn id = Unit {0}
