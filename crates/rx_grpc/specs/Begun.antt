-- What was begun last on a farm.
use Rattle.std.specs.Prelude.{ℕ, List}
use Rattle.rx_base.specs.declared.digests.Digest.{Digest}
use Rattle.rx_grpc.specs.declared.caller.Begun.{Begun}
use Rattle.rx_grpc.specs.declared.caller.Begun.TheVariants.{Executed, Waited}

-- the action that runs: of a name, the one that the world has for it
abbrev pub action_of : (List ℕ → Digest) → Begun → Digest
action_of operation (Executed action) = action
action_of operation (Waited name) = operation name
