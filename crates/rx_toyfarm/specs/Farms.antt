-- What a farm in memory means as the other end of a client.
use Rattle.std.specs.Prelude.{ℕ, List}
use Rattle.rx_base.specs.declared.digests.Digest.{Digest}
use Rattle.rx_world.specs.Toy.{toy_operation}
use Rattle.rx_world.specs.declared.versions.Dialect.{Dialect}
use Rattle.rx_exec_messages.specs.declared.answers.Capabilities.{Capabilities}
use Rattle.rx_exec_messages.specs.Dialects.{dialect_of}
use Rattle.rx_toyfarm.specs.declared.execution.Begun.{Begun}
use Rattle.rx_toyfarm.specs.declared.execution.Begun.TheVariants.{Executed, Waited}

-- the action of what was begun
abbrev pub action_of : Begun → Digest
action_of (Executed action) = action
action_of (Waited name) = toy_operation name

-- where a farm that says this looks for the outputs of a Command
abbrev pub dialect_by : Capabilities → Dialect
dialect_by says = dialect_of says.low says.high
