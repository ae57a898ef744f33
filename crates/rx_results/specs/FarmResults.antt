-- A result of a farm, and the command that it is for.
use Rattle.rx_messages.specs.declared.results.ActionResult.{ActionResult}
use Rattle.rx_world.specs.declared.commands.Command.{Command}

pub record FarmResultOf : Type 0 where
  pub command : Command
  pub result : ActionResult
