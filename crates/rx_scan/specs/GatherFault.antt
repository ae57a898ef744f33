-- Why the files of a command can't be gathered.
use Rattle.rx_reach.specs.declared.faults.SightFault.{SightFault}
use Rattle.rx_reach.specs.declared.faults.SightFault.TheVariants.{InputChanged as Changed, NoMemory as OutOfMemory, SourceFault as Lost}
use Rattle.rx_scan.specs.declared.gather_fault.GatherFault.{GatherFault}
use Rattle.rx_scan.specs.declared.gather_fault.GatherFault.TheVariants.{InputChanged, NoMemory, SourceFault}

-- a scan's fault as one of the gathering
abbrev pub fault_of : SightFault → GatherFault
fault_of (Lost path) = SourceFault path
fault_of (Changed change) = InputChanged change
fault_of OutOfMemory = NoMemory
