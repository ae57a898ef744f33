-- What is asked for, by the words, the environment and the configuration file; and how faults are told on.
use Rattle.std.specs.Prelude.{◌≡◌, ℕ, ◌==◌, List, [], length, Option, Some, None, Result, Ok, Err, IfSome, if◌then◌else◌}
use Rattle.std.specs.Str.{is_utf8}
use Rattle.rx_base.specs.Results.{◌>>=◌}
use Rattle.rx_world.specs.declared.commands.Pair.{Pair}
use Rattle.rx_world.specs.declared.failures.Refused.{Refused}
use Rattle.rx_world.specs.declared.failures.Refused.TheVariants as refusals
use Rattle.rx_wrap.specs.Called.{Called}
use Rattle.rx_wrap.specs.ConfigFile.{lines, settings_in_lines}
use Rattle.rx_wrap.specs.Environment.{settings_in}
use Rattle.rx_wrap.specs.Asking.{job_of}
use Rattle.rx_wrap.specs.Reading.{Words}
use Rattle.rx_wrap.specs.Settings.{Setting, Settings, setting_of}
use Rattle.rx_wrap.specs.Words.{nothing_read, words_in}
use Rattle.rx_wrap.specs.declared.flags.Flag.TheVariants.{Config as config_flag, ExecRoot as root_flag}
use Rattle.rx_wrap.specs.declared.jobs.Job.{Job}
use Rattle.rx_wrap.specs.declared.usage_fault.UsageFault.{UsageFault}
use Rattle.rx_wrap.specs.declared.usage_fault.UsageFault.TheVariants as usages
use Rattle.rx_client.specs.declared.ask_fault.AskFault.{AskFault}
use Rattle.rx_client.specs.declared.ask_fault.AskFault.TheVariants.{Usage, Config, NoMemory}
use Rattle.rx_client.specs.declared.hear_fault.HearFault.{HearFault}
use Rattle.rx_client.specs.declared.hear_fault.HearFault.TheVariants as hearings
use Rattle.rx_client.specs.Invoked.{Invocation}

-- ---- faults that are told on

abbrev pub hear_fault_of : Refused → HearFault
hear_fault_of refusals.Failed = hearings.Lost
hear_fault_of refusals.NoMemory = hearings.NoMemory

abbrev pub config_fault_of : Refused → AskFault
config_fault_of refusals.Failed = Config
config_fault_of refusals.NoMemory = NoMemory

abbrev pub usage_fault_of : UsageFault → AskFault
usage_fault_of (usages.Word word) = Usage word
usage_fault_of usages.NoMemory = NoMemory

-- ---- the configuration file

-- an empty path names no file
abbrev pub named_by : Option Setting → Option Setting
named_by None = None
named_by (Some setting) = if length setting.value == 0 then None else Some setting

-- the setting that names the file
abbrev pub file_named : Settings → Option Setting
file_named settings = named_by (setting_of config_flag settings)

-- The settings in a file's bytes. A file that isn't UTF-8 is told by what named it.
unfoldable pub settings_in_bytes : List ℕ → List ℕ → Result (List Setting) UsageFault
settings_in_bytes place bytes =
    if is_utf8 bytes then settings_in_lines [] (lines bytes) else Err (usages.Word place)

-- no file has no settings
abbrev pub settings_by : Option Setting → List ℕ → Result (List Setting) UsageFault
settings_by None bytes = Ok []
settings_by (Some named) bytes = settings_in_bytes named.place bytes

-- ---- what is asked for

-- the settings of the words and of the environment
abbrev pub first_settings : List Setting → List Pair → Settings
first_settings settings environment = record { command_line = settings; environment = settings_in environment; file = [] }

abbrev pub with_file : Settings → List Setting → Settings
with_file settings file = record settings { file = file }

-- all settings, where those of words and environment are known, and the file that they name holds these bytes
unfoldable pub settings_with : Settings → List ℕ → Result Settings UsageFault
settings_with settings bytes = do
  file ← settings_by (file_named settings) bytes
  Ok (with_file settings file)

-- how a command was called, where this is the root as the system resolves its path
abbrev pub called_by : Invocation → List (List ℕ) → Option (List ℕ) → Called
called_by invocation command root = record {
  command = command;
  variables = invocation.environment;
  directory = invocation.directory;
  root = root;
}

abbrev pub job_by : Invocation → Settings → List (List ℕ) → List ℕ → Option (List ℕ) → Result Job UsageFault
job_by invocation settings command bytes root = do
  all ← settings_with settings bytes
  job_of all (called_by invocation command root)

abbrev pub job_in : Invocation → List ℕ → Option (List ℕ) → Words → Result Job UsageFault
job_in invocation bytes root read =
    job_by invocation (first_settings read.settings invocation.environment) read.command bytes root

-- What is to be done where the configuration file holds these bytes, and this is the root as the system resolves it; or the word at fault.
unfoldable pub job_with : Invocation → List ℕ → Option (List ℕ) → Result Job UsageFault
job_with invocation bytes root = do
  read ← words_in nothing_read invocation.words
  job_in invocation bytes root read

-- ---- the root, as the system resolves its path

-- the root that is given is resolved to this, where that is told
abbrev pub IsResolved : (List ℕ → Option (Option (List ℕ))) → Option Setting → Option (List ℕ) → Type 0
IsResolved resolved None root = Unit {0}
IsResolved resolved (Some given) root = IfSome (resolved given.value) (λ told. root ≡ told)

abbrev pub RootBy : (List ℕ → Option (Option (List ℕ))) → Result Settings UsageFault → Option (List ℕ) → Type 0
RootBy resolved (Ok settings) root = IsResolved resolved (setting_of root_flag settings) root
RootBy resolved (Err fault) root = Unit {0}

abbrev pub all_settings : Invocation → List ℕ → Result Settings UsageFault
all_settings invocation bytes = do
  read ← words_in nothing_read invocation.words
  settings_with (first_settings read.settings invocation.environment) bytes

-- ---- the bytes of the file that is named

abbrev pub named_in : Invocation → Result Words UsageFault → Option Setting
named_in invocation (Ok read) = file_named (first_settings read.settings invocation.environment)
named_in invocation (Err fault) = None

abbrev pub AreBytesOf : (List ℕ → Option (List ℕ)) → Option Setting → List ℕ → Type 0
AreBytesOf held None bytes = Unit {0}
AreBytesOf held (Some named) bytes = IfSome (held named.value) (λ told. bytes ≡ told)

-- the file that the invocation names, if any, holds these bytes, where it tells what it holds
abbrev pub HoldsFile : (List ℕ → Option (List ℕ)) → Invocation → List ℕ → Type 0
HoldsFile held invocation bytes = AreBytesOf held (named_in invocation (words_in nothing_read invocation.words)) bytes

-- for some bytes of the file, and some root, this is to be done
pub record IsAsked (held : List ℕ → Option (List ℕ)) (resolved : List ℕ → Option (Option (List ℕ))) (invocation : Invocation)
    (job : Result Job UsageFault) : Type 0 where
  pub bytes : List ℕ
  pub root : Option (List ℕ)
  pub file : HoldsFile held invocation bytes
  pub root_is : RootBy resolved (all_settings invocation bytes) root
  pub job_is : job_with invocation bytes root ≡ job

-- What was answered is what is to be done, unless the file is lost or memory ran out.
abbrev pub Asks : (List ℕ → Option (List ℕ)) → (List ℕ → Option (Option (List ℕ))) → Invocation → Result Job AskFault → Type 0
Asks held resolved invocation (Ok job) = IsAsked held resolved invocation (Ok job)
Asks held resolved invocation (Err (Usage word)) = IsAsked held resolved invocation (Err (usages.Word word))
Asks held resolved invocation (Err Config) = Unit {0}
Asks held resolved invocation (Err NoMemory) = Unit {0}

-- ---- a part of it, where the settings of words and environment are known

pub record IsJob (resolved : List ℕ → Option (Option (List ℕ))) (invocation : Invocation) (settings : Settings)
    (command : List (List ℕ)) (bytes : List ℕ) (job : Result Job UsageFault) : Type 0 where
  pub root : Option (List ℕ)
  pub root_is : RootBy resolved (settings_with settings bytes) root
  pub job_is : job_by invocation settings command bytes root ≡ job

abbrev pub FindsJob : (List ℕ → Option (Option (List ℕ))) → Invocation → Settings → List (List ℕ) → List ℕ → Result Job UsageFault → Type 0
FindsJob resolved invocation settings command bytes (Ok job) = IsJob resolved invocation settings command bytes (Ok job)
FindsJob resolved invocation settings command bytes (Err (usages.Word word)) =
    IsJob resolved invocation settings command bytes (Err (usages.Word word))
FindsJob resolved invocation settings command bytes (Err usages.NoMemory) = Unit {0}
