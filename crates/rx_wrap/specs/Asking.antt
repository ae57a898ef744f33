-- What a client is to do.
use Rattle.std.specs.Prelude.{ℕ, List, [], ◌∷◌, Bool, true, not, ◌&&◌, Option, Some, None, Result, Ok, Err, codes, if◌then◌else◌}
use Rattle.rx_base.specs.Results.{◌>>=◌}
use Rattle.rx_session.specs.declared.requests.Request.{Request}
use Rattle.rx_wrap.specs.Called.{Called}
use Rattle.rx_wrap.specs.Choices.{is_compile}
use Rattle.rx_wrap.specs.Commas.{listed}
use Rattle.rx_wrap.specs.Directories.{below, trimmed}
use Rattle.rx_wrap.specs.RelativePaths.{relative_words}
use Rattle.rx_wrap.specs.Settings.{Setting, Settings, setting_of}
use Rattle.rx_wrap.specs.Values.{text_of, values_in}
use Rattle.rx_wrap.specs.Variables.{environment_of}
use Rattle.rx_wrap.specs.declared.asked.Errand.{Errand}
use Rattle.rx_wrap.specs.declared.asked.Errand.TheVariants.{Run, ShutDown}
use Rattle.rx_wrap.specs.declared.flags.Flag.{Flag}
use Rattle.rx_wrap.specs.declared.flags.Flag.TheVariants.{ExecRoot, Inputs, ToolchainInputs, OutputFiles, EnvironmentAllowlist}
use Rattle.rx_wrap.specs.declared.jobs.Job.{Job}
use Rattle.rx_wrap.specs.declared.jobs.Task.{Task}
use Rattle.rx_wrap.specs.declared.jobs.Task.TheVariants.{Ask, RunInPlace}
use Rattle.rx_wrap.specs.declared.usage_fault.UsageFault.{UsageFault}
use Rattle.rx_wrap.specs.declared.usage_fault.UsageFault.TheVariants.{Word}
use Rattle.rx_wrap.specs.declared.values.Values.{Values}

-- the items of a flag's value
abbrev pub items_of : Flag → Settings → List (List ℕ)
items_of flag settings = listed (text_of flag settings)

-- there is a command
abbrev pub command_in : List (List ℕ) → Result (List (List ℕ)) UsageFault
command_in [] = Err (Word (codes "command"))
command_in (word ∷ words) = Ok (word ∷ words)

-- the root as it is compared and sent: as the system resolves it, or else its text without a slash at its end
abbrev pub root_text : List ℕ → Option (List ℕ) → List ℕ
root_text given (Some resolved) = resolved
root_text given None = trimmed given

-- the root is given
abbrev pub root_by : Option Setting → Option (List ℕ) → Result (List ℕ) UsageFault
root_by (Some given) resolved = Ok (root_text given.value resolved)
root_by None resolved = Err (Word (codes "exec_root"))

abbrev pub root_in : Settings → Option (List ℕ) → Result (List ℕ) UsageFault
root_in settings resolved = root_by (setting_of ExecRoot settings) resolved

-- a compile step that the proxy can't take runs in place
abbrev pub runs_in_place : Values → Bool
runs_in_place values = is_compile values.kind && values.in_place

-- the words as they are sent
abbrev pub words_of : Values → List ℕ → List ℕ → List (List ℕ) → List (List ℕ)
words_of values root directory command =
    if values.relative_paths then relative_words root directory command else command

abbrev pub request_of : Values → Settings → Called → List ℕ → List ℕ → Request
request_of values settings called root directory = record {
  root = root;
  words = words_of values root directory called.command;
  environment = environment_of values.kind called.variables (items_of EnvironmentAllowlist settings);
  working_directory = directory;
  strategy = values.strategy;
  kind = values.kind;
  inputs = items_of Inputs settings;
  toolchain_inputs = items_of ToolchainInputs settings;
  outputs = items_of OutputFiles settings;
  platform = values.platform;
  accept_cached = values.accept_cached;
  watch = true;
  timeout_seconds = values.timeout_seconds;
  in_place = runs_in_place values;
}

-- the working directory isn't at or below the root
abbrev pub task_outside : Values → Result Task UsageFault
task_outside values = if runs_in_place values then Ok RunInPlace else Err (Word (codes "exec_root"))

abbrev pub asks : Values → Errand → Task
asks values errand = Ask (record { address = values.address; errand = errand })

abbrev pub task_in : Values → Settings → Called → List ℕ → Option (List ℕ) → Result Task UsageFault
task_in values settings called root (Some directory) = Ok (asks values (Run (request_of values settings called root directory)))
task_in values settings called root None = task_outside values

-- the proxy is asked, unless the directory is outside of the root; or the first of: no command, no root, that directory
unfoldable pub task_by : Values → Settings → Called → Result Task UsageFault
task_by values settings called = do
  words ← command_in called.command
  root ← root_in settings called.root
  task_in values settings called root (below root called.directory)

-- the end of a proxy needs neither a command nor a root
abbrev pub task_of : Values → Settings → Called → Result Task UsageFault
task_of values settings called = if values.shuts_down then Ok (asks values ShutDown) else task_by values settings called

-- What a client is to do by its settings, and by how it was called; or the word at fault.
unfoldable pub job_of : Settings → Called → Result Job UsageFault
job_of settings called = do
  values ← values_in settings
  task ← task_of values settings called
  Ok (record {
    task = task;
    command = called.command;
    directory = called.directory;
    without_proxy = values.without_proxy && not values.shuts_down;
    verbose = values.verbose;
  })
