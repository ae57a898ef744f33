-- The table of flags: their names, which of them are switches, and their defaults.
use Rattle.std.specs.Prelude.{ℕ, List, [], Bool, true, false, Option, Some, None, if◌then◌else◌, codes}
use Rattle.std.specs.Str.{bytes_eq}
use denote.Enum.Bare.{sameb}
use Rattle.rx_wrap.specs.contracts.flags.Flag.{the_type}
use Rattle.rx_wrap.specs.declared.flags.Flag.{Flag}
use Rattle.rx_wrap.specs.declared.flags.Flag.TheVariants.{Config, ServerAddress, ExecRoot, ExecStrategy, Labels, Inputs, ToolchainInputs, OutputFiles, Platform, EnvironmentAllowlist, AcceptCached, ExecTimeout, ShutdownProxy, RelativePaths, InPlace, WithoutProxy, Verbose}

-- whether two flags are one
abbrev pub is_same : Flag → Flag → Bool
is_same flag other = sameb the_type flag other

unfoldable pub flag_named : List ℕ → Option Flag
flag_named name =
    if bytes_eq name (codes "cfg") then Some Config
    else if bytes_eq name (codes "server_address") then Some ServerAddress
    else if bytes_eq name (codes "exec_root") then Some ExecRoot
    else if bytes_eq name (codes "exec_strategy") then Some ExecStrategy
    else if bytes_eq name (codes "labels") then Some Labels
    else if bytes_eq name (codes "inputs") then Some Inputs
    else if bytes_eq name (codes "toolchain_inputs") then Some ToolchainInputs
    else if bytes_eq name (codes "output_files") then Some OutputFiles
    else if bytes_eq name (codes "platform") then Some Platform
    else if bytes_eq name (codes "env_var_allowlist") then Some EnvironmentAllowlist
    else if bytes_eq name (codes "remote_accept_cache") then Some AcceptCached
    else if bytes_eq name (codes "exec_timeout") then Some ExecTimeout
    else if bytes_eq name (codes "shutdown_proxy") then Some ShutdownProxy
    else if bytes_eq name (codes "relative_paths") then Some RelativePaths
    else if bytes_eq name (codes "in_place") then Some InPlace
    else if bytes_eq name (codes "without_proxy") then Some WithoutProxy
    else if bytes_eq name (codes "verbose") then Some Verbose
    else None

-- a switch alone is true, and takes a value only behind `=`
abbrev pub is_switch : Flag → Bool
is_switch AcceptCached = true
is_switch ShutdownProxy = true
is_switch RelativePaths = true
is_switch InPlace = true
is_switch Verbose = true
is_switch flag = false

-- the text of a value that isn't given
abbrev pub default_of : Flag → List ℕ
default_of ServerAddress = codes "unix:///tmp/reproxy.sock"
default_of ExecStrategy = codes "remote"
default_of Labels = codes "type=tool"
default_of AcceptCached = codes "true"
default_of ExecTimeout = codes "0"
default_of ShutdownProxy = codes "false"
default_of RelativePaths = codes "false"
default_of InPlace = codes "true"
default_of WithoutProxy = codes "refuse"
default_of Verbose = codes "false"
default_of flag = []
