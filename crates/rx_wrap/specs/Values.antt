-- The value of each flag, in the order in which they are read.
use Rattle.std.specs.Prelude.{ℕ, List, [], Option, Some, None, Result, Ok, Err}
use Rattle.rx_base.specs.Results.{◌>>=◌}
use Rattle.rx_world.specs.declared.commands.Pair.{Pair}
use Rattle.rx_wrap.specs.Addresses.{address_of}
use Rattle.rx_wrap.specs.Choices.{kind_of, strategy_named, truth_named, unproxied_named}
use Rattle.rx_wrap.specs.Commas.{listed, pairs_of}
use Rattle.rx_wrap.specs.Flags.{default_of}
use Rattle.rx_wrap.specs.Numbers.{seconds_in}
use Rattle.rx_wrap.specs.Settings.{Setting, Settings, setting, setting_of}
use Rattle.rx_wrap.specs.declared.flags.Flag.{Flag}
use Rattle.rx_wrap.specs.declared.flags.Flag.TheVariants.{ServerAddress, ExecStrategy, Labels, Platform, AcceptCached, ExecTimeout, ShutdownProxy, RelativePaths, InPlace, WithoutProxy, Verbose}
use Rattle.rx_wrap.specs.declared.usage_fault.UsageFault.{UsageFault}
use Rattle.rx_wrap.specs.declared.usage_fault.UsageFault.TheVariants.{Word}
use Rattle.rx_wrap.specs.declared.values.Values.{Values}

-- a flag's setting that counts, or its default, which stands nowhere
abbrev pub or_default : Flag → Option Setting → Setting
or_default flag (Some given) = given
or_default flag None = setting flag (default_of flag) []

abbrev pub counting : Flag → Settings → Setting
counting flag settings = or_default flag (setting_of flag settings)

-- the text of a flag's value
abbrev pub text_of : Flag → Settings → List ℕ
text_of flag settings = (counting flag settings).value

-- a value that can't be read is told by what gave it
abbrev pub or_fault : {X : Type 0} → List ℕ → Option X → Result X UsageFault
or_fault place (Some value) = Ok value
or_fault place None = Err (Word place)

abbrev pub value_in : {X : Type 0} → (List ℕ → Option X) → Flag → Settings → Result X UsageFault
value_in read flag settings = or_fault (counting flag settings).place (read (text_of flag settings))

abbrev pub pairs_named : List ℕ → Option (List Pair)
pairs_named text = pairs_of (listed text)

-- the values that can be bad, in the order of the table
unfoldable pub values_in : Settings → Result Values UsageFault
values_in settings = do
  address ← value_in address_of ServerAddress settings
  strategy ← value_in strategy_named ExecStrategy settings
  labels ← value_in pairs_named Labels settings
  platform ← value_in pairs_named Platform settings
  accept_cached ← value_in truth_named AcceptCached settings
  timeout_seconds ← value_in seconds_in ExecTimeout settings
  shuts_down ← value_in truth_named ShutdownProxy settings
  relative_paths ← value_in truth_named RelativePaths settings
  in_place ← value_in truth_named InPlace settings
  without_proxy ← value_in unproxied_named WithoutProxy settings
  verbose ← value_in truth_named Verbose settings
  Ok (record {
    address = address;
    strategy = strategy;
    kind = kind_of labels;
    platform = platform;
    accept_cached = accept_cached;
    timeout_seconds = timeout_seconds;
    shuts_down = shuts_down;
    relative_paths = relative_paths;
    in_place = in_place;
    without_proxy = without_proxy;
    verbose = verbose;
  })
