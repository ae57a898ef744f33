-- The words of the command line: `exec` or `serve`, and options in any order, each once at most.
use Rattle.std.specs.Prelude.{ℕ, List, [], ◌∷◌, Bool, not, ◌&&◌, ◌==◌, Option, None, Some, is_some, option_map, String, codes, if◌then◌else◌, length, nat_lt, string_bytes}
use Rattle.std.specs.Option.{option_and_then, unwrap_or}
use Rattle.std.specs.Str.{bytes_eq}
use Rattle.rx_daemon.specs.Addresses.{is_address, is_listening_address}
use Rattle.rx_daemon.specs.Cuts.{after, before, begins, has}
use Rattle.rx_daemon.specs.Numbers.{Numbers, no_numbers, with_number}

-- what the words ask for
pub record Options : Type 0 where
  pub root : List ℕ
  pub listen : Option (List ℕ)
  pub remote : Option (List ℕ)
  pub instance : List ℕ
  pub scratch : List ℕ
  pub sessions : ℕ
  pub slots : ℕ
  pub call_timeout : ℕ
  pub farm_silence : ℕ

-- the values that options have so far, and the name whose value is the next word
pub record Given : Type 0 where
  pub root : Option (List ℕ)
  pub listen : Option (List ℕ)
  pub remote : Option (List ℕ)
  pub instance : Option (List ℕ)
  pub scratch : Option (List ℕ)
  pub numbers : Numbers
  pub waiting : Option (List ℕ)

abbrev pub nothing_given : Given
nothing_given =
    record { root = None; listen = None; remote = None; instance = None; scratch = None; numbers = no_numbers; waiting = None }

-- an option that has no value yet gets one that fits
abbrev pub once : Option (List ℕ) → Bool → List ℕ → Option (List ℕ)
once None fits value = if fits then Some value else None
once (Some given) fits value = None

-- an option and its value: --root PATH, --listen ADDRESS, --remote HOST:PORT, --instance NAME, --scratch DIR, or one with a number
unfoldable pub with_option : Given → List ℕ → List ℕ → Option Given
with_option given name value =
    if bytes_eq name (codes "--root") then
    option_map (λ root. record given { root = Some root; waiting = None }) (once given.root (begins value (codes "/")) value)
    else if bytes_eq name (codes "--listen") then
    option_map (λ listen. record given { listen = Some listen; waiting = None })
    (once given.listen (is_listening_address value) value)
    else if bytes_eq name (codes "--remote") then
    option_map (λ remote. record given { remote = Some remote; waiting = None }) (once given.remote (is_address value) value)
    else if bytes_eq name (codes "--instance") then
    option_map (λ instance. record given { instance = Some instance; waiting = None })
    (once given.instance (nat_lt 0 (length value)) value)
    else if bytes_eq name (codes "--scratch") then
    option_map (λ scratch. record given { scratch = Some scratch; waiting = None })
    (once given.scratch (begins value (codes "/")) value)
    else option_map (λ numbers. record given { numbers = numbers; waiting = None }) (with_number given.numbers name value)

abbrev pub equals_sign : ℕ
equals_sign = 61

-- a word behind a name is its value, unless it begins with a dash; else it is NAME=VALUE, or a name
abbrev pub with_word_by : Option (List ℕ) → Given → List ℕ → Option Given
with_word_by (Some name) given word = if begins word (codes "-") then None else with_option given name word
with_word_by None given word =
    if has equals_sign word then with_option given (before equals_sign word) (after equals_sign word)
    else Some (record given { waiting = Some word })

unfoldable pub with_word : Given → List ℕ → Option Given
with_word given word = with_word_by given.waiting given word

-- the words one after the other
abbrev pub with_words : {A : Type 0} → Given → List (String A) → Option Given
with_words given [] = Some given
with_words given (word ∷ words) = option_and_then (λ more. with_words more words) (with_word given (string_bytes word))

-- the command that the words need: `serve` where there is an address to listen at, and else `exec`
abbrev pub is_command : List ℕ → Bool → Bool
is_command command listens =
    if bytes_eq command (codes "exec") then not listens else bytes_eq command (codes "serve") && listens

-- the instance is empty by default, sandboxes are made in /tmp, and both limits of time are a minute
abbrev pub options_below : List ℕ → Given → Options
options_below root given = record {
  root = root;
  listen = given.listen;
  remote = given.remote;
  instance = unwrap_or given.instance [];
  scratch = unwrap_or given.scratch (codes "/tmp");
  sessions = unwrap_or given.numbers.sessions 16;
  slots = unwrap_or given.numbers.slots 4;
  call_timeout = unwrap_or given.numbers.call_timeout 60;
  farm_silence = unwrap_or given.numbers.farm_silence 60;
}

-- a root is wanted, and no name may lack its value
abbrev pub options_by : Option (List ℕ) → Option (List ℕ) → Given → Option Options
options_by None (Some root) given = Some (options_below root given)
options_by waiting root given = None

abbrev pub options_of : List ℕ → Given → Option Options
options_of command given = if is_command command (is_some given.listen) then options_by given.waiting given.root given else None

-- what the words ask for, where they are in the grammar
unfoldable pub options_in : {A : Type 0} → List (String A) → Option Options
options_in [] = None
options_in (command ∷ words) = option_and_then (options_of (string_bytes command)) (with_words nothing_given words)

-- the root that they ask for
abbrev pub root_in : {A : Type 0} → List (String A) → Option (List ℕ)
root_in words = option_map (λ options. options.root) (options_in words)

-- how many sessions they let run at once, at least one
abbrev pub at_least_one : ℕ → ℕ
at_least_one n = if n == 0 then 1 else n

abbrev pub sessions_of : Option Options → ℕ
sessions_of None = 1
sessions_of (Some options) = at_least_one options.sessions

abbrev pub sessions_in : {A : Type 0} → List (String A) → ℕ
sessions_in words = sessions_of (options_in words)
