-- Values that are one of several words.
use Rattle.std.specs.Prelude.{ℕ, List, [], ◌∷◌, Bool, true, false, Option, Some, None, codes, if◌then◌else◌}
use Rattle.std.specs.Str.{bytes_eq}
use Rattle.rx_world.specs.declared.commands.Kind.{Kind}
use Rattle.rx_world.specs.declared.commands.Kind.TheVariants as kinds
use Rattle.rx_world.specs.declared.commands.Pair.{Pair}
use Rattle.rx_world.specs.declared.commands.Strategy.{Strategy}
use Rattle.rx_world.specs.declared.commands.Strategy.TheVariants as strategies

unfoldable pub strategy_named : List ℕ → Option Strategy
strategy_named name =
    if bytes_eq name (codes "local") then Some strategies.Local
    else if bytes_eq name (codes "remote") then Some strategies.Remote
    else if bytes_eq name (codes "remote_local_fallback") then Some strategies.RemoteLocalFallback
    else if bytes_eq name (codes "racing") then Some strategies.Racing
    else None

-- the words of a switch
unfoldable pub truth_named : List ℕ → Option Bool
truth_named word =
    if bytes_eq word (codes "1") then Some true
    else if bytes_eq word (codes "t") then Some true
    else if bytes_eq word (codes "T") then Some true
    else if bytes_eq word (codes "true") then Some true
    else if bytes_eq word (codes "TRUE") then Some true
    else if bytes_eq word (codes "True") then Some true
    else if bytes_eq word (codes "0") then Some false
    else if bytes_eq word (codes "f") then Some false
    else if bytes_eq word (codes "F") then Some false
    else if bytes_eq word (codes "false") then Some false
    else if bytes_eq word (codes "FALSE") then Some false
    else if bytes_eq word (codes "False") then Some false
    else None

-- whether a command runs in place where there is no proxy
unfoldable pub unproxied_named : List ℕ → Option Bool
unproxied_named word =
    if bytes_eq word (codes "refuse") then Some false
    else if bytes_eq word (codes "in_place") then Some true
    else None

-- `type=compile`; every other type is a tool
abbrev pub kind_named : List ℕ → Kind
kind_named word = if bytes_eq word (codes "compile") then kinds.Compile else kinds.Tool

abbrev pub is_compile : Kind → Bool
is_compile kinds.Compile = true
is_compile kinds.Tool = false

-- the kind after one more label
abbrev pub with_label : Kind → Pair → Kind
with_label kind label = if bytes_eq label.name (codes "type") then kind_named label.value else kind

abbrev pub with_labels : Kind → List Pair → Kind
with_labels kind [] = kind
with_labels kind (label ∷ labels) = with_labels (with_label kind label) labels

-- what the last `type` says; a tool where there is none
abbrev pub kind_of : List Pair → Kind
kind_of labels = with_labels kinds.Tool labels
