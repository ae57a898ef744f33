-- The words of the command line that ask for a text.
use Rattle.std.specs.Prelude.{List, [], ◌∷◌, Option, None, Some, String, codes, string_bytes, if◌then◌else◌}
use Rattle.std.specs.Str.{bytes_eq}
use Rattle.reproxy.specs.declared.words.Page.{Page}
use Rattle.reproxy.specs.declared.words.Page.TheVariants.{Exec, Serve, Usage, Version}

-- `--help` or `--version` alone, or `--help` behind a command
abbrev pub page_in : {A : Type 0} → List (String A) → Option Page
page_in (word ∷ []) =
    if bytes_eq (string_bytes word) (codes "--help") then Some Usage
    else if bytes_eq (string_bytes word) (codes "--version") then Some Version
    else None
page_in (command ∷ word ∷ []) =
    if bytes_eq (string_bytes word) (codes "--help") then
    if bytes_eq (string_bytes command) (codes "exec") then Some Exec
    else if bytes_eq (string_bytes command) (codes "serve") then Some Serve
    else None
    else None
page_in words = None
