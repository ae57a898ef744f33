-- Names of the files and directories that a proxy makes for its own use.
use Rattle.std.specs.Prelude.{ℕ, List, ◌++◌, codes}
use Rattle.std.specs.Fmt.{decimal}

-- reproxy-PROCESS-NUMBER, both in decimal digits
abbrev pub own_name : ℕ → ℕ → List ℕ
own_name process number = codes "reproxy-" ++ (decimal process ++ (codes "-" ++ decimal number))
