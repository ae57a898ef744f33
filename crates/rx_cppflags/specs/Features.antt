-- The ways to compile, words that begin with `-f`, by which a compiler reads or writes more files than the source, what
-- it includes and the object, or makes no object.
use Rattle.std.specs.Prelude.{ℕ, Bool, List, [], ◌∷◌, nat_eq, codes}
use Rattle.std.specs.List.{list_any, starts_with}

-- what such words begin with, behind `-f`
abbrev pub far_features : List (List ℕ)
far_features =
    codes "apinotes" ∷
    codes "auto-profile" ∷
    codes "basic-block-sections=" ∷
    codes "branch-probabilities" ∷
    codes "callgraph-info" ∷
    codes "compare-debug" ∷
    codes "create-profile" ∷
    codes "cs-profile" ∷
    codes "cxx-modules" ∷
    codes "deps-" ∷
    codes "diagnostics-add-output" ∷
    codes "diagnostics-set-output" ∷
    codes "directives-only" ∷
    codes "dump-" ∷
    codes "embed-offload" ∷
    codes "help" ∷
    codes "implicit-module" ∷
    codes "include" ∷
    codes "input-charset" ∷
    codes "ltrans" ∷
    codes "module" ∷
    codes "ms-compatibility" ∷
    codes "offload" ∷
    codes "openmp-targets" ∷
    codes "optimization-record" ∷
    codes "pass-plugin" ∷
    codes "pch" ∷
    codes "plugin" ∷
    codes "prebuilt" ∷
    codes "preprocessed" ∷
    codes "proc-stat-report" ∷
    codes "profile" ∷
    codes "randomize-layout-seed-file" ∷
    codes "repo" ∷
    codes "resolution" ∷
    codes "rewrite-map-file" ∷
    codes "sanitize-blacklist" ∷
    codes "sanitize-coverage-allowlist" ∷
    codes "sanitize-coverage-blacklist" ∷
    codes "sanitize-coverage-ignorelist" ∷
    codes "sanitize-coverage-whitelist" ∷
    codes "sanitize-ignorelist" ∷
    codes "sanitize-system" ∷
    codes "save-optimization-record" ∷
    codes "self-test" ∷
    codes "syntax-only" ∷
    codes "system-module" ∷
    codes "target-help" ∷
    codes "test-coverage" ∷
    codes "thin-link-bitcode" ∷
    codes "thinlto-index" ∷
    codes "time-trace=" ∷
    codes "version" ∷
    codes "wpa" ∷
    codes "xray-always" ∷
    codes "xray-attr" ∷
    codes "xray-never" ∷
    []

-- whether what stands behind `-f` is such
abbrev pub is_far : List ℕ → Bool
is_far feature = list_any (λ start. starts_with nat_eq feature start) far_features
