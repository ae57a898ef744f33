-- Where a farm looks for the outputs of a Command, by the versions that it tells (remote_execution.proto, ServerCapabilities and Command).
use Rattle.std.specs.Prelude.{ℕ, ℤ, pos, negsuc, ◌==◌, ◌&&◌, Bool, false, Option, None, Some, if◌then◌else◌}
use Rattle.rx_world.specs.declared.versions.Dialect.{Dialect}
use Rattle.rx_world.specs.declared.versions.Dialect.TheVariants.{New, Old}
use Rattle.rx_world.specs.declared.versions.SemVer.{SemVer}

-- whether a part of a version is this number
abbrev pub is_number : ℕ → ℤ → Bool
is_number n (pos m) = m == n
is_number n (negsuc m) = false

-- version 2.0, whatever its patch
abbrev pub is_old : SemVer → Bool
is_old version = is_number 2 version.major && is_number 0 version.minor

-- A farm whose highest version is 2.0 is an old one. One that doesn't tell both ends of its range is a new one.
abbrev pub dialect_of : Option SemVer → Option SemVer → Dialect
dialect_of (Some low) (Some high) = if is_old high then Old else New
dialect_of (Some low) None = New
dialect_of None high = New
