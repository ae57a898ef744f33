-- What the system tells of a file, as a look.
use Rattle.std.specs.Prelude.{ℕ, ◌==◌, Bool, not, bit_and, if◌then◌else◌}
use Rattle.std.specs.Fs.{file_type, metadata_len, metadata_mode}
use Rattle.std.specs.declared.fs.attrs.Metadata.{Metadata}
use Rattle.rx_world.specs.declared.looks.Look.{Look}
use Rattle.rx_world.specs.declared.looks.Look.TheVariants.{File, Dir, Other}

-- the owner may execute it (POSIX S_IXUSR)
abbrev pub owner_executes : Metadata → Bool
owner_executes metadata = not (bit_and (metadata_mode metadata) 0o100 == 0)

-- a directory (S_IFDIR), a regular file (S_IFREG) with this mark, or anything else
abbrev pub look_of : Metadata → ℕ → Look
look_of metadata mark =
    if (file_type metadata).bits == 0o040000 then Dir
    else if (file_type metadata).bits == 0o100000 then
    File (record { size = metadata_len metadata; mark = mark }) (owner_executes metadata)
    else Other
