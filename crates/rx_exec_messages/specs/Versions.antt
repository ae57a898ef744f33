-- A version of the API (build/bazel/semver/semver.proto, SemVer).
use Rattle.std.specs.Prelude.{ℕ, List, ◌++◌, Result, Ok}
use Rattle.rx_wire.specs.Values.{Field}
use Rattle.rx_codec.specs.Contents.{int32_in, int32_put}
use Rattle.rx_codec.specs.FieldBytes.{contents, numbered}
use Rattle.rx_codec.specs.Parts.{Part, anything}
use Rattle.rx_codec.specs.declared.faults.MessageFault.{MessageFault}
use Rattle.rx_world.specs.declared.versions.SemVer.{SemVer}
use Rattle.rx_exec_messages.specs.declared.versions.Version.{Version}

-- ---- Version: major 1, minor 2, patch 3

abbrev pub version_parts : ℕ → Part
version_parts number = anything

unfoldable pub version_fields : Version → List Field
version_fields x =
    numbered 1 (int32_put x.major)
    ++ numbered 2 (int32_put x.minor)
    ++ numbered 3 (int32_put x.patch)

unfoldable pub version_from : List Field → Result Version MessageFault
version_from fields =
    Ok (record {
      major = int32_in (contents 1 fields);
      minor = int32_in (contents 2 fields);
      patch = int32_in (contents 3 fields);
    })

abbrev pub version_is_readable : Version → Type 0
version_is_readable x = Unit {0}

-- the version of the API that a message tells
abbrev pub sem_ver_of : Version → SemVer
sem_ver_of x = record { major = x.major; minor = x.minor; patch = x.patch }

-- the message that tells a version
abbrev pub version_of : SemVer → Version
version_of x = record { major = x.major; minor = x.minor; patch = x.patch }
