-- A path below the root, and the paths above it.
use Rattle.std.proofs.Common.{◌≡◌, ℕ, ◌==◌, false, List, [], ◌∷◌, ◌++◌, length, refl, sym, true≢false}
use Rattle.rx_base.specs.Paths.{prefixes_of}
use Rattle.rx_world.specs.Trees.{with_prefixes}

pub with_prefixes_some : (path : List ℕ) → (length path == 0) ≡ false → with_prefixes path ≡ prefixes_of path ++ path ∷ []
with_prefixes_some [] some = absurd (true≢false some)
with_prefixes_some (byte ∷ bytes) some = refl
