-- Paths read of their own texts.
use Rattle.std.proofs.Common.{◌≡◌, ◌≢◌, ℕ, false, List, [], ◌∷◌, length, refl, arith}
use Rattle.std.specs.Prelude.{◌==◌, Ok}
use Rattle.std.proofs.lemmas.Bool.{ne_eqb}
use Rattle.rx_base.specs.Paths.{read_of}
use Rattle.rx_base.proofs.ByteLists.{bytes_eq-itself}
use Rattle.rx_session.specs.PathTexts.{own_path}

pub own_again : (path : List ℕ) → (path ≢ [] → read_of path ≡ Ok path) → own_path path ≡ Ok path
unfolding own_path
own_again [] h = refl
own_again (b ∷ bytes) h =
    let some : (length (b ∷ bytes) == 0) ≡ false = ne_eqb (length (b ∷ bytes)) 0 (λ e. omega arith) in
    rw (some, h (λ e. cc), bytes_eq-itself (b ∷ bytes)) refl
