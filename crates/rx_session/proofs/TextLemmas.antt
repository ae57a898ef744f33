-- The empty text.
use Rattle.std.proofs.Common.{◌≡◌, ℕ, true, List, [], ◌∷◌, length, refl, sym, ◌∙◌, arith, true≢false}
use Rattle.std.specs.Prelude.{◌==◌}
use Rattle.std.proofs.lemmas.Bool.{ne_eqb}
use Rattle.rx_base.specs.Paths.{read_of}
use Rattle.rx_session.specs.Rules.{directory_holds, path_in}

empty_text : (text : List ℕ) → (length text == 0) ≡ true → text ≡ []
empty_text [] h = refl
empty_text (b ∷ bytes) h = absurd (true≢false (sym h ∙ ne_eqb (length (b ∷ bytes)) 0 (λ e. omega arith)))

-- an empty text stands for the root
pub root_directory : (path text : List ℕ) → path ≡ [] → (length text == 0) ≡ true → (path ≡ path_in text) × (directory_holds text ≡ true)
unfolding directory_holds read_of
root_directory path text e h = rw (empty_text text h) (e, refl)
