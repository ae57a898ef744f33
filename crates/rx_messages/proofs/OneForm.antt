-- What is written for a Directory in canonical form is its one form.
use Rattle.std.specs.Prelude.{◌≡◌, ℕ, Bool, true, false, not, List, refl, if◌then◌else◌}
use Rattle.std.proofs.Common.{ap, ◌∙◌}
use Rattle.std.specs.Str.{bytes_eq}
use Rattle.std.proofs.lemmas.Slice.Eq.{bytes_eq-Decides}
use Rattle.rx_codec.specs.FieldBytes.{fields_bytes}
use Rattle.rx_messages.specs.Directories.{directory_fields, directory_has_one_form, directory_is_readable}
use Rattle.rx_messages.specs.declared.directories.Directory.{Directory}

pub form_of : (directory : Directory) → directory_is_readable directory → directory_has_one_form (fields_bytes (directory_fields directory)) directory ≡ true
unfolding directory_has_one_form
form_of directory can =
    let bytes : List ℕ = fields_bytes (directory_fields directory) in
    ap (λ (t : Bool). if not t then false else bytes_eq bytes bytes) can.0 ∙ (bytes_eq-Decides bytes bytes).1 refl
