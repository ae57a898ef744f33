-- Each Directory that a Tree writes is in its one form.
use Rattle.std.proofs.Common.{◌≡◌, ℕ, ◌+◌, ◌<◌, ◌≤◌, Bool, true, false, cond, List, [], ◌∷◌, length, drop, get_or, Option, Some, None, refl, ◌∙◌, arith, suc}
use Rattle.std.specs.Prelude.{IfSome, not}
use Rattle.std.specs.Borrow.{Bor}
use Rattle.std.proofs.Math.Seq.{drop-cons}
use Rattle.rx_base.specs.Texts.{texts as slices}
use Rattle.std.specs.List.{AllByRecursion}
use Rattle.std.proofs.lemmas.List.{append-nil, drop_all, get_or-map, length-map}
use Rattle.rx_codec.specs.Contents.{chunks, each_put, one_put}
use Rattle.rx_messages.specs.Directories.{directory_fields, directory_has_one_form, directory_is_readable}
use Rattle.rx_codec.specs.FieldBytes.{contents, fields_bytes, fields_in}
use Rattle.rx_messages.proofs.OneForm.{form_of}
use Rattle.rx_messages.specs.Trees.{each_has_one_form, root_has_one_form, tree_fields, tree_has_one_form, tree_is_readable}
use Rattle.rx_messages.specs.declared.directories.Directory.{Directory}
use Rattle.rx_messages.specs.declared.trees.Tree.{Tree}
use Rattle.rx_codec.proofs.ContentLaws.{contents-append, contents-numbered}

root_form : (root : Option Directory) → IfSome root directory_is_readable → root_has_one_form (chunks (one_put directory_fields root)) root ≡ true
unfolding root_has_one_form one_put chunks
root_form None can = refl
root_form (Some directory) can = rw (append-nil (fields_bytes (directory_fields directory))) (form_of directory can)

each_form : (directories : List Directory) → AllByRecursion directory_is_readable directories → each_has_one_form (chunks (each_put directory_fields directories)) directories ≡ true
unfolding each_has_one_form each_put chunks
each_form [] can = refl
each_form (directory ∷ directories) can = rw (form_of directory can.0) (each_form directories can.1)

pub one_form : (x : Tree) → tree_is_readable x → fields_in (fields_bytes (tree_fields x)) ≡ tree_fields x → tree_has_one_form (fields_bytes (tree_fields x)) x ≡ true
unfolding tree_has_one_form tree_fields
one_form x can read =
    let root : contents 1 (tree_fields x) ≡ one_put directory_fields x.root = simp (contents-append, contents-numbered, append-nil) refl in
    let children : contents 2 (tree_fields x) ≡ each_put directory_fields x.children = simp (contents-append, contents-numbered, append-nil) refl in
    let first : root_has_one_form (chunks (contents 1 (tree_fields x))) x.root ≡ true = rw root (root_form x.root can.0) in
    let others : each_has_one_form (chunks (contents 2 (tree_fields x))) x.children ≡ true = rw children (each_form x.children can.1) in
    rw (read, first) others

-- ---- one after the other

module _ (pieces : List (Bor (List ℕ))) (directories : List Directory) (i : ℕ) (piece : Bor (List ℕ)) (directory : Directory) (whole : Bool) where
  step : i < length pieces → i < length directories → each_has_one_form (drop i (slices pieces)) (drop i directories)
      ≡ cond (not (directory_has_one_form (get_or pieces i piece).now (get_or directories i directory))) false (each_has_one_form (drop (i + 1) (slices pieces)) (drop (i + 1) directories))
  unfolding each_has_one_form
  step lt less =
      let e : i + 1 ≡ suc i = omega arith in
      let inside : i < length (slices pieces) = rw (length-map pieces (λ (name : Bor (List ℕ)). name.now)) lt in
      let is : get_or (slices pieces) i [] ≡ (get_or pieces i piece).now = get_or-map (λ (name : Bor (List ℕ)). name.now) pieces i piece [] lt in
      rw (e, drop-cons (slices pieces) i [] inside, drop-cons directories i directory less, is) refl

  pub each_more : i < length pieces → i < length directories → whole ≡ each_has_one_form (drop i (slices pieces)) (drop i directories)
      → directory_has_one_form (get_or pieces i piece).now (get_or directories i directory) ≡ true → whole ≡ each_has_one_form (drop (i + 1) (slices pieces)) (drop (i + 1) directories)
  each_more lt less e holds = e ∙ step lt less ∙ (rw holds refl)

  pub each_stops : i < length pieces → i < length directories → whole ≡ each_has_one_form (drop i (slices pieces)) (drop i directories)
      → directory_has_one_form (get_or pieces i piece).now (get_or directories i directory) ≡ false → whole ≡ false
  each_stops lt less e other = e ∙ step lt less ∙ (rw other refl)

none_left : (pieces : List (List ℕ)) → each_has_one_form pieces [] ≡ true
unfolding each_has_one_form
none_left [] = refl
none_left (piece ∷ pieces) = refl

no_piece_left : (directories : List Directory) → each_has_one_form [] directories ≡ true
unfolding each_has_one_form
no_piece_left directories = refl

pub directories_end : (pieces : List (Bor (List ℕ))) (directories : List Directory) (i : ℕ) (whole : Bool) → length directories ≤ i → whole ≡ each_has_one_form (drop i (slices pieces)) (drop i directories) → whole ≡ true
directories_end pieces directories i whole le e = e ∙ (rw (drop_all i directories le) (none_left (drop i (slices pieces))))

pub pieces_end : (pieces : List (Bor (List ℕ))) (directories : List Directory) (i : ℕ) (whole : Bool) → length pieces ≤ i → whole ≡ each_has_one_form (drop i (slices pieces)) (drop i directories) → whole ≡ true
pieces_end pieces directories i whole le e =
    let past : length (slices pieces) ≤ i = rw (length-map pieces (λ (name : Bor (List ℕ)). name.now)) le in
    e ∙ (rw (drop_all i (slices pieces) past) (no_piece_left (drop i directories)))
