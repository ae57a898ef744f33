-- A walk over Directories, as the loops go.
use Rattle.std.proofs.Common.{◌≡◌, ◌≢◌, ◌∙◌, ℕ, zero, suc, ◌+◌, ◌<◌, true, List, [], ◌∷◌, ◌++◌, Option, length, get_or, drop, Result, Ok, Err, refl, sym, ap, arith}
use Rattle.std.proofs.lemmas.Bool.{le-leb}
use Rattle.std.proofs.lemmas.List.{at_drop_more}
use Rattle.std.specs.Prelude.{nat_le}
use Rattle.rx_base.specs.Results.{◌>>=◌}
use Rattle.rx_base.specs.declared.digests.Digest.{Digest}
use Rattle.rx_tree.specs.declared.blobs.Blob.{Blob}
use Rattle.rx_tree.specs.declared.tree_fault.TreeFault.{TreeFault}
use Rattle.rx_tree.specs.declared.tree_fault.TreeFault.TheVariants.{NoMemory, TooManyFiles}
use Rattle.rx_tree.specs.declared.walks.Seen.{Seen}
use Rattle.rx_tree.specs.declared.walks.Sub.{Sub}
use Rattle.rx_tree.specs.Refusals.{most_files}
use Rattle.rx_tree.specs.Walks.{child_of, each, entered, entered_with, named_by, walked, with_nodes}

-- the next node, and then the others
pub with_nodes-drop : {N T : Type 0} (name : N → List ℕ) (content : N → Option Digest) (told : N → List ℕ → Digest → T) (digest : Digest) (path : List ℕ) (nodes : List N) (items : List T) (i : ℕ) (node : N)
    → i < length nodes → node ≡ get_or nodes i node
    → with_nodes name content told digest path (drop i nodes) items
    ≡ (child_of digest path (name node) >>= λ child. named_by digest (content node) >>= λ named. with_nodes name content told digest path (drop (i + 1) nodes) (items ++ told node child named ∷ []))
unfolding with_nodes
with_nodes-drop name content told digest path nodes items i node lt is =
    at_drop_more (λ ns. with_nodes name content told digest path ns items) nodes i node lt
    ∙ ap (λ n. child_of digest path (name n) >>= λ child. named_by digest (content n) >>= λ named. with_nodes name content told digest path (drop (i + 1) nodes) (items ++ told n child named ∷ [])) (sym is)

-- ---- the walk

-- a directory that can't be entered ends the walk
pub walked-refused : (most : ℕ) (blobs : List Blob) (digest : Digest) (path : List ℕ) (seen : Seen) (fault : TreeFault) → most_files < most + seen.entered → (fault ≢ NoMemory → entered blobs digest path seen ≡ Err fault)
    → fault ≢ NoMemory → walked most blobs digest path seen ≡ Err fault
unfolding walked entered
walked-refused zero blobs digest path seen fault enough refused other =
    let full : nat_le most_files seen.entered ≡ true = le-leb most_files seen.entered (omega arith) in
    let same = rw full at (refused other) in
    let is : TooManyFiles ≡ fault = cc same in
    ap (λ (f : TreeFault). let r : Result Seen TreeFault = Err f in r) is
walked-refused (suc most) blobs digest path seen fault enough refused other = rw (refused other) refl

-- one that can goes on with those below it
pub walked-entered : (most : ℕ) (blobs : List Blob) (digest : Digest) (path : List ℕ) (seen next : Seen) (subs : List Sub) → entered blobs digest path seen ≡ Ok (entered_with next subs)
    → walked (suc most) blobs digest path seen ≡ each (λ sub more. walked most blobs sub.digest sub.path more) subs next
unfolding walked
walked-entered most blobs digest path seen next subs e = rw e refl

pub each-drop : (go : Sub → Seen → Result Seen TreeFault) (subs : List Sub) (seen : Seen) (i : ℕ) (sub : Sub) → i < length subs → sub ≡ get_or subs i sub
    → each go (drop i subs) seen ≡ (go sub seen >>= λ next. each go (drop (i + 1) subs) next)
each-drop go subs seen i sub lt is =
    at_drop_more (λ ss. each go ss seen) subs i sub lt ∙ ap (λ s. go s seen >>= λ next. each go (drop (i + 1) subs) next) (sym is)

-- enough levels are one at least, where there is room
pub some_levels : (most entered : ℕ) → most_files < most + entered → entered < most_files → (fewer : ℕ) × (most ≡ suc fewer)
some_levels zero entered enough room = absurd (omega arith)
some_levels (suc most) entered enough room = (most, refl)
