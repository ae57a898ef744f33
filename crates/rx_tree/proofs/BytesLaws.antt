-- The bytes of a Directory tell its files, and the names of its directories.
use Rattle.std.proofs.Common.{◌≡◌, ◌∙◌, ℕ, ◌+◌, ◌*◌, ◌^◌, ◌<◌, ◌≤◌, ◌==◌, Bool, true, false, List, [], ◌∷◌, ◌++◌, Some, cond, length, map, ◌/◌, ◌%◌, append-nil, length-append, refl, sym, ap, subst, arith}
use Rattle.std.specs.List.{AllByRecursion}
use Rattle.std.proofs.lemmas.Grind.{flat_map-append}
use Rattle.std.proofs.lemmas.List.{map-id}
use Rattle.hex.specs.Hex.{IsBytes, decode_sized, encode_lower, lower_digits}
use Rattle.hex.proofs.HexLemmas.{decode_sized-encode_lower, length-encode_with}
use Rattle.rx_base.specs.declared.digests.Digest.{Digest}
use Rattle.rx_wire.specs.Values.{Content as Value, Field, bytes, fixed32, fixed64, varint}
use Rattle.rx_wire.specs.Varints.{shortest}
use Rattle.rx_wire.specs.Fields.{SpellsField, SpellsFields}
use Rattle.rx_wire.specs.Out.{bytes_field, varint_field}
use Rattle.rx_wire.proofs.FieldLaws.{Appends-bytes, Appends-varint}
use Rattle.rx_codec.specs.Contents.{each_put, number_in, number_put, one_put, text_in, text_put, truth_in, truth_put}
use Rattle.rx_codec.specs.Digests.{digest_fields}
use Rattle.rx_messages.specs.Directories.{directory_fields}
use Rattle.rx_codec.specs.FieldBytes.{contents, field_bytes, fields_bytes, fields_in, numbered}
use Rattle.rx_messages.specs.Nodes.{directory_node_fields, file_node_fields, symlink_node_fields}
use Rattle.rx_messages.specs.declared.nodes.FileNode.{FileNode}
use Rattle.rx_messages.specs.declared.nodes.DirectoryNode.{DirectoryNode}
use Rattle.rx_messages.specs.declared.directories.Directory.{Directory}
use Rattle.rx_codec.proofs.ContentLaws.{contents-append, contents-numbered, number_again, text_again, truth_again}
use Rattle.rx_codec.proofs.FieldRead.{fields_in-spelled}
use Rattle.rx_base.proofs.Lists.{All-append, All-weaken}
use Rattle.rx_wire.proofs.Grammar.{length-groups}
use Rattle.rx_tree.specs.Entries.{Content}
use Rattle.rx_tree.specs.Listings.{IsDigest}
use Rattle.rx_tree.specs.Trees.{bytes_with, directory_node, file_node}

-- ---- fields that are read again

abbrev Fits : Value → Type 0
Fits (varint n) = n < 2 ^ 64
Fits (bytes b) = length b < 2 ^ 64
Fits (fixed64 n) = ⊥
Fits (fixed32 n) = ⊥

record IsWritable (f : Field) : Type 0 where
  pub above : 0 < f.number
  pub below : f.number < 2 ^ 29
  pub fits : Fits f.content

spelled_content : (number : ℕ) (value : Value) → 0 < number → number < 2 ^ 29 → Fits value → SpellsField (record { number = number; content = value }) (field_bytes (record { number = number; content = value }))
spelled_content number (varint n) above below fits =
    let one = Appends-varint [] (varint_field number n) number n above below fits refl in
    subst (λ (text : List ℕ). SpellsField (record { number = number; content = varint n }) text) (sym one.parts) one.spelled
spelled_content number (bytes b) above below fits =
    let one = Appends-bytes [] (bytes_field number b) number b above below fits refl in
    subst (λ (text : List ℕ). SpellsField (record { number = number; content = bytes b }) text) (sym one.parts) one.spelled
spelled_content number (fixed64 n) above below fits = absurd fits
spelled_content number (fixed32 n) above below fits = absurd fits

spelled_all : (fs : List Field) → AllByRecursion IsWritable fs → SpellsFields fs (fields_bytes fs)
unfolding fields_bytes
spelled_all [] h = refl
spelled_all (f ∷ fs) h = (field_bytes f, fields_bytes fs, refl, spelled_content f.number f.content h.0.above h.0.below h.0.fits, spelled_all fs h.1)

same_fields : (fs gs : List Field) → AllByRecursion IsWritable fs → AllByRecursion IsWritable gs → fields_bytes fs ≡ fields_bytes gs → fs ≡ gs
same_fields fs gs h k e =
    sym (fields_in-spelled fs (fields_bytes fs) (spelled_all fs h)) ∙ ap fields_in e ∙ fields_in-spelled gs (fields_bytes gs) (spelled_all gs k)

-- ---- how long they are

length-shortest : (n : ℕ) → length (shortest n) ≤ 10
unfolding shortest
length-shortest n = length-groups 9 n

-- the fields, and how long their bytes are at most
record AreShort (fs : List Field) (most : ℕ) : Type 0 where
  pub each : AllByRecursion IsWritable fs
  pub short : length (fields_bytes fs) ≤ most

fields_bytes-append : (fs gs : List Field) → fields_bytes (fs ++ gs) ≡ fields_bytes fs ++ fields_bytes gs
unfolding fields_bytes
fields_bytes-append fs gs = flat_map-append field_bytes fs gs

AreShort-append : (fs gs : List Field) (m n : ℕ) → AreShort fs m → AreShort gs n → AreShort (fs ++ gs) (m + n)
AreShort-append fs gs m n h k = record {
  each = All-append IsWritable fs gs h.each k.each;
  short = let both = ap (λ (t : List ℕ). length t) (fields_bytes-append fs gs) in let size = length-append (fields_bytes fs) (fields_bytes gs) in let a = h.short in let b = k.short in omega arith;
}

length-bytes_field : (number : ℕ) (b : List ℕ) → length (fields_bytes ((record { number = number; content = bytes b }) ∷ [])) ≤ 20 + length b
unfolding fields_bytes bytes_field
length-bytes_field number b =
    let tag = length-shortest (number * 8 + 2) in
    let len = length-shortest (length b) in
    let inner = length-append (shortest (number * 8 + 2)) (shortest (length b)) in
    let whole = length-append (shortest (number * 8 + 2) ++ shortest (length b)) b in
    let end = length-append ((shortest (number * 8 + 2) ++ shortest (length b)) ++ b) [] in
    omega arith

length-varint_field : (number n : ℕ) → length (fields_bytes ((record { number = number; content = varint n }) ∷ [])) ≤ 20
unfolding fields_bytes varint_field
length-varint_field number n =
    let tag = length-shortest (number * 8) in
    let value = length-shortest n in
    let whole = length-append (shortest (number * 8)) (shortest n) in
    let end = length-append (shortest (number * 8) ++ shortest n) [] in
    omega arith

short_nothing : (most : ℕ) → AreShort [] most
unfolding fields_bytes
short_nothing most = record { each = tt; short = omega arith }

short_bytes : (number most : ℕ) (b : List ℕ) → 0 < number → number < 2 ^ 29 → length b ≤ most → most < 2 ^ 64 → AreShort (numbered number (bytes b ∷ [])) (20 + most)
short_bytes number most b above below le fits = record {
  each = (record { above = above; below = below; fits = omega arith }, tt);
  short = let len = length-bytes_field number b in omega arith;
}

short_text : (number most : ℕ) (text : List ℕ) → 0 < number → number < 2 ^ 29 → length text ≤ most → most < 2 ^ 64 → AreShort (numbered number (text_put text)) (20 + most)
unfolding text_put
short_text number most text above below le fits =
    elim (length text == 0) as (λ b. AreShort (numbered number (cond b [] (bytes text ∷ []))) (20 + most)) [ true ↦ short_nothing (20 + most) | false ↦ short_bytes number most text above below le fits ]

short_number : (number n : ℕ) → 0 < number → number < 2 ^ 29 → n < 2 ^ 64 → AreShort (numbered number (number_put n)) 20
unfolding number_put
short_number number n above below fits =
    elim (n == 0) as (λ b. AreShort (numbered number (cond b [] (varint n ∷ []))) 20) [
      | true ↦ short_nothing 20
      | false ↦ record { each = (record { above = above; below = below; fits = fits }, tt); short = length-varint_field number n }
    ]

-- a number of any size is written in as many bytes
long_number : (number n : ℕ) → length (fields_bytes (numbered number (number_put n))) ≤ 20
unfolding number_put fields_bytes
long_number number n =
    elim (n == 0) as (λ b. length (fields_bytes (numbered number (cond b [] (varint n ∷ [])))) ≤ 20) [ true ↦ omega arith | false ↦ length-varint_field number n ]

-- ---- digests

hash_in : (digest : Digest) → text_in (contents 1 (digest_fields digest)) ≡ encode_lower digest.hash
unfolding digest_fields
hash_in digest =
    ap text_in (contents-append 1 (numbered 1 (text_put (encode_lower digest.hash))) (numbered 2 (number_put digest.size))
    ∙ rw (contents-numbered 1 1 (text_put (encode_lower digest.hash)), contents-numbered 1 2 (number_put digest.size)) (append-nil (text_put (encode_lower digest.hash))))
    ∙ text_again (encode_lower digest.hash)

size_in : (digest : Digest) → number_in (contents 2 (digest_fields digest)) ≡ digest.size
unfolding digest_fields
size_in digest =
    ap number_in (contents-append 2 (numbered 1 (text_put (encode_lower digest.hash))) (numbered 2 (number_put digest.size))
    ∙ rw (contents-numbered 2 1 (text_put (encode_lower digest.hash)), contents-numbered 2 2 (number_put digest.size)) refl)
    ∙ number_again digest.size

same_hash : (x y : List ℕ) → length x ≡ 32 → IsBytes x → length y ≡ 32 → IsBytes y → encode_lower x ≡ encode_lower y → x ≡ y
same_hash x y xl xb yl yb e =
    let read = sym (decode_sized-encode_lower x 32 xl xb) ∙ ap (λ (t : List ℕ). decode_sized t 32) e ∙ decode_sized-encode_lower y 32 yl yb in
    cc read

digest_same : (d e : Digest) → IsDigest d → IsDigest e → digest_fields d ≡ digest_fields e → d ≡ e
digest_same d e good fine h =
    let text = sym (hash_in d) ∙ ap (λ (fs : List Field). text_in (contents 1 fs)) h ∙ hash_in e in
    let size = sym (size_in d) ∙ ap (λ (fs : List Field). number_in (contents 2 fs)) h ∙ size_in e in
    ap (λ (hash : List ℕ). let x : Digest = record { hash = hash; size = d.size } in x) (same_hash d.hash e.hash good.long good.bytes fine.long fine.bytes text)
    ∙ ap (λ (n : ℕ). let x : Digest = record { hash = e.hash; size = n } in x) size

short_hash : (hash : List ℕ) → length hash ≡ 32 → AreShort (numbered 1 (text_put (encode_lower hash))) 84
short_hash hash len = let size = length-encode_with lower_digits hash in short_text 1 64 (encode_lower hash) (omega arith) (omega arith) (omega arith) (omega arith)

digest_short : (d : Digest) → IsDigest d → AreShort (digest_fields d) 104
unfolding digest_fields
digest_short d good =
    AreShort-append (numbered 1 (text_put (encode_lower d.hash))) (numbered 2 (number_put d.size)) 84 20 (short_hash d.hash good.long) (short_number 2 d.size (omega arith) (omega arith) good.fits)

-- a digest of any size has so few bytes
digest_long : (d : Digest) → length d.hash ≡ 32 → length (fields_bytes (digest_fields d)) ≤ 104
unfolding digest_fields
digest_long d len =
    let front = (short_hash d.hash len).short in
    let back = long_number 2 d.size in
    let both = ap (λ (t : List ℕ). length t) (fields_bytes-append (numbered 1 (text_put (encode_lower d.hash))) (numbered 2 (number_put d.size))) in
    let size = length-append (fields_bytes (numbered 1 (text_put (encode_lower d.hash)))) (fields_bytes (numbered 2 (number_put d.size))) in
    omega arith

-- ---- nodes

pub record IsFileNode (node : FileNode) : Type 0 where
  pub name : List ℕ
  pub content : Content
  pub is : node ≡ file_node name content
  pub short : length name ≤ 4096
  pub good : IsDigest content.digest

pub record IsDirNode (node : DirectoryNode) : Type 0 where
  pub name : List ℕ
  pub digest : Digest
  pub is : node ≡ directory_node name digest
  pub short : length name ≤ 4096
  pub long : length digest.hash ≡ 32

short_one : (d : Digest) → length (fields_bytes (digest_fields d)) ≤ 104 → AreShort (numbered 2 (one_put digest_fields (Some d))) 124
unfolding one_put
short_one d le = short_bytes 2 104 (fields_bytes (digest_fields d)) (omega arith) (omega arith) le (omega arith)

short_truth : (b : Bool) → AreShort (numbered 4 (truth_put b)) 20
unfolding truth_put
short_truth true = short_number 4 1 (omega arith) (omega arith) (omega arith)
short_truth false = short_number 4 0 (omega arith) (omega arith) (omega arith)

file_short : (name : List ℕ) (c : Content) → length name ≤ 4096 → IsDigest c.digest → AreShort (file_node_fields (file_node name c)) 4260
unfolding file_node_fields
file_short name c le good =
    AreShort-append (numbered 1 (text_put name) ++ numbered 2 (one_put digest_fields (Some c.digest))) (numbered 4 (truth_put c.executable)) 4240 20
    (AreShort-append (numbered 1 (text_put name)) (numbered 2 (one_put digest_fields (Some c.digest))) 4116 124 (short_text 1 4096 name (omega arith) (omega arith) le (omega arith)) (short_one c.digest (digest_short c.digest good).short))
    (short_truth c.executable)

dir_short : (name : List ℕ) (d : Digest) → length name ≤ 4096 → length d.hash ≡ 32 → AreShort (directory_node_fields (directory_node name d)) 4240
unfolding directory_node_fields
dir_short name d le len =
    AreShort-append (numbered 1 (text_put name)) (numbered 2 (one_put digest_fields (Some d))) 4116 124 (short_text 1 4096 name (omega arith) (omega arith) le (omega arith)) (short_one d (digest_long d len))

file_name_in : (x : FileNode) → text_in (contents 1 (file_node_fields x)) ≡ x.name
unfolding file_node_fields
file_name_in x = ap text_in (simp (contents-append, contents-numbered, append-nil)) ∙ text_again x.name

file_digest_in : (x : FileNode) → contents 2 (file_node_fields x) ≡ one_put digest_fields x.digest
unfolding file_node_fields
file_digest_in x = simp (contents-append, contents-numbered, append-nil)

file_truth_in : (x : FileNode) → truth_in (contents 4 (file_node_fields x)) ≡ x.is_executable
unfolding file_node_fields
file_truth_in x = ap truth_in (simp (contents-append, contents-numbered)) ∙ truth_again x.is_executable

dir_name_in : (x : DirectoryNode) → text_in (contents 1 (directory_node_fields x)) ≡ x.name
unfolding directory_node_fields
dir_name_in x = ap text_in (simp (contents-append, contents-numbered, append-nil)) ∙ text_again x.name

same_one : (d e : Digest) → IsDigest d → IsDigest e → one_put digest_fields (Some d) ≡ one_put digest_fields (Some e) → d ≡ e
unfolding one_put
same_one d e good fine h =
    let text : fields_bytes (digest_fields d) ≡ fields_bytes (digest_fields e) = cc in
    digest_same d e good fine (same_fields (digest_fields d) (digest_fields e) (digest_short d good).each (digest_short e fine).each text)

content_is : (a b : Content) → a.digest ≡ b.digest → a.executable ≡ b.executable → a ≡ b
content_is a b d e =
    ap (λ (digest : Digest). let c : Content = record { digest = digest; executable = a.executable } in c) d ∙ ap (λ (x : Bool). let c : Content = record { digest = b.digest; executable = x } in c) e

file_same_at : (n m : List ℕ) (a b : Content) → length n ≤ 4096 → length m ≤ 4096 → IsDigest a.digest → IsDigest b.digest
    → fields_bytes (file_node_fields (file_node n a)) ≡ fields_bytes (file_node_fields (file_node m b)) → file_node n a ≡ file_node m b
file_same_at n m a b le lf good fine h =
    let fields = same_fields (file_node_fields (file_node n a)) (file_node_fields (file_node m b)) (file_short n a le good).each (file_short m b lf fine).each h in
    let name : n ≡ m = sym (file_name_in (file_node n a)) ∙ ap (λ (fs : List Field). text_in (contents 1 fs)) fields ∙ file_name_in (file_node m b) in
    let one = sym (file_digest_in (file_node n a)) ∙ ap (λ (fs : List Field). contents 2 fs) fields ∙ file_digest_in (file_node m b) in
    let truth : a.executable ≡ b.executable = sym (file_truth_in (file_node n a)) ∙ ap (λ (fs : List Field). truth_in (contents 4 fs)) fields ∙ file_truth_in (file_node m b) in
    ap (λ (x : List ℕ). file_node x a) name ∙ ap (λ (c : Content). file_node m c) (content_is a b (same_one a.digest b.digest good fine one) truth)

file_same : (x y : FileNode) → IsFileNode x → IsFileNode y → fields_bytes (file_node_fields x) ≡ fields_bytes (file_node_fields y) → x ≡ y
file_same x y g h e =
    g.is ∙ file_same_at g.name h.name g.content h.content g.short h.short g.good h.good (sym (ap (λ (z : FileNode). fields_bytes (file_node_fields z)) g.is) ∙ e ∙ ap (λ (z : FileNode). fields_bytes (file_node_fields z)) h.is) ∙ sym h.is

dir_same_at : (n m : List ℕ) (d e : Digest) → length n ≤ 4096 → length m ≤ 4096 → length d.hash ≡ 32 → length e.hash ≡ 32
    → fields_bytes (directory_node_fields (directory_node n d)) ≡ fields_bytes (directory_node_fields (directory_node m e)) → n ≡ m
dir_same_at n m d e le lf good fine h =
    let fields = same_fields (directory_node_fields (directory_node n d)) (directory_node_fields (directory_node m e)) (dir_short n d le good).each (dir_short m e lf fine).each h in
    sym (dir_name_in (directory_node n d)) ∙ ap (λ (fs : List Field). text_in (contents 1 fs)) fields ∙ dir_name_in (directory_node m e)

dir_same : (x y : DirectoryNode) → IsDirNode x → IsDirNode y → fields_bytes (directory_node_fields x) ≡ fields_bytes (directory_node_fields y) → x.name ≡ y.name
dir_same x y g h e =
    ap (λ (z : DirectoryNode). z.name) g.is
    ∙ dir_same_at g.name h.name g.digest h.digest g.short h.short g.long h.long (sym (ap (λ (z : DirectoryNode). fields_bytes (directory_node_fields z)) g.is) ∙ e ∙ ap (λ (z : DirectoryNode). fields_bytes (directory_node_fields z)) h.is)
    ∙ sym (ap (λ (z : DirectoryNode). z.name) h.is)

-- ---- lists of nodes

each_same : {A B : Type 0} (fields : A → List Field) (view : A → B) (Good : A → Type 0) → ((x y : A) → Good x → Good y → fields_bytes (fields x) ≡ fields_bytes (fields y) → view x ≡ view y)
    → (xs ys : List A) → AllByRecursion Good xs → AllByRecursion Good ys → each_put fields xs ≡ each_put fields ys → map view xs ≡ map view ys
unfolding each_put
each_same fields view Good same [] [] g h e = refl
each_same fields view Good same [] (y ∷ ys) g h e = absurd (cc e)
each_same fields view Good same (x ∷ xs) [] g h e = absurd (cc e)
each_same {A} {B} fields view Good same (x ∷ xs) (y ∷ ys) g h e =
    let first : fields_bytes (fields x) ≡ fields_bytes (fields y) = cc e in
    let rest : map (λ z. bytes (fields_bytes (fields z))) xs ≡ map (λ z. bytes (fields_bytes (fields z))) ys = cc e in
    ap (λ (b : B). b ∷ map view xs) (same x y g.0 h.0 first) ∙ ap (λ (bs : List B). view y ∷ bs) (each_same fields view Good same xs ys g.1 h.1 rest)

each_writable : {A : Type 0} (number : ℕ) (fields : A → List Field) (xs : List A) → 0 < number → number < 2 ^ 29 → AllByRecursion (λ x. length (fields_bytes (fields x)) < 2 ^ 64) xs
    → AllByRecursion IsWritable (numbered number (each_put fields xs))
unfolding each_put
each_writable number fields [] above below h = tt
each_writable number fields (x ∷ xs) above below h = (record { above = above; below = below; fits = h.0 }, each_writable number fields xs above below h.1)

file_fits : (x : FileNode) → IsFileNode x → length (fields_bytes (file_node_fields x)) < 2 ^ 64
file_fits x g =
    let short = (file_short g.name g.content g.short g.good).short in
    let same = ap (λ (z : FileNode). length (fields_bytes (file_node_fields z))) g.is in
    omega arith

dir_fits : (x : DirectoryNode) → IsDirNode x → length (fields_bytes (directory_node_fields x)) < 2 ^ 64
dir_fits x g =
    let short = (dir_short g.name g.digest g.short g.long).short in
    let same = ap (λ (z : DirectoryNode). length (fields_bytes (directory_node_fields z))) g.is in
    omega arith

abbrev directory_with : List FileNode → List DirectoryNode → Directory
directory_with fs ds = record { files = fs; directories = ds; symlinks = [] }

writable : (fs : List FileNode) (ds : List DirectoryNode) → AllByRecursion IsFileNode fs → AllByRecursion IsDirNode ds → AllByRecursion IsWritable (directory_fields (directory_with fs ds))
unfolding directory_fields
writable fs ds g h =
    All-append IsWritable (numbered 1 (each_put file_node_fields fs) ++ numbered 2 (each_put directory_node_fields ds)) (numbered 3 (each_put symlink_node_fields []))
    (All-append IsWritable (numbered 1 (each_put file_node_fields fs)) (numbered 2 (each_put directory_node_fields ds))
    (each_writable 1 file_node_fields fs (omega arith) (omega arith) (All-weaken IsFileNode (λ x. length (fields_bytes (file_node_fields x)) < 2 ^ 64) fs file_fits g))
    (each_writable 2 directory_node_fields ds (omega arith) (omega arith) (All-weaken IsDirNode (λ x. length (fields_bytes (directory_node_fields x)) < 2 ^ 64) ds dir_fits h)))
    (each_writable 3 symlink_node_fields [] (omega arith) (omega arith) tt)

files_in : (fs : List FileNode) (ds : List DirectoryNode) → contents 1 (directory_fields (directory_with fs ds)) ≡ each_put file_node_fields fs
unfolding directory_fields
files_in fs ds = simp (contents-append, contents-numbered, append-nil)

dirs_in : (fs : List FileNode) (ds : List DirectoryNode) → contents 2 (directory_fields (directory_with fs ds)) ≡ each_put directory_node_fields ds
unfolding directory_fields
dirs_in fs ds = simp (contents-append, contents-numbered, append-nil)

abbrev pub names_of_nodes : List DirectoryNode → List (List ℕ)
names_of_nodes ds = map (λ (node : DirectoryNode). node.name) ds

-- the same bytes are of the same files, and of directories with the same names
pub bytes_same : (fs gs : List FileNode) (ds es : List DirectoryNode) → AllByRecursion IsFileNode fs → AllByRecursion IsFileNode gs → AllByRecursion IsDirNode ds → AllByRecursion IsDirNode es
    → bytes_with fs ds ≡ bytes_with gs es → (fs ≡ gs) × (names_of_nodes ds ≡ names_of_nodes es)
bytes_same fs gs ds es f g d e h =
    let fields = same_fields (directory_fields (directory_with fs ds)) (directory_fields (directory_with gs es)) (writable fs ds f d) (writable gs es g e) h in
    let files = sym (files_in fs ds) ∙ ap (λ (x : List Field). contents 1 x) fields ∙ files_in gs es in
    let dirs = sym (dirs_in fs ds) ∙ ap (λ (x : List Field). contents 2 x) fields ∙ dirs_in gs es in (
      sym (map-id fs) ∙ each_same file_node_fields (λ (x : FileNode). x) IsFileNode file_same fs gs f g files ∙ map-id gs,
      each_same directory_node_fields (λ (x : DirectoryNode). x.name) IsDirNode dir_same ds es d e dirs,
    )
